-- However a script is cut, the same is written for it.
use Rattle.std.proofs.Common.{◌≡◌, ◌≤◌, ◌+◌, ℕ, List, [], ◌∷◌, ◌++◌, length, take, drop, refl, sym, subst, ◌∙◌, ap, arith, append_assoc, length-append, length-take}
use Rattle.std.proofs.lemmas.List.{append-nil, take-append-drop, take-take}
use Rattle.std.specs.List.{concat}
use Rattle.std.specs.Str.Lines.{lines}
use Rattle.rsp_script_io.specs.Lines.{ended_after, open_after, kept}
use Rattle.rsp_script_io.specs.Replies.{replies, final, written_of}
use Rattle.rsp_script_io.proofs.Kept.{kept-kept, open-kept}
use Rattle.rsp_script_io.proofs.Pieces.{open-append}
use Rattle.rsp_script_io.proofs.PieceAnswers as pieces
use Rattle.rsp_script_io.proofs.Runs as runs
use Rattle.rsp_bench.specs.Session.{SessionState, line_answer, end_reply, first_session}
use Rattle.rsp_bench.specs.LongLineAnswers.{long_alike}
use Rattle.rsp_bench.specs.Run.{out_of, session_of}
use Rattle.rsp_script_io.specs.Feeds.{script_limit}
use Rattle.rsp_feed.specs.declared.bench.Stage.TheVariants.{Open}
use Rattle.rsp_feed.specs.Bench.{BenchState, first_bench, reply_to, bench_after, last_session, last_reply}
use Rattle.rsp_feed.specs.Laws.{written_to, left_by, AnyCutComesOut}

-- what a bench keeps of the bytes that it took in a session
record Took (taken : List ℕ) (s : SessionState) (b : BenchState) : Type 0 where
  line : kept b.fed.line ≡ kept (open_after [] taken)
  session : b.session ≡ final line_answer (ended_after [] taken) s

took-more : (taken p : List ℕ) (s : SessionState) (b : BenchState) → Took taken s b → Took (taken ++ p) s (bench_after p b)
took-more taken p s b h = record {
  line = kept-kept (open_after b.fed.line p) ∙ open-kept b.fed.line (open_after [] taken) p h.line ∙ ap kept (sym (open-append [] taken p));
  session = pieces.final-pieces line_answer long_alike [] b.fed.line taken p s b.session h.line h.session;
}

-- what was written for the bytes so far, and then for the pieces that come
rest-written : (taken : List ℕ) (ps : List (List ℕ)) (s : SessionState) (b : BenchState) → Took taken s b
    → replies line_answer (ended_after [] taken) s ++ written_to ps b ≡ written_of line_answer end_reply (taken ++ concat ps) s
rest-written taken [] s b h =
    runs.out-pieces line_answer end_reply long_alike taken b.fed.line s b.session h.line h.session
    ∙ ap (λ text. written_of line_answer end_reply text s) (sym (append-nil taken))
rest-written taken (p ∷ ps) s b h =
    sym (append_assoc (replies line_answer (ended_after [] taken) s) (reply_to p b) _)
    ∙ ap (λ r. r ++ written_to ps (bench_after p b)) (pieces.replies-pieces line_answer long_alike [] b.fed.line taken p s b.session h.line h.session)
    ∙ rest-written (taken ++ p) ps s (bench_after p b) (took-more taken p s b h)
    ∙ ap (λ text. written_of line_answer end_reply text s) (append_assoc taken p (concat ps))

rest-left : (taken : List ℕ) (ps : List (List ℕ)) (s : SessionState) (b : BenchState) → Took taken s b
    → (left_by ps b).session ≡ final line_answer (lines (taken ++ concat ps)) s
rest-left taken [] s b h =
    runs.final-pieces line_answer end_reply long_alike taken b.fed.line s b.session h.line h.session
    ∙ ap (λ text. final line_answer (lines text) s) (sym (append-nil taken))
rest-left taken (p ∷ ps) s b h =
    rest-left (taken ++ p) ps s (bench_after p b) (took-more taken p s b h)
    ∙ ap (λ text. final line_answer (lines text) s) (append_assoc taken p (concat ps))

pub any_cut : AnyCutComesOut
any_cut ps image =
    let s : SessionState = first_session image in
    let none : Took [] s (first_bench image) = record { line = refl; session = refl } in
    (rest-written [] ps s (first_bench image) none, rest-left [] ps s (first_bench image) none)

-- the calls so far: the pieces that were taken, what is left of the script, and what comes of any pieces that follow
pub record Fed (first : BenchState) (script replies rest : List ℕ) (b : BenchState) : Type 0 where
  pub pieces : List (List ℕ)
  pub joined : concat pieces ++ rest ≡ script
  pub stage : b.stage ≡ Open
  pub count : b.fed.count ≡ length (concat pieces)
  pub few : b.fed.count ≤ script_limit
  pub written : (more : List (List ℕ)) → replies ++ written_to more b ≡ written_to (pieces ++ more) first
  pub left : (more : List (List ℕ)) → left_by more b ≡ left_by (pieces ++ more) first

pub fed-none : (image script replies : List ℕ) (b : BenchState) → b ≡ first_bench image → replies ≡ [] → Fed b script replies script b
fed-none image script replies b e empty =
    let none : b.fed.count ≡ 0 = ap (λ f. f.fed.count) e in
    record {
      pieces = [];
      joined = refl;
      stage = ap (λ f. f.stage) e;
      count = none;
      few = omega (arith, none);
      written = λ more. ap (λ r. r ++ written_to more b) empty;
      left = λ more. refl;
    }

concat-last : (ps : List (List ℕ)) (p : List ℕ) → concat (ps ++ p ∷ []) ≡ concat ps ++ p
concat-last [] p = append-nil p
concat-last (q ∷ qs) p = ap (λ r. q ++ r) (concat-last qs p) ∙ sym (append_assoc q (concat qs) p)

-- one call more, which took n bytes
took-piece : {first b : BenchState} {script replies rest : List ℕ} (n : ℕ) → n ≤ length rest → b.fed.count + n ≤ script_limit → Fed first script replies rest b
    → Fed first script (replies ++ reply_to (take n rest) b) (drop n rest) (bench_after (take n rest) b)
took-piece {first = first} {b = b} {replies = replies} {rest = rest} n within few h =
    let p : List ℕ = take n rest in
    let len : length p ≡ n = omega (arith, length-take n rest, within) in
    record {
      pieces = h.pieces ++ p ∷ [];
      joined = ap (λ c. c ++ drop n rest) (concat-last h.pieces p) ∙ append_assoc (concat h.pieces) p (drop n rest)
          ∙ ap (λ r. concat h.pieces ++ r) (take-append-drop n rest) ∙ h.joined;
      stage = h.stage;
      count = omega (arith, h.count, ap length (concat-last h.pieces p), length-append (concat h.pieces) p);
      few = omega (arith, few, len);
      written = λ more.
          append_assoc replies (reply_to p b) (written_to more (bench_after p b)) ∙ h.written (p ∷ more)
          ∙ ap (λ ps. written_to ps first) (sym (append_assoc h.pieces (p ∷ []) more));
      left = λ more. h.left (p ∷ more) ∙ ap (λ ps. left_by ps first) (sym (append_assoc h.pieces (p ∷ []) more));
    }

pub fed-more : {first b next : BenchState} {script replies rest longer reply : List ℕ} (n most : ℕ) → n ≤ length (take most rest) → b.fed.count + n ≤ script_limit
    → longer ≡ replies ++ reply → reply ≡ reply_to (take n (take most rest)) b → next ≡ bench_after (take n (take most rest)) b → Fed first script replies rest b
    → Fed first script longer (drop n rest) next
fed-more {first = first} {b = b} {next = next} {script = script} {replies = replies} {rest = rest} n most within few grown said after h =
    let same : take n (take most rest) ≡ take n rest = take-take n most rest (omega (arith, within, length-take most rest)) in
    subst (λ r. Fed first script r (drop n rest) next) (sym (grown ∙ ap (λ r. replies ++ r) (said ∙ ap (λ p. reply_to p b) same)))
    (subst (λ c. Fed first script (replies ++ reply_to (take n rest) b) (drop n rest) c) (sym (after ∙ ap (λ p. bench_after p b) same))
    (took-piece n (omega (arith, within, length-take most rest)) few h))

none-left : (rest : List ℕ) → length rest ≡ 0 → rest ≡ []
none-left [] e = refl
none-left (b ∷ rest) e = absurd (omega (arith, e))

-- all of the script was taken
pub fed-all : {first b : BenchState} {script replies rest : List ℕ} (image : List ℕ) → first ≡ first_bench image → length rest ≡ 0 → Fed first script replies rest b
    → (replies ++ last_reply b ≡ out_of script image) × (last_session b ≡ session_of script image) × (length script ≤ script_limit)
fed-all {first = first} {script = script} {rest = rest} image e none h =
    let all : concat h.pieces ≡ script = sym (append-nil (concat h.pieces)) ∙ ap (λ r. concat h.pieces ++ r) (sym (none-left rest none)) ∙ h.joined in
    let cut = any_cut h.pieces image in (
      h.written [] ∙ ap (λ ps. written_to ps first) (append-nil h.pieces) ∙ ap (written_to h.pieces) e ∙ cut.0 ∙ ap (λ text. out_of text image) all,
      ap (λ s. s.session) (h.left [] ∙ ap (λ ps. left_by ps first) (append-nil h.pieces) ∙ ap (left_by h.pieces) e) ∙ cut.1 ∙ ap (λ text. session_of text image) all,
      omega (arith, h.count, h.few, ap length all),
    )
