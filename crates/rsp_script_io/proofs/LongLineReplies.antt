-- Lines that are answered alike.
use Rattle.std.proofs.Common.{◌≡◌, ◌≤◌, ◌<◌, ◌⊎◌, ℕ, Bool, true, false, List, [], ◌∷◌, ◌++◌, length, refl, sym, subst, ◌∙◌, ap, inl, inr, arith}
use Rattle.std.proofs.lemmas.Grind.{common_steps}
use Rattle.std.proofs.lemmas.Bool.Decides.{nat_tests}
use Rattle.std.proofs.lemmas.List.{append-nil}
use Rattle.std.specs.Prelude.{cond}
use Rattle.std.specs.Str.Lines.{strip_carriage_return}
use Rattle.rsp_script_io.specs.Lines.{is_newline, ended_after, last_line, kept, IsSameOrLong}
use Rattle.rsp_script_io.specs.Replies.{Answer, LongLinesAlike, LongLinesLackAlike, OfFirst, replies, final}
use Rattle.rsp_script_io.proofs.Kept.{kept-more, like-strips, same_or_full}

pub answered-like : {S : Type 0} (answer_to : List ℕ → S → Answer S) (line other : List ℕ) (s : S) → LongLinesAlike answer_to → IsSameOrLong line other
    → answer_to line s ≡ answer_to other s
answered-like answer_to line other s alike (inl e) = ap (λ l. answer_to l s) e
answered-like answer_to line other s alike (inr h) = alike line other s h.0 h.1

pub replies-kept : {S : Type 0} (answer_to : List ℕ → S → Answer S) → LongLinesAlike answer_to → (line other text : List ℕ) (s : S) → kept line ≡ kept other
    → replies answer_to (ended_after line text) s ≡ replies answer_to (ended_after other text) s
replies-kept answer_to alike line other [] s e = refl
replies-kept answer_to alike line other (b ∷ text) s e =
    elim (is_newline b) as (λ t. replies answer_to (cond t (strip_carriage_return line ∷ ended_after [] text) (ended_after (line ++ b ∷ []) text)) s
    ≡ replies answer_to (cond t (strip_carriage_return other ∷ ended_after [] text) (ended_after (other ++ b ∷ []) text)) s) [
      | true ↦ ap (λ o. o.reply ++ replies answer_to (ended_after [] text) o.next)
          (answered-like answer_to (strip_carriage_return line) (strip_carriage_return other) s alike (like-strips line other e))
      | false ↦ replies-kept answer_to alike (line ++ b ∷ []) (other ++ b ∷ []) text s (kept-more line other (b ∷ []) e)
    ]

pub final-kept : {S : Type 0} (answer_to : List ℕ → S → Answer S) → LongLinesAlike answer_to → (line other text : List ℕ) (s : S) → kept line ≡ kept other
    → final answer_to (ended_after line text) s ≡ final answer_to (ended_after other text) s
final-kept answer_to alike line other [] s e = refl
final-kept answer_to alike line other (b ∷ text) s e =
    elim (is_newline b) as (λ t. final answer_to (cond t (strip_carriage_return line ∷ ended_after [] text) (ended_after (line ++ b ∷ []) text)) s
    ≡ final answer_to (cond t (strip_carriage_return other ∷ ended_after [] text) (ended_after (other ++ b ∷ []) text)) s) [
      | true ↦ ap (λ o. final answer_to (ended_after [] text) o.next)
          (answered-like answer_to (strip_carriage_return line) (strip_carriage_return other) s alike (like-strips line other e))
      | false ↦ final-kept answer_to alike (line ++ b ∷ []) (other ++ b ∷ []) text s (kept-more line other (b ∷ []) e)
    ]

pub last_line-some : (line : List ℕ) → 0 < length line → last_line line ≡ line ∷ []
last_line-some line h = grind (arith, nat_tests, common_steps)

pub last_line-none : (line : List ℕ) → length line ≡ 0 → last_line line ≡ []
last_line-none line h = grind (arith, nat_tests, common_steps)

pub replies-last : {S : Type 0} (answer_to : List ℕ → S → Answer S) (line : List ℕ) (s : S) → 0 < length line
    → (answer_to line s).reply ≡ replies answer_to (last_line line) s
replies-last answer_to line s h = rw (last_line-some line h) (sym (append-nil (answer_to line s).reply))

pub ruleset last_lines = (last_line-some, last_line-none, append-nil)

-- two lists of lines that are answered alike
pub record SameReplies {S : Type 0} (answer_to : List ℕ → S → Answer S) (ls ms : List (List ℕ)) (s : S) : Type 0 where
  pub reply : replies answer_to ls s ≡ replies answer_to ms s
  pub next : final answer_to ls s ≡ final answer_to ms s

pub alike-last : {S : Type 0} (answer_to : List ℕ → S → Answer S) → LongLinesAlike answer_to → (line other : List ℕ) (s : S) → kept line ≡ kept other
    → SameReplies answer_to (last_line line) (last_line other) s
alike-last {S} answer_to alike line other s e = by_case (same_or_full line other e)
  where
    by_case : (line ≡ other) ⊎ ((258 ≤ length line) × (258 ≤ length other)) → SameReplies answer_to (last_line line) (last_line other) s
    by_case (inl h) = record {
      reply = ap (λ l. replies answer_to (last_line l) s) h;
      next = ap (λ l. final answer_to (last_line l) s) h;
    }
    by_case (inr h) =
        let same : answer_to line s ≡ answer_to other s = alike line other s (omega arith) (omega arith) in
        rw (last_line-some line (omega arith), last_line-some other (omega arith)) (record {
          reply = ap (λ o. o.reply ++ []) same;
          next = ap (λ o. o.next) same;
        })

-- ---- lines for which there is no memory

pub lacks-like : {S : Type 0} (p : List ℕ → S → Type 0) (line other : List ℕ) (s : S) → LongLinesLackAlike p → IsSameOrLong line other → p line s → p other s
lacks-like p line other s alike (inl e) h = subst (λ l. p l s) e h
lacks-like p line other s alike (inr g) h = alike line other s g.0 g.1 h

pub lacks-append : {S : Type 0} (p : List ℕ → S → Type 0) (ls ms : List (List ℕ)) (s : S) → OfFirst p ls s → OfFirst p (ls ++ ms) s
lacks-append p [] ms s h = absurd h
lacks-append p (l ∷ ls) ms s h = h

pub lacks-kept : {S : Type 0} (p : List ℕ → S → Type 0) → LongLinesLackAlike p → (line other text : List ℕ) (s : S) → kept line ≡ kept other
    → OfFirst p (ended_after line text) s → OfFirst p (ended_after other text) s
lacks-kept p alike line other [] s e = λ h. h
lacks-kept p alike line other (b ∷ text) s e =
    elim (is_newline b) as (λ t. OfFirst p (cond t (strip_carriage_return line ∷ ended_after [] text) (ended_after (line ++ b ∷ []) text)) s
    → OfFirst p (cond t (strip_carriage_return other ∷ ended_after [] text) (ended_after (other ++ b ∷ []) text)) s) [
      | true ↦ lacks-like p (strip_carriage_return line) (strip_carriage_return other) s alike (like-strips line other e)
      | false ↦ lacks-kept p alike (line ++ b ∷ []) (other ++ b ∷ []) text s (kept-more line other (b ∷ []) e)
    ]

pub lacks-last : {S : Type 0} (p : List ℕ → S → Type 0) → LongLinesLackAlike p → (line other : List ℕ) (s : S) → kept line ≡ kept other
    → OfFirst p (last_line line) s → OfFirst p (last_line other) s
lacks-last {S} p alike line other s e h = by_case (same_or_full line other e)
  where
    by_case : (line ≡ other) ⊎ ((258 ≤ length line) × (258 ≤ length other)) → OfFirst p (last_line other) s
    by_case (inl same) = subst (λ l. OfFirst p (last_line l) s) same h
    by_case (inr long) =
        let known : p line s = rw (last_line-some line (omega arith)) at h in
        rw (last_line-some other (omega arith)) (alike line other s (omega arith) (omega arith) known)
