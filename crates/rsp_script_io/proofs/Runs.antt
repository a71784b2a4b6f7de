-- How far a run came.
use Rattle.std.proofs.Common.{◌≡◌, ◌≤◌, ◌<◌, ◌+◌, ◌-◌, ℕ, List, [], ◌++◌, min, Option, Some, None, IfSome, Err, length, take, drop, refl, sym, subst, ◌∙◌, ap, inl, inr, arith, append_assoc, length-append, length-take, ◌⊎◌}
use Rattle.std.proofs.Math.Seq.{take-append-add, drop-append_seam}
use Rattle.std.proofs.lemmas.List.{append-nil, take_all, take-append-le, take-append-drop, take-take}
use Rattle.std.proofs.lemmas.Bool.{cases_lt}
use Rattle.std.proofs.lemmas.Option.{none-some}
use Rattle.std.proofs.KnownBytes.{Appends-trans, Consumes-nil, Consumes-trans}
use Rattle.std.specs.Io.KnownBytes.{Appends, Consumes, IsAtEnd}
use Rattle.std.specs.Str.Lines.{lines}
use Rattle.rsp_script_io.specs.Feeds.{script_limit}
use Rattle.rsp_script_io.specs.declared.run.RunFault.{RunFault}
use Rattle.rsp_script_io.specs.declared.run.RunFault.TheVariants.{ReadFault, WriteFault, ScriptTooLong, OutOfMemory}
use Rattle.rsp_script_io.specs.Faults.{IsAnswerFault}
use Rattle.rsp_script_io.specs.Pieces.{PieceAnswered, NoMemoryIn}
use Rattle.rsp_script_io.specs.EarlyEnd.{WritesPrefix, TakesAtMost, Takes, ScriptRun, EndedLinesWritten, PrefixWritten, LeavesWritten, NoMemoryLeft}
use Rattle.rsp_script_io.specs.Lines.{ended_lines, ended_after, open_after, last_line, kept}
use Rattle.rsp_script_io.specs.Replies.{Answer, LongLinesAlike, LongLinesLackAlike, OfFirst, replies, final, written_of}
use Rattle.rsp_script_io.proofs.LongLineReplies.{SameReplies, alike-last, lacks-last}
use Rattle.rsp_script_io.proofs.PieceAnswers.{answers-none, answers-then, answers-front, short-then}
use Rattle.rsp_script_io.proofs.KnownEnds.{consumes-none}
use Rattle.rsp_script_io.proofs.Prefixes.{prefix-along, prefix-then}
use Rattle.rsp_script_io.proofs.Pieces.{ended_lines-after, ended-append, lines-ended}
use Rattle.rsp_script_io.proofs.Replies.{replies-append, final-append}

pub if_some : {A : Type 0} (o : Option A) (P : A → Type 0) → ((x : A) → o ≡ Some x → P x) → IfSome o P
if_some None P f = tt
if_some (Some x) P f = f x refl

-- what answering a line or the end can fail by leaves the same written
pub left_answer : {S : Type 0} (r : ScriptRun S) (fault : RunFault) → IsAnswerFault fault → PrefixWritten r → LeavesWritten {A = Unit {0}} (Err fault) r
left_answer r ReadFault cause prefix = absurd cause
left_answer r WriteFault cause prefix = prefix
left_answer r ScriptTooLong cause prefix = absurd cause
left_answer r OutOfMemory cause prefix = prefix

-- what a source gave that is at its end is all that it had
told_all : (rest after : Option (List ℕ)) (taken script : List ℕ) → Consumes rest after taken → IsAtEnd after → rest ≡ Some script → taken ≡ script
told_all None after taken script e d h = absurd (none-some script h)
told_all (Some xs) None taken script e d h = absurd e
told_all (Some xs) (Some ys) taken script e d h = sym (append-nil taken) ∙ ap (λ l. taken ++ l) (sym d) ∙ (cc)

-- what a source gave is the front of what it had
told_front : (rest after : Option (List ℕ)) (taken script : List ℕ) → Consumes rest after taken → rest ≡ Some script
    → (more : List ℕ) × (taken ++ more ≡ script)
told_front None after taken script e h = absurd (none-some script h)
told_front (Some xs) None taken script e h = absurd e
told_front (Some xs) (Some ys) taken script e h = (ys, cc)

limit_all : (taken : List ℕ) → length taken ≤ script_limit → take script_limit taken ≡ taken
limit_all taken h = take_all script_limit taken h

limit_more : (taken piece within : List ℕ) (total : ℕ) → length taken ≡ total → total ≤ script_limit → within ≡ take (script_limit - total) piece
    → take script_limit taken ++ within ≡ take script_limit (taken ++ piece)
limit_more taken piece within total c h e =
    let whole : length taken + (script_limit - total) ≡ script_limit = omega arith in
    rw (e, limit_all taken (omega arith)) (sym (take-append-add taken piece (script_limit - total)) ∙ ap (λ n. take n (taken ++ piece)) whole)

-- the part of the bytes read that is within the limit
pub read_cut : (read others : List ℕ) (n k within room : ℕ) → n ≤ length read → within ≡ min n room → room ≡ k → take within (read ++ others) ≡ take k (take n read)
read_cut read others n k within room h e r =
    take-append-le within read others (omega arith) ∙ by_order (cases_lt k n)
  where
    by_order : (k < n) ⊎ (n ≤ k) → take within read ≡ take k (take n read)
    by_order (inl l) =
        let same : within ≡ k = omega arith in
        ap (λ i. take i read) same ∙ sym (take-take k n read (omega arith))
    by_order (inr l) =
        let same : within ≡ n = omega arith in
        ap (λ i. take i read) same ∙ sym (take_all k (take n read) (omega (arith, length-take n read)))

-- the line after those that ended in a front: one that ends in what follows
next_ended : {S : Type 0} (p : List ℕ → S → Type 0) (front back : List ℕ) (s t : S) → s ≡ t
    → OfFirst p (ended_after (open_after [] front) back) s → OfFirst p (drop (length (ended_lines front)) (ended_lines (front ++ back))) t
next_ended p front back s t same h =
    let split : ended_lines (front ++ back) ≡ ended_lines front ++ ended_after (open_after [] front) back =
    ended_lines-after (front ++ back) ∙ ended-append [] front back ∙ ap (λ ls. ls ++ ended_after (open_after [] front) back) (sym (ended_lines-after front)) in
    rw (split, drop-append_seam (ended_lines front) (ended_after (open_after [] front) back), ← same) h

-- or the one that no newline ended
next_last : {S : Type 0} (p : List ℕ → S → Type 0) (text : List ℕ) (s t : S) → s ≡ t
    → OfFirst p (last_line (open_after [] text)) s → OfFirst p (drop (length (ended_lines text)) (lines text)) t
next_last p text s t same h =
    let split : lines text ≡ ended_lines text ++ last_line (open_after [] text) =
    lines-ended text ∙ ap (λ ls. ls ++ last_line (open_after [] text)) (sym (ended_lines-after text)) in
    rw (split, drop-append_seam (ended_lines text) (last_line (open_after [] text)), ← same) h

-- the bytes that the reads of a run gave, and what came of them
pub record Progress {S : Type 0} (answer_to : List ℕ → S → Answer S) (rest unread old now : Option (List ℕ)) (line : List ℕ) (s t : S) (total : ℕ) : Type 0 where
  pub taken : List ℕ
  pub told : Consumes rest unread taken
  pub count : length taken ≡ total
  pub answers : PieceAnswered answer_to old now [] line s t (take script_limit taken)

module _ {S : Type 0} (answer_to : List ℕ → S → Answer S) (end_reply : S → List ℕ) (alike : LongLinesAlike answer_to) where
  pub progress-none : (r w : Option (List ℕ)) (s : S) → Progress answer_to r r w w [] s s 0
  progress-none r w s = record { taken = []; told = Consumes-nil r; count = refl; answers = answers-none answer_to alike w [] s }

  pub progress-more : {r u v w x y : Option (List ℕ)} {l m : List ℕ} {s t o : S} {total next : ℕ} (piece within : List ℕ) → Progress answer_to r u w x l s t total
      → Consumes u v piece → next ≡ total + length piece → total ≤ script_limit → within ≡ take (script_limit - total) piece → PieceAnswered answer_to x y l m t o within
      → Progress answer_to r v w y m s o next
  progress-more {r = r} {u = u} {v = v} {w = w} {y = y} {m = m} {s = s} {o = o} {total = total} piece within h e len few cut a = record {
    taken = h.taken ++ piece;
    told = Consumes-trans r u v h.taken piece h.told e;
    count = omega (arith, length-append h.taken piece, h.count, len);
    answers = rw (← limit_more h.taken piece within total h.count few cut)
        (answers-then answer_to alike (take script_limit h.taken) within h.answers a);
  }

  -- all of a piece was within the limit
  pub progress-within : {r u v w x y : Option (List ℕ)} {l m : List ℕ} {s t o : S} {total next : ℕ} (piece within : List ℕ) → Progress answer_to r u w x l s t total
      → Consumes u v piece → length piece ≤ script_limit - total → total ≤ script_limit → within ≡ take (script_limit - total) piece → next ≡ total + length within
      → PieceAnswered answer_to x y l m t o within → Progress answer_to r v w y m s o next
  progress-within {total = total} piece within h e all few cut n a =
      progress-more piece within h e (omega (arith, n, ap length cut, length-take (script_limit - total) piece, all)) few cut a

  -- a read failed
  pub progress-ended : {r u v w x : Option (List ℕ)} {l : List ℕ} {s t : S} {total : ℕ} → Progress answer_to r u w x l s t total
      → Consumes u v [] → total ≤ script_limit → EndedLinesWritten (record { answer_to = answer_to; end_reply = end_reply; session = s; script = r; unread = v; before = w; written = x })
  progress-ended {r = r} {u = u} {v = v} {w = w} {x = x} {s = s} {total = total} h e few = record {
    taken = h.taken;
    told = consumes-none r u v h.taken h.told e;
    few = omega (arith, h.count);
    written = subst (Appends w x)
        (ap (λ text. replies answer_to (ended_after [] text) s) (limit_all h.taken (omega (arith, h.count)))
        ∙ ap (λ ls. replies answer_to ls s) (sym (ended_lines-after h.taken)))
        h.answers.written;
  }

  -- a piece was not answered to its end
  pub progress-front : {r u v w x y : Option (List ℕ)} {l : List ℕ} {s t : S} {total : ℕ} (piece within : List ℕ) → Progress answer_to r u w x l s t total
      → Consumes u v piece → total ≤ script_limit → within ≡ take (script_limit - total) piece
      → WritesPrefix x y (replies answer_to (ended_after l within) t) → PrefixWritten (record { answer_to = answer_to; end_reply = end_reply; session = s; script = r; unread = v; before = w; written = y })
  progress-front {r = r} {u = u} {v = v} {s = s} {total = total} piece within h e few cut f = record {
    taken = h.taken ++ piece;
    told = Consumes-trans r u v h.taken piece h.told e;
    prefix = inl (prefix-along
        (ap (λ text. replies answer_to (ended_after [] text) s) (limit_more h.taken piece within total h.count few cut)
        ∙ ap (λ ls. replies answer_to ls s) (sym (ended_lines-after (take script_limit (h.taken ++ piece)))))
        (answers-front answer_to alike (take script_limit h.taken) within h.answers f));
  }

  -- at most one byte past the limit was taken
  pub progress-few : {r u w x : Option (List ℕ)} {l : List ℕ} {s t : S} {total : ℕ} (v : Option (List ℕ)) (piece : List ℕ) → Progress answer_to r u w x l s t total
      → Consumes u v piece → total + length piece ≤ script_limit + 1 → TakesAtMost (script_limit + 1) r v
  progress-few {r = r} {u = u} v piece h e few = (
    h.taken ++ piece,
    Consumes-trans r u v h.taken piece h.told e,
    omega (arith, h.count, length-append h.taken piece),
  )

  -- the byte past the limit was taken
  pub progress-past : {r u w x : Option (List ℕ)} {l : List ℕ} {s t : S} {total : ℕ} (v : Option (List ℕ)) (piece : List ℕ) → Progress answer_to r u w x l s t total
      → Consumes u v piece → total + length piece ≡ script_limit + 1 → Takes (script_limit + 1) r v
  progress-past {r = r} {u = u} v piece h e all = (
    h.taken ++ piece,
    Consumes-trans r u v h.taken piece h.told e,
    omega (arith, h.count, all, length-append h.taken piece),
  )

  -- the script has all that was taken
  pub progress-over : {r u w x : Option (List ℕ)} {l : List ℕ} {s t : S} {total : ℕ} (v : Option (List ℕ)) (piece : List ℕ) (P : Type 0) → Progress answer_to r u w x l s t total
      → Consumes u v piece → script_limit < total + length piece → IfSome r (λ script. P → script_limit < length script)
  progress-over {r = r} {u = u} v piece P h e long = if_some r _ (λ script d (p : P).
      let there : (more : List ℕ) × ((h.taken ++ piece) ++ more ≡ script) = told_front r v (h.taken ++ piece) script (Consumes-trans r u v h.taken piece h.told e) d in
      omega (arith, h.count, long, length-append h.taken piece, length-append (h.taken ++ piece) there.0, ap length there.1))

  -- a script that goes on past the limit
  pub progress-long : {r u w x : Option (List ℕ)} {l : List ℕ} {s t : S} {total : ℕ} → Progress answer_to r u w x l s t total
      → script_limit < total → IfSome r (λ script. Appends w x (replies answer_to (ended_lines (take script_limit script)) s))
  progress-long {r = r} {u = u} {w = w} {x = x} {s = s} h long = if_some r _ (λ script e.
      let there : (more : List ℕ) × (h.taken ++ more ≡ script) = told_front r u h.taken script h.told e in
      let same : take script_limit h.taken ≡ take script_limit script =
      sym (take-append-le script_limit h.taken there.0 (omega (arith, h.count))) ∙ ap (take script_limit) there.1 in
      subst (Appends w x)
      (ap (λ text. replies answer_to (ended_after [] text) s) same ∙ ap (λ ls. replies answer_to ls s) (sym (ended_lines-after (take script_limit script))))
      h.answers.written)

  -- the replies to the lines that a newline ended, and what is left to answer and to say
  pub out-pieces : (taken line : List ℕ) (s t : S) → kept line ≡ kept (open_after [] taken) → t ≡ final answer_to (ended_after [] taken) s
      → replies answer_to (ended_after [] taken) s ++ (replies answer_to (last_line line) t ++ end_reply (final answer_to (last_line line) t))
      ≡ written_of answer_to end_reply taken s
  out-pieces taken line s t e n =
      let same : SameReplies answer_to (last_line line) (last_line (open_after [] taken)) t = alike-last answer_to alike line (open_after [] taken) t e in
      rw (
        lines-ended taken,
        replies-append answer_to (ended_after [] taken) (last_line (open_after [] taken)) s,
        final-append answer_to (ended_after [] taken) (last_line (open_after [] taken)) s,
        ← n,
        ← same.reply,
        ← same.next,
      )
      (sym (append_assoc (replies answer_to (ended_after [] taken) s) (replies answer_to (last_line line) t) (end_reply (final answer_to (last_line line) t))))

  pub final-pieces : (taken line : List ℕ) (s t : S) → kept line ≡ kept (open_after [] taken) → t ≡ final answer_to (ended_after [] taken) s
      → final answer_to (last_line line) t ≡ final answer_to (lines taken) s
  final-pieces taken line s t e n =
      let same : SameReplies answer_to (last_line line) (last_line (open_after [] taken)) t = alike-last answer_to alike line (open_after [] taken) t e in
      rw (lines-ended taken, final-append answer_to (ended_after [] taken) (last_line (open_after [] taken)) s, ← n) same.next

  -- where the end of input was met and answered
  pub progress-end : {r u w x : Option (List ℕ)} {l : List ℕ} {s t o : S} {total : ℕ} (v y : Option (List ℕ)) (script : List ℕ) → Progress answer_to r u w x l s t total
      → Consumes u v [] → IsAtEnd v → total ≤ script_limit → r ≡ Some script
      → Appends x y (replies answer_to (last_line l) t ++ end_reply (final answer_to (last_line l) t)) → o ≡ final answer_to (last_line l) t
      → (length script ≤ script_limit) × Appends w y (written_of answer_to end_reply script s) × (o ≡ final answer_to (lines script) s)
  progress-end {r = r} {u = u} {w = w} {x = x} {l = l} {s = s} {t = t} v y script h e d few k written next =
      let all : h.taken ≡ script = told_all r v h.taken script (consumes-none r u v h.taken h.told e) d k in
      let part : take script_limit h.taken ≡ script = limit_all h.taken (omega (arith, h.count)) ∙ all in
      let a : PieceAnswered answer_to w x [] l s t script = rw (← part) h.answers in (
        omega (arith, h.count, ap length all),
        subst (Appends w y) (out-pieces script l s t a.last a.session)
            (Appends-trans w x y (replies answer_to (ended_after [] script) s) (replies answer_to (last_line l) t ++ end_reply (final answer_to (last_line l) t)) a.written written),
        next ∙ final-pieces script l s t a.last a.session,
      )

  -- where the end of input was met and not answered
  pub progress-end_front : {r u v w x y : Option (List ℕ)} {l : List ℕ} {s t : S} {total : ℕ} → Progress answer_to r u w x l s t total
      → Consumes u v [] → IsAtEnd v → total ≤ script_limit
      → WritesPrefix x y (replies answer_to (last_line l) t ++ end_reply (final answer_to (last_line l) t)) → PrefixWritten (record { answer_to = answer_to; end_reply = end_reply; session = s; script = r; unread = v; before = w; written = y })
  progress-end_front {r = r} {u = u} {v = v} {w = w} {x = x} {l = l} {s = s} {t = t} h e d few f =
      let a : PieceAnswered answer_to w x [] l s t h.taken = rw (← limit_all h.taken (omega (arith, h.count))) h.answers in
      record {
        taken = h.taken;
        told = consumes-none r u v h.taken h.told e;
        prefix = inr (d, prefix-along (out-pieces h.taken l s t a.last a.session) (prefix-then (replies answer_to (ended_after [] h.taken) s) a.written f));
      }

  -- there was no memory for a line that ended in a piece
  pub progress-short : {r u v w x y : Option (List ℕ)} {l : List ℕ} {s t : S} {total : ℕ} (p : List ℕ → S → Type 0) (piece within : List ℕ) → LongLinesLackAlike p → Progress answer_to r u w x l s t total
      → Consumes u v piece → total ≤ script_limit → within ≡ take (script_limit - total) piece
      → NoMemoryIn answer_to p x y l t within
      → NoMemoryLeft p (record { answer_to = answer_to; end_reply = end_reply; session = s; script = r; unread = v; before = w; written = y })
  progress-short {r = r} {u = u} {v = v} {w = w} {y = y} {s = s} {total = total} p piece within also h e few cut f =
      let first : List ℕ = take script_limit h.taken in
      let same : first ≡ h.taken = limit_all h.taken (omega (arith, h.count)) in
      let k : NoMemoryIn answer_to p w y [] s (first ++ within) = short-then answer_to alike first within p also h.answers f in
      let rest : List ℕ = drop (script_limit - total) piece in
      let whole : k.front ++ (k.back ++ rest) ≡ h.taken ++ piece =
      sym (append_assoc k.front k.back rest) ∙ ap (λ b. b ++ rest) k.whole ∙ append_assoc first within rest ∙ ap (λ b. b ++ (within ++ rest)) same
      ∙ ap (λ b. h.taken ++ b) (ap (λ b. b ++ rest) cut ∙ take-append-drop (script_limit - total) piece) in
      let limited : take script_limit (k.front ++ (k.back ++ rest)) ≡ k.front ++ k.back =
      ap (take script_limit) whole ∙ sym (limit_more h.taken piece within total h.count few cut) ∙ sym k.whole in
      record {
        front = k.front;
        back = k.back ++ rest;
        told = subst (Consumes r v) (sym whole) (Consumes-trans r u v h.taken piece h.told e);
        few = omega (arith, h.count, ap length k.whole, length-append k.front k.back, length-append first within, ap length cut, length-take (script_limit - total) piece, ap length same);
        written = subst (Appends w y) (ap (λ ls. replies answer_to ls s) (sym (ended_lines-after k.front))) k.written;
        lacks = inl (subst (λ text. OfFirst p (drop (length (ended_lines k.front)) (ended_lines text)) (final answer_to (ended_lines k.front) s)) (sym limited)
            (next_ended p k.front k.back (final answer_to (ended_after [] k.front) s) (final answer_to (ended_lines k.front) s)
            (ap (λ ls. final answer_to ls s) (sym (ended_lines-after k.front))) k.lacks));
      }

  -- or for the last line, which no newline ended
  pub progress-end_short : {r u v w x y : Option (List ℕ)} {l : List ℕ} {s t : S} {total : ℕ} (p : List ℕ → S → Type 0) → LongLinesLackAlike p → Progress answer_to r u w x l s t total
      → Consumes u v [] → IsAtEnd v → total ≤ script_limit → (y ≡ x) × OfFirst p (last_line l) t
      → NoMemoryLeft p (record { answer_to = answer_to; end_reply = end_reply; session = s; script = r; unread = v; before = w; written = y })
  progress-end_short {r = r} {u = u} {v = v} {w = w} {x = x} {l = l} {s = s} {t = t} p also h e d few f =
      let a : PieceAnswered answer_to w x [] l s t h.taken = rw (← limit_all h.taken (omega (arith, h.count))) h.answers in
      record {
        front = h.taken;
        back = [];
        told = rw (append-nil h.taken) (consumes-none r u v h.taken h.told e);
        few = omega (arith, h.count);
        written = rw f.0 (subst (Appends w x) (ap (λ ls. replies answer_to ls s) (sym (ended_lines-after h.taken))) a.written);
        lacks = inr (
          d,
          rw (append-nil h.taken) (next_last p h.taken t (final answer_to (ended_lines h.taken) s) (a.session ∙ ap (λ ls. final answer_to ls s) (sym (ended_lines-after h.taken)))
              (lacks-last p also l (open_after [] h.taken) t a.last f.1)),
        );
      }
