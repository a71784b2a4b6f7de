-- Pieces that are answered one after another.
use Rattle.std.proofs.Common.{◌≡◌, ℕ, ◌+◌, List, [], ◌∷◌, ◌++◌, Option, ◌<◌, length, take, drop, refl, sym, ◌∙◌, ap, arith, append_assoc, subst, length-append, length-take}
use Rattle.std.proofs.lemmas.List.{append-nil, take_all, take_at, take-append-drop}
use Rattle.std.specs.List.{position_or_len, before_first, after_first}
use Rattle.std.proofs.KnownBytes.{Appends-nil, Appends-trans}
use Rattle.std.specs.Io.KnownBytes.{Appends}
use Rattle.std.specs.Str.Lines.{strip_carriage_return}
use Rattle.rsp_script_io.specs.Pieces.{PieceAnswered, NoMemoryIn}
use Rattle.rsp_script_io.specs.EarlyEnd.{WritesPrefix}
use Rattle.rsp_script_io.specs.Lines.{is_newline, ended_after, open_after, kept, through_newline, IsSameOrLong}
use Rattle.rsp_script_io.specs.Replies.{Answer, LongLinesAlike, LongLinesLackAlike, OfFirst, replies, final}
use Rattle.rsp_script_io.proofs.LongLineReplies.{answered-like, replies-kept, final-kept, lacks-like, lacks-append, lacks-kept}
use Rattle.rsp_script_io.proofs.Kept.{kept-kept, open-kept, like-strips}
use Rattle.rsp_script_io.proofs.Prefixes.{Leaves, leaves-less, prefix-along, prefix-first, prefix-then}
use Rattle.rsp_script_io.proofs.Pieces.{ended-append, open-append, ended-line, open-line, cut_at_newline}
use Rattle.rsp_script_io.proofs.Replies.{replies-append, final-append}

-- bytes with no newline are all of the line
all-before : (bytes : List ℕ) → position_or_len is_newline bytes ≡ length bytes → before_first is_newline bytes ++ [] ≡ bytes
all-before bytes e = append-nil _ ∙ take_all (position_or_len is_newline bytes) bytes (omega (arith, e))

none-ended : (line bytes : List ℕ) → position_or_len is_newline bytes ≡ length bytes → ended_after line bytes ≡ []
none-ended line bytes e = ap (ended_after line) (sym (all-before bytes e)) ∙ ended-line line bytes []

pub open-all : (line bytes : List ℕ) → position_or_len is_newline bytes ≡ length bytes → line ++ before_first is_newline bytes ≡ open_after line bytes
open-all line bytes e = sym (open-line line bytes []) ∙ ap (open_after line) (all-before bytes e)

-- bytes up to the first newline and with it
to-newline : (bytes : List ℕ) → position_or_len is_newline bytes < length bytes
    → before_first is_newline bytes ++ 10 ∷ [] ≡ take (position_or_len is_newline bytes + 1) bytes
to-newline bytes lt =
    let front : List ℕ = before_first is_newline bytes ++ 10 ∷ [] in
    let long : length front ≡ position_or_len is_newline bytes + 1 =
    omega (arith, lt, length-append (before_first is_newline bytes) (10 ∷ []), length-take (position_or_len is_newline bytes) bytes) in
    sym (take_at front (after_first is_newline bytes) (position_or_len is_newline bytes + 1) long)
    ∙ ap (take (position_or_len is_newline bytes + 1)) (append_assoc (before_first is_newline bytes) (10 ∷ []) (after_first is_newline bytes) ∙ sym (cut_at_newline bytes lt))

one-ended : (line bytes : List ℕ) → position_or_len is_newline bytes < length bytes
    → ended_after (line ++ before_first is_newline bytes) (10 ∷ []) ≡ ended_after line (take (position_or_len is_newline bytes + 1) bytes)
one-ended line bytes lt = sym (ended-line line bytes (10 ∷ [])) ∙ ap (ended_after line) (to-newline bytes lt)

pub open-none : (line bytes : List ℕ) → position_or_len is_newline bytes < length bytes
    → [] ≡ kept (open_after line (take (position_or_len is_newline bytes + 1) bytes))
unfolding kept
open-none line bytes lt = ap (take 258) (sym (open-line line bytes (10 ∷ [])) ∙ ap (open_after line) (to-newline bytes lt))

module _ {S : Type 0} (answer_to : List ℕ → S → Answer S) (alike : LongLinesAlike answer_to) where
  pub answers-none : (w : Option (List ℕ)) (line : List ℕ) (s : S) → PieceAnswered answer_to w w line line s s []
  answers-none w line s = record { written = Appends-nil w; session = refl; last = refl }

  -- the replies to the lines of two pieces
  pub replies-pieces : (line mid a b : List ℕ) (s t : S) → kept mid ≡ kept (open_after line a) → t ≡ final answer_to (ended_after line a) s
      → replies answer_to (ended_after line a) s ++ replies answer_to (ended_after mid b) t ≡ replies answer_to (ended_after line (a ++ b)) s
  replies-pieces line mid a b s t e n =
      ap (λ r. replies answer_to (ended_after line a) s ++ r)
      (ap (replies answer_to (ended_after mid b)) n
      ∙ replies-kept answer_to alike mid (open_after line a) b (final answer_to (ended_after line a) s) e)
      ∙ sym (replies-append answer_to (ended_after line a) (ended_after (open_after line a) b) s)
      ∙ ap (λ ls. replies answer_to ls s) (sym (ended-append line a b))

  pub final-pieces : (line mid a b : List ℕ) (s t : S) → kept mid ≡ kept (open_after line a) → t ≡ final answer_to (ended_after line a) s
      → final answer_to (ended_after mid b) t ≡ final answer_to (ended_after line (a ++ b)) s
  final-pieces line mid a b s t e n =
      ap (final answer_to (ended_after mid b)) n
      ∙ final-kept answer_to alike mid (open_after line a) b (final answer_to (ended_after line a) s) e
      ∙ sym (final-append answer_to (ended_after line a) (ended_after (open_after line a) b) s)
      ∙ ap (λ ls. final answer_to ls s) (sym (ended-append line a b))

  pub answers-then : {old now new : Option (List ℕ)} {line mid after : List ℕ} {s t u : S} (a b : List ℕ)
      → PieceAnswered answer_to old now line mid s t a → PieceAnswered answer_to now new mid after t u b → PieceAnswered answer_to old new line after s u (a ++ b)
  answers-then {old = old} {now = now} {new = new} {line = line} {mid = mid} {s = s} {t = t} a b h g = record {
    written = subst (Appends old new) (replies-pieces line mid a b s t h.last h.session)
        (Appends-trans old now new (replies answer_to (ended_after line a) s) (replies answer_to (ended_after mid b) t) h.written g.written);
    session = g.session ∙ final-pieces line mid a b s t h.last h.session;
    last =
        g.last ∙ open-kept mid (open_after line a) b h.last
        ∙ ap kept (sym (open-append line a b));
  }

  -- a front of the replies to the lines of the second piece
  pub answers-front : {old now new : Option (List ℕ)} {line mid : List ℕ} {s t : S} (a b : List ℕ)
      → PieceAnswered answer_to old now line mid s t a → WritesPrefix now new (replies answer_to (ended_after mid b) t)
      → WritesPrefix old new (replies answer_to (ended_after line (a ++ b)) s)
  answers-front {line = line} {mid = mid} {s = s} {t = t} a b h f =
      prefix-along (replies-pieces line mid a b s t h.last h.session) (prefix-then (replies answer_to (ended_after line a) s) h.written f)

  -- a piece of which a rest is still to be answered
  pub record Leads (old new : Option (List ℕ)) (line mid : List ℕ) (s t : S) (piece rest : List ℕ) : Type 0 where
    pub written : Leaves old new (replies answer_to (ended_after line piece) s) (replies answer_to (ended_after mid rest) t)
    pub session : final answer_to (ended_after mid rest) t ≡ final answer_to (ended_after line piece) s
    pub last : kept (open_after mid rest) ≡ kept (open_after line piece)

  pub leads-none : (w : Option (List ℕ)) (line piece : List ℕ) (s : S) → Leads w w line line s s piece piece
  leads-none w line piece s = record {
    written = record { prefix = []; grows = Appends-nil w; whole = refl };
    session = refl;
    last = refl;
  }

  -- bytes with no newline
  pub replies-open : (line bytes : List ℕ) (s : S) → position_or_len is_newline bytes ≡ length bytes → [] ≡ replies answer_to (ended_after line bytes) s
  replies-open line bytes s e = ap (λ ls. replies answer_to ls s) (sym (none-ended line bytes e))

  pub final-open : (line bytes : List ℕ) (s : S) → position_or_len is_newline bytes ≡ length bytes → s ≡ final answer_to (ended_after line bytes) s
  final-open line bytes s e = ap (λ ls. final answer_to ls s) (sym (none-ended line bytes e))

  -- bytes up to the first newline and with it, of which `ended` stands for the line
  pub reply-ended : (line bytes ended : List ℕ) (s : S) → position_or_len is_newline bytes < length bytes
      → IsSameOrLong ended (strip_carriage_return (kept (line ++ before_first is_newline bytes)))
      → (answer_to ended s).reply ≡ replies answer_to (ended_after line (take (position_or_len is_newline bytes + 1) bytes)) s
  reply-ended line bytes ended s lt like =
      sym (append-nil _) ∙ ap (λ o. o.reply ++ []) (answered-like answer_to ended _ s alike like)
      ∙ replies-kept answer_to alike _ (line ++ before_first is_newline bytes) (10 ∷ []) s (kept-kept (line ++ before_first is_newline bytes))
      ∙ ap (λ ls. replies answer_to ls s) (one-ended line bytes lt)

  pub next-ended : (line bytes ended : List ℕ) (s : S) → position_or_len is_newline bytes < length bytes
      → IsSameOrLong ended (strip_carriage_return (kept (line ++ before_first is_newline bytes)))
      → (answer_to ended s).next ≡ final answer_to (ended_after line (take (position_or_len is_newline bytes + 1) bytes)) s
  next-ended line bytes ended s lt like =
      ap (λ o. o.next) (answered-like answer_to ended _ s alike like)
      ∙ final-kept answer_to alike _ (line ++ before_first is_newline bytes) (10 ∷ []) s (kept-kept (line ++ before_first is_newline bytes))
      ∙ ap (λ ls. final answer_to ls s) (one-ended line bytes lt)

  -- the replies to a rest are those to its front and to what follows
  front-replies : (n : ℕ) (mid after rest : List ℕ) (t u : S) → u ≡ final answer_to (ended_after mid (take n rest)) t → after ≡ kept (open_after mid (take n rest))
      → replies answer_to (ended_after mid (take n rest)) t ++ replies answer_to (ended_after after (drop n rest)) u ≡ replies answer_to (ended_after mid rest) t
  front-replies n mid after rest t u next e =
      replies-pieces mid after (take n rest) (drop n rest) t u (ap kept e ∙ kept-kept (open_after mid (take n rest))) next
      ∙ ap (λ text. replies answer_to (ended_after mid text) t) (take-append-drop n rest)

  -- the front of the rest was answered
  pub leads-more : {old now new : Option (List ℕ)} {line mid after : List ℕ} {s t u : S} (n : ℕ) (piece rest : List ℕ) → Leads old now line mid s t piece rest
      → Appends now new (replies answer_to (ended_after mid (take n rest)) t) → u ≡ final answer_to (ended_after mid (take n rest)) t
      → after ≡ kept (open_after mid (take n rest)) → Leads old new line after s u piece (drop n rest)
  leads-more {mid = mid} {after = after} {t = t} {u = u} n piece rest h w next e =
      let same : kept after ≡ kept (open_after mid (take n rest)) = ap kept e ∙ kept-kept (open_after mid (take n rest)) in
      record {
        written = leaves-less (replies answer_to (ended_after mid (take n rest)) t) _ h.written w (front-replies n mid after rest t u next e);
        session =
            final-pieces mid after (take n rest) (drop n rest) t u same next
            ∙ ap (λ text. final answer_to (ended_after mid text) t) (take-append-drop n rest) ∙ h.session;
        last =
            open-kept after (open_after mid (take n rest)) (drop n rest) same
            ∙ ap kept (sym (open-append mid (take n rest) (drop n rest)) ∙ ap (open_after mid) (take-append-drop n rest)) ∙ h.last;
      }

  -- or a front of the replies to it was written
  pub leads-front : {old now new : Option (List ℕ)} {line mid after : List ℕ} {s t u : S} (n : ℕ) (piece rest : List ℕ) → Leads old now line mid s t piece rest
      → u ≡ final answer_to (ended_after mid (take n rest)) t → after ≡ kept (open_after mid (take n rest))
      → WritesPrefix now new (replies answer_to (ended_after mid (take n rest)) t) → WritesPrefix old new (replies answer_to (ended_after line piece) s)
  leads-front {mid = mid} {after = after} {t = t} {u = u} n piece rest h next e f =
      prefix-along h.written.whole (prefix-then h.written.prefix h.written.grows (prefix-along (front-replies n mid after rest t u next e) (prefix-first _ f)))

  -- a piece of which a front was answered
  pub record Done (old new : Option (List ℕ)) (line mid : List ℕ) (s t : S) (piece rest : List ℕ) : Type 0 where
    pub front : List ℕ
    pub whole : front ++ rest ≡ piece
    pub answers : PieceAnswered answer_to old new line mid s t front

  pub done-none : (w : Option (List ℕ)) (line piece : List ℕ) (s : S) → Done w w line line s s piece piece
  done-none w line piece s = record { front = []; whole = refl; answers = answers-none w line s }

  pub done-more : {old now new : Option (List ℕ)} {line mid after : List ℕ} {s t u : S} (n : ℕ) (piece rest : List ℕ) → Done old now line mid s t piece rest
      → Appends now new (replies answer_to (ended_after mid (take n rest)) t) → u ≡ final answer_to (ended_after mid (take n rest)) t
      → after ≡ kept (open_after mid (take n rest)) → Done old new line after s u piece (drop n rest)
  done-more {mid = mid} {after = after} n piece rest h w next e = record {
    front = h.front ++ take n rest;
    whole = append_assoc h.front (take n rest) (drop n rest) ∙ ap (λ r. h.front ++ r) (take-append-drop n rest) ∙ h.whole;
    answers = answers-then h.front (take n rest) h.answers (record { written = w; session = next; last = ap kept e ∙ kept-kept (open_after mid (take n rest)) });
  }

  -- there was no memory for the line that the first newline ended, of which `ended` stands for the line
  pub lacks-ended : (p : List ℕ → S → Type 0) → LongLinesLackAlike p → (line bytes ended : List ℕ) (s : S) → position_or_len is_newline bytes < length bytes
      → IsSameOrLong ended (strip_carriage_return (kept (line ++ before_first is_newline bytes))) → p ended s
      → OfFirst p (ended_after line (take (through_newline bytes) bytes)) s
  lacks-ended p same line bytes ended s lt like h =
      let all : List ℕ = line ++ before_first is_newline bytes in
      let through : through_newline bytes ≡ position_or_len is_newline bytes + 1 = omega arith in
      rw (through, ← one-ended line bytes lt)
      (lacks-like p (strip_carriage_return (kept all)) (strip_carriage_return all) s same (like-strips (kept all) all (kept-kept all))
      (lacks-like p ended (strip_carriage_return (kept all)) s same like h))

  -- and there was no memory for what follows
  pub done-short : {old now new : Option (List ℕ)} {line mid : List ℕ} {s t : S} {piece rest : List ℕ} (p : List ℕ → S → Type 0) (n : ℕ)
      → LongLinesLackAlike p → Done old now line mid s t piece rest
      → new ≡ now → OfFirst p (ended_after mid (take n rest)) t → NoMemoryIn answer_to p old new line s piece
  done-short {old = old} {line = line} {mid = mid} {s = s} {t = t} {rest = rest} p n same h w lacks =
      let all : OfFirst p (ended_after mid rest) t =
      subst (λ text. OfFirst p (ended_after mid text) t) (take-append-drop n rest)
      (rw (ended-append mid (take n rest) (drop n rest)) (lacks-append p (ended_after mid (take n rest)) _ t lacks)) in
      record {
        front = h.front;
        back = rest;
        whole = h.whole;
        written = subst (λ now. Appends old now (replies answer_to (ended_after line h.front) s)) (sym w) h.answers.written;
        lacks = rw (← h.answers.session) (lacks-kept p same mid (open_after line h.front) rest t h.answers.last all);
      }

  -- of two pieces, the first of which was answered
  pub short-then : {old now new : Option (List ℕ)} {line mid : List ℕ} {s t : S} (a b : List ℕ) (p : List ℕ → S → Type 0)
      → LongLinesLackAlike p → PieceAnswered answer_to old now line mid s t a
      → NoMemoryIn answer_to p now new mid t b → NoMemoryIn answer_to p old new line s (a ++ b)
  short-then {old = old} {now = now} {new = new} {line = line} {mid = mid} {s = s} {t = t} a b p same h f =
      let ends : final answer_to (ended_after mid f.front) t ≡ final answer_to (ended_after line (a ++ f.front)) s = final-pieces line mid a f.front s t h.last h.session in
      record {
        front = a ++ f.front;
        back = f.back;
        whole = append_assoc a f.front f.back ∙ ap (λ r. a ++ r) f.whole;
        written = subst (Appends old new) (replies-pieces line mid a f.front s t h.last h.session)
            (Appends-trans old now new (replies answer_to (ended_after line a) s) (replies answer_to (ended_after mid f.front) t) h.written f.written);
        lacks = rw (← ends)
            (lacks-kept p same (open_after mid f.front) (open_after line (a ++ f.front)) f.back _
            (open-kept mid (open_after line a) f.front h.last ∙ ap kept (sym (open-append line a f.front))) f.lacks);
      }
