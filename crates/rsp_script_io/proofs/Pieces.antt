-- The lines of a text that comes in pieces.
use Rattle.std.proofs.Common.{◌≡◌, ◌<◌, ℕ, Bool, true, false, List, [], ◌∷◌, ◌++◌, length, refl, sym, ◌∙◌, ap, arith, append_assoc}
use Rattle.std.proofs.lemmas.List.{append-nil}
use Rattle.std.proofs.lemmas.List.Splits.{length-slice_split}
use Rattle.std.proofs.lemmas.List.Sums.{take_while-cons, passes_at_first, split_at_first}
use Rattle.std.proofs.lemmas.Bool.Decides.{nat_tests}
use Rattle.std.specs.List.{slice_split, onto_first, position_or_len, before_first, after_first}
use Rattle.std.specs.Prelude.{cond, not, get_or}
use Rattle.std.specs.Str.Lines.{lines, lines_of_parts, strip_carriage_return}
use Rattle.rsp_script_io.specs.Lines.{is_newline, ended_of_parts, ended_lines, ended_after, open_after, last_line}

-- a text in two pieces
pub ended-append : (line text more : List ℕ) → ended_after line (text ++ more) ≡ ended_after line text ++ ended_after (open_after line text) more
ended-append line [] more = refl
ended-append line (b ∷ text) more =
    elim (is_newline b) as (λ t. cond t (strip_carriage_return line ∷ ended_after [] (text ++ more)) (ended_after (line ++ b ∷ []) (text ++ more))
    ≡ cond t (strip_carriage_return line ∷ ended_after [] text) (ended_after (line ++ b ∷ []) text)
    ++ ended_after (cond t (open_after [] text) (open_after (line ++ b ∷ []) text)) more)
    [ true ↦ ap (λ ls. strip_carriage_return line ∷ ls) (ended-append [] text more) | false ↦ ended-append (line ++ b ∷ []) text more ]

pub open-append : (line text more : List ℕ) → open_after line (text ++ more) ≡ open_after (open_after line text) more
open-append line [] more = refl
open-append line (b ∷ text) more =
    elim (is_newline b) as (λ t. cond t (open_after [] (text ++ more)) (open_after (line ++ b ∷ []) (text ++ more))
    ≡ open_after (cond t (open_after [] text) (open_after (line ++ b ∷ []) text)) more)
    [ true ↦ open-append [] text more | false ↦ open-append (line ++ b ∷ []) text more ]

-- the bytes before the first newline go into the line
pub ended-line : (line text more : List ℕ) → ended_after line (before_first is_newline text ++ more) ≡ ended_after (line ++ before_first is_newline text) more
ended-line line [] more = ap (λ l. ended_after l more) (sym (append-nil line))
ended-line line (b ∷ text) more = by (ended-line (line ++ b ∷ []) text more) (is_newline b) refl
  where
    by : ended_after (line ++ b ∷ []) (before_first is_newline text ++ more) ≡ ended_after ((line ++ b ∷ []) ++ before_first is_newline text) more
        → (t : Bool) → is_newline b ≡ t → ended_after line (before_first is_newline (b ∷ text) ++ more) ≡ ended_after (line ++ before_first is_newline (b ∷ text)) more
    by h true e = rw (take_while-cons (λ c. not (is_newline c)) b text, e) (ap (λ l. ended_after l more) (sym (append-nil line)))
    by h false e = rw (take_while-cons (λ c. not (is_newline c)) b text, e) (rw e (h ∙ ap (λ l. ended_after l more) (append_assoc line (b ∷ []) _)))

pub open-line : (line text more : List ℕ) → open_after line (before_first is_newline text ++ more) ≡ open_after (line ++ before_first is_newline text) more
open-line line [] more = ap (λ l. open_after l more) (sym (append-nil line))
open-line line (b ∷ text) more = by (open-line (line ++ b ∷ []) text more) (is_newline b) refl
  where
    by : open_after (line ++ b ∷ []) (before_first is_newline text ++ more) ≡ open_after ((line ++ b ∷ []) ++ before_first is_newline text) more
        → (t : Bool) → is_newline b ≡ t → open_after line (before_first is_newline (b ∷ text) ++ more) ≡ open_after (line ++ before_first is_newline (b ∷ text)) more
    by h true e = rw (take_while-cons (λ c. not (is_newline c)) b text, e) (ap (λ l. open_after l more) (sym (append-nil line)))
    by h false e = rw (take_while-cons (λ c. not (is_newline c)) b text, e) (rw e (h ∙ ap (λ l. open_after l more) (append_assoc line (b ∷ []) _)))

pub cut_at_newline : (text : List ℕ) → position_or_len is_newline text < length text
    → text ≡ before_first is_newline text ++ 10 ∷ after_first is_newline text
cut_at_newline text h =
    let e : is_newline (get_or text (position_or_len is_newline text) 0) ≡ true = passes_at_first is_newline text 0 h in
    let same : get_or text (position_or_len is_newline text) 0 ≡ 10 = grind (arith, nat_tests, e) in
    split_at_first is_newline text 0 h ∙ ap (λ b. before_first is_newline text ++ b ∷ after_first is_newline text) same

-- the first of some parts goes on with a line
abbrev onto : List ℕ → List (List ℕ) → List (List ℕ)
onto line [] = line ∷ []
onto line (p ∷ parts) = (line ++ p) ∷ parts

onto-first : (line : List ℕ) (b : ℕ) (parts : List (List ℕ)) → onto line (onto_first b parts) ≡ onto (line ++ b ∷ []) parts
onto-first line b [] = refl
onto-first line b (p ∷ parts) = ap (λ l. l ∷ parts) (sym (append_assoc line (b ∷ []) p))

onto-nil : (parts : List (List ℕ)) → 0 < length parts → onto [] parts ≡ parts
onto-nil [] h = absurd (omega arith)
onto-nil (p ∷ parts) h = refl

some_parts : (text : List ℕ) → 0 < length (slice_split is_newline text)
some_parts text = omega (arith, length-slice_split is_newline text)

onto-cond : (line : List ℕ) (b : ℕ) (t : Bool) (parts : List (List ℕ)) → onto line (cond t ([] ∷ parts) (onto_first b parts))
    ≡ cond t ((line ++ []) ∷ parts) (onto (line ++ b ∷ []) parts)
onto-cond line b true parts = refl
onto-cond line b false parts = onto-first line b parts

ended-parts : (line : List ℕ) (parts : List (List ℕ)) → 0 < length parts → ended_of_parts (line ∷ parts) ≡ strip_carriage_return line ∷ ended_of_parts parts
ended-parts line [] h = absurd (omega arith)
ended-parts line (p ∷ parts) h = refl

-- the cut at newlines, byte by byte
ended-onto : (line text : List ℕ) → ended_of_parts (onto line (slice_split is_newline text)) ≡ ended_after line text
ended-onto line [] = refl
ended-onto line (b ∷ text) =
    ap ended_of_parts (onto-cond line b (is_newline b) (slice_split is_newline text))
    ∙ elim (is_newline b) as (λ t. ended_of_parts (cond t ((line ++ []) ∷ slice_split is_newline text) (onto (line ++ b ∷ []) (slice_split is_newline text)))
    ≡ cond t (strip_carriage_return line ∷ ended_after [] text) (ended_after (line ++ b ∷ []) text)) [
      | true ↦
          ended-parts (line ++ []) (slice_split is_newline text) (some_parts text)
          ∙ ap (λ l. strip_carriage_return l ∷ ended_of_parts (slice_split is_newline text)) (append-nil line)
          ∙ ap (λ ls. strip_carriage_return line ∷ ls) (sym (ap ended_of_parts (onto-nil (slice_split is_newline text) (some_parts text))) ∙ ended-onto [] text)
      | false ↦ ended-onto (line ++ b ∷ []) text
    ]

pub ended_lines-after : (text : List ℕ) → ended_lines text ≡ ended_after [] text
unfolding ended_lines
ended_lines-after text = sym (ap ended_of_parts (onto-nil (slice_split is_newline text) (some_parts text))) ∙ ended-onto [] text

lines-parts : (line : List ℕ) (parts : List (List ℕ)) → 0 < length parts → lines_of_parts (line ∷ parts) ≡ strip_carriage_return line ∷ lines_of_parts parts
lines-parts line [] h = absurd (omega arith)
lines-parts line (p ∷ parts) h = refl

lines-onto : (line text : List ℕ) → lines_of_parts (onto line (slice_split is_newline text)) ≡ ended_after line text ++ last_line (open_after line text)
lines-onto line [] = ap (λ l. last_line l) (append-nil line)
lines-onto line (b ∷ text) =
    ap lines_of_parts (onto-cond line b (is_newline b) (slice_split is_newline text))
    ∙ elim (is_newline b) as (λ t. lines_of_parts (cond t ((line ++ []) ∷ slice_split is_newline text) (onto (line ++ b ∷ []) (slice_split is_newline text)))
    ≡ cond t (strip_carriage_return line ∷ ended_after [] text) (ended_after (line ++ b ∷ []) text)
    ++ last_line (cond t (open_after [] text) (open_after (line ++ b ∷ []) text))) [
      | true ↦
          lines-parts (line ++ []) (slice_split is_newline text) (some_parts text)
          ∙ ap (λ l. strip_carriage_return l ∷ lines_of_parts (slice_split is_newline text)) (append-nil line)
          ∙ ap (λ ls. strip_carriage_return line ∷ ls) (sym (ap lines_of_parts (onto-nil (slice_split is_newline text) (some_parts text))) ∙ lines-onto [] text)
      | false ↦ lines-onto (line ++ b ∷ []) text
    ]

-- the lines of a text are those that a newline ended, and what is left
pub lines-ended : (text : List ℕ) → lines text ≡ ended_after [] text ++ last_line (open_after [] text)
lines-ended text = sym (ap lines_of_parts (onto-nil (slice_split is_newline text) (some_parts text))) ∙ lines-onto [] text
