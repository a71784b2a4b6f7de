-- What is kept of a line.
use Rattle.std.proofs.Common.{◌≡◌, ℕ, ◌+◌, ◌<◌, ◌≤◌, ◌⊎◌, Bool, true, false, List, [], ◌∷◌, ◌++◌, length, take, refl, sym, ◌∙◌, ap, inl, inr, ⊎_elim, arith, length-append, length-take}
use Rattle.std.proofs.Math.Seq.{take-append-add}
use Rattle.std.proofs.lemmas.Grind.{common_steps}
use Rattle.std.proofs.lemmas.Bool.{cases_lt}
use Rattle.std.proofs.lemmas.Bool.Decides.{nat_tests}
use Rattle.std.proofs.lemmas.List.{take_all, take_at, take-append-le, take-take, append-nil}
use Rattle.std.specs.Prelude.{cond}
use Rattle.std.specs.Str.Lines.{strip_carriage_return}
use Rattle.rsp_script_io.specs.Lines.{is_newline, open_after, kept, IsSameOrLong}

pub kept_short : (line : List ℕ) → length line ≤ 258 → kept line ≡ line
unfolding kept
kept_short line h = take_all 258 line h

pub kept_full : (line more : List ℕ) → length line ≡ 258 → kept (line ++ more) ≡ line
unfolding kept
kept_full line more h = take_at line more 258 h

-- as much of what follows as there is room for
pub kept_front : (line more : List ℕ) (room : ℕ) → room + length line ≡ 258 → line ++ take room more ≡ kept (line ++ more)
unfolding kept
kept_front line more room h =
    let e : 258 ≡ length line + room = omega (arith, h) in
    rw e (sym (take-append-add line more room))

pub ruleset kept_bytes = (kept_short, kept_front, length-append, length-take)

kept_long : (line more : List ℕ) → 258 ≤ length line → kept (line ++ more) ≡ kept line
unfolding kept
kept_long line more h = take-append-le 258 line more h

length-kept_long : (line : List ℕ) → 258 ≤ length line → length (kept line) ≡ 258
unfolding kept
length-kept_long line h = omega (arith, length-take 258 line)

pub length-strip : (line : List ℕ) → length line ≤ length (strip_carriage_return line) + 1
length-strip line = grind (arith, common_steps, nat_tests)

pub like-same : (line other : List ℕ) → line ≡ other → IsSameOrLong line other
like-same line other e = inl e

pub like-strip : (line : List ℕ) → length line ≡ 258 → IsSameOrLong line (strip_carriage_return line)
like-strip line h = inr (omega arith, omega (arith, length-strip line))

pub ruleset kept_line = (like-same, like-strip)

-- what follows the kept bytes of a line is kept as if it followed the line
kept-then : (line more : List ℕ) → kept (kept line ++ more) ≡ kept (line ++ more)
kept-then line more = by_length (cases_lt (length line) 258)
  where
    by_length : (length line < 258) ⊎ (258 ≤ length line) → kept (kept line ++ more) ≡ kept (line ++ more)
    by_length (inl h) = ap (λ l. kept (l ++ more)) (kept_short line (omega arith))
    by_length (inr h) = kept_full (kept line) more (length-kept_long line h) ∙ sym (kept_long line more h)

-- lines of which the same is kept
pub kept-more : (line other more : List ℕ) → kept line ≡ kept other → kept (line ++ more) ≡ kept (other ++ more)
kept-more line other more e = sym (kept-then line more) ∙ ap (λ l. kept (l ++ more)) e ∙ kept-then other more

length-kept : (line : List ℕ) → length line < 258 → length (kept line) < 258
length-kept line h = rw (kept_short line (omega arith)) h

-- of which the same is kept, are the same or both fill what is kept
pub same_or_full : (line other : List ℕ) → kept line ≡ kept other → (line ≡ other) ⊎ ((258 ≤ length line) × (258 ≤ length other))
same_or_full line other e = by_lengths (cases_lt (length line) 258) (cases_lt (length other) 258)
  where
    by_lengths : (length line < 258) ⊎ (258 ≤ length line) → (length other < 258) ⊎ (258 ≤ length other)
        → (line ≡ other) ⊎ ((258 ≤ length line) × (258 ≤ length other))
    by_lengths (inl h) (inl g) = inl (sym (kept_short line (omega arith)) ∙ e ∙ kept_short other (omega arith))
    by_lengths (inl h) (inr g) = absurd (omega (arith, ap length e, length-kept line h, length-kept_long other g))
    by_lengths (inr h) (inl g) = absurd (omega (arith, ap length e, length-kept_long line h, length-kept other g))
    by_lengths (inr h) (inr g) = inr (h, g)

pub like-strips : (line other : List ℕ) → kept line ≡ kept other → IsSameOrLong (strip_carriage_return line) (strip_carriage_return other)
like-strips line other e = by_case (same_or_full line other e)
  where
    by_case : (line ≡ other) ⊎ ((258 ≤ length line) × (258 ≤ length other)) → IsSameOrLong (strip_carriage_return line) (strip_carriage_return other)
    by_case (inl h) = inl (ap strip_carriage_return h)
    by_case (inr h) = inr (omega (arith, length-strip line), omega (arith, length-strip other))

pub kept-kept : (line : List ℕ) → kept (kept line) ≡ kept line
kept-kept line = sym (ap kept (append-nil (kept line))) ∙ kept-then line [] ∙ ap kept (append-nil line)

pub open-kept : (line other text : List ℕ) → kept line ≡ kept other → kept (open_after line text) ≡ kept (open_after other text)
open-kept line other [] e = e
open-kept line other (b ∷ text) e =
    elim (is_newline b) as (λ t. kept (cond t (open_after [] text) (open_after (line ++ b ∷ []) text))
    ≡ kept (cond t (open_after [] text) (open_after (other ++ b ∷ []) text)))
    [ true ↦ refl | false ↦ open-kept (line ++ b ∷ []) (other ++ b ∷ []) text (kept-more line other (b ∷ []) e) ]

-- the line before bytes were kept
pub kept-back : (line more : List ℕ) (n : ℕ) → n ≡ length line → n ≤ 258 → take n (kept (line ++ more)) ≡ line
unfolding kept
kept-back line more n e h = take-take n 258 (line ++ more) h ∙ take_at line more n (sym e)
