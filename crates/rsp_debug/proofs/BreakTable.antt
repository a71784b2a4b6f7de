-- Breakpoints as bits of words.
use Rattle.std.proofs.Common.{◌≡◌, ◌≢◌, ℕ, zero, suc, ◌+◌, ◌*◌, ◌/◌, ◌%◌, ◌^◌, ◌<◌, List, [], ◌∷◌, length, get_or, set, replicate, refl, ap, sym, ◌∙◌, arith, Bool, true, false, cond, inl, inr, bit_and, bit_or, w64, get_or-set_other, get_or-set_same}
use Rattle.std.specs.Prelude.{slice_set, slice_index, slice_index_or, ◌==◌}
use Rattle.std.specs.Int.{bit_at, bit_not}
use Rattle.std.proofs.lemmas.List.{length-set, same_lists, get_or-replicate, length-replicate, get_or_past}
use Rattle.std.proofs.lemmas.List.FromFn.{get_or-map-range_with_len, length-map-range_with_len}
use Rattle.std.proofs.lemmas.Nat.Bits.{bit_at_set_same, bit_at_set_other, bit_at_clear_same, bit_at_clear_other, bit_at-zero, shr_and_one}
use Rattle.std.proofs.lemmas.Bool.{cases_eq, cases_lt}
use Rattle.std.proofs.lemmas.List.Sums.{sum_by-set}
use Rattle.rsp_debug.specs.Breaks.{no_breaks, break_count}
use Rattle.rsp_debug.specs.BreakBits.{table, is_set, breaks_of}

length-table : (f : ℕ → Bool) (n : ℕ) → length (table f n) ≡ n
unfolding table
length-table f n = length-map-range_with_len f 0 n

get-table : (f : ℕ → Bool) (n i : ℕ) (d : Bool) → i < n → get_or (table f n) i d ≡ f i
unfolding table
get-table f n i d h = get_or-map-range_with_len f 0 n i i d h (omega arith)

-- a table that differs from another at one place
table-set : (f g : ℕ → Bool) (n i : ℕ) (v : Bool) → i < n → g i ≡ v → ((j : ℕ) → j < n → j ≢ i → g j ≡ f j)
    → table g n ≡ slice_set (table f n) i v
table-set f g n i v h here there =
    same_lists _ _ (length-table g n ∙ sym (length-set (table f n) i v ∙ length-table f n)) (λ k d below.
    let b : k < n = omega (arith, length-table g n, below) in
    elim (cases_eq k i) [
      | inl e ↦ get-table g n k d b ∙ ap g e ∙ here ∙ sym (ap (λ x. get_or (set (table f n) i v) x d) e ∙ get_or-set_same (table f n) i v d (omega (arith, length-table f n)))
      | inr ne ↦ get-table g n k d b ∙ there k b ne ∙ sym (get_or-set_other (table f n) i k v d ne ∙ get-table f n k d b)
    ])

same_place : (k at : ℕ) → k / 64 ≡ at / 64 → k % 64 ≡ at % 64 → k ≡ at
same_place k at q r = omega arith

-- a word that differs from the one before at one bit
written : (words : List ℕ) (at v : ℕ) (value : Bool) → length words ≡ 16 → at < 1024 → (bit_at v (at % 64) == 1) ≡ value
    → ((i : ℕ) → i < 64 → i ≢ at % 64 → bit_at v i ≡ bit_at (slice_index words (at / 64)) i)
    → breaks_of (slice_set words (at / 64) v) ≡ slice_set (breaks_of words) at value
unfolding breaks_of
written words at v value n h here there =
    let room : at / 64 < length words = omega arith in
    table-set (is_set words) (is_set (slice_set words (at / 64) v)) 1024 at value h
    (ap (λ w. bit_at w (at % 64) == 1) (get_or-set_same words (at / 64) v 0 room) ∙ here)
    (λ j b ne. elim (cases_eq (j / 64) (at / 64)) [
      | inl e ↦
          let other : j % 64 ≢ at % 64 = λ r. ne (same_place j at e r) in
          ap (λ x. bit_at (get_or (set words (at / 64) v) x 0) (j % 64) == 1) e
          ∙ ap (λ w. bit_at w (j % 64) == 1) (get_or-set_same words (at / 64) v 0 room)
          ∙ ap (λ x. x == 1) (there (j % 64) (omega arith) other)
          ∙ ap (λ x. bit_at (get_or words x 0) (j % 64) == 1) (sym e)
      | inr far ↦ ap (λ w. bit_at w (j % 64) == 1) (get_or-set_other words (at / 64) (j / 64) v 0 far)
    ])

pub bit-added : (words : List ℕ) (at : ℕ) → length words ≡ 16 → at < 1024
    → breaks_of (slice_set words (at / 64) (bit_or (slice_index words (at / 64)) (1 * 2 ^ (at % 64) % 2 ^ 64))) ≡ slice_set (breaks_of words) at true
bit-added words at n h =
    let small : at % 64 < 64 = omega arith in
    let w = slice_index words (at / 64) in
    written words at _ true n h
    (ap (λ x. x == 1) (bit_at_set_same w64 w (at % 64) small))
    (λ i b ne. bit_at_set_other w64 w (at % 64) small i ne)

pub bit-dropped : (words : List ℕ) (at : ℕ) → length words ≡ 16 → at < 1024
    → breaks_of (slice_set words (at / 64) (bit_and (slice_index words (at / 64)) (bit_not w64 (1 * 2 ^ (at % 64) % 2 ^ 64)))) ≡ slice_set (breaks_of words) at false
bit-dropped words at n h =
    let small : at % 64 < 64 = omega arith in
    let w = slice_index words (at / 64) in
    written words at _ false n h
    (ap (λ x. x == 1) (bit_at_clear_same w64 w (at % 64) small))
    (λ i b ne. bit_at_clear_other w64 w (at % 64) small i b ne)

pub place-is : (words : List ℕ) (at : ℕ) → at < 1024 → slice_index_or (breaks_of words) at false ≡ is_set words at
unfolding breaks_of
place-is words at h = get-table (is_set words) 1024 at false h

pub bit-is : (w k : ℕ) → (bit_and (w / 2 ^ k) 1 == 1) ≡ (bit_at w k == 1)
bit-is w k = ap (λ x. x == 1) (shr_and_one w k)

pub length-breaks : (words : List ℕ) → length (breaks_of words) ≡ 1024
unfolding breaks_of
length-breaks words = length-table (is_set words) 1024

-- the table of no breakpoints
zero_word : (i : ℕ) → slice_index (replicate 16 0) i ≡ 0
zero_word i = elim (cases_lt i 16) [ inl h ↦ get_or-replicate 16 i 0 0 h | inr h ↦ get_or_past (replicate 16 0) i 0 (omega (arith, length-replicate {A = ℕ} 16 0)) ]

pub breaks-none : breaks_of (replicate 16 0) ≡ no_breaks
unfolding breaks_of no_breaks
breaks-none = same_lists _ _ (length-table _ 1024 ∙ sym (length-replicate 1024 false)) (λ k d below.
    let b : k < 1024 = omega (arith, length-table (is_set (replicate 16 0)) 1024, below) in
    get-table _ 1024 k d b ∙ ap (λ w. bit_at w (k % 64) == 1) (zero_word (k / 64)) ∙ ap (λ x. x == 1) (bit_at-zero (k % 64)) ∙ sym (get_or-replicate 1024 k false d b))

count_of_none : (n : ℕ) → break_count (replicate n false) ≡ 0
count_of_none zero = refl
count_of_none (suc n) = count_of_none n

pub count-none : break_count no_breaks ≡ 0
unfolding no_breaks
count-none = count_of_none 1024

abbrev one_of : Bool → ℕ
one_of x = cond x 1 0

pub count-added : (l : List Bool) (i : ℕ) → i < length l → slice_index_or l i false ≡ false → break_count (slice_set l i true) ≡ break_count l + 1
count-added l i h e =
    let sums = sum_by-set one_of l i true false h in
    let none : one_of (get_or l i false) ≡ 0 = ap one_of e in
    omega (arith, sums, none)

pub count-dropped : (l : List Bool) (i : ℕ) → i < length l → slice_index_or l i false ≡ true → break_count l ≡ break_count (slice_set l i false) + 1
count-dropped l i h e =
    let sums = sum_by-set one_of l i false false h in
    let one : one_of (get_or l i false) ≡ 1 = ap one_of e in
    omega (arith, sums, one)

-- what isn't there can't be dropped
pub nothing-dropped : (l : List Bool) (i : ℕ) → slice_index_or l i false ≡ false → slice_set l i false ≡ l
nothing-dropped [] i e = refl
nothing-dropped (x ∷ l) zero e = ap (λ y. y ∷ l) (sym e)
nothing-dropped (x ∷ l) (suc i) e = ap (λ m. x ∷ m) (nothing-dropped l i e)

-- where none has one, no place has
empty_at : (l : List Bool) (i : ℕ) (b : Bool) → slice_index_or l i false ≡ b → break_count l ≡ 0 → b ≡ false
empty_at l i false e none = refl
empty_at l i true e none =
    elim (cases_lt i (length l)) [
      | inl h ↦ absurd (omega (arith, count-dropped l i h e, none))
      | inr h ↦ sym e ∙ get_or_past l i false h
    ]

pub empty-break : (l : List Bool) (i : ℕ) → break_count l ≡ 0 → slice_index_or l i false ≡ false
empty-break l i none = empty_at l i (slice_index_or l i false) refl none

pub ruleset tables = (bit-added, bit-dropped, place-is, bit-is, length-breaks, breaks-none, count-none, count-added, count-dropped, nothing-dropped)
