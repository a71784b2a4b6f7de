-- What follows a line.
use Rattle.std.proofs.Common.{◌≡◌, ℕ, ◌+◌, ◌-◌, ◌<◌, ◌≤◌, ◌==◌, Bool, true, not, List, [], length, drop, take, arith, sym, ap, ◌∙◌, inl, inr, ◌⊎◌}
use Rattle.std.specs.Borrow.{Bor}
use Rattle.std.specs.Prelude.{Option, Some, None, MatchOption, slice_range}
use Rattle.std.specs.Option.{unwrap_or}
use Rattle.std.specs.List.{after_first, position_or_len}
use Rattle.std.proofs.lemmas.Bool.{cases_lt, false≢true}
use Rattle.std.proofs.lemmas.List.{drop_all, drop_min, length-drop, drop-drop}
use Rattle.std.proofs.lemmas.List.Folds.{list_all_at}
use Rattle.std.proofs.lemmas.List.Sums.{prefix_len_stops}
use Rattle.rsp_syntax.proofs.Cuts.{no}
use Rattle.rsp_explain.specs.Places.{line_end}

-- nothing follows a text without a byte that ends it
pub after_none : (p : ℕ → Bool) (xs : List ℕ) → no p xs ≡ true → after_first p xs ≡ []
after_none p xs e = elim (cases_lt (position_or_len p xs) (length xs)) [
  | inl h ↦ absurd (false≢true (sym (list_all_at (λ c. not (p c)) xs (position_or_len p xs) 0 h (prefix_len_stops (λ c. not (p c)) xs 0 h)) ∙ e))
  | inr h ↦ drop_all (position_or_len p xs + 1) xs (omega arith)
]

drop_back : (xs : List ℕ) (k : ℕ) → drop (length xs - length (drop k xs)) xs ≡ drop k xs
drop_back xs k = ap (λ n. drop n xs) (omega (arith, length-drop k xs)) ∙ drop_min k xs

-- what follows the line that begins after so many bytes is what follows its end
pub past_end : (script : List ℕ) (bytes : ℕ) → after_first (λ b. b == 10) (drop bytes script) ≡ drop (line_end script bytes) script
past_end script bytes =
    let n = position_or_len (λ b. b == 10) (drop bytes script) + 1 in
    let e : after_first (λ b. b == 10) (drop bytes script) ≡ drop (bytes + n) script = drop-drop n bytes script in
    e ∙ sym (drop_back script (bytes + n)) ∙ ap (λ rest. drop (length script - length rest) script) (sym e)

-- a part of a text, or no bytes if it ends before it begins
pub range_or_none : (o : Option (Bor (List ℕ))) (none : Bor (List ℕ)) (xs : List ℕ) (i j : ℕ) → j ≤ length xs → none.now ≡ []
    → MatchOption o ((j < i) ⊎ (length xs < j)) (λ x. (i ≤ j) × (j ≤ length xs) × (x.now ≡ slice_range xs i j) × (length x.now + i ≡ j))
    → (unwrap_or o none).now ≡ slice_range xs i j
range_or_none (Some x) none xs i j h z m = m.2
range_or_none None none xs i j h z (inl k) = let e : j - i ≡ 0 = omega arith in z ∙ sym (ap (λ n. take n (drop i xs)) e)
range_or_none None none xs i j h z (inr k) = absurd (omega arith)
