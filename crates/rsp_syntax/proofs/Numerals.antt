-- A number that counts no further than a limit.
use Rattle.std.proofs.Common.{◌≡◌, refl, ap, ◌∙◌, sym, ℕ, zero, suc, ◌+◌, ◌*◌, ◌≤◌, ◌<◌, arith, List, [], ◌∷◌, ◌++◌, length, take, get_or, Bool, true, add-one, pos, negsuc, ℤ, ◌-◌, inl, inr}
use Rattle.std.specs.Prelude.{min, neg_ℤ, Option, Some, None, option_map}
use Rattle.std.specs.List.{list_all}
use Rattle.std.proofs.Math.Seq.{take-suc}
use Rattle.std.proofs.Math.Nat.{mul-le-mul_left}
use Rattle.std.proofs.lemmas.Bool.{and_parts, and_from, cases_lt}
use Rattle.rsp_syntax.specs.Capping.{capped, capped_ℤ, number_cap}

pub capped_step : (v r d top : ℕ) → 1 ≤ r → min (min v top * r + d) top ≡ min (v * r + d) top
capped_step v r d top base = elim (cases_lt v top) [
  | inl low ↦ let e : min v top ≡ v = omega arith in ap (λ m. min (m * r + d) top) e
  | inr high ↦
      let e : min v top ≡ top = omega arith in
      let a : top * 1 ≤ top * r = mul-le-mul_left top base in
      let b : v * 1 ≤ v * r = mul-le-mul_left v base in
      ap (λ m. min (m * r + d) top) e ∙ omega (arith, a, b)
]

pub capped_neg : (n : ℕ) → capped_ℤ (neg_ℤ (pos n)) ≡ neg_ℤ (pos (capped n))
capped_neg zero = refl
capped_neg (suc n) = ap negsuc (omega arith) ∙ nonzero (min (suc n) number_cap) (omega arith)
  where
    nonzero : (m : ℕ) → 1 ≤ m → negsuc (m - 1) ≡ neg_ℤ (pos m)
    nonzero zero h = absurd (omega arith)
    nonzero (suc m) h = ap negsuc (omega arith)

all_push : (t : ℕ → Bool) (xs : List ℕ) (c : ℕ) → list_all t xs ≡ true → t c ≡ true → list_all t (xs ++ c ∷ []) ≡ true
all_push t [] c a b = and_from _ _ b refl
all_push t (x ∷ xs) c a b = let both = and_parts _ _ a in and_from _ _ both.0 (all_push t xs c both.1 b)

-- one more that passes
pub all_more : (t : ℕ → Bool) (xs : List ℕ) (i : ℕ) → i < length xs → list_all t (take i xs) ≡ true → t (get_or xs i 0) ≡ true → list_all t (take (i + 1) xs) ≡ true
all_more t xs i lt a b = rw (add-one) (rw (take-suc xs i 0 lt) (all_push t (take i xs) (get_or xs i 0) a b))

pub negated : (o : Option ℕ) (n : ℕ) (z : ℤ) → Some n ≡ option_map capped o → z ≡ neg_ℤ (pos n) → Some z ≡ option_map capped_ℤ (option_map (λ m. neg_ℤ (pos m)) o)
negated None n z e s = absurd cc
negated (Some m) n z e s = let same : n ≡ capped m = cc in ap Some s ∙ ap (λ k. Some (neg_ℤ (pos k))) same ∙ ap Some (sym (capped_neg m))
