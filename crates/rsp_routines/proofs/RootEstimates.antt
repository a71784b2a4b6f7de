-- How near the table's inverse square root is: the number times its square is near 2^62.
use Rattle.std.proofs.Common.{◌≡◌, ℕ, suc, ◌+◌, ◌-◌, ◌*◌, ◌/◌, ◌%◌, ◌^◌, ◌<◌, ◌≤◌, pow_pos, inl, inr, refl, ap, sym, subst, ◌∙◌, arith}
use Rattle.std.proofs.lemmas.Bool.{cases_lt, cases_eq}
use Rattle.std.proofs.lemmas.Bool.Decides.{nat_tests}
use Rattle.std.proofs.lemmas.Nat.{leading_top, mul-le, pow-add}
use Rattle.std.proofs.Math.Nat.{mul-le-mul_left, le_of_mul-le-mul_right}
use Rattle.rsp_numbers.specs.Roots.{IsRoot, radicand}
use Rattle.rsp_divide.specs.Entries.{root_entry}
use Rattle.rsp_divide.specs.Quotients.{root_bits, zeros}
use Rattle.rsp_numbers.proofs.Roots.{one_root, root_small}
use Rattle.rsp_microcode.proofs.Reciprocals.{root_bits_small}

-- x times the square of its estimate q: near 2^62
pub record IsRootEstimate (x q : ℕ) : Type 0 where
  pub low : 2 ^ 62 ≤ x * ((q + 1) * (q + 1)) + 2 ^ 47
  pub high : x * (q * q) ≤ 2 ^ 62 + 2 ^ 54
  pub small : q < 2 ^ 31

-- the square of an entry with its highest bit, times the ends a and a + s of the interval that it is for
record IsClose (a s m : ℕ) : Type 0 where
  low : 2 ^ 42 ≤ m * m * a + 2 ^ 27
  high : m * m * (a + s) ≤ 2 ^ 42 + 2 ^ 34

-- m is half of the root b of a
half_close : (a s b m : ℕ) → 256 ≤ a → a ≤ 1023 → 256 * s ≤ a → IsRoot a b → 2 * m ≤ b → b ≤ 2 * m + 1 → IsClose a s m
half_close a s b m from to long is low high =
    let f : a * (2 * m * (2 * m)) ≤ a * (b * b) = mul-le-mul_left a (mul-le (2 * m) (2 * m) b b low low) in
    let less : m * m * a < 2 ^ 42 = omega (arith, is.below) in
    let g : m * m * (256 * s) ≤ m * m * a = mul-le-mul_left (m * m) long in
    let next : b + 1 ≤ 2 * m + 2 = omega arith in
    let i : a * ((b + 1) * (b + 1)) ≤ a * ((2 * m + 2) * (2 * m + 2)) = mul-le-mul_left a (mul-le (b + 1) (b + 1) (2 * m + 2) (2 * m + 2) next next) in
    let j : a * (2 * m * a * m) ≤ 1023 * (2 * m * a * m) = mul-le a (2 * m * a * m) 1023 (2 * m * a * m) to (omega arith) in
    let k : 2 * a * m + a ≤ 2 ^ 27 = elim (cases_lt (2 * a * m) (2 ^ 27 - 1023)) [
      | inl l ↦ omega arith
      | inr n ↦ let o : (2 ^ 27 - 1023) * (2 ^ 27 - 1023) ≤ 2 * a * m * (2 * a * m) = mul-le (2 ^ 27 - 1023) (2 ^ 27 - 1023) (2 * a * m) (2 * a * m) n n in absurd (omega arith)
    ] in
    record { low = omega (arith, is.above); high = omega arith }

-- the root is 2^17 at least, so its half without the highest bit is an entry
root_large : (a b : ℕ) → a ≤ 1023 → IsRoot a b → 2 ^ 17 ≤ b
root_large a b to is = elim (cases_lt b (2 ^ 17)) [
  | inl l ↦
      let f : (b + 1) * (b + 1) ≤ 2 ^ 17 * 2 ^ 17 = let g : b + 1 ≤ 2 ^ 17 = omega arith in mul-le (b + 1) (b + 1) (2 ^ 17) (2 ^ 17) g g in
      let i : a * ((b + 1) * (b + 1)) ≤ 1023 * (2 ^ 17 * 2 ^ 17) = mul-le a ((b + 1) * (b + 1)) 1023 (2 ^ 17 * 2 ^ 17) to f in
      absurd (omega (arith, is.above))
  | inr h ↦ h
]

entry_close : (i a s : ℕ) → radicand i ≡ a → 256 ≤ a → a ≤ 1023 → 256 * s ≤ a → IsClose a s (65536 + root_entry i)
unfolding root_entry
entry_close i a s e from to long =
    let b = (one_root i).0 in
    let is : IsRoot a b = subst (λ (n : ℕ). IsRoot n b) e (one_root i).1 in
    let small = root_small a b from is in
    let large = root_large a b to is in
    half_close a s b (65536 + b / 2 % 65536) from to long is (omega arith) (omega arith)

-- x k is between a c and (a + s) c, and q is the entry m, shifted right
estimated : (x k p a s c m q : ℕ) → 0 < c → k * (p * p) ≡ c * 256 → a * c ≤ x * k → x * k ≤ (a + s) * c → IsClose a s m
    → q * p ≤ m * 2 ^ 14 → m * 2 ^ 14 ≤ q * p + p → q < 2 ^ 31 → IsRootEstimate x q
estimated x k p a s c m q positive e from to close low high small =
    let f : x * (q * q) * (k * (p * p)) ≡ x * (q * q) * (c * 256) = ap (λ y. x * (q * q) * y) e in
    let g : x * ((q + 1) * (q + 1)) * (k * (p * p)) ≡ x * ((q + 1) * (q + 1)) * (c * 256) = ap (λ y. x * ((q + 1) * (q + 1)) * y) e in
    let i : q * p * (q * p) ≤ m * 2 ^ 14 * (m * 2 ^ 14) = mul-le (q * p) (q * p) (m * 2 ^ 14) (m * 2 ^ 14) low low in
    let j : m * 2 ^ 14 * (m * 2 ^ 14) ≤ (q * p + p) * (q * p + p) = mul-le (m * 2 ^ 14) (m * 2 ^ 14) (q * p + p) (q * p + p) high high in
    let l : x * k * (q * p * (q * p)) ≤ (a + s) * c * (m * 2 ^ 14 * (m * 2 ^ 14)) = mul-le (x * k) (q * p * (q * p)) ((a + s) * c) (m * 2 ^ 14 * (m * 2 ^ 14)) to i in
    let n : a * c * (m * 2 ^ 14 * (m * 2 ^ 14)) ≤ x * k * ((q * p + p) * (q * p + p)) = mul-le (a * c) (m * 2 ^ 14 * (m * 2 ^ 14)) (x * k) ((q * p + p) * (q * p + p)) from j in
    let above : x * (q * q) * 256 ≤ m * m * (a + s) * 2 ^ 28 = let t : x * (q * q) * 256 * c ≤ m * m * (a + s) * 2 ^ 28 * c = omega arith in le_of_mul-le-mul_right t positive in
    let below : m * m * a * 2 ^ 28 ≤ x * ((q + 1) * (q + 1)) * 256 = let t : m * m * a * 2 ^ 28 * c ≤ x * ((q + 1) * (q + 1)) * 256 * c = omega arith in le_of_mul-le-mul_right t positive in
    record { low = omega (arith, close.low); high = omega (arith, close.high); small = small }

-- the radicand of an even and of an odd index
radicand_even : (h : ℕ) → radicand (h * 2 + 0) ≡ 512 + h * 2
radicand_even h = grind (arith, nat_tests)

radicand_odd : (h : ℕ) → radicand (h * 2 + 1) ≡ 256 + h
radicand_odd h = grind (arith, nat_tests)

-- k shifts x up to its 32 bits, and p is a power of two whose square is near x
module _ (x k p : ℕ) (low : 2 ^ 31 ≤ x * k) (high : x * k < 2 ^ 32) (positive : 0 < p) where
  even : k * (p * p) ≡ 2 ^ 30 → (i q : ℕ) → i ≡ x * k / 2 ^ 22 % 512 / 2 → q ≡ (65536 + root_entry (i * 2 + 0)) * 2 ^ 14 / p → q < 2 ^ 31 → IsRootEstimate x q
  even e i q at is small =
      let m = 65536 + root_entry (i * 2 + 0) in
      let f : q * p ≡ m * 2 ^ 14 / p * p = ap (λ n. n * p) is in
      estimated x k p (512 + i * 2) 2 (2 ^ 22) m q (omega arith) (omega arith) (omega arith) (omega arith)
      (entry_close (i * 2 + 0) (512 + i * 2) 2 (radicand_even i) (omega arith) (omega arith) (omega arith)) (omega arith) (omega arith) small

  odd : k * (p * p) ≡ 2 ^ 31 → (i q : ℕ) → i ≡ x * k / 2 ^ 22 % 512 / 2 → q ≡ (65536 + root_entry (i * 2 + 1)) * 2 ^ 14 / p → q < 2 ^ 31 → IsRootEstimate x q
  odd e i q at is small =
      let m = 65536 + root_entry (i * 2 + 1) in
      let f : q * p ≡ m * 2 ^ 14 / p * p = ap (λ n. n * p) is in
      estimated x k p (256 + i) 1 (2 ^ 23) m q (omega arith) (omega arith) (omega arith) (omega arith)
      (entry_close (i * 2 + 1) (256 + i) 1 (radicand_odd i) (omega arith) (omega arith) (omega arith)) (omega arith) (omega arith) small

power : (z g n : ℕ) → z + 2 * g ≡ n → 2 ^ z * (2 ^ g * 2 ^ g) ≡ 2 ^ n
power z g n e =
    let s : z + (g + g) ≡ n = omega arith in
    ap (λ y. 2 ^ z * y) (sym (pow-add 2 g g)) ∙ sym (pow-add 2 z (g + g)) ∙ ap (λ i. 2 ^ i) s

bits_are : (x i : ℕ) → zeros x % 2 ≡ i → root_bits x ≡ (65536 + root_entry (x * 2 ^ zeros x / 2 ^ 22 % 512 / 2 * 2 + i)) * 2 ^ 14 / 2 ^ ((31 - zeros x) / 2)
unfolding root_bits
bits_are x i e = rw e refl

pub root_estimated : (x : ℕ) → 0 < x → x < 2 ^ 31 → IsRootEstimate x (root_bits x)
root_estimated x h k =
    let top = leading_top 32 x h (omega arith) in
    let j = top.0 in
    let z = zeros x in
    let g = (31 - z) / 2 in
    let s : z + suc j ≡ 32 = top.1 in
    let e : 2 ^ z * 2 ^ j ≡ 2 ^ 31 = let i : z + j ≡ 31 = omega arith in sym (pow-add 2 z j) ∙ ap (λ i. 2 ^ i) i in
    let double : 2 ^ suc j ≡ 2 * 2 ^ j = omega arith in
    let low : 2 ^ z * 2 ^ j ≤ 2 ^ z * x = mul-le-mul_left (2 ^ z) top.2 in
    let below : x + 1 ≤ 2 * 2 ^ j = omega (arith, top.3) in
    let high : 2 ^ z * (x + 1) ≤ 2 ^ z * (2 * 2 ^ j) = mul-le-mul_left (2 ^ z) below in
    let some = pow_pos z in
    let from : 2 ^ 31 ≤ x * 2 ^ z = omega arith in
    let to : x * 2 ^ z < 2 ^ 32 = omega arith in
    elim (cases_eq (z % 2) 0) [
      | inl f ↦ even x (2 ^ z) (2 ^ g) from to (pow_pos g) (power z g 30 (omega arith)) _ (root_bits x) refl (bits_are x 0 f) (root_bits_small x)
      | inr f ↦ odd x (2 ^ z) (2 ^ g) from to (pow_pos g) (power z g 31 (omega arith)) _ (root_bits x) refl (bits_are x 1 (omega arith)) (root_bits_small x)
    ]
