-- The sixteen bytes of a register, and the lanes that they make.
use Rattle.std.proofs.Common.{◌≡◌, ℕ, suc, ◌+◌, ◌-◌, ◌*◌, ◌/◌, ◌%◌, ◌<◌, ◌≤◌, ◌&&◌, List, [], ◌∷◌, ◌++◌, Bool, true, false, cond, if◌then◌else◌, nat_le, nat_lt, leb, ltb, get_or, map, replicate, refl, ap, ◌∙◌, arith, inl, inr, w8}
use Rattle.std.specs.Simd.Lanes.{zip2, sel_l, pick_l, top, number_l, digits_l}
use Rattle.std.proofs.Math.Nat.{mul-le-mul_left}
use Rattle.std.proofs.lemmas.Simd.{swz_l}
use Rattle.std.proofs.lemmas.Bool.{cases_lt}
use Rattle.std.proofs.lemmas.Bool.Decides.{nat_tests}
use Rattle.rsp_lanes.specs.Lanes.{each_lane, IsVector, register_byte}
use Rattle.rsp_lanes.specs.Bytes.{each_byte, of_bytes, with_register_bytes, packed_byte}
use Rattle.rsp_lanes.proofs.Kit.{eta, below_eight, zip2_each}

-- the byte at a position of the lanes, which have their low bytes first
abbrev pub order : List ℕ
order = 1 ∷ 0 ∷ 3 ∷ 2 ∷ 5 ∷ 4 ∷ 7 ∷ 6 ∷ 9 ∷ 8 ∷ 11 ∷ 10 ∷ 13 ∷ 12 ∷ 15 ∷ 14 ∷ []

abbrev pub swapped : ℕ → ℕ
swapped p = get_or order p 0

-- bytes two by two are the digits of a number
wider : (a b n : ℕ) (rest : List ℕ) → a < 256 → b < 256 → digits_l 65536 (suc n) (number_l 256 (a ∷ b ∷ rest)) ≡ (b * 256 + a) ∷ digits_l 65536 n (number_l 256 rest)
wider a b n rest h k =
    let x : number_l 256 (a ∷ b ∷ rest) % 65536 ≡ b * 256 + a = omega arith in
    let y : number_l 256 (a ∷ b ∷ rest) / 65536 ≡ number_l 256 rest = omega arith in
    rw (x, y) refl

narrower : (a n : ℕ) (rest : List ℕ) → a < 65536 → digits_l 256 (suc (suc n)) (number_l 65536 (a ∷ rest)) ≡ (a % 256) ∷ (a / 256) ∷ digits_l 256 n (number_l 65536 rest)
narrower a n rest h =
    let x : number_l 65536 (a ∷ rest) % 256 ≡ a % 256 = omega arith in
    let y : number_l 65536 (a ∷ rest) / 256 % 256 ≡ a / 256 = omega arith in
    let z : number_l 65536 (a ∷ rest) / 256 / 256 ≡ number_l 65536 rest = omega arith in
    rw (x, y, z) refl

-- sixteen bytes, the two of each lane exchanged, are its lanes
pub from_le : (f : ℕ → ℕ) → ((k : ℕ) → f k < 256) → digits_l 65536 8 (number_l 256 (each_byte (λ p. f (swapped p)))) ≡ of_bytes f
unfolding each_byte of_bytes each_lane
from_le f h =
    rw (
      wider (f 1) (f 0) 7 _ (h 1) (h 0),
      wider (f 3) (f 2) 6 _ (h 3) (h 2),
      wider (f 5) (f 4) 5 _ (h 5) (h 4),
      wider (f 7) (f 6) 4 _ (h 7) (h 6),
      wider (f 9) (f 8) 3 _ (h 9) (h 8),
      wider (f 11) (f 10) 2 _ (h 11) (h 10),
      wider (f 13) (f 12) 1 _ (h 13) (h 12),
      wider (f 15) (f 14) 0 _ (h 15) (h 14),
    ) refl

-- and back
to_le_each : (f : ℕ → ℕ) → ((i : ℕ) → f i < 65536) → digits_l 256 16 (number_l 65536 (each_lane f)) ≡ each_byte (λ p. register_byte (each_lane f) (swapped p))
unfolding each_byte each_lane register_byte
to_le_each f h =
    rw (
      narrower (f 0) 14 _ (h 0),
      narrower (f 1) 12 _ (h 1),
      narrower (f 2) 10 _ (h 2),
      narrower (f 3) 8 _ (h 3),
      narrower (f 4) 6 _ (h 4),
      narrower (f 5) 4 _ (h 5),
      narrower (f 6) 2 _ (h 6),
      narrower (f 7) 0 _ (h 7),
    )
    refl

pub to_le : (v : List ℕ) → IsVector v → digits_l 256 16 (number_l 65536 v) ≡ each_byte (λ p. register_byte v (swapped p))
unfolding each_byte each_lane register_byte
to_le v h = ap (λ l. digits_l 256 16 (number_l 65536 l)) (eta 0 v h.0) ∙ to_le_each (λ i. get_or v i 0) h.1

-- two functions that agree on the sixteen bytes
swapped_same : (f g : ℕ → ℕ) → ((k : ℕ) → k < 16 → f k ≡ g k) → each_byte (λ p. f (swapped p)) ≡ each_byte (λ p. g (swapped p))
unfolding each_byte
swapped_same f g e =
    rw (
      e 0 (omega arith),
      e 1 (omega arith),
      e 2 (omega arith),
      e 3 (omega arith),
      e 4 (omega arith),
      e 5 (omega arith),
      e 6 (omega arith),
      e 7 (omega arith),
      e 8 (omega arith),
      e 9 (omega arith),
      e 10 (omega arith),
      e 11 (omega arith),
      e 12 (omega arith),
      e 13 (omega arith),
      e 14 (omega arith),
      e 15 (omega arith),
    ) refl

-- the byte that the swizzle by distances selects, if the distance is below n
abbrev moved : List ℕ → ℕ → ℕ → ℕ → ℕ → ℕ
moved source k i n old = cond (top 7 (cond (ltb ((k + (256 - i)) % 256) n) 255 0)) (cond (leb 128 ((k + (256 - i)) % 256)) 0 (get_or source (0 + (k + (256 - i)) % 256) 0)) old

moved_is : (source : List ℕ) (k i n old : ℕ) → k < 16 → i < 32 → n ≤ 16
    → moved source k i n old ≡ (if nat_le i k && nat_lt k (i + n) then get_or source (k - i) 0 else old)
moved_is source k i n old h l m = elim (cases_lt k i) [
  | inl b ↦
      let e : (k + (256 - i)) % 256 ≡ k + 256 - i = omega arith in
      let f : ltb ((k + (256 - i)) % 256) n ≡ false = grind (arith, nat_tests) in
      let g : nat_le i k ≡ false = grind (arith, nat_tests) in
      rw (f, g) refl
  | inr b ↦
      let e : (k + (256 - i)) % 256 ≡ k - i = omega arith in
      let f : leb 128 (k - i) ≡ false = grind (arith, nat_tests) in
      let g : nat_le i k ≡ true = grind (arith, nat_tests) in
      let z : 0 + (k - i) ≡ k - i = omega arith in
      elim (cases_lt k (i + n)) [
        | inl c ↦
            let x : ltb (k - i) n ≡ true = grind (arith, nat_tests) in
            let y : nat_lt k (i + n) ≡ true = grind (arith, nat_tests) in
            rw (e, f, g, x, y, z) refl
        | inr c ↦
            let x : ltb (k - i) n ≡ false = grind (arith, nat_tests) in
            let y : nat_lt k (i + n) ≡ false = grind (arith, nat_tests) in
            rw (e, f, g, x, y) refl
      ]
]

-- the distances of all positions
abbrev pub distances : ℕ → List ℕ
distances i = zip2 (λ a b. (a + (256 - b)) % 256) order (replicate 16 i)

abbrev placed_le : List ℕ → List ℕ → List ℕ → ℕ → List ℕ
placed_le le source far n = sel_l (map (top 7) (zip2 (λ a b. cond (ltb a b) 255 0) far (replicate 16 n))) (swz_l w8 16 source 0 far) le

byte_below : (v : List ℕ) (k : ℕ) → IsVector v → register_byte v k < 256
unfolding register_byte
byte_below v k h = grind (arith, nat_tests, h.1 (k / 2))

pub one_below : (b : Bool) (x y n : ℕ) → x < n → y < n → cond b x y < n
one_below true x y n h k = h
one_below false x y n h k = k

swizzled : (old : ℕ → ℕ) (source : List ℕ) (i n : ℕ) → placed_le (each_byte (λ p. old (swapped p))) source (distances i) n ≡ each_byte (λ p. moved source (swapped p) i n (old (swapped p)))
unfolding each_byte
swizzled old source i n = refl

pub with_register_bytes_is : (v source far : List ℕ) (i n : ℕ) → IsVector v → ((k : ℕ) → get_or source k 0 < 256) → i < 32 → n ≤ 16 → far ≡ distances i
    → digits_l 65536 8 (number_l 256 (placed_le (digits_l 256 16 (number_l 65536 v)) source far n)) ≡ with_register_bytes v source i n
with_register_bytes_is v source far i n h below l m e = ap (λ le. digits_l 65536 8 (number_l 256 (placed_le le source far n))) (to_le v h)
    ∙ ap (λ far. digits_l 65536 8 (number_l 256 (placed_le (each_byte (λ p. register_byte v (swapped p))) source far n))) e
    ∙ ap (λ bytes. digits_l 65536 8 (number_l 256 bytes)) (swizzled (register_byte v) source i n ∙ swapped_same (λ k. moved source k i n (register_byte v k)) byte (λ k b. moved_is source k i n (register_byte v k) b l m))
    ∙ from_le byte (λ k. one_below (nat_le i k && nat_lt k (i + n)) _ _ 256 (below (k - i)) (byte_below v k h))
  where
    byte : ℕ → ℕ
    byte k = if nat_le i k && nat_lt k (i + n) then get_or source (k - i) 0 else register_byte v k

-- a byte of a list of sixteen
pub byte_of : (f : ℕ → ℕ) (j : ℕ) → j < 16 → get_or (each_byte f) j 0 ≡ f j
unfolding each_byte
byte_of f j h = elim (cases_lt j 8) [
  | inl l ↦ below_eight (λ j. get_or (each_byte f) j 0 ≡ f j) refl refl refl refl refl refl refl refl j l
  | inr l ↦
      let e : 8 + (j - 8) ≡ j = omega arith in
      rw (← e) (below_eight (λ j. get_or (each_byte f) (8 + j) 0 ≡ f (8 + j)) refl refl refl refl refl refl refl refl (j - 8) (omega arith))
]

pub each_byte_same : (f g : ℕ → ℕ) → ((k : ℕ) → k < 16 → f k ≡ g k) → each_byte f ≡ each_byte g
unfolding each_byte
each_byte_same f g e =
    rw (
      e 0 (omega arith),
      e 1 (omega arith),
      e 2 (omega arith),
      e 3 (omega arith),
      e 4 (omega arith),
      e 5 (omega arith),
      e 6 (omega arith),
      e 7 (omega arith),
      e 8 (omega arith),
      e 9 (omega arith),
      e 10 (omega arith),
      e 11 (omega arith),
      e 12 (omega arith),
      e 13 (omega arith),
      e 14 (omega arith),
      e 15 (omega arith),
    ) refl

-- consecutive bytes
pub rotated : (f : ℕ → ℕ) (bytes : List ℕ) (start : ℕ) → bytes ≡ each_byte f → each_byte (λ k. get_or bytes ((start + k) % 16) 0) ≡ each_byte (λ k. f ((start + k) % 16))
rotated f bytes start e = each_byte_same _ _ (λ k h. ap (λ bs. get_or bs ((start + k) % 16) 0) e ∙ byte_of f ((start + k) % 16) (omega arith))

-- the high bytes of a register and of its double
abbrev double : List ℕ → List ℕ
double v = zip2 (λ a b. (a + b) % 65536) v v

abbrev high_bytes : List ℕ → List ℕ → List ℕ
high_bytes low high = pick_l 0 (low ++ high) (1 ∷ 3 ∷ 5 ∷ 7 ∷ 9 ∷ 11 ∷ 13 ∷ 15 ∷ 17 ∷ 19 ∷ 21 ∷ 23 ∷ 25 ∷ 27 ∷ 29 ∷ 31 ∷ [])

doubled_high : (x : ℕ) → (x + x) % 65536 / 256 ≡ x / 128 % 256
doubled_high x = omega arith

picked : (v : List ℕ) → high_bytes (each_byte (λ p. register_byte v (swapped p))) (each_byte (λ p. register_byte (each_lane (λ i. (get_or v i 0 + get_or v i 0) % 65536)) (swapped p))) ≡ each_byte (packed_byte v)
unfolding each_byte each_lane register_byte
picked v =
    rw (
      doubled_high (get_or v 0 0),
      doubled_high (get_or v 1 0),
      doubled_high (get_or v 2 0),
      doubled_high (get_or v 3 0),
      doubled_high (get_or v 4 0),
      doubled_high (get_or v 5 0),
      doubled_high (get_or v 6 0),
      doubled_high (get_or v 7 0),
    )
    refl

pub packed_is : (v : List ℕ) → IsVector v → high_bytes (digits_l 256 16 (number_l 65536 v)) (digits_l 256 16 (number_l 65536 (double v))) ≡ each_byte (packed_byte v)
packed_is v h =
    let twice : double v ≡ each_lane (λ i. (get_or v i 0 + get_or v i 0) % 65536) = zip2_each _ 0 0 v v h.0 h.0 in
    ap (λ low. high_bytes low (digits_l 256 16 (number_l 65536 (double v)))) (to_le v h)
    ∙ ap (high_bytes (each_byte (λ p. register_byte v (swapped p)))) (ap (λ l. digits_l 256 16 (number_l 65536 l)) twice ∙ to_le_each (λ i. (get_or v i 0 + get_or v i 0) % 65536) (λ i. omega arith))
    ∙ picked v

-- eight bytes as lanes, each times a factor
times : (x factor : ℕ) → x < 256 → factor ≤ 256 → x * factor % 65536 ≡ x * factor
times x factor h k =
    let a : x * factor ≤ x * 256 = mul-le-mul_left x k in
    omega arith

pub scaled : (f : ℕ → ℕ) (factor : ℕ) → ((k : ℕ) → f k < 256) → factor ≤ 256
    → zip2 (λ x y. x * y % 65536) (map (λ x. x) (pick_l 0 (each_byte f ++ each_byte f) (0 ∷ 1 ∷ 2 ∷ 3 ∷ 4 ∷ 5 ∷ 6 ∷ 7 ∷ []))) (replicate 8 factor) ≡ each_lane (λ i. f i * factor)
unfolding each_byte each_lane
scaled f factor h k =
    rw (
      times (f 0) factor (h 0) k,
      times (f 1) factor (h 1) k,
      times (f 2) factor (h 2) k,
      times (f 3) factor (h 3) k,
      times (f 4) factor (h 4) k,
      times (f 5) factor (h 5) k,
      times (f 6) factor (h 6) k,
      times (f 7) factor (h 7) k,
    )
    refl

-- sixteen bytes in order as lanes
ordered : (f : ℕ → ℕ) → swz_l w8 16 (each_byte f) 0 order ≡ each_byte (λ p. f (swapped p))
unfolding each_byte
ordered f = refl

pub ordered_lanes : (f : ℕ → ℕ) → ((k : ℕ) → f k < 256) → digits_l 65536 8 (number_l 256 (swz_l w8 16 (each_byte f) 0 order)) ≡ of_bytes f
ordered_lanes f h = ap (λ bytes. digits_l 65536 8 (number_l 256 bytes)) (ordered f) ∙ from_le f h
