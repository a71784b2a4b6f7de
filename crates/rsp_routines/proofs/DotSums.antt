-- Sums of products, by lanes and by numbers.
use Rattle.std.proofs.Common.{◌≡◌, ℕ, zero, suc, ◌+◌, ◌-◌, ◌*◌, ◌/◌, ◌%◌, ◌<◌, Bool, true, false, ℤ, pos, ◌+ℤ◌, ◌*ℤ◌, List, get_or, nat_le, refl, ap, ◌∙◌, arith}
use Rattle.std.specs.Prelude.{if◌then◌else◌}
use Rattle.std.proofs.lemmas.Int.{ints}
use Rattle.rsp_numbers.specs.Numbers.{s16}
use Rattle.rsp_memory.specs.Memory.{half_at}
use Rattle.rsp_lanes.proofs.Kit.{below_eight}
use Rattle.rsp_microcode.specs.Lanes.{lanes_at}
use Rattle.rsp_routines.specs.DotBuffers.{product_at, dot_of, IsDot}
use Rattle.rsp_routines.proofs.Bytes.{lane_half}
use Rattle.rsp_routines.proofs.Tails.{tail_at, tail_lane}

-- the sum over eight lanes
abbrev pub over : (ℕ → ℤ) → ℤ
over q = (((((((pos 0 +ℤ q 0) +ℤ q 1) +ℤ q 2) +ℤ q 3) +ℤ q 4) +ℤ q 5) +ℤ q 6) +ℤ q 7

over_plus : (p q : ℕ → ℤ) → over (λ i. p i +ℤ q i) ≡ over p +ℤ over q
over_plus p q = omega (arith, ints)

pub over_same : (p q : ℕ → ℤ) → ((i : ℕ) → i < 8 → p i ≡ q i) → over p ≡ over q
over_same p q e = rw (e 0 (omega arith), e 1 (omega arith), e 2 (omega arith), e 3 (omega arith), e 4 (omega arith), e 5 (omega arith), e 6 (omega arith), e 7 (omega arith)) refl

-- d adds up numbers p: the last h of them, or eight, are in lanes
tail_sums : (p d : ℕ → ℤ) (j : ℕ) → ((i : ℕ) → d (j + (i + 1)) ≡ d (j + i) +ℤ p (j + i)) → (h : ℕ) → h < 8
    → over (λ i. if nat_le (8 - h) i then p (j + (i + h - 8)) else pos 0) +ℤ d j ≡ d (j + h)
tail_sums p d j recur = below_eight (λ h. over (λ i. if nat_le (8 - h) i then p (j + (i + h - 8)) else pos 0) +ℤ d j ≡ d (j + h))
    (let z : d (j + 0) ≡ d j = ap d (omega arith) in omega (arith, ints))
    (let z : d (j + 0) ≡ d j = ap d (omega arith) in let r0 = recur 0 in omega (arith, ints))
    (let z : d (j + 0) ≡ d j = ap d (omega arith) in let r0 = recur 0 in let r1 = recur 1 in omega (arith, ints))
    (let z : d (j + 0) ≡ d j = ap d (omega arith) in let r0 = recur 0 in let r1 = recur 1 in let r2 = recur 2 in omega (arith, ints))
    (let z : d (j + 0) ≡ d j = ap d (omega arith) in let r0 = recur 0 in let r1 = recur 1 in let r2 = recur 2 in let r3 = recur 3 in omega (arith, ints))
    (let z : d (j + 0) ≡ d j = ap d (omega arith) in let r0 = recur 0 in let r1 = recur 1 in let r2 = recur 2 in let r3 = recur 3 in let r4 = recur 4 in omega (arith, ints))
    (let z : d (j + 0) ≡ d j = ap d (omega arith) in let r0 = recur 0 in let r1 = recur 1 in let r2 = recur 2 in let r3 = recur 3 in let r4 = recur 4 in let r5 = recur 5 in omega (arith, ints))
    (let z : d (j + 0) ≡ d j = ap d (omega arith) in let r0 = recur 0 in let r1 = recur 1 in let r2 = recur 2 in let r3 = recur 3 in let r4 = recur 4 in let r5 = recur 5 in let r6 = recur 6 in omega (arith, ints))

block_sums : (p d : ℕ → ℤ) (j : ℕ) → ((i : ℕ) → d (j + (i + 1)) ≡ d (j + i) +ℤ p (j + i)) → over (λ i. p (j + i)) +ℤ d j ≡ d (j + 8)
block_sums p d j recur =
    let z : d (j + 0) ≡ d j = ap d (omega arith) in
    let r0 = recur 0 in
    let r1 = recur 1 in
    let r2 = recur 2 in
    let r3 = recur 3 in
    let r4 = recur 4 in
    let r5 = recur 5 in
    let r6 = recur 6 in
    let r7 = recur 7 in
    omega (arith, ints)

one_more : (m : List ℕ) (a b j i : ℕ) → dot_of m a b (j + (i + 1)) ≡ dot_of m a b (j + i) +ℤ product_at m a b (j + i)
one_more m a b j i = ap (dot_of m a b) (let e : j + (i + 1) ≡ suc (j + i) = omega arith in e)

-- a product of tails
if_product : (c : Bool) (x y : ℕ) → s16 (if c then x else 0) *ℤ s16 (if c then y else 0) ≡ (if c then s16 x *ℤ s16 y else pos 0)
if_product true x y = refl
if_product false x y = refl

abbrev pub lane_product : List ℕ → List ℕ → ℕ → ℤ
lane_product v w i = s16 (get_or v i 0) *ℤ s16 (get_or w i 0)

tail_product : (m : List ℕ) (a b q h i : ℕ) → a % 16 ≡ 0 → b % 16 ≡ 0 → h < 8 → i < 8
    → lane_product (tail_at m (a + (16 * q + 2 * h))) (tail_at m (b + (16 * q + 2 * h))) i ≡ (if nat_le (8 - h) i then product_at m a b (8 * q + (i + h - 8)) else pos 0)
tail_product m a b q h i fa fb l k =
    let at = λ (c : ℕ) (f : c % 16 ≡ 0). tail_lane m (c + (16 * q + 2 * h)) h i (part_of c q h f l) l k ∙ ap (λ x. if nat_le (8 - h) i then half_at m x else 0) (same c q h (i + h - 8)) in
    rw (at a fa, at b fb) (if_product (nat_le (8 - h) i) (half_at m (a + 2 * (8 * q + (i + h - 8)))) (half_at m (b + 2 * (8 * q + (i + h - 8)))))
  where
    part_of : (c q h : ℕ) → c % 16 ≡ 0 → h < 8 → (c + (16 * q + 2 * h)) % 16 ≡ 2 * h
    part_of c q h f l = omega arith

    same : (c q h j : ℕ) → c + (16 * q + 2 * h) - 2 * h + 2 * j ≡ c + 2 * (8 * q + j)
    same c q h j = omega arith

pub tails : (m : List ℕ) (a b q h : ℕ) → a % 16 ≡ 0 → b % 16 ≡ 0 → h < 8
    → over (lane_product (tail_at m (a + (16 * q + 2 * h))) (tail_at m (b + (16 * q + 2 * h)))) +ℤ dot_of m a b (8 * q) ≡ dot_of m a b (8 * q + h)
tails m a b q h fa fb l =
    ap (λ z. z +ℤ dot_of m a b (8 * q)) (over_same (lane_product (tail_at m (a + (16 * q + 2 * h))) (tail_at m (b + (16 * q + 2 * h)))) (λ i. if nat_le (8 - h) i then product_at m a b (8 * q + (i + h - 8)) else pos 0) (λ i k. tail_product m a b q h i fa fb l k))
    ∙ tail_sums (product_at m a b) (dot_of m a b) (8 * q) (one_more m a b (8 * q)) h l

blocks : (m : List ℕ) (a b k : ℕ) → over (lane_product (lanes_at m (a + 16 * k)) (lanes_at m (b + 16 * k))) +ℤ dot_of m a b (8 * k) ≡ dot_of m a b (8 * (k + 1))
blocks m a b k =
    let at = λ (c i : ℕ) (h : i < 8). lane_half m (c + 16 * k) i h ∙ ap (half_at m) (same c k i) in
    ap (λ z. z +ℤ dot_of m a b (8 * k)) (over_same (lane_product (lanes_at m (a + 16 * k)) (lanes_at m (b + 16 * k))) (λ i. product_at m a b (8 * k + i)) (λ i h. rw (at a i h, at b i h) refl))
    ∙ block_sums (product_at m a b) (dot_of m a b) (8 * k) (one_more m a b (8 * k)) ∙ ap (dot_of m a b) (let e : 8 * k + 8 ≡ 8 * (k + 1) = omega arith in e)
  where
    same : (c k i : ℕ) → c + 16 * k + 2 * i ≡ c + 2 * (8 * k + i)
    same c k i = omega arith

-- what round k multiplies: the tail first, and then the whole vectors; and the sums of each lane before it
abbrev pub vector_of : List ℕ → ℕ → ℕ → ℕ → List ℕ
vector_of m a n zero = tail_at m (a + n)
vector_of m a n (suc k) = lanes_at m (a + 16 * k)

abbrev pub part : List ℕ → ℕ → ℕ → ℕ → ℕ → ℕ → ℤ
part m a b n zero i = pos 0
part m a b n (suc k) i = part m a b n k i +ℤ lane_product (vector_of m a n k) (vector_of m b n k) i

parts : (m : List ℕ) (a b n k : ℕ) → over (part m a b n (suc k)) ≡ over (lane_product (tail_at m (a + n)) (tail_at m (b + n))) +ℤ dot_of m a b (8 * k)
parts m a b n zero = first (lane_product (tail_at m (a + n)) (tail_at m (b + n))) ∙ ap (λ z. over (lane_product (tail_at m (a + n)) (tail_at m (b + n))) +ℤ z) (ap (dot_of m a b) (let e : 0 ≡ 8 * 0 = refl in e))
  where
    first : (q : ℕ → ℤ) → over (λ i. pos 0 +ℤ q i) ≡ over q +ℤ pos 0
    first q = omega (arith, ints)
parts m a b n (suc k) =
    let t = over (lane_product (tail_at m (a + n)) (tail_at m (b + n))) in
    let u = lane_product (lanes_at m (a + 16 * k)) (lanes_at m (b + 16 * k)) in
    over_plus (part m a b n (suc k)) u ∙ ap (λ z. z +ℤ over u) (parts m a b n k) ∙ turned t (dot_of m a b (8 * k)) (over u)
    ∙ ap (λ z. t +ℤ z) (blocks m a b k ∙ ap (dot_of m a b) (let e : 8 * (k + 1) ≡ 8 * suc k = omega arith in e))
  where
    turned : (x y z : ℤ) → (x +ℤ y) +ℤ z ≡ x +ℤ (z +ℤ y)
    turned x y z = omega (arith, ints)

pub all_parts : (m : List ℕ) (a b n : ℕ) → IsDot a b n → over (part m a b n (n / 16 + 1)) ≡ dot_of m a b (n / 2)
all_parts m a b n is =
    let q = n / 16 in
    let h = n / 2 % 8 in
    let even = is.whole in
    let e : n ≡ 16 * q + 2 * h = omega arith in
    let f : 8 * q + h ≡ n / 2 = omega arith in
    ap (λ k. over (part m a b n k)) (let g : n / 16 + 1 ≡ suc q = omega arith in g)
    ∙ parts m a b n q
    ∙ ap (λ k. over (lane_product (tail_at m (a + k)) (tail_at m (b + k))) +ℤ dot_of m a b (8 * q)) e
    ∙ tails m a b q h is.first_area.aligned is.second_area.aligned (omega arith) ∙ ap (dot_of m a b) f
