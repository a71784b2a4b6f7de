-- Products in lanes of 32 bits.
use Rattle.std.proofs.Common.{◌≡◌, ℕ, ◌*◌, ◌/◌, ◌%◌, ◌^◌, ◌<◌, ◌≤◌, List, get_or, map, replicate, arith, ap, ◌∙◌}
use Rattle.std.specs.Simd.Lanes.{zip2}
use Rattle.std.proofs.Math.Nat.{mul-le-mul_left}
use Rattle.rsp_lanes.specs.Lanes.{each_lane, IsVector}
use Rattle.rsp_lanes.proofs.Kit.{map_each, zip2_of_each, each_same, replicate_each}

pub small_product : (x y : ℕ) → x < 65536 → y < 65536 → x * y < 2 ^ 32
small_product x y h k =
    let a : x * y ≤ x * 65535 = mul-le-mul_left x (omega arith) in
    omega arith

abbrev pub wide : List ℕ → List ℕ → List ℕ
wide a b = zip2 (λ x y. x * y % 2 ^ 32) (map (λ x. x) a) (map (λ x. x) b)

pub wide_is : (a b : List ℕ) → IsVector a → IsVector b → wide a b ≡ each_lane (λ i. get_or a i 0 * get_or b i 0)
wide_is a b u v =
    rw (map_each (λ x. x) 0 a u.0, map_each (λ x. x) 0 b v.0)
    (zip2_of_each (λ x y. x * y % 2 ^ 32) (λ i. get_or a i 0) (λ i. get_or b i 0) ∙ each_same _ _ (λ i h. let s = small_product _ _ (u.1 i) (v.1 i) in omega (arith, s)))

pub high_is : (a b : List ℕ) → IsVector a → IsVector b → zip2 (λ x n. x / 2 ^ n) (wide a b) (replicate 8 16) ≡ each_lane (λ i. get_or a i 0 * get_or b i 0 / 65536)
high_is a b u v = ap (λ w. zip2 (λ x n. x / 2 ^ n) w (replicate 8 16)) (wide_is a b u v) ∙ ap (zip2 (λ x n. x / 2 ^ n) (each_lane (λ i. get_or a i 0 * get_or b i 0))) (replicate_each 16) ∙ zip2_of_each (λ x n. x / 2 ^ n) (λ i. get_or a i 0 * get_or b i 0) (λ _. 16)
