-- LRV into a register of zeros: the numbers of two bytes after the last multiple of 16.
use Rattle.std.proofs.Common.{◌≡◌, ℕ, ◌+◌, ◌-◌, ◌*◌, ◌/◌, ◌%◌, ◌<◌, ◌≤◌, ◌&&◌, Bool, true, false, List, get_or, nat_le, nat_lt, ◌∙◌, refl, arith, inl, inr}
use Rattle.std.specs.Prelude.{if◌then◌else◌, ◌==◌}
use Rattle.std.proofs.lemmas.Bool.{cases_lt, le-leb, lt-leb}
use Rattle.std.proofs.lemmas.Bool.Decides.{nat_tests}
use Rattle.rsp_memory.specs.Memory.{half_at, byte_at, bytes_at}
use Rattle.rsp_lanes.specs.Lanes.{each_lane, register_byte}
use Rattle.rsp_lanes.specs.Bytes.{of_bytes}
use Rattle.rsp_lanes.proofs.Kit.{lane_of}
use Rattle.rsp_loadstore.specs.Pairs.{quadword_start}
use Rattle.rsp_loadstore.proofs.BytesLoaded.{window_byte}
use Rattle.rsp_routines.proofs.RightLoads.{ended_at}

-- the tail of a buffer that ends at e
abbrev pub zeros : List ℕ
zeros = each_lane (λ _. 0)

abbrev pub tail_at : List ℕ → ℕ → List ℕ
tail_at m e = ended_at zeros m e

zero_byte : (k : ℕ) → k < 16 → register_byte zeros k ≡ 0
unfolding register_byte
zero_byte k h =
    let z : get_or zeros (k / 2) 0 ≡ 0 = lane_of 0 (λ _. 0) zeros refl (k / 2) (omega arith) in
    rw z (same_0 (k % 2 == 0))
  where
    same_0 : (b : Bool) → (if b then 0 / 256 else 0 % 256) ≡ 0
    same_0 true = refl
    same_0 false = refl

pub tail_lane : (m : List ℕ) (e h i : ℕ) → e % 16 ≡ 2 * h → h < 8 → i < 8 → get_or (tail_at m e) i 0 ≡ (if nat_le (8 - h) i then half_at m (e - 2 * h + 2 * (i + h - 8)) else 0)
unfolding of_bytes half_at
tail_lane m e h i q l k =
    lane_of 0 (λ i. f (2 * i) * 256 + f (2 * i + 1)) (tail_at m e) refl i k
    ∙ elim (cases_lt i (8 - h)) [
      | inl lt ↦
          let p = lt-leb (8 - h) i lt in
          rw (p, zero_part (2 * i) (omega arith), zero_part (2 * i + 1) (omega arith)) refl
      | inr ge ↦
          let p = le-leb (8 - h) i ge in
          let a : quadword_start e + (2 * i - (16 - e % 16 + 0)) ≡ e - 2 * h + 2 * (i + h - 8) = omega arith in
          let b : quadword_start e + (2 * i + 1 - (16 - e % 16 + 0)) ≡ e - 2 * h + 2 * (i + h - 8) + 1 = omega arith in
          rw (p, taken (2 * i) (omega arith) (omega arith), taken (2 * i + 1) (omega arith) (omega arith), a, b) refl
    ]
  where
    f : ℕ → ℕ
    f k = if nat_le (16 - e % 16 + 0) k && nat_lt k (16 - e % 16 + 0 + (e % 16 - 0)) then get_or (bytes_at m (quadword_start e) 16) (k - (16 - e % 16 + 0)) 0 else register_byte zeros k

    zero_part : (k : ℕ) → k < 16 - e % 16 → f k ≡ 0
    zero_part k h = let z = zero_byte k (omega arith) in grind (arith, nat_tests)

    taken : (k : ℕ) → 16 - e % 16 ≤ k → k < 16 → f k ≡ byte_at m (quadword_start e + (k - (16 - e % 16 + 0)))
    taken k h l = let w = window_byte m (quadword_start e) 16 (k - (16 - e % 16 + 0)) (omega arith) in grind (arith, nat_tests)
