-- LQV and LRV together: eight lanes at any address.
use Rattle.std.proofs.Common.{◌≡◌, ℕ, ◌+◌, ◌-◌, ◌*◌, ◌%◌, ◌^◌, ◌<◌, ◌&&◌, List, length, get_or, nat_le, nat_lt, ap, ◌∙◌, refl, arith, inl, inr}
use Rattle.std.specs.Prelude.{if◌then◌else◌}
use Rattle.std.proofs.lemmas.Bool.{cases_lt}
use Rattle.std.proofs.lemmas.Bool.Decides.{nat_tests}
use Rattle.std.proofs.lemmas.List.{set-set}
use Rattle.rsp_memory.specs.Memory.{half_at, byte_at, bytes_at}
use Rattle.rsp_lanes.specs.Lanes.{register_byte, IsVector}
use Rattle.rsp_lanes.specs.Bytes.{of_bytes}
use Rattle.rsp_lanes.proofs.Kit.{each_same, length_each}
use Rattle.rsp_scalar.specs.Registers.{register}
use Rattle.rsp_scalar.specs.Flow.{address_after}
use Rattle.rsp_loadstore.specs.File.{IsFile, vector, with_vector}
use Rattle.rsp_loadstore.specs.Pairs.{quadword_start}
use Rattle.rsp_loadstore.proofs.BytesLoaded.{window_byte}
use Rattle.rsp_machine.specs.State.{State}
use Rattle.rsp_machine.specs.Step.{executed}
use Rattle.rsp_microcode.specs.Lanes.{lqv, lanes_at, HasBytes}
use Rattle.rsp_microcode.proofs.Registers.{length-with_vector}
use Rattle.rsp_microcode.proofs.Multiplies.{read_same}
use Rattle.rsp_routines.proofs.RightLoads.{lrv, ended_at, right_loads}
use Rattle.rsp_routines.proofs.Saving.{reach, saved, saves, saved_byte}

-- the register v after LRV from a + 16
abbrev completed : List ℕ → List ℕ → ℕ → List ℕ
completed v m a = ended_at v m (a + 16)

lanes_whole : (f : ℕ → ℕ) (m : List ℕ) (a : ℕ) → ((k : ℕ) → k < 16 → f k ≡ byte_at m (a + k)) → of_bytes f ≡ lanes_at m a
unfolding of_bytes lanes_at half_at
lanes_whole f m a h = each_same _ _ (λ i l.
    let e : a + 2 * i + 1 ≡ a + (2 * i + 1) = omega arith in
    rw (h (2 * i) (omega arith), e, h (2 * i + 1) (omega arith)) refl)

both_loads : (v m : List ℕ) (a : ℕ) → IsVector v → HasBytes m → completed (saved v m a) m a ≡ lanes_at m a
both_loads v m a is small = lanes_whole _ m a byte
  where
    i : ℕ
    i = 16 - (a + 16) % 16 + 0

    r : ℕ
    r = (a + 16) % 16 - 0

    byte : (k : ℕ) → k < 16 → (if nat_le i k && nat_lt k (i + r) then get_or (bytes_at m (quadword_start (a + 16)) 16) (k - i) 0 else register_byte (saved v m a) k) ≡ byte_at m (a + k)
    byte k h = elim (cases_lt k (reach a)) [
      | inl l ↦ let b = saved_byte v m a k is small l in grind (arith, nat_tests)
      | inr l ↦
          let w : get_or (bytes_at m (quadword_start (a + 16)) 16) (k - i) 0 ≡ byte_at m (quadword_start (a + 16) + (k - i)) = window_byte m (quadword_start (a + 16)) 16 (k - i) (omega arith) in
          let e : quadword_start (a + 16) + (k - i) ≡ a + k = omega arith in
          let f = ap (byte_at m) e in
          grind (arith, nat_tests)
    ]

length_of_bytes : (f : ℕ → ℕ) → length (of_bytes f) ≡ 8
unfolding of_bytes
length_of_bytes f = length_each _

written_twice : (file : List (List ℕ)) (n : ℕ) (v w : List ℕ) → with_vector (with_vector file n v) n w ≡ with_vector file n w
unfolding with_vector
written_twice file n v w = set-set file n v w

pub whole_loads : (vt base : ℕ) (s : State) → IsFile s.vectors → HasBytes s.dmem → vt < 32 → register s.registers base + 16 < 2 ^ 32
    → executed (lrv vt 1 base) (executed (lqv vt 0 base) s)
    ≡ record s { pc = address_after s.npc; npc = address_after (address_after s.npc); vectors = with_vector s.vectors vt (lanes_at s.dmem (register s.registers base)) }
whole_loads vt base s is small h low =
    let b = register s.registers base in
    let v = vector s.vectors vt in
    let w = saved v s.dmem b in
    let t : State = record s { pc = s.npc; npc = address_after s.npc; vectors = with_vector s.vectors vt w } in
    let count : length (with_vector s.vectors vt w) ≡ 32 = length-with_vector s.vectors vt w ∙ is.count in
    let same : vector (with_vector s.vectors vt w) vt ≡ w = read_same s.vectors vt w (omega (arith, is.count)) in
    ap (executed (lrv vt 1 base)) (saves vt base s is h (omega arith))
    ∙ right_loads vt 1 base t count (ap length same ∙ length_of_bytes _) h (omega arith) low
    ∙ ap (λ f. let u : State = record s { pc = address_after s.npc; npc = address_after (address_after s.npc); vectors = f } in u) (
    written_twice s.vectors vt w _ ∙ ap (with_vector s.vectors vt) (ap (λ x. completed x s.dmem b) same ∙ both_loads v s.dmem b (is.registers vt h) small)
    )
