-- The registers of a state, set in that state.
use Rattle.std.proofs.Common.{◌≡◌, ◌<◌, ◌%◌, ℕ, true, refl, ap, arith, None}
use Rattle.std.specs.Prelude.{◌==◌}
use Rattle.std.proofs.lemmas.Bool.Decides.{nat_tests}
use Rattle.rsp_numbers.specs.Numbers.{AreNumbers}
use Rattle.rsp_acc.proofs.Rejoined.{parts_joined}
use Rattle.rsp_machine.specs.State.{State, IsState}
use Rattle.rsp_machine.specs.Registers.{registers_of, with_registers, registers_fault, is_whole, SetAsRead}

pub with-registers-of : (s : State) → AreNumbers s.accumulators → with_registers (registers_of s) s ≡ s
unfolding with_registers registers_of
with-registers-of s h = ap (λ xs. record s { accumulators = xs }) (parts_joined s.accumulators h)

-- they have no fault
whole_is : (step limit n : ℕ) → n < limit → n % step ≡ 0 → is_whole step limit n ≡ true
whole_is step limit n h e = grind (arith, nat_tests)

zero_is : (n : ℕ) → n ≡ 0 → (n == 0) ≡ true
zero_is n e = grind (arith, nat_tests)

fits : (s : State) → IsState s → registers_fault (registers_of s) ≡ None
unfolding registers_of
fits s h = rw (
  whole_is 4 4096 s.pc h.pc.0 h.pc.1,
  whole_is 4 4096 s.npc h.npc.0 h.npc.1,
  zero_is _ h.registers.zero,
  whole_is 8 8192 s.sp.memory h.sp.kept.memory.0 h.sp.kept.memory.1,
  whole_is 8 16777216 s.sp.dram h.sp.kept.dram.0 h.sp.kept.dram.1,
  whole_is 8 4096 s.sp.skip h.sp.kept.skip.0 h.sp.kept.skip.1,
) refl

pub set-as-read : SetAsRead
set-as-read s h = (fits s h, with-registers-of s h.accumulators)
