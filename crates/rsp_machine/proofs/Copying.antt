-- A memory whose bytes are all written, and the registers of a state in another state with the same memories.
use Rattle.std.proofs.Common.{◌≡◌, ℕ, ◌+◌, List, ◌++◌, length, ap, ◌∙◌, arith}
use Rattle.std.proofs.lemmas.List.{drop_all, append-nil}
use Rattle.rsp_memory.specs.Memory.{with_bytes}
use Rattle.rsp_memory.proofs.Runs.{with_bytes-spliced}
use Rattle.rsp_numbers.specs.Numbers.{AreNumbers}
use Rattle.rsp_acc.proofs.Rejoined.{parts_joined}
use Rattle.rsp_machine.specs.State.{State}
use Rattle.rsp_machine.specs.Registers.{registers_of, with_registers}

-- all bytes of a memory written over those of another
pub written-whole : (m bytes : List ℕ) → length m ≡ 4096 → length bytes ≡ 4096 → with_bytes m 0 bytes ≡ bytes
written-whole m bytes h k =
    with_bytes-spliced m 0 bytes (omega (arith, k)) h
    ∙ ap (λ xs. bytes ++ xs) (drop_all (0 + length bytes) m (omega (arith, h, k)))
    ∙ append-nil bytes

-- set in a state with the same memories they make the same state
pub with-registers-as : (s t : State) → AreNumbers s.accumulators → t.dmem ≡ s.dmem → t.imem ≡ s.imem → t.rdram ≡ s.rdram
    → with_registers (registers_of s) t ≡ s
unfolding with_registers registers_of
with-registers-as s t h d i r = rw (d, i, r) (ap (λ xs. record s { accumulators = xs }) (parts_joined s.accumulators h))
