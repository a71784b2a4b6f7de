-- The lengths of banks.
use Rattle.std.proofs.Common.{◌≤◌, length, arith}
use Rattle.rsp_memory.specs.declared.bank.Bank.{Bank}
use Rattle.rsp_memory.specs.declared.bank.Bank.TheVariants.{Dmem, Imem, Rdram}
use Rattle.rsp_machine.specs.State.{State}
use Rattle.rsp_machine.specs.Host.{bank_length}

-- no bank has more than 8 MB
pub bank_length-small : (b : Bank) (s : State) → length s.rdram ≤ 8388608 → bank_length b s ≤ 8388608
bank_length-small Dmem s h = omega arith
bank_length-small Imem s h = omega arith
bank_length-small Rdram s h = h

pub ruleset words = (bank_length-small)
