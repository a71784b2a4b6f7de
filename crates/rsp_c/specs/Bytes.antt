-- The bytes of memories.
use Rattle.std.specs.Prelude.{ℕ, List}
use Rattle.rsp_machine.specs.State.{State}
use Rattle.rsp_memory.specs.declared.bank.Bank.{Bank}
use Rattle.rsp_memory.specs.declared.bank.Bank.TheVariants.{Dmem, Imem, Rdram}

-- the bytes of a bank
abbrev pub bank_bytes : Bank → State → List ℕ
bank_bytes Dmem s = s.dmem
bank_bytes Imem s = s.imem
bank_bytes Rdram s = s.rdram
