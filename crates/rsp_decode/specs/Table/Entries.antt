-- Rows as the code has them, for the contract of its table. The instruction of a row is in Words.antt.
use Rattle.std.specs.Prelude.{ℕ, List}
use Rattle.rsp_decode.specs.declared.rows.TableRow.{TableRow}
use Rattle.rsp_decode.specs.Table.Operands.{Operand}
use Rattle.rsp_decode.specs.Table.Rows.{Row}

-- a row without its instruction
pub record Entry : Type 0 where
  pub name : List ℕ
  pub mask : ℕ
  pub value : ℕ
  pub operands : List Operand

abbrev pub entry_of : Row → Entry
entry_of r = record { name = r.name; mask = r.mask; value = r.value; operands = r.operands }

-- an entry of the code
abbrev pub entry : TableRow → Entry
entry r = record { name = r.name.now; mask = r.mask; value = r.value; operands = r.operands.now }
