-- Scaffolding of the contracts: what the disassembler needs of each instruction for its text to fit in 64 bytes. The name has
-- at most six bytes, and there are at most three operands, of the kinds of the instruction table.
use Rattle.std.specs.Prelude.{nat_le, Bool, ◌&&◌, length}
use Rattle.std.specs.List.{list_all}
use Rattle.rsp_decode.specs.Table.{Entry, is_row_operand}

abbrev pub is_short : Entry → Bool
is_short e = list_all is_row_operand e.operands && (nat_le (length e.name) 6 && nat_le (length e.operands) 3)
