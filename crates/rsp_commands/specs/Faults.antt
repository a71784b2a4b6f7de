-- The names of the faults of lines.
use Rattle.std.specs.Prelude.{ℕ, List, codes}
use Rattle.rsp_commands.specs.declared.fault.LineFault.{LineFault}
use Rattle.rsp_commands.specs.declared.fault.LineFault.TheVariants.{BadCommand, BadNumber, LineTooLong, NotText}

-- the number and the name of a fault
abbrev pub line_fault_name : LineFault → List ℕ
line_fault_name BadCommand = codes "30 BadCommand"
line_fault_name BadNumber = codes "31 BadNumber"
line_fault_name LineTooLong = codes "32 LineTooLong"
line_fault_name NotText = codes "33 NotText"
