-- The names of the assembler's faults.
use Rattle.std.specs.Prelude.{ℕ, List, codes}
use Rattle.rsp_syntax.specs.declared.fault.AsmFaultKind.{AsmFaultKind}
use Rattle.rsp_syntax.specs.declared.fault.AsmFaultKind.TheVariants.{BadLine, UnknownName, BadOperand, OutOfRange, LabelTwice, LabelMissing, PastEnd, OutOfMemory}

-- the number and the name of a fault
abbrev pub kind_name : AsmFaultKind → List ℕ
kind_name BadLine = codes "10 BadLine"
kind_name UnknownName = codes "11 UnknownName"
kind_name BadOperand = codes "12 BadOperand"
kind_name OutOfRange = codes "13 OutOfRange"
kind_name LabelTwice = codes "14 LabelTwice"
kind_name LabelMissing = codes "15 LabelMissing"
kind_name PastEnd = codes "16 PastEnd"
kind_name OutOfMemory = codes "17 OutOfMemory"
