-- Scaffolding of the contracts: the fields of an operand in the code, in the order of its text.
use Rattle.std.specs.Prelude.{ℕ, List, [], ◌∷◌, Option, Some, None, Result, Ok, Err}
use Rattle.rsp_syntax.specs.declared.fault.AsmFaultKind.{AsmFaultKind}
use Rattle.rsp_operands.specs.declared.fields.Fields.{Fields}

abbrev pub optional : Option ℕ → List ℕ
optional None = []
optional (Some n) = n ∷ []

abbrev pub field_values : Fields → List ℕ
field_values f = f.first ∷ optional f.second

abbrev pub fields_in : Result Fields AsmFaultKind → Result (List ℕ) AsmFaultKind
fields_in (Ok f) = Ok (field_values f)
fields_in (Err kind) = Err kind
