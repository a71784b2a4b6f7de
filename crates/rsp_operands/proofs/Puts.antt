-- The word with the fields of an operand.
use Rattle.std.proofs.Common.{◌≡◌, sym, ℕ, true, List, subst}
use Rattle.std.specs.Prelude.{Option, Some, None, option_map, IfOk, Result, Ok, Err}
use Rattle.rsp_decode.specs.Table.{Operand, is_row_operand}
use Rattle.rsp_syntax.specs.declared.fault.AsmFaultKind.{AsmFaultKind}
use Rattle.rsp_syntax.specs.Statement.{Labels, OperandValue, read, fields_of}
use Rattle.rsp_operands.specs.declared.fields.Fields.{Fields}
use Rattle.rsp_operands.specs.OperandValues.{capped_value}
use Rattle.rsp_operands.specs.Fields.{field_values, fields_in}
use Rattle.rsp_operands.specs.FieldsFit.{FitWord}
use Rattle.rsp_operands.proofs.FieldsFit.{HasRoom, read_room}

module _ (labels : Labels) (address : ℕ) where
  -- what some code found are the fields of each reading that it may stand for
  abbrev pub Found : OperandValue → Result Fields AsmFaultKind → Type 0
  Found seen x = (r : OperandValue) → seen ≡ capped_value r → fields_in x ≡ fields_of labels address r

  fit_from : (k : Operand) (o : Option OperandValue) (seen : OperandValue) (f : Fields) → HasRoom labels address k o → Some seen ≡ option_map capped_value o → Found seen (Ok f) → FitWord k (field_values f)
  fit_from k None seen f room e found = absurd cc
  fit_from k (Some r) seen f room e found = at_ok (fields_of labels address r) room (found r cc)
    where
      at_ok : (x : Result (List ℕ) AsmFaultKind) → IfOk x (FitWord k) → Ok (field_values f) ≡ x → FitWord k (field_values f)
      at_ok (Ok vs) h e = let same : field_values f ≡ vs = cc in subst (FitWord k) (sym same) h
      at_ok (Err kind) h e = absurd cc

  pub fields_fit : (k : Operand) (bs : List ℕ) → is_row_operand k ≡ true → (seen : OperandValue) (f : Fields) → Some seen ≡ option_map capped_value (read k bs) → Found seen (Ok f) → FitWord k (field_values f)
  fields_fit k bs fits seen f e found = fit_from k (read k bs) seen f (read_room labels address k bs fits) e found
