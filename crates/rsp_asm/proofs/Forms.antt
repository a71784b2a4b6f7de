-- The form of a name.
use Rattle.std.proofs.Common.{◌≡◌, refl, sym, ap, ◌∙◌, subst, ℕ, List, length}
use Rattle.std.specs.Prelude.{Option, Some, None, option_map, Result}
use Rattle.std.specs.List.{list_all}
use Rattle.rsp_decode.specs.Table.{Row, Entry, entry_of, is_row_operand}
use Rattle.rsp_syntax.specs.declared.fault.AsmFaultKind.{AsmFaultKind}
use Rattle.rsp_syntax.specs.Statement as meaning
use Rattle.rsp_syntax.specs.Statement.{Form, no_operation, numbers_form, row_form, form_named, operand_texts, with_form}
use Rattle.rsp_asm.specs.declared.statement.Form as code
use Rattle.rsp_asm.specs.declared.statement.Statement.{Statement}
use Rattle.rsp_asm.specs.declared.statement.Form.TheVariants.{NoOperation, Numbers}
use Rattle.rsp_asm.specs.declared.statement.Form.TheVariants as code_form
use Rattle.rsp_asm.specs.Forms.{nothing_shape, numbers_shape, row_shape, form, form_shape, SaysForm, Says}
use Rattle.rsp_asm.proofs.Decodes.{form_usable}

is_nothing : (o : Option Form) → Some nothing_shape ≡ option_map form_shape o → o ≡ Some no_operation
is_nothing None e = absurd cc
is_nothing (Some no_operation) e = refl
is_nothing (Some numbers_form) e = absurd (let bad : nothing_shape ≡ numbers_shape = cc in cc)
is_nothing (Some (row_form r)) e = absurd (let bad : nothing_shape ≡ row_shape (entry_of r) = cc in cc)

is_numbers : (o : Option Form) → Some numbers_shape ≡ option_map form_shape o → o ≡ Some numbers_form
is_numbers None e = absurd cc
is_numbers (Some no_operation) e = absurd (let bad : numbers_shape ≡ nothing_shape = cc in cc)
is_numbers (Some numbers_form) e = refl
is_numbers (Some (row_form r)) e = absurd (let bad : numbers_shape ≡ row_shape (entry_of r) = cc in cc)

pub is_row : (o : Option Form) (e : Entry) → Some (row_shape e) ≡ option_map form_shape o → (r : Row) × (o ≡ Some (row_form r)) × (entry_of r ≡ e)
is_row None e h = absurd cc
is_row (Some no_operation) e h = absurd (let bad : row_shape e ≡ nothing_shape = cc in cc)
is_row (Some numbers_form) e h = absurd (let bad : row_shape e ≡ numbers_shape = cc in cc)
is_row (Some (row_form r)) e h = let same : entry_of r ≡ e = cc in (r, refl, same)

-- no form is found for a name that has none
pub is_none : (o : Option Form) → None ≡ option_map form_shape o → o ≡ None
is_none None e = refl
is_none (Some f) e = absurd cc

-- the statement of a form that was found for a name
module _ (name operands : List ℕ) (said : Result meaning.Statement AsmFaultKind) (is : said ≡ with_form (form_named name (length (operand_texts operands))) (operand_texts operands)) where
  with_found : (f : Form) → form_named name (length (operand_texts operands)) ≡ Some f → said ≡ with_form (Some f) (operand_texts operands)
  with_found f e = is ∙ ap (λ o. with_form o (operand_texts operands)) e

  pub says_form : (f : code.Form) → Some (form f) ≡ option_map form_shape (form_named name (length (operand_texts operands))) → SaysForm f operands said
  says_form NoOperation e = with_found no_operation (is_nothing _ e)
  says_form Numbers e = with_found numbers_form (is_numbers _ e)
  says_form (code_form.Row row) e =
      let found = is_row (form_named name (length (operand_texts operands))) _ e in
      record {
        row = found.0;
        same = found.2;
        usable = ap (λ (x : Entry). list_all is_row_operand x.operands) (sym found.2) ∙ (form_usable name (length (operand_texts operands)) found.0 found.1).kinds;
        is = with_found (row_form found.0) found.1;
      }

-- a statement of the code whose form is known
pub of_form : (o : Option Statement) (s : Statement) (f : code.Form) (said : Result meaning.Statement AsmFaultKind) → o ≡ Some s → s.form ≡ f → Says o said → SaysForm f s.operands.now said
of_form o s f said e g h = subst (λ (x : code.Form). SaysForm x s.operands.now said) g (subst (λ (x : Option Statement). Says x said) e h)
