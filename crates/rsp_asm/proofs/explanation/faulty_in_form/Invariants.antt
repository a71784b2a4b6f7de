use Rattle.std.proofs.Common.{◌≡◌, ◌+◌, ◌≤◌, length}
use Rattle.std.specs.Prelude.{option_map}
use Rattle.rsp_syntax.specs.Statement.{operand_texts}
use Rattle.rsp_asm.specs.Forms.{form}
use Rattle.rsp_asm.specs.FormOperands.{expected_in, faulty_in_shape}
use Rattle.rsp_asm.proofs.Explaining.{found}
use Rattle.rsp_asm.proofs.explanation.faulty_in_form.Given as goal

abbrev pub invariant-loop-operand : goal.invariant-loop-operand
invariant-loop-operand l =
    let labels = option_map (λ t. t.now) l.fn.labels in
    let takes = expected_in (form l.fn.named) in
    record {
      found : found labels takes l.index l.refused l.operands ≡ faulty_in_shape labels (form l.fn.named) (operand_texts l.fn.text);
      count : l.index + length l.operands ≡ length (operand_texts l.fn.text);
      few : length (operand_texts l.fn.text) ≤ length l.fn.text + 1;
    }

abbrev pub decreases-loop-operand : goal.decreases-loop-operand
decreases-loop-operand l = length l.operands
