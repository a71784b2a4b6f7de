use Rattle.std.proofs.Common.{◌∙◌, inl, inr}
use Rattle.std.specs.Str.Lines.{lines}
use Rattle.rsp_asm.proofs.Faults.{first_hides}
use Rattle.rsp_asm.proofs.Explaining.{first_explained, none_explained, second_explained}
use Rattle.rsp_asm.proofs.explanation.explain.Goals as goal

pub returns-in-Err-clause-value : goal.returns-in-Err-clause-value
returns-in-Err-clause-value c = elim (rw c.as_bytes-bytes.ensures.value at c.in-Err.ensures.err) [
  | inl first ↦ (rw c.as_bytes-bytes.ensures.value at c.operand_of_fault.ensures) ∙ first_explained c.args.origin (lines c.args.text.now) c.in-Err.fault first
  | inr short ↦ absurd (c.in_default.not-OutOfMemory short.kind)
]

pub returns-in-Ok-second_pass-clause-value : goal.returns-in-Ok-second_pass-clause-value
returns-in-Ok-second_pass-clause-value c =
    let value = c.as_bytes-bytes.ensures.value in
    none_explained c.args.origin (lines c.args.text.now) c.in-Ok.labels (rw value at c.in-Ok.ensures.clean) (rw value at c.in-Ok.ensures.labels) _ (rw value at c.in-Ok-second_pass.ensures.ok)

pub returns-clause-value : goal.returns-clause-value
returns-clause-value c =
    let value = c.as_bytes-bytes.ensures.value in
    (rw value at c.operand_of_fault-in-Err-second_pass.ensures)
    ∙ second_explained c.args.origin (lines c.args.text.now) c.in-Ok.labels (rw value at c.in-Ok.ensures.clean) (rw value at c.in-Ok.ensures.labels) c.in-Err-second_pass.fault (rw value at c.in-Err-second_pass.ensures.err)

pub returns-in-OutOfMemory-clause-hides : goal.returns-in-OutOfMemory-clause-hides
returns-in-OutOfMemory-clause-hides c =
    (_, first_hides c.args.origin c.args.text.now c.in-Err.fault (rw c.as_bytes-bytes.ensures.value at c.in-Err.ensures.err) c.in-OutOfMemory.is)
