use Rattle.std.proofs.Common.{ap, ◌∙◌, sym, ◌+◌, ◌*◌, arith}
use Rattle.std.specs.Prelude.{if◌then◌else◌, Some, None}
use Rattle.rsp_syntax.specs.declared.fault.AsmFaultKind.TheVariants.{PastEnd}
use Rattle.std.proofs.lemmas.Result.{err_from_is_err_and}
use Rattle.std.proofs.lemmas.Bool.{lt-ltb, le-ltb}
use Rattle.rsp_asm.specs.LineParts.{seen_parts}
use Rattle.rsp_asm.proofs.LineFaults.{line_fault, line_last, line_size_is}
use Rattle.rsp_asm.proofs.line.check_line.Goals as goal

pub returns-in_err-size-clause-err : goal.returns-in_err-size-clause-err
returns-in_err-size-clause-err c =
    let p = err_from_is_err_and c.from_residual.result c.from_residual.ensures.1 in
    rw (p.1, p.2) (line_fault c.args.labels.now c.args.address c.args.line.now (seen_parts c.in-Some.parts) c.in-Some.ensures (sym c.is_label_taken.ensures ∙ c.if-is_label_taken.false) c.in_err-size.field-0.0 c.in_err-size.ensures)

pub returns-then-size-from-clause-err : goal.returns-then-size-from-clause-err
returns-then-size-from-clause-err c =
    let size = c.in_ok-size.size in
    line_last c.args.labels.now c.args.address c.args.line.now (seen_parts c.in-Some.parts) c.in-Some.ensures (sym c.is_label_taken.ensures ∙ c.if-is_label_taken.false) size c.in_ok-size.ensures
    ∙ ap (λ b. if b then Some PastEnd else None) (lt-ltb 4096 (c.args.address + 4 * size) (omega arith))

pub returns-clause-fault : goal.returns-clause-fault
returns-clause-fault c =
    let size = c.in_ok-size.size in
    line_last c.args.labels.now c.args.address c.args.line.now (seen_parts c.in-Some.parts) c.in-Some.ensures (sym c.is_label_taken.ensures ∙ c.if-is_label_taken.false) size c.in_ok-size.ensures
    ∙ ap (λ b. if b then Some PastEnd else None) (le-ltb 4096 (c.args.address + 4 * size) (omega arith))

pub returns-clause-size : goal.returns-clause-size
returns-clause-size c = line_size_is c.args.address c.args.line.now (seen_parts c.in-Some.parts) c.in_ok-size.size c.in-Some.ensures c.in_ok-size.ensures
