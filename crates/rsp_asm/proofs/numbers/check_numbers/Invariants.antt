use Rattle.std.proofs.Common.{◌≡◌, ◌≤◌, ◌+◌, ℕ, length, false}
use Rattle.rsp_syntax.specs.Statement.{read_numbers, operand_texts}
use Rattle.rsp_asm.specs.Statements.{count_or_fault}
use Rattle.rsp_asm.proofs.numbers.check_numbers.Given as goal

abbrev pub invariant-loop-operand : goal.invariant-loop-operand
invariant-loop-operand l =
    let ts = operand_texts l.text in
    ((address : ℕ) → count_or_fault address l.bad (length ts) (read_numbers l.operands) ≡ count_or_fault address false (length ts) (read_numbers ts))
    × (l.count + length l.operands ≡ length ts) × (length ts ≤ length l.text + 1)

abbrev pub decreases-loop-operand : goal.decreases-loop-operand
decreases-loop-operand l = length l.operands
