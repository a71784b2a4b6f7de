use Rattle.std.proofs.Common.{ap, ◌∙◌, sym, arith, ℕ, List, length, []}
use Rattle.std.specs.Prelude.{option_map, Ok}
use Rattle.rsp_syntax.specs.declared.operand_range.OperandRange.TheVariants.{Word}
use Rattle.rsp_syntax.specs.Numbers.{expression_of}
use Rattle.rsp_syntax.specs.Statement.{operand_texts, read_numbers, ranged_value}
use Rattle.rsp_syntax.specs.OperandResults.{word_fails}
use Rattle.rsp_asm.specs.Statements.{count_or_fault}
use Rattle.rsp_asm.proofs.Texts.{some_texts}
use Rattle.rsp_asm.proofs.Steps.{checked_next, numbers_first, numbers_unread, word_fails_so}
use Rattle.rsp_asm.proofs.Statements.{numbers_checked}
use Rattle.rsp_asm.proofs.numbers.check_numbers.Goals as goal

pub returns-in_default-is_number_out_of_range : goal.returns-in_default-is_number_out_of_range
returns-in_default-is_number_out_of_range c address =
    let ts = operand_texts c.args.text.now in
    let some = some_texts c.args.text.now (sym c.is_empty.ensures ∙ c.if-is_empty.false) in
    ap (count_or_fault address c.loop-operand.bad (length ts)) (numbers_unread word_fails c.in-Some.operand.now c.next.new.self c.in_default-is_number_out_of_range.ensures)
    ∙ ap (λ (left : List (List ℕ)). count_or_fault address c.loop-operand.bad (length ts) (read_numbers left)) (sym c.in-Some.ensures)
    ∙ c.loop-operand.invariant.0 address
    ∙ numbers_checked address ts some

pub loop-operand-preserved : goal.loop-operand-preserved
loop-operand-preserved c =
    let ts = operand_texts c.args.text.now in
    let t = c.in-Some.operand.now in
    let left = c.next.new.self in
    let bad = c.loop-operand.bad in
    let taken = ap length c.in-Some.ensures in
    let count = c.loop-operand.invariant.1 in (
      (λ (address : ℕ). checked_next address (length ts) bad (option_map (ranged_value Word []) (expression_of t)) (read_numbers left) c.in-Some-is_number_out_of_range.beyond (c.in-Some-is_number_out_of_range.ensures ∙ word_fails_so address (expression_of t))
          ∙ ap (count_or_fault address bad (length ts)) (sym (numbers_first t left))
          ∙ ap (λ (xs : List (List ℕ)). count_or_fault address bad (length ts) (read_numbers xs)) (sym c.in-Some.ensures)
          ∙ c.loop-operand.invariant.0 address),
      omega (arith, taken, count),
      c.loop-operand.invariant.2,
    )

pub returns-then-bad : goal.returns-then-bad
returns-then-bad c address =
    let ts = operand_texts c.args.text.now in
    let some = some_texts c.args.text.now (sym c.is_empty.ensures ∙ c.if-is_empty.false) in
    ap (λ b. count_or_fault address b (length ts) (read_numbers [])) (sym c.if-bad.true)
    ∙ ap (λ (left : List (List ℕ)). count_or_fault address c.loop-operand.bad (length ts) (read_numbers left)) (sym c.in_default.ensures)
    ∙ c.loop-operand.invariant.0 address
    ∙ numbers_checked address ts some

pub returns : goal.returns
returns c address =
    let ts = operand_texts c.args.text.now in
    let some = some_texts c.args.text.now (sym c.is_empty.ensures ∙ c.if-is_empty.false) in
    let none = ap length c.in_default.ensures in
    let count = c.loop-operand.invariant.1 in
    ap Ok (omega (arith, none, count))
    ∙ ap (λ b. count_or_fault address b (length ts) (read_numbers [])) (sym c.if-bad.false)
    ∙ ap (λ (left : List (List ℕ)). count_or_fault address c.loop-operand.bad (length ts) (read_numbers left)) (sym c.in_default.ensures)
    ∙ c.loop-operand.invariant.0 address
    ∙ numbers_checked address ts some
