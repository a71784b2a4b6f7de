use Rattle.std.proofs.Common.{ap, ◌∙◌, sym, subst, arith, List, ℕ, length, length-append, []}
use Rattle.std.specs.Prelude.{Some}
use Rattle.rsp_syntax.specs.Statement.{operand_texts}
use Rattle.rsp_asm.proofs.Passes.{on_ok, on_err}
use Rattle.rsp_asm.proofs.Texts.{some_texts}
use Rattle.rsp_asm.proofs.Steps.{Part, part_more, part_fault, part_unread}
use Rattle.rsp_asm.proofs.Statements.{numbers_said, numbers_full, all_put, none_put}
use Rattle.rsp_asm.proofs.numbers.push_numbers.Goals as goal

pub returns-in-None : goal.returns-in-None
returns-in-None c address =
    let ts = operand_texts c.args.text.now in
    let labels = c.args.labels.now in
    let old = c.args.words.now.items in
    let new = c.loop-operand.words.items in
    let fault = c.loop-operand.fault in
    let some = some_texts c.args.text.now (sym c.is_empty.ensures ∙ c.if-is_empty.false) in
    let part = subst (λ (left : List (List ℕ)). Part labels old new fault left ts) c.in-Some.ensures c.loop-operand.invariant in
    sym (numbers_said labels address ts some) ∙ part_unread labels old new fault c.in-Some.operand.now c.next.new.self ts part c.in-None.ensures address

pub loop-operand-preserved-in-Some-Err : goal.loop-operand-preserved-in-Some-Err
loop-operand-preserved-in-Some-Err c =
    let ts = operand_texts c.args.text.now in
    let labels = c.args.labels.now in
    let old = c.args.words.now.items in
    let new = c.loop-operand.words.items in
    let fault = c.loop-operand.fault in
    let part = subst (λ (left : List (List ℕ)). Part labels old new fault left ts) c.in-Some.ensures c.loop-operand.invariant in
    subst (λ f. Part labels old new f c.next.new.self ts) (sym c.or-fault.ensures)
    (part_fault labels old new fault c.in-Some.operand.now c.next.new.self ts part c.in-Some-Err.kind (ap Some (sym c.in-Some-Err.field-0-is) ∙ c.in-Some-Err.ensures))

pub returns-then-is_err : goal.returns-then-is_err
returns-then-is_err c address =
    let ts = operand_texts c.args.text.now in
    let labels = c.args.labels.now in
    let old = c.args.words.now.items in
    let part = c.loop-operand.invariant in
    let some = some_texts c.args.text.now (sym c.is_empty.ensures ∙ c.if-is_empty.false) in
    let taken = ap length c.in-Some.ensures in
    let few = part.few in
    let kept = ap length part.kept in
    let full = on_err c.try_push.result _ (sym c.is_err.ensures.value ∙ c.if-is_err.true) c.try_push.ensures.full in
    let room = c.requires in
    numbers_full labels address ts some (length part.words)
    (omega (arith, room, kept, full, length-append old part.words))
    (omega (arith, few, taken))

pub loop-operand-preserved : goal.loop-operand-preserved
loop-operand-preserved c =
    let ts = operand_texts c.args.text.now in
    let labels = c.args.labels.now in
    let old = c.args.words.now.items in
    let new = c.loop-operand.words.items in
    let fault = c.loop-operand.fault in
    let part = subst (λ (left : List (List ℕ)). Part labels old new fault left ts) c.in-Some.ensures c.loop-operand.invariant in
    part_more labels old new fault c.in-Some.operand.now c.next.new.self ts part c.in-Some-Ok.word c.try_push.new.self.items (ap Some (sym c.in-Some-Ok.field-0-is) ∙ c.in-Some-Ok.ensures)
    (on_ok c.try_push.result _ (sym c.is_err.ensures.value ∙ c.if-is_err.false) c.try_push.ensures.ok)

pub returns-in-None-fault : goal.returns-in-None-fault
returns-in-None-fault c address =
    let ts = operand_texts c.args.text.now in
    let labels = c.args.labels.now in
    let old = c.args.words.now.items in
    let new = c.loop-operand.words.items in
    let some = some_texts c.args.text.now (sym c.is_empty.ensures ∙ c.if-is_empty.false) in
    all_put labels address ts some old new
    (subst (λ f. Part labels old new f [] ts) c.in-None-fault.is (subst (λ (left : List (List ℕ)). Part labels old new c.loop-operand.fault left ts) c.in_default.ensures c.loop-operand.invariant))

pub returns-in-Some-fault : goal.returns-in-Some-fault
returns-in-Some-fault c address =
    let ts = operand_texts c.args.text.now in
    let labels = c.args.labels.now in
    let old = c.args.words.now.items in
    let new = c.loop-operand.words.items in
    let some = some_texts c.args.text.now (sym c.is_empty.ensures ∙ c.if-is_empty.false) in
    none_put labels address ts some old new c.in-Some-fault.kind
    (subst (λ f. Part labels old new f [] ts) c.in-Some-fault.is (subst (λ (left : List (List ℕ)). Part labels old new c.loop-operand.fault left ts) c.in_default.ensures c.loop-operand.invariant))
