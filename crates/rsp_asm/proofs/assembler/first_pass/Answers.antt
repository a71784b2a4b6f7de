use Rattle.std.proofs.Common.{◌≡◌, sym, ap, ◌∙◌, subst, inl, inr, refl, arith, ◌+◌, ◌*◌, ◌≤◌, [], ◌∷◌, ◌++◌, List, ℕ, length}
use Rattle.std.specs.Prelude.{is_some}
use Rattle.std.specs.Str.Lines.{lines}
use Rattle.rsp_syntax.specs.SourceText.{labels_before, labelled, address_of_line, fault_before}
use Rattle.rsp_operands.specs.Labels.{SameAddresses}
use Rattle.rsp_asm.proofs.Passes.{Done, done_more, done_fault, done_all, done_short, on_ok, on_err}
use Rattle.rsp_asm.proofs.assembler.first_pass.Goals as goal

pub returns-in-Err-clause-err : goal.returns-in-Err-clause-err
returns-in-Err-clause-err c =
    let ls = lines c.args.text.now in
    let line = c.in-Some.line.now in
    let more = lines c.in-Some.more.now in
    let table = c.loop-line.labels in
    let done : Done c.args.origin c.loop-line.number ls (line ∷ more) table c.loop-line.address =
    subst (λ (left : List (List ℕ)). Done c.args.origin c.loop-line.number ls left table c.loop-line.address) c.in-Some.ensures.0 c.loop-line.invariant.0 in
    inl (done_fault c.args.origin c.loop-line.number ls line more table c.loop-line.address done c.in-Err.kind c.in-Err.ensures.err)

pub loop-line-preserved : goal.loop-line-preserved
loop-line-preserved c =
    let ls = lines c.args.text.now in
    let line = c.in-Some.line.now in
    let more = lines c.in-Some.more.now in
    let table = c.loop-line.labels in
    let done : Done c.args.origin c.loop-line.number ls (line ∷ more) table c.loop-line.address =
    subst (λ (left : List (List ℕ)). Done c.args.origin c.loop-line.number ls left table c.loop-line.address) c.in-Some.ensures.0 c.loop-line.invariant.0 in
    let noted = on_ok c.add_label.result _ (sym c.is_err.ensures.value ∙ c.if-is_err.false) c.add_label.ensures.ok in (
      done_more c.args.origin c.loop-line.number ls line more table c.loop-line.address done c.add_label.new.labels (c.loop-line.address + 4 * c.in-Ok.found.size)
          c.in-Ok.ensures.fault (subst (λ o. SameAddresses c.add_label.new.labels (labelled o c.loop-line.address ++ table)) c.in-Ok.ensures.label noted) (ap (λ n. c.loop-line.address + 4 * n) c.in-Ok.ensures.size),
      c.in-Ok.ensures.room,
      omega (arith, c.in-Some.ensures.1),
    )

pub returns-clause-clean : goal.returns-clause-clean
returns-clause-clean c =
    let ls = lines c.args.text.now in
    let table = c.loop-line.labels in
    let done : Done c.args.origin c.loop-line.number ls [] table c.loop-line.address =
    subst (λ (left : List (List ℕ)). Done c.args.origin c.loop-line.number ls left table c.loop-line.address) c.in_default.ensures c.loop-line.invariant.0 in
    ap (fault_before c.args.origin ls) (sym (done_all c.args.origin c.loop-line.number ls table c.loop-line.address done)) ∙ done.clean

pub returns-clause-labels : goal.returns-clause-labels
returns-clause-labels c =
    let ls = lines c.args.text.now in
    let table = c.loop-line.labels in
    let done : Done c.args.origin c.loop-line.number ls [] table c.loop-line.address =
    subst (λ (left : List (List ℕ)). Done c.args.origin c.loop-line.number ls left table c.loop-line.address) c.in_default.ensures c.loop-line.invariant.0 in
    subst (λ n. SameAddresses table (labels_before c.args.origin ls n)) (done_all c.args.origin c.loop-line.number ls table c.loop-line.address done) done.labels_are

pub returns-clause-room : goal.returns-clause-room
returns-clause-room c =
    let ls = lines c.args.text.now in
    let table = c.loop-line.labels in
    let done : Done c.args.origin c.loop-line.number ls [] table c.loop-line.address =
    subst (λ (left : List (List ℕ)). Done c.args.origin c.loop-line.number ls left table c.loop-line.address) c.in_default.ensures c.loop-line.invariant.0 in
    let at : c.loop-line.address ≡ address_of_line c.args.origin ls (length ls) = done.address_is ∙ ap (address_of_line c.args.origin ls) (done_all c.args.origin c.loop-line.number ls table c.loop-line.address done) in
    subst (λ p. p ≤ 4096) at c.loop-line.invariant.1

pub returns-then-is_err-clause-err : goal.returns-then-is_err-clause-err
returns-then-is_err-clause-err c =
    let ls = lines c.args.text.now in
    let line = c.in-Some.line.now in
    let more = lines c.in-Some.more.now in
    let table = c.loop-line.labels in
    let done : Done c.args.origin c.loop-line.number ls (line ∷ more) table c.loop-line.address =
    subst (λ (left : List (List ℕ)). Done c.args.origin c.loop-line.number ls left table c.loop-line.address) c.in-Some.ensures.0 c.loop-line.invariant.0 in
    let labelled = ap is_some (sym c.in-Ok.ensures.label) ∙ on_err c.add_label.result _ (sym c.is_err.ensures.value ∙ c.if-is_err.true) c.add_label.ensures.err in
    inr (record { kind = refl; hides = done_short c.args.origin c.loop-line.number ls line more table c.loop-line.address done c.in-Ok.ensures.fault labelled })
