use Rattle.std.proofs.Common.{sym, ap, ◌∙◌, ◌<◌, ◌∷◌, ◌==◌, arith, length}
use Rattle.std.specs.Str.Lines.{lines}
use Rattle.rsp_syntax.specs.declared.line_bytes.Boundary.TheVariants.{Newline}
use Rattle.rsp_syntax.proofs.Cuts.{IsCut, cut_some, cut_nothing}
use Rattle.rsp_syntax.specs.Cuts.{is_boundary}
use Rattle.std.proofs.lemmas.Grind.{common_steps}
use Rattle.rsp_syntax.proofs.TextLines.{first_line, last_line}
use Rattle.rsp_explain.proofs.ScriptLines.{after_none}
use Rattle.rsp_explain.proofs.places.next_line.Goals as goal

pub returns-in-Some-clause-line : goal.returns-in-Some-clause-line
returns-in-Some-clause-line c =
    let text = c.args.text.now in
    let line = c.in-Some.line.now in
    let rest = c.in-Some.rest.now in
    let k : IsCut (is_boundary Newline) text line rest = cut_some Newline text line rest c.in-Some.ensures in
    ap lines k.whole ∙ first_line line rest k.stop k.plain k.stops_there ∙ ap (λ t. t ∷ lines rest) (sym c.without_return.ensures)

pub returns-in-None-clause-line : goal.returns-in-None-clause-line
returns-in-None-clause-line c =
    let filled : 0 < length c.args.text.now = grind (arith, common_steps) in
    last_line c.args.text.now (cut_nothing Newline c.args.text.now c.in-None.ensures) filled

pub returns-in-None-clause-rest : goal.returns-in-None-clause-rest
returns-in-None-clause-rest c = sym (after_none (λ b. b == 10) c.args.text.now (cut_nothing Newline c.args.text.now c.in-None.ensures))
