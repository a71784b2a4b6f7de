use Rattle.std.proofs.Common.{sym, ap, ◌∙◌, ◌<◌, ◌∷◌, arith, length, length-append}
use Rattle.std.specs.Str.Lines.{lines}
use Rattle.rsp_syntax.specs.declared.line_bytes.Boundary.TheVariants.{Newline}
use Rattle.rsp_syntax.proofs.Cuts.{IsCut, cut_some, cut_nothing}
use Rattle.rsp_syntax.specs.Cuts.{is_boundary}
use Rattle.std.proofs.lemmas.Grind.{common_steps}
use Rattle.rsp_syntax.proofs.TextLines.{first_line, last_line}
use Rattle.rsp_asm.proofs.assembler.next_line.Goals as goal

pub returns-in-Some : goal.returns-in-Some
returns-in-Some c =
    let text = c.args.text.now in
    let line = c.in-Some.line.now in
    let rest = c.in-Some.rest.now in
    let k : IsCut (is_boundary Newline) text line rest = cut_some Newline text line rest c.in-Some.ensures in (
      ap lines k.whole ∙ first_line line rest k.stop k.plain k.stops_there ∙ ap (λ t. t ∷ lines rest) (sym c.without_return.ensures),
      omega (arith, ap length k.whole, length-append line (k.stop ∷ rest)),
    )

pub returns-in-None : goal.returns-in-None
returns-in-None c =
    let text = c.args.text.now in
    let filled : 0 < length text = grind (arith, common_steps) in
    (last_line text (cut_nothing Newline text c.in-None.ensures) filled, filled)
