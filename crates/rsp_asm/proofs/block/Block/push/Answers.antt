use Rattle.std.proofs.Common.{refl, ap, ◌∙◌}
use Rattle.std.specs.String.{string_bytes}
use Rattle.std.specs.Str.Lines.{lines}
use Rattle.std.proofs.lemmas.Result.{on_ok_weaker}
use Rattle.rsp_asm.proofs.BlockTexts.{one_more, still_text}
use Rattle.rsp_asm.proofs.block.Block.push.Goals as goal

pub invariant_of-self : goal.invariant_of-self
invariant_of-self c =
    let text = string_bytes c.self.inside.text in (
      c.self.invariant.0,
      still_text c.push_line.result text c.args.line.now _ c.self.invariant.1 c.requires c.push_line.ensures.ok c.push_line.ensures.err,
    )

pub returns-clause-ok : goal.returns-clause-ok
returns-clause-ok c =
    let text = string_bytes c.self.inside.text in
    on_ok_weaker c.push_line.result
    (λ e. let more = ap lines e ∙ (one_more text c.args.line.now c.self.invariant.1 c.requires).0 in rw (more, ← c.self.view_is) refl)
    c.push_line.ensures.ok
