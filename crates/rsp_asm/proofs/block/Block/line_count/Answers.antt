use Rattle.std.proofs.Common.{◌∙◌}
use Rattle.std.specs.String.{string_bytes}
use Rattle.std.proofs.lemmas.Iterator.Consumers.{count_from_yields_List}
use Rattle.std.proofs.lemmas.Iterator.Splits.{YieldsList-from_lines}
use Rattle.rsp_asm.proofs.block.Block.line_count.Goals as goal

pub returns-clause-value : goal.returns-clause-value
returns-clause-value c =
    let text = string_bytes c.self.inside.text in
    let counted = count_from_yields_List _ _ c.count.ensures.ran (YieldsList-from_lines text (c.lines.ensures.rest ∙ c.as_str.ensures.value)) in
    rw (← c.self.view_is) counted
