-- Scaffolding of the contracts: the parts of a line, as the code has them.
use Rattle.std.specs.Prelude.{option_map}
use Rattle.rsp_asm.specs.declared.line.LineParts.{LineParts}
use Rattle.rsp_syntax.specs.SourceLine as source_line

abbrev pub seen_parts : LineParts → source_line.LineParts
seen_parts p = record { label = option_map (λ t. t.now) p.label; body = p.body.now }
