use Rattle.std.proofs.Common.{◌≡◌, take}
use Rattle.std.specs.List.{list_all}
use Rattle.rsp_syntax.specs.Chars.{is_line_byte}
use Rattle.rsp_syntax.proofs.line_bytes.has_line_bytes.Given as goal

abbrev pub invariant-loop-c : goal.invariant-loop-c
invariant-loop-c l = l.plain ≡ list_all is_line_byte (take l.c-index l.line)
