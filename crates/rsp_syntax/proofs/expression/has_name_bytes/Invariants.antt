use Rattle.std.proofs.Common.{◌≡◌, take, true}
use Rattle.std.specs.List.{list_all}
use Rattle.rsp_syntax.specs.Chars.{is_name_byte}
use Rattle.rsp_syntax.proofs.expression.has_name_bytes.Given as goal

abbrev pub invariant-loop-c : goal.invariant-loop-c
invariant-loop-c l = list_all is_name_byte (take l.c-index l.text) ≡ true
