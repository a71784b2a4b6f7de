use Rattle.std.proofs.Common.{◌≡◌, drop}
use Rattle.std.specs.List.{list_all}
use Rattle.rsp_syntax.specs.Disassembly.{has_text}
use Rattle.rsp_dis.proofs.text.have_texts.Given as goal

abbrev pub invariant-loop-kind : goal.invariant-loop-kind
invariant-loop-kind l =
    list_all (has_text l.word l.address) (drop l.kind-index l.kinds) ≡ list_all (has_text l.word l.address) l.kinds
