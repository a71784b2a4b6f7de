use Rattle.std.proofs.Common.{◌≡◌, ◌≤◌, ◌+◌, ◌*◌, ◌++◌, length, drop, true}
use Rattle.std.specs.Prelude.{map, option_map}
use Rattle.std.specs.List.{list_all}
use Rattle.arrayvec.specs.ArrayString.{array_string_len}
use Rattle.rsp_decode.specs.Table.{is_row_operand}
use Rattle.rsp_syntax.specs.Disassembly.{more_operands}
use Rattle.rsp_dis.specs.Labels.{labelled_operand}
use Rattle.rsp_dis.specs.LabelTests.{labels_in}
use Rattle.rsp_dis.proofs.text.push_more.Given as goal

abbrev pub invariant-loop-kind : goal.invariant-loop-kind
invariant-loop-kind l = record {
  bytes : l.line.bytes ++ more_operands (map (labelled_operand (labels_in (option_map (λ t. t.now) l.labels)) l.word l.address) (drop l.kind-index l.kinds)) ≡ l.initial.line.bytes ++ more_operands (map (labelled_operand (labels_in (option_map (λ t. t.now) l.labels)) l.word l.address) l.kinds);
  room : array_string_len l.line + 13 * length l.kinds ≤ 64 + 13 * l.kind-index;
  kinds : list_all is_row_operand (drop l.kind-index l.kinds) ≡ true;
}
