use Rattle.std.proofs.Common.{sym, ap, ◌∙◌}
use Rattle.std.specs.Prelude.{codes, ◌++◌, option_map}
use Rattle.rsp_decode.specs.Table.{entry}
use Rattle.rsp_dis.proofs.Rows.{selected_short, no_operation, spelled, too_far, not_own, reserved}
use Rattle.rsp_dis.proofs.text.word_line.Goals as goal
use Rattle.rsp_dis.proofs.text.word_line.Goals.{in_default-via-in-Some+then-is_canonical+else-have_texts, in_default-via-in-Some+else-is_canonical, in_default-via-in_default}

pub returns-then-word-eq0 : goal.returns-then-word-eq0
returns-then-word-eq0 c = c.push_str.ensures.bytes ∙ ap (λ t. t ++ codes "nop") c.new-line.ensures ∙ no_operation _ c.args.word c.args.address c.if-word-eq0.true

pub row_line-requires-clause-row : goal.row_line-requires-clause-row
row_line-requires-clause-row c = selected_short c.args.word (entry c.in-Some.row) c.in-Some.ensures

pub returns-in-Some : goal.returns-in-Some
returns-in-Some c =
    c.row_line.ensures
    ∙ spelled _ c.args.word c.args.address c.if-word-eq0.false (entry c.in-Some.row) c.is_canonical.result c.in-Some.ensures c.is_canonical.ensures c.if-is_canonical.true (sym c.have_texts.ensures ∙ c.if-have_texts.true)

pub returns-in_default : goal.returns-in_default
returns-in_default c = c.plain_line.ensures ∙ elim c.in_default.branch [
  | in_default-via-in-Some+then-is_canonical+else-have_texts w ↦ too_far _ c.args.word c.args.address c.if-word-eq0.false (entry w.in-Some.row) w.in-Some.ensures (sym w.have_texts.ensures ∙ w.if-have_texts.false)
  | in_default-via-in-Some+else-is_canonical w ↦ not_own _ c.args.word c.args.address c.if-word-eq0.false w.is_canonical.result w.is_canonical.ensures w.if-is_canonical.false
  | in_default-via-in_default w ↦ reserved _ c.args.word c.args.address c.if-word-eq0.false (sym (ap (option_map entry) w.in_default.is) ∙ c.select_row.ensures)
]
