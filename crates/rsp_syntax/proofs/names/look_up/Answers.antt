use Rattle.std.proofs.Common.{◌≡◌, sym, ap, ◌∙◌, arith, [], get_or, true, false}
use Rattle.std.specs.Str.{str_eq_ignore_ascii_case}
use Rattle.rsp_syntax.proofs.Tables.{look_up_here, look_up_more}
use Rattle.rsp_syntax.proofs.names.look_up.Goals as goal

pub returns-then-is_same : goal.returns-then-is_same
returns-then-is_same c =
    let name = get_or c.args.table.now c.loop-name.name-index (record { ref_ptr = (0, 0); now = [] }, 0) in
    let test : str_eq_ignore_ascii_case c.args.text.now name.0.now ≡ true =
    ap (str_eq_ignore_ascii_case c.args.text.now) (sym c.as_bytes.ensures.value) ∙ sym c.is_same.ensures ∙ c.if-is_same.true in
    sym (look_up_here c.args.table.now c.loop-name.name-index (record { ref_ptr = (0, 0); now = [] }, 0) c.args.text.now (omega arith) test) ∙ c.loop-name.invariant

pub loop-name-preserved : goal.loop-name-preserved
loop-name-preserved c =
    let name = get_or c.args.table.now c.loop-name.name-index (record { ref_ptr = (0, 0); now = [] }, 0) in
    let test : str_eq_ignore_ascii_case c.args.text.now name.0.now ≡ false =
    ap (str_eq_ignore_ascii_case c.args.text.now) (sym c.as_bytes.ensures.value) ∙ sym c.is_same.ensures ∙ c.if-is_same.false in
    sym (look_up_more c.args.table.now c.loop-name.name-index (record { ref_ptr = (0, 0); now = [] }, 0) c.args.text.now (omega arith) test) ∙ c.loop-name.invariant
