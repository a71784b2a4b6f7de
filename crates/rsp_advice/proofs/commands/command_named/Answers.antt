use Rattle.std.proofs.Common.{sym, ◌∙◌, arith, []}
use Rattle.std.specs.Str.{str_eq_ignore_ascii_case}
use Rattle.rsp_advice.specs.declared.commands.CommandForm.{CommandForm}
use Rattle.rsp_advice.proofs.Keys.{find_here, find_more}
use Rattle.rsp_advice.proofs.commands.command_named.Goals as goal

abbrev no_command : CommandForm
no_command = record {
  name = record { ref_ptr = (0, 0); now = [] };
  form = record { ref_ptr = (0, 0); now = [] };
  range = record { ref_ptr = (0, 0); now = [] };
}

pub returns-then-is_same : goal.returns-then-is_same
returns-then-is_same c =
    let same = sym c.is_same.ensures ∙ c.if-is_same.true in
    sym (find_here (λ row. row.name.now) (str_eq_ignore_ascii_case c.args.name.now) c.command_forms-command-items.result.now c.loop-command.command-index no_command (omega arith) same)
    ∙ c.loop-command.invariant

pub loop-command-preserved : goal.loop-command-preserved
loop-command-preserved c =
    let other = sym c.is_same.ensures ∙ c.if-is_same.false in
    sym (find_more (λ row. row.name.now) (str_eq_ignore_ascii_case c.args.name.now) c.command_forms-command-items.result.now c.loop-command.command-index no_command (omega arith) other)
    ∙ c.loop-command.invariant
