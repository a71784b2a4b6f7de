use Rattle.rsp_bench.proofs.Refusals.{refused_commands, refused_lines}
use Rattle.rsp_bench.proofs.laws.refusals_change_nothing.Goals as goal

pub returns : goal.returns
returns c = record { commands = refused_commands; lines = refused_lines }
