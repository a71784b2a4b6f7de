use Rattle.std.proofs.Common.{◌≡◌, ◌≤◌, ◌+◌, ◌*◌, ◌++◌, length}
use Rattle.rsp_regs.specs.Sp.{read_value}
use Rattle.rsp_script_io.specs.Text.{each_text}
use Rattle.rsp_bench.specs.Looks.{sp_line}
use Rattle.rsp_bench.proofs.looks.push_sp_lines.Given as goal

abbrev pub invariant-loop-n : goal.invariant-loop-n
invariant-loop-n l =
    (l.reply ≡ l.initial.reply ++ each_text (λ n. sp_line n (read_value n l.sp)) l.n)
    × (length l.reply ≤ length l.initial.reply + 13 * l.n)
