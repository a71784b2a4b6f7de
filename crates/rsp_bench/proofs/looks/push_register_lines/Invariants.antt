use Rattle.std.proofs.Common.{◌≡◌, ◌+◌, ◌*◌, ◌++◌, length, get_or}
use Rattle.rsp_script_io.specs.Text.{each_text}
use Rattle.rsp_bench.specs.Looks.{register_line}
use Rattle.rsp_bench.proofs.looks.push_register_lines.Given as goal

abbrev pub invariant-loop-k : goal.invariant-loop-k
invariant-loop-k l =
    (l.reply ≡ l.initial.reply ++ each_text (register_line (λ n. get_or l.words n 0)) l.k)
    × (length l.reply ≡ length l.initial.reply + 40 * l.k)
