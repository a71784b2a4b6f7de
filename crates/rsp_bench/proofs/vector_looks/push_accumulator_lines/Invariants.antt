use Rattle.std.proofs.Common.{◌≡◌, ◌≤◌, ◌+◌, ◌*◌, ◌++◌, length, get_or}
use Rattle.rsp_script_io.specs.Text.{each_text}
use Rattle.rsp_bench.specs.Looks.{accumulator_line}
use Rattle.rsp_bench.proofs.vector_looks.push_accumulator_lines.Given as goal

abbrev pub invariant-loop-i : goal.invariant-loop-i
invariant-loop-i l =
    (l.reply ≡ l.initial.reply ++ each_text (λ i. accumulator_line i (get_or l.high i 0) (get_or l.middle i 0) (get_or l.low i 0)) l.i)
    × (length l.reply ≤ length l.initial.reply + 17 * l.i)
