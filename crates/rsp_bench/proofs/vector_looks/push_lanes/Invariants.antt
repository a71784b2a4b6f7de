use Rattle.std.proofs.Common.{◌≡◌, ◌+◌, ◌*◌, ◌++◌, length, get_or}
use Rattle.rsp_script_io.specs.Text.{each_text}
use Rattle.rsp_bench.specs.Looks.{half_text}
use Rattle.rsp_bench.proofs.vector_looks.push_lanes.Given as goal

abbrev pub invariant-loop-i : goal.invariant-loop-i
invariant-loop-i l =
    (l.reply ≡ l.initial.reply ++ each_text (λ i. half_text (get_or l.register i 0)) l.i)
    × (length l.reply ≡ length l.initial.reply + 5 * l.i)
