use Rattle.std.proofs.Common.{◌≡◌, ◌+◌, ◌*◌, ◌++◌, length}
use Rattle.rsp_loadstore.specs.File.{vector}
use Rattle.rsp_script_io.specs.Text.{each_text}
use Rattle.rsp_bench.specs.Looks.{vector_line}
use Rattle.rsp_bench.proofs.vector_looks.put_vector_registers.Given as goal

abbrev pub invariant-loop-n : goal.invariant-loop-n
invariant-loop-n g l =
    (l.reply ≡ l.initial.reply ++ each_text (λ n. vector_line n (vector l.debugger.state.vectors n)) l.n)
    × (length l.reply ≡ length l.initial.reply + 44 * l.n)
