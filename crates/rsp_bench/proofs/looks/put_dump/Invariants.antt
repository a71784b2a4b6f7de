use Rattle.std.proofs.Common.{◌≡◌, ◌≤◌, ◌+◌, ◌*◌, ◌++◌, take, drop, length}
use Rattle.rsp_script_io.specs.Text.{each_text}
use Rattle.rsp_bench.specs.Looks.{dump_line}
use Rattle.rsp_bench.proofs.looks.put_dump.Given as goal

abbrev pub invariant-loop-k : goal.invariant-loop-k
invariant-loop-k l =
    (l.reply ≡ l.initial.reply ++ each_text (λ k. dump_line (l.a + 16 * k) (take 16 (drop (16 * k) l.bytes))) l.k)
    × (length l.reply ≤ length l.initial.reply + 41 * l.k)
