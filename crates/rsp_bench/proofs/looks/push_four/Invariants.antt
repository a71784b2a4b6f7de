use Rattle.std.proofs.Common.{◌≡◌, ◌+◌, ◌*◌, ◌++◌, length, get_or}
use Rattle.rsp_script_io.specs.Text.{each_text}
use Rattle.rsp_bench.specs.Looks.{word_text}
use Rattle.rsp_bench.proofs.looks.push_four.Given as goal

abbrev pub invariant-loop-j : goal.invariant-loop-j
invariant-loop-j l =
    (l.reply ≡ l.initial.reply ++ each_text (λ j. word_text (get_or l.words (l.first + j) 0)) l.j)
    × (length l.reply ≡ length l.initial.reply + 9 * l.j)
