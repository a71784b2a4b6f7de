use Rattle.std.proofs.Common.{◌≡◌, ℕ, ◌<◌, length, get_or}
use Rattle.rsp_numbers.specs.Numbers.{number, join, IsNumber}
use Rattle.rsp_acc.proofs.plain.whole_numbers.Given as goal

abbrev pub invariant-loop-i : goal.invariant-loop-i
invariant-loop-i l = (length l.numbers ≡ 8) × ((k : ℕ) → k < l.i → number l.numbers k ≡ join (get_or l.high k 0) (get_or l.middle k 0) (get_or l.low k 0)) × ((k : ℕ) → IsNumber (number l.numbers k))
