use Rattle.std.proofs.Common.{◌≡◌, ℕ, ◌<◌, length, get_or}
use Rattle.rsp_numbers.specs.Numbers.{number, join, high, middle, IsNumber}
use Rattle.rsp_acc.proofs.plain.PlainAccAcc.set_low.Given as goal

abbrev pub invariant-loop-i : goal.invariant-loop-i
invariant-loop-i l = (length l.numbers ≡ 8) × ((k : ℕ) → k < l.i → number l.numbers k ≡ join (high (number l.self-inside.numbers k)) (middle (number l.self-inside.numbers k)) (get_or l.low k 0)) × ((k : ℕ) → IsNumber (number l.numbers k))
