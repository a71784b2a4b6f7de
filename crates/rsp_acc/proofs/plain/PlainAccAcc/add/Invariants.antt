use Rattle.std.proofs.Common.{◌≡◌, ℕ, ◌<◌, length, ◌+ℤ◌}
use Rattle.rsp_numbers.specs.Numbers.{number, s48, IsNumber}
use Rattle.rsp_acc.proofs.plain.PlainAccAcc.add.Given as goal

abbrev pub invariant-loop-i : goal.invariant-loop-i
invariant-loop-i l = (length l.numbers ≡ 8) × ((k : ℕ) → k < l.i → number l.numbers k ≡ s48 (number l.self-inside.numbers k +ℤ number l.added k)) × ((k : ℕ) → IsNumber (number l.numbers k))
