-- The carry out of a sum of two numbers of sixteen bits and a carry.
use Rattle.std.proofs.Common.{◌≡◌, ℕ, ◌+◌, ◌%◌, ◌<◌, Bool, cond, true, false, ◌||◌, nat_lt, nat_le, arith}
use Rattle.std.proofs.lemmas.Bool.Decides.{nat_tests}
use Rattle.rsp_lanes.specs.Lanes.{bit}

pub carry_sum : (a b : ℕ) (c : Bool) → ((a + b) % 65536 + cond c 1 0) % 65536 ≡ (a + b + bit c) % 65536
carry_sum a b true = omega arith
carry_sum a b false = omega arith

pub carry_out : (a b : ℕ) (c : Bool) → a < 65536 → b < 65536
    → (nat_lt ((a + b) % 65536) a || nat_lt (((a + b) % 65536 + cond c 1 0) % 65536) ((a + b) % 65536)) ≡ nat_le 65536 (a + b + bit c)
carry_out a b true h k = grind (arith, nat_tests)
carry_out a b false h k = grind (arith, nat_tests)
