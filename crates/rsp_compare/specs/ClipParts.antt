-- Scaffolding of the code: the number that VCH and VCR test, as one function of both lanes.
use Rattle.std.specs.Prelude.{ℕ, ℤ, ◌+ℤ◌, ◌-ℤ◌, if◌then◌else◌}
use Rattle.rsp_numbers.specs.Numbers.{s16}
use Rattle.rsp_compare.specs.Clips.{signs_differ}

-- the sum of the signed values if their signs differ, else the difference
abbrev pub sum_or_difference : ℕ → ℕ → ℤ
sum_or_difference a b = if signs_differ a b then s16 a +ℤ s16 b else s16 a -ℤ s16 b
