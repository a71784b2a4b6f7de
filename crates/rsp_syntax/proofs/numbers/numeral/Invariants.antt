use Rattle.std.proofs.Common.{◌≡◌, ◌≤◌, take, true}
use Rattle.std.specs.Prelude.{nat_lt}
use Rattle.std.specs.List.{list_all}
use Rattle.std.specs.Char.{digit_value}
use Rattle.std.specs.Str.Parse.{digits_value}
use Rattle.rsp_syntax.specs.Capping.{capped, number_cap}
use Rattle.rsp_syntax.proofs.numbers.numeral.Given as goal

abbrev pub invariant-loop-c : goal.invariant-loop-c
invariant-loop-c l =
    (list_all (λ c. nat_lt (digit_value c) l.radix) (take l.c-index l.text) ≡ true)
    × (l.value ≡ capped (digits_value l.radix (take l.c-index l.text)))
    × (l.value ≤ number_cap)
