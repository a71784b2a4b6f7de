-- Scaffolding of the contracts: the code's expressions as definitions see them, and how the code clamps numbers.
use Rattle.std.specs.Prelude.{ℕ, ◌^◌, ◌-◌, min, option_map, ℤ, pos, negsuc}
use Rattle.rsp_syntax.specs.declared.expression.Expression.{Expression}
use Rattle.rsp_syntax.specs.Numbers as numbers

-- the greatest number that the code keeps; it is out of each operand's range
abbrev pub number_cap : ℕ
number_cap = 2 ^ 40

abbrev pub capped : ℕ → ℕ
capped n = min n number_cap

abbrev pub capped_ℤ : ℤ → ℤ
capped_ℤ (pos n) = pos (min n number_cap)
capped_ℤ (negsuc n) = negsuc (min n (number_cap - 1))

-- an expression of the code
abbrev pub expression : Expression → numbers.Expression
expression e = record { label = option_map (λ t. t.now) e.label; offset = e.offset }

-- an expression with its number clamped as the code does
abbrev pub capped_expression : numbers.Expression → numbers.Expression
capped_expression e = record { label = e.label; offset = capped_ℤ e.offset }
