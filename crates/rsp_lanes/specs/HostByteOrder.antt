-- Scaffolding of the code: the order of a register's bytes in a vector of the host.
use Rattle.std.specs.Prelude.{ℕ, ◌+◌, ◌-◌, ◌*◌, ◌%◌}

-- the register's byte at position p of a vector, which has the low byte of each lane first
abbrev pub byte_at_position : ℕ → ℕ
byte_at_position p = p + 1 - 2 * (p % 2)
