-- The roots of the root table: for each radicand the one number that meets an inequality.
use Rattle.std.specs.Prelude.{ℕ, ◌+◌, ◌*◌, ◌/◌, ◌%◌, ◌^◌, ◌<◌, ◌≤◌, ◌≡◌, ◌==◌, if◌then◌else◌}

-- the radicand a of entry i of the root table
abbrev pub radicand : ℕ → ℕ
radicand i = if i % 2 == 0 then 512 + i else (512 + i) / 2

-- b is the root of a: a * b * b is below 2^44, and with the next number it isn't
pub record IsRoot (a b : ℕ) : Type 0 where
  pub below : a * (b * b) < 2 ^ 44
  pub above : 2 ^ 44 ≤ a * ((b + 1) * (b + 1))

-- exactly one number has property P
abbrev pub HasOne : (ℕ → Type 0) → Type 0
HasOne P = (b : ℕ) × P b × ((c : ℕ) → P c → c ≡ b)

-- the number that has property P: the second argument is a proof that exactly one has it
abbrev pub the : (P : ℕ → Type 0) → HasOne P → ℕ
the P one = one.0
