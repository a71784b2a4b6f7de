-- The entries of the divide tables.
-- Sources: Nintendo's RSP Programmer's Guide, chapter on vector unit instructions; the N64brew Wiki's page "Reality Signal Processor/CPU Core".
use Rattle.std.specs.Prelude.{ℕ, ◌+◌, ◌/◌, ◌%◌, ◌^◌, ◌<◌, ◌≡◌, ◌==◌, if◌then◌else◌}
use Rattle.rsp_numbers.specs.Roots.{radicand, IsRoot, HasOne, the}
use Rattle.rsp_numbers.proofs.Roots.{one_root}

-- entry i of the reciprocal table
abbrev pub reciprocal_entry : ℕ → ℕ
reciprocal_entry i = if i == 0 then 65535 else (2 ^ 34 / (512 + i) + 1) / 256 % 65536

-- entry i of the root table: half of the root of its radicand, modulo 2^16
unfoldable pub root_entry : ℕ → ℕ
root_entry i = the (IsRoot (radicand i)) (one_root i) / 2 % 65536

-- e is entry i of the root table: half of the root b, modulo 2^16
abbrev pub IsRootEntry : ℕ → ℕ → Type 0
IsRootEntry i e = (b : ℕ) × IsRoot (radicand i) b × (e ≡ b / 2 % 65536)

-- each radicand has exactly one root
abbrev pub RootsExist : Type 0
RootsExist = (i : ℕ) → i < 512 → HasOne (IsRoot (radicand i))
