-- The registers at the start are in their ranges.
use Rattle.std.proofs.Common.{◌<◌, ◌^◌, ℕ, zero, suc, replicate, slice_index, arith, refl}
use Rattle.rsp_scalar.specs.Registers.{IsRegisters, empty_registers}

zeros : (n i : ℕ) → slice_index (replicate n 0) i < 2 ^ 32
zeros zero i = omega arith
zeros (suc n) zero = omega arith
zeros (suc n) (suc i) = zeros n i

pub empty_are : IsRegisters empty_registers
empty_are = record { count = refl; words = zeros 32; zero = refl }
