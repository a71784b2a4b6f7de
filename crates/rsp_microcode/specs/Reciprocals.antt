-- Reciprocals and inverse square roots of fixed-point numbers.
use Rattle.std.specs.Prelude.{ℕ, ◌≡◌, ◌≢◌, ◌<◌, List, [], ◌∷◌}
use Rattle.rsp_decode.specs.declared.inst.Inst.{Inst}
use Rattle.rsp_decode.specs.declared.inst.Inst.TheVariants.{Divide}
use Rattle.rsp_decode.specs.declared.vector.VectorDivideOp.TheVariants.{Vrcph, Vrcpl, Vrsqh, Vrsql}
use Rattle.rsp_divide.specs.Quotients.{reciprocal_of, inverse_root_of}
use Rattle.rsp_loadstore.specs.File.{vector}
use Rattle.rsp_machine.specs.State.{State, IsState}
use Rattle.rsp_microcode.specs.Runs.{ran_through}
use Rattle.rsp_microcode.specs.Fixed.{fixed}

-- vrcph $high[0], $a[0]; vrcpl $low[0], $b[0]; vrcph $high[0], $c[0]
abbrev pub reciprocal_code : ℕ → ℕ → ℕ → ℕ → ℕ → List Inst
reciprocal_code high low a b c = Divide Vrcph high 0 a 8 ∷ Divide Vrcpl low 0 b 8 ∷ Divide Vrcph high 0 c 8 ∷ []

-- These three make lane 0 of $high and $low the table's reciprocal of the number in lane 0 of $a and $b.
abbrev pub Reciprocals : Type 0
Reciprocals = (high low a b c : ℕ) (s : State) → IsState s → high < 32 → low < 32 → high ≢ low → b ≢ high
    → (t : State) → t ≡ ran_through (reciprocal_code high low a b c) s
    → fixed (vector t.vectors high) (vector t.vectors low) 0 ≡ reciprocal_of (fixed (vector s.vectors a) (vector s.vectors b) 0)

-- vrsqh $high[0], $a[0]; vrsql $low[0], $b[0]; vrsqh $high[0], $c[0]
abbrev pub root_code : ℕ → ℕ → ℕ → ℕ → ℕ → List Inst
root_code high low a b c = Divide Vrsqh high 0 a 8 ∷ Divide Vrsql low 0 b 8 ∷ Divide Vrsqh high 0 c 8 ∷ []

-- These three make lane 0 of $high and $low the table's inverse square root of the number in lane 0 of $a and $b.
abbrev pub Roots : Type 0
Roots = (high low a b c : ℕ) (s : State) → IsState s → high < 32 → low < 32 → high ≢ low → b ≢ high
    → (t : State) → t ≡ ran_through (root_code high low a b c) s
    → fixed (vector t.vectors high) (vector t.vectors low) 0 ≡ inverse_root_of (fixed (vector s.vectors a) (vector s.vectors b) 0)
