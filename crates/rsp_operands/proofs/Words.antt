-- Fields in a word.
use Rattle.std.proofs.Common.{◌≡◌, sym, ap, ◌∙◌, subst, ℕ, ◌*◌, ◌^◌, ◌%◌, ◌<◌, ◌≤◌, List, [], ◌∷◌, bit_or}
use Rattle.std.specs.Prelude.{Option, Some}
use Rattle.std.specs.Int.Bits.{or_zero_r}
use Rattle.std.proofs.Math.Nat.{mod-eq_of_lt}
use Rattle.rsp_decode.specs.Table.{Operand, BitField, with_fields}
use Rattle.rsp_operands.specs.Fields.{optional}
use Rattle.rsp_operands.specs.FieldsFit.{FitWord}

pub or_none : (w : ℕ) → w ≡ bit_or w 0
or_none w = sym (or_zero_r w)

pub second_small : (k : Operand) (first : ℕ) (second : Option ℕ) (v : ℕ) → second ≡ Some v → FitWord k (first ∷ optional second) → v ≤ 31
second_small k first second v e fit = (subst (λ o. FitWord k (first ∷ optional o)) e fit).1.0

-- no bit of the first field is lost where it stands
pub first_put : (ps : List BitField) (w v low : ℕ) → ((w v : ℕ) → with_fields w ps (v ∷ []) ≡ bit_or w (v * 2 ^ low)) → with_fields 0 ps (v ∷ []) < 2 ^ 32 → bit_or w (v * 2 ^ low % 2 ^ 32) ≡ with_fields w ps (v ∷ [])
first_put ps w v low at fit =
    let whole : v * 2 ^ low < 2 ^ 32 = subst (λ n. n < 2 ^ 32) (at 0 v) fit in
    ap (bit_or w) (mod-eq_of_lt whole) ∙ sym (at w v)
