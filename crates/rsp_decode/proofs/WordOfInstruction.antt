-- Encoding: the word of an instruction has its row alone, and its fields are read back.
use Rattle.std.proofs.Common.{◌≡◌, refl, ap, ◌∙◌, ℕ, List, [], ◌∷◌, Bool, true, ◌&&◌, bit_and}
use Rattle.std.specs.Prelude.{◌==◌, find, filter, Some, None, option_map}
use Rattle.std.proofs.lemmas.Bool.{eqb-true, eq-eqb, and_parts, cond-true}
use Rattle.rsp_decode.specs.declared.inst.Inst.{Inst}
use Rattle.rsp_decode.specs.declared.scalar.ShiftOp.TheVariants.{Sll}
use Rattle.rsp_decode.specs.declared.scalar.ShiftVariableOp.TheVariants.{Sllv}
use Rattle.rsp_decode.specs.declared.scalar.RegisterOp.TheVariants.{Add}
use Rattle.rsp_decode.specs.declared.scalar.BranchSignOp.TheVariants.{Bltz}
use Rattle.rsp_decode.specs.declared.scalar.JumpOp.TheVariants.{J}
use Rattle.rsp_decode.specs.declared.scalar.BranchEqualOp.TheVariants.{Beq}
use Rattle.rsp_decode.specs.declared.scalar.ImmediateOp.TheVariants.{Addi}
use Rattle.rsp_decode.specs.declared.scalar.LoadOp.TheVariants.{Lb}
use Rattle.rsp_decode.specs.declared.scalar.StoreOp.TheVariants.{Sb}
use Rattle.rsp_decode.specs.declared.scalar.MoveOp.TheVariants.{From}
use Rattle.rsp_decode.specs.declared.vector.VectorMultiplyOp.TheVariants.{Vmulf}
use Rattle.rsp_decode.specs.declared.vector.VectorRoundOp.TheVariants.{Vrndp}
use Rattle.rsp_decode.specs.declared.vector.VectorMpegOp.TheVariants.{Vmulq}
use Rattle.rsp_decode.specs.declared.vector.VectorAddOp.TheVariants.{Vadd}
use Rattle.rsp_decode.specs.declared.vector.VectorSelectOp.TheVariants.{Vlt}
use Rattle.rsp_decode.specs.declared.vector.VectorClipOp.TheVariants.{Vcl}
use Rattle.rsp_decode.specs.declared.vector.VectorLogicOp.TheVariants.{Vand}
use Rattle.rsp_decode.specs.declared.vector.VectorDivideOp.TheVariants.{Vrcp}
use Rattle.rsp_decode.specs.declared.vector.VectorNopOp.TheVariants.{Vnop}
use Rattle.rsp_decode.specs.declared.vector.VectorLoadOp.TheVariants.{Lbv}
use Rattle.rsp_decode.specs.declared.vector.VectorStoreOp.TheVariants.{Sbv}
use Rattle.rsp_decode.specs.declared.vector.Control.TheVariants.{Vco}
use Rattle.rsp_decode.specs.declared.inst.Inst.TheVariants.{BranchEqual, BranchSign, Idle, Immediate, Jump, Divide, Load, MoveControl, MoveSp, MoveVector, Register, Shift, ShiftBy, Store, Multiply, Round, MpegMultiply, VectorAdd, VectorSelect, VectorClip, VectorLogic, VectorLoad, VectorStore}
use Rattle.rsp_decode.specs.Table.{Row, rows, row_of, fits, fields, row_bit_fields, inst_of, canonical_of, word_from, word_of, row_and_values, IsInstruction, FitBitFields}
use Rattle.rsp_decode.proofs.Keys.{may_have, narrowed}
use Rattle.rsp_decode.proofs.BitFields.{apart_from, all_apart, under_others, fields_back, clear_from}

-- the value is under the mask, and the places are apart from the mask and from each other
abbrev sound : Row → Bool
sound r = (bit_and r.value r.mask == r.value) && (apart_from r.mask (row_bit_fields r) && all_apart (row_bit_fields r))

-- and no other row fits a word of the row
abbrev Good : Row → Type 0
Good r = (sound r ≡ true) × (filter (may_have r.mask r.value) rows ≡ r ∷ [])

module _ (r : Row) (good : Good r) (vs : List ℕ) (fit : FitBitFields (row_bit_fields r) vs) where
  word_row : row_of (word_from r vs) ≡ Some r
  unfolding row_of
  word_row =
      let tests = and_parts _ _ good.0 in
      let under : bit_and (word_from r vs) r.mask ≡ r.value =
      under_others (row_bit_fields r) vs r.value r.mask fit (and_parts _ _ tests.1).0 ∙ eqb-true _ _ tests.0 in
      narrowed (word_from r vs) r.mask r.value rows under
      ∙ ap (find (fits (word_from r vs))) good.1
      ∙ cond-true (fits (word_from r vs) r) (Some r) None (eq-eqb _ _ under)

  word_fields : fields r (word_from r vs) ≡ vs
  word_fields =
      let tests = and_parts _ _ good.0 in
      let places = and_parts _ _ tests.1 in
      fields_back (row_bit_fields r) vs r.value fit places.1 (clear_from r.mask r.value (row_bit_fields r) (eqb-true _ _ tests.0) places.0)

  word_inst : inst_of (word_from r vs) ≡ Some (r.inst vs)
  unfolding inst_of
  word_inst = ap (option_map (λ (s : Row). s.inst (fields s (word_from r vs)))) word_row ∙ ap (λ f. Some (r.inst f)) word_fields

  word_canonical : canonical_of (word_from r vs) ≡ Some (word_from r vs)
  unfolding canonical_of
  word_canonical = ap (option_map (λ (s : Row). word_from s (fields s (word_from r vs)))) word_row ∙ ap (λ f. Some (word_from r f)) word_fields

-- each row of an instruction
good_parts : (i : Inst) → Good (row_and_values i).0
good_parts (Shift Sll rd rt amount) = (refl, refl)
good_parts (ShiftBy Sllv fields) = (refl, refl)
good_parts (Register Add fields) = (refl, refl)
good_parts (BranchSign Bltz rs offset) = (refl, refl)
good_parts (Jump J target) = (refl, refl)
good_parts (BranchEqual Beq rs rt offset) = (refl, refl)
good_parts (Immediate Addi rt rs imm) = (refl, refl)
good_parts (Load Lb fields) = (refl, refl)
good_parts (Store Sb fields) = (refl, refl)
good_parts (MoveSp From rt register) = (refl, refl)
good_parts (MoveVector From rt vector' element) = (refl, refl)
good_parts (MoveControl From rt control) = (refl, refl)
good_parts (Multiply Vmulf fields) = (refl, refl)
good_parts (Round Vrndp fields) = (refl, refl)
good_parts (MpegMultiply Vmulq fields) = (refl, refl)
good_parts (VectorAdd Vadd fields) = (refl, refl)
good_parts (VectorSelect Vlt fields) = (refl, refl)
good_parts (VectorClip Vcl fields) = (refl, refl)
good_parts (VectorLogic Vand fields) = (refl, refl)
good_parts (Divide Vrcp vd lane vt element) = (refl, refl)
good_parts (Idle Vnop) = (refl, refl)
good_parts (VectorLoad Lbv fields) = (refl, refl)
good_parts (VectorStore Sbv fields) = (refl, refl)
good_parts _ = (refl, refl)

rebuilt : (i : Inst) → (row_and_values i).0.inst (row_and_values i).1 ≡ i
rebuilt (MoveControl r rt Vco) = refl
rebuilt _ = refl

pub round_trip : (i : Inst) → IsInstruction i → inst_of (word_of i) ≡ Some i
round_trip i is = word_inst (row_and_values i).0 (good_parts i) (row_and_values i).1 is ∙ ap Some (rebuilt i)

pub word_of_is_canonical : (i : Inst) → IsInstruction i → canonical_of (word_of i) ≡ Some (word_of i)
word_of_is_canonical i is = word_canonical (row_and_values i).0 (good_parts i) (row_and_values i).1 is
