-- Clip codes: on which side of -w to w numbers of 32 bits are. VCH compares the high halves, and then VCL the low halves, by the flags that
-- VCH left.
use Rattle.std.specs.Prelude.{ℕ, ℤ, pos, ◌≡◌, ◌+◌, ◌<◌, ◌+ℤ◌, ◌==◌, ◌&&◌, ◌||◌, int_lt, int_le, nat_lt, not, Bool, true, List, [], ◌∷◌}
use Rattle.rsp_numbers.specs.Numbers.{bit_set}
use Rattle.rsp_decode.specs.declared.inst.Inst.{Inst}
use Rattle.rsp_decode.specs.declared.inst.Inst.TheVariants.{VectorClip}
use Rattle.rsp_decode.specs.declared.vector.VectorClipOp.TheVariants.{Vch, Vcl}
use Rattle.rsp_decode.specs.declared.vector.Control.TheVariants.{Vcc}
use Rattle.rsp_decode.specs.declared.fields.VectorFields.{VectorFields}
use Rattle.rsp_lanes.specs.Lanes.{selected, source_lane, IsVector}
use Rattle.rsp_lanes.specs.Flags.{all_flags}
use Rattle.rsp_lanes.specs.Outcome.{results_of, lows_of, flags_after}
use Rattle.rsp_lanes.specs.declared.flags.Flags.{Flags}
use Rattle.rsp_acc.specs.Planes.{with_low}
use Rattle.rsp_compare.specs.Clips.{compare_flags, vch, vcl}
use Rattle.rsp_loadstore.specs.File.{IsFile, vector, with_vector}
use Rattle.rsp_loadstore.specs.Controls.{control_word}
use Rattle.rsp_scalar.specs.Flow.{address_after}
use Rattle.rsp_machine.specs.State.{State}
use Rattle.rsp_microcode.specs.Fixed.{fixed}
use Rattle.rsp_microcode.specs.Runs.{ran_through}
use Rattle.rsp_microcode.specs.Reads.{Write, after_writes}

-- whether x <= -w, and one of the two is negative (so not both are 0); and whether x >= w
abbrev pub is_below : ℤ → ℤ → Bool
is_below x w = (int_lt x (pos 0) || int_lt w (pos 0)) && int_le (x +ℤ w) (pos 0)

abbrev pub is_above : ℤ → ℤ → Bool
is_above x w = int_le w x

-- The codes of eight numbers: the compare flag of lane i says whether x i is below, and its clip flag whether it is above. VCO and VCE are clear.
abbrev pub codes_of : (ℕ → ℤ) → (ℕ → ℤ) → Flags
codes_of x w = all_flags (λ i. compare_flags (is_below (x i) (w i)) (is_above (x i) (w i)))

-- `vch _, a, c[e]` and then `vcl _, b, d[e]` leave the codes of the numbers in a and b, by the numbers that e selects in c and d, whatever
-- the flags were before.
abbrev pub ClipCodes : Type 0
ClipCodes = (a b c d : List ℕ) (e : ℕ) (f : Flags) → IsVector a → IsVector b → IsVector c → IsVector d
    → flags_after vcl b (selected d e) (flags_after vch a (selected c e) f) ≡ codes_of (fixed a b) (λ i. fixed c d (source_lane e i))

-- What CFC2 reads of VCC: bit i is the compare flag of lane i, and bit 8 + i its clip flag.
abbrev pub CodeBits : Type 0
CodeBits = (x w : ℕ → ℤ) (i : ℕ) → i < 8
    → (bit_set (control_word Vcc (codes_of x w)) i ≡ is_below (x i) (w i)) × (bit_set (control_word Vcc (codes_of x w)) (8 + i) ≡ is_above (x i) (w i))

-- The two instructions, by their fields: VCH of the high halves, and VCL of the low ones.
abbrev pub clip_code : VectorFields → VectorFields → List Inst
clip_code high low = VectorClip Vch high ∷ VectorClip Vcl low ∷ []

-- their fields are those of words, their elements are the same, and VCL reads no register that VCH writes
abbrev pub clip_fits : VectorFields → VectorFields → Bool
clip_fits high low =
    ((nat_lt high.vs 32 && nat_lt high.vt 32) && (nat_lt low.vs 32 && nat_lt low.vt 32))
    && ((low.element == high.element) && (not (low.vs == high.vd) && not (low.vt == high.vd)))

-- the numbers, and those that they are compared with
abbrev pub numbers_of : VectorFields → VectorFields → List (List ℕ) → ℕ → ℤ
numbers_of high low file i = fixed (vector file high.vs) (vector file low.vs) i

abbrev pub bounds_of : VectorFields → VectorFields → List (List ℕ) → ℕ → ℤ
bounds_of high low file i = fixed (vector file high.vt) (vector file low.vt) (source_lane high.element i)

-- what they write: the results of their rules
abbrev pub high_result : VectorFields → State → List ℕ
high_result high s = results_of vch (vector s.vectors high.vs) (selected (vector s.vectors high.vt) high.element) s.flags

abbrev pub high_flags : VectorFields → State → Flags
high_flags high s = flags_after vch (vector s.vectors high.vs) (selected (vector s.vectors high.vt) high.element) s.flags

abbrev pub clip_writes : VectorFields → VectorFields → State → List (Write (List ℕ))
clip_writes high low s =
    (high.vd, high_result high s) ∷ (low.vd, results_of vcl (vector s.vectors low.vs) (selected (vector s.vectors low.vt) low.element) (high_flags high s)) ∷ []

-- the state after them
abbrev pub clipped : VectorFields → VectorFields → State → State
clipped high low s = record s {
  pc = address_after s.npc;
  npc = address_after (address_after s.npc);
  vectors = after_writes with_vector (clip_writes high low s) s.vectors;
  accumulators = with_low (with_low s.accumulators (lows_of vch (vector s.vectors high.vs) (selected (vector s.vectors high.vt) high.element) s.flags))
      (lows_of vcl (vector s.vectors low.vs) (selected (vector s.vectors low.vt) low.element) (high_flags high s));
  flags = codes_of (numbers_of high low s.vectors) (bounds_of high low s.vectors);
}

-- a run through them
abbrev pub ClipsRun : Type 0
ClipsRun = (high low : VectorFields) (s : State) → IsFile s.vectors → clip_fits high low ≡ true → ran_through (clip_code high low) s ≡ clipped high low s
