-- The ranges of what instructions compute.
use Rattle.std.proofs.Common.{ℕ, ◌+◌, ◌-◌, ◌/◌, ◌%◌, ◌^◌, ◌<◌, ℤ, pos, negsuc, ◌+ℤ◌, ◌*ℤ◌, List, Bool, true, false, arith, lit<, inl, inr}
use Rattle.std.specs.Prelude.{if◌then◌else◌, int_lt, int_le, nat_le, ◌&&◌, slice_index, ◌≤ℤ◌, ◌<ℤ◌, ◌-ℤ◌}
use Rattle.std.specs.Ordering.{int_eq}
use Rattle.std.specs.Int.Bits.{and_lt}
use Rattle.std.proofs.lemmas.Int.{ints}
use Rattle.std.proofs.lemmas.Bool.{cases_lt, lt-ltb, le-ltb}
use Rattle.std.proofs.lemmas.Nat.{or_lt, xor_lt, mod_below}
use Rattle.std.proofs.lemmas.Simd.{mask_l-lt}
use Rattle.std.proofs.Math.Nat.{div-le_self}
use Rattle.rsp_decode.specs.declared.scalar.ShiftOp.{ShiftOp}
use Rattle.rsp_decode.specs.declared.scalar.ShiftOp.TheVariants.{Sll, Srl, Sra}
use Rattle.rsp_decode.specs.declared.scalar.ShiftVariableOp.{ShiftVariableOp}
use Rattle.rsp_decode.specs.declared.scalar.ShiftVariableOp.TheVariants.{Sllv, Srlv, Srav}
use Rattle.rsp_decode.specs.declared.scalar.RegisterOp.{RegisterOp}
use Rattle.rsp_decode.specs.declared.scalar.RegisterOp.TheVariants.{Add, Addu, Sub, Subu, And, Or, Xor, Nor, Slt, Sltu}
use Rattle.rsp_decode.specs.declared.scalar.ImmediateOp.{ImmediateOp}
use Rattle.rsp_decode.specs.declared.scalar.ImmediateOp.TheVariants.{Addi, Addiu, Slti, Sltiu, Andi, Ori, Xori}
use Rattle.rsp_decode.specs.declared.scalar.LoadOp.{LoadOp}
use Rattle.rsp_decode.specs.declared.scalar.LoadOp.TheVariants.{Lb, Lh, Lw, Lbu, Lhu, Lwu}
use Rattle.rsp_decode.specs.declared.scalar.StoreOp.{StoreOp}
use Rattle.rsp_decode.specs.declared.scalar.StoreOp.TheVariants.{Sb, Sh, Sw}
use Rattle.rsp_decode.specs.declared.vector.Control.{Control}
use Rattle.rsp_decode.specs.declared.vector.Control.TheVariants.{Vco, Vcc, Vce}
use Rattle.rsp_multiply.specs.declared.op.RoundOp.{RoundOp}
use Rattle.rsp_multiply.specs.declared.op.MpegOp.{MpegOp}
use Rattle.rsp_multiply.specs.declared.op.MpegOp.TheVariants.{Vmulq, Vmacq}
use Rattle.rsp_compare.specs.declared.adds.AddOp.{AddOp}
use Rattle.rsp_compare.specs.declared.adds.AddOp.TheVariants.{Vadd, Vsub, Vabs, Vaddc, Vsubc}
use Rattle.rsp_compare.specs.declared.selects.SelectOp.{SelectOp}
use Rattle.rsp_compare.specs.declared.clips.ClipOp.{ClipOp}
use Rattle.rsp_compare.specs.declared.clips.ClipOp.TheVariants.{Vcl, Vch, Vcr}
use Rattle.rsp_compare.specs.declared.logic.LogicOp.{LogicOp}
use Rattle.rsp_compare.specs.declared.logic.LogicOp.TheVariants.{Vand, Vnand, Vor, Vnor, Vxor, Vnxor}
use Rattle.rsp_divide.specs.declared.op.DivideOp.{DivideOp}
use Rattle.rsp_divide.specs.declared.op.DivideOp.TheVariants.{Vrcp, Vrcpl, Vrcph, Vmov, Vrsq, Vrsql, Vrsqh, Vnop, Vnull}
use Rattle.rsp_numbers.specs.Numbers.{IsNumber, s16, complement, negated, floor_div, low}
use Rattle.rsp_memory.specs.Memory.{IsMemory, half_at, word_at, with_half, with_word}
use Rattle.rsp_lanes.specs.Lanes.{selected, source_lane}
use Rattle.rsp_lanes.specs.Flags.{LaneFlags}
use Rattle.rsp_lanes.specs.declared.flags.Flags.{Flags}
use Rattle.rsp_lanes.specs.Outcome.{Rule, Outcome}
use Rattle.rsp_lanes.proofs.Products.{high_vector}
use Rattle.rsp_multiply.specs.Mpeg.{accumulator_after_rounding, rounding_adds, accumulator_after_mpeg, has_bit_5}
use Rattle.rsp_multiply.proofs.Signs.{signed}
use Rattle.rsp_compare.specs.Adds.{add_rule}
use Rattle.rsp_compare.specs.declared.selects.MergeOp.TheVariants.{Vmrg}
use Rattle.rsp_compare.specs.Selects.{holds, select_rule, merge_rule}
use Rattle.rsp_compare.specs.Clips.{signs_differ, vcl_compare, clip_rule}
use Rattle.rsp_compare.specs.Logic.{logic_rule}
use Rattle.rsp_divide.specs.DivideRules.{division}
use Rattle.rsp_divide.specs.declared.divider.Divider.{Divider}
use Rattle.rsp_scalar.specs.ScalarRules.{shift_result, shift_by_result, register_result, immediate_result, load_result, store_result, truth}
use Rattle.rsp_loadstore.specs.Controls.{control_word}
use Rattle.rsp_machine.specs.State.{AreFlags}
use Rattle.rsp_microcode.proofs.RangesOfParts.{modulo_small, sixteen_small, either_small, memory_small, memory_written, wraps}

-- scalar instructions
shifted : (t k : ℕ) → t < 2 ^ 32 → t / 2 ^ k < 2 ^ 32
shifted t k h = omega (arith, div-le_self t (2 ^ k))

pub shift_small : (op : ShiftOp) (t k : ℕ) → t < 2 ^ 32 → shift_result op t k < 2 ^ 32
shift_small Sll t k h = mod_below _ (2 ^ 32) (omega arith)
shift_small Srl t k h = shifted t k h
shift_small Sra t k h = modulo_small _

pub shift_by_small : (op : ShiftVariableOp) (t k : ℕ) → t < 2 ^ 32 → shift_by_result op t k < 2 ^ 32
shift_by_small Sllv t k h = mod_below _ (2 ^ 32) (omega arith)
shift_by_small Srlv t k h = shifted t (k % 32) h
shift_by_small Srav t k h = modulo_small _

truth_small : (b : Bool) → truth b < 2 ^ 32
truth_small true = omega arith
truth_small false = omega arith

pub register_small : (op : RegisterOp) (a b : ℕ) → a < 2 ^ 32 → b < 2 ^ 32 → register_result op a b < 2 ^ 32
register_small Add a b h k = mod_below _ (2 ^ 32) (omega arith)
register_small Addu a b h k = mod_below _ (2 ^ 32) (omega arith)
register_small Sub a b h k = mod_below _ (2 ^ 32) (omega arith)
register_small Subu a b h k = mod_below _ (2 ^ 32) (omega arith)
register_small And a b h k = and_lt 32 a b h k
register_small Or a b h k = or_lt 32 a b h k
register_small Xor a b h k = xor_lt 32 a b h k
register_small Nor a b h k = omega arith
register_small Slt a b h k = truth_small _
register_small Sltu a b h k = truth_small _

pub immediate_small : (op : ImmediateOp) (a imm : ℕ) → a < 2 ^ 32 → imm < 65536 → immediate_result op a imm < 2 ^ 32
immediate_small Addi a imm h k = mod_below _ (2 ^ 32) (omega arith)
immediate_small Addiu a imm h k = mod_below _ (2 ^ 32) (omega arith)
immediate_small Slti a imm h k = truth_small _
immediate_small Sltiu a imm h k = truth_small _
immediate_small Andi a imm h k = and_lt 32 a imm h (omega arith)
immediate_small Ori a imm h k = or_lt 32 a imm h (omega arith)
immediate_small Xori a imm h k = xor_lt 32 a imm h (omega arith)

word_small : (m : List ℕ) (a : ℕ) → IsMemory m → word_at m a < 2 ^ 32
unfolding word_at
word_small m a is = omega (arith, memory_small m a is, memory_small m (a + 1) is, memory_small m (a + 2) is, memory_small m (a + 3) is)

half_small : (m : List ℕ) (a : ℕ) → IsMemory m → half_at m a < 2 ^ 32
unfolding half_at
half_small m a is = omega (arith, memory_small m a is, memory_small m (a + 1) is)

pub load_small : (op : LoadOp) (m : List ℕ) (a : ℕ) → IsMemory m → load_result op m a < 2 ^ 32
load_small Lb m a is = modulo_small _
load_small Lh m a is = modulo_small _
load_small Lw m a is = word_small m a is
load_small Lbu m a is = omega (arith, memory_small m a is)
load_small Lhu m a is = half_small m a is
load_small Lwu m a is = word_small m a is

high_part : (n : ℕ) → n % 2 ^ 16 / 256 < 256
high_part n = omega arith

pub stored_small : (op : StoreOp) (m : List ℕ) (a t : ℕ) → t < 2 ^ 32 → IsMemory m → IsMemory (store_result op m a t)
unfolding with_half with_word
stored_small Sb m a t h is = memory_written m a _ (mod_below t 256 (omega arith)) is
stored_small Sh m a t h is = memory_written _ (a + 1) _ (mod_below _ 256 (omega arith)) (memory_written m a _ (high_part t) is)
stored_small Sw m a t h is =
    memory_written _ (a + 3) _ (mod_below _ 256 (omega arith)) (memory_written _ (a + 2) _ (mod_below _ 256 (omega arith))
    (memory_written _ (a + 1) _ (mod_below _ 256 (omega arith)) (memory_written m a _ (omega arith) is)))

pub control_small : (c : Control) (f : Flags) → AreFlags f → control_word c f < 2 ^ 32
control_small Vco f is = modulo_small _
control_small Vcc f is = modulo_small _
control_small Vce f is = let e = is.extra in let m = mask_l-lt f.extra in let m' = rw e at m in omega (arith, m')

-- rules of one lane
abbrev pub IsSmall : Rule → Type 0
IsSmall rule = (a b : ℕ) (f : LaneFlags) → a < 65536 → b < 65536 → (rule a b f).result < 65536

negated_small : (b : ℕ) → negated b < 65536
negated_small b = mod_below (65536 - b) 65536 (omega arith)

complement_small : (b : ℕ) → complement b < 65536
complement_small b = omega arith

outcome_small : (c : Bool) (x y : Outcome) → x.result < 65536 → y.result < 65536 → (if c then x else y).result < 65536
outcome_small true x y h k = h
outcome_small false x y h k = k

one_small : (c : Bool) (m n : ℕ) → m < 65536 → n < 65536 → (if c then m else n) < 65536
one_small c m n h k = either_small c m n 65536 h k

pub add_small : (op : AddOp) → IsSmall (add_rule op)
add_small Vadd a b f h k = sixteen_small _
add_small Vsub a b f h k = sixteen_small _
add_small Vabs a b f h k =
    outcome_small (int_lt (s16 a) (pos 0) && int_eq (s16 b) (negsuc 32767)) _ _ (lit< tt)
    (one_small (int_lt (s16 a) (pos 0)) _ _ (negated_small b) (one_small (int_eq (s16 a) (pos 0)) _ _ (lit< tt) k))
add_small Vaddc a b f h k = mod_below (a + b) 65536 (lit< tt)
add_small Vsubc a b f h k = sixteen_small _

pub select_small : (op : SelectOp) → IsSmall (select_rule op)
select_small op a b f h k = one_small (holds op a b f) a b h k

pub merge_small : IsSmall (merge_rule Vmrg)
merge_small a b f h k = one_small f.compare a b h k

pub clip_small : (op : ClipOp) → IsSmall (clip_rule op)
clip_small Vcl a b f h k =
    let limit : negated b < 65536 = negated_small b in
    outcome_small (f.carry && f.differ) _ _ (one_small f.compare _ a limit h)
    (outcome_small f.carry _ _ (one_small (vcl_compare (a + b) f.extra) _ a limit h)
    (outcome_small f.differ _ _ (one_small f.clip b a k h) (one_small (nat_le b a) b a k h)))
clip_small Vch a b f h k =
    outcome_small (signs_differ a b) _ _ (one_small (int_le (s16 a +ℤ s16 b) (pos 0)) _ a (negated_small b) h)
    (one_small (int_le (pos 0) (s16 a -ℤ s16 b)) b a k h)
clip_small Vcr a b f h k =
    outcome_small (signs_differ a b) _ _ (one_small (int_le (s16 a +ℤ s16 b +ℤ pos 1) (pos 0)) _ a (complement_small b) h)
    (one_small (int_le (pos 0) (s16 a -ℤ s16 b)) b a k h)

pub logic_small : (op : LogicOp) → IsSmall (logic_rule op)
logic_small Vand a b f h k = and_lt 16 a b h k
logic_small Vnand a b f h k = complement_small _
logic_small Vor a b f h k = or_lt 16 a b h k
logic_small Vnor a b f h k = complement_small _
logic_small Vxor a b f h k = xor_lt 16 a b h k
logic_small Vnxor a b f h k = complement_small _

pub selected_small : (v : List ℕ) (e i : ℕ) → ((i : ℕ) → slice_index v i < 65536) → slice_index (selected v e) i < 65536
selected_small v e i h = (high_vector _ (λ j. h (source_lane e j))).1 i

-- divide instructions
pub division_small : (op : DivideOp) (d : Divider) (source lane : ℕ) → d.input < 65536 → d.output < 65536 → source < 65536 → lane < 65536
    → ((division op d source lane).lane < 65536) × (((division op d source lane).divider.input < 65536) × ((division op d source lane).divider.output < 65536))
division_small Vrcp d source lane i o s l = (sixteen_small _, (i, sixteen_small _))
division_small Vrcpl d source lane i o s l = (sixteen_small _, (i, sixteen_small _))
division_small Vrcph d source lane i o s l = (o, (s, o))
division_small Vmov d source lane i o s l = (l, (i, o))
division_small Vrsq d source lane i o s l = (sixteen_small _, (i, sixteen_small _))
division_small Vrsql d source lane i o s l = (sixteen_small _, (i, sixteen_small _))
division_small Vrsqh d source lane i o s l = (o, (s, o))
division_small Vnop d source lane i o s l = (l, (i, o))
division_small Vnull d source lane i o s l = (l, (i, o))

-- accumulators
one_number : (c : Bool) (x y : ℤ) → IsNumber x → IsNumber y → IsNumber (if c then x else y)
one_number true x y h k = h
one_number false x y h k = k

pub round_fits : (op : RoundOp) (odd : Bool) (x : ℤ) (b : ℕ) → IsNumber x → IsNumber (accumulator_after_rounding op odd x b)
round_fits op odd x b h = one_number (rounding_adds op x) _ x (wraps _) h

abbrev Is32 : ℤ → Type 0
Is32 z = (negsuc (2 ^ 31 - 1) ≤ℤ z) × (z <ℤ pos (2 ^ 31))

times_65536 : (p : ℤ) (l : ℕ) → Is32 p → l < 65536 → IsNumber (p *ℤ pos 65536 +ℤ pos l)
times_65536 p l h k = (omega (arith, ints, h.0, h.1), omega (arith, ints, h.0, h.1))

times_alone : (p : ℤ) → Is32 p → IsNumber (p *ℤ pos 65536)
times_alone p h = (omega (arith, ints, h.0, h.1), omega (arith, ints, h.0, h.1))

product_fits : (c : Bool) (p : ℤ) → negsuc (2 ^ 30 - 1) ≤ℤ p → p ≤ℤ pos (2 ^ 30) → Is32 (if c then p +ℤ pos 31 else p)
product_fits true p h k = (omega (arith, ints, h, k), omega (arith, ints, h, k))
product_fits false p h k = (omega (arith, ints, h, k), omega (arith, ints, h, k))

divided_fits : (x : ℤ) → IsNumber x → Is32 (floor_div x 65536)
divided_fits (pos n) h = (omega (arith, ints, h.0, h.1), omega (arith, ints, h.0, h.1))
divided_fits (negsuc n) h = (omega (arith, ints, h.0, h.1), omega (arith, ints, h.0, h.1))

stepped : (b : Bool) (p : ℤ) → Is32 p → Is32 (p +ℤ (if b then pos 0 else if int_lt p (pos 0) then pos 32 else if int_lt p (pos 32) then pos 0 else negsuc 31))
stepped true p h = (omega (arith, ints, h.0, h.1), omega (arith, ints, h.0, h.1))
stepped false (pos n) h = elim (cases_lt n 32) [
  | inl l ↦ rw (le-ltb n 0 (omega arith), lt-ltb n 32 l) (omega (arith, ints, h.0, h.1), omega (arith, ints, h.0, h.1))
  | inr l ↦ rw (le-ltb n 0 (omega arith), le-ltb n 32 l) (omega (arith, ints, h.0, h.1), omega (arith, ints, h.0, h.1))
]
stepped false (negsuc n) h = (omega (arith, ints, h.0, h.1), omega (arith, ints, h.0, h.1))

pub mpeg_fits : (op : MpegOp) (x : ℤ) (a b : ℕ) → IsNumber x → a < 65536 → b < 65536 → IsNumber (accumulator_after_mpeg op x a b)
unfolding low
mpeg_fits Vmulq x a b h i j = let p = (signed a b i j).1 in times_alone _ (product_fits (int_lt (s16 a *ℤ s16 b) (pos 0)) _ p.low p.high)
mpeg_fits Vmacq x a b h i j = times_65536 _ _ (stepped (has_bit_5 (floor_div x 65536)) _ (divided_fits x h)) (sixteen_small x)
