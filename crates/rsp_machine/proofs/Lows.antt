-- The rows that write the low accumulators leave the others: what was saved of the low ones leads back.
use Rattle.std.proofs.Common.{◌≡◌, ℕ, ◌+◌, ◌-◌, ◌<◌, ℤ, pos, negsuc, Bool, true, false, List, arith, refl, inl, inr, lit<}
use Rattle.std.specs.Prelude.{if◌then◌else◌, ◌&&◌, int_lt, slice_index}
use Rattle.std.specs.Ordering.{int_eq}
use Rattle.std.specs.Int.Bits.{and_lt}
use Rattle.std.proofs.lemmas.Nat.{or_lt, xor_lt, mod_below}
use Rattle.std.proofs.lemmas.Bool.{cases_lt}
use Rattle.std.proofs.lemmas.List.{get_or_past}
use Rattle.rsp_lanes.proofs.Kit.{lane_of}
use Rattle.rsp_lanes.specs.Lanes.{selected, source_lane}
use Rattle.rsp_lanes.specs.Flags.{LaneFlags, flags_at}
use Rattle.rsp_lanes.specs.Outcome.{Outcome, Rule, plain, outcome_at, lows_of}
use Rattle.rsp_numbers.specs.Numbers.{low, s16, sixteen_bits, complement, negated}
use Rattle.rsp_acc.specs.Planes.{with_low}
use Rattle.rsp_acc.proofs.Rejoined.{low_below}
use Rattle.rsp_acc.proofs.Lows.{lows_back}
use Rattle.rsp_compare.specs.declared.adds.AddOp.{AddOp}
use Rattle.rsp_compare.specs.declared.adds.AddOp.TheVariants.{Vadd, Vsub, Vabs, Vaddc, Vsubc}
use Rattle.rsp_compare.specs.Adds.{add_rule}
use Rattle.rsp_compare.specs.declared.selects.SelectOp.{SelectOp}
use Rattle.rsp_compare.specs.declared.selects.MergeOp.TheVariants.{Vmrg}
use Rattle.rsp_compare.specs.Selects.{select_rule, merge_rule}
use Rattle.rsp_compare.specs.declared.clips.ClipOp.{ClipOp}
use Rattle.rsp_compare.specs.declared.clips.ClipOp.TheVariants.{Vcl, Vch, Vcr}
use Rattle.rsp_compare.specs.Clips.{clip_rule}
use Rattle.rsp_compare.specs.declared.logic.LogicOp.{LogicOp}
use Rattle.rsp_compare.specs.declared.logic.LogicOp.TheVariants.{Vand, Vor, Vxor}
use Rattle.rsp_compare.specs.Logic.{logic_rule}
use Rattle.rsp_loadstore.specs.File.{vector, IsFile}
use Rattle.rsp_machine.specs.State.{State}
use Rattle.rsp_machine.specs.Undo.{with_low_of}
use Rattle.rsp_machine.specs.LoopTests.{IsRanged}

-- an outcome, and each outcome of a rule, has sixteen bits for the low accumulator
pub record IsSixteen (x : Outcome) : Type 0 where
  pub low : x.low < 65536

abbrev pub IsLow : Rule → Type 0
IsLow rule = (a b : ℕ) (f : LaneFlags) → a < 65536 → b < 65536 → IsSixteen (rule a b f)

bits_below : (z : ℤ) → sixteen_bits z < 65536
unfolding low
bits_below z = low_below z

negated_below : (b : ℕ) → negated b < 65536
negated_below b = mod_below (65536 - b) 65536 (lit< tt)

complement_below : (b : ℕ) → complement b < 65536
complement_below b = omega arith

one_below : (c : Bool) (m n : ℕ) → m < 65536 → n < 65536 → (if c then m else n) < 65536
one_below true m n h k = h
one_below false m n h k = k

either : (c : Bool) (x y : Outcome) → IsSixteen x → IsSixteen y → IsSixteen (if c then x else y)
either true x y h k = h
either false x y h k = k

whole : (n : ℕ) (f : LaneFlags) → n < 65536 → IsSixteen (plain n f)
whole n f h = record { low = h }

either_whole : (c : Bool) (m n : ℕ) (f : LaneFlags) → m < 65536 → n < 65536 → IsSixteen (plain (if c then m else n) f)
either_whole c m n f h k = whole _ f (one_below c m n h k)

ruleset sixteen = (either, whole, either_whole, one_below, negated_below, complement_below, and_lt, or_lt, xor_lt)

-- the rules of the instructions
pub add_low : (op : AddOp) → IsLow (add_rule op)
add_low Vadd a b f h k = record { low = bits_below _ }
add_low Vsub a b f h k = record { low = bits_below _ }
add_low Vabs a b f h k =
    either (int_lt (s16 a) (pos 0) && int_eq (s16 b) (negsuc 32767)) _ _ (record { low = lit< tt })
    (whole _ f (one_below (int_lt (s16 a) (pos 0)) _ _ (negated_below b) (one_below (int_eq (s16 a) (pos 0)) _ _ (lit< tt) k)))
add_low Vaddc a b f h k = record { low = mod_below (a + b) 65536 (lit< tt) }
add_low Vsubc a b f h k = record { low = bits_below _ }

pub select_low : (op : SelectOp) → IsLow (select_rule op)
select_low op a b f h k = search (sixteen, h, k)

pub merge_low : IsLow (merge_rule Vmrg)
merge_low a b f h k = search (sixteen, h, k)

pub clip_low : (op : ClipOp) → IsLow (clip_rule op)
clip_low Vcl a b f h k = search (sixteen, h, k)
clip_low Vch a b f h k = search (sixteen, h, k)
clip_low Vcr a b f h k = search (sixteen, h, k)

pub logic_low : (op : LogicOp) → IsLow (logic_rule op)
logic_low Vand a b f h k = whole _ f (and_lt 16 a b h k)
logic_low Vor a b f h k = whole _ f (or_lt 16 a b h k)
logic_low Vxor a b f h k = whole _ f (xor_lt 16 a b h k)
logic_low _ a b f h k = whole _ f (complement_below _)

-- the lanes of a register, and of a selected one
vector_below : (file : List (List ℕ)) → IsFile file → (n i : ℕ) → slice_index (vector file n) i < 65536
unfolding vector
vector_below file h n i =
    elim (cases_lt n 32) [
      | inl k ↦ (h.registers n k).1 i
      | inr k ↦ rw (get_or_past file n _ (omega (arith, h.count))) (lit< tt)
    ]

selected_below : (v : List ℕ) (e : ℕ) → ((i : ℕ) → slice_index v i < 65536) → (i : ℕ) → i < 8 → slice_index (selected v e) i < 65536
selected_below v e h i k = rw (lane_of 0 (λ j. slice_index v (source_lane e j)) _ refl i k) (h (source_lane e i))

-- what was saved leads back from accumulators whose low parts were written over
abbrev pub LeadsBack : State → List ℤ → List ℕ → Type 0
LeadsBack s xs l = with_low_of (with_low_of s.accumulators xs) (with_low s.accumulators l) ≡ s.accumulators

pub rule-back : (rule : Rule) → IsLow rule → (s : State) (xs : List ℤ) (vs vt e : ℕ) → IsRanged s
    → LeadsBack s xs (lows_of rule (vector s.vectors vs) (selected (vector s.vectors vt) e) s.flags)
unfolding lows_of
rule-back rule sixteen s xs vs vt e h =
    let a : List ℕ = vector s.vectors vs in
    let b : List ℕ = selected (vector s.vectors vt) e in
    lows_back s.accumulators xs _ h.accumulators
    (λ i k. rw (lane_of 0 (λ j. (outcome_at rule a b s.flags j).low) _ refl i k)
    (sixteen _ _ (flags_at s.flags i) (vector_below s.vectors h.vectors vs i) (selected_below (vector s.vectors vt) e (vector_below s.vectors h.vectors vt) i k)).low)

pub divide-back : (s : State) (xs : List ℤ) (vt e : ℕ) → IsRanged s → LeadsBack s xs (selected (vector s.vectors vt) e)
divide-back s xs vt e h =
    lows_back s.accumulators xs _ h.accumulators (selected_below (vector s.vectors vt) e (vector_below s.vectors h.vectors vt))
