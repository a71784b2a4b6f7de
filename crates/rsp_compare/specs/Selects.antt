-- The compare and merge instructions, each by its rule for one lane. A flag that a rule doesn't name is kept.
-- Sources: Nintendo's RSP Programmer's Guide, chapter on vector unit instructions; the N64brew Wiki's page "Reality Signal Processor/CPU Core".
use Rattle.std.specs.Prelude.{ℕ, Bool, false, not, ◌&&◌, ◌||◌, int_lt, if◌then◌else◌}
use Rattle.std.specs.Ordering.{int_eq}
use Rattle.rsp_numbers.specs.Numbers.{s16}
use Rattle.rsp_lanes.specs.Flags.{LaneFlags, vco_cleared}
use Rattle.rsp_lanes.specs.Outcome.{Rule, plain}
use Rattle.rsp_compare.specs.declared.selects.SelectOp.{SelectOp}
use Rattle.rsp_compare.specs.declared.selects.SelectOp.TheVariants.{Vlt, Veq, Vne, Vge}
use Rattle.rsp_compare.specs.declared.selects.MergeOp.{MergeOp}
use Rattle.rsp_compare.specs.declared.selects.MergeOp.TheVariants.{Vmrg}

-- whether VLT's comparison holds: a is less than b as a signed value; if they are equal, carry and differ are both set
abbrev pub vlt : ℕ → ℕ → LaneFlags → Bool
vlt a b f = int_lt (s16 a) (s16 b) || (int_eq (s16 a) (s16 b) && (f.carry && f.differ))

-- whether VEQ's holds: the signed values are equal, and differ is clear
abbrev pub veq : ℕ → ℕ → LaneFlags → Bool
veq a b f = int_eq (s16 a) (s16 b) && not f.differ

-- whether VNE's holds: the signed values aren't equal, or differ is set
abbrev pub vne : ℕ → ℕ → LaneFlags → Bool
vne a b f = not (int_eq (s16 a) (s16 b)) || f.differ

-- whether VGE's holds: a is greater than b as a signed value; if they are equal, carry and differ aren't both set
abbrev pub vge : ℕ → ℕ → LaneFlags → Bool
vge a b f = int_lt (s16 b) (s16 a) || (int_eq (s16 a) (s16 b) && not (f.carry && f.differ))

abbrev pub holds : SelectOp → ℕ → ℕ → LaneFlags → Bool
holds Vlt = vlt
holds Veq = veq
holds Vne = vne
holds Vge = vge

-- a if the comparison holds, else b; compare is the answer, clip and VCO are cleared
abbrev pub select_rule : SelectOp → Rule
select_rule op a b f =
    plain (if holds op a b f then a else b)
    (record f { carry = false; differ = false; compare = holds op a b f; clip = false })

-- a if compare is set, else b; VCO is cleared
abbrev pub vmrg : Rule
vmrg a b f = plain (if f.compare then a else b) (vco_cleared f)

abbrev pub merge_rule : MergeOp → Rule
merge_rule Vmrg = vmrg
