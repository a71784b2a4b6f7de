-- The flags of the vector unit: of one lane, and of all eight.
use Rattle.std.specs.Prelude.{ℕ, ◌+◌, ◌*◌, Bool, false, slice_index_or}
use Rattle.std.specs.Simd.Lanes.{mask_l}
use Rattle.rsp_lanes.specs.Lanes.{each_lane}
use Rattle.rsp_lanes.specs.declared.flags.Flags.{Flags}

-- The flags of one lane. Carry and not-equal (`differ`) are in VCO, compare and clip in VCC, extra in VCE.
pub record LaneFlags : Type 0 where
  pub carry : Bool
  pub differ : Bool
  pub compare : Bool
  pub clip : Bool
  pub extra : Bool

-- the flags of lane i
abbrev pub flags_at : Flags → ℕ → LaneFlags
flags_at f i = record {
  carry = slice_index_or f.carry i false;
  differ = slice_index_or f.differ i false;
  compare = slice_index_or f.compare i false;
  clip = slice_index_or f.clip i false;
  extra = slice_index_or f.extra i false;
}

-- the flags whose lane i is f i
abbrev pub all_flags : (ℕ → LaneFlags) → Flags
all_flags f = record {
  carry = each_lane (λ i. (f i).carry);
  differ = each_lane (λ i. (f i).differ);
  compare = each_lane (λ i. (f i).compare);
  clip = each_lane (λ i. (f i).clip);
  extra = each_lane (λ i. (f i).extra);
}

-- all flags clear
abbrev pub no_flags : Flags
no_flags = record {
  carry = each_lane (λ _. false);
  differ = each_lane (λ _. false);
  compare = each_lane (λ _. false);
  clip = each_lane (λ _. false);
  extra = each_lane (λ _. false);
}

-- a lane's flags with VCO, which is carry and not-equal, cleared
abbrev pub vco_cleared : LaneFlags → LaneFlags
vco_cleared f = record f { carry = false; differ = false }

-- VCO and VCC as sixteen bits: eight flags in bits 7 to 0, and eight in bits 15 to 8. Flag i of eight is bit i of them.
abbrev pub vco : Flags → ℕ
vco f = mask_l f.carry + mask_l f.differ * 256

abbrev pub vcc : Flags → ℕ
vcc f = mask_l f.compare + mask_l f.clip * 256
