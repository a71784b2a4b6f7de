-- The clip instructions, each by its rule for one lane. a is a lane of vs and b a lane of the selected vt, as unsigned
-- values; s16 gives the signed ones.
-- Sources: Nintendo's RSP Programmer's Guide, chapter on vector unit instructions; the N64brew Wiki's page "Reality Signal Processor/CPU Core".
use Rattle.std.specs.Prelude.{ℕ, pos, negsuc, ◌+◌, ◌%◌, ◌+ℤ◌, ◌-ℤ◌, Bool, true, false, not, ◌&&◌, ◌||◌, int_lt, int_le, nat_lt, nat_le, nat_eq, if◌then◌else◌}
use Rattle.std.specs.Ordering.{int_eq}
use Rattle.rsp_lanes.specs.Lanes.{bool_xor}
use Rattle.rsp_numbers.specs.Numbers.{s16, complement, negated}
use Rattle.rsp_lanes.specs.Flags.{LaneFlags}
use Rattle.rsp_lanes.specs.Outcome.{Outcome, Rule, plain}
use Rattle.rsp_compare.specs.declared.clips.ClipOp.{ClipOp}
use Rattle.rsp_compare.specs.declared.clips.ClipOp.TheVariants.{Vcl, Vch, Vcr}

-- whether just one of the signed values is negative
abbrev pub signs_differ : ℕ → ℕ → Bool
signs_differ a b = bool_xor (int_lt (s16 a) (pos 0)) (int_lt (s16 b) (pos 0))

-- the flags with this compare and this clip; VCO and VCE are cleared
abbrev pub compare_flags : Bool → Bool → LaneFlags
compare_flags compare clip = record { carry = false; differ = false; compare = compare; clip = clip; extra = false }

-- the bound if compare is set, else a; with these flags
abbrev pub by_compare : ℕ → ℕ → Bool → Bool → Outcome
by_compare bound a compare clip = plain (if compare then bound else a) (compare_flags compare clip)

-- b if clip is set, else a; with these flags
abbrev pub by_clip : ℕ → ℕ → Bool → Bool → Outcome
by_clip b a compare clip = plain (if clip then b else a) (compare_flags compare clip)

-- VCH if the signs differ: the bound is -b, and n is the sum
abbrev pub vch_signs_differ : ℕ → ℕ → Outcome
vch_signs_differ a b =
    let n = s16 a +ℤ s16 b in
    plain (if int_le n (pos 0) then negated b else a)
    (record {
      carry = true;
      differ = not (int_eq n (pos 0)) && not (int_eq n (negsuc 0));
      compare = int_le n (pos 0);
      clip = int_lt (s16 b) (pos 0);
      extra = int_eq n (negsuc 0);
    })

-- VCH if the signs agree: the bound is b, and n is the difference
abbrev pub vch_signs_agree : ℕ → ℕ → Outcome
vch_signs_agree a b =
    let n = s16 a -ℤ s16 b in
    plain (if int_le (pos 0) n then b else a)
    (record {
      carry = false;
      differ = not (int_eq n (pos 0));
      compare = int_lt (s16 b) (pos 0);
      clip = int_le (pos 0) n;
      extra = false;
    })

-- VCH, which reads no flag
abbrev pub vch : Rule
vch a b f = if signs_differ a b then vch_signs_differ a b else vch_signs_agree a b

-- what VCL writes to compare if carry alone is set: n is the sum of the unsigned values, which isn't taken modulo 65536
abbrev pub vcl_compare : ℕ → Bool → Bool
vcl_compare n extra = if extra then nat_eq (n % 65536) 0 || nat_lt n 65536 else nat_eq n 0

-- VCL, by carry and not-equal: both, carry alone, not-equal alone, neither. Compare and clip are kept unless a case
-- writes them
abbrev pub vcl : Rule
vcl a b f =
    if f.carry && f.differ then by_compare (negated b) a f.compare f.clip
    else if f.carry then by_compare (negated b) a (vcl_compare (a + b) f.extra) f.clip
    else if f.differ then by_clip b a f.compare f.clip
    else by_clip b a f.compare (nat_le b a)

-- VCR if the signs differ: the bound is the complement of b
abbrev pub vcr_signs_differ : ℕ → ℕ → Outcome
vcr_signs_differ a b = by_compare (complement b) a (int_le (s16 a +ℤ s16 b +ℤ pos 1) (pos 0)) (int_lt (s16 b) (pos 0))

-- VCR if the signs agree: the bound is b
abbrev pub vcr_signs_agree : ℕ → ℕ → Outcome
vcr_signs_agree a b = by_clip b a (int_lt (s16 b) (pos 0)) (int_le (pos 0) (s16 a -ℤ s16 b))

-- VCR, which reads no flag
abbrev pub vcr : Rule
vcr a b f = if signs_differ a b then vcr_signs_differ a b else vcr_signs_agree a b

-- the rule of each instruction
abbrev pub clip_rule : ClipOp → Rule
clip_rule Vcl = vcl
clip_rule Vch = vch
clip_rule Vcr = vcr
