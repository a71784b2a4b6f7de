-- The divide instructions, VMOV, VNOP and VNULL: what each writes to vd, to the divider and to the accumulators.
-- Sources: Nintendo's RSP Programmer's Guide, chapter on vector unit instructions; the N64brew Wiki's page "Reality Signal Processor/CPU Core".
use Rattle.std.specs.Prelude.{ℕ, ℤ, ◌%◌, List, slice_set, slice_index, Bool, true, false, if◌then◌else◌}
use Rattle.rsp_lanes.specs.Lanes.{selected}
use Rattle.rsp_acc.specs.Planes.{with_low}
use Rattle.rsp_numbers.specs.Numbers.{s16}
use Rattle.rsp_divide.specs.Dividers.{Division, divided, half_exchange, lane_only, operand}
use Rattle.rsp_divide.specs.Quotients.{reciprocal_of, inverse_root_of}
use Rattle.rsp_divide.specs.declared.divider.Divider.{Divider}
use Rattle.rsp_divide.specs.declared.op.DivideOp.{DivideOp}
use Rattle.rsp_divide.specs.declared.op.DivideOp.TheVariants.{Vrcp, Vrcpl, Vrcph, Vmov, Vrsq, Vrsql, Vrsqh, Vnop, Vnull}

-- whether an instruction writes a lane: VNOP and VNULL change nothing
abbrev pub writes : DivideOp → Bool
writes Vnop = false
writes Vnull = false
writes op = true

-- what an instruction does, from the divider, the source (lane e mod 8 of vt), and lane de of the selected vt
abbrev pub division : DivideOp → Divider → ℕ → ℕ → Division
division Vrcp d source lane = divided d (reciprocal_of (s16 source))
division Vrcpl d source lane = divided d (reciprocal_of (operand d source))
division Vrcph d source lane = half_exchange d source
division Vmov d source lane = lane_only d lane
division Vrsq d source lane = divided d (inverse_root_of (s16 source))
division Vrsql d source lane = divided d (inverse_root_of (operand d source))
division Vrsqh d source lane = half_exchange d source
division Vnop d source lane = lane_only d lane
division Vnull d source lane = lane_only d lane

-- the instruction with element e and lane de
abbrev pub division_at : DivideOp → ℕ → ℕ → List ℕ → Divider → Division
division_at op e de vt d = division op d (slice_index vt (e % 8)) (slice_index (selected vt e) de)

-- the register vd after it: lane de alone is written
unfoldable pub vd_after : DivideOp → ℕ → ℕ → List ℕ → Divider → List ℕ → List ℕ
vd_after op e de vt d vd = if writes op then slice_set vd de (division_at op e de vt d).lane else vd

-- the divider after it
unfoldable pub divider_after : DivideOp → ℕ → ℕ → List ℕ → Divider → Divider
divider_after op e de vt d = (division_at op e de vt d).divider

-- the accumulators after it: their low parts are the lanes that the element selects
unfoldable pub accumulators_after : DivideOp → ℕ → List ℕ → List ℤ → List ℤ
accumulators_after op e vt accumulators = if writes op then with_low accumulators (selected vt e) else accumulators
