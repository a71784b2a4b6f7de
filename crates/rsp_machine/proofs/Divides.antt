-- Which instructions of the divides' group write the accumulators and the divider.
use Rattle.std.proofs.Common.{◌≡◌, ℕ, ℤ, List, refl}
use Rattle.rsp_acc.specs.Planes.{with_low}
use Rattle.rsp_decode.specs.declared.vector.VectorDivideOp.{VectorDivideOp}
use Rattle.rsp_decode.specs.declared.vector.VectorDivideOp.TheVariants.{Vrcp}
use Rattle.rsp_decode.specs.declared.vector.VectorNopOp.{VectorNopOp}
use Rattle.rsp_decode.specs.declared.vector.VectorNopOp.TheVariants.{Vnop, Vnull}
use Rattle.rsp_lanes.specs.Lanes.{selected}
use Rattle.rsp_divide.specs.DivideRules.{divider_after, accumulators_after}
use Rattle.rsp_divide.specs.declared.divider.Divider.{Divider}
use Rattle.rsp_machine.specs.Operations.{divide_of, idle_of}

pub written : (op : VectorDivideOp) (e : ℕ) (vt : List ℕ) (accumulators : List ℤ)
    → accumulators_after (divide_of op) e vt accumulators ≡ with_low accumulators (selected vt e)
unfolding accumulators_after
written Vrcp e vt accumulators = refl
written _ e vt accumulators = refl

pub idle_accumulators : (op : VectorNopOp) (e : ℕ) (vt : List ℕ) (accumulators : List ℤ) → accumulators_after (idle_of op) e vt accumulators ≡ accumulators
unfolding accumulators_after
idle_accumulators Vnop e vt accumulators = refl
idle_accumulators Vnull e vt accumulators = refl

pub idle_divider : (op : VectorNopOp) (e de : ℕ) (vt : List ℕ) (d : Divider) → divider_after (idle_of op) e de vt d ≡ d
unfolding divider_after
idle_divider Vnop e de vt d = refl
idle_divider Vnull e de vt d = refl
