-- Moves neither read nor write pc and npc: with other ones they do the same, and leave them.
use Rattle.std.proofs.Common.{◌≡◌, refl, ℕ}
use Rattle.rsp_decode.specs.declared.inst.Inst.{Inst}
use Rattle.rsp_decode.specs.declared.inst.Inst.TheVariants.{Break}
use Rattle.rsp_decode.specs.declared.scalar.MoveOp.{MoveOp}
use Rattle.rsp_decode.specs.declared.scalar.MoveOp.TheVariants.{From, To}
use Rattle.rsp_machine.specs.State.{State}
use Rattle.rsp_machine.specs.Footprint.{footprint_of}
use Rattle.rsp_machine.specs.LoopTests.{IsRanged}
use Rattle.rsp_machine.specs.ProgramCounters.{ProgramCounters, with_counters}
use Rattle.rsp_machine.specs.Vector.{moves_vector, moves_control}

pub vector_elsewhere : (op : MoveOp) (i : Inst) (rt : ℕ) (p : ProgramCounters) (s : State) → moves_vector op i rt (with_counters p s) ≡ with_counters p (moves_vector op i rt s)
unfolding moves_vector
vector_elsewhere From i rt p s = refl
vector_elsewhere To i rt p s = refl

pub control_elsewhere : (op : MoveOp) (i : Inst) (rt : ℕ) (p : ProgramCounters) (s : State) → moves_control op i rt (with_counters p s) ≡ with_counters p (moves_control op i rt s)
unfolding moves_control
control_elsewhere From i rt p s = refl
control_elsewhere To i rt p s = refl

-- nor does what an instruction changes depend on the places
pub footprint_elsewhere : (i : Inst) (p : ProgramCounters) (s : State) → footprint_of i s ≡ footprint_of i (with_counters p s)
unfolding footprint_of
footprint_elsewhere Break p s = refl
footprint_elsewhere _ p s = refl

-- nor do the ranges of the vector unit tell
pub ranged-at : (p : ProgramCounters) (s : State) → IsRanged s → IsRanged (with_counters p s)
ranged-at p s r = record { vectors = r.vectors; accumulators = r.accumulators; flags = r.flags }
