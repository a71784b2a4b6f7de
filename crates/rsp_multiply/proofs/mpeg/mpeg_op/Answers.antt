use Rattle.std.proofs.Common.{◌∙◌, pos}
use Rattle.rsp_lanes.proofs.Kit.{lane_of, each_same}
use Rattle.rsp_multiply.specs.Mpeg.{accumulators_after_mpeg}
use Rattle.rsp_multiply.proofs.Halvings.{stepped}
use Rattle.rsp_multiply.proofs.mpeg.mpeg_op.Goals as goal
use Rattle.rsp_multiply.proofs.mpeg.mpeg_op.Goals.{in-Vmulq, in-Vmacq}

pub returns-clause-accumulators : goal.returns-clause-accumulators
unfolding accumulators_after_mpeg
returns-clause-accumulators g c =
    elim c.match-op.branch [
      | in-Vmulq w ↦ rw (w.acc-is, w.in-Vmulq.is) w.multiply_rounded.ensures
      | in-Vmacq w ↦
          rw (w.acc-is, w.in-Vmacq.is) (w.add.ensures.value ∙ each_same _ _ (λ i h.
          rw (lane_of (pos 0) _ _ w.shifted.ensures i h, lane_of 0 _ _ w.steps.ensures i h) (stepped _ (w.add.ensures.within.1 i))))
    ]
