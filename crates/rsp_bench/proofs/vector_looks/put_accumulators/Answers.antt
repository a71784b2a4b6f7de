use Rattle.rsp_bench.specs.Looks.{accumulators_text}
use Rattle.rsp_bench.proofs.Lanes.{accumulators_by_parts}
use Rattle.rsp_bench.proofs.vector_looks.put_accumulators.Goals as goal

pub returns : goal.returns
unfolding accumulators_text
returns g c =
    rw (c.push_accumulator_lines.ensures, c.requires)
    (accumulators_by_parts _ _ _ _ c.acc-high.ensures.high c.acc-high.ensures.middle c.acc-high.ensures.low)
