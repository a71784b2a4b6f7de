use Rattle.std.proofs.Common.{arith, ◌∙◌, ap, length}
use Rattle.rsp_loadstore.specs.File.{vector}
use Rattle.rsp_loadstore.proofs.Filled.{length-with_vector, more-registers, all-registers}
use Rattle.rsp_loadstore.proofs.file.VFile.from_lanes.Goals as goal

pub loop-n-preserved : goal.loop-n-preserved
loop-n-preserved c = record {
  count = ap length c.put.ensures.value ∙ length-with_vector c.loop-n.file c.loop-n.n c.from_array.result ∙ c.loop-n.invariant.count;
  registers = λ k h.
      ap (λ f. vector f k) c.put.ensures.value
      ∙ more-registers c.loop-n.file c.args.lanes.now c.loop-n.n c.from_array.result (omega (arith, c.loop-n.invariant.count)) c.from_array.ensures c.loop-n.invariant.registers k h;
}

pub returns : goal.returns
returns c =
    all-registers c.loop-n.file c.args.lanes.now c.loop-n.invariant.count c.told-lanes
    (λ k h. c.loop-n.invariant.registers k (omega arith))
