use Rattle.std.proofs.Common.{arith, take}
use Rattle.rsp_script_io.proofs.Prefixes.{leaves-less, taken-whole}
use Rattle.rsp_script_io.proofs.answer.write_all.Goals as goal

pub loop-rest-preserved : goal.loop-rest-preserved
loop-rest-preserved g c = record {
  left = leaves-less (take c.in_ok-n.n c.loop-rest.rest.now) _ c.loop-rest.invariant.left c.in_ok-n.ensures.told (taken-whole c.in_ok-n.n c.loop-rest.rest.now);
  count = grind (arith, c.in_ok-n.ensures.counted, c.loop-rest.invariant.count, c.if-n-eq0.false);
}
