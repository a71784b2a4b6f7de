use Rattle.std.proofs.Common.{arith, sym, ◌∙◌, []}
use Rattle.std.proofs.lemmas.List.{length-set, get_or_default}
use Rattle.rsp_loadstore.specs.File.{vector, with_vector}
use Rattle.rsp_loadstore.proofs.Filled.{more-registers, all-registers}
use Rattle.rsp_loadstore.proofs.file.VFile.lanes.Goals as goal

pub loop-n-preserved : goal.loop-n-preserved
unfolding vector with_vector
loop-n-preserved c =
    let value = c.to_array.ensures ∙ get_or_default c.self.inside.registers c.loop-n.n _ [] (omega (arith, c.self.invariant.count, c.loop-n-test.true)) in
    record {
      count = length-set c.loop-n.lanes _ _ ∙ c.loop-n.invariant.count;
      registers = more-registers c.loop-n.lanes c.self.inside.registers c.loop-n.n c.to_array.result (omega (arith, c.loop-n.invariant.count, c.loop-n-test.true)) value c.loop-n.invariant.registers;
    }

pub returns : goal.returns
returns c =
    sym (all-registers c.args.self.now c.loop-n.lanes (rw (← c.self.view_is) c.self.invariant.count) c.loop-n.invariant.count
    (λ k h. rw (← c.self.view_is) (sym (c.loop-n.invariant.registers k (omega arith)))))
