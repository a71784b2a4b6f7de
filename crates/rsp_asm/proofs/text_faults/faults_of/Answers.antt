use Rattle.std.proofs.Common.{subst, arith, ◌∷◌, List, ℕ}
use Rattle.std.specs.Str.Lines.{lines}
use Rattle.rsp_asm.proofs.FaultWalk.{Found, found_more, at_most}
use Rattle.rsp_asm.proofs.text_faults.faults_of.Goals as goal

pub loop-line-preserved : goal.loop-line-preserved
loop-line-preserved c =
    let ls = lines c.args.text.now in
    let line = c.in-Some.line.now in
    let more = lines c.in-Some.more.now in
    let pass = c.loop-line.pass in
    let faults = c.loop-line.faults in
    let before : Found c.args.origin c.loop-line.number ls (line ∷ more) pass.labels pass.address pass.is_full faults.first.items faults.count =
    subst (λ (left : List (List ℕ)). Found c.args.origin c.loop-line.number ls left pass.labels pass.address pass.is_full faults.first.items faults.count) c.in-Some.ensures.0 c.loop-line.invariant.so_far in
    record {
      so_far =
          found_more c.args.origin c.loop-line.number ls line more pass.labels pass.address pass.is_full faults.first.items faults.count before
          c.take.new.self.labels c.take.new.self.address c.take.new.self.is_full c.add.new.self.first.items c.add.new.self.count c.in_ok-found.found
          c.in_ok-found.ensures.fault c.in_ok-found.ensures.labels c.in_ok-found.ensures.address c.in_ok-found.ensures.full c.in_ok-add.ensures.first c.in_ok-add.ensures.count;
      low = c.take.ensures.low;
      few = omega (arith, c.in-Some.ensures.1, c.loop-line.invariant.few);
      counted = at_most c.args.origin c.loop-line.number ls line more pass.labels pass.address pass.is_full faults.first.items faults.count before c.in_ok-found.found c.add.new.self.count c.loop-line.invariant.counted c.in_ok-add.ensures.count;
    }
