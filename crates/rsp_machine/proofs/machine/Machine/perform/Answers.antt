use Rattle.std.proofs.Common.{rules}
use Rattle.rsp_decode.specs.declared.inst.Inst.TheVariants.{MoveVector, MoveControl}
use Rattle.rsp_machine.specs.Step.{instruction_effect}
use Rattle.rsp_machine.specs.ProgramCounters.{counters_of}
use Rattle.rsp_machine.proofs.CountersApart.{vector_elsewhere, control_elsewhere}
use Rattle.rsp_machine.proofs.machine.Machine.perform.Goals as goal

pub returns-in-MoveVector : goal.returns-in-MoveVector
unfolding instruction_effect
returns-in-MoveVector g c =
    let i = c.in-MoveVector in let p = c.args.counters.now in let s = c.args.self.now in
    let inst = MoveVector i.op i.rt i.vector i.element in
    record {
      state = rw (i.is, vector_elsewhere i.op inst i.rt p s, ← vector_elsewhere i.op inst i.rt (counters_of s) s) (search rules);
      counters = rw (i.is, vector_elsewhere i.op inst i.rt p s) (search rules);
    }

pub returns-in-MoveControl : goal.returns-in-MoveControl
unfolding instruction_effect
returns-in-MoveControl g c =
    let i = c.in-MoveControl in let p = c.args.counters.now in let s = c.args.self.now in
    let inst = MoveControl i.op i.rt i.control in
    record {
      state = rw (i.is, control_elsewhere i.op inst i.rt p s, ← control_elsewhere i.op inst i.rt (counters_of s) s) (search rules);
      counters = rw (i.is, control_elsewhere i.op inst i.rt p s) (search rules);
    }
