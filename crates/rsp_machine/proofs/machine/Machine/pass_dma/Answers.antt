use Rattle.std.proofs.Common.{◌≡◌, ◌∙◌, ap, false, true, Some, rules}
use Rattle.std.specs.Prelude.{Ok}
use Rattle.rsp_decode.specs.declared.inst.Inst.TheVariants.{MoveSp}
use Rattle.rsp_decode.specs.declared.scalar.MoveOp.TheVariants.{To}
use Rattle.rsp_decode.specs.Table.{inst_of}
use Rattle.rsp_memory.specs.Memory.{word_at}
use Rattle.rsp_regs.specs.Sp.{is_length_register}
use Rattle.rsp_machine.proofs.Passing.{dma_passed}
use Rattle.rsp_machine.proofs.machine.Machine.pass_dma.Goals as goal

pub returns-clause-ok : goal.returns-clause-ok
returns-clause-ok g c =
    let s = c.args.self.now in let i = c.in-Some-MoveSp-To-default-default in
    let running : s.sp.halted ≡ false = search rules in
    let is : inst_of (word_at s.imem s.pc) ≡ Some (MoveSp To i.rt i.register) = search rules in
    let starts : is_length_register i.register ≡ true = search rules in
    dma_passed s i.rt i.register running is starts ∙ ap Ok (search rules)
