-- Blocks of words, one after the other.
use Rattle.std.proofs.Common.{zero, suc, ◌+◌, [], ◌∷◌, ap, sym, subst, ◌∙◌, arith}
use Rattle.rsp_scalar.specs.Flow.{address_after}
use Rattle.rsp_regs.specs.Sp.{Sp}
use Rattle.rsp_machine.specs.Laws.{steps_of}
use Rattle.rsp_microcode.specs.Blocks.{BothStand, StepsAfter, FirstBlock, NextBlock, RoundsOfSteps}
use Rattle.rsp_microcode.proofs.Runs.{steps-plus}

pub steps_after : StepsAfter
steps_after m n s = ap (λ k. steps_of k s) (omega arith) ∙ steps-plus n m s

pub both_stand : BothStand
both_stand [] b p m h = (tt, h)
both_stand (w ∷ ws) b p m h = let more = both_stand ws b (address_after p) m h.1 in ((h.0, more.0), more.1)

pub first_block : FirstBlock
first_block a b s at = record { goes = at.goes; runs = at.runs; next = at.next; stand = (both_stand a b s.pc s.imem at.stand).0 }

pub next_block : NextBlock
next_block a b s t at pc next imem sp = record {
  goes = ap (λ (p : Sp). p.halted) sp ∙ at.goes;
  runs = ap (λ (p : Sp). p.single_step) sp ∙ at.runs;
  next = next;
  stand = rw (pc, imem) (both_stand a b s.pc s.imem at.stand).1;
}

pub rounds_of_steps : RoundsOfSteps
unfolding steps_of
rounds_of_steps zero Holds s start each = (0, start)
rounds_of_steps (suc n) Holds s start each =
    let before = rounds_of_steps n Holds s start (λ k t h is. each k t (omega arith) is) in
    let last = each n (steps_of before.0 s) (omega arith) before.1 in
    (before.0 + last.0, subst (λ k. Holds k (steps_of (before.0 + last.0) s)) (omega arith) (subst (Holds (n + 1)) (sym (steps_after before.0 last.0 s)) last.1))
