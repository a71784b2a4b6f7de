use Rattle.rsp_acc.proofs.plain.PlainAccAcc.replace.Goals as goal

pub returns : goal.returns
returns c = c.whole_numbers-self-inside.ensures.value

pub invariant_of-self : goal.invariant_of-self
invariant_of-self c = c.whole_numbers-self-inside.ensures.within
