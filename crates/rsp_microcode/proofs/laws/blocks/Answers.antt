use Rattle.rsp_microcode.proofs.Blocks.{steps_after, both_stand, first_block, next_block}
use Rattle.rsp_microcode.proofs.Joins.{blocks_join, ran_at, ran_others, ran_returns}
use Rattle.rsp_microcode.proofs.laws.blocks.Goals as goal

pub returns-clause-steps : goal.returns-clause-steps
returns-clause-steps c = steps_after

pub returns-clause-stand : goal.returns-clause-stand
returns-clause-stand c = both_stand

pub returns-clause-first : goal.returns-clause-first
returns-clause-first c = first_block

pub returns-clause-next : goal.returns-clause-next
returns-clause-next c = next_block

pub returns-clause-join : goal.returns-clause-join
returns-clause-join c = blocks_join

pub returns-clause-at : goal.returns-clause-at
returns-clause-at c = ran_at

pub returns-clause-others : goal.returns-clause-others
returns-clause-others c = ran_others

pub returns-clause-returns : goal.returns-clause-returns
returns-clause-returns c = ran_returns
