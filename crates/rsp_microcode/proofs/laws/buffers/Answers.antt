use Rattle.rsp_microcode.proofs.Buffers.{filled_none, filled_one, filled_spares}
use Rattle.rsp_microcode.proofs.laws.buffers.Goals as goal

pub returns-clause-none : goal.returns-clause-none
returns-clause-none c = filled_none

pub returns-clause-one : goal.returns-clause-one
returns-clause-one c = filled_one

pub returns-clause-spares : goal.returns-clause-spares
returns-clause-spares c = filled_spares
