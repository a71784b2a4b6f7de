use Rattle.rsp_microcode.proofs.Frames.{framed, scalars_spared, scalars_above, vectors_spared, vectors_above}
use Rattle.rsp_microcode.proofs.laws.frames.Goals as goal

pub returns-clause-kept : goal.returns-clause-kept
returns-clause-kept c = framed

pub returns-clause-scalars : goal.returns-clause-scalars
returns-clause-scalars c = scalars_spared

pub returns-clause-above : goal.returns-clause-above
returns-clause-above c = scalars_above

pub returns-clause-vectors : goal.returns-clause-vectors
returns-clause-vectors c = vectors_spared

pub returns-clause-vectors_above : goal.returns-clause-vectors_above
returns-clause-vectors_above c = vectors_above
