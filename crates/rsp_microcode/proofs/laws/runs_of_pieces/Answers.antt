use Rattle.rsp_microcode.proofs.Pieces.{pieces, pieces_run}
use Rattle.rsp_microcode.proofs.laws.runs_of_pieces.Goals as goal

pub returns-clause-pieces : goal.returns-clause-pieces
returns-clause-pieces c = pieces c.l4.ensures

pub returns-clause-steps : goal.returns-clause-steps
returns-clause-steps c = pieces_run c.l4.ensures
