use Rattle.rsp_decode.specs.Table.{inst_of}
use Rattle.rsp_debug.proofs.Moving.{kept-of, fits-of}
use Rattle.rsp_debug.proofs.moves.move_of.Goals as goal

pub returns-clause-instruction : goal.returns-clause-instruction
returns-clause-instruction c = fits-of c.args.word c.visit.new.visitor.inst (kept-of (inst_of c.args.word) c.visit.new.visitor c.visit.ensures.state)
