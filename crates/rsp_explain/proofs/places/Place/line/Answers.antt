use Rattle.rsp_explain.proofs.LastNumbers.{number_named}
use Rattle.rsp_explain.proofs.places.Place.line.Goals as goal

pub returns-in-Line-clause-named : goal.returns-in-Line-clause-named
returns-in-Line-clause-named c n h e = number_named n c.args.reply.now h e

pub returns-in-Block-clause-named : goal.returns-in-Block-clause-named
returns-in-Block-clause-named c n h e = number_named n c.args.reply.now h e
