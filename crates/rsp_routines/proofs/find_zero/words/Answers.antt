use Rattle.std.proofs.Common.{refl}
use Rattle.rsp_syntax.specs.SourceLine.{label_of, line_size, first_fault, line_words}
use Rattle.rsp_syntax.specs.Statement.{row_named}
use Rattle.rsp_routines.proofs.find_zero.words.Goals as goal

pub returns-clause-text : goal.returns-clause-text
unfolding label_of line_size first_fault line_words row_named
returns-clause-text c = refl
