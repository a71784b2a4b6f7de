use Rattle.std.proofs.Common.{◌∙◌}
use Rattle.rsp_dis.proofs.Rows.{without_labels}
use Rattle.rsp_dis.proofs.text.text_of.Goals as goal

pub returns : goal.returns
returns c = c.word_line.ensures ∙ without_labels c.args.word c.args.address
