use Rattle.rsp_feed.proofs.Cuts.{any_cut}
use Rattle.rsp_feed.proofs.laws.any_cut_comes_out.Goals as goal

pub returns : goal.returns
returns c = any_cut
