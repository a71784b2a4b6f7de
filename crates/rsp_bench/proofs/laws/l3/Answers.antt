use Rattle.std.proofs.Common.{refl, arith}
use Rattle.rsp_dis.proofs.Listings.{listing_means, text_means}
use Rattle.rsp_bench.proofs.laws.l3.Goals as goal

pub returns : goal.returns
returns c = record {
  lines = λ ws few. listing_means 0 refl ws (omega arith);
  text = λ ws few. text_means 0 refl ws (omega arith);
}
