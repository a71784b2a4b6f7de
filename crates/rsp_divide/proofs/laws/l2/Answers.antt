use Rattle.rsp_numbers.proofs.Roots.{one_root}
use Rattle.rsp_divide.proofs.laws.l2.Goals as goal

pub returns : goal.returns
returns c = λ i lt. one_root i
