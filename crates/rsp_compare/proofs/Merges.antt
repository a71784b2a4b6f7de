-- There is one merge instruction.
use Rattle.std.proofs.Common.{◌≡◌, refl}
use Rattle.rsp_compare.specs.declared.selects.MergeOp.{MergeOp}
use Rattle.rsp_compare.specs.declared.selects.MergeOp.TheVariants.{Vmrg}
use Rattle.rsp_compare.specs.Selects.{merge_rule, vmrg}

pub merge_is : (op : MergeOp) → merge_rule op ≡ vmrg
merge_is Vmrg = refl
