use Rattle.rsp_microcode.proofs.Fixed.{fixed_parts, fixed_high, fixed_range, fixed_sum, fixed_times}
use Rattle.rsp_microcode.proofs.FixedProducts.{fixed_product, fixed_plus_product}
use Rattle.rsp_microcode.proofs.FixedSums.{fixed_adds, fixed_adds_in_range}
use Rattle.rsp_microcode.proofs.laws.fixed_numbers.Goals as goal

pub returns-clause-parts : goal.returns-clause-parts
returns-clause-parts c = fixed_parts

pub returns-clause-range : goal.returns-clause-range
returns-clause-range c = fixed_range

pub returns-clause-sum : goal.returns-clause-sum
returns-clause-sum c = fixed_sum

pub returns-clause-product : goal.returns-clause-product
returns-clause-product c = fixed_product

pub returns-clause-times : goal.returns-clause-times
returns-clause-times c = fixed_times

pub returns-clause-high : goal.returns-clause-high
returns-clause-high c = fixed_high

pub returns-clause-plus_product : goal.returns-clause-plus_product
returns-clause-plus_product c = fixed_plus_product

pub returns-clause-adds : goal.returns-clause-adds
returns-clause-adds c = fixed_adds

pub returns-clause-adds_in_range : goal.returns-clause-adds_in_range
returns-clause-adds_in_range c = fixed_adds_in_range
