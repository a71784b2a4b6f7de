use Rattle.std.proofs.Common.{arith}
use Rattle.std.proofs.lemmas.Int.{ints}
use Rattle.rsp_numbers.proofs.Join.{join_small, join_large}
use Rattle.rsp_acc.proofs.plain.join.Goals as goal

pub returns-then-high-lt32768-clause-value : goal.returns-then-high-lt32768-clause-value
returns-then-high-lt32768-clause-value c =
    omega (arith, ints, join_small c.args.high c.args.middle c.args.low c.if-high-lt32768.true c.ranges.middle.fits c.ranges.low.fits)

pub returns-else-high-lt32768-clause-value : goal.returns-else-high-lt32768-clause-value
returns-else-high-lt32768-clause-value c =
    omega (arith, ints, join_large c.args.high c.args.middle c.args.low c.if-high-lt32768.false c.ranges.high.fits c.ranges.middle.fits c.ranges.low.fits)
