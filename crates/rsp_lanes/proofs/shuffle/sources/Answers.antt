use Rattle.rsp_lanes.proofs.Sources.{source_low, source_high, source_below}
use Rattle.rsp_lanes.proofs.shuffle.sources.Goals as goal

pub returns-clause-low : goal.returns-clause-low
returns-clause-low c i h = source_low c.args.e i c.requires h

pub returns-clause-high : goal.returns-clause-high
returns-clause-high c i h = source_high c.args.e i c.requires h

pub returns-clause-bound : goal.returns-clause-bound
returns-clause-bound c i h = source_below c.args.e i c.requires h
