use Rattle.std.proofs.Common.{arith}
use Rattle.sal_filter.proofs.Rows.{all_lanes}
use Rattle.sal_filter.proofs.lanes.filter_eight.Goals as goal

pub returns : goal.returns
returns c = all_lanes _ _ _ _ 8 _ _ _ _ c.requires.before (omega arith) c.requires.apart c.gather.auto.lanes c.gather.ensures c.filter_lanes.ensures c.scatter.ensures
