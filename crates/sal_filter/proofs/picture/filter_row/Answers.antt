use Rattle.std.proofs.Common.{arith}
use Rattle.sal_filter.proofs.Planes.{row_more, row_all, sides_from}
use Rattle.sal_filter.proofs.picture.filter_row.Goals as goal

pub loop-column-preserved : goal.loop-column-preserved
loop-column-preserved c = record {
  so_far = row_more _ _ _ _ _ _ _ _ c.loop-column-test.true c.filter_info.ensures.value c.loop-column.invariant.so_far;
  sides = sides_from _ _ _ _ c.loop-column.invariant.sides c.filter_info.ensures.sides;
}

pub returns-clause-value : goal.returns-clause-value
returns-clause-value c = row_all _ _ _ c.loop-column.column c.args.info.now _ _ (omega arith) c.loop-column.invariant.so_far
