use Rattle.std.proofs.Common.{◌/◌, arith}
use Rattle.sal_filter.proofs.Planes.{no_level, no_rows, rows_more, all_rows, sides_from}
use Rattle.sal_filter.proofs.picture.filter_picture.Goals as goal

pub returns-then-head-eq0-clause-value : goal.returns-then-head-eq0-clause-value
returns-then-head-eq0-clause-value c = no_level _ _ _ c.if-head-eq0.true

pub loop-row-init : goal.loop-row-init
loop-row-init c = record { so_far = no_rows _ _ _ _; sides = c.requires.sides }

pub loop-row-preserved : goal.loop-row-preserved
loop-row-preserved c = record {
  so_far = rows_more _ _ _ _ _ _ _ _ _ c.requires.info c.loop-row-test.true (omega arith) c.loop-row.invariant.so_far c.filter_row.ensures.value;
  sides = sides_from _ _ _ _ c.loop-row.invariant.sides c.filter_row.ensures.sides;
}

pub returns-clause-value : goal.returns-clause-value
returns-clause-value c = all_rows c.args.head.now (c.args.planes.now.y.height / 16) c.loop-row.row c.args.info.now c.args.planes.now _ c.requires.info (omega arith) c.if-head-eq0.false c.loop-row.invariant.so_far
