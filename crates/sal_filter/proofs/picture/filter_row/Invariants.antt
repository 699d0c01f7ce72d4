use Rattle.std.proofs.Common.{◌≡◌, ◌+◌, ◌*◌, length, drop}
use Rattle.sal_filter.specs.Filtered.{all_filtered}
use Rattle.sal_filter.specs.Blocks.{HasSides}
use Rattle.sal_filter.proofs.picture.filter_row.Given as goal

abbrev pub invariant-loop-column : goal.invariant-loop-column
invariant-loop-column l = record {
  so_far : all_filtered l.head (length l.info) (l.row * length l.info + l.column) (drop l.column l.info) l.planes ≡ all_filtered l.head (length l.info) (l.row * length l.info) l.info l.fn.planes;
  sides : HasSides l.fn.planes.y.width l.fn.planes.y.height l.planes;
}
