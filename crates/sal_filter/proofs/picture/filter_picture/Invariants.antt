use Rattle.std.proofs.Common.{◌≡◌, ◌*◌, take}
use Rattle.sal_filter.specs.Filtered.{all_filtered}
use Rattle.sal_filter.specs.Blocks.{HasSides}
use Rattle.sal_filter.proofs.picture.filter_picture.Given as goal

abbrev pub invariant-loop-row : goal.invariant-loop-row
invariant-loop-row l = record {
  so_far : l.planes ≡ all_filtered l.head l.columns 0 (take (l.row * l.columns) l.info) l.fn.planes;
  sides : HasSides l.fn.planes.y.width l.fn.planes.y.height l.planes;
}
