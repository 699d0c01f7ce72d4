use Rattle.std.proofs.Common.{◌≡◌, ◌++◌, ◌-◌, ◌*◌, length}
use Rattle.sal_base.specs.Samples.{rows_cut}
use Rattle.sal_frame.proofs.cropping.cut.Given as goal

-- the rows written so far, with those to come, are all of them
abbrev pub invariant-loop-row : goal.invariant-loop-row
invariant-loop-row l =
    (l.samples.items ++ rows_cut l.stride l.columns l.row (l.height - l.row) l.from ≡ rows_cut l.stride l.columns 0 l.height l.from)
    × (length l.samples.items ≡ l.row * l.columns)
