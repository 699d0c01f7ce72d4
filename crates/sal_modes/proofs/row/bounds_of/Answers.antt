use Rattle.std.proofs.Common.{arith, ◌-◌}
use Rattle.sal_modes.proofs.InterLemmas.{same_bounds, least_kept, greatest_kept}
use Rattle.sal_modes.proofs.row.bounds_of.Goals as goal

pub returns-clause-value : goal.returns-clause-value
returns-clause-value c =
    let columns = c.requires.columns in
    let rows = c.requires.rows in
    same_bounds _ _ _ _ _ _ _ _ (least_kept c.args.row (omega (arith, rows))) (least_kept c.args.column (omega (arith, columns)))
    (greatest_kept (c.args.rows - c.args.row) (omega (arith, rows))) (greatest_kept (c.args.columns - c.args.column) (omega (arith, columns)))
