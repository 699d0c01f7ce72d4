use Rattle.sal_modes.proofs.VectorLemmas.{sum_kept, same_vector}
use Rattle.sal_modes.proofs.vectors.plus.Goals as goal

pub returns : goal.returns
returns c = same_vector _ _ _ _ (sum_kept c.args.a.row c.args.b.row c.requires.rows.0 c.requires.rows.1) (sum_kept c.args.a.column c.args.b.column c.requires.columns.0 c.requires.columns.1)
