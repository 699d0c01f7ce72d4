use Rattle.std.proofs.Common.{◌∙◌, ◌*◌, ◌<◌, ℕ, arith}
use Rattle.sal_inter.specs.Taps.{filtered}
use Rattle.sal_inter.proofs.Between.{columns_weighed}
use Rattle.sal_inter.proofs.interpolate.filter_both.Goals as goal

pub returns : goal.returns
returns c = λ (k : ℕ) (h : k < c.args.width * c.args.height).
    let a = c.args in
    c.filter_row.ensures k (omega arith) ∙ columns_weighed a.down a.width a.height k c.filter_rows.new.out (filtered a.across a.samples.now a.stride 1) (omega arith) h c.filter_rows.ensures
