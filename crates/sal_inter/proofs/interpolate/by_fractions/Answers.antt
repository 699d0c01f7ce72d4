use Rattle.std.proofs.Common.{◌∙◌, ◌/◌, ◌%◌}
use Rattle.sal_inter.proofs.Between.{both_of}
use Rattle.sal_inter.proofs.interpolate.by_fractions.Goals as goal

pub returns-in_default : goal.returns-in_default
returns-in_default c = λ k h.
    let a = c.args in
    c.filter_both.ensures k h
    ∙ both_of a.across a.down _ _ a.samples.now a.stride (k / a.width) (k % a.width) c.in_default.is-0.1 c.in_default.is-1.1 c.taps_of-in_default.ensures c.taps_of-in_default-2.ensures
