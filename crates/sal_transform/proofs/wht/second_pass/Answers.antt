use Rattle.std.proofs.Common.{arith, ap, ◌∙◌}
use Rattle.std.proofs.lemmas.Int.{ints}
use Rattle.sal_transform.specs.Hadamard.{sum_0, sum_1, sum_2, sum_3, eighth}
use Rattle.sal_transform.proofs.Signed.{kept_21, small_21}
use Rattle.sal_transform.proofs.wht.second_pass.Goals as goal

pub returns-clause-y0 : goal.returns-clause-y0
unfolding sum_0
returns-clause-y0 c = (kept_21 _ c.eighth.ensures.small ∙ (c.eighth.ensures.value ∙ ap eighth (omega (arith, ints))), small_21 _ c.eighth.ensures.small)

pub returns-clause-y1 : goal.returns-clause-y1
unfolding sum_1
returns-clause-y1 c = (kept_21 _ c.eighth-2.ensures.small ∙ (c.eighth-2.ensures.value ∙ ap eighth (omega (arith, ints))), small_21 _ c.eighth-2.ensures.small)

pub returns-clause-y2 : goal.returns-clause-y2
unfolding sum_2
returns-clause-y2 c = (kept_21 _ c.eighth-3.ensures.small ∙ (c.eighth-3.ensures.value ∙ ap eighth (omega (arith, ints))), small_21 _ c.eighth-3.ensures.small)

pub returns-clause-y3 : goal.returns-clause-y3
unfolding sum_3
returns-clause-y3 c = (kept_21 _ c.eighth-4.ensures.small ∙ (c.eighth-4.ensures.value ∙ ap eighth (omega (arith, ints))), small_21 _ c.eighth-4.ensures.small)
