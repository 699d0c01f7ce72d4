use Rattle.std.proofs.Common.{arith, ap, ◌∙◌}
use Rattle.std.proofs.lemmas.Int.{ints}
use Rattle.sal_transform.specs.Hadamard.{sum_0, sum_1, sum_2, sum_3}
use Rattle.sal_transform.specs.Forward.{half}
use Rattle.sal_transform.proofs.ForwardLemmas.{kept_15, small_15}
use Rattle.sal_transform.proofs.forward_wht.half_row.Goals as goal

pub returns-clause-y0 : goal.returns-clause-y0
unfolding sum_0
returns-clause-y0 c = (kept_15 _ c.half.ensures.small ∙ (c.half.ensures.value ∙ ap half (omega (arith, ints))), small_15 _ c.half.ensures.small)

pub returns-clause-y1 : goal.returns-clause-y1
unfolding sum_1
returns-clause-y1 c = (kept_15 _ c.half-2.ensures.small ∙ (c.half-2.ensures.value ∙ ap half (omega (arith, ints))), small_15 _ c.half-2.ensures.small)

pub returns-clause-y2 : goal.returns-clause-y2
unfolding sum_2
returns-clause-y2 c = (kept_15 _ c.half-3.ensures.small ∙ (c.half-3.ensures.value ∙ ap half (omega (arith, ints))), small_15 _ c.half-3.ensures.small)

pub returns-clause-y3 : goal.returns-clause-y3
unfolding sum_3
returns-clause-y3 c = (kept_15 _ c.half-4.ensures.small ∙ (c.half-4.ensures.value ∙ ap half (omega (arith, ints))), small_15 _ c.half-4.ensures.small)
