use Rattle.std.proofs.Common.{refl, arith, ◌∙◌, List, ℤ}
use Rattle.std.specs.Prelude.{All}
use Rattle.std.proofs.lemmas.List.{length-set}
use Rattle.std.proofs.lemmas.List.Elements.{All-set}
use Rattle.sal_macroblock.specs.Sizes.{Within}
use Rattle.sal_search.specs.Subblocks.{subblocks}
use Rattle.sal_search.proofs.Choices.{is_not_below}
use Rattle.sal_search.proofs.Steps.{next, cost_next, too_much}
use Rattle.sal_search.proofs.SubLemmas.{all_zero}
use Rattle.sal_search.proofs.subblocks.subblocks_below.Goals as goal

pub loop-n-init : goal.loop-n-init
unfolding subblocks
loop-n-init c = record { built = refl; squares = refl; modes = refl; coefficients = refl; few = all_zero; small = omega arith; below = λ h. omega (arith, h) }

pub returns-then-cost-limit-clause-value : goal.returns-then-cost-limit-clause-value
returns-then-cost-limit-clause-value c =
    let total = cost_next _ _ _ _ _ _ _ _ _ _ c.loop-n.invariant.built c.choose_sub-sub.ensures.candidate in
    is_not_below _ _ _ (too_much _ _ _ _ _ _ (omega arith) total (omega (arith, c.if-cost-limit.true)))

pub loop-n-preserved : goal.loop-n-preserved
loop-n-preserved c = record {
  built = next _ _ _ _ _ _ _ _ _ _ _ _ _ c.loop-n.invariant.built c.choose_sub-sub.ensures.candidate c.choose_sub-sub.ensures.coefficients c.choose_sub-sub.ensures.samples c.put_sub.ensures;
  squares = c.put_sub.auto.samples ∙ c.loop-n.invariant.squares;
  modes = length-set _ _ _ ∙ c.loop-n.invariant.modes;
  coefficients = length-set _ _ _ ∙ c.loop-n.invariant.coefficients;
  few = All-set (λ (zs : List ℤ). All (Within 2047) zs) _ _ _ c.choose_sub-sub.ensures.few c.loop-n.invariant.few;
  small = omega (arith, c.choose_sub-sub.ensures.small, c.loop-n.invariant.small);
  below = λ h. omega (arith, c.if-cost-limit.false);
}
