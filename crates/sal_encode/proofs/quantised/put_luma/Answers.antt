use Rattle.std.proofs.Common.{rules, List, slice_set, ◌≡◌, ◌∙◌, ℕ, ℤ, pos, ap, sym, subst, arith, to_z, of_z, w32}
use Rattle.std.specs.Prelude.{slice_index_or}
use Rattle.std.proofs.lemmas.List.{length-set}
use Rattle.sal_macroblock.specs.Sizes.{Within}
use Rattle.sal_macroblock.proofs.Places.{listed_is}
use Rattle.sal_search.proofs.SubLemmas.{all_at}
use Rattle.sal_transform.specs.Forward.{quantised}
use Rattle.sal_encode.specs.Quantised.{luma_block, block_values}
use Rattle.sal_encode.proofs.BlocksPut.{at_more, passed}
use Rattle.sal_encode.proofs.quantised.put_luma.Goals as goal

pub loop-k-preserved : goal.loop-k-preserved
unfolding luma_block
loop-k-preserved c =
    let first : ℤ = slice_index_or c.block_values-values.result 0 (pos 0) in
    let small : Within 2040 first = c.block_values-values.ensures.first in
    let is : to_z w32 (of_z w32 first) ≡ first = passed first small in
    let wanted = c.args.wanted.now in
    let predicted = c.args.predicted.now in
    let block : c.without_first.result.0 ≡ luma_block c.args.factors.now wanted predicted c.loop-k.k =
    c.without_first.ensures.value ∙ ap (λ (vs : List ℤ). quantised (slice_set vs 0 (pos 0)) (pos c.args.factors.now.y_dc) (pos c.args.factors.now.y_ac)) c.block_values-values.ensures.value in
    record {
      put = search (rules, block);
      long = length-set _ _ _ ∙ c.loop-k.invariant.long;
      done = at_more (λ (j : ℕ) (y : ℤ). y ≡ slice_index_or (block_values 4 wanted predicted j) 0 (pos 0)) _ _ _ c.loop-k.invariant.done
          (is ∙ ap (λ zs. slice_index_or zs 0 (pos 0)) c.block_values-values.ensures.value) (omega (arith, c.loop-k.invariant.long, c.loop-k-test.true));
      small = at_more (λ (j : ℕ) (y : ℤ). Within 2040 y) _ _ _ c.loop-k.invariant.small (subst (λ (y : ℤ). Within 2040 y) (sym is) small) (omega (arith, c.loop-k.invariant.long, c.loop-k-test.true));
    }

pub returns-clause-firsts : goal.returns-clause-firsts
returns-clause-firsts c = listed_is 16 _ (pos 0) _ c.loop-k.invariant.long (λ j lt. (let below = c.loop-k-test.false in c.loop-k.invariant.done j (omega (arith, below))))

pub returns-clause-small : goal.returns-clause-small
returns-clause-small c = all_at (Within 2040) 16 _ c.loop-k.invariant.long (λ j lt. (let below = c.loop-k-test.false in c.loop-k.invariant.small j (omega (arith, below))))
