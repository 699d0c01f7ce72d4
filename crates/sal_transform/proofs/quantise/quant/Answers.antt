use Rattle.std.proofs.Common.{◌≡◌, pos, get_or, arith, to_z, of_z, w32}
use Rattle.std.proofs.lemmas.Int.{ints}
use Rattle.sal_base.specs.Samples.{listed_from}
use Rattle.sal_macroblock.specs.Sizes.{Within}
use Rattle.sal_tables.specs.Tables.{zigzag_of}
use Rattle.sal_transform.specs.Forward.{quantised}
use Rattle.sal_transform.proofs.Signed.{same_16, all_16}
use Rattle.sal_transform.proofs.ForwardLemmas.{coefficient_is, coefficient_small}
use Rattle.sal_transform.proofs.quantise.quant.Goals as goal

pub returns-clause-value : goal.returns-clause-value
unfolding quantised zigzag_of listed_from
returns-clause-value c =
    let b = c.args.values.now in
    let dc : to_z w32 (of_z w32 c.args.dc) ≡ c.args.dc = omega (arith, ints) in
    let ac : to_z w32 (of_z w32 c.args.ac) ≡ c.args.ac = omega (arith, ints) in
    same_16
    (coefficient_is _ _ _ (get_or b 0 (pos 0)) c.coefficient_at.ensures.value dc c.coefficient_at.ensures.small)
    (coefficient_is _ _ _ (get_or b 1 (pos 0)) c.coefficient_at-2.ensures.value ac c.coefficient_at-2.ensures.small)
    (coefficient_is _ _ _ (get_or b 4 (pos 0)) c.coefficient_at-3.ensures.value ac c.coefficient_at-3.ensures.small)
    (coefficient_is _ _ _ (get_or b 8 (pos 0)) c.coefficient_at-4.ensures.value ac c.coefficient_at-4.ensures.small)
    (coefficient_is _ _ _ (get_or b 5 (pos 0)) c.coefficient_at-5.ensures.value ac c.coefficient_at-5.ensures.small)
    (coefficient_is _ _ _ (get_or b 2 (pos 0)) c.coefficient_at-6.ensures.value ac c.coefficient_at-6.ensures.small)
    (coefficient_is _ _ _ (get_or b 3 (pos 0)) c.coefficient_at-7.ensures.value ac c.coefficient_at-7.ensures.small)
    (coefficient_is _ _ _ (get_or b 6 (pos 0)) c.coefficient_at-8.ensures.value ac c.coefficient_at-8.ensures.small)
    (coefficient_is _ _ _ (get_or b 9 (pos 0)) c.coefficient_at-9.ensures.value ac c.coefficient_at-9.ensures.small)
    (coefficient_is _ _ _ (get_or b 12 (pos 0)) c.coefficient_at-10.ensures.value ac c.coefficient_at-10.ensures.small)
    (coefficient_is _ _ _ (get_or b 13 (pos 0)) c.coefficient_at-11.ensures.value ac c.coefficient_at-11.ensures.small)
    (coefficient_is _ _ _ (get_or b 10 (pos 0)) c.coefficient_at-12.ensures.value ac c.coefficient_at-12.ensures.small)
    (coefficient_is _ _ _ (get_or b 7 (pos 0)) c.coefficient_at-13.ensures.value ac c.coefficient_at-13.ensures.small)
    (coefficient_is _ _ _ (get_or b 11 (pos 0)) c.coefficient_at-14.ensures.value ac c.coefficient_at-14.ensures.small)
    (coefficient_is _ _ _ (get_or b 14 (pos 0)) c.coefficient_at-15.ensures.value ac c.coefficient_at-15.ensures.small)
    (coefficient_is _ _ _ (get_or b 15 (pos 0)) c.coefficient_at-16.ensures.value ac c.coefficient_at-16.ensures.small)

pub returns-clause-small : goal.returns-clause-small
returns-clause-small c =
    all_16 (Within 2047) _ _ _ _ _ _ _ _ _ _ _ _ _ _ _ _
    (coefficient_small _ c.coefficient_at.ensures.small)
    (coefficient_small _ c.coefficient_at-2.ensures.small)
    (coefficient_small _ c.coefficient_at-3.ensures.small)
    (coefficient_small _ c.coefficient_at-4.ensures.small)
    (coefficient_small _ c.coefficient_at-5.ensures.small)
    (coefficient_small _ c.coefficient_at-6.ensures.small)
    (coefficient_small _ c.coefficient_at-7.ensures.small)
    (coefficient_small _ c.coefficient_at-8.ensures.small)
    (coefficient_small _ c.coefficient_at-9.ensures.small)
    (coefficient_small _ c.coefficient_at-10.ensures.small)
    (coefficient_small _ c.coefficient_at-11.ensures.small)
    (coefficient_small _ c.coefficient_at-12.ensures.small)
    (coefficient_small _ c.coefficient_at-13.ensures.small)
    (coefficient_small _ c.coefficient_at-14.ensures.small)
    (coefficient_small _ c.coefficient_at-15.ensures.small)
    (coefficient_small _ c.coefficient_at-16.ensures.small)
