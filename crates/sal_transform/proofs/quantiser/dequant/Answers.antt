use Rattle.std.proofs.Common.{pos, get_or}
use Rattle.sal_base.specs.Samples.{listed_from}
use Rattle.sal_macroblock.specs.Sizes.{Within}
use Rattle.sal_tables.specs.Tables.{zigzag_of}
use Rattle.sal_transform.specs.Factors.{dequantised}
use Rattle.sal_transform.proofs.Signed.{entry, same_16, all_16, dequantise_small}
use Rattle.sal_transform.proofs.quantiser.dequant.Goals as goal

pub returns-clause-value : goal.returns-clause-value
unfolding dequantised zigzag_of listed_from
returns-clause-value c =
    let b = c.args.block.now.0 in
    same_16
    (entry _ (get_or b 0 (pos 0)) c.args.dc c.value_at.ensures.value c.value_at.ensures.small c.requires.dc)
    (entry _ (get_or b 1 (pos 0)) c.args.ac c.value_at-2.ensures.value c.value_at-2.ensures.small c.requires.ac)
    (entry _ (get_or b 5 (pos 0)) c.args.ac c.value_at-3.ensures.value c.value_at-3.ensures.small c.requires.ac)
    (entry _ (get_or b 6 (pos 0)) c.args.ac c.value_at-4.ensures.value c.value_at-4.ensures.small c.requires.ac)
    (entry _ (get_or b 2 (pos 0)) c.args.ac c.value_at-5.ensures.value c.value_at-5.ensures.small c.requires.ac)
    (entry _ (get_or b 4 (pos 0)) c.args.ac c.value_at-6.ensures.value c.value_at-6.ensures.small c.requires.ac)
    (entry _ (get_or b 7 (pos 0)) c.args.ac c.value_at-7.ensures.value c.value_at-7.ensures.small c.requires.ac)
    (entry _ (get_or b 12 (pos 0)) c.args.ac c.value_at-8.ensures.value c.value_at-8.ensures.small c.requires.ac)
    (entry _ (get_or b 3 (pos 0)) c.args.ac c.value_at-9.ensures.value c.value_at-9.ensures.small c.requires.ac)
    (entry _ (get_or b 8 (pos 0)) c.args.ac c.value_at-10.ensures.value c.value_at-10.ensures.small c.requires.ac)
    (entry _ (get_or b 11 (pos 0)) c.args.ac c.value_at-11.ensures.value c.value_at-11.ensures.small c.requires.ac)
    (entry _ (get_or b 13 (pos 0)) c.args.ac c.value_at-12.ensures.value c.value_at-12.ensures.small c.requires.ac)
    (entry _ (get_or b 9 (pos 0)) c.args.ac c.value_at-13.ensures.value c.value_at-13.ensures.small c.requires.ac)
    (entry _ (get_or b 10 (pos 0)) c.args.ac c.value_at-14.ensures.value c.value_at-14.ensures.small c.requires.ac)
    (entry _ (get_or b 14 (pos 0)) c.args.ac c.value_at-15.ensures.value c.value_at-15.ensures.small c.requires.ac)
    (entry _ (get_or b 15 (pos 0)) c.args.ac c.value_at-16.ensures.value c.value_at-16.ensures.small c.requires.ac)

pub returns-clause-small : goal.returns-clause-small
returns-clause-small c =
    all_16 (Within 1048576) _ _ _ _ _ _ _ _ _ _ _ _ _ _ _ _
    (dequantise_small _ c.value_at.ensures.small)
    (dequantise_small _ c.value_at-2.ensures.small)
    (dequantise_small _ c.value_at-3.ensures.small)
    (dequantise_small _ c.value_at-4.ensures.small)
    (dequantise_small _ c.value_at-5.ensures.small)
    (dequantise_small _ c.value_at-6.ensures.small)
    (dequantise_small _ c.value_at-7.ensures.small)
    (dequantise_small _ c.value_at-8.ensures.small)
    (dequantise_small _ c.value_at-9.ensures.small)
    (dequantise_small _ c.value_at-10.ensures.small)
    (dequantise_small _ c.value_at-11.ensures.small)
    (dequantise_small _ c.value_at-12.ensures.small)
    (dequantise_small _ c.value_at-13.ensures.small)
    (dequantise_small _ c.value_at-14.ensures.small)
    (dequantise_small _ c.value_at-15.ensures.small)
    (dequantise_small _ c.value_at-16.ensures.small)
