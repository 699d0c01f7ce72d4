use Rattle.sal_transform.proofs.Passed.{after_flat, after_small, after_any}
use Rattle.sal_transform.proofs.residue.residue_after.Goals as goal

pub returns-then-has_one_coefficient : goal.returns-then-has_one_coefficient
returns-then-has_one_coefficient c = after_flat c.args.block.now.0 _ c.args.first c.args.ac (c.has_one_coefficient.ensures c.if-has_one_coefficient.true) c.requires.first c.flat.ensures

pub inverse-requires : goal.inverse-requires
inverse-requires c = after_small c.dequant-values.result c.args.first c.requires.first c.dequant-values.ensures.small

pub returns : goal.returns
returns c = after_any c.args.block.now.0 _ c.dequant-values.result c.args.first c.args.ac c.requires.ac c.requires.first c.dequant-values.ensures.value c.inverse.ensures
