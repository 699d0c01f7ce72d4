use Rattle.sal_transform.proofs.Passed.{residue_flat, residue_any}
use Rattle.sal_transform.proofs.residue.block_residue.Goals as goal

pub returns-then-has_one_coefficient : goal.returns-then-has_one_coefficient
returns-then-has_one_coefficient c = residue_flat c.args.block.now.0 _ c.dequantise.result c.args.dc c.args.ac c.requires.dc c.requires.coefficients (c.has_one_coefficient.ensures c.if-has_one_coefficient.true) c.dequantise.ensures.value c.dequantise.ensures.small c.flat.ensures

pub returns : goal.returns
returns c = residue_any c.args.block.now.0 _ c.dequant.result c.args.dc c.args.ac c.requires.dc c.requires.ac c.dequant.ensures.value c.inverse.ensures
