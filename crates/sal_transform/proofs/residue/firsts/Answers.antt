use Rattle.std.proofs.Common.{[], get_or}
use Rattle.sal_transform.proofs.Passed.{firsts_any}
use Rattle.sal_transform.proofs.residue.firsts.Goals as goal

pub returns-clause-value : goal.returns-clause-value
returns-clause-value c = firsts_any (get_or c.args.coefficients.now 24 []) c.block.result.now.0 _ c.dequant.result c.args.dc c.args.ac c.requires.dc c.requires.ac c.block.ensures.coefficients c.dequant.ensures.value c.inverse_y2.ensures.value
