use Rattle.sal_transform.proofs.Signed.{product, product_small}
use Rattle.sal_transform.proofs.quantiser.dequantise.Goals as goal

pub returns-clause-value : goal.returns-clause-value
returns-clause-value c = product c.args.coefficient c.args.factor c.requires.coefficient c.requires.factor

pub returns-clause-small : goal.returns-clause-small
returns-clause-small c = product_small c.args.coefficient c.args.factor c.requires.coefficient c.requires.factor
