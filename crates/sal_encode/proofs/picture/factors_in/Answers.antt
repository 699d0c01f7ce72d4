use Rattle.std.proofs.Common.{◌∙◌, List, get_or, ap}
use Rattle.sal_transform.specs.Factors.{Factors}
use Rattle.sal_encode.proofs.FourFactors.{four_at}
use Rattle.sal_encode.proofs.picture.factors_in.Goals as goal

pub returns : goal.returns
returns c f e = ap (λ (xs : List Factors). get_or xs c.args.segment c.index-factors-segment.result) e ∙ four_at f c.index-factors-segment.result c.args.segment c.requires
