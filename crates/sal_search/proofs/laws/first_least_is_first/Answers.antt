use Rattle.sal_search.proofs.FirstLeast.{is_first}
use Rattle.sal_search.proofs.laws.first_least_is_first.Goals as goal

pub returns : goal.returns
returns c = record { macroblocks = is_first; subblocks = is_first; chroma = is_first }
