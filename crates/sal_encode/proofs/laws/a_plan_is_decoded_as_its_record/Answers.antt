use Rattle.sal_encode.proofs.FrameAgain.{frame_again}
use Rattle.sal_encode.proofs.AssembledLaws.{decoded_is, oversize_is, large_is}
use Rattle.sal_encode.proofs.laws.a_plan_is_decoded_as_its_record.Goals as goal

pub returns-clause-said : goal.returns-clause-said
returns-clause-said c = frame_again

pub returns-clause-decoded : goal.returns-clause-decoded
returns-clause-decoded c = λ s size p bytes target recon valid e. decoded_is s size p valid bytes target recon e

pub returns-clause-oversize : goal.returns-clause-oversize
returns-clause-oversize c = oversize_is

pub returns-clause-large : goal.returns-clause-large
returns-clause-large c = large_is
