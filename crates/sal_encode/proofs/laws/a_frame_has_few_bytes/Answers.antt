use Rattle.sal_encode.proofs.AssembledLaws.{few_bytes}
use Rattle.sal_encode.proofs.laws.a_frame_has_few_bytes.Goals as goal

pub returns : goal.returns
returns c = λ s size p bytes target recon valid e. few_bytes s size p valid bytes target recon e
