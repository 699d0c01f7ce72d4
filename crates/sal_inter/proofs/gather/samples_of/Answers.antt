use Rattle.std.proofs.Common.{◌∙◌, ◌<◌, ℕ, List, subst, get_or}
use Rattle.sal_inter.proofs.gather.samples_of.Goals as goal

pub returns-clause-bytes : goal.returns-clause-bytes
returns-clause-bytes c = λ (i : ℕ). subst (λ (xs : List ℕ). get_or xs i 0 < 256) (c.told_bytes.ensures.same ∙ c.as_slice.ensures) (c.told_bytes.ensures.bytes i)
