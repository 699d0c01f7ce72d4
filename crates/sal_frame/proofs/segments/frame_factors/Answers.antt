use Rattle.std.proofs.Common.{◌≡◌, [], ◌∷◌}
use Rattle.sal_base.specs.Samples.{listed_from}
use Rattle.sal_frame.proofs.segments.frame_factors.Goals as goal

four : {A : Type 0} (a b c d a' b' c' d' : A) → a ≡ a' → b ≡ b' → c ≡ c' → d ≡ d' → a ∷ b ∷ c ∷ d ∷ [] ≡ a' ∷ b' ∷ c' ∷ d' ∷ []
four a b c d a' b' c' d' p q r s = cc

pub returns : goal.returns
unfolding listed_from
returns c = four _ _ _ _ _ _ _ _ c.segment_factors.ensures c.segment_factors-2.ensures c.segment_factors-3.ensures c.segment_factors-4.ensures
