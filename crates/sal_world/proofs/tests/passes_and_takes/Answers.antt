use Rattle.std.proofs.Common.{◌≡◌, false, true, [], ◌∷◌, inl, inr}
use Rattle.std.specs.Prelude.{◌⊎◌}
use Rattle.sal_world.specs.World.{Passes}
use Rattle.sal_world.proofs.tests.passes_and_takes.Goals as goal

stepped : {A P Q : Type 0} (answer memory : A) → (answer ≡ memory) ⊎ (P × Q) → (answer ≡ memory → false ≡ true) → Q
stepped answer memory (inl lacks) never = let no : false ≡ true = never lacks in absurd cc
stepped answer memory (inr did) never = did.1

pub step-requires-clause-may : goal.step-requires-clause-may
step-requires-clause-may g c κs within = (c.requires.0, ([], (c.requires.1, tt)))

pub takes-requires-after_bounds : goal.takes-requires-after_bounds
takes-requires-after_bounds g c κs within =
    (c.requires.0, (Passes c.args.moment ∷ [], stepped _ _ (c.step.ensures.answered c.requires.0 [] c.requires.1 tt) (c.step.ensures.memory c.requires.0 [] c.requires.1)))
