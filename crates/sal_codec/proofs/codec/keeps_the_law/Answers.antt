use Rattle.sal_codec.proofs.codec.keeps_the_law.Goals as goal

pub returns : goal.returns
returns g c = (g.met.C.Codec g.world.𝓛 g.world.𝓜 g.world.𝓡 ((λ s x. x), (λ x. x), (λ x. x), λ x. x)).lawful
