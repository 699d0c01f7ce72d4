-- The factors of four segments, and a macroblock that is built by one of them.
use Rattle.std.proofs.Common.{◌≡◌, ◌∙◌, ◌<◌, ℕ, suc, zero, refl, ap, arith, get_or}
use Rattle.sal_base.specs.Samples.{listed, listed_from}
use Rattle.sal_base.specs.declared.picture.Planes.{Planes}
use Rattle.sal_transform.specs.Factors.{Factors}
use Rattle.sal_state.specs.States.{References}
use Rattle.sal_frame.specs.Records.{Macroblock}
use Rattle.sal_frame.specs.Built.{one_built}

-- of four
pub four_at : {A : Type 0} (f : ℕ → A) (d : A) (k : ℕ) → k < 4 → get_or (listed 4 f) k d ≡ f k
unfolding listed_from
four_at f d zero lt = refl
four_at f d (suc zero) lt = refl
four_at f d (suc (suc zero)) lt = refl
four_at f d (suc (suc (suc zero))) lt = refl
four_at f d (suc (suc (suc (suc k)))) lt = absurd (omega arith)

-- a macroblock more, by equal references and factors, and as its parts make it
pub built_as : (r r' : References) (f f' : Factors) (b b' : Macroblock) (column row : ℕ) (p q : Planes) → q ≡ one_built r f b column row p → r ≡ r' → f ≡ f' → b ≡ b' → q ≡ one_built r' f' b' column row p
built_as r r' f f' b b' column row p q h er ef eb =
    h ∙ (ap (λ (x : References). one_built x f b column row p) er ∙ (ap (λ (x : Factors). one_built r' x b column row p) ef ∙ ap (λ (x : Macroblock). one_built r' f' x column row p) eb))
