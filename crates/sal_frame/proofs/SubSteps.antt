-- The subblocks of a macroblock in mode B, one by one.
use Rattle.std.proofs.Common.{◌≡◌, ◌∙◌, ℕ, ℤ, ◌+◌, ◌*◌, ◌/◌, ◌%◌, List, [], ◌∷◌, ap, add-one}
use Rattle.sal_base.specs.Samples.{square_put}
use Rattle.sal_intra.specs.declared.edge.LumaEdge.{LumaEdge}
use Rattle.sal_macroblock.specs.declared.mode.MbMode.{MbMode}
use Rattle.sal_frame.specs.Built.{sub_built, subs_built}

-- one subblock more, of the samples so far
pub sub_more : (e : LumaEdge) (m : MbMode) (residues : List (List ℤ)) (n : ℕ) (now sub new : List ℕ) → now ≡ subs_built e m residues n → sub ≡ sub_built e m residues n now
    → new ≡ square_put 16 (4 * (n % 4)) (4 * (n / 4)) 4 sub now → new ≡ subs_built e m residues (n + 1)
unfolding subs_built
sub_more e m residues n now sub new so_far is put =
    rw add-one
    (put
    ∙ (ap (λ (b : List ℕ). square_put 16 (4 * (n % 4)) (4 * (n / 4)) 4 b now) is
    ∙ ap (λ (b : List ℕ). square_put 16 (4 * (n % 4)) (4 * (n / 4)) 4 (sub_built e m residues n b) b) so_far))
