-- What headers of tests share: facts of lists that are alike but for some places, and some kept data.
use Rattle.std.proofs.Common.{◌≡◌, ℕ, suc, zero, List, [], ◌∷◌, true, false, replicate, pos, slice_set}
use Rattle.sal_base.specs.Lists.{Each}
use Rattle.sal_probs.specs.Probabilities.{initial_table}
use Rattle.sal_header.specs.declared.header.Kept.{Kept}

pub impossible : {X : Type 0} → true ≡ false → X
impossible e = let f : ⊥ = cc in absurd f

pub each_same : {X : Type 0} (P : X → Type 0) (d : X) → P d → (n : ℕ) → Each P (replicate n d)
each_same P d h zero = tt
each_same P d h (suc n) = (h, each_same P d h n)

pub each_put : {X : Type 0} (P : X → Type 0) (d : X) → P d → (xs : List X) (k : ℕ) → Each P xs → Each P (slice_set xs k d)
each_put P d h [] k all = tt
each_put P d h (x ∷ xs) zero all = (h, all.1)
each_put P d h (x ∷ xs) (suc k) all = (all.0, each_put P d h xs k all.1)

abbrev pub some_kept : Kept
some_kept = record { absolute = false; quantisers = replicate 4 (pos 0); levels = replicate 4 (pos 0); ref_deltas = replicate 4 (pos 0); mode_deltas = replicate 4 (pos 0); bias_golden = false; bias_alt = false; map = []; probs = initial_table }
