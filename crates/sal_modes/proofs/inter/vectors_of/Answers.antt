use Rattle.std.proofs.Common.{◌∙◌, ap, sym, refl, ℕ, List}
use Rattle.sal_bool.specs.Syntax.{run}
use Rattle.sal_modes.specs.ReadVectors.{read_vector}
use Rattle.sal_modes.proofs.InterLemmas.{all_nearest, all_near, all_new, all_zero}
use Rattle.sal_modes.proofs.inter.vectors_of.Goals as goal

pub returns-in-NEAREST : goal.returns-in-NEAREST
returns-in-NEAREST c = record { reads = all_nearest c.args.probs.now.vectors c.args.around.now c.args.near.now c.args.mode _ c.in-NEAREST.is; whole = λ e. refl }

pub returns-in-NEAR : goal.returns-in-NEAR
returns-in-NEAR c = record { reads = all_near c.args.probs.now.vectors c.args.around.now c.args.near.now c.args.mode _ c.in-NEAR.is; whole = λ e. refl }

pub returns-in-NEW : goal.returns-in-NEW
returns-in-NEW c =
    let read = ap (λ (ps : List ℕ). run (read_vector ps) c.args.decoder.now) (sym c.vectors.ensures.value) ∙ c.read_vector.ensures.reads in
    record { reads = all_new c.args.probs.now.vectors c.args.around.now c.args.near.now c.args.mode _ _ _ _ c.in-NEW.is read c.plus.ensures; whole = λ e. refl }

pub returns-in_default : goal.returns-in_default
returns-in_default c = record { reads = all_zero c.args.probs.now.vectors c.args.around.now c.args.near.now c.args.mode _ c.in_default.not-NEAREST c.in_default.not-NEAR c.in_default.not-NEW c.in_default.not-SPLIT; whole = λ e. refl }
