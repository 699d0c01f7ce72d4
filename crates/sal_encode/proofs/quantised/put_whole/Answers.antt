use Rattle.std.proofs.Common.{◌∙◌, ℤ, List, pos, ap, sym, subst}
use Rattle.sal_transform.specs.Forward.{forward_y2_of, quantised}
use Rattle.sal_encode.specs.Quantised.{luma_block, y2_block}
use Rattle.sal_encode.specs.Standing.{HasLuma}
use Rattle.sal_encode.proofs.BlocksPut.{luma_with_y2}
use Rattle.sal_encode.proofs.quantised.put_whole.Goals as goal

pub returns : goal.returns
unfolding y2_block
returns c =
    let s = c.args.factors.now in
    let y2 = c.y2_of.ensures.value ∙ ap (λ (vs : List ℤ). quantised (forward_y2_of vs) (pos s.y2_dc) (pos s.y2_ac)) c.put_luma-firsts.ensures.firsts in
    subst (λ (ls : List (List ℤ)). HasLuma (luma_block s c.args.wanted.now c.args.predicted.now) (y2_block s c.args.wanted.now c.args.predicted.now) ls) (sym c.put.ensures) (luma_with_y2 _ _ _ _ _ c.requires c.put_luma-firsts.ensures.put y2)
