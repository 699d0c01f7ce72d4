use Rattle.std.proofs.Common.{◌∙◌, ap, ℕ, ◌/◌, ◌%◌, take, get_or}
use Rattle.sal_intra.specs.Intra.{by_mode}
use Rattle.sal_intra.proofs.whole.predict_luma.Goals as goal

pub returns : goal.returns
returns c = λ k h. c.square.ensures k h ∙ ap (λ (m : ℕ). by_mode c.args.mode m (get_or (take 16 c.args.edge.now.above) (k % 16) 0) (get_or c.args.edge.now.left (k / 16) 0) c.args.edge.now.corner) c.luma_average-dc.ensures
