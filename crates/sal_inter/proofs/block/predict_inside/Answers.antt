use Rattle.std.proofs.Common.{◌∙◌}
use Rattle.sal_inter.proofs.Reading.{window_taken}
use Rattle.sal_inter.proofs.block.predict_inside.Goals as goal

pub returns-clause-samples : goal.returns-clause-samples
returns-clause-samples c = λ k h.
    let a = c.args in
    c.interpolate.ensures k h ∙ window_taken a.plane.now a.across a.down _ a.plane.now.width a.width a.height k c.requires.across c.requires.down c.window_in.ensures.window c.requires.width.0 h
