use Rattle.std.proofs.Common.{◌≡◌, ◌∙◌, ap, ℕ, ◌+◌, ◌*◌, arith}
use Rattle.sal_inter.specs.Windows.{reach}
use Rattle.sal_inter.proofs.Places.{kept}
use Rattle.sal_inter.proofs.Reading.{window_taken, gathered_window}
use Rattle.sal_inter.proofs.block.predict_gathered.Goals as goal

pub interpolate-requires-clause-samples : goal.interpolate-requires-clause-samples
interpolate-requires-clause-samples c =
    let a = c.args in
    let all : a.across.count * a.down.count ≡ a.across.count * (a.height + reach a.down.fraction) = ap (λ (n : ℕ). a.across.count * n) c.requires.down.count in
    omega (arith, c.gather.ensures.long, c.requires.across.count)

pub returns-clause-samples : goal.returns-clause-samples
returns-clause-samples c = λ k h.
    let a = c.args in
    c.interpolate.ensures k h
    ∙ window_taken a.plane.now a.across a.down c.gather.new.out a.across.count a.width a.height k c.requires.across c.requires.down
    (gathered_window a.plane.now a.across a.down c.gather.new.out _ _ (kept a.across.start c.requires.across.start) (kept a.down.start c.requires.down.start) c.gather.ensures.samples) c.requires.width.0 h
