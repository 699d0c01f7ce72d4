use Rattle.std.proofs.Common.{◌≡◌, ℕ, arith, length, ap, ◌∙◌, List, ◌*◌, ◌≤◌, ◌<◌}
use Rattle.std.proofs.lemmas.Int.{ints}
use Rattle.sal_inter.proofs.Places.{window_fits, rest_inside, rest_long}
use Rattle.sal_inter.proofs.block.window_in.Goals as goal

pub returns-clause-long : goal.returns-clause-long
returns-clause-long c =
    let a = c.args in
    let first = c.first_in.ensures.first in
    let all : length c.samples_of.result.now ≡ a.plane.now.width * a.plane.now.height = ap (λ (xs : List ℕ). length xs) c.samples_of.ensures.samples ∙ c.requires.plane.samples in
    let inside : c.first_in.result ≤ length c.samples_of.result.now = omega arith in
    let rest = rest_long c.samples_of.result.now c.first_in.result inside in
    window_fits a.plane.now.width a.plane.now.height first.column first.row a.across.count a.down.count _ _ _ all rest first.at_is (omega (arith, ints, first.down_is)) (omega (arith, ints, first.across_is))

pub returns-clause-window : goal.returns-clause-window
returns-clause-window c = λ (r k : ℕ) (hr : r < c.args.down.count) (hk : k < c.args.across.count).
    let a = c.args in
    let first = c.first_in.ensures.first in
    rest_inside a.plane.now c.samples_of.result.now c.first_in.result first.column first.row r k a.across.start a.down.start c.samples_of.ensures.samples first.at_is first.across_is first.down_is
    (omega (arith, ints, first.across_is)) (omega (arith, ints, first.down_is))
