use Rattle.std.proofs.Common.{◌≡◌, ◌∙◌, ap, refl, ℤ, pos, ◌+ℤ◌, ◌-ℤ◌, ◌*ℤ◌, cond}
use Rattle.sal_filter.specs.Edges.{signed_clamp, q0_adjustment, p0_adjustment, part}
use Rattle.sal_filter.proofs.Signed.{held, kept, equal, back_to, on_to, step_to, fits_16, small_of}
use Rattle.sal_filter.proofs.Masked.{none_small, choose_to, outer_adjustment, outer_masked}
use Rattle.sal_filter.proofs.across.outer_where.Goals as goal

pub returns : goal.returns
unfolding outer_adjustment
returns c =
    let a = c.args.a in
    let b = small_of a c.requires.signed in
    let t = c.args.high_variance in
    let f = c.args.moves in
    let w : ℤ = outer_adjustment f a in
    let first : c.moved_back.result ≡ signed_clamp (a.p1 -ℤ a.q1) = back_to _ a.p1 a.q1 a.p1 a.q1 c.moved_back.ensures.value b.p1 b.q1 refl refl in
    let stepped : c.step.result ≡ signed_clamp (signed_clamp (a.p1 -ℤ a.q1) +ℤ pos 3 *ℤ (a.q0 -ℤ a.p0)) = step_to _ c.moved_back.result a.p0 a.q0 (signed_clamp (a.p1 -ℤ a.q1)) c.step.ensures.value c.moved_back.ensures.small b.p0 b.q0 first in
    let found : c.choose-w.result ≡ w = choose_to _ f c.step.result (pos 0) (signed_clamp (signed_clamp (a.p1 -ℤ a.q1) +ℤ pos 3 *ℤ (a.q0 -ℤ a.p0))) (pos 0) c.choose-w.ensures.value c.step.ensures.small none_small stepped refl in
    let ew = held _ w found c.choose-w.ensures.small in
    let near : c.part_27-near.result ≡ part 27 w = c.part_27-near.ensures.value ∙ ap (part 27) ew in
    let up : c.choose-up.result ≡ cond t (p0_adjustment w) (part 27 w) = choose_to _ t c.p0_adjustment.result c.part_27-near.result (p0_adjustment w) (part 27 w) c.choose-up.ensures.value (fits_16 _ c.p0_adjustment.ensures.small) c.part_27-near.ensures.small (c.p0_adjustment.ensures.value ∙ ap p0_adjustment ew) near in
    let down : c.choose-down.result ≡ cond t (q0_adjustment w) (part 27 w) = choose_to _ t c.q0_adjustment.result c.part_27-near.result (q0_adjustment w) (part 27 w) c.choose-down.ensures.value (fits_16 _ c.q0_adjustment.ensures.small) c.part_27-near.ensures.small (c.q0_adjustment.ensures.value ∙ ap q0_adjustment ew) near in
    let middle : c.choose-middle.result ≡ cond t (pos 0) (part 18 w) = choose_to _ t (pos 0) c.part_18.result (pos 0) (part 18 w) c.choose-middle.ensures.value none_small c.part_18.ensures.small refl (c.part_18.ensures.value ∙ ap (part 18) ew) in
    let far : c.choose-far.result ≡ cond t (pos 0) (part 9 w) = choose_to _ t (pos 0) c.part_9.result (pos 0) (part 9 w) c.choose-far.ensures.value none_small c.part_9.ensures.small refl (c.part_9.ensures.value ∙ ap (part 9) ew) in
    let p2 = held _ _ (on_to _ a.p2 c.choose-far.result a.p2 (cond t (pos 0) (part 9 w)) c.moved.ensures.value b.p2 c.choose-far.ensures.small refl far) c.moved.ensures.small in
    let p1 = held _ _ (on_to _ a.p1 c.choose-middle.result a.p1 (cond t (pos 0) (part 18 w)) c.moved-2.ensures.value b.p1 c.choose-middle.ensures.small refl middle) c.moved-2.ensures.small in
    let p0 = held _ _ (on_to _ a.p0 c.choose-up.result a.p0 (cond t (p0_adjustment w) (part 27 w)) c.moved-3.ensures.value b.p0 c.choose-up.ensures.small refl up) c.moved-3.ensures.small in
    let q0 = held _ _ (back_to _ a.q0 c.choose-down.result a.q0 (cond t (q0_adjustment w) (part 27 w)) c.moved_back-2.ensures.value b.q0 c.choose-down.ensures.small refl down) c.moved_back-2.ensures.small in
    let q1 = held _ _ (back_to _ a.q1 c.choose-middle.result a.q1 (cond t (pos 0) (part 18 w)) c.moved_back-3.ensures.value b.q1 c.choose-middle.ensures.small refl middle) c.moved_back-3.ensures.small in
    let q2 = held _ _ (back_to _ a.q2 c.choose-far.result a.q2 (cond t (pos 0) (part 9 w)) c.moved_back-4.ensures.value b.q2 c.choose-far.ensures.small refl far) c.moved_back-4.ensures.small in
    record { value = equal _ _ _ _ _ _ _ _ _ _ _ _ _ _ _ _ (kept a.p3 b.p3) p2 p1 p0 q0 q1 q2 (kept a.q3 b.q3) ∙ outer_masked f t a c.requires.signed }
