use Rattle.std.proofs.Common.{◌≡◌, ◌∙◌, ap, refl, ℤ, pos, ◌+ℤ◌, ◌-ℤ◌, ◌*ℤ◌, cond}
use Rattle.sal_filter.specs.Edges.{signed_clamp, q0_adjustment, p0_adjustment, q1_adjustment}
use Rattle.sal_filter.proofs.Signed.{held, kept, equal, back_to, on_to, step_to, fits_16, small_of}
use Rattle.sal_filter.proofs.Masked.{none_small, choose_to, inner_adjustment, inner_masked}
use Rattle.sal_filter.proofs.across.inner_where.Goals as goal

pub returns : goal.returns
unfolding inner_adjustment
returns c =
    let a = c.args.a in
    let b = small_of a c.requires.signed in
    let t = c.args.high_variance in
    let f = c.args.moves in
    let w : ℤ = inner_adjustment f t a in
    let first : c.moved_back.result ≡ signed_clamp (a.p1 -ℤ a.q1) = back_to _ a.p1 a.q1 a.p1 a.q1 c.moved_back.ensures.value b.p1 b.q1 refl refl in
    let far : c.choose-across.result ≡ cond t (signed_clamp (a.p1 -ℤ a.q1)) (pos 0) = choose_to _ t c.moved_back.result (pos 0) (signed_clamp (a.p1 -ℤ a.q1)) (pos 0) c.choose-across.ensures.value c.moved_back.ensures.small none_small first refl in
    let stepped : c.step.result ≡ signed_clamp (cond t (signed_clamp (a.p1 -ℤ a.q1)) (pos 0) +ℤ pos 3 *ℤ (a.q0 -ℤ a.p0)) = step_to _ c.choose-across.result a.p0 a.q0 (cond t (signed_clamp (a.p1 -ℤ a.q1)) (pos 0)) c.step.ensures.value c.choose-across.ensures.small b.p0 b.q0 far in
    let found : c.choose-w.result ≡ w = choose_to _ f c.step.result (pos 0) (signed_clamp (cond t (signed_clamp (a.p1 -ℤ a.q1)) (pos 0) +ℤ pos 3 *ℤ (a.q0 -ℤ a.p0))) (pos 0) c.choose-w.ensures.value c.step.ensures.small none_small stepped refl in
    let ew = held _ w found c.choose-w.ensures.small in
    let half : c.choose-half.result ≡ cond t (pos 0) (q1_adjustment w) = choose_to _ t (pos 0) c.q1_adjustment.result (pos 0) (q1_adjustment w) c.choose-half.ensures.value none_small (fits_16 _ c.q1_adjustment.ensures.small) refl (c.q1_adjustment.ensures.value ∙ ap q1_adjustment ew) in
    let p1 = held _ _ (on_to _ a.p1 c.choose-half.result a.p1 (cond t (pos 0) (q1_adjustment w)) c.moved.ensures.value b.p1 c.choose-half.ensures.small refl half) c.moved.ensures.small in
    let p0 = held _ _ (on_to _ a.p0 c.p0_adjustment-up.result a.p0 (p0_adjustment w) c.moved-2.ensures.value b.p0 (fits_16 _ c.p0_adjustment-up.ensures.small) refl (c.p0_adjustment-up.ensures.value ∙ ap p0_adjustment ew)) c.moved-2.ensures.small in
    let q0 = held _ _ (back_to _ a.q0 c.q0_adjustment-down.result a.q0 (q0_adjustment w) c.moved_back-2.ensures.value b.q0 (fits_16 _ c.q0_adjustment-down.ensures.small) refl (c.q0_adjustment-down.ensures.value ∙ ap q0_adjustment ew)) c.moved_back-2.ensures.small in
    let q1 = held _ _ (back_to _ a.q1 c.choose-half.result a.q1 (cond t (pos 0) (q1_adjustment w)) c.moved_back-3.ensures.value b.q1 c.choose-half.ensures.small refl half) c.moved_back-3.ensures.small in
    record { value = equal _ _ _ _ _ _ _ _ _ _ _ _ _ _ _ _ (kept a.p3 b.p3) (kept a.p2 b.p2) p1 p0 q0 q1 (kept a.q2 b.q2) (kept a.q3 b.q3) ∙ inner_masked f t a c.requires.signed }
