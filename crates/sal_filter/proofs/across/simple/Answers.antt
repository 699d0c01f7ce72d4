use Rattle.std.proofs.Common.{◌≡◌, ◌∙◌, ap, refl, ℤ, ◌-ℤ◌}
use Rattle.sal_filter.specs.declared.across.Across.{Across}
use Rattle.sal_filter.specs.Edges.{signed_clamp, step, simple, common}
use Rattle.sal_filter.proofs.Signed.{held, back_to, step_to, small_of}
use Rattle.sal_filter.proofs.across.simple.Goals as goal

simple_is : (a : Across) → common (step (signed_clamp (a.p1 -ℤ a.q1)) a) a ≡ simple a
unfolding simple
simple_is a = refl

pub returns : goal.returns
returns c =
    let a = c.args.a in
    let b = small_of a c.requires.signed in
    let w : ℤ = step (signed_clamp (a.p1 -ℤ a.q1)) a in
    let first : c.moved_back.result ≡ signed_clamp (a.p1 -ℤ a.q1) = back_to _ a.p1 a.q1 a.p1 a.q1 c.moved_back.ensures.value b.p1 b.q1 refl refl in
    let found : c.step-w.result ≡ w = step_to _ c.moved_back.result a.p0 a.q0 (signed_clamp (a.p1 -ℤ a.q1)) c.step-w.ensures.value c.moved_back.ensures.small b.p0 b.q0 first in
    let ew = held _ w found c.step-w.ensures.small in
    record { value = c.common.ensures.value ∙ (ap (λ (x : ℤ). common x a) ew ∙ simple_is a) }
