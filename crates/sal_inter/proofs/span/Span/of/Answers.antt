use Rattle.std.proofs.Common.{◌≡◌, ◌∙◌, ap, ℤ, to_z, of_z}
use mir.Syntax.{w16}
use Rattle.std.proofs.lemmas.Int.{to_z-of_z}
use Rattle.sal_inter.specs.Inter.{whole_of, fraction_of}
use Rattle.sal_inter.proofs.Places.{span_with, span_without, start_is, start_fits, whole_is, whole_fits}
use Rattle.sal_inter.proofs.span.Span.of.Goals as goal

pub returns-then-fraction-eq0 : goal.returns-then-fraction-eq0
returns-then-fraction-eq0 c =
    let a = c.args in
    let component : to_z w16 (of_z w16 a.component) ≡ a.component = to_z-of_z w16 a.component c.ranges.component in
    span_without a.place a.side a.eighths a.component _ _ c.if-fraction-eq0.true (c.fraction_of-fraction.ensures.value ∙ ap (λ (z : ℤ). fraction_of a.eighths z) component)
    (whole_is a.place _ _ c.ranges.place (c.whole_of.ensures.value ∙ ap (λ (z : ℤ). whole_of a.eighths z) component) c.whole_of.ensures.small)
    (whole_fits a.place _ c.ranges.place c.whole_of.ensures.small)

pub returns-else-fraction-eq0 : goal.returns-else-fraction-eq0
returns-else-fraction-eq0 c =
    let a = c.args in
    let component : to_z w16 (of_z w16 a.component) ≡ a.component = to_z-of_z w16 a.component c.ranges.component in
    span_with a.place a.side a.eighths a.component _ _ c.if-fraction-eq0.false c.fraction_of-fraction.ensures.small
    (c.fraction_of-fraction.ensures.value ∙ ap (λ (z : ℤ). fraction_of a.eighths z) component)
    (start_is a.place _ _ c.ranges.place (c.whole_of.ensures.value ∙ ap (λ (z : ℤ). whole_of a.eighths z) component) c.whole_of.ensures.small)
    (start_fits a.place _ c.ranges.place c.whole_of.ensures.small)
