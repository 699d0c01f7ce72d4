use Rattle.std.proofs.Common.{◌∙◌, sym, arith}
use Rattle.sal_bool.specs.Reading.{IsWithin}
use Rattle.sal_bool.proofs.Windows.{stepped, within_stepped, range_stepped, lead_of}
use Rattle.sal_bool.proofs.decoder.Decoder.step.Goals as goal

pub invariant_of-self : goal.invariant_of-self
invariant_of-self c =
    let kept = c.filled-window.ensures.within c.self.inside.range c.self.invariant.3 in
    let narrowed : IsWithin c.narrow-bit.result.1 c.filled-window.result.1 c.narrow-bit.result.2 c.filled-window.result.2.now = (c.narrow-bit.ensures.within, λ more. c.narrow-bit.ensures.inside (kept.1 more)) in
    let ranged = range_stepped c.narrow-bit.result.2 c.missing_doublings-shift.result c.missing_doublings-shift.ensures.full c.missing_doublings-shift.ensures.small in
    let inside = within_stepped c.narrow-bit.result.1 c.filled-window.result.1 c.narrow-bit.result.2 c.missing_doublings-shift.result c.filled-window.result.2.now (omega arith) c.missing_doublings-shift.ensures.small narrowed in
    (ranged.0, ranged.1, omega arith, inside)

pub returns-clause-bit : goal.returns-clause-bit
returns-clause-bit c =
    let same = lead_of c.args.self.now c.args.probability c.filled-window.result.0 c.filled-window.result.1 c.self.inside.range c.filled-window.result.2.now (sym c.self.view_is ∙ sym (c.filled-window.ensures.same c.self.inside.range)) in
    c.narrow-bit.ensures.bit ∙ sym same

pub returns-clause-after : goal.returns-clause-after
returns-clause-after c =
    stepped c.args.self.now c.args.probability c.filled-window.result.0 c.filled-window.result.1 c.self.inside.range c.narrow-bit.result.1 c.narrow-bit.result.2 c.missing_doublings-shift.result c.filled-window.result.2.now c.narrow-bit.result.0
    (sym c.self.view_is ∙ sym (c.filled-window.ensures.same c.self.inside.range)) c.narrow-bit.ensures.bit (c.narrow-bit.ensures.narrowed c.filled-window.result.2.now)
    c.missing_doublings-shift.ensures.few c.filled-window.ensures.enough c.missing_doublings-shift.ensures.full c.missing_doublings-shift.ensures.small
