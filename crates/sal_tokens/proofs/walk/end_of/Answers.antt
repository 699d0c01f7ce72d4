use Rattle.std.proofs.Common.{◌≡◌, ap, sym, ◌∙◌, arith, of_z, w32, length, drop}
use Rattle.sal_tokens.specs.Written.{trimmed}
use Rattle.sal_tokens.proofs.Taking.{end_here}
use Rattle.sal_tokens.proofs.walk.end_of.Goals as goal

pub returns-then-coefficients-i-ne0-clause-end : goal.returns-then-coefficients-i-ne0-clause-end
returns-then-coefficients-i-ne0-clause-end c =
    let long = c.told-coefficients in
    let le = c.loop-i.auto.i in
    end_here c.args.coefficients.now c.args.first c.loop-i.i c.loop-i-test.true (omega (arith, long, le)) (λ h. c.if-coefficients-i-ne0.true (ap (λ z. of_z w32 z) h)) c.loop-i.invariant.none

pub returns-clause-end : goal.returns-clause-end
returns-clause-end c =
    let low = c.loop-i.invariant.low in
    let at : c.loop-i.i ≡ c.args.first = omega (arith, c.loop-i-test.false, low) in
    let none : length (trimmed (drop c.args.first c.args.coefficients.now)) ≡ 0 = ap (λ n. length (trimmed (drop n c.args.coefficients.now))) (sym at) ∙ ap length c.loop-i.invariant.none in
    omega (arith, none)
