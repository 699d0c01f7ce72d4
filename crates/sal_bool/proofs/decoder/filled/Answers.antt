use Rattle.std.proofs.Common.{rules, ◌≡◌, ◌+◌, ◌*◌, ◌<◌, [], ◌∙◌, ap, sym, arith, length}
use Rattle.sal_bool.specs.Reading.{seen}
use Rattle.sal_bool.proofs.Windows.{seen_filled, seen_past_end, within_filled, within_past_end, empty_of}
use Rattle.sal_bool.proofs.decoder.filled.Goals as goal

pub returns-in-Some-clause-same : goal.returns-in-Some-clause-same
returns-in-Some-clause-same c = λ range.
    let small : c.in-Some.byte.now < 256 = search rules in
    seen_filled c.args.window c.args.count range c.in-Some.byte.now c.in-Some.rest.now small ∙ ap (λ xs. seen c.args.window c.args.count range xs) (sym c.in-Some.ensures.cases.0)

pub returns-in-Some-clause-within : goal.returns-in-Some-clause-within
returns-in-Some-clause-within c = λ range h.
    let small : c.in-Some.byte.now < 256 = search rules in
    let some : 0 < length c.args.rest.now = omega (arith, c.in-Some.ensures.cases.1) in
    within_filled c.args.window c.args.count range c.in-Some.byte.now c.in-Some.rest.now small (h.1 some)

pub returns-in-None-clause-same : goal.returns-in-None-clause-same
returns-in-None-clause-same c = λ range.
    let empty : c.args.rest.now ≡ [] = empty_of c.args.rest.now c.in-None.ensures.cases in
    ap (λ xs. seen (c.args.window * 256) (c.args.count + 8) range xs) empty ∙ (seen_past_end c.args.window c.args.count range ∙ ap (λ xs. seen c.args.window c.args.count range xs) (sym empty))

pub returns-in-None-clause-within : goal.returns-in-None-clause-within
returns-in-None-clause-within c = λ range h. (within_past_end c.args.window c.args.count range h.0, λ more. absurd (omega (arith, more, c.in-None.ensures.cases)))
