use Rattle.std.proofs.Common.{◌≡◌, ℕ, take, Ok, Err, rules, ap}
use Rattle.sal_y4m.specs.Parameters.{letter_of, set}
use Rattle.sal_y4m.proofs.ParameterLemmas.{begun_well, begun_badly}
use Rattle.sal_y4m.proofs.parameters.first.Goals as goal

pub returns-in-Ok : goal.returns-in-Ok
returns-in-Ok c =
    let was : set (letter_of c.in-Some.letter.now) (take c.value_size.result c.in-Some.rest.now) c.args.settings ≡ Ok c.in-Ok.settings = cc in
    begun_well c.args.text.now c.in-Some.rest.now (take c.value_size.result c.in-Some.rest.now) c.in-Some.letter.now c.args.settings c.in-Ok.settings (search rules) c.if-letter-eq32.false (ap (λ (n : ℕ). take n c.in-Some.rest.now) c.value_size.ensures) was

pub returns-in-Err : goal.returns-in-Err
returns-in-Err c =
    let was : set (letter_of c.in-Some.letter.now) (take c.value_size.result c.in-Some.rest.now) c.args.settings ≡ Err c.in-Err.why = cc in
    begun_badly c.args.text.now c.in-Some.rest.now (take c.value_size.result c.in-Some.rest.now) c.in-Some.letter.now c.args.settings c.in-Err.why (search rules) c.if-letter-eq32.false (ap (λ (n : ℕ). take n c.in-Some.rest.now) c.value_size.ensures) was
