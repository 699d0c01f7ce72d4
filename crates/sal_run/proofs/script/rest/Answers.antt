use Rattle.std.proofs.Common.{◌*◌, ◌/◌, IfSome, Ok, Err, rules, arith, sym, ap, ◌∙◌, subst}
use Rattle.sal_base.specs.Picture.{AreSides}
use Rattle.sal_codec.specs.Coding.{HasSides}
use Rattle.sal_script.specs.declared.line.ScriptLine.TheVariants.{Rest}
use Rattle.sal_run.specs.Input.{TakeGives}
use Rattle.sal_run.proofs.Places.{carries_first, carries_then}
use Rattle.sal_run.proofs.Onward.{line_exit, some_fact, some_has}
use Rattle.sal_run.proofs.Resting.{rest_first, rest_next, rest_end, rest_take_exit, exchange_stops, unread, rest_turn_exit}
use Rattle.sal_run.proofs.script.rest.Goals as goal

pub loop-picture-init : goal.loop-picture-init
loop-picture-init g c = record {
  left = λ r is. rest_first g.C.Codec.coding c.args.pictures.now.head _ _ r _ _ _ _ is;
  places = carries_first _ _;
  head = search rules;
  fresh = search rules;
  read_later = search rules;
  name = search rules;
  had = search rules;
  tells = search rules;
  open_ = search rules;
  later = search rules;
  out_later = search rules;
  out_name = search rules;
  out_tells = search rules;
}

pub loop-picture-preserved : goal.loop-picture-preserved
loop-picture-preserved g c =
    let same = c.loop-picture.invariant.head in
    let told = subst (λ h. TakeGives h c.loop-picture.pictures.place c.loop-picture.feed.room (g.S.Source.left c.loop-picture.pictures.source) (g.S.Source.left c.take.new.pictures.source) (Ok c.in_ok-picture.field-0)) same c.in_ok-picture.ensures.told in
    let size = some_has _ _ _ c.in-Some.is (subst (λ h. IfSome c.in_ok-picture.field-0 (HasSides h.width h.height)) same c.in_ok-picture.ensures.size) in
    let time = c.period-time.ensures ∙ ap (λ h. (1000000 * h.rate.1) / h.rate.0) c.head.ensures in
    record {
      left = λ r is.
          let now = c.loop-picture.invariant.left r is in
          rest_next g.C.Codec.coding c.args.pictures.now.head c.loop-picture.pictures.place _ _ r _ _ _ _ _ _ _ _ _ _ _ _ _ c.in-Some.picture _ now c.loop-picture.invariant.tells c.in-Some.is told (some_fact _ _ _ c.in-Some.is c.in_ok-picture.ensures.room) time (c.in_ok-wait.ensures.comes c.args.pictures.now.head _ _ (c.in_ok-exchange.ensures.comes c.args.pictures.now.head now.now now.here size));
      places = carries_then _ _ _ _ _ _ c.loop-picture.invariant.tells c.loop-picture.invariant.places c.in_ok-picture.ensures.places;
      head = search rules;
      fresh = search rules;
      read_later = search rules;
      name = search rules;
      had = search rules;
      tells = search rules;
      open_ = search rules;
      later = search rules;
      out_later = search rules;
      out_name = search rules;
      out_tells = search rules;
    }

pub loop-picture-smaller : goal.loop-picture-smaller
loop-picture-smaller g c = let less = some_fact _ _ _ c.in-Some.is c.in_ok-picture.ensures.room in omega (arith, less)

pub take-requires-clause-sides : goal.take-requires-clause-sides
take-requires-clause-sides g c = subst (λ h. AreSides h.width h.height) (sym c.loop-picture.invariant.head) c.requires.legal.sides

pub exchange-requires-clause-runs : goal.exchange-requires-clause-runs
exchange-requires-clause-runs g c κs within =
    let now = c.loop-picture.invariant.left c.requires.runs.0 c.requires.runs.1 in
    let size = some_has _ _ _ c.in-Some.is (subst (λ h. IfSome c.in_ok-picture.field-0 (HasSides h.width h.height)) c.loop-picture.invariant.head c.in_ok-picture.ensures.size) in
    (c.args.pictures.now.head, (now.now, (now.here, size)))

pub wait-requires-clause-runs : goal.wait-requires-clause-runs
wait-requires-clause-runs g c κs within =
    let now = c.loop-picture.invariant.left c.requires.runs.0 c.requires.runs.1 in
    let size = some_has _ _ _ c.in-Some.is (subst (λ h. IfSome c.in_ok-picture.field-0 (HasSides h.width h.height)) c.loop-picture.invariant.head c.in_ok-picture.ensures.size) in
    (c.args.pictures.now.head, (_, (_, c.in_ok-exchange.ensures.comes c.args.pictures.now.head now.now now.here size)))

pub returns-in_err-picture-clause-goes : goal.returns-in_err-picture-clause-goes
returns-in_err-picture-clause-goes g c n r is =
    let now = c.loop-picture.invariant.left r is in
    let told = subst (λ h. TakeGives h c.loop-picture.pictures.place c.loop-picture.feed.room (g.S.Source.left c.loop-picture.pictures.source) (g.S.Source.left c.take.new.pictures.source) (Err c.in_err-picture.field-0.0)) c.loop-picture.invariant.head c.in_err-picture.ensures.told in
    line_exit g.C.Codec.coding c.args.pictures.now.head g.J.Diary.gives c.args.pictures.now.place (n, Rest) c.args.feed.now.room c.take.new.feed.room _ _ _ _ _ _ r c.from_residual.result _ c.from_residual.ensures.1
    (λ more. rest_take_exit g.C.Codec.coding c.args.pictures.now.head g.J.Diary.gives c.args.pictures.now.place c.loop-picture.pictures.place n _ _ more _ _ _ r _ _ _ _ _ now c.loop-picture.invariant.tells c.loop-picture.invariant.places told)

pub returns-in_err-exchange-clause-goes : goal.returns-in_err-exchange-clause-goes
returns-in_err-exchange-clause-goes g c n r is =
    let now = c.loop-picture.invariant.left r is in
    let same = c.loop-picture.invariant.head in
    let told = subst (λ h. TakeGives h c.loop-picture.pictures.place c.loop-picture.feed.room (g.S.Source.left c.loop-picture.pictures.source) (g.S.Source.left c.take.new.pictures.source) (Ok c.in_ok-picture.field-0)) same c.in_ok-picture.ensures.told in
    let size = some_has _ _ _ c.in-Some.is (subst (λ h. IfSome c.in_ok-picture.field-0 (HasSides h.width h.height)) same c.in_ok-picture.ensures.size) in
    let time = c.period-time.ensures ∙ ap (λ h. (1000000 * h.rate.1) / h.rate.0) c.head.ensures in
    line_exit g.C.Codec.coding c.args.pictures.now.head g.J.Diary.gives c.args.pictures.now.place (n, Rest) c.args.feed.now.room c.take.new.feed.room _ _ _ _ _ _ r c.from_residual-in_err-exchange.result _ c.from_residual-in_err-exchange.ensures.1
    (λ more. rest_turn_exit g.C.Codec.coding c.args.pictures.now.head g.J.Diary.gives c.args.pictures.now.place c.loop-picture.pictures.place n _ _ _ more _ _ _ r _ _ _ _ _ _ c.in-Some.picture _ _ now c.take.ensures.tells c.loop-picture.invariant.tells c.in-Some.is told (some_fact _ _ _ c.in-Some.is c.in_ok-picture.ensures.room) time (exchange_stops g.C.Codec.coding c.args.pictures.now.head g.J.Diary.gives c.args.pictures.now.place _ c.in-Some.picture c.period-time.result now.now _ (c.in_err-exchange.ensures.comes c.args.pictures.now.head now.now now.here size)))

pub returns-in_err-wait-clause-goes : goal.returns-in_err-wait-clause-goes
returns-in_err-wait-clause-goes g c n r is =
    let now = c.loop-picture.invariant.left r is in
    let same = c.loop-picture.invariant.head in
    let told = subst (λ h. TakeGives h c.loop-picture.pictures.place c.loop-picture.feed.room (g.S.Source.left c.loop-picture.pictures.source) (g.S.Source.left c.take.new.pictures.source) (Ok c.in_ok-picture.field-0)) same c.in_ok-picture.ensures.told in
    let size = some_has _ _ _ c.in-Some.is (subst (λ h. IfSome c.in_ok-picture.field-0 (HasSides h.width h.height)) same c.in_ok-picture.ensures.size) in
    let time = c.period-time.ensures ∙ ap (λ h. (1000000 * h.rate.1) / h.rate.0) c.head.ensures in
    line_exit g.C.Codec.coding c.args.pictures.now.head g.J.Diary.gives c.args.pictures.now.place (n, Rest) c.args.feed.now.room c.take.new.feed.room _ _ _ _ _ _ r c.from_residual-in_err-wait.result _ c.from_residual-in_err-wait.ensures.1
    (λ more. rest_turn_exit g.C.Codec.coding c.args.pictures.now.head g.J.Diary.gives c.args.pictures.now.place c.loop-picture.pictures.place n _ _ _ more _ _ _ r _ _ _ _ _ _ c.in-Some.picture _ _ now c.take.ensures.tells c.loop-picture.invariant.tells c.in-Some.is told (some_fact _ _ _ c.in-Some.is c.in_ok-picture.ensures.room) time (c.in_err-wait.ensures.comes c.args.pictures.now.head _ _ (c.in_ok-exchange.ensures.comes c.args.pictures.now.head now.now now.here size)))

pub returns-in_err-wait-clause-cause : goal.returns-in_err-wait-clause-cause
returns-in_err-wait-clause-cause g c =
    let now = c.loop-picture.invariant.left c.requires.runs.0 c.requires.runs.1 in
    let size = some_has _ _ _ c.in-Some.is (subst (λ h. IfSome c.in_ok-picture.field-0 (HasSides h.width h.height)) c.loop-picture.invariant.head c.in_ok-picture.ensures.size) in
    unread g.C.Codec.coding c.args.pictures.now.head g.J.Diary.gives 0 _ _ c.from_residual-in_err-wait.result _ _ _ (let a = c.loop-picture.invariant.read_later in let b = c.take.ensures.cause.later in omega (arith, a, b)) c.from_residual-in_err-wait.ensures.1 (c.in_err-wait.ensures.comes c.args.pictures.now.head _ _ (c.in_ok-exchange.ensures.comes c.args.pictures.now.head now.now now.here size))

pub returns-clause-goes : goal.returns-clause-goes
returns-clause-goes g c n r is =
    let now = c.loop-picture.invariant.left r is in
    let told = subst (λ h. TakeGives h c.loop-picture.pictures.place c.loop-picture.feed.room (g.S.Source.left c.loop-picture.pictures.source) (g.S.Source.left c.take.new.pictures.source) (Ok c.in_ok-picture.field-0)) c.loop-picture.invariant.head c.in_ok-picture.ensures.told in
    rest_end g.C.Codec.coding c.args.pictures.now.head c.loop-picture.pictures.place n _ _ _ _ _ _ r _ _ _ _ _ now c.loop-picture.invariant.tells c.in_default.is told

pub returns-clause-places : goal.returns-clause-places
returns-clause-places g c = carries_then _ _ _ _ _ _ c.loop-picture.invariant.tells c.loop-picture.invariant.places c.in_ok-picture.ensures.places
