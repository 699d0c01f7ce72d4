use Rattle.std.proofs.Common.{Ok, Err, rules, arith, sym, subst}
use Rattle.sal_base.specs.Picture.{AreSides}
use Rattle.sal_run.specs.Input.{TakeGives}
use Rattle.sal_run.proofs.Places.{carries_first, carries_then}
use Rattle.sal_run.proofs.Onward.{some_fact}
use Rattle.sal_run.proofs.Whole.{fault_first, fault_next, fault_stops, fault_none, finish_exit}
use Rattle.sal_run.proofs.input.finish.Goals as goal

pub loop-picture-init : goal.loop-picture-init
loop-picture-init g c = record {
  fault = fault_first c.args.pictures.now.head c.args.feed.now.room _;
  places = carries_first _ _;
  head = search rules;
  fresh = search rules;
  later = search rules;
  name = search rules;
  had = search rules;
  tells = search rules;
}

pub take-requires-clause-sides : goal.take-requires-clause-sides
take-requires-clause-sides g c = subst (λ h. AreSides h.width h.height) (sym c.loop-picture.invariant.head) c.requires.sides

pub loop-picture-preserved : goal.loop-picture-preserved
loop-picture-preserved g c = record {
  fault = fault_next c.args.pictures.now.head c.loop-picture.pictures.place _ _ _ _ _ _ _ c.in-Some._picture c.loop-picture.invariant.tells c.in-Some.is
      (subst (λ h. TakeGives h c.loop-picture.pictures.place c.loop-picture.feed.room (g.S.Source.left c.loop-picture.pictures.source) (g.S.Source.left c.take.new.pictures.source) (Ok c.in_ok-_picture.field-0)) c.loop-picture.invariant.head c.in_ok-_picture.ensures.told)
      (some_fact _ _ _ c.in-Some.is c.in_ok-_picture.ensures.room) c.loop-picture.invariant.fault;
  places = carries_then _ _ _ _ _ _ c.loop-picture.invariant.tells c.loop-picture.invariant.places c.in_ok-_picture.ensures.places;
  head = search rules;
  fresh = search rules;
  later = search rules;
  name = search rules;
  had = search rules;
  tells = search rules;
}

pub loop-picture-smaller : goal.loop-picture-smaller
loop-picture-smaller g c = let less = some_fact _ _ _ c.in-Some.is c.in_ok-_picture.ensures.room in omega (arith, less)

pub returns-in_err-_picture-clause-told : goal.returns-in_err-_picture-clause-told
returns-in_err-_picture-clause-told g c =
    finish_exit c.args.pictures.now.head c.args.pictures.now.place _ _ _ c.from_residual.result _ c.from_residual.ensures.1
    (fault_stops c.args.pictures.now.head c.args.pictures.now.place _ _ _ _ _ _ _ c.loop-picture.invariant.tells c.loop-picture.invariant.places
    (subst (λ h. TakeGives h c.loop-picture.pictures.place c.loop-picture.feed.room (g.S.Source.left c.loop-picture.pictures.source) (g.S.Source.left c.take.new.pictures.source) (Err c.in_err-_picture.field-0.0)) c.loop-picture.invariant.head c.in_err-_picture.ensures.told)
    c.loop-picture.invariant.fault)

pub returns-clause-told : goal.returns-clause-told
returns-clause-told g c =
    fault_none c.args.pictures.now.head c.args.pictures.now.place c.loop-picture.pictures.place _ _ _ _ _ _ c.loop-picture.invariant.tells c.in_default.is
    (subst (λ h. TakeGives h c.loop-picture.pictures.place c.loop-picture.feed.room (g.S.Source.left c.loop-picture.pictures.source) (g.S.Source.left c.take.new.pictures.source) (Ok c.in_ok-_picture.field-0)) c.loop-picture.invariant.head c.in_ok-_picture.ensures.told)
    c.loop-picture.invariant.fault
