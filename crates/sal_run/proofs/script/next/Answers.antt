use Rattle.sal_run.specs.Input.{next_said}
use Rattle.sal_run.proofs.Onward.{take_halts, none_halts, next_goes, line_exit, some_fact, some_has}
use Rattle.sal_run.proofs.script.next.Goals as goal

pub returns-in_err-picture-clause-goes : goal.returns-in_err-picture-clause-goes
returns-in_err-picture-clause-goes g c r held is =
    line_exit g.C.Codec.coding c.args.pictures.now.head g.J.Diary.gives c.args.pictures.now.place (c.args.number, next_said c.args.late) c.args.feed.now.room c.take.new.feed.room _ _ _ _ _ held r c.from_residual.result _ c.from_residual.ensures.1
    (λ more. take_halts g.C.Codec.coding c.args.pictures.now.head g.J.Diary.gives c.args.pictures.now.place c.args.late c.args.number _ more _ _ _ held r _ c.in_err-picture.ensures.told is.running)

pub returns-in_default-clause-goes : goal.returns-in_default-clause-goes
returns-in_default-clause-goes g c r held is =
    λ more. none_halts g.C.Codec.coding c.args.pictures.now.head g.J.Diary.gives c.args.pictures.now.place c.args.late c.args.number c.args.pictures.now.place _ more _ _ _ held r _ c.in_default.is c.in_ok-picture.ensures.told is.running

pub returns-clause-goes : goal.returns-clause-goes
returns-clause-goes g c r held is =
    next_goes g.C.Codec.coding c.args.pictures.now.head g.J.Diary.gives c.args.pictures.now.place c.args.late c.args.number c.args.pictures.now.place _ _ _ _ _ _ _ _ _ _ held r _ c.in-Some.picture c.next.result c.in-Some.is c.in_ok-picture.ensures.told (some_fact _ _ _ c.in-Some.is c.in_ok-picture.ensures.room) is
    (λ q at. c.next.ensures.comes c.args.pictures.now.head q held at (some_has _ _ _ c.in-Some.is c.in_ok-picture.ensures.size))
