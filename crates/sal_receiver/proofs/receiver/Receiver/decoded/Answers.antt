use Rattle.std.proofs.Common.{◌≡◌, ◌≤◌, ap, sym, ◌∙◌, subst, refl, arith}
use Rattle.sal_receiver.specs.Pending.{wanting}
use Rattle.sal_receiver.specs.Outcome.{outcome_unshared, IsShared}
use Rattle.sal_receiver.proofs.Deciding.{found_out}
use Rattle.sal_receiver.proofs.DecodedIs.{stranger_is, out_is_true, given_back_is, faulty_is, judge_is}
use Rattle.sal_receiver.proofs.Room.{out_new, few_want}
use Rattle.sal_receiver.specs.Past.{shown}
use Rattle.sal_receiver.specs.Promises.{ShowsAbove}
use Rattle.sal_receiver.proofs.Rising.{judged_above}
use Rattle.sal_receiver.proofs.receiver.Receiver.decoded.Goals as goal

pub returns-then-not-is_out-clause-answered : goal.returns-then-not-is_out-clause-answered
returns-then-not-is_out-clause-answered g c = λ past s own.
    stranger_is g.C.Codec.coding c.args.self.now past c.args.decoding.handed.number c.number-number.result c.args.decoding.outcome c.is_out.result s
    (c.number-number.ensures ∙ ap (λ h. h.number) c.into_parts-ready.ensures.handed)
    (found_out g.C.Codec.coding c.args.self.now c.self.inside.known c.self.inside.slots c.self.inside.store c.self.inside.frames.items c.as_slice.result.now c.self.inside.last c.number-number.result c.is_out.result past c.self.view_is s c.as_slice.ensures.value c.is_out.ensures)
    c.if-not-is_out.true

pub judge-requires-clause-fresh : goal.judge-requires-clause-fresh
judge-requires-clause-fresh g c = λ κs lives low.
    out_new g.C.Codec.coding c.args.self.now c.requires.stands.0 c.number-number.result c.requires.stands.1
    (out_is_true g.C.Codec.coding c.requires.stands.0 c.number-number.result c.number-number.result c.is_out.result refl
    (found_out g.C.Codec.coding c.args.self.now c.self.inside.known c.self.inside.slots c.self.inside.store c.self.inside.frames.items c.as_slice.result.now c.self.inside.last c.number-number.result c.is_out.result c.requires.stands.0 c.self.view_is c.requires.stands.1 c.as_slice.ensures.value c.is_out.ensures)
    c.if-not-is_out.false)

pub judge-requires-clause-enough : goal.judge-requires-clause-enough
judge-requires-clause-enough g c = λ κs lives low.
    let few : wanting c.name_of.result.0 c.args.self.now.frames ≤ 15 =
    few_want g.C.Codec.coding c.args.self.now c.requires.stands.0 c.number-number.result c.name_of.result.0 c.requires.stands.1
    (out_is_true g.C.Codec.coding c.requires.stands.0 c.number-number.result c.number-number.result c.is_out.result refl
    (found_out g.C.Codec.coding c.args.self.now c.self.inside.known c.self.inside.slots c.self.inside.store c.self.inside.frames.items c.as_slice.result.now c.self.inside.last c.number-number.result c.is_out.result c.requires.stands.0 c.self.view_is c.requires.stands.1 c.as_slice.ensures.value c.is_out.ensures)
    c.if-not-is_out.false)
    low in
    let all : c.in-Frame.shares.others ≡ 15 = (subst (λ o. IsShared g.C.Codec.coding o) c.in-Frame.is c.into_parts-ready.ensures.shared).0 in
    omega (arith, few, all)

pub returns-in-NoMemory-clause-answered : goal.returns-in-NoMemory-clause-answered
returns-in-NoMemory-clause-answered g c = λ past s own.
    let out = out_is_true g.C.Codec.coding past c.args.decoding.handed.number c.number-number.result c.is_out.result (c.number-number.ensures ∙ ap (λ h. h.number) c.into_parts-ready.ensures.handed)
    (found_out g.C.Codec.coding c.args.self.now c.self.inside.known c.self.inside.slots c.self.inside.store c.self.inside.frames.items c.as_slice.result.now c.self.inside.last c.number-number.result c.is_out.result past c.self.view_is s c.as_slice.ensures.value c.is_out.ensures)
    c.if-not-is_out.false in
    given_back_is g.C.Codec.coding c.args.self.now c.give_back.new.self past c.args.decoding.handed c.into_parts-ready.result.0 c.args.decoding.outcome c.give_back.result s out (own out) c.into_parts-ready.ensures.run
    (sym c.into_parts-ready.ensures.outcome ∙ ap (λ o. outcome_unshared o) c.in-NoMemory.is) c.into_parts-ready.ensures.handed c.give_back.ensures.answer c.give_back.ensures.kept

pub returns-in-Fault-clause-answered : goal.returns-in-Fault-clause-answered
returns-in-Fault-clause-answered g c = λ past s own.
    let out = out_is_true g.C.Codec.coding past c.args.decoding.handed.number c.number-number.result c.is_out.result (c.number-number.ensures ∙ ap (λ h. h.number) c.into_parts-ready.ensures.handed)
    (found_out g.C.Codec.coding c.args.self.now c.self.inside.known c.self.inside.slots c.self.inside.store c.self.inside.frames.items c.as_slice.result.now c.self.inside.last c.number-number.result c.is_out.result past c.self.view_is s c.as_slice.ensures.value c.is_out.ensures)
    c.if-not-is_out.false in
    faulty_is g.C.Codec.coding c.args.self.now c.decide.new.self past c.args.decoding.handed c.number-number.result c.in-Fault.fault c.args.decoding.outcome c.decide.result s out (own out) c.into_parts-ready.ensures.run
    (sym c.into_parts-ready.ensures.outcome ∙ ap (λ o. outcome_unshared o) c.in-Fault.is) (c.number-number.ensures ∙ ap (λ h. h.number) c.into_parts-ready.ensures.handed) c.decide.ensures.answer c.decide.ensures.kept

pub returns-in-Frame-clause-answered : goal.returns-in-Frame-clause-answered
returns-in-Frame-clause-answered g c = λ past s own.
    let out = out_is_true g.C.Codec.coding past c.args.decoding.handed.number c.number-number.result c.is_out.result (c.number-number.ensures ∙ ap (λ h. h.number) c.into_parts-ready.ensures.handed)
    (found_out g.C.Codec.coding c.args.self.now c.self.inside.known c.self.inside.slots c.self.inside.store c.self.inside.frames.items c.as_slice.result.now c.self.inside.last c.number-number.result c.is_out.result past c.self.view_is s c.as_slice.ensures.value c.is_out.ensures)
    c.if-not-is_out.false in
    judge_is g.C.Codec.coding c.args.self.now c.judge.new.self past c.args.decoding.handed c.number-number.result c.target.result c.name_of.result c.in-Frame.digest c.in-Frame.shares.state c.in-Frame.picture c.args.decoding.outcome c.judge.result s out (own out) c.into_parts-ready.ensures.run
    (sym c.into_parts-ready.ensures.outcome ∙ ap (λ o. outcome_unshared o) c.in-Frame.is) (c.number-number.ensures ∙ ap (λ h. h.number) c.into_parts-ready.ensures.handed) (c.target.ensures ∙ ap (λ h. h.target) c.into_parts-ready.ensures.handed) c.name_of.ensures
    (subst (λ o. IsShared g.C.Codec.coding o) c.in-Frame.is c.into_parts-ready.ensures.shared).1 c.judge.ensures.answer c.judge.ensures.kept

pub returns-in-NoMemory-clause-rises : goal.returns-in-NoMemory-clause-rises
returns-in-NoMemory-clause-rises g c = λ past s. subst (λ d. ShowsAbove (shown past) d) (sym c.give_back.ensures.answer) tt

pub returns-in-Fault-clause-rises : goal.returns-in-Fault-clause-rises
returns-in-Fault-clause-rises g c = λ past s. subst (λ d. ShowsAbove (shown past) d) (sym c.decide.ensures.answer) tt

pub returns-in-Frame-clause-rises : goal.returns-in-Frame-clause-rises
returns-in-Frame-clause-rises g c = λ past s.
    judged_above g.C.Codec.coding c.args.self.now past c.number-number.result c.target.result c.name_of.result c.in-Frame.picture c.judge.result s c.judge.ensures.answer
