use Rattle.std.proofs.Common.{rules, ap, arith, inr, refl}
use Rattle.std.specs.Arc.{arc_value}
use Rattle.sal_sender.proofs.Started.{start_answered, may_start}
use Rattle.sal_sender.proofs.Promised.{promised}
use Rattle.sal_sender.proofs.sender.Sender.next_picture.Goals as goal

pub returns-in-Ok-clause-answered : goal.returns-in-Ok-clause-answered
returns-in-Ok-clause-answered g c past s =
    start_answered g.C.Codec.coding c.args.self.now c.begin.new.self c.self.inside.open past (arc_value c.args.picture) c.args.moment c.in-Ok.count c.is_some.result s (ap (λ v. v.open_picture) c.self.view_is) c.is_some.ensures c.if-is_some.false (omega (arith, c.if-self-ge-MAX_FRAMES.false, ap (λ v. v.pictures) c.self.view_is)) c.in-Ok.ensures.count c.in-Ok.ensures.started

pub returns-clause-memory : goal.returns-clause-memory
returns-clause-memory g c past s = λ h.
    may_start g.C.Codec.coding c.args.self.now c.self.inside.open past c.is_some.result s (ap (λ v. v.open_picture) c.self.view_is) c.is_some.ensures c.if-is_some.false (omega (arith, c.if-self-ge-MAX_FRAMES.false, ap (λ v. v.pictures) c.self.view_is))

pub returns-in-Ok-clause-promises : goal.returns-in-Ok-clause-promises
returns-in-Ok-clause-promises g c past s = promised g.C.Codec.coding _ _ past s.legal (returns-in-Ok-clause-answered g c past s).0

pub returns-clause-promises : goal.returns-clause-promises
returns-clause-promises g c past s = promised g.C.Codec.coding _ _ past s.legal (inr refl)

pub returns-then-is_some-clause-answered : goal.returns-then-is_some-clause-answered
returns-then-is_some-clause-answered g c past s = search rules

pub returns-then-is_some-clause-promises : goal.returns-then-is_some-clause-promises
returns-then-is_some-clause-promises g c past s = promised g.C.Codec.coding _ _ past s.legal (returns-then-is_some-clause-answered g c past s).0

pub returns-then-self-ge-MAX_FRAMES-clause-answered : goal.returns-then-self-ge-MAX_FRAMES-clause-answered
returns-then-self-ge-MAX_FRAMES-clause-answered g c past s = search rules

pub returns-then-self-ge-MAX_FRAMES-clause-promises : goal.returns-then-self-ge-MAX_FRAMES-clause-promises
returns-then-self-ge-MAX_FRAMES-clause-promises g c past s = promised g.C.Codec.coding _ _ past s.legal (returns-then-self-ge-MAX_FRAMES-clause-answered g c past s).0
