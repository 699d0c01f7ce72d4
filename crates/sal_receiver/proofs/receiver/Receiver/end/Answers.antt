use Rattle.std.proofs.Common.{ap, sym, ◌∙◌, subst, map, ◌∷◌, Ok}
use Rattle.sal_wire.specs.Message.{ByeMessage}
use Rattle.sal_receiver.specs.declared.answers.Delivered.TheVariants.{Ended}
use Rattle.sal_receiver.specs.Past.{Deliver}
use Rattle.sal_receiver.specs.Pending.{frame_unshared}
use Rattle.sal_receiver.specs.Machine.{ReceiverStands}
use Rattle.sal_receiver.specs.Answers.{session_cause}
use Rattle.sal_receiver.proofs.BookLemmas.{book}
use Rattle.sal_receiver.proofs.Standing.{refused_end, ended}
use Rattle.sal_receiver.proofs.receiver.Receiver.end.Goals as goal

pub returns-in-Some-clause-answered : goal.returns-in-Some-clause-answered
returns-in-Some-clause-answered g c = λ past s.
    refused_end g.C.Codec.coding c.args.self.now c.args.bye.session c.args.bye.last c.args.moment c.in-Some.cause past s
    (sym (ap (λ b. session_cause b.known.session c.args.bye.session) c.self.view_is) ∙ (sym c.session_cause.ensures ∙ c.in-Some.is))

pub returns-clause-answered : goal.returns-clause-answered
returns-clause-answered g c = λ past s.
    let now = subst (λ b. ReceiverStands g.C.Codec.coding b past) (sym c.self.view_is) s in
    let both = ended g.C.Codec.coding (book c.self.inside.known c.self.inside.slots c.self.inside.store (map frame_unshared c.self.inside.frames.items) c.self.inside.last) c.args.bye.session c.args.bye.last c.args.moment past now (sym c.session_cause.ensures ∙ c.in_default.is) in (
      both.0,
      subst (λ l. ReceiverStands g.C.Codec.coding (book l c.self.inside.slots c.self.inside.store (map frame_unshared c.self.inside.frames.items) c.self.inside.last) (Deliver (Ok (ByeMessage c.args.bye.session c.args.bye.last)) c.args.moment (Ended c.args.bye.last) ∷ past)) (sym c.end.ensures) both.1,
    )
