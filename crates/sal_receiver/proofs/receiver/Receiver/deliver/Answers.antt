use Rattle.std.proofs.Common.{ap, sym, ◌∙◌, subst, refl, ◌∷◌}
use Rattle.sal_wire.specs.Message.{as_message, AckMessage}
use Rattle.sal_receiver.specs.declared.answers.Delivered.TheVariants.{Refused}
use Rattle.sal_receiver.specs.declared.answers.Refuse.TheVariants.{Wire, Kind}
use Rattle.sal_receiver.specs.Past.{Deliver}
use Rattle.sal_receiver.specs.Promises.{ReceiverAnswers}
use Rattle.sal_receiver.specs.Machine.{ReceiverStands}
use Rattle.sal_receiver.proofs.Standing.{refused}
use Rattle.sal_receiver.proofs.receiver.Receiver.deliver.Goals as goal

pub returns-in-Err-clause-answered : goal.returns-in-Err-clause-answered
returns-in-Err-clause-answered g c = λ past s.
    subst (λ came. ReceiverAnswers g.C.Codec.coding (Deliver came c.args.moment (Refused (Wire c.in-Err.fault))) past × ReceiverStands g.C.Codec.coding c.args.self.now (Deliver came c.args.moment (Refused (Wire c.in-Err.fault)) ∷ past))
    (sym (ap as_message c.in-Err.is) ∙ c.read.ensures.first)
    (refused g.C.Codec.coding c.args.self.now _ c.args.moment (Wire c.in-Err.fault) past s refl)

pub returns-in-Ok-Ack-clause-answered : goal.returns-in-Ok-Ack-clause-answered
returns-in-Ok-Ack-clause-answered g c = λ past s.
    subst (λ came. ReceiverAnswers g.C.Codec.coding (Deliver came c.args.moment (Refused Kind)) past × ReceiverStands g.C.Codec.coding c.args.self.now (Deliver came c.args.moment (Refused Kind) ∷ past))
    (sym (ap (λ d. as_message (Rattle.std.proofs.Common.Ok d)) c.in-Ok-Ack.field-0-is) ∙ (sym (ap as_message c.in-Ok-Ack.is) ∙ c.read.ensures.first))
    (refused g.C.Codec.coding c.args.self.now (Rattle.std.proofs.Common.Ok (AckMessage c.in-Ok-Ack.field-0-0)) c.args.moment Kind past s refl)
