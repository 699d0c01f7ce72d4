use Rattle.std.proofs.Common.{ap, ◌∙◌, refl}
use Rattle.sal_sender.specs.Sending.{pause_in, with_choice}
use Rattle.sal_sender.proofs.Sent.{not_frame, ready, prepared}
use Rattle.sal_sender.proofs.sender.Sender.prepare.Goals as goal

pub unreachable-requires-in_default-outcome : goal.unreachable-requires-in_default-outcome
unreachable-requires-in_default-outcome g c = not_frame g.C.Codec.coding c.args.candidate.now c.in-Some.report c.named_outcome.result.1.now c.in-Some.is c.requires.fits c.named_outcome.ensures.encoding c.named_outcome.ensures.gave c.in_default-outcome.not-Frame

pub packetize-requires : goal.packetize-requires
packetize-requires g c =
    (ready g.C.Codec.coding _ c.args.self.now c.args.candidate.now c.in-Some.report c.named_outcome.result.1.now c.in-Frame.bytes c.in-Frame.state c.in-Frame.field-2 c.count.result c.args.at (record { session = c.self.inside.session; head = c.self.inside.head; choice = c.choice-choice.result; source = c.source_name-source.result; target = c.named_outcome.result.0; pause = c.pause.result; bytes = c.as_slice-2.result }) c.keeps_the_law.ensures c.source_name-source.ensures.may c.self.invariant.0 c.self.view_is c.requires.candidate c.requires.started c.requires.fits c.in-Some.is c.named_outcome.ensures.encoding c.named_outcome.ensures.gave c.in-Frame.is c.count.ensures c.choice-choice.ensures (ap (λ v. v.session.head) c.self.view_is) c.as_slice-2.ensures c.has_sixteen_bytes.ensures c.source_name-source.ensures.named c.has_sixteen_bytes-2.ensures c.named_outcome.ensures.named).cuts

pub returns : goal.returns
returns g c =
    prepared g.C.Codec.coding c.args.self.now c.args.candidate.now c.in-Some.report c.in-Frame.bytes c.in-Frame.state c.in-Frame.field-2 c.args.at (record { session = c.self.inside.session; head = c.self.inside.head; choice = c.choice-choice.result; source = c.source_name-source.result; target = c.named_outcome.result.0; pause = c.pause.result; bytes = c.as_slice-2.result }) _
    (ready g.C.Codec.coding _ c.args.self.now c.args.candidate.now c.in-Some.report c.named_outcome.result.1.now c.in-Frame.bytes c.in-Frame.state c.in-Frame.field-2 c.count.result c.args.at (record { session = c.self.inside.session; head = c.self.inside.head; choice = c.choice-choice.result; source = c.source_name-source.result; target = c.named_outcome.result.0; pause = c.pause.result; bytes = c.as_slice-2.result }) c.keeps_the_law.ensures c.source_name-source.ensures.may c.self.invariant.0 c.self.view_is c.requires.candidate c.requires.started c.requires.fits c.in-Some.is c.named_outcome.ensures.encoding c.named_outcome.ensures.gave c.in-Frame.is c.count.ensures c.choice-choice.ensures (ap (λ v. v.session.head) c.self.view_is) c.as_slice-2.ensures c.has_sixteen_bytes.ensures c.source_name-source.ensures.named c.has_sixteen_bytes-2.ensures c.named_outcome.ensures.named)
    c.in-Some.is c.as_slice-2.ensures (ap (λ v. v.session.number) c.self.view_is) (ap (λ v. v.session.head) c.self.view_is) (c.pause.ensures ∙ ap (λ ls. pause_in ls c.args.at) (c.as_slice.ensures.value ∙ ap (λ v. v.sent_frames) c.self.view_is)) refl refl c.in_ok-try_clone.ensures
    (c.in_ok-with_choice.ensures ∙ ap (λ ls. with_choice ls c.choice-choice.result) (c.as_slice-3.ensures.value ∙ ap (λ v. v.sent_frames) c.self.view_is)) c.in_ok-packetize.ensures
