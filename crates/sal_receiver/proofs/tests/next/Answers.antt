use Rattle.std.proofs.Common.{◌∷◌, sym, subst, IfSome}
use Rattle.std.specs.Option.{option_map}
use Rattle.sal_receiver.specs.Past.{TakeReady, Decoding}
use Rattle.sal_receiver.specs.Handed.{number_of, IsReadyFrame}
use Rattle.sal_receiver.proofs.Handing.{frame_handed}
use Rattle.sal_receiver.proofs.tests.next.Goals as goal

pub decoded-requires-clause-stands : goal.decoded-requires-clause-stands
decoded-requires-clause-stands g c =
    λ lifetimes bounds. (TakeReady (option_map number_of c.take_ready.result) ∷ c.requires.0, (c.take_ready.ensures.answered c.requires.0 c.requires.1).1)

pub returns-in-None : goal.returns-in-None
returns-in-None g c =
    (TakeReady (option_map number_of c.take_ready.result) ∷ c.requires.0, (c.take_ready.ensures.answered c.requires.0 c.requires.1).1)

pub returns-in-Some : goal.returns-in-Some
returns-in-Some g c =
    let handed = subst (λ o. IfSome o (IsReadyFrame g.C.Codec.coding c.requires.0)) c.in-Some.is (c.take_ready.ensures.frame c.requires.0 c.requires.1) in (
      Decoding c.run.result.handed.number c.run.result.outcome c.decoded.result ∷ (TakeReady (option_map number_of c.take_ready.result) ∷ c.requires.0),
      (c.decoded.ensures.answered (TakeReady (option_map number_of c.take_ready.result) ∷ c.requires.0) (c.take_ready.ensures.answered c.requires.0 c.requires.1).1
          (λ out. subst (λ h. IsReadyFrame g.C.Codec.coding (TakeReady (option_map number_of c.take_ready.result) ∷ c.requires.0) h) (sym c.run.ensures.handed)
          (frame_handed g.C.Codec.coding c.requires.0 (option_map number_of c.take_ready.result) c.in-Some.ready handed))).1,
    )
