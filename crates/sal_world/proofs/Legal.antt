-- In every world both machines were answered by their rules.
use Rattle.std.proofs.Common.{ℕ, List, [], ◌∷◌, Option, Some, None, refl, inl}
use Rattle.sal_codec.specs.Coding.{Coding}
use Rattle.sal_wire.specs.declared.datagram.Ack.{Ack}
use Rattle.sal_sender.specs.OneThread.{Session}
use Rattle.sal_sender.specs.Promises.{IsLegalSender, IsWhatOneThreadSends, FitsItsBudget}
use Rattle.sal_sender.proofs.Thread.{thread}
use Rattle.sal_sender.proofs.Budgets.{budget_of_legal}
use Rattle.sal_receiver.specs.Promises.{IsLegalReceiver, ReadyIsServed, AreFit}
use Rattle.sal_receiver.proofs.Served.{served}
use Rattle.sal_world.specs.World.{WorldEvent, Starts, TakesJob, Reports, Chooses, Delivers, Hears, TakesReady, Decodes, Passes, WorldPast, after, happens, delivered_if_sent, heard_if_sent, at_number, sent, acks}

module _ {S : Type 0} (codec : Coding S) (session : Session) where
  pub record IsLegalWorld (w : WorldPast S) : Type 0 where
    pub sender : IsLegalSender codec session w.sender
    pub receiver : IsLegalReceiver codec w.receiver

  pub came_down : (w : WorldPast S) (o : Option (List ℕ)) → IsLegalWorld w → IsLegalWorld (delivered_if_sent codec w o)
  came_down w None is = is
  came_down w (Some bytes) is = record { sender = is.sender; receiver = (inl refl, is.receiver) }

  pub came_up : (w : WorldPast S) (o : Option Ack) → IsLegalWorld w → IsLegalWorld (heard_if_sent codec session w o)
  came_up w None is = is
  came_up w (Some ack) is = record { sender = (refl, is.sender); receiver = is.receiver }

  pub happened : (w : WorldPast S) (event : WorldEvent) → IsLegalWorld w → IsLegalWorld (happens codec session w event)
  happened w (Starts picture) is = record { sender = (inl refl, is.sender); receiver = is.receiver }
  happened w TakesJob is = record { sender = (refl, is.sender); receiver = is.receiver }
  happened w (Reports job gave) is = record { sender = (refl, is.sender); receiver = is.receiver }
  happened w Chooses is = record { sender = (inl refl, is.sender); receiver = is.receiver }
  happened w (Delivers which) is = came_down w (at_number (sent w) which) is
  happened w (Hears which) is = came_up w (at_number (acks w) which) is
  happened w TakesReady is = record { sender = is.sender; receiver = (refl, is.receiver) }
  happened w (Decodes n ran) is = record { sender = is.sender; receiver = ((refl, λ out. (ran, refl)), is.receiver) }
  happened w (Passes moment) is = record { sender = is.sender; receiver = is.receiver }

  pub legal : (events : List WorldEvent) → IsLegalWorld (after codec session events)
  unfolding after
  legal [] = record { sender = tt; receiver = tt }
  legal (event ∷ before) = happened (after codec session before) event (legal before)

  pub one_thread_in : (events : List WorldEvent) → IsWhatOneThreadSends codec session (after codec session events).sender
  one_thread_in events = thread codec session (after codec session events).sender (legal events).sender

  pub budget_in : (events : List WorldEvent) → FitsItsBudget codec session (after codec session events).sender
  budget_in events = budget_of_legal codec session (after codec session events).sender (legal events).sender

  pub served_in : (events : List WorldEvent) → AreFit (after codec session events).receiver → ReadyIsServed codec (after codec session events).receiver
  served_in events fit = served codec (after codec session events).receiver (legal events).receiver fit
