-- What a world keeps: both machines, and all that went from one to the other.
use Rattle.std.specs.Prelude.{ℕ, List}
use Rattle.sal_sender.specs.Machine.{Machine}
use Rattle.sal_receiver.specs.Machine.{ReceiverState}

pub record WorldParts (S : Type 0) : Type 0 where
  pub sender : Machine S
  pub receiver : ReceiverState S
  -- all datagrams and all acknowledgements, the oldest first
  pub sent : List (List ℕ)
  pub acks : List (List ℕ)
  pub moment : ℕ
