-- The promises of every list of calls, one call further.
use Rattle.std.proofs.Common.{◌∷◌}
use Rattle.sal_codec.specs.Coding.{Coding}
use Rattle.sal_sender.specs.Past.{SenderCall, Past}
use Rattle.sal_sender.specs.OneThread.{Session}
use Rattle.sal_sender.specs.Promises.{SenderAnswers, IsLegalSender, SenderPromises}
use Rattle.sal_sender.proofs.Thread.{thread}
use Rattle.sal_sender.proofs.Budgets.{budget_of_legal}
use Rattle.sal_sender.proofs.Sound.{sound}

module _ {S : Type 0} (codec : Coding S) (session : Session) where
  pub promises : (past : Past) → IsLegalSender codec session past → SenderPromises codec session past
  promises past legal = record {
    sent = thread codec session past legal;
    budget = budget_of_legal codec session past legal;
    sound = sound codec session past legal;
  }

  -- a call that is answered as it may be
  pub promised : (call : SenderCall) (past : Past) → IsLegalSender codec session past → SenderAnswers codec session call past → SenderPromises codec session (call ∷ past)
  promised call past legal answers = promises (call ∷ past) (answers, legal)
