-- What holds of every list of calls of a sender, whatever came in whatever order.
use Rattle.std.specs.Prelude.{◌≡◌, ◌⊎◌, ℕ, max, ◌≤◌, Bool, true, false, [], ◌∷◌, length, map, Some, IsSome}
use Rattle.sal_base.specs.Lists.{Each}
use Rattle.sal_codec.specs.Coding.{Coding}
use Rattle.sal_wire.specs.Layout.{fragment_bytes}
use Rattle.sal_sender.specs.declared.answers.Next.TheVariants.{Memory as NextMemory}
use Rattle.sal_sender.specs.declared.answers.Chosen.{Chosen}
use Rattle.sal_sender.specs.declared.answers.Chosen.TheVariants.{NoPicture, Waiting, Sent, Nothing, Memory as ChosenMemory}
use Rattle.sal_sender.specs.Past.{SenderCall, Past, NextPicture, TakeJob, Report, Choose, Hear, choices, pictures, datagrams, opened, now}
use Rattle.sal_sender.specs.OneThread.{Session, one_thread}
use Rattle.sal_sender.specs.Jobs.{Job, jobs}
use Rattle.sal_sender.specs.Choosing.{candidate_fits, lost_since, needed, reported, candidates, may_send, chosen}
use Rattle.sal_sender.specs.Answers.{next_answer, take_answer, report_answer, heard_answer}
use Rattle.sal_sender.specs.Sound.{IsSound}

-- sent is what one thread sends that makes these choices
abbrev pub IsWhatOneThreadSends : {S : Type 0} → Coding S → Session → Past → Type 0
IsWhatOneThreadSends codec session past = datagrams past ≡ map fragment_bytes (one_thread codec session (pictures past) (choices past))

-- nothing was chosen for the open picture, or there was no memory
abbrev pub is_nothing : Chosen → Bool
is_nothing NoPicture = false
is_nothing (Waiting id) = false
is_nothing (Sent choice burst) = false
is_nothing (Nothing budget sizes) = true
is_nothing ChosenMemory = true

module _ {S : Type 0} (codec : Coding S) (session : Session) where
  -- a call may be answered so after a past
  abbrev pub SenderAnswers : SenderCall → Past → Type 0
  SenderAnswers (NextPicture picture moment answer) past = (answer ≡ next_answer past) ⊎ (answer ≡ NextMemory)
  SenderAnswers (TakeJob answer) past = answer ≡ take_answer past
  SenderAnswers (Report job gave answer) past = answer ≡ report_answer past job
  SenderAnswers (Choose moment answer) past = (answer ≡ chosen codec session past moment) ⊎ (answer ≡ ChosenMemory)
  SenderAnswers (Hear came moment answer) past = answer ≡ heard_answer codec session past came

  -- each call was answered so after the calls before it
  abbrev pub IsLegalSender : Past → Type 0
  IsLegalSender [] = Unit {0}
  IsLegalSender (call ∷ past) = SenderAnswers call past × IsLegalSender past

  -- no eligible report fits, though the needed one is in
  pub record NothingFits (past : Past) (moment : ℕ) : Type 0 where
    pub before : Past
    pub opened_there : opened past ≡ Some before
    pub job : Job
    pub wanted : needed (lost_since before past) (jobs before) ≡ Some job
    pub in_already : IsSome (reported past job.id)
    pub none : Each (λ c. candidate_fits (may_send session past moment) c ≡ false) (candidates codec before past)

  -- a choice has as many datagrams as it says, and at most what may be sent at its moment, which is that of the call; nothing is
  -- chosen only where nothing fits
  abbrev pub IsWithin : Past → ℕ → Chosen → Type 0
  IsWithin past moment (Sent choice burst) = (choice.moment ≡ max (now past) moment) × (choice.count ≤ may_send session past choice.moment) × (length burst ≡ choice.count)
  IsWithin past moment (Nothing budget sizes) = NothingFits past (max (now past) moment)
  IsWithin past moment _ = Unit {0}

  -- a choice fits, and nothing is chosen exactly where nothing fits, but for want of memory
  abbrev pub ChoiceFits : SenderCall → Past → Type 0
  ChoiceFits (Choose moment answer) past = IsWithin past moment answer × (NothingFits past (max (now past) moment) → is_nothing answer ≡ true)
  ChoiceFits _ past = Unit {0}

  abbrev pub FitsItsBudget : Past → Type 0
  FitsItsBudget [] = Unit {0}
  FitsItsBudget (call ∷ past) = ChoiceFits call past × FitsItsBudget past

  -- what holds of every list of calls, whatever the names of states are
  pub record SenderPromises (past : Past) : Type 0 where
    pub sent : IsWhatOneThreadSends codec session past
    pub budget : FitsItsBudget past
    pub sound : IsSound past

  -- a machine that stood for a past answered the call as it may after it, and stands for the past with the call
  abbrev pub SenderAnswered : {M : Type 0} → (M → Past → Type 0) → M → M → SenderCall → Type 0
  SenderAnswered stands old new call = (past : Past) → stands old past → SenderAnswers call past × stands new (call ∷ past)
