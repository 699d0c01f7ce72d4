-- Pictures, jobs, reports and choices keep the invariant.
use Rattle.std.proofs.Common.{ℕ, List, [], ◌∷◌, ◌++◌, sym, subst, append-nil}
use Rattle.sal_base.specs.Lists.{Each}
use Rattle.sal_base.specs.declared.picture.Picture.{Picture}
use Rattle.sal_codec.specs.Coding.{Coding}
use Rattle.sal_sender.specs.declared.answers.Next.{Next as NextAnswer}
use Rattle.sal_sender.specs.declared.answers.Next.TheVariants.{Started, NotChosen, Full, Memory as NextMemory}
use Rattle.sal_sender.specs.declared.answers.Chosen.{Chosen}
use Rattle.sal_sender.specs.declared.answers.Chosen.TheVariants.{NoPicture, Waiting, Sent, Nothing, Memory}
use Rattle.sal_sender.specs.declared.outcome.Gave.{Gave}
use Rattle.sal_sender.specs.Past.{SenderCall, NextPicture, TakeJob, Report, Choose, choices, pictures, picture_in}
use Rattle.sal_sender.specs.OneThread.{Session}
use Rattle.sal_sender.specs.Choosing.{chosen}
use Rattle.sal_sender.specs.Answers.{next_answer, take_answer, report_answer}
use Rattle.sal_sender.specs.Promises.{IsLegalSender}
use Rattle.sal_sender.proofs.Thread.{thread_of_legal}
use Rattle.sal_sender.proofs.Sound.{chained_of_legal, sound}
use Rattle.sal_world.specs.World.{WorldPast, Starts, TakesJob, Reports, Chooses, happens}
use Rattle.sal_world.specs.Promises.{HasSize}
use Rattle.sal_world.specs.Invariant.{Invariant}
use Rattle.sal_world.proofs.ListLemmas.{each_append}
use Rattle.sal_world.proofs.Legal.{IsLegalWorld, happened}
use Rattle.sal_world.proofs.Growing.{Extends, extends_pictures, extends_choice, grown}

module _ {S : Type 0} (codec : Coding S) (session : Session) where
  -- a call that starts a picture at most
  pub starts : (w : WorldPast S) (more : List Picture) → IsLegalSender codec session w.sender → Extends codec session (pictures w.sender) (choices w.sender) (pictures w.sender ++ more) (choices w.sender)
  starts w more legal = extends_pictures codec session (pictures w.sender) more (choices w.sender) (thread_of_legal codec session w.sender legal).shot

  pub same_sizes : (w : WorldPast S) → Invariant codec session w → Each (HasSize session) (pictures w.sender ++ [])
  same_sizes w inv = each_append (HasSize session) (pictures w.sender) [] inv.sender.sizes tt

  picture_sizes : (picture : Picture) (moment : ℕ) (answer : NextAnswer) → HasSize session picture → Each (HasSize session) (picture_in (NextPicture picture moment answer))
  picture_sizes picture moment (Started jobs) size = (size, tt)
  picture_sizes picture moment (NotChosen n) size = tt
  picture_sizes picture moment Full size = tt
  picture_sizes picture moment NextMemory size = tt

  pub next_kept : (w : WorldPast S) (picture : Picture) → IsLegalWorld codec session w → HasSize session picture → Invariant codec session w → Invariant codec session (happens codec session w (Starts picture))
  next_kept w picture legal size inv =
      let call : SenderCall = NextPicture picture w.moment (next_answer w.sender) in
      let later : IsLegalWorld codec session (happens codec session w (Starts picture)) = happened codec session w (Starts picture) legal in
      grown codec session w (call ∷ w.sender) (starts w (picture_in call) legal.sender) (sound codec session (call ∷ w.sender) later.sender)
      (each_append (HasSize session) (pictures w.sender) (picture_in call) inv.sender.sizes (picture_sizes picture w.moment (next_answer w.sender) size)) (tt, inv.acks.heard) inv.acks.acked inv

  pub take_kept : (w : WorldPast S) → IsLegalWorld codec session w → Invariant codec session w → Invariant codec session (happens codec session w TakesJob)
  take_kept w legal inv =
      let call : SenderCall = TakeJob (take_answer w.sender) in
      let later : IsLegalWorld codec session (happens codec session w TakesJob) = happened codec session w TakesJob legal in
      grown codec session w (call ∷ w.sender) (starts w [] legal.sender) (sound codec session (call ∷ w.sender) later.sender) (same_sizes w inv) (tt, inv.acks.heard) inv.acks.acked inv

  pub report_kept : (w : WorldPast S) (job : ℕ) (gave : Gave) → IsLegalWorld codec session w → Invariant codec session w → Invariant codec session (happens codec session w (Reports job gave))
  report_kept w job gave legal inv =
      let call : SenderCall = Report job gave (report_answer w.sender job) in
      let later : IsLegalWorld codec session (happens codec session w (Reports job gave)) = happened codec session w (Reports job gave) legal in
      grown codec session w (call ∷ w.sender) (starts w [] legal.sender) (sound codec session (call ∷ w.sender) later.sender) (same_sizes w inv) (tt, inv.acks.heard) inv.acks.acked inv

  -- a choice, by its answer
  chose : (w : WorldPast S) (moment : ℕ) (answer : Chosen) → IsLegalSender codec session (Choose moment answer ∷ w.sender) → Extends codec session (pictures w.sender) (choices w.sender) (pictures w.sender ++ []) (choices (Choose moment answer ∷ w.sender))
  chose w moment NoPicture legal = starts w [] legal.1
  chose w moment (Waiting id) legal = starts w [] legal.1
  chose w moment (Nothing budget sizes) legal = starts w [] legal.1
  chose w moment Memory legal = starts w [] legal.1
  chose w moment (Sent choice burst) legal =
      subst (λ shot. Extends codec session (pictures w.sender) (choices w.sender) shot (choice ∷ choices w.sender)) (sym (append-nil (pictures w.sender)))
      (extends_choice codec session (pictures w.sender) choice (choices w.sender) (chained_of_legal codec session (Choose moment (Sent choice burst) ∷ w.sender) legal))

  pub choose_kept : (w : WorldPast S) → IsLegalWorld codec session w → Invariant codec session w → Invariant codec session (happens codec session w Chooses)
  choose_kept w legal inv =
      let answer : Chosen = chosen codec session w.sender w.moment in
      let call : SenderCall = Choose w.moment answer in
      let later : IsLegalWorld codec session (happens codec session w Chooses) = happened codec session w Chooses legal in
      grown codec session w (call ∷ w.sender) (chose w w.moment answer later.sender) (sound codec session (call ∷ w.sender) later.sender) (same_sizes_of answer) (tt, inv.acks.heard) inv.acks.acked inv
    where
      same_sizes_of : (answer : Chosen) → Each (HasSize session) (pictures (Choose w.moment answer ∷ w.sender))
      same_sizes_of answer = each_append (HasSize session) (pictures w.sender) [] inv.sender.sizes tt
