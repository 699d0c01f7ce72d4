-- What a call of the sender makes of the world.
use Rattle.std.proofs.Common.{◌≡◌, ℕ, Bool, true, false, not, List, [], ◌∷◌, length, map, Option, Some, None, refl, ap, sym, ◌∙◌, subst, inl, inr}
use Rattle.std.specs.Option.{option_map}
use Rattle.std.specs.Prelude.{Result, Ok, Err, slice_set}
use Rattle.sal_base.specs.declared.picture.Picture.{Picture}
use Rattle.sal_codec.specs.Coding.{Coding}
use Rattle.sal_wire.specs.declared.datagram.Ack.{Ack}
use Rattle.sal_wire.specs.Parsing.{parsed}
use Rattle.sal_wire.specs.Layout.{ack_bytes}
use Rattle.sal_sender.specs.Machine.{Machine}
use Rattle.sal_sender.specs.declared.answers.Next.{Next as Start}
use Rattle.sal_sender.specs.declared.answers.Next.TheVariants.{Memory as StartMemory}
use Rattle.sal_sender.specs.declared.answers.Reported.{Reported}
use Rattle.sal_sender.specs.declared.answers.Reported.TheVariants.{Stranger, Late}
use Rattle.sal_sender.specs.declared.answers.HeardAck.{HeardAck}
use Rattle.sal_sender.specs.declared.answers.HeardAck.TheVariants.{Heard, Ignored}
use Rattle.sal_sender.specs.declared.answers.Ignore.{Ignore}
use Rattle.sal_sender.specs.declared.outcome.Gave.{Gave}
use Rattle.sal_sender.specs.Past.{Past, NextPicture, TakeJob, Report, Hear}
use Rattle.sal_sender.specs.OneThread.{Session}
use Rattle.sal_sender.specs.Choosing.{first_in}
use Rattle.sal_sender.specs.Candidates.{queued}
use Rattle.sal_sender.specs.Answers.{starts, next_answer, report_answer, heard_answer, waiting_jobs}
use Rattle.sal_sender.specs.Sending.{after_report}
use Rattle.sal_sender.specs.Promises.{SenderAnswers, SenderAnswered}
use Rattle.sal_sender.specs.JobWork.{JobWork, JobReport}
use Rattle.sal_sender.specs.Stands.{work_of, IsWorkOfItsJob}
use Rattle.sal_sender.specs.Stands.{SenderStands}
use Rattle.sal_world.specs.declared.event.Unsent.{Unsent}
use Rattle.sal_world.specs.World.{Starts, TakesJob, Reports, Hears, WorldPast, acks, at_number, heard_if_sent}
use Rattle.sal_world.specs.WorldParts.{WorldParts}
use Rattle.sal_world.specs.HandedOut.{next_job}
use Rattle.sal_world.specs.Answers.{is_ignored, answer_to_ack, hear_answer}
use Rattle.sal_world.specs.Stands.{IsWorld, HappenedIn, HappenedInUnless, IsSameButJobsOut}
use Rattle.sal_world.proofs.ListLemmas.{some_same}
use Rattle.sal_world.proofs.Stepping.{map_length, member_mapped, opened as opened_world, sender_called}

-- the same sender in a world
pub same_sender : {S : Type 0} (x b : WorldParts S) (m : Machine S) → x ≡ b → m ≡ x.sender → record x { sender = m } ≡ b
same_sender {S = S} x b m view same = ap (λ (v : Machine S). record x { sender = v }) same ∙ view

first_mapped : {X Y : Type 0} (f : X → Y) (xs : List X) → first_in (map f xs) ≡ option_map f (first_in xs)
first_mapped f [] = refl
first_mapped f (x ∷ xs) = refl

not_false : (b : Bool) → not b ≡ true → b ≡ false
not_false true h = absurd (cc)
not_false false h = refl

-- what is refused leaves the sender as it was
module _ {S : Type 0} where
  pub next_kept : (x b : WorldParts S) (m : Machine S) (answer : Start) → x ≡ b → (starts answer ≡ false → m ≡ x.sender) → starts answer ≡ false → record x { sender = m } ≡ b
  next_kept x b m answer view kept h = same_sender x b m view (kept h)

  pub take_kept : (x b : WorldParts S) (m : Machine S) (job : Option (JobWork S)) → x ≡ b → (job ≡ None → m ≡ x.sender) → job ≡ None → record x { sender = m } ≡ b
  take_kept x b m job view kept h = same_sender x b m view (kept h)

  pub report_kept : (x b : WorldParts S) (m : Machine S) (answer : Reported) → x ≡ b → (answer ≡ Stranger → m ≡ x.sender) → answer ≡ Stranger → record x { sender = m } ≡ b
  report_kept x b m answer view kept h = same_sender x b m view (kept h)

  -- a late report leaves all but which jobs are out
  pub report_late : (x b : WorldParts S) (m : Machine S) (r : JobReport S) (answer : Reported) → x ≡ b → m ≡ after_report x.sender r answer → answer ≡ Late → IsSameButJobsOut b (record x { sender = m })
  report_late x b m r answer view after h =
      let now : m ≡ after_report x.sender r Late = after ∙ ap (λ a. after_report x.sender r a) h in
      let out : m.outstanding ≡ slice_set x.sender.outstanding r.work.id false = ap (λ (v : Machine S). v.outstanding) now in
      let only : m ≡ record x.sender { outstanding = m.outstanding } = now ∙ ap (λ o. record x.sender { outstanding = o }) (sym out) in
      ap (λ (v : Machine S). record x { sender = v }) only ∙ ap (λ (v : WorldParts S). record v { sender = record v.sender { outstanding = m.outstanding } }) view

  pub ack_kept : (x b : WorldParts S) (m : Machine S) (answer : HeardAck) → x ≡ b → ((why : Ignore) → answer ≡ Ignored why → m ≡ x.sender) → is_ignored answer ≡ true → record x { sender = m } ≡ b
  ack_kept x b m (Heard numbers) view kept h = absurd (cc)
  ack_kept x b m (Ignored why) view kept h = same_sender x b m view (kept why refl)

-- the answers to an acknowledgement that there is, and that there isn't
abbrev ok : HeardAck → Result HeardAck Unsent
ok a = Ok a

abbrev unsent : ℕ → ℕ → Result HeardAck Unsent
unsent n l = Err (record { number = n; last = l })

module _ {S : Type 0} (codec : Coding S) (session : Session) where
  -- a picture
  pub next_happens : (x b : WorldParts S) (m : Machine S) (w : WorldPast S) (picture : Picture) (answer : Start) → x ≡ b → IsWorld codec session b w → SenderAnswered codec x.sender.session (SenderStands codec) x.sender m (NextPicture picture x.moment answer) → m.session ≡ x.sender.session → HappenedInUnless codec session StartMemory (record x { sender = m }) w (Starts picture) answer (next_answer w.sender)
  next_happens x b m w picture answer view seen answered same = go (opened_world codec session x b w view seen)
    where
      go : IsWorld codec session x w → HappenedInUnless codec session StartMemory (record x { sender = m }) w (Starts picture) answer (next_answer w.sender)
      go is =
          let both : SenderAnswers codec x.sender.session (NextPicture picture x.moment answer) w.sender × SenderStands codec m (NextPicture picture x.moment answer ∷ w.sender) = answered w.sender is.sender in
          let after : IsWorld codec session (record x { sender = m }) (record w { sender = NextPicture picture x.moment answer ∷ w.sender }) = sender_called codec session x m w (NextPicture picture x.moment answer) is both.1 same refl in
          elim both.0 [
            | inl e ↦ inr (
              e,
              subst (λ t. IsWorld codec session (record x { sender = m }) (record w { sender = NextPicture picture t (next_answer w.sender) ∷ w.sender })) is.moment_is
                  (subst (λ a. IsWorld codec session (record x { sender = m }) (record w { sender = NextPicture picture x.moment a ∷ w.sender })) e after),
            )
            | inr e ↦ inl e
          ]

  -- a picture that isn't started for want of memory
  pub next_lacks : (x b : WorldParts S) (w : WorldPast S) (answer : Start) → x ≡ b → IsWorld codec session b w → ((past : Past) → SenderStands codec x.sender past → answer ≡ StartMemory → starts (next_answer past) ≡ true) → answer ≡ StartMemory → starts (next_answer w.sender) ≡ true
  next_lacks x b w answer view seen may h = may w.sender (opened_world codec session x b w view seen).sender h

  -- a job that is handed out
  pub take_happens : (x b : WorldParts S) (m : Machine S) (w : WorldPast S) (job : Option (JobWork S)) → x ≡ b → IsWorld codec session b w → job ≡ first_in (queued x.sender.waiting) → SenderAnswered codec x.sender.session (SenderStands codec) x.sender m (TakeJob (option_map (λ (j : JobWork S). j.id) job)) → m.session ≡ x.sender.session → HappenedIn codec session (record x { sender = m }) w TakesJob job (next_job codec w.sender)
  take_happens x b m w job view seen first answered same =
      let is : IsWorld codec session x w = opened_world codec session x b w view seen in
      let id : Option ℕ = option_map (λ (j : JobWork S). j.id) job in
      let both : SenderAnswers codec x.sender.session (TakeJob id) w.sender × SenderStands codec m (TakeJob id ∷ w.sender) = answered w.sender is.sender in
      let waits : queued x.sender.waiting ≡ map (work_of codec w.sender) (waiting_jobs w.sender) = is.sender.keeps.waiting_are in (
        first ∙ (ap (λ js. first_in js) waits ∙ first_mapped (work_of codec w.sender) (waiting_jobs w.sender)),
        subst (λ a. IsWorld codec session (record x { sender = m }) (record w { sender = TakeJob a ∷ w.sender })) both.0 (sender_called codec session x m w (TakeJob id) is both.1 same refl),
      )

  -- a report
  pub report_happens : (x b : WorldParts S) (m : Machine S) (w : WorldPast S) (work : JobWork S) (gave : Gave) (answer : Reported) → x ≡ b → IsWorld codec session b w → IsWorkOfItsJob codec w.sender work → ((past : Past) → SenderStands codec x.sender past → IsWorkOfItsJob codec past work → SenderAnswers codec x.sender.session (Report work.id gave answer) past × SenderStands codec m (Report work.id gave answer ∷ past)) → m.session ≡ x.sender.session → HappenedIn codec session (record x { sender = m }) w (Reports work.id gave) answer (report_answer w.sender work.id)
  report_happens x b m w work gave answer view seen own answered same =
      let is : IsWorld codec session x w = opened_world codec session x b w view seen in
      let both : SenderAnswers codec x.sender.session (Report work.id gave answer) w.sender × SenderStands codec m (Report work.id gave answer ∷ w.sender) = answered w.sender is.sender own in (
        both.0,
        subst (λ a. IsWorld codec session (record x { sender = m }) (record w { sender = Report work.id gave a ∷ w.sender })) both.0 (sender_called codec session x m w (Report work.id gave answer) is both.1 same refl),
      )

  -- ---- acknowledgements

  pub ack_unsent : (x b : WorldParts S) (w : WorldPast S) (which n last : ℕ) → x ≡ b → IsWorld codec session b w → at_number x.acks n ≡ None → n ≡ which → last ≡ length x.acks → HappenedIn codec session b w (Hears which) (Err (record { number = which; last = last })) (hear_answer codec session w which)
  ack_unsent x b w which n last view seen none own long =
      let is : IsWorld codec session x w = opened_world codec session x b w view seen in
      let gone : at_number (acks w) which ≡ None = absent (at_number (acks w) which) (sym (member_mapped ack_bytes (acks w) which) ∙ (ap (λ ts. at_number ts which) (sym is.acks_are) ∙ (ap (λ k. at_number x.acks k) (sym own) ∙ none))) in (
        ap (λ l. unsent which l) (long ∙ (ap (λ (ts : List (List ℕ)). length ts) is.acks_are ∙ map_length ack_bytes (acks w))) ∙ sym (ap (λ o. answer_to_ack codec session w which o) gone),
        subst (λ o. IsWorld codec session b (heard_if_sent codec session w o)) (sym gone) seen,
      )
    where
      absent : (o : Option Ack) → option_map ack_bytes o ≡ None → o ≡ None
      absent None h = refl
      absent (Some a) h = absurd (cc)

  pub ack_happens : (x b : WorldParts S) (m : Machine S) (w : WorldPast S) (which n : ℕ) (bytes : List ℕ) (answer : HeardAck) → x ≡ b → IsWorld codec session b w → at_number x.acks n ≡ Some bytes → n ≡ which → SenderAnswered codec x.sender.session (SenderStands codec) x.sender m (Hear (parsed bytes) x.moment answer) → m.session ≡ x.sender.session → HappenedIn codec session (record x { sender = m }) w (Hears which) (Ok answer) (hear_answer codec session w which)
  ack_happens x b m w which n bytes answer view seen there own answered same = go (opened_world codec session x b w view seen)
    where
      heard : (is : IsWorld codec session x w) (ack : Ack) → at_number (acks w) which ≡ Some ack → ack_bytes ack ≡ bytes → HappenedIn codec session (record x { sender = m }) w (Hears which) (Ok answer) (hear_answer codec session w which)
      heard is ack found text =
          let both : SenderAnswers codec x.sender.session (Hear (parsed bytes) x.moment answer) w.sender × SenderStands codec m (Hear (parsed bytes) x.moment answer ∷ w.sender) = answered w.sender is.sender in
          let said_is : answer ≡ heard_answer codec session w.sender (parsed (ack_bytes ack)) =
          both.0 ∙ (ap (λ s. heard_answer codec s w.sender (parsed bytes)) is.session_is ∙ ap (λ bs. heard_answer codec session w.sender (parsed bs)) (sym text)) in
          let after : IsWorld codec session (record x { sender = m }) (record w { sender = Hear (parsed bytes) x.moment answer ∷ w.sender }) = sender_called codec session x m w (Hear (parsed bytes) x.moment answer) is both.1 same refl in (
            ap (λ (a : HeardAck). ok a) said_is ∙ sym (ap (λ o. answer_to_ack codec session w which o) found),
            subst (λ o. IsWorld codec session (record x { sender = m }) (heard_if_sent codec session w o)) (sym found)
                (subst (λ t. IsWorld codec session (record x { sender = m }) (record w { sender = Hear (parsed (ack_bytes ack)) t (heard_answer codec session w.sender (parsed (ack_bytes ack))) ∷ w.sender })) is.moment_is
                (subst (λ a. IsWorld codec session (record x { sender = m }) (record w { sender = Hear (parsed (ack_bytes ack)) x.moment a ∷ w.sender })) said_is
                (subst (λ bs. IsWorld codec session (record x { sender = m }) (record w { sender = Hear (parsed bs) x.moment answer ∷ w.sender })) (sym text) after))),
          )

      cases : (is : IsWorld codec session x w) (o : Option Ack) → at_number (acks w) which ≡ o → option_map ack_bytes o ≡ Some bytes → HappenedIn codec session (record x { sender = m }) w (Hears which) (Ok answer) (hear_answer codec session w which)
      cases is None found h = absurd (cc)
      cases is (Some ack) found h = heard is ack found (some_same (ack_bytes ack) bytes h)

      go : IsWorld codec session x w → HappenedIn codec session (record x { sender = m }) w (Hears which) (Ok answer) (hear_answer codec session w which)
      go is = cases is (at_number (acks w) which) refl (sym (member_mapped ack_bytes (acks w) which) ∙ (ap (λ ts. at_number ts which) (sym is.acks_are) ∙ (ap (λ k. at_number x.acks k) (sym own) ∙ there)))
