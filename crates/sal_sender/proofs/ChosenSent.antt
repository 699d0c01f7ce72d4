-- A choice that was taken.
use Rattle.std.proofs.Common.{◌≡◌, ℕ, ◌+◌, max, Bool, [], ◌∷◌, ◌++◌, length, Option, Some, None, refl, ap, sym, ◌∙◌, subst, arith, length-append, ◌⊎◌, inl}
use Rattle.std.proofs.lemmas.List.{append-nil}
use Rattle.std.specs.Arc.{arc_value}
use Rattle.std.specs.Option.{option_map}
use Rattle.std.specs.declared.sync.Arc.{Arc}
use Rattle.sal_codec.specs.Coding.{Coding}
use Rattle.sal_sender.specs.declared.open_picture.Candidate.{Candidate}
use Rattle.sal_sender.specs.declared.open_picture.OpenPicture.{OpenPicture}
use Rattle.sal_sender.specs.declared.prepared_frame.PreparedFrame.{PreparedFrame}
use Rattle.sal_sender.specs.declared.answers.Chosen.{Chosen}
use Rattle.sal_sender.specs.declared.answers.Chosen.TheVariants.{Sent, Memory}
use Rattle.sal_sender.specs.Past.{Past, Choose, pictures, datagrams, opened, now, last_job, sent}
use Rattle.sal_sender.specs.Acks.{lost}
use Rattle.sal_sender.specs.OneThread.{Session}
use Rattle.sal_sender.specs.Choosing.{may_send, lost_since, choose_opened, chosen}
use Rattle.sal_sender.specs.Selecting.{is_lost_in, needed_in, missing_from, found_in}
use Rattle.sal_sender.specs.Sending.{lost_of, budget_in, after_choice, IsPrepared}
use Rattle.sal_sender.specs.JobWork.{JobReport}
use Rattle.sal_sender.specs.Machine.{Machine}
use Rattle.sal_sender.specs.Stands.{summary, open_in, SenderStands}
use Rattle.sal_sender.proofs.Choosings.{lost_here, budget_is}
use Rattle.sal_sender.proofs.ChosenAcked.{acked_low}
use Rattle.sal_sender.proofs.ChosenKeeps.{sent_summary, keeps_sent}
use Rattle.sal_sender.proofs.ChosenSays.{IsAnswer, opened_says}
use Rattle.sal_sender.proofs.Quiet.{same_parts}
use Rattle.sal_sender.proofs.Sound.{chained_of_legal}
use Rattle.sal_sender.proofs.Started.{lost_is}

as_chosen : {S : Type 0} (codec : Coding S) (session : Session) (past : Past) (moment : ℕ) (answer : Chosen) → answer ≡ choose_opened codec session past (max (now past) moment) (opened past) → answer ≡ chosen codec session past moment
unfolding chosen
as_chosen codec session past moment answer e = e

module _ {S Z : Type 0} (codec : Coding S) where
  sent_stands : (m : Machine S) (past before : Past) (moment at : ℕ) (candidate : Candidate (JobReport S)) (t : PreparedFrame (Arc S Z)) → SenderStands codec m past → opened past ≡ Some before → m.store.floor ≡ m.floor → at ≡ max m.acks.moment moment → IsPrepared codec m candidate at t → IsAnswer codec m.session past moment at t → Sent t.choice t.burst ≡ chosen codec m.session past moment → SenderStands codec (after_choice m t.choice t.name (arc_value t.state)) (Choose moment (Sent t.choice t.burst) ∷ past)
  sent_stands m past before moment at candidate t s there store when prepared is says =
      let chained = chained_of_legal codec m.session (Choose moment (Sent t.choice t.burst) ∷ past) (inl says, s.legal) in
      let time : t.choice.moment ≡ max m.acks.moment moment = ap (λ c. c.moment) prepared.choice ∙ when in
      let k = keeps_sent codec m past before moment t.choice t.name (arc_value t.state) s there store prepared.next chained (acked_low codec m.session past s.legal) time prepared.own.name is.said.made in
      let count : length (datagrams past ++ t.burst) ≡ sent past + t.choice.count = length-append (datagrams past) t.burst ∙ ap (λ n. sent past + n) is.said.count in
      let e = same_parts (sent_summary codec past moment t.choice t.choice.count) (pictures past ++ []) (max moment (now past)) (length (datagrams past ++ t.burst)) (0 + last_job past) (append-nil (pictures past)) refl count (omega arith) in
      record { legal = (inl says, s.legal); keeps = subst (λ x. Rattle.sal_sender.specs.Stands.Keeps codec (after_choice m t.choice t.name (arc_value t.state)) x) (sym e) k }

  -- a choice is sent
  pub sent_chosen : (m new : Machine S) (past : Past) (moment at budget : ℕ) (o : OpenPicture (JobReport S)) (tip_lost b : Bool) (candidate : Candidate (JobReport S)) (t : PreparedFrame (Arc S Z)) (answer : Chosen) → SenderStands codec m past → m.store.floor ≡ m.floor → m.open_picture ≡ Some o → tip_lost ≡ lost_of m → b ≡ is_lost_in tip_lost o → None ≡ missing_from (needed_in b o) → at ≡ max m.acks.moment moment → budget ≡ budget_in m at → found_in codec b budget o ≡ Some candidate → IsPrepared codec m candidate at t → answer ≡ Sent t.choice t.burst → new ≡ after_choice m t.choice t.name (arc_value t.state) → ((answer ≡ chosen codec m.session past moment) ⊎ (answer ≡ Memory)) × SenderStands codec new (Choose moment answer ∷ past)
  sent_chosen m new past moment at budget o tip_lost b candidate t answer s store seated l e h when may first prepared answered after =
      let chained = chained_of_legal codec m.session past s.legal in
      let known : tip_lost ≡ lost past = l ∙ lost_is codec m past s.keeps chained in
      let time : at ≡ max (now past) moment = when ∙ ap (λ n. max n moment) s.keeps.moment_is in
      let least : budget ≡ may_send m.session past at = may ∙ budget_is codec m past at s.keeps chained in
      let both : (Sent t.choice t.burst ≡ chosen codec m.session past moment) × SenderStands codec (after_choice m t.choice t.name (arc_value t.state)) (Choose moment (Sent t.choice t.burst) ∷ past) = go (opened past) refl (sym seated ∙ s.keeps.open_is) known time least in
      let stands : SenderStands codec new (Choose moment (Sent t.choice t.burst) ∷ past) = subst (λ v. SenderStands codec v (Choose moment (Sent t.choice t.burst) ∷ past)) (sym after) both.1 in
      subst (λ a. ((a ≡ chosen codec m.session past moment) ⊎ (a ≡ Memory)) × SenderStands codec new (Choose moment a ∷ past)) (sym answered) (inl both.0, stands)
    where
      go : (x : Option Past) → opened past ≡ x → Some o ≡ option_map (open_in codec (summary past)) x → tip_lost ≡ lost past → at ≡ max (now past) moment → budget ≡ may_send m.session past at → (Sent t.choice t.burst ≡ chosen codec m.session past moment) × SenderStands codec (after_choice m t.choice t.name (arc_value t.state)) (Choose moment (Sent t.choice t.burst) ∷ past)
      go None q r known time least = absurd (cc)
      go (Some before) q r known time least =
          let is : o ≡ open_in codec (summary past) before = cc in
          let d : b ≡ lost_since before past = e ∙ (ap (λ z. is_lost_in z o) known ∙ (ap (is_lost_in (lost past)) is ∙ lost_here codec (summary past) before past)) in
          let says : IsAnswer codec m.session past moment at t = opened_says codec m past before moment at budget o b candidate t s q is d h time least first prepared in
          let is_chosen : Sent t.choice t.burst ≡ chosen codec m.session past moment = as_chosen codec m.session past moment (Sent t.choice t.burst) says.answer in
          (is_chosen, sent_stands m past before moment at candidate t s q store when prepared says is_chosen)
