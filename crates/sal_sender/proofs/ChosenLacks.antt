-- Memory lacks only where a frame is to be sent.
use Rattle.std.proofs.Common.{◌≡◌, ℕ, ◌+◌, max, Bool, true, Option, Some, None, List, refl, ap, sym, ◌∙◌, subst, eqb}
use Rattle.std.specs.List.{find}
use Rattle.std.specs.Option.{option_map}
use Rattle.sal_codec.specs.Coding.{Coding}
use Rattle.sal_sender.specs.declared.open_picture.Candidate.{Candidate}
use Rattle.sal_sender.specs.declared.open_picture.OpenPicture.{OpenPicture}
use Rattle.sal_sender.specs.Past.{Past, opened, now, tip, last_job, quantiser}
use Rattle.sal_sender.specs.OneThread.{Session}
use Rattle.sal_sender.specs.Acks.{safe, lost}
use Rattle.sal_sender.specs.Jobs.{Job, jobs, base, needs_spare, coarse_job, spare_job, fine_job}
use Rattle.sal_sender.specs.Choosing.{SizedJob, choice_of, datagram_count, candidate_fits, may_send, candidates, lost_since, needed, choose_among, choose_found, choose_needed, choose_opened, sent_with, chosen}
use Rattle.sal_sender.specs.Answers.{sends}
use Rattle.sal_sender.specs.Selecting.{is_lost_in, needed_in, missing_from, found_in}
use Rattle.sal_sender.specs.Sending.{lost_of, budget_in}
use Rattle.sal_sender.specs.JobWork.{JobReport}
use Rattle.sal_sender.specs.Machine.{Machine}
use Rattle.sal_sender.specs.Stands.{summary, open_in, SenderStands}
use Rattle.sal_sender.proofs.Choosings.{size_by, cands_of, spared_then, lost_here, budget_is}
use Rattle.sal_sender.proofs.ChosenFound.{IsFound, found_planned, among_planned}
use Rattle.sal_sender.proofs.Sound.{chained_of_legal}
use Rattle.sal_sender.proofs.Started.{lost_is}

module _ {S : Type 0} (codec : Coding S) where
  among_sends : (session : Session) (past : Past) (at budget : ℕ) (all : List SizedJob) (found : SizedJob) → budget ≡ may_send session past at → find (candidate_fits budget) all ≡ Some found → sent_with codec session past (choice_of past at found.0 (datagram_count found.1)) ≡ choose_among codec session past at (may_send session past at) all
  among_sends session past at budget all found e h =
      let there : find (candidate_fits (may_send session past at)) all ≡ Some found = subst (λ n. find (candidate_fits n) all ≡ Some found) e h in
      sym (ap (choose_found codec session past at (may_send session past at) all) there)

  opened_sends : (m : Machine S) (past before : Past) (at budget : ℕ) (o : OpenPicture (JobReport S)) (b : Bool) (candidate : Candidate (JobReport S)) → o ≡ open_in codec (summary past) before → b ≡ lost_since before past → None ≡ missing_from (needed_in b o) → budget ≡ may_send m.session past at → found_in codec b budget o ≡ Some candidate → sends (choose_opened codec m.session past at (Some before)) ≡ true
  opened_sends m past before at budget o b candidate is d h least first =
      let spared : Bool = needs_spare (base before) (safe before) (tip before) in
      let first_id : ℕ = last_job before + 1 in
      let c : Job = coarse_job first_id (base before) (quantiser before) in
      let p : Job = spare_job (first_id + 1) (safe before) (quantiser before) in
      let fine : ℕ → Job = (λ n. fine_job n (base before) (quantiser before)) in
      let tipped : Bool = eqb (base before) (tip before) in
      let f : IsFound codec past candidate (find (candidate_fits budget) (cands_of codec past b (jobs before))) = found_planned codec past b spared tipped c p fine (first_id + 2) (first_id + 1) budget candidate refl refl refl refl refl refl (λ k. refl) (λ k. refl) (λ k. refl) (subst (λ y. found_in codec b budget y ≡ Some candidate) is first) in
      let sized : SizedJob = (f.job, size_by codec past f.job f.gave) in
      let found : find (candidate_fits budget) (candidates codec before past) ≡ Some sized = subst (λ y. find (candidate_fits budget) (cands_of codec past y (jobs before)) ≡ Some sized) d f.found in
      let among = among_sends m.session past at budget (candidates codec before past) sized least found in
      let needed_there : sent_with codec m.session past (choice_of past at sized.0 (datagram_count sized.1)) ≡ choose_needed codec m.session before past at (needed b (jobs before)) = among_planned codec past b spared tipped m.session before at c p fine (first_id + 2) (first_id + 1) (sent_with codec m.session past (choice_of past at sized.0 (datagram_count sized.1))) refl refl refl (λ k. refl) (subst (λ y. None ≡ missing_from (needed_in b y)) is h) (spared_then codec tipped (lost past) b spared c p (fine (first_id + 2)) (fine (first_id + 1)) d refl refl) among in
      sym (ap sends (subst (λ y. sent_with codec m.session past (choice_of past at sized.0 (datagram_count sized.1)) ≡ choose_needed codec m.session before past at (needed y (jobs before))) d needed_there))

  -- where a report was found, the choice is sent
  pub lacks : (m : Machine S) (past : Past) (moment at budget : ℕ) (o : OpenPicture (JobReport S)) (tip_lost b : Bool) (candidate : Candidate (JobReport S)) → SenderStands codec m past → m.open_picture ≡ Some o → tip_lost ≡ lost_of m → b ≡ is_lost_in tip_lost o → None ≡ missing_from (needed_in b o) → at ≡ max m.acks.moment moment → budget ≡ budget_in m at → found_in codec b budget o ≡ Some candidate → sends (chosen codec m.session past moment) ≡ true
  unfolding chosen
  lacks m past moment at budget o tip_lost b candidate s seated l e h when may first =
      let chained = chained_of_legal codec m.session past s.legal in
      let known : tip_lost ≡ lost past = l ∙ lost_is codec m past s.keeps chained in
      let time : at ≡ max (now past) moment = when ∙ ap (λ n. max n moment) s.keeps.moment_is in
      let least : budget ≡ may_send m.session past at = may ∙ budget_is codec m past at s.keeps chained in
      go (opened past) (sym seated ∙ s.keeps.open_is) known time least
    where
      go : (x : Option Past) → Some o ≡ option_map (open_in codec (summary past)) x → tip_lost ≡ lost past → at ≡ max (now past) moment → budget ≡ may_send m.session past at → sends (choose_opened codec m.session past (max (now past) moment) x) ≡ true
      go None r known time least = absurd (cc)
      go (Some before) r known time least =
          let is : o ≡ open_in codec (summary past) before = cc in
          let d : b ≡ lost_since before past = e ∙ (ap (λ z. is_lost_in z o) known ∙ (ap (is_lost_in (lost past)) is ∙ lost_here codec (summary past) before past)) in
          subst (λ n. sends (choose_opened codec m.session past n (Some before)) ≡ true) time (opened_sends m past before at budget o b candidate is d h least first)
