-- What is taken of the report that was found is what the past says that is sent.
use Rattle.std.proofs.Common.{◌≡◌, ℕ, ◌+◌, max, Bool, true, false, List, [], ◌∷◌, length, map, Option, Some, None, refl, ap, sym, ◌∙◌, subst, eqb}
use Rattle.std.proofs.lemmas.Bool.{eq-eqb, le-leb}
use Rattle.std.proofs.lemmas.List.{length-map}
use Rattle.std.specs.List.{find}
use Rattle.std.specs.Option.{option_map}
use Rattle.std.specs.Arc.{arc_value}
use Rattle.std.specs.declared.sync.Arc.{Arc}
use Rattle.sal_base.specs.declared.picture.Picture.{Picture}
use Rattle.sal_base.specs.declared.coding.Encoding.TheVariants.{Frame}
use Rattle.sal_codec.specs.Coding.{Coding, Made, made_of}
use Rattle.sal_wire.specs.Fragmentation.{below, fragment_count}
use Rattle.sal_wire.specs.Layout.{fragment_bytes}
use Rattle.sal_sender.specs.declared.outcome.Gave.{Gave}
use Rattle.sal_sender.specs.declared.outcome.Gave.TheVariants.{Frame as GaveFrame}
use Rattle.sal_sender.specs.declared.choice.Choice.{Choice}
use Rattle.sal_sender.specs.declared.open_picture.Candidate.{Candidate}
use Rattle.sal_sender.specs.declared.open_picture.OpenPicture.{OpenPicture}
use Rattle.sal_sender.specs.declared.prepared_frame.PreparedFrame.{PreparedFrame}
use Rattle.sal_sender.specs.declared.answers.Chosen.TheVariants.{Sent}
use Rattle.sal_sender.specs.Past.{Past, choices, pictures, opened, now, sent, tip, last_job, quantiser}
use Rattle.sal_sender.specs.Chain.{state, made, target_of, made_at, picture_at}
use Rattle.sal_sender.specs.OneThread.{Session, burst_of, burst_after, pause_of}
use Rattle.sal_sender.specs.Acks.{acknowledged, safe, lost}
use Rattle.sal_sender.specs.Jobs.{Job, jobs, base, needs_spare, coarse_job, spare_job, fine_job}
use Rattle.sal_sender.specs.Choosing.{SizedJob, choice_of, datagram_count, candidate_fits, may_send, candidates, lost_since, reported, needed, choose_among, choose_found, choose_opened, choose_needed, sent_with, chosen}
use Rattle.sal_sender.specs.SentFrames.{sent_frames_of}
use Rattle.sal_sender.specs.Selecting.{needed_in, missing_from, found_in}
use Rattle.sal_sender.specs.Sending.{pause_in, choice_from, IsPrepared}
use Rattle.sal_sender.specs.Sound.{AreChained}
use Rattle.sal_sender.specs.JobWork.{JobWork, JobReport, encoded}
use Rattle.sal_sender.specs.Machine.{Machine}
use Rattle.sal_sender.specs.Stands.{summary, work_in, open_in, Keeps, SenderStands}
use Rattle.sal_sender.proofs.Choosings.{ran_of, size_by, cands_of, seat_of, spared_then}
use Rattle.sal_sender.proofs.ChosenFound.{IsFound, found_planned, among_planned}
use Rattle.sal_sender.proofs.Sound.{chained_of_legal, floor_low}
use Rattle.sal_sender.proofs.Thread.{length_below}
use Rattle.sal_sender.proofs.Started.{safe_is}

newest_pause : (acked : List ℕ) (chosen : List Choice) (choice : Choice) → AreChained chosen → pause_in (sent_frames_of acked chosen) choice.moment ≡ pause_of chosen choice
newest_pause acked [] choice chained = refl
newest_pause acked (c ∷ older) choice chained = rw (le-leb c.floor c.number (floor_low c older chained.0)) refl

module _ {S : Type 0} (codec : Coding S) where
  same_work : (o : Option Gave) (r : Gave) (w work : JobWork S) (report : Option (JobReport S)) → report ≡ option_map (λ gave. ran_of w gave) o → o ≡ Some r → report ≡ Some (ran_of work GaveFrame) → (work ≡ w) × (r ≡ GaveFrame)
  same_work o r w work report a b c =
      let e : Some (ran_of work GaveFrame) ≡ Some (ran_of w r) = sym c ∙ (a ∙ ap (option_map (λ gave. ran_of w gave)) b) in
      let both : ran_of work GaveFrame ≡ ran_of w r = cc in
      (ap (λ x. x.work) both, sym (ap (λ x. x.gave) both))

  -- the choice by what is kept
  choice_is : (m : Machine S) (past : Past) (job : Job) (count at : ℕ) → Keeps codec m (summary past) → AreChained (choices past) → choice_from m (seat_of codec past job) count at ≡ choice_of past at job count
  choice_is m past job count at k chained = rw (safe_is codec m past k chained, k.tip_is, k.floor_is, k.pictures_is, k.sent_is) refl

  -- what a choice made
  made_is : (past : Past) (at : ℕ) (job : Job) (count : ℕ) (bytes : List ℕ) (t : S) (recon : Picture) → encoded codec (work_in codec (pictures past) (choices past) job) ≡ Frame bytes t recon → made codec (pictures past) (choices past) (choice_of past at job count) ≡ record { bytes = bytes; target = t; recon = recon }
  made_is past at job count bytes t recon e = ap (made_of (state codec (pictures past) (choices past) job.source) (picture_at (pictures past) (length (pictures past)))) e

  first_made : (b : Bool) (x y : Option (Made S)) → b ≡ true → (elim b as (λ c. Option (Made S)) [ true ↦ x | false ↦ y ]) ≡ x
  first_made true x y h = refl
  first_made false x y h = absurd (cc)

  -- its state is the one that it made
  pub state_made : (shot : List Picture) (c : Choice) (older : List Choice) (bytes : List ℕ) (t : S) (recon : Picture) → made codec shot older c ≡ record { bytes = bytes; target = t; recon = recon } → state codec shot (c ∷ older) c.number ≡ t
  unfolding made_at
  state_made shot c older bytes t recon e = ap (target_of codec) (first_made (eqb c.number c.number) _ _ (eq-eqb c.number c.number refl)) ∙ ap (λ (x : Made S). x.target) e

  same_burst : (session : Session) (c : Choice) (s s' : S) (p p' : ℕ) (x x' : Made S) (n n' : ℕ) → s ≡ s' → p ≡ p' → x ≡ x' → n ≡ n' → map fragment_bytes (burst_of codec session s p c x n) ≡ map fragment_bytes (burst_of codec session s' p' c x' n')
  same_burst session c s s' p p' x x' n n' a b d e = rw (a, b, d, e) refl

  burst_long : (session : Session) (c : Choice) (s : S) (p : ℕ) (x : Made S) (n : ℕ) → length (map fragment_bytes (burst_of codec session s p c x n)) ≡ fragment_count x.bytes
  burst_long session c s p x n = length-map (burst_of codec session s p c x n) fragment_bytes ∙ (length-map (below (fragment_count x.bytes)) _ ∙ length_below (fragment_count x.bytes))

module _ {S Z : Type 0} (codec : Coding S) where
  -- what the past says of the choice that was taken
  pub record IsSaid (session : Session) (past : Past) (at : ℕ) (t : PreparedFrame (Arc S Z)) (found : SizedJob) : Type 0 where
    pub choice : t.choice ≡ choice_of past at found.0 (datagram_count found.1)
    pub burst : t.burst ≡ map fragment_bytes (burst_after codec session (pictures past) (choices past) t.choice (sent past))
    pub count : length t.burst ≡ t.choice.count
    pub made : state codec (pictures past) (t.choice ∷ choices past) t.choice.number ≡ arc_value t.state

  taken_says : (m : Machine S) (past : Past) (candidate : Candidate (JobReport S)) (job : Job) (gave : Gave) (at : ℕ) (t : PreparedFrame (Arc S Z)) → Keeps codec m (summary past) → AreChained (choices past) → candidate ≡ seat_of codec past job → reported past job.id ≡ Some gave → IsPrepared codec m candidate at t → IsSaid m.session past at t (job, size_by codec past job gave)
  taken_says m past candidate job gave at t k chained is told prepared =
      let w : JobWork S = work_in codec (pictures past) (choices past) job in
      let own : (prepared.work ≡ w) × (gave ≡ GaveFrame) = same_work codec (reported past job.id) gave w prepared.work candidate.report (ap (λ s. s.report) is) told prepared.reported in
      let made_there : encoded codec w ≡ Frame prepared.bytes (arc_value t.state) prepared.recon = sym (ap (encoded codec) own.0) ∙ prepared.made in
      let counted : datagram_count (size_by codec past job gave) ≡ fragment_count prepared.bytes = ap (λ d. datagram_count (Rattle.sal_sender.specs.Choosing.size_of (encoded codec w) d)) own.1 ∙ ap (λ x. datagram_count (Rattle.sal_sender.specs.Choosing.size_of x GaveFrame)) made_there in
      let same : t.choice ≡ choice_of past at job (fragment_count prepared.bytes) = prepared.choice ∙ (ap (λ s. choice_from m s (fragment_count prepared.bytes) at) is ∙ choice_is codec m past job (fragment_count prepared.bytes) at k chained) in
      let whole : made codec (pictures past) (choices past) t.choice ≡ record { bytes = prepared.bytes; target = arc_value t.state; recon = prepared.recon } = ap (λ c. made codec (pictures past) (choices past) c) same ∙ made_is codec past at job (fragment_count prepared.bytes) prepared.bytes (arc_value t.state) prepared.recon made_there in
      let source : prepared.work.source ≡ state codec (pictures past) (choices past) t.choice.source = ap (λ x. x.source) own.0 ∙ ap (λ c. state codec (pictures past) (choices past) c.source) (sym same) in
      let pause : pause_in m.sent_frames at ≡ pause_of (choices past) t.choice = ap (λ ls. pause_in ls at) k.sent_frames_are ∙ (ap (λ c. pause_in (sent_frames_of (acknowledged past) (choices past)) c.moment) (sym same) ∙ newest_pause (acknowledged past) (choices past) t.choice chained) in
      record {
        choice = same ∙ ap (choice_of past at job) (sym counted);
        burst = prepared.burst ∙ same_burst codec m.session t.choice _ _ _ _ _ _ _ _ source pause (sym whole) k.sent_is;
        count = ap (λ (xs : List (List ℕ)). length xs) prepared.burst ∙ (burst_long codec m.session t.choice prepared.work.source (pause_in m.sent_frames at) (record { bytes = prepared.bytes; target = arc_value t.state; recon = prepared.recon }) m.sent ∙ sym (ap (λ c. c.count) same));
        made = state_made codec (pictures past) t.choice (choices past) prepared.bytes (arc_value t.state) prepared.recon whole;
      }

  sent_says : (session : Session) (past : Past) (at : ℕ) (t : PreparedFrame (Arc S Z)) (found : SizedJob) → IsSaid session past at t found → Sent t.choice t.burst ≡ sent_with codec session past (choice_of past at found.0 (datagram_count found.1))
  sent_says session past at t found s = ap (λ xs. Sent t.choice xs) s.burst ∙ ap (λ c. Sent c (map fragment_bytes (burst_after codec session (pictures past) (choices past) c (sent past)))) s.choice

  among_says : (session : Session) (past : Past) (at budget : ℕ) (t : PreparedFrame (Arc S Z)) (all : List SizedJob) (found : SizedJob) → IsSaid session past at t found → budget ≡ may_send session past at → find (candidate_fits budget) all ≡ Some found → Sent t.choice t.burst ≡ choose_among codec session past at (may_send session past at) all
  among_says session past at budget t all found s e h =
      let there : find (candidate_fits (may_send session past at)) all ≡ Some found = subst (λ n. find (candidate_fits n) all ≡ Some found) e h in
      sent_says session past at t found s ∙ sym (ap (choose_found codec session past at (may_send session past at) all) there)

  -- a choice, and what the past says of it
  pub record IsAnswer (session : Session) (past : Past) (moment at : ℕ) (t : PreparedFrame (Arc S Z)) : Type 0 where
    pub found : SizedJob
    pub said : IsSaid session past at t found
    pub answer : Sent t.choice t.burst ≡ choose_opened codec session past (max (now past) moment) (opened past)

  pub opened_says : (m : Machine S) (past before : Past) (moment at budget : ℕ) (o : OpenPicture (JobReport S)) (b : Bool) (candidate : Candidate (JobReport S)) (t : PreparedFrame (Arc S Z)) → SenderStands codec m past → opened past ≡ Some before → o ≡ open_in codec (summary past) before → b ≡ lost_since before past → None ≡ missing_from (needed_in b o) → at ≡ max (now past) moment → budget ≡ may_send m.session past at → found_in codec b budget o ≡ Some candidate → IsPrepared codec m candidate at t → IsAnswer m.session past moment at t
  opened_says m past before moment at budget o b candidate t s there is d h time least first prepared =
      let spared : Bool = needs_spare (base before) (safe before) (tip before) in
      let first_id : ℕ = last_job before + 1 in
      let c : Job = coarse_job first_id (base before) (quantiser before) in
      let p : Job = spare_job (first_id + 1) (safe before) (quantiser before) in
      let fine : ℕ → Job = (λ n. fine_job n (base before) (quantiser before)) in
      let tipped : Bool = eqb (base before) (tip before) in
      let f : IsFound codec past candidate (find (candidate_fits budget) (cands_of codec past b (jobs before))) = found_planned codec past b spared tipped c p fine (first_id + 2) (first_id + 1) budget candidate refl refl refl refl refl refl (λ k. refl) (λ k. refl) (λ k. refl) (subst (λ y. found_in codec b budget y ≡ Some candidate) is first) in
      let sized : SizedJob = (f.job, size_by codec past f.job f.gave) in
      let said : IsSaid m.session past at t sized = taken_says m past candidate f.job f.gave at t s.keeps (chained_of_legal codec m.session past s.legal) f.seat_is f.reported_is prepared in
      let found : find (candidate_fits budget) (candidates codec before past) ≡ Some sized = subst (λ y. find (candidate_fits budget) (cands_of codec past y (jobs before)) ≡ Some sized) d f.found in
      let among : Sent t.choice t.burst ≡ choose_among codec m.session past at (may_send m.session past at) (candidates codec before past) = among_says m.session past at budget t (candidates codec before past) sized said least found in
      let needed_there : Sent t.choice t.burst ≡ choose_needed codec m.session before past at (needed b (jobs before)) = among_planned codec past b spared tipped m.session before at c p fine (first_id + 2) (first_id + 1) (Sent t.choice t.burst) refl refl refl (λ k. refl) (subst (λ y. None ≡ missing_from (needed_in b y)) is h) (spared_then codec tipped (lost past) b spared c p (fine (first_id + 2)) (fine (first_id + 1)) d refl refl) among in
      let answer : Sent t.choice t.burst ≡ choose_opened codec m.session past at (Some before) = subst (λ y. Sent t.choice t.burst ≡ choose_needed codec m.session before past at (needed y (jobs before))) d needed_there in
      record {
        found = sized;
        said = said;
        answer = subst (λ n. Sent t.choice t.burst ≡ choose_opened codec m.session past n (opened past)) time (subst (λ x. Sent t.choice t.burst ≡ choose_opened codec m.session past at x) (sym there) answer);
      }
