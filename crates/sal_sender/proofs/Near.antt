-- Links and jobs stand in the window.
use Rattle.std.proofs.Common.{◌≡◌, ◌≢◌, ℕ, ◌+◌, ◌-◌, ◌≤◌, Bool, true, false, cond, not, ◌&&◌, List, [], ◌∷◌, map, Option, Some, None, refl, sym, arith, eqb, leb, ◌⊎◌, inl, inr}
use Rattle.std.proofs.lemmas.Bool.{eqb-true, eqb-false}
use Rattle.std.specs.List.{filter}
use Rattle.std.specs.Option.{option_map}
use Rattle.sal_base.specs.Lists.{Each}
use Rattle.sal_base.specs.declared.name.Name.{Name}
use Rattle.sal_y4m.specs.declared.head.Head.{Head}
use Rattle.sal_codec.specs.Coding.{Coding}
use Rattle.sal_sender.specs.declared.choice.Choice.{Choice}
use Rattle.sal_sender.specs.declared.sent_frame.SentFrame.{SentFrame}
use Rattle.sal_sender.specs.Sending.{with_choice}
use Rattle.sal_sender.specs.declared.open_picture.Candidate.{Candidate}
use Rattle.sal_sender.specs.declared.open_picture.OpenPicture.{OpenPicture}
use Rattle.sal_sender.specs.SentFrames.{safe_in, lost_in, acknowledged_by}
use Rattle.sal_sender.specs.Candidates.{candidate_with, with_report}
use Rattle.sal_sender.specs.Planned.{safe_of, base_of, plan_of, open_picture_of}
use Rattle.sal_sender.specs.JobWork.{JobReport}
use Rattle.sal_sender.specs.Machine.{Machine, IsSized, IsNearFrame, IsNearSource, IsCandidate, IsCandidateIn, AreCandidates, IsWell}

pub linked_held : (floor tip : ℕ) (held : List (ℕ × Name)) (sent_frames : List SentFrame) → Each (IsNearFrame floor tip) sent_frames → Each (IsNearFrame floor tip) (map (acknowledged_by held) sent_frames)
linked_held floor tip held [] e = tt
linked_held floor tip held (l ∷ sent_frames) e = (e.0, linked_held floor tip held sent_frames e.1)

-- the links with one more choice
pub longer_is : (choice : Choice) (sent_frames own kept new : List SentFrame) → new ≡ record { choice = choice; is_acknowledged = false } ∷ kept → kept ≡ filter (λ l. leb choice.floor l.choice.number) own → own ≡ sent_frames → new ≡ with_choice sent_frames choice
longer_is choice sent_frames own kept new a b c = rw (a, b, c) refl

module _ {S : Type 0} (floor tip : ℕ) (head : Head) where
  seat_reported : (b : Bool) (id : ℕ) (r : JobReport S) (s : Candidate (JobReport S)) → eqb s.id id ≡ b → IsSized head r.work → IsCandidate floor tip head s → IsCandidate floor tip head (candidate_with id r s)
  seat_reported true id r s e sized is = rw e (record { q = is.q; source = is.source; sized = sized })
  seat_reported false id r s e sized is = rw e is

  spare_reported : (id : ℕ) (r : JobReport S) (s : Option (Candidate (JobReport S))) → IsSized head r.work → IsCandidateIn floor tip head s → IsCandidateIn floor tip head (option_map (candidate_with id r) s)
  spare_reported id r None sized is = tt
  spare_reported id r (Some s) sized is = seat_reported (eqb s.id id) id r s refl sized is

  open_reported : (b d : Bool) (id : ℕ) (r : JobReport S) (o : OpenPicture (JobReport S)) → eqb o.coarse.id id ≡ b → eqb o.fine.id id ≡ d → IsSized head r.work → AreCandidates floor tip head (Some o) → AreCandidates floor tip head (Some (with_report id r o))
  open_reported true d id r o e f sized is = rw e (record { q = is.0.q; source = is.0.source; sized = sized }, (is.1.0, is.1.1))
  open_reported false true id r o e f sized is = rw (e, f) (is.0, (is.1.0, record { q = is.1.1.q; source = is.1.1.source; sized = sized }))
  open_reported false false id r o e f sized is = rw (e, f) (is.0, (spare_reported id r o.spare sized is.1.0, is.1.1))

  -- a report of the session's size keeps the jobs
  pub seats_reported : (id : ℕ) (r : JobReport S) (o : Option (OpenPicture (JobReport S))) → IsSized head r.work → AreCandidates floor tip head o → AreCandidates floor tip head (option_map (with_report id r) o)
  seats_reported id r None sized is = tt
  seats_reported id r (Some o) sized is = open_reported (eqb o.coarse.id id) (eqb o.fine.id id) id r o refl refl sized is

abbrev IsSafe : ℕ → ℕ → ℕ → Type 0
IsSafe floor tip n = (n ≡ 0) ⊎ ((floor ≤ n) × (n ≤ tip))

safe_step : (b d : Bool) (floor tip n : ℕ) (l : SentFrame) (own rest : ℕ) → eqb n l.choice.number ≡ b → IsNearFrame floor tip l → IsSafe floor tip own → IsSafe floor tip rest → IsSafe floor tip (elim b as (λ c. ℕ) [ true ↦ (elim d as (λ c. ℕ) [ true ↦ n | false ↦ own ]) | false ↦ rest ])
safe_step true true floor tip n l own rest e near p q = let s : n ≡ l.choice.number = eqb-true _ _ e in inr (omega (arith, near.0), omega (arith, near.1))
safe_step true false floor tip n l own rest e near p q = p
safe_step false d floor tip n l own rest e near p q = q

-- the safe number is 0 or stands from the floor to the tip
pub safe_near : (floor tip n : ℕ) (sent_frames : List SentFrame) → Each (IsNearFrame floor tip) sent_frames → IsSafe floor tip (safe_in sent_frames n)
unfolding safe_in
safe_near floor tip n [] e = inl refl
safe_near floor tip n (l ∷ sent_frames) e = safe_step (eqb n l.choice.number) l.is_acknowledged floor tip n l (safe_in sent_frames l.choice.source) (safe_in sent_frames n) refl e.0 (safe_near floor tip l.choice.source sent_frames e.1) (safe_near floor tip n sent_frames e.1)

not_full : (b d : Bool) (tip floor : ℕ) → eqb tip 0 ≡ b → eqb ((tip - floor) + 1) 16 ≡ d → (not b && d) ≡ false → tip ≤ floor + 15 → tip ≤ floor + 14
not_full true d tip floor e f h w = let z : tip ≡ 0 = eqb-true _ _ e in omega arith
not_full false true tip floor e f h w = absurd (cc)
not_full false false tip floor e f h w = let other : (tip - floor) + 1 ≢ 16 = eqb-false _ _ f in omega arith

wide : (floor tip n : ℕ) → tip ≤ floor + 14 → IsSafe floor tip n → IsNearSource floor tip n
wide floor tip n w (inl e) = inl e
wide floor tip n w (inr e) = inr (e, w)

onward_near : (full lost : Bool) (floor tip safe : ℕ) → (full ≡ false → tip ≤ floor + 14) → (tip ≡ 0) ⊎ (floor ≤ tip) → IsSafe floor tip safe → IsNearSource floor tip (cond full 0 (cond lost safe tip))
onward_near true lost floor tip safe w k s = inl refl
onward_near false true floor tip safe w k s = wide floor tip safe (w refl) s
onward_near false false floor tip safe w (inl z) s = inl z
onward_near false false floor tip safe w (inr h) s = inr ((h, omega arith), w refl)

spared_near : (full lost : Bool) (floor tip safe : ℕ) → (full ≡ false → tip ≤ floor + 14) → (full ≡ true → tip ≢ 0) → (eqb (cond full 0 (cond lost safe tip)) tip && not (eqb (cond full 0 (cond lost safe tip)) safe)) ≡ true → IsSafe floor tip safe → IsNearSource floor tip safe
spared_near true lost floor tip safe w f h s = absurd (f refl (sym (eqb-true 0 tip (first_and (eqb 0 tip) _ h))))
  where
    first_and : (a b : Bool) → (a && b) ≡ true → a ≡ true
    first_and true b q = refl
    first_and false b q = absurd (cc)
spared_near false lost floor tip safe w f h s = wide floor tip safe (w refl) s

full_some : (b d : Bool) (tip : ℕ) → eqb tip 0 ≡ b → (not b && d) ≡ true → tip ≢ 0
full_some true d tip e h = absurd (cc)
full_some false d tip e h = eqb-false _ _ e

spare_seat : (b : Bool) {S : Type 0} (floor tip : ℕ) (head : Head) (s : Candidate (JobReport S)) → (b ≡ true → IsCandidate floor tip head s) → IsCandidateIn floor tip head (cond b (Some s) None)
spare_seat true floor tip head s h = h refl
spare_seat false floor tip head s h = tt

-- the jobs of the next picture may be chosen
pub plan_seats : {S : Type 0} (codec : Coding S) (m : Machine S) → IsWell codec m → AreCandidates {S = S} m.floor m.tip m.session.head (Some (open_picture_of (plan_of m)))
plan_seats codec m w =
    let full : Bool = not (eqb m.tip 0) && eqb ((m.tip - m.floor) + 1) 16 in
    let lost : Bool = lost_in (safe_of m) m.acks.heard m.sent_frames m.tip in
    let room : full ≡ false → m.tip ≤ m.floor + 14 = (λ h. not_full (eqb m.tip 0) (eqb ((m.tip - m.floor) + 1) 16) m.tip m.floor refl refl h w.window) in
    let safe = safe_near m.floor m.tip m.tip m.sent_frames w.linked in
    let base : IsNearSource m.floor m.tip (base_of m) = onward_near full lost m.floor m.tip (safe_of m) room w.kept safe in (
      record { q = omega arith; source = base; sized = tt },
      (
        spare_seat (plan_of m).has_spare m.floor m.tip m.session.head _ (λ h. record { q = omega arith; source = spared_near full lost m.floor m.tip (safe_of m) room (full_some (eqb m.tip 0) (eqb ((m.tip - m.floor) + 1) 16) m.tip refl) h safe; sized = tt }),
        record { q = omega (arith, w.q); source = base; sized = tt },
      ),
    )
