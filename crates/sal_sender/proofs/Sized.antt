-- Jobs have the session's size.
use Rattle.std.proofs.Common.{◌≡◌, ℕ, ◌+◌, ◌-◌, ◌<◌, ◌≤◌, max, arith, Bool, true, false, cond, List, [], ◌∷◌, drop, Some, None, ap, sym, ◌∙◌, subst}
use Rattle.sal_base.specs.Lists.{Each}
use Rattle.sal_base.specs.declared.picture.Picture.{Picture}
use Rattle.sal_y4m.specs.declared.head.Head.{Head}
use Rattle.sal_codec.specs.Coding.{Coding, HasSides}
use Rattle.sal_sender.specs.declared.job_plan.JobPlan.{JobPlan}
use Rattle.sal_sender.specs.declared.open_picture.JobQueue.{JobQueue}
use Rattle.sal_sender.specs.Choosing.{first_in}
use Rattle.sal_sender.specs.Candidates.{queued}
use Rattle.sal_sender.specs.JobWork.{JobWork, JobReport}
use Rattle.sal_sender.specs.declared.open_picture.OpenPicture.{OpenPicture}
use Rattle.sal_sender.specs.declared.ack_state.AckState.{AckState}
use Rattle.sal_sender.specs.Machine.{Machine, IsSized, AreCandidates, IsWell}
use Rattle.sal_sender.proofs.Near.{plan_seats}
use Rattle.sal_sender.specs.Planned.{plan_of, open_picture_of, job_count, coarse_q, fine_id, work_from, queue_of}
use Rattle.sal_sender.specs.declared.choice.JobRole.TheVariants.{Coarse, Spare, Fine}

listed_sized : (b : Bool) {S : Type 0} (head : Head) (c p f : JobWork S) → IsSized head c → IsSized head p → IsSized head f → Each (IsSized head) (queued (record { coarse = Some c; spare = cond b (Some p) None; fine = Some f }))
listed_sized true head c p f x y z = (x, (y, (z, tt)))
listed_sized false head c p f x y z = (x, (z, tt))

-- the jobs of a picture have its size
pub queue_sized : {S : Type 0} (codec : Coding S) (head : Head) (m : Machine S) (p : Picture) (plan : JobPlan) (queue : JobQueue (JobWork S)) → queue ≡ queue_of codec m p plan → HasSides head.width head.height p → Each (IsSized head) (queued queue)
queue_sized codec head m p plan queue e sides = subst (λ q. Each (IsSized head) (queued q)) (sym e) (listed_sized plan.has_spare head (work_from codec m p plan.first Coarse plan.base (coarse_q plan)) (work_from codec m p (plan.first + 1) Spare plan.safe (coarse_q plan)) (work_from codec m p (fine_id plan) Fine plan.base (plan.q - 4)) sides sides sides)

drop_sized : {S : Type 0} (head : Head) (xs : List (JobWork S)) → Each (IsSized head) xs → Each (IsSized head) (drop 1 xs)
drop_sized head [] e = tt
drop_sized head (x ∷ xs) e = e.1

pub rest_sized : {S : Type 0} (head : Head) (xs ys : List (JobWork S)) → ys ≡ drop 1 xs → Each (IsSized head) xs → Each (IsSized head) ys
rest_sized head xs ys e each = subst (Each (IsSized head)) (sym e) (drop_sized head xs each)

pub first_sized : {S : Type 0} (head : Head) (xs : List (JobWork S)) (x : JobWork S) → Some x ≡ first_in xs → Each (IsSized head) xs → IsSized head x
first_sized head [] x h e = absurd (cc)
first_sized head (y ∷ xs) x h e = let s : x ≡ y = cc in subst (IsSized head) (sym s) e.0

count_few : (b : Bool) (n : ℕ) → n ≡ cond b 3 2 → n ≤ 3
count_few true n e = omega arith
count_few false n e = omega arith

-- what holds of every sender holds after a picture was started
pub well_begun : {S : Type 0} (codec : Coding S) (inside m : Machine S) (p : Picture) (plan : JobPlan) (queue : JobQueue (JobWork S)) (acks : AckState) (open_picture : OpenPicture (JobReport S)) (outstanding : List Bool) (count : ℕ) (moment : ℕ) → IsWell codec inside → inside ≡ m → plan ≡ plan_of m → open_picture ≡ open_picture_of plan → m.pictures < 1048575 → count ≡ job_count plan → acks ≡ record inside.acks { moment = max inside.acks.moment moment } → queue ≡ queue_of codec m p plan → HasSides m.session.head.width m.session.head.height p → IsWell codec (record inside { acks = acks; open_picture = Some open_picture; waiting = queue; outstanding = outstanding; pictures = inside.pictures + 1; last_job = inside.last_job + count })
well_begun codec inside m p plan queue acks open_picture outstanding count moment w view planned placed few counted told is_queue sides =
    let low : inside.pictures < 1048575 = subst (λ v. v.pictures < 1048575) (sym view) few in
    let three : count ≤ 3 = count_few plan.has_spare count counted in
    let same : acks.heard ≡ inside.acks.heard = ap (λ t. t.heard) told in
    record {
      head = w.head;
      pictures = omega (arith, low);
      chosen = omega (arith, w.chosen);
      started = λ h. omega (arith, w.chosen);
      jobs = omega (arith, w.jobs, three);
      low = w.low;
      near = w.near;
      window = w.window;
      sent = w.sent;
      heard = omega (arith, w.heard, same);
      q = w.q;
      store = w.store;
      above = w.above;
      states = w.states;
      kept = w.kept;
      linked = w.linked;
      seated = subst (λ o. AreCandidates inside.floor inside.tip inside.session.head (Some o)) (sym (placed ∙ (ap (λ p. open_picture_of p) planned ∙ ap (λ v. open_picture_of (plan_of v)) (sym view)))) (plan_seats codec inside w);
      waiting_sized = subst (λ v. Each (IsSized v.session.head) (queued queue)) (sym view) (queue_sized codec m.session.head m p plan queue is_queue sides);
    }
