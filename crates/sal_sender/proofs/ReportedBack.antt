-- Reports of jobs that were handed out.
use Rattle.std.proofs.Common.{◌≡◌, ◌≢◌, ℕ, suc, zero, ◌+◌, ◌<◌, Bool, true, false, cond, not, ◌&&◌, ◌||◌, List, [], ◌∷◌, length, Option, Some, None, refl, ap, sym, ◌∙◌, subst, arith, eqb}
use Rattle.std.proofs.lemmas.Bool.{eq-eqb, ne_eqb, eqb-true, eqb-false}
use Rattle.std.proofs.lemmas.List.{length-set}
use Rattle.std.proofs.Math.ListN.{set}
use Rattle.std.specs.List.{list_any, filter_map, cons_option}
use Rattle.std.specs.Option.{option_map}
use Rattle.sal_base.specs.Lists.{Each}
use Rattle.sal_codec.specs.Coding.{Coding}
use Rattle.sal_sender.specs.declared.outcome.Gave.{Gave}
use Rattle.sal_sender.specs.declared.open_picture.Candidate.{Candidate}
use Rattle.sal_sender.specs.declared.open_picture.OpenPicture.{OpenPicture}
use Rattle.sal_sender.specs.declared.answers.Reported.{Reported}
use Rattle.sal_sender.specs.declared.answers.Reported.TheVariants.{Stranger, Late, Kept}
use Rattle.sal_sender.specs.Past.{Past, Report, opened, last_job, tip, quantiser}
use Rattle.sal_sender.specs.Jobs.{Job, jobs, base, needs_spare, coarse_job, spare_job, fine_job}
use Rattle.sal_sender.specs.Acks.{safe}
use Rattle.sal_sender.specs.Choosing.{reported, report_in, first_in}
use Rattle.sal_sender.specs.Answers.{jobs_after, is_outstanding, report_answer}
use Rattle.sal_sender.specs.Candidates.{candidate_with, is_candidate_of, is_job_of, is_open_job, with_report}
use Rattle.sal_sender.specs.JobWork.{JobWork, JobReport}
use Rattle.sal_sender.specs.Sending.{after_report}
use Rattle.sal_sender.specs.Machine.{Machine, KeepsAllButOutstanding, flag}
use Rattle.sal_sender.specs.Stands.{Summary, summary, work_in, candidate_in, spare_in, open_in, IsWorkOfItsJob, Keeps, SenderStands}
use Rattle.sal_sender.proofs.Quiet.{parts_stay, quiet_stranger, stands_quiet}
use Rattle.sal_sender.proofs.HandedOut.{flag_marked}

-- a flag that is set is there
flag_within : (outstanding : List Bool) (id : ℕ) → flag outstanding id ≡ true → id < length outstanding
flag_within [] id h = absurd (cc)
flag_within (x ∷ outstanding) zero h = omega arith
flag_within (x ∷ outstanding) (suc id) h = let low : id < length outstanding = flag_within outstanding id h in omega arith

flag_off : (b p q : Bool) → p ≡ q → cond b false p ≡ (not b && q)
flag_off true p q e = refl
flag_off false p q e = e

none_here : (a b c : Bool) → (a || (b || c)) ≡ false → (a ≡ false) × (b ≡ false) × (c ≡ false)
none_here true b c h = absurd (cc)
none_here false true c h = absurd (cc)
none_here false false c h = (refl, refl, h)

module _ {R : Type 0} where
  seat_other : (id : ℕ) (r : R) (s : Candidate R) → eqb s.id id ≡ false → candidate_with id r s ≡ s
  seat_other id r s e = rw e refl

  spare_other : (id : ℕ) (r : R) (o : Option (Candidate R)) → is_candidate_of id o ≡ false → option_map (candidate_with id r) o ≡ o
  spare_other id r None e = refl
  spare_other id r (Some s) e = ap (λ t. Some t) (seat_other id r s e)

  abbrev with_all : ℕ → R → OpenPicture R → OpenPicture R
  with_all id r o = record { from_tip = o.from_tip; coarse = candidate_with id r o.coarse; spare = option_map (candidate_with id r) o.spare; fine = candidate_with id r o.fine }

  pub open_parts : (f : Bool) (x y : Candidate R) (p q : Option (Candidate R)) (u v : Candidate R) → x ≡ y → p ≡ q → u ≡ v → ◌≡◌ {A = OpenPicture R} (record { from_tip = f; coarse = x; spare = p; fine = u }) (record { from_tip = f; coarse = y; spare = q; fine = v })
  open_parts f x y p q u v a b c = cc

  -- with different numbers, a report comes under all jobs of its number
  report_all : (b c : Bool) (id : ℕ) (r : R) (o : OpenPicture R) → eqb o.coarse.id id ≡ b → eqb o.fine.id id ≡ c → (b ≡ true → (eqb o.fine.id id ≡ false) × (is_candidate_of id o.spare ≡ false)) → (c ≡ true → is_candidate_of id o.spare ≡ false) → with_report id r o ≡ with_all id r o
  report_all true c id r o e f g h =
      rw e (open_parts o.from_tip _ _ o.spare _ o.fine _ refl (sym (spare_other id r o.spare (g refl).1)) (sym (seat_other id r o.fine (g refl).0)))
  report_all false true id r o e f g h =
      rw (e, f) (open_parts o.from_tip o.coarse _ o.spare _ _ _ refl (sym (spare_other id r o.spare (h refl))) refl)
  report_all false false id r o e f g h =
      rw (e, f) (open_parts o.from_tip o.coarse _ _ _ o.fine _ refl refl refl)

  -- a report of no job changes nothing
  report_none : (id : ℕ) (r : R) (o : OpenPicture R) → is_job_of id o ≡ false → with_report id r o ≡ o
  report_none id r o h =
      let n = none_here (eqb o.coarse.id id) (eqb o.fine.id id) (is_candidate_of id o.spare) h in
      rw (n.0, n.1) (open_parts o.from_tip o.coarse o.coarse _ o.spare o.fine o.fine refl (spare_other id r o.spare n.2) refl)

  -- nor does one of no open job
  late_stays : (o : Option (OpenPicture R)) (id : ℕ) (r : R) → is_open_job id o ≡ false → option_map (with_report id r) o ≡ o
  late_stays None id r h = refl
  late_stays (Some o) id r h = ap (λ x. Some x) (report_none id r o h)

module _ {S : Type 0} where
  same_taken : (m : Machine S) (s t : Option (OpenPicture (JobReport S))) (o p : List Bool) → s ≡ t → o ≡ p → record m { open_picture = s; outstanding = o } ≡ record m { open_picture = t; outstanding = p }
  same_taken m s t o p a b = rw (a, b) refl

  -- what the report of a job that is outstanding leaves
  pub report_left : (inside m : Machine S) (r : JobReport S) (id : ℕ) (open_picture : Option (OpenPicture (JobReport S))) (outstanding : List Bool) (b : Bool) (answer : Reported) → inside ≡ m → id ≡ r.work.id → outstanding ≡ set inside.outstanding id false → b ≡ is_open_job id inside.open_picture → open_picture ≡ option_map (with_report id r) inside.open_picture → answer ≡ cond b Kept Late → record inside { open_picture = open_picture; outstanding = outstanding } ≡ after_report m r answer
  report_left inside m r id open_picture outstanding true answer view own marked known told is =
      same_taken inside open_picture (option_map (with_report r.work.id r) inside.open_picture) outstanding (set inside.outstanding r.work.id false) (told ∙ ap (λ i. option_map (with_report i r) inside.open_picture) own) (marked ∙ ap (λ i. set inside.outstanding i false) own)
      ∙ (ap (λ v. after_report v r Kept) view ∙ ap (λ a. after_report m r a) (sym is))
  report_left inside m r id open_picture outstanding false answer view own marked known told is =
      same_taken inside open_picture inside.open_picture outstanding (set inside.outstanding r.work.id false) (told ∙ late_stays inside.open_picture id r (sym known)) (marked ∙ ap (λ i. set inside.outstanding i false) own)
      ∙ (ap (λ v. after_report v r Late) view ∙ ap (λ a. after_report m r a) (sym is))

  -- a late one leaves all but which jobs are outstanding
  pub late_keeps : (m new : Machine S) (r : JobReport S) (answer : Reported) → new ≡ after_report m r answer → answer ≡ Late → KeepsAllButOutstanding m new
  late_keeps m new r answer is late = subst (λ n. KeepsAllButOutstanding m n) (sym (is ∙ ap (λ a. after_report m r a) late)) (record { session = refl; states = refl; sent_frames = refl; acks = refl; open_picture = refl; waiting = refl; tip = refl; floor = refl; sent = refl; pictures = refl; last_job = refl; q = refl })

-- whether a job was reported after one more report
reported_more : (id : ℕ) (gave : Gave) (past : Past) (j : ℕ) → reported (Report id gave Kept ∷ past) j ≡ cond (eqb id j) (Some gave) (reported past j)
reported_more id gave past j = go (eqb id j) (filter_map (report_in j) past)
  where
    go : (b : Bool) (rest : List Gave) → first_in (cons_option (cond b (Some gave) None) rest) ≡ cond b (Some gave) (first_in rest)
    go true rest = refl
    go false rest = refl

module _ {S : Type 0} (codec : Coding S) where
  -- a job's seat after one more report
  seat_step : (b : Bool) (s t : Summary) (id : ℕ) (work : JobWork S) (gave : Gave) (job : Job) → eqb id job.id ≡ b → t.shot ≡ s.shot → t.chosen ≡ s.chosen → t.reported job.id ≡ cond (eqb id job.id) (Some gave) (s.reported job.id) → (job.id ≡ id → work ≡ work_in codec s.shot s.chosen job) → candidate_with id (record { work = work; gave = gave }) (candidate_in codec s job) ≡ candidate_in codec t job
  seat_step true s t id work gave job e a b r own =
      let same : id ≡ job.id = eqb-true _ _ e in
      rw (eq-eqb job.id id (sym same), a, b, r, e, own (sym same)) refl
  seat_step false s t id work gave job e a b r own =
      let other : eqb job.id id ≡ false = ne_eqb job.id id (λ (q : job.id ≡ id). eqb-false _ _ e (sym q)) in
      rw (other, a, b, r, e) refl

  seat_spare : (b : Bool) (s t : Summary) (id : ℕ) (work : JobWork S) (gave : Gave) (job : Job) → t.shot ≡ s.shot → t.chosen ≡ s.chosen → t.reported job.id ≡ cond (eqb id job.id) (Some gave) (s.reported job.id) → (b ≡ true → job.id ≡ id → work ≡ work_in codec s.shot s.chosen job) → option_map (candidate_with id (record { work = work; gave = gave })) (spare_in codec b s job) ≡ spare_in codec b t job
  seat_spare true s t id work gave job a b r own = ap (λ x. Some x) (seat_step (eqb id job.id) s t id work gave job refl a b r (own refl))
  seat_spare false s t id work gave job a b r own = refl

-- of three jobs with different numbers, no other one has the number of one
abbrev IsApart : ℕ → ℕ → ℕ → Bool → Type 0
IsApart c s f spared = (c ≢ f) × ((spared ≡ true → c ≢ s) × (spared ≡ true → s ≢ f))

apart_plan : (spared : Bool) (first : ℕ) → IsApart first (first + 1) (cond spared (first + 2) (first + 1)) spared
apart_plan true first = ((λ (e : first ≡ first + 2). omega arith), ((λ h (e : first ≡ first + 1). omega arith), (λ h (e : first + 1 ≡ first + 2). omega arith)))
apart_plan false first = ((λ (e : first ≡ first + 1). omega arith), ((λ h. absurd (cc)), (λ h. absurd (cc))))

each_plan : (spared : Bool) (P : Job → Type 0) (c p : Job) (fine : ℕ → Job) (first : ℕ) → Each P (cond spared (c ∷ p ∷ fine (first + 2) ∷ []) (c ∷ fine (first + 1) ∷ [])) → P c × ((spared ≡ true → P p) × P (fine (cond spared (first + 2) (first + 1))))
each_plan true P c p fine first e = (e.0, ((λ h. e.1.0), e.1.1.0))
each_plan false P c p fine first e = (e.0, ((λ h. absurd (cc)), e.1.0))

other_number : (a b id : ℕ) → a ≢ b → eqb a id ≡ true → eqb b id ≡ false
other_number a b id apart e = ne_eqb b id (λ (q : b ≡ id). apart (eqb-true _ _ e ∙ sym q))

module _ {S : Type 0} (codec : Coding S) where
  other_spare : (spared : Bool) (s : Summary) (job : Job) (id : ℕ) → (spared ≡ true → eqb job.id id ≡ false) → is_candidate_of id (spare_in codec spared s job) ≡ false
  other_spare true s job id h = h refl
  other_spare false s job id h = refl

  -- the jobs of the open picture are apart
  report_plan : (spared : Bool) (tipped : Bool) (s : Summary) (c p f : Job) (id : ℕ) (r : JobReport S) → IsApart c.id p.id f.id spared → with_report id r (record { from_tip = tipped; coarse = candidate_in codec s c; spare = spare_in codec spared s p; fine = candidate_in codec s f }) ≡ with_all id r (record { from_tip = tipped; coarse = candidate_in codec s c; spare = spare_in codec spared s p; fine = candidate_in codec s f })
  report_plan spared tipped s c p f id r apart =
      report_all (eqb c.id id) (eqb f.id id) id r (record { from_tip = tipped; coarse = candidate_in codec s c; spare = spare_in codec spared s p; fine = candidate_in codec s f }) refl refl
      (λ (e : eqb c.id id ≡ true). (other_number c.id f.id id apart.0 e, other_spare spared s p id (λ h. other_number c.id p.id id (apart.1.0 h) e)))
      (λ (e : eqb f.id id ≡ true). other_spare spared s p id (λ h. other_number f.id p.id id (λ (q : f.id ≡ p.id). apart.1.1 h (sym q)) e))

  -- the open picture after one more report
  open_kept : (s t : Summary) (before : Past) (id : ℕ) (work : JobWork S) (gave : Gave) → t.shot ≡ s.shot → t.chosen ≡ s.chosen → ((j : ℕ) → t.reported j ≡ cond (eqb id j) (Some gave) (s.reported j)) → Each (λ job. job.id ≡ id → work ≡ work_in codec s.shot s.chosen job) (jobs before) → with_report id (record { work = work; gave = gave }) (open_in codec s before) ≡ open_in codec t before
  open_kept s t before id work gave a b r own =
      report_plan spared (eqb (base before) (tip before)) s c p f id (record { work = work; gave = gave }) (apart_plan spared (last_job before + 1))
      ∙ open_parts _ _ _ _ _ _ _ (seat_step codec (eqb id c.id) s t id work gave c refl a b (r c.id) own_coarse) (seat_spare codec spared s t id work gave p a b (r p.id) own_spare) (seat_step codec (eqb id f.id) s t id work gave f refl a b (r f.id) own_fine)
    where
      spared : Bool
      spared = needs_spare (base before) (safe before) (tip before)

      c : Job
      c = coarse_job (last_job before + 1) (base before) (quantiser before)

      p : Job
      p = spare_job ((last_job before + 1) + 1) (safe before) (quantiser before)

      f : Job
      f = fine_job (cond spared ((last_job before + 1) + 2) ((last_job before + 1) + 1)) (base before) (quantiser before)

      Own : Job → Type 0
      Own job = job.id ≡ id → work ≡ work_in codec s.shot s.chosen job

      owned : Own c × ((spared ≡ true → Own p) × Own f)
      owned = each_plan spared Own c p (λ n. fine_job n (base before) (quantiser before)) (last_job before + 1) own

      own_coarse : Own c
      own_coarse = owned.0

      own_spare : spared ≡ true → Own p
      own_spare = owned.1.0

      own_fine : Own f
      own_fine = owned.1.1

  any_plan : (spared : Bool) (s : Summary) (c p : Job) (fine : ℕ → Job) (first id : ℕ) → list_any (λ job. eqb job.id id) (cond spared (c ∷ p ∷ fine (first + 2) ∷ []) (c ∷ fine (first + 1) ∷ [])) ≡ (eqb c.id id || (eqb (fine (cond spared (first + 2) (first + 1))).id id || is_candidate_of id (spare_in codec spared s p)))
  any_plan true s c p fine first id = either (eqb c.id id) (eqb p.id id) (eqb (fine (first + 2)).id id)
    where
      either : (a b d : Bool) → (a || (b || (d || false))) ≡ (a || (d || b))
      either true b d = refl
      either false true true = refl
      either false true false = refl
      either false false true = refl
      either false false false = refl
  any_plan false s c p fine first id = refl

  -- whether a number is that of an open job
  known_open : (s : Summary) (o : Option Past) (id : ℕ) → list_any (λ job. eqb job.id id) (jobs_after o) ≡ is_open_job id (option_map (open_in codec s) o)
  known_open s None id = refl
  known_open s (Some before) id =
      any_plan (needs_spare (base before) (safe before) (tip before)) s (coarse_job (last_job before + 1) (base before) (quantiser before)) (spare_job ((last_job before + 1) + 1) (safe before) (quantiser before)) (λ n. fine_job n (base before) (quantiser before)) (last_job before + 1) id

  late_seats : (s : Summary) (o : Option Past) (id : ℕ) (r : JobReport S) → is_open_job id (option_map (open_in codec s) o) ≡ false → option_map (with_report id r) (option_map (open_in codec s) o) ≡ option_map (open_in codec s) o
  late_seats s None id r h = refl
  late_seats s (Some before) id r h = ap (λ x. Some x) (report_none id r (open_in codec s before) h)

  kept_seats : (s t : Summary) (o : Option Past) (id : ℕ) (work : JobWork S) (gave : Gave) → t.shot ≡ s.shot → t.chosen ≡ s.chosen → ((j : ℕ) → t.reported j ≡ cond (eqb id j) (Some gave) (s.reported j)) → Each (λ job. job.id ≡ id → work ≡ work_in codec s.shot s.chosen job) (jobs_after o) → option_map (with_report id (record { work = work; gave = gave })) (option_map (open_in codec s) o) ≡ option_map (open_in codec t) o
  kept_seats s t None id work gave a b r own = refl
  kept_seats s t (Some before) id work gave a b r own = ap (λ x. Some x) (open_kept s t before id work gave a b r own)

  -- a machine that took a report
  abbrev pub with_seats : Machine S → Option (OpenPicture (JobReport S)) → List Bool → Machine S
  with_seats m open_picture outstanding = record m { open_picture = open_picture; outstanding = outstanding }

  keeps_reported : (m : Machine S) (s : Summary) (f : ℕ → Option Gave) (g : ℕ → Bool) (open_picture : Option (OpenPicture (JobReport S))) (outstanding : List Bool) (id : ℕ) → Keeps codec m s → open_picture ≡ option_map (open_in codec (record s { reported = f; is_outstanding = g })) s.opened → id < length m.outstanding → outstanding ≡ set m.outstanding id false → ((j : ℕ) → g j ≡ (not (eqb id j) && s.is_outstanding j)) → Keeps codec (with_seats m open_picture outstanding) (record s { reported = f; is_outstanding = g })
  keeps_reported m s f g open_picture outstanding id k told low marked off = record {
    tip_is = k.tip_is;
    floor_is = k.floor_is;
    sent_is = k.sent_is;
    pictures_is = k.pictures_is;
    last_job_is = k.last_job_is;
    quantiser_is = k.quantiser_is;
    heard_is = k.heard_is;
    average_is = k.average_is;
    heard_at_is = k.heard_at_is;
    moment_is = k.moment_is;
    sent_frames_are = k.sent_frames_are;
    states_are = k.states_are;
    open_is = told;
    waiting_are = k.waiting_are;
    outstanding_long = subst (λ (xs : List Bool). s.last_job < length xs) (sym marked) (omega (arith, length-set m.outstanding id false, k.outstanding_long));
    outstanding_are = λ j. ap (λ xs. flag xs j) marked ∙ (flag_marked id j false m.outstanding low ∙ (flag_off (eqb id j) (flag m.outstanding j) (s.is_outstanding j) (k.outstanding_are j) ∙ sym (off j)));
  }

  answer_is : (past : Past) (id : ℕ) (b : Bool) → is_outstanding past id ≡ true → list_any (λ job. eqb job.id id) (jobs_after (opened past)) ≡ b → report_answer past id ≡ cond b Kept Late
  answer_is past id b outstanding known = rw (outstanding, known) refl

  -- what a report of a job that is out does
  reported_back : (m : Machine S) (past : Past) (work : JobWork S) (gave : Gave) (open_picture : Option (OpenPicture (JobReport S))) (outstanding : List Bool) (b : Bool) → SenderStands codec m past → flag m.outstanding work.id ≡ true → outstanding ≡ set m.outstanding work.id false → is_open_job work.id m.open_picture ≡ b → open_picture ≡ option_map (with_report work.id (record { work = work; gave = gave })) m.open_picture → IsWorkOfItsJob codec past work → cond b Kept Late ≡ report_answer past work.id → SenderStands codec (with_seats m open_picture outstanding) (Report work.id gave (cond b Kept Late) ∷ past)
  reported_back m past work gave open_picture outstanding true s on marked known told own answer =
      let t = record (summary past) { reported = reported (Report work.id gave Kept ∷ past); is_outstanding = is_outstanding (Report work.id gave Kept ∷ past) } in
      let seated : open_picture ≡ option_map (open_in codec t) (opened past) = told ∙ (ap (option_map (with_report work.id (record { work = work; gave = gave }))) s.keeps.open_is ∙ kept_seats (summary past) t (opened past) work.id work gave refl refl (λ j. reported_more work.id gave past j) own) in
      let k = keeps_reported m (summary past) _ _ open_picture outstanding work.id s.keeps seated (flag_within m.outstanding work.id on) marked (λ j. refl) in
      record { legal = (answer, s.legal); keeps = subst (λ x. Keeps codec (with_seats m open_picture outstanding) x) (sym (parts_stay t past refl refl refl refl)) k }
  reported_back m past work gave open_picture outstanding false s on marked known told own answer =
      let t = record (summary past) { is_outstanding = is_outstanding (Report work.id gave Late ∷ past) } in
      let none : is_open_job work.id (option_map (open_in codec (summary past)) (opened past)) ≡ false = ap (is_open_job work.id) (sym s.keeps.open_is) ∙ known in
      let seated : open_picture ≡ option_map (open_in codec t) (opened past) = told ∙ (ap (option_map (with_report work.id (record { work = work; gave = gave }))) s.keeps.open_is ∙ late_seats (summary past) (opened past) work.id (record { work = work; gave = gave }) none) in
      let k = keeps_reported m (summary past) _ _ open_picture outstanding work.id s.keeps seated (flag_within m.outstanding work.id on) marked (λ j. refl) in
      record { legal = (answer, s.legal); keeps = subst (λ x. Keeps codec (with_seats m open_picture outstanding) x) (sym (parts_stay t past refl refl refl refl)) k }

  -- of a report whose job is out: its answer, and what the sender stands for then
  pub report_taken : (inside m : Machine S) (past : Past) (work : JobWork S) (gave : Gave) (id : ℕ) (open_picture : Option (OpenPicture (JobReport S))) (outstanding : List Bool) (b : Bool) (answer : Reported) → inside ≡ m → SenderStands codec m past → id ≡ work.id → true ≡ flag inside.outstanding id → outstanding ≡ set inside.outstanding id false → b ≡ is_open_job id inside.open_picture → open_picture ≡ option_map (with_report id (record { work = work; gave = gave })) inside.open_picture → answer ≡ cond b Kept Late → (answer ≡ report_answer past work.id) × (IsWorkOfItsJob codec past work → SenderStands codec (with_seats inside open_picture outstanding) (Report work.id gave answer ∷ past))
  report_taken inside m past work gave id open_picture outstanding b answer view s own on marked known told is =
      let s' : SenderStands codec inside past = subst (λ v. SenderStands codec v past) (sym view) s in
      let on' : flag inside.outstanding work.id ≡ true = ap (flag inside.outstanding) (sym own) ∙ sym on in
      let there : is_outstanding past work.id ≡ true = sym (s'.keeps.outstanding_are work.id) ∙ on' in
      let known' : is_open_job work.id inside.open_picture ≡ b = ap (λ i. is_open_job i inside.open_picture) (sym own) ∙ sym known in
      let same : list_any (λ job. eqb job.id work.id) (jobs_after (opened past)) ≡ b = known_open (summary past) (opened past) work.id ∙ (ap (is_open_job work.id) (sym s'.keeps.open_is) ∙ known') in
      let says : report_answer past work.id ≡ cond b Kept Late = answer_is past work.id b there same in
      let marked' : outstanding ≡ set inside.outstanding work.id false = marked ∙ ap (λ i. set inside.outstanding i false) own in
      let told' : open_picture ≡ option_map (with_report work.id (record { work = work; gave = gave })) inside.open_picture = told ∙ ap (λ i. option_map (with_report i (record { work = work; gave = gave })) inside.open_picture) own in
      (is ∙ sym says, λ mine. subst (λ a. SenderStands codec (with_seats inside open_picture outstanding) (Report work.id gave a ∷ past)) (sym is) (reported_back inside past work gave open_picture outstanding b s' on' marked' known' told' mine (sym says)))

  -- of a report whose job isn't out
  pub report_refused : (m : Machine S) (past : Past) (work : JobWork S) (gave : Gave) (id : ℕ) (outstanding : List Bool) → SenderStands codec m past → outstanding ≡ m.outstanding → id ≡ work.id → false ≡ flag outstanding id → (Stranger ≡ report_answer past work.id) × SenderStands codec m (Report work.id gave Stranger ∷ past)
  report_refused m past work gave id outstanding s same own off =
      let gone : is_outstanding past work.id ≡ false = sym (s.keeps.outstanding_are work.id) ∙ (ap (flag m.outstanding) (sym own) ∙ (ap (λ xs. flag xs id) (sym same) ∙ sym off)) in
      let says : Stranger ≡ report_answer past work.id = rw gone refl in
      let q = stands_quiet codec m past (Report work.id gave Stranger) s says (quiet_stranger past work.id gave) in
      (says, q.1)
