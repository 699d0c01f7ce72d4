-- What a sender keeps of a picture that is started.
use Rattle.std.proofs.Common.{◌≡◌, ◌≢◌, ℕ, suc, ◌+◌, ◌-◌, ◌<◌, ◌≤◌, max, Bool, true, false, cond, not, ◌&&◌, ◌||◌, List, [], ◌∷◌, ◌++◌, length, map, replicate, Option, Some, None, refl, ap, sym, ◌∙◌, subst, arith, eqb, leb, ltb, length-append, ◌⊎◌, inl, inr}
use Rattle.std.proofs.lemmas.Bool.{eqb-true, eqb-false, ne_eqb, le-leb, lt-leb, ltb-true, ltb-false}
use Rattle.std.proofs.lemmas.List.{append-nil, get_or_append_left, length-replicate, get_or-replicate}
use Rattle.std.proofs.Math.Seq.{get_or-append_right}
use Rattle.std.proofs.Math.ListN.{get_or-eq_default}
use Rattle.std.specs.List.{list_any, filter, find, slice_get, slice_index_or}
use Rattle.std.specs.Option.{option_map, unwrap_or, is_some}
use Rattle.sal_base.specs.Lists.{Each}
use Rattle.sal_base.specs.declared.picture.Picture.{Picture}
use Rattle.sal_codec.specs.Coding.{Coding}
use Rattle.sal_sender.specs.declared.choice.JobRole.{JobRole}
use Rattle.sal_sender.specs.declared.job_plan.JobPlan.{JobPlan}
use Rattle.sal_sender.specs.declared.answers.Next.TheVariants.{Started, NotChosen, Full, Memory as NextMemory}
use Rattle.sal_sender.specs.declared.answers.Reported.TheVariants.{Stranger, Late, Kept as KeptReport}
use Rattle.sal_sender.specs.declared.answers.Chosen.TheVariants.{NoPicture, Waiting, Sent, Nothing, Memory}
use Rattle.sal_sender.specs.Past.{Past, NextPicture, TakeJob, Report, Choose, Hear, choices, pictures, datagrams, opened, started, last_job, now, tip, tip_of, floor, floor_of, quantiser}
use Rattle.sal_chain.specs.Held.{name_in}
use Rattle.sal_sender.specs.Chain.{state, picture_at, target_of}
use Rattle.sal_sender.specs.OneThread.{Session}
use Rattle.sal_sender.specs.Acks.{acknowledged, safe, lost, heard}
use Rattle.sal_sender.specs.Jobs.{Job, kind_of, jobs, base, needs_spare, coarse_job, spare_job, fine_job}
use Rattle.sal_sender.specs.Choosing.{reported, first_in}
use Rattle.sal_sender.specs.Answers.{jobs_after, starts, next_answer, is_taken, is_outstanding, waiting_jobs}
use Rattle.sal_sender.specs.Promises.{IsLegalSender}
use Rattle.sal_sender.specs.SentFrames.{sent_frames_of, choices_from}
use Rattle.sal_sender.specs.Planned.{safe_of, base_of, plan_of, open_picture_of, kind_from, state_from, work_from, queue_of, after_start}
use Rattle.sal_sender.specs.Candidates.{queued}
use Rattle.sal_sender.specs.Sound.{IsFrom, AreChained}
use Rattle.sal_sender.proofs.ReportedBack.{open_parts}
use Rattle.sal_sender.specs.JobWork.{JobWork, JobReport}
use Rattle.sal_sender.specs.declared.open_picture.OpenPicture.{OpenPicture}
use Rattle.sal_base.specs.declared.coding.Kind.{Kind}
use Rattle.sal_sender.specs.Machine.{Machine, flag}
use Rattle.sal_sender.specs.Stands.{Summary, summary, work_in, candidate_in, spare_in, open_in, kept_in, Keeps, SenderStands}
use Rattle.sal_sender.proofs.Thread.{state_before, thread_of_legal}
use Rattle.sal_sender.proofs.Older.{zero_none}
use Rattle.sal_sender.proofs.Sound.{IsNear, base_from, safe_from, chained_of_legal, tip_is}
use Rattle.sal_sender.proofs.Chains.{kept_chain, safe_links, lost_links}
use Rattle.sal_sender.proofs.HandedOut.{IsRising, jobs_rising, ids_low, each_filter}
use Rattle.sal_sender.proofs.Quiet.{same_parts}
use Rattle.sal_sender.proofs.Heard.{floor_some}

any_low : (js : List Job) (last n : ℕ) → Each (λ j. j.id ≤ last) js → list_any (λ j. eqb j.id n) js ≡ true → n ≤ last
any_low [] last n e h = absurd (cc)
any_low (j ∷ js) last n e h = go (eqb j.id n) refl h (any_low js last n e.1)
  where
    go : (b : Bool) → eqb j.id n ≡ b → (b || list_any (λ x. eqb x.id n) js) ≡ true → (list_any (λ x. eqb x.id n) js ≡ true → n ≤ last) → n ≤ last
    go true q r more = let p : j.id ≡ n = eqb-true _ _ q in let low : j.id ≤ last = e.0 in omega arith
    go false q r more = more r

first_low : (js : List Job) (last n : ℕ) → Each (λ j. j.id ≤ last) js → Some n ≡ option_map (λ (j : Job). j.id) (first_in js) → n ≤ last
first_low [] last n e h = absurd (cc)
first_low (j ∷ js) last n e h = let p : n ≡ j.id = cc in let low : j.id ≤ last = e.0 in omega arith

wider : (js : List Job) (m n : ℕ) → m ≤ n → Each (λ j. j.id ≤ m) js → Each (λ j. j.id ≤ n) js
wider [] m n h e = tt
wider (j ∷ js) m n h e = ((let low : j.id ≤ m = e.0 in omega arith), wider js m n h e.1)

kept_answer : (a b : Bool) → KeptReport ≡ cond (not a) Stranger (cond b KeptReport Late) → b ≡ true
kept_answer true true h = refl
kept_answer true false h = absurd (cc)
kept_answer false b h = absurd (cc)

module _ {S : Type 0} (codec : Coding S) (session : Session) where
  -- the jobs of the open picture are none above the last
  opened_low : (past : Past) → IsLegalSender codec session past → Each (λ j. j.id ≤ last_job past) (jobs_after (opened past))
  opened_low [] legal = tt
  opened_low (NextPicture picture moment (Started n) ∷ past) legal = ids_low codec session (NextPicture picture moment (Started n) ∷ past) legal
  opened_low (NextPicture picture moment (NotChosen n) ∷ past) legal = wider _ _ _ (omega arith) (opened_low past legal.1)
  opened_low (NextPicture picture moment Full ∷ past) legal = wider _ _ _ (omega arith) (opened_low past legal.1)
  opened_low (NextPicture picture moment NextMemory ∷ past) legal = wider _ _ _ (omega arith) (opened_low past legal.1)
  opened_low (TakeJob answer ∷ past) legal = wider _ _ _ (omega arith) (opened_low past legal.1)
  opened_low (Report job gave answer ∷ past) legal = wider _ _ _ (omega arith) (opened_low past legal.1)
  opened_low (Hear came moment answer ∷ past) legal = wider _ _ _ (omega arith) (opened_low past legal.1)
  opened_low (Choose moment (Sent choice burst) ∷ past) legal = tt
  opened_low (Choose moment (Nothing budget sizes) ∷ past) legal = tt
  opened_low (Choose moment NoPicture ∷ past) legal = wider _ _ _ (omega arith) (opened_low past legal.1)
  opened_low (Choose moment (Waiting id) ∷ past) legal = wider _ _ _ (omega arith) (opened_low past legal.1)
  opened_low (Choose moment Memory ∷ past) legal = wider _ _ _ (omega arith) (opened_low past legal.1)

  -- nothing above the last job was reported
  reported_none : (past : Past) (id : ℕ) → IsLegalSender codec session past → last_job past < id → reported past id ≡ None
  reported_none [] id legal high = refl
  reported_none (NextPicture picture moment answer ∷ past) id legal high = reported_none past id legal.1 (omega (arith, high))
  reported_none (TakeJob answer ∷ past) id legal high = reported_none past id legal.1 (omega (arith, high))
  reported_none (Choose moment answer ∷ past) id legal high = reported_none past id legal.1 (omega (arith, high))
  reported_none (Hear came moment answer ∷ past) id legal high = reported_none past id legal.1 (omega (arith, high))
  reported_none (Report job gave Stranger ∷ past) id legal high = reported_none past id legal.1 (omega (arith, high))
  reported_none (Report job gave Late ∷ past) id legal high = reported_none past id legal.1 (omega (arith, high))
  reported_none (Report job gave KeptReport ∷ past) id legal high =
      let known : list_any (λ j. eqb j.id job) (jobs_after (opened past)) ≡ true = kept_answer (is_outstanding past job) _ legal.0 in
      let low : job ≤ last_job past = any_low (jobs_after (opened past)) (last_job past) job (opened_low past legal.1) known in
      let other : eqb job id ≡ false = ne_eqb job id (λ (q : job ≡ id). omega (arith, high)) in
      rw other (reported_none past id legal.1 (omega (arith, high)))

  -- nothing above the last job was handed out
  taken_none : (past : Past) (id : ℕ) → IsLegalSender codec session past → last_job past < id → is_taken past id ≡ false
  taken_none [] id legal high = refl
  taken_none (NextPicture picture moment answer ∷ past) id legal high = taken_none past id legal.1 (omega (arith, high))
  taken_none (TakeJob None ∷ past) id legal high = taken_none past id legal.1 (omega (arith, high))
  taken_none (TakeJob (Some job) ∷ past) id legal high =
      let low : job ≤ last_job past = first_low (waiting_jobs past) (last_job past) job (each_filter (λ j. j.id ≤ last_job past) (λ j. not (is_taken past j.id)) (jobs_after (started past)) (ids_low codec session past legal.1)) legal.0 in
      let other : eqb job id ≡ false = ne_eqb job id (λ (q : job ≡ id). omega (arith, high)) in
      rw other (taken_none past id legal.1 (omega (arith, high)))
  taken_none (Choose moment answer ∷ past) id legal high = taken_none past id legal.1 (omega (arith, high))
  taken_none (Hear came moment answer ∷ past) id legal high = taken_none past id legal.1 (omega (arith, high))
  taken_none (Report job gave answer ∷ past) id legal high = taken_none past id legal.1 (omega (arith, high))

  all_wait : (past : Past) (least : ℕ) (js : List Job) → IsLegalSender codec session past → last_job past < least → IsRising least js → filter (λ j. not (is_taken past j.id)) js ≡ js
  all_wait past least [] legal high r = refl
  all_wait past least (j ∷ js) legal high r =
      let a : least ≤ j.id = r.0 in
      let free : is_taken past j.id ≡ false = taken_none past j.id legal (omega arith) in
      rw free (ap (λ xs. j ∷ xs) (all_wait past (suc j.id) js legal (omega arith) r.1))

-- the chain goes by the links
safe_is_links : (past : Past) → AreChained (choices past) → safe past ≡ Rattle.sal_sender.specs.SentFrames.safe_in (sent_frames_of (acknowledged past) (choices past)) (tip past)
safe_is_links past chained =
    ap (λ ns. unwrap_or (find (λ n. list_any (λ m. eqb m n) (acknowledged past)) ns) 0) (kept_chain (floor past) (choices past) (tip past) chained)
    ∙ safe_links (acknowledged past) (choices_from (floor past) (choices past)) (tip past)

lost_is_links : (past : Past) → AreChained (choices past) → lost past ≡ Rattle.sal_sender.specs.SentFrames.lost_in (safe past) (heard past) (sent_frames_of (acknowledged past) (choices past)) (tip past)
lost_is_links past chained = lost_links (floor past) (safe past) (heard past) (acknowledged past) (choices past) (tip past) chained

module _ {S : Type 0} (codec : Coding S) where
  pub safe_is : (m : Machine S) (past : Past) → Keeps codec m (summary past) → AreChained (choices past) → safe_of m ≡ safe past
  safe_is m past k chained = rw (k.sent_frames_are, k.tip_is) (sym (safe_is_links past chained))

  pub lost_is : (m : Machine S) (past : Past) → Keeps codec m (summary past) → AreChained (choices past) → Rattle.sal_sender.specs.SentFrames.lost_in (safe_of m) m.acks.heard m.sent_frames m.tip ≡ lost past
  lost_is m past k chained = rw (safe_is m past k chained, k.heard_is, k.sent_frames_are, k.tip_is) (sym (lost_is_links past chained))

  base_is : (m : Machine S) (past : Past) → Keeps codec m (summary past) → AreChained (choices past) → base_of m ≡ base past
  base_is m past k chained = rw (lost_is m past k chained, safe_is m past k chained, k.tip_is, k.floor_is) refl

  -- the plan by the past
  abbrev past_plan : Past → JobPlan
  past_plan past = record {
    first = last_job past + 1;
    base = base past;
    safe = safe past;
    has_spare = needs_spare (base past) (safe past) (tip past);
    from_tip = eqb (base past) (tip past);
    q = quantiser past;
  }

  plan_is : (m : Machine S) (past : Past) → Keeps codec m (summary past) → AreChained (choices past) → plan_of m ≡ past_plan past
  plan_is m past k chained = rw (base_is m past k chained, safe_is m past k chained, k.tip_is, k.last_job_is, k.quantiser_is) refl

  -- the summary after a picture was started
  abbrev begun : Past → Picture → ℕ → Summary
  begun past picture moment = record (summary past) {
    shot = pictures past ++ picture ∷ [];
    now = max moment (now past);
    last_job = last_job past + length (jobs past);
    opened = Some past;
    waiting = jobs past;
  }

  seat_empty : (session : Session) (past : Past) (picture : Picture) (moment : ℕ) (job : Job) → IsLegalSender codec session past → last_job past < job.id → record { id = job.id; role = job.role; source = job.source; q = job.q; report = None } ≡ candidate_in codec (begun past picture moment) job
  seat_empty session past picture moment job legal high = rw (reported_none codec session past job.id legal high) refl

  spare_empty : (b : Bool) (session : Session) (past : Past) (picture : Picture) (moment : ℕ) (job : Job) → IsLegalSender codec session past → last_job past < job.id → cond b (Some (record { id = job.id; role = job.role; source = job.source; q = job.q; report = None })) None ≡ spare_in codec b (begun past picture moment) job
  spare_empty true session past picture moment job legal high = ap (λ s. Some s) (seat_empty session past picture moment job legal high)
  spare_empty false session past picture moment job legal high = refl

  fine_high : (b : Bool) (last : ℕ) → last < cond b ((last + 1) + 2) ((last + 1) + 1)
  fine_high true last = omega arith
  fine_high false last = omega arith

  seats_are : (session : Session) (past : Past) (picture : Picture) (moment : ℕ) → IsLegalSender codec session past → open_picture_of (past_plan past) ≡ open_in codec (begun past picture moment) past
  seats_are session past picture moment legal =
      open_parts _ _ _ _ _ _ _
      (seat_empty session past picture moment (coarse_job (last_job past + 1) (base past) (quantiser past)) legal (omega arith))
      (spare_empty (needs_spare (base past) (safe past) (tip past)) session past picture moment (spare_job ((last_job past + 1) + 1) (safe past) (quantiser past)) legal (omega arith))
      (seat_empty session past picture moment (fine_job (cond (needs_spare (base past) (safe past) (tip past)) ((last_job past + 1) + 2) ((last_job past + 1) + 1)) (base past) (quantiser past)) legal (fine_high (needs_spare (base past) (safe past) (tip past)) (last_job past)))

get_last : {X : Type 0} (xs : List X) (x : X) → slice_get (xs ++ x ∷ []) (length xs) ≡ Some x
get_last [] x = refl
get_last (y ∷ xs) x = get_last xs x

picture_last : (shot : List Picture) (p : Picture) → picture_at (shot ++ p ∷ []) (length (shot ++ p ∷ [])) ≡ p
picture_last shot p =
    let long : length (shot ++ p ∷ []) - 1 ≡ length shot = omega (arith, length-append shot (p ∷ [])) in
    rw (long, get_last shot p) refl

module _ {S : Type 0} (codec : Coding S) where
  found_step : (b : Bool) (s : Summary) (shot : List Picture) (n : ℕ) → eqb n 0 ≡ b → AreChained s.chosen → IsNear s.chosen n → state codec shot s.chosen n ≡ state codec s.shot s.chosen n → (kind_from (kept_in codec s n) ≡ kind_of n) × (state_from codec (kept_in codec s n) ≡ state codec shot s.chosen n)
  found_step true s shot n e chained near same =
      let z : n ≡ 0 = eqb-true _ _ e in
      let some : 1 ≤ floor_of s.chosen = floor_some s.chosen chained in
      let low : leb (floor_of s.chosen) n ≡ false = lt-leb (floor_of s.chosen) n (omega arith) in
      let first : state codec shot s.chosen n ≡ codec.initial = ap (state codec shot s.chosen) z ∙ ap (target_of codec) (zero_none codec shot s.chosen chained) in
      (rw (low, e) refl, rw low (sym first))
  found_step false s shot n e chained near same =
      let above : floor_of s.chosen ≤ n = not_zero near.0 in
      let low : leb (floor_of s.chosen) n ≡ true = le-leb (floor_of s.chosen) n above in
      let high : leb n (tip_of s.chosen) ≡ true = le-leb n (tip_of s.chosen) (omega (arith, near.1, tip_is s.chosen chained)) in
      (rw (low, high, e) refl, rw (low, high) (sym same))
    where
      not_zero : IsFrom (floor_of s.chosen) n → floor_of s.chosen ≤ n
      not_zero (inl z) = absurd (eqb-false _ _ e z)
      not_zero (inr h) = h

  work_parts : (id picture picture' : ℕ) (role : JobRole) (q : ℕ) (kind kind' : Kind) (source source' : S) (samples samples' : Picture) → picture ≡ picture' → kind ≡ kind' → source ≡ source' → samples ≡ samples' → ◌≡◌ {A = JobWork S} (record { id = id; picture = picture; role = role; q = q; kind = kind; source = source; samples = samples }) (record { id = id; picture = picture'; role = role; q = q; kind = kind'; source = source'; samples = samples' })
  work_parts id picture picture' role q kind kind' source source' samples samples' a b c d = cc

  -- a job by what is kept
  work_is : (m : Machine S) (past : Past) (picture : Picture) (job : Job) → SenderStands codec m past → IsNear (choices past) job.source → work_from codec m picture job.id job.role job.source job.q ≡ work_in codec (pictures past ++ picture ∷ []) (choices past) job
  work_is m past picture job s near =
      let chained = chained_of_legal codec m.session past s.legal in
      let same : state codec (pictures past ++ picture ∷ []) (choices past) job.source ≡ state codec (pictures past) (choices past) job.source = state_before codec (pictures past) (picture ∷ []) (choices past) job.source (thread_of_legal codec m.session past s.legal).shot in
      let found = found_step (eqb job.source 0) (summary past) (pictures past ++ picture ∷ []) job.source refl chained near same in
      work_parts job.id _ _ job.role job.q _ _ _ _ _ _
      (omega (arith, s.keeps.pictures_is, length-append (pictures past) (picture ∷ [])))
      (ap (λ o. kind_from o) (s.keeps.states_are job.source) ∙ found.0)
      (ap (state_from codec) (s.keeps.states_are job.source) ∙ found.1)
      (sym (picture_last (pictures past) picture))

  listed_step : (b : Bool) (c p : JobWork S) (f : JobWork S) (x y : Job) (fine : ℕ → Job) (first : ℕ) (work : Job → JobWork S) → c ≡ work x → p ≡ work y → f ≡ work (fine (cond b (first + 2) (first + 1))) → queued (record { coarse = Some c; spare = cond b (Some p) None; fine = Some f }) ≡ map work (cond b (x ∷ y ∷ fine (first + 2) ∷ []) (x ∷ fine (first + 1) ∷ []))
  listed_step true c p f x y fine first work a d e = rw (a, d, e) refl
  listed_step false c p f x y fine first work a d e = rw (a, e) refl

  queue_is : (m : Machine S) (past : Past) (picture : Picture) → SenderStands codec m past → queued (queue_of codec m picture (past_plan codec past)) ≡ map (work_in codec (pictures past ++ picture ∷ []) (choices past)) (jobs past)
  queue_is m past picture s =
      let chained = chained_of_legal codec m.session past s.legal in
      let spared : Bool = needs_spare (base past) (safe past) (tip past) in
      let first : ℕ = last_job past + 1 in
      listed_step spared _ _ _ (coarse_job first (base past) (quantiser past)) (spare_job (first + 1) (safe past) (quantiser past)) (λ n. fine_job n (base past) (quantiser past)) first (work_in codec (pictures past ++ picture ∷ []) (choices past))
      (work_is m past picture (coarse_job first (base past) (quantiser past)) s (base_from past chained))
      (work_is m past picture (spare_job (first + 1) (safe past) (quantiser past)) s (safe_from past chained))
      (work_is m past picture (fine_job (cond spared (first + 2) (first + 1)) (base past) (quantiser past)) s (base_from past chained))

flag_more : (b : Bool) (outstanding : List Bool) (count j : ℕ) → ltb j (length outstanding) ≡ b → flag (outstanding ++ replicate count false) j ≡ flag outstanding j
flag_more true outstanding count j e = get_or_append_left outstanding (replicate count false) false j (ltb-true _ _ e)
flag_more false outstanding count j e =
    let high : length outstanding ≤ j = ltb-false _ _ e in
    get_or-append_right outstanding (replicate count false) j false high ∙ (none_set (ltb (j - length outstanding) count) count (j - length outstanding) refl ∙ sym (get_or-eq_default outstanding false high))
  where
    none_set : (d : Bool) (n i : ℕ) → ltb i n ≡ d → slice_index_or (replicate n false) i false ≡ false
    none_set true n i q = get_or-replicate n i false false (ltb-true _ _ q)
    none_set false n i q = get_or-eq_default (replicate n false) false (let h : n ≤ i = ltb-false _ _ q in let l : length (replicate n false) ≡ n = length-replicate n false in omega arith)

count_step : (b : Bool) (c p f g : Job) → cond b 3 2 ≡ length (cond b (c ∷ p ∷ f ∷ []) (c ∷ g ∷ []))
count_step true c p f g = refl
count_step false c p f g = refl

module _ {S : Type 0} (codec : Coding S) where
  keeps_started : (m : Machine S) (past : Past) (picture : Picture) (moment : ℕ) → SenderStands codec m past → Keeps codec (after_start codec m picture moment) (begun codec past picture moment)
  keeps_started m past picture moment s =
      let k = s.keeps in
      let chained = chained_of_legal codec m.session past s.legal in
      let plan : plan_of m ≡ past_plan codec past = plan_is codec m past k chained in
      let count : Rattle.sal_sender.specs.Planned.job_count (plan_of m) ≡ length (jobs past) = ap (λ (p : JobPlan). cond p.has_spare 3 2) plan ∙ count_step (needs_spare (base past) (safe past) (tip past)) _ _ _ _ in
      let long : length (m.outstanding ++ replicate (Rattle.sal_sender.specs.Planned.job_count (plan_of m)) false) ≡ length m.outstanding + length (jobs past) = length-append m.outstanding _ ∙ (ap (λ n. length m.outstanding + n) (length-replicate (Rattle.sal_sender.specs.Planned.job_count (plan_of m)) false ∙ count)) in
      record {
        tip_is = k.tip_is;
        floor_is = k.floor_is;
        sent_is = k.sent_is;
        pictures_is = omega (arith, k.pictures_is, length-append (pictures past) (picture ∷ []));
        last_job_is = omega (arith, k.last_job_is, count);
        quantiser_is = k.quantiser_is;
        heard_is = k.heard_is;
        average_is = k.average_is;
        heard_at_is = k.heard_at_is;
        moment_is = omega (arith, k.moment_is);
        sent_frames_are = k.sent_frames_are;
        states_are = λ n. k.states_are n ∙ ap (λ x. cond (leb (floor past) n && leb n (tip past)) (Some (record { number = n; name = record { 0 = name_in codec x }; state = x })) None) (sym (state_before codec (pictures past) (picture ∷ []) (choices past) n (thread_of_legal codec m.session past s.legal).shot));
        open_is = ap (λ p. Some (open_picture_of p)) plan ∙ ap (λ o. Some o) (seats_are codec m.session past picture moment s.legal);
        waiting_are = ap (λ p. queued (queue_of codec m picture p)) plan ∙ queue_is codec m past picture s;
        outstanding_long = omega (arith, long, k.outstanding_long);
        outstanding_are = λ j. flag_more (ltb j (length m.outstanding)) m.outstanding (Rattle.sal_sender.specs.Planned.job_count (plan_of m)) j refl ∙ k.outstanding_are j;
      }

  pub none_open : (past : Past) (m : Machine S) → Keeps codec m (summary past) → m.open_picture ≡ None → opened past ≡ None
  none_open past m k h = go (opened past) refl (sym k.open_is ∙ h)
    where
      go : (o : Option Past) → opened past ≡ o → option_map (open_in codec (summary past)) o ≡ None → opened past ≡ None
      go None e q = e
      go (Some before) e q = absurd (cc)

  -- a sender starts a picture
  pub start_taken : (inside m : Machine S) (past : Past) (picture : Picture) (moment : ℕ) (count : ℕ) → inside ≡ m → SenderStands codec m past → inside.open_picture ≡ None → inside.pictures ≢ 1048575 → count ≡ Rattle.sal_sender.specs.Planned.job_count (plan_of inside) → (Started count ≡ next_answer past) × SenderStands codec (after_start codec inside picture moment) (NextPicture picture moment (Started count) ∷ past)
  start_taken inside m past picture moment count view s' free few own =
      let s : SenderStands codec inside past = subst (λ v. SenderStands codec v past) (sym view) s' in
      let chained = chained_of_legal codec inside.session past s.legal in
      let plan : plan_of inside ≡ past_plan codec past = plan_is codec inside past s.keeps chained in
      let counted : count ≡ length (jobs past) = own ∙ (ap (λ (p : JobPlan). cond p.has_spare 3 2) plan ∙ count_step (needs_spare (base past) (safe past) (tip past)) _ _ _ _) in
      let shut : opened past ≡ None = none_open past inside s.keeps free in
      let room : eqb (length (pictures past)) 1048575 ≡ false = ne_eqb (length (pictures past)) 1048575 (λ (q : length (pictures past) ≡ 1048575). few (s.keeps.pictures_is ∙ q)) in
      let says : Started (length (jobs past)) ≡ next_answer past = rw (shut, room) refl in
      let t = begun codec past picture moment in
      let waits : waiting_jobs (NextPicture picture moment (Started (length (jobs past))) ∷ past) ≡ jobs past = all_wait codec inside.session past (last_job past + 1) (jobs past) s.legal (omega arith) (jobs_rising past) in
      let whole : summary (NextPicture picture moment (Started (length (jobs past))) ∷ past) ≡ t = started_summary past picture moment waits in
      let both : (Started (length (jobs past)) ≡ next_answer past) × SenderStands codec (after_start codec inside picture moment) (NextPicture picture moment (Started (length (jobs past))) ∷ past) = (says, record { legal = (inl says, s.legal); keeps = subst (λ x. Keeps codec (after_start codec inside picture moment) x) (sym whole) (keeps_started inside past picture moment s) }) in
      subst (λ n. (Started n ≡ next_answer past) × SenderStands codec (after_start codec inside picture moment) (NextPicture picture moment (Started n) ∷ past)) (sym counted) both
    where
      started_summary : (p : Past) (picture : Picture) (moment : ℕ) → waiting_jobs (NextPicture picture moment (Started (length (jobs p))) ∷ p) ≡ jobs p → summary (NextPicture picture moment (Started (length (jobs p))) ∷ p) ≡ begun codec p picture moment
      started_summary p picture moment w =
          rw w (same_parts (begun codec p picture moment) (pictures p ++ picture ∷ []) (max moment (now p)) (length (datagrams p ++ [])) (length (jobs p) + last_job p) refl refl (ap (λ (xs : List (List ℕ)). length xs) (append-nil (datagrams p))) (omega arith))

none_if : {X : Type 0} (b : Bool) (o : Option X) → b ≡ is_some o → b ≡ false → o ≡ None
none_if b None e h = refl
none_if b (Some x) e h = absurd (let q : true ≡ false = sym e ∙ h in cc)

-- of a started picture, with what the sender was
pub start_answered : {S : Type 0} (codec : Coding S) (m new : Machine S) (inside : Option (OpenPicture (JobReport S))) (past : Past) (picture : Picture) (moment count : ℕ) (b : Bool) → SenderStands codec m past → inside ≡ m.open_picture → b ≡ is_some inside → b ≡ false → m.pictures < 1048575 → count ≡ Rattle.sal_sender.specs.Planned.job_count (plan_of m) → new ≡ after_start codec m picture moment → ((Started count ≡ next_answer past) ⊎ (Started count ≡ NextMemory)) × SenderStands codec new (NextPicture picture moment (Started count) ∷ past)
start_answered codec m new inside past picture moment count b s view told shut few own after =
    let both = start_taken codec m m past picture moment count refl s (sym view ∙ none_if b inside told shut) (λ (q : m.pictures ≡ 1048575). omega arith) own in
    (inl both.0, subst (λ v. SenderStands codec v (NextPicture picture moment (Started count) ∷ past)) (sym after) both.1)

-- of a picture that isn't started for want of memory
pub may_start : {S : Type 0} (codec : Coding S) (m : Machine S) (inside : Option (OpenPicture (JobReport S))) (past : Past) (b : Bool) → SenderStands codec m past → inside ≡ m.open_picture → b ≡ is_some inside → b ≡ false → m.pictures < 1048575 → starts (next_answer past) ≡ true
may_start codec m inside past b s view told shut few =
    let free : opened past ≡ None = none_open codec past m s.keeps (sym view ∙ none_if b inside told shut) in
    let count : m.pictures ≡ length (pictures past) = s.keeps.pictures_is in
    let room : eqb (length (pictures past)) 1048575 ≡ false = ne_eqb (length (pictures past)) 1048575 (λ (q : length (pictures past) ≡ 1048575). omega arith) in
    rw (free, room) refl
