-- Jobs that are handed out.
use Rattle.std.proofs.Common.{◌≡◌, ℕ, suc, ◌+◌, ◌<◌, ◌≤◌, Bool, true, false, cond, not, ◌||◌, List, [], ◌∷◌, length, map, drop, Option, Some, None, refl, ap, sym, ◌∙◌, subst, arith, eqb, inl, inr, ◌⊎◌}
use Rattle.std.proofs.lemmas.Bool.{eq-eqb, ne_eqb, eqb-true, eqb-false}
use Rattle.std.proofs.lemmas.List.{get_or-set_same, get_or-set_other, length-set}
use Rattle.std.proofs.Math.ListN.{set}
use Rattle.std.specs.List.{filter}
use Rattle.std.specs.Option.{option_map, is_some}
use Rattle.sal_base.specs.Lists.{Each}
use Rattle.sal_codec.specs.Coding.{Coding}
use Rattle.sal_sender.specs.declared.answers.Next.TheVariants.{Started, NotChosen, Full, Memory as NextMemory}
use Rattle.sal_sender.specs.Past.{Past, NextPicture, TakeJob, Report, Choose, Hear, pictures, opened, started, last_job, tip}
use Rattle.sal_sender.specs.OneThread.{Session}
use Rattle.sal_sender.specs.Jobs.{Job, jobs, base, needs_spare}
use Rattle.sal_sender.specs.Acks.{safe}
use Rattle.sal_sender.specs.Answers.{jobs_after, next_answer, take_answer, is_taken, is_outstanding, waiting_jobs, IsLeastWaiting}
use Rattle.sal_sender.specs.Promises.{IsLegalSender}
use Rattle.sal_sender.specs.Machine.{Machine, flag}
use Rattle.sal_sender.specs.declared.open_picture.JobQueue.{JobQueue}
use Rattle.sal_sender.specs.Choosing.{first_in}
use Rattle.sal_sender.specs.Candidates.{queued}
use Rattle.sal_sender.specs.JobWork.{JobWork}
use Rattle.sal_sender.specs.Stands.{summary, work_of, Keeps, SenderStands}
use Rattle.sal_sender.proofs.Quiet.{parts_stay}

-- numbers rise from at least this one
abbrev pub IsRising : ℕ → List Job → Type 0
IsRising least [] = Unit {0}
IsRising least (j ∷ js) = (least ≤ j.id) × IsRising (suc j.id) js

rising_lower : (least low : ℕ) (xs : List Job) → low ≤ least → IsRising least xs → IsRising low xs
rising_lower least low [] h r = tt
rising_lower least low (x ∷ xs) h r = ((let a : least ≤ x.id = r.0 in omega arith), r.1)

rising_step : (b : Bool) (least : ℕ) (x : Job) (ys : List Job) → least ≤ x.id → IsRising (suc x.id) ys → IsRising least (cond b (x ∷ ys) ys)
rising_step true least x ys low r = (low, r)
rising_step false least x ys low r = rising_lower (suc x.id) least ys (omega arith) r

rising_filter : (p : Job → Bool) (least : ℕ) (xs : List Job) → IsRising least xs → IsRising least (filter p xs)
rising_filter p least [] r = tt
rising_filter p least (x ∷ xs) r = rising_step (p x) least x (filter p xs) r.0 (rising_filter p (suc x.id) xs r.1)

plan_rising : (b : Bool) (first : ℕ) (c s f g : Job) → c.id ≡ first → s.id ≡ first + 1 → f.id ≡ first + 2 → g.id ≡ first + 1 → IsRising first (cond b (c ∷ s ∷ f ∷ []) (c ∷ g ∷ []))
plan_rising true first c s f g p q r t = (omega (arith, p), (omega (arith, p, q), (omega (arith, q, r), tt)))
plan_rising false first c s f g p q r t = (omega (arith, p), (omega (arith, p, t), tt))

pub jobs_rising : (before : Past) → IsRising (last_job before + 1) (jobs before)
jobs_rising before = plan_rising (needs_spare (base before) (safe before) (tip before)) (last_job before + 1) _ _ _ _ refl refl refl refl

after_rising : (o : Option Past) → IsRising 0 (jobs_after o)
after_rising None = tt
after_rising (Some before) = rising_lower (last_job before + 1) 0 (jobs before) (omega arith) (jobs_rising before)

both_step : (a b : Bool) (x : Job) (p : Job → Bool) (ys zs : List Job) → p x ≡ not a → ys ≡ filter p zs → cond (not (a || b)) (x ∷ ys) ys ≡ filter p (cond (not b) (x ∷ zs) zs)
both_step true true x p ys zs e h = h
both_step true false x p ys zs e h = rw e h
both_step false true x p ys zs e h = h
both_step false false x p ys zs e h = rw e (ap (λ ws. x ∷ ws) h)

-- two tests in a row
filter_both : (id : ℕ) (t : Job → Bool) (xs : List Job) → filter (λ j. not (eqb id j.id || t j)) xs ≡ filter (λ j. not (eqb id j.id)) (filter (λ j. not (t j)) xs)
filter_both id t [] = refl
filter_both id t (x ∷ xs) = both_step (eqb id x.id) (t x) x (λ j. not (eqb id j.id)) (filter (λ j. not (eqb id j.id || t j)) xs) (filter (λ j. not (t j)) xs) refl (filter_both id t xs)

-- higher numbers are others
keep_higher : (id least : ℕ) (xs : List Job) → id < least → IsRising least xs → filter (λ j. not (eqb id j.id)) xs ≡ xs
keep_higher id least [] low r = refl
keep_higher id least (x ∷ xs) low r =
    let a : least ≤ x.id = r.0 in
    let e : eqb id x.id ≡ false = ne_eqb id x.id (λ (q : id ≡ x.id). omega arith) in
    rw e (ap (λ ws. x ∷ ws) (keep_higher id (suc x.id) xs (omega arith) r.1))

drop_first : (x : Job) (rest : List Job) → IsRising 0 (x ∷ rest) → filter (λ j. not (eqb x.id j.id)) (x ∷ rest) ≡ rest
drop_first x rest r = rw (eq-eqb x.id x.id refl) (keep_higher x.id (suc x.id) rest (omega arith) r.1)

-- what waits after the first one was handed out
pub waiting_taken : (past : Past) (x : Job) (rest : List Job) → waiting_jobs past ≡ x ∷ rest → waiting_jobs (TakeJob (Some x.id) ∷ past) ≡ rest
waiting_taken past x rest h =
    let r : IsRising 0 (waiting_jobs past) = rising_filter (λ job. not (is_taken past job.id)) 0 (jobs_after (started past)) (after_rising (started past)) in
    filter_both x.id (λ j. is_taken past j.id) (jobs_after (started past)) ∙ (ap (filter (λ j. not (eqb x.id j.id))) h ∙ drop_first x rest (subst (λ js. IsRising 0 js) h r))

mark_step : (b : Bool) (id j : ℕ) (value : Bool) (outstanding : List Bool) → eqb id j ≡ b → id < length outstanding → flag (set outstanding id value) j ≡ cond b value (flag outstanding j)
mark_step true id j value outstanding e h = let p : id ≡ j = eqb-true _ _ e in subst (λ k. flag (set outstanding id value) k ≡ value) p (get_or-set_same outstanding id value false h)
mark_step false id j value outstanding e h = get_or-set_other outstanding id j value false (λ (p : j ≡ id). eqb-false _ _ e (sym p))

-- one flag is set and the others stay
pub flag_marked : (id j : ℕ) (value : Bool) (outstanding : List Bool) → id < length outstanding → flag (set outstanding id value) j ≡ cond (eqb id j) value (flag outstanding j)
flag_marked id j value outstanding h = mark_step (eqb id j) id j value outstanding refl h

-- how many jobs a started picture has
started_count : (a b : Bool) (k len n : ℕ) → Started n ≡ cond a (NotChosen k) (cond b Full (Started len)) → n ≡ len
started_count true b k len n h = absurd (cc)
started_count false true k len n h = absurd (cc)
started_count false false k len n h = cc

plan_low : (b : Bool) (last : ℕ) (c s f g : Job) → c.id ≡ last + 1 → s.id ≡ (last + 1) + 1 → f.id ≡ (last + 1) + 2 → g.id ≡ (last + 1) + 1 → (n : ℕ) → n ≡ length (cond b (c ∷ s ∷ f ∷ []) (c ∷ g ∷ [])) → Each (λ j. j.id ≤ n + last) (cond b (c ∷ s ∷ f ∷ []) (c ∷ g ∷ []))
plan_low true last c s f g p q r t n h = (omega (arith, p, h), (omega (arith, q, h), (omega (arith, r, h), tt)))
plan_low false last c s f g p q r t n h = (omega (arith, p, h), (omega (arith, t, h), tt))

jobs_low : (before : Past) (n : ℕ) → n ≡ length (jobs before) → Each (λ j. j.id ≤ n + last_job before) (jobs before)
jobs_low before n h = plan_low (needs_spare (base before) (safe before) (tip before)) (last_job before) _ _ _ _ refl refl refl refl n h

next_count : (past : Past) (n : ℕ) → (Started n ≡ next_answer past) ⊎ (Started n ≡ NextMemory) → n ≡ length (jobs past)
next_count past n (inl h) = started_count (is_some (opened past)) (eqb (length (pictures past)) 1048575) (length (pictures past)) (length (jobs past)) n h
next_count past n (inr h) = absurd (cc)

same_low : (js : List Job) (m n : ℕ) → m ≡ n → Each (λ j. j.id ≤ m) js → Each (λ j. j.id ≤ n) js
same_low js m n e h = subst (λ k. Each (λ j. j.id ≤ k) js) e h

-- the jobs of the newest picture are none above the last
pub ids_low : {S : Type 0} (codec : Coding S) (session : Session) (past : Past) → IsLegalSender codec session past → Each (λ j. j.id ≤ last_job past) (jobs_after (started past))
ids_low codec session [] legal = tt
ids_low codec session (NextPicture picture moment (Started n) ∷ past) legal = jobs_low past n (next_count past n legal.0)
ids_low codec session (NextPicture picture moment (NotChosen n) ∷ past) legal = same_low _ _ _ (omega arith) (ids_low codec session past legal.1)
ids_low codec session (NextPicture picture moment Full ∷ past) legal = same_low _ _ _ (omega arith) (ids_low codec session past legal.1)
ids_low codec session (NextPicture picture moment NextMemory ∷ past) legal = same_low _ _ _ (omega arith) (ids_low codec session past legal.1)
ids_low codec session (TakeJob answer ∷ past) legal = same_low _ _ _ (omega arith) (ids_low codec session past legal.1)
ids_low codec session (Report job gave answer ∷ past) legal = same_low _ _ _ (omega arith) (ids_low codec session past legal.1)
ids_low codec session (Choose moment answer ∷ past) legal = same_low _ _ _ (omega arith) (ids_low codec session past legal.1)
ids_low codec session (Hear came moment answer ∷ past) legal = same_low _ _ _ (omega arith) (ids_low codec session past legal.1)

pub each_filter : (P : Job → Type 0) (p : Job → Bool) (xs : List Job) → Each P xs → Each P (filter p xs)
each_filter P p [] h = tt
each_filter P p (x ∷ xs) h = go (p x) (filter p xs) h.0 (each_filter P p xs h.1)
  where
    go : (b : Bool) (ys : List Job) → P x → Each P ys → Each P (cond b (x ∷ ys) ys)
    go true ys q r = (q, r)
    go false ys q r = r

-- the first of a list that is told by another
pub first_told : {X Y : Type 0} (f : X → Y) (js : List X) (xs : List Y) (w : Y) → xs ≡ map f js → first_in xs ≡ Some w → (x : X) × ((rest : List X) × (js ≡ x ∷ rest) × (f x ≡ w) × (drop 1 xs ≡ map f rest))
first_told f [] xs w e h = absurd (let n : first_in xs ≡ None = ap first_in e in cc)
first_told f (x ∷ rest) xs w e h = (x, (rest, refl, (let n : first_in xs ≡ Some (f x) = ap first_in e in cc), ap (drop 1) e))

-- the first of a list that is told by another, or none
pub first_of_map : {X Y : Type 0} (f : X → Y) (js : List X) → first_in (map f js) ≡ option_map f (first_in js)
first_of_map f [] = refl
first_of_map f (x ∷ rest) = refl

pub rising_least : (least : ℕ) (xs : List Job) → IsRising least xs → Each (λ j. least ≤ j.id) xs
rising_least least [] r = tt
rising_least least (x ∷ xs) r = (r.0, rising_least least xs (rising_lower (suc x.id) least xs (omega (arith, r.0)) r.1))

first_rising : (least : ℕ) (xs : List Job) (x : Job) → first_in xs ≡ Some x → IsRising least xs → Each (λ j. x.id ≤ j.id) xs
first_rising least [] x e r = absurd (cc)
first_rising least (y ∷ xs) x e r =
    let own : y ≡ x = cc in
    subst (λ (z : Job). Each (λ j. z.id ≤ j.id) (y ∷ xs)) own (omega arith, rising_least y.id xs (rising_lower (suc y.id) y.id xs (omega arith) r.1))

-- the first that waits has the least id
pub first_least : (past : Past) (x : Job) → first_in (waiting_jobs past) ≡ Some x → IsLeastWaiting past x.id
first_least past x e = first_rising 0 (waiting_jobs past) x e (rising_filter (λ job. not (is_taken past job.id)) 0 (jobs_after (started past)) (after_rising (started past)))

-- a machine with a job handed out
abbrev pub with_taken : {S : Type 0} → Machine S → JobQueue (JobWork S) → List Bool → Machine S
with_taken m queue outstanding = record m { waiting = queue; outstanding = outstanding }

module _ {S : Type 0} (codec : Coding S) where
  keeps_taken : (m : Machine S) (past : Past) (queue : JobQueue (JobWork S)) (outstanding : List Bool) (x : Job) (rest : List Job) → Keeps codec m (summary past) → waiting_jobs past ≡ x ∷ rest → x.id ≤ last_job past → queued queue ≡ map (work_of codec past) rest → outstanding ≡ set m.outstanding x.id true → Keeps codec (with_taken m queue outstanding) (record (summary past) { waiting = waiting_jobs (TakeJob (Some x.id) ∷ past); is_outstanding = is_outstanding (TakeJob (Some x.id) ∷ past) })
  keeps_taken m past queue outstanding x rest k waits low told marked = record {
    tip_is = k.tip_is;
    floor_is = k.floor_is;
    sent_is = k.sent_is;
    pictures_is = k.pictures_is;
    last_job_is = k.last_job_is;
    quantiser_is = k.quantiser_is;
    heard_is = k.heard_is;
    average_is = k.average_is;
    heard_at_is = k.heard_at_is;
    moment_is = k.moment_is;
    sent_frames_are = k.sent_frames_are;
    states_are = k.states_are;
    open_is = k.open_is;
    waiting_are = told ∙ ap (map (work_of codec past)) (sym (waiting_taken past x rest waits));
    outstanding_long = subst (λ (xs : List Bool). last_job past < length xs) (sym marked) (omega (arith, length-set m.outstanding x.id true, k.outstanding_long));
    outstanding_are = λ id. ap (λ xs. flag xs id) marked ∙ (flag_marked x.id id true m.outstanding (omega (arith, k.outstanding_long)) ∙ or_step (eqb x.id id) (flag m.outstanding id) (is_outstanding past id) (k.outstanding_are id));
  }
    where
      or_step : (b : Bool) (p q : Bool) → p ≡ q → cond b true p ≡ (b || q)
      or_step true p q e = refl
      or_step false p q e = e

  -- a sender that hands out the first job that waits
  pub taken : (inside m : Machine S) (past : Past) (queue : JobQueue (JobWork S)) (outstanding : List Bool) (w : JobWork S) (id : ℕ) → inside ≡ m → SenderStands codec m past → first_in (queued inside.waiting) ≡ Some w → queued queue ≡ drop 1 (queued inside.waiting) → id ≡ w.id → outstanding ≡ set inside.outstanding id true → (Some w.id ≡ take_answer past) × SenderStands codec (with_taken inside queue outstanding) (TakeJob (Some w.id) ∷ past)
  taken inside m past queue outstanding w id view s first tail own marked =
      let s' : SenderStands codec inside past = subst (λ v. SenderStands codec v past) (sym view) s in
      let told = first_told (work_of codec past) (waiting_jobs past) (queued inside.waiting) w s'.keeps.waiting_are first in
      let x : Job = told.0 in
      let rest : List Job = told.1.0 in
      let waits : waiting_jobs past ≡ x ∷ rest = told.1.1 in
      let name : x.id ≡ w.id = ap (λ (v : JobWork S). v.id) told.1.2 in
      let low : Each (λ j. j.id ≤ last_job past) (x ∷ rest) = subst (λ js. Each (λ j. j.id ≤ last_job past) js) waits (each_filter (λ j. j.id ≤ last_job past) (λ job. not (is_taken past job.id)) (jobs_after (started past)) (ids_low codec inside.session past s'.legal)) in
      let answer : Some x.id ≡ take_answer past = sym (ap (λ js. option_map (λ (j : Job). j.id) (first_in js)) waits) in
      let marks : outstanding ≡ set inside.outstanding x.id true = marked ∙ ap (λ i. set inside.outstanding i true) (own ∙ sym name) in
      let k = keeps_taken inside past queue outstanding x rest s'.keeps waits low.0 (tail ∙ told.1.3) marks in
      let e = parts_stay (record (summary past) { waiting = waiting_jobs (TakeJob (Some x.id) ∷ past); is_outstanding = is_outstanding (TakeJob (Some x.id) ∷ past) }) past refl refl refl refl in
      let both : (Some x.id ≡ take_answer past) × SenderStands codec (with_taken inside queue outstanding) (TakeJob (Some x.id) ∷ past) = (answer, record { legal = (answer, s'.legal); keeps = subst (λ y. Keeps codec (with_taken inside queue outstanding) y) (sym e) k }) in
      subst (λ n. (Some n ≡ take_answer past) × SenderStands codec (with_taken inside queue outstanding) (TakeJob (Some n) ∷ past)) name both

  -- what waits first by what is kept is what waits first by the calls so far
  pub waits_first : (inside m : Machine S) (past : Past) (o : Option (JobWork S)) → inside ≡ m → SenderStands codec m past → o ≡ first_in (queued inside.waiting) → o ≡ option_map (work_of codec past) (first_in (waiting_jobs past))
  waits_first inside m past o view s first =
      let s' : SenderStands codec inside past = subst (λ v. SenderStands codec v past) (sym view) s in
      first ∙ (ap first_in s'.keeps.waiting_are ∙ first_of_map (work_of codec past) (waiting_jobs past))

  least_of_first : (past : Past) (w : JobWork S) (o : Option Job) → first_in (waiting_jobs past) ≡ o → Some w ≡ option_map (work_of codec past) o → IsLeastWaiting past w.id
  least_of_first past w None e h = absurd (cc)
  least_of_first past w (Some x) e h =
      let own : w.id ≡ x.id = (let p : w ≡ work_of codec past x = cc in ap (λ (v : JobWork S). v.id) p) in
      subst (λ n. IsLeastWaiting past n) (sym own) (first_least past x e)

  pub waits_least : (inside m : Machine S) (past : Past) (w : JobWork S) → inside ≡ m → SenderStands codec m past → Some w ≡ first_in (queued inside.waiting) → IsLeastWaiting past w.id
  waits_least inside m past w view s first = least_of_first past w (first_in (waiting_jobs past)) refl (waits_first inside m past (Some w) view s first)
