-- A job that was handed out stays own work.
use Rattle.std.proofs.Common.{◌≡◌, ℕ, suc, ◌+◌, ◌≤◌, List, [], ◌∷◌, ◌++◌, length, Option, Some, None, refl, ap, sym, ◌∙◌, subst, arith, inl, inr}
use Rattle.std.proofs.lemmas.List.{append-nil, length-append}
use Rattle.std.specs.Option.{option_map}
use Rattle.sal_base.specs.Lists.{Has, Each}
use Rattle.sal_base.specs.declared.picture.Picture.{Picture}
use Rattle.sal_codec.specs.Coding.{Coding}
use Rattle.sal_wire.specs.declared.datagram.Ack.{Ack}
use Rattle.sal_sender.specs.declared.answers.Next.{Next as Start}
use Rattle.sal_sender.specs.declared.answers.Next.TheVariants.{Started, NotChosen, Full, Memory as StartMemory}
use Rattle.sal_sender.specs.declared.answers.Chosen.TheVariants.{NoPicture, Waiting, Sent, Nothing, Memory as ChosenMemory}
use Rattle.sal_sender.specs.Past.{SenderCall, Past, NextPicture, TakeJob, Report, Choose, Hear, choices, pictures, last_job, opened, started}
use Rattle.sal_sender.specs.OneThread.{Session}
use Rattle.sal_sender.specs.Jobs.{Job, jobs}
use Rattle.sal_sender.specs.Choosing.{first_in}
use Rattle.sal_sender.specs.Answers.{jobs_after, waiting_jobs}
use Rattle.sal_sender.specs.Promises.{IsLegalSender}
use Rattle.sal_sender.specs.JobWork.{JobWork}
use Rattle.sal_sender.specs.Stands.{work_in, work_of, IsWorkOfItsJob}
use Rattle.sal_sender.proofs.HandedOut.{IsRising, jobs_rising, ids_low}
use Rattle.sal_sender.proofs.Thread.{has_filter}
use Rattle.sal_world.specs.World.{WorldEvent, Starts, TakesJob, Reports, Chooses, Delivers, Hears, TakesReady, Decodes, Passes, WorldPast, sent, acks, at_number, delivered_if_sent, heard_if_sent, happens, after}
use Rattle.sal_world.specs.Promises.{HasSize, IsOfSize}
use Rattle.sal_world.specs.HandedOut.{next_job}
use Rattle.sal_world.proofs.ListLemmas.{each_has, each_map, each_of, each_append}
use Rattle.sal_world.proofs.Numbers.{picture_has}
use Rattle.sal_world.proofs.Legal.{legal}

-- ---- jobs of one picture

rising_each : (least : ℕ) (js : List Job) → IsRising least js → Each (λ j. least ≤ j.id) js
rising_each least [] r = tt
rising_each least (j ∷ js) r = (r.0, each_map (λ k. suc j.id ≤ k.id) (λ k. least ≤ k.id) (λ k (h : suc j.id ≤ k.id). let low : least ≤ j.id = r.0 in omega arith) js (rising_each (suc j.id) js r.1))

-- jobs with one number are one
same_id : (least : ℕ) (js : List Job) (a b : Job) → IsRising least js → Has js a → Has js b → a.id ≡ b.id → a ≡ b
same_id least [] a b r p q e = absurd p
same_id least (j ∷ js) a b r (inl p) (inl q) e = p ∙ sym q
same_id least (j ∷ js) a b r (inl p) (inr q) e =
    let high : suc j.id ≤ b.id = each_has (λ k. suc j.id ≤ k.id) js b (rising_each (suc j.id) js r.1) q in
    let own : a.id ≡ j.id = ap (λ (k : Job). k.id) p in
    absurd (omega arith)
same_id least (j ∷ js) a b r (inr p) (inl q) e =
    let high : suc j.id ≤ a.id = each_has (λ k. suc j.id ≤ k.id) js a (rising_each (suc j.id) js r.1) p in
    let own : b.id ≡ j.id = ap (λ (k : Job). k.id) q in
    absurd (omega arith)
same_id least (j ∷ js) a b r (inr p) (inr q) e = same_id (suc j.id) js a b r.1 p q e

-- ---- the open picture

opened_started : (past before : Past) → opened past ≡ Some before → started past ≡ Some before
opened_started [] before h = absurd (cc)
opened_started (NextPicture picture moment (Started n) ∷ past) before h = h
opened_started (NextPicture picture moment (NotChosen n) ∷ past) before h = opened_started past before h
opened_started (NextPicture picture moment Full ∷ past) before h = opened_started past before h
opened_started (NextPicture picture moment StartMemory ∷ past) before h = opened_started past before h
opened_started (TakeJob answer ∷ past) before h = opened_started past before h
opened_started (Report job gave answer ∷ past) before h = opened_started past before h
opened_started (Choose moment NoPicture ∷ past) before h = opened_started past before h
opened_started (Choose moment (Waiting id) ∷ past) before h = opened_started past before h
opened_started (Choose moment (Sent choice burst) ∷ past) before h = absurd (cc)
opened_started (Choose moment (Nothing budget sizes) ∷ past) before h = absurd (cc)
opened_started (Choose moment ChosenMemory ∷ past) before h = opened_started past before h
opened_started (Hear came moment answer ∷ past) before h = opened_started past before h

more_pictures : (past : Past) (more : List Picture) → 1 ≤ length (pictures past) → 1 ≤ length (pictures past ++ more)
more_pictures past more h = omega (arith, length-append (pictures past) more)

started_some : (past before : Past) → started past ≡ Some before → 1 ≤ length (pictures past)
started_some [] before h = absurd (cc)
started_some (NextPicture picture moment (Started n) ∷ past) before h = omega (arith, length-append (pictures past) (picture ∷ []))
started_some (NextPicture picture moment (NotChosen n) ∷ past) before h = more_pictures past [] (started_some past before h)
started_some (NextPicture picture moment Full ∷ past) before h = more_pictures past [] (started_some past before h)
started_some (NextPicture picture moment StartMemory ∷ past) before h = more_pictures past [] (started_some past before h)
started_some (TakeJob answer ∷ past) before h = more_pictures past [] (started_some past before h)
started_some (Report job gave answer ∷ past) before h = more_pictures past [] (started_some past before h)
started_some (Choose moment answer ∷ past) before h = more_pictures past [] (started_some past before h)
started_some (Hear came moment answer ∷ past) before h = more_pictures past [] (started_some past before h)

after_some : (past : Past) (o : Option Past) (job : Job) → started past ≡ o → Has (jobs_after o) job → 1 ≤ length (pictures past)
after_some past None job e h = absurd h
after_some past (Some before) job e h = started_some past before e

first_has : (js : List Job) (job : Job) → first_in js ≡ Some job → Has js job
first_has [] job h = absurd (cc)
first_has (j ∷ js) job h = inl (cc)

from_mapped : {X Y : Type 0} (f : X → Y) (o : Option X) (y : Y) → option_map f o ≡ Some y → (x : X) × (o ≡ Some x) × (f x ≡ y)
from_mapped f None y h = absurd (cc)
from_mapped f (Some x) y h = (x, refl, cc)

module _ {S : Type 0} (codec : Coding S) where
  -- its number is none that comes, and it is the work of its job while that is one of the open picture
  pub record IsKnown (past : Past) (work : JobWork S) : Type 0 where
    pub low : work.id ≤ last_job past
    pub own : IsWorkOfItsJob codec past work

  abbrev IsOf : Past → JobWork S → Job → Type 0
  IsOf past work job = job.id ≡ work.id → work ≡ work_of codec past job

  same_job : (call : SenderCall) (past : Past) (work : JobWork S) (job : Job) → pictures (call ∷ past) ≡ pictures past → choices (call ∷ past) ≡ choices past → IsOf past work job → IsOf (call ∷ past) work job
  same_job call past work job shot chosen of e = of e ∙ (ap (λ c. work_in codec (pictures past) c job) (sym chosen) ∙ ap (λ s. work_in codec s (choices (call ∷ past)) job) (sym shot))

  -- a call that starts and closes nothing
  quiet_known : (call : SenderCall) (past : Past) (work : JobWork S) → opened (call ∷ past) ≡ opened past → pictures (call ∷ past) ≡ pictures past → choices (call ∷ past) ≡ choices past → last_job past ≤ last_job (call ∷ past) → IsKnown past work → IsKnown (call ∷ past) work
  quiet_known call past work same_open shot chosen more is = record {
    low = (let low : work.id ≤ last_job past = is.low in omega arith);
    own =
        subst (λ o. Each (IsOf (call ∷ past) work) (jobs_after o)) (sym same_open)
        (each_map (IsOf past work) (IsOf (call ∷ past) work) (λ job of. same_job call past work job shot chosen of) (jobs_after (opened past)) is.own);
  }

  -- jobs that come have higher numbers
  new_jobs : (call : SenderCall) (past : Past) (work : JobWork S) → work.id ≤ last_job past → Each (IsOf (call ∷ past) work) (jobs past)
  new_jobs call past work low =
      each_map (λ j. last_job past + 1 ≤ j.id) (IsOf (call ∷ past) work) (λ job (high : last_job past + 1 ≤ job.id) (e : job.id ≡ work.id). absurd (omega arith)) (jobs past) (rising_each (last_job past + 1) (jobs past) (jobs_rising past))

  pub call_known : (call : SenderCall) (past : Past) (work : JobWork S) → IsKnown past work → IsKnown (call ∷ past) work
  call_known (NextPicture picture moment (Started n)) past work is = record { low = (let low : work.id ≤ last_job past = is.low in omega arith); own = new_jobs (NextPicture picture moment (Started n)) past work is.low }
  call_known (NextPicture picture moment (NotChosen n)) past work is = quiet_known (NextPicture picture moment (NotChosen n)) past work refl (append-nil (pictures past)) refl (omega arith) is
  call_known (NextPicture picture moment Full) past work is = quiet_known (NextPicture picture moment Full) past work refl (append-nil (pictures past)) refl (omega arith) is
  call_known (NextPicture picture moment StartMemory) past work is = quiet_known (NextPicture picture moment StartMemory) past work refl (append-nil (pictures past)) refl (omega arith) is
  call_known (TakeJob answer) past work is = quiet_known (TakeJob answer) past work refl (append-nil (pictures past)) refl (omega arith) is
  call_known (Report job gave answer) past work is = quiet_known (Report job gave answer) past work refl (append-nil (pictures past)) refl (omega arith) is
  call_known (Choose moment NoPicture) past work is = quiet_known (Choose moment NoPicture) past work refl (append-nil (pictures past)) refl (omega arith) is
  call_known (Choose moment (Waiting id)) past work is = quiet_known (Choose moment (Waiting id)) past work refl (append-nil (pictures past)) refl (omega arith) is
  call_known (Choose moment (Sent choice burst)) past work is = record { low = (let low : work.id ≤ last_job past = is.low in omega arith); own = tt }
  call_known (Choose moment (Nothing budget sizes)) past work is = record { low = (let low : work.id ≤ last_job past = is.low in omega arith); own = tt }
  call_known (Choose moment ChosenMemory) past work is = quiet_known (Choose moment ChosenMemory) past work refl (append-nil (pictures past)) refl (omega arith) is
  call_known (Hear came moment answer) past work is = quiet_known (Hear came moment answer) past work refl (append-nil (pictures past)) refl (omega arith) is

  -- what is handed out next is the work of the first job that waits
  pub record IsNext (past : Past) (work : JobWork S) : Type 0 where
    pub job : Job
    pub among : Has (jobs_after (started past)) job
    pub is : work_of codec past job ≡ work

  pub next_is : (past : Past) (work : JobWork S) → next_job codec past ≡ Some work → IsNext past work
  next_is past work h =
      let from = from_mapped (work_of codec past) (first_in (waiting_jobs past)) work h in
      record { job = from.0; among = has_filter _ (jobs_after (started past)) from.0 (first_has (waiting_jobs past) from.0 from.1); is = from.2 }

  next_own : (past : Past) (work : JobWork S) (o : Option Past) → opened past ≡ o → IsNext past work → Each (IsOf past work) (jobs_after o)
  next_own past work None e n = tt
  next_own past work (Some before) e n =
      let here : Has (jobs before) n.job = subst (λ o. Has (jobs_after o) n.job) (opened_started past before e) n.among in
      each_of (IsOf past work) (jobs before)
      (λ job has own. sym n.is ∙ ap (λ j. work_of codec past j) (same_id (last_job before + 1) (jobs before) n.job job (jobs_rising before) here has (ap (λ (w : JobWork S). w.id) n.is ∙ sym own)))

  pub next_known : (session : Session) (past : Past) (work : JobWork S) → IsLegalSender codec session past → next_job codec past ≡ Some work → IsKnown past work
  next_known session past work is_legal h =
      let n : IsNext past work = next_is past work h in
      let low : n.job.id ≤ last_job past = each_has (λ j. j.id ≤ last_job past) (jobs_after (started past)) n.job (ids_low codec session past is_legal) n.among in
      let own : n.job.id ≡ work.id = ap (λ (w : JobWork S). w.id) n.is in
      record { low = omega arith; own = next_own past work (opened past) refl n }

  -- its samples are the newest picture
  pub next_size : (session : Session) (past : Past) (work : JobWork S) → Each (HasSize session) (pictures past) → next_job codec past ≡ Some work → HasSize session work.samples
  next_size session past work sizes h =
      let n : IsNext past work = next_is past work h in
      subst (λ (w : JobWork S). HasSize session w.samples) n.is
      (picture_has (HasSize session) (pictures past) (length (pictures past)) (after_some past (started past) n.job refl n.among) (omega arith) sizes)

module _ {S : Type 0} (codec : Coding S) (session : Session) where
  heard_known : (w : WorldPast S) (o : Option Ack) (work : JobWork S) → IsKnown codec w.sender work → IsKnown codec (heard_if_sent codec session w o).sender work
  heard_known w None work is = is
  heard_known w (Some ack) work is = call_known codec _ w.sender work is

  down_known : (w : WorldPast S) (o : Option (List ℕ)) (work : JobWork S) → IsKnown codec w.sender work → IsKnown codec (delivered_if_sent codec w o).sender work
  down_known w None work is = is
  down_known w (Some bytes) work is = is

  event_known : (w : WorldPast S) (event : WorldEvent) (work : JobWork S) → IsKnown codec w.sender work → IsKnown codec (happens codec session w event).sender work
  event_known w (Starts picture) work is = call_known codec _ w.sender work is
  event_known w TakesJob work is = call_known codec _ w.sender work is
  event_known w (Reports job gave) work is = call_known codec _ w.sender work is
  event_known w Chooses work is = call_known codec _ w.sender work is
  event_known w (Delivers which) work is = down_known w (at_number (sent w) which) work is
  event_known w (Hears which) work is = heard_known w (at_number (acks w) which) work is
  event_known w TakesReady work is = is
  event_known w (Decodes n ran) work is = is
  event_known w (Passes moment) work is = is

  pub known_later : (later before : List WorldEvent) (work : JobWork S) → IsKnown codec (after codec session before).sender work → IsKnown codec (after codec session (later ++ before)).sender work
  unfolding after
  known_later [] before work is = is
  known_later (event ∷ later) before work is = event_known (after codec session (later ++ before)) event work (known_later later before work is)

  -- a job that an event handed out is own work after all later events
  pub own_job : (later before : List WorldEvent) (work : JobWork S) → next_job codec (after codec session before).sender ≡ Some work → IsWorkOfItsJob codec (after codec session (later ++ TakesJob ∷ before)).sender work
  unfolding after
  own_job later before work h =
      (known_later later (TakesJob ∷ before) work (event_known (after codec session before) TakesJob work (next_known codec session (after codec session before).sender work (legal codec session before).sender h))).own

  -- ---- sizes

  each_right : (P : WorldEvent → Type 0) (xs ys : List WorldEvent) → Each P (xs ++ ys) → Each P ys
  each_right P [] ys h = h
  each_right P (x ∷ xs) ys h = each_right P xs ys h.1

  same_sizes : (past : Past) → Each (HasSize session) (pictures past) → Each (HasSize session) (pictures past ++ [])
  same_sizes past sizes = each_append (HasSize session) (pictures past) [] sizes tt

  next_sizes : (past : Past) (picture : Picture) (moment : ℕ) (answer : Start) → HasSize session picture → Each (HasSize session) (pictures past) → Each (HasSize session) (pictures (NextPicture picture moment answer ∷ past))
  next_sizes past picture moment (Started n) size sizes = each_append (HasSize session) (pictures past) (picture ∷ []) sizes (size, tt)
  next_sizes past picture moment (NotChosen n) size sizes = same_sizes past sizes
  next_sizes past picture moment Full size sizes = same_sizes past sizes
  next_sizes past picture moment StartMemory size sizes = same_sizes past sizes

  heard_sizes : (w : WorldPast S) (o : Option Ack) → Each (HasSize session) (pictures w.sender) → Each (HasSize session) (pictures (heard_if_sent codec session w o).sender)
  heard_sizes w None sizes = sizes
  heard_sizes w (Some ack) sizes = same_sizes w.sender sizes

  down_sizes : (w : WorldPast S) (o : Option (List ℕ)) → Each (HasSize session) (pictures w.sender) → Each (HasSize session) (pictures (delivered_if_sent codec w o).sender)
  down_sizes w None sizes = sizes
  down_sizes w (Some bytes) sizes = sizes

  event_sizes : (w : WorldPast S) (event : WorldEvent) → IsOfSize session event → Each (HasSize session) (pictures w.sender) → Each (HasSize session) (pictures (happens codec session w event).sender)
  event_sizes w (Starts picture) size sizes = next_sizes w.sender picture w.moment _ size sizes
  event_sizes w TakesJob size sizes = same_sizes w.sender sizes
  event_sizes w (Reports job gave) size sizes = same_sizes w.sender sizes
  event_sizes w Chooses size sizes = same_sizes w.sender sizes
  event_sizes w (Delivers which) size sizes = down_sizes w (at_number (sent w) which) sizes
  event_sizes w (Hears which) size sizes = heard_sizes w (at_number (acks w) which) sizes
  event_sizes w TakesReady size sizes = sizes
  event_sizes w (Decodes n ran) size sizes = sizes
  event_sizes w (Passes moment) size sizes = sizes

  sizes_after : (events : List WorldEvent) → Each (IsOfSize session) events → Each (HasSize session) (pictures (after codec session events).sender)
  unfolding after
  sizes_after [] sizes = tt
  sizes_after (event ∷ before) sizes = event_sizes (after codec session before) event sizes.0 (sizes_after before sizes.1)

  -- the samples of a job that an event handed out have the session's size
  pub own_size : (later before : List WorldEvent) (work : JobWork S) → Each (IsOfSize session) (later ++ TakesJob ∷ before) → next_job codec (after codec session before).sender ≡ Some work → HasSize session work.samples
  own_size later before work sizes h =
      let here : Each (IsOfSize session) (TakesJob ∷ before) = each_right (IsOfSize session) later (TakesJob ∷ before) sizes in
      next_size codec session (after codec session before).sender work (sizes_after before here.1) h
