-- The jobs and the frames of a run, one after the other.
use Rattle.std.proofs.Common.{◌≡◌, ℕ, zero, suc, ◌+◌, ◌-◌, ◌<◌, ◌≤◌, Bool, true, false, cond, not, ◌&&◌, List, [], ◌∷◌, ◌++◌, length, map, Option, Some, None, Result, Ok, Err, is_some, IfSome, refl, ap, sym, ◌∙◌, subst, arith}
use Rattle.std.specs.Option.{option_map}
use Rattle.std.specs.Result.{IsErrAnd}
use Rattle.std.specs.Prelude.{option_and_then, IsSome}
use Rattle.sal_base.specs.declared.picture.Picture.{Picture}
use Rattle.sal_codec.specs.Coding.{Coding}
use Rattle.sal_y4m.specs.declared.head.Head.{Head}
use Rattle.sal_sender.specs.declared.choice.JobRole.{JobRole}
use Rattle.sal_sender.specs.declared.choice.JobRole.TheVariants.{Coarse, Spare, Fine}
use Rattle.sal_sender.specs.Jobs.{Job}
use Rattle.sal_sender.specs.Choosing.{is_fine, first_in}
use Rattle.sal_sender.specs.Answers.{waiting_jobs}
use Rattle.sal_sender.specs.JobWork.{JobWork, encoded, given}
use Rattle.sal_sender.specs.Stands.{work_of}
use Rattle.sal_receiver.specs.Past.{ReceiverCall}
use Rattle.sal_receiver.specs.Ready.{ready_source}
use Rattle.sal_receiver.specs.Ready.{ready_answer}
use Rattle.sal_receiver.specs.Handed.{HandedFrame}
use Rattle.sal_receiver.proofs.Was.{take_waits}
use Rattle.sal_run.specs.CountedParts.{CountedParts}
use Rattle.sal_world.specs.World.{WorldEvent, Starts, TakesJob, Reports, Chooses, TakesReady, Decodes, WorldPast, acks, after}
use Rattle.sal_world.specs.HandedOut.{next_job, next_frame, frame_from, frame_at}
use Rattle.sal_world.specs.Stands.{WasHandedOut, WasReady}
use Rattle.sal_world.specs.Script.{Run, gives, with_event, run_jobs, drained}
use Rattle.sal_world.specs.declared.diary.DiaryFault.{DiaryFault}
use Rattle.sal_run.specs.declared.stop.RunStop.{RunStop}
use Rattle.sal_run.specs.declared.stop.RunStop.TheVariants.{Out}
use Rattle.sal_io.specs.Calls.{HasCause}
use Rattle.sal_run.specs.Loop.{session_of}
use Rattle.sal_run.specs.Running.{IsRunning, PartlyOf, Stopped, Goes}
use Rattle.sal_run.specs.Turns.{is_fine_role, is_late, may_run, is_job, is_frame, with_job, one_job, with_frame, one_frame}
use Rattle.sal_run.proofs.Grow.{Grows, grows_none, grows_event, jobs_kept, drained_kept, chosen_kept}
use Rattle.sal_run.proofs.Steps.{stopped_later, goes_exit, partly}

role_fine : (role : JobRole) (job : Job) → role ≡ job.role → is_fine_role role ≡ is_fine job
role_fine role job e = ap is_fine_role e ∙ role_step job.role
  where
    role_step : (x : JobRole) → is_fine_role x ≡ elim x [ Coarse ↦ false | Spare ↦ false | Fine ↦ true ]
    role_step Coarse = refl
    role_step Spare = refl
    role_step Fine = refl

late_same : (late : Bool) (role : JobRole) (job : Job) → role ≡ job.role → (late && is_fine_role role) ≡ is_late late job
late_same late role job e = ap (λ b. late && b) (role_fine role job e)

map_length : {X Y : Type 0} (f : X → Y) (xs : List X) → length (map f xs) ≡ length xs
map_length f [] = refl
map_length f (x ∷ xs) = ap (λ n. suc n) (map_length f xs)

-- a stop that isn't the output's
pub no_out : {X : Type 0} (result : Result X RunStop) (stop : RunStop) (n m : ℕ) → n ≤ m → IsErrAnd result (λ e. e ≡ stop) → (stop ≡ Out → ⊥) → HasCause (Err Out) n m result
no_out (Ok x) stop n m le h p = absurd h
no_out (Err e) stop n m le h p = record { later = le; rose = λ q. let same : stop ≡ Out = cc in absurd (p same) }

pub never_stop : {X : Type 0} (stop : RunStop) → (◌≡◌ {A = Result X RunStop} (Err stop) (Err Out) → ⊥) → stop ≡ Out → ⊥
never_stop {X = X} stop never e = never (ap (λ (s : RunStop). Err s) e)

-- a fault that had its cause later had it since before
pub later_cause : {A : Type 0} (fault : A) (a b c : ℕ) (answer : A) → a ≤ b → HasCause fault b c answer → HasCause fault a c answer
later_cause fault a b c answer le h = record { later = (let q : b ≤ c = h.later in omega arith); rose = λ e. (let q = h.rose e in omega (arith, q)) }

module _ {S : Type 0} (codec : Coding S) (head : Head) where
  abbrev event : WorldEvent → Run S → Run S
  event e r = with_event codec (session_of head) e r

  -- ---- jobs

  job_among : (late : Bool) (r : Run S) (role : JobRole) (work : JobWork S) (o : Option Job) → Some role ≡ option_map (λ job. job.role) o → (late && is_fine_role role) ≡ false → option_map (work_of codec r.world.sender) o ≡ Some work
      → with_job codec (session_of head) late r o ≡ event (Reports work.id (given (encoded codec work))) (event TakesJob r)
  job_among late r role work None e quick w = absurd cc
  job_among late r role work (Some job) e quick w =
      let same : role ≡ job.role = cc in
      let early : is_late late job ≡ false = sym (late_same late role job same) ∙ quick in
      let own : work_of codec r.world.sender job ≡ work = cc in
      rw early (ap (λ (v : JobWork S). event (Reports v.id (given (encoded codec v))) (event TakesJob r)) own)

  job_later : (late : Bool) (r : Run S) (role : JobRole) (o : Option Job) → Some role ≡ option_map (λ job. job.role) o → (late && is_fine_role role) ≡ false → (later : List WorldEvent) × ((with_job codec (session_of head) late r o).events ≡ later ++ TakesJob ∷ r.events)
  job_later late r role None e quick = absurd cc
  job_later late r role (Some job) e quick =
      let same : role ≡ job.role = cc in
      let early : is_late late job ≡ false = sym (late_same late role job same) ∙ quick in
      (Reports job.id (gives codec (session_of head) r job) ∷ [], rw early refl)

  roles : (r : Run S) (role : JobRole) → r.world ≡ after codec (session_of head) r.events → Some role ≡ option_map (λ job. job.role) (first_in (waiting_jobs (after codec (session_of head) r.events).sender))
      → Some role ≡ option_map (λ job. job.role) (first_in (waiting_jobs r.world.sender))
  roles r role world e = e ∙ ap (λ (w : WorldPast S). option_map (λ job. job.role) (first_in (waiting_jobs w.sender))) (sym world)

  some_mapped : {X Y Z : Type 0} (f : X → Y) (h : X → Z) (o : Option X) (y : Y) → Some y ≡ option_map f o → IsSome (option_map h o)
  some_mapped f h None y e = absurd cc
  some_mapped f h (Some x) y e = refl

  -- a job that has a role waits
  pub waits : (b : CountedParts S) (held : Option (List ℕ)) (r : Run S) (role : JobRole) → IsRunning codec head b held r → Some role ≡ option_map (λ job. job.role) (first_in (waiting_jobs (after codec (session_of head) r.events).sender)) → IsSome (next_job codec r.world.sender)
  waits b held r role is e = some_mapped (λ (job : Job). job.role) (work_of codec r.world.sender) (first_in (waiting_jobs r.world.sender)) role (roles r role is.world e)

  -- a job that was handed out
  pub handed : (b : CountedParts S) (held : Option (List ℕ)) (r : Run S) (job work : JobWork S) → IsRunning codec head b held r → next_job codec r.world.sender ≡ Some job → work ≡ job → WasHandedOut codec (session_of head) (TakesJob ∷ r.events) work
  handed b held r job work is next same = record {
    later = [];
    before = r.events;
    events_are = refl;
    next = ap (λ (w : WorldPast S). next_job codec w.sender) (sym is.world) ∙ (next ∙ ap (λ v. Some v) (sym same));
  }

  module _ (gives : DiaryFault → Bool) where
    pub take_exit : {X : Type 0} (b new : CountedParts S) (held : Option (List ℕ)) (late : Bool) (r : Run S) (role : JobRole) (result : Result X RunStop) (stop : RunStop) → IsRunning codec head b held r
        → Some role ≡ option_map (λ job. job.role) (first_in (waiting_jobs (after codec (session_of head) r.events).sender)) → (late && is_fine_role role) ≡ false → IsErrAnd result (λ e. e ≡ stop)
        → Stopped codec head gives held (TakesJob ∷ r.events) stop → Goes codec head gives new held (one_job codec (session_of head) late r) result
    take_exit b new held late r role result stop is e quick h p =
        let more = job_later late r role (first_in (waiting_jobs r.world.sender)) (roles r role is.world e) quick in
        goes_exit codec head gives new held (one_job codec (session_of head) late r) result stop h (stopped_later codec head gives held (TakesJob ∷ r.events) (one_job codec (session_of head) late r).events more.0 stop more.1 p)

    pub report_exit : {X : Type 0} (b new : CountedParts S) (held : Option (List ℕ)) (late : Bool) (r : Run S) (role : JobRole) (job work : JobWork S) (result : Result X RunStop) (stop : RunStop) → IsRunning codec head b held r
        → Some role ≡ option_map (λ job. job.role) (first_in (waiting_jobs (after codec (session_of head) r.events).sender)) → (late && is_fine_role role) ≡ false → next_job codec r.world.sender ≡ Some job → work ≡ job
        → IsErrAnd result (λ e. e ≡ stop) → Stopped codec head gives held (event (Reports work.id (given (encoded codec work))) (event TakesJob r)).events stop → Goes codec head gives new held (one_job codec (session_of head) late r) result
    report_exit b new held late r role job work result stop is e quick next same h p =
        let it = job_among late r role job (first_in (waiting_jobs r.world.sender)) (roles r role is.world e) quick next in
        goes_exit codec head gives new held (one_job codec (session_of head) late r) result stop h
        (subst (λ (s : Run S). Stopped codec head gives held s.events stop) (ap (λ (v : JobWork S). event (Reports v.id (given (encoded codec v))) (event TakesJob r)) same ∙ sym it) p)

  pub job_goes : (b new : CountedParts S) (held : Option (List ℕ)) (late : Bool) (r : Run S) (role : JobRole) (job work : JobWork S) → IsRunning codec head b held r
      → Some role ≡ option_map (λ job. job.role) (first_in (waiting_jobs (after codec (session_of head) r.events).sender)) → (late && is_fine_role role) ≡ false → next_job codec r.world.sender ≡ Some job → work ≡ job
      → IsRunning codec head new held (event (Reports work.id (given (encoded codec work))) (event TakesJob r)) → IsRunning codec head new held (one_job codec (session_of head) late r)
  job_goes b new held late r role job work is e quick next same p =
      let it = job_among late r role job (first_in (waiting_jobs r.world.sender)) (roles r role is.world e) quick next in
      subst (λ (s : Run S). IsRunning codec head new held s) (ap (λ (v : JobWork S). event (Reports v.id (given (encoded codec v))) (event TakesJob r)) same ∙ sym it) p

  jobs_among : (late : Bool) (n : ℕ) (r : Run S) (o : Option Job) (more : Bool) → more ≡ may_run late o
      → elim o as (λ x. Run S) [
        | None ↦ r
        | Some job ↦ cond (is_late late job) r (run_jobs codec (session_of head) (is_late late) n (event (Reports job.id (gives codec (session_of head) r job)) (event TakesJob r)))
      ] ≡ cond more (run_jobs codec (session_of head) (is_late late) n (with_job codec (session_of head) late r o)) (with_job codec (session_of head) late r o)
  jobs_among late n r None more e = rw e refl
  jobs_among late n r (Some job) more e = rw e (late_step (is_late late job) (event (Reports job.id (gives codec (session_of head) r job)) (event TakesJob r)))
    where
      late_step : (b : Bool) (s : Run S) → cond b r (run_jobs codec (session_of head) (is_late late) n s) ≡ cond (not b) (run_jobs codec (session_of head) (is_late late) n (cond b r s)) (cond b r s)
      late_step true s = refl
      late_step false s = refl

  -- one job, and then the others
  jobs_more : (late : Bool) (n : ℕ) (r : Run S) (more : Bool) → more ≡ is_job late r → run_jobs codec (session_of head) (is_late late) (suc n) r ≡ cond more (run_jobs codec (session_of head) (is_late late) n (one_job codec (session_of head) late r)) (one_job codec (session_of head) late r)
  unfolding run_jobs
  jobs_more late n r more e = jobs_among late n r (first_in (waiting_jobs r.world.sender)) more e

  -- where the loop over jobs stands after some of them
  pub record JobsLeft (late : Bool) (i : ℕ) (b : CountedParts S) (held : Option (List ℕ)) (r : Run S) : Type 0 where
    pub now : Run S
    pub running : IsRunning codec head b held now
    pub onward : (n : ℕ) → n + i ≡ 3 → run_jobs codec (session_of head) (is_late late) n now ≡ run_jobs codec (session_of head) (is_late late) 3 r

  pub jobs_first : (late : Bool) (b : CountedParts S) (held : Option (List ℕ)) (r : Run S) → IsRunning codec head b held r → JobsLeft late 0 b held r
  jobs_first late b held r is = record { now = r; running = is; onward = λ n e. let same : n ≡ 3 = omega (arith, e) in ap (λ (k : ℕ). run_jobs codec (session_of head) (is_late late) k r) same }

  pub jobs_next : (late : Bool) (i : ℕ) (b new : CountedParts S) (held : Option (List ℕ)) (r : Run S) (more : Bool) (left : JobsLeft late i b held r) → more ≡ true → more ≡ is_job late left.now → IsRunning codec head new held (one_job codec (session_of head) late left.now) → JobsLeft late (i + 1) new held r
  jobs_next late i b new held r more left so e is = record {
    now = one_job codec (session_of head) late left.now;
    running = is;
    onward = λ n same. sym (jobs_more late n left.now true (sym so ∙ e)) ∙ left.onward (suc n) (omega (arith, same));
  }

  jobs_count : (i : ℕ) → i < 3 → (n : ℕ) × (suc n + i ≡ 3)
  jobs_count zero h = (2, refl)
  jobs_count (suc zero) h = (1, refl)
  jobs_count (suc (suc zero)) h = (0, refl)
  jobs_count (suc (suc (suc i))) h = absurd (omega (arith, h))

  -- no job waits any more
  pub jobs_done : (late : Bool) (i : ℕ) (b new : CountedParts S) (held : Option (List ℕ)) (r : Run S) (more : Bool) (left : JobsLeft late i b held r) → i < 3 → more ≡ false → more ≡ is_job late left.now → IsRunning codec head new held (one_job codec (session_of head) late left.now)
      → IsRunning codec head new held (run_jobs codec (session_of head) (is_late late) 3 r)
  jobs_done late i b new held r more left lt not_so e is =
      let n = jobs_count i lt in
      subst (λ (s : Run S). IsRunning codec head new held s) (sym (jobs_more late n.0 left.now false (sym not_so ∙ e)) ∙ left.onward (suc n.0) n.1) is

  pub jobs_last : (late : Bool) (i : ℕ) (b : CountedParts S) (held : Option (List ℕ)) (r : Run S) → 3 ≤ i → i ≤ 3 → JobsLeft late i b held r → IsRunning codec head b held (run_jobs codec (session_of head) (is_late late) 3 r)
  unfolding run_jobs
  jobs_last late i b held r low high left = subst (λ (s : Run S). IsRunning codec head b held s) (left.onward 0 (omega (arith, low, high))) left.running

  grows_either : (b : Bool) (r s t : Run S) → Grows r s → Grows r t → Grows r (cond b s t)
  grows_either true r s t p q = p
  grows_either false r s t p q = q

  module _ (gives : DiaryFault → Bool) where
    pub jobs_exit : {X : Type 0} (late : Bool) (i : ℕ) (b new : CountedParts S) (held : Option (List ℕ)) (r : Run S) (result : Result X RunStop) (stop : RunStop) (left : JobsLeft late i b held r) → i < 3 → IsErrAnd result (λ e. e ≡ stop)
        → Stopped codec head gives held (one_job codec (session_of head) late left.now).events stop → Goes codec head gives new held (run_jobs codec (session_of head) (is_late late) 3 r) result
    jobs_exit late i b new held r result stop left lt h p =
        let n = jobs_count i lt in
        let one : Run S = one_job codec (session_of head) late left.now in
        let all : Run S = run_jobs codec (session_of head) (is_late late) 3 r in
        let grown : Grows one all =
        subst (λ (s : Run S). Grows one s) (sym (jobs_more late n.0 left.now (is_job late left.now) refl) ∙ left.onward (suc n.0) n.1)
        (grows_either (is_job late left.now) one (run_jobs codec (session_of head) (is_late late) n.0 one) one
        (jobs_kept codec (session_of head) (λ s. Grows one s) (λ e u s g. grows_event codec (session_of head) one e s g) (is_late late) n.0 one (grows_none one)) (grows_none one)) in
        goes_exit codec head gives new held all result stop h (stopped_later codec head gives held one.events all.events grown.later stop grown.events p)

  -- ---- frames

  frame_later : (r : Run S) (o : Option ℕ) → (later : List WorldEvent) × ((with_frame codec (session_of head) r o).events ≡ later ++ TakesReady ∷ r.events)
  frame_later r None = ([], refl)
  frame_later r (Some n) = (Decodes n true ∷ [], refl)

  -- a frame that was handed out is that of the least number that is ready
  frame_number : (past : List (ReceiverCall S)) (n : ℕ) (o : Option S) (h : HandedFrame S) → option_map (frame_from codec past n) o ≡ Some h → h.number ≡ n
  frame_number past n None h e = absurd cc
  frame_number past n (Some source) h e = sym (ap (λ (x : HandedFrame S). x.number) (some_is _ _ e))
    where
      some_is : (a b : HandedFrame S) → Some a ≡ Some b → a ≡ b
      some_is a b e = cc

  number_among : (past : List (ReceiverCall S)) (o : Option ℕ) (h : HandedFrame S) → option_and_then (frame_at codec past) o ≡ Some h → o ≡ Some h.number
  number_among past None h e = absurd cc
  number_among past (Some n) h e = ap (λ k. Some k) (sym (frame_number past n (ready_source codec past n) h e))

  pub frame_is : (r : Run S) (h : HandedFrame S) → next_frame codec r.world.receiver ≡ Some h → one_frame codec (session_of head) r ≡ event (Decodes h.number true) (event TakesReady r)
  frame_is r h e = ap (λ o. with_frame codec (session_of head) r o) (number_among r.world.receiver (ready_answer codec r.world.receiver) h e)

  pub frame_some : (r : Run S) (h : HandedFrame S) → next_frame codec r.world.receiver ≡ Some h → true ≡ is_frame codec r
  frame_some r h e = sym (ap is_some (number_among r.world.receiver (ready_answer codec r.world.receiver) h e))

  none_mapped : (past : List (ReceiverCall S)) (n : ℕ) (q : Option S) → is_some q ≡ true → option_map (frame_from codec past n) q ≡ None → ⊥
  none_mapped past n None e h = absurd cc
  none_mapped past n (Some source) e h = absurd cc

  and_true : (a b : Bool) → (a && b) ≡ true → a ≡ true
  and_true true b e = refl
  and_true false b e = e

  none_among : (past : List (ReceiverCall S)) (o : Option ℕ) → ((n : ℕ) → Some n ≡ o → is_some (ready_source codec past n) ≡ true) → option_and_then (frame_at codec past) o ≡ None → o ≡ None
  none_among past None some e = refl
  none_among past (Some n) some e = absurd (none_mapped past n (ready_source codec past n) (some n refl) e)

  no_answer : (past : List (ReceiverCall S)) → next_frame codec past ≡ None → ready_answer codec past ≡ None
  no_answer past e = none_among past (ready_answer codec past) (λ n h. and_true _ _ (and_true _ _ (take_waits codec past n h))) e

  pub frame_none : (r : Run S) → next_frame codec r.world.receiver ≡ None → false ≡ is_frame codec r
  frame_none r e = sym (ap is_some (no_answer r.world.receiver e))

  pub no_frame : (r : Run S) → next_frame codec r.world.receiver ≡ None → one_frame codec (session_of head) r ≡ event TakesReady r
  no_frame r e = ap (λ o. with_frame codec (session_of head) r o) (no_answer r.world.receiver e)

  pub was_ready : (b : CountedParts S) (held : Option (List ℕ)) (r : Run S) (frame handed_in : HandedFrame S) → IsRunning codec head b held r → next_frame codec r.world.receiver ≡ Some frame → handed_in ≡ frame → WasReady codec (session_of head) (TakesReady ∷ r.events) handed_in
  was_ready b held r frame handed_in is next same = record {
    later = [];
    before = r.events;
    events_are = refl;
    next = ap (λ (w : WorldPast S). next_frame codec w.receiver) (sym is.world) ∙ (next ∙ ap (λ v. Some v) (sym same));
  }

  pub decoded_runs : (new : CountedParts S) (held : Option (List ℕ)) (r : Run S) (frame handed_in : HandedFrame S) → next_frame codec r.world.receiver ≡ Some frame → handed_in ≡ frame
      → IsRunning codec head new held (event (Decodes handed_in.number true) (event TakesReady r)) → IsRunning codec head new held (one_frame codec (session_of head) r)
  decoded_runs new held r frame handed_in next same p =
      subst (λ (s : Run S). IsRunning codec head new held s) (ap (λ (v : HandedFrame S). event (Decodes v.number true) (event TakesReady r)) same ∙ sym (frame_is r frame next)) p

  frames_among : (n : ℕ) (r : Run S) (o : Option ℕ) (more : Bool) → more ≡ is_some o
      → elim o as (λ x. Run S) [
        | None ↦ event TakesReady r
        | Some number ↦ drained codec (session_of head) n (event (Decodes number true) (event TakesReady r))
      ] ≡ cond more (drained codec (session_of head) n (with_frame codec (session_of head) r o)) (with_frame codec (session_of head) r o)
  frames_among n r None more e = rw e refl
  frames_among n r (Some number) more e = rw e refl

  frames_more : (n : ℕ) (r : Run S) (more : Bool) → more ≡ is_frame codec r → drained codec (session_of head) (suc n) r ≡ cond more (drained codec (session_of head) n (one_frame codec (session_of head) r)) (one_frame codec (session_of head) r)
  unfolding drained
  frames_more n r more e = frames_among n r (ready_answer codec r.world.receiver) more e

  -- where the loop over frames stands after some of them
  pub record FramesLeft (count i : ℕ) (b : CountedParts S) (held : Option (List ℕ)) (r : Run S) : Type 0 where
    pub now : Run S
    pub running : IsRunning codec head b held now
    pub onward : (n : ℕ) → n + i ≡ count → drained codec (session_of head) n now ≡ drained codec (session_of head) (length (acks r.world)) r

  pub acks_long : (b : CountedParts S) (held : Option (List ℕ)) (r : Run S) → IsRunning codec head b held r → length b.world.acks ≡ length (acks r.world)
  acks_long b held r is = ap length is.stands.world.acks_are ∙ (map_length _ _ ∙ ap (λ (w : WorldPast S). length (acks w)) (sym is.world))

  pub frames_first : (count : ℕ) (b : CountedParts S) (held : Option (List ℕ)) (r : Run S) → count ≡ length b.world.acks → IsRunning codec head b held r → FramesLeft count 0 b held r
  frames_first count b held r c is = record {
    now = r;
    running = is;
    onward = λ n e. let same : n ≡ count = omega (arith, e) in ap (λ (k : ℕ). drained codec (session_of head) k r) (same ∙ (c ∙ acks_long b held r is));
  }

  pub frames_next : (count i : ℕ) (b new : CountedParts S) (held held' : Option (List ℕ)) (r : Run S) (more : Bool) (left : FramesLeft count i b held r) → more ≡ true → more ≡ is_frame codec left.now → IsRunning codec head new held' (one_frame codec (session_of head) left.now) → FramesLeft count (i + 1) new held' r
  frames_next count i b new held held' r more left so e is = record {
    now = one_frame codec (session_of head) left.now;
    running = is;
    onward = λ n same. sym (frames_more n left.now true (sym so ∙ e)) ∙ left.onward (suc n) (omega (arith, same));
  }

  frames_count : (count i : ℕ) → i < count → (n : ℕ) × (suc n + i ≡ count)
  frames_count count i h = ((count - i) - 1, omega (arith, h))

  pub frames_done : (count i : ℕ) (b new : CountedParts S) (held held' : Option (List ℕ)) (r : Run S) (more : Bool) (left : FramesLeft count i b held r) → i < count → more ≡ false → more ≡ is_frame codec left.now → IsRunning codec head new held' (one_frame codec (session_of head) left.now)
      → IsRunning codec head new held' (drained codec (session_of head) (length (acks r.world)) r)
  frames_done count i b new held held' r more left lt not_so e is =
      let n = frames_count count i lt in
      subst (λ (s : Run S). IsRunning codec head new held' s) (sym (frames_more n.0 left.now false (sym not_so ∙ e)) ∙ left.onward (suc n.0) n.1) is

  -- one more frame is handed out, which isn't decoded
  pub frames_last : (count i : ℕ) (b new : CountedParts S) (held : Option (List ℕ)) (r : Run S) (left : FramesLeft count i b held r) → count ≤ i → i ≤ count → IsRunning codec head new held (event TakesReady left.now) → IsRunning codec head new held (drained codec (session_of head) (length (acks r.world)) r)
  unfolding drained
  frames_last count i b new held r left low high is = subst (λ (s : Run S). IsRunning codec head new held s) (left.onward 0 (omega (arith, low, high))) is

  module _ (gives : DiaryFault → Bool) where
    pub ready_exit : {X : Type 0} (new : CountedParts S) (held : Option (List ℕ)) (r : Run S) (result : Result X RunStop) (stop : RunStop) → IsErrAnd result (λ e. e ≡ stop) → Stopped codec head gives held (TakesReady ∷ r.events) stop → Goes codec head gives new held (one_frame codec (session_of head) r) result
    ready_exit new held r result stop h p =
        let more = frame_later r (ready_answer codec r.world.receiver) in
        goes_exit codec head gives new held (one_frame codec (session_of head) r) result stop h (stopped_later codec head gives held (TakesReady ∷ r.events) (one_frame codec (session_of head) r).events more.0 stop more.1 p)

    pub decoded_exit : {X : Type 0} (new : CountedParts S) (held : Option (List ℕ)) (r : Run S) (frame handed_in : HandedFrame S) (result : Result X RunStop) (stop : RunStop) → next_frame codec r.world.receiver ≡ Some frame → handed_in ≡ frame → IsErrAnd result (λ e. e ≡ stop)
        → Stopped codec head gives held (event (Decodes handed_in.number true) (event TakesReady r)).events stop → Goes codec head gives new held (one_frame codec (session_of head) r) result
    decoded_exit new held r frame handed_in result stop next same h p =
        goes_exit codec head gives new held (one_frame codec (session_of head) r) result stop h
        (subst (λ (s : Run S). Stopped codec head gives held s.events stop) (ap (λ (v : HandedFrame S). event (Decodes v.number true) (event TakesReady r)) same ∙ sym (frame_is r frame next)) p)

    pub frames_exit : {X : Type 0} (count i : ℕ) (b new : CountedParts S) (held held' : Option (List ℕ)) (r : Run S) (result : Result X RunStop) (stop : RunStop) (left : FramesLeft count i b held r) → i < count → IsErrAnd result (λ e. e ≡ stop)
        → Stopped codec head gives held' (one_frame codec (session_of head) left.now).events stop → Goes codec head gives new held' (drained codec (session_of head) (length (acks r.world)) r) result
    frames_exit count i b new held held' r result stop left lt h p =
        let n = frames_count count i lt in
        let one : Run S = one_frame codec (session_of head) left.now in
        let all : Run S = drained codec (session_of head) (length (acks r.world)) r in
        let grown : Grows one all =
        subst (λ (s : Run S). Grows one s) (sym (frames_more n.0 left.now (is_frame codec left.now) refl) ∙ left.onward (suc n.0) n.1)
        (grows_either (is_frame codec left.now) one (drained codec (session_of head) n.0 one) one
        (drained_kept codec (session_of head) (λ s. Grows one s) (λ e u s g. grows_event codec (session_of head) one e s g) n.0 one (grows_none one)) (grows_none one)) in
        goes_exit codec head gives new held' all result stop h (stopped_later codec head gives held' one.events all.events grown.later stop grown.events p)

    pub last_exit : {X : Type 0} (count i : ℕ) (b new : CountedParts S) (held : Option (List ℕ)) (r : Run S) (result : Result X RunStop) (stop : RunStop) (left : FramesLeft count i b held r) → count ≤ i → i ≤ count → IsErrAnd result (λ e. e ≡ stop)
        → Stopped codec head gives held (TakesReady ∷ left.now.events) stop → Goes codec head gives new held (drained codec (session_of head) (length (acks r.world)) r) result
    unfolding drained
    last_exit count i b new held r result stop left low high h p =
        goes_exit codec head gives new held (drained codec (session_of head) (length (acks r.world)) r) result stop h (subst (λ (s : Run S). Stopped codec head gives held s.events stop) (left.onward 0 (omega (arith, low, high))) p)

    -- ---- a picture that is started

    abbrev shot_after : Bool → Run S → Run S
    shot_after late s = run_jobs codec (session_of head) (is_late false) 3 (event Chooses (run_jobs codec (session_of head) (is_late late) 3 s))

    pub start_exit : {X : Type 0} (new : CountedParts S) (held : Option (List ℕ)) (late : Bool) (picture : Picture) (r : Run S) (result : Result X RunStop) (stop : RunStop) → IsErrAnd result (λ e. e ≡ stop) → Stopped codec head gives held (Starts picture ∷ r.events) stop → Goes codec head gives new held (shot_after late (event (Starts picture) r)) result
    start_exit new held late picture r result stop h p =
        let s : Run S = event (Starts picture) r in
        let grown : Grows s (shot_after late s) = chosen_kept codec (session_of head) (λ t. Grows s t) (λ e u t g. grows_event codec (session_of head) s e t g) (is_late late) s (grows_none s) in
        goes_exit codec head gives new held (shot_after late s) result stop h (stopped_later codec head gives held s.events (shot_after late s).events grown.later stop grown.events p)

    pub early_exit : {X : Type 0} (new : CountedParts S) (held : Option (List ℕ)) (late : Bool) (s : Run S) (result : Result X RunStop) (stop : RunStop) → IsErrAnd result (λ e. e ≡ stop) → Stopped codec head gives held (run_jobs codec (session_of head) (is_late late) 3 s).events stop → Goes codec head gives new held (shot_after late s) result
    early_exit new held late s result stop h p =
        let early : Run S = run_jobs codec (session_of head) (is_late late) 3 s in
        let grown : Grows early (shot_after late s) =
        jobs_kept codec (session_of head) (λ t. Grows early t) (λ e u t g. grows_event codec (session_of head) early e t g) (is_late false) 3 (event Chooses early) (grows_event codec (session_of head) early Chooses early (grows_none early)) in
        goes_exit codec head gives new held (shot_after late s) result stop h (stopped_later codec head gives held early.events (shot_after late s).events grown.later stop grown.events p)

    pub choose_exit : {X : Type 0} (new : CountedParts S) (held : Option (List ℕ)) (late : Bool) (s : Run S) (result : Result X RunStop) (stop : RunStop) → IsErrAnd result (λ e. e ≡ stop) → Stopped codec head gives held (event Chooses (run_jobs codec (session_of head) (is_late late) 3 s)).events stop → Goes codec head gives new held (shot_after late s) result
    choose_exit new held late s result stop h p =
        let chosen : Run S = event Chooses (run_jobs codec (session_of head) (is_late late) 3 s) in
        let grown : Grows chosen (shot_after late s) = jobs_kept codec (session_of head) (λ t. Grows chosen t) (λ e u t g. grows_event codec (session_of head) chosen e t g) (is_late false) 3 chosen (grows_none chosen) in
        goes_exit codec head gives new held (shot_after late s) result stop h (stopped_later codec head gives held chosen.events (shot_after late s).events grown.later stop grown.events p)

    pub samples_stop : (new b : CountedParts S) (held : Option (List ℕ)) (late : Bool) (picture : Picture) (r : Run S) → IsRunning codec head b held r → IfSome held (PartlyOf codec head (shot_after late (event (Starts picture) r)).events)
    samples_stop new b held late picture r is =
        let grown : Grows r (shot_after late (event (Starts picture) r)) =
        chosen_kept codec (session_of head) (λ t. Grows r t) (λ e u t g. grows_event codec (session_of head) r e t g) (is_late late) (event (Starts picture) r) (grows_event codec (session_of head) r (Starts picture) r (grows_none r)) in
        partly codec head b held r (shot_after late (event (Starts picture) r)).events grown.later is grown.events
