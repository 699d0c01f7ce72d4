-- The world of a run is that after its events.
use Rattle.std.proofs.Common.{◌≡◌, ℕ, zero, suc, ◌*◌, ◌/◌, Bool, true, false, cond, List, [], ◌∷◌, length, Option, Some, None, refl, ap, sym, subst}
use Rattle.std.specs.Prelude.{option_and_then}
use Rattle.sal_base.specs.Lists.{Each}
use Rattle.sal_base.specs.declared.picture.Picture.{Picture}
use Rattle.sal_codec.specs.Coding.{Coding, IsLawful}
use Rattle.sal_sender.specs.Jobs.{Job}
use Rattle.sal_sender.specs.OneThread.{Session}
use Rattle.sal_sender.specs.Choosing.{is_fine, first_in}
use Rattle.sal_sender.specs.Answers.{waiting_jobs}
use Rattle.sal_receiver.specs.Ready.{ready_answer}
use Rattle.sal_script.specs.declared.line.ScriptLine.{ScriptLine}
use Rattle.sal_script.specs.declared.line.ScriptLine.TheVariants.{Next as NextLine, NextLate, Down as DownLine, Up as UpLine, DownAll, UpAll, Wait, Rest}
use Rattle.sal_world.specs.World.{WorldEvent, Starts, TakesJob, Reports, Chooses, Delivers, Hears, TakesReady, Decodes, Passes, sent, acks, happens, after}
use Rattle.sal_world.specs.Promises.{IsSession, HasSize, IsOfSize, Promises}
use Rattle.sal_world.specs.Script.{Run, gives, begun, downs_in, ups_in, unnamed, is_number, with_event, run_jobs, next_picture, drained, down, up, each, down_all, up_all, wait, rest, next_line, line, played}
use Rattle.sal_world.proofs.Kept.{all_interleavings}

module _ {S : Type 0} (codec : Coding S) (session : Session) where
  -- the world is that after the events, and all pictures have the session's size
  pub record IsRun (r : Run S) : Type 0 where
    pub world : r.world ≡ after codec session r.events
    pub sizes : Each (IsOfSize session) r.events
    pub left : Each (HasSize session) r.left

  event_run : (event : WorldEvent) (r : Run S) → IsOfSize session event → IsRun r → IsRun (with_event codec session event r)
  unfolding after
  event_run event r size is = record { world = ap (λ w. happens codec session w event) is.world; sizes = (size, is.sizes); left = is.left }

  either_run : (b : Bool) (r s : Run S) → IsRun r → IsRun s → IsRun (cond b r s)
  either_run true r s is of = is
  either_run false r s is of = of

  jobs_step : (is_late : Job → Bool) (n : ℕ) (r : Run S) (o : Option Job) → IsRun r → ((s : Run S) → IsRun s → IsRun (run_jobs codec session is_late n s)) → IsRun (elim o as (λ x. Run S) [
    | None ↦ r
    | Some job ↦ cond (is_late job) r (run_jobs codec session is_late n (with_event codec session (Reports job.id (gives codec session r job)) (with_event codec session TakesJob r)))
  ])
  jobs_step is_late n r None is more = is
  jobs_step is_late n r (Some job) is more =
      let s : Run S = with_event codec session (Reports job.id (gives codec session r job)) (with_event codec session TakesJob r) in
      either_run (is_late job) r (run_jobs codec session is_late n s) is (more s (event_run (Reports job.id (gives codec session r job)) (with_event codec session TakesJob r) tt (event_run TakesJob r tt is)))

  jobs_run : (is_late : Job → Bool) (n : ℕ) (r : Run S) → IsRun r → IsRun (run_jobs codec session is_late n r)
  unfolding run_jobs
  jobs_run is_late zero r is = is
  jobs_run is_late (suc n) r is = jobs_step is_late n r (first_in (waiting_jobs r.world.sender)) is (λ s of. jobs_run is_late n s of)

  picture_run : (is_late : Job → Bool) (picture : Picture) (r : Run S) → HasSize session picture → IsRun r → IsRun (next_picture codec session is_late picture r)
  picture_run is_late picture r size is =
      let s : Run S = with_event codec session (Starts picture) r in
      let early : Run S = run_jobs codec session is_late 3 s in
      jobs_run (λ job. false) 3 (with_event codec session Chooses early) (event_run Chooses early tt (jobs_run is_late 3 s (event_run (Starts picture) r size is)))

  drained_step : (n : ℕ) (r : Run S) (o : Option ℕ) → IsRun (with_event codec session TakesReady r) → ((s : Run S) → IsRun s → IsRun (drained codec session n s)) → IsRun (elim o as (λ x. Run S) [
    | None ↦ with_event codec session TakesReady r
    | Some number ↦ drained codec session n (with_event codec session (Decodes number true) (with_event codec session TakesReady r))
  ])
  drained_step n r None is more = is
  drained_step n r (Some number) is more = more (with_event codec session (Decodes number true) (with_event codec session TakesReady r)) (event_run (Decodes number true) (with_event codec session TakesReady r) tt is)

  drained_run : (n : ℕ) (r : Run S) → IsRun r → IsRun (drained codec session n r)
  unfolding drained
  drained_run zero r is = event_run TakesReady r tt is
  drained_run (suc n) r is = drained_step n r (ready_answer codec r.world.receiver) (event_run TakesReady r tt is) (λ s of. drained_run n s of)

  down_run : (k : ℕ) (r : Run S) → IsRun r → IsRun (down codec session k r)
  down_run k r is = let s : Run S = with_event codec session (Delivers k) r in drained_run (length (acks s.world)) s (event_run (Delivers k) r tt is)

  up_run : (k : ℕ) (r : Run S) → IsRun r → IsRun (up codec session k r)
  up_run k r is = event_run (Hears k) r tt is

  each_run : (step : ℕ → Run S → Run S) → ((k : ℕ) (r : Run S) → IsRun r → IsRun (step k r)) → (ks : List ℕ) (r : Run S) → IsRun r → IsRun (each codec session step ks r)
  each_run step keeps [] r is = is
  each_run step keeps (k ∷ more) r is = each_run step keeps more (step k r) (keeps k r is)

  down_all_run : (r : Run S) → IsRun r → IsRun (down_all codec session r)
  down_all_run r is = each_run (down codec session) down_run (unnamed downs_in r.events (length (sent r.world))) r is

  up_all_run : (r : Run S) → IsRun r → IsRun (up_all codec session r)
  up_all_run r is = each_run (up codec session) up_run (unnamed ups_in r.events (length (acks r.world))) r is

  wait_run : (time : ℕ) (r : Run S) → IsRun r → IsRun (wait codec session time r)
  wait_run time r is = event_run (Passes _) r tt is

  rest_run : (pictures : List Picture) (r : Run S) → Each (HasSize session) pictures → IsRun r → IsRun (rest codec session pictures r)
  rest_run [] r sizes is = is
  rest_run (picture ∷ more) r sizes is =
      rest_run more _ sizes.1 (wait_run ((1000000 * session.head.rate.1) / session.head.rate.0) _ (up_all_run _ (down_all_run _ (picture_run (λ job. false) picture r sizes.0 is))))

  -- a run, if there is one
  abbrev pub IsRunIn : Option (Run S) → Type 0
  IsRunIn None = Unit {0}
  IsRunIn (Some r) = IsRun r

  with_left : (r : Run S) (more : List Picture) → IsRun r → Each (HasSize session) more → IsRun (record r { left = more })
  with_left r more is sizes = record { world = is.world; sizes = is.sizes; left = sizes }

  next_run : (is_late : Job → Bool) (pictures : List Picture) (r : Run S) → Each (HasSize session) pictures → IsRun r → IsRunIn (next_line codec session is_late pictures r)
  next_run is_late [] r sizes is = tt
  next_run is_late (picture ∷ more) r sizes is = picture_run is_late picture (record r { left = more }) sizes.0 (with_left r more is sizes.1)

  if_run : (b : Bool) (r : Run S) → IsRun r → IsRunIn (cond b (Some r) None)
  if_run true r is = is
  if_run false r is = tt

  pub line_run : (next : ScriptLine) (r : Run S) → IsRun r → IsRunIn (line codec session next r)
  line_run NextLine r is = next_run (λ job. false) r.left r is.left is
  line_run NextLate r is = next_run is_fine r.left r is.left is
  line_run (DownLine k) r is = if_run (is_number k (length (sent r.world))) (down codec session k r) (down_run k r is)
  line_run (UpLine k) r is = if_run (is_number k (length (acks r.world))) (up codec session k r) (up_run k r is)
  line_run DownAll r is = down_all_run r is
  line_run UpAll r is = up_all_run r is
  line_run (Wait time) r is = wait_run time r is
  line_run Rest r is = rest_run r.left (record r { left = [] }) is.left (with_left r [] is tt)

  then_run : (next : ScriptLine) (o : Option (Run S)) → IsRunIn o → IsRunIn (option_and_then (line codec session next) o)
  then_run next None is = tt
  then_run next (Some r) is = line_run next r is

  played_run : (lines : List ScriptLine) (o : Option (Run S)) → IsRunIn o → IsRunIn (played codec session lines o)
  played_run [] o is = is
  played_run (next ∷ more) o is = played_run more (option_and_then (line codec session next) o) (then_run next o is)

  pub begun_run : (pictures : List Picture) → Each (HasSize session) pictures → IsRun (begun pictures)
  unfolding after
  begun_run pictures sizes = record { world = refl; sizes = tt; left = sizes }

  -- each run keeps the promises
  pub run_holds : IsLawful codec → IsSession session → (pictures : List Picture) → Each (HasSize session) pictures → (lines : List ScriptLine) (r : Run S) → played codec session lines (Some (begun pictures)) ≡ Some r → Promises codec session r.world
  run_holds law ok pictures sizes lines r e =
      let is : IsRun r = subst IsRunIn e (played_run lines (Some (begun pictures)) (begun_run pictures sizes)) in
      subst (Promises codec session) (sym is.world) (all_interleavings codec session law ok r.events is.sizes)
