-- What the steps of a run keep, and that their events come after those before.
use Rattle.std.proofs.Common.{◌≡◌, ℕ, zero, suc, ◌*◌, ◌/◌, Bool, true, false, cond, List, [], ◌∷◌, ◌++◌, length, Option, Some, None, refl, ap, sym, ◌∙◌, append_assoc}
use Rattle.sal_base.specs.declared.picture.Picture.{Picture}
use Rattle.sal_codec.specs.Coding.{Coding}
use Rattle.sal_sender.specs.Jobs.{Job}
use Rattle.sal_sender.specs.OneThread.{Session}
use Rattle.sal_sender.specs.Choosing.{first_in}
use Rattle.sal_sender.specs.Answers.{waiting_jobs}
use Rattle.sal_receiver.specs.Ready.{ready_answer}
use Rattle.sal_world.specs.World.{WorldEvent, Starts, TakesJob, Reports, Chooses, Delivers, Hears, TakesReady, Decodes, Passes, sent, acks}
use Rattle.sal_world.specs.Script.{Run, gives, downs_in, ups_in, unnamed, with_event, run_jobs, next_picture, drained, down, up, each, down_all, up_all, wait, rest}
use Rattle.sal_run.specs.Marks.{Marks}
use Rattle.sal_run.specs.Named.{AreNamed}

-- an event that names no number
abbrev pub IsUnnamed : WorldEvent → Type 0
IsUnnamed (Delivers which) = ⊥
IsUnnamed (Hears which) = ⊥
IsUnnamed _ = Unit {0}

module _ {S : Type 0} (codec : Coding S) (session : Session) (P : Run S → Type 0) where
  either_kept : (b : Bool) (r s : Run S) → P r → P s → P (cond b r s)
  either_kept true r s p q = p
  either_kept false r s p q = q

  module _ (keeps : (e : WorldEvent) → IsUnnamed e → (s : Run S) → P s → P (with_event codec session e s)) where
    jobs_step : (is_late : Job → Bool) (n : ℕ) (r : Run S) (o : Option Job) → P r → ((s : Run S) → P s → P (run_jobs codec session is_late n s)) → P (elim o as (λ x. Run S) [
      | None ↦ r
      | Some job ↦ cond (is_late job) r (run_jobs codec session is_late n (with_event codec session (Reports job.id (gives codec session r job)) (with_event codec session TakesJob r)))
    ])
    jobs_step is_late n r None p more = p
    jobs_step is_late n r (Some job) p more =
        let s : Run S = with_event codec session (Reports job.id (gives codec session r job)) (with_event codec session TakesJob r) in
        either_kept (is_late job) r (run_jobs codec session is_late n s) p (more s (keeps (Reports job.id (gives codec session r job)) tt (with_event codec session TakesJob r) (keeps TakesJob tt r p)))

    pub jobs_kept : (is_late : Job → Bool) (n : ℕ) (r : Run S) → P r → P (run_jobs codec session is_late n r)
    unfolding run_jobs
    jobs_kept is_late zero r p = p
    jobs_kept is_late (suc n) r p = jobs_step is_late n r (first_in (waiting_jobs r.world.sender)) p (λ s q. jobs_kept is_late n s q)

    pub chosen_kept : (is_late : Job → Bool) (r : Run S) → P r → P (run_jobs codec session (λ job. false) 3 (with_event codec session Chooses (run_jobs codec session is_late 3 r)))
    chosen_kept is_late r p =
        let early : Run S = run_jobs codec session is_late 3 r in
        jobs_kept (λ job. false) 3 (with_event codec session Chooses early) (keeps Chooses tt early (jobs_kept is_late 3 r p))

    pub next_kept : (is_late : Job → Bool) (picture : Picture) (r : Run S) → P r → P (next_picture codec session is_late picture r)
    next_kept is_late picture r p = chosen_kept is_late (with_event codec session (Starts picture) r) (keeps (Starts picture) tt r p)

    drained_step : (n : ℕ) (r : Run S) (o : Option ℕ) → P (with_event codec session TakesReady r) → ((s : Run S) → P s → P (drained codec session n s)) → P (elim o as (λ x. Run S) [
      | None ↦ with_event codec session TakesReady r
      | Some number ↦ drained codec session n (with_event codec session (Decodes number true) (with_event codec session TakesReady r))
    ])
    drained_step n r None p more = p
    drained_step n r (Some number) p more = more (with_event codec session (Decodes number true) (with_event codec session TakesReady r)) (keeps (Decodes number true) tt (with_event codec session TakesReady r) p)

    pub drained_kept : (n : ℕ) (r : Run S) → P r → P (drained codec session n r)
    unfolding drained
    drained_kept zero r p = keeps TakesReady tt r p
    drained_kept (suc n) r p = drained_step n r (ready_answer codec r.world.receiver) (keeps TakesReady tt r p) (λ s q. drained_kept n s q)

  module _ (keeps : (e : WorldEvent) (s : Run S) → P s → P (with_event codec session e s)) where
    pub down_kept : (k : ℕ) (r : Run S) → P r → P (down codec session k r)
    down_kept k r p = let s : Run S = with_event codec session (Delivers k) r in drained_kept (λ e h s q. keeps e s q) (length (acks s.world)) s (keeps (Delivers k) r p)

    pub up_kept : (k : ℕ) (r : Run S) → P r → P (up codec session k r)
    up_kept k r p = keeps (Hears k) r p

    pub each_kept : (step : ℕ → Run S → Run S) → ((k : ℕ) (r : Run S) → P r → P (step k r)) → (ks : List ℕ) (r : Run S) → P r → P (each codec session step ks r)
    each_kept step more [] r p = p
    each_kept step more (k ∷ ks) r p = each_kept step more ks (step k r) (more k r p)

    pub downs_kept : (ks : List ℕ) (r : Run S) → P r → P (each codec session (down codec session) ks r)
    downs_kept ks r p = each_kept (down codec session) down_kept ks r p

    pub ups_kept : (ks : List ℕ) (r : Run S) → P r → P (each codec session (up codec session) ks r)
    ups_kept ks r p = each_kept (up codec session) up_kept ks r p

    pub down_all_kept : (r : Run S) → P r → P (down_all codec session r)
    down_all_kept r p = downs_kept (unnamed downs_in r.events (length (sent r.world))) r p

    pub up_all_kept : (r : Run S) → P r → P (up_all codec session r)
    up_all_kept r p = ups_kept (unnamed ups_in r.events (length (acks r.world))) r p

    pub wait_kept : (time : ℕ) (r : Run S) → P r → P (wait codec session time r)
    wait_kept time r p = keeps (Passes _) r p

    pub shot_kept : (is_late : Job → Bool) (picture : Picture) (r : Run S) → P r → P (next_picture codec session is_late picture r)
    shot_kept is_late picture r p = next_kept (λ e h s q. keeps e s q) is_late picture r p

    pub rest_kept : (pictures : List Picture) (r : Run S) → P r → P (rest codec session pictures r)
    rest_kept [] r p = p
    rest_kept (picture ∷ more) r p =
        rest_kept more _ (wait_kept ((1000000 * session.head.rate.1) / session.head.rate.0) _ (up_all_kept _ (down_all_kept _ (shot_kept (λ job. false) picture r p))))

-- a run goes on from another: its events come after the other's, and as many pictures are left
pub record Grows {S : Type 0} (r s : Run S) : Type 0 where
  pub later : List WorldEvent
  pub events : s.events ≡ later ++ r.events
  pub left : s.left ≡ r.left

pub grows_none : {S : Type 0} (r : Run S) → Grows r r
grows_none r = record { later = []; events = refl; left = refl }

pub grows_then : {S : Type 0} (r s t : Run S) → Grows r s → Grows s t → Grows r t
grows_then r s t a b = record { later = b.later ++ a.later; events = b.events ∙ (ap (λ es. b.later ++ es) a.events ∙ sym (append_assoc b.later a.later r.events)); left = b.left ∙ a.left }

module _ {S : Type 0} (codec : Coding S) (session : Session) where
  pub grows_event : (r : Run S) (e : WorldEvent) (s : Run S) → Grows r s → Grows r (with_event codec session e s)
  grows_event r e s a = record { later = e ∷ a.later; events = ap (λ es. e ∷ es) a.events; left = a.left }

  -- no number more was named
  pub named_still : (names : WorldEvent → ℕ → Bool) (m : Marks) (e : WorldEvent) (s : Run S) → ((k : ℕ) → names e k ≡ false) → AreNamed names s.events m → AreNamed names (e ∷ s.events) m
  named_still names m e s none is = record { marked = λ k. is.marked k ∙ rw (none k) refl; known = is.known }

  pub downs_still : (m : Marks) (e : WorldEvent) → IsUnnamed e → (s : Run S) → AreNamed downs_in s.events m → AreNamed downs_in (with_event codec session e s).events m
  downs_still m (Starts picture) h s is = record { marked = is.marked; known = is.known }
  downs_still m TakesJob h s is = record { marked = is.marked; known = is.known }
  downs_still m (Reports job gave) h s is = record { marked = is.marked; known = is.known }
  downs_still m Chooses h s is = record { marked = is.marked; known = is.known }
  downs_still m (Delivers which) h s is = absurd h
  downs_still m (Hears which) h s is = absurd h
  downs_still m TakesReady h s is = record { marked = is.marked; known = is.known }
  downs_still m (Decodes n ran) h s is = record { marked = is.marked; known = is.known }
  downs_still m (Passes moment) h s is = record { marked = is.marked; known = is.known }

  pub ups_still : (m : Marks) (e : WorldEvent) → IsUnnamed e → (s : Run S) → AreNamed ups_in s.events m → AreNamed ups_in (with_event codec session e s).events m
  ups_still m (Starts picture) h s is = record { marked = is.marked; known = is.known }
  ups_still m TakesJob h s is = record { marked = is.marked; known = is.known }
  ups_still m (Reports job gave) h s is = record { marked = is.marked; known = is.known }
  ups_still m Chooses h s is = record { marked = is.marked; known = is.known }
  ups_still m (Delivers which) h s is = absurd h
  ups_still m (Hears which) h s is = absurd h
  ups_still m TakesReady h s is = record { marked = is.marked; known = is.known }
  ups_still m (Decodes n ran) h s is = record { marked = is.marked; known = is.known }
  ups_still m (Passes moment) h s is = record { marked = is.marked; known = is.known }
