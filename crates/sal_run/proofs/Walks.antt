-- Datagrams and acknowledgements by number.
use Rattle.std.proofs.Common.{◌≡◌, ℕ, zero, suc, ◌+◌, ◌-◌, ◌^◌, ◌<◌, ◌≤◌, min, Bool, true, false, cond, not, ◌||◌, ◌==◌, List, [], ◌∷◌, ◌++◌, length, map, Option, Result, Ok, Err, refl, ap, sym, ◌∙◌, subst, arith}
use Rattle.std.proofs.lemmas.Bool.{eqb-true, eq-eqb}
use Rattle.std.specs.List.{filter, list_any}
use Rattle.std.specs.Result.{IsErrAnd}
use Rattle.sal_base.specs.declared.picture.Picture.{Picture}
use Rattle.sal_codec.specs.Coding.{Coding}
use Rattle.sal_wire.specs.Fragmentation.{below}
use Rattle.sal_y4m.specs.declared.head.Head.{Head}
use Rattle.sal_sender.specs.Jobs.{Job}
use Rattle.sal_sender.specs.OneThread.{Session}
use Rattle.sal_run.specs.CountedParts.{CountedParts}
use Rattle.sal_world.specs.World.{WorldEvent, Delivers, Hears, Passes, acks}
use Rattle.sal_world.specs.Script.{Run, downs_in, ups_in, unnamed, with_event, next_picture, down, up, each, wait}
use Rattle.sal_world.specs.declared.diary.DiaryFault.{DiaryFault}
use Rattle.sal_run.specs.declared.stop.RunStop.{RunStop}
use Rattle.sal_run.specs.declared.stop.RunStop.TheVariants.{Memory}
use Rattle.sal_run.specs.Loop.{session_of}
use Rattle.sal_run.specs.Marks.{Marks, is_marked}
use Rattle.sal_run.specs.Named.{AreNamed, IsMarked}
use Rattle.sal_run.specs.Running.{IsRunning, Stopped, Goes, IsAt, Comes}
use Rattle.sal_run.specs.Walk.{unmarked, unless_marked, Walk}
use Rattle.sal_run.proofs.Grow.{Grows, grows_none, grows_event, drained_kept, next_kept, down_kept, downs_kept, ups_kept, downs_still, ups_still}
use Rattle.sal_run.proofs.Steps.{stopped_later, memory_stops}

or_true : (b : Bool) → (b || true) ≡ true
or_true true = refl
or_true false = refl

min_turned : (k x m t w : ℕ) → x ≡ min (m + t) k → m ≡ w → x ≡ min k (w + t)
min_turned k x m t w e same = omega (arith, e, same)

-- the moment after a wait
pub wait_moment : (x m t v w : ℕ) → x ≡ min (m + t) 18446744073709551615 → m ≡ v → v ≡ w → x ≡ min (2 ^ 64 - 1) (w + t)
wait_moment x m t v w e a b = min_turned 18446744073709551615 x m t w e (a ∙ b)

-- a mark that is there already
pub already_marked : (k : ℕ) (m : Marks) → is_marked m k ≡ true → IsMarked k m m
already_marked k m e = record { marked = λ j. cases j (k == j) refl; known = refl }
  where
    cases : (j : ℕ) (b : Bool) → (k == j) ≡ b → is_marked m j ≡ (k == j || is_marked m j)
    cases j true h = let same : k ≡ j = eqb-true k j h in let here : is_marked m j ≡ true = subst (λ i. is_marked m i ≡ true) same e in rw h here
    cases j false h = rw h refl

named_more : (names : WorldEvent → ℕ → Bool) (m new : Marks) (k : ℕ) (e : WorldEvent) (events : List WorldEvent) → ((j : ℕ) → names e j ≡ (k == j)) → IsMarked k m new → AreNamed names events m → AreNamed names (e ∷ events) new
named_more names m new k e events is mark old = record {
  marked = λ j. mark.marked j ∙ (ap (λ (b : Bool). k == j || b) (old.marked j) ∙ ap (λ (b : Bool). b || list_any (λ x. names x j) events) (sym (is j)));
  known = λ j low high. mark.marked j ∙ (ap (λ (b : Bool). k == j || b) (old.known j low (subst (λ n. j ≤ n) mark.known high)) ∙ or_true (k == j));
}

pub passed : (names : WorldEvent → ℕ → Bool) (events : List WorldEvent) (m : Marks) (last : ℕ) → AreNamed names events m → ((k : ℕ) → 1 ≤ k → k ≤ last → is_marked m k ≡ true) → AreNamed names events (record m { known = last })
passed names events m last is all = record { marked = is.marked; known = all }

-- ---- the numbers that aren't marked

numbers : ℕ → ℕ → List ℕ
numbers at zero = []
numbers at (suc n) = (at + 1) ∷ numbers (at + 1) n

numbers_last : (at n : ℕ) → numbers at (suc n) ≡ numbers at n ++ ((at + n) + 1) ∷ []
unfolding numbers
numbers_last at zero = ap (λ (k : ℕ). k ∷ []) (omega arith)
numbers_last at (suc n) =
    let same : ((at + 1) + n) + 1 ≡ (at + suc n) + 1 = omega arith in
    ap (λ (ks : List ℕ). (at + 1) ∷ ks) (numbers_last (at + 1) n ∙ ap (λ (k : ℕ). numbers (at + 1) n ++ k ∷ []) same)

map_push : (xs : List ℕ) (x : ℕ) → map (λ k. k + 1) (xs ++ x ∷ []) ≡ map (λ k. k + 1) xs ++ (x + 1) ∷ []
map_push [] x = refl
map_push (y ∷ ys) x = ap (λ (ks : List ℕ). (y + 1) ∷ ks) (map_push ys x)

counted : (n : ℕ) → map (λ k. k + 1) (below n) ≡ numbers 0 n
unfolding below numbers
counted zero = refl
counted (suc n) =
    let same : (0 + n) + 1 ≡ n + 1 = omega arith in
    map_push (below n) n ∙ (ap (λ (ks : List ℕ). ks ++ (n + 1) ∷ []) (counted n) ∙ (ap (λ (k : ℕ). numbers 0 n ++ k ∷ []) (sym same) ∙ sym (numbers_last 0 n)))

unnamed_step : (b c : Bool) (k : ℕ) (xs ys : List ℕ) → b ≡ c → xs ≡ ys → cond (not b) (k ∷ xs) xs ≡ cond c ys (k ∷ ys)
unnamed_step true true k xs ys e h = h
unnamed_step true false k xs ys e h = absurd cc
unnamed_step false true k xs ys e h = absurd cc
unnamed_step false false k xs ys e h = ap (λ (zs : List ℕ). k ∷ zs) h

unnamed_from : (p : ℕ → Bool) (m : Marks) (at n : ℕ) → ((k : ℕ) → p k ≡ is_marked m k) → filter (λ k. not (p k)) (numbers at n) ≡ unmarked m at n
unfolding numbers
unnamed_from p m at zero same = refl
unnamed_from p m at (suc n) same = unnamed_step (p (at + 1)) (is_marked m (at + 1)) (at + 1) _ _ (same (at + 1)) (unnamed_from p m (at + 1) n same)

unnamed_is : (names : WorldEvent → ℕ → Bool) (events : List WorldEvent) (m : Marks) (n : ℕ) → AreNamed names events m → unnamed names events n ≡ unmarked m 0 n
unnamed_is names events m n is =
    ap (λ (ks : List ℕ). filter (λ k. not (list_any (λ e. names e k) events)) ks) (counted n) ∙ unnamed_from (λ k. list_any (λ e. names e k) events) m 0 n (λ k. sym (is.marked k))

skip : (m : Marks) (d at n : ℕ) → ((k : ℕ) → at < k → k ≤ at + d → is_marked m k ≡ true) → unmarked m at n ≡ unmarked m (at + d) (n - d)
skip m zero at n all =
    let P : ℕ → Type 0 = λ a. unmarked m at n ≡ unmarked m a n in
    let Q : ℕ → Type 0 = λ k. unmarked m at n ≡ unmarked m (at + 0) k in
    let a_is : at ≡ at + 0 = omega arith in
    let n_is : n ≡ n - 0 = omega arith in
    subst Q n_is (subst P a_is refl)
skip m (suc d) at zero all =
    let Q : ℕ → Type 0 = λ k. [] ≡ unmarked m (at + suc d) k in
    let none : 0 ≡ 0 - suc d = omega arith in
    subst Q none refl
skip m (suc d) at (suc n) all =
    let here : is_marked m (at + 1) ≡ true = all (at + 1) (omega arith) (omega arith) in
    let Q : ℕ → Type 0 = λ k. unmarked m (at + 1) n ≡ unmarked m k (suc n - suc d) in
    let R : ℕ → Type 0 = λ k. unmarked m (at + 1) n ≡ unmarked m ((at + 1) + d) k in
    let a_is : (at + 1) + d ≡ at + suc d = omega arith in
    let n_is : n - d ≡ suc n - suc d = omega arith in
    rw here (subst Q a_is (subst R n_is (skip m d (at + 1) n (λ k low high. all k (omega (arith, low)) (omega (arith, high))))))

skip_known : (m : Marks) (n : ℕ) → ((k : ℕ) → 1 ≤ k → k ≤ m.known → is_marked m k ≡ true) → unmarked m 0 n ≡ unmarked m m.known (n - m.known)
skip_known m n all =
    let Q : ℕ → Type 0 = λ k. unmarked m 0 n ≡ unmarked m k (n - m.known) in
    let same : 0 + m.known ≡ m.known = omega arith in
    subst Q same (skip m m.known 0 n (λ k low high. all k (omega (arith, low)) (omega (arith, high))))

-- a mark of a number that was passed changes nothing for those that come
mark_passed : (m new : Marks) (k at n : ℕ) → IsMarked k m new → k ≤ at → unmarked new at n ≡ unmarked m at n
mark_passed m new k at zero mark le = refl
mark_passed m new k at (suc n) mark le = step (k == at + 1) refl (mark_passed m new k (at + 1) n mark (omega (arith, le)))
  where
    step : (b : Bool) → (k == at + 1) ≡ b → unmarked new (at + 1) n ≡ unmarked m (at + 1) n → cond (is_marked new (at + 1)) (unmarked new (at + 1) n) ((at + 1) ∷ unmarked new (at + 1) n) ≡ cond (is_marked m (at + 1)) (unmarked m (at + 1) n) ((at + 1) ∷ unmarked m (at + 1) n)
    step true h rest = let same : k ≡ at + 1 = eqb-true k (at + 1) h in absurd (omega (arith, same, le))
    step false h rest =
        let same : is_marked new (at + 1) ≡ is_marked m (at + 1) = mark.marked (at + 1) ∙ ap (λ (b : Bool). b || is_marked m (at + 1)) h in
        rw (same, rest) refl

module _ {S : Type 0} (codec : Coding S) (session : Session) (step : ℕ → Run S → Run S) where
  pub walk_first : (names : WorldEvent → ℕ → Bool) (events : List WorldEvent) (m : Marks) (last n : ℕ) (r : Run S) → AreNamed names events m → last ≡ n → Walk codec session step last m.known m r (each codec session step (unnamed names events n) r)
  walk_first names events m last n r is e = record {
    onward = ap (λ (ks : List ℕ). each codec session step ks r) (sym (skip_known m last is.known) ∙ (sym (unnamed_is names events m last is) ∙ ap (λ (k : ℕ). unnamed names events k) e));
    below = is.known;
  }

  each_step : (b : Bool) (k : ℕ) (ks : List ℕ) (r : Run S) → each codec session step (cond b ks (k ∷ ks)) r ≡ each codec session step ks (cond b r (step k r))
  each_step true k ks r = refl
  each_step false k ks r = refl

  -- the next number is taken, or passed
  pub walk_split : (last at : ℕ) (m : Marks) (now target : Run S) → Walk codec session step last at m now target → at < last → each codec session step (unmarked m (at + 1) (last - (at + 1))) (unless_marked m step (at + 1) now) ≡ target
  walk_split last at m now target walk lt =
      let n : ℕ = last - (at + 1) in
      let P : ℕ → Type 0 = λ k. each codec session step (unmarked m at k) now ≡ target in
      let more : last - at ≡ suc n = omega (arith, lt) in
      sym (each_step (is_marked m (at + 1)) (at + 1) (unmarked m (at + 1) n) now) ∙ subst P more walk.onward

  pub walk_next : (last at : ℕ) (m new : Marks) (now target : Run S) → Walk codec session step last at m now target → at < last → IsMarked (at + 1) m new → Walk codec session step last (at + 1) new (unless_marked m step (at + 1) now) target
  walk_next last at m new now target walk lt mark = record {
    onward =
        ap (λ (ks : List ℕ). each codec session step ks (unless_marked m step (at + 1) now)) (mark_passed m new (at + 1) (at + 1) (last - (at + 1)) mark (omega arith)) ∙ walk_split last at m now target walk lt;
    below = λ k low high. below_at k low high (at + 1 == k) refl;
  }
    where
      below_at : (k : ℕ) → 1 ≤ k → k ≤ at + 1 → (b : Bool) → (at + 1 == k) ≡ b → is_marked new k ≡ true
      below_at k low high true h = mark.marked k ∙ rw h refl
      below_at k low high false h =
          let apart : at + 1 ≡ k → ⊥ = λ e. not_same (sym h ∙ same_test k e) in
          mark.marked k ∙ (ap (λ (b : Bool). at + 1 == k || b) (walk.below k low (omega (arith, high, apart))) ∙ or_true (at + 1 == k))
        where
          not_same : false ≡ true → ⊥
          not_same e = absurd cc

          same_test : (k : ℕ) → at + 1 ≡ k → (at + 1 == k) ≡ true
          same_test k e = eq-eqb (at + 1) k e

  pub walk_last : (last at : ℕ) (m : Marks) (now target : Run S) → Walk codec session step last at m now target → last ≤ at → now ≡ target
  walk_last last at m now target walk le =
      let P : ℕ → Type 0 = λ k. each codec session step (unmarked m at k) now ≡ target in
      let none : last - at ≡ 0 = omega (arith, le) in
      subst P none walk.onward

module _ {S : Type 0} (codec : Coding S) (head : Head) where
  abbrev event : WorldEvent → Run S → Run S
  event e r = with_event codec (session_of head) e r

  module _ (gives : DiaryFault → Bool) where
    pub comes_exit : {X : Type 0} (b : CountedParts S) (downs ups : Marks) (held : Option (List ℕ)) (r : Run S) (result : Result X RunStop) (stop : RunStop) → IsErrAnd result (λ e. e ≡ stop) → Stopped codec head gives held r.events stop → Comes codec head gives b downs ups held r result
    comes_exit b downs ups held r (Ok x) stop h p = absurd h
    comes_exit b downs ups held r (Err e) stop h p = subst (λ s. Stopped codec head gives held r.events s) (sym h) p

    -- what stops a part stops the whole
    pub grown_exit : {X : Type 0} (b : CountedParts S) (downs ups : Marks) (held : Option (List ℕ)) (s r : Run S) (result : Result X RunStop) (stop : RunStop) → Grows s r → IsErrAnd result (λ e. e ≡ stop) → Stopped codec head gives held s.events stop → Comes codec head gives b downs ups held r result
    grown_exit b downs ups held s r result stop grown h p = comes_exit b downs ups held r result stop h (stopped_later codec head gives held s.events r.events grown.later stop grown.events p)

    pub memory_exit : {X : Type 0} (old b : CountedParts S) (downs ups : Marks) (held : Option (List ℕ)) (s r : Run S) (result : Result X RunStop) (stop : RunStop) → Grows s r → IsErrAnd result (λ e. e ≡ stop) → stop ≡ Memory → IsRunning codec head old held s → Comes codec head gives b downs ups held r result
    memory_exit old b downs ups held s r result stop grown h is_memory is = comes_exit b downs ups held r result stop h (memory_stops codec head gives old held s r.events grown.later stop is_memory is grown.events)

    -- a picture names no number
    pub next_comes : (b : CountedParts S) (downs ups : Marks) (held : Option (List ℕ)) (late : Job → Bool) (picture : Picture) (r : Run S) (result : Result (Unit {0}) RunStop) → AreNamed downs_in r.events downs → AreNamed ups_in r.events ups
        → Goes codec head gives b held (next_picture codec (session_of head) late picture r) result → Comes codec head gives b downs ups held (next_picture codec (session_of head) late picture r) result
    next_comes b downs ups held late picture r (Ok x) ds us p = record {
      running = p;
      downs_are = next_kept codec (session_of head) (λ s. AreNamed downs_in s.events downs) (λ e u s is. downs_still codec (session_of head) downs e u s is) late picture r ds;
      ups_are = next_kept codec (session_of head) (λ s. AreNamed ups_in s.events ups) (λ e u s is. ups_still codec (session_of head) ups e u s is) late picture r us;
    }
    next_comes b downs ups held late picture r (Err stop) ds us p = p

    pub down_comes : (b : CountedParts S) (downs new ups : Marks) (held : Option (List ℕ)) (k : ℕ) (r : Run S) (result : Result (Unit {0}) RunStop) → IsMarked k downs new → AreNamed downs_in r.events downs → AreNamed ups_in r.events ups
        → Goes codec head gives b held (down codec (session_of head) k r) result → Comes codec head gives b new ups held (down codec (session_of head) k r) result
    down_comes b downs new ups held k r (Ok x) mark ds us p =
        let s : Run S = event (Delivers k) r in
        record {
          running = p;
          downs_are = drained_kept codec (session_of head) (λ t. AreNamed downs_in t.events new) (λ e u t is. downs_still codec (session_of head) new e u t is) (length (acks s.world)) s (named_more downs_in downs new k (Delivers k) r.events (λ j. refl) mark ds);
          ups_are = drained_kept codec (session_of head) (λ t. AreNamed ups_in t.events ups) (λ e u t is. ups_still codec (session_of head) ups e u t is) (length (acks s.world)) s (record { marked = us.marked; known = us.known });
        }
    down_comes b downs new ups held k r (Err stop) mark ds us p = p

    pub up_comes : (b : CountedParts S) (downs ups new : Marks) (held : Option (List ℕ)) (k : ℕ) (r : Run S) (result : Result (Unit {0}) RunStop) → IsMarked k ups new → AreNamed downs_in r.events downs → AreNamed ups_in r.events ups
        → Goes codec head gives b held (up codec (session_of head) k r) result → Comes codec head gives b downs new held (up codec (session_of head) k r) result
    up_comes b downs ups new held k r (Ok x) mark ds us p = record {
      running = p;
      downs_are = record { marked = ds.marked; known = ds.known };
      ups_are = named_more ups_in ups new k (Hears k) r.events (λ j. refl) mark us;
    }
    up_comes b downs ups new held k r (Err stop) mark ds us p = p

    pub wait_comes : (b : CountedParts S) (downs ups : Marks) (held : Option (List ℕ)) (time moment : ℕ) (r : Run S) (result : Result (Unit {0}) RunStop) → moment ≡ min (2 ^ 64 - 1) (r.world.moment + time) → AreNamed downs_in r.events downs → AreNamed ups_in r.events ups
        → Goes codec head gives b held (event (Passes moment) r) result → Comes codec head gives b downs ups held (wait codec (session_of head) time r) result
    wait_comes b downs ups held time moment r (Ok x) e ds us p = record {
      running = subst (λ m. IsRunning codec head b held (event (Passes m) r)) e p;
      downs_are = record { marked = ds.marked; known = ds.known };
      ups_are = record { marked = us.marked; known = us.known };
    }
    wait_comes b downs ups held time moment r (Err stop) e ds us p = subst (λ m. Stopped codec head gives held (Passes m ∷ r.events) stop) e p

    pub unless_comes : {X : Type 0} (b : CountedParts S) (downs ups : Marks) (held : Option (List ℕ)) (m : Marks) (step : ℕ → Run S → Run S) (k : ℕ) (r : Run S) (result : Result X RunStop) → is_marked m k ≡ false → Comes codec head gives b downs ups held (step k r) result → Comes codec head gives b downs ups held (unless_marked m step k r) result
    unless_comes b downs ups held m step k r result e p = rw e p

    pub already_comes : (b : CountedParts S) (downs ups : Marks) (held : Option (List ℕ)) (m : Marks) (step : ℕ → Run S → Run S) (k : ℕ) (r : Run S) → is_marked m k ≡ true → IsAt codec head b downs ups held r → IsAt codec head b downs ups held (unless_marked m step k r)
    already_comes b downs ups held m step k r e p = rw e p

    -- where a walk stands
    pub record Left (step : ℕ → Run S → Run S) (last at : ℕ) (m : Marks) (b : CountedParts S) (downs ups : Marks) (held : Option (List ℕ)) (target : Run S) : Type 0 where
      pub now : Run S
      pub here : IsAt codec head b downs ups held now
      pub walk : Walk codec (session_of head) step last at m now target

    pub downs_exit : {X : Type 0} (last at : ℕ) (b new : CountedParts S) (downs ups downs' ups' : Marks) (held held' : Option (List ℕ)) (target : Run S) (result : Result X RunStop) (stop : RunStop) (left : Left (down codec (session_of head)) last at downs b downs ups held target) → at < last
        → IsErrAnd result (λ e. e ≡ stop) → Stopped codec head gives held' (unless_marked downs (down codec (session_of head)) (at + 1) left.now).events stop → Comes codec head gives new downs' ups' held' target result
    downs_exit last at b new downs ups downs' ups' held held' target result stop left lt h p =
        let one : Run S = unless_marked downs (down codec (session_of head)) (at + 1) left.now in
        let grown : Grows one target =
        subst (λ (s : Run S). Grows one s) (walk_split codec (session_of head) (down codec (session_of head)) last at downs left.now target left.walk lt)
        (downs_kept codec (session_of head) (λ s. Grows one s) (λ e s g. grows_event codec (session_of head) one e s g) (unmarked downs (at + 1) (last - (at + 1))) one (grows_none one)) in
        grown_exit new downs' ups' held' one target result stop grown h p

    pub ups_exit : {X : Type 0} (last at : ℕ) (b new : CountedParts S) (downs ups downs' ups' : Marks) (held held' : Option (List ℕ)) (target : Run S) (result : Result X RunStop) (stop : RunStop) (left : Left (up codec (session_of head)) last at ups b downs ups held target) → at < last
        → IsErrAnd result (λ e. e ≡ stop) → Stopped codec head gives held' (unless_marked ups (up codec (session_of head)) (at + 1) left.now).events stop → Comes codec head gives new downs' ups' held' target result
    ups_exit last at b new downs ups downs' ups' held held' target result stop left lt h p =
        let one : Run S = unless_marked ups (up codec (session_of head)) (at + 1) left.now in
        let grown : Grows one target =
        subst (λ (s : Run S). Grows one s) (walk_split codec (session_of head) (up codec (session_of head)) last at ups left.now target left.walk lt)
        (ups_kept codec (session_of head) (λ s. Grows one s) (λ e s g. grows_event codec (session_of head) one e s g) (unmarked ups (at + 1) (last - (at + 1))) one (grows_none one)) in
        grown_exit new downs' ups' held' one target result stop grown h p

    pub downs_passed : (last at : ℕ) (b : CountedParts S) (downs ups : Marks) (held : Option (List ℕ)) (target : Run S) (left : Left (down codec (session_of head)) last at downs b downs ups held target) → last ≤ at → IsAt codec head b (record downs { known = last }) ups held target
    downs_passed last at b downs ups held target left le =
        subst (λ (s : Run S). IsAt codec head b (record downs { known = last }) ups held s) (walk_last codec (session_of head) (down codec (session_of head)) last at downs left.now target left.walk le)
        (record { running = left.here.running; downs_are = passed downs_in left.now.events downs last left.here.downs_are (λ k low high. left.walk.below k low (omega (arith, high, le))); ups_are = left.here.ups_are })

    pub ups_passed : (last at : ℕ) (b : CountedParts S) (downs ups : Marks) (held : Option (List ℕ)) (target : Run S) (left : Left (up codec (session_of head)) last at ups b downs ups held target) → last ≤ at → IsAt codec head b downs (record ups { known = last }) held target
    ups_passed last at b downs ups held target left le =
        subst (λ (s : Run S). IsAt codec head b downs (record ups { known = last }) held s) (walk_last codec (session_of head) (up codec (session_of head)) last at ups left.now target left.walk le)
        (record { running = left.here.running; downs_are = left.here.downs_are; ups_are = passed ups_in left.now.events ups last left.here.ups_are (λ k low high. left.walk.below k low (omega (arith, high, le))) })

  pub deliver_grows : (k : ℕ) (r : Run S) → Grows (event (Delivers k) r) (down codec (session_of head) k r)
  deliver_grows k r = let s : Run S = event (Delivers k) r in drained_kept codec (session_of head) (λ t. Grows s t) (λ e u t g. grows_event codec (session_of head) s e t g) (length (acks s.world)) s (grows_none s)

  pub down_grows : (k : ℕ) (r : Run S) → Grows r (down codec (session_of head) k r)
  down_grows k r = down_kept codec (session_of head) (λ t. Grows r t) (λ e t g. grows_event codec (session_of head) r e t g) k r (grows_none r)

  pub up_grows : (k : ℕ) (r : Run S) → Grows r (up codec (session_of head) k r)
  up_grows k r = grows_event codec (session_of head) r (Hears k) r (grows_none r)
