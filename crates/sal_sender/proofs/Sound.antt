-- The choices of every legal past are chained.
use Rattle.std.proofs.Common.{◌≡◌, ◌≢◌, ℕ, ◌+◌, ◌-◌, ◌≤◌, max, min, Bool, true, false, cond, not, ◌&&◌, List, [], ◌∷◌, length, Option, Some, None, refl, ap, sym, ◌∙◌, subst, arith, eqb, leb, ◌⊎◌, inl, inr}
use Rattle.std.proofs.lemmas.Bool.{eqb-true, eqb-false, leb-true, eq-eqb, ne_eqb}
use Rattle.std.specs.List.{find, list_any}
use Rattle.std.specs.Option.{unwrap_or}
use Rattle.sal_base.specs.Lists.{Has, Each}
use Rattle.sal_codec.specs.Coding.{Coding}
use Rattle.sal_sender.specs.declared.choice.Choice.{Choice}
use Rattle.sal_sender.specs.declared.answers.Next.TheVariants.{Started, NotChosen, Full, Memory as NextMemory}
use Rattle.sal_sender.specs.declared.answers.Chosen.TheVariants.{NoPicture, Waiting, Sent, Nothing, Memory}
use Rattle.sal_sender.specs.Past.{Past, NextPicture, TakeJob, Report, Choose, Hear, choices, opened, floor_of, tip_of, floor, tip, now}
use Rattle.sal_sender.specs.Chain.{sources_from, chain}
use Rattle.sal_sender.specs.OneThread.{Session}
use Rattle.sal_sender.specs.Acks.{acknowledged, safe, lost}
use Rattle.sal_sender.specs.Jobs.{Job, base, plan, jobs}
use Rattle.sal_sender.specs.declared.choice.JobRole.TheVariants.{Coarse, Spare, Fine}
use Rattle.sal_sender.specs.Answers.{jobs_after}
use Rattle.sal_sender.specs.Promises.{IsLegalSender}
use Rattle.sal_sender.specs.Sound.{IsFrom, HasFloor, Follows, AreChained, IsSound}
use Rattle.sal_sender.proofs.Thread.{IsChosen, chosen_is, find_has, has_filter, filter_true}

each_has : {X : Type 0} (P : X → Type 0) (xs : List X) (x : X) → Each P xs → Has xs x → P x
each_has P [] x each has = absurd has
each_has P (y ∷ ys) x each (inl h) = subst P (sym h) each.0
each_has P (y ∷ ys) x each (inr h) = each_has P ys x each.1 h

-- no choice is made while a picture is open
pub opened_choices : (past before : Past) → opened past ≡ Some before → choices past ≡ choices before
opened_choices [] before h = absurd (cc)
opened_choices (NextPicture picture moment (Started jobs) ∷ past) before h = let e : past ≡ before = cc in ap choices e
opened_choices (NextPicture picture moment (NotChosen n) ∷ past) before h = opened_choices past before h
opened_choices (NextPicture picture moment Full ∷ past) before h = opened_choices past before h
opened_choices (NextPicture picture moment NextMemory ∷ past) before h = opened_choices past before h
opened_choices (TakeJob answer ∷ past) before h = opened_choices past before h
opened_choices (Report job gave answer ∷ past) before h = opened_choices past before h
opened_choices (Hear came moment answer ∷ past) before h = opened_choices past before h
opened_choices (Choose moment (Sent choice burst) ∷ past) before h = absurd (cc)
opened_choices (Choose moment (Nothing budget sizes) ∷ past) before h = absurd (cc)
opened_choices (Choose moment NoPicture ∷ past) before h = opened_choices past before h
opened_choices (Choose moment (Waiting id) ∷ past) before h = opened_choices past before h
opened_choices (Choose moment Memory ∷ past) before h = opened_choices past before h

-- a chain of sources has no number above the newest
source_step : (b : Bool) (n m : ℕ) (own rest : List ℕ) (x : ℕ) → (b ≡ true → n ≤ m) → (Has own x → x ≤ m) → (Has rest x → x ≤ m) → Has (elim b as (λ c. List ℕ) [ true ↦ n ∷ own | false ↦ rest ]) x → x ≤ m
source_step true n m own rest x low f g (inl e) = let p : n ≤ m = low refl in omega arith
source_step true n m own rest x low f g (inr h) = f h
source_step false n m own rest x low f g h = g h

pub sources_low : (chosen : List Choice) (n x : ℕ) → AreChained chosen → Has (sources_from chosen n) x → x ≤ length chosen
unfolding sources_from
sources_low [] n x chained h = absurd h
sources_low (choice ∷ older) n x chained h =
    source_step (eqb n choice.number) n (length (choice ∷ older)) (sources_from older choice.source) (sources_from older n) x
    (λ (e : eqb n choice.number ≡ true). let p : n ≡ choice.number = eqb-true _ _ e in omega (arith, chained.0.number))
    (λ (q : Has (sources_from older choice.source) x). let p : x ≤ length older = sources_low older choice.source x chained.1 q in omega arith)
    (λ (q : Has (sources_from older n) x). let p : x ≤ length older = sources_low older n x chained.1 q in omega arith) h

pub tip_is : (chosen : List Choice) → AreChained chosen → tip_of chosen ≡ length chosen
tip_is [] chained = refl
tip_is (choice ∷ older) chained = omega (arith, chained.0.number)

newest_or : (o : Option ℕ) (P : ℕ → Type 0) → P 0 → ((n : ℕ) → o ≡ Some n → P n) → P (unwrap_or o 0)
newest_or None P z f = z
newest_or (Some n) P z f = f n refl

abbrev pub IsNear : List Choice → ℕ → Type 0
IsNear chosen n = IsFrom (floor_of chosen) n × (n ≤ length chosen)

-- the safe number is 0, or one on the chain
pub safe_from : (past : Past) → AreChained (choices past) → IsNear (choices past) (safe past)
safe_from past chained =
    newest_or (find (λ n. list_any (λ m. eqb m n) (acknowledged past)) (chain past)) (IsNear (choices past)) (inl refl, omega arith)
    (λ n e. let has = find_has (λ n. list_any (λ m. eqb m n) (acknowledged past)) (chain past) n e in (
      inr (leb-true (floor past) n (filter_true (λ n. leb (floor past) n) (sources_from (choices past) (tip past)) n has)),
      sources_low (choices past) (tip past) n chained (has_filter (λ n. leb (floor past) n) (sources_from (choices past) (tip past)) n has),
    ))

pub floor_low : (choice : Choice) (older : List Choice) → Follows older choice → choice.floor ≤ choice.number
floor_low choice older f = from f.own_floor
  where
    from : HasFloor choice → choice.floor ≤ choice.number
    from (inl e) = omega (arith, e.1)
    from (inr e) = omega (arith, e.1, f.source, f.number)

tip_from : (chosen : List Choice) → AreChained chosen → IsNear chosen (tip_of chosen)
tip_from [] chained = (inl refl, omega arith)
tip_from (choice ∷ older) chained = (inr (floor_low choice older chained.0), omega (arith, chained.0.number))

pick : (a b : Bool) (P : ℕ → Type 0) (x y z : ℕ) → P x → P y → P z → P (cond a x (cond b y z))
pick true b P x y z p q r = p
pick false true P x y z p q r = q
pick false false P x y z p q r = r

-- so is the base
pub base_from : (past : Past) → AreChained (choices past) → IsNear (choices past) (base past)
base_from past chained =
    pick (not (eqb (tip past) 0) && eqb ((tip past - floor past) + 1) 16) (lost past) (IsNear (choices past)) 0 (safe past) (tip past)
    (inl refl, omega arith) (safe_from past chained) (tip_from (choices past) chained)

-- where the window is full, the base is the initial state
full_window : (past : Past) → 1 ≤ tip past → (tip past - floor past) + 1 ≡ 16 → base past ≡ 0
full_window past low full =
    let some : tip past ≢ 0 = (λ (e : tip past ≡ 0). omega arith) in
    let e : eqb (tip past) 0 ≡ false = ne_eqb (tip past) 0 some in
    let f : eqb ((tip past - floor past) + 1) 16 ≡ true = eq-eqb _ _ full in
    rw (e, f) refl

-- the floor that a choice sets, by its source
floors : (b : Bool) (source tip floor safe : ℕ) → eqb source 0 ≡ b → IsFrom floor source → source ≤ tip → tip ≤ floor + 15 → floor ≤ tip + 1 → (1 ≤ tip → (tip - floor) + 1 ≡ 16 → source ≡ 0)
    → (((source ≡ 0) × (cond b (tip + 1) (max floor (min safe source)) ≡ tip + 1)) ⊎ ((1 ≤ source) × (cond b (tip + 1) (max floor (min safe source)) ≤ source)))
    × (floor ≤ cond b (tip + 1) (max floor (min safe source)))
    × (tip + 1 ≤ cond b (tip + 1) (max floor (min safe source)) + 15)
floors true source tip floor safe e from low window high full = (inl (eqb-true _ _ e, refl), high, omega arith)
floors false source tip floor safe e from low window high full =
    let some : source ≢ 0 = eqb-false _ _ e in
    let above : floor ≤ source = not_zero from in
    (inr (omega arith, omega arith), omega arith, (let no : (tip - floor) + 1 ≢ 16 = (λ (q : (tip - floor) + 1 ≡ 16). some (full (omega arith) q)) in omega arith))
  where
    not_zero : IsFrom floor source → floor ≤ source
    not_zero (inl z) = absurd (eqb-false _ _ e z)
    not_zero (inr h) = h

window_is : (chosen : List Choice) → AreChained chosen → (tip_of chosen ≤ floor_of chosen + 15) × (floor_of chosen ≤ tip_of chosen + 1)
window_is [] chained = (omega arith, omega arith)
window_is (choice ∷ older) chained = (chained.0.window, (let p : choice.floor ≤ choice.number = floor_low choice older chained.0 in omega arith))

abbrev IsOfPlan : Past → Job → Type 0
IsOfPlan before job = (job.source ≡ base before) ⊎ ((job.source ≡ safe before) × (base before ≡ tip before))

job_from : (before : Past) (job : Job) → AreChained (choices before) → IsOfPlan before job → IsNear (choices before) job.source
job_from before job chained (inl e) = subst (IsNear (choices before)) (sym e) (base_from before chained)
job_from before job chained (inr e) = subst (IsNear (choices before)) (sym e.0) (safe_from before chained)

job_full : (before : Past) (job : Job) → IsOfPlan before job → 1 ≤ tip before → (tip before - floor before) + 1 ≡ 16 → job.source ≡ 0
job_full before job (inl e) low full = e ∙ full_window before low full
job_full before job (inr e) low full = absurd (let z : base before ≡ 0 = full_window before low full in let t : base before ≡ tip before = e.1 in omega arith)

each_map : {X : Type 0} (P Q : X → Type 0) (f : (x : X) → P x → Q x) (xs : List X) → Each P xs → Each Q xs
each_map P Q f [] e = tt
each_map P Q f (x ∷ xs) e = (f x e.0, each_map P Q f xs e.1)

plan_step : (b : Bool) (first base sure newest q : ℕ) → (b ≡ true → base ≡ newest)
    → Each (λ (job : Job). (job.source ≡ base) ⊎ ((job.source ≡ sure) × (base ≡ newest)))
    (cond b (record { id = first; role = Coarse; source = base; q = min 127 (q + 4) } ∷ record { id = first + 1; role = Spare; source = sure; q = min 127 (q + 4) } ∷ record { id = first + 2; role = Fine; source = base; q = q - 4 } ∷ [])
    (record { id = first; role = Coarse; source = base; q = min 127 (q + 4) } ∷ record { id = first + 1; role = Fine; source = base; q = q - 4 } ∷ []))
plan_step true first base sure newest q h = (inl refl, (inr (refl, h refl), (inl refl, tt)))
plan_step false first base sure newest q h = (inl refl, (inl refl, tt))

first_and : (a b : Bool) → (a && b) ≡ true → a ≡ true
first_and true b h = refl
first_and false b h = absurd (cc)

-- each job is encoded from the base, or from the safe state where the base is the tip
pub jobs_planned : (first base sure newest q : ℕ) → Each (λ (job : Job). (job.source ≡ base) ⊎ ((job.source ≡ sure) × (base ≡ newest))) (plan first base sure newest q)
jobs_planned first base sure newest q = plan_step (eqb base newest && not (eqb base sure)) first base sure newest q (λ (e : (eqb base newest && not (eqb base sure)) ≡ true). eqb-true base newest (first_and _ _ e))

module _ {S : Type 0} (codec : Coding S) (session : Session) where
  planned : (before : Past) → Each (IsOfPlan before) (jobs before)
  planned before = jobs_planned _ (base before) (safe before) (tip before) _

  follows : (past : Past) (at : ℕ) (choice : Choice) (burst : List (List ℕ)) → IsChosen codec session past at choice burst → AreChained (choices past) → Follows (choices past) choice
  follows past at choice burst is chained =
      let same : choices past ≡ choices is.before = opened_choices past is.before is.opened_there in
      let of : IsOfPlan is.before is.job = each_has (IsOfPlan is.before) (jobs is.before) is.job (planned is.before) is.among in
      let near : IsNear (choices past) is.job.source = subst (λ cs. IsNear cs is.job.source) (sym same) (job_from is.before is.job (subst AreChained same chained) of) in
      let full : 1 ≤ tip past → (tip past - floor past) + 1 ≡ 16 → is.job.source ≡ 0 = subst (λ cs. 1 ≤ tip_of cs → (tip_of cs - floor_of cs) + 1 ≡ 16 → is.job.source ≡ 0) (sym same) (job_full is.before is.job of) in
      let t : tip past ≡ length (choices past) = tip_is (choices past) chained in
      let w = window_is (choices past) chained in
      let f = floors (eqb is.job.source 0) is.job.source (tip past) (floor past) (safe past) refl near.0 (let p : is.job.source ≤ length (choices past) = near.1 in omega arith) w.0 w.1 full in
      subst (λ c. Follows (choices past) c) (sym is.is) (record {
        number = omega arith;
        source = near.1;
        own_floor = f.0;
        rising = f.1;
        window = f.2;
      })

  -- the choices of every legal past are chained
  pub chained_of_legal : (past : Past) → IsLegalSender codec session past → AreChained (choices past)
  chained_of_legal [] legal = tt
  chained_of_legal (NextPicture picture moment answer ∷ past) legal = chained_of_legal past legal.1
  chained_of_legal (TakeJob answer ∷ past) legal = chained_of_legal past legal.1
  chained_of_legal (Report job gave answer ∷ past) legal = chained_of_legal past legal.1
  chained_of_legal (Hear came moment answer ∷ past) legal = chained_of_legal past legal.1
  chained_of_legal (Choose moment NoPicture ∷ past) legal = chained_of_legal past legal.1
  chained_of_legal (Choose moment (Waiting id) ∷ past) legal = chained_of_legal past legal.1
  chained_of_legal (Choose moment Memory ∷ past) legal = chained_of_legal past legal.1
  chained_of_legal (Choose moment (Nothing budget sizes) ∷ past) legal = chained_of_legal past legal.1
  chained_of_legal (Choose moment (Sent choice burst) ∷ past) legal =
      (follows past (max (now past) moment) choice burst (chosen_is codec session past moment choice burst legal.0) (chained_of_legal past legal.1), chained_of_legal past legal.1)

  open_from : (past : Past) (o : Option Past) → opened past ≡ o → AreChained (choices past) → Each (λ job. IsFrom (floor past) job.source × (job.source ≤ tip past)) (jobs_after o)
  open_from past None e chained = tt
  open_from past (Some before) e chained =
      let same : choices past ≡ choices before = opened_choices past before e in
      let there : AreChained (choices before) = subst AreChained same chained in
      each_map (IsOfPlan before) _
      (λ (job : Job) (of : IsOfPlan before job).
      let near : IsNear (choices past) job.source = subst (λ cs. IsNear cs job.source) (sym same) (job_from before job there of) in
      let t : tip past ≡ length (choices past) = tip_is (choices past) chained in
      (near.0, (let p : job.source ≤ length (choices past) = near.1 in omega arith)))
      (jobs before) (planned before)

  pub sound_of_legal : (past : Past) → IsLegalSender codec session past → IsSound past
  sound_of_legal past legal =
      let chained = chained_of_legal past legal in
      record { chained = chained; jobs_from = open_from past (opened past) refl chained }

pub sound : {S : Type 0} (codec : Coding S) (session : Session) (past : Past) → IsLegalSender codec session past → IsSound past
sound codec session past legal = sound_of_legal codec session past legal
