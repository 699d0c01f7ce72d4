-- The work of a job by its id, of whichever picture.
use Rattle.std.proofs.Common.{◌≡◌, ℕ, suc, ◌≤◌, List, [], ◌∷◌, ◌++◌, length, Option, Some, None, refl, ap, sym, ◌∙◌, subst, arith, eqb, not, false, append-nil}
use Rattle.std.proofs.lemmas.Bool.{eq-eqb, ne_eqb}
use Rattle.std.specs.List.{find}
use Rattle.std.specs.Option.{option_map}
use Rattle.sal_base.specs.Lists.{Each}
use Rattle.sal_base.specs.declared.picture.Picture.{Picture}
use Rattle.sal_codec.specs.Coding.{Coding}
use Rattle.sal_sender.specs.declared.choice.Choice.{Choice}
use Rattle.sal_sender.specs.declared.answers.Next.TheVariants.{Started, NotChosen, Full, Memory as NextMemory}
use Rattle.sal_sender.specs.declared.answers.Chosen.TheVariants.{NoPicture, Waiting, Sent, Nothing, Memory}
use Rattle.sal_sender.specs.Past.{Past, NextPicture, TakeJob, Report, Choose, Hear, choices, pictures, opened, started, floor}
use Rattle.sal_sender.specs.OneThread.{Session}
use Rattle.sal_sender.specs.Jobs.{Job, jobs}
use Rattle.sal_sender.specs.Choosing.{first_in, first_some}
use Rattle.sal_sender.specs.Answers.{jobs_after, is_taken, waiting_jobs}
use Rattle.sal_sender.specs.Promises.{IsLegalSender}
use Rattle.sal_sender.specs.JobWork.{JobWork}
use Rattle.sal_sender.specs.Stands.{work_in, work_of, work_at, IsWorkOfItsJob}
use Rattle.sal_sender.proofs.Sound.{chained_of_legal, sound_of_legal}
use Rattle.sal_sender.proofs.Thread.{chosen_is}
use Rattle.sal_sender.proofs.HandedOut.{IsRising, jobs_rising, rising_least, each_filter}
use Rattle.sal_sender.proofs.ChosenKeeps.{started_is, sources_low, work_same}

each_map : {X : Type 0} (P Q : X → Type 0) (f : (x : X) → P x → Q x) (xs : List X) → Each P xs → Each Q xs
each_map P Q f [] e = tt
each_map P Q f (x ∷ xs) e = (f x e.0, each_map P Q f xs e.1)

each_both : {X : Type 0} (P Q : X → Type 0) (xs : List X) → Each P xs → Each Q xs → Each (λ x. P x × Q x) xs
each_both P Q [] p q = tt
each_both P Q (x ∷ xs) p q = ((p.0, q.0), each_both P Q xs p.1 q.1)

abbrev Finds : List Job → Job → Type 0
Finds xs j = find (λ (k : Job). eqb k.id j.id) xs ≡ Some j

find_later : (x : Job) (xs : List Job) (j : Job) → (suc x.id ≤ j.id) × Finds xs j → Finds (x ∷ xs) j
find_later x xs j h = let other : eqb x.id j.id ≡ false = ne_eqb x.id j.id (λ (q : x.id ≡ j.id). (let low : suc x.id ≤ j.id = h.0 in omega arith)) in rw other h.1

-- where ids rise, each job is found by its own
find_own : (least : ℕ) (xs : List Job) → IsRising least xs → Each (Finds xs) xs
find_own least [] r = tt
find_own least (x ∷ xs) r = (
  rw (eq-eqb x.id x.id refl) refl,
  each_map (λ j. (suc x.id ≤ j.id) × Finds xs j) (Finds (x ∷ xs)) (find_later x xs) xs (each_both (λ j. suc x.id ≤ j.id) (Finds xs) xs (rising_least (suc x.id) xs r.1) (find_own (suc x.id) xs r.1)),
)

module _ {S : Type 0} (codec : Coding S) where
  abbrev IsKnown : Past → List Picture → List Choice → Job → Type 0
  IsKnown past shot chosen job = work_at codec past job.id ≡ Some (work_in codec shot chosen job)

  works_found : (past : Past) (shot : List Picture) (chosen : List Choice) (js : List Job) → Each (Finds js) js → Each (λ j. first_some (option_map (work_in codec shot chosen) (find (λ (k : Job). eqb k.id j.id) js)) (work_at codec past j.id) ≡ Some (work_in codec shot chosen j)) js
  works_found past shot chosen js e = each_map (Finds js) _ (λ j h. ap (λ o. first_some (option_map (work_in codec shot chosen) o) (work_at codec past j.id)) h) js e

  -- a call that starts no picture and sends no frame
  works_stay : (past : Past) (js : List Job) → Each (IsKnown past (pictures past) (choices past)) js → Each (IsKnown past (pictures past ++ []) (choices past)) js
  works_stay past js e = subst (λ shot. Each (IsKnown past shot (choices past)) js) (sym (append-nil (pictures past))) e

  works_sent : (past : Past) (choice : Choice) (js : List Job) → Each (λ j. j.source ≤ length (choices past)) js → Rattle.sal_sender.specs.Sound.AreChained (choice ∷ choices past) → Each (IsKnown past (pictures past) (choices past)) js → Each (IsKnown past (pictures past) (choice ∷ choices past)) js
  works_sent past choice js low chained e =
      each_map (λ j. (j.source ≤ length (choices past)) × IsKnown past (pictures past) (choices past) j) (IsKnown past (pictures past) (choice ∷ choices past))
      (λ j h. h.1 ∙ ap (λ w. Some w) (work_same codec (pictures past) choice (choices past) j chained h.0)) js
      (each_both (λ j. j.source ≤ length (choices past)) (IsKnown past (pictures past) (choices past)) js low e)

module _ {S : Type 0} (codec : Coding S) (session : Session) where
  -- each job of the newest picture is known by its id
  pub works_known : (past : Past) → IsLegalSender codec session past → Each (IsKnown codec past (pictures past) (choices past)) (jobs_after (started past))
  works_known [] legal = tt
  works_known (NextPicture picture moment (Started n) ∷ past) legal = works_found codec past (pictures past ++ picture ∷ []) (choices past) (jobs past) (find_own _ (jobs past) (jobs_rising past))
  works_known (NextPicture picture moment (NotChosen n) ∷ past) legal = works_stay codec past (jobs_after (started past)) (works_known past legal.1)
  works_known (NextPicture picture moment Full ∷ past) legal = works_stay codec past (jobs_after (started past)) (works_known past legal.1)
  works_known (NextPicture picture moment NextMemory ∷ past) legal = works_stay codec past (jobs_after (started past)) (works_known past legal.1)
  works_known (TakeJob answer ∷ past) legal = works_stay codec past (jobs_after (started past)) (works_known past legal.1)
  works_known (Report job gave answer ∷ past) legal = works_stay codec past (jobs_after (started past)) (works_known past legal.1)
  works_known (Hear came moment answer ∷ past) legal = works_stay codec past (jobs_after (started past)) (works_known past legal.1)
  works_known (Choose moment NoPicture ∷ past) legal = works_stay codec past (jobs_after (started past)) (works_known past legal.1)
  works_known (Choose moment (Waiting id) ∷ past) legal = works_stay codec past (jobs_after (started past)) (works_known past legal.1)
  works_known (Choose moment (Nothing budget sizes) ∷ past) legal = works_stay codec past (jobs_after (started past)) (works_known past legal.1)
  works_known (Choose moment Memory ∷ past) legal = works_stay codec past (jobs_after (started past)) (works_known past legal.1)
  works_known (Choose moment (Sent choice burst) ∷ past) legal =
      let is = chosen_is codec session past moment choice burst legal.0 in
      let sound = sound_of_legal codec session past legal.1 in
      let chained = chained_of_legal codec session (Choose moment (Sent choice burst) ∷ past) legal in
      let same : opened past ≡ started past = is.opened_there ∙ sym (started_is past is.before is.opened_there) in
      let low : Each (λ j. j.source ≤ length (choices past)) (jobs_after (started past)) = subst (λ o. Each (λ j. j.source ≤ length (choices past)) (jobs_after o)) same (sources_low codec past (jobs_after (opened past)) (floor past) sound.jobs_from sound.chained) in
      subst (λ shot. Each (IsKnown codec past shot (choice ∷ choices past)) (jobs_after (started past))) (sym (append-nil (pictures past))) (works_sent codec past choice (jobs_after (started past)) low chained (works_known past legal.1))

  first_known : (past : Past) (js : List Job) (x : Job) → first_in js ≡ Some x → Each (IsKnown codec past (pictures past) (choices past)) js → IsKnown codec past (pictures past) (choices past) x
  first_known past [] x h e = absurd (cc)
  first_known past (y ∷ js) x h e = let own : y ≡ x = cc in subst (IsKnown codec past (pictures past) (choices past)) own e.0

  -- what waits first is known by its id
  pub waiting_known : (past : Past) (w : JobWork S) → IsLegalSender codec session past → Some w ≡ option_map (work_of codec past) (first_in (waiting_jobs past)) → work_at codec past w.id ≡ Some w
  waiting_known past w legal h = go (first_in (waiting_jobs past)) refl h
    where
      go : (o : Option Job) → first_in (waiting_jobs past) ≡ o → Some w ≡ option_map (work_of codec past) o → work_at codec past w.id ≡ Some w
      go None e h = absurd (cc)
      go (Some x) e h =
          let own : w ≡ work_of codec past x = cc in
          let known : IsKnown codec past (pictures past) (choices past) x = first_known past (waiting_jobs past) x e (each_filter (IsKnown codec past (pictures past) (choices past)) (λ job. not (is_taken past job.id)) (jobs_after (started past)) (works_known past legal)) in
          subst (λ (v : JobWork S). work_at codec past v.id ≡ Some v) (sym own) known

  -- the work that is known by a job's id is that of its job, where the picture is open
  pub known_own : (past : Past) (w : JobWork S) → IsLegalSender codec session past → work_at codec past w.id ≡ Some w → IsWorkOfItsJob codec past w
  known_own past w legal h = open_own (opened past) refl
    where
      own_each : (js : List Job) → Each (IsKnown codec past (pictures past) (choices past)) js → Each (λ job. job.id ≡ w.id → w ≡ work_of codec past job) js
      own_each js e = each_map (IsKnown codec past (pictures past) (choices past)) (λ job. job.id ≡ w.id → w ≡ work_of codec past job) (λ job known same. (let p : Some w ≡ Some (work_of codec past job) = sym h ∙ (ap (work_at codec past) (sym same) ∙ known) in cc)) js e

      open_own : (o : Option Past) → opened past ≡ o → Each (λ job. job.id ≡ w.id → w ≡ work_of codec past job) (jobs_after (opened past))
      open_own None e = subst (λ o. Each (λ job. job.id ≡ w.id → w ≡ work_of codec past job) (jobs_after o)) (sym e) tt
      open_own (Some before) e =
          let same : started past ≡ opened past = started_is past before e ∙ sym e in
          subst (λ o. Each (λ job. job.id ≡ w.id → w ≡ work_of codec past job) (jobs_after o)) same (own_each (jobs_after (started past)) (works_known past legal))
