-- The report that is found by what is kept is the one that is found by the past.
use Rattle.std.proofs.Common.{◌≡◌, ℕ, Bool, true, false, cond, List, [], Option, Some, None, refl, sym, ◌∙◌, subst, ◌⊎◌, inl, inr}
use Rattle.std.specs.List.{find, cons_option}
use Rattle.std.specs.Option.{option_map}
use Rattle.sal_codec.specs.Coding.{Coding}
use Rattle.sal_sender.specs.declared.outcome.Gave.{Gave}
use Rattle.sal_sender.specs.declared.open_picture.Candidate.{Candidate}
use Rattle.sal_sender.specs.declared.answers.Chosen.{Chosen}
use Rattle.sal_sender.specs.declared.choice.Size.{Size}
use Rattle.sal_sender.specs.Past.{Past, choices, pictures}
use Rattle.sal_sender.specs.OneThread.{Session}
use Rattle.sal_sender.specs.Jobs.{Job}
use Rattle.sal_sender.specs.Choosing.{SizedJob, may_send, candidates, is_coarse, is_fine, is_spare, candidate_fits, needed, reported, choose_among, choose_reported, choose_needed, first_some}
use Rattle.sal_sender.specs.Selecting.{id_without_report, needed_in, missing_from, fits_in, has_fit, fitting_in, found_in}
use Rattle.sal_sender.specs.JobWork.{JobWork, JobReport}
use Rattle.sal_sender.specs.Stands.{work_in}
use Rattle.sal_sender.proofs.Choosings.{ran_of, cand, fits_same, size_by, size_seat, cands_of, seat_of, opened_as, planned_as}

first_or : {X : Type 0} (a b : Option X) (x : X) → first_some a b ≡ Some x → (a ≡ Some x) ⊎ ((a ≡ None) × (b ≡ Some x))
first_or None b x h = inr (refl, h)
first_or (Some y) b x h = inl h

module _ {S : Type 0} (codec : Coding S) where
  -- a job that fits by what is kept fits by its size
  fit_one : (budget : ℕ) (j : Job) (z : Gave → Size) (s x : Candidate (JobReport S)) (o : Option Gave) → cond (has_fit budget (option_map z o)) (Some s) None ≡ Some x → (x ≡ s) × ((r : Gave) × ((o ≡ Some r) × (candidate_fits budget (j, z r) ≡ true)))
  fit_one budget j z s x None h = absurd (cc)
  fit_one budget j z s x (Some r) h = go (fits_in budget (z r)) refl h
    where
      go : (b : Bool) → fits_in budget (z r) ≡ b → cond b (Some s) None ≡ Some x → (x ≡ s) × ((y : Gave) × ((Some r ≡ Some y) × (candidate_fits budget (j, z y) ≡ true)))
      go true e q = (cc, (r, (refl, fits_same codec budget j (z r) ∙ e)))
      go false e q = absurd (cc)

  -- one that doesn't is passed over
  unfit_one : (budget : ℕ) (j : Job) (z : Gave → Size) (s : Candidate (JobReport S)) (o : Option Gave) (rest : List SizedJob) → cond (has_fit budget (option_map z o)) (Some s) None ≡ None → find (candidate_fits budget) (cons_option (cand j z o) rest) ≡ find (candidate_fits budget) rest
  unfit_one budget j z s None rest h = refl
  unfit_one budget j z s (Some r) rest h = go (fits_in budget (z r)) refl h
    where
      go : (b : Bool) → fits_in budget (z r) ≡ b → cond b (Some s) None ≡ None → cond (candidate_fits budget (j, z r)) (Some (j, z r)) (find (candidate_fits budget) rest) ≡ find (candidate_fits budget) rest
      go true e q = absurd (cc)
      go false e q = let f : candidate_fits budget (j, z r) ≡ false = fits_same codec budget j (z r) ∙ e in rw f refl

  find_first : (budget : ℕ) (j : Job) (z : Gave → Size) (r : Gave) (o : Option Gave) (rest : List SizedJob) → o ≡ Some r → candidate_fits budget (j, z r) ≡ true → find (candidate_fits budget) (cons_option (cand j z o) rest) ≡ Some (j, z r)
  find_first budget j z r o rest e f = rw (e, f) refl

module _ {S : Type 0} (codec : Coding S) (past : Past) where
  -- the job whose report was found, and what the past says of it
  pub record IsFound (candidate : Candidate (JobReport S)) (o : Option SizedJob) : Type 0 where
    pub job : Job
    pub seat_is : candidate ≡ seat_of codec past job
    pub gave : Gave
    pub reported_is : reported past job.id ≡ Some gave
    pub found : o ≡ Some (job, size_by codec past job gave)

  fit : (budget : ℕ) (j : Job) (o : Option (Candidate (JobReport S))) → fitting_in codec budget (Some (seat_of codec past j)) ≡ o → cond (has_fit budget (option_map (size_by codec past j) (reported past j.id))) (Some (seat_of codec past j)) None ≡ o
  fit budget j o h = subst (λ x. cond (has_fit budget x) (Some (seat_of codec past j)) None ≡ o) (size_seat codec past j) h

  first_found : (budget : ℕ) (j : Job) (x : Candidate (JobReport S)) (rest : List SizedJob) → fitting_in codec budget (Some (seat_of codec past j)) ≡ Some x → IsFound x (find (candidate_fits budget) (cons_option (cand j (size_by codec past j) (reported past j.id)) rest))
  first_found budget j x rest h =
      let f = fit_one codec budget j (size_by codec past j) (seat_of codec past j) x (reported past j.id) (fit budget j (Some x) h) in
      record { job = j; seat_is = f.0; gave = f.1.0; reported_is = f.1.1.0; found = find_first codec budget j (size_by codec past j) f.1.0 (reported past j.id) rest f.1.1.0 f.1.1.1 }

  one_found : (budget : ℕ) (j : Job) (x : Candidate (JobReport S)) → first_some (fitting_in codec budget (Some (seat_of codec past j))) None ≡ Some x → IsFound x (find (candidate_fits budget) (cons_option (cand j (size_by codec past j) (reported past j.id)) []))
  one_found budget j x h = go (first_or (fitting_in codec budget (Some (seat_of codec past j))) None x h)
    where
      go : (fitting_in codec budget (Some (seat_of codec past j)) ≡ Some x) ⊎ ((fitting_in codec budget (Some (seat_of codec past j)) ≡ None) × (None ≡ Some x)) → IsFound x (find (candidate_fits budget) (cons_option (cand j (size_by codec past j) (reported past j.id)) []))
      go (inl q) = first_found budget j x [] q
      go (inr q) = absurd (let n : None ≡ Some x = q.1 in cc)

  two_found : (budget : ℕ) (j k : Job) (x : Candidate (JobReport S)) → first_some (fitting_in codec budget (Some (seat_of codec past j))) (fitting_in codec budget (Some (seat_of codec past k))) ≡ Some x → IsFound x (find (candidate_fits budget) (cons_option (cand j (size_by codec past j) (reported past j.id)) (cons_option (cand k (size_by codec past k) (reported past k.id)) [])))
  two_found budget j k x h = go (first_or (fitting_in codec budget (Some (seat_of codec past j))) (fitting_in codec budget (Some (seat_of codec past k))) x h)
    where
      go : (fitting_in codec budget (Some (seat_of codec past j)) ≡ Some x) ⊎ ((fitting_in codec budget (Some (seat_of codec past j)) ≡ None) × (fitting_in codec budget (Some (seat_of codec past k)) ≡ Some x)) → IsFound x (find (candidate_fits budget) (cons_option (cand j (size_by codec past j) (reported past j.id)) (cons_option (cand k (size_by codec past k) (reported past k.id)) [])))
      go (inl q) = first_found budget j x (cons_option (cand k (size_by codec past k) (reported past k.id)) []) q
      go (inr q) =
          subst (λ o. IsFound x o) (sym (unfit_one codec budget j (size_by codec past j) (seat_of codec past j) (reported past j.id) (cons_option (cand k (size_by codec past k) (reported past k.id)) []) (fit budget j None q.0)))
          (first_found budget k x [] q.1)

  -- what is found among the jobs of a plan
  pub found_planned : (b spared t : Bool) (c p : Job) (fine : ℕ → Job) (m n budget : ℕ) (x : Candidate (JobReport S)) → is_spare c ≡ false → is_coarse c ≡ true → is_fine c ≡ false → is_spare p ≡ true → is_coarse p ≡ false → is_fine p ≡ false → ((k : ℕ) → is_spare (fine k) ≡ false) → ((k : ℕ) → is_coarse (fine k) ≡ false) → ((k : ℕ) → is_fine (fine k) ≡ true) → found_in codec b budget (opened_as codec past spared t c p fine m n) ≡ Some x → IsFound x (find (candidate_fits budget) (cands_of codec past b (planned_as codec past spared c p fine m n)))
  found_planned true true t c p fine m n budget x c1 c2 c3 p1 p2 p3 f1 f2 f3 h = rw (c1, p1, f1 m) (one_found budget p x h)
  found_planned true false t c p fine m n budget x c1 c2 c3 p1 p2 p3 f1 f2 f3 h = absurd (cc)
  found_planned false true t c p fine m n budget x c1 c2 c3 p1 p2 p3 f1 f2 f3 h = rw (c3, p3, f3 m, c2, p2, f2 m) (two_found budget (fine m) c x h)
  found_planned false false t c p fine m n budget x c1 c2 c3 p1 p2 p3 f1 f2 f3 h = rw (c3, f3 n, c2, f2 n) (two_found budget (fine n) c x h)

  -- the needed report is in, so the choice is among the candidates
  among : (session : Session) (before : Past) (at : ℕ) (job : Job) (w : JobWork S) (o : Option Gave) (answer : Chosen) → None ≡ id_without_report job.id (option_map (λ gave. ran_of w gave) o) → answer ≡ choose_among codec session past at (may_send session past at) (candidates codec before past) → answer ≡ choose_reported codec session before past at job o
  among session before at job w None answer h e = absurd (cc)
  among session before at job w (Some gave) answer h e = e

  pub among_planned : (b spared t : Bool) (session : Session) (before : Past) (at : ℕ) (c p : Job) (fine : ℕ → Job) (m n : ℕ) (answer : Chosen) → is_spare c ≡ false → is_coarse c ≡ true → is_spare p ≡ true → ((k : ℕ) → is_spare (fine k) ≡ false) → None ≡ missing_from (needed_in b (opened_as codec past spared t c p fine m n)) → (b ≡ true → spared ≡ true) → answer ≡ choose_among codec session past at (may_send session past at) (candidates codec before past) → answer ≡ choose_needed codec session before past at (needed b (planned_as codec past spared c p fine m n))
  among_planned true true t session before at c p fine m n answer c1 c2 p1 f1 h i e = rw (c1, p1) (among session before at p (work_in codec (pictures past) (choices past) p) (reported past p.id) answer h e)
  among_planned true false t session before at c p fine m n answer c1 c2 p1 f1 h i e = absurd (let z : false ≡ true = i refl in cc)
  among_planned false true t session before at c p fine m n answer c1 c2 p1 f1 h i e = rw c2 (among session before at c (work_in codec (pictures past) (choices past) c) (reported past c.id) answer h e)
  among_planned false false t session before at c p fine m n answer c1 c2 p1 f1 h i e = rw c2 (among session before at c (work_in codec (pictures past) (choices past) c) (reported past c.id) answer h e)
