-- What is chosen by what is kept is what is chosen by the past.
use Rattle.std.proofs.Common.{◌≡◌, ℕ, ◌+◌, max, min, length, ◌++◌, Bool, true, false, cond, ◌&&◌, List, [], ◌∷◌, map, Option, Some, None, refl, ap, sym, ◌∙◌, subst, arith, eqb, ◌⊎◌, inl, inr}
use Rattle.std.specs.List.{find, list_any, cons_option, filter_map}
use Rattle.std.specs.Option.{option_map, option_to_list, is_some}
use Rattle.sal_y4m.specs.declared.head.Head.{Head}
use Rattle.sal_codec.specs.Coding.{Coding}
use Rattle.sal_sender.specs.declared.outcome.Gave.{Gave}
use Rattle.sal_sender.specs.declared.open_picture.Candidate.{Candidate}
use Rattle.sal_sender.specs.declared.open_picture.OpenPicture.{OpenPicture}
use Rattle.sal_sender.specs.declared.answers.Chosen.TheVariants.{NoPicture, Waiting, Nothing, Memory}
use Rattle.sal_sender.specs.declared.choice.Size.{Size}
use Rattle.sal_sender.specs.declared.choice.Size.TheVariants.{Datagrams, NoMemory}
use Rattle.sal_sender.specs.declared.choice.Size.TheVariants.{Oversize as TooLarge}
use Rattle.std.proofs.lemmas.List.{append-nil}
use Rattle.sal_sender.specs.Past.{Past, Choose, opened, now, tip, last_job, quantiser, choices, pictures, datagrams, sent_at_of}
use Rattle.sal_sender.specs.OneThread.{Session}
use Rattle.sal_sender.specs.Acks.{acknowledged, safe, lost}
use Rattle.sal_sender.specs.Jobs.{Job, jobs, base, needs_spare, coarse_job, spare_job, fine_job}
use Rattle.sal_sender.specs.Choosing.{SizedJob, may_send, candidates, choose_found, size_of, eligible, is_coarse, is_fine, candidate_fits, is_spare, lost_since, needed, reported, choose_reported, choose_needed, choose_opened, chosen, first_some}
use Rattle.sal_sender.specs.Selecting.{is_lost_in, needed_in, first_wanted, second_wanted, id_without_report, missing_from, fits_in, has_fit, size_in, fitting_in, found_in, sizes_in}
use Rattle.sal_sender.specs.Sending.{lost_of, sent_at_in, budget_in, after_nothing}
use Rattle.sal_sender.specs.declared.choice.Choice.{Choice}
use Rattle.sal_sender.specs.SentFrames.{sent_frames_of}
use Rattle.sal_sender.specs.Sound.{AreChained}
use Rattle.std.proofs.lemmas.Bool.{le-leb}
use Rattle.sal_sender.specs.JobWork.{JobWork, JobReport, encoded}
use Rattle.sal_sender.specs.Machine.{Machine, IsCandidate, IsCandidateIn, AreCandidates}
use Rattle.sal_sender.specs.Stands.{Summary, summary, work_in, candidate_in, spare_in, open_in, Keeps, SenderStands}
use Rattle.sal_sender.proofs.Quiet.{same_parts, stands_quiet, quiet_no_picture, quiet_waiting}
use Rattle.sal_sender.proofs.Sound.{chained_of_legal, floor_low}
use Rattle.sal_sender.proofs.Started.{none_open, lost_is}

either_some : {X : Type 0} (a b : Option X) (x : X) → first_some a b ≡ Some x → (a ≡ Some x) ⊎ (b ≡ Some x)
either_some None b x h = inr h
either_some (Some y) b x h = inl h

abbrev pub ran_of : {S : Type 0} → JobWork S → Gave → JobReport S
ran_of w gave = record { work = w; gave = gave }

module _ {S : Type 0} (codec : Coding S) where
  fit_same : (budget : ℕ) (o : Option (Candidate (JobReport S))) (s : Candidate (JobReport S)) → fitting_in codec budget o ≡ Some s → o ≡ Some s
  fit_same budget None s h = absurd (cc)
  fit_same budget (Some x) s h = go (has_fit budget (size_in codec x)) h
    where
      go : (b : Bool) → cond b (Some x) None ≡ Some s → Some x ≡ Some s
      go true q = q
      go false q = absurd (cc)

  in_seat : (floor tip : ℕ) (head : Head) (o : Option (Candidate (JobReport S))) (s : Candidate (JobReport S)) → IsCandidateIn floor tip head o → o ≡ Some s → IsCandidate floor tip head s
  in_seat floor tip head o s is e = subst (λ x. IsCandidateIn floor tip head x) e is

  wanted_seat : (b : Bool) (floor tip : ℕ) (head : Head) (o : OpenPicture (JobReport S)) → AreCandidates floor tip head (Some o) → IsCandidateIn floor tip head (first_wanted b o) × IsCandidateIn floor tip head (second_wanted b o)
  wanted_seat true floor tip head o is = (is.1.0, tt)
  wanted_seat false floor tip head o is = (is.1.1, is.0)

  -- what is found is a job of the open picture
  pub found_seat : (b : Bool) (budget floor tip : ℕ) (head : Head) (open_picture : Option (OpenPicture (JobReport S))) (o : OpenPicture (JobReport S)) (s : Candidate (JobReport S)) → AreCandidates floor tip head open_picture → open_picture ≡ Some o → found_in codec b budget o ≡ Some s → IsCandidate floor tip head s
  found_seat b budget floor tip head open_picture o s is' e h = go (either_some (fitting_in codec budget (first_wanted b o)) (fitting_in codec budget (second_wanted b o)) s h)
    where
      is : AreCandidates floor tip head (Some o)
      is = subst (λ x. AreCandidates floor tip head x) e is'

      go : (fitting_in codec budget (first_wanted b o) ≡ Some s) ⊎ (fitting_in codec budget (second_wanted b o) ≡ Some s) → IsCandidate floor tip head s
      go (inl q) = in_seat floor tip head (first_wanted b o) s (wanted_seat b floor tip head o is).0 (fit_same budget (first_wanted b o) s q)
      go (inr q) = in_seat floor tip head (second_wanted b o) s (wanted_seat b floor tip head o is).1 (fit_same budget (second_wanted b o) s q)

  -- no picture is open
  pub no_picture : (m : Machine S) (past : Past) (moment : ℕ) → SenderStands codec m past → m.open_picture ≡ None → ((NoPicture ≡ chosen codec m.session past moment) ⊎ (NoPicture ≡ Memory)) × SenderStands codec m (Choose moment NoPicture ∷ past)
  unfolding chosen
  no_picture m past moment s h =
      let shut : opened past ≡ None = none_open codec past m s.keeps h in
      stands_quiet codec m past (Choose moment NoPicture) s (inl (sym (ap (choose_opened codec m.session past (max (now past) moment)) shut))) (quiet_no_picture past moment)

  -- nothing changes for want of memory
  pub no_memory : (m : Machine S) (past : Past) (moment : ℕ) → SenderStands codec m past → ((Memory ≡ chosen codec m.session past moment) ⊎ (Memory ≡ Memory)) × SenderStands codec m (Choose moment Memory ∷ past)
  no_memory m past moment s = stands_quiet codec m past (Choose moment Memory) s (inr refl) (Rattle.sal_sender.proofs.Quiet.quiet_memory past moment)

  spare_any : (b : Bool) (s : Summary) (first base sure q : ℕ) → is_some (spare_in codec b s (spare_job (first + 1) sure q)) ≡ list_any is_spare (cond b (coarse_job first base q ∷ spare_job (first + 1) sure q ∷ fine_job (first + 2) base q ∷ []) (coarse_job first base q ∷ fine_job (first + 1) base q ∷ []))
  spare_any true s first base sure q = refl
  spare_any false s first base sure q = refl

  -- whether the tip is lost since, by what is kept
  pub lost_here : (s : Summary) (before past : Past) → is_lost_in (lost past) (open_in codec s before) ≡ lost_since before past
  lost_here s before past = ap (λ b. eqb (base before) (tip before) && lost past && b) (spare_any (needs_spare (base before) (safe before) (tip before)) s (last_job before + 1) (base before) (safe before) (quantiser before))

  waits_job : (session : Session) (before past : Past) (at id : ℕ) (job : Job) (w : JobWork S) (o : Option Gave) → Some id ≡ id_without_report job.id (option_map (λ gave. ran_of w gave) o) → Waiting id ≡ choose_reported codec session before past at job o
  waits_job session before past at id job w None h = let e : id ≡ job.id = cc in ap (λ n. Waiting n) e
  waits_job session before past at id job w (Some gave) h = absurd (cc)

  waits_plan : (b spared : Bool) (session : Session) (before past : Past) (at id : ℕ) (t : Bool) (c p f k g : Job) → is_spare c ≡ false → is_coarse c ≡ true → is_spare p ≡ true → is_spare g ≡ false → Some id ≡ missing_from (needed_in b (record { from_tip = t; coarse = candidate_in codec (summary past) c; spare = spare_in codec spared (summary past) p; fine = candidate_in codec (summary past) f })) → Waiting id ≡ choose_needed codec session before past at (needed b (cond spared (c ∷ p ∷ k ∷ []) (c ∷ g ∷ [])))
  waits_plan true true session before past at id t c p f k g x y z v h = rw (x, z) (waits_job session before past at id p (work_in codec (summary past).shot (summary past).chosen p) (reported past p.id) h)
  waits_plan true false session before past at id t c p f k g x y z v h = absurd (cc)
  waits_plan false true session before past at id t c p f k g x y z v h = rw y (waits_job session before past at id c (work_in codec (summary past).shot (summary past).chosen c) (reported past c.id) h)
  waits_plan false false session before past at id t c p f k g x y z v h = rw y (waits_job session before past at id c (work_in codec (summary past).shot (summary past).chosen c) (reported past c.id) h)

  -- the needed report isn't in
  pub waits : (m : Machine S) (past : Past) (moment id : ℕ) (o : OpenPicture (JobReport S)) (tip_lost b : Bool) → SenderStands codec m past → m.open_picture ≡ Some o → tip_lost ≡ lost_of m → b ≡ is_lost_in tip_lost o → Some id ≡ missing_from (needed_in b o) → ((Waiting id ≡ chosen codec m.session past moment) ⊎ (Waiting id ≡ Memory)) × SenderStands codec m (Choose moment (Waiting id) ∷ past)
  unfolding chosen
  waits m past moment id o tip_lost b s there l e h =
      let known : tip_lost ≡ lost past = l ∙ lost_is codec m past s.keeps (chained_of_legal codec m.session past s.legal) in
      stands_quiet codec m past (Choose moment (Waiting id)) s (inl (go (opened past) refl (sym there ∙ s.keeps.open_is) known)) (quiet_waiting past moment id)
    where
      go : (x : Option Past) → opened past ≡ x → Some o ≡ option_map (open_in codec (summary past)) x → tip_lost ≡ lost past → Waiting id ≡ choose_opened codec m.session past (max (now past) moment) x
      go None q r known = absurd (cc)
      go (Some before) q r known =
          let is : o ≡ open_in codec (summary past) before = cc in
          let lost_is_b : b ≡ lost_since before past = e ∙ (ap (λ z. is_lost_in z o) known ∙ (ap (is_lost_in (lost past)) is ∙ lost_here (summary past) before past)) in
          subst (λ d. Waiting id ≡ choose_needed codec m.session before past (max (now past) moment) (needed d (jobs before))) lost_is_b
          (waits_plan b (needs_spare (base before) (safe before) (tip before)) m.session before past (max (now past) moment) id _ (coarse_job (last_job before + 1) (base before) (quantiser before)) (spare_job ((last_job before + 1) + 1) (safe before) (quantiser before)) _ (fine_job ((last_job before + 1) + 2) (base before) (quantiser before)) (fine_job ((last_job before + 1) + 1) (base before) (quantiser before)) refl refl refl refl (subst (λ y. Some id ≡ missing_from (needed_in b y)) is h))

abbrev pub nothing_summary : Past → ℕ → Summary
nothing_summary past moment = record (summary past) {
  now = max moment (now past);
  q = min 127 (quantiser past + 8);
  opened = None;
}

module _ {S : Type 0} (codec : Coding S) where
  keeps_nothing : (m : Machine S) (past : Past) (moment : ℕ) → Keeps codec m (summary past) → Keeps codec (after_nothing m moment) (nothing_summary past moment)
  keeps_nothing m past moment k = record {
    tip_is = k.tip_is;
    floor_is = k.floor_is;
    sent_is = k.sent_is;
    pictures_is = k.pictures_is;
    last_job_is = k.last_job_is;
    quantiser_is = ap (λ q. min 127 (q + 8)) k.quantiser_is;
    heard_is = k.heard_is;
    average_is = k.average_is;
    heard_at_is = k.heard_at_is;
    moment_is = omega (arith, k.moment_is);
    sent_frames_are = k.sent_frames_are;
    states_are = k.states_are;
    open_is = refl;
    waiting_are = k.waiting_are;
    outstanding_long = k.outstanding_long;
    outstanding_are = k.outstanding_are;
  }

  -- nothing is sent
  pub nothing_stands : (m : Machine S) (past : Past) (moment budget : ℕ) (sizes : List Size) → SenderStands codec m past → Nothing budget sizes ≡ chosen codec m.session past moment → SenderStands codec (after_nothing m moment) (Choose moment (Nothing budget sizes) ∷ past)
  nothing_stands m past moment budget sizes s is =
      let e = same_parts (nothing_summary past moment) (pictures past ++ []) (max moment (now past)) (length (datagrams past ++ [])) (0 + last_job past) (append-nil (pictures past)) refl (ap (λ (xs : List (List ℕ)). length xs) (append-nil (datagrams past))) (omega arith) in
      record { legal = (inl is, s.legal); keeps = subst (λ x. Keeps codec (after_nothing m moment) x) (sym e) (keeps_nothing m past moment s.keeps) }

none_else : {X : Type 0} (a b : Option X) → first_some a b ≡ None → (a ≡ None) × (b ≡ None)
none_else None b h = (refl, h)
none_else (Some x) b h = absurd (cc)

-- a job with the size of its report, where that is in
abbrev pub cand : Job → (Gave → Size) → Option Gave → Option SizedJob
cand job z o = option_map (λ gave. (job, z gave)) o

module _ {S : Type 0} (codec : Coding S) where
  pub fits_same : (budget : ℕ) (job : Job) (z : Size) → candidate_fits budget (job, z) ≡ fits_in budget z
  fits_same budget job (Datagrams n) = refl
  fits_same budget job (TooLarge first) = refl
  fits_same budget job NoMemory = refl

  unfit_one : (budget : ℕ) (job : Job) (z : Size) (s : Candidate (JobReport S)) (b : Bool) → fits_in budget z ≡ b → cond b (Some s) None ≡ None → candidate_fits budget (job, z) ≡ false
  unfit_one budget job z s true e h = absurd (cc)
  unfit_one budget job z s false e h = fits_same budget job z ∙ e

  -- where none fits by what is kept, none is found
  none_two : (budget : ℕ) (j k : Job) (z y : Gave → Size) (s t : Candidate (JobReport S)) (o p : Option Gave) → cond (has_fit budget (option_map z o)) (Some s) None ≡ None → cond (has_fit budget (option_map y p)) (Some t) None ≡ None → find (candidate_fits budget) (cons_option (cand j z o) (cons_option (cand k y p) [])) ≡ None
  none_two budget j k z y s t None None a b = refl
  none_two budget j k z y s t (Some r) None a b = rw (unfit_one budget j (z r) s (fits_in budget (z r)) refl a) refl
  none_two budget j k z y s t None (Some q) a b = rw (unfit_one budget k (y q) t (fits_in budget (y q)) refl b) refl
  none_two budget j k z y s t (Some r) (Some q) a b = rw (unfit_one budget j (z r) s (fits_in budget (z r)) refl a, unfit_one budget k (y q) t (fits_in budget (y q)) refl b) refl

  none_one : (budget : ℕ) (j : Job) (z : Gave → Size) (s : Candidate (JobReport S)) (o : Option Gave) → cond (has_fit budget (option_map z o)) (Some s) None ≡ None → find (candidate_fits budget) (cons_option (cand j z o) []) ≡ None
  none_one budget j z s None a = refl
  none_one budget j z s (Some r) a = rw (unfit_one budget j (z r) s (fits_in budget (z r)) refl a) refl

  sizes_two : (j k : Job) (z y : Gave → Size) (o p : Option Gave) → map (λ (c : SizedJob). c.1) (cons_option (cand j z o) (cons_option (cand k y p) [])) ≡ option_to_list (option_map z o) ++ option_to_list (option_map y p)
  sizes_two j k z y None None = refl
  sizes_two j k z y (Some r) None = refl
  sizes_two j k z y None (Some q) = refl
  sizes_two j k z y (Some r) (Some q) = refl

  sizes_one : (j : Job) (z : Gave → Size) (o : Option Gave) → map (λ (c : SizedJob). c.1) (cons_option (cand j z o) []) ≡ option_to_list (option_map z o) ++ []
  sizes_one j z None = refl
  sizes_one j z (Some r) = refl

module _ {S : Type 0} (codec : Coding S) (past : Past) where
  abbrev pub size_by : Job → Gave → Size
  size_by job gave = size_of (encoded codec (work_in codec (pictures past) (choices past) job)) gave

  abbrev pub cands_of : Bool → List Job → List SizedJob
  cands_of b js = filter_map (λ j. cand j (size_by j) (reported past j.id)) (eligible b js)

  abbrev pub seat_of : Job → Candidate (JobReport S)
  seat_of job = candidate_in codec (summary past) job

  pub size_seat : (job : Job) → size_in codec (seat_of job) ≡ option_map (size_by job) (reported past job.id)
  size_seat job = go (reported past job.id)
    where
      go : (o : Option Gave) → option_map (λ (r : JobReport S). size_of (encoded codec r.work) r.gave) (option_map (λ gave. ran_of (work_in codec (pictures past) (choices past) job) gave) o) ≡ option_map (size_by job) o
      go None = refl
      go (Some r) = refl

  unfit : (budget : ℕ) (job : Job) → fitting_in codec budget (Some (seat_of job)) ≡ None → cond (has_fit budget (option_map (size_by job) (reported past job.id))) (Some (seat_of job)) None ≡ None
  unfit budget job h = subst (λ x. cond (has_fit budget x) (Some (seat_of job)) None ≡ None) (size_seat job) h

  abbrev pub opened_as : Bool → Bool → Job → Job → (ℕ → Job) → ℕ → ℕ → OpenPicture (JobReport S)
  opened_as spared t c p fine m n = record { from_tip = t; coarse = seat_of c; spare = spare_in codec spared (summary past) p; fine = seat_of (fine (cond spared m n)) }

  abbrev pub planned_as : Bool → Job → Job → (ℕ → Job) → ℕ → ℕ → List Job
  planned_as spared c p fine m n = cond spared (c ∷ p ∷ fine m ∷ []) (c ∷ fine n ∷ [])

  none_planned : (b spared t : Bool) (c p : Job) (fine : ℕ → Job) (m n budget : ℕ) → is_spare c ≡ false → is_coarse c ≡ true → is_fine c ≡ false → is_spare p ≡ true → is_coarse p ≡ false → is_fine p ≡ false → ((k : ℕ) → is_spare (fine k) ≡ false) → ((k : ℕ) → is_coarse (fine k) ≡ false) → ((k : ℕ) → is_fine (fine k) ≡ true) → found_in codec b budget (opened_as spared t c p fine m n) ≡ None → find (candidate_fits budget) (cands_of b (planned_as spared c p fine m n)) ≡ None
  none_planned true true t c p fine m n budget c1 c2 c3 p1 p2 p3 f1 f2 f3 h = rw (c1, p1, f1 m) (none_one codec budget p (size_by p) (seat_of p) (reported past p.id) (unfit budget p (none_else (fitting_in codec budget (Some (seat_of p))) None h).0))
  none_planned true false t c p fine m n budget c1 c2 c3 p1 p2 p3 f1 f2 f3 h = rw (c1, f1 n) refl
  none_planned false true t c p fine m n budget c1 c2 c3 p1 p2 p3 f1 f2 f3 h =
      let e = none_else (fitting_in codec budget (Some (seat_of (fine m)))) (fitting_in codec budget (Some (seat_of c))) h in
      rw (c3, p3, f3 m, c2, p2, f2 m) (none_two codec budget (fine m) c (size_by (fine m)) (size_by c) (seat_of (fine m)) (seat_of c) (reported past (fine m).id) (reported past c.id) (unfit budget (fine m) e.0) (unfit budget c e.1))
  none_planned false false t c p fine m n budget c1 c2 c3 p1 p2 p3 f1 f2 f3 h =
      let e = none_else (fitting_in codec budget (Some (seat_of (fine n)))) (fitting_in codec budget (Some (seat_of c))) h in
      rw (c3, f3 n, c2, f2 n) (none_two codec budget (fine n) c (size_by (fine n)) (size_by c) (seat_of (fine n)) (seat_of c) (reported past (fine n).id) (reported past c.id) (unfit budget (fine n) e.0) (unfit budget c e.1))

  sizes_planned : (b spared t : Bool) (c p : Job) (fine : ℕ → Job) (m n : ℕ) → is_spare c ≡ false → is_coarse c ≡ true → is_fine c ≡ false → is_spare p ≡ true → is_coarse p ≡ false → is_fine p ≡ false → ((k : ℕ) → is_spare (fine k) ≡ false) → ((k : ℕ) → is_coarse (fine k) ≡ false) → ((k : ℕ) → is_fine (fine k) ≡ true) → map (λ (x : SizedJob). x.1) (cands_of b (planned_as spared c p fine m n)) ≡ sizes_in codec b (opened_as spared t c p fine m n)
  sizes_planned true true t c p fine m n c1 c2 c3 p1 p2 p3 f1 f2 f3 = rw (c1, p1, f1 m, size_seat p) (sizes_one codec p (size_by p) (reported past p.id))
  sizes_planned true false t c p fine m n c1 c2 c3 p1 p2 p3 f1 f2 f3 = rw (c1, f1 n) refl
  sizes_planned false true t c p fine m n c1 c2 c3 p1 p2 p3 f1 f2 f3 = rw (c3, p3, f3 m, c2, p2, f2 m, size_seat c, size_seat (fine m)) (sizes_two codec (fine m) c (size_by (fine m)) (size_by c) (reported past (fine m).id) (reported past c.id))
  sizes_planned false false t c p fine m n c1 c2 c3 p1 p2 p3 f1 f2 f3 = rw (c3, f3 n, c2, f2 n, size_seat c, size_seat (fine n)) (sizes_two codec (fine n) c (size_by (fine n)) (size_by c) (reported past (fine n).id) (reported past c.id))

  there : (session : Session) (before : Past) (at : ℕ) (budget : ℕ) (job : Job) (w : JobWork S) (o : Option Gave) → None ≡ id_without_report job.id (option_map (λ gave. ran_of w gave) o) → budget ≡ may_send session past at → find (candidate_fits budget) (candidates codec before past) ≡ None → Nothing budget (map (λ (x : SizedJob). x.1) (candidates codec before past)) ≡ choose_reported codec session before past at job o
  there session before at budget job w None h e q = absurd (cc)
  there session before at budget job w (Some gave) h e q = subst (λ n. find (candidate_fits n) (candidates codec before past) ≡ None → Nothing n (map (λ (x : SizedJob). x.1) (candidates codec before past)) ≡ choose_reported codec session before past at job (Some gave)) (sym e) (λ (q' : find (candidate_fits (may_send session past at)) (candidates codec before past) ≡ None). sym (ap (choose_found codec session past at (may_send session past at) (candidates codec before past)) q')) q

  there_planned : (b spared t : Bool) (session : Session) (before : Past) (at budget : ℕ) (c p : Job) (fine : ℕ → Job) (m n : ℕ) → is_spare c ≡ false → is_coarse c ≡ true → is_spare p ≡ true → ((k : ℕ) → is_spare (fine k) ≡ false) → None ≡ missing_from (needed_in b (opened_as spared t c p fine m n)) → (b ≡ true → spared ≡ true) → budget ≡ may_send session past at → find (candidate_fits budget) (candidates codec before past) ≡ None → Nothing budget (map (λ (x : SizedJob). x.1) (candidates codec before past)) ≡ choose_needed codec session before past at (needed b (planned_as spared c p fine m n))
  there_planned true true t session before at budget c p fine m n c1 c2 p1 f1 h i e q = rw (c1, p1) (there session before at budget p (work_in codec (pictures past) (choices past) p) (reported past p.id) h e q)
  there_planned true false t session before at budget c p fine m n c1 c2 p1 f1 h i e q = absurd (let z : false ≡ true = i refl in cc)
  there_planned false true t session before at budget c p fine m n c1 c2 p1 f1 h i e q = rw c2 (there session before at budget c (work_in codec (pictures past) (choices past) c) (reported past c.id) h e q)
  there_planned false false t session before at budget c p fine m n c1 c2 p1 f1 h i e q = rw c2 (there session before at budget c (work_in codec (pictures past) (choices past) c) (reported past c.id) h e q)

newest_link : (acked : List ℕ) (chosen : List Choice) → AreChained chosen → sent_at_in (sent_frames_of acked chosen) ≡ sent_at_of chosen
newest_link acked [] chained = refl
newest_link acked (c ∷ older) chained = rw (le-leb c.floor c.number (floor_low c older chained.0)) refl

module _ {S : Type 0} (codec : Coding S) where
  -- what may be sent, by what is kept
  pub budget_is : (m : Machine S) (past : Past) (at : ℕ) → Keeps codec m (summary past) → AreChained (choices past) → budget_in m at ≡ may_send m.session past at
  budget_is m past at k chained =
      let newest : sent_at_in m.sent_frames ≡ sent_at_of (choices past) = ap sent_at_in k.sent_frames_are ∙ newest_link (acknowledged past) (choices past) chained in
      rw (k.average_is, k.sent_is, k.heard_is, k.heard_at_is, newest) refl

  pub spared_then : (a l b sp : Bool) (x y z w : Job) → b ≡ (a && l && list_any is_spare (cond sp (x ∷ y ∷ z ∷ []) (x ∷ w ∷ []))) → is_spare x ≡ false → is_spare w ≡ false → b ≡ true → sp ≡ true
  spared_then a l b true x y z w e p q t = refl
  spared_then true true b false x y z w e p q t = absurd (let any : list_any is_spare (x ∷ w ∷ []) ≡ false = rw (p, q) refl in let r : true ≡ false = sym t ∙ (e ∙ any) in cc)
  spared_then true false b false x y z w e p q t = absurd (let r : true ≡ false = sym t ∙ e in cc)
  spared_then false l b false x y z w e p q t = absurd (let r : true ≡ false = sym t ∙ e in cc)

  -- nothing fits, though the needed report is in
  pub nothing : (m new : Machine S) (past : Past) (moment at budget : ℕ) (o : OpenPicture (JobReport S)) (tip_lost b : Bool) (sizes : List Size) → SenderStands codec m past → m.open_picture ≡ Some o → tip_lost ≡ lost_of m → b ≡ is_lost_in tip_lost o → None ≡ missing_from (needed_in b o) → at ≡ max m.acks.moment moment → budget ≡ budget_in m at → found_in codec b budget o ≡ None → sizes ≡ sizes_in codec b o → new ≡ after_nothing m moment → ((Nothing budget sizes ≡ chosen codec m.session past moment) ⊎ (Nothing budget sizes ≡ Memory)) × SenderStands codec new (Choose moment (Nothing budget sizes) ∷ past)
  unfolding chosen
  nothing m new past moment at budget o tip_lost b sizes s seated l e h when may none queued after =
      let chained = chained_of_legal codec m.session past s.legal in
      let known : tip_lost ≡ lost past = l ∙ lost_is codec m past s.keeps chained in
      let time : at ≡ max (now past) moment = when ∙ ap (λ n. max n moment) s.keeps.moment_is in
      let least : budget ≡ may_send m.session past (max (now past) moment) = may ∙ (budget_is m past at s.keeps chained ∙ ap (may_send m.session past) time) in
      let says : Nothing budget sizes ≡ chosen codec m.session past moment = go (opened past) refl (sym seated ∙ s.keeps.open_is) known least in
      (inl says, subst (λ v. SenderStands codec v (Choose moment (Nothing budget sizes) ∷ past)) (sym after) (nothing_stands codec m past moment budget sizes s says))
    where
      go : (x : Option Past) → opened past ≡ x → Some o ≡ option_map (open_in codec (summary past)) x → tip_lost ≡ lost past → budget ≡ may_send m.session past (max (now past) moment) → Nothing budget sizes ≡ choose_opened codec m.session past (max (now past) moment) x
      go None q r known least = absurd (cc)
      go (Some before) q r known least =
          let is : o ≡ open_in codec (summary past) before = cc in
          let d : b ≡ lost_since before past = e ∙ (ap (λ z. is_lost_in z o) known ∙ (ap (is_lost_in (lost past)) is ∙ lost_here codec (summary past) before past)) in
          let spared : Bool = needs_spare (base before) (safe before) (tip before) in
          let first : ℕ = last_job before + 1 in
          let c : Job = coarse_job first (base before) (quantiser before) in
          let p : Job = spare_job (first + 1) (safe before) (quantiser before) in
          let fine : ℕ → Job = (λ n. fine_job n (base before) (quantiser before)) in
          let t : Bool = eqb (base before) (tip before) in
          let empty : find (candidate_fits budget) (cands_of codec past b (jobs before)) ≡ None = none_planned codec past b spared t c p fine (first + 2) (first + 1) budget refl refl refl refl refl refl (λ k. refl) (λ k. refl) (λ k. refl) (subst (λ y. found_in codec b budget y ≡ None) is none) in
          let all : sizes ≡ map (λ (x : SizedJob). x.1) (cands_of codec past b (jobs before)) = queued ∙ (ap (sizes_in codec b) is ∙ sym (sizes_planned codec past b spared t c p fine (first + 2) (first + 1) refl refl refl refl refl refl (λ k. refl) (λ k. refl) (λ k. refl))) in
          let empty' : find (candidate_fits budget) (candidates codec before past) ≡ None = subst (λ y. find (candidate_fits budget) (cands_of codec past y (jobs before)) ≡ None) d empty in
          let all' : sizes ≡ map (λ (x : SizedJob). x.1) (candidates codec before past) = subst (λ y. sizes ≡ map (λ (x : SizedJob). x.1) (cands_of codec past y (jobs before))) d all in
          ap (λ zs. Nothing budget zs) all' ∙ subst (λ y. Nothing budget (map (λ (x : SizedJob). x.1) (candidates codec before past)) ≡ choose_needed codec m.session before past (max (now past) moment) (needed y (jobs before))) d
          (there_planned codec past b spared t m.session before (max (now past) moment) budget c p fine (first + 2) (first + 1) refl refl refl (λ k. refl) (subst (λ y. None ≡ missing_from (needed_in b y)) is h) (spared_then t (lost past) b spared c p (fine (first + 2)) (fine (first + 1)) d refl refl) least empty')
