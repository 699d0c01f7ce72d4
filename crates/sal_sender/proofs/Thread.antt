-- What was sent is what one thread sends.
use Rattle.std.proofs.Common.{◌≡◌, ℕ, zero, suc, ◌-◌, ◌<◌, ◌≤◌, max, Bool, true, false, cond, List, [], ◌∷◌, ◌++◌, map, length, Option, Some, None, refl, ap, sym, ◌∙◌, subst, arith, eqb, append-nil, length-append, ◌⊎◌, inl, inr}
use Rattle.std.proofs.lemmas.Bool.{leb-true}
use Rattle.std.proofs.lemmas.List.{length-map, map-append}
use Rattle.sal_wire.specs.Fields.{FragmentFields}
use Rattle.std.specs.Prelude.{slice_get}
use Rattle.std.specs.List.{find, filter, filter_map, cons_option}
use Rattle.std.specs.Option.{option_map}
use Rattle.sal_base.specs.Lists.{Has}
use Rattle.sal_base.specs.declared.picture.Picture.{Picture}
use Rattle.sal_base.specs.declared.coding.Encoding.{Encoding}
use Rattle.sal_base.specs.declared.coding.Encoding.TheVariants.{Frame as FrameOf, Oversize as OversizeOf}
use Rattle.sal_codec.specs.Coding.{Coding, made_of}
use Rattle.sal_wire.specs.Fragmentation.{below, fragment_count}
use Rattle.sal_wire.specs.Layout.{fragment_bytes}
use Rattle.sal_sender.specs.declared.outcome.Gave.{Gave}
use Rattle.sal_sender.specs.declared.outcome.Gave.TheVariants.{Frame as GaveFrame, Oversize as GaveOversize, NoMemory as GaveNoMemory}
use Rattle.sal_sender.specs.declared.choice.Choice.{Choice}
use Rattle.sal_sender.specs.declared.choice.Size.TheVariants.{Datagrams, NoMemory}
use Rattle.sal_sender.specs.declared.choice.Size.TheVariants.{Oversize as TooLarge}
use Rattle.sal_sender.specs.declared.answers.Next.TheVariants.{Started, NotChosen, Full, Memory as NextMemory}
use Rattle.sal_sender.specs.declared.answers.Chosen.TheVariants.{NoPicture, Waiting, Sent, Nothing, Memory}
use Rattle.sal_sender.specs.Past.{Past, NextPicture, TakeJob, Report, Choose, Hear, choices, pictures, datagrams, picture_in, opened, now, sent}
use Rattle.sal_sender.specs.Chain.{picture_at, made_from, target_of, made_at, made, state, state_at}
use Rattle.sal_sender.specs.OneThread.{Session, burst_after, one_thread}
use Rattle.sal_sender.specs.Jobs.{Job, jobs, kind_of}
use Rattle.sal_sender.specs.Choosing.{SizedJob, eligible, size_of, is_spare, is_fine, is_coarse, choice_of, datagram_count, candidate_fits, may_send, candidates, needed, lost_since, reported, choose_found, choose_reported, choose_needed, choose_opened, chosen}
use Rattle.sal_sender.specs.Promises.{IsLegalSender, IsWhatOneThreadSends}

-- each choice's picture is one of the first so many
abbrev pub ArePicturesOf : ℕ → List Choice → Type 0
ArePicturesOf n [] = Unit {0}
ArePicturesOf n (choice ∷ older) = (1 ≤ choice.picture) × (choice.picture ≤ n) × ArePicturesOf n older

pub more_pictures : (n m : ℕ) (chosen : List Choice) → n ≤ m → ArePicturesOf n chosen → ArePicturesOf m chosen
more_pictures n m [] h a = tt
more_pictures n m (choice ∷ older) h a = (a.0, (let p : choice.picture ≤ n = a.1 in omega arith), more_pictures n m older h a.2)

get_before : {X : Type 0} (xs more : List X) (k : ℕ) → k < length xs → slice_get (xs ++ more) k ≡ slice_get xs k
get_before [] more k h = absurd (omega arith)
get_before (x ∷ xs) more zero h = refl
get_before (x ∷ xs) more (suc k) h = get_before xs more k (omega arith)

pub picture_before : (shot more : List Picture) (n : ℕ) → 1 ≤ n → n ≤ length shot → picture_at (shot ++ more) n ≡ picture_at shot n
picture_before shot more n low high = rw (get_before shot more (n - 1) (omega arith)) refl

by_test : {X : Type 0} (b : Bool) (x x' y y' : X) → x ≡ x' → y ≡ y' → (elim b as (λ c. X) [ true ↦ x | false ↦ y ]) ≡ (elim b as (λ c. X) [ true ↦ x' | false ↦ y' ])
by_test true x x' y y' p q = p
by_test false x x' y y' p q = q

module _ {S : Type 0} (codec : Coding S) where
  -- pictures that come later change nothing of what was made
  pub made_before : (shot more : List Picture) (chosen : List Choice) (n : ℕ) → ArePicturesOf (length shot) chosen → made_at codec (shot ++ more) chosen n ≡ made_at codec shot chosen n
  unfolding made_at
  made_before shot more [] n a = refl
  made_before shot more (choice ∷ older) n a =
      let p : picture_at (shot ++ more) choice.picture ≡ picture_at shot choice.picture = picture_before shot more choice.picture a.0 a.1 in
      let q : made_at codec (shot ++ more) older choice.source ≡ made_at codec shot older choice.source = made_before shot more older choice.source a.2 in
      by_test (eqb n choice.number)
      (Some (made_from codec (target_of codec (made_at codec (shot ++ more) older choice.source)) (picture_at (shot ++ more) choice.picture) choice.q choice.kind))
      (Some (made_from codec (target_of codec (made_at codec shot older choice.source)) (picture_at shot choice.picture) choice.q choice.kind))
      (made_at codec (shot ++ more) older n) (made_at codec shot older n)
      (ap (λ m. Some (made_from codec (target_of codec m) (picture_at (shot ++ more) choice.picture) choice.q choice.kind)) q ∙ ap (λ x. Some (made_from codec (target_of codec (made_at codec shot older choice.source)) x choice.q choice.kind)) p)
      (made_before shot more older n a.2)

  pub state_before : (shot more : List Picture) (chosen : List Choice) (n : ℕ) → ArePicturesOf (length shot) chosen → state codec (shot ++ more) chosen n ≡ state codec shot chosen n
  state_before shot more chosen n a = ap (target_of codec) (made_before shot more chosen n a)

  pub thread_before : (session : Session) (shot more : List Picture) (chosen : List Choice) → ArePicturesOf (length shot) chosen → one_thread codec session (shot ++ more) chosen ≡ one_thread codec session shot chosen
  unfolding one_thread
  thread_before session shot more [] a = refl
  thread_before session shot more (choice ∷ older) a =
      rw (picture_before shot more choice.picture a.0 a.1, state_before shot more older choice.source a.2, thread_before session shot more older a.2) refl

-- the first element that passes passes
pub find_true : {X : Type 0} (p : X → Bool) (xs : List X) (x : X) → find p xs ≡ Some x → p x ≡ true
find_true p [] x h = absurd (cc)
find_true {X} p (y ∷ ys) x h = found_there (p y) refl h (find_true p ys x)
  where
    found_there : (b : Bool) → p y ≡ b → cond b (Some y) (find p ys) ≡ Some x → (find p ys ≡ Some x → p x ≡ true) → p x ≡ true
    found_there true e h more = let s : y ≡ x = cc in ap p (sym s) ∙ e
    found_there false e h more = more h

-- what is found is one of them
pub find_has : {X : Type 0} (p : X → Bool) (xs : List X) (x : X) → find p xs ≡ Some x → Has xs x
find_has p [] x h = absurd (cc)
find_has {X} p (y ∷ ys) x h = found_here (p y) h (find_has p ys x)
  where
    found_here : (b : Bool) → cond b (Some y) (find p ys) ≡ Some x → (find p ys ≡ Some x → Has ys x) → Has (y ∷ ys) x
    found_here true h more = inl (cc)
    found_here false h more = inr (more h)

pub has_filter : {X : Type 0} (p : X → Bool) (xs : List X) (x : X) → Has (filter p xs) x → Has xs x
has_filter p [] x h = h
has_filter {X} p (y ∷ ys) x h = go (p y) h (has_filter p ys x)
  where
    go : (b : Bool) → Has (cond b (y ∷ filter p ys) (filter p ys)) x → (Has (filter p ys) x → Has ys x) → Has (y ∷ ys) x
    go true (inl e) more = inl e
    go true (inr r) more = inr (more r)
    go false r more = inr (more r)

pub filter_true : {X : Type 0} (p : X → Bool) (xs : List X) (x : X) → Has (filter p xs) x → p x ≡ true
filter_true p [] x h = absurd h
filter_true {X} p (y ∷ ys) x h = go (p y) refl h (filter_true p ys x)
  where
    go : (b : Bool) → p y ≡ b → Has (cond b (y ∷ filter p ys) (filter p ys)) x → (Has (filter p ys) x → p x ≡ true) → p x ≡ true
    go true e (inl q) more = ap p q ∙ e
    go true e (inr r) more = more r
    go false e r more = more r

has_either : {X : Type 0} (xs ys : List X) (x : X) → Has (xs ++ ys) x → Has xs x ⊎ Has ys x
has_either [] ys x h = inr h
has_either (y ∷ xs) ys x (inl h) = inl (inl h)
has_either (y ∷ xs) ys x (inr h) = elim (has_either xs ys x h) [ inl a ↦ inl (inr a) | inr b ↦ inr b ]

has_source : {X Y : Type 0} (f : X → Option Y) (xs : List X) (y : Y) → Has (filter_map f xs) y → (x : X) × Has xs x × (f x ≡ Some y)
has_source f [] y h = absurd h
has_source {X} {Y} f (x ∷ xs) y h = go (f x) refl h (has_source f xs y)
  where
    go : (o : Option Y) → f x ≡ o → Has (cons_option o (filter_map f xs)) y → (Has (filter_map f xs) y → (z : X) × Has xs z × (f z ≡ Some y)) → (z : X) × Has (x ∷ xs) z × (f z ≡ Some y)
    go None e h more = let m = more h in (m.0, inr m.1, m.2)
    go (Some z) e (inl q) more = (x, inl refl, e ∙ ap (λ w. Some w) (sym q))
    go (Some z) e (inr r) more = let m = more r in (m.0, inr m.1, m.2)

mapped : {X Y : Type 0} (f : X → Y) (o : Option X) (y : Y) → option_map f o ≡ Some y → (x : X) × (f x ≡ y)
mapped f None y h = absurd (cc)
mapped f (Some x) y h = (x, cc)

-- a candidate is one of the jobs
eligible_has : (b : Bool) (all : List Job) (job : Job) → Has (eligible b all) job → Has all job
eligible_has true all job h = has_filter is_spare all job h
eligible_has false all job h = elim (has_either (filter is_fine all) (filter is_coarse all) job h) [ inl a ↦ has_filter is_fine all job a | inr b ↦ has_filter is_coarse all job b ]

among_jobs : {S : Type 0} (codec : Coding S) (before past : Past) (c : SizedJob) → Has (candidates codec before past) c → Has (jobs before) c.0
among_jobs codec before past c h =
    let from = has_source _ (eligible (lost_since before past) (jobs before)) c h in
    let own : from.0 ≡ c.0 = (let m = mapped _ (reported past from.0.id) c from.2 in ap (λ (x : SizedJob). x.0) m.1) in
    subst (λ j. Has (jobs before) j) own (eligible_has (lost_since before past) (jobs before) from.0 from.1)

fits_count : (budget : ℕ) (c : SizedJob) → candidate_fits budget c ≡ true → datagram_count c.1 ≤ budget
fits_count budget (job, Datagrams n) h = leb-true n budget h
fits_count budget (job, TooLarge first) h = absurd (cc)
fits_count budget (job, NoMemory) h = absurd (cc)

-- a candidate that fits has as many datagrams as the frame that the codec makes
fit_counted : {S : Type 0} (budget : ℕ) (s : S) (picture : Picture) (job : Job) (encoding : Encoding S) (gave : Gave) → candidate_fits budget (job, size_of encoding gave) ≡ true → datagram_count (size_of encoding gave) ≡ fragment_count (made_of s picture encoding).bytes
fit_counted budget s picture job encoding GaveNoMemory h = absurd (cc)
fit_counted budget s picture job (FrameOf bytes target recon) GaveFrame h = refl
fit_counted budget s picture job (FrameOf bytes target recon) GaveOversize h = refl
fit_counted budget s picture job (OversizeOf first) GaveFrame h = absurd (cc)
fit_counted budget s picture job (OversizeOf first) GaveOversize h = absurd (cc)

-- as many numbers as there are below one
pub length_below : (n : ℕ) → length (below n) ≡ n
unfolding below
length_below zero = refl
length_below (suc n) = length-append (below n) (n ∷ []) ∙ omega (arith, length_below n)

candidate_counted : {S : Type 0} (codec : Coding S) (before past : Past) (budget : ℕ) (c : SizedJob) → Has (candidates codec before past) c → candidate_fits budget c ≡ true → datagram_count c.1 ≡ fragment_count (made_from codec (state_at codec past c.0.source) (picture_at (pictures past) (length (pictures past))) c.0.q (kind_of c.0.source)).bytes
candidate_counted codec before past budget c has h =
    let from = has_source _ (eligible (lost_since before past) (jobs before)) c has in
    let gave = mapped _ (reported past from.0.id) c from.2 in
    subst (λ (x : SizedJob). datagram_count x.1 ≡ fragment_count (made_from codec (state_at codec past x.0.source) (picture_at (pictures past) (length (pictures past))) x.0.q (kind_of x.0.source)).bytes) gave.1
    (fit_counted budget _ _ from.0 _ gave.0 (subst (λ (x : SizedJob). candidate_fits budget x ≡ true) (sym gave.1) h))

-- an open picture was started
pub opened_started : (past before : Past) → opened past ≡ Some before → 1 ≤ length (pictures past)
opened_started [] before h = absurd (cc)
opened_started (NextPicture picture moment (Started jobs) ∷ past) before h = omega (arith, length-append (pictures past) (picture ∷ []))
opened_started (NextPicture picture moment (NotChosen n) ∷ past) before h = omega (arith, opened_started past before h, length-append {A = Picture} (pictures past) [])
opened_started (NextPicture picture moment Full ∷ past) before h = omega (arith, opened_started past before h, length-append {A = Picture} (pictures past) [])
opened_started (NextPicture picture moment NextMemory ∷ past) before h = omega (arith, opened_started past before h, length-append {A = Picture} (pictures past) [])
opened_started (TakeJob answer ∷ past) before h = omega (arith, opened_started past before h, length-append {A = Picture} (pictures past) [])
opened_started (Report job gave answer ∷ past) before h = omega (arith, opened_started past before h, length-append {A = Picture} (pictures past) [])
opened_started (Hear came moment answer ∷ past) before h = omega (arith, opened_started past before h, length-append {A = Picture} (pictures past) [])
opened_started (Choose moment (Sent choice burst) ∷ past) before h = absurd (cc)
opened_started (Choose moment (Nothing budget sizes) ∷ past) before h = absurd (cc)
opened_started (Choose moment NoPicture ∷ past) before h = omega (arith, opened_started past before h, length-append {A = Picture} (pictures past) [])
opened_started (Choose moment (Waiting id) ∷ past) before h = omega (arith, opened_started past before h, length-append {A = Picture} (pictures past) [])
opened_started (Choose moment Memory ∷ past) before h = omega (arith, opened_started past before h, length-append {A = Picture} (pictures past) [])

module _ {S : Type 0} (codec : Coding S) (session : Session) where
  -- what is known of a choice that was answered at this moment
  pub record IsChosen (past : Past) (moment : ℕ) (choice : Choice) (burst : List (List ℕ)) : Type 0 where
    pub started : 1 ≤ length (pictures past)
    pub before : Past
    pub opened_there : opened past ≡ Some before
    pub job : Job
    pub among : Has (jobs before) job
    pub count : ℕ
    pub is : choice ≡ choice_of past moment job count
    pub fits : count ≤ may_send session past moment
    pub datagrams : burst ≡ map fragment_bytes (burst_after codec session (pictures past) (choices past) choice (sent past))
    pub counted : count ≡ fragment_count (made codec (pictures past) (choices past) choice).bytes

  found_is : (before past : Past) (moment : ℕ) (all : List SizedJob) (choice : Choice) (burst : List (List ℕ)) (o : Option SizedJob) → opened past ≡ Some before → all ≡ candidates codec before past → find (candidate_fits (may_send session past moment)) all ≡ o → Sent choice burst ≡ choose_found codec session past moment (may_send session past moment) all o → IsChosen past moment choice burst
  found_is before past moment all choice burst None s l e h = absurd (cc)
  found_is before past moment all choice burst (Some found) s l e h =
      let is : choice ≡ choice_of past moment found.0 (datagram_count found.1) = cc in
      let told : burst ≡ map fragment_bytes (burst_after codec session (pictures past) (choices past) (choice_of past moment found.0 (datagram_count found.1)) (sent past)) = cc in
      let has : Has (candidates codec before past) found = find_has (candidate_fits (may_send session past moment)) (candidates codec before past) found (subst (λ xs. find (candidate_fits (may_send session past moment)) xs ≡ Some found) l e) in
      let fit : candidate_fits (may_send session past moment) found ≡ true = find_true (candidate_fits (may_send session past moment)) all found e in
      record {
        started = opened_started past before s;
        before = before;
        opened_there = s;
        job = found.0;
        among = among_jobs codec before past found has;
        count = datagram_count found.1;
        is = is;
        fits = fits_count (may_send session past moment) found fit;
        datagrams = told ∙ ap (λ c. map fragment_bytes (burst_after codec session (pictures past) (choices past) c (sent past))) (sym is);
        counted = candidate_counted codec before past (may_send session past moment) found has fit ∙ ap (λ c. fragment_count (made codec (pictures past) (choices past) c).bytes) (sym is);
      }

  reported_is : (before past : Past) (moment : ℕ) (job : Job) (choice : Choice) (burst : List (List ℕ)) (o : Option Gave) → opened past ≡ Some before → Sent choice burst ≡ choose_reported codec session before past moment job o → IsChosen past moment choice burst
  reported_is before past moment job choice burst None s h = absurd (cc)
  reported_is before past moment job choice burst (Some gave) s h =
      found_is before past moment (candidates codec before past) choice burst (find (candidate_fits (may_send session past moment)) (candidates codec before past)) s refl refl h

  needed_is : (before past : Past) (moment : ℕ) (choice : Choice) (burst : List (List ℕ)) (o : Option Job) → opened past ≡ Some before → Sent choice burst ≡ choose_needed codec session before past moment o → IsChosen past moment choice burst
  needed_is before past moment choice burst None s h = absurd (cc)
  needed_is before past moment choice burst (Some job) s h = reported_is before past moment job choice burst (reported past job.id) s h

  opened_is : (past : Past) (moment : ℕ) (choice : Choice) (burst : List (List ℕ)) (o : Option Past) → opened past ≡ o → Sent choice burst ≡ choose_opened codec session past moment o → IsChosen past moment choice burst
  opened_is past moment choice burst None e h = absurd (cc)
  opened_is past moment choice burst (Some before) e h = needed_is before past moment choice burst (needed (lost_since before past) (jobs before)) e h

  pub chosen_is : (past : Past) (moment : ℕ) (choice : Choice) (burst : List (List ℕ)) → (Sent choice burst ≡ chosen codec session past moment) ⊎ (Sent choice burst ≡ Memory) → IsChosen past (max (now past) moment) choice burst
  unfolding chosen
  chosen_is past moment choice burst (inl h) = opened_is past (max (now past) moment) choice burst (opened past) refl h
  chosen_is past moment choice burst (inr h) = absurd (cc)

  -- what holds of each legal past
  pub record IsThreaded (past : Past) : Type 0 where
    pub shot : ArePicturesOf (length (pictures past)) (choices past)
    pub thread : IsWhatOneThreadSends codec session past

  with_choice : (past : Past) (more : List Picture) → length (pictures past) ≤ length (pictures past ++ more)
  with_choice past more = omega (arith, length-append (pictures past) more)

  -- a call that starts a picture at most
  quiet : (past : Past) (more : List Picture) → IsThreaded past → datagrams past ++ [] ≡ map fragment_bytes (one_thread codec session (pictures past ++ more) (choices past))
  quiet past more t = append-nil (datagrams past) ∙ (t.thread ∙ sym (ap (λ es. map fragment_bytes es) (thread_before codec session (pictures past) more (choices past) t.shot)))

  wider : (past : Past) (more : List Picture) → IsThreaded past → ArePicturesOf (length (pictures past ++ more)) (choices past)
  wider past more t = more_pictures (length (pictures past)) (length (pictures past ++ more)) (choices past) (with_choice past more) t.shot

  chose : (past : Past) (moment at : ℕ) (choice : Choice) (burst : List (List ℕ)) → IsChosen past at choice burst → IsThreaded past → IsThreaded (Choose moment (Sent choice burst) ∷ past)
  unfolding one_thread
  chose past moment at choice burst is t =
      let own : choice.picture ≡ length (pictures past) = ap (λ c. c.picture) is.is in
      let shot : ArePicturesOf (length (pictures past)) (choice ∷ choices past) = (omega (arith, own, is.started), omega (arith, own), t.shot) in
      let before : List FragmentFields = one_thread codec session (pictures past) (choices past) in
      let count : sent past ≡ length before = ap (λ xs. length xs) t.thread ∙ length-map before fragment_bytes in
      let told : burst ≡ map fragment_bytes (burst_after codec session (pictures past) (choices past) choice (length before)) =
      is.datagrams ∙ ap (λ n. map fragment_bytes (burst_after codec session (pictures past) (choices past) choice n)) count in
      let joined : datagrams past ++ burst ≡ map fragment_bytes before ++ map fragment_bytes (burst_after codec session (pictures past) (choices past) choice (length before)) = cc in
      record {
        shot = more_pictures (length (pictures past)) (length (pictures past ++ [])) (choice ∷ choices past) (with_choice past []) shot;
        thread = joined ∙ (sym (map-append fragment_bytes before (burst_after codec session (pictures past) (choices past) choice (length before)))
            ∙ sym (ap (λ es. map fragment_bytes es) (thread_before codec session (pictures past) [] (choice ∷ choices past) shot)));
      }

  pub thread_of_legal : (past : Past) → IsLegalSender codec session past → IsThreaded past
  unfolding one_thread
  thread_of_legal [] legal = record { shot = tt; thread = refl }
  thread_of_legal (NextPicture picture moment answer ∷ past) legal = let t = thread_of_legal past legal.1 in record { shot = wider past (picture_in (NextPicture picture moment answer)) t; thread = quiet past (picture_in (NextPicture picture moment answer)) t }
  thread_of_legal (TakeJob answer ∷ past) legal = let t = thread_of_legal past legal.1 in record { shot = wider past [] t; thread = quiet past [] t }
  thread_of_legal (Report job gave answer ∷ past) legal = let t = thread_of_legal past legal.1 in record { shot = wider past [] t; thread = quiet past [] t }
  thread_of_legal (Hear came moment answer ∷ past) legal = let t = thread_of_legal past legal.1 in record { shot = wider past [] t; thread = quiet past [] t }
  thread_of_legal (Choose moment NoPicture ∷ past) legal = let t = thread_of_legal past legal.1 in record { shot = wider past [] t; thread = quiet past [] t }
  thread_of_legal (Choose moment (Waiting id) ∷ past) legal = let t = thread_of_legal past legal.1 in record { shot = wider past [] t; thread = quiet past [] t }
  thread_of_legal (Choose moment (Nothing budget sizes) ∷ past) legal = let t = thread_of_legal past legal.1 in record { shot = wider past [] t; thread = quiet past [] t }
  thread_of_legal (Choose moment Memory ∷ past) legal = let t = thread_of_legal past legal.1 in record { shot = wider past [] t; thread = quiet past [] t }
  thread_of_legal (Choose moment (Sent choice burst) ∷ past) legal = chose past moment (max (now past) moment) choice burst (chosen_is past moment choice burst legal.0) (thread_of_legal past legal.1)

  pub thread : (past : Past) → IsLegalSender codec session past → IsWhatOneThreadSends codec session past
  thread past legal = (thread_of_legal past legal).thread
