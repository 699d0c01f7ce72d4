-- Each choice has a frame that was encoded, of at most 4,096 pieces.
use Rattle.std.proofs.Common.{◌≡◌, ◌≢◌, ℕ, ◌+◌, ◌-◌, ◌≤◌, max, min, Bool, true, false, cond, not, ◌&&◌, List, [], ◌∷◌, ◌++◌, length, Option, Some, None, is_some, refl, ap, sym, ◌∙◌, subst, arith, eqb, length-append, append-nil, ◌⊎◌, inl, inr}
use Rattle.std.proofs.lemmas.Bool.{leb-true, eqb-false}
use Rattle.std.specs.List.{find, filter}
use Rattle.sal_base.specs.Lists.{Has, Each}
use Rattle.sal_base.specs.declared.picture.Picture.{Picture}
use Rattle.sal_base.specs.declared.coding.Encoding.{Encoding}
use Rattle.sal_base.specs.declared.coding.Encoding.TheVariants.{Frame, Oversize}
use Rattle.sal_codec.specs.Coding.{Coding}
use Rattle.sal_wire.specs.Fragmentation.{fragment_count}
use Rattle.sal_sender.specs.declared.choice.Choice.{Choice}
use Rattle.sal_sender.specs.declared.choice.JobRole.TheVariants.{Coarse, Spare, Fine}
use Rattle.sal_sender.specs.declared.answers.Next.TheVariants.{Started, NotChosen, Full, Memory as NextMemory}
use Rattle.sal_sender.specs.declared.answers.Chosen.TheVariants.{NoPicture, Waiting, Sent, Nothing, Memory}
use Rattle.sal_sender.specs.declared.outcome.Gave.{Gave}
use Rattle.sal_sender.specs.declared.outcome.Gave.TheVariants.{Frame as GaveFrame, Oversize as GaveOversize, NoMemory as GaveNoMemory}
use Rattle.sal_sender.specs.Past.{SenderCall, Past, NextPicture, TakeJob, Report, Choose, Hear, choices, pictures, picture_in, opened, quantiser, now, tip, last_job}
use Rattle.sal_sender.specs.Chain.{picture_at, state, state_at}
use Rattle.sal_sender.specs.OneThread.{Session}
use Rattle.sal_sender.specs.Jobs.{Job, kind_of, base, plan, jobs}
use Rattle.sal_sender.specs.Acks.{safe}
use Rattle.sal_sender.specs.Choosing.{SizedJob, eligible, is_spare, is_fine, is_coarse, size_of, choice_of, datagram_count, candidate_fits, may_send, candidates, needed, lost_since, reported, choose_found, choose_reported, choose_needed, choose_opened, chosen}
use Rattle.sal_sender.specs.Promises.{IsLegalSender}
use Rattle.sal_sender.proofs.Thread.{ArePicturesOf, IsChosen, chosen_is, find_has, find_true, has_filter, picture_before, state_before, thread_of_legal}
use Rattle.sal_world.proofs.ListLemmas.{has_either, has_source, mapped, each_has}

-- ---- counts and quantisers

low_step : (b : Bool) (first onward sure q : ℕ) → q ≤ 127
    → Each (λ (job : Job). job.q ≤ 127)
    (cond b (record { id = first; role = Coarse; source = onward; q = min 127 (q + 4) } ∷ record { id = first + 1; role = Spare; source = sure; q = min 127 (q + 4) } ∷ record { id = first + 2; role = Fine; source = onward; q = q - 4 } ∷ [])
    (record { id = first; role = Coarse; source = onward; q = min 127 (q + 4) } ∷ record { id = first + 1; role = Fine; source = onward; q = q - 4 } ∷ []))
low_step true first onward sure q h = (omega arith, (omega arith, (omega arith, tt)))
low_step false first onward sure q h = (omega arith, (omega arith, tt))

low_plan : (first onward sure newest q : ℕ) → q ≤ 127 → Each (λ (job : Job). job.q ≤ 127) (plan first onward sure newest q)
low_plan first onward sure newest q h = low_step (eqb onward newest && not (eqb onward sure)) first onward sure q h

low_jobs : (before : Past) → quantiser before ≤ 127 → Each (λ (job : Job). job.q ≤ 127) (jobs before)
low_jobs before h = low_plan (last_job before + 1) (base before) (safe before) (tip before) (quantiser before) h

-- the pictures of a past are no more than a session's, each has at most one choice, and quantisers are at most 127
pub record IsLimited (past : Past) : Type 0 where
  pub q : quantiser past ≤ 127
  pub q_open : (before : Past) → opened past ≡ Some before → quantiser before ≤ 127
  pub chosen : length (choices past) ≤ length (pictures past)
  pub chosen_open : (before : Past) → opened past ≡ Some before → length (choices past) + 1 ≤ length (pictures past)
  pub pictures : length (pictures past) ≤ 1048575

none_is : {X : Type 0} (x : X) → None ≡ Some x → ⊥
none_is x e = cc

-- a call that starts no picture and closes none
quiet : (call : SenderCall) (past : Past) → opened (call ∷ past) ≡ opened past → choices (call ∷ past) ≡ choices past → quantiser (call ∷ past) ≡ quantiser past → pictures (call ∷ past) ≡ pictures past ++ [] → IsLimited past → IsLimited (call ∷ past)
quiet call past a b c d is =
    let long : length (pictures (call ∷ past)) ≡ length (pictures past) = ap (λ (xs : List Picture). length xs) (d ∙ append-nil (pictures past)) in
    let few : length (choices (call ∷ past)) ≡ length (choices past) = ap (λ (xs : List Choice). length xs) b in
    record {
      q = omega (arith, c, is.q);
      q_open = λ before e. is.q_open before (sym a ∙ e);
      chosen = omega (arith, long, few, is.chosen);
      chosen_open = λ before e. (let p : length (choices past) + 1 ≤ length (pictures past) = is.chosen_open before (sym a ∙ e) in omega arith);
      pictures = omega (arith, long, is.pictures);
    }

-- a picture is started only where fewer than 1,048,575 were
not_full : (a b : Bool) (n m k jobs : ℕ) → eqb n 1048575 ≡ b → Started jobs ≡ cond a (NotChosen m) (cond b Full (Started k)) → n ≢ 1048575
not_full true b n m k jobs e h = absurd (cc)
not_full false true n m k jobs e h = absurd (cc)
not_full false false n m k jobs e h = eqb-false _ _ e

started_low : (past : Past) (jobs : ℕ) → (Started jobs ≡ cond (is_some (opened past)) (NotChosen (length (pictures past))) (cond (eqb (length (pictures past)) 1048575) Full (Started (length (Rattle.sal_sender.specs.Jobs.jobs past))))) ⊎ (Started jobs ≡ NextMemory) → length (pictures past) ≢ 1048575
started_low past jobs (inl h) = not_full (is_some (opened past)) (eqb (length (pictures past)) 1048575) (length (pictures past)) (length (pictures past)) _ jobs refl h
started_low past jobs (inr h) = absurd (cc)

module _ {S : Type 0} (codec : Coding S) (session : Session) where
  start_next : (past : Past) (picture : Picture) (moment jobs : ℕ) → length (pictures past) ≢ 1048575 → IsLimited past → IsLimited (NextPicture picture moment (Started jobs) ∷ past)
  start_next past picture moment jobs low is =
      let long = length-append (pictures past) (picture ∷ []) in
      let limit : length (pictures past) ≤ 1048575 = is.pictures in
      record {
        q = is.q;
        q_open = λ before e. subst (λ (p : Past). quantiser p ≤ 127) (let same : past ≡ before = cc in same) is.q;
        chosen = omega (arith, long, is.chosen);
        chosen_open = λ before e. omega (arith, long, is.chosen);
        pictures = omega (arith, long, limit, low);
      }

  sent_next : (past : Past) (moment at : ℕ) (choice : Choice) (burst : List (List ℕ)) → IsChosen codec session past at choice burst → IsLimited past → IsLimited (Choose moment (Sent choice burst) ∷ past)
  sent_next past moment at choice burst of is =
      let long : length (pictures past ++ []) ≡ length (pictures past) = ap (λ (xs : List Picture). length xs) (append-nil (pictures past)) in
      let there : length (choices past) + 1 ≤ length (pictures past) = is.chosen_open of.before of.opened_there in
      let low : of.job.q ≤ 127 = each_has (λ (job : Job). job.q ≤ 127) (jobs of.before) of.job (low_jobs of.before (is.q_open of.before of.opened_there)) of.among in
      let own : choice.q ≡ of.job.q = ap (λ c. c.q) of.is in
      record {
        q = omega (arith, own, low);
        q_open = λ before e. absurd (none_is before e);
        chosen = omega (arith, long, there);
        chosen_open = λ before e. absurd (none_is before e);
        pictures = omega (arith, long, is.pictures);
      }

  nothing_next : (past : Past) (moment budget : ℕ) (sizes : _) → IsLimited past → IsLimited (Choose moment (Nothing budget sizes) ∷ past)
  nothing_next past moment budget sizes is =
      let long : length (pictures past ++ []) ≡ length (pictures past) = ap (λ (xs : List Picture). length xs) (append-nil (pictures past)) in
      record {
        q = omega arith;
        q_open = λ before e. absurd (none_is before e);
        chosen = omega (arith, long, is.chosen);
        chosen_open = λ before e. absurd (none_is before e);
        pictures = omega (arith, long, is.pictures);
      }

  pub limited : (past : Past) → IsLegalSender codec session past → IsLimited past
  limited [] legal = record { q = omega arith; q_open = λ before e. absurd (none_is before e); chosen = omega arith; chosen_open = λ before e. absurd (none_is before e); pictures = omega arith }
  limited (NextPicture picture moment (Started jobs) ∷ past) legal = start_next past picture moment jobs (started_low past jobs legal.0) (limited past legal.1)
  limited (NextPicture picture moment (NotChosen n) ∷ past) legal = quiet (NextPicture picture moment (NotChosen n)) past refl refl refl refl (limited past legal.1)
  limited (NextPicture picture moment Full ∷ past) legal = quiet (NextPicture picture moment Full) past refl refl refl refl (limited past legal.1)
  limited (NextPicture picture moment NextMemory ∷ past) legal = quiet (NextPicture picture moment NextMemory) past refl refl refl refl (limited past legal.1)
  limited (TakeJob answer ∷ past) legal = quiet (TakeJob answer) past refl refl refl refl (limited past legal.1)
  limited (Report job gave answer ∷ past) legal = quiet (Report job gave answer) past refl refl refl refl (limited past legal.1)
  limited (Hear came moment answer ∷ past) legal = quiet (Hear came moment answer) past refl refl refl refl (limited past legal.1)
  limited (Choose moment NoPicture ∷ past) legal = quiet (Choose moment NoPicture) past refl refl refl refl (limited past legal.1)
  limited (Choose moment (Waiting id) ∷ past) legal = quiet (Choose moment (Waiting id)) past refl refl refl refl (limited past legal.1)
  limited (Choose moment Memory ∷ past) legal = quiet (Choose moment Memory) past refl refl refl refl (limited past legal.1)
  limited (Choose moment (Nothing budget sizes) ∷ past) legal = nothing_next past moment budget sizes (limited past legal.1)
  limited (Choose moment (Sent choice burst) ∷ past) legal = sent_next past moment (max (now past) moment) choice burst (chosen_is codec session past moment choice burst legal.0) (limited past legal.1)

-- ---- frames

-- a candidate that fits is a frame of so many datagrams
pub record IsEncoded {S : Type 0} (encoding : Encoding S) (count : ℕ) : Type 0 where
  pub bytes : List ℕ
  pub target : S
  pub recon : Picture
  pub is : encoding ≡ Frame bytes target recon
  pub count_is : count ≡ fragment_count bytes
  pub few : fragment_count bytes ≤ 4096

fitting : {S : Type 0} (budget : ℕ) (job : Job) (encoding : Encoding S) (gave : Gave) → budget ≤ 4096 → candidate_fits budget (job, size_of encoding gave) ≡ true → IsEncoded encoding (datagram_count (size_of encoding gave))
fitting budget job encoding GaveNoMemory low h = absurd (cc)
fitting budget job (Oversize first) GaveFrame low h = absurd (cc)
fitting budget job (Oversize first) GaveOversize low h = absurd (cc)
fitting budget job (Frame bytes target recon) GaveFrame low h = record { bytes = bytes; target = target; recon = recon; is = refl; count_is = refl; few = (let p : fragment_count bytes ≤ budget = leb-true _ _ h in omega arith) }
fitting budget job (Frame bytes target recon) GaveOversize low h = record { bytes = bytes; target = target; recon = recon; is = refl; count_is = refl; few = (let p : fragment_count bytes ≤ budget = leb-true _ _ h in omega arith) }

budget_low : (session : Session) (past : Past) (moment : ℕ) → may_send session past moment ≤ 4096
budget_low session past moment = omega arith

module _ {S : Type 0} (codec : Coding S) where
  -- what the codec makes of a job of the open picture
  abbrev encoding_of : Past → Job → Encoding S
  encoding_of past job = codec.encode (state_at codec past job.source) (picture_at (pictures past) (length (pictures past))) job.q (kind_of job.source)

  candidate_framed : (before past : Past) (budget : ℕ) (c : SizedJob) → budget ≤ 4096 → Has (candidates codec before past) c → candidate_fits budget c ≡ true → IsEncoded (encoding_of past c.0) (datagram_count c.1)
  candidate_framed before past budget c low has h =
      let from = has_source _ (eligible (lost_since before past) (jobs before)) c has in
      let ran = mapped _ (reported past from.0.id) c from.2 in
      subst (λ (x : SizedJob). IsEncoded (encoding_of past x.0) (datagram_count x.1)) ran.1
      (fitting budget from.0 (encoding_of past from.0) ran.0 low (subst (λ (x : SizedJob). candidate_fits budget x ≡ true) (sym ran.1) h))

-- what is made of a choice: the encoding of its picture from the state of its source, in as many datagrams as it counts
pub record IsMade {S : Type 0} (codec : Coding S) (shot : List Picture) (older : List Choice) (choice : Choice) : Type 0 where
  pub encoded : IsEncoded (codec.encode (state codec shot older choice.source) (picture_at shot choice.picture) choice.q choice.kind) choice.count
  pub q : choice.q ≤ 127
  pub kind : choice.kind ≡ kind_of choice.source

abbrev pub AreMade : {S : Type 0} → Coding S → List Picture → List Choice → Type 0
AreMade codec shot [] = Unit {0}
AreMade codec shot (choice ∷ older) = IsMade codec shot older choice × AreMade codec shot older

module _ {S : Type 0} (codec : Coding S) where
  -- pictures that come later change nothing of that
  made_more : (shot more : List Picture) (chosen : List Choice) → ArePicturesOf (length shot) chosen → AreMade codec shot chosen → AreMade codec (shot ++ more) chosen
  made_more shot more [] of made = tt
  made_more shot more (choice ∷ older) of made =
      let s : state codec (shot ++ more) older choice.source ≡ state codec shot older choice.source = state_before codec shot more older choice.source of.2 in
      let p : picture_at (shot ++ more) choice.picture ≡ picture_at shot choice.picture = picture_before shot more choice.picture of.0 of.1 in (
        record {
          encoded = subst (λ x. IsEncoded (codec.encode x (picture_at (shot ++ more) choice.picture) choice.q choice.kind) choice.count) (sym s) (subst (λ x. IsEncoded (codec.encode (state codec shot older choice.source) x choice.q choice.kind) choice.count) (sym p) made.0.encoded);
          q = made.0.q;
          kind = made.0.kind;
        },
        made_more shot more older of.2 made.1,
      )

module _ {S : Type 0} (codec : Coding S) (session : Session) where
  -- a choice that was answered was found among the candidates
  found_made : (before past : Past) (moment : ℕ) (choice : Choice) (burst : List (List ℕ)) (o : Option SizedJob) → opened past ≡ Some before → IsLimited past → find (candidate_fits (may_send session past moment)) (candidates codec before past) ≡ o → Sent choice burst ≡ choose_found codec session past moment (may_send session past moment) (candidates codec before past) o → IsMade codec (pictures past) (choices past) choice
  found_made before past moment choice burst None there is e h = absurd (cc)
  found_made before past moment choice burst (Some found) there is e h =
      let of : choice ≡ choice_of past moment found.0 (datagram_count found.1) = cc in
      let has : Has (candidates codec before past) found = find_has (candidate_fits (may_send session past moment)) (candidates codec before past) found e in
      let framed = candidate_framed codec before past (may_send session past moment) found (budget_low session past moment) has (find_true (candidate_fits (may_send session past moment)) (candidates codec before past) found e) in
      let from = has_source _ (eligible (lost_since before past) (jobs before)) found has in
      let own : from.0 ≡ found.0 = ap (λ (x : SizedJob). x.0) (mapped _ (reported past from.0.id) found from.2).1 in
      let among : Has (jobs before) found.0 = subst (λ j. Has (jobs before) j) own (eligible_has (lost_since before past) (jobs before) from.0 from.1) in
      subst (λ c. IsMade codec (pictures past) (choices past) c) (sym of)
      (record { encoded = framed; q = each_has (λ (job : Job). job.q ≤ 127) (jobs before) found.0 (low_jobs before (is.q_open before there)) among; kind = refl })
    where
      eligible_has : (b : Bool) (all : List Job) (job : Job) → Has (eligible b all) job → Has all job
      eligible_has true all job h = has_filter is_spare all job h
      eligible_has false all job h = elim (has_either (filter is_fine all) (filter is_coarse all) job h) [ inl a ↦ has_filter is_fine all job a | inr b ↦ has_filter is_coarse all job b ]

  reported_made : (before past : Past) (moment : ℕ) (job : Job) (choice : Choice) (burst : List (List ℕ)) (o : Option Gave) → opened past ≡ Some before → IsLimited past → Sent choice burst ≡ choose_reported codec session before past moment job o → IsMade codec (pictures past) (choices past) choice
  reported_made before past moment job choice burst None there is h = absurd (cc)
  reported_made before past moment job choice burst (Some gave) there is h = found_made before past moment choice burst (find (candidate_fits (may_send session past moment)) (candidates codec before past)) there is refl h

  needed_made : (before past : Past) (moment : ℕ) (choice : Choice) (burst : List (List ℕ)) (o : Option Job) → opened past ≡ Some before → IsLimited past → Sent choice burst ≡ choose_needed codec session before past moment o → IsMade codec (pictures past) (choices past) choice
  needed_made before past moment choice burst None there is h = absurd (cc)
  needed_made before past moment choice burst (Some job) there is h = reported_made before past moment job choice burst (reported past job.id) there is h

  opened_made : (past : Past) (moment : ℕ) (choice : Choice) (burst : List (List ℕ)) (o : Option Past) → opened past ≡ o → IsLimited past → Sent choice burst ≡ choose_opened codec session past moment o → IsMade codec (pictures past) (choices past) choice
  opened_made past moment choice burst None e is h = absurd (cc)
  opened_made past moment choice burst (Some before) e is h = needed_made before past moment choice burst (needed (lost_since before past) (jobs before)) e is h

  chosen_made : (past : Past) (moment : ℕ) (choice : Choice) (burst : List (List ℕ)) → (Sent choice burst ≡ chosen codec session past moment) ⊎ (Sent choice burst ≡ Memory) → IsLimited past → IsMade codec (pictures past) (choices past) choice
  unfolding chosen
  chosen_made past moment choice burst (inl h) is = opened_made past (max (now past) moment) choice burst (opened past) refl is h
  chosen_made past moment choice burst (inr h) is = absurd (cc)

  wider : (past : Past) (more : List Picture) → IsLegalSender codec session past → AreMade codec (pictures past) (choices past) → AreMade codec (pictures past ++ more) (choices past)
  wider past more legal made = made_more codec (pictures past) more (choices past) (thread_of_legal codec session past legal).shot made

  -- each choice of a legal past has its frame
  pub made_of_legal : (past : Past) → IsLegalSender codec session past → AreMade codec (pictures past) (choices past)
  made_of_legal [] legal = tt
  made_of_legal (NextPicture picture moment answer ∷ past) legal = wider past (picture_in (NextPicture picture moment answer)) legal.1 (made_of_legal past legal.1)
  made_of_legal (TakeJob answer ∷ past) legal = wider past [] legal.1 (made_of_legal past legal.1)
  made_of_legal (Report job gave answer ∷ past) legal = wider past [] legal.1 (made_of_legal past legal.1)
  made_of_legal (Hear came moment answer ∷ past) legal = wider past [] legal.1 (made_of_legal past legal.1)
  made_of_legal (Choose moment NoPicture ∷ past) legal = wider past [] legal.1 (made_of_legal past legal.1)
  made_of_legal (Choose moment (Waiting id) ∷ past) legal = wider past [] legal.1 (made_of_legal past legal.1)
  made_of_legal (Choose moment (Nothing budget sizes) ∷ past) legal = wider past [] legal.1 (made_of_legal past legal.1)
  made_of_legal (Choose moment Memory ∷ past) legal = wider past [] legal.1 (made_of_legal past legal.1)
  made_of_legal (Choose moment (Sent choice burst) ∷ past) legal =
      let t = thread_of_legal codec session (Choose moment (Sent choice burst) ∷ past) legal in
      let same : pictures past ≡ pictures past ++ [] = sym (append-nil (pictures past)) in
      subst (λ shot. AreMade codec shot (choice ∷ choices past)) same (chosen_made past moment choice burst legal.0 (limited codec session past legal.1), made_of_legal past legal.1)
