-- A choice fits its budget, and nothing is chosen exactly where nothing fits.
use Rattle.std.proofs.Common.{◌≡◌, ℕ, ◌≤◌, max, Bool, true, false, cond, List, [], ◌∷◌, map, length, Option, Some, None, refl, ap, sym, ◌∙◌, subst, ◌⊎◌, inl, inr}
use Rattle.std.proofs.lemmas.List.{length-map}
use Rattle.std.specs.Prelude.{IsSome}
use Rattle.std.specs.List.{find}
use Rattle.sal_base.specs.Lists.{Each}
use Rattle.sal_codec.specs.Coding.{Coding}
use Rattle.sal_sender.specs.declared.outcome.Gave.{Gave}
use Rattle.sal_sender.specs.declared.choice.Choice.{Choice}
use Rattle.sal_sender.specs.declared.choice.Size.{Size}
use Rattle.sal_sender.specs.declared.answers.Chosen.{Chosen}
use Rattle.sal_sender.specs.declared.answers.Chosen.TheVariants.{NoPicture, Waiting, Sent, Nothing, Memory}
use Rattle.sal_wire.specs.Fragmentation.{below, fragment_count}
use Rattle.sal_wire.specs.Layout.{fragment_bytes}
use Rattle.sal_sender.specs.Past.{Past, NextPicture, TakeJob, Report, Choose, Hear, choices, pictures, sent, opened, now}
use Rattle.sal_sender.specs.Chain.{made}
use Rattle.sal_sender.specs.OneThread.{Session, burst_after}
use Rattle.sal_sender.specs.Jobs.{Job, jobs}
use Rattle.sal_sender.specs.Choosing.{SizedJob, candidate_fits, may_send, candidates, needed, lost_since, reported, choose_found, choose_reported, choose_needed, choose_opened, chosen}
use Rattle.sal_sender.specs.Promises.{IsLegalSender, NothingFits, is_nothing, FitsItsBudget}
use Rattle.sal_sender.proofs.Thread.{IsChosen, chosen_is, length_below}

not_first : {X : Type 0} (b : Bool) (x : X) (rest : Option X) → cond b (Some x) rest ≡ None → (b ≡ false) × (rest ≡ None)
not_first true x rest h = absurd (cc)
not_first false x rest h = (refl, h)

-- where the first that passes isn't found, none passes
none_found : {X : Type 0} (p : X → Bool) (xs : List X) → find p xs ≡ None → Each (λ x. p x ≡ false) xs
none_found p [] h = tt
none_found p (x ∷ xs) h = let n = not_first (p x) x (find p xs) h in (n.0, none_found p xs n.1)

-- where none passes, none is found
not_found : {X : Type 0} (p : X → Bool) (xs : List X) → Each (λ x. p x ≡ false) xs → find p xs ≡ None
not_found p [] h = refl
not_found p (x ∷ xs) h = later (p x) x (find p xs) h.0 (not_found p xs h.1)
  where
    later : {X : Type 0} (b : Bool) (x : X) (rest : Option X) → b ≡ false → rest ≡ None → cond b (Some x) rest ≡ None
    later true x rest e n = absurd (cc)
    later false x rest e n = n

module _ {S : Type 0} (codec : Coding S) (session : Session) where
  nothing_found : (before past : Past) (at budget : ℕ) (sizes : List Size) (job : Job) (gave : Gave) (o : Option SizedJob) → opened past ≡ Some before → needed (lost_since before past) (jobs before) ≡ Some job → reported past job.id ≡ Some gave → find (candidate_fits (may_send session past at)) (candidates codec before past) ≡ o → Nothing budget sizes ≡ choose_found codec session past at (may_send session past at) (candidates codec before past) o → NothingFits codec session past at
  nothing_found before past at budget sizes job gave (Some found) a b r e h = absurd (cc)
  nothing_found before past at budget sizes job gave None a b r e h = record {
    before = before;
    opened_there = a;
    job = job;
    wanted = b;
    in_already = subst (λ o. IsSome o) (sym r) refl;
    none = none_found (candidate_fits (may_send session past at)) (candidates codec before past) e;
  }

  nothing_reported : (before past : Past) (at budget : ℕ) (sizes : List Size) (job : Job) (o : Option Gave) → opened past ≡ Some before → needed (lost_since before past) (jobs before) ≡ Some job → reported past job.id ≡ o → Nothing budget sizes ≡ choose_reported codec session before past at job o → NothingFits codec session past at
  nothing_reported before past at budget sizes job None a b r h = absurd (cc)
  nothing_reported before past at budget sizes job (Some gave) a b r h = nothing_found before past at budget sizes job gave (find (candidate_fits (may_send session past at)) (candidates codec before past)) a b r refl h

  nothing_needed : (before past : Past) (at budget : ℕ) (sizes : List Size) (o : Option Job) → opened past ≡ Some before → needed (lost_since before past) (jobs before) ≡ o → Nothing budget sizes ≡ choose_needed codec session before past at o → NothingFits codec session past at
  nothing_needed before past at budget sizes None a b h = absurd (cc)
  nothing_needed before past at budget sizes (Some job) a b h = nothing_reported before past at budget sizes job (reported past job.id) a b refl h

  nothing_opened : (past : Past) (at budget : ℕ) (sizes : List Size) (o : Option Past) → opened past ≡ o → Nothing budget sizes ≡ choose_opened codec session past at o → NothingFits codec session past at
  nothing_opened past at budget sizes None a h = absurd (cc)
  nothing_opened past at budget sizes (Some before) a h = nothing_needed before past at budget sizes (needed (lost_since before past) (jobs before)) a refl h

  nothing_is : (past : Past) (moment budget : ℕ) (sizes : List Size) → (Nothing budget sizes ≡ chosen codec session past moment) ⊎ (Nothing budget sizes ≡ Memory) → NothingFits codec session past (max (now past) moment)
  unfolding chosen
  nothing_is past moment budget sizes (inl h) = nothing_opened past (max (now past) moment) budget sizes (opened past) refl h
  nothing_is past moment budget sizes (inr h) = absurd (cc)

  -- where nothing fits, that is what is answered
  said_reported : (before past : Past) (at : ℕ) (job : Job) (o : Option Gave) → IsSome o → Each (λ c. candidate_fits (may_send session past at) c ≡ false) (candidates codec before past) → is_nothing (choose_reported codec session before past at job o) ≡ true
  said_reported before past at job None some none = absurd (cc)
  said_reported before past at job (Some gave) some none =
      subst (λ o. is_nothing (choose_found codec session past at (may_send session past at) (candidates codec before past) o) ≡ true) (sym (not_found (candidate_fits (may_send session past at)) (candidates codec before past) none)) refl

  said : (past : Past) (moment : ℕ) → NothingFits codec session past (max (now past) moment) → is_nothing (chosen codec session past moment) ≡ true
  unfolding chosen
  said past moment f =
      subst (λ o. is_nothing (choose_opened codec session past (max (now past) moment) o) ≡ true) (sym f.opened_there)
      (subst (λ o. is_nothing (choose_needed codec session f.before past (max (now past) moment) o) ≡ true) (sym f.wanted)
      (said_reported f.before past (max (now past) moment) f.job (reported past f.job.id) f.in_already f.none))

  nothing_said : (past : Past) (moment : ℕ) (answer : Chosen) → (answer ≡ chosen codec session past moment) ⊎ (answer ≡ Memory) → NothingFits codec session past (max (now past) moment) → is_nothing answer ≡ true
  nothing_said past moment answer (inl h) f = ap is_nothing h ∙ said past moment f
  nothing_said past moment answer (inr h) f = ap is_nothing h

  -- as many datagrams as the frame has pieces
  burst_counted : (past : Past) (choice : Choice) (n : ℕ) → length (map fragment_bytes (burst_after codec session (pictures past) (choices past) choice n)) ≡ fragment_count (made codec (pictures past) (choices past) choice).bytes
  burst_counted past choice n = length-map (burst_after codec session (pictures past) (choices past) choice n) fragment_bytes ∙ (length-map (below (fragment_count (made codec (pictures past) (choices past) choice).bytes)) _ ∙ length_below _)

  sent_fits : (past : Past) (at : ℕ) (choice : Choice) (burst : List (List ℕ)) → IsChosen codec session past at choice burst → (choice.moment ≡ at) × (choice.count ≤ may_send session past choice.moment) × (length burst ≡ choice.count)
  sent_fits past at choice burst is =
      let count : choice.count ≡ is.count = ap (λ c. c.count) is.is in
      let moment : choice.moment ≡ at = ap (λ c. c.moment) is.is in
      let budget : may_send session past choice.moment ≡ may_send session past at = ap (λ t. may_send session past t) moment in
      let fit : is.count ≤ may_send session past at = is.fits in
      (moment, subst (λ b. choice.count ≤ b) (sym budget) (subst (λ n. n ≤ may_send session past at) (sym count) fit), ap length is.datagrams ∙ (burst_counted past choice (sent past) ∙ sym (count ∙ is.counted)))

  pub budget_of_legal : (past : Past) → IsLegalSender codec session past → FitsItsBudget codec session past
  budget_of_legal [] legal = tt
  budget_of_legal (NextPicture picture moment answer ∷ past) legal = (tt, budget_of_legal past legal.1)
  budget_of_legal (TakeJob answer ∷ past) legal = (tt, budget_of_legal past legal.1)
  budget_of_legal (Report job gave answer ∷ past) legal = (tt, budget_of_legal past legal.1)
  budget_of_legal (Hear came moment answer ∷ past) legal = (tt, budget_of_legal past legal.1)
  budget_of_legal (Choose moment NoPicture ∷ past) legal = ((tt, nothing_said past moment NoPicture legal.0), budget_of_legal past legal.1)
  budget_of_legal (Choose moment (Waiting id) ∷ past) legal = ((tt, nothing_said past moment (Waiting id) legal.0), budget_of_legal past legal.1)
  budget_of_legal (Choose moment Memory ∷ past) legal = ((tt, nothing_said past moment Memory legal.0), budget_of_legal past legal.1)
  budget_of_legal (Choose moment (Nothing budget sizes) ∷ past) legal = ((nothing_is past moment budget sizes legal.0, nothing_said past moment (Nothing budget sizes) legal.0), budget_of_legal past legal.1)
  budget_of_legal (Choose moment (Sent choice burst) ∷ past) legal = ((sent_fits past (max (now past) moment) choice burst (chosen_is codec session past moment choice burst legal.0), nothing_said past moment (Sent choice burst) legal.0), budget_of_legal past legal.1)
