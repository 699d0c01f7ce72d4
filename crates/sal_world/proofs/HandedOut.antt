-- What a receiver handed out was ready and isn't decided, and no number is decoded twice.
use Rattle.std.proofs.Common.{◌≡◌, ◌≢◌, ℕ, ◌<◌, ◌≤◌, min, Bool, true, false, cond, not, ◌&&◌, ◌||◌, List, [], ◌∷◌, map, filter, Option, Some, None, is_some, refl, sym, subst, arith, eqb, inl, inr, ◌⊎◌}
use Rattle.std.proofs.lemmas.Bool.{eqb-true, eq-eqb, and_parts, cases_lt}
use Rattle.sal_base.specs.Lists.{Each}
use Rattle.sal_codec.specs.Coding.{Coding}
use Rattle.sal_chain.specs.declared.stored_state.StoredState.{StoredState}
use Rattle.sal_reasm.specs.Offer.{or_else}
use Rattle.sal_receiver.specs.declared.answers.Done.{Done}
use Rattle.sal_receiver.specs.declared.answers.Done.TheVariants.{Stranger, Returned, Unfit, Misnamed, Older, Show}
use Rattle.sal_receiver.specs.Past.{ReceiverCall, Deliver, TakeReady, Decoding, Sound, Faulty, NoMemory, taken}
use Rattle.sal_receiver.specs.Held.{decoded}
use Rattle.sal_receiver.specs.Ready.{least, ready_source, source_now, is_ready, is_out, is_decided, decides, ready_answer}
use Rattle.sal_receiver.specs.Answers.{outcome_answer}
use Rattle.sal_receiver.specs.Promises.{IsLegalReceiver}
use Rattle.sal_world.proofs.ListLemmas.{each_map, some_same}
use Rattle.sal_world.proofs.Ordered.{NotIn, Distinct}

-- the least of some numbers is one of them
min_meets : (P : ℕ → Type 0) (a b : ℕ) → P a → P b → (a < b) ⊎ (b ≤ a) → P (min a b)
min_meets P a b p q (inl h) = subst P (let e : a ≡ min a b = omega arith in e) p
min_meets P a b p q (inr h) = subst P (let e : b ≡ min a b = omega arith in e) q

least_meets : (P : ℕ → Type 0) (xs : List ℕ) (m : ℕ) → Each P xs → least xs ≡ Some m → P m
least_meets P [] m each e = absurd (cc)
least_meets P (n ∷ more) m each e = step (least more) refl e (least_meets P more)
  where
    step : (o : Option ℕ) → least more ≡ o → least (n ∷ more) ≡ Some m → ((k : ℕ) → Each P more → least more ≡ Some k → P k) → P m
    step None is h rest = let own : Some n ≡ Some m = rw is at h in subst P (some_same n m own) each.0
    step (Some k) is h rest = let own : Some (min n k) ≡ Some m = rw is at h in subst P (some_same (min n k) m own) (min_meets P n k each.0 (rest k each.1 is) (cases_lt n k))

filter_meets : (p : ℕ → Bool) (xs : List ℕ) → Each (λ x. p x ≡ true) (filter p xs)
filter_meets p [] = tt
filter_meets p (x ∷ xs) = step (p x) refl (filter_meets p xs)
  where
    step : (b : Bool) → p x ≡ b → Each (λ y. p y ≡ true) (filter p xs) → Each (λ y. p y ≡ true) (cond b (x ∷ filter p xs) (filter p xs))
    step true is more = (is, more)
    step false is more = more

true_or : (a b : Bool) → (a || b) ≡ true → (a ≡ true) ⊎ (b ≡ true)
true_or true b h = inl refl
true_or false b h = inr h

not_true : (a : Bool) → not a ≡ true → a ≡ false
not_true true h = absurd (cc)
not_true false h = refl

some_else : {X : Type 0} (o p : Option X) → is_some o ≡ true → is_some (or_else o p) ≡ true
some_else None p h = absurd (cc)
some_else (Some x) p h = refl

either_true : (a b : Bool) → b ≡ true → (a || b) ≡ true
either_true true b h = refl
either_true false b h = h

clash_of_bools : (b : Bool) → b ≡ true → b ≡ false → ⊥
clash_of_bools b p q = absurd (cc)

module _ {S : Type 0} (codec : Coding S) where
  -- a number that was ready and isn't decided
  pub record IsOpen (past : List (ReceiverCall S)) (n : ℕ) : Type 0 where
    pub undecided : is_decided past n ≡ false
    pub some : is_some (ready_source codec past n) ≡ true

  open_later : (call : ReceiverCall S) (past : List (ReceiverCall S)) (n : ℕ) → decides n call ≡ false → IsOpen past n → IsOpen (call ∷ past) n
  unfolding ready_source
  open_later call past n is open_is = record {
    undecided = rw is open_is.undecided;
    some = some_else (ready_source codec past n) (source_now codec (call ∷ past) n) open_is.some;
  }

  waits_open : (past : List (ReceiverCall S)) (n : ℕ) → is_ready codec past n ≡ true → IsOpen past n
  waits_open past n h =
      let a = and_parts (is_some (ready_source codec past n) && not (is_out past n)) (not (is_decided past n)) h in
      let b = and_parts (is_some (ready_source codec past n)) (not (is_out past n)) a.0 in
      record { undecided = not_true (is_decided past n) a.1; some = b.0 }

  took_open : (past : List (ReceiverCall S)) (m n : ℕ) → Some m ≡ ready_answer codec past → (is_out past n ≡ true → IsOpen past n) → (eqb m n || is_out past n) ≡ true → IsOpen past n
  took_open past m n answer more h = elim (true_or (eqb m n) (is_out past n) h) [
    | inl a ↦ waits_open past n (subst (λ k. is_ready codec past k ≡ true) (eqb-true _ _ a) (least_meets (λ k. is_ready codec past k ≡ true) (filter (is_ready codec past) (map (λ e. e.number) (taken past))) m (filter_meets (is_ready codec past) (map (λ e. e.number) (taken past))) (sym answer)))
    | inr b ↦ more b
  ]

  reported_open : (call : ReceiverCall S) (past : List (ReceiverCall S)) (m n : ℕ) → (eqb m n ≡ false → decides n call ≡ false) → (is_out past n ≡ true → IsOpen past n) → (not (eqb m n) && is_out past n) ≡ true → IsOpen (call ∷ past) n
  reported_open call past m n other more h =
      let both = and_parts (not (eqb m n)) (is_out past n) h in
      open_later call past n (other (not_true (eqb m n) both.0)) (more both.1)

  -- what is out was ready and isn't decided
  pub out_open : (past : List (ReceiverCall S)) (n : ℕ) → IsLegalReceiver codec past → is_out past n ≡ true → IsOpen past n
  out_open [] n legal h = absurd (cc)
  out_open (Deliver came moment answer ∷ past) n legal h = open_later (Deliver came moment answer) past n refl (out_open past n legal.1 h)
  out_open (TakeReady None ∷ past) n legal h = open_later (TakeReady None) past n refl (out_open past n legal.1 h)
  out_open (TakeReady (Some m) ∷ past) n legal h = open_later (TakeReady (Some m)) past n refl (took_open past m n legal.0 (out_open past n legal.1) h)
  out_open (Decoding m outcome Stranger ∷ past) n legal h = open_later (Decoding m outcome Stranger) past n refl (out_open past n legal.1 h)
  out_open (Decoding m outcome (Returned k) ∷ past) n legal h = reported_open (Decoding m outcome (Returned k)) past m n (λ e. refl) (out_open past n legal.1) h
  out_open (Decoding m outcome (Unfit k why) ∷ past) n legal h = reported_open (Decoding m outcome (Unfit k why)) past m n (λ e. e) (out_open past n legal.1) h
  out_open (Decoding m outcome (Misnamed said found) ∷ past) n legal h = reported_open (Decoding m outcome (Misnamed said found)) past m n (λ e. e) (out_open past n legal.1) h
  out_open (Decoding m outcome (Older k greater) ∷ past) n legal h = reported_open (Decoding m outcome (Older k greater)) past m n (λ e. e) (out_open past n legal.1) h
  out_open (Decoding m outcome (Show k picture) ∷ past) n legal h = reported_open (Decoding m outcome (Show k picture)) past m n (λ e. e) (out_open past n legal.1) h

  -- ---- decoded numbers

  still_decided : (call : ReceiverCall S) (past : List (ReceiverCall S)) (k : StoredState S) → is_decided past k.number ≡ true → is_decided (call ∷ past) k.number ≡ true
  still_decided call past k h = either_true (decides k.number call) (is_decided past k.number) h

  abbrev AreDecided : List (ReceiverCall S) → List (StoredState S) → Type 0
  AreDecided past kept = Each (λ k. is_decided past k.number ≡ true) kept

  later_decided : (call : ReceiverCall S) (past : List (ReceiverCall S)) (kept : List (StoredState S)) → AreDecided past kept → AreDecided (call ∷ past) kept
  later_decided call past kept each = each_map (λ k. is_decided past k.number ≡ true) (λ k. is_decided (call ∷ past) k.number ≡ true) (still_decided call past) kept each

  first_true : (a b : Bool) → a ≡ true → (a || b) ≡ true
  first_true true b h = refl
  first_true false b h = absurd (cc)

  -- each number whose state is held is decided
  pub decoded_decided : (past : List (ReceiverCall S)) → AreDecided past (decoded codec past)
  decoded_decided [] = tt
  decoded_decided (Deliver came moment answer ∷ past) = later_decided (Deliver came moment answer) past (decoded codec past) (decoded_decided past)
  decoded_decided (TakeReady answer ∷ past) = later_decided (TakeReady answer) past (decoded codec past) (decoded_decided past)
  decoded_decided (Decoding n NoMemory answer ∷ past) = later_decided (Decoding n NoMemory answer) past (decoded codec past) (decoded_decided past)
  decoded_decided (Decoding n (Faulty fault) answer ∷ past) = later_decided (Decoding n (Faulty fault) answer) past (decoded codec past) (decoded_decided past)
  decoded_decided (Decoding n (Sound state picture) Stranger ∷ past) = later_decided (Decoding n (Sound state picture) Stranger) past (decoded codec past) (decoded_decided past)
  decoded_decided (Decoding n (Sound state picture) (Returned k) ∷ past) = later_decided (Decoding n (Sound state picture) (Returned k)) past (decoded codec past) (decoded_decided past)
  decoded_decided (Decoding n (Sound state picture) (Unfit k why) ∷ past) = later_decided (Decoding n (Sound state picture) (Unfit k why)) past (decoded codec past) (decoded_decided past)
  decoded_decided (Decoding n (Sound state picture) (Misnamed said found) ∷ past) = later_decided (Decoding n (Sound state picture) (Misnamed said found)) past (decoded codec past) (decoded_decided past)
  decoded_decided (Decoding n (Sound state picture) (Older k greater) ∷ past) =
      (first_true (eqb n n) (is_decided past n) (eq-eqb n n refl), later_decided (Decoding n (Sound state picture) (Older k greater)) past (decoded codec past) (decoded_decided past))
  decoded_decided (Decoding n (Sound state picture) (Show k shot) ∷ past) =
      (first_true (eqb n n) (is_decided past n) (eq-eqb n n refl), later_decided (Decoding n (Sound state picture) (Show k shot)) past (decoded codec past) (decoded_decided past))

  answered_out : (out : Bool) (answer other : Done) → (answer ≡ Stranger → ⊥) → answer ≡ cond (not out) Stranger other → out ≡ true
  answered_out true answer other never h = refl
  answered_out false answer other never h = absurd (never h)

  pub not_in : (past : List (ReceiverCall S)) (n : ℕ) → IsLegalReceiver codec past → is_out past n ≡ true → NotIn n (decoded codec past)
  not_in past n legal out = each_map (λ k. is_decided past k.number ≡ true) (λ k. k.number ≢ n) (λ (k : StoredState S) (is : is_decided past k.number ≡ true) (e : k.number ≡ n). clash_of_bools (is_decided past n) (subst (λ m. is_decided past m ≡ true) e is) (out_open past n legal out).undecided) (decoded codec past) (decoded_decided past)

  pub distinct : (past : List (ReceiverCall S)) → IsLegalReceiver codec past → Distinct (decoded codec past)
  distinct [] legal = tt
  distinct (Deliver came moment answer ∷ past) legal = distinct past legal.1
  distinct (TakeReady answer ∷ past) legal = distinct past legal.1
  distinct (Decoding n NoMemory answer ∷ past) legal = distinct past legal.1
  distinct (Decoding n (Faulty fault) answer ∷ past) legal = distinct past legal.1
  distinct (Decoding n (Sound state picture) Stranger ∷ past) legal = distinct past legal.1
  distinct (Decoding n (Sound state picture) (Returned k) ∷ past) legal = distinct past legal.1
  distinct (Decoding n (Sound state picture) (Unfit k why) ∷ past) legal = distinct past legal.1
  distinct (Decoding n (Sound state picture) (Misnamed said found) ∷ past) legal = distinct past legal.1
  distinct (Decoding n (Sound state picture) (Older k greater) ∷ past) legal =
      (not_in past n legal.1 (answered_out (is_out past n) (Older k greater) (outcome_answer codec past n (Sound state picture)) (λ (e : Older k greater ≡ Stranger). cc) legal.0.0), distinct past legal.1)
  distinct (Decoding n (Sound state picture) (Show k shot) ∷ past) legal =
      (not_in past n legal.1 (answered_out (is_out past n) (Show k shot) (outcome_answer codec past n (Sound state picture)) (λ (e : Show k shot ≡ Stranger). cc) legal.0.0), distinct past legal.1)
