-- What was handed out or decided was ready, and what is ready is whole.
use Rattle.std.proofs.Common.{◌≡◌, ℕ, Bool, true, false, cond, not, ◌&&◌, ◌||◌, List, [], ◌∷◌, filter, map, Option, Some, None, Ok, Err, is_some, refl, sym, subst, ltb, leb, eqb, ◌⊎◌, inl, inr}
use Rattle.std.proofs.lemmas.Bool.{eqb-true, and_parts, or_cases}
use Rattle.sal_base.specs.Lists.{Has}
use Rattle.sal_codec.specs.Coding.{Coding}
use Rattle.sal_wire.specs.declared.datagram.Ack.{Ack}
use Rattle.sal_wire.specs.Fields.{FragmentFields}
use Rattle.sal_wire.specs.Message.{FragmentMessage, AckMessage, ByeMessage}
use Rattle.sal_reasm.specs.Complete.{floor_of, fragments_of, is_complete, has_all}
use Rattle.sal_reasm.specs.Offer.{Difference, or_else, clash_with_taken, clash_with_fragments}
use Rattle.sal_receiver.specs.declared.answers.Delivered.TheVariants.{Taken, Ended, Refused, Memory}
use Rattle.sal_receiver.specs.declared.answers.Refuse.{Refuse}
use Rattle.sal_receiver.specs.declared.answers.Done.{Done}
use Rattle.sal_receiver.specs.declared.answers.Done.TheVariants.{Stranger, Returned, Unfit, Misnamed, Older, Show}
use Rattle.sal_receiver.specs.Past.{ReceiverCall, Deliver, TakeReady, Decoding, DecodeResult, taken, floor, fragment_in, session, head}
use Rattle.sal_receiver.specs.Held.{held_under}
use Rattle.sal_receiver.specs.Ready.{source_now, source_name, ready_source, is_ready, is_out, is_decided, ready_answer}
use Rattle.sal_receiver.specs.Answers.{clash_cause, first_of, refusal, unless_refused, deliver_answer, decoded_answer, outcome_answer, ack_after}
use Rattle.sal_receiver.specs.Promises.{IsLegalReceiver, IsTaken}
use Rattle.sal_receiver.proofs.PartsLemmas.{all_stay}
use Rattle.sal_receiver.proofs.LeastLemmas.{least_in, filter_has, parts_taken, grown}

either_some : {X : Type 0} (o p : Option X) → is_some (or_else o p) ≡ true → (is_some o ≡ true) ⊎ (is_some p ≡ true)
either_some None p h = inr h
either_some (Some x) p h = inl refl

some_later : {X : Type 0} (o p : Option X) → is_some o ≡ true → is_some (or_else o p) ≡ true
some_later None p h = absurd (cc)
some_later (Some x) p h = refl

some_if : {X : Type 0} (b : Bool) (o : Option X) → is_some (cond b o None) ≡ true → b ≡ true
some_if true o h = refl
some_if false o h = absurd (cc)

-- ---- answers

pub taken_means : (o : Option Refuse) (a b : Ack) → Taken a ≡ unless_refused o (Taken b) → o ≡ None
taken_means None a b h = refl
taken_means (Some cause) a b h = absurd (cc)

pub first_parts : (o p : Option Refuse) → first_of o p ≡ None → (o ≡ None) × (p ≡ None)
first_parts None p h = (refl, h)
first_parts (Some cause) p h = absurd (cc)

pub clash_none : (o : Option Difference) → clash_cause o ≡ None → o ≡ None
clash_none None h = refl
clash_none (Some d) h = absurd (cc)

-- an answer other than to a stranger is to one that was handed out
pub out_if : (out : Bool) (a x : Done) → a ≡ cond (not out) Stranger x → (a ≡ Stranger → ⊥) → out ≡ true
out_if true a x h other = refl
out_if false a x h other = absurd (other h)

not_memory : (a : Ack) → Taken a ≡ Memory → ⊥
not_memory a h = cc

module _ {S : Type 0} (codec : Coding S) where
  taken_step : (past : List (ReceiverCall S)) (e : FragmentFields) (moment : ℕ) (ack : Ack) → (Taken ack ≡ deliver_answer codec past (Ok (FragmentMessage e)) moment) ⊎ ((Taken ack ≡ Memory) × IsTaken (deliver_answer codec past (Ok (FragmentMessage e)) moment)) → clash_with_taken (taken past) e ≡ None
  taken_step past e moment ack (inl h) =
      let none : refusal (session past) (head past) (taken past) e ≡ None = taken_means (refusal (session past) (head past) (taken past) e) ack (ack_after codec past e moment) h in
      clash_none (clash_with_taken (taken past) e) (first_parts _ _ (first_parts _ _ none).1).1
  taken_step past e moment ack (inr h) = absurd (not_memory ack h.0)

  -- a fragment that was taken had no clash
  pub taken_like : (past : List (ReceiverCall S)) (e : FragmentFields) (moment : ℕ) (ack : Ack) → IsLegalReceiver codec (Deliver (Ok (FragmentMessage e)) moment (Taken ack) ∷ past) → clash_with_taken (taken past) e ≡ None
  taken_like past e moment ack legal = taken_step past e moment ack legal.0

  -- what is handed out waits
  pub take_waits : (past : List (ReceiverCall S)) (m : ℕ) → Some m ≡ ready_answer codec past → is_ready codec past m ≡ true
  take_waits past m h = (filter_has (is_ready codec past) (map (λ (e : FragmentFields). e.number) (taken past)) m (least_in (filter (is_ready codec past) (map (λ (e : FragmentFields). e.number) (taken past))) m (sym h))).0

  pub waits_parts : (some out decided : Bool) → (some && not out && not decided) ≡ true → (some ≡ true) × (decided ≡ false)
  waits_parts true true decided h = absurd (cc)
  waits_parts true false true h = absurd (cc)
  waits_parts true false false h = (refl, refl)
  waits_parts false out decided h = absurd (cc)

  some_next : (call : ReceiverCall S) (past : List (ReceiverCall S)) (n : ℕ) → is_some (ready_source codec past n) ≡ true → is_some (ready_source codec (call ∷ past) n) ≡ true
  unfolding ready_source
  some_next call past n h = some_later (ready_source codec past n) (source_now codec (call ∷ past) n) h

  -- ---- what was handed out was ready

  out_step : (past : List (ReceiverCall S)) (m n : ℕ) → Some m ≡ ready_answer codec past → (eqb m n ≡ true) ⊎ (is_out past n ≡ true) → (is_out past n ≡ true → is_some (ready_source codec past n) ≡ true) → is_some (ready_source codec past n) ≡ true
  out_step past m n answer (inl e) more =
      subst (λ (x : ℕ). is_some (ready_source codec past x) ≡ true) (eqb-true _ _ e)
      (waits_parts (is_some (ready_source codec past m)) (is_out past m) (is_decided past m) (take_waits past m answer)).0
  out_step past m n answer (inr out) more = more out

  pub out_ready : (past : List (ReceiverCall S)) (n : ℕ) → IsLegalReceiver codec past → is_out past n ≡ true → is_some (ready_source codec past n) ≡ true
  out_ready [] n legal h = absurd (cc)
  out_ready (Deliver came moment answer ∷ past) n legal h = some_next (Deliver came moment answer) past n (out_ready past n legal.1 h)
  out_ready (TakeReady None ∷ past) n legal h = some_next (TakeReady None) past n (out_ready past n legal.1 h)
  out_ready (TakeReady (Some m) ∷ past) n legal h = some_next (TakeReady (Some m)) past n (out_step past m n legal.0 (or_cases (eqb m n) (is_out past n) h) (out_ready past n legal.1))
  out_ready (Decoding m outcome Stranger ∷ past) n legal h = some_next (Decoding m outcome Stranger) past n (out_ready past n legal.1 h)
  out_ready (Decoding m outcome (Returned k) ∷ past) n legal h = some_next (Decoding m outcome (Returned k)) past n (out_ready past n legal.1 (and_parts (not (eqb m n)) (is_out past n) h).1)
  out_ready (Decoding m outcome (Unfit k why) ∷ past) n legal h = some_next (Decoding m outcome (Unfit k why)) past n (out_ready past n legal.1 (and_parts (not (eqb m n)) (is_out past n) h).1)
  out_ready (Decoding m outcome (Misnamed said found) ∷ past) n legal h = some_next (Decoding m outcome (Misnamed said found)) past n (out_ready past n legal.1 (and_parts (not (eqb m n)) (is_out past n) h).1)
  out_ready (Decoding m outcome (Older k g) ∷ past) n legal h = some_next (Decoding m outcome (Older k g)) past n (out_ready past n legal.1 (and_parts (not (eqb m n)) (is_out past n) h).1)
  out_ready (Decoding m outcome (Show k picture) ∷ past) n legal h = some_next (Decoding m outcome (Show k picture)) past n (out_ready past n legal.1 (and_parts (not (eqb m n)) (is_out past n) h).1)

  -- what was decided was handed out before, so it was ready
  decided_step : (past : List (ReceiverCall S)) (m n : ℕ) (outcome : DecodeResult S) (answer : Done) → IsLegalReceiver codec past → answer ≡ decoded_answer codec past m outcome → (answer ≡ Stranger → ⊥) → (eqb m n ≡ true) ⊎ (is_decided past n ≡ true) → (is_decided past n ≡ true → is_some (ready_source codec past n) ≡ true) → is_some (ready_source codec past n) ≡ true
  decided_step past m n outcome answer legal is other (inl e) more =
      subst (λ (x : ℕ). is_some (ready_source codec past x) ≡ true) (eqb-true _ _ e) (out_ready past m legal (out_if (is_out past m) answer (outcome_answer codec past m outcome) is other))
  decided_step past m n outcome answer legal is other (inr decided) more = more decided

  pub decided_ready : (past : List (ReceiverCall S)) (n : ℕ) → IsLegalReceiver codec past → is_decided past n ≡ true → is_some (ready_source codec past n) ≡ true
  decided_ready [] n legal h = absurd (cc)
  decided_ready (Deliver came moment answer ∷ past) n legal h = some_next (Deliver came moment answer) past n (decided_ready past n legal.1 h)
  decided_ready (TakeReady answer ∷ past) n legal h = some_next (TakeReady answer) past n (decided_ready past n legal.1 h)
  decided_ready (Decoding m outcome Stranger ∷ past) n legal h = some_next (Decoding m outcome Stranger) past n (decided_ready past n legal.1 h)
  decided_ready (Decoding m outcome (Returned k) ∷ past) n legal h = some_next (Decoding m outcome (Returned k)) past n (decided_ready past n legal.1 h)
  decided_ready (Decoding m outcome (Unfit k why) ∷ past) n legal h = some_next (Decoding m outcome (Unfit k why)) past n (decided_step past m n outcome (Unfit k why) legal.1 legal.0.0 (λ (q : Unfit k why ≡ Stranger). cc) (or_cases (eqb m n) (is_decided past n) h) (decided_ready past n legal.1))
  decided_ready (Decoding m outcome (Misnamed said found) ∷ past) n legal h = some_next (Decoding m outcome (Misnamed said found)) past n (decided_step past m n outcome (Misnamed said found) legal.1 legal.0.0 (λ (q : Misnamed said found ≡ Stranger). cc) (or_cases (eqb m n) (is_decided past n) h) (decided_ready past n legal.1))
  decided_ready (Decoding m outcome (Older k g) ∷ past) n legal h = some_next (Decoding m outcome (Older k g)) past n (decided_step past m n outcome (Older k g) legal.1 legal.0.0 (λ (q : Older k g ≡ Stranger). cc) (or_cases (eqb m n) (is_decided past n) h) (decided_ready past n legal.1))
  decided_ready (Decoding m outcome (Show k picture) ∷ past) n legal h = some_next (Decoding m outcome (Show k picture)) past n (decided_step past m n outcome (Show k picture) legal.1 legal.0.0 (λ (q : Show k picture ≡ Stranger). cc) (or_cases (eqb m n) (is_decided past n) h) (decided_ready past n legal.1))

  -- ---- what is out isn't decided

  undecided_take : (past : List (ReceiverCall S)) (m n : ℕ) → Some m ≡ ready_answer codec past → (eqb m n ≡ true) ⊎ (is_out past n ≡ true) → (is_out past n ≡ true → is_decided past n ≡ false) → is_decided past n ≡ false
  undecided_take past m n answer (inl e) more =
      subst (λ (x : ℕ). is_decided past x ≡ false) (eqb-true _ _ e)
      (waits_parts (is_some (ready_source codec past m)) (is_out past m) (is_decided past m) (take_waits past m answer)).1
  undecided_take past m n answer (inr out) more = more out

  undecided_step : (b out decided : Bool) → (not b && out) ≡ true → (out ≡ true → decided ≡ false) → (b || decided) ≡ false
  undecided_step true out decided h more = absurd (cc)
  undecided_step false out decided h more = more h

  pub out_undecided : (past : List (ReceiverCall S)) (n : ℕ) → IsLegalReceiver codec past → is_out past n ≡ true → is_decided past n ≡ false
  out_undecided [] n legal h = refl
  out_undecided (Deliver came moment answer ∷ past) n legal h = out_undecided past n legal.1 h
  out_undecided (TakeReady None ∷ past) n legal h = out_undecided past n legal.1 h
  out_undecided (TakeReady (Some m) ∷ past) n legal h = undecided_take past m n legal.0 (or_cases (eqb m n) (is_out past n) h) (out_undecided past n legal.1)
  out_undecided (Decoding m outcome Stranger ∷ past) n legal h = out_undecided past n legal.1 h
  out_undecided (Decoding m outcome (Returned k) ∷ past) n legal h = out_undecided past n legal.1 (and_parts (not (eqb m n)) (is_out past n) h).1
  out_undecided (Decoding m outcome (Unfit k why) ∷ past) n legal h = undecided_step (eqb m n) (is_out past n) (is_decided past n) h (out_undecided past n legal.1)
  out_undecided (Decoding m outcome (Misnamed said found) ∷ past) n legal h = undecided_step (eqb m n) (is_out past n) (is_decided past n) h (out_undecided past n legal.1)
  out_undecided (Decoding m outcome (Older k g) ∷ past) n legal h = undecided_step (eqb m n) (is_out past n) (is_decided past n) h (out_undecided past n legal.1)
  out_undecided (Decoding m outcome (Show k picture) ∷ past) n legal h = undecided_step (eqb m n) (is_out past n) (is_decided past n) h (out_undecided past n legal.1)

  -- ---- what is ready was taken

  ready_step : (past : List (ReceiverCall S)) (call : ReceiverCall S) (n : ℕ) → (is_some (ready_source codec past n) ≡ true) ⊎ (is_some (source_now codec (call ∷ past) n) ≡ true) → (is_some (ready_source codec past n) ≡ true → Has (map (λ (e : FragmentFields). e.number) (taken past)) n) → Has (map (λ (e : FragmentFields). e.number) (taken (call ∷ past))) n
  ready_step past call n (inl h) more = grown (fragment_in call) (taken past) n (more h)
  ready_step past call n (inr h) more =
      parts_taken (taken (call ∷ past)) n (and_parts (leb (floor (call ∷ past)) n) (has_all (fragments_of n (taken (call ∷ past)))) (some_if (is_complete (taken (call ∷ past)) n) (held_under codec (call ∷ past) (source_name (call ∷ past) n)) h)).1

  pub ready_taken : (past : List (ReceiverCall S)) (n : ℕ) → is_some (ready_source codec past n) ≡ true → Has (map (λ (e : FragmentFields). e.number) (taken past)) n
  unfolding ready_source
  ready_taken [] n h = absurd (cc)
  ready_taken (call ∷ past) n h = ready_step past call n (either_some (ready_source codec past n) (source_now codec (call ∷ past) n) h) (ready_taken past n)

  -- ---- and is whole

  part_step : (b : Bool) (e : FragmentFields) (es : List FragmentFields) (n : ℕ) → eqb e.number n ≡ b → clash_with_fragments (fragments_of e.number es) e ≡ None → has_all (fragments_of n es) ≡ true → has_all (cond b (e ∷ fragments_of n es) (fragments_of n es)) ≡ true
  part_step true e es n is like all = all_stay e (fragments_of n es) (subst (λ (x : ℕ). clash_with_fragments (fragments_of x es) e ≡ None) (eqb-true _ _ is) like) all
  part_step false e es n is like all = all

  with_step : (b : Bool) (e : FragmentFields) (es : List FragmentFields) (n : ℕ) → cond b None (clash_with_fragments (fragments_of e.number es) e) ≡ None → has_all (fragments_of n es) ≡ true → has_all (fragments_of n (cond b es (e ∷ es))) ≡ true
  with_step true e es n like all = all
  with_step false e es n like all = part_step (eqb e.number n) e es n refl like all

  whole_stays : (call : ReceiverCall S) (past : List (ReceiverCall S)) (n : ℕ) → IsLegalReceiver codec (call ∷ past) → has_all (fragments_of n (taken past)) ≡ true → has_all (fragments_of n (taken (call ∷ past))) ≡ true
  whole_stays (Deliver (Err fault) moment answer) past n legal all = all
  whole_stays (Deliver (Ok (AckMessage ack)) moment answer) past n legal all = all
  whole_stays (Deliver (Ok (ByeMessage number last)) moment answer) past n legal all = all
  whole_stays (Deliver (Ok (FragmentMessage e)) moment (Taken ack)) past n legal all = with_step (ltb e.number (floor_of (taken past))) e (taken past) n (taken_like past e moment ack legal) all
  whole_stays (Deliver (Ok (FragmentMessage e)) moment (Ended last)) past n legal all = all
  whole_stays (Deliver (Ok (FragmentMessage e)) moment (Refused cause)) past n legal all = all
  whole_stays (Deliver (Ok (FragmentMessage e)) moment Memory) past n legal all = all
  whole_stays (TakeReady answer) past n legal all = all
  whole_stays (Decoding m outcome answer) past n legal all = all

  whole_step : (call : ReceiverCall S) (past : List (ReceiverCall S)) (n : ℕ) → IsLegalReceiver codec (call ∷ past) → (is_some (ready_source codec past n) ≡ true) ⊎ (is_some (source_now codec (call ∷ past) n) ≡ true) → (is_some (ready_source codec past n) ≡ true → has_all (fragments_of n (taken past)) ≡ true) → has_all (fragments_of n (taken (call ∷ past))) ≡ true
  whole_step call past n legal (inl h) more = whole_stays call past n legal (more h)
  whole_step call past n legal (inr h) more =
      (and_parts (leb (floor (call ∷ past)) n) (has_all (fragments_of n (taken (call ∷ past)))) (some_if (is_complete (taken (call ∷ past)) n) (held_under codec (call ∷ past) (source_name (call ∷ past) n)) h)).1

  pub ready_whole : (past : List (ReceiverCall S)) (n : ℕ) → IsLegalReceiver codec past → is_some (ready_source codec past n) ≡ true → has_all (fragments_of n (taken past)) ≡ true
  unfolding ready_source
  ready_whole [] n legal h = absurd (cc)
  ready_whole (call ∷ past) n legal h = whole_step call past n legal (either_some (ready_source codec past n) (source_now codec (call ∷ past) n) h) (ready_whole past n legal.1)
