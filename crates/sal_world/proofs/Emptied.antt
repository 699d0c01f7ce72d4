-- No ready frame is left after the lines of a script.
use Rattle.std.proofs.Common.{◌≡◌, ℕ, zero, suc, ◌*◌, ◌/◌, ◌≤◌, Bool, true, false, cond, not, ◌&&◌, ◌||◌, List, [], ◌∷◌, ◌++◌, length, filter, map, Option, Some, None, is_some, Result, Ok, Err, refl, ap, sym, ◌∙◌, subst, arith, eqb, leb, ltb, length-append, ◌⊎◌, inl, inr}
use Rattle.std.proofs.lemmas.Bool.{eq-eqb, and_parts}
use Rattle.std.specs.Prelude.{option_and_then}
use Rattle.sal_base.specs.Lists.{Has, Each}
use Rattle.sal_base.specs.Names.{same}
use Rattle.sal_base.specs.declared.coding.Fault.{Fault}
use Rattle.sal_base.specs.declared.coding.Decoded.{Decoded}
use Rattle.sal_base.specs.declared.picture.Picture.{Picture}
use Rattle.sal_codec.specs.Coding.{Coding, IsLawful}
use Rattle.sal_wire.specs.declared.datagram.Ack.{Ack}
use Rattle.sal_wire.specs.Message.{FragmentMessage, AckMessage, ByeMessage}
use Rattle.sal_wire.specs.Fields.{FragmentFields}
use Rattle.sal_reasm.specs.Complete.{floor_of}
use Rattle.sal_sender.specs.Jobs.{Job}
use Rattle.sal_sender.specs.OneThread.{Session}
use Rattle.sal_sender.specs.Choosing.{is_fine, first_in}
use Rattle.sal_sender.specs.Answers.{waiting_jobs}
use Rattle.sal_receiver.specs.declared.answers.Delivered.TheVariants.{Taken, Ended, Refused, Memory}
use Rattle.sal_receiver.specs.declared.answers.Done.{Done}
use Rattle.sal_receiver.specs.declared.answers.Done.TheVariants.{Stranger, Returned, Unfit, Misnamed, Older, Show}
use Rattle.sal_receiver.specs.Past.{ReceiverCall, Deliver, TakeReady, Decoding, DecodeResult, taken, shown, head}
use Rattle.sal_chain.specs.Held.{name_in}
use Rattle.sal_receiver.specs.Ready.{ready_source, frame, is_ready, is_out, is_decided, outcome_of, decoding_of, target_name}
use Rattle.sal_receiver.specs.Ready.{ready_answer}
use Rattle.sal_receiver.specs.Answers.{has_size, last_shown, outcome_answer, decoded_answer}
use Rattle.sal_receiver.proofs.LeastLemmas.{least_none, has_filter}
use Rattle.sal_receiver.proofs.Lasting.{ready_same}
use Rattle.sal_receiver.proofs.Was.{take_waits, waits_parts, ready_taken}
use Rattle.sal_script.specs.declared.line.ScriptLine.{ScriptLine}
use Rattle.sal_script.specs.declared.line.ScriptLine.TheVariants.{Next as NextLine, NextLate, Down as DownLine, Up as UpLine, DownAll, UpAll, Wait, Rest}
use Rattle.sal_world.specs.World.{WorldPast, Starts, TakesJob, Reports, Chooses, Delivers, TakesReady, Decodes, sent, acks, acks_of, ack_in, at_number, delivered_if_sent, heard_if_sent}
use Rattle.sal_receiver.specs.Promises.{ReadyIsServed, IsServed, WasShown, WasOlder}
use Rattle.sal_world.specs.Promises.{IsSession, HasSize, NamesDifferIn, NothingIsLeft, AllIsServed}
use Rattle.sal_world.proofs.Played.{run_holds}
use Rattle.sal_world.specs.Script.{Run, gives, begun, downs_in, ups_in, unnamed, is_number, with_event, run_jobs, next_picture, drained, down, up, each, down_all, up_all, wait, rest, next_line, line, played}

-- ---- fewer are left where one was decided

not_more_step : (b c : Bool) (e : FragmentFields) (xs ys : List FragmentFields) → (c ≡ true → b ≡ true) → length xs ≤ length ys → length (cond c (e ∷ xs) xs) ≤ length (cond b (e ∷ ys) ys)
not_more_step true true e xs ys h l = let a : suc (length xs) ≤ suc (length ys) = omega (arith, l) in a
not_more_step true false e xs ys h l = let a : length xs ≤ suc (length ys) = omega (arith, l) in a
not_more_step false true e xs ys h l = absurd (let q : false ≡ true = h refl in cc)
not_more_step false false e xs ys h l = l

fewer_step : (b c : Bool) (e : FragmentFields) (xs ys : List FragmentFields) → (c ≡ true → b ≡ true) → suc (length xs) ≤ length ys → suc (length (cond c (e ∷ xs) xs)) ≤ length (cond b (e ∷ ys) ys)
fewer_step true true e xs ys h l = let a : suc (suc (length xs)) ≤ suc (length ys) = omega (arith, l) in a
fewer_step true false e xs ys h l = let a : suc (length xs) ≤ suc (length ys) = omega (arith, l) in a
fewer_step false true e xs ys h l = absurd (let q : false ≡ true = h refl in cc)
fewer_step false false e xs ys h l = l

here_step : (b c : Bool) (e : FragmentFields) (xs ys : List FragmentFields) → b ≡ true → c ≡ false → length xs ≤ length ys → suc (length (cond c (e ∷ xs) xs)) ≤ length (cond b (e ∷ ys) ys)
here_step true false e xs ys h i l = let a : suc (length xs) ≤ suc (length ys) = omega (arith, l) in a
here_step true true e xs ys h i l = absurd (cc)
here_step false c e xs ys h i l = absurd (cc)

module _ (f g : ℕ → Bool) (m : ℕ) (less : (k : ℕ) → g k ≡ (not (eqb m k) && f k)) where
  under : (k : ℕ) → g k ≡ true → f k ≡ true
  under k h = (and_parts (not (eqb m k)) (f k) (sym (less k) ∙ h)).1

  not_more : (es : List FragmentFields) → length (filter (λ e. g e.number) es) ≤ length (filter (λ e. f e.number) es)
  not_more [] = let a : 0 ≤ 0 = omega arith in a
  not_more (e ∷ es) = not_more_step (f e.number) (g e.number) e (filter (λ e. g e.number) es) (filter (λ e. f e.number) es) (under e.number) (not_more es)

  fewer : (es : List FragmentFields) → f m ≡ true → Has (map (λ (e : FragmentFields). e.number) es) m → suc (length (filter (λ e. g e.number) es)) ≤ length (filter (λ e. f e.number) es)
  fewer [] h has = absurd has
  fewer (e ∷ es) h (inl is) =
      here_step (f e.number) (g e.number) e (filter (λ e. g e.number) es) (filter (λ e. f e.number) es) (ap f (sym is) ∙ h) (less e.number ∙ ap (λ b. not b && f e.number) (eq-eqb m e.number is)) (not_more es)
  fewer (e ∷ es) h (inr has) = fewer_step (f e.number) (g e.number) e (filter (λ e. g e.number) es) (filter (λ e. f e.number) es) (under e.number) (fewer es h has)

not_or : (a b : Bool) → not (a || b) ≡ (not a && not b)
not_or true b = refl
not_or false b = refl

off : (b o : Bool) → o ≡ false → (not b && (b || o)) ≡ false
off true o e = refl
off false o e = e

no_wait : (some out decided : Bool) → ((some && not out && not decided) ≡ true → ⊥) → (some && not out && not decided) ≡ false
no_wait some out decided never = go (some && not out && not decided) never
  where
    go : (b : Bool) → (b ≡ true → ⊥) → b ≡ false
    go true never = absurd (never refl)
    go false never = refl

-- ---- how many are left

filter_short : (f : FragmentFields → Bool) (es : List FragmentFields) → length (filter f es) ≤ length es
filter_short f [] = let a : 0 ≤ 0 = omega arith in a
filter_short f (e ∷ es) = step (f e) (filter_short f es)
  where
    step : (b : Bool) → length (filter f es) ≤ length es → length (cond b (e ∷ filter f es) (filter f es)) ≤ suc (length es)
    step true l = let a : suc (length (filter f es)) ≤ suc (length es) = omega (arith, l) in a
    step false l = let a : length (filter f es) ≤ suc (length es) = omega (arith, l) in a

module _ {S : Type 0} where
  more_acks : (call : ReceiverCall S) (past : List (ReceiverCall S)) → length (acks_of past) ≤ length (acks_of past ++ ack_in call)
  more_acks call past = omega (arith, length-append (acks_of past) (ack_in call))

  grows : (call : ReceiverCall S) (past : List (ReceiverCall S)) → length (taken past) ≤ length (acks_of past) → length (taken past) ≤ length (acks_of past ++ ack_in call)
  grows call past l = omega (arith, l, more_acks call past)

  with_short : (b : Bool) (e : FragmentFields) (es : List FragmentFields) (ack : Ack) (past : List (ReceiverCall S)) → length es ≤ length (acks_of past) → length (cond b es (e ∷ es)) ≤ length (acks_of past ++ ack ∷ [])
  with_short true e es ack past l = let a : length es ≤ length (acks_of past ++ ack ∷ []) = omega (arith, l, length-append (acks_of past) (ack ∷ [])) in a
  with_short false e es ack past l = let a : suc (length es) ≤ length (acks_of past ++ ack ∷ []) = omega (arith, l, length-append (acks_of past) (ack ∷ [])) in a

  taken_short : (past : List (ReceiverCall S)) → length (taken past) ≤ length (acks_of past)
  taken_short [] = let a : 0 ≤ 0 = omega arith in a
  taken_short (Deliver (Err fault) moment answer ∷ past) = grows (Deliver (Err fault) moment answer) past (taken_short past)
  taken_short (Deliver (Ok (AckMessage ack)) moment answer ∷ past) = grows (Deliver (Ok (AckMessage ack)) moment answer) past (taken_short past)
  taken_short (Deliver (Ok (ByeMessage number last)) moment answer ∷ past) = grows (Deliver (Ok (ByeMessage number last)) moment answer) past (taken_short past)
  taken_short (Deliver (Ok (FragmentMessage e)) moment (Taken ack) ∷ past) = with_short (ltb e.number (floor_of (taken past))) e (taken past) ack past (taken_short past)
  taken_short (Deliver (Ok (FragmentMessage e)) moment (Ended last) ∷ past) = grows (Deliver (Ok (FragmentMessage e)) moment (Ended last)) past (taken_short past)
  taken_short (Deliver (Ok (FragmentMessage e)) moment (Refused cause) ∷ past) = grows (Deliver (Ok (FragmentMessage e)) moment (Refused cause)) past (taken_short past)
  taken_short (Deliver (Ok (FragmentMessage e)) moment Memory ∷ past) = grows (Deliver (Ok (FragmentMessage e)) moment Memory) past (taken_short past)
  taken_short (TakeReady answer ∷ past) = grows (TakeReady answer) past (taken_short past)
  taken_short (Decoding n outcome answer ∷ past) = grows (Decoding n outcome answer) past (taken_short past)

  -- the fragments of numbers that aren't decided
  abbrev left_of : List (ReceiverCall S) → ℕ
  left_of past = length (filter (λ (e : FragmentFields). not (is_decided past e.number)) (taken past))

  few : (past : List (ReceiverCall S)) → left_of past ≤ length (acks_of past)
  few past = omega (arith, filter_short (λ (e : FragmentFields). not (is_decided past e.number)) (taken past), taken_short past)

-- an answer that decides its number
abbrev Decides : Done → Type 0
Decides Stranger = ⊥
Decides (Returned n) = ⊥
Decides (Unfit n why) = Unit {0}
Decides (Misnamed said found) = Unit {0}
Decides (Older n greater) = Unit {0}
Decides (Show n picture) = Unit {0}

decides_if : (a b c : Bool) (x y z u : Done) → Decides x → Decides y → Decides z → Decides u → Decides (cond a x (cond b y (cond c z u)))
decides_if true b c x y z u p q r s = p
decides_if false true c x y z u p q r s = q
decides_if false false true x y z u p q r s = r
decides_if false false false x y z u p q r s = s

module _ {S : Type 0} where
  out_after : (past : List (ReceiverCall S)) (m k : ℕ) (outcome : DecodeResult S) (answer : Done) → Decides answer → is_out (Decoding m outcome answer ∷ past) k ≡ (not (eqb m k) && is_out past k)
  out_after past m k outcome Stranger d = absurd d
  out_after past m k outcome (Returned n) d = absurd d
  out_after past m k outcome (Unfit n why) d = refl
  out_after past m k outcome (Misnamed said found) d = refl
  out_after past m k outcome (Older n greater) d = refl
  out_after past m k outcome (Show n picture) d = refl

  decided_after : (past : List (ReceiverCall S)) (m k : ℕ) (outcome : DecodeResult S) (answer : Done) → Decides answer → is_decided (Decoding m outcome answer ∷ past) k ≡ (eqb m k || is_decided past k)
  decided_after past m k outcome Stranger d = absurd d
  decided_after past m k outcome (Returned n) d = absurd d
  decided_after past m k outcome (Unfit n why) d = refl
  decided_after past m k outcome (Misnamed said found) d = refl
  decided_after past m k outcome (Older n greater) d = refl
  decided_after past m k outcome (Show n picture) d = refl

module _ {S : Type 0} (codec : Coding S) where
  outcome_decides : (past : List (ReceiverCall S)) (m : ℕ) (said : Result (Decoded S) Fault) → Decides (outcome_answer codec past m (outcome_of codec said))
  outcome_decides past m (Ok d) = decides_if (not (has_size (head past) d.picture)) (not (same (name_in codec d.state) (target_name past m))) (leb m (last_shown (shown past))) _ _ _ _ tt tt tt tt
  outcome_decides past m (Err fault) = tt

  answer_decides : (past : List (ReceiverCall S)) (m : ℕ) (o : Option S) (bytes : List ℕ) → is_some o ≡ true → is_out past m ≡ true → Decides (decoded_answer codec past m (decoding_of codec o bytes true))
  answer_decides past m None bytes h out = absurd (cc)
  answer_decides past m (Some source) bytes h out =
      subst (λ b. Decides (cond (not b) Stranger (outcome_answer codec past m (outcome_of codec (codec.decode source bytes))))) (sym out) (outcome_decides past m (codec.decode source bytes))

  -- a frame is handed out and decoded
  abbrev came_of : List (ReceiverCall S) → Option ℕ → ℕ → DecodeResult S
  came_of past a m = decoding_of codec (ready_source codec (TakeReady a ∷ past) m) (frame (TakeReady a ∷ past) m) true

  abbrev turned : List (ReceiverCall S) → Option ℕ → ℕ → List (ReceiverCall S)
  turned past a m = Decoding m (came_of past a m) (decoded_answer codec (TakeReady a ∷ past) m (came_of past a m)) ∷ TakeReady a ∷ past

  turn_decides : (past : List (ReceiverCall S)) (m : ℕ) → is_ready codec past m ≡ true → Decides (decoded_answer codec (TakeReady (Some m) ∷ past) m (came_of past (Some m) m))
  turn_decides past m w =
      answer_decides (TakeReady (Some m) ∷ past) m (ready_source codec (TakeReady (Some m) ∷ past) m) (frame (TakeReady (Some m) ∷ past) m)
      (ap is_some (ready_same codec (TakeReady (Some m)) past m refl refl) ∙ (waits_parts codec (is_some (ready_source codec past m)) (is_out past m) (is_decided past m) w).0)
      (ap (λ b. b || is_out past m) (eq-eqb m m refl))

  turn_out : (past : List (ReceiverCall S)) (m : ℕ) → is_ready codec past m ≡ true → ((k : ℕ) → is_out past k ≡ false) → (k : ℕ) → is_out (turned past (Some m) m) k ≡ false
  turn_out past m w out k = out_after (TakeReady (Some m) ∷ past) m k (came_of past (Some m) m) _ (turn_decides past m w) ∙ off (eqb m k) (is_out past k) (out k)

  turn_left : (past : List (ReceiverCall S)) (m : ℕ) → is_ready codec past m ≡ true → suc (left_of (turned past (Some m) m)) ≤ left_of past
  turn_left past m w =
      let parts = waits_parts codec (is_some (ready_source codec past m)) (is_out past m) (is_decided past m) w in
      fewer (λ k. not (is_decided past k)) (λ k. not (is_decided (turned past (Some m) m) k)) m
      (λ k. ap not (decided_after (TakeReady (Some m) ∷ past) m k (came_of past (Some m) m) _ (turn_decides past m w)) ∙ not_or (eqb m k) (is_decided past k))
      (taken past) (ap not parts.1) (ready_taken codec past m parts.0)

  -- where no frame is handed out none waits
  none_waits : (past : List (ReceiverCall S)) (n : ℕ) → ready_answer codec past ≡ None → is_ready codec past n ≡ false
  none_waits past n h = no_wait (is_some (ready_source codec past n)) (is_out past n) (is_decided past n) (λ w.
      least_none (filter (is_ready codec past) (map (λ (e : FragmentFields). e.number) (taken past))) n h
      (has_filter (is_ready codec past) (map (λ (e : FragmentFields). e.number) (taken past)) n w (ready_taken codec past n (waits_parts codec (is_some (ready_source codec past n)) (is_out past n) (is_decided past n) w).0)))

  end_step : (past : List (ReceiverCall S)) (a : Option ℕ) → a ≡ None → ((n : ℕ) → is_ready codec past n ≡ false) → ((n : ℕ) → is_out past n ≡ false) → NothingIsLeft codec (TakeReady a ∷ past)
  end_step past None e calm out = record {
    waits = λ n. ap (λ o. is_some o && not (is_out past n) && not (is_decided past n)) (ready_same codec (TakeReady None) past n refl refl) ∙ calm n;
    out = out;
  }
  end_step past (Some m) e calm out = absurd (cc)

  some_left : (past : List (ReceiverCall S)) (m : ℕ) → is_ready codec past m ≡ true → left_of past ≤ 0 → ⊥
  some_left past m w none = let more : suc (left_of (turned past (Some m) m)) ≤ left_of past = turn_left past m w in omega arith

  zero_none : (past : List (ReceiverCall S)) (o : Option ℕ) → ready_answer codec past ≡ o → left_of past ≤ 0 → o ≡ None
  zero_none past None e none = refl
  zero_none past (Some m) e none = absurd (some_left past m (take_waits codec past m (sym e)) none)

module _ {S : Type 0} (codec : Coding S) (session : Session) where
  abbrev pub IsEmpty : Run S → Type 0
  IsEmpty r = NothingIsLeft codec r.world.receiver

  abbrev NoneOut : Run S → Type 0
  NoneOut r = (n : ℕ) → is_out r.world.receiver n ≡ false

  ended_step : (r : Run S) → ready_answer codec r.world.receiver ≡ None → NoneOut r → IsEmpty (with_event codec session TakesReady r)
  ended_step r e out = end_step codec r.world.receiver (ready_answer codec r.world.receiver) e (λ n. none_waits codec r.world.receiver n e) out

  drained_step : (n : ℕ) (r : Run S) (o : Option ℕ) → ready_answer codec r.world.receiver ≡ o → NoneOut r → left_of r.world.receiver ≤ suc n → ((s : Run S) → NoneOut s → left_of s.world.receiver ≤ n → IsEmpty (drained codec session n s)) → IsEmpty (elim o as (λ x. Run S) [
    | None ↦ with_event codec session TakesReady r
    | Some number ↦ drained codec session n (with_event codec session (Decodes number true) (with_event codec session TakesReady r))
  ])
  drained_step n r None e out less more = ended_step r e out
  drained_step n r (Some m) e out less more =
      let past : List (ReceiverCall S) = r.world.receiver in
      let w : is_ready codec past m ≡ true = take_waits codec past m (sym e) in
      let fewer_left : suc (left_of (turned codec past (ready_answer codec past) m)) ≤ left_of past = subst (λ a. suc (left_of (turned codec past a m)) ≤ left_of past) (sym e) (turn_left codec past m w) in
      more (with_event codec session (Decodes m true) (with_event codec session TakesReady r))
      (subst (λ a. (k : ℕ) → is_out (turned codec past a m) k ≡ false) (sym e) (turn_out codec past m w out))
      (omega (arith, fewer_left, less))

  -- each ready frame is decoded, where there are at most so many
  drained_empty : (n : ℕ) (r : Run S) → NoneOut r → left_of r.world.receiver ≤ n → IsEmpty (drained codec session n r)
  unfolding drained
  drained_empty zero r out less = ended_step r (zero_none codec r.world.receiver (ready_answer codec r.world.receiver) refl less) out
  drained_empty (suc n) r out less = drained_step n r (ready_answer codec r.world.receiver) refl out less (λ s of many. drained_empty n s of many)

  down_out : (w : WorldPast S) (o : Option (List ℕ)) (n : ℕ) → is_out w.receiver n ≡ false → is_out (delivered_if_sent codec w o).receiver n ≡ false
  down_out w None n h = h
  down_out w (Some bytes) n h = h

  down_empty : (k : ℕ) (r : Run S) → IsEmpty r → IsEmpty (down codec session k r)
  down_empty k r is =
      let s : Run S = with_event codec session (Delivers k) r in
      drained_empty (length (acks s.world)) s (λ n. down_out r.world (at_number (sent r.world) k) n (is.out n)) (few s.world.receiver)

  up_receiver : (w : WorldPast S) (o : Option Ack) → NothingIsLeft codec w.receiver → NothingIsLeft codec (heard_if_sent codec session w o).receiver
  up_receiver w None is = is
  up_receiver w (Some ack) is = is

  up_empty : (k : ℕ) (r : Run S) → IsEmpty r → IsEmpty (up codec session k r)
  up_empty k r is = up_receiver r.world (at_number (acks r.world) k) is

  either_empty : (b : Bool) (r s : Run S) → IsEmpty r → IsEmpty s → IsEmpty (cond b r s)
  either_empty true r s is of = is
  either_empty false r s is of = of

  jobs_step : (is_late : Job → Bool) (n : ℕ) (r : Run S) (o : Option Job) → IsEmpty r → ((s : Run S) → IsEmpty s → IsEmpty (run_jobs codec session is_late n s)) → IsEmpty (elim o as (λ x. Run S) [
    | None ↦ r
    | Some job ↦ cond (is_late job) r (run_jobs codec session is_late n (with_event codec session (Reports job.id (gives codec session r job)) (with_event codec session TakesJob r)))
  ])
  jobs_step is_late n r None is more = is
  jobs_step is_late n r (Some job) is more =
      let s : Run S = with_event codec session (Reports job.id (gives codec session r job)) (with_event codec session TakesJob r) in
      either_empty (is_late job) r (run_jobs codec session is_late n s) is (more s is)

  jobs_empty : (is_late : Job → Bool) (n : ℕ) (r : Run S) → IsEmpty r → IsEmpty (run_jobs codec session is_late n r)
  unfolding run_jobs
  jobs_empty is_late zero r is = is
  jobs_empty is_late (suc n) r is = jobs_step is_late n r (first_in (waiting_jobs r.world.sender)) is (λ s of. jobs_empty is_late n s of)

  picture_empty : (is_late : Job → Bool) (picture : Picture) (r : Run S) → IsEmpty r → IsEmpty (next_picture codec session is_late picture r)
  picture_empty is_late picture r is =
      let s : Run S = with_event codec session (Starts picture) r in
      let early : Run S = run_jobs codec session is_late 3 s in
      jobs_empty (λ job. false) 3 (with_event codec session Chooses early) (jobs_empty is_late 3 s is)

  each_empty : (step : ℕ → Run S → Run S) → ((k : ℕ) (r : Run S) → IsEmpty r → IsEmpty (step k r)) → (ks : List ℕ) (r : Run S) → IsEmpty r → IsEmpty (each codec session step ks r)
  each_empty step keeps [] r is = is
  each_empty step keeps (k ∷ more) r is = each_empty step keeps more (step k r) (keeps k r is)

  down_all_empty : (r : Run S) → IsEmpty r → IsEmpty (down_all codec session r)
  down_all_empty r is = each_empty (down codec session) down_empty (unnamed downs_in r.events (length (sent r.world))) r is

  up_all_empty : (r : Run S) → IsEmpty r → IsEmpty (up_all codec session r)
  up_all_empty r is = each_empty (up codec session) up_empty (unnamed ups_in r.events (length (acks r.world))) r is

  rest_empty : (pictures : List Picture) (r : Run S) → IsEmpty r → IsEmpty (rest codec session pictures r)
  rest_empty [] r is = is
  rest_empty (picture ∷ more) r is =
      let sent_all : Run S = up_all codec session (down_all codec session (next_picture codec session (λ job. false) picture r)) in
      rest_empty more (wait codec session ((1000000 * session.head.rate.1) / session.head.rate.0) sent_all)
      (up_all_empty (down_all codec session (next_picture codec session (λ job. false) picture r)) (down_all_empty (next_picture codec session (λ job. false) picture r) (picture_empty (λ job. false) picture r is)))

  -- a run, if there is one
  abbrev pub IsEmptyIn : Option (Run S) → Type 0
  IsEmptyIn None = Unit {0}
  IsEmptyIn (Some r) = IsEmpty r

  next_empty : (is_late : Job → Bool) (pictures : List Picture) (r : Run S) → IsEmpty r → IsEmptyIn (next_line codec session is_late pictures r)
  next_empty is_late [] r is = tt
  next_empty is_late (picture ∷ more) r is = picture_empty is_late picture (record r { left = more }) is

  if_empty : (b : Bool) (r : Run S) → IsEmpty r → IsEmptyIn (cond b (Some r) None)
  if_empty true r is = is
  if_empty false r is = tt

  pub line_empty : (next : ScriptLine) (r : Run S) → IsEmpty r → IsEmptyIn (line codec session next r)
  line_empty NextLine r is = next_empty (λ job. false) r.left r is
  line_empty NextLate r is = next_empty is_fine r.left r is
  line_empty (DownLine k) r is = if_empty (is_number k (length (sent r.world))) (down codec session k r) (down_empty k r is)
  line_empty (UpLine k) r is = if_empty (is_number k (length (acks r.world))) (up codec session k r) (up_empty k r is)
  line_empty DownAll r is = down_all_empty r is
  line_empty UpAll r is = up_all_empty r is
  line_empty (Wait time) r is = is
  line_empty Rest r is = rest_empty r.left (record r { left = [] }) is

  then_empty : (next : ScriptLine) (o : Option (Run S)) → IsEmptyIn o → IsEmptyIn (option_and_then (line codec session next) o)
  then_empty next None is = tt
  then_empty next (Some r) is = line_empty next r is

  played_empty : (lines : List ScriptLine) (o : Option (Run S)) → IsEmptyIn o → IsEmptyIn (played codec session lines o)
  played_empty [] o is = is
  played_empty (next ∷ more) o is = played_empty more (option_and_then (line codec session next) o) (then_empty next o is)

  pub begun_empty : (pictures : List Picture) → IsEmpty (begun pictures)
  unfolding ready_source
  begun_empty pictures = record { waits = λ n. refl; out = λ n. refl }

  -- no frame is left after the lines
  pub run_empty : (pictures : List Picture) (lines : List ScriptLine) (r : Run S) → played codec session lines (Some (begun pictures)) ≡ Some r → NothingIsLeft codec r.world.receiver
  run_empty pictures lines r e = subst IsEmptyIn e (played_empty lines (Some (begun pictures)) (begun_empty pictures))

  pub served_so : (past : List (ReceiverCall S)) → ReadyIsServed codec past → NothingIsLeft codec past → AllIsServed codec past
  served_so past served left n is = go (served n is)
    where
      go : IsServed codec past n → WasShown past n ⊎ WasOlder past n
      go (inl waiting) = absurd (let q : true ≡ false = sym waiting ∙ left.waits n in cc)
      go (inr (inl out)) = absurd (let q : true ≡ false = sym out ∙ left.out n in cc)
      go (inr (inr shown_or)) = shown_or

  -- and each ready frame was shown, or a number at least as great was
  pub run_served : IsLawful codec → IsSession session → (pictures : List Picture) → Each (HasSize session) pictures → (lines : List ScriptLine) (r : Run S) → played codec session lines (Some (begun pictures)) ≡ Some r → NamesDifferIn codec r.world → AllIsServed codec r.world.receiver
  run_served law ok pictures sizes lines r e names = served_so r.world.receiver ((run_holds codec session law ok pictures sizes lines r e).named names).served (run_empty pictures lines r e)
