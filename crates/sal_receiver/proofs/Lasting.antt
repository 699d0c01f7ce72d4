-- What one call does to the frames that aren't decided.
use Rattle.std.proofs.Common.{◌≡◌, ℕ, ◌≤◌, max, Bool, true, false, cond, not, ◌&&◌, ◌||◌, List, [], ◌∷◌, Option, Some, None, is_some, refl, ap, ◌∙◌, subst, arith, ltb, leb, eqb}
use Rattle.std.proofs.lemmas.Bool.{eqb-true, leb-true, le-leb}
use Rattle.std.specs.Option.{option_map}
use Rattle.sal_base.specs.Names.{same}
use Rattle.sal_codec.specs.Coding.{Coding}
use Rattle.sal_wire.specs.Fields.{FragmentFields}
use Rattle.sal_reasm.specs.Complete.{fragments_of, is_complete, has_all, reassembled, frame_bytes}
use Rattle.sal_reasm.specs.Offer.{or_else}
use Rattle.sal_chain.specs.declared.stored_state.StoredState.{StoredState}
use Rattle.sal_chain.specs.Held.{inserted, not_below, with_name}
use Rattle.sal_receiver.specs.declared.answers.Done.TheVariants.{Returned}
use Rattle.sal_receiver.specs.declared.pending_frame.Stage.TheVariants as stages
use Rattle.sal_receiver.specs.declared.pending_frame.PendingFrame.{PendingFrame}
use Rattle.sal_receiver.specs.Past.{ReceiverCall, TakeReady, Decoding, DecodeResult, taken, floor}
use Rattle.sal_chain.specs.Held.{name_in}
use Rattle.sal_receiver.specs.Held.{zero_name, kept_as, held, state_among}
use Rattle.sal_receiver.specs.Ready.{source_in, target_in, source_now, ready_source, frame, is_ready, is_out, is_decided}
use Rattle.sal_receiver.specs.Pending.{fed_one}
use Rattle.sal_receiver.specs.Machine.{stage_of, pending_as, new_stage, pending}
use Rattle.sal_receiver.proofs.FrameLemmas.{if_left, staged}
use Rattle.sal_receiver.proofs.PartsLemmas.{IsSame}

again : {X : Type 0} (o p : Option X) → or_else (or_else o p) p ≡ or_else o p
again None None = refl
again None (Some y) = refl
again (Some x) p = refl

both_ways : {X : Type 0} (b : Bool) (x : X) → cond b x x ≡ x
both_ways true x = refl
both_ways false x = refl

never : {X : Type 0} (b : Bool) (o : Option X) → cond (b && false) o None ≡ None
never true o = refl
never false o = refl

right_none : {X : Type 0} (o p : Option X) → or_else o p ≡ o → o ≡ None → p ≡ None
right_none None p e h = e
right_none (Some x) p e h = absurd (cc)

pub right_same : {X : Type 0} (o p : Option X) → p ≡ None → or_else o p ≡ o
right_same None p h = h
right_same (Some x) p h = refl

module _ {S : Type 0} where
  named_step : (b : Bool) (k x : StoredState S) (name : List ℕ) (xs : List (StoredState S)) (o : Option (StoredState S)) → cond (same x.name.0 name) (Some x) (with_name name xs) ≡ None → with_name name (inserted k xs) ≡ o → with_name name (cond b (k ∷ x ∷ xs) (x ∷ inserted k xs)) ≡ cond b (cond (same k.name.0 name) (Some k) None) o
  named_step true k x name xs o none more = ap (λ (r : Option (StoredState S)). cond (same k.name.0 name) (Some k) r) none
  named_step false k x name xs o none more = step (same x.name.0 name) none
    where
      step : (b : Bool) → cond b (Some x) (with_name name xs) ≡ None → cond b (Some x) (with_name name (inserted k xs)) ≡ o
      step true h = absurd (cc)
      step false h = more

  rest_none : (b : Bool) (x : StoredState S) (o : Option (StoredState S)) → cond b (Some x) o ≡ None → o ≡ None
  rest_none true x o h = absurd (cc)
  rest_none false x o h = h

  -- where no name is this one, it is the new one's or none's
  pub named_placed : (name : List ℕ) (k : StoredState S) (xs : List (StoredState S)) → with_name name xs ≡ None → with_name name (inserted k xs) ≡ cond (same k.name.0 name) (Some k) None
  named_placed name k [] h = refl
  named_placed name k (x ∷ xs) h =
      named_step (ltb k.number x.number) k x name xs (cond (same k.name.0 name) (Some k) None) h (named_placed name k xs (rest_none (same x.name.0 name) x (with_name name xs) h))
      ∙ both_ways (ltb k.number x.number) (cond (same k.name.0 name) (Some k) None)

  from_step : (b : Bool) (name : List ℕ) (x : StoredState S) (ys : List (StoredState S)) (o : Option (StoredState S)) → cond (same x.name.0 name) (Some x) o ≡ None → with_name name ys ≡ None → with_name name (cond b (x ∷ ys) ys) ≡ None
  from_step true name x ys o none more = step (same x.name.0 name) none
    where
      step : (b : Bool) → cond b (Some x) o ≡ None → cond b (Some x) (with_name name ys) ≡ None
      step true h = absurd (cc)
      step false h = more
  from_step false name x ys o none more = more

  -- a higher floor brings no name
  pub named_from : (floor : ℕ) (name : List ℕ) (xs : List (StoredState S)) → with_name name xs ≡ None → with_name name (not_below floor xs) ≡ None
  named_from floor name [] h = refl
  named_from floor name (x ∷ xs) h =
      from_step (leb floor x.number) name x (not_below floor xs) (with_name name xs) h (named_from floor name xs (rest_none (same x.name.0 name) x (with_name name xs) h))

module _ {S : Type 0} (codec : Coding S) where
  abbrev pub source_of : List FragmentFields → List (StoredState S) → ℕ → Option S
  source_of es kept n = cond (is_complete es n) (state_among codec.initial (source_in (fragments_of n es)) kept) None

  abbrev pub pending_of : Bool → Bool → Option S → List FragmentFields → ℕ → Option (PendingFrame S)
  pending_of out decided ready_source es n = option_map (pending_as n (source_in (fragments_of n es)) (target_in (fragments_of n es))) (stage_of out decided ready_source (is_complete es n) (frame_bytes es n))

  -- what is ready by now is ready
  pub settled : (past : List (ReceiverCall S)) (n : ℕ) → or_else (ready_source codec past n) (source_now codec past n) ≡ ready_source codec past n
  unfolding ready_source
  settled [] n = never (leb 1 n) (state_among codec.initial [] [])
  settled (call ∷ past) n = again (ready_source codec past n) (source_now codec (call ∷ past) n)

  pub settled_none : (past : List (ReceiverCall S)) (n : ℕ) → ready_source codec past n ≡ None → source_of (taken past) (held codec past) n ≡ None
  settled_none past n h = right_none (ready_source codec past n) (source_now codec past n) (settled past n) h

  pub ready_next : (call : ReceiverCall S) (past : List (ReceiverCall S)) (n : ℕ) → ready_source codec (call ∷ past) n ≡ or_else (ready_source codec past n) (source_of (taken (call ∷ past)) (held codec (call ∷ past)) n)
  unfolding ready_source
  ready_next call past n = refl

  pub ready_same : (call : ReceiverCall S) (past : List (ReceiverCall S)) (n : ℕ) → taken (call ∷ past) ≡ taken past → held codec (call ∷ past) ≡ held codec past → ready_source codec (call ∷ past) n ≡ ready_source codec past n
  ready_same call past n a b =
      ready_next call past n
      ∙ (ap (λ es. or_else (ready_source codec past n) (source_of es (held codec (call ∷ past)) n)) a
      ∙ (ap (λ ks. or_else (ready_source codec past n) (source_of (taken past) ks n)) b ∙ settled past n))

  -- ---- a call that changes nothing here

  pub pending_equal : (out out' decided decided' : Bool) (r r' : Option S) (es es' : List FragmentFields) (n : ℕ) → out ≡ out' → decided ≡ decided' → r ≡ r' → es ≡ es' → pending_of out decided r es n ≡ pending_of out' decided' r' es' n
  pending_equal out out' decided decided' r r' es es' n a b c d =
      ap (λ x. pending_of x decided r es n) a ∙ (ap (λ x. pending_of out' x r es n) b ∙ (ap (λ x. pending_of out' decided' x es n) c ∙ ap (λ x. pending_of out' decided' r' x n) d))

  pub quiet : (call : ReceiverCall S) (past : List (ReceiverCall S)) (n : ℕ) → taken (call ∷ past) ≡ taken past → held codec (call ∷ past) ≡ held codec past → is_out (call ∷ past) n ≡ is_out past n → is_decided (call ∷ past) n ≡ is_decided past n → pending codec (call ∷ past) n ≡ pending codec past n
  quiet call past n a b c d =
      pending_equal (is_out (call ∷ past) n) (is_out past n) (is_decided (call ∷ past) n) (is_decided past n) (ready_source codec (call ∷ past) n) (ready_source codec past n) (taken (call ∷ past)) (taken past) n c d (ready_same call past n a b) a

  -- ---- handed out

  waiting_out : (out decided : Bool) (r : Option S) (es : List FragmentFields) (n : ℕ) → (is_some r && not out && not decided) ≡ true → pending_of true decided r es n ≡ option_map (staged stages.Decoding) (pending_of out decided r es n)
  waiting_out true decided None es n h = absurd (cc)
  waiting_out true decided (Some s) es n h = absurd (cc)
  waiting_out false true None es n h = absurd (cc)
  waiting_out false true (Some s) es n h = absurd (cc)
  waiting_out false false None es n h = absurd (cc)
  waiting_out false false (Some s) es n h = refl

  took_step : (b : Bool) (past : List (ReceiverCall S)) (m n : ℕ) → eqb m n ≡ b → is_ready codec past m ≡ true → pending_of (b || is_out past n) (is_decided past n) (ready_source codec past n) (taken past) n ≡ cond b (option_map (staged stages.Decoding) (pending codec past n)) (pending codec past n)
  took_step true past m n e w =
      let is : m ≡ n = eqb-true _ _ e in
      waiting_out (is_out past n) (is_decided past n) (ready_source codec past n) (taken past) n (subst (λ (x : ℕ). is_ready codec past x ≡ true) is w)
  took_step false past m n e w = refl

  pub took : (past : List (ReceiverCall S)) (m n : ℕ) → is_ready codec past m ≡ true → pending codec (TakeReady (Some m) ∷ past) n ≡ cond (eqb m n) (option_map (staged stages.Decoding) (pending codec past n)) (pending codec past n)
  took past m n w =
      ap (λ r. pending_of (eqb m n || is_out past n) (is_decided past n) r (taken past) n) (ready_same (TakeReady (Some m)) past n refl refl)
      ∙ took_step (eqb m n) past m n refl w

  -- ---- a decoding that is given back

  back_step : (out decided : Bool) (r : Option S) (source : S) (es : List FragmentFields) (n : ℕ) → out ≡ true → decided ≡ false → r ≡ Some source → pending_of false decided r es n ≡ option_map (staged (stages.Ready source (frame_bytes es n))) (pending_of out decided r es n)
  back_step true false (Some s) source es n a b c = ap (λ (o : Option S). pending_of false false o es n) c
  back_step true false None source es n a b c = absurd (cc)
  back_step true true r source es n a b c = absurd (cc)
  back_step false decided r source es n a b c = absurd (cc)

  returned_step : (b : Bool) (past : List (ReceiverCall S)) (m n : ℕ) (source : S) → eqb m n ≡ b → is_out past m ≡ true → is_decided past m ≡ false → ready_source codec past m ≡ Some source → pending_of (not b && is_out past n) (is_decided past n) (ready_source codec past n) (taken past) n ≡ cond b (option_map (staged (stages.Ready source (frame past m))) (pending codec past n)) (pending codec past n)
  returned_step true past m n source e out undecided is =
      subst (λ (x : ℕ). pending_of false (is_decided past x) (ready_source codec past x) (taken past) x ≡ option_map (staged (stages.Ready source (frame past m))) (pending codec past x)) (eqb-true m n e)
      (back_step (is_out past m) (is_decided past m) (ready_source codec past m) source (taken past) m out undecided is)
  returned_step false past m n source e out undecided is = refl

  pub returned : (past : List (ReceiverCall S)) (m n k : ℕ) (outcome : DecodeResult S) (source : S) → held codec (Decoding m outcome (Returned k) ∷ past) ≡ held codec past → is_out past m ≡ true → is_decided past m ≡ false → ready_source codec past m ≡ Some source → pending codec (Decoding m outcome (Returned k) ∷ past) n ≡ cond (eqb m n) (option_map (staged (stages.Ready source (frame past m))) (pending codec past n)) (pending codec past n)
  returned past m n k outcome source same_held out undecided is =
      ap (λ r. pending_of (not (eqb m n) && is_out past n) (is_decided past n) r (taken past) n) (ready_same (Decoding m outcome (Returned k)) past n refl same_held)
      ∙ returned_step (eqb m n) past m n source refl out undecided is

  -- ---- a decoding that decides its number

  gone_step : (b : Bool) (past : List (ReceiverCall S)) (n : ℕ) → pending_of (not b && is_out past n) (b || is_decided past n) (ready_source codec past n) (taken past) n ≡ cond b None (pending codec past n)
  gone_step true past n = refl
  gone_step false past n = refl

  pub gone : (call : ReceiverCall S) (past : List (ReceiverCall S)) (m n : ℕ) → taken (call ∷ past) ≡ taken past → held codec (call ∷ past) ≡ held codec past → is_out (call ∷ past) n ≡ (not (eqb m n) && is_out past n) → is_decided (call ∷ past) n ≡ (eqb m n || is_decided past n) → pending codec (call ∷ past) n ≡ cond (eqb m n) None (pending codec past n)
  gone call past m n a b c d =
      pending_equal (is_out (call ∷ past) n) (not (eqb m n) && is_out past n) (is_decided (call ∷ past) n) (eqb m n || is_decided past n) (ready_source codec (call ∷ past) n) (ready_source codec past n) (taken (call ∷ past)) (taken past) n c d (ready_same call past n a b) a
      ∙ gone_step (eqb m n) past n

  -- ---- a decoding whose state is held

  -- what was under no state is now under this one, or none
  new_under : (name : List ℕ) (k : StoredState S) (kept : List (StoredState S)) → state_among codec.initial name kept ≡ None → state_among codec.initial name (inserted k kept) ≡ cond (same k.name.0 name) (Some k.state) None
  new_under name k kept h = step (same name zero_name) h
    where
      map_step : (o : Option (StoredState S)) → option_map (λ (k : StoredState S). k.state) o ≡ None → o ≡ None
      map_step None h = refl
      map_step (Some x) h = absurd (cc)

      cond_step : (b : Bool) → option_map (λ (k : StoredState S). k.state) (cond b (Some k) None) ≡ cond b (Some k.state) None
      cond_step true = refl
      cond_step false = refl

      step : (b : Bool) → cond b (Some codec.initial) (option_map (λ (k : StoredState S). k.state) (with_name name kept)) ≡ None → cond b (Some codec.initial) (option_map (λ (k : StoredState S). k.state) (with_name name (inserted k kept))) ≡ cond (same k.name.0 name) (Some k.state) None
      step true h = absurd (cc)
      step false h = ap (λ o. option_map (λ (k : StoredState S). k.state) o) (named_placed name k kept (map_step (with_name name kept) h)) ∙ cond_step (same k.name.0 name)

  fed_whole : (b : Bool) (state : S) (n : ℕ) (source target bytes : List ℕ) → option_map (pending_as n source target) (stage_of false false (cond b (Some state) None) true bytes) ≡ Some (pending_as n source target (cond b (stages.Ready state bytes) (stages.Complete bytes)))
  fed_whole true state n source target bytes = refl
  fed_whole false state n source target bytes = refl

  fed_case : (out decided whole : Bool) (r found found' : Option S) (name : List ℕ) (state : S) (n : ℕ) (source target : List ℕ) (bytes : List ℕ) → (r ≡ None → cond whole found None ≡ None) → (found ≡ None → found' ≡ cond (same name source) (Some state) None)
      → option_map (pending_as n source target) (stage_of out decided (or_else r (cond whole found' None)) whole bytes) ≡ option_map (fed_one name state) (option_map (pending_as n source target) (stage_of out decided r whole bytes))
  fed_case true decided whole r found found' name state n source target bytes a b = refl
  fed_case false true whole r found found' name state n source target bytes a b = refl
  fed_case false false whole (Some s) found found' name state n source target bytes a b = refl
  fed_case false false false None found found' name state n source target bytes a b = refl
  fed_case false false true None found found' name state n source target bytes a b =
      ap (λ o. option_map (pending_as n source target) (stage_of false false o true bytes)) (b (a refl)) ∙ fed_whole (same name source) state n source target bytes

  fed_step : (b : Bool) (past : List (ReceiverCall S)) (m n : ℕ) (state : S) → pending_of (not b && is_out past n) (b || is_decided past n) (or_else (ready_source codec past n) (source_of (taken past) (inserted (kept_as codec m state) (held codec past)) n)) (taken past) n ≡ cond b None (option_map (fed_one (name_in codec state) state) (pending codec past n))
  fed_step true past m n state = refl
  fed_step false past m n state =
      let source = source_in (fragments_of n (taken past)) in
      fed_case (is_out past n) (is_decided past n) (is_complete (taken past) n) (ready_source codec past n) (state_among codec.initial source (held codec past)) (state_among codec.initial source (inserted (kept_as codec m state) (held codec past))) (name_in codec state) state n source (target_in (fragments_of n (taken past))) (frame_bytes (taken past) n)
      (settled_none past n) (new_under source (kept_as codec m state) (held codec past))

  pub fed_next : (call : ReceiverCall S) (past : List (ReceiverCall S)) (m n : ℕ) (state : S) → taken (call ∷ past) ≡ taken past → held codec (call ∷ past) ≡ inserted (kept_as codec m state) (held codec past) → is_out (call ∷ past) n ≡ (not (eqb m n) && is_out past n) → is_decided (call ∷ past) n ≡ (eqb m n || is_decided past n)
      → pending codec (call ∷ past) n ≡ cond (eqb m n) None (option_map (fed_one (name_in codec state) state) (pending codec past n))
  fed_next call past m n state a b c d =
      pending_equal (is_out (call ∷ past) n) (not (eqb m n) && is_out past n) (is_decided (call ∷ past) n) (eqb m n || is_decided past n) (ready_source codec (call ∷ past) n) (or_else (ready_source codec past n) (source_of (taken past) (inserted (kept_as codec m state) (held codec past)) n)) (taken (call ∷ past)) (taken past) n c d
      (ready_next call past n ∙ (ap (λ es. or_else (ready_source codec past n) (source_of es (held codec (call ∷ past)) n)) a ∙ ap (λ ks. or_else (ready_source codec past n) (source_of (taken past) ks n)) b))
      a
      ∙ fed_step (eqb m n) past m n state

  -- ---- a fragment that says nothing new of this number

  shrunk : (name : List ℕ) (floor : ℕ) (kept : List (StoredState S)) → state_among codec.initial name kept ≡ None → state_among codec.initial name (not_below floor kept) ≡ None
  shrunk name floor kept h = step (same name zero_name) h
    where
      map_step : (o : Option (StoredState S)) → option_map (λ (k : StoredState S). k.state) o ≡ None → o ≡ None
      map_step None h = refl
      map_step (Some x) h = absurd (cc)

      step : (b : Bool) → cond b (Some codec.initial) (option_map (λ (k : StoredState S). k.state) (with_name name kept)) ≡ None → cond b (Some codec.initial) (option_map (λ (k : StoredState S). k.state) (with_name name (not_below floor kept))) ≡ None
      step true h = absurd (cc)
      step false h = ap (λ o. option_map (λ (k : StoredState S). k.state) o) (named_from floor name kept (map_step (with_name name kept) h))

  left_case : (out decided all low high : Bool) (r found found' : Option S) (n floor : ℕ) (source target bytes : List ℕ) → leb floor n ≡ high → (high ≡ true → low ≡ true) → (r ≡ None → cond (low && all) found None ≡ None) → (found ≡ None → found' ≡ None)
      → option_map (pending_as n source target) (stage_of out decided (or_else r (cond (high && all) found' None)) (high && all) bytes) ≡ if_left floor (option_map (pending_as n source target) (stage_of out decided r (low && all) bytes))
  left_case true decided all low high r found found' n floor source target bytes e h a b = refl
  left_case false true all low high r found found' n floor source target bytes e h a b = refl
  left_case false false all low high (Some s) found found' n floor source target bytes e h a b = refl
  left_case false false true true true None found found' n floor source target bytes e h a b = rw (b (a refl), e) refl
  left_case false false true true false None found found' n floor source target bytes e h a b = rw e refl
  left_case false false true false true None found found' n floor source target bytes e h a b = absurd (let q : false ≡ true = h refl in cc)
  left_case false false true false false None found found' n floor source target bytes e h a b = refl
  left_case false false false true true None found found' n floor source target bytes e h a b = refl
  left_case false false false true false None found found' n floor source target bytes e h a b = refl
  left_case false false false false true None found found' n floor source target bytes e h a b = refl
  left_case false false false false false None found found' n floor source target bytes e h a b = refl

  -- the same of parts that may be other lists
  left_parts : (out decided : Bool) (r : Option S) (kept : List (StoredState S)) (old new : List FragmentFields) (n low high : ℕ) → IsSame new old → low ≤ high → (r ≡ None → cond (leb low n && has_all old) (state_among codec.initial (source_in old) kept) None ≡ None)
      → option_map (pending_as n (source_in new) (target_in new)) (stage_of out decided (or_else r (cond (leb high n && has_all new) (state_among codec.initial (source_in new) (not_below high kept)) None)) (leb high n && has_all new) (reassembled new))
      ≡ if_left high (option_map (pending_as n (source_in old) (target_in old)) (stage_of out decided r (leb low n && has_all old) (reassembled old)))
  left_parts out decided r kept old new n low high same_parts less h =
      rw (same_parts.source, same_parts.target, same_parts.all, same_parts.bytes)
      (left_case out decided (has_all old) (leb low n) (leb high n) r (state_among codec.initial (source_in old) kept) (state_among codec.initial (source_in old) (not_below high kept)) n high (source_in old) (target_in old) (reassembled old) refl
      (λ (q : leb high n ≡ true). le-leb low n (let a : high ≤ n = leb-true _ _ q in omega arith)) h (shrunk (source_in old) high kept))

  pub left_next : (call : ReceiverCall S) (past : List (ReceiverCall S)) (e : FragmentFields) (n : ℕ) → taken (call ∷ past) ≡ e ∷ taken past → held codec (call ∷ past) ≡ not_below (max e.floor (floor past)) (held codec past) → is_out (call ∷ past) n ≡ is_out past n → is_decided (call ∷ past) n ≡ is_decided past n → IsSame (fragments_of n (e ∷ taken past)) (fragments_of n (taken past))
      → pending codec (call ∷ past) n ≡ if_left (max e.floor (floor past)) (pending codec past n)
  left_next call past e n a b c d same_parts =
      pending_equal (is_out (call ∷ past) n) (is_out past n) (is_decided (call ∷ past) n) (is_decided past n) (ready_source codec (call ∷ past) n) (or_else (ready_source codec past n) (source_of (e ∷ taken past) (not_below (max e.floor (floor past)) (held codec past)) n)) (taken (call ∷ past)) (e ∷ taken past) n c d
      (ready_next call past n ∙ (ap (λ es. or_else (ready_source codec past n) (source_of es (held codec (call ∷ past)) n)) a ∙ ap (λ ks. or_else (ready_source codec past n) (source_of (e ∷ taken past) ks n)) b))
      a
      ∙ left_parts (is_out past n) (is_decided past n) (ready_source codec past n) (held codec past) (fragments_of n (taken past)) (fragments_of n (e ∷ taken past)) n (floor past) (max e.floor (floor past)) same_parts (omega arith) (settled_none past n)

  -- the floor leaves what it left before
  left_again : (out decided all low : Bool) (r : Option S) (n floor : ℕ) (source target bytes : List ℕ) → leb floor n ≡ low → option_map (pending_as n source target) (stage_of out decided r (low && all) bytes) ≡ if_left floor (option_map (pending_as n source target) (stage_of out decided r (low && all) bytes))
  left_again true decided all low r n floor source target bytes e = refl
  left_again false true all low r n floor source target bytes e = refl
  left_again false false all low (Some s) n floor source target bytes e = refl
  left_again false false true true None n floor source target bytes e = rw e refl
  left_again false false true false None n floor source target bytes e = refl
  left_again false false false true None n floor source target bytes e = refl
  left_again false false false false None n floor source target bytes e = refl

  pub left_same : (past : List (ReceiverCall S)) (n : ℕ) → pending codec past n ≡ if_left (floor past) (pending codec past n)
  left_same past n = left_again (is_out past n) (is_decided past n) (has_all (fragments_of n (taken past))) (leb (floor past) n) (ready_source codec past n) n (floor past) (source_in (fragments_of n (taken past))) (target_in (fragments_of n (taken past))) (frame_bytes (taken past) n) refl

  -- ---- a fragment of a number that wasn't complete

  new_case : (all : Bool) (found : Option S) (n : ℕ) (source target bytes : List ℕ) → option_map (pending_as n source target) (stage_of false false (cond all found None) all bytes) ≡ cond all (Some (pending_as n source target (new_stage found bytes))) None
  new_case true None n source target bytes = refl
  new_case true (Some s) n source target bytes = refl
  new_case false found n source target bytes = refl

  -- it is complete now, or it isn't
  pub new_next : (call : ReceiverCall S) (past : List (ReceiverCall S)) (e : FragmentFields) (n : ℕ) → taken (call ∷ past) ≡ e ∷ taken past → held codec (call ∷ past) ≡ not_below (max e.floor (floor past)) (held codec past) → is_out (call ∷ past) n ≡ false → is_decided (call ∷ past) n ≡ false → ready_source codec past n ≡ None
      → pending codec (call ∷ past) n ≡ cond (is_complete (e ∷ taken past) n) (Some (pending_as n (source_in (fragments_of n (e ∷ taken past))) (target_in (fragments_of n (e ∷ taken past))) (new_stage (state_among codec.initial (source_in (fragments_of n (e ∷ taken past))) (not_below (max e.floor (floor past)) (held codec past))) (frame_bytes (e ∷ taken past) n)))) None
  new_next call past e n a b c d r =
      pending_equal (is_out (call ∷ past) n) false (is_decided (call ∷ past) n) false (ready_source codec (call ∷ past) n) (source_of (e ∷ taken past) (not_below (max e.floor (floor past)) (held codec past)) n) (taken (call ∷ past)) (e ∷ taken past) n c d
      (ready_next call past n ∙ (ap (λ o. or_else o (source_of (taken (call ∷ past)) (held codec (call ∷ past)) n)) r ∙ (ap (λ es. source_of es (held codec (call ∷ past)) n) a ∙ ap (λ ks. source_of (e ∷ taken past) ks n) b)))
      a
      ∙ new_case (is_complete (e ∷ taken past) n) (state_among codec.initial (source_in (fragments_of n (e ∷ taken past))) (not_below (max e.floor (floor past)) (held codec past))) n (source_in (fragments_of n (e ∷ taken past))) (target_in (fragments_of n (e ∷ taken past))) (frame_bytes (e ∷ taken past) n)
