-- A receiver stands for a frame that it hands out.
use Rattle.std.proofs.Common.{◌≡◌, ℕ, suc, ◌<◌, ◌≤◌, Bool, true, false, cond, ◌&&◌, not, List, [], ◌∷◌, filter, map, Option, Some, None, is_some, IfSome, refl, ap, sym, ◌∙◌, subst, arith, eqb, ◌⊎◌, inl, inr}
use Rattle.std.proofs.lemmas.Bool.{eqb-true, eq-eqb, ne_eqb, cases_lt}
use Rattle.std.specs.Option.{option_map}
use Rattle.sal_base.specs.Lists.{Has}
use Rattle.sal_codec.specs.Coding.{Coding}
use Rattle.sal_wire.specs.Fields.{FragmentFields}
use Rattle.sal_reasm.specs.Complete.{is_complete}
use Rattle.sal_receiver.specs.declared.pending_frame.Stage.{Stage}
use Rattle.sal_receiver.specs.declared.pending_frame.Stage.TheVariants as stages
use Rattle.sal_receiver.specs.declared.pending_frame.PendingFrame.{PendingFrame}
use Rattle.sal_receiver.specs.declared.pending_frame.DecodeTask.{DecodeTask}
use Rattle.sal_receiver.specs.Past.{ReceiverCall, TakeReady, taken}
use Rattle.sal_receiver.specs.Ready.{ready_source, frame, source_name, target_name, is_ready, is_out, is_decided, least, ready_answer}
use Rattle.sal_receiver.specs.Handed.{HandedFrame, IsReadyFrame, number_of, handed_as}
use Rattle.sal_receiver.specs.Pending.{at, frame_unshared, first_ready, is_ready_stage, handed_out, out_first, task_in, Rises}
use Rattle.sal_receiver.specs.Machine.{ReceiverState, ReceiverStands, pending, pending_as, stage_of}
use Rattle.sal_receiver.proofs.BookLemmas.{book}
use Rattle.sal_receiver.proofs.FrameLemmas.{staged, at_below}
use Rattle.sal_receiver.proofs.LeastLemmas.{least_is, none_is, filter_has, has_filter}
use Rattle.sal_receiver.proofs.Lasting.{took, quiet}
use Rattle.sal_receiver.proofs.Was.{ready_taken, waits_parts}
use Rattle.sal_receiver.proofs.SeenLemmas.{task_handed, task_seen, first_seen, out_seen}
use Rattle.std.specs.declared.sync.Arc.{Arc}
use Rattle.sal_receiver.proofs.Standing.{stands_calm}

-- whether what is there waits
abbrev pub waits_at : {T : Type 0} → Option (PendingFrame T) → Bool
waits_at None = false
waits_at (Some p) = is_ready_stage p.stage

module _ {T : Type 0} where
  -- the first that waits is there, and no other that waits is lower
  first_step : (b : Bool) (x p : PendingFrame T) (xs : List (PendingFrame T)) (o : Option (PendingFrame T)) → is_ready_stage x.stage ≡ b → cond b (Some x) o ≡ Some p → (o ≡ Some p → at p.number xs ≡ Some p) → (o ≡ Some p → suc x.number ≤ p.number) → cond (eqb x.number p.number) (Some x) (at p.number xs) ≡ Some p
  first_step true x p xs o e h more low =
      let same : x ≡ p = cc in
      subst (λ (q : PendingFrame T). cond (eqb x.number q.number) (Some x) (at q.number xs) ≡ Some q) same (here (eqb x.number x.number) (eq-eqb x.number x.number refl))
    where
      here : (b : Bool) → b ≡ true → cond b (Some x) (at x.number xs) ≡ Some x
      here true e = refl
      here false e = absurd (cc)
  first_step false x p xs o e h more low =
      let above : suc x.number ≤ p.number = low h in
      rw (ne_eqb x.number p.number (λ (q : x.number ≡ p.number). omega arith)) (more h)

  low_step : (b : Bool) (least : ℕ) (x p : PendingFrame T) (o : Option (PendingFrame T)) → least ≤ x.number → cond b (Some x) o ≡ Some p → (o ≡ Some p → suc x.number ≤ p.number) → least ≤ p.number
  low_step true least x p o low h more = let same : x ≡ p = cc in subst (λ (q : PendingFrame T). least ≤ q.number) same low
  low_step false least x p o low h more = let a : suc x.number ≤ p.number = more h in omega arith

  first_low : (least : ℕ) (p : PendingFrame T) (xs : List (PendingFrame T)) → Rises least xs → first_ready xs ≡ Some p → least ≤ p.number
  first_low least p [] r h = absurd (cc)
  first_low least p (x ∷ xs) r h = low_step (is_ready_stage x.stage) least x p (first_ready xs) r.0 h (first_low (suc x.number) p xs r.1)

  pub first_at : (least : ℕ) (p : PendingFrame T) (xs : List (PendingFrame T)) → Rises least xs → first_ready xs ≡ Some p → at p.number xs ≡ Some p
  first_at least p [] r h = absurd (cc)
  first_at least p (x ∷ xs) r h = first_step (is_ready_stage x.stage) x p xs (first_ready xs) refl h (first_at (suc x.number) p xs r.1) (first_low (suc x.number) p xs r.1)

  waiting_step : (b : Bool) (x p : PendingFrame T) (o : Option (PendingFrame T)) → is_ready_stage x.stage ≡ b → cond b (Some x) o ≡ Some p → (o ≡ Some p → is_ready_stage p.stage ≡ true) → is_ready_stage p.stage ≡ true
  waiting_step true x p o e h more = let same : x ≡ p = cc in subst (λ (q : PendingFrame T). is_ready_stage q.stage ≡ true) same e
  waiting_step false x p o e h more = more h

  pub first_waits : (p : PendingFrame T) (xs : List (PendingFrame T)) → first_ready xs ≡ Some p → is_ready_stage p.stage ≡ true
  first_waits p [] h = absurd (cc)
  first_waits p (x ∷ xs) h = waiting_step (is_ready_stage x.stage) x p (first_ready xs) refl h (first_waits p xs)

  least_step : (b here : Bool) (n : ℕ) (x p : PendingFrame T) (xs : List (PendingFrame T)) (o : Option (PendingFrame T)) → is_ready_stage x.stage ≡ b → eqb x.number n ≡ here → cond b (Some x) o ≡ Some p → waits_at (cond here (Some x) (at n xs)) ≡ true → (n < suc x.number → at n xs ≡ None) → (o ≡ Some p → waits_at (at n xs) ≡ true → p.number ≤ n) → p.number ≤ n
  least_step true true n x p xs o e i h w below more = let same : x ≡ p = cc in subst (λ (q : PendingFrame T). q.number ≤ n) same (let a : x.number ≡ n = eqb-true _ _ i in omega arith)
  least_step true false n x p xs o e i h w below more =
      let same : x ≡ p = cc in
      subst (λ (q : PendingFrame T). q.number ≤ n) same (high (cases_lt n (suc x.number)))
    where
      high : (n < suc x.number) ⊎ (suc x.number ≤ n) → x.number ≤ n
      high (inl less) = absurd (let z : waits_at (at n xs) ≡ false = ap (λ (o : Option (PendingFrame T)). waits_at o) (below less) in (let q : true ≡ false = sym w ∙ z in cc))
      high (inr over) = omega arith
  least_step false true n x p xs o e i h w below more = absurd (let q : true ≡ false = sym w ∙ e in cc)
  least_step false false n x p xs o e i h w below more = more h w

  pub first_least : (least n : ℕ) (p : PendingFrame T) (xs : List (PendingFrame T)) → Rises least xs → first_ready xs ≡ Some p → waits_at (at n xs) ≡ true → p.number ≤ n
  first_least least n p [] r h w = absurd (cc)
  first_least least n p (x ∷ xs) r h w =
      least_step (is_ready_stage x.stage) (eqb x.number n) n x p xs (first_ready xs) refl refl h w (λ (q : n < suc x.number). at_below n (suc x.number) xs q r.1) (first_least (suc x.number) n p xs r.1)

  none_step : (b here : Bool) (n : ℕ) (x : PendingFrame T) (xs : List (PendingFrame T)) (o : Option (PendingFrame T)) → is_ready_stage x.stage ≡ b → cond b (Some x) o ≡ None → (o ≡ None → waits_at (at n xs) ≡ false) → waits_at (cond here (Some x) (at n xs)) ≡ false
  none_step true here n x xs o e h more = absurd (cc)
  none_step false true n x xs o e h more = e
  none_step false false n x xs o e h more = more h

  pub first_none : (n : ℕ) (xs : List (PendingFrame T)) → first_ready xs ≡ None → waits_at (at n xs) ≡ false
  first_none n [] h = refl
  first_none n (x ∷ xs) h = none_step (is_ready_stage x.stage) (eqb x.number n) n x xs (first_ready xs) refl h (first_none n xs)

  out_stage : (x : PendingFrame T) → is_ready_stage x.stage ≡ true → handed_out x ≡ staged stages.Decoding x
  out_stage x w = step x.stage w
    where
      step : (stage : Stage T) → is_ready_stage stage ≡ true → handed_out (record x { stage = stage }) ≡ staged stages.Decoding (record x { stage = stage })
      step (stages.Complete bytes) w = absurd (cc)
      step (stages.Ready source bytes) w = refl
      step stages.Decoding w = absurd (cc)

  out_step : (b here : Bool) (n : ℕ) (x p : PendingFrame T) (xs : List (PendingFrame T)) (o : Option (PendingFrame T)) → is_ready_stage x.stage ≡ b → eqb x.number n ≡ here → cond b (Some x) o ≡ Some p → (o ≡ Some p → suc x.number ≤ p.number) → (o ≡ Some p → at n (out_first xs) ≡ cond (eqb p.number n) (option_map (staged stages.Decoding) (at n xs)) (at n xs))
      → at n (cond b (handed_out x ∷ xs) (x ∷ out_first xs)) ≡ cond (eqb p.number n) (option_map (staged stages.Decoding) (cond here (Some x) (at n xs))) (cond here (Some x) (at n xs))
  out_step true true n x p xs o e i h low more =
      let same : x ≡ p = cc in
      subst (λ (q : PendingFrame T). cond (eqb x.number n) (Some (handed_out x)) (at n xs) ≡ cond (eqb q.number n) (Some (staged stages.Decoding x)) (Some x)) same (rw i (ap (λ (q : PendingFrame T). Some q) (out_stage x e)))
  out_step true false n x p xs o e i h low more =
      let same : x ≡ p = cc in
      subst (λ (q : PendingFrame T). cond (eqb x.number n) (Some (handed_out x)) (at n xs) ≡ cond (eqb q.number n) (option_map (staged stages.Decoding) (at n xs)) (at n xs)) same (rw i refl)
  out_step false true n x p xs o e i h low more =
      let above : suc x.number ≤ p.number = low h in
      let is : x.number ≡ n = eqb-true _ _ i in
      rw (i, ne_eqb p.number n (λ (q : p.number ≡ n). omega arith)) refl
  out_step false false n x p xs o e i h low more = rw i (more h)

  pub at_out : (least n : ℕ) (p : PendingFrame T) (xs : List (PendingFrame T)) → Rises least xs → first_ready xs ≡ Some p → at n (out_first xs) ≡ cond (eqb p.number n) (option_map (staged stages.Decoding) (at n xs)) (at n xs)
  at_out least n p [] r h = absurd (cc)
  at_out least n p (x ∷ xs) r h = out_step (is_ready_stage x.stage) (eqb x.number n) n x p xs (first_ready xs) refl refl h (first_low (suc x.number) p xs r.1) (at_out (suc x.number) n p xs r.1)

  rises_step : (b : Bool) (least : ℕ) (x : PendingFrame T) (xs : List (PendingFrame T)) → Rises least (x ∷ xs) → Rises (suc x.number) (out_first xs) → Rises least (cond b (handed_out x ∷ xs) (x ∷ out_first xs))
  rises_step true least x xs r h = r
  rises_step false least x xs r h = (r.0, h)

  pub rises_out : (least : ℕ) (xs : List (PendingFrame T)) → Rises least xs → Rises least (out_first xs)
  rises_out least [] r = tt
  rises_out least (x ∷ xs) r = rises_step (is_ready_stage x.stage) least x xs r (rises_out (suc x.number) xs r.1)

  same_step : (b : Bool) (x : PendingFrame T) (xs : List (PendingFrame T)) (o : Option (PendingFrame T)) → cond b (Some x) o ≡ None → (o ≡ None → out_first xs ≡ xs) → cond b (handed_out x ∷ xs) (x ∷ out_first xs) ≡ x ∷ xs
  same_step true x xs o h more = absurd (cc)
  same_step false x xs o h more = ap (λ (ys : List (PendingFrame T)). x ∷ ys) (more h)

  pub out_same : (xs : List (PendingFrame T)) → first_ready xs ≡ None → out_first xs ≡ xs
  out_same [] h = refl
  out_same (x ∷ xs) h = same_step (is_ready_stage x.stage) x xs (first_ready xs) h (out_same xs)

module _ {S : Type 0} (codec : Coding S) where
  -- what waits by the calls is what waits in the list
  waits_case : (out decided complete : Bool) (r : Option S) (n : ℕ) (source target bytes : List ℕ) → waits_at (option_map (pending_as n source target) (stage_of out decided r complete bytes)) ≡ (is_some r && not out && not decided)
  waits_case true decided complete None n source target bytes = refl
  waits_case true decided complete (Some s) n source target bytes = refl
  waits_case false true complete None n source target bytes = refl
  waits_case false true complete (Some s) n source target bytes = refl
  waits_case false false true None n source target bytes = refl
  waits_case false false false None n source target bytes = refl
  waits_case false false complete (Some s) n source target bytes = refl

  pub waits_is : (past : List (ReceiverCall S)) (n : ℕ) → waits_at (pending codec past n) ≡ is_ready codec past n
  waits_is past n = waits_case (is_out past n) (is_decided past n) (is_complete (taken past) n) (ready_source codec past n) n (source_name past n) (target_name past n) (frame past n)

  -- what is handed out is the frame of its number
  record IsGiven (past : List (ReceiverCall S)) (t : DecodeTask S) : Type 0 where
    source : ready_source codec past t.number ≡ Some t.source
    target : target_name past t.number ≡ t.target.0
    bytes : frame past t.number ≡ t.bytes

  number_case : (out decided complete : Bool) (r : Option S) (n : ℕ) (source target bytes : List ℕ) (p : PendingFrame S) → option_map (pending_as n source target) (stage_of out decided r complete bytes) ≡ Some p → p.number ≡ n
  number_case true decided complete r n source target bytes p h = cc
  number_case false true complete r n source target bytes p h = absurd (cc)
  number_case false false complete (Some s) n source target bytes p h = cc
  number_case false false true None n source target bytes p h = cc
  number_case false false false None n source target bytes p h = absurd (cc)

  at_number : (past : List (ReceiverCall S)) (n : ℕ) (p : PendingFrame S) → pending codec past n ≡ Some p → p.number ≡ n
  at_number past n p h = number_case (is_out past n) (is_decided past n) (is_complete (taken past) n) (ready_source codec past n) n (source_name past n) (target_name past n) (frame past n) p h

  -- the frame that waits, and what is handed out of it
  given_case : (out decided complete : Bool) (r : Option S) (n : ℕ) (source target bytes : List ℕ) (p : PendingFrame S) → option_map (pending_as n source target) (stage_of out decided r complete bytes) ≡ Some p → is_ready_stage p.stage ≡ true → (h : S) × (r ≡ Some h) × (task_in (Some p) ≡ Some (record { number = n; target = record { 0 = target }; source = h; bytes = bytes }))
  given_case true decided complete r n source target bytes p e w = absurd (let q : p ≡ pending_as n source target stages.Decoding = cc in let z : is_ready_stage p.stage ≡ false = ap (λ (x : PendingFrame S). is_ready_stage x.stage) q in (let y : true ≡ false = sym w ∙ z in cc))
  given_case false true complete r n source target bytes p e w = absurd (cc)
  given_case false false complete (Some s) n source target bytes p e w =
      let q : pending_as n source target (stages.Ready s bytes) ≡ p = cc in
      (s, refl, sym (ap (λ (x : PendingFrame S). task_in (Some x)) q))
  given_case false false true None n source target bytes p e w = absurd (let q : p ≡ pending_as n source target (stages.Complete bytes) = cc in let z : is_ready_stage p.stage ≡ false = ap (λ (x : PendingFrame S). is_ready_stage x.stage) q in (let y : true ≡ false = sym w ∙ z in cc))
  given_case false false false None n source target bytes p e w = absurd (cc)

  some_waits : (past : List (ReceiverCall S)) (n : ℕ) → is_ready codec past n ≡ true → Has (map (λ (e : FragmentFields). e.number) (taken past)) n
  some_waits past n w = ready_taken codec past n (waits_parts codec (is_some (ready_source codec past n)) (is_out past n) (is_decided past n) w).0

  -- the least that waits by the calls is the first that waits in the list
  answer_some : (r : ReceiverState S) (past : List (ReceiverCall S)) (p : PendingFrame S) → ReceiverStands codec r past → first_ready r.frames ≡ Some p → Some p.number ≡ ready_answer codec past
  answer_some r past p s h =
      let there : at p.number r.frames ≡ Some p = first_at 0 p r.frames s.order h in
      let w : is_ready codec past p.number ≡ true = sym (waits_is past p.number) ∙ (ap (λ o. waits_at o) (sym (s.frames p.number) ∙ there) ∙ first_waits p r.frames h) in
      sym (least_is (filter (is_ready codec past) (map (λ (e : FragmentFields). e.number) (taken past))) p.number
      (has_filter (is_ready codec past) (map (λ (e : FragmentFields). e.number) (taken past)) p.number w (some_waits past p.number w))
      (λ k has. first_least 0 k p r.frames s.order h (ap (λ o. waits_at o) (s.frames k) ∙ (waits_is past k ∙ (filter_has (is_ready codec past) (map (λ (e : FragmentFields). e.number) (taken past)) k has).0))))

  answer_none : (r : ReceiverState S) (past : List (ReceiverCall S)) → ReceiverStands codec r past → first_ready r.frames ≡ None → None ≡ ready_answer codec past
  answer_none r past s h =
      sym (none_is (filter (is_ready codec past) (map (λ (e : FragmentFields). e.number) (taken past)))
      (λ k has.
      let yes : is_ready codec past k ≡ true = (filter_has (is_ready codec past) (map (λ (e : FragmentFields). e.number) (taken past)) k has).0 in
      let no : is_ready codec past k ≡ false = sym (waits_is past k) ∙ (ap (λ o. waits_at o) (sym (s.frames k)) ∙ first_none k r.frames h) in
      absurd (let q : true ≡ false = sym yes ∙ no in cc)))

  -- the receiver after a frame was handed out
  abbrev pub after_take : ReceiverState S → ReceiverState S
  after_take r = book r.known r.slots r.store (out_first r.frames) r.last

  some_stands : (r : ReceiverState S) (past : List (ReceiverCall S)) (p : PendingFrame S) → ReceiverStands codec r past → first_ready r.frames ≡ Some p → ReceiverStands codec (after_take r) (TakeReady (Some p.number) ∷ past)
  some_stands r past p s h =
      let answer : Some p.number ≡ ready_answer codec past = answer_some r past p s h in
      let there : at p.number r.frames ≡ Some p = first_at 0 p r.frames s.order h in
      let w : is_ready codec past p.number ≡ true = sym (waits_is past p.number) ∙ (ap (λ o. waits_at o) (sym (s.frames p.number) ∙ there) ∙ first_waits p r.frames h) in
      stands_calm codec r (out_first r.frames) r.store.kept r.last (TakeReady (Some p.number)) past s answer refl refl refl refl refl s.kept s.last (rises_out 0 r.frames s.order)
      (λ n. at_out 0 n p r.frames s.order h ∙ (ap (λ o. cond (eqb p.number n) (option_map (staged stages.Decoding) o) o) (s.frames n) ∙ sym (took codec past p.number n w)))

  none_stands : (r : ReceiverState S) (past : List (ReceiverCall S)) → ReceiverStands codec r past → first_ready r.frames ≡ None → ReceiverStands codec (after_take r) (TakeReady None ∷ past)
  none_stands r past s h =
      stands_calm codec r (out_first r.frames) r.store.kept r.last (TakeReady None) past s (answer_none r past s h) refl refl refl refl refl s.kept s.last (rises_out 0 r.frames s.order)
      (λ n. ap (λ xs. at n xs) (out_same r.frames h) ∙ (s.frames n ∙ sym (quiet codec (TakeReady None) past n refl refl refl refl)))

  -- what was handed out, seen as what the calls say of it
  task_case : (r : ReceiverState S) (past : List (ReceiverCall S)) (p : PendingFrame S) → ReceiverStands codec r past → first_ready r.frames ≡ Some p → (h : S) × (ready_source codec past p.number ≡ Some h) × (task_in (Some p) ≡ Some (record { number = p.number; target = record { 0 = target_name past p.number }; source = h; bytes = frame past p.number }))
  task_case r past p s h =
      given_case (is_out past p.number) (is_decided past p.number) (is_complete (taken past) p.number) (ready_source codec past p.number) p.number (source_name past p.number) (target_name past p.number) (frame past p.number) p
      (sym (s.frames p.number) ∙ first_at 0 p r.frames s.order h) (first_waits p r.frames h)

  pub record IsTaking (r : ReceiverState S) (past : List (ReceiverCall S)) (given : Option (HandedFrame S)) : Type 0 where
    pub answer : option_map number_of given ≡ ready_answer codec past
    pub stands : ReceiverStands codec (after_take r) (TakeReady (option_map number_of given) ∷ past)
    pub frame_is : IfSome given (IsReadyFrame codec past)

  take_step : (r : ReceiverState S) (past : List (ReceiverCall S)) (o : Option (PendingFrame S)) → ReceiverStands codec r past → first_ready r.frames ≡ o → IsTaking r past (option_map task_handed (task_in o))
  take_step r past None s h = record { answer = answer_none r past s h; stands = none_stands r past s h; frame_is = tt }
  take_step r past (Some p) s h =
      let given = task_case r past p s h in
      subst (λ (o : Option (DecodeTask S)). IsTaking r past (option_map task_handed o)) (sym given.2)
      (record {
        answer = answer_some r past p s h;
        stands = some_stands r past p s h;
        frame_is = record { target = refl; source = given.1; bytes = refl };
      })

  -- whatever is handed out, the receiver stands for it
  pub taking : (r : ReceiverState S) (past : List (ReceiverCall S)) → ReceiverStands codec r past → IsTaking r past (option_map task_handed (task_in (first_ready r.frames)))
  taking r past s = take_step r past (first_ready r.frames) s refl

  pub take_is : {Z : Type 0} (r : ReceiverState S) (known : Rattle.sal_receiver.specs.declared.session_state.SessionState.SessionState) (slots : Rattle.sal_reasm.specs.SlotTable.SlotTable) (store : Rattle.sal_chain.specs.StateTable.StateTable S) (items new : List (PendingFrame (Arc S Z))) (last : ℕ) (past : List (ReceiverCall S)) (task : Option (DecodeTask (Arc S Z))) (result : Option (HandedFrame S)) → book known slots store (map frame_unshared items) last ≡ r → ReceiverStands codec r past → task ≡ task_in (first_ready items) → new ≡ out_first items → result ≡ option_map handed_as task
      → ((option_map number_of result ≡ ready_answer codec past) × ReceiverStands codec (book known slots store (map frame_unshared new) last) (TakeReady (option_map number_of result) ∷ past)) × IfSome result (IsReadyFrame codec past)
  take_is r known slots store items new last past task result view s a b c =
      let given : result ≡ option_map task_handed (task_in (first_ready (map frame_unshared items))) =
      c ∙ (ap (λ o. option_map handed_as o) a ∙ (task_seen (first_ready items) ∙ ap (λ o. option_map task_handed (task_in o)) (sym (first_seen items)))) in
      let is : IsTaking (book known slots store (map frame_unshared items) last) past result =
      subst (λ (o : Option (HandedFrame S)). IsTaking (book known slots store (map frame_unshared items) last) past o) (sym given) (taking (book known slots store (map frame_unshared items) last) past (subst (λ (b : ReceiverState S). ReceiverStands codec b past) (sym view) s)) in (
        (
          is.answer,
          subst (λ (xs : List (PendingFrame S)). ReceiverStands codec (book known slots store xs last) (TakeReady (option_map number_of result) ∷ past)) (sym (ap (λ xs. map frame_unshared xs) b ∙ out_seen items)) is.stands,
        ),
        is.frame_is,
      )

  no_task : {Z : Type 0} (task : Option (DecodeTask (Arc S Z))) (result : Option (HandedFrame S)) → result ≡ option_map handed_as task → result ≡ None → task ≡ None
  no_task None result is none = refl
  no_task (Some task) result is none = absurd cc

  -- where none was handed out, all is as it was
  pub none_taken : {Z : Type 0} (r : ReceiverState S) (known : Rattle.sal_receiver.specs.declared.session_state.SessionState.SessionState) (slots : Rattle.sal_reasm.specs.SlotTable.SlotTable) (store : Rattle.sal_chain.specs.StateTable.StateTable S) (items new : List (PendingFrame (Arc S Z))) (last : ℕ) (task : Option (DecodeTask (Arc S Z))) (result : Option (HandedFrame S)) → book known slots store (map frame_unshared items) last ≡ r
      → (task ≡ None → new ≡ items) → result ≡ option_map handed_as task → result ≡ None → book known slots store (map frame_unshared new) last ≡ r
  none_taken r known slots store items new last task result view same is none =
      ap (λ xs. book known slots store (map frame_unshared xs) last) (same (no_task task result is none)) ∙ view

  -- what was handed out is the frame of its number after that call too
  pub frame_handed : (past : List (ReceiverCall S)) (answer : Option ℕ) (h : HandedFrame S) → IsReadyFrame codec past h → IsReadyFrame codec (TakeReady answer ∷ past) h
  frame_handed past answer h is = record { target = is.target; source = Rattle.sal_receiver.proofs.Lasting.ready_same codec (TakeReady answer) past h.number refl refl ∙ is.source; bytes = is.bytes }
