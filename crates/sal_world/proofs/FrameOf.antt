-- A frame that becomes ready is that of its number, from the state of its source.
use Rattle.std.proofs.Common.{◌≡◌, ◌≢◌, ℕ, Bool, true, false, cond, ◌&&◌, List, [], ◌∷◌, Option, Some, None, refl, ap, sym, ◌∙◌, subst, arith, eqb, leb}
use Rattle.std.proofs.lemmas.Bool.{eqb-true, ne_eqb, and_parts}
use Rattle.std.specs.Option.{option_map}
use Rattle.sal_base.specs.Lists.{Has, Each}
use Rattle.sal_base.specs.Names.{same}
use Rattle.sal_base.specs.declared.picture.Picture.{Picture}
use Rattle.sal_codec.specs.Coding.{Coding, name_of, IsLawful}
use Rattle.sal_wire.specs.Fields.{FragmentFields}
use Rattle.sal_reasm.specs.Complete.{floor_of, fragments_of, has_all}
use Rattle.sal_reasm.specs.Offer.{or_else}
use Rattle.sal_chain.specs.declared.stored_state.StoredState.{StoredState}
use Rattle.sal_chain.specs.Held.{with_name, not_below}
use Rattle.sal_sender.specs.declared.choice.Choice.{Choice}
use Rattle.sal_sender.specs.Past.{choices, pictures}
use Rattle.sal_chain.specs.Held.{name_in}
use Rattle.sal_sender.specs.Chain.{target_of, made_at, state_at}
use Rattle.sal_sender.specs.OneThread.{Session}
use Rattle.sal_sender.specs.Sound.{AreChained}
use Rattle.sal_sender.proofs.Thread.{find_has, find_true}
use Rattle.sal_receiver.specs.Past.{ReceiverCall, taken, floor}
use Rattle.sal_receiver.specs.Held.{zero_name, decoded, held, held_under}
use Rattle.sal_receiver.specs.Ready.{ready_source, source_now, source_name}
use Rattle.sal_world.specs.World.{WorldPast}
use Rattle.sal_world.specs.Promises.{choice_at, NamesDifferIn}
use Rattle.sal_world.specs.Invariant.{fragments, IsStateOfNumber, IsFrameOfNumber}
use Rattle.sal_world.proofs.Numbers.{IsSent, IsPiece, sent_piece}
use Rattle.sal_world.proofs.Given.{IsGiven, number_sent}
use Rattle.sal_world.proofs.Whole.{Says, all_joined, all_source, all_target, each_part, all_one}
use Rattle.sal_world.proofs.Ordered.{each_order, each_from}
use Rattle.sal_world.proofs.ListLemmas.{each_has, each_map, some_same}

same_true : (xs ys : List ℕ) → same xs ys ≡ true → xs ≡ ys
same_true [] [] e = refl
same_true [] (y ∷ ys) e = absurd (cc)
same_true (x ∷ xs) [] e = absurd (cc)
same_true (x ∷ xs) (y ∷ ys) e =
    let both = and_parts (eqb x y) (same xs ys) e in
    let a : x ≡ y = eqb-true _ _ both.0 in
    let b : xs ≡ ys = same_true xs ys both.1 in
    cc

second : {X : Type 0} (b : Bool) (x y : X) → b ≡ false → (elim b as (λ c. X) [ true ↦ x | false ↦ y ]) ≡ y
second true x y h = absurd (cc)
second false x y h = refl

module _ {S : Type 0} (codec : Coding S) where
  zero_none : (shot : List Picture) (chosen : List Choice) → AreChained chosen → made_at codec shot chosen 0 ≡ None
  unfolding made_at
  zero_none shot [] chained = refl
  zero_none shot (choice ∷ older) chained =
      let other : 0 ≢ choice.number = (λ (e : 0 ≡ choice.number). omega (arith, chained.0.number)) in
      second (eqb 0 choice.number) _ _ (ne_eqb 0 choice.number other) ∙ zero_none shot older chained.1

  zero_is : IsLawful codec → zero_name ≡ name_in codec codec.initial
  zero_is law = sym (ap name_of law.initial_digest)

module _ {S : Type 0} (codec : Coding S) (session : Session) where
  abbrev pub Given : WorldPast S → Type 0
  Given w = IsGiven codec session (pictures w.sender) (choices w.sender)

  -- what is held under a number's name is its state
  under_step : (w : WorldPast S) (m : ℕ) (name : List ℕ) (source : S) (b : Bool) (o : Option (StoredState S)) → Given w → NamesDifferIn codec w → Each (IsStateOfNumber codec session w.sender w.receiver) (held codec w.receiver) → name ≡ name_in codec (state_at codec w.sender m) → same name zero_name ≡ b → with_name name (held codec w.receiver) ≡ o → cond b (Some codec.initial) (option_map (λ (k : StoredState S). k.state) o) ≡ Some source → source ≡ state_at codec w.sender m
  under_step w m name source true o g names each own is there h =
      let first : state_at codec w.sender 0 ≡ codec.initial = ap (target_of codec) (zero_none codec (pictures w.sender) (choices w.sender) g.chained) in
      let zero : name ≡ zero_name = same_true _ _ is in
      let alike : name_in codec (state_at codec w.sender 0) ≡ name_in codec (state_at codec w.sender m) = ap (name_in codec) first ∙ (sym (zero_is codec g.law) ∙ (sym zero ∙ own)) in
      sym (some_same codec.initial source h) ∙ (sym first ∙ names 0 m alike)
  under_step w m name source false None g names each own is there h = absurd (cc)
  under_step w m name source false (Some k) g names each own is there h =
      let has : Has (held codec w.receiver) k = find_has (λ (x : StoredState S). same x.name.0 name) (held codec w.receiver) k there in
      let its : same k.name.0 name ≡ true = find_true (λ (x : StoredState S). same x.name.0 name) (held codec w.receiver) k there in
      let of : IsStateOfNumber codec session w.sender w.receiver k = each_has (IsStateOfNumber codec session w.sender w.receiver) (held codec w.receiver) k each has in
      let alike : name_in codec (state_at codec w.sender k.number) ≡ name_in codec (state_at codec w.sender m) = ap (name_in codec) (sym of.state) ∙ (sym of.name ∙ (same_true _ _ its ∙ own)) in
      sym (some_same k.state source h) ∙ (of.state ∙ names k.number m alike)

  under_is : (w : WorldPast S) (m : ℕ) (name : List ℕ) (source : S) → Given w → NamesDifferIn codec w → Each (IsStateOfNumber codec session w.sender w.receiver) (decoded codec w.receiver) → name ≡ name_in codec (state_at codec w.sender m) → held_under codec w.receiver name ≡ Some source → source ≡ state_at codec w.sender m
  under_is w m name source g names each own h =
      under_step w m name source (same name zero_name) (with_name name (held codec w.receiver)) g names
      (each_order (IsStateOfNumber codec session w.sender w.receiver) (not_below (floor w.receiver) (decoded codec w.receiver)) (each_from (IsStateOfNumber codec session w.sender w.receiver) (floor w.receiver) (decoded codec w.receiver) each)) own refl refl h

  abbrev pub SaysOf : (w : WorldPast S) (n : ℕ) → IsSent codec session (pictures w.sender) (choices w.sender) n → FragmentFields → Type 0
  SaysOf w n sent e = Says (name_in codec (state_at codec w.sender sent.choice.source)) (name_in codec sent.made.target) sent.made.bytes e

  -- a fragment that was sent says what its number's frame is
  pub says_of : (w : WorldPast S) (n : ℕ) (sent : IsSent codec session (pictures w.sender) (choices w.sender) n) (e : FragmentFields) → Given w → Has (fragments codec session w.sender) e → e.number ≡ n → SaysOf w n sent e
  says_of w n sent e g has own =
      let p : IsPiece codec session (pictures w.sender) (choices w.sender) e = sent_piece codec session (pictures w.sender) (choices w.sender) g.chained e has in
      let choice : p.choice ≡ sent.choice = some_same p.choice sent.choice (sym p.found ∙ (ap (λ k. choice_at (choices w.sender) k) own ∙ sent.found)) in
      let made : p.made ≡ sent.made = some_same p.made sent.made (sym p.is_made ∙ (ap (λ k. made_at codec (pictures w.sender) (choices w.sender) k) own ∙ sent.is_made)) in
      record {
        source_is = p.source ∙ ap (λ (c : Choice). name_in codec (state_at codec w.sender c.source)) choice;
        target_is = p.target ∙ ap (λ m. name_in codec m.target) made;
        count_is = p.count ∙ ap (λ m. Rattle.sal_wire.specs.Fragmentation.fragment_count m.bytes) made;
        bytes_are = p.bytes ∙ ap (λ m. Rattle.sal_wire.specs.Fragmentation.fragment_data m.bytes e.index) made;
      }

  pub parts_say : (w : WorldPast S) (n : ℕ) (sent : IsSent codec session (pictures w.sender) (choices w.sender) n) (es : List FragmentFields) → Given w → Each (Has (fragments codec session w.sender)) es → Each (SaysOf w n sent) (fragments_of n es)
  parts_say w n sent es g each = each_part (SaysOf w n sent) n es (each_map (Has (fragments codec session w.sender)) (λ e. e.number ≡ n → SaysOf w n sent e) (λ e has own. says_of w n sent e g has own) es each)

  -- a frame of which all fragments were taken was sent
  pub whole_sent : (w : WorldPast S) (n : ℕ) → Given w → Each (Has (fragments codec session w.sender)) (taken w.receiver) → has_all (fragments_of n (taken w.receiver)) ≡ true → IsSent codec session (pictures w.sender) (choices w.sender) n
  whole_sent w n g parts all =
      let one : (e : FragmentFields) × Has (taken w.receiver) e × (e.number ≡ n) = all_one n (taken w.receiver) all in
      let p : IsPiece codec session (pictures w.sender) (choices w.sender) one.0 = sent_piece codec session (pictures w.sender) (choices w.sender) g.chained one.0 (each_has (Has (fragments codec session w.sender)) (taken w.receiver) one.0 parts one.1) in
      let own : one.0.number ≡ n = one.2 in
      number_sent codec session (pictures w.sender) (choices w.sender) g n (omega (arith, p.some, own)) (omega (arith, p.among, own))

  -- it is the number's frame, from the state of its source
  pub frame_of_whole : (w : WorldPast S) (n : ℕ) (source : S) → Given w → Each (Has (fragments codec session w.sender)) (taken w.receiver) → has_all (fragments_of n (taken w.receiver)) ≡ true → ((sent : IsSent codec session (pictures w.sender) (choices w.sender) n) → source ≡ state_at codec w.sender sent.choice.source) → IsFrameOfNumber codec session w.sender w.receiver n source
  frame_of_whole w n source g parts all from =
      let sent : IsSent codec session (pictures w.sender) (choices w.sender) n = whole_sent w n g parts all in
      let say = parts_say w n sent (taken w.receiver) g parts in
      record {
        choice = sent.choice;
        chosen = sent.found;
        from_source = from sent;
        made = sent.made;
        is_made = sent.is_made;
        whole = all;
        bytes = all_joined _ _ sent.made.bytes (fragments_of n (taken w.receiver)) say all;
        target = all_target _ _ sent.made.bytes (fragments_of n (taken w.receiver)) say all;
      }

  now_step : (w : WorldPast S) (n : ℕ) (source : S) (low all : Bool) → Given w → NamesDifferIn codec w → Each (Has (fragments codec session w.sender)) (taken w.receiver) → Each (IsStateOfNumber codec session w.sender w.receiver) (decoded codec w.receiver) → has_all (fragments_of n (taken w.receiver)) ≡ all → cond (low && all) (held_under codec w.receiver (source_name w.receiver n)) None ≡ Some source → IsFrameOfNumber codec session w.sender w.receiver n source
  now_step w n source false all g names parts own is h = absurd (cc)
  now_step w n source true false g names parts own is h = absurd (cc)
  now_step w n source true true g names parts own is h =
      frame_of_whole w n source g parts is
      (λ sent. under_is w sent.choice.source (source_name w.receiver n) source g names own
      (all_source _ _ sent.made.bytes (fragments_of n (taken w.receiver)) (parts_say w n sent (taken w.receiver) g parts) is) h)

  -- a frame that is ready now is so
  pub frame_now : (w : WorldPast S) (n : ℕ) (source : S) → Given w → NamesDifferIn codec w → Each (Has (fragments codec session w.sender)) (taken w.receiver) → Each (IsStateOfNumber codec session w.sender w.receiver) (decoded codec w.receiver) → source_now codec w.receiver n ≡ Some source → IsFrameOfNumber codec session w.sender w.receiver n source
  frame_now w n source g names parts own h = now_step w n source (leb (floor_of (taken w.receiver)) n) (has_all (fragments_of n (taken w.receiver))) g names parts own refl h

  -- the world after a call of the receiver
  abbrev pub receives : WorldPast S → ReceiverCall S → WorldPast S
  receives w call = record w { receiver = call ∷ w.receiver }

  next_step : (w : WorldPast S) (call : ReceiverCall S) (n : ℕ) (source : S) (o : Option S) → Given w → NamesDifferIn codec w → Each (Has (fragments codec session w.sender)) (taken (call ∷ w.receiver)) → Each (IsStateOfNumber codec session (receives w call).sender (receives w call).receiver) (decoded codec (call ∷ w.receiver)) → (has_all (fragments_of n (taken w.receiver)) ≡ true → has_all (fragments_of n (taken (call ∷ w.receiver))) ≡ true) → ((s : S) → o ≡ Some s → IsFrameOfNumber codec session w.sender w.receiver n s) → or_else o (source_now codec (call ∷ w.receiver) n) ≡ Some source → IsFrameOfNumber codec session (receives w call).sender (receives w call).receiver n source
  next_step w call n source None g names parts own stays old h = frame_now (receives w call) n source g names parts own h
  next_step w call n source (Some s) g names parts own stays old h =
      let is : s ≡ source = some_same s source h in
      let f : IsFrameOfNumber codec session w.sender w.receiver n source = subst (IsFrameOfNumber codec session w.sender w.receiver n) is (old s refl) in
      frame_of_whole (receives w call) n source g parts (stays f.whole) (λ sent. f.from_source ∙ ap (λ (c : Choice). state_at codec w.sender c.source) (some_same f.choice sent.choice (sym f.chosen ∙ sent.found)))

  -- each frame that is ready after a call is so
  pub next_frames : (w : WorldPast S) (call : ReceiverCall S) → Given w → NamesDifferIn codec w → Each (Has (fragments codec session w.sender)) (taken (call ∷ w.receiver)) → Each (IsStateOfNumber codec session (receives w call).sender (receives w call).receiver) (decoded codec (call ∷ w.receiver)) → ((n : ℕ) → has_all (fragments_of n (taken w.receiver)) ≡ true → has_all (fragments_of n (taken (call ∷ w.receiver))) ≡ true) → ((n : ℕ) (source : S) → ready_source codec w.receiver n ≡ Some source → IsFrameOfNumber codec session w.sender w.receiver n source)
      → (n : ℕ) (source : S) → ready_source codec (call ∷ w.receiver) n ≡ Some source → IsFrameOfNumber codec session (receives w call).sender (receives w call).receiver n source
  unfolding ready_source
  next_frames w call g names parts own stays old n source h = next_step w call n source (ready_source codec w.receiver n) g names parts own (stays n) (old n) h
