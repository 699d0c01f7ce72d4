-- What follows from the invariant.
use Rattle.std.proofs.Common.{◌≡◌, ℕ, ◌≤◌, Bool, true, false, cond, List, [], ◌∷◌, ◌++◌, Option, Some, None, refl, ap, sym, ◌∙◌, subst, arith, leb, ltb, ◌⊎◌, inl, inr}
use Rattle.std.proofs.lemmas.Bool.{le-leb, eq-eqb}
use Rattle.std.proofs.lemmas.List.{append-nil}
use Rattle.std.specs.Prelude.{IsSome}
use Rattle.std.specs.Option.{option_map}
use Rattle.sal_base.specs.declared.picture.Picture.{Picture}
use Rattle.sal_base.specs.Lists.{Has}
use Rattle.sal_base.specs.Names.{same}
use Rattle.sal_codec.specs.Coding.{Coding}
use Rattle.sal_wire.specs.declared.datagram.Ack.{Ack}
use Rattle.sal_chain.specs.declared.stored_state.StoredState.{StoredState}
use Rattle.sal_chain.specs.Held.{inserted, in_order, not_below, with_name}
use Rattle.sal_sender.specs.declared.answers.Chosen.TheVariants.{Sent}
use Rattle.sal_sender.specs.Past.{Past, Report, Choose, choices, pictures, datagrams, floor as sender_floor}
use Rattle.sal_sender.specs.Choosing.{reported}
use Rattle.sal_sender.proofs.Sound.{sound}
use Rattle.sal_chain.specs.Held.{name_in}
use Rattle.sal_sender.specs.Chain.{state, state_at}
use Rattle.sal_sender.specs.OneThread.{Session}
use Rattle.sal_sender.specs.Acks.{acknowledged, ack_in, named_from, with_named}
use Rattle.sal_receiver.specs.Past.{ReceiverCall, Deliver, TakeReady, Decoding, floor, shown}
use Rattle.sal_receiver.specs.Held.{zero_name, held, held_under, decoded}
use Rattle.sal_receiver.proofs.Served.{served}
use Rattle.sal_world.specs.World.{WorldEvent, WorldPast, after}
use Rattle.sal_world.specs.Promises.{IsDecoding, ShownIsTheDecoding, AcknowledgedStaysHeld, NothingIsRefused, IsTakenIn, LateChangesNothing, HoldsAlways, HoldsWhereNamesDiffer}
use Rattle.sal_world.specs.Invariant.{Invariant, IsStateOfNumber, IsOfSentFragment, WasAcked}
use Rattle.sal_world.proofs.Legal.{legal, one_thread_in, budget_in}
use Rattle.sal_world.proofs.ChoiceSteps.{all_counted}
use Rattle.sal_world.proofs.ListLemmas.{each_has, each_map}

has_after : {X : Type 0} (more xs : List X) (x : X) → Has xs x → Has (more ++ xs) x
has_after [] xs x h = h
has_after (y ∷ more) xs x h = inr (has_after more xs x h)

pub same_refl : (xs : List ℕ) → same xs xs ≡ true
same_refl [] = refl
same_refl (x ∷ xs) = rw (eq-eqb x x refl, same_refl xs) refl

named_after : (floor : ℕ) (o : Option (Ack × ℕ)) (before : List ℕ) (n : ℕ) → Has before n → Has (with_named floor o before) n
named_after floor None before n h = h
named_after floor (Some (ack, moment)) before n h = has_after (named_from floor ack) before n h

-- what was acknowledged stays so
acknowledged_later : (later before : Past) (n : ℕ) → Has (acknowledged before) n → Has (acknowledged (later ++ before)) n
acknowledged_later [] before n h = h
acknowledged_later (call ∷ later) before n h = named_after (sender_floor (later ++ before)) (ack_in call) (acknowledged (later ++ before)) n (acknowledged_later later before n h)

module _ {T : Type 0} where
  has_cond : (b : Bool) (x k : StoredState T) (xs : List (StoredState T)) → b ≡ true → (x ≡ k) ⊎ Has xs x → Has (cond b (k ∷ xs) xs) x
  has_cond true x k xs e h = h
  has_cond false x k xs e h = absurd (cc)

  placed_step : (b : Bool) (k x y : StoredState T) (xs ys : List (StoredState T)) → ((x ≡ k) ⊎ Has xs x → Has ys x) → (x ≡ k) ⊎ Has (y ∷ xs) x → Has (cond b (k ∷ y ∷ xs) (y ∷ ys)) x
  placed_step true k x y xs ys more h = h
  placed_step false k x y xs ys more (inl h) = inr (more (inl h))
  placed_step false k x y xs ys more (inr (inl h)) = inl h
  placed_step false k x y xs ys more (inr (inr h)) = inr (more (inr h))

  has_rest : (b : Bool) (x k : StoredState T) (xs : List (StoredState T)) → Has xs x → Has (cond b (k ∷ xs) xs) x
  has_rest true x k xs h = inr h
  has_rest false x k xs h = h

  has_placed : (k x : StoredState T) (xs : List (StoredState T)) → (x ≡ k) ⊎ Has xs x → Has (inserted k xs) x
  has_placed k x [] h = h
  has_placed k x (y ∷ ys) h = placed_step (ltb k.number y.number) k x y ys (inserted k ys) (has_placed k x ys) h

  has_order : (x : StoredState T) (xs : List (StoredState T)) → Has xs x → Has (in_order xs) x
  has_order x [] h = h
  has_order x (k ∷ xs) (inl h) = has_placed k x (in_order xs) (inl h)
  has_order x (k ∷ xs) (inr h) = has_placed k x (in_order xs) (inr (has_order x xs h))

  has_from : (floor : ℕ) (x : StoredState T) (xs : List (StoredState T)) → floor ≤ x.number → Has xs x → Has (not_below floor xs) x
  has_from floor x [] low h = absurd h
  has_from floor x (y ∷ ys) low (inl h) = has_cond (leb floor y.number) x y (not_below floor ys) (le-leb _ _ (let e : x.number ≡ y.number = ap (λ (k : StoredState T). k.number) h in omega arith)) (inl h)
  has_from floor x (y ∷ ys) low (inr h) = has_rest (leb floor y.number) x y (not_below floor ys) (has_from floor x ys low h)

  -- it is the first, or is found in the rest
  has_head : (name : List ℕ) (x y : StoredState T) (ys : List (StoredState T)) → (Has ys x → IsSome (option_map (λ (k : StoredState T). k.state) (with_name name ys))) → Has (y ∷ ys) x → (same x.name.0 name ≡ same y.name.0 name) ⊎ IsSome (option_map (λ (k : StoredState T). k.state) (with_name name ys))
  has_head name x y ys more (inl h) = inl (ap (λ (k : StoredState T). same k.name.0 name) h)
  has_head name x y ys more (inr h) = inr (more h)

  found_step : (b : Bool) (x y : StoredState T) (rest : Option (StoredState T)) (a : Bool) → a ≡ a → a ≡ true → (a ≡ b) ⊎ IsSome (option_map (λ (k : StoredState T). k.state) rest) → IsSome (option_map (λ (k : StoredState T). k.state) (cond b (Some y) rest))
  found_step true x y rest a r e h = refl
  found_step false x y rest a r e (inl h) = absurd (cc)
  found_step false x y rest a r e (inr h) = h

  found : (name : List ℕ) (x : StoredState T) (xs : List (StoredState T)) → same x.name.0 name ≡ true → Has xs x → IsSome (option_map (λ k. k.state) (with_name name xs))
  found name x [] e h = absurd h
  found name x (y ∷ ys) e h = found_step (same y.name.0 name) x y (with_name name ys) (same x.name.0 name) refl e (has_head name x y ys (found name x ys e) h)

  pub has_held : (floor : ℕ) (x : StoredState T) (xs : List (StoredState T)) → floor ≤ x.number → Has xs x → Has (in_order (not_below floor xs)) x
  has_held floor x xs low h = has_order x (not_below floor xs) (has_from floor x xs low h)

module _ {S : Type 0} (codec : Coding S) (session : Session) where
  under : (b : Bool) (o : Option S) → IsSome o → IsSome (cond b (Some codec.initial) o)
  under true o h = refl
  under false o h = h

  -- a number that was acknowledged is held under its name, while no floor above it was taken
  held_there : (w : WorldPast S) (n : ℕ) → Invariant codec session w → Has (acknowledged w.sender) n → floor w.receiver ≤ n → IsSome (held_under codec w.receiver (name_in codec (state_at codec w.sender n)))
  held_there w n inv acked low =
      let name : List ℕ = name_in codec (state_at codec w.sender n) in
      let by : WasAcked codec session w.receiver n = each_has (WasAcked codec session w.receiver) (acknowledged w.sender) n inv.acks.acked acked in
      let kept : (k : StoredState S) × Has (decoded codec w.receiver) k × (k.number ≡ n) = each_has _ _ _ (each_has _ _ _ inv.acks.named by.1) by.3 low in
      let own : IsStateOfNumber codec session w.sender w.receiver kept.0 = each_has (IsStateOfNumber codec session w.sender w.receiver) _ _ inv.receiver.held kept.1 in
      let state : kept.0.state ≡ state_at codec w.sender n = own.state ∙ ap (λ m. state_at codec w.sender m) kept.2 in
      let its : kept.0.name.0 ≡ name = own.name ∙ ap (name_in codec) state in
      let e : same kept.0.name.0 name ≡ true = subst (λ x. same kept.0.name.0 x ≡ true) its (same_refl kept.0.name.0) in
      under (same name zero_name) _
      (found name kept.0 (held codec w.receiver) e (has_held (floor w.receiver) kept.0 (decoded codec w.receiver) (omega (arith, kept.2)) kept.1))

  pub stays_held : (w : WorldPast S) → Invariant codec session w → AcknowledgedStaysHeld codec w
  stays_held w inv later before moment choice burst is acked low =
      held_there w choice.source inv
      (subst (λ past. Has (acknowledged past) choice.source) (sym is) (acknowledged_later later (Choose moment (Sent choice burst) ∷ before) choice.source acked)) low

  pub shown_right : (w : WorldPast S) → Invariant codec session w → ShownIsTheDecoding codec w
  shown_right w inv n picture has = each_has (λ (s : ℕ × Picture). IsDecoding codec w.sender s.0 s.1) (shown w.receiver) (n, picture) inv.receiver.seen has

  taken_in : (w : WorldPast S) (call : ReceiverCall S) → IsOfSentFragment codec session w.sender call → IsTakenIn call
  taken_in w (Deliver came moment answer) of = of.3
  taken_in w (TakeReady answer) of = tt
  taken_in w (Decoding n outcome answer) of = tt

  pub not_refused : (w : WorldPast S) → Invariant codec session w → NothingIsRefused w
  not_refused w inv = record { down = each_map (IsOfSentFragment codec session w.sender) IsTakenIn (taken_in w) w.receiver inv.receiver.delivered; decoded = inv.receiver.fit; up = inv.acks.heard }

  late_nothing : (w : WorldPast S) → LateChangesNothing codec session w
  late_nothing w job gave late =
      let shot : pictures w.sender ++ [] ≡ pictures w.sender = append-nil (pictures w.sender) in
      record {
        chain = refl;
        tip = refl;
        floor = refl;
        states = λ n. ap (λ ps. state codec ps (choices w.sender) n) shot;
        opened = refl;
        reported = λ id. ap (λ a. reported (Report job gave a ∷ w.sender) id) late;
        sent = append-nil (datagrams w.sender);
        receiver = refl;
      }

  -- what holds of every world
  pub always : (events : List WorldEvent) → HoldsAlways codec session (after codec session events)
  always events =
      let w = after codec session events in
      record {
        one_thread = one_thread_in codec session events;
        budget = budget_in codec session events;
        counted = all_counted codec session w.sender (legal codec session events).sender;
        sound = sound codec session w.sender (legal codec session events).sender;
        late = late_nothing w;
      }

  -- and what holds where the invariant does
  pub held_by_names : (events : List WorldEvent) → Invariant codec session (after codec session events) → HoldsWhereNamesDiffer codec (after codec session events)
  held_by_names events inv =
      let w = after codec session events in
      record {
        shown_is_the_decoding = shown_right w inv;
        served = served codec w.receiver (legal codec session events).receiver inv.receiver.fit;
        stays_held = stays_held w inv;
        nothing_refused = not_refused w inv;
      }
