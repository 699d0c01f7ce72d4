-- What was sent stays as more pictures are started and more is chosen.
use Rattle.std.proofs.Common.{◌≡◌, ℕ, ◌≤◌, Bool, true, false, cond, List, [], ◌∷◌, ◌++◌, length, Some, refl, ap, sym, ◌∙◌, subst, arith, eqb, inl, inr, ◌⊎◌}
use Rattle.std.proofs.lemmas.Bool.{eqb-true}
use Rattle.sal_base.specs.Lists.{Has, Each}
use Rattle.sal_base.specs.declared.name.Name.{Name}
use Rattle.sal_base.specs.declared.picture.Picture.{Picture}
use Rattle.sal_codec.specs.Coding.{Coding}
use Rattle.sal_wire.specs.Fields.{FragmentFields}
use Rattle.sal_wire.specs.declared.datagram.Ack.{Ack}
use Rattle.sal_chain.specs.declared.stored_state.StoredState.{StoredState}
use Rattle.sal_sender.specs.declared.choice.Choice.{Choice}
use Rattle.sal_sender.specs.Past.{Past, choices, pictures, tip}
use Rattle.sal_chain.specs.Held.{name_in}
use Rattle.sal_sender.specs.Chain.{target_of, made_at, state}
use Rattle.sal_sender.specs.OneThread.{Session, one_thread}
use Rattle.sal_sender.specs.Acks.{acknowledged}
use Rattle.sal_sender.specs.Sound.{AreChained, IsSound}
use Rattle.sal_sender.proofs.Thread.{ArePicturesOf, made_before, thread_before}
use Rattle.sal_sender.proofs.Older.{made_older, has_sent}
use Rattle.sal_sender.proofs.Sound.{tip_is}
use Rattle.sal_receiver.specs.Past.{ReceiverCall, Deliver, TakeReady, Decoding, taken, shown}
use Rattle.sal_receiver.specs.Past.{floor as receiver_floor}
use Rattle.sal_receiver.specs.Held.{decoded}
use Rattle.sal_world.specs.World.{WorldPast, acks_of}
use Rattle.sal_world.specs.Promises.{choice_at, IsDecoding, HasSize, IsHeardOrOldIn}
use Rattle.sal_world.specs.Invariant.{Invariant, fragments, IsOfSentFragment, IsStateOfNumber, IsFrameOfNumber, NamesItsState, IsAckOfSent, WasAcked}
use Rattle.sal_world.proofs.Numbers.{choice_older, older_source, longer_thread}
use Rattle.sal_world.proofs.ListLemmas.{each_map}
use Rattle.sal_world.proofs.Windows.{window_of, behind_of}

-- a choice that is found has a number up to the tip
pub number_low : (chosen : List Choice) (n : ℕ) (c : Choice) → AreChained chosen → choice_at chosen n ≡ Some c → n ≤ length chosen
number_low [] n c chained e = absurd (cc)
number_low (x ∷ xs) n c chained e = step (eqb x.number n) refl e (number_low xs n c chained.1)
  where
    step : (b : Bool) → eqb x.number n ≡ b → cond b (Some x) (choice_at xs n) ≡ Some c → (choice_at xs n ≡ Some c → n ≤ length xs) → n ≤ length (x ∷ xs)
    step true is h more = let own : x.number ≡ n = eqb-true _ _ is in omega (arith, chained.0.number)
    step false is h more = let low : n ≤ length xs = more h in omega arith

module _ {S : Type 0} (codec : Coding S) (session : Session) where
  -- each number that was sent stands as it stood
  pub record Extends (shot : List Picture) (chosen : List Choice) (later : List Picture) (more : List Choice) : Type 0 where
    pub longer : length chosen ≤ length more
    pub choice : (n : ℕ) → n ≤ length chosen → choice_at more n ≡ choice_at chosen n
    pub made : (n : ℕ) → n ≤ length chosen → made_at codec later more n ≡ made_at codec shot chosen n
    pub thread : (e : FragmentFields) → Has (one_thread codec session shot chosen) e → Has (one_thread codec session later more) e
    pub thread_longer : length (one_thread codec session shot chosen) ≤ length (one_thread codec session later more)

  pub extends_pictures : (shot more : List Picture) (chosen : List Choice) → ArePicturesOf (length shot) chosen → Extends shot chosen (shot ++ more) chosen
  extends_pictures shot more chosen of =
      let same : one_thread codec session (shot ++ more) chosen ≡ one_thread codec session shot chosen = thread_before codec session shot more chosen of in
      record {
        longer = omega arith;
        choice = λ n low. refl;
        made = λ n low. made_before codec shot more chosen n of;
        thread = λ e has. subst (λ es. Has es e) (sym same) has;
        thread_longer = (let l : length (one_thread codec session (shot ++ more) chosen) ≡ length (one_thread codec session shot chosen) = ap (λ (es : List FragmentFields). length es) same in omega arith);
      }

  pub extends_choice : (shot : List Picture) (choice : Choice) (older : List Choice) → AreChained (choice ∷ older) → Extends shot older shot (choice ∷ older)
  extends_choice shot choice older chained = record {
    longer = omega arith;
    choice = λ n low. choice_older choice older n chained low;
    made = λ n low. made_older codec shot choice older n chained low;
    thread = λ e has. has_sent codec session shot choice older e has;
    thread_longer = (let l = longer_thread codec session shot choice older in omega arith);
  }

  pub extends_state : (shot : List Picture) (chosen : List Choice) (later : List Picture) (more : List Choice) (n : ℕ) → Extends shot chosen later more → n ≤ length chosen → state codec later more n ≡ state codec shot chosen n
  extends_state shot chosen later more n x low = ap (target_of codec) (x.made n low)

  -- the world after a call of the sender
  abbrev pub sends : WorldPast S → Past → WorldPast S
  sends w past = record w { sender = past }

  abbrev pub Grows : WorldPast S → Past → Type 0
  Grows w past = Extends (pictures w.sender) (choices w.sender) (pictures past) (choices past)

  grown_sent : (w : WorldPast S) (past : Past) → Grows w past → (call : ReceiverCall S) → IsOfSentFragment codec session w.sender call → IsOfSentFragment codec session past call
  grown_sent w past x (Deliver came moment answer) of = (of.0, x.thread of.0 of.1, of.2, of.3)
  grown_sent w past x (TakeReady answer) of = tt
  grown_sent w past x (Decoding n outcome answer) of = tt

  grown_number : (w : WorldPast S) (past : Past) → AreChained (choices w.sender) → AreChained (choices past) → Grows w past → (k : StoredState S) → IsStateOfNumber codec session w.sender w.receiver k → IsStateOfNumber codec session past w.receiver k
  grown_number w past old new x k is =
      let a : tip w.sender ≡ length (choices w.sender) = tip_is (choices w.sender) old in
      let b : tip past ≡ length (choices past) = tip_is (choices past) new in
      record {
        some = is.some;
        chosen = omega (arith, is.chosen, x.longer);
        near = is.near;
        state = is.state ∙ sym (extends_state (pictures w.sender) (choices w.sender) (pictures past) (choices past) k.number x (omega (arith, is.chosen)));
        name = is.name;
      }

  grown_seen : (w : WorldPast S) (past : Past) → AreChained (choices w.sender) → Grows w past → (s : ℕ × Picture) → IsDecoding codec w.sender s.0 s.1 → IsDecoding codec past s.0 s.1
  grown_seen w past old x s is =
      let low : s.0 ≤ length (choices w.sender) = number_low (choices w.sender) s.0 is.choice old is.chosen in
      let source : is.choice.source ≤ length (choices w.sender) = older_source (choices w.sender) s.0 is.choice old is.chosen in
      record {
        choice = is.choice;
        chosen = x.choice s.0 low ∙ is.chosen;
        made = is.made;
        is_made = x.made s.0 low ∙ is.is_made;
        reconstruction = is.reconstruction;
        decoded = is.decoded;
        decoding = ap (λ t. codec.decode t is.made.bytes) (extends_state (pictures w.sender) (choices w.sender) (pictures past) (choices past) is.choice.source x source) ∙ is.decoding;
        same_picture = is.same_picture;
      }

  grown_frame : (w : WorldPast S) (past : Past) → AreChained (choices w.sender) → Grows w past → (n : ℕ) (source : S) → IsFrameOfNumber codec session w.sender w.receiver n source → IsFrameOfNumber codec session past w.receiver n source
  grown_frame w past old x n source is =
      let low : n ≤ length (choices w.sender) = number_low (choices w.sender) n is.choice old is.chosen in
      let from : is.choice.source ≤ length (choices w.sender) = older_source (choices w.sender) n is.choice old is.chosen in
      record {
        choice = is.choice;
        chosen = x.choice n low ∙ is.chosen;
        from_source = is.from_source ∙ sym (extends_state (pictures w.sender) (choices w.sender) (pictures past) (choices past) is.choice.source x from);
        made = is.made;
        is_made = x.made n low ∙ is.is_made;
        whole = is.whole;
        bytes = is.bytes;
        target = is.target;
      }

  grown_named : (w : WorldPast S) (past : Past) → AreChained (choices w.sender) → AreChained (choices past) → Grows w past → (h : ℕ × Name) → NamesItsState codec session w.sender h → NamesItsState codec session past h
  grown_named w past old new x h is =
      let a : tip w.sender ≡ length (choices w.sender) = tip_is (choices w.sender) old in
      let b : tip past ≡ length (choices past) = tip_is (choices past) new in
      let low : h.0 ≤ length (choices w.sender) = omega (arith, is.0) in
      (omega (arith, x.longer), is.1 ∙ ap (name_in codec) (sym (extends_state (pictures w.sender) (choices w.sender) (pictures past) (choices past) h.0 x low)))

  grown_ack : (w : WorldPast S) (past : Past) → AreChained (choices w.sender) → AreChained (choices past) → Grows w past → (ack : Ack) → IsAckOfSent codec session w.sender ack → IsAckOfSent codec session past ack
  grown_ack w past old new x ack is = record {
    own = is.own;
    sent = omega (arith, is.sent, x.thread_longer);
    fits = is.fits;
    is = is.is;
    states = each_map (NamesItsState codec session w.sender) (NamesItsState codec session past) (λ h named. grown_named w past old new x h named) ack.held is.states;
  }

  grown_floor : (w : WorldPast S) (past : Past) (floor : ℕ) → Grows w past → (floor ≡ 1) ⊎ ((e : FragmentFields) × Has (fragments codec session w.sender) e × (e.floor ≡ floor)) → (floor ≡ 1) ⊎ ((e : FragmentFields) × Has (fragments codec session past) e × (e.floor ≡ floor))
  grown_floor w past floor x (inl e) = inl e
  grown_floor w past floor x (inr of) = inr (of.0, x.thread of.0 of.1, of.2)

  -- a call of the sender keeps what stands of the receiver
  pub grown : (w : WorldPast S) (past : Past) → Grows w past → IsSound past → Each (HasSize session) (pictures past) → Each IsHeardOrOldIn past → Each (WasAcked codec session w.receiver) (acknowledged past) → Invariant codec session w → Invariant codec session (sends w past)
  grown w past x sound sizes heard acked inv =
      let old : AreChained (choices w.sender) = inv.sender.sound.chained in
      let new : AreChained (choices past) = sound.chained in
      let bound = grown_floor w past (receiver_floor w.receiver) x inv.receiver.floor in
      record {
        sender = record { window = window_of past new; sound = sound; sizes = sizes };
        receiver = record {
          delivered = each_map (IsOfSentFragment codec session w.sender) (IsOfSentFragment codec session past) (grown_sent w past x) w.receiver inv.receiver.delivered;
          floor = bound;
          behind = behind_of codec session past (receiver_floor w.receiver) new bound;
          parts = each_map (Has (fragments codec session w.sender)) (Has (fragments codec session past)) x.thread (taken w.receiver) inv.receiver.parts;
          held = each_map (IsStateOfNumber codec session w.sender w.receiver) (IsStateOfNumber codec session past w.receiver) (grown_number w past old new x) (decoded codec w.receiver) inv.receiver.held;
          fit = inv.receiver.fit;
          seen = each_map (λ s. IsDecoding codec w.sender s.0 s.1) (λ s. IsDecoding codec past s.0 s.1) (grown_seen w past old x) (shown w.receiver) inv.receiver.seen;
          frames = λ n source is. grown_frame w past old x n source (inv.receiver.frames n source is);
        };
        acks = record {
          heard = heard;
          acks = each_map (IsAckOfSent codec session w.sender) (IsAckOfSent codec session past) (grown_ack w past old new x) (acks_of w.receiver) inv.acks.acks;
          named = inv.acks.named;
          acked = acked;
        };
      }
