-- What is taken of a report, and what is kept of it.
use Rattle.std.proofs.Common.{◌≡◌, ◌≢◌, ℕ, ◌+◌, ◌-◌, ◌<◌, ◌≤◌, max, min, Bool, true, false, cond, List, [], ◌∷◌, ◌++◌, length, map, take, replicate, Option, Some, None, refl, ap, sym, ◌∙◌, subst, arith, eqb, leb, length-append, ◌⊎◌, inl, inr}
use Rattle.std.proofs.lemmas.Bool.{eqb-false, leb-true}
use Rattle.std.specs.Arc.{arc_value}
use Rattle.std.specs.List.{filter}
use Rattle.std.specs.declared.sync.Arc.{Arc}
use Rattle.sal_base.specs.Lists.{Each}
use Rattle.sal_base.specs.declared.name.Name.{Name}
use Rattle.sal_base.specs.declared.picture.Picture.{Picture}
use Rattle.sal_base.specs.declared.coding.Encoding.TheVariants.{Frame as FrameOf, Oversize as OversizeOf}
use Rattle.sal_y4m.specs.declared.head.Head.{Head}
use Rattle.sal_codec.specs.Coding.{Coding, name_of, HasSides, IsLawful, MayEncode}
use Rattle.sal_chain.specs.declared.stored_state.StoredState.{StoredState}
use Rattle.sal_chain.specs.Held.{with_number, inserted, not_below}
use Rattle.sal_chain.specs.StateTable.{StateTable}
use Rattle.sal_wire.specs.Fragmentation.{fragment_count}
use Rattle.sal_wire.specs.Layout.{IsWireName, name_bytes, fragment_bytes}
use Rattle.sal_sender.specs.declared.outcome.Gave.{Gave}
use Rattle.sal_sender.specs.declared.outcome.Gave.TheVariants.{Frame as GaveFrame, Oversize as GaveOversize, NoMemory as GaveNoMemory}
use Rattle.sal_sender.specs.declared.choice.Choice.{Choice}
use Rattle.sal_sender.specs.declared.outgoing_frame.OutgoingFrame.{OutgoingFrame}
use Rattle.sal_sender.specs.declared.sent_frame.SentFrame.{SentFrame}
use Rattle.sal_sender.specs.declared.open_picture.Candidate.{Candidate}
use Rattle.sal_sender.specs.declared.ack_state.AckState.{AckState}
use Rattle.sal_sender.specs.declared.prepared_frame.PreparedFrame.{PreparedFrame}
use Rattle.sal_sender.proofs.Picks.{frame_sound}
use Rattle.sal_sender.specs.declared.outcome.Outcome.{Outcome}
use Rattle.sal_sender.specs.declared.outcome.Outcome.TheVariants.{Frame, Oversize, NoMemory}
use Rattle.sal_chain.specs.Held.{name_in}
use Rattle.sal_sender.specs.OneThread.{Session, burst_of}
use Rattle.sal_sender.specs.Choosing.{size_of, datagram_count}
use Rattle.sal_sender.specs.Selecting.{fits_in, has_fit, size_in}
use Rattle.sal_sender.specs.Planned.{safe_of}
use Rattle.sal_sender.specs.Packetizing.{datagrams_of, IsOutgoing}
use Rattle.sal_sender.specs.Sending.{choice_from, pause_in, with_choice, IsNext, IsPrepared}
use Rattle.sal_sender.specs.JobWork.{JobWork, JobReport, IsOutcome, IsTargetName, gave_of, encoded}
use Rattle.sal_sender.specs.Machine.{Machine, IsOwnState, IsSized, IsSizedIn, IsNearFrame, IsNearSource, IsCandidate, IsWell}

module _ {S : Type 0} (codec : Coding S) where
  fit_of : (candidate : Candidate (JobReport S)) (r : JobReport S) → candidate.report ≡ Some r → has_fit 4096 (size_in codec candidate) ≡ true → fits_in 4096 (size_of (encoded codec r.work) r.gave) ≡ true
  fit_of candidate r e h = sym (ap (λ o. has_fit 4096 (Rattle.std.specs.Option.option_map (λ (x : JobReport S). size_of (encoded codec x.work) x.gave) o)) e) ∙ h

  pub few : (candidate : Candidate (JobReport S)) (r : JobReport S) (bytes : List ℕ) (t : S) (recon : Picture) → candidate.report ≡ Some r → has_fit 4096 (size_in codec candidate) ≡ true → r.gave ≡ GaveFrame → encoded codec r.work ≡ FrameOf bytes t recon → fragment_count bytes ≤ 4096
  few candidate r bytes t recon e h gave made = leb-true _ _ (subst (λ x. fits_in 4096 (size_of x GaveFrame) ≡ true) made (subst (λ d. fits_in 4096 (size_of (encoded codec r.work) d) ≡ true) gave (fit_of candidate r e h)))

  pub count_is : (r : JobReport S) (n : ℕ) (bytes : List ℕ) (t : S) (recon : Picture) → n ≡ datagram_count (size_of (encoded codec r.work) r.gave) → r.gave ≡ GaveFrame → encoded codec r.work ≡ FrameOf bytes t recon → n ≡ fragment_count bytes
  count_is r n bytes t recon h gave made = h ∙ (ap (λ d. datagram_count (size_of (encoded codec r.work) d)) gave ∙ ap (λ x. datagram_count (size_of x GaveFrame)) made)

module _ {S Z : Type 0} (codec : Coding S) where
  -- a report that fits is a frame
  pub not_frame : (candidate : Candidate (JobReport S)) (r : JobReport S) (o : Outcome (Arc S Z)) → candidate.report ≡ Some r → has_fit 4096 (size_in codec candidate) ≡ true → IsOutcome (encoded codec r.work) o → gave_of o ≡ r.gave → ((b : _) (t : _) (p : _) → o ≡ Frame b t p → ⊥) → ⊥
  not_frame candidate r (Frame b t p) e h is gave other = other b t p refl
  not_frame candidate r (Oversize first) e h is gave other =
      absurd (let f : fits_in 4096 (size_of {S = S} (OversizeOf first) GaveOversize) ≡ true = subst (λ x. fits_in 4096 (size_of x GaveOversize) ≡ true) is (subst (λ d. fits_in 4096 (size_of (encoded codec r.work) d) ≡ true) (sym gave) (fit_of codec candidate r e h)) in cc)
  not_frame candidate r NoMemory e h is gave other =
      absurd (let f : fits_in 4096 (size_of (encoded codec r.work) GaveNoMemory) ≡ true = subst (λ d. fits_in 4096 (size_of (encoded codec r.work) d) ≡ true) (sym gave) (fit_of codec candidate r e h) in cc)

  pub made_is : (work : JobWork S) (o : Outcome (Arc S Z)) (bytes : List ℕ) (t : Arc S Z) (recon : Picture) → IsOutcome (encoded codec work) o → o ≡ Frame bytes t recon → encoded codec work ≡ FrameOf bytes (arc_value t) recon
  made_is work o bytes t recon is e = subst (λ x. IsOutcome (encoded codec work) x) e is

  pub ran_is : (o : Outcome (Arc S Z)) (gave : Gave) (bytes : List ℕ) (t : Arc S Z) (recon : Picture) → o ≡ Frame bytes t recon → gave_of o ≡ gave → gave ≡ GaveFrame
  ran_is o gave bytes t recon e h = sym h ∙ ap gave_of e

-- a name is sent whole
eight : (xs : List ℕ) → length xs ≡ 8 → IsWireName (xs ++ replicate 8 0)
unfolding name_bytes
eight [] h = absurd (omega (arith, h))
eight (a ∷ []) h = absurd (omega (arith, h))
eight (a ∷ b ∷ []) h = absurd (omega (arith, h))
eight (a ∷ b ∷ c ∷ []) h = absurd (omega (arith, h))
eight (a ∷ b ∷ c ∷ d ∷ []) h = absurd (omega (arith, h))
eight (a ∷ b ∷ c ∷ d ∷ e ∷ []) h = absurd (omega (arith, h))
eight (a ∷ b ∷ c ∷ d ∷ e ∷ f ∷ []) h = absurd (omega (arith, h))
eight (a ∷ b ∷ c ∷ d ∷ e ∷ f ∷ g ∷ []) h = absurd (omega (arith, h))
eight (a ∷ b ∷ c ∷ d ∷ e ∷ f ∷ g ∷ i ∷ []) h = refl
eight (a ∷ b ∷ c ∷ d ∷ e ∷ f ∷ g ∷ i ∷ j ∷ more) h = absurd (omega (arith, h))

pub sent_name : (name : Name) (digest : List ℕ) → length name.0 ≡ 16 → name.0 ≡ name_of digest → IsWireName name.0
sent_name name digest long is =
    let parts : length (take 8 digest ++ replicate 8 0) ≡ length (take 8 digest) + 8 = length-append (take 8 digest) (replicate 8 0) in
    let same : length name.0 ≡ length (take 8 digest ++ replicate 8 0) = ap (λ (xs : List ℕ). length xs) is in
    subst IsWireName (sym is) (eight (take 8 digest) (omega (arith, parts, same, long)))

floor_step : (b : Bool) (source tip floor safe : ℕ) → eqb source 0 ≡ b → IsNearSource floor tip source → floor ≤ tip + 1 → (floor ≤ cond b (tip + 1) (max floor (min safe source))) × ((cond b (tip + 1) (max floor (min safe source)) ≤ tip + 1) × (tip + 1 ≤ cond b (tip + 1) (max floor (min safe source)) + 15))
floor_step true source tip floor safe e near low = (low, (omega arith, omega arith))
floor_step false source tip floor safe e (inl z) low = absurd (eqb-false _ _ e z)
floor_step false source tip floor safe e (inr h) low = (omega arith, (omega (arith, h.0.0, h.0.1), omega (arith, h.1)))

module _ {S : Type 0} (codec : Coding S) where
  pub next_of : (m : Machine S) (candidate : Candidate (JobReport S)) (count at : ℕ) → IsWell codec m → IsCandidate m.floor m.tip m.session.head candidate → m.tip < m.pictures → count ≤ 4096 → IsNext m (choice_from m candidate count at)
  next_of m candidate count at w s more few =
      let f = floor_step (eqb candidate.source 0) candidate.source m.tip m.floor (safe_of m) refl s.source w.near in
      record { number = refl; started = omega (arith, more); rising = f.0; below = f.1.0; window = f.1.1; count = few; q = s.q }

  pub is_cut : (m : Machine S) (outgoing : OutgoingFrame) → IsWell codec m → IsNext m outgoing.choice → outgoing.head ≡ m.session.head → outgoing.choice.first_serial ≡ m.sent + 1 → outgoing.choice.count ≡ fragment_count outgoing.bytes.now → 1 ≤ length outgoing.bytes.now → IsWireName outgoing.source.0 → IsWireName outgoing.target.0 → IsOutgoing outgoing
  is_cut m outgoing w n head serial count some source target = record {
    head = subst Rattle.sal_y4m.specs.Head.IsHead (sym head) w.head;
    serial = omega (arith, serial);
    last = omega (arith, serial, w.sent, w.pictures, n.number, n.started, n.count);
    number = omega (arith, n.number);
    number_below = omega (arith, n.started, w.pictures);
    floor = omega (arith, n.rising, w.low);
    floor_below = n.below;
    window = omega (arith, n.window);
    source = source;
    target = target;
    some = some;
    count = count;
    count_below = n.count;
  }

  -- the datagrams are those of one thread
  pub burst_is : (outgoing : OutgoingFrame) (session : Session) (s t : S) (recon : Picture) (pause sent : ℕ) → outgoing.session ≡ session.number → outgoing.head ≡ session.head → outgoing.source.0 ≡ name_in codec s → outgoing.target.0 ≡ name_in codec t → outgoing.pause ≡ pause → outgoing.choice.first_serial ≡ sent + 1 → outgoing.choice.count ≡ fragment_count outgoing.bytes.now → datagrams_of outgoing outgoing.choice.count ≡ map fragment_bytes (burst_of codec session s pause outgoing.choice (record { bytes = outgoing.bytes.now; target = t; recon = recon }) sent)
  burst_is outgoing session s t recon pause sent a b c d e f g = rw (a, b, c, d, e, f, g) refl

none_kept : {S : Type 0} (n floor : ℕ) (kept : List (StoredState S)) → with_number n kept ≡ None → with_number n (not_below floor kept) ≡ None
none_kept n floor [] h = refl
none_kept {S} n floor (k ∷ kept) h = go (eqb k.number n) (leb floor k.number) refl refl h (none_kept n floor kept)
  where
    go : (b d : Bool) → eqb k.number n ≡ b → leb floor k.number ≡ d → cond b (Some k) (with_number n kept) ≡ None → (with_number n kept ≡ None → with_number n (not_below floor kept) ≡ None) → with_number n (cond d (k ∷ not_below floor kept) (not_below floor kept)) ≡ None
    go true d e f q more = absurd (cc)
    go false true e f q more = rw e (more q)
    go false false e f q more = more q

none_placed : {S : Type 0} (n : ℕ) (k : StoredState S) (kept : List (StoredState S)) → k.number ≢ n → with_number n kept ≡ None → with_number n (inserted k kept) ≡ None
none_placed n k [] other h = rw (Rattle.std.proofs.lemmas.Bool.ne_eqb k.number n other) refl
none_placed {S} n k (x ∷ kept) other h = go (eqb x.number n) (Rattle.std.proofs.Common.ltb k.number x.number) refl h (none_placed n k kept other)
  where
    go : (b d : Bool) → eqb x.number n ≡ b → cond b (Some x) (with_number n kept) ≡ None → (with_number n kept ≡ None → with_number n (inserted k kept) ≡ None) → with_number n (cond d (k ∷ x ∷ kept) (x ∷ inserted k kept)) ≡ None
    go true d e q more = absurd (cc)
    go false true e q more = rw (Rattle.std.proofs.lemmas.Bool.ne_eqb k.number n other, e) q
    go false false e q more = rw e (more q)

each_kept : {X : Type 0} (P : X → Type 0) (p : X → Bool) (xs : List X) → Each P xs → Each P (filter p xs)
each_kept P p [] e = tt
each_kept {X} P p (x ∷ xs) e = go (p x) (each_kept P p xs e.1)
  where
    go : (b : Bool) → Each P (filter p xs) → Each P (cond b (x ∷ filter p xs) (filter p xs))
    go true r = (e.0, r)
    go false r = r

each_placed : {S : Type 0} (P : StoredState S → Type 0) (k : StoredState S) (kept : List (StoredState S)) → P k → Each P kept → Each P (inserted k kept)
each_placed P k [] own e = (own, tt)
each_placed {S} P k (x ∷ kept) own e = go (Rattle.std.proofs.Common.ltb k.number x.number) (each_placed P k kept own e.1)
  where
    go : (b : Bool) → Each P (inserted k kept) → Each P (cond b (k ∷ x ∷ kept) (x ∷ inserted k kept))
    go true r = (own, e)
    go false r = (e.0, r)

links_from : (floor tip new : ℕ) (sent_frames : List SentFrame) → tip ≤ new → Each (IsNearFrame floor tip) sent_frames → (f : ℕ) → Each (IsNearFrame f new) (filter (λ l. leb f l.choice.number) sent_frames)
links_from floor tip new [] low e f = tt
links_from floor tip new (l ∷ sent_frames) low e f = go (leb f l.choice.number) refl (links_from floor tip new sent_frames low e.1 f)
  where
    go : (b : Bool) → leb f l.choice.number ≡ b → Each (IsNearFrame f new) (filter (λ x. leb f x.choice.number) sent_frames) → Each (IsNearFrame f new) (cond b (l ∷ filter (λ x. leb f x.choice.number) sent_frames) (filter (λ x. leb f x.choice.number) sent_frames))
    go true q r = ((leb-true _ _ q, omega (arith, e.0.1, low)), r)
    go false q r = r

module _ {S : Type 0} (codec : Coding S) where
  -- the number of the next choice isn't kept yet
  pub fresh_next : (m : Machine S) (choice : Choice) (store : StateTable S) → IsWell codec m → IsNext m choice → store ≡ Rattle.sal_chain.specs.StateTable.floor_raised choice.floor m.store → with_number choice.number store.kept ≡ None
  fresh_next m choice store w n e = ap (λ (s : StateTable S). with_number choice.number s.kept) e ∙ none_kept choice.number (max m.store.floor choice.floor) m.store.kept (w.above choice.number (omega (arith, n.number)))

  -- what holds of every sender holds after a choice
  pub well_sent : (inside m : Machine S) (choice : Choice) (name : Name) (state : S) (store raised : StateTable S) (sent_frames : List SentFrame) (acks : AckState) → IsWell codec inside → inside ≡ m → IsNext m choice → IsOwnState codec m.session.head (record { number = choice.number; name = name; state = state }) → raised ≡ Rattle.sal_chain.specs.StateTable.floor_raised choice.floor inside.store → store ≡ record raised { kept = inserted (record { number = choice.number; name = name; state = state }) raised.kept } → sent_frames ≡ with_choice m.sent_frames choice → acks ≡ record inside.acks { moment = max inside.acks.moment choice.moment } → IsWell codec (record inside { store = store; sent_frames = sent_frames; acks = acks; open_picture = None; tip = choice.number; floor = choice.floor; sent = inside.sent + choice.count; q = choice.q })
  well_sent inside m choice name state store raised sent_frames acks w view n' own' up put told kept =
      let n : IsNext inside choice = subst (λ v. IsNext v choice) (sym view) n' in
      let own : IsOwnState codec inside.session.head (record { number = choice.number; name = name; state = state }) = subst (λ v. IsOwnState codec v.session.head (record { number = choice.number; name = name; state = state })) (sym view) own' in
      let linked : sent_frames ≡ with_choice inside.sent_frames choice = told ∙ ap (λ v. with_choice v.sent_frames choice) (sym view) in
      let same : acks.heard ≡ inside.acks.heard = ap (λ t. t.heard) kept in
      let k : StoredState S = record { number = choice.number; name = name; state = state } in
      let floors : store.floor ≡ max inside.store.floor choice.floor = ap (λ s. s.floor) put ∙ ap (λ s. s.floor) up in
      let states : store.kept ≡ inserted k (not_below (max inside.store.floor choice.floor) inside.store.kept) = ap (λ s. s.kept) put ∙ ap (λ s. inserted k s.kept) up in
      record {
        head = w.head;
        pictures = w.pictures;
        chosen = n.started;
        started = λ h. absurd (cc);
        jobs = w.jobs;
        low = omega (arith, n.rising, w.low);
        near = omega (arith, n.below);
        window = n.window;
        sent = omega (arith, w.sent, n.number, n.count);
        heard = omega (arith, w.heard, same);
        q = n.q;
        store = omega (arith, floors, w.store, n.rising);
        above = λ i high. ap (λ ks. with_number i ks) states ∙ none_placed i k (not_below (max inside.store.floor choice.floor) inside.store.kept) (λ (e : choice.number ≡ i). omega (arith, high)) (none_kept i (max inside.store.floor choice.floor) inside.store.kept (w.above i (omega (arith, high, n.number))));
        states = subst (Each (IsOwnState codec inside.session.head)) (sym states) (each_placed (IsOwnState codec inside.session.head) k (not_below (max inside.store.floor choice.floor) inside.store.kept) own (each_kept (IsOwnState codec inside.session.head) (λ x. leb (max inside.store.floor choice.floor) x.number) inside.store.kept w.states));
        waiting_sized = w.waiting_sized;
        kept = inr n.below;
        linked = subst (Each (IsNearFrame choice.floor choice.number)) (sym linked) ((n.below, omega arith), links_from inside.floor inside.tip choice.number inside.sent_frames (omega (arith, n.number)) w.linked choice.floor);
        seated = tt;
      }

module _ {S : Type 0} (codec : Coding S) where
  -- what is known where a frame is taken
  pub record IsReady (m : Machine S) (candidate : Candidate (JobReport S)) (r : JobReport S) (bytes : List ℕ) (t : S) (recon : Picture) (at : ℕ) (outgoing : OutgoingFrame) : Type 0 where
    pub gave : r.gave ≡ GaveFrame
    pub made : encoded codec r.work ≡ FrameOf bytes t recon
    pub count : outgoing.choice.count ≡ fragment_count bytes
    pub choice : outgoing.choice ≡ choice_from m candidate (fragment_count bytes) at
    pub next : IsNext m outgoing.choice
    pub source : outgoing.source.0 ≡ name_in codec r.work.source
    pub target : outgoing.target.0 ≡ name_in codec t
    pub takes : codec.takes t m.session.head.width m.session.head.height
    pub cuts : IsOutgoing outgoing

  sized_is : (head : Head) (o : Option (JobReport S)) (r : JobReport S) → o ≡ Some r → IsSizedIn head o → IsSized head r.work
  sized_is head o r e h = subst (λ x. IsSizedIn head x) e h

  taken_size : (head : Head) (t : S) (p : Picture) → codec.takes t p.width p.height → HasSides head.width head.height p → codec.takes t head.width head.height
  taken_size head t p h s = subst (λ w. codec.takes t w head.height) s.width (subst (λ v. codec.takes t p.width v) s.height h)

module _ {S Z : Type 0} (codec : Coding S) where
  target_is : (name : Name) (o : Outcome (Arc S Z)) (bytes : List ℕ) (t : Arc S Z) (recon : Picture) → IsTargetName codec name o → o ≡ Frame bytes t recon → name.0 ≡ name_in codec (arc_value t)
  target_is name o bytes t recon h e = subst (λ x. IsTargetName codec name x) e h

  pub ready : (inside m : Machine S) (candidate : Candidate (JobReport S)) (r : JobReport S) (o : Outcome (Arc S Z)) (bytes : List ℕ) (t : Arc S Z) (recon : Picture) (n at : ℕ) (outgoing : OutgoingFrame) → IsLawful codec → MayEncode codec r.work.source r.work.samples r.work.q r.work.kind → IsWell codec inside → inside ≡ m → IsCandidate m.floor m.tip m.session.head candidate → m.tip < m.pictures → has_fit 4096 (size_in codec candidate) ≡ true → candidate.report ≡ Some r → IsOutcome (encoded codec r.work) o → gave_of o ≡ r.gave → o ≡ Frame bytes t recon → n ≡ datagram_count (size_of (encoded codec r.work) r.gave) → outgoing.choice ≡ choice_from m candidate n at → outgoing.head ≡ m.session.head → outgoing.bytes.now ≡ bytes → length outgoing.source.0 ≡ 16 → outgoing.source.0 ≡ name_in codec r.work.source → length outgoing.target.0 ≡ 16 → IsTargetName codec outgoing.target o → IsReady codec m candidate r bytes (arc_value t) recon at outgoing
  ready inside m candidate r o bytes t recon n at outgoing law may w' view s more fit reported is did frame counted chose head own long source long' named =
      let w : IsWell codec m = subst (IsWell codec) view w' in
      let gave : r.gave ≡ GaveFrame = ran_is codec o r.gave bytes t recon frame did in
      let made : encoded codec r.work ≡ FrameOf bytes (arc_value t) recon = made_is codec r.work o bytes t recon is frame in
      let count : n ≡ fragment_count bytes = count_is codec r n bytes (arc_value t) recon counted gave made in
      let low : fragment_count bytes ≤ 4096 = few codec candidate r bytes (arc_value t) recon reported fit gave made in
      let choice : outgoing.choice ≡ choice_from m candidate (fragment_count bytes) at = chose ∙ ap (λ k. choice_from m candidate k at) count in
      let next : IsNext m outgoing.choice = subst (IsNext m) (sym choice) (next_of codec m candidate (fragment_count bytes) at w s more low) in
      let target : outgoing.target.0 ≡ name_in codec (arc_value t) = target_is outgoing.target o bytes t recon named frame in
      let sound = frame_sound codec r.work o bytes t recon law may is frame in
      let sides : IsSized m.session.head r.work = sized_is codec m.session.head candidate.report r reported s.sized in
      let counts : outgoing.choice.count ≡ fragment_count bytes = ap (λ c. c.count) choice in
      record {
        gave = gave;
        made = made;
        count = counts;
        choice = choice;
        next = next;
        source = source;
        target = target;
        takes = taken_size codec m.session.head (arc_value t) r.work.samples sound.takes sides;
        cuts = is_cut codec m outgoing w next head (ap (λ c. c.first_serial) choice) (counts ∙ ap fragment_count (sym own)) (subst (λ xs. 1 ≤ length xs) (sym own) sound.frame.some) (sent_name outgoing.source _ long source) (sent_name outgoing.target _ long' target);
      }

  pub prepared : (m : Machine S) (candidate : Candidate (JobReport S)) (r : JobReport S) (bytes : List ℕ) (t : Arc S Z) (recon : Picture) (at : ℕ) (outgoing : OutgoingFrame) (got : PreparedFrame (Arc S Z)) → IsReady codec m candidate r bytes (arc_value t) recon at outgoing → candidate.report ≡ Some r → outgoing.bytes.now ≡ bytes → outgoing.session ≡ m.session.number → outgoing.head ≡ m.session.head → outgoing.pause ≡ pause_in m.sent_frames at → got.choice ≡ outgoing.choice → got.name ≡ outgoing.target → arc_value got.state ≡ arc_value t → got.sent_frames.items ≡ with_choice m.sent_frames outgoing.choice → got.burst ≡ datagrams_of outgoing outgoing.choice.count → IsPrepared codec m candidate at got
  prepared m candidate r bytes t recon at outgoing got k reported own number head pause a b c d e =
      let sent : datagrams_of outgoing outgoing.choice.count ≡ map fragment_bytes (burst_of codec m.session r.work.source (pause_in m.sent_frames at) outgoing.choice (record { bytes = outgoing.bytes.now; target = arc_value t; recon = recon }) m.sent) = burst_is codec outgoing m.session r.work.source (arc_value t) recon (pause_in m.sent_frames at) m.sent number head k.source k.target pause (ap (λ x. x.first_serial) k.choice) (k.count ∙ ap fragment_count (sym own)) in
      record {
        work = r.work;
        reported = reported ∙ ap (λ d. Some (record { work = r.work; gave = d })) k.gave;
        bytes = bytes;
        recon = recon;
        made = k.made ∙ ap (λ x. FrameOf bytes x recon) (sym c);
        choice = a ∙ k.choice;
        next = subst (IsNext m) (sym a) k.next;
        own = record { size = subst (λ x. codec.takes x m.session.head.width m.session.head.height) (sym c) k.takes; name = ap (λ x. x.0) b ∙ (k.target ∙ ap (name_in codec) (sym c)) };
        sent_frames = d ∙ ap (with_choice m.sent_frames) (sym a);
        burst = e ∙ (sent ∙ (ap (λ bs. map fragment_bytes (burst_of codec m.session r.work.source (pause_in m.sent_frames at) outgoing.choice (record { bytes = bs; target = arc_value t; recon = recon }) m.sent)) own ∙ (ap (λ x. map fragment_bytes (burst_of codec m.session r.work.source (pause_in m.sent_frames at) outgoing.choice (record { bytes = bytes; target = x; recon = recon }) m.sent)) (sym c) ∙ ap (λ x. map fragment_bytes (burst_of codec m.session r.work.source (pause_in m.sent_frames at) x (record { bytes = bytes; target = arc_value got.state; recon = recon }) m.sent)) (sym a))));
      }
