-- Acknowledgements that are heard.
use Rattle.std.proofs.Common.{◌≡◌, ◌≢◌, ℕ, ◌+◌, ◌<◌, ◌≤◌, max, Bool, true, false, cond, not, ◌&&◌, ◌||◌, List, [], ◌∷◌, ◌++◌, length, map, Option, Some, None, refl, ap, sym, ◌∙◌, subst, arith, eqb, leb, ltb}
use Rattle.std.proofs.lemmas.Bool.{eqb-true, eqb-false, leb-true, leb-false, ltb-true, ltb-false, le-leb, ne_eqb}
use Rattle.std.specs.List.{list_any, filter, filter_map, cons_option}
use Rattle.std.specs.Prelude.{Result, Ok}
use Rattle.std.proofs.lemmas.List.{append-nil}
use Rattle.std.proofs.lemmas.List.Folds.{list_any-append}
use Rattle.sal_wire.specs.declared.fault.WireFault.{WireFault}
use Rattle.sal_sender.specs.declared.ack_state.AckState.{AckState}
use Rattle.sal_sender.specs.AckState.{with_ack}
use Rattle.sal_base.specs.declared.name.Name.{Name}
use Rattle.sal_base.specs.Names.{same}
use Rattle.sal_codec.specs.Coding.{Coding}
use Rattle.sal_wire.specs.declared.datagram.Ack.{Ack}
use Rattle.sal_wire.specs.Message.{Message, AckMessage, message_of}
use Rattle.sal_wire.specs.declared.datagram.Datagram.{Datagram}
use Rattle.sal_wire.specs.declared.datagram.Datagram.TheVariants.{Ack as AckData}
use Rattle.sal_chain.specs.Held.{with_number}
use Rattle.sal_sender.specs.declared.choice.Choice.{Choice}
use Rattle.sal_sender.specs.declared.sent_frame.SentFrame.{SentFrame}
use Rattle.sal_sender.specs.declared.answers.Ignore.{Ignore}
use Rattle.sal_sender.specs.declared.answers.HeardAck.{HeardAck}
use Rattle.sal_sender.specs.declared.answers.HeardAck.TheVariants.{Heard, Ignored}
use Rattle.sal_sender.specs.declared.answers.Ignore.TheVariants.{Unsent, Name as OtherName}
use Rattle.sal_sender.specs.Past.{Past, Hear, choices, floor, floor_of, tip, tip_of, pictures, datagrams, last_job, now}
use Rattle.sal_chain.specs.Held.{name_in}
use Rattle.sal_sender.specs.Chain.{state}
use Rattle.sal_sender.specs.Acks.{acknowledged, heard, average, heard_at}
use Rattle.sal_sender.specs.Choosing.{first_in, first_some}
use Rattle.sal_sender.specs.Answers.{unsent_or_misnamed, first_wrong, newly_named, fresh, unless_wrong, ack_answer, heard_answer}
use Rattle.sal_sender.specs.SentFrames.{sent_frame_of, choices_from, is_acknowledged_in, acknowledged_by}
use Rattle.sal_sender.specs.Hearing.{against, unsent_or_misnamed_in, first_wrong_in, newly_in, ack_answer_in, after_ack}
use Rattle.sal_sender.specs.Sound.{AreChained}
use Rattle.sal_sender.specs.Machine.{Machine}
use Rattle.sal_sender.specs.Stands.{Summary, summary, kept_in, Keeps, SenderStands}
use Rattle.sal_sender.proofs.Sound.{chained_of_legal, tip_is}
use Rattle.sal_sender.proofs.Quiet.{same_parts, quiet_ignored, stands_quiet}

abbrev is_in : List ℕ → ℕ → Bool
is_in xs n = list_any (λ m. eqb m n) xs

-- a floor is at least 1
pub floor_some : (chosen : List Choice) → AreChained chosen → 1 ≤ floor_of chosen
floor_some [] chained = omega arith
floor_some (c ∷ older) chained = let ih : 1 ≤ floor_of older = floor_some older chained.1 in omega (arith, chained.0.rising)

or_first : {X : Type 0} (o p : Option X) (rest : List X) → o ≡ p → first_some o (first_in rest) ≡ first_in (cons_option p rest)
or_first None p rest e = rw (sym e) refl
or_first (Some x) p rest e = rw (sym e) refl

module _ {S : Type 0} (codec : Coding S) where
  against_step : (b d : Bool) (s : Summary) (h : ℕ × Name) → ltb (tip_of s.chosen) h.0 ≡ b → leb (floor_of s.chosen) h.0 ≡ true → cond b (Some (Unsent h.0)) (against h (kept_in codec s h.0)) ≡ cond b (Some (Unsent h.0)) (cond (same (name_in codec (state codec s.shot s.chosen h.0)) h.1.0) None (Some (OtherName h.0 (record { 0 = name_in codec (state codec s.shot s.chosen h.0) }) h.1)))
  against_step true d s h e f = refl
  against_step false d s h e f = rw (f, le-leb h.0 (tip_of s.chosen) (ltb-false _ _ e)) refl

  wrong_is : (m : Machine S) (past : Past) (h : ℕ × Name) → Keeps codec m (summary past) → leb (floor past) h.0 ≡ true → unsent_or_misnamed_in m.tip m.store.kept h ≡ unsent_or_misnamed codec past h
  wrong_is m past h k low =
      ap (λ t. cond (ltb t h.0) (Some (Unsent h.0)) (against h (with_number h.0 m.store.kept))) k.tip_is
      ∙ (ap (λ o. cond (ltb (tip past) h.0) (Some (Unsent h.0)) (against h o)) (k.states_are h.0)
      ∙ against_step (ltb (tip past) h.0) true (summary past) h refl low)

  first_step : (b : Bool) (m : Machine S) (past : Past) (h : ℕ × Name) (more : List (ℕ × Name)) → Keeps codec m (summary past) → leb (floor past) h.0 ≡ b → first_wrong_in m.floor m.tip m.store.kept more ≡ first_in (filter_map (unsent_or_misnamed codec past) (filter (λ x. leb (floor past) x.0) more)) → cond b (first_some (unsent_or_misnamed_in m.tip m.store.kept h) (first_wrong_in m.floor m.tip m.store.kept more)) (first_wrong_in m.floor m.tip m.store.kept more) ≡ first_in (filter_map (unsent_or_misnamed codec past) (cond b (h ∷ filter (λ x. leb (floor past) x.0) more) (filter (λ x. leb (floor past) x.0) more)))
  first_step true m past h more k low ih =
      ap (λ o. first_some (unsent_or_misnamed_in m.tip m.store.kept h) o) ih ∙ or_first (unsent_or_misnamed_in m.tip m.store.kept h) (unsent_or_misnamed codec past h) (filter_map (unsent_or_misnamed codec past) (filter (λ x. leb (floor past) x.0) more)) (wrong_is m past h k low)
  first_step false m past h more k low ih = ih

  first_is : (m : Machine S) (past : Past) (held : List (ℕ × Name)) → Keeps codec m (summary past) → first_wrong_in m.floor m.tip m.store.kept held ≡ first_in (filter_map (unsent_or_misnamed codec past) (filter (λ x. leb (floor past) x.0) held))
  unfolding first_wrong_in
  first_is m past [] k = refl
  first_is m past (h ∷ more) k =
      ap (λ f. cond (leb f h.0) (first_some (unsent_or_misnamed_in m.tip m.store.kept h) (first_wrong_in m.floor m.tip m.store.kept more)) (first_wrong_in m.floor m.tip m.store.kept more)) k.floor_is
      ∙ first_step (leb (floor past) h.0) m past h more k refl (first_is m past more k)

-- a number that isn't among these has no link that is acknowledged
no_link : (acked : List ℕ) (n : ℕ) (cs : List Choice) → is_in acked n ≡ false → is_acknowledged_in (map (sent_frame_of acked) cs) n ≡ false
no_link acked n [] h = refl
no_link acked n (c ∷ cs) h = go (eqb c.number n) refl (no_link acked n cs h)
  where
    go : (b : Bool) → eqb c.number n ≡ b → is_acknowledged_in (map (sent_frame_of acked) cs) n ≡ false → ((b && is_in acked c.number) || is_acknowledged_in (map (sent_frame_of acked) cs) n) ≡ false
    go true e ih = rw (ap (is_in acked) (eqb-true _ _ e) ∙ h) ih
    go false e ih = ih

either : (p q : Bool) → (p ≡ false → q ≡ false) → (p || q) ≡ p
either true q h = refl
either false q h = h refl

acked_step : (b d : Bool) (acked : List ℕ) (n f : ℕ) (c : Choice) (older : List Choice) → eqb c.number n ≡ b → leb f c.number ≡ d → f ≤ n → (b ≡ false → is_acknowledged_in (map (sent_frame_of acked) (choices_from f older)) n ≡ is_in acked n) → is_acknowledged_in (map (sent_frame_of acked) (cond d (c ∷ choices_from f older) (choices_from f older))) n ≡ is_in acked n
acked_step true true acked n f c older e g low ih =
    let p : is_in acked c.number ≡ is_in acked n = ap (is_in acked) (eqb-true _ _ e) in
    rw (e, p) (either (is_in acked n) _ (λ h. no_link acked n (choices_from f older) h))
acked_step true false acked n f c older e g low ih = absurd (let p : c.number ≡ n = eqb-true _ _ e in let q : c.number < f = leb-false _ _ g in omega arith)
acked_step false true acked n f c older e g low ih = rw e (ih refl)
acked_step false false acked n f c older e g low ih = ih refl

-- a number from the floor to the tip is acknowledged where its link is
acked_link : (acked : List ℕ) (n f : ℕ) (chosen : List Choice) → AreChained chosen → f ≤ n → 1 ≤ f → n ≤ length chosen → is_acknowledged_in (map (sent_frame_of acked) (choices_from f chosen)) n ≡ is_in acked n
acked_link acked n f [] chained low some high = absurd (omega arith)
acked_link acked n f (c ∷ older) chained low some high =
    acked_step (eqb c.number n) (leb f c.number) acked n f c older refl refl low
    (λ (e : eqb c.number n ≡ false). acked_link acked n f older chained.1 low some (let other : c.number ≢ n = eqb-false _ _ e in omega (arith, chained.0.number)))

-- the first of these is none, so the first one isn't, and so on
none_first : {X : Type 0} (o p : Option X) → first_some o p ≡ None → (o ≡ None) × (p ≡ None)
none_first None p h = (refl, h)
none_first (Some x) p h = absurd (cc)

some_none : (b : Bool) (why : Ignore) (o : Option Ignore) → cond b (Some why) o ≡ None → b ≡ false
some_none true why o h = absurd (cc)
some_none false why o h = refl

module _ {S : Type 0} (codec : Coding S) where
  new_step : (b : Bool) (m : Machine S) (past : Past) (h : ℕ × Name) (rest : List (ℕ × Name)) → Keeps codec m (summary past) → AreChained (choices past) → leb (floor past) h.0 ≡ b → cond b (first_some (unsent_or_misnamed_in m.tip m.store.kept h) (first_wrong_in m.floor m.tip m.store.kept rest)) (first_wrong_in m.floor m.tip m.store.kept rest) ≡ None → (first_wrong_in m.floor m.tip m.store.kept rest ≡ None → newly_in m.sent_frames (floor past) rest ≡ filter (λ n. not (is_in (acknowledged past) n)) (filter (λ n. leb (floor past) n) (map (λ x. x.0) rest))) → cond (b && not (is_acknowledged_in m.sent_frames h.0)) (h.0 ∷ newly_in m.sent_frames (floor past) rest) (newly_in m.sent_frames (floor past) rest) ≡ filter (λ n. not (is_in (acknowledged past) n)) (cond b (h.0 ∷ filter (λ n. leb (floor past) n) (map (λ x. x.0) rest)) (filter (λ n. leb (floor past) n) (map (λ x. x.0) rest)))
  new_step true m past h rest k chained low none ih =
      let parts = none_first (unsent_or_misnamed_in m.tip m.store.kept h) (first_wrong_in m.floor m.tip m.store.kept rest) none in
      let high : h.0 ≤ m.tip = ltb-false _ _ (some_none (ltb m.tip h.0) (Unsent h.0) (against h (with_number h.0 m.store.kept)) parts.0) in
      let long : h.0 ≤ length (choices past) = omega (arith, high, k.tip_is, tip_is (choices past) chained) in
      let same : is_acknowledged_in m.sent_frames h.0 ≡ is_in (acknowledged past) h.0 = ap (λ ls. is_acknowledged_in ls h.0) k.sent_frames_are ∙ acked_link (acknowledged past) h.0 (floor past) (choices past) chained (leb-true _ _ low) (floor_some (choices past) chained) long in
      rw (same, ih parts.1) refl
  new_step false m past h rest k chained low none ih = ih none

  newly_is : (m : Machine S) (past : Past) (held : List (ℕ × Name)) → Keeps codec m (summary past) → AreChained (choices past) → first_wrong_in m.floor m.tip m.store.kept held ≡ None → newly_in m.sent_frames (floor past) held ≡ filter (λ n. not (is_in (acknowledged past) n)) (filter (λ n. leb (floor past) n) (map (λ x. x.0) held))
  unfolding first_wrong_in
  newly_is m past [] k chained none = refl
  newly_is m past (h ∷ rest) k chained none =
      new_step (leb (floor past) h.0) m past h rest k chained refl
      (sym (ap (λ f. cond (leb f h.0) (first_some (unsent_or_misnamed_in m.tip m.store.kept h) (first_wrong_in m.floor m.tip m.store.kept rest)) (first_wrong_in m.floor m.tip m.store.kept rest)) k.floor_is) ∙ none)
      (λ (n : first_wrong_in m.floor m.tip m.store.kept rest ≡ None). newly_is m past rest k chained n)

  wrong_or_fresh : (o : Option Ignore) (m : Machine S) (past : Past) (ack : Ack) → Keeps codec m (summary past) → AreChained (choices past) → first_wrong_in m.floor m.tip m.store.kept ack.held ≡ o → unless_wrong o (fresh m.acks.heard ack.serial (newly_in m.sent_frames m.floor ack.held)) ≡ unless_wrong o (fresh (heard past) ack.serial (newly_named past ack))
  wrong_or_fresh (Some why) m past ack k chained e = refl
  wrong_or_fresh None m past ack k chained e =
      ap (λ h. fresh h ack.serial (newly_in m.sent_frames m.floor ack.held)) k.heard_is
      ∙ (ap (λ f. fresh (heard past) ack.serial (newly_in m.sent_frames f ack.held)) k.floor_is
      ∙ ap (fresh (heard past) ack.serial) (newly_is m past ack.held k chained e))

  judged_step : (m : Machine S) (past : Past) (ack : Ack) → Keeps codec m (summary past) → AreChained (choices past) → unless_wrong (first_wrong_in m.floor m.tip m.store.kept ack.held) (fresh m.acks.heard ack.serial (newly_in m.sent_frames m.floor ack.held)) ≡ unless_wrong (first_wrong codec past ack) (fresh (heard past) ack.serial (newly_named past ack))
  judged_step m past ack k chained =
      wrong_or_fresh (first_wrong_in m.floor m.tip m.store.kept ack.held) m past ack k chained refl
      ∙ ap (λ o. unless_wrong o (fresh (heard past) ack.serial (newly_named past ack))) (first_is codec m past ack.held k)

  -- what is kept decides as the past does
  judged_is : (m : Machine S) (past : Past) (ack : Ack) → Keeps codec m (summary past) → AreChained (choices past) → ack_answer_in m ack ≡ ack_answer codec m.session past ack
  judged_is m past ack k chained = rw (k.sent_is, judged_step m past ack k chained) refl

named_step : (b : Bool) (n f : ℕ) (x : ℕ) (rest : List ℕ) (q : Bool) → leb f x ≡ b → f ≤ n → list_any (λ m. eqb m n) rest ≡ q → list_any (λ m. eqb m n) (cond b (x ∷ rest) rest) ≡ (eqb x n || q)
named_step true n f x rest q e low h = ap (λ p. eqb x n || p) h
named_step false n f x rest q e low h = let other : eqb x n ≡ false = ne_eqb x n (λ (s : x ≡ n). let lower : x < f = leb-false _ _ e in omega arith) in rw other h

-- a number at or above the floor is named where it stands in the acknowledgement
named_any : (held : List (ℕ × Name)) (f n : ℕ) → f ≤ n → list_any (λ m. eqb m n) (filter (λ m. leb f m) (map (λ h. h.0) held)) ≡ list_any (λ h. eqb h.0 n) held
named_any [] f n low = refl
named_any (h ∷ more) f n low = named_step (leb f h.0) n f h.0 (filter (λ m. leb f m) (map (λ x. x.0) more)) (list_any (λ x. eqb x.0 n) more) refl low (named_any more f n low)

or_swap : (p q : Bool) → (p || q) ≡ (q || p)
or_swap true true = refl
or_swap true false = refl
or_swap false true = refl
or_swap false false = refl

same_link : (c : Choice) (p q : Bool) → p ≡ q → ◌≡◌ {A = SentFrame} (record { choice = c; is_acknowledged = p }) (record { choice = c; is_acknowledged = q })
same_link c p q e = cc

heard_step : (b : Bool) (acked : List ℕ) (held : List (ℕ × Name)) (f : ℕ) (c : Choice) (rest : List Choice) → leb f c.number ≡ b → map (acknowledged_by held) (map (sent_frame_of acked) rest) ≡ map (sent_frame_of (filter (λ m. leb f m) (map (λ h. h.0) held) ++ acked)) rest → map (acknowledged_by held) (map (sent_frame_of acked) (cond b (c ∷ rest) rest)) ≡ map (sent_frame_of (filter (λ m. leb f m) (map (λ h. h.0) held) ++ acked)) (cond b (c ∷ rest) rest)
heard_step true acked held f c rest e ih =
    let named : List ℕ = filter (λ m. leb f m) (map (λ h. h.0) held) in
    let flag : (is_in acked c.number || list_any (λ h. eqb h.0 c.number) held) ≡ is_in (named ++ acked) c.number =
    or_swap (is_in acked c.number) (list_any (λ h. eqb h.0 c.number) held) ∙ (ap (λ p. p || is_in acked c.number) (sym (named_any held f c.number (leb-true _ _ e))) ∙ sym (list_any-append (λ m. eqb m c.number) named acked)) in
    ap (λ l. l ∷ map (acknowledged_by held) (map (sent_frame_of acked) rest)) (same_link c _ _ flag) ∙ ap (λ ls. sent_frame_of (named ++ acked) c ∷ ls) ih
heard_step false acked held f c rest e ih = ih

-- the links after an acknowledgement
links_heard : (acked : List ℕ) (held : List (ℕ × Name)) (f : ℕ) (chosen : List Choice) → map (acknowledged_by held) (map (sent_frame_of acked) (choices_from f chosen)) ≡ map (sent_frame_of (filter (λ m. leb f m) (map (λ h. h.0) held) ++ acked)) (choices_from f chosen)
links_heard acked held f [] = refl
links_heard acked held f (c ∷ older) = heard_step (leb f c.number) acked held f c (choices_from f older) refl (links_heard acked held f older)

greater_step : (b : Bool) (h serial : ℕ) → ltb h serial ≡ b → (cond b serial h) ≡ max serial h
greater_step true h serial e = let q : h < serial = ltb-true _ _ e in omega arith
greater_step false h serial e = let q : serial ≤ h = ltb-false _ _ e in omega arith

module _ {S : Type 0} (codec : Coding S) where
  tally_step : (b : Bool) (serial gap moment : ℕ) (t : AckState) (h a at n : ℕ) → ltb h serial ≡ b → t.heard ≡ h → t.average ≡ a → t.heard_at ≡ at → t.moment ≡ n → (((with_ack serial gap moment t).heard ≡ max serial h) × ((with_ack serial gap moment t).average ≡ cond b gap a)) × (((with_ack serial gap moment t).heard_at ≡ cond b (max n moment) at) × ((with_ack serial gap moment t).moment ≡ max moment n))
  tally_step true serial gap moment t h a at n e p q r s = let l : h < serial = ltb-true _ _ e in rw (p, e) ((omega arith, refl), (ap (λ x. max x moment) s, omega (arith, s)))
  tally_step false serial gap moment t h a at n e p q r s = let l : serial ≤ h = ltb-false _ _ e in rw (p, e) ((omega (arith, p), q), (r, omega (arith, s)))

  keeps_heard : (m : Machine S) (past : Past) (ack : Ack) (moment : ℕ) (numbers : List ℕ) → Keeps codec m (summary past) → Keeps codec (after_ack m ack moment (Heard numbers)) (record (summary past) { acknowledged = acknowledged (Hear (Ok (AckMessage ack)) moment (Heard numbers) ∷ past); heard = heard (Hear (Ok (AckMessage ack)) moment (Heard numbers) ∷ past); average = average (Hear (Ok (AckMessage ack)) moment (Heard numbers) ∷ past); heard_at = heard_at (Hear (Ok (AckMessage ack)) moment (Heard numbers) ∷ past); now = max moment (now past) })
  keeps_heard m past ack moment numbers k =
      let t = tally_step (ltb (heard past) ack.serial) ack.serial ack.gap moment m.acks (heard past) (average past) (heard_at past) (now past) refl k.heard_is k.average_is k.heard_at_is k.moment_is in
      record {
        tip_is = k.tip_is;
        floor_is = k.floor_is;
        sent_is = k.sent_is;
        pictures_is = k.pictures_is;
        last_job_is = k.last_job_is;
        quantiser_is = k.quantiser_is;
        heard_is = t.0.0;
        average_is = t.0.1;
        heard_at_is = t.1.0;
        moment_is = t.1.1;
        sent_frames_are = ap (map (acknowledged_by ack.held)) k.sent_frames_are ∙ links_heard (acknowledged past) ack.held (floor past) (choices past);
        states_are = k.states_are;
        open_is = k.open_is;
        waiting_are = k.waiting_are;
        outstanding_long = k.outstanding_long;
        outstanding_are = k.outstanding_are;
      }

  heard_stands : (m : Machine S) (past : Past) (ack : Ack) (moment : ℕ) (answer : HeardAck) → SenderStands codec m past → answer ≡ ack_answer codec m.session past ack → SenderStands codec (after_ack m ack moment answer) (Hear (Ok (AckMessage ack)) moment answer ∷ past)
  heard_stands m past ack moment (Ignored why) s is = (stands_quiet codec m past (Hear (Ok (AckMessage ack)) moment (Ignored why)) s is (quiet_ignored past (Ok (AckMessage ack)) moment why)).1
  heard_stands m past ack moment (Heard numbers) s is =
      let t = record (summary past) { acknowledged = acknowledged (Hear (Ok (AckMessage ack)) moment (Heard numbers) ∷ past); heard = heard (Hear (Ok (AckMessage ack)) moment (Heard numbers) ∷ past); average = average (Hear (Ok (AckMessage ack)) moment (Heard numbers) ∷ past); heard_at = heard_at (Hear (Ok (AckMessage ack)) moment (Heard numbers) ∷ past); now = max moment (now past) } in
      let e = same_parts t (pictures past ++ []) (max moment (now past)) (length (datagrams past ++ [])) (0 + last_job past) (append-nil (pictures past)) refl (ap (λ (xs : List (List ℕ)). length xs) (append-nil (datagrams past))) (omega arith) in
      record { legal = (is, s.legal); keeps = subst (λ x. Keeps codec (after_ack m ack moment (Heard numbers)) x) (sym e) (keeps_heard m past ack moment numbers s.keeps) }

  -- a sender takes an acknowledgement
  pub ack_taken : (m new : Machine S) (past : Past) (ack : Ack) (moment : ℕ) (answer : HeardAck) (bytes : Result Message WireFault) → SenderStands codec m past → answer ≡ ack_answer_in m ack → new ≡ after_ack m ack moment answer → Ok (AckMessage ack) ≡ bytes → (answer ≡ heard_answer codec m.session past bytes) × SenderStands codec new (Hear bytes moment answer ∷ past)
  ack_taken m new past ack moment answer bytes s is after came =
      let says : answer ≡ ack_answer codec m.session past ack = is ∙ judged_is codec m past ack s.keeps (chained_of_legal codec m.session past s.legal) in
      let stands : SenderStands codec new (Hear (Ok (AckMessage ack)) moment answer ∷ past) = subst (λ v. SenderStands codec v (Hear (Ok (AckMessage ack)) moment answer ∷ past)) (sym after) (heard_stands m past ack moment answer s says) in
      subst (λ b. (answer ≡ heard_answer codec m.session past b) × SenderStands codec new (Hear b moment answer ∷ past)) came (says, stands)

-- a datagram that is an acknowledgement
pub came_ack : (d : Datagram) (ack : Ack) (bytes : Result Message WireFault) → d ≡ AckData ack → ◌≡◌ {A = Result Message WireFault} (Ok (message_of d)) bytes → ◌≡◌ {A = Result Message WireFault} (Ok (AckMessage ack)) bytes
came_ack d ack bytes e h = subst (λ x. ◌≡◌ {A = Result Message WireFault} (Ok (message_of x)) bytes) e h
