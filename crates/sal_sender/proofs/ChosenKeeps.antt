-- What a sender keeps after a choice.
use Rattle.std.proofs.Common.{◌≡◌, ◌≢◌, ℕ, ◌+◌, ◌<◌, ◌≤◌, max, Bool, true, false, cond, not, ◌&&◌, List, [], ◌∷◌, length, map, Option, Some, None, refl, ap, sym, ◌∙◌, subst, arith, eqb, leb, ltb}
use Rattle.std.proofs.lemmas.Bool.{eqb-true, eqb-false, ne_eqb, leb-true, leb-false, le-leb, lt-leb}
use Rattle.std.specs.List.{list_any, filter}
use Rattle.sal_base.specs.Lists.{Each}
use Rattle.sal_base.specs.declared.name.Name.{Name}
use Rattle.sal_base.specs.declared.picture.Picture.{Picture}
use Rattle.sal_codec.specs.Coding.{Coding}
use Rattle.sal_chain.specs.declared.stored_state.StoredState.{StoredState}
use Rattle.sal_chain.specs.Held.{with_number, inserted, not_below}
use Rattle.sal_sender.specs.declared.choice.Choice.{Choice}
use Rattle.sal_sender.specs.declared.sent_frame.SentFrame.{SentFrame}
use Rattle.sal_sender.specs.declared.answers.Next.TheVariants.{Started, NotChosen, Full, Memory as NextMemory}
use Rattle.sal_sender.specs.declared.answers.Chosen.TheVariants.{NoPicture, Waiting, Sent, Nothing, Memory}
use Rattle.sal_sender.specs.Past.{Past, NextPicture, TakeJob, Report, Choose, Hear, choices, pictures, opened, started, now, sent, tip, tip_of, floor, floor_of}
use Rattle.sal_chain.specs.Held.{name_in}
use Rattle.sal_sender.specs.Chain.{state}
use Rattle.sal_sender.specs.Acks.{acknowledged}
use Rattle.sal_sender.specs.Jobs.{Job}
use Rattle.sal_sender.specs.Answers.{jobs_after, is_taken, waiting_jobs}
use Rattle.sal_sender.specs.SentFrames.{sent_frame_of, choices_from, sent_frames_of}
use Rattle.sal_sender.specs.Sending.{with_choice, after_choice, IsNext}
use Rattle.sal_sender.specs.Sound.{AreChained}
use Rattle.sal_sender.specs.Machine.{Machine}
use Rattle.sal_sender.specs.Stands.{Summary, summary, work_in, kept_in, Keeps, SenderStands}
use Rattle.sal_sender.proofs.HandedOut.{each_filter}
use Rattle.sal_sender.proofs.Older.{state_older}
use Rattle.sal_sender.proofs.Sound.{tip_is, sound_of_legal}

module _ {T : Type 0} where
  -- what is found above a floor
  from_number : (n f : ℕ) (kept : List (StoredState T)) → with_number n (not_below f kept) ≡ cond (leb f n) (with_number n kept) None
  from_number n f [] = go (leb f n)
    where
      go : (b : Bool) → ◌≡◌ {A = Option (StoredState T)} None (cond b None None)
      go true = refl
      go false = refl
  from_number n f (x ∷ kept) = go (eqb x.number n) (leb f x.number) refl refl (from_number n f kept)
    where
      go : (b d : Bool) → eqb x.number n ≡ b → leb f x.number ≡ d → with_number n (not_below f kept) ≡ cond (leb f n) (with_number n kept) None → with_number n (cond d (x ∷ not_below f kept) (not_below f kept)) ≡ cond (leb f n) (cond b (Some x) (with_number n kept)) None
      go true true e g ih = let p : leb f n ≡ true = ap (leb f) (sym (eqb-true _ _ e)) ∙ g in rw (e, p) refl
      go true false e g ih = let p : leb f n ≡ false = ap (leb f) (sym (eqb-true _ _ e)) ∙ g in ih ∙ (ap (λ b. cond b (with_number n kept) None) p ∙ sym (ap (λ b. cond b (Some x) None) p))
      go false true e g ih = rw e ih
      go false false e g ih = ih

  other_kept : (b : Bool) (x : StoredState T) (rest : Option (StoredState T)) → cond b (Some x) rest ≡ None → (b ≡ false) × (rest ≡ None)
  other_kept true x rest h = absurd (cc)
  other_kept false x rest h = (refl, h)

  swap : (b d : Bool) (n : ℕ) (x k : StoredState T) (o : Option (StoredState T)) → eqb x.number n ≡ b → eqb k.number n ≡ d → x.number ≢ k.number → cond b (Some x) (cond d (Some k) o) ≡ cond d (Some k) (cond b (Some x) o)
  swap true true n x k o e f other = absurd (other (eqb-true _ _ e ∙ sym (eqb-true _ _ f)))
  swap true false n x k o e f other = refl
  swap false true n x k o e f other = refl
  swap false false n x k o e f other = refl

  -- a new number is found beside the others
  number_placed : (n : ℕ) (k : StoredState T) (kept : List (StoredState T)) → with_number k.number kept ≡ None → with_number n (inserted k kept) ≡ cond (eqb k.number n) (Some k) (with_number n kept)
  number_placed n k [] h = refl
  number_placed n k (x ∷ kept) h =
      let other = other_kept (eqb x.number k.number) x (with_number k.number kept) h in
      go (ltb k.number x.number) (eqb-false _ _ other.0) (number_placed n k kept other.1)
    where
      go : (d : Bool) → x.number ≢ k.number → with_number n (inserted k kept) ≡ cond (eqb k.number n) (Some k) (with_number n kept) → with_number n (cond d (k ∷ x ∷ kept) (x ∷ inserted k kept)) ≡ cond (eqb k.number n) (Some k) (cond (eqb x.number n) (Some x) (with_number n kept))
      go true other ih = refl
      go false other ih = ap (λ o. cond (eqb x.number n) (Some x) o) ih ∙ swap (eqb x.number n) (eqb k.number n) n x k (with_number n kept) refl refl other

-- of the links from a floor on, those from a higher one on
links_filter : (acked : List ℕ) (f g : ℕ) (cs : List Choice) → f ≤ g → filter (λ l. leb g l.choice.number) (map (sent_frame_of acked) (choices_from f cs)) ≡ map (sent_frame_of acked) (choices_from g cs)
links_filter acked f g [] low = refl
links_filter acked f g (c ∷ cs) low = go (leb f c.number) (leb g c.number) refl refl (links_filter acked f g cs low)
  where
    go : (b d : Bool) → leb f c.number ≡ b → leb g c.number ≡ d → filter (λ l. leb g l.choice.number) (map (sent_frame_of acked) (choices_from f cs)) ≡ map (sent_frame_of acked) (choices_from g cs) → filter (λ l. leb g l.choice.number) (map (sent_frame_of acked) (cond b (c ∷ choices_from f cs) (choices_from f cs))) ≡ map (sent_frame_of acked) (cond d (c ∷ choices_from g cs) (choices_from g cs))
    go true true e h ih = rw h (ap (λ ls. sent_frame_of acked c ∷ ls) ih)
    go true false e h ih = rw h ih
    go false true e h ih = absurd (let a : g ≤ c.number = leb-true _ _ h in let b : c.number < f = leb-false _ _ e in omega arith)
    go false false e h ih = ih

-- a number above all of these is none of them
not_acked : (acked : List ℕ) (tip n : ℕ) → Each (λ k. k ≤ tip) acked → tip < n → list_any (λ k. eqb k n) acked ≡ false
not_acked [] tip n e h = refl
not_acked (k ∷ acked) tip n e h =
    let low : k ≤ tip = e.0 in
    let other : eqb k n ≡ false = ne_eqb k n (λ (q : k ≡ n). omega arith) in
    rw other (not_acked acked tip n e.1 h)

new_link : (c : Choice) (b : Bool) → b ≡ false → ◌≡◌ {A = SentFrame} (record { choice = c; is_acknowledged = false }) (record { choice = c; is_acknowledged = b })
new_link c b e = cc

-- the links after a choice
links_after : (acked : List ℕ) (chosen : List Choice) (c : Choice) (tip : ℕ) → Each (λ k. k ≤ tip) acked → tip < c.number → floor_of chosen ≤ c.floor → c.floor ≤ c.number → with_choice (sent_frames_of acked chosen) c ≡ sent_frames_of acked (c ∷ chosen)
links_after acked chosen c tip low high rising below =
    rw (le-leb c.floor c.number below) (ap (λ ls. record { choice = c; is_acknowledged = false } ∷ ls) (links_filter acked (floor_of chosen) c.floor chosen rising)
    ∙ ap (λ l. l ∷ map (sent_frame_of acked) (choices_from c.floor chosen)) (new_link c _ (not_acked acked tip c.number low high)))

-- a picture that is open is the newest
pub started_is : (past before : Past) → opened past ≡ Some before → started past ≡ Some before
started_is [] before h = absurd (cc)
started_is (NextPicture picture moment (Started jobs) ∷ past) before h = h
started_is (NextPicture picture moment (NotChosen n) ∷ past) before h = started_is past before h
started_is (NextPicture picture moment Full ∷ past) before h = started_is past before h
started_is (NextPicture picture moment NextMemory ∷ past) before h = started_is past before h
started_is (TakeJob answer ∷ past) before h = started_is past before h
started_is (Report job gave answer ∷ past) before h = started_is past before h
started_is (Hear came moment answer ∷ past) before h = started_is past before h
started_is (Choose moment (Sent choice burst) ∷ past) before h = absurd (cc)
started_is (Choose moment (Nothing budget sizes) ∷ past) before h = absurd (cc)
started_is (Choose moment NoPicture ∷ past) before h = started_is past before h
started_is (Choose moment (Waiting id) ∷ past) before h = started_is past before h
started_is (Choose moment Memory ∷ past) before h = started_is past before h

abbrev named_so : List ℕ → Name
named_so bytes = record { 0 = bytes }

module _ {S : Type 0} (codec : Coding S) where
  pub work_same : (shot : List Picture) (c : Choice) (older : List Choice) (job : Job) → AreChained (c ∷ older) → job.source ≤ length older → work_in codec shot older job ≡ work_in codec shot (c ∷ older) job
  work_same shot c older job chained low = rw (state_older codec shot c older job.source chained low) refl

  -- jobs that wait stay as they were
  works_same : (shot : List Picture) (c : Choice) (older : List Choice) (js : List Job) → AreChained (c ∷ older) → Each (λ j. j.source ≤ length older) js → map (work_in codec shot older) js ≡ map (work_in codec shot (c ∷ older)) js
  works_same shot c older [] chained e = refl
  works_same shot c older (j ∷ js) chained e = rw (work_same shot c older j chained e.0) (ap (λ ws. work_in codec shot (c ∷ older) j ∷ ws) (works_same shot c older js chained e.1))

  abbrev kept_as : ℕ → S → StoredState S
  kept_as n s = record { number = n; name = record { 0 = name_in codec s }; state = s }

  own_kept : (n k : ℕ) (name : Name) (s t : S) → k ≡ n → name.0 ≡ name_in codec s → t ≡ s → ◌≡◌ {A = StoredState S} (record { number = k; name = name; state = s }) (kept_as n t)
  own_kept n k name s t a b c =
      let e : name ≡ record { 0 = name_in codec s } = ap named_so b in
      rw (a, e, c) refl

  state_step : (b d e : Bool) (shot : List Picture) (c : Choice) (older : List Choice) (name : Name) (s : S) (n : ℕ) → eqb c.number n ≡ b → leb c.floor n ≡ d → leb n (tip_of older) ≡ e → AreChained (c ∷ older) → c.number ≡ tip_of older + 1 → floor_of older ≤ c.floor → c.floor ≤ c.number → name.0 ≡ name_in codec s → state codec shot (c ∷ older) c.number ≡ s
      → cond b (Some (record { number = c.number; name = name; state = s })) (cond d (cond (leb (floor_of older) n && e) (Some (kept_as n (state codec shot older n))) None) None) ≡ cond (d && leb n c.number) (Some (kept_as n (state codec shot (c ∷ older) n))) None
  state_step true true e shot c older name s n p q r chained next rising below named made =
      let same : c.number ≡ n = eqb-true _ _ p in
      let high : leb n c.number ≡ true = le-leb n c.number (omega (arith, same)) in
      rw high (ap (λ k. Some k) (own_kept n c.number name s (state codec shot (c ∷ older) n) same named (ap (state codec shot (c ∷ older)) (sym same) ∙ made)))
  state_step true false e shot c older name s n p q r chained next rising below named made = absurd (let a : n < c.floor = leb-false _ _ q in let same : c.number ≡ n = eqb-true _ _ p in omega arith)
  state_step false true true shot c older name s n p q r chained next rising below named made =
      let a : c.floor ≤ n = leb-true _ _ q in
      let b : n ≤ tip_of older = leb-true _ _ r in
      let low : leb (floor_of older) n ≡ true = le-leb (floor_of older) n (omega arith) in
      let high : leb n c.number ≡ true = le-leb n c.number (omega arith) in
      rw (low, high, state_older codec shot c older n chained (omega (arith, b, tip_is older chained.1))) refl
  state_step false true false shot c older name s n p q r chained next rising below named made =
      let a : c.floor ≤ n = leb-true _ _ q in
      let b : tip_of older < n = leb-false _ _ r in
      let other : c.number ≢ n = eqb-false _ _ p in
      let low : leb (floor_of older) n ≡ true = le-leb (floor_of older) n (omega arith) in
      let high : leb n c.number ≡ false = lt-leb n c.number (omega (arith, b, other, next)) in
      rw (low, high) refl
  state_step false false e shot c older name s n p q r chained next rising below named made = refl

  -- the states after a choice
  states_after : (s : Summary) (kept : List (StoredState S)) (c : Choice) (name : Name) (t : S) (f : ℕ) (n : ℕ) → ((k : ℕ) → with_number k kept ≡ kept_in codec s k) → f ≡ c.floor → AreChained (c ∷ s.chosen) → c.number ≡ tip_of s.chosen + 1 → floor_of s.chosen ≤ c.floor → c.floor ≤ c.number → name.0 ≡ name_in codec t → state codec s.shot (c ∷ s.chosen) c.number ≡ t → with_number n (inserted (record { number = c.number; name = name; state = t }) (not_below f kept)) ≡ kept_in codec (record s { chosen = c ∷ s.chosen }) n
  states_after s kept c name t f n are floor chained next rising below named made =
      let high : leb c.number (tip_of s.chosen) ≡ false = lt-leb c.number (tip_of s.chosen) (omega (arith, next)) in
      let absent : with_number c.number kept ≡ None = are c.number ∙ none_there (leb (floor_of s.chosen) c.number) (leb c.number (tip_of s.chosen)) (kept_as c.number (state codec s.shot s.chosen c.number)) high in
      let fresh : with_number c.number (not_below f kept) ≡ None = from_number c.number f kept ∙ (ap (λ o. cond (leb f c.number) o None) absent ∙ same_none (leb f c.number)) in
      number_placed n (record { number = c.number; name = name; state = t }) (not_below f kept) fresh
      ∙ (ap (λ o. cond (eqb c.number n) (Some (record { number = c.number; name = name; state = t })) o) (from_number n f kept ∙ (ap (λ g. cond (leb g n) (with_number n kept) None) floor ∙ ap (λ o. cond (leb c.floor n) o None) (are n)))
      ∙ state_step (eqb c.number n) (leb c.floor n) (leb n (tip_of s.chosen)) s.shot c s.chosen name t n refl refl refl chained next rising below named made)
    where
      none_there : (a b : Bool) (k : StoredState S) → b ≡ false → cond (a && b) (Some k) None ≡ None
      none_there true b k e = rw e refl
      none_there false b k e = refl

      same_none : (b : Bool) → ◌≡◌ {A = Option (StoredState S)} (cond b None None) None
      same_none true = refl
      same_none false = refl

  pub sources_low : (past : Past) (js : List Job) (f : ℕ) → Each (λ j. Rattle.sal_sender.specs.Sound.IsFrom f j.source × (j.source ≤ tip past)) js → AreChained (choices past) → Each (λ j. j.source ≤ length (choices past)) js
  sources_low past [] f e chained = tt
  sources_low past (j ∷ js) f e chained = ((let low : j.source ≤ tip past = e.0.1 in omega (arith, low, tip_is (choices past) chained)), sources_low past js f e.1 chained)

  -- jobs that wait are encoded from what was chosen
  waiting_low : (m : Machine S) (past before : Past) → SenderStands codec m past → opened past ≡ Some before → Each (λ j. j.source ≤ length (choices past)) (waiting_jobs past)
  waiting_low m past before s there =
      let sound = sound_of_legal codec m.session past s.legal in
      let same : opened past ≡ started past = there ∙ sym (started_is past before there) in
      each_filter (λ j. j.source ≤ length (choices past)) (λ j. not (is_taken past j.id)) (jobs_after (started past))
      (subst (λ o. Each (λ j. j.source ≤ length (choices past)) (jobs_after o)) same (sources_low past (jobs_after (opened past)) (floor past) sound.jobs_from sound.chained))

  -- the summary after a choice
  abbrev pub sent_summary : Past → ℕ → Choice → ℕ → Summary
  sent_summary past moment choice count = record (summary past) {
    chosen = choice ∷ choices past;
    now = max moment (now past);
    sent = sent past + count;
    q = choice.q;
    opened = None;
  }

  pub keeps_sent : (m : Machine S) (past before : Past) (moment : ℕ) (choice : Choice) (name : Name) (t : S) → SenderStands codec m past → opened past ≡ Some before → m.store.floor ≡ m.floor → IsNext m choice → AreChained (choice ∷ choices past) → Each (λ n. n ≤ tip past) (acknowledged past) → choice.moment ≡ max m.acks.moment moment → name.0 ≡ name_in codec t → state codec (pictures past) (choice ∷ choices past) choice.number ≡ t → Keeps codec (after_choice m choice name t) (sent_summary past moment choice choice.count)
  keeps_sent m past before moment choice name t s there store next chained low at named made =
      let k = s.keeps in
      let rising : floor past ≤ choice.floor = omega (arith, next.rising, k.floor_is) in
      let number : choice.number ≡ tip past + 1 = omega (arith, next.number, k.tip_is) in
      record {
        tip_is = refl;
        floor_is = refl;
        sent_is = ap (λ n. n + choice.count) k.sent_is;
        pictures_is = k.pictures_is;
        last_job_is = k.last_job_is;
        quantiser_is = refl;
        heard_is = k.heard_is;
        average_is = k.average_is;
        heard_at_is = k.heard_at_is;
        moment_is = omega (arith, k.moment_is, at);
        sent_frames_are = ap (λ ls. with_choice ls choice) k.sent_frames_are ∙ links_after (acknowledged past) (choices past) choice (tip past) low (omega (arith, number)) rising next.below;
        states_are = λ n. states_after (summary past) m.store.kept choice name t (max m.store.floor choice.floor) n k.states_are (omega (arith, store, next.rising)) chained number rising next.below named made;
        open_is = refl;
        waiting_are = k.waiting_are ∙ works_same (pictures past) choice (choices past) (waiting_jobs past) chained (waiting_low m past before s there);
        outstanding_long = k.outstanding_long;
        outstanding_are = k.outstanding_are;
      }
