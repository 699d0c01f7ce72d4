-- A window keeps what was taken, and one more.
use Rattle.std.proofs.Common.{◌≡◌, ◌≢◌, ℕ, ◌+◌, ◌%◌, ◌<◌, ◌≤◌, Bool, true, false, cond, List, [], ◌∷◌, length, map, set, get_or, max, Result, Ok, Err, refl, ap, ◌∙◌, sym, subst, arith, eqb, ltb, leb}
use Rattle.std.proofs.Math.ListN.{get_or-map}
use Rattle.std.proofs.lemmas.Bool.{eqb-true, eqb-false, eq-eqb, ne_eqb, ltb-true, ltb-false, leb-false, le-ltb, le-leb}
use Rattle.std.proofs.lemmas.List.{get_or-set_same, get_or-set_other, set-get_or}
use Rattle.std.specs.Option.{is_some}
use Rattle.std.specs.declared.option.Option.{Option}
use Rattle.std.specs.declared.option.Option.TheVariants.{Some, None}
use Rattle.sal_base.specs.declared.memory.Memory.{Memory}
use Rattle.sal_wire.specs.Fields.{FragmentFields}
use Rattle.sal_wire.specs.Layout.{IsFragment, IsWireName, name_bytes}
use Rattle.sal_reasm.specs.declared.answers.Offered.{Offered}
use Rattle.sal_reasm.specs.declared.answers.Offered.TheVariants.{Stale, Clash, Repeat, Complete, Kept}
use Rattle.sal_reasm.specs.Complete.{floor_of, with_fragment, fragments_of, data_at, has_all, reassembled}
use Rattle.sal_reasm.specs.Offer.{Difference, clash_with_taken, clash_with_fragments, unless_clash, offer_answer, taken_after, IsAnswer}
use Rattle.sal_reasm.specs.Stands.{SlotsStand, AreNamed}
use Rattle.sal_reasm.specs.SlotTable.{PartialFrame, SlotTable, if_number, frame_at, partial_frame, partial_frame_with}
use Rattle.sal_reasm.specs.Step.{answered, clash_with_slot, frame_then, unless_below, slots_raised, slots_after}
use Rattle.sal_reasm.proofs.Frames.{AreNumbered, answered_by, filled_by, repeated_by, same_clash}

-- fragments by number
step_own : (b : Bool) (e : FragmentFields) (rest : List FragmentFields) → b ≡ true → cond b (e ∷ rest) rest ≡ e ∷ rest
step_own true e rest h = refl
step_own false e rest h = absurd (cc)

step_past : (b : Bool) (e : FragmentFields) (rest : List FragmentFields) → b ≡ false → cond b (e ∷ rest) rest ≡ rest
step_past true e rest h = absurd (cc)
step_past false e rest h = refl

own : (e : FragmentFields) (taken : List FragmentFields) → fragments_of e.number (e ∷ taken) ≡ e ∷ fragments_of e.number taken
own e taken = step_own (eqb e.number e.number) e (fragments_of e.number taken) (eq-eqb _ _ refl)

past : (n : ℕ) (e : FragmentFields) (taken : List FragmentFields) → e.number ≢ n → fragments_of n (e ∷ taken) ≡ fragments_of n taken
past n e taken other = step_past (eqb e.number n) e (fragments_of n taken) (ne_eqb _ _ other)

step_numbered : (b : Bool) (n : ℕ) (e : FragmentFields) (rest : List FragmentFields) → eqb e.number n ≡ b → AreNumbered n rest → AreNumbered n (cond b (e ∷ rest) rest)
step_numbered true n e rest h r = eqb-true _ _ h
step_numbered false n e rest h r = r

all_numbered : (n : ℕ) (taken : List FragmentFields) → AreNumbered n (fragments_of n taken)
all_numbered n [] = tt
all_numbered n (e ∷ taken) = step_numbered (eqb e.number n) n e (fragments_of n taken) refl (all_numbered n taken)

step_named : (b : Bool) (e : FragmentFields) (rest : List FragmentFields) → length e.source ≡ 16 → length e.target ≡ 16 → AreNamed rest → AreNamed (cond b (e ∷ rest) rest)
step_named true e rest s t r = (s, t)
step_named false e rest s t r = r

sent_length : (n : List ℕ) → IsWireName n → length n ≡ 16
unfolding name_bytes
sent_length n h = ap length h

-- frames by number
step_mine : (b : Bool) (f : PartialFrame) → b ≡ true → cond b (Some f) None ≡ Some f
step_mine true f h = refl
step_mine false f h = absurd (cc)

step_other : (b : Bool) (f : PartialFrame) → b ≡ false → cond b (Some f) None ≡ None
step_other true f h = absurd (cc)
step_other false f h = refl

mine : (n : ℕ) (f : PartialFrame) → f.number ≡ n → if_number n (Some f) ≡ Some f
mine n f h = step_mine (eqb f.number n) f (eq-eqb _ _ h)

not_mine : (n : ℕ) (f : PartialFrame) → f.number ≢ n → if_number n (Some f) ≡ None
not_mine n f h = step_other (eqb f.number n) f (ne_eqb _ _ h)

step_floor : (b : Bool) (n floor : ℕ) (f : PartialFrame) → leb floor f.number ≡ b → floor ≤ n → if_number n (cond b (Some f) None) ≡ if_number n (Some f)
step_floor true n floor f h low = refl
step_floor false n floor f h low = let below : f.number < floor = leb-false _ _ h in sym (not_mine n f (λ (q : f.number ≡ n). absurd (omega arith)))

-- what stands at or above a floor isn't let go
over : (n floor : ℕ) (there : Option PartialFrame) → floor ≤ n → if_number n (unless_below floor there) ≡ if_number n there
over n floor None low = refl
over n floor (Some f) low = step_floor (leb floor f.number) n floor f refl low

all_over : (n floor : ℕ) (frames : List (Option PartialFrame)) → floor ≤ n → frame_at n (map (unless_below floor) frames) ≡ frame_at n frames
all_over n floor frames low = ap (if_number n) (get_or-map (unless_below floor) frames (n % 16) None) ∙ over n floor (get_or frames (n % 16) None) low

-- two numbers of one place are sixteen apart
far_apart : (floor n m : ℕ) → n % 16 ≡ m % 16 → n ≢ m → floor ≤ m → n ≤ floor + 15 → n + 16 ≤ m
far_apart floor n m same other low high = omega arith

-- what an answer says of the fragments
repeat_means : (o : Option Difference) (s t : Bool) (bytes : List ℕ) → Repeat ≡ unless_clash o (cond s Repeat (cond t (Complete bytes) Kept)) → (o ≡ None) × (s ≡ true)
repeat_means None true t bytes h = (refl, refl)
repeat_means None false true bytes h = absurd (cc)
repeat_means None false false bytes h = absurd (cc)
repeat_means (Some (field, kept, new)) s t bytes h = absurd (cc)

kept_means : (o : Option Difference) (x : Offered) → Kept ≡ unless_clash o x → o ≡ None
kept_means None x h = refl
kept_means (Some (field, kept, new)) x h = absurd (cc)

complete_means : (o : Option Difference) (x : Offered) (bytes : List ℕ) → Complete bytes ≡ unless_clash o x → o ≡ None
complete_means None x bytes h = refl
complete_means (Some (field, kept, new)) x bytes h = absurd (cc)

where_of : (e : FragmentFields) → e.index < e.count → (parts : List FragmentFields) → clash_with_slot (partial_frame parts) e ≡ clash_with_fragments parts e
where_of e h [] = refl
where_of e h (p ∷ more) = same_clash e p more h

module _ (w : SlotTable) (taken : List FragmentFields) (e : FragmentFields) (keeps : SlotsStand w taken) (is : IsFragment e) (low : w.floor ≤ e.number) (sixteen : length w.frames ≡ 16) where
  -- not below the floor a fragment is answered by those of its number
  offered_by : offer_answer taken e ≡ unless_clash (clash_with_fragments (fragments_of e.number taken) e) (cond (is_some (data_at (fragments_of e.number taken) e.index)) Repeat (cond (has_all (e ∷ fragments_of e.number taken)) (Complete (reassembled (e ∷ fragments_of e.number taken))) Kept))
  offered_by =
      let fresh : ltb e.number (floor_of taken) ≡ false = le-ltb _ _ (let f = keeps.floor in omega arith) in
      let above : leb (max e.floor (floor_of taken)) e.number ≡ true = le-leb _ _ (let f = keeps.floor in let g = is.floor_below in omega arith) in
      rw (fresh, above, own e taken) refl

  pub answered_is : answered (frame_at e.number w.frames) e ≡ offer_answer taken e
  answered_is =
      ap (λ (o : Option PartialFrame). answered o e) (keeps.frames e.number low)
      ∙ (answered_by e (fragments_of e.number taken) is.index (sent_length e.source is.source) (sent_length e.target is.target) (keeps.named e.number) (all_numbered e.number taken)
      ∙ sym offered_by)

  pub is_answer : (result : Result Offered Memory) → IsAnswer (answered (frame_at e.number w.frames) e) result → IsAnswer (offer_answer taken e) result
  is_answer result h = subst (λ (a : Offered). IsAnswer a result) answered_is h

  step_at : (own_number own_place : Bool) (n : ℕ) → eqb e.number n ≡ own_number → eqb (n % 16) (e.number % 16) ≡ own_place → max e.floor w.floor ≤ n
      → frame_at n (set w.frames (e.number % 16) (Some (partial_frame_with e (fragments_of e.number taken)))) ≡ partial_frame (fragments_of n (e ∷ taken))
  step_at true own_place n a b high =
      let here : frame_at e.number (set w.frames (e.number % 16) (Some (partial_frame_with e (fragments_of e.number taken)))) ≡ partial_frame (fragments_of e.number (e ∷ taken)) =
      ap (if_number e.number) (get_or-set_same w.frames (e.number % 16) (Some (partial_frame_with e (fragments_of e.number taken))) None (omega (arith, sixteen)))
      ∙ (mine e.number (partial_frame_with e (fragments_of e.number taken)) refl ∙ sym (ap partial_frame (own e taken))) in
      subst (λ (m : ℕ). frame_at m (set w.frames (e.number % 16) (Some (partial_frame_with e (fragments_of e.number taken)))) ≡ partial_frame (fragments_of m (e ∷ taken))) (eqb-true _ _ a) here
  step_at false true n a b high =
      let other : e.number ≢ n = eqb-false _ _ a in
      let same : n % 16 ≡ e.number % 16 = eqb-true _ _ b in
      let far : e.number + 16 ≤ n = far_apart (max e.floor w.floor) e.number n (sym same) other high (let r = is.window in let f = is.floor_below in omega arith) in
      ap (λ (k : ℕ). if_number n (get_or (set w.frames (e.number % 16) (Some (partial_frame_with e (fragments_of e.number taken)))) k None)) same
      ∙ (ap (if_number n) (get_or-set_same w.frames (e.number % 16) (Some (partial_frame_with e (fragments_of e.number taken))) None (omega (arith, sixteen)))
      ∙ (not_mine n (partial_frame_with e (fragments_of e.number taken)) other
      ∙ sym (ap partial_frame (past n e taken other ∙ keeps.near n (omega arith)))))
  step_at false false n a b high =
      ap (if_number n) (get_or-set_other w.frames (e.number % 16) (n % 16) (Some (partial_frame_with e (fragments_of e.number taken))) None (eqb-false _ _ b))
      ∙ (keeps.frames n (omega arith) ∙ sym (ap partial_frame (past n e taken (eqb-false _ _ a))))

  more_near : (n : ℕ) → max e.floor w.floor + 16 ≤ n → fragments_of n (e ∷ taken) ≡ []
  more_near n high = past n e taken (λ (q : e.number ≡ n). absurd (let r = is.window in let f = is.floor_below in omega arith)) ∙ keeps.near n (omega arith)

  more_named : (n : ℕ) → AreNamed (fragments_of n (e ∷ taken))
  more_named n = step_named (eqb e.number n) e (fragments_of n taken) (sent_length e.source is.source) (sent_length e.target is.target) (keeps.named n)

  step_raised : (b : Bool) (frames : List (Option PartialFrame)) → ltb w.floor e.floor ≡ b → ((n : ℕ) → max e.floor w.floor ≤ n → frame_at n frames ≡ partial_frame (fragments_of n (e ∷ taken)))
      → SlotsStand (cond b (record { floor = e.floor; frames = map (unless_below e.floor) frames }) (record { floor = w.floor; frames = frames })) (e ∷ taken)
  step_raised true frames b all =
      let higher : w.floor < e.floor = ltb-true _ _ b in
      record {
        floor = (let f = keeps.floor in omega arith);
        frames = λ (n : ℕ) (q : e.floor ≤ n). all_over n e.floor frames q ∙ all n (omega arith);
        near = λ (n : ℕ) (q : e.floor + 16 ≤ n). more_near n (omega arith);
        named = more_named;
      }
  step_raised false frames b all =
      let lower : e.floor ≤ w.floor = ltb-false _ _ b in
      record {
        floor = (let f = keeps.floor in omega arith);
        frames = λ (n : ℕ) (q : w.floor ≤ n). all n (omega arith);
        near = λ (n : ℕ) (q : w.floor + 16 ≤ n). more_near n (omega arith);
        named = more_named;
      }

  after : (frames : List (Option PartialFrame)) → ((n : ℕ) → max e.floor w.floor ≤ n → frame_at n frames ≡ partial_frame (fragments_of n (e ∷ taken))) → SlotsStand (slots_raised e.floor (record { floor = w.floor; frames = frames })) (e ∷ taken)
  after frames all = step_raised (ltb w.floor e.floor) frames refl all

  -- a new part is put at the place of its frame
  put_keeps : clash_with_fragments (fragments_of e.number taken) e ≡ None → SlotsStand (slots_raised e.floor (record { floor = w.floor; frames = set w.frames (e.number % 16) (Some (frame_then (frame_at e.number w.frames) e)) })) (e ∷ taken)
  put_keeps fits =
      let is_frame : ◌≡◌ {A = Option PartialFrame} (Some (frame_then (frame_at e.number w.frames) e)) (Some (partial_frame_with e (fragments_of e.number taken))) =
      ap (λ (o : Option PartialFrame). Some (frame_then o e)) (keeps.frames e.number low)
      ∙ filled_by e (fragments_of e.number taken) is.index (sent_length e.source is.source) (sent_length e.target is.target) (keeps.named e.number) (all_numbered e.number taken) fits in
      after (set w.frames (e.number % 16) (Some (frame_then (frame_at e.number w.frames) e)))
      (λ (n : ℕ) (high : max e.floor w.floor ≤ n). ap (λ (o : Option PartialFrame). frame_at n (set w.frames (e.number % 16) o)) is_frame ∙ step_at (eqb e.number n) (eqb (n % 16) (e.number % 16)) n refl refl high)

  step_again : (b : Bool) (n : ℕ) → eqb e.number n ≡ b → clash_with_fragments (fragments_of e.number taken) e ≡ None → is_some (data_at (fragments_of e.number taken) e.index) ≡ true → partial_frame (fragments_of n taken) ≡ partial_frame (fragments_of n (e ∷ taken))
  step_again true n a fits there =
      let here : partial_frame (fragments_of e.number taken) ≡ partial_frame (fragments_of e.number (e ∷ taken)) =
      repeated_by e (fragments_of e.number taken) (sent_length e.source is.source) (sent_length e.target is.target) (keeps.named e.number) (all_numbered e.number taken) fits there
      ∙ sym (ap partial_frame (own e taken)) in
      subst (λ (m : ℕ). partial_frame (fragments_of m taken) ≡ partial_frame (fragments_of m (e ∷ taken))) (eqb-true _ _ a) here
  step_again false n a fits there = sym (ap partial_frame (past n e taken (eqb-false _ _ a)))

  -- a part that is there leaves all as it is
  again_keeps : clash_with_fragments (fragments_of e.number taken) e ≡ None → is_some (data_at (fragments_of e.number taken) e.index) ≡ true
      → SlotsStand (slots_raised e.floor (record { floor = w.floor; frames = set w.frames (e.number % 16) (get_or w.frames (e.number % 16) None) })) (e ∷ taken)
  again_keeps fits there =
      after (set w.frames (e.number % 16) (get_or w.frames (e.number % 16) None))
      (λ (n : ℕ) (high : max e.floor w.floor ≤ n). ap (frame_at n) (set-get_or w.frames (e.number % 16) None) ∙ (keeps.frames n (omega arith) ∙ step_again (eqb e.number n) n refl fits there))

  still : SlotsStand (record { floor = w.floor; frames = set w.frames (e.number % 16) (get_or w.frames (e.number % 16) None) }) taken
  still = subst (λ (v : SlotTable). SlotsStand v taken) (sym (ap (λ (fs : List (Option PartialFrame)). record { floor = w.floor; frames = fs }) (set-get_or w.frames (e.number % 16) None))) keeps

  counted : with_fragment e taken ≡ e ∷ taken
  counted = let fresh : ltb e.number (floor_of taken) ≡ false = le-ltb _ _ (let f = keeps.floor in omega arith) in rw fresh refl

  pub keeps_after : (result : Result Offered Memory) → IsAnswer (offer_answer taken e) result → SlotsStand (slots_after result e w) (taken_after result e taken)
  keeps_after (Err m) h = keeps
  keeps_after (Ok Stale) h = still
  keeps_after (Ok (Clash field kept new)) h = still
  keeps_after (Ok Repeat) h =
      let means = repeat_means (clash_with_fragments (fragments_of e.number taken) e) (is_some (data_at (fragments_of e.number taken) e.index)) (has_all (e ∷ fragments_of e.number taken)) (reassembled (e ∷ fragments_of e.number taken)) (h ∙ offered_by) in
      rw counted (again_keeps means.0 means.1)
  keeps_after (Ok (Complete bytes)) h = rw counted (put_keeps (complete_means (clash_with_fragments (fragments_of e.number taken) e) _ bytes (h ∙ offered_by)))
  keeps_after (Ok Kept) h = rw counted (put_keeps (kept_means (clash_with_fragments (fragments_of e.number taken) e) _ (h ∙ offered_by)))

  -- a fragment differs from the frame at its place as from those of its number
  pub clash_is : clash_with_slot (frame_at e.number w.frames) e ≡ clash_with_taken taken e
  clash_is =
      let fresh : ltb e.number (floor_of taken) ≡ false = le-ltb _ _ (let f = keeps.floor in omega arith) in
      ap (λ (o : Option PartialFrame). clash_with_slot o e) (keeps.frames e.number low) ∙ (where_of e is.index (fragments_of e.number taken) ∙ rw fresh refl)
