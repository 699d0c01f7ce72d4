-- Lists of frames in rising order of numbers.
use Rattle.std.proofs.Common.{◌≡◌, ℕ, suc, ◌+◌, ◌<◌, ◌≤◌, Bool, true, false, cond, not, List, [], ◌∷◌, length, Option, Some, None, refl, ap, sym, ◌∙◌, arith, ltb, eqb, set, get_or}
use Rattle.std.proofs.lemmas.Bool.{ltb-true, ltb-false, eqb-true, eqb-false, ne_eqb, eq-eqb}
use Rattle.std.specs.List.{insert, remove, position_or_len}
use Rattle.std.specs.Option.{option_map}
use Rattle.std.proofs.lemmas.List.{take_all, drop_all, append-nil, set_past}
use Rattle.sal_base.specs.Names.{same}
use Rattle.sal_receiver.specs.declared.pending_frame.Stage.{Stage}
use Rattle.sal_receiver.specs.declared.pending_frame.Stage.TheVariants as stages
use Rattle.sal_receiver.specs.declared.pending_frame.PendingFrame.{PendingFrame}
use Rattle.sal_receiver.specs.Pending.{at, frame_inserted, without, restaged, left_from, is_left, fed, fed_one, first_ready, is_ready_stage, place_in, task_of, stage_task, task_in, handed_out, out_first, Rises}

-- the frame, if the floor leaves it
abbrev pub if_left : {T : Type 0} → ℕ → Option (PendingFrame T) → Option (PendingFrame T)
if_left floor None = None
if_left floor (Some p) = cond (is_left floor p.number p.stage) (Some p) None

abbrev pub staged : {T : Type 0} → Stage T → PendingFrame T → PendingFrame T
staged stage p = record p { stage = stage }

step_short : (b : Bool) (n m : ℕ) → n ≤ m → cond (not b) (1 + n) 0 ≤ suc m
step_short true n m h = omega arith
step_short false n m h = omega arith

step_or : (b : Bool) (n m : ℕ) → ltb n m ≡ b → n ≤ m → Rattle.std.specs.Option.unwrap_or (cond b (Some n) None) m ≡ n
step_or true n m e h = refl
step_or false n m e h = let a : m ≤ n = ltb-false _ _ e in omega arith

some_same : {X : Type 0} (x y : X) → Some x ≡ Some y → x ≡ y
some_same x y h = cc

place_step : (b : Bool) (i n m : ℕ) → ltb n m ≡ b → cond b (Some n) None ≡ Some i → (i ≡ n) × (n < m)
place_step true i n m e h = (sym (some_same n i h), ltb-true _ _ e)
place_step false i n m e h = absurd (cc)

none_step : (b : Bool) (n m : ℕ) → ltb n m ≡ b → None ≡ cond b (Some n) None → m ≤ n
none_step true n m e h = absurd (cc)
none_step false n m e h = ltb-false _ _ e

module _ {T : Type 0} where
  rises_lower : (least low : ℕ) (xs : List (PendingFrame T)) → low ≤ least → Rises least xs → Rises low xs
  rises_lower least low [] h r = tt
  rises_lower least low (x ∷ xs) h r = ((let a : least ≤ x.number = r.0 in omega arith), r.1)

  -- below the least there is none
  pub at_below : (n least : ℕ) (xs : List (PendingFrame T)) → n < least → Rises least xs → at n xs ≡ None
  at_below n least [] h r = refl
  at_below n least (x ∷ xs) h r =
      let low : least ≤ x.number = r.0 in
      rw (ne_eqb x.number n (λ (q : x.number ≡ n). omega arith)) (at_below n (suc x.number) xs (omega arith) r.1)

  -- ---- put

  step_put : (before first here : Bool) (n : ℕ) (p x : PendingFrame T) (xs : List (PendingFrame T)) → eqb p.number n ≡ here → eqb x.number n ≡ first → at n (frame_inserted p xs) ≡ cond here (Some p) (at n xs) → (here ≡ true → first ≡ false) → at n (cond before (p ∷ x ∷ xs) (x ∷ frame_inserted p xs)) ≡ cond here (Some p) (cond first (Some x) (at n xs))
  step_put true first here n p x xs a b h other = rw (a, b) refl
  step_put false true true n p x xs a b h other = absurd (let q : true ≡ false = other refl in cc)
  step_put false true false n p x xs a b h other = rw b refl
  step_put false false here n p x xs a b h other = rw b h

  -- a frame whose number isn't there is found after it was put in, and so are the others
  pub at_put : (n : ℕ) (p : PendingFrame T) (xs : List (PendingFrame T)) → at p.number xs ≡ None → at n (frame_inserted p xs) ≡ cond (eqb p.number n) (Some p) (at n xs)
  at_put n p [] fresh = refl
  at_put n p (x ∷ xs) fresh =
      let other = first_other (eqb x.number p.number) x (at p.number xs) fresh in
      step_put (ltb p.number x.number) (eqb x.number n) (eqb p.number n) n p x xs refl refl (at_put n p xs other.1)
      (λ (q : eqb p.number n ≡ true). ne_eqb x.number n (λ (e : x.number ≡ n). eqb-false _ _ other.0 (e ∙ sym (eqb-true _ _ q))))
    where
      first_other : (b : Bool) (x : PendingFrame T) (rest : Option (PendingFrame T)) → cond b (Some x) rest ≡ None → (b ≡ false) × (rest ≡ None)
      first_other true x rest h = absurd (cc)
      first_other false x rest h = (refl, h)

  step_rises : (b : Bool) (least : ℕ) (p x : PendingFrame T) (xs : List (PendingFrame T)) → ltb p.number x.number ≡ b → Rises least (x ∷ xs) → least ≤ p.number → (x.number ≡ p.number → ⊥) → (suc x.number ≤ p.number → Rises (suc x.number) (frame_inserted p xs)) → Rises least (cond b (p ∷ x ∷ xs) (x ∷ frame_inserted p xs))
  step_rises true least p x xs e r low other more = (low, ((let a : p.number < x.number = ltb-true _ _ e in omega arith), r.1))
  step_rises false least p x xs e r low other more = (r.0, more (let a : x.number ≤ p.number = ltb-false _ _ e in omega (arith, other)))

  pub rises_put : (least : ℕ) (p : PendingFrame T) (xs : List (PendingFrame T)) → Rises least xs → least ≤ p.number → at p.number xs ≡ None → Rises least (frame_inserted p xs)
  rises_put least p [] r low fresh = (low, tt)
  rises_put least p (x ∷ xs) r low fresh =
      let other = first_other (eqb x.number p.number) x (at p.number xs) fresh in
      step_rises (ltb p.number x.number) least p x xs refl r low (eqb-false _ _ other.0) (λ (q : suc x.number ≤ p.number). rises_put (suc x.number) p xs r.1 q other.1)
    where
      first_other : (b : Bool) (x : PendingFrame T) (rest : Option (PendingFrame T)) → cond b (Some x) rest ≡ None → (b ≡ false) × (rest ≡ None)
      first_other true x rest h = absurd (cc)
      first_other false x rest h = (refl, h)

  -- ---- without

  step_without : (here there : Bool) (n m : ℕ) (x : PendingFrame T) (xs : List (PendingFrame T)) → eqb x.number n ≡ here → eqb x.number m ≡ there → at m xs ≡ at m xs → (here ≡ true → at n xs ≡ None) → at m (without n xs) ≡ cond (eqb n m) None (at m xs) → at m (cond here xs (x ∷ without n xs)) ≡ cond (eqb n m) None (cond there (Some x) (at m xs))
  step_without true true n m x xs a b s none h =
      let e : n ≡ m = sym (eqb-true _ _ a) ∙ eqb-true _ _ b in
      rw (eq-eqb n m e) (ap (λ k. at k xs) (sym e) ∙ none refl)
  step_without true false n m x xs a b s none h =
      rw (ne_eqb n m (λ (e : n ≡ m). eqb-false _ _ b (eqb-true _ _ a ∙ e))) refl
  step_without false true n m x xs a b s none h =
      rw (b, ne_eqb n m (λ (e : n ≡ m). eqb-false _ _ a (eqb-true _ _ b ∙ sym e))) refl
  step_without false false n m x xs a b s none h = rw b h

  pub at_without : (least n m : ℕ) (xs : List (PendingFrame T)) → Rises least xs → at m (without n xs) ≡ cond (eqb n m) None (at m xs)
  at_without least n m [] r = none_both (eqb n m)
    where
      none_both : (b : Bool) → ◌≡◌ {A = Option (PendingFrame T)} None (cond b None None)
      none_both true = refl
      none_both false = refl
  at_without least n m (x ∷ xs) r =
      step_without (eqb x.number n) (eqb x.number m) n m x xs refl refl refl
      (λ (q : eqb x.number n ≡ true). let e : x.number ≡ n = eqb-true _ _ q in at_below n (suc x.number) xs (omega arith) r.1)
      (at_without (suc x.number) n m xs r.1)

  step_rises_without : (b : Bool) (least n : ℕ) (x : PendingFrame T) (xs : List (PendingFrame T)) → Rises least (x ∷ xs) → Rises (suc x.number) (without n xs) → Rises least (cond b xs (x ∷ without n xs))
  step_rises_without true least n x xs r h = let low : least ≤ x.number = r.0 in rises_lower (suc x.number) least xs (omega arith) r.1
  step_rises_without false least n x xs r h = (r.0, h)

  pub rises_without : (least n : ℕ) (xs : List (PendingFrame T)) → Rises least xs → Rises least (without n xs)
  rises_without least n [] r = tt
  rises_without least n (x ∷ xs) r = step_rises_without (eqb x.number n) least n x xs r (rises_without (suc x.number) n xs r.1)

  -- ---- restaged

  step_restaged : (here there : Bool) (n m : ℕ) (stage : Stage T) (x : PendingFrame T) (xs : List (PendingFrame T)) → eqb x.number n ≡ here → eqb x.number m ≡ there → at m (restaged n stage xs) ≡ cond (eqb n m) (option_map (staged stage) (at m xs)) (at m xs) → at m (cond here (staged stage x ∷ xs) (x ∷ restaged n stage xs)) ≡ cond (eqb n m) (option_map (staged stage) (cond there (Some x) (at m xs))) (cond there (Some x) (at m xs))
  step_restaged true true n m stage x xs a b h = rw (b, eq-eqb n m (sym (eqb-true _ _ a) ∙ eqb-true _ _ b)) refl
  step_restaged true false n m stage x xs a b h =
      rw (b, ne_eqb n m (λ (e : n ≡ m). eqb-false _ _ b (eqb-true _ _ a ∙ e))) refl
  step_restaged false true n m stage x xs a b h =
      rw (b, ne_eqb n m (λ (e : n ≡ m). eqb-false _ _ a (eqb-true _ _ b ∙ sym e))) refl
  step_restaged false false n m stage x xs a b h = rw b h

  pub at_restaged : (n m : ℕ) (stage : Stage T) (xs : List (PendingFrame T)) → at m (restaged n stage xs) ≡ cond (eqb n m) (option_map (staged stage) (at m xs)) (at m xs)
  at_restaged n m stage [] = none_both (eqb n m)
    where
      none_both : (b : Bool) → ◌≡◌ {A = Option (PendingFrame T)} None (cond b None None)
      none_both true = refl
      none_both false = refl
  at_restaged n m stage (x ∷ xs) = step_restaged (eqb x.number n) (eqb x.number m) n m stage x xs refl refl (at_restaged n m stage xs)

  step_rises_restaged : (b : Bool) (least n : ℕ) (stage : Stage T) (x : PendingFrame T) (xs : List (PendingFrame T)) → Rises least (x ∷ xs) → Rises (suc x.number) (restaged n stage xs) → Rises least (cond b (staged stage x ∷ xs) (x ∷ restaged n stage xs))
  step_rises_restaged true least n stage x xs r h = r
  step_rises_restaged false least n stage x xs r h = (r.0, h)

  pub rises_restaged : (least n : ℕ) (stage : Stage T) (xs : List (PendingFrame T)) → Rises least xs → Rises least (restaged n stage xs)
  rises_restaged least n stage [] r = tt
  rises_restaged least n stage (x ∷ xs) r = step_rises_restaged (eqb x.number n) least n stage x xs r (rises_restaged (suc x.number) n stage xs r.1)

  -- ---- left

  step_left : (kept here : Bool) (floor n : ℕ) (x : PendingFrame T) (xs : List (PendingFrame T)) → is_left floor x.number x.stage ≡ kept → eqb x.number n ≡ here → (here ≡ true → at n xs ≡ None) → at n (left_from floor xs) ≡ if_left floor (at n xs) → at n (cond kept (x ∷ left_from floor xs) (left_from floor xs)) ≡ if_left floor (cond here (Some x) (at n xs))
  step_left true true floor n x xs a b none h = rw (b, a) refl
  step_left true false floor n x xs a b none h = rw b h
  step_left false true floor n x xs a b none h = h ∙ (ap (λ o. if_left floor o) (none refl) ∙ rw a refl)
  step_left false false floor n x xs a b none h = h

  pub at_left : (least floor n : ℕ) (xs : List (PendingFrame T)) → Rises least xs → at n (left_from floor xs) ≡ if_left floor (at n xs)
  at_left least floor n [] r = refl
  at_left least floor n (x ∷ xs) r =
      step_left (is_left floor x.number x.stage) (eqb x.number n) floor n x xs refl refl
      (λ (q : eqb x.number n ≡ true). let e : x.number ≡ n = eqb-true _ _ q in at_below n (suc x.number) xs (omega arith) r.1)
      (at_left (suc x.number) floor n xs r.1)

  step_rises_left : (b : Bool) (least floor : ℕ) (x : PendingFrame T) (xs : List (PendingFrame T)) → Rises least (x ∷ xs) → Rises (suc x.number) (left_from floor xs) → Rises least (cond b (x ∷ left_from floor xs) (left_from floor xs))
  step_rises_left true least floor x xs r h = (r.0, h)
  step_rises_left false least floor x xs r h = let low : least ≤ x.number = r.0 in rises_lower (suc x.number) least (left_from floor xs) (omega arith) h

  pub rises_left : (least floor : ℕ) (xs : List (PendingFrame T)) → Rises least xs → Rises least (left_from floor xs)
  rises_left least floor [] r = tt
  rises_left least floor (x ∷ xs) r = step_rises_left (is_left floor x.number x.stage) least floor x xs r (rises_left (suc x.number) floor xs r.1)

  -- ---- fed

  step_fed : (b : Bool) (name : List ℕ) (state : T) (x : PendingFrame T) (o p : Option (PendingFrame T)) → p ≡ option_map (fed_one name state) o → cond b (Some (fed_one name state x)) p ≡ option_map (fed_one name state) (cond b (Some x) o)
  step_fed true name state x o p h = refl
  step_fed false name state x o p h = h

  pub at_fed : (n : ℕ) (name : List ℕ) (state : T) (xs : List (PendingFrame T)) → at n (fed name state xs) ≡ option_map (fed_one name state) (at n xs)
  at_fed n name state [] = refl
  at_fed n name state (x ∷ xs) = step_fed (eqb x.number n) name state x (at n xs) (at n (fed name state xs)) (at_fed n name state xs)

  pub rises_fed : (least : ℕ) (name : List ℕ) (state : T) (xs : List (PendingFrame T)) → Rises least xs → Rises least (fed name state xs)
  rises_fed least name state [] r = tt
  rises_fed least name state (x ∷ xs) r = (r.0, rises_fed (suc x.number) name state xs r.1)

  -- ---- by place

  -- how many stand before the frame of this number
  abbrev pub index_in : ℕ → List (PendingFrame T) → ℕ
  index_in n frames = position_or_len (λ p. eqb p.number n) frames

  remove_more : (n : ℕ) (x : PendingFrame T) (xs : List (PendingFrame T)) → remove (x ∷ xs) (1 + n) ≡ x ∷ remove xs n
  remove_more n x xs = let e : 1 + n ≡ suc n = omega arith in rw e refl

  step_remove : (b : Bool) (n : ℕ) (x : PendingFrame T) (xs ys : List (PendingFrame T)) → remove xs n ≡ ys → remove (x ∷ xs) (cond (not b) (1 + n) 0) ≡ cond b xs (x ∷ ys)
  step_remove true n x xs ys h = refl
  step_remove false n x xs ys h = remove_more n x xs ∙ ap (λ zs. x ∷ zs) h

  -- what is removed at its place is taken out
  pub remove_at : (n : ℕ) (xs : List (PendingFrame T)) → remove xs (index_in n xs) ≡ without n xs
  remove_at n [] = refl
  remove_at n (x ∷ xs) = step_remove (eqb x.number n) (index_in n xs) x xs (without n xs) (remove_at n xs)

  set_more : (n : ℕ) (x y : PendingFrame T) (xs : List (PendingFrame T)) → set (x ∷ xs) (1 + n) y ≡ x ∷ set xs n y
  set_more n x y xs = let e : 1 + n ≡ suc n = omega arith in rw e refl

  get_more : (n : ℕ) (x d : PendingFrame T) (xs : List (PendingFrame T)) → get_or (x ∷ xs) (1 + n) d ≡ get_or xs n d
  get_more n x d xs = let e : 1 + n ≡ suc n = omega arith in rw e refl

  step_restage : (b : Bool) (n : ℕ) (stage : Stage T) (x d : PendingFrame T) (xs ys : List (PendingFrame T)) → set xs n (staged stage (get_or xs n d)) ≡ ys → set (x ∷ xs) (cond (not b) (1 + n) 0) (staged stage (get_or (x ∷ xs) (cond (not b) (1 + n) 0) d)) ≡ cond b (staged stage x ∷ xs) (x ∷ ys)
  step_restage true n stage x d xs ys h = refl
  step_restage false n stage x d xs ys h = rw (get_more n x d xs) (set_more n x (staged stage (get_or xs n d)) xs ∙ ap (λ zs. x ∷ zs) h)

  -- what is set at its place stands at another stage
  pub restage_at : (n : ℕ) (stage : Stage T) (d : PendingFrame T) (xs : List (PendingFrame T)) → set xs (index_in n xs) (staged stage (get_or xs (index_in n xs) d)) ≡ restaged n stage xs
  restage_at n stage d [] = refl
  restage_at n stage d (x ∷ xs) = step_restage (eqb x.number n) (index_in n xs) stage x d xs (restaged n stage xs) (restage_at n stage d xs)

  pub index_short : (n : ℕ) (xs : List (PendingFrame T)) → index_in n xs ≤ length xs
  index_short n [] = omega arith
  index_short n (x ∷ xs) = step_short (eqb x.number n) (index_in n xs) (length xs) (index_short n xs)

  pub index_found : (n i : ℕ) (xs : List (PendingFrame T)) → Some i ≡ Rattle.std.specs.List.position (λ p. eqb p.number n) xs → (i ≡ index_in n xs) × (index_in n xs < length xs)
  index_found n i xs h = place_step (ltb (index_in n xs) (length xs)) i (index_in n xs) (length xs) refl (sym h)

  pub index_none : (n : ℕ) (xs : List (PendingFrame T)) → None ≡ Rattle.std.specs.List.position (λ p. eqb p.number n) xs → length xs ≤ index_in n xs
  index_none n xs h = none_step (ltb (index_in n xs) (length xs)) (index_in n xs) (length xs) refl h

  one_more : (n : ℕ) (p x : PendingFrame T) (xs : List (PendingFrame T)) → insert (x ∷ xs) (1 + n) p ≡ x ∷ insert xs n p
  one_more n p x xs = let e : 1 + n ≡ suc n = omega arith in rw e refl

  step_insert : (b : Bool) (n : ℕ) (p x : PendingFrame T) (xs ys : List (PendingFrame T)) → insert xs n p ≡ ys → insert (x ∷ xs) (cond (not b) (1 + n) 0) p ≡ cond b (p ∷ x ∷ xs) (x ∷ ys)
  step_insert true n p x xs ys h = refl
  step_insert false n p x xs ys h = one_more n p x xs ∙ ap (λ zs. x ∷ zs) h

  pub put_insert : (p : PendingFrame T) (xs : List (PendingFrame T)) → insert xs (place_in p.number xs) p ≡ frame_inserted p xs
  put_insert p [] = refl
  put_insert p (x ∷ xs) = step_insert (ltb p.number x.number) (place_in p.number xs) p x xs (frame_inserted p xs) (put_insert p xs)

  pub place_short : (n : ℕ) (xs : List (PendingFrame T)) → place_in n xs ≤ length xs
  place_short n [] = omega arith
  place_short n (x ∷ xs) = step_short (ltb n x.number) (place_in n xs) (length xs) (place_short n xs)

  pub place_or : (n : ℕ) (xs : List (PendingFrame T)) → Rattle.std.specs.Option.unwrap_or (Rattle.std.specs.List.position (λ p. ltb n p.number) xs) (length xs) ≡ place_in n xs
  place_or n xs = step_or (ltb (place_in n xs) (length xs)) (place_in n xs) (length xs) refl (place_short n xs)

  pub removed : (n i : ℕ) (ys xs new : List (PendingFrame T)) (r : Option ℕ) → r ≡ Some i → r ≡ Rattle.std.specs.List.position (λ p. eqb p.number n) ys → ys ≡ xs → new ≡ remove xs i → new ≡ without n xs
  removed n i ys xs new r is found same e =
      let at = index_found n i ys (sym is ∙ found) in
      e ∙ (ap (λ k. remove xs k) (at.0 ∙ ap (λ zs. index_in n zs) same) ∙ remove_at n xs)

  past_end : (n k : ℕ) (xs : List (PendingFrame T)) → length xs ≤ k → remove xs k ≡ xs
  past_end n k xs h = rw (take_all k xs h, drop_all (suc k) xs (omega arith)) (append-nil xs)

  pub none_removed : (n : ℕ) (ys xs : List (PendingFrame T)) (r : Option ℕ) → r ≡ None → r ≡ Rattle.std.specs.List.position (λ p. eqb p.number n) ys → ys ≡ xs → xs ≡ without n xs
  none_removed n ys xs r is found same =
      let far : length xs ≤ index_in n xs = index_none n xs (sym is ∙ (found ∙ ap (λ zs. Rattle.std.specs.List.position (λ p. eqb p.number n) zs) same)) in
      sym (past_end n (index_in n xs) xs far) ∙ remove_at n xs

  pub restage_found : (n i : ℕ) (stage : Stage T) (x : PendingFrame T) (ys xs : List (PendingFrame T)) (r : Option ℕ) → r ≡ Some i → r ≡ Rattle.std.specs.List.position (λ p. eqb p.number n) ys → ys ≡ xs → x ≡ get_or xs i x → set xs i (staged stage x) ≡ restaged n stage xs
  restage_found n i stage x ys xs r is found same e =
      let at = index_found n i ys (sym is ∙ found) in
      let there : i ≡ index_in n xs = at.0 ∙ ap (λ zs. index_in n zs) same in
      ap (λ y. set xs i (staged stage y)) e ∙ (ap (λ k. set xs k (staged stage (get_or xs k x))) there ∙ restage_at n stage x xs)

  pub none_restaged : (n : ℕ) (stage : Stage T) (ys xs : List (PendingFrame T)) (r : Option ℕ) → r ≡ None → r ≡ Rattle.std.specs.List.position (λ p. eqb p.number n) ys → ys ≡ xs → xs ≡ restaged n stage xs
  none_restaged n stage ys [] r is found same = refl
  none_restaged n stage ys (x ∷ xs) r is found same =
      let far : length (x ∷ xs) ≤ index_in n (x ∷ xs) = index_none n (x ∷ xs) (sym is ∙ (found ∙ ap (λ zs. Rattle.std.specs.List.position (λ p. eqb p.number n) zs) same)) in
      sym (set_past (x ∷ xs) (index_in n (x ∷ xs)) (staged stage (get_or (x ∷ xs) (index_in n (x ∷ xs)) x)) far) ∙ restage_at n stage x (x ∷ xs)

  -- ---- the first that waits

  abbrev pub first_index : List (PendingFrame T) → ℕ
  first_index frames = position_or_len (λ p. is_ready_stage p.stage) frames

  step_task : (b : Bool) (n : ℕ) (x d : PendingFrame T) (xs : List (PendingFrame T)) (o : Option (PendingFrame T)) → cond (not b) (1 + n) 0 < suc (length xs) → (n < length xs → task_of (get_or xs n d) ≡ task_in o) → task_of (get_or (x ∷ xs) (cond (not b) (1 + n) 0) d) ≡ task_in (cond b (Some x) o)
  step_task true n x d xs o h more = refl
  step_task false n x d xs o h more = ap (λ p. task_of p) (get_more n x d xs) ∙ more (omega arith)

  task_at : (d : PendingFrame T) (xs : List (PendingFrame T)) → first_index xs < length xs → task_of (get_or xs (first_index xs) d) ≡ task_in (first_ready xs)
  task_at d [] h = absurd (omega arith)
  task_at d (x ∷ xs) h = step_task (is_ready_stage x.stage) (first_index xs) x d xs (first_ready xs) h (task_at d xs)

  step_out : (b : Bool) (n : ℕ) (x d : PendingFrame T) (xs : List (PendingFrame T)) → set xs n (handed_out (get_or xs n d)) ≡ out_first xs → set (x ∷ xs) (cond (not b) (1 + n) 0) (handed_out (get_or (x ∷ xs) (cond (not b) (1 + n) 0) d)) ≡ cond b (handed_out x ∷ xs) (x ∷ out_first xs)
  step_out true n x d xs h = refl
  step_out false n x d xs h = rw (get_more n x d xs) (set_more n x (handed_out (get_or xs n d)) xs ∙ ap (λ zs. x ∷ zs) h)

  out_at : (d : PendingFrame T) (xs : List (PendingFrame T)) → set xs (first_index xs) (handed_out (get_or xs (first_index xs) d)) ≡ out_first xs
  out_at d [] = refl
  out_at d (x ∷ xs) = step_out (is_ready_stage x.stage) (first_index xs) x d xs (out_at d xs)

  first_found : (i : ℕ) (ys : List (PendingFrame T)) → Some i ≡ Rattle.std.specs.List.position (λ p. is_ready_stage p.stage) ys → (i ≡ first_index ys) × (first_index ys < length ys)
  first_found i ys h = place_step (ltb (first_index ys) (length ys)) i (first_index ys) (length ys) refl (sym h)

  pub task_found : (i : ℕ) (x : PendingFrame T) (ys xs : List (PendingFrame T)) (r : Option ℕ) → r ≡ Some i → r ≡ Rattle.std.specs.List.position (λ p. is_ready_stage p.stage) ys → ys ≡ xs → x ≡ get_or xs i x → task_of x ≡ task_in (first_ready xs)
  task_found i x ys xs r is found same e =
      let at = first_found i xs (sym is ∙ (found ∙ ap (λ zs. Rattle.std.specs.List.position (λ p. is_ready_stage p.stage) zs) same)) in
      ap (λ y. task_of y) e ∙ (ap (λ k. task_of (get_or xs k x)) at.0 ∙ task_at x xs at.1)

  pub out_found : (i : ℕ) (x : PendingFrame T) (ys xs : List (PendingFrame T)) (r : Option ℕ) → r ≡ Some i → r ≡ Rattle.std.specs.List.position (λ p. is_ready_stage p.stage) ys → ys ≡ xs → x ≡ get_or xs i x → set xs i (handed_out x) ≡ out_first xs
  out_found i x ys xs r is found same e =
      let at = first_found i xs (sym is ∙ (found ∙ ap (λ zs. Rattle.std.specs.List.position (λ p. is_ready_stage p.stage) zs) same)) in
      ap (λ y. set xs i (handed_out y)) e ∙ (ap (λ k. set xs k (handed_out (get_or xs k x))) at.0 ∙ out_at x xs)

  none_step2 : (b : Bool) (x : PendingFrame T) (o : Option (PendingFrame T)) (n m : ℕ) → suc m ≤ cond (not b) (1 + n) 0 → (m ≤ n → None ≡ task_in o) → None ≡ task_in (cond b (Some x) o)
  none_step2 true x o n m h more = absurd (omega arith)
  none_step2 false x o n m h more = more (omega arith)

  task_far : (xs : List (PendingFrame T)) → length xs ≤ first_index xs → None ≡ task_in (first_ready xs)
  task_far [] h = refl
  task_far (x ∷ xs) h = none_step2 (is_ready_stage x.stage) x (first_ready xs) (first_index xs) (length xs) h (task_far xs)

  first_far : (xs ys : List (PendingFrame T)) (r : Option ℕ) → r ≡ None → r ≡ Rattle.std.specs.List.position (λ p. is_ready_stage p.stage) ys → ys ≡ xs → length xs ≤ first_index xs
  first_far xs ys r is found same = none_step (ltb (first_index xs) (length xs)) (first_index xs) (length xs) refl (sym is ∙ (found ∙ ap (λ zs. Rattle.std.specs.List.position (λ p. is_ready_stage p.stage) zs) same))

  pub task_none : (ys xs : List (PendingFrame T)) (r : Option ℕ) → r ≡ None → r ≡ Rattle.std.specs.List.position (λ p. is_ready_stage p.stage) ys → ys ≡ xs → None ≡ task_in (first_ready xs)
  task_none ys xs r is found same = task_far xs (first_far xs ys r is found same)

  pub out_none : (ys xs : List (PendingFrame T)) (r : Option ℕ) → r ≡ None → r ≡ Rattle.std.specs.List.position (λ p. is_ready_stage p.stage) ys → ys ≡ xs → xs ≡ out_first xs
  out_none ys [] r is found same = refl
  out_none ys (x ∷ xs) r is found same =
      sym (set_past (x ∷ xs) (first_index (x ∷ xs)) (handed_out (get_or (x ∷ xs) (first_index (x ∷ xs)) x)) (first_far (x ∷ xs) ys r is found same)) ∙ out_at x (x ∷ xs)

  -- where no frame waits, none is handed out
  stage_waits : (n : ℕ) (target : Rattle.sal_base.specs.declared.name.Name.Name) (stage : Stage T) → is_ready_stage stage ≡ true → None ≡ stage_task n target stage → ⊥
  stage_waits n target (stages.Complete bytes) waits e = let never : false ≡ true = waits in absurd cc
  stage_waits n target (stages.Ready source bytes) waits e = absurd cc
  stage_waits n target stages.Decoding waits e = let never : false ≡ true = waits in absurd cc

  none_out_step : (b : Bool) (x : PendingFrame T) (xs : List (PendingFrame T)) → is_ready_stage x.stage ≡ b → (None ≡ task_in (first_ready xs) → out_first xs ≡ xs) → None ≡ task_in (cond b (Some x) (first_ready xs)) → cond b (handed_out x ∷ xs) (x ∷ out_first xs) ≡ x ∷ xs
  none_out_step true x xs waits more e = absurd (stage_waits x.number x.target x.stage waits e)
  none_out_step false x xs waits more e = ap (λ zs. x ∷ zs) (more e)

  pub none_out : (xs : List (PendingFrame T)) → None ≡ task_in (first_ready xs) → out_first xs ≡ xs
  none_out [] e = refl
  none_out (x ∷ xs) e = none_out_step (is_ready_stage x.stage) x xs refl (none_out xs) e
