-- A frame that is out finds room in the window, and there are shares enough.
use Rattle.std.proofs.Common.{◌≡◌, ℕ, suc, ◌+◌, ◌-◌, ◌<◌, ◌≤◌, max, Bool, true, false, cond, ◌&&◌, List, [], ◌∷◌, Option, Some, None, refl, ap, sym, ◌∙◌, arith, ltb, leb, eqb, ◌⊎◌, inl, inr}
use Rattle.std.proofs.lemmas.Bool.{eqb-false, ne_eqb, eq-eqb, leb-true, le-leb, lt-leb, and_parts, cases_lt}
use Rattle.std.specs.Option.{option_map}
use Rattle.sal_base.specs.Names.{same}
use Rattle.sal_codec.specs.Coding.{Coding}
use Rattle.sal_reasm.specs.Complete.{fragments_of, has_all}
use Rattle.sal_chain.specs.declared.stored_state.StoredState.{StoredState}
use Rattle.sal_chain.specs.Held.{inserted, in_order, not_below, with_number}
use Rattle.sal_receiver.specs.declared.answers.Done.TheVariants.{Stranger, Returned, Unfit, Misnamed, Older, Show}
use Rattle.sal_receiver.specs.declared.pending_frame.Stage.TheVariants as stages
use Rattle.sal_receiver.specs.declared.pending_frame.PendingFrame.{PendingFrame}
use Rattle.sal_receiver.specs.Past.{ReceiverCall, Deliver, TakeReady, Decoding, Sound, Faulty, NoMemory, taken, floor}
use Rattle.sal_receiver.specs.Held.{decoded, kept_as}
use Rattle.sal_receiver.specs.Ready.{ready_source, frame, source_name, target_name, is_out, is_decided}
use Rattle.sal_receiver.specs.Pending.{at, is_whole, wants, wanting, Rises}
use Rattle.sal_receiver.specs.Machine.{ReceiverState, ReceiverStands, pending_as, stage_of}
use Rattle.sal_receiver.specs.Judged.{IsNew}
use Rattle.sal_receiver.proofs.FrameLemmas.{at_below}
use Rattle.sal_receiver.proofs.Was.{out_ready, out_undecided, ready_whole}

-- ---- the number isn't held

or_parts_false : (b c : Bool) → (Rattle.std.proofs.Common.◌||◌ b c) ≡ false → (b ≡ false) × (c ≡ false)
or_parts_false true c h = absurd (cc)
or_parts_false false c h = (refl, h)

module _ {S : Type 0} where
  cons_numbered : (n m : ℕ) (k : StoredState S) (rest : List (StoredState S)) → eqb m n ≡ false → k.number ≡ m → with_number n rest ≡ None → with_number n (k ∷ rest) ≡ None
  cons_numbered n m k rest e is more =
      rw (ne_eqb k.number n (λ (q : k.number ≡ n). eqb-false m n e (sym is ∙ q))) more

  placed_step : (b c : Bool) (n : ℕ) (k x : StoredState S) (xs : List (StoredState S)) → eqb k.number n ≡ false → cond c (Some x) (with_number n xs) ≡ None → (with_number n xs ≡ None → with_number n (inserted k xs) ≡ None) → eqb x.number n ≡ c → with_number n (cond b (k ∷ x ∷ xs) (x ∷ inserted k xs)) ≡ None
  placed_step b true n k x xs e h more i = absurd (cc)
  placed_step true false n k x xs e h more i = rw (e, i) h
  placed_step false false n k x xs e h more i = rw i (more h)

  placed_numbered : (n : ℕ) (k : StoredState S) (xs : List (StoredState S)) → eqb k.number n ≡ false → with_number n xs ≡ None → with_number n (inserted k xs) ≡ None
  placed_numbered n k [] e h = rw e refl
  placed_numbered n k (x ∷ xs) e h = placed_step (ltb k.number x.number) (eqb x.number n) n k x xs e h (placed_numbered n k xs e) refl

  first_other : (b : Bool) (x : StoredState S) (o : Option (StoredState S)) → cond b (Some x) o ≡ None → (b ≡ false) × (o ≡ None)
  first_other true x o h = absurd (cc)
  first_other false x o h = (refl, h)

  order_numbered : (n : ℕ) (xs : List (StoredState S)) → with_number n xs ≡ None → with_number n (in_order xs) ≡ None
  order_numbered n [] h = refl
  order_numbered n (x ∷ xs) h =
      let other = first_other (eqb x.number n) x (with_number n xs) h in
      placed_numbered n x (in_order xs) other.0 (order_numbered n xs other.1)

  from_step : (b : Bool) (n : ℕ) (x : StoredState S) (ys : List (StoredState S)) → eqb x.number n ≡ false → with_number n ys ≡ None → with_number n (cond b (x ∷ ys) ys) ≡ None
  from_step true n x ys e h = rw e h
  from_step false n x ys e h = h

  from_numbered : (floor n : ℕ) (xs : List (StoredState S)) → with_number n xs ≡ None → with_number n (not_below floor xs) ≡ None
  from_numbered floor n [] h = refl
  from_numbered floor n (x ∷ xs) h =
      let other = first_other (eqb x.number n) x (with_number n xs) h in
      from_step (leb floor x.number) n x (not_below floor xs) other.0 (from_numbered floor n xs other.1)

module _ {S : Type 0} (codec : Coding S) where
  decoded_numbered : (past : List (ReceiverCall S)) (n : ℕ) → is_decided past n ≡ false → with_number n (decoded codec past) ≡ None
  decoded_numbered [] n h = refl
  decoded_numbered (Deliver came moment answer ∷ past) n h = decoded_numbered past n h
  decoded_numbered (TakeReady answer ∷ past) n h = decoded_numbered past n h
  decoded_numbered (Decoding m (Sound state picture) Stranger ∷ past) n h = decoded_numbered past n h
  decoded_numbered (Decoding m (Sound state picture) (Returned k) ∷ past) n h = decoded_numbered past n h
  decoded_numbered (Decoding m (Sound state picture) (Unfit k why) ∷ past) n h = decoded_numbered past n (or_parts_false (eqb m n) (is_decided past n) h).1
  decoded_numbered (Decoding m (Sound state picture) (Misnamed said found) ∷ past) n h = decoded_numbered past n (or_parts_false (eqb m n) (is_decided past n) h).1
  decoded_numbered (Decoding m (Sound state picture) (Older k g) ∷ past) n h = cons_numbered n m (kept_as codec m state) (decoded codec past) (or_parts_false (eqb m n) (is_decided past n) h).0 refl (decoded_numbered past n (or_parts_false (eqb m n) (is_decided past n) h).1)
  decoded_numbered (Decoding m (Sound state picture) (Show k shot) ∷ past) n h = cons_numbered n m (kept_as codec m state) (decoded codec past) (or_parts_false (eqb m n) (is_decided past n) h).0 refl (decoded_numbered past n (or_parts_false (eqb m n) (is_decided past n) h).1)
  decoded_numbered (Decoding m (Faulty fault) Stranger ∷ past) n h = decoded_numbered past n h
  decoded_numbered (Decoding m (Faulty fault) (Returned k) ∷ past) n h = decoded_numbered past n h
  decoded_numbered (Decoding m (Faulty fault) (Unfit k why) ∷ past) n h = decoded_numbered past n (or_parts_false (eqb m n) (is_decided past n) h).1
  decoded_numbered (Decoding m (Faulty fault) (Misnamed said found) ∷ past) n h = decoded_numbered past n (or_parts_false (eqb m n) (is_decided past n) h).1
  decoded_numbered (Decoding m (Faulty fault) (Older k g) ∷ past) n h = decoded_numbered past n (or_parts_false (eqb m n) (is_decided past n) h).1
  decoded_numbered (Decoding m (Faulty fault) (Show k shot) ∷ past) n h = decoded_numbered past n (or_parts_false (eqb m n) (is_decided past n) h).1
  decoded_numbered (Decoding m NoMemory Stranger ∷ past) n h = decoded_numbered past n h
  decoded_numbered (Decoding m NoMemory (Returned k) ∷ past) n h = decoded_numbered past n h
  decoded_numbered (Decoding m NoMemory (Unfit k why) ∷ past) n h = decoded_numbered past n (or_parts_false (eqb m n) (is_decided past n) h).1
  decoded_numbered (Decoding m NoMemory (Misnamed said found) ∷ past) n h = decoded_numbered past n (or_parts_false (eqb m n) (is_decided past n) h).1
  decoded_numbered (Decoding m NoMemory (Older k g) ∷ past) n h = decoded_numbered past n (or_parts_false (eqb m n) (is_decided past n) h).1
  decoded_numbered (Decoding m NoMemory (Show k shot) ∷ past) n h = decoded_numbered past n (or_parts_false (eqb m n) (is_decided past n) h).1

  -- ---- the number stands in the window

  near_step : (r : ReceiverState S) (past : List (ReceiverCall S)) (n : ℕ) → ReceiverStands codec r past → has_all (fragments_of n (taken past)) ≡ true → (n < r.slots.floor + 16) ⊎ (r.slots.floor + 16 ≤ n) → n < r.store.floor + 16
  near_step r past n s all (inl less) =
      let same : r.slots.floor ≡ r.store.floor = s.slots.floor ∙ sym s.floor in
      omega (arith, same)
  near_step r past n s all (inr over) =
      let none : has_all (fragments_of n (taken past)) ≡ false = ap (λ ps. has_all ps) (s.slots.near n over) in
      absurd (let q : true ≡ false = sym all ∙ none in cc)

  whole_near : (r : ReceiverState S) (past : List (ReceiverCall S)) (n : ℕ) → ReceiverStands codec r past → has_all (fragments_of n (taken past)) ≡ true → n < r.store.floor + 16
  whole_near r past n s all = near_step r past n s all (cases_lt n (r.slots.floor + 16))

  pub out_new : (r : ReceiverState S) (past : List (ReceiverCall S)) (n : ℕ) → ReceiverStands codec r past → is_out past n ≡ true → IsNew r n
  out_new r past n s out = record {
    near = whole_near r past n s (ready_whole codec past n s.legal (out_ready codec past n s.legal out));
    fresh =
        ap (λ ks. with_number n ks) s.kept
        ∙ order_numbered n (not_below (floor past) (decoded codec past)) (from_numbered (floor past) n (decoded codec past) (decoded_numbered past n (out_undecided codec past n s.legal out)));
  }

  -- ---- what wants a share stands in the window, and is another one

  whole_case : (out decided low all : Bool) (r : Option S) (n : ℕ) (source target bytes : List ℕ) (p : PendingFrame S) → option_map (pending_as n source target) (stage_of out decided r (low && all) bytes) ≡ Some p → is_whole p.stage ≡ true → (out ≡ false) × ((low ≡ true) × (all ≡ true))
  whole_case true decided low all r n source target bytes p h w = absurd (let q : pending_as n source target stages.Decoding ≡ p = cc in let z : false ≡ is_whole p.stage = ap (λ (x : PendingFrame S). is_whole x.stage) q in (let y : false ≡ true = z ∙ w in cc))
  whole_case false true low all r n source target bytes p h w = absurd (cc)
  whole_case false false low all (Some s) n source target bytes p h w = absurd (let q : pending_as n source target (stages.Ready s bytes) ≡ p = cc in let z : false ≡ is_whole p.stage = ap (λ (x : PendingFrame S). is_whole x.stage) q in (let y : false ≡ true = z ∙ w in cc))
  whole_case false false true true None n source target bytes p h w = (refl, (refl, refl))
  whole_case false false true false None n source target bytes p h w = absurd (cc)
  whole_case false false false all None n source target bytes p h w = absurd (cc)

  -- a whole frame of the list
  record IsApart (r : ReceiverState S) (n : ℕ) (p : PendingFrame S) : Type 0 where
    low : r.store.floor ≤ p.number
    high : p.number < r.store.floor + 16
    other : p.number ≡ n → ⊥

  apart : (r : ReceiverState S) (past : List (ReceiverCall S)) (n : ℕ) (p : PendingFrame S) → ReceiverStands codec r past → is_out past n ≡ true → at p.number r.frames ≡ Some p → is_whole p.stage ≡ true → IsApart r n p
  apart r past n p s out there whole =
      let case = whole_case (is_out past p.number) (is_decided past p.number) (leb (floor past) p.number) (has_all (fragments_of p.number (taken past))) (ready_source codec past p.number) p.number (source_name past p.number) (target_name past p.number) (frame past p.number) p (sym (s.frames p.number) ∙ there) whole in
      let near : p.number < r.store.floor + 16 = whole_near r past p.number s case.1.1 in
      let above : floor past ≤ p.number = leb-true _ _ case.1.0 in
      let same : r.store.floor ≡ floor past = s.floor in
      record {
        low = omega arith;
        high = omega arith;
        other = λ (q : p.number ≡ n). (let z : true ≡ false = sym out ∙ (ap (λ m. is_out past m) (sym q) ∙ case.0) in absurd (cc));
      }

-- ---- how many want a share

other_less : (n x : ℕ) → n < suc x → (x ≡ n → ⊥) → (n < x) ⊎ (x ≤ n) → n < x
other_less n x h other (inl less) = less
other_less n x h other (inr over) = absurd (other (omega arith))

count_num : (b : Bool) (w c d low high least n x : ℕ) → w + c ≤ high - max low (suc x) → (suc x ≤ n → c ≡ 1) → (least ≤ n → d ≡ 1) → (n < least → d ≡ 0) → least ≤ x → low ≤ n → n < high → (b ≡ true → (low ≤ x) × ((x < high) × (x ≡ n → ⊥))) → (suc x ≤ n) ⊎ (n < suc x) → (least ≤ n) ⊎ (n < least) → cond b (suc w) w + d ≤ high - max low least
count_num true w c d low high least n x ih up one zero l ln nh is (inl over) (inl in_it) =
    let c1 : c ≡ 1 = up over in let d1 : d ≡ 1 = one in_it in let a : low ≤ x = (is refl).0 in omega arith
count_num true w c d low high least n x ih up one zero l ln nh is (inl over) (inr less) = absurd (omega arith)
count_num true w c d low high least n x ih up one zero l ln nh is (inr under) (inl in_it) =
    let d1 : d ≡ 1 = one in_it in let a : low ≤ x = (is refl).0 in let b : x < high = (is refl).1.0 in
    let apart : n < x = other_less n x under (is refl).1.1 (cases_lt n x) in omega arith
count_num true w c d low high least n x ih up one zero l ln nh is (inr under) (inr less) =
    let d0 : d ≡ 0 = zero less in let a : low ≤ x = (is refl).0 in let b : x < high = (is refl).1.0 in omega arith
count_num false w c d low high least n x ih up one zero l ln nh is (inl over) (inl in_it) =
    let c1 : c ≡ 1 = up over in let d1 : d ≡ 1 = one in_it in omega arith
count_num false w c d low high least n x ih up one zero l ln nh is (inl over) (inr less) = absurd (omega arith)
count_num false w c d low high least n x ih up one zero l ln nh is (inr under) (inl in_it) =
    let d1 : d ≡ 1 = one in_it in omega arith
count_num false w c d low high least n x ih up one zero l ln nh is (inr under) (inr less) =
    let d0 : d ≡ 0 = zero less in omega arith

swap : {A B : Type 0} → A ⊎ B → B ⊎ A
swap (inl a) = inr a
swap (inr b) = inl b

there_one : (m n : ℕ) → m ≤ n → cond {A = ℕ} (leb m n) 1 0 ≡ 1
there_one m n h = rw (le-leb m n h) refl

there_zero : (m n : ℕ) → n < m → cond {A = ℕ} (leb m n) 1 0 ≡ 0
there_zero m n h = rw (lt-leb m n h) refl

none_num : (d low high least n : ℕ) → (least ≤ n → d ≡ 1) → (n < least → d ≡ 0) → low ≤ n → n < high → (least ≤ n) ⊎ (n < least) → 0 + d ≤ high - max low least
none_num d low high least n one zero ln nh (inl in_it) = let d1 : d ≡ 1 = one in_it in omega arith
none_num d low high least n one zero ln nh (inr less) = let d0 : d ≡ 0 = zero less in omega arith

module _ {S : Type 0} where
  tail_step : (x p : PendingFrame S) (xs : List (PendingFrame S)) → Rises (suc x.number) xs → at p.number xs ≡ Some p → (p.number < suc x.number) ⊎ (suc x.number ≤ p.number) → at p.number (x ∷ xs) ≡ Some p
  tail_step x p xs r h (inl less) = absurd (let none : at p.number xs ≡ None = at_below p.number (suc x.number) xs less r in let q : Some p ≡ None = sym h ∙ none in cc)
  tail_step x p xs r h (inr over) = rw (ne_eqb x.number p.number (λ (q : x.number ≡ p.number). omega arith)) h

  head_step : (b : Bool) (x : PendingFrame S) (o : Option (PendingFrame S)) → b ≡ true → cond b (Some x) o ≡ Some x
  head_step true x o e = refl
  head_step false x o e = absurd (cc)

  count : (name : List ℕ) (low high least n : ℕ) (xs : List (PendingFrame S)) → Rises least xs → ((p : PendingFrame S) → at p.number xs ≡ Some p → is_whole p.stage ≡ true → (low ≤ p.number) × ((p.number < high) × (p.number ≡ n → ⊥))) → low ≤ n → n < high → wanting name xs + cond (leb least n) 1 0 ≤ high - max low least
  count name low high least n [] r each ln nh = none_num (cond (leb least n) 1 0) low high least n (there_one least n) (there_zero least n) ln nh (swap (cases_lt n least))
  count name low high least n (x ∷ xs) r each ln nh =
      count_num (wants name x) (wanting name xs) (cond (leb (suc x.number) n) 1 0) (cond (leb least n) 1 0) low high least n x.number
      (count name low high (suc x.number) n xs r.1 (λ p there whole. each p (tail_step x p xs r.1 there (cases_lt p.number (suc x.number))) whole) ln nh)
      (there_one (suc x.number) n) (there_one least n) (there_zero least n) r.0 ln nh
      (λ (q : wants name x ≡ true). each x (head_step (eqb x.number x.number) x (at x.number xs) (eq-eqb x.number x.number refl)) (and_parts (is_whole x.stage) (same name x.source.0) q).0)
      (swap (cases_lt n (suc x.number))) (swap (cases_lt n least))

module _ {S : Type 0} (codec : Coding S) where
  -- at most fifteen whole frames want a share of one that is out
  pub few_want : (r : ReceiverState S) (past : List (ReceiverCall S)) (n : ℕ) (name : List ℕ) → ReceiverStands codec r past → is_out past n ≡ true → r.store.floor ≤ n → wanting name r.frames ≤ 15
  few_want r past n name s out low =
      let near : n < r.store.floor + 16 = (out_new codec r past n s out).near in
      let few : wanting name r.frames + cond (leb 0 n) 1 0 ≤ (r.store.floor + 16) - max r.store.floor 0 =
      count name r.store.floor (r.store.floor + 16) 0 n r.frames s.order (λ p there whole. let is = apart codec r past n p s out there whole in (is.low, (is.high, is.other))) low (omega arith) in
      let one : cond {A = ℕ} (leb 0 n) 1 0 ≡ 1 = there_one 0 n (omega arith) in
      omega arith
