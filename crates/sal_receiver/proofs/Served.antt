-- A ready frame is served.
use Rattle.std.proofs.Common.{◌≡◌, ℕ, ◌≤◌, Bool, true, false, cond, not, ◌&&◌, ◌||◌, List, [], ◌∷◌, Option, Some, None, refl, ap, sym, ◌∙◌, subst, arith, eqb, leb, ◌⊎◌, inl, inr}
use Rattle.std.proofs.lemmas.Bool.{eqb-true, leb-true}
use Rattle.std.specs.Prelude.{is_some}
use Rattle.sal_base.specs.declared.picture.Picture.{Picture}
use Rattle.sal_base.specs.declared.name.Name.{Name}
use Rattle.sal_base.specs.Lists.{Has}
use Rattle.sal_base.specs.Names.{same}
use Rattle.sal_codec.specs.Coding.{Coding}
use Rattle.sal_receiver.specs.declared.answers.Done.{Done}
use Rattle.sal_receiver.specs.declared.answers.Done.TheVariants.{Stranger, Returned, Unfit, Misnamed, Older, Show}
use Rattle.sal_receiver.specs.Past.{ReceiverCall, Deliver, TakeReady, Decoding, DecodeResult, Sound, Faulty, NoMemory, shown, shown_in, head, taken}
use Rattle.sal_receiver.specs.Ready.{ready_source, is_ready, is_out, is_decided, decides, target_name, source_name, source_now}
use Rattle.std.specs.List.{cons_option}
use Rattle.sal_wire.specs.Fields.{FragmentFields}
use Rattle.sal_reasm.specs.Complete.{floor_of, has_all, fragments_of}
use Rattle.sal_reasm.specs.Offer.{or_else}
use Rattle.sal_chain.specs.Held.{name_in}
use Rattle.sal_receiver.specs.Held.{held_under}
use Rattle.sal_receiver.specs.declared.answers.Misfit.{Misfit}
use Rattle.sal_receiver.specs.Answers.{last_shown, decoded_answer, outcome_answer, has_size}
use Rattle.sal_receiver.specs.Promises.{IsLegalReceiver, IsServed, ReadyIsServed, WasShown, WasPassed, WasOlder, IsFit, AreFit}

-- the last one shown was shown
last_is : (seen : List (ℕ × Picture)) → 1 ≤ last_shown seen → (picture : Picture) × Has seen (last_shown seen, picture)
last_is [] h = absurd (omega arith)
last_is ((m, picture) ∷ before) h = (picture, inl refl)

has_more : {X : Type 0} (o : Option X) (xs : List X) (x : X) → Has xs x → Has (cons_option o xs) x
has_more None xs x h = h
has_more (Some y) xs x h = inr h

-- of the causes in their order, only the third is Older, and only the last is Show
older_of : (fit named passed : Bool) (n m g last : ℕ) (why : Misfit) (said found : Name) (picture : Picture) → Older m g ≡ cond (not fit) (Unfit n why) (cond (not named) (Misnamed said found) (cond passed (Older n last) (Show n picture))) → passed ≡ true
older_of false named passed n m g last why said found picture h = absurd (cc)
older_of true false passed n m g last why said found picture h = absurd (cc)
older_of true true false n m g last why said found picture h = absurd (cc)
older_of true true true n m g last why said found picture h = refl

show_of : (fit named passed : Bool) (n m last : ℕ) (why : Misfit) (said found : Name) (picture shot : Picture) → Show m shot ≡ cond (not fit) (Unfit n why) (cond (not named) (Misnamed said found) (cond passed (Older n last) (Show n picture))) → m ≡ n
show_of false named passed n m last why said found picture shot h = absurd (cc)
show_of true false passed n m last why said found picture shot h = absurd (cc)
show_of true true true n m last why said found picture shot h = absurd (cc)
show_of true true false n m last why said found picture shot h = cc

module _ {S : Type 0} where
  -- what was shown before stays
  later_shown : (call : ReceiverCall S) (past : List (ReceiverCall S)) (n : ℕ) → WasShown past n → WasShown (call ∷ past) n
  later_shown call past n was = (was.0, has_more (shown_in call) (shown past) (n, was.0) was.1)

  later : (call : ReceiverCall S) (past : List (ReceiverCall S)) (n : ℕ) → WasShown past n ⊎ WasOlder past n → WasShown (call ∷ past) n ⊎ WasOlder (call ∷ past) n
  later call past n (inl was) = inl (later_shown call past n was)
  later call past n (inr was) = inr (record { later = call ∷ was.later; before = was.before; outcome = was.outcome; number = was.number; greater = was.greater; past_is = ap (λ xs. call ∷ xs) was.past_is; passed = was.passed })

  passed_is : (past : List (ReceiverCall S)) (n : ℕ) → 1 ≤ n → n ≤ last_shown (shown past) → WasPassed past n
  passed_is past n low h = (last_shown (shown past), h, last_is (shown past) (omega arith))

module _ {S : Type 0} (codec : Coding S) where
  -- an older one was passed
  older_out : (past : List (ReceiverCall S)) (n m g : ℕ) (outcome : DecodeResult S) → 1 ≤ n → Older m g ≡ outcome_answer codec past n outcome → WasPassed past n
  older_out past n m g NoMemory low h = absurd (cc)
  older_out past n m g (Faulty fault) low h = absurd (cc)
  older_out past n m g (Sound state picture) low h =
      passed_is past n low (leb-true _ _ (older_of (has_size (head past) picture) (same (name_in codec state) (target_name past n)) (leb n (last_shown (shown past))) n m g (last_shown (shown past)) _ _ _ picture h))

  older_is : (past : List (ReceiverCall S)) (n m g : ℕ) (outcome : DecodeResult S) (out : Bool) → 1 ≤ n → Older m g ≡ cond (not out) Stranger (outcome_answer codec past n outcome) → WasPassed past n
  older_is past n m g outcome false low h = absurd (cc)
  older_is past n m g outcome true low h = older_out past n m g outcome low h

  -- one that is shown is that number
  show_out : (past : List (ReceiverCall S)) (n m : ℕ) (shot : Picture) (outcome : DecodeResult S) → Show m shot ≡ outcome_answer codec past n outcome → m ≡ n
  show_out past n m shot NoMemory h = absurd (cc)
  show_out past n m shot (Faulty fault) h = absurd (cc)
  show_out past n m shot (Sound state picture) h =
      show_of (has_size (head past) picture) (same (name_in codec state) (target_name past n)) (leb n (last_shown (shown past))) n m (last_shown (shown past)) _ _ _ picture shot h

  show_is : (past : List (ReceiverCall S)) (n m : ℕ) (shot : Picture) (outcome : DecodeResult S) (out : Bool) → Show m shot ≡ cond (not out) Stranger (outcome_answer codec past n outcome) → m ≡ n
  show_is past n m shot outcome false h = absurd (cc)
  show_is past n m shot outcome true h = show_out past n m shot outcome h

  -- a decoding decides its number: it was shown, or is older
  decides_is : (past : List (ReceiverCall S)) (n k : ℕ) (outcome : DecodeResult S) (answer : Done) (same rest : Bool) → 1 ≤ n → eqb k n ≡ same → answer ≡ decoded_answer codec past k outcome → IsFit (Decoding k outcome answer) → (rest ≡ true → WasShown past n ⊎ WasOlder past n) → (decides n (Decoding k outcome answer) || rest) ≡ true → WasShown (Decoding k outcome answer ∷ past) n ⊎ WasOlder (Decoding k outcome answer ∷ past) n
  decides_is past n k outcome Stranger same rest low e a fit more h = later (Decoding k outcome Stranger) past n (more h)
  decides_is past n k outcome (Returned m) same rest low e a fit more h = later (Decoding k outcome (Returned m)) past n (more h)
  decides_is past n k outcome (Unfit m why) same rest low e a fit more h = absurd fit
  decides_is past n k outcome (Misnamed said found) same rest low e a fit more h = absurd fit
  decides_is past n k outcome (Older m g) true rest low e a fit more h =
      let is : k ≡ n = eqb-true _ _ e in
      inr (record { later = []; before = past; outcome = outcome; number = m; greater = g; past_is = ap (λ x. Decoding x outcome (Older m g) ∷ past) is; passed = subst (λ x. WasPassed past x) is (older_is past k m g outcome (is_out past k) (omega arith) a) })
  decides_is past n k outcome (Older m g) false rest low e a fit more h = later (Decoding k outcome (Older m g)) past n (more (rw e at h))
  decides_is past n k outcome (Show m picture) true rest low e a fit more h =
      let is : k ≡ n = eqb-true _ _ e in
      let own : m ≡ k = show_is past k m picture outcome (is_out past k) a in
      inl (picture, inl (ap (λ x. (x, picture)) (sym (own ∙ is))))
  decides_is past n k outcome (Show m picture) false rest low e a fit more h = later (Decoding k outcome (Show m picture)) past n (more (rw e at h))

  pub decided_is : (past : List (ReceiverCall S)) (n : ℕ) → 1 ≤ n → IsLegalReceiver codec past → AreFit past → is_decided past n ≡ true → WasShown past n ⊎ WasOlder past n
  decided_is [] n low legal fit h = absurd (cc)
  decided_is (Deliver came moment answer ∷ past) n low legal fit h = later (Deliver came moment answer) past n (decided_is past n low legal.1 fit.1 h)
  decided_is (TakeReady answer ∷ past) n low legal fit h = later (TakeReady answer) past n (decided_is past n low legal.1 fit.1 h)
  decided_is (Decoding k outcome answer ∷ past) n low legal fit h =
      decides_is past n k outcome answer (eqb k n) (is_decided past n) low refl legal.0.0 fit.0 (decided_is past n low legal.1 fit.1) h

  -- a ready number is at least 1, since the floor is
  floor_low : (es : List FragmentFields) → 1 ≤ floor_of es
  floor_low [] = omega arith
  floor_low (e ∷ es) = let ih : 1 ≤ floor_of es = floor_low es in omega arith

  now_low : (past : List (ReceiverCall S)) (n : ℕ) (low all : Bool) (o : Option S) → leb (floor_of (taken past)) n ≡ low → is_some (cond (low && all) o None) ≡ true → 1 ≤ n
  now_low past n true all o e h = let a : floor_of (taken past) ≤ n = leb-true _ _ e in let b : 1 ≤ floor_of (taken past) = floor_low (taken past) in omega arith
  now_low past n false all o e h = absurd (cc)

  either_low : (n : ℕ) (o p : Option S) → (is_some o ≡ true → 1 ≤ n) → (is_some p ≡ true → 1 ≤ n) → is_some (or_else o p) ≡ true → 1 ≤ n
  either_low n None p f g h = g h
  either_low n (Some s) p f g h = f refl

  ready_low : (past : List (ReceiverCall S)) (n : ℕ) → is_some (ready_source codec past n) ≡ true → 1 ≤ n
  unfolding ready_source
  ready_low [] n h = absurd (cc)
  ready_low (call ∷ past) n h =
      either_low n (ready_source codec past n) (source_now codec (call ∷ past) n) (ready_low past n)
      (λ (q : is_some (source_now codec (call ∷ past) n) ≡ true). now_low (call ∷ past) n (leb (floor_of (taken (call ∷ past))) n) (has_all (fragments_of n (taken (call ∷ past)))) (held_under codec (call ∷ past) (source_name (call ∷ past) n)) refl q) h

  one_of : (past : List (ReceiverCall S)) (n : ℕ) (some out decided : Bool) → is_out past n ≡ out → (some && not out && not decided) ≡ is_ready codec past n → some ≡ true → (decided ≡ true → WasShown past n ⊎ WasOlder past n) → IsServed codec past n
  one_of past n some true decided b w s d = inr (inl b)
  one_of past n some false true b w s d = inr (inr (d refl))
  one_of past n false false false b w s d = absurd (cc)
  one_of past n true false false b w s d = inl (sym w)

  pub served : (past : List (ReceiverCall S)) → IsLegalReceiver codec past → AreFit past → ReadyIsServed codec past
  served past legal fit n h =
      one_of past n (is_some (ready_source codec past n)) (is_out past n) (is_decided past n) refl refl h (decided_is past n (ready_low past n h) legal fit)
