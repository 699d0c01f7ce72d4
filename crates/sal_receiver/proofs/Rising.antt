-- The numbers shown rise.
use Rattle.std.proofs.Common.{◌≡◌, ℕ, ◌<◌, Bool, true, false, cond, not, List, [], ◌∷◌, refl, subst, arith, leb}
use Rattle.std.proofs.lemmas.Bool.{leb-false}
use Rattle.sal_base.specs.declared.name.Name.{Name}
use Rattle.sal_base.specs.declared.picture.Picture.{Picture}
use Rattle.sal_base.specs.Lists.{Each}
use Rattle.sal_base.specs.Names.{same}
use Rattle.sal_codec.specs.Coding.{Coding}
use Rattle.sal_receiver.specs.declared.answers.Done.{Done}
use Rattle.sal_receiver.specs.declared.answers.Done.TheVariants.{Stranger, Returned, Unfit, Misnamed, Older, Show}
use Rattle.sal_receiver.specs.declared.answers.Misfit.{Misfit}
use Rattle.sal_receiver.specs.Past.{ReceiverCall, Deliver, TakeReady, Decoding, DecodeResult, Sound, Faulty, NoMemory, shown, head}
use Rattle.sal_chain.specs.Held.{name_in}
use Rattle.sal_receiver.specs.Ready.{is_out, target_name}
use Rattle.sal_receiver.specs.Answers.{has_size, last_shown, decoded_answer}
use Rattle.sal_receiver.specs.Promises.{IsLegalReceiver, IsBelow, ShowsAbove, NumbersRise}
use Rattle.sal_receiver.specs.Machine.{ReceiverState, ReceiverStands}
use Rattle.sal_receiver.specs.Judged.{judged}

-- what is below a number is below a greater one
below_greater : (seen : List (ℕ × Picture)) (m n : ℕ) → m < n → Each (IsBelow m) seen → Each (IsBelow n) seen
below_greater [] m n low h = h
below_greater ((k, picture) ∷ before) m n low h = (let first : k < m = h.0 in omega (arith, low, first), below_greater before m n low h.1)

-- what is above the last one shown is above all
above_last : (seen : List (ℕ × Picture)) (n : ℕ) → NumbersRise seen → last_shown seen < n → Each (IsBelow n) seen
above_last [] n rise low = rise
above_last ((m, picture) ∷ before) n rise low = (low, below_greater before m n low rise.0)

-- what is shown isn't at most the last one
not_passed : (fit named passed : Bool) (k n last : ℕ) (why : Misfit) (said found : Name) (picture shot : Picture) → Show k shot ≡ cond (not fit) (Unfit n why) (cond (not named) (Misnamed said found) (cond passed (Older n last) (Show n picture))) → (n ≡ k) × (passed ≡ false)
not_passed false named passed k n last why said found picture shot h = absurd (cc)
not_passed true false passed k n last why said found picture shot h = absurd (cc)
not_passed true true true k n last why said found picture shot h = absurd (cc)
not_passed true true false k n last why said found picture shot h = (cc, refl)

above_shown : (k n last : ℕ) → (n ≡ k) × (leb n last ≡ false) → last < k
above_shown k n last h = subst (λ (x : ℕ). last < x) h.0 (leb-false _ _ h.1)

-- an answer but for strangers is of its outcome
shown_out : (out : Bool) (k : ℕ) (shot : Picture) (x : Done) → Show k shot ≡ cond (not out) Stranger x → Show k shot ≡ x
shown_out true k shot x h = h
shown_out false k shot x h = absurd (cc)

module _ {S : Type 0} (codec : Coding S) where
  shown_above : (past : List (ReceiverCall S)) (n k : ℕ) (outcome : DecodeResult S) (shot : Picture) → Show k shot ≡ Rattle.sal_receiver.specs.Answers.outcome_answer codec past n outcome → last_shown (shown past) < k
  shown_above past n k (Sound state picture) shot h =
      above_shown k n (last_shown (shown past)) (not_passed (has_size (head past) picture) (same (name_in codec state) (target_name past n)) (leb n (last_shown (shown past))) k n (last_shown (shown past)) _ _ _ picture shot h)
  shown_above past n k (Faulty fault) shot h = absurd (cc)
  shown_above past n k NoMemory shot h = absurd (cc)

  pub rising : (past : List (ReceiverCall S)) → IsLegalReceiver codec past → NumbersRise (shown past)
  rising [] legal = legal
  rising (Deliver came moment answer ∷ past) legal = rising past legal.1
  rising (TakeReady answer ∷ past) legal = rising past legal.1
  rising (Decoding n outcome Stranger ∷ past) legal = rising past legal.1
  rising (Decoding n outcome (Returned k) ∷ past) legal = rising past legal.1
  rising (Decoding n outcome (Unfit k why) ∷ past) legal = rising past legal.1
  rising (Decoding n outcome (Misnamed said found) ∷ past) legal = rising past legal.1
  rising (Decoding n outcome (Older k g) ∷ past) legal = rising past legal.1
  rising (Decoding n outcome (Show k shot) ∷ past) legal =
      let before = rising past legal.1 in
      (above_last (shown past) k before (shown_above past n k outcome shot (shown_out (is_out past n) k shot _ legal.0.0)), before)

  -- what the judge shows is above all that was shown
  pub judged_above : (r : ReceiverState S) (past : List (ReceiverCall S)) (n : ℕ) (target name : Name) (picture : Picture) (result : Done) → ReceiverStands codec r past → result ≡ judged n target name picture r → ShowsAbove (shown past) result
  judged_above r past n target name picture Stranger s h = tt
  judged_above r past n target name picture (Returned k) s h = tt
  judged_above r past n target name picture (Unfit k why) s h = tt
  judged_above r past n target name picture (Misnamed said found) s h = tt
  judged_above r past n target name picture (Older k g) s h = tt
  judged_above r past n target name picture (Show k shot) s h =
      let low : r.last < k = above_shown k n r.last (not_passed (has_size r.known.head picture) (same name.0 target.0) (leb n r.last) k n r.last _ _ _ picture shot h) in
      above_last (shown past) k (rising past s.legal) (subst (λ (x : ℕ). x < k) s.last low)
