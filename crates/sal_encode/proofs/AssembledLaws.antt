-- What a plan is made into.
use Rattle.std.proofs.Common.{◌≡◌, ℕ, ◌<◌, ◌≤◌, ◌∙◌, List, Bool, true, false, if◌then◌else◌, length, nat_le, refl, sym, ap, arith, subst, Ok, Result}
use Rattle.std.proofs.lemmas.Bool.{leb-true, leb-false}
use Rattle.sal_base.specs.declared.coding.Encoding.{Encoding}
use Rattle.sal_base.specs.declared.coding.Encoding.TheVariants.{Frame, Oversize}
use Rattle.sal_base.specs.declared.coding.Decoded.{Decoded}
use Rattle.sal_base.specs.declared.coding.Fault.{Fault}
use Rattle.sal_base.specs.declared.picture.Picture.{Picture}
use Rattle.sal_state.specs.States.{StateData}
use Rattle.sal_frame.specs.After.{state_after, picture_of, decoded_of}
use Rattle.sal_decode.specs.Decode.{decode_of}
use Rattle.sal_encode.specs.declared.plan.Plan.{Plan}
use Rattle.sal_encode.specs.Plans.{record_of_plan, IsPlan}
use Rattle.sal_encode.specs.FrameBytes.{first_bytes, plan_bytes}
use Rattle.sal_encode.specs.Assembled.{assembled}
use Rattle.sal_encode.proofs.FrameAgain.{decoded_again}
use Rattle.sal_encode.proofs.FrameSize.{frame_few}

module _ (s : StateData) (size : ℕ × ℕ) (p : Plan) where
  abbrev first : ℕ
  first = length (first_bytes s size p)

  abbrev whole : Encoding StateData
  whole = Frame (plan_bytes s size p) (state_after s (record_of_plan size p)) (picture_of s (record_of_plan size p))

  -- a frame has a first partition that its size can say
  by_length : (P : Encoding StateData → Type 0) → (524288 ≤ first → P (Oversize first)) → (first < 524288 → P whole) → P (assembled s size p)
  unfolding assembled
  by_length P large small = at (nat_le 524288 first) refl
    where
      at : (b : Bool) → nat_le 524288 first ≡ b → P (if b then Oversize first else whole)
      at true e = large (leb-true _ _ e)
      at false e = let less = leb-false _ _ e in small (omega (arith, less))

  pub oversize_is : (n : ℕ) → assembled s size p ≡ Oversize n → (n ≡ first) × (524288 ≤ n)
  oversize_is n = by_length (λ e. e ≡ Oversize n → (n ≡ first) × (524288 ≤ n)) (λ le e. (let same : first ≡ n = cc in (sym same, omega (arith, le, same)))) (λ lt e. cc)

  pub large_is : 524288 ≤ first → assembled s size p ≡ Oversize first
  large_is le = by_length (λ e. e ≡ Oversize first) (λ more. refl) (λ lt. absurd (omega (arith, le, lt)))

  pub small_is : first < 524288 → assembled s size p ≡ whole
  small_is lt = by_length (λ e. e ≡ whole) (λ more. absurd (omega (arith, more, lt))) (λ less. refl)

  pub frame_is : (bytes : List ℕ) (target : StateData) (recon : Picture) → assembled s size p ≡ Frame bytes target recon
      → (first < 524288) × (plan_bytes s size p ≡ bytes) × (state_after s (record_of_plan size p) ≡ target) × (picture_of s (record_of_plan size p) ≡ recon)
  frame_is bytes target recon = by_length (λ e. e ≡ Frame bytes target recon → (first < 524288) × (plan_bytes s size p ≡ bytes) × (state_after s (record_of_plan size p) ≡ target) × (picture_of s (record_of_plan size p) ≡ recon))
      (λ le e. cc) (λ lt e. (lt, cc, cc, cc))

  pub decoded_is : IsPlan s size p → (bytes : List ℕ) (target : StateData) (recon : Picture) → assembled s size p ≡ Frame bytes target recon
      → decode_of s bytes ≡ Ok (record { state = target; picture = recon; shown = p.header.shown })
  unfolding decoded_of record_of_plan
  decoded_is valid bytes target recon e =
      let parts = frame_is bytes target recon e in
      let shown : Bool = p.header.shown in
      ap (λ (bs : List ℕ). decode_of s bs) (sym parts.1)
      ∙ (decoded_again s size p valid parts.0
      ∙ (ap (λ (t : StateData). let r : Result (Decoded StateData) Fault = Ok (record { state = t; picture = picture_of s (record_of_plan size p); shown = shown }) in r) parts.2
      ∙ ap (λ (x : Picture). let r : Result (Decoded StateData) Fault = Ok (record { state = target; picture = x; shown = shown }) in r) parts.3))

  pub few_bytes : IsPlan s size p → (bytes : List ℕ) (target : StateData) (recon : Picture) → assembled s size p ≡ Frame bytes target recon → (0 < length bytes) × (length bytes ≤ 43364299)
  few_bytes valid bytes target recon e =
      let parts = frame_is bytes target recon e in
      subst (λ (bs : List ℕ). (0 < length bs) × (length bs ≤ 43364299)) parts.1 (frame_few s size p valid parts.0)
