-- What is assembled is what the plan is made into.
use Rattle.std.proofs.Common.{◌≡◌, ◌<◌, ◌≤◌, ◌∙◌, ℕ, List, ◌++◌, length, refl, sym, ap, arith}
use Rattle.sal_base.specs.declared.coding.Encoding.{Encoding}
use Rattle.sal_base.specs.declared.coding.Encoding.TheVariants.{Frame, Oversize}
use Rattle.sal_base.specs.declared.coding.Decoded.{Decoded}
use Rattle.sal_header.specs.declared.header.Kept.{Kept}
use Rattle.sal_state.specs.States.{StateData}
use Rattle.sal_frame.specs.After.{decoded_of}
use Rattle.sal_encode.specs.declared.plan.Plan.{Plan}
use Rattle.sal_encode.specs.Plans.{record_of_plan, IsPlan}
use Rattle.sal_encode.specs.FrameBytes.{head_bytes, first_bytes, token_bytes, plan_bytes}
use Rattle.sal_encode.specs.Assembled.{assembled}
use Rattle.sal_encode.proofs.AssembledLaws.{large_is, small_is}
use Rattle.sal_encode.proofs.FirstSize.{first_few}

pub plan_width : (size : ℕ × ℕ) (p : Plan) → (record_of_plan size p).width ≡ size.0
unfolding record_of_plan
plan_width size p = refl

pub plan_height : (size : ℕ × ℕ) (p : Plan) → (record_of_plan size p).height ≡ size.1
unfolding record_of_plan
plan_height size p = refl

-- a length that a u32 counts
pub length_fits : (s : StateData) (size : ℕ × ℕ) (p : Plan) (k : Kept) (first : List ℕ) (n : ℕ) → IsPlan s size p → k ≡ s.kept → length k.ref_deltas ≡ 4 → length k.mode_deltas ≡ 4 → first ≡ first_bytes s size p → n ≡ length first → n ≤ 985361
length_fits s size p k first n valid kept references modes is long =
    let few = first_few s size p valid (ap (λ (x : Kept). length x.ref_deltas) (sym kept) ∙ references) (ap (λ (x : Kept). length x.mode_deltas) (sym kept) ∙ modes) in
    let same = ap length is in
    omega (arith, few, same, long)

pub oversize_made : (s : StateData) (size : ℕ × ℕ) (p : Plan) (first : List ℕ) (n : ℕ) → first ≡ first_bytes s size p → n ≡ length first → 524288 ≤ n → ◌≡◌ {A = Encoding StateData} (Oversize n) (assembled s size p)
oversize_made s size p first n is long le =
    let same : n ≡ length (first_bytes s size p) = long ∙ ap length is in
    ap (λ k. let e : Encoding StateData = Oversize k in e) same ∙ sym (large_is s size p (omega (arith, same, le)))

pub frame_made : (s : StateData) (size : ℕ × ℕ) (p : Plan) (first tokens bytes : List ℕ) (n : ℕ) (d : Decoded StateData) → first ≡ first_bytes s size p → n ≡ length first → n < 524288 → tokens ≡ token_bytes s size p
    → bytes ≡ head_bytes p.header.key p.header.shown (length first) size ++ (first ++ tokens) → d ≡ decoded_of s (record_of_plan size p) → ◌≡◌ {A = Encoding StateData} (Frame bytes d.state d.picture) (assembled s size p)
unfolding plan_bytes decoded_of
frame_made s size p first tokens bytes n d is long lt tokens_are bytes_are decoded_is =
    let same : n ≡ length (first_bytes s size p) = long ∙ ap length is in
    let all : bytes ≡ plan_bytes s size p =
    bytes_are
    ∙ (ap (λ (xs : List ℕ). head_bytes p.header.key p.header.shown (length xs) size ++ (xs ++ tokens)) is
    ∙ ap (λ (xs : List ℕ). head_bytes p.header.key p.header.shown (length (first_bytes s size p)) size ++ (first_bytes s size p ++ xs)) tokens_are) in
    ap (λ (xs : List ℕ). let e : Encoding StateData = Frame xs d.state d.picture in e) all
    ∙ (ap (λ (x : Decoded StateData). let e : Encoding StateData = Frame (plan_bytes s size p) x.state x.picture in e) decoded_is
    ∙ sym (small_is s size p (omega (arith, same, lt))))
