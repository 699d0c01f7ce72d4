-- Vectors of chroma blocks, and samples by their places.
use Rattle.std.proofs.Common.{◌≡◌, ◌∙◌, ◌<◌, ◌+◌, ◌*◌, ◌/◌, ◌%◌, ℕ, ℤ, pos, ◌+ℤ◌, List, true, false, ap, arith, get_or}
use Rattle.sal_base.specs.Samples.{IsBlockOf}
use Rattle.sal_base.specs.declared.kinds.Vector.{Vector}
use Rattle.sal_base.specs.declared.picture.Plane.{Plane}
use Rattle.sal_macroblock.specs.Macroblocks.{vector_at}
use Rattle.sal_inter.specs.Inter.{inter_sample, quarter}
use Rattle.sal_frame.specs.Built.{quarter_vector}

pub mean_is : (q x s z : ℤ) → q ≡ quarter x → x ≡ s → z ≡ q → z ≡ quarter s
mean_is q x s z h e f = f ∙ (h ∙ ap (λ (y : ℤ). quarter y) e)

pub mean_same : (q a b c d a' b' c' d' : ℤ) → q ≡ quarter (((a' +ℤ b') +ℤ c') +ℤ d') → a' ≡ a → b' ≡ b → c' ≡ c → d' ≡ d → q ≡ quarter (((a +ℤ b) +ℤ c) +ℤ d)
mean_same q a b c d a' b' c' d' h ea eb ec ed =
    h ∙ (ap (λ (z : ℤ). quarter (((z +ℤ b') +ℤ c') +ℤ d')) ea ∙ (ap (λ (z : ℤ). quarter (((a +ℤ z) +ℤ c') +ℤ d')) eb ∙ (ap (λ (z : ℤ). quarter (((a +ℤ b) +ℤ z) +ℤ d')) ec ∙ ap (λ (z : ℤ). quarter (((a +ℤ b) +ℤ c) +ℤ z)) ed)))

pub vector_same : (r c r' c' : ℤ) → r ≡ r' → c ≡ c' → (let v : Vector = record { row = r; column = c } in v) ≡ record { row = r'; column = c' }
vector_same r c r' c' e f = cc

-- a part of 4 by 4 samples by its vector, in a luma macroblock and in one of a chroma plane
pub luma_part_at : (from : Plane) (vs : List Vector) (x y n k : ℕ) (b : List ℕ) → n < 16 → k < 16
    → IsBlockOf 4 16 b (λ row column. inter_sample from (vector_at vs n) false (pos ((x + 4 * (n % 4)) + column)) (pos ((y + 4 * (n / 4)) + row)))
    → get_or b k 0 ≡ inter_sample from (vector_at vs (4 * ((4 * (n / 4) + k / 4) / 4) + (4 * (n % 4) + k % 4) / 4)) false (pos (x + (4 * (n % 4) + k % 4))) (pos (y + (4 * (n / 4) + k / 4)))
luma_part_at from vs x y n k b lt small h =
    let i : n ≡ 4 * ((4 * (n / 4) + k / 4) / 4) + (4 * (n % 4) + k % 4) / 4 = omega arith in
    let column : (x + 4 * (n % 4)) + k % 4 ≡ x + (4 * (n % 4) + k % 4) = omega arith in
    let row : (y + 4 * (n / 4)) + k / 4 ≡ y + (4 * (n / 4) + k / 4) = omega arith in
    h k small
    ∙ (ap (λ (j : ℕ). inter_sample from (vector_at vs j) false (pos ((x + 4 * (n % 4)) + k % 4)) (pos ((y + 4 * (n / 4)) + k / 4))) i
    ∙ (ap (λ (j : ℕ). inter_sample from (vector_at vs (4 * ((4 * (n / 4) + k / 4) / 4) + (4 * (n % 4) + k % 4) / 4)) false (pos j) (pos ((y + 4 * (n / 4)) + k / 4))) column
    ∙ ap (λ (j : ℕ). inter_sample from (vector_at vs (4 * ((4 * (n / 4) + k / 4) / 4) + (4 * (n % 4) + k % 4) / 4)) false (pos (x + (4 * (n % 4) + k % 4))) (pos j)) row))

pub chroma_part_at : (from : Plane) (vs : List Vector) (v : Vector) (x y n k : ℕ) (b : List ℕ) → n < 4 → k < 16 → v ≡ quarter_vector vs (8 * (n / 2) + 2 * (n % 2))
    → IsBlockOf 4 16 b (λ row column. inter_sample from v true (pos ((x + 4 * (n % 2)) + column)) (pos ((y + 4 * (n / 2)) + row)))
    → get_or b k 0 ≡ inter_sample from (quarter_vector vs (8 * ((4 * (n / 2) + k / 4) / 4) + 2 * ((4 * (n % 2) + k % 4) / 4))) true (pos (x + (4 * (n % 2) + k % 4))) (pos (y + (4 * (n / 2) + k / 4)))
chroma_part_at from vs v x y n k b lt small e h =
    let i : 8 * (n / 2) + 2 * (n % 2) ≡ 8 * ((4 * (n / 2) + k / 4) / 4) + 2 * ((4 * (n % 2) + k % 4) / 4) = omega arith in
    let column : (x + 4 * (n % 2)) + k % 4 ≡ x + (4 * (n % 2) + k % 4) = omega arith in
    let row : (y + 4 * (n / 2)) + k / 4 ≡ y + (4 * (n / 2) + k / 4) = omega arith in
    h k small
    ∙ (ap (λ (u : Vector). inter_sample from u true (pos ((x + 4 * (n % 2)) + k % 4)) (pos ((y + 4 * (n / 2)) + k / 4))) (e ∙ ap (λ (j : ℕ). quarter_vector vs j) i)
    ∙ (ap (λ (j : ℕ). inter_sample from (quarter_vector vs (8 * ((4 * (n / 2) + k / 4) / 4) + 2 * ((4 * (n % 2) + k % 4) / 4))) true (pos j) (pos ((y + 4 * (n / 2)) + k / 4))) column
    ∙ ap (λ (j : ℕ). inter_sample from (quarter_vector vs (8 * ((4 * (n / 2) + k / 4) / 4) + 2 * ((4 * (n % 2) + k % 4) / 4))) true (pos (x + (4 * (n % 2) + k % 4))) (pos j)) row))
