-- The six factors of a segment.
use Rattle.std.proofs.Common.{◌≡◌, ◌∙◌, ℕ, ℤ, ◌*◌, ◌/◌, min, max, ap, arith}
use Rattle.sal_transform.specs.Factors.{Factors, dc_factor, ac_factor}

-- six equations make an equation of factors
pub equal : (a b c d e f a' b' c' d' e' f' : ℕ) → a ≡ a' → b ≡ b' → c ≡ c' → d ≡ d' → e ≡ e' → f ≡ f'
    → (let s : Factors = record { y_dc = a; y_ac = b; y2_dc = c; y2_ac = d; uv_dc = e; uv_ac = f } in s) ≡ record { y_dc = a'; y_ac = b'; y2_dc = c'; y2_ac = d'; uv_dc = e'; uv_ac = f' }
equal a b c d e f a' b' c' d' e' f' h1 h2 h3 h4 h5 h6 = cc

-- a factor as it is computed
pub dc_same : (r i q : ℕ) (z d : ℤ) → r ≡ dc_factor i z → i ≡ q → z ≡ d → r ≡ dc_factor q d
dc_same r i q z d h e f = h ∙ (ap (λ (n : ℕ). dc_factor n z) e ∙ ap (λ (x : ℤ). dc_factor q x) f)

pub ac_same : (r i q : ℕ) (z d : ℤ) → r ≡ ac_factor i z → i ≡ q → z ≡ d → r ≡ ac_factor q d
ac_same r i q z d h e f = h ∙ (ap (λ (n : ℕ). ac_factor n z) e ∙ ap (λ (x : ℤ). ac_factor q x) f)

pub at_least_8 : (r x y : ℕ) → r ≡ max (x * 155 / 100) 8 → x ≡ y → r ≡ max 8 (y * 155 / 100)
at_least_8 r x y h e = (let swapped : max (x * 155 / 100) 8 ≡ max 8 (x * 155 / 100) = omega arith in h ∙ (swapped ∙ ap (λ (n : ℕ). max 8 (n * 155 / 100)) e))

pub at_most_132 : (r x y : ℕ) → r ≡ min x 132 → x ≡ y → r ≡ min 132 y
at_most_132 r x y h e = (let swapped : min x 132 ≡ min 132 x = omega arith in h ∙ (swapped ∙ ap (λ (n : ℕ). min 132 n) e))
