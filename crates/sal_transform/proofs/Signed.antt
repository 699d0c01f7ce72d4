-- Signed numbers in 32 bits, and lists of sixteen of them.
use Rattle.std.proofs.Common.{◌≡◌, ℕ, ◌*◌, ◌≤◌, ℤ, pos, negsuc, ◌*ℤ◌, [], ◌∷◌, arith, to_z, of_z, w32, ◌∙◌, ap, sym, subst}
use Rattle.std.specs.Prelude.{unsigned_abs, All}
use Rattle.std.proofs.lemmas.Int.{ints, unsigned_abs-mul}
use Rattle.std.proofs.lemmas.Nat.{mul-le}
use Rattle.std.proofs.lemmas.List.Elements.{All-cons, All-nil}
use Rattle.sal_macroblock.specs.Sizes.{Within}

-- sixteen equations make an equation of lists
pub same_16 : {x0 x1 x2 x3 x4 x5 x6 x7 x8 x9 x10 x11 x12 x13 x14 x15 y0 y1 y2 y3 y4 y5 y6 y7 y8 y9 y10 y11 y12 y13 y14 y15 : ℤ} → x0 ≡ y0 → x1 ≡ y1 → x2 ≡ y2 → x3 ≡ y3 → x4 ≡ y4 → x5 ≡ y5 → x6 ≡ y6 → x7 ≡ y7 → x8 ≡ y8 → x9 ≡ y9 → x10 ≡ y10 → x11 ≡ y11 → x12 ≡ y12 → x13 ≡ y13 → x14 ≡ y14 → x15 ≡ y15
    → x0 ∷ x1 ∷ x2 ∷ x3 ∷ x4 ∷ x5 ∷ x6 ∷ x7 ∷ x8 ∷ x9 ∷ x10 ∷ x11 ∷ x12 ∷ x13 ∷ x14 ∷ x15 ∷ [] ≡ y0 ∷ y1 ∷ y2 ∷ y3 ∷ y4 ∷ y5 ∷ y6 ∷ y7 ∷ y8 ∷ y9 ∷ y10 ∷ y11 ∷ y12 ∷ y13 ∷ y14 ∷ y15 ∷ []
same_16 h0 h1 h2 h3 h4 h5 h6 h7 h8 h9 h10 h11 h12 h13 h14 h15 = cc

-- a small number is kept by the words of its type
kept_within : (z : ℤ) → Within 134217728 z → to_z w32 (of_z w32 z) ≡ z
kept_within z small = omega (arith, ints)

pub kept_24 : (z x : ℤ) → (z ≡ x) × Within 16777216 z → to_z w32 (of_z w32 z) ≡ x
kept_24 z x h = let low = h.1.0 in let high = h.1.1 in kept_within z (omega (arith, ints), omega (arith, ints)) ∙ h.0

pub kept_27 : (z x : ℤ) → (z ≡ x) × Within 134217728 z → to_z w32 (of_z w32 z) ≡ x
kept_27 z x h = kept_within z h.1 ∙ h.0

-- a passed value as it is
abbrev pub as_passed : ℤ → ℤ
as_passed z = to_z w32 (of_z w32 z)

size_of : (z : ℤ) (n : ℕ) → Within n z → unsigned_abs z ≤ n
size_of (pos k) n h = let low = h.0 in let high = h.1 in omega (arith, ints)
size_of (negsuc k) n h = let low = h.0 in let high = h.1 in omega (arith, ints)

within_size : (z : ℤ) (n : ℕ) → unsigned_abs z ≤ n → Within n z
within_size (pos k) n h = (omega (arith, ints), omega (arith, ints))
within_size (negsuc k) n h = (omega (arith, ints), omega (arith, ints))

small_product : (l s : ℤ) → Within 2114 l → Within 440 s → Within 1048576 (l *ℤ s)
small_product l s hl hs =
    within_size _ _ (let e : unsigned_abs (l *ℤ s) ≡ unsigned_abs l * unsigned_abs s = unsigned_abs-mul l s in
    let b : unsigned_abs l * unsigned_abs s ≤ 2114 * 440 = mul-le _ _ 2114 440 (size_of l 2114 hl) (size_of s 440 hs) in omega arith)

kept_20 : (z : ℤ) → Within 1048576 z → as_passed z ≡ z
kept_20 z h = let low = h.0 in let high = h.1 in kept_within z (omega (arith, ints), omega (arith, ints))

wider : (n : ℕ) (z : ℤ) → n ≤ 1048576 → Within n z → Within 1048576 z
wider n z le h = let low = h.0 in let high = h.1 in (omega (arith, ints), omega (arith, ints))

product_of : (l s : ℤ) → Within 2114 l → Within 440 s → as_passed l *ℤ as_passed s ≡ l *ℤ s
product_of l s hl hs = ap (λ (x : ℤ). x *ℤ as_passed s) (kept_20 l (wider 2114 l (omega arith) hl)) ∙ ap (λ (x : ℤ). l *ℤ x) (kept_20 s (wider 440 s (omega arith) hs))

-- a coefficient times its factor, as it is computed
pub product : (l s : ℤ) → Within 2114 l → Within 440 s → as_passed (as_passed l *ℤ as_passed s) ≡ l *ℤ s
product l s hl hs = ap (λ (x : ℤ). as_passed x) (product_of l s hl hs) ∙ kept_20 _ (small_product l s hl hs)

pub product_small : (l s : ℤ) → Within 2114 l → Within 440 s → Within 1048576 (as_passed (as_passed l *ℤ as_passed s))
product_small l s hl hs = subst (Within 1048576) (sym (product l s hl hs)) (small_product l s hl hs)

-- the same of a result
pub dequantise_is : (z l s : ℤ) → z ≡ as_passed l *ℤ as_passed s → Within 1048576 z → Within 2114 l → Within 440 s → as_passed z ≡ l *ℤ s
dequantise_is z l s e h hl hs = kept_20 z h ∙ (e ∙ product_of l s hl hs)

pub dequantise_small : (z : ℤ) → Within 1048576 z → Within 1048576 (as_passed z)
dequantise_small z h = subst (Within 1048576) (sym (kept_20 z h)) h

pub entry : (z v s : ℤ) → z ≡ v *ℤ as_passed s → Within 1048576 z → Within 440 s → as_passed z ≡ v *ℤ s
entry z v s e h hs = kept_20 z h ∙ (e ∙ ap (λ (x : ℤ). v *ℤ x) (kept_20 s (wider 440 s (omega arith) hs)))

pub kept_21 : (z : ℤ) → Within 2097152 z → as_passed z ≡ z
kept_21 z h = let low = h.0 in let high = h.1 in kept_within z (omega (arith, ints), omega (arith, ints))

pub small_21 : (z : ℤ) → Within 2097152 z → Within 2097152 (as_passed z)
small_21 z h = subst (Within 2097152) (sym (kept_21 z h)) h

pub kept_22 : (z x : ℤ) → (z ≡ x) × Within 4194304 z → as_passed z ≡ x
kept_22 z x h = let low = h.1.0 in let high = h.1.1 in kept_within z (omega (arith, ints), omega (arith, ints)) ∙ h.0

pub kept_result : (z x : ℤ) → (z ≡ x) × Within 2097152 z → as_passed z ≡ x
kept_result z x h = kept_21 z h.1 ∙ h.0

-- sixteen facts make a fact of all
pub all_16 : (P : ℤ → Type 0) (x0 x1 x2 x3 x4 x5 x6 x7 x8 x9 x10 x11 x12 x13 x14 x15 : ℤ) → P x0 → P x1 → P x2 → P x3 → P x4 → P x5 → P x6 → P x7 → P x8 → P x9 → P x10 → P x11 → P x12 → P x13 → P x14 → P x15
    → All P (x0 ∷ x1 ∷ x2 ∷ x3 ∷ x4 ∷ x5 ∷ x6 ∷ x7 ∷ x8 ∷ x9 ∷ x10 ∷ x11 ∷ x12 ∷ x13 ∷ x14 ∷ x15 ∷ [])
all_16 P x0 x1 x2 x3 x4 x5 x6 x7 x8 x9 x10 x11 x12 x13 x14 x15 h0 h1 h2 h3 h4 h5 h6 h7 h8 h9 h10 h11 h12 h13 h14 h15 = All-cons P x0 (x1 ∷ x2 ∷ x3 ∷ x4 ∷ x5 ∷ x6 ∷ x7 ∷ x8 ∷ x9 ∷ x10 ∷ x11 ∷ x12 ∷ x13 ∷ x14 ∷ x15 ∷ []) h0 (All-cons P x1 (x2 ∷ x3 ∷ x4 ∷ x5 ∷ x6 ∷ x7 ∷ x8 ∷ x9 ∷ x10 ∷ x11 ∷ x12 ∷ x13 ∷ x14 ∷ x15 ∷ []) h1 (All-cons P x2 (x3 ∷ x4 ∷ x5 ∷ x6 ∷ x7 ∷ x8 ∷ x9 ∷ x10 ∷ x11 ∷ x12 ∷ x13 ∷ x14 ∷ x15 ∷ []) h2 (All-cons P x3 (x4 ∷ x5 ∷ x6 ∷ x7 ∷ x8 ∷ x9 ∷ x10 ∷ x11 ∷ x12 ∷ x13 ∷ x14 ∷ x15 ∷ []) h3 (All-cons P x4 (x5 ∷ x6 ∷ x7 ∷ x8 ∷ x9 ∷ x10 ∷ x11 ∷ x12 ∷ x13 ∷ x14 ∷ x15 ∷ []) h4 (All-cons P x5 (x6 ∷ x7 ∷ x8 ∷ x9 ∷ x10 ∷ x11 ∷ x12 ∷ x13 ∷ x14 ∷ x15 ∷ []) h5 (All-cons P x6 (x7 ∷ x8 ∷ x9 ∷ x10 ∷ x11 ∷ x12 ∷ x13 ∷ x14 ∷ x15 ∷ []) h6 (All-cons P x7 (x8 ∷ x9 ∷ x10 ∷ x11 ∷ x12 ∷ x13 ∷ x14 ∷ x15 ∷ []) h7 (All-cons P x8 (x9 ∷ x10 ∷ x11 ∷ x12 ∷ x13 ∷ x14 ∷ x15 ∷ []) h8 (All-cons P x9 (x10 ∷ x11 ∷ x12 ∷ x13 ∷ x14 ∷ x15 ∷ []) h9 (All-cons P x10 (x11 ∷ x12 ∷ x13 ∷ x14 ∷ x15 ∷ []) h10 (All-cons P x11 (x12 ∷ x13 ∷ x14 ∷ x15 ∷ []) h11 (All-cons P x12 (x13 ∷ x14 ∷ x15 ∷ []) h12 (All-cons P x13 (x14 ∷ x15 ∷ []) h13 (All-cons P x14 (x15 ∷ []) h14 (All-cons P x15 [] h15 (All-nil P))))))))))))))))
