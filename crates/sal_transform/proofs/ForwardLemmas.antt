-- The forward transforms: numbers as they are passed.
use Rattle.std.proofs.Common.{◌≡◌, ◌∙◌, ◌*◌, ℕ, ℤ, pos, ◌+ℤ◌, ◌-ℤ◌, ◌*ℤ◌, ◌<◌, List, get_or, length, ap, arith, sym, subst}
use Rattle.std.specs.Prelude.{All}
use Rattle.std.proofs.lemmas.Int.{ints}
use Rattle.sal_macroblock.specs.Sizes.{Within}
use Rattle.sal_transform.specs.Forward.{turned, turned_back, quantised_value}
use Rattle.sal_transform.proofs.Signed.{as_passed}

pub kept_30 : (z : ℤ) → Within 1073741824 z → as_passed z ≡ z
kept_30 z h = let low = h.0 in let high = h.1 in omega (arith, ints)

pub small_30 : (z : ℤ) → Within 988208640 z → Within 1073741824 (as_passed z)
small_30 z h = let low = h.0 in let high = h.1 in (omega (arith, ints), omega (arith, ints))

pub kept_15 : (z : ℤ) → Within 16320 z → as_passed z ≡ z
kept_15 z h = let low = h.0 in let high = h.1 in omega (arith, ints)

pub small_15 : (z : ℤ) → Within 16320 z → Within 16320 (as_passed z)
small_15 z h = subst (Within 16320) (sym (kept_15 z h)) h

pub kept_16 : (z : ℤ) → Within 65280 z → as_passed z ≡ z
kept_16 z h = let low = h.0 in let high = h.1 in omega (arith, ints)

pub small_16 : (z : ℤ) → Within 65280 z → Within 65280 (as_passed z)
small_16 z h = subst (Within 65280) (sym (kept_16 z h)) h

-- a result and its bound
pub passed_16 : (z x : ℤ) → (z ≡ x) × Within 65280 z → as_passed z ≡ x
passed_16 z x h = kept_16 z h.1 ∙ h.0

pub passed_15 : (z x : ℤ) → (z ≡ x) × Within 16320 z → as_passed z ≡ x
passed_15 z x h = kept_15 z h.1 ∙ h.0

pub passed_13 : (z x : ℤ) → (z ≡ x) × Within 8160 z → as_passed z ≡ x
passed_13 z x h = let low = h.1.0 in let high = h.1.1 in let e = h.0 in omega (arith, ints)

wide : (z : ℤ) → Within 988208640 z → Within 1073741824 z
wide z h = let low = h.0 in let high = h.1 in (omega (arith, ints), omega (arith, ints))

-- sums and differences as they are computed
pub plus : (x y : ℤ) → Within 65280 x → Within 65280 y → as_passed (as_passed x +ℤ as_passed y) ≡ x +ℤ y
plus x y hx hy = let a = hx.0 in let b = hx.1 in let c = hy.0 in let d = hy.1 in omega (arith, ints)

pub minus : (x y : ℤ) → Within 65280 x → Within 65280 y → as_passed (as_passed x -ℤ as_passed y) ≡ x -ℤ y
minus x y hx hy = let a = hx.0 in let b = hx.1 in let c = hy.0 in let d = hy.1 in omega (arith, ints)

pub plus_small : (x y : ℤ) → Within 65280 x → Within 65280 y → Within 130560 (as_passed (as_passed x +ℤ as_passed y))
plus_small x y hx hy = subst (Within 130560) (sym (plus x y hx hy)) (let a = hx.0 in let b = hx.1 in let c = hy.0 in let d = hy.1 in (omega (arith, ints), omega (arith, ints)))

-- two of them added and taken from one another
pub sum_of : (p q s t : ℤ) → p ≡ s → q ≡ t → Within 130560 p → Within 130560 q → as_passed (p +ℤ q) ≡ s +ℤ t
sum_of p q s t e f hp hq = let a = hp.0 in let b = hp.1 in let c = hq.0 in let d = hq.1 in omega (arith, ints)

pub difference_of : (p q s t : ℤ) → p ≡ s → q ≡ t → Within 130560 p → Within 130560 q → as_passed (p -ℤ q) ≡ s -ℤ t
difference_of p q s t e f hp hq = let a = hp.0 in let b = hp.1 in let c = hq.0 in let d = hq.1 in omega (arith, ints)

pub sum_small : (p q : ℤ) → Within 130560 p → Within 130560 q → Within (16 * 16320) (as_passed (p +ℤ q))
sum_small p q hp hq = let a = hp.0 in let b = hp.1 in let c = hq.0 in let d = hq.1 in (omega (arith, ints), omega (arith, ints))

pub difference_small : (p q : ℤ) → Within 130560 p → Within 130560 q → Within (16 * 16320) (as_passed (p -ℤ q))
difference_small p q hp hq = let a = hp.0 in let b = hp.1 in let c = hq.0 in let d = hq.1 in (omega (arith, ints), omega (arith, ints))

pub fits : (z : ℤ) → Within (16 * 16320) z → Within 1073741824 z
fits z h = let low = h.0 in let high = h.1 in (omega (arith, ints), omega (arith, ints))

-- eight times a sum or a difference, and two of these added and taken from one another
pub eightfold_is : (z y x : ℤ) → z ≡ pos 8 *ℤ y → y ≡ x → z ≡ pos 8 *ℤ x
eightfold_is z y x h e = h ∙ ap (λ (t : ℤ). pos 8 *ℤ t) e

pub eights_sum : (p q s t : ℤ) → p ≡ s → q ≡ t → Within 32640 p → Within 32640 q → (as_passed (as_passed p +ℤ as_passed q) ≡ s +ℤ t) × Within 65280 (as_passed (as_passed p +ℤ as_passed q))
eights_sum p q s t e f hp hq = let a = hp.0 in let b = hp.1 in let c = hq.0 in let d = hq.1 in (omega (arith, ints), (omega (arith, ints), omega (arith, ints)))

pub eights_difference : (p q s t : ℤ) → p ≡ s → q ≡ t → Within 32640 p → Within 32640 q → (as_passed (as_passed p -ℤ as_passed q) ≡ s -ℤ t) × Within 65280 (as_passed (as_passed p -ℤ as_passed q))
eights_difference p q s t e f hp hq = let a = hp.0 in let b = hp.1 in let c = hq.0 in let d = hq.1 in (omega (arith, ints), (omega (arith, ints), omega (arith, ints)))

pub kept_eights : (z x : ℤ) → z ≡ x → Within 32640 z → as_passed z ≡ x
kept_eights z x e h = let low = h.0 in let high = h.1 in omega (arith, ints)

pub few_eights : (z : ℤ) → Within 32640 z → Within 32640 (as_passed z)
few_eights z h = let low = h.0 in let high = h.1 in (omega (arith, ints), omega (arith, ints))

wider_row : (z : ℤ) → Within 2040 z → Within 65280 z
wider_row z h = let low = h.0 in let high = h.1 in (omega (arith, ints), omega (arith, ints))

pub row_plus : (x y : ℤ) → Within 2040 x → Within 2040 y → as_passed (as_passed x +ℤ as_passed y) ≡ x +ℤ y
row_plus x y hx hy = plus x y (wider_row x hx) (wider_row y hy)

pub row_minus : (x y : ℤ) → Within 2040 x → Within 2040 y → as_passed (as_passed x -ℤ as_passed y) ≡ x -ℤ y
row_minus x y hx hy = minus x y (wider_row x hx) (wider_row y hy)

-- the first results of differences of samples
pub eights_first : (p q x0 x1 x2 x3 : ℤ) → p ≡ pos 8 *ℤ (x0 +ℤ x3) → q ≡ pos 8 *ℤ (x1 +ℤ x2) → Within 255 x0 → Within 255 x1 → Within 255 x2 → Within 255 x3 → Within 8160 (as_passed (as_passed p +ℤ as_passed q))
eights_first p q x0 x1 x2 x3 e f h0 h1 h2 h3 =
    let a = h0.0 in let b = h0.1 in let c = h1.0 in let d = h1.1 in let i = h2.0 in let j = h2.1 in let k = h3.0 in let l = h3.1 in
    (omega (arith, ints), omega (arith, ints))

pub first_small : (x0 x1 x2 x3 p q : ℤ) → p ≡ x0 +ℤ x3 → q ≡ x1 +ℤ x2 → Within 8160 x0 → Within 8160 x1 → Within 8160 x2 → Within 8160 x3 → Within (16 * 2040) (as_passed (p +ℤ q))
first_small x0 x1 x2 x3 p q e f h0 h1 h2 h3 =
    let a = h0.0 in let b = h0.1 in let c = h1.0 in let d = h1.1 in let i = h2.0 in let j = h2.1 in let k = h3.0 in let l = h3.1 in
    (omega (arith, ints), omega (arith, ints))

pub kept_first : (z : ℤ) → Within 2040 z → Within 2040 (as_passed z)
kept_first z h = let low = h.0 in let high = h.1 in (omega (arith, ints), omega (arith, ints))

pub entry_first : (zs : List ℤ) (k : ℕ) → All (Within 255) zs → k < length zs → Within 255 (as_passed (get_or zs k (pos 0)))
entry_first zs k h lt =
    let small = h k (pos 0) lt in
    let low = small.0 in let high = small.1 in (omega (arith, ints), omega (arith, ints))

pub few_first : (z : ℤ) → Within 8160 z → Within 8160 (as_passed z)
few_first z h = let low = h.0 in let high = h.1 in (omega (arith, ints), omega (arith, ints))

pub turned_is : (z c d c' d' : ℤ) → z ≡ turned c d → c ≡ c' → d ≡ d' → Within 988208640 z → as_passed z ≡ turned c' d'
turned_is z c d c' d' e ec ed small = kept_30 z (wide z small) ∙ (e ∙ (ap (λ (x : ℤ). turned x d) ec ∙ ap (λ (x : ℤ). turned c' x) ed))

pub turned_back_is : (z c d c' d' : ℤ) → z ≡ turned_back c d → c ≡ c' → d ≡ d' → Within 988208640 z → as_passed z ≡ turned_back c' d'
turned_back_is z c d c' d' e ec ed small = kept_30 z (wide z small) ∙ (e ∙ (ap (λ (x : ℤ). turned_back x d) ec ∙ ap (λ (x : ℤ). turned_back c' x) ed))

-- a sixteenth of 16 bits of a turned difference is small
pub column_small : (z : ℤ) → Within 988208640 z → Within (65536 * 16320) (as_passed z)
column_small z h = let low = h.0 in let high = h.1 in (omega (arith, ints), omega (arith, ints))

pub row_small : (z : ℤ) → Within 247052160 z → Within (4096 * 65280) (as_passed z)
row_small z h = let low = h.0 in let high = h.1 in (omega (arith, ints), omega (arith, ints))

-- a coefficient as it is passed
pub coefficient_is : (z f g v : ℤ) → z ≡ quantised_value f v → f ≡ g → Within 2047 z → as_passed z ≡ quantised_value g v
coefficient_is z f g v e same h = let low = h.0 in let high = h.1 in let kept : as_passed z ≡ z = omega (arith, ints) in kept ∙ (e ∙ ap (λ (x : ℤ). quantised_value x v) same)

pub coefficient_small : (z : ℤ) → Within 2047 z → Within 2047 (as_passed z)
coefficient_small z h = let low = h.0 in let high = h.1 in (omega (arith, ints), omega (arith, ints))
