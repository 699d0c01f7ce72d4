-- Squares that are written into rows of samples, place by place.
use Rattle.std.proofs.Common.{◌≡◌, ◌∙◌, ◌≤◌, ◌<◌, ◌+◌, ◌*◌, ◌-◌, ◌/◌, ◌%◌, ℕ, suc, zero, List, ◌++◌, ◌⊎◌, inl, inr, length, get_or, drop, slice_range, refl, sym, subst, arith}
use Rattle.std.proofs.lemmas.Bool.{cases_lt}
use Rattle.std.proofs.lemmas.List.{get_or-take, get_or-drop, length-take, length-drop}
use Rattle.std.proofs.Math.Nat.{mul-le-mul_right}
use Rattle.sal_base.specs.Samples.{pasted, rows_put}
use Rattle.sal_frame.proofs.Sums.{before_part, in_part, after_part, part_length}

-- a square lies in samples
pub record Lies (w x y s : ℕ) (b xs : List ℕ) : Type 0 where
  pub block : length b ≡ s * s
  pub column : x + s ≤ w
  pub rows : (y + s) * w ≤ length xs

row_ends : (y n s w : ℕ) → n < s → (y + n) * w + w ≤ (y + s) * w
row_ends y n s w lt =
    let le : (y + n) + 1 ≤ y + s = omega arith in
    omega (arith, mul-le-mul_right w le)

later_row : (y r n w : ℕ) → r < n → (y + r) * w + w ≤ (y + n) * w
later_row y r n w lt =
    let le : (y + r) + 1 ≤ y + n = omega arith in
    omega (arith, mul-le-mul_right w le)

line_length : (b : List ℕ) (s n : ℕ) → length b ≡ s * s → n < s → length (slice_range b (s * n) (s * n + s)) ≡ s
line_length b s n e lt =
    let le : n + 1 ≤ s = omega arith in
    let fits : s * n + s ≤ length b = omega (arith, mul-le-mul_right s le) in
    simp (length-take, length-drop) (omega arith)

pub rows_length : (w x y s : ℕ) (b xs : List ℕ) → Lies w x y s b xs → (n : ℕ) → n ≤ s → length (rows_put w x y s b n xs) ≡ length xs
unfolding rows_put
rows_length w x y s b xs h zero le = refl
rows_length w x y s b xs h (suc n) le =
    let so_far : length (rows_put w x y s b n xs) ≡ length xs = rows_length w x y s b xs h n (omega arith) in
    let ends : (y + n) * w + w ≤ (y + s) * w = row_ends y n s w (omega arith) in
    let room : ((y + n) * w + x) + s ≤ length (rows_put w x y s b n xs) = omega (arith, h.column, h.rows) in
    part_length ((y + n) * w + x) s (length xs) (rows_put w x y s b n xs) (slice_range b (s * n) (s * n + s)) room (line_length b s n h.block (omega arith)) so_far

in_more : (w x y s : ℕ) (b now : List ℕ) (long n r c : ℕ) → length b ≡ s * s → x + s ≤ w → length now ≡ long → ((y + n) * w + x) + s ≤ long → n < s → c < s
    → (r < n) ⊎ (n ≤ r) → r ≤ n → (r < n → get_or now (((y + r) * w + x) + c) 0 ≡ get_or b (s * r + c) 0)
    → get_or (pasted now ((y + n) * w + x) s (slice_range b (s * n) (s * n + s))) (((y + r) * w + x) + c) 0 ≡ get_or b (s * r + c) 0
in_more w x y s b now long n r c block column e room lt below (inl before) le so_far =
    let earlier : (y + r) * w + w ≤ (y + n) * w = later_row y r n w before in
    before_part now (slice_range b (s * n) (s * n + s)) ((y + n) * w + x) s (((y + r) * w + x) + c) (omega arith) (omega arith) ∙ so_far before
in_more w x y s b now long n r c block column e room lt below (inr from) le so_far =
    let same : r ≡ n = omega arith in
    let line : length (slice_range b (s * n) (s * n + s)) ≡ s = line_length b s n block lt in
    let wide : c < (s * n + s) - s * n = omega arith in
    let here : get_or (pasted now ((y + n) * w + x) s (slice_range b (s * n) (s * n + s))) (((y + n) * w + x) + c) 0 ≡ get_or b (s * n + c) 0 =
    in_part now (slice_range b (s * n) (s * n + s)) ((y + n) * w + x) s c (omega arith) (omega arith) ∙ (get_or-take ((s * n + s) - s * n) (drop (s * n) b) c 0 wide ∙ get_or-drop (s * n) b c 0) in
    let P : ℕ → Type 0 = λ k. get_or (pasted now ((y + n) * w + x) s (slice_range b (s * n) (s * n + s))) (((y + k) * w + x) + c) 0 ≡ get_or b (s * k + c) 0 in
    subst P (sym same) here

-- a place of the square
pub in_square : (w x y s : ℕ) (b xs : List ℕ) → Lies w x y s b xs → (n r c : ℕ) → n ≤ s → r < n → c < s → get_or (rows_put w x y s b n xs) (((y + r) * w + x) + c) 0 ≡ get_or b (s * r + c) 0
unfolding rows_put
in_square w x y s b xs h zero r c le lt below = absurd (omega arith)
in_square w x y s b xs h (suc n) r c le lt below =
    let long : length (rows_put w x y s b n xs) ≡ length xs = rows_length w x y s b xs h n (omega arith) in
    let ends : (y + n) * w + w ≤ (y + s) * w = row_ends y n s w (omega arith) in
    let room : ((y + n) * w + x) + s ≤ length xs = omega (arith, h.column, h.rows) in
    in_more w x y s b (rows_put w x y s b n xs) (length xs) n r c h.block h.column long room (omega arith) below (cases_lt r n) (omega arith) (λ before. in_square w x y s b xs h n r c (omega arith) before below)

-- a place outside the square
abbrev pub Apart : ℕ → ℕ → ℕ → ℕ → ℕ → ℕ → Type 0
Apart w x y s n j = (r : ℕ) → r < n → (j < (y + r) * w + x) ⊎ (((y + r) * w + x) + s ≤ j)

out_more : (now line : List ℕ) (a s j : ℕ) → a ≤ length now → length line ≡ s → (j < a) ⊎ (a + s ≤ j) → get_or (pasted now a s line) j 0 ≡ get_or now j 0
out_more now line a s j le e (inl before) = before_part now line a s j le before
out_more now line a s j le e (inr after) = after_part now line a s j le e after

pub out_of_square : (w x y s : ℕ) (b xs : List ℕ) → Lies w x y s b xs → (n j : ℕ) → n ≤ s → Apart w x y s n j → get_or (rows_put w x y s b n xs) j 0 ≡ get_or xs j 0
unfolding rows_put
out_of_square w x y s b xs h zero j le apart = refl
out_of_square w x y s b xs h (suc n) j le apart =
    let long : length (rows_put w x y s b n xs) ≡ length xs = rows_length w x y s b xs h n (omega arith) in
    let ends : (y + n) * w + w ≤ (y + s) * w = row_ends y n s w (omega arith) in
    let room : (y + n) * w + x ≤ length (rows_put w x y s b n xs) = omega (arith, h.column, h.rows) in
    out_more (rows_put w x y s b n xs) (slice_range b (s * n) (s * n + s)) ((y + n) * w + x) s j room (line_length b s n h.block (omega arith)) (apart n (omega arith))
    ∙ out_of_square w x y s b xs h n j (omega arith) (λ r lt. apart r (omega arith))
