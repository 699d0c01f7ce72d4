-- Squares made of parts of 4 by 4 samples, one by one.
use Rattle.std.proofs.Common.{◌≡◌, ◌∙◌, ◌≤◌, ◌<◌, ◌+◌, ◌*◌, ◌/◌, ◌%◌, ℕ, List, ◌⊎◌, inl, inr, length, get_or, sym, ap, subst, arith}
use Rattle.std.proofs.lemmas.Bool.{cases_lt}
use Rattle.sal_base.specs.Samples.{square_put, IsBlockOf}
use Rattle.sal_frame.proofs.SquarePlaces.{Lies, rows_length, in_square, out_of_square}

-- the part that a place of a luma square is in
abbrev pub luma_part : ℕ → ℕ
luma_part j = 4 * ((j / 16) / 4) + (j % 16) / 4

-- so many parts are there
pub record LumaParts (n : ℕ) (f : ℕ → ℕ → ℕ) (xs : List ℕ) : Type 0 where
  pub long : length xs ≡ 256
  pub done : (j : ℕ) → j < 256 → luma_part j < n → get_or xs j 0 ≡ f (j / 16) (j % 16)

luma_own : (j n : ℕ) → j < 256 → luma_part j ≡ n → ((4 * (n / 4) + (j / 16) % 4) * 16 + 4 * (n % 4)) + (j % 16) % 4 ≡ j
luma_own j n lt e = omega arith

luma_inside : (j n r : ℕ) → j < 256 → n < 16 → r < 4 → (4 * (n / 4) + r) * 16 + 4 * (n % 4) ≤ j → j < ((4 * (n / 4) + r) * 16 + 4 * (n % 4)) + 4 → luma_part j ≡ n
luma_inside j n r lt small row ge le = omega arith

luma_apart : (j n r : ℕ) → j < 256 → n < 16 → r < 4 → (luma_part j ≡ n → ⊥) → (j < (4 * (n / 4) + r) * 16 + 4 * (n % 4)) ⊎ ((4 * (n / 4) + r) * 16 + 4 * (n % 4) ≤ j) → (j < ((4 * (n / 4) + r) * 16 + 4 * (n % 4)) + 4) ⊎ (((4 * (n / 4) + r) * 16 + 4 * (n % 4)) + 4 ≤ j)
    → (j < (4 * (n / 4) + r) * 16 + 4 * (n % 4)) ⊎ (((4 * (n / 4) + r) * 16 + 4 * (n % 4)) + 4 ≤ j)
luma_apart j n r lt small row other (inl before) q = inl before
luma_apart j n r lt small row other (inr ge) (inl le) = absurd (other (luma_inside j n r lt small row ge le))
luma_apart j n r lt small row other (inr ge) (inr after) = inr after

luma_lies : (n : ℕ) (b xs : List ℕ) → n < 16 → length b ≡ 16 → length xs ≡ 256 → Lies 16 (4 * (n % 4)) (4 * (n / 4)) 4 b xs
luma_lies n b xs lt block long = record { block = block; column = omega arith; rows = omega arith }

luma_place : (n j : ℕ) (f : ℕ → ℕ → ℕ) (b xs : List ℕ) → n < 16 → j < 256 → length b ≡ 16 → LumaParts n f xs → ((k : ℕ) → k < 16 → get_or b k 0 ≡ f (4 * (n / 4) + k / 4) (4 * (n % 4) + k % 4))
    → luma_part j < n + 1 → (luma_part j < n) ⊎ (n ≤ luma_part j) → get_or (square_put 16 (4 * (n % 4)) (4 * (n / 4)) 4 b xs) j 0 ≡ f (j / 16) (j % 16)
luma_place n j f b xs small lt block h part le (inl before) =
    let other : luma_part j ≡ n → ⊥ = λ e. omega arith in
    out_of_square 16 (4 * (n % 4)) (4 * (n / 4)) 4 b xs (luma_lies n b xs small block h.long) 4 j (omega arith)
    (λ r row. luma_apart j n r lt small row other (cases_lt j ((4 * (n / 4) + r) * 16 + 4 * (n % 4))) (cases_lt j (((4 * (n / 4) + r) * 16 + 4 * (n % 4)) + 4)))
    ∙ h.done j lt before
luma_place n j f b xs small lt block h part le (inr from) =
    let e : luma_part j ≡ n = omega arith in
    let k : ℕ = 4 * ((j / 16) % 4) + (j % 16) % 4 in
    let at : ((4 * (n / 4) + (j / 16) % 4) * 16 + 4 * (n % 4)) + (j % 16) % 4 ≡ j = luma_own j n lt e in
    let row : 4 * (n / 4) + k / 4 ≡ j / 16 = omega arith in
    let column : 4 * (n % 4) + k % 4 ≡ j % 16 = omega arith in
    sym (ap (λ (i : ℕ). get_or (square_put 16 (4 * (n % 4)) (4 * (n / 4)) 4 b xs) i 0) at)
    ∙ (in_square 16 (4 * (n % 4)) (4 * (n / 4)) 4 b xs (luma_lies n b xs small block h.long) 4 ((j / 16) % 4) ((j % 16) % 4) (omega arith) (omega arith) (omega arith)
    ∙ (part k (omega arith) ∙ (ap (λ (i : ℕ). f i (4 * (n % 4) + k % 4)) row ∙ ap (λ (i : ℕ). f (j / 16) i) column)))

-- one part more
pub luma_more : (n : ℕ) (f : ℕ → ℕ → ℕ) (b xs new : List ℕ) → n < 16 → length b ≡ 16 → LumaParts n f xs → ((k : ℕ) → k < 16 → get_or b k 0 ≡ f (4 * (n / 4) + k / 4) (4 * (n % 4) + k % 4))
    → new ≡ square_put 16 (4 * (n % 4)) (4 * (n / 4)) 4 b xs → LumaParts (n + 1) f new
luma_more n f b xs new small block h part put =
    let P : List ℕ → Type 0 = λ zs. LumaParts (n + 1) f zs in
    let here : LumaParts (n + 1) f (square_put 16 (4 * (n % 4)) (4 * (n / 4)) 4 b xs) = record {
      long = rows_length 16 (4 * (n % 4)) (4 * (n / 4)) 4 b xs (luma_lies n b xs small block h.long) 4 (omega arith) ∙ h.long;
      done = λ j lt le. luma_place n j f b xs small lt block h part le (cases_lt (luma_part j) n);
    } in
    subst P (sym put) here

-- all are there
pub luma_whole : (n : ℕ) (f : ℕ → ℕ → ℕ) (xs : List ℕ) → 16 ≤ n → LumaParts n f xs → IsBlockOf 16 256 xs f
luma_whole n f xs ge h j lt = (let part : luma_part j < n = omega arith in h.done j lt part)

-- the part that a place of a chroma square is in
abbrev pub chroma_part : ℕ → ℕ
chroma_part j = 2 * ((j / 8) / 4) + (j % 8) / 4

-- so many parts are there
pub record ChromaParts (n : ℕ) (f : ℕ → ℕ → ℕ) (xs : List ℕ) : Type 0 where
  pub long : length xs ≡ 64
  pub done : (j : ℕ) → j < 64 → chroma_part j < n → get_or xs j 0 ≡ f (j / 8) (j % 8)

chroma_own : (j n : ℕ) → j < 64 → chroma_part j ≡ n → ((4 * (n / 2) + (j / 8) % 4) * 8 + 4 * (n % 2)) + (j % 8) % 4 ≡ j
chroma_own j n lt e = omega arith

chroma_inside : (j n r : ℕ) → j < 64 → n < 4 → r < 4 → (4 * (n / 2) + r) * 8 + 4 * (n % 2) ≤ j → j < ((4 * (n / 2) + r) * 8 + 4 * (n % 2)) + 4 → chroma_part j ≡ n
chroma_inside j n r lt small row ge le = omega arith

chroma_apart : (j n r : ℕ) → j < 64 → n < 4 → r < 4 → (chroma_part j ≡ n → ⊥) → (j < (4 * (n / 2) + r) * 8 + 4 * (n % 2)) ⊎ ((4 * (n / 2) + r) * 8 + 4 * (n % 2) ≤ j) → (j < ((4 * (n / 2) + r) * 8 + 4 * (n % 2)) + 4) ⊎ (((4 * (n / 2) + r) * 8 + 4 * (n % 2)) + 4 ≤ j)
    → (j < (4 * (n / 2) + r) * 8 + 4 * (n % 2)) ⊎ (((4 * (n / 2) + r) * 8 + 4 * (n % 2)) + 4 ≤ j)
chroma_apart j n r lt small row other (inl before) q = inl before
chroma_apart j n r lt small row other (inr ge) (inl le) = absurd (other (chroma_inside j n r lt small row ge le))
chroma_apart j n r lt small row other (inr ge) (inr after) = inr after

chroma_lies : (n : ℕ) (b xs : List ℕ) → n < 4 → length b ≡ 16 → length xs ≡ 64 → Lies 8 (4 * (n % 2)) (4 * (n / 2)) 4 b xs
chroma_lies n b xs lt block long = record { block = block; column = omega arith; rows = omega arith }

chroma_place : (n j : ℕ) (f : ℕ → ℕ → ℕ) (b xs : List ℕ) → n < 4 → j < 64 → length b ≡ 16 → ChromaParts n f xs → ((k : ℕ) → k < 16 → get_or b k 0 ≡ f (4 * (n / 2) + k / 4) (4 * (n % 2) + k % 4))
    → chroma_part j < n + 1 → (chroma_part j < n) ⊎ (n ≤ chroma_part j) → get_or (square_put 8 (4 * (n % 2)) (4 * (n / 2)) 4 b xs) j 0 ≡ f (j / 8) (j % 8)
chroma_place n j f b xs small lt block h part le (inl before) =
    let other : chroma_part j ≡ n → ⊥ = λ e. omega arith in
    out_of_square 8 (4 * (n % 2)) (4 * (n / 2)) 4 b xs (chroma_lies n b xs small block h.long) 4 j (omega arith)
    (λ r row. chroma_apart j n r lt small row other (cases_lt j ((4 * (n / 2) + r) * 8 + 4 * (n % 2))) (cases_lt j (((4 * (n / 2) + r) * 8 + 4 * (n % 2)) + 4)))
    ∙ h.done j lt before
chroma_place n j f b xs small lt block h part le (inr from) =
    let e : chroma_part j ≡ n = omega arith in
    let k : ℕ = 4 * ((j / 8) % 4) + (j % 8) % 4 in
    let at : ((4 * (n / 2) + (j / 8) % 4) * 8 + 4 * (n % 2)) + (j % 8) % 4 ≡ j = chroma_own j n lt e in
    let row : 4 * (n / 2) + k / 4 ≡ j / 8 = omega arith in
    let column : 4 * (n % 2) + k % 4 ≡ j % 8 = omega arith in
    sym (ap (λ (i : ℕ). get_or (square_put 8 (4 * (n % 2)) (4 * (n / 2)) 4 b xs) i 0) at)
    ∙ (in_square 8 (4 * (n % 2)) (4 * (n / 2)) 4 b xs (chroma_lies n b xs small block h.long) 4 ((j / 8) % 4) ((j % 8) % 4) (omega arith) (omega arith) (omega arith)
    ∙ (part k (omega arith) ∙ (ap (λ (i : ℕ). f i (4 * (n % 2) + k % 4)) row ∙ ap (λ (i : ℕ). f (j / 8) i) column)))

-- one part more
pub chroma_more : (n : ℕ) (f : ℕ → ℕ → ℕ) (b xs new : List ℕ) → n < 4 → length b ≡ 16 → ChromaParts n f xs → ((k : ℕ) → k < 16 → get_or b k 0 ≡ f (4 * (n / 2) + k / 4) (4 * (n % 2) + k % 4))
    → new ≡ square_put 8 (4 * (n % 2)) (4 * (n / 2)) 4 b xs → ChromaParts (n + 1) f new
chroma_more n f b xs new small block h part put =
    let P : List ℕ → Type 0 = λ zs. ChromaParts (n + 1) f zs in
    let here : ChromaParts (n + 1) f (square_put 8 (4 * (n % 2)) (4 * (n / 2)) 4 b xs) = record {
      long = rows_length 8 (4 * (n % 2)) (4 * (n / 2)) 4 b xs (chroma_lies n b xs small block h.long) 4 (omega arith) ∙ h.long;
      done = λ j lt le. chroma_place n j f b xs small lt block h part le (cases_lt (chroma_part j) n);
    } in
    subst P (sym put) here

-- all are there
pub chroma_whole : (n : ℕ) (f : ℕ → ℕ → ℕ) (xs : List ℕ) → 4 ≤ n → ChromaParts n f xs → IsBlockOf 8 64 xs f
chroma_whole n f xs ge h j lt = (let part : chroma_part j < n = omega arith in h.done j lt part)
