-- Residues added to squares of samples, row by row.
use Rattle.std.proofs.Common.{◌≡◌, ℤ, subst, slice_range, ℕ, ◌+◌, ◌*◌, ◌-◌, ◌/◌, ◌%◌, ◌≤◌, ◌<◌, ◌∙◌, List, ◌++◌, sym, ap, arith, length, length-append, get_or, take, drop}
use Rattle.std.proofs.Common.{◌⊎◌, inl, inr}
use Rattle.std.proofs.lemmas.Bool.{cases_lt}
use Rattle.std.proofs.lemmas.List.{get_or_append_left, get_or-append_right, get_or-take, get_or-drop, length-take, length-drop}
use borrow.Rule.Slice.PartMut.{put_mid, mid_of}
use Rattle.sal_base.specs.Samples.{pasted}
use Rattle.sal_frame.specs.Built.{sum_cut}
use Rattle.sal_frame.specs.Residues.{residue_at}

pub before_part : (xs ys : List ℕ) (a n j : ℕ) → a ≤ length xs → j < a → get_or (pasted xs a n ys) j 0 ≡ get_or xs j 0
before_part xs ys a n j le lt =
    let long : length (take a xs) ≡ a = omega (arith, length-take a xs) in
    get_or_append_left (take a xs) _ 0 j (omega arith) ∙ get_or-take a xs j 0 lt

pub in_part : (xs ys : List ℕ) (a n i : ℕ) → a ≤ length xs → i < length ys → get_or (pasted xs a n ys) (a + i) 0 ≡ get_or ys i 0
in_part xs ys a n i le lt =
    let long : length (take a xs) ≡ a = omega (arith, length-take a xs) in
    let e : (a + i) - a ≡ i = omega arith in
    get_or-append_right (take a xs) (ys ++ drop n (drop a xs)) a (a + i) 0 long (omega arith)
    ∙ (ap (λ (k : ℕ). get_or (ys ++ drop n (drop a xs)) k 0) e ∙ get_or_append_left ys _ 0 i lt)

pub after_part : (xs ys : List ℕ) (a n j : ℕ) → a ≤ length xs → length ys ≡ n → a + n ≤ j → get_or (pasted xs a n ys) j 0 ≡ get_or xs j 0
after_part xs ys a n j le e lt =
    let long : length (take a xs) ≡ a = omega (arith, length-take a xs) in
    let f : a + (n + ((j - a) - n)) ≡ j = omega arith in
    get_or-append_right (take a xs) (ys ++ drop n (drop a xs)) a j 0 long (omega arith)
    ∙ (get_or-append_right ys (drop n (drop a xs)) n (j - a) 0 e (omega arith)
    ∙ (get_or-drop n (drop a xs) ((j - a) - n) 0
    ∙ (get_or-drop a xs (n + ((j - a) - n)) 0 ∙ ap (λ (k : ℕ). get_or xs k 0) f)))

-- what stands at a place where all rows before a row are done: w samples a row, f where done, g where not
pub record RowsDone (w row : ℕ) (f g : ℕ → ℕ) (xs : List ℕ) : Type 0 where
  pub done : (j : ℕ) → j < w * row → get_or xs j 0 ≡ f j
  pub left : (j : ℕ) → w * row ≤ j → get_or xs j 0 ≡ g j

done_more : (w row : ℕ) (f g : ℕ → ℕ) (xs ys : List ℕ) (j : ℕ) → w * row + w ≤ length xs → length ys ≡ w → RowsDone w row f g xs
    → ((i : ℕ) → i < w → get_or ys i 0 ≡ f (w * row + i)) → j < w * row + w → (j < w * row) ⊎ (w * row ≤ j) → get_or (pasted xs (w * row) w ys) j 0 ≡ f j
done_more w row f g xs ys j room long h line lt (inl before) = before_part xs ys (w * row) w j (omega arith) before ∙ h.done j before
done_more w row f g xs ys j room long h line lt (inr from) =
    let i : ℕ = j - w * row in
    let e : w * row + i ≡ j = omega arith in
    let in_row : i < w = omega arith in
    sym (ap (λ (k : ℕ). get_or (pasted xs (w * row) w ys) k 0) e) ∙ (in_part xs ys (w * row) w i (omega arith) (omega arith) ∙ (line i in_row ∙ ap f e))

-- one row more
pub row_done : (w row : ℕ) (f g : ℕ → ℕ) (xs ys : List ℕ) → w * row + w ≤ length xs → length ys ≡ w → RowsDone w row f g xs
    → ((i : ℕ) → i < w → get_or ys i 0 ≡ f (w * row + i)) → RowsDone w (row + 1) f g (pasted xs (w * row) w ys)
row_done w row f g xs ys room long h line = record {
  done = λ j lt. (let within : j < w * row + w = omega arith in done_more w row f g xs ys j room long h line within (cases_lt j (w * row)));
  left = λ j ge. (let from : w * row + w ≤ j = omega arith in after_part xs ys (w * row) w j (omega arith) long from ∙ h.left j (omega arith));
}

-- a luma sample with its residue
abbrev pub luma_sum : List ℕ → List (List ℤ) → ℕ → ℕ
luma_sum old rs j = sum_cut (get_or old j 0) (residue_at 4 rs (j / 16) (j % 16))

pub luma_row : (row k : ℕ) (xs old ys : List ℕ) (rs : List (List ℤ)) → length xs ≡ 256 → row < 16 → k ≡ 16 → length ys ≡ 16
    → ((i : ℕ) → i < 16 → get_or ys i 0 ≡ sum_cut (get_or (slice_range xs (16 * row) (16 * row + 16)) i 0) (residue_at 4 rs row i))
    → RowsDone 16 row (luma_sum old rs) (λ j. get_or old j 0) xs → RowsDone 16 (row + 1) (luma_sum old rs) (λ j. get_or old j 0) (put_mid (16 * row) k xs ys)
luma_row row k xs old ys rs long lt e many line h =
    let P : ℕ → Type 0 = λ n. RowsDone 16 (row + 1) (luma_sum old rs) (λ j. get_or old j 0) (put_mid (16 * row) n xs ys) in
    let each : (i : ℕ) → i < 16 → get_or ys i 0 ≡ luma_sum old rs (16 * row + i) = λ i below. (
    let wide : i < (16 * row + 16) - 16 * row = omega arith in
    let at : get_or (slice_range xs (16 * row) (16 * row + 16)) i 0 ≡ get_or old (16 * row + i) 0 =
    get_or-take ((16 * row + 16) - 16 * row) (drop (16 * row) xs) i 0 wide ∙ (get_or-drop (16 * row) xs i 0 ∙ h.left (16 * row + i) (omega arith)) in
    let r : row ≡ (16 * row + i) / 16 = omega arith in
    let c : i ≡ (16 * row + i) % 16 = omega arith in
    line i below ∙ (ap (λ (p : ℕ). sum_cut p (residue_at 4 rs row i)) at ∙ (ap (λ (a : ℕ). sum_cut (get_or old (16 * row + i) 0) (residue_at 4 rs a i)) r ∙ ap (λ (a : ℕ). sum_cut (get_or old (16 * row + i) 0) (residue_at 4 rs ((16 * row + i) / 16) a)) c))) in
    subst P (sym e) (row_done 16 row (luma_sum old rs) (λ j. get_or old j 0) xs ys (omega arith) many h each)

-- a chroma sample with its residue
abbrev pub chroma_sum : List ℕ → List (List ℤ) → ℕ → ℕ
chroma_sum old rs j = sum_cut (get_or old j 0) (residue_at 2 rs (j / 8) (j % 8))

pub chroma_row : (row k : ℕ) (xs old ys : List ℕ) (rs : List (List ℤ)) → length xs ≡ 64 → row < 8 → k ≡ 8 → length ys ≡ 8
    → ((i : ℕ) → i < 8 → get_or ys i 0 ≡ sum_cut (get_or (slice_range xs (8 * row) (8 * row + 8)) i 0) (residue_at 2 rs row i))
    → RowsDone 8 row (chroma_sum old rs) (λ j. get_or old j 0) xs → RowsDone 8 (row + 1) (chroma_sum old rs) (λ j. get_or old j 0) (put_mid (8 * row) k xs ys)
chroma_row row k xs old ys rs long lt e many line h =
    let P : ℕ → Type 0 = λ n. RowsDone 8 (row + 1) (chroma_sum old rs) (λ j. get_or old j 0) (put_mid (8 * row) n xs ys) in
    let each : (i : ℕ) → i < 8 → get_or ys i 0 ≡ chroma_sum old rs (8 * row + i) = λ i below. (
    let wide : i < (8 * row + 8) - 8 * row = omega arith in
    let at : get_or (slice_range xs (8 * row) (8 * row + 8)) i 0 ≡ get_or old (8 * row + i) 0 =
    get_or-take ((8 * row + 8) - 8 * row) (drop (8 * row) xs) i 0 wide ∙ (get_or-drop (8 * row) xs i 0 ∙ h.left (8 * row + i) (omega arith)) in
    let r : row ≡ (8 * row + i) / 8 = omega arith in
    let c : i ≡ (8 * row + i) % 8 = omega arith in
    line i below ∙ (ap (λ (p : ℕ). sum_cut p (residue_at 2 rs row i)) at ∙ (ap (λ (a : ℕ). sum_cut (get_or old (8 * row + i) 0) (residue_at 2 rs a i)) r ∙ ap (λ (a : ℕ). sum_cut (get_or old (8 * row + i) 0) (residue_at 2 rs ((8 * row + i) / 8) a)) c))) in
    subst P (sym e) (row_done 8 row (chroma_sum old rs) (λ j. get_or old j 0) xs ys (omega arith) many h each)

-- a part that is written over keeps the length
pub part_length : (a k n : ℕ) (xs ys : List ℕ) → a + k ≤ length xs → length ys ≡ k → length xs ≡ n → length (put_mid a k xs ys) ≡ n
part_length a k n xs ys room e f = simp (length-append, length-take, length-drop) (omega arith)

pub mid_length : (a k : ℕ) (xs : List ℕ) → a + k ≤ length xs → length (mid_of a k xs) ≡ k
mid_length a k xs room = simp (length-take, length-drop) (omega arith)
