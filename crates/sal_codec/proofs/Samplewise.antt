-- A function of two lists, written over the first sample by sample.
use Rattle.std.proofs.Common.{◌≡◌, ◌≢◌, ℕ, zero, suc, ◌+◌, ◌-◌, ◌<◌, ◌≤◌, List, [], ◌∷◌, ◌++◌, length, take, drop, refl, append_assoc, ap₂, get_or, arith, ap, sym, ◌∙◌, below_more, get_or-set_other, get_or-set_same, Fits, w8}
use Rattle.std.proofs.lemmas.List.{ext_get_or, length-drop, drop-drop, drop_all, append-nil}
use Rattle.std.specs.List.{slice_range}
use Rattle.std.proofs.lemmas.Simd.{get_or-zip2, length-zip2}
use Rattle.std.proofs.Math.ListN.{set}
use lib.Lanes.{zip2}
use Rattle.sal_codec.specs.Plain.{less, plus, differences, sums}

-- the samples before at are done, the others are as they were
pub record IsDone (f : ℕ → ℕ → ℕ) (xs source ys : List ℕ) (at : ℕ) : Type 0 where
  pub before : (j : ℕ) → j < at → get_or ys j 0 ≡ f (get_or xs j 0) (get_or source j 0)
  pub after : (j : ℕ) → at ≤ j → get_or ys j 0 ≡ get_or xs j 0

pub done_more : (f : ℕ → ℕ → ℕ) (xs source ys : List ℕ) (at : ℕ) → IsDone f xs source ys at → at < length ys → IsDone f xs source (set ys at (f (get_or ys at 0) (get_or source at 0))) (at + 1)
done_more f xs source ys at d lt = record {
  before = below_more _ _
      (λ j h. let ne : j ≢ at = omega arith in rw get_or-set_other (d.before j h))
      (rw get_or-set_same (ap (λ (x : ℕ). f x (get_or source at 0)) (d.after at (omega arith))));
  after = λ j h. let ne : j ≢ at = omega arith in rw get_or-set_other (d.after j (omega arith));
}

pub done_all : (f : ℕ → ℕ → ℕ) (xs source ys : List ℕ) (at : ℕ) → IsDone f xs source ys at → length ys ≡ length xs → length xs ≡ length source → length xs ≤ at → ys ≡ zip2 f xs source
done_all f xs source ys at d long same all =
    ext_get_or 0 ys (zip2 f xs source) (long ∙ sym (length-zip2 f xs source same)) (λ i h. d.before i (omega arith) ∙ sym (get_or-zip2 f xs source i 0 0 0 (omega arith) (omega arith)))

-- what was taken away is added again
less_plus : (x s : ℕ) → x < 256 → s < 256 → plus (less x s) s ≡ x
less_plus x s a b = omega arith

pub sums_again : (xs source : List ℕ) → ((i : ℕ) → Fits w8 (get_or xs i 0)) → ((i : ℕ) → Fits w8 (get_or source i 0)) → length xs ≡ length source → sums (differences xs source) source ≡ xs
unfolding sums differences
sums_again xs source a b same =
    let long : length (zip2 less xs source) ≡ length xs = length-zip2 less xs source same in
    ext_get_or 0 (zip2 plus (zip2 less xs source) source) xs (length-zip2 plus (zip2 less xs source) source (omega arith) ∙ long)
    (λ i h.
    let more : i < length xs = omega (arith, length-zip2 plus (zip2 less xs source) source (long ∙ same)) in
    get_or-zip2 plus (zip2 less xs source) source i 0 0 0 (omega arith) (omega arith)
    ∙ (ap (λ (d : ℕ). plus d (get_or source i 0)) (get_or-zip2 less xs source i 0 0 0 more (omega arith))
    ∙ less_plus (get_or xs i 0) (get_or source i 0) (omega (arith, a i)) (omega (arith, b i))))

-- what is done in two stretches is done whole
zip2_split : (f : ℕ → ℕ → ℕ) (n : ℕ) (xs ys : List ℕ) → length xs ≡ length ys → zip2 f (take n xs) (take n ys) ++ zip2 f (drop n xs) (drop n ys) ≡ zip2 f xs ys
zip2_split f zero xs ys same = refl
zip2_split f (suc n) [] [] same = refl
zip2_split f (suc n) [] (y ∷ ys) same = absurd (omega arith)
zip2_split f (suc n) (x ∷ xs) [] same = absurd (omega arith)
zip2_split f (suc n) (x ∷ xs) (y ∷ ys) same = ap (λ l. f x y ∷ l) (zip2_split f n xs ys (omega arith))

-- the next stretch is added to what was made of those before it
zip2_stretch : (f : ℕ → ℕ → ℕ) (made next start xs ys : List ℕ) (at end : ℕ) → at ≤ end → length xs ≡ length ys → next ≡ made ++ zip2 f (slice_range xs at end) (slice_range ys at end) → made ++ zip2 f (drop at xs) (drop at ys) ≡ start → next ++ zip2 f (drop end xs) (drop end ys) ≡ start
zip2_stretch f made next start xs ys at end order same more before =
    let long : length (drop at xs) ≡ length (drop at ys) = omega (arith, length-drop at xs, length-drop at ys) in
    let whole : zip2 f (slice_range xs at end) (slice_range ys at end) ++ zip2 f (drop (end - at) (drop at xs)) (drop (end - at) (drop at ys)) ≡ zip2 f (drop at xs) (drop at ys) = zip2_split f (end - at) (drop at xs) (drop at ys) long in
    let e : at + (end - at) ≡ end = omega arith in
    let xe : drop (end - at) (drop at xs) ≡ drop end xs = drop-drop (end - at) at xs ∙ ap (λ (n : ℕ). drop n xs) e in
    let ye : drop (end - at) (drop at ys) ≡ drop end ys = drop-drop (end - at) at ys ∙ ap (λ (n : ℕ). drop n ys) e in
    ap (λ l. l ++ zip2 f (drop end xs) (drop end ys)) more
    ∙ (append_assoc made (zip2 f (slice_range xs at end) (slice_range ys at end)) (zip2 f (drop end xs) (drop end ys))
    ∙ (ap (λ l. made ++ (zip2 f (slice_range xs at end) (slice_range ys at end) ++ l)) (sym (ap₂ (zip2 f) xe ye))
    ∙ (ap (λ l. made ++ l) whole ∙ before)))

-- past the last stretch all is made
zip2_end : (f : ℕ → ℕ → ℕ) (made start xs ys : List ℕ) (at : ℕ) → length xs ≤ at → made ++ zip2 f (drop at xs) (drop at ys) ≡ start → made ≡ start
zip2_end f made start xs ys at past before = sym (append-nil made) ∙ (ap (λ l. made ++ zip2 f l (drop at ys)) (sym (drop_all at xs past)) ∙ before)

pub differences_stretch : (made next start samples source : List ℕ) (at end : ℕ) → at ≤ end → length samples ≡ length source → next ≡ made ++ differences (slice_range samples at end) (slice_range source at end) → made ++ differences (drop at samples) (drop at source) ≡ start → next ++ differences (drop end samples) (drop end source) ≡ start
unfolding differences
differences_stretch = zip2_stretch less

pub differences_end : (made start samples source : List ℕ) (at : ℕ) → length samples ≤ at → made ++ differences (drop at samples) (drop at source) ≡ start → made ≡ start
unfolding differences
differences_end = zip2_end less

pub sums_stretch : (made next start samples source : List ℕ) (at end : ℕ) → at ≤ end → length samples ≡ length source → next ≡ made ++ sums (slice_range samples at end) (slice_range source at end) → made ++ sums (drop at samples) (drop at source) ≡ start → next ++ sums (drop end samples) (drop end source) ≡ start
unfolding sums
sums_stretch = zip2_stretch plus

pub sums_end : (made start samples source : List ℕ) (at : ℕ) → length samples ≤ at → made ++ sums (drop at samples) (drop at source) ≡ start → made ≡ start
unfolding sums
sums_end = zip2_end plus

pub sums_long : (made before ds source : List ℕ) → made ≡ before ++ sums ds source → before ≡ [] → length ds ≡ length source → length made ≡ length source
unfolding sums
sums_long made before ds source a b same = ap length a ∙ (ap (λ l. length (l ++ zip2 plus ds source)) b ∙ (length-zip2 plus ds source same ∙ same))
