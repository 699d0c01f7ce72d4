-- A macroblock without coefficients has no residues.
use Rattle.std.proofs.Common.{◌≡◌, ◌∙◌, ◌<◌, ◌≤◌, ◌+◌, ◌*◌, ◌/◌, ◌%◌, ℕ, ℤ, pos, ◌+ℤ◌, ◌*ℤ◌, List, [], ◌∷◌, Bool, true, false, if◌then◌else◌, get_or, replicate, refl, sym, ap, arith, length, lit<}
use Rattle.std.proofs.lemmas.Int.{ints}
use Rattle.std.proofs.lemmas.List.{get_or-replicate, length-replicate}
use Rattle.sal_base.specs.Samples.{listed}
use Rattle.sal_macroblock.specs.Blocks.{no_coefficients}
use Rattle.sal_transform.specs.Inverse.{rounded}
use Rattle.sal_transform.specs.Hadamard.{sum_0, sum_1, sum_2, sum_3, eighth, inverse_y2_of}
use Rattle.sal_transform.specs.Factors.{Factors}
use Rattle.sal_transform.specs.Residue.{residue_of, firsts_of, residue_after}
use Rattle.sal_transform.specs.Small.{HasOneCoefficient}
use Rattle.sal_frame.specs.Built.{sum_cut}
use Rattle.sal_transform.specs.Residues.{firsts, luma_alone, luma_after, luma_residues_of, chroma_residues_of}
use Rattle.sal_frame.specs.Residues.{residue_at}
use Rattle.sal_macroblock.proofs.Places.{listed_is}
use Rattle.sal_transform.proofs.Flats.{none_times, one_value, flat_residue, flat_after}

abbrev pub zeros : List ℤ
zeros = replicate 16 (pos 0)

listed_same : {A : Type 0} (n : ℕ) (f : ℕ → A) (z : A) → ((j : ℕ) → j < n → f j ≡ z) → listed n f ≡ replicate n z
listed_same n f z h = sym (listed_is n (replicate n z) z f (length-replicate n z) (λ j lt. (get_or-replicate n j z z lt ∙ sym (h j lt))))

none_at : (k : ℕ) → k < 25 → get_or no_coefficients k [] ≡ zeros
none_at k lt = get_or-replicate 25 k zeros [] lt

one_coefficient : HasOneCoefficient zeros
one_coefficient k ge lt = get_or-replicate 16 k (pos 0) (pos 0) lt

none_residue : (dc ac : ℤ) → residue_of zeros dc ac ≡ zeros
unfolding rounded
none_residue dc ac = flat_residue zeros dc ac one_coefficient ∙ ap (λ (v : ℤ). replicate 16 (rounded v)) (none_times dc)

none_after : (ac : ℤ) → residue_after (pos 0) zeros ac ≡ zeros
unfolding rounded
none_after ac = flat_after (pos 0) zeros ac one_coefficient

none_y2 : inverse_y2_of zeros ≡ zeros
unfolding inverse_y2_of sum_0 sum_1 sum_2 sum_3 eighth
none_y2 = refl

none_firsts : (dc ac : ℤ) → firsts_of zeros dc ac ≡ zeros
unfolding firsts_of
none_firsts dc ac = ap inverse_y2_of (one_value zeros dc ac one_coefficient ∙ ap (λ (v : ℤ). v ∷ replicate 15 (pos 0)) (none_times dc)) ∙ none_y2

after_at : (ac : ℤ) (fs : List ℤ) (k : ℕ) → fs ≡ zeros → k < 16 → residue_after (get_or fs k (pos 0)) (get_or no_coefficients k []) ac ≡ zeros
after_at ac fs k e lt =
    let below : k < 25 = omega arith in
    ap (λ (zs : List ℤ). residue_after (get_or fs k (pos 0)) zs ac) (none_at k below)
    ∙ (ap (λ (v : ℤ). residue_after v zeros ac) (ap (λ (ys : List ℤ). get_or ys k (pos 0)) e ∙ get_or-replicate 16 k (pos 0) (pos 0) lt) ∙ none_after ac)

alone_at : (dc ac : ℤ) (k : ℕ) → k < 25 → residue_of (get_or no_coefficients k []) dc ac ≡ zeros
alone_at dc ac k lt = ap (λ (zs : List ℤ). residue_of zs dc ac) (none_at k lt) ∙ none_residue dc ac

pub none_luma : (s : Factors) (has_y2 : Bool) → luma_residues_of s has_y2 no_coefficients ≡ replicate 16 zeros
unfolding luma_residues_of firsts
none_luma s true = listed_same 16 _ zeros (λ k lt. after_at (pos s.y_ac) _ k (none_firsts (pos s.y2_dc) (pos s.y2_ac)) lt)
none_luma s false = listed_same 16 _ zeros (λ k lt. (let below : k < 25 = omega arith in alone_at (pos s.y_dc) (pos s.y_ac) k below))

pub none_chroma : (s : Factors) (first : ℕ) → first ≤ 20 → chroma_residues_of s no_coefficients first ≡ replicate 4 zeros
unfolding chroma_residues_of
none_chroma s first le = listed_same 4 _ zeros (λ k lt. (let below : first + k < 25 = omega arith in alone_at (pos s.uv_dc) (pos s.uv_ac) (first + k) below))

none_in : (n i j : ℕ) → i < n → j < 16 → get_or (get_or (replicate n zeros) i []) j (pos 0) ≡ pos 0
none_in n i j lt below = ap (λ (zs : List ℤ). get_or zs j (pos 0)) (get_or-replicate n i zeros [] lt) ∙ get_or-replicate 16 j (pos 0) (pos 0) below

pub none_cut : (p : ℕ) → p ≤ 255 → sum_cut p (pos 0) ≡ p
none_cut p le = omega (arith, ints)

-- added to a luma sample, and to a chroma sample
pub none_added_16 : (xs : List (List ℤ)) (p k : ℕ) → xs ≡ replicate 16 zeros → k < 256 → p ≤ 255 → sum_cut p (residue_at 4 xs (k / 16) (k % 16)) ≡ p
none_added_16 xs p k e lt le =
    let here : residue_at 4 xs (k / 16) (k % 16) ≡ pos 0 =
    ap (λ (ys : List (List ℤ)). residue_at 4 ys (k / 16) (k % 16)) e ∙ none_in 16 (4 * ((k / 16) / 4) + (k % 16) / 4) (4 * ((k / 16) % 4) + (k % 16) % 4) (omega arith) (omega arith) in
    ap (λ (z : ℤ). sum_cut p z) here ∙ none_cut p le

pub none_added_8 : (xs : List (List ℤ)) (p k : ℕ) → xs ≡ replicate 4 zeros → k < 64 → p ≤ 255 → sum_cut p (residue_at 2 xs (k / 8) (k % 8)) ≡ p
none_added_8 xs p k e lt le =
    let here : residue_at 2 xs (k / 8) (k % 8) ≡ pos 0 =
    ap (λ (ys : List (List ℤ)). residue_at 2 ys (k / 8) (k % 8)) e ∙ none_in 4 (2 * ((k / 8) / 4) + (k % 8) / 4) (4 * ((k / 8) % 4) + (k % 8) % 4) (omega arith) (omega arith) in
    ap (λ (z : ℤ). sum_cut p z) here ∙ none_cut p le
