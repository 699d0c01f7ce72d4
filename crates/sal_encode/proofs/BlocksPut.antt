-- Values that are put one after the other.
use Rattle.std.proofs.Common.{◌≡◌, ◌∙◌, ℕ, [], ap, ◌+◌, ◌<◌, ◌≤◌, ◌⊎◌, inl, inr, ℤ, pos, List, length, get_or, sym, arith, subst, slice_set, to_z, of_z, w32}
use Rattle.std.proofs.lemmas.Int.{ints}
use Rattle.std.proofs.lemmas.Bool.{cases_lt}
use Rattle.std.proofs.lemmas.List.{get_or-set_same, get_or-set_other}
use Rattle.std.specs.Prelude.{slice_index_or}
use Rattle.std.proofs.lemmas.List.{length-set}
use Rattle.sal_macroblock.specs.Blocks.{no_coefficients}
use Rattle.sal_encode.specs.Standing.{ArePut, HasLuma}
use Rattle.sal_macroblock.specs.Sizes.{Within}

at_cases : (P : ℕ → ℤ → Type 0) (xs : List ℤ) (k : ℕ) (z : ℤ) → ((j : ℕ) → j < k → P j (get_or xs j (pos 0))) → P k z → k < length xs
    → (j : ℕ) → j < k + 1 → (j < k) ⊎ (k ≤ j) → P j (get_or (slice_set xs k z) j (pos 0))
at_cases P xs k z h here fits j lt (inl less) =
    subst (λ (y : ℤ). P j y) (sym (get_or-set_other xs k j z (pos 0) (λ same. absurd (omega (arith, same, less))))) (h j less)
at_cases P xs k z h here fits j lt (inr ge) =
    let same : k ≡ j = omega (arith, lt, ge) in
    subst (λ (i : ℕ). P i (get_or (slice_set xs k z) i (pos 0))) same (subst (λ (y : ℤ). P k y) (sym (get_or-set_same xs k z (pos 0) fits)) here)

-- what is true at each place so far is true with one place more
pub at_more : (P : ℕ → ℤ → Type 0) (xs : List ℤ) (k : ℕ) (z : ℤ) → ((j : ℕ) → j < k → P j (get_or xs j (pos 0))) → P k z → k < length xs
    → (j : ℕ) → j < k + 1 → P j (get_or (slice_set xs k z) j (pos 0))
at_more P xs k z h here fits j lt = at_cases P xs k z h here fits j lt (cases_lt j k)

-- a first value as it is passed
pub passed : (z : ℤ) → Within 2040 z → to_z w32 (of_z w32 z) ≡ z
passed z small = omega (arith, ints)

-- luma, and then Y2
pub luma_with_y2 : (f : ℕ → List ℤ) (y2 zs : List ℤ) (before now : List (List ℤ)) → before ≡ no_coefficients → ArePut 0 16 f before now → zs ≡ y2 → HasLuma f y2 (slice_set now 24 zs)
luma_with_y2 f y2 zs before now none p e =
    let long : length now ≡ 25 = p.long ∙ ap (λ (ls : List (List ℤ)). length ls) none in
    record {
      long = length-set now 24 zs ∙ long;
      there = λ k lt. (let same : 0 + k ≡ k = omega arith in
          get_or-set_other now 24 k zs [] (λ at. absurd (omega (arith, at, lt))) ∙ subst (λ (i : ℕ). slice_index_or now i [] ≡ f k) same (p.there k lt));
      last = get_or-set_same now 24 zs [] (omega (arith, long)) ∙ e;
    }
