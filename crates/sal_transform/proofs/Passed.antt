-- Factors and values as they are passed, and residues out of them.
use Rattle.std.proofs.Common.{◌≡◌, ◌∙◌, ◌≤◌, ◌<◌, ◌+◌, ℕ, ℤ, pos, ◌*ℤ◌, List, [], Bool, true, false, if◌then◌else◌, get_or, length, replicate, slice_set, sym, ap, subst, arith, to_z, w32, inl, inr, ◌⊎◌}
use Rattle.std.specs.Prelude.{All}
use Rattle.std.proofs.lemmas.Bool.{cases_lt}
use Rattle.std.proofs.lemmas.Int.{ints}
use Rattle.std.proofs.lemmas.List.{get_or_past}
use Rattle.std.proofs.lemmas.List.Elements.{All-set}
use Rattle.sal_base.specs.Samples.{listed}
use Rattle.sal_macroblock.specs.Sizes.{Within}
use Rattle.sal_transform.specs.Inverse.{rounded, inverse_of}
use Rattle.sal_transform.specs.Hadamard.{inverse_y2_of}
use Rattle.sal_transform.specs.Factors.{Factors, dequantised}
use Rattle.sal_transform.specs.Residue.{residue_of, firsts_of, residue_after}
use Rattle.sal_transform.proofs.Signed.{as_passed, kept_21, small_21}
use Rattle.sal_transform.specs.Small.{HasOneCoefficient}
use Rattle.sal_transform.specs.Residues.{firsts, luma_alone, luma_after, luma_residues_of, chroma_residues_of}
use Rattle.sal_transform.proofs.Flats.{flat_residue, flat_after}

factor_kept : (n : ℕ) → n ≤ 440 → to_z w32 n ≡ pos n
factor_kept n le = omega (arith, ints)

dequantised_passed : (zs : List ℤ) (d : ℤ) (ac : ℕ) → ac ≤ 440 → dequantised zs d (to_z w32 ac) ≡ dequantised zs d (pos ac)
dequantised_passed zs d ac le = ap (λ (z : ℤ). dequantised zs d z) (factor_kept ac le)

both_passed : (zs : List ℤ) (dc ac : ℕ) → dc ≤ 440 → ac ≤ 440 → dequantised zs (to_z w32 dc) (to_z w32 ac) ≡ dequantised zs (pos dc) (pos ac)
both_passed zs dc ac hd ha = dequantised_passed zs (to_z w32 dc) ac ha ∙ ap (λ (z : ℤ). dequantised zs z (pos ac)) (factor_kept dc hd)

zero_within : Within 2114 (pos 0)
zero_within = (omega (arith, ints), omega (arith, ints))

coefficient_within : (zs : List ℤ) (k : ℕ) → All (Within 2114) zs → (k < length zs) ⊎ (length zs ≤ k) → Within 2114 (get_or zs k (pos 0))
coefficient_within zs k h (inl lt) = h k (pos 0) lt
coefficient_within zs k h (inr ge) = subst (Within 2114) (sym (get_or_past zs k (pos 0) ge)) zero_within

coefficient_kept : (z : ℤ) → Within 2114 z → as_passed z ≡ z
coefficient_kept z h = let low = h.0 in let high = h.1 in omega (arith, ints)

wider : (z : ℤ) → Within 1048576 z → Within 2097152 z
wider z h = let low = h.0 in let high = h.1 in (omega (arith, ints), omega (arith, ints))

pub all_wider : (zs : List ℤ) → All (Within 1048576) zs → All (Within 2097152) zs
all_wider zs h k d lt = wider (get_or zs k d) (h k d lt)

-- a block of one coefficient, and any block
pub residue_flat : (zs xs : List ℤ) (v : ℤ) (dc ac : ℕ) → dc ≤ 440 → All (Within 2114) zs → HasOneCoefficient zs → v ≡ as_passed (get_or zs 0 (pos 0)) *ℤ to_z w32 dc → Within 1048576 v
    → xs ≡ replicate 16 (rounded (as_passed v)) → xs ≡ residue_of zs (pos dc) (pos ac)
residue_flat zs xs v dc ac hd coefficients one e small h =
    let factor : v ≡ as_passed (get_or zs 0 (pos 0)) *ℤ pos dc = e ∙ ap (λ (z : ℤ). as_passed (get_or zs 0 (pos 0)) *ℤ z) (factor_kept dc hd) in
    let coefficient : v ≡ get_or zs 0 (pos 0) *ℤ pos dc = factor ∙ ap (λ (z : ℤ). z *ℤ pos dc) (coefficient_kept _ (coefficient_within zs 0 coefficients (cases_lt 0 (length zs)))) in
    h ∙ (ap (λ (z : ℤ). replicate 16 (rounded z)) (kept_21 v (wider v small) ∙ coefficient) ∙ sym (flat_residue zs (pos dc) (pos ac) one))

pub residue_any : (zs xs vs : List ℤ) (dc ac : ℕ) → dc ≤ 440 → ac ≤ 440 → vs ≡ dequantised zs (to_z w32 dc) (to_z w32 ac) → xs ≡ inverse_of vs → xs ≡ residue_of zs (pos dc) (pos ac)
unfolding residue_of
residue_any zs xs vs dc ac hd ha e h = h ∙ ap inverse_of (e ∙ both_passed zs dc ac hd ha)

-- the same where the first value comes from Y2
pub after_flat : (zs xs : List ℤ) (first : ℤ) (ac : ℕ) → HasOneCoefficient zs → Within 2097152 first → xs ≡ replicate 16 (rounded (as_passed first)) → xs ≡ residue_after first zs (pos ac)
after_flat zs xs first ac one small h = h ∙ (ap (λ (z : ℤ). replicate 16 (rounded z)) (kept_21 first small) ∙ sym (flat_after first zs (pos ac) one))

pub after_small : (vs : List ℤ) (first : ℤ) → Within 2097152 first → All (Within 1048576) vs → All (Within 2097152) (slice_set vs 0 (as_passed first))
after_small vs first small h = All-set (Within 2097152) vs 0 (as_passed first) (small_21 first small) (all_wider vs h)

pub after_any : (zs xs vs : List ℤ) (first : ℤ) (ac : ℕ) → ac ≤ 440 → Within 2097152 first → vs ≡ dequantised zs (pos 0) (to_z w32 ac) → xs ≡ inverse_of (slice_set vs 0 (as_passed first)) → xs ≡ residue_after first zs (pos ac)
unfolding residue_after
after_any zs xs vs first ac ha small e h =
    h ∙ ap inverse_of (ap (λ (z : ℤ). slice_set vs 0 z) (kept_21 first small) ∙ ap (λ (ys : List ℤ). slice_set ys 0 first) (e ∙ dequantised_passed zs (pos 0) ac ha))

pub firsts_any : (zs ys xs vs : List ℤ) (dc ac : ℕ) → dc ≤ 440 → ac ≤ 440 → ys ≡ zs → vs ≡ dequantised ys (to_z w32 dc) (to_z w32 ac) → xs ≡ inverse_y2_of vs → xs ≡ firsts_of zs (pos dc) (pos ac)
unfolding firsts_of
firsts_any zs ys xs vs dc ac hd ha f e h = h ∙ ap inverse_y2_of (e ∙ (both_passed ys dc ac hd ha ∙ ap (λ (us : List ℤ). dequantised us (pos dc) (pos ac)) f))

-- all luma blocks of a macroblock with Y2, and of one without
pub luma_with_y2 : (s : Factors) (has_y2 : Bool) (ls : List (List ℤ)) (xs : List (List ℤ)) (fs : List ℤ) → has_y2 ≡ true
    → fs ≡ firsts_of (get_or ls 24 []) (pos s.y2_dc) (pos s.y2_ac) → xs ≡ listed 16 (λ k. residue_after (get_or fs k (pos 0)) (get_or ls k []) (pos s.y_ac)) → xs ≡ luma_residues_of s has_y2 ls
unfolding luma_residues_of firsts
luma_with_y2 s has_y2 ls xs fs y2 e h =
    h ∙ (ap (λ (gs : List ℤ). luma_after s ls gs) e ∙ sym (ap (λ (b : Bool). if b then luma_after s ls (firsts s ls) else luma_alone s ls) y2))

pub luma_without_y2 : (s : Factors) (has_y2 : Bool) (ls : List (List ℤ)) (xs : List (List ℤ)) → has_y2 ≡ false
    → xs ≡ listed 16 (λ k. residue_of (get_or ls k []) (pos s.y_dc) (pos s.y_ac)) → xs ≡ luma_residues_of s has_y2 ls
unfolding luma_residues_of
luma_without_y2 s has_y2 ls xs y2 h = h ∙ sym (ap (λ (b : Bool). if b then luma_after s ls (firsts s ls) else luma_alone s ls) y2)

pub chroma_is : (s : Factors) (ls : List (List ℤ)) (first : ℕ) (xs : List (List ℤ)) → xs ≡ listed 4 (λ k. residue_of (get_or ls (first + k) []) (pos s.uv_dc) (pos s.uv_ac)) → xs ≡ chroma_residues_of s ls first
unfolding chroma_residues_of
chroma_is s ls first xs h = h
