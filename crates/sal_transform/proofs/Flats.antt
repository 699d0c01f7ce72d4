-- Blocks of which only the first value isn't 0, transformed back.
use Rattle.std.proofs.Common.{◌≡◌, ◌∙◌, ◌≤◌, ℤ, pos, ◌+ℤ◌, ◌-ℤ◌, ◌*ℤ◌, List, [], ◌∷◌, get_or, replicate, slice_set, refl, ap, arith, lit≤, lit<}
use Rattle.std.proofs.lemmas.Int.{ints}
use Rattle.sal_base.specs.Samples.{listed_from}
use Rattle.sal_tables.specs.Tables.{zigzag_of}
use Rattle.sal_transform.specs.Inverse.{scaled, out_0, out_1, out_2, out_3, rounded, inverse_of}
use Rattle.sal_transform.specs.Factors.{dequantised}
use Rattle.sal_transform.specs.Residue.{residue_of, residue_after}
use Rattle.sal_transform.proofs.Signed.{same_16}
use Rattle.sal_transform.specs.Small.{HasOneCoefficient}

alone_0 : (v : ℤ) → out_0 v (pos 0) (pos 0) (pos 0) ≡ v
unfolding out_0 scaled
alone_0 v = omega (arith, ints)

alone_1 : (v : ℤ) → out_1 v (pos 0) (pos 0) (pos 0) ≡ v
unfolding out_1 scaled
alone_1 v = omega (arith, ints)

alone_2 : (v : ℤ) → out_2 v (pos 0) (pos 0) (pos 0) ≡ v
unfolding out_2 scaled
alone_2 v = omega (arith, ints)

alone_3 : (v : ℤ) → out_3 v (pos 0) (pos 0) (pos 0) ≡ v
unfolding out_3 scaled
alone_3 v = omega (arith, ints)

abbrev Four : Type 0
Four = ℤ → ℤ → ℤ → ℤ → ℤ

-- down and then along, each of which keeps a value that stands alone
both_ways : (f g : Four) → ((v : ℤ) → f v (pos 0) (pos 0) (pos 0) ≡ v) → ((v : ℤ) → g v (pos 0) (pos 0) (pos 0) ≡ v) → (v : ℤ)
    → rounded (f (g v (pos 0) (pos 0) (pos 0)) (g (pos 0) (pos 0) (pos 0) (pos 0)) (g (pos 0) (pos 0) (pos 0) (pos 0)) (g (pos 0) (pos 0) (pos 0) (pos 0))) ≡ rounded v
both_ways f g hf hg v =
    let n : g (pos 0) (pos 0) (pos 0) (pos 0) ≡ pos 0 = hg (pos 0) in
    let e : f (g v (pos 0) (pos 0) (pos 0)) (g (pos 0) (pos 0) (pos 0) (pos 0)) (g (pos 0) (pos 0) (pos 0) (pos 0)) (g (pos 0) (pos 0) (pos 0) (pos 0)) ≡ f v (pos 0) (pos 0) (pos 0) =
    ap (λ (x : ℤ). f x (g (pos 0) (pos 0) (pos 0) (pos 0)) (g (pos 0) (pos 0) (pos 0) (pos 0)) (g (pos 0) (pos 0) (pos 0) (pos 0))) (hg v) ∙ ap (λ (z : ℤ). f v z z z) n in
    ap rounded (e ∙ hf v)

pub flat_inverse : (v : ℤ) → inverse_of (v ∷ replicate 15 (pos 0)) ≡ replicate 16 (rounded v)
unfolding inverse_of
flat_inverse v =
    same_16
    (both_ways out_0 out_0 alone_0 alone_0 v) (both_ways out_1 out_0 alone_1 alone_0 v) (both_ways out_2 out_0 alone_2 alone_0 v) (both_ways out_3 out_0 alone_3 alone_0 v)
    (both_ways out_0 out_1 alone_0 alone_1 v) (both_ways out_1 out_1 alone_1 alone_1 v) (both_ways out_2 out_1 alone_2 alone_1 v) (both_ways out_3 out_1 alone_3 alone_1 v)
    (both_ways out_0 out_2 alone_0 alone_2 v) (both_ways out_1 out_2 alone_1 alone_2 v) (both_ways out_2 out_2 alone_2 alone_2 v) (both_ways out_3 out_2 alone_3 alone_2 v)
    (both_ways out_0 out_3 alone_0 alone_3 v) (both_ways out_1 out_3 alone_1 alone_3 v) (both_ways out_2 out_3 alone_2 alone_3 v) (both_ways out_3 out_3 alone_3 alone_3 v)

pub none_times : (z : ℤ) → pos 0 *ℤ z ≡ pos 0
none_times z = omega (arith, ints)

no_product : (x z : ℤ) → x ≡ pos 0 → x *ℤ z ≡ pos 0
no_product x z e = ap (λ (y : ℤ). y *ℤ z) e ∙ none_times z

pub one_value : (zs : List ℤ) (dc ac : ℤ) → HasOneCoefficient zs → dequantised zs dc ac ≡ (get_or zs 0 (pos 0) *ℤ dc) ∷ replicate 15 (pos 0)
unfolding dequantised zigzag_of listed_from
one_value zs dc ac h =
    same_16
    refl
    (no_product (get_or zs 1 (pos 0)) ac (h 1 (lit≤ tt) (lit< tt)))
    (no_product (get_or zs 5 (pos 0)) ac (h 5 (lit≤ tt) (lit< tt)))
    (no_product (get_or zs 6 (pos 0)) ac (h 6 (lit≤ tt) (lit< tt)))
    (no_product (get_or zs 2 (pos 0)) ac (h 2 (lit≤ tt) (lit< tt)))
    (no_product (get_or zs 4 (pos 0)) ac (h 4 (lit≤ tt) (lit< tt)))
    (no_product (get_or zs 7 (pos 0)) ac (h 7 (lit≤ tt) (lit< tt)))
    (no_product (get_or zs 12 (pos 0)) ac (h 12 (lit≤ tt) (lit< tt)))
    (no_product (get_or zs 3 (pos 0)) ac (h 3 (lit≤ tt) (lit< tt)))
    (no_product (get_or zs 8 (pos 0)) ac (h 8 (lit≤ tt) (lit< tt)))
    (no_product (get_or zs 11 (pos 0)) ac (h 11 (lit≤ tt) (lit< tt)))
    (no_product (get_or zs 13 (pos 0)) ac (h 13 (lit≤ tt) (lit< tt)))
    (no_product (get_or zs 9 (pos 0)) ac (h 9 (lit≤ tt) (lit< tt)))
    (no_product (get_or zs 10 (pos 0)) ac (h 10 (lit≤ tt) (lit< tt)))
    (no_product (get_or zs 14 (pos 0)) ac (h 14 (lit≤ tt) (lit< tt)))
    (no_product (get_or zs 15 (pos 0)) ac (h 15 (lit≤ tt) (lit< tt)))

pub flat_residue : (zs : List ℤ) (dc ac : ℤ) → HasOneCoefficient zs → residue_of zs dc ac ≡ replicate 16 (rounded (get_or zs 0 (pos 0) *ℤ dc))
unfolding residue_of
flat_residue zs dc ac h = ap inverse_of (one_value zs dc ac h) ∙ flat_inverse (get_or zs 0 (pos 0) *ℤ dc)

pub flat_after : (first : ℤ) (zs : List ℤ) (ac : ℤ) → HasOneCoefficient zs → residue_after first zs ac ≡ replicate 16 (rounded first)
unfolding residue_after
flat_after first zs ac h = ap (λ (b : List ℤ). inverse_of (slice_set b 0 first)) (one_value zs (pos 0) ac h) ∙ flat_inverse first
