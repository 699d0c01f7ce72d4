-- Blocks of samples by their places, and a subblock's candidates.
use Rattle.std.proofs.Common.{◌≡◌, ◌∙◌, ℕ, ◌+◌, ◌<◌, ◌/◌, ◌%◌, ℤ, pos, List, [], ◌∷◌, length, get_or, ap, subst, arith}
use Rattle.std.specs.Prelude.{All, replicate}
use Rattle.std.proofs.lemmas.Int.{ints}
use Rattle.std.proofs.lemmas.List.Elements.{All-replicate}
use Rattle.sal_macroblock.specs.Sizes.{Within}
use Rattle.std.proofs.lemmas.List.{get_or_default}
use Rattle.sal_base.specs.Samples.{IsBlockOf, block_of}
use Rattle.sal_base.specs.declared.kinds.SubMode.{SubMode}
use Rattle.sal_base.specs.declared.kinds.SubMode.TheVariants.{BDC, BTM, BVE, BHE, BLD, BRD, BVR, BVL, BHD, BHU}
use Rattle.sal_intra.specs.declared.edge.SubEdge.{SubEdge}
use Rattle.sal_macroblock.proofs.Places.{listed_is}
use Rattle.sal_search.specs.Costs.{sad, Candidate, candidate, better, first_least}
use Rattle.sal_search.specs.Subblocks.{sub_candidate, best_sub}
use Rattle.sal_search.proofs.Choices.{more, begins, ends}

pub block_is : (width n : ℕ) (xs : List ℕ) (f : ℕ → ℕ → ℕ) → length xs ≡ n → IsBlockOf width n xs f → xs ≡ block_of width n f
block_is width n xs f long h = listed_is n xs 0 (λ k. f (k / width) (k % width)) long h

pub candidate_is : {A : Type 0} (a : A) (n : ℕ) (wanted xs ys : List ℕ) → xs ≡ ys → n ≡ sad wanted xs → candidate a n ≡ candidate a (sad wanted ys)
candidate_is a n wanted xs ys same e = ap (λ (k : ℕ). candidate a k) (e ∙ ap (λ (zs : List ℕ). sad wanted zs) same)

-- ten modes, one by one
pub of_ten : (wanted : List ℕ) (e : SubEdge) (b0 b1 b2 b3 b4 b5 b6 b7 b8 b9 : Candidate SubMode) → b0 ≡ sub_candidate wanted e BDC
    → b1 ≡ better b0 (sub_candidate wanted e BTM) → b2 ≡ better b1 (sub_candidate wanted e BVE) → b3 ≡ better b2 (sub_candidate wanted e BHE)
    → b4 ≡ better b3 (sub_candidate wanted e BLD) → b5 ≡ better b4 (sub_candidate wanted e BRD) → b6 ≡ better b5 (sub_candidate wanted e BVR)
    → b7 ≡ better b6 (sub_candidate wanted e BVL) → b8 ≡ better b7 (sub_candidate wanted e BHD) → b9 ≡ better b8 (sub_candidate wanted e BHU)
    → b9 ≡ best_sub wanted e
of_ten wanted e b0 b1 b2 b3 b4 b5 b6 b7 b8 b9 h0 h1 h2 h3 h4 h5 h6 h7 h8 h9 =
    ends b9 ∙ (more b9 b8 _ _ h9 ∙ (more b8 b7 _ _ h8 ∙ (more b7 b6 _ _ h7 ∙ (more b6 b5 _ _ h6 ∙ (more b5 b4 _ _ h5
    ∙ (more b4 b3 _ _ h4 ∙ (more b3 b2 _ _ h3 ∙ (more b2 b1 _ _ h2 ∙ (more b1 b0 _ _ h1 ∙ begins b0 _ _ h0)))))))))

-- four candidates, one by one
pub of_four : {A : Type 0} (k0 k1 k2 k3 b0 b1 b2 b3 : Candidate A) → b0 ≡ k0 → b1 ≡ better b0 k1 → b2 ≡ better b1 k2 → b3 ≡ better b2 k3 → b3 ≡ first_least k0 (k1 ∷ k2 ∷ k3 ∷ [])
of_four k0 k1 k2 k3 b0 b1 b2 b3 h0 h1 h2 h3 =
    ends b3 ∙ (more b3 b2 k3 [] h3 ∙ (more b2 b1 k2 (k3 ∷ []) h2 ∙ (more b1 b0 k1 (k2 ∷ k3 ∷ []) h1 ∙ begins b0 k0 (k1 ∷ k2 ∷ k3 ∷ []) h0)))

-- what is true at each place is true of all
pub all_at : (P : ℤ → Type 0) (n : ℕ) (zs : List ℤ) → length zs ≡ n → ((j : ℕ) → j < n → P (get_or zs j (pos 0))) → All P zs
all_at P n zs long h k d lt = subst P (get_or_default zs k (pos 0) d lt) (h k (omega (arith, long, lt)))

-- the sums of two planes
pub both_planes : {A : Type 0} (a : A) (m n : ℕ) (us vs xs ys xs' ys' : List ℕ) → xs ≡ xs' → ys ≡ ys' → m ≡ sad us xs → n ≡ sad vs ys → candidate a (m + n) ≡ candidate a (sad us xs' + sad vs ys')
both_planes a m n us vs xs ys xs' ys' hx hy hm hn =
    ap (λ (k : ℕ). candidate a (k + n)) (hm ∙ ap (λ (zs : List ℕ). sad us zs) hx) ∙ ap (λ (k : ℕ). candidate a (sad us xs' + k)) (hn ∙ ap (λ (zs : List ℕ). sad vs zs) hy)

-- a candidate that is compared
pub compared : {A : Type 0} (c a b k : Candidate A) → c ≡ better a b → b ≡ k → c ≡ better a k
compared c a b k h e = h ∙ ap (λ (t : Candidate _). better a t) e

-- zeros are small
zero_small : Within 2047 (pos 0)
zero_small = (omega (arith, ints), omega (arith, ints))

pub all_zero : All (λ (zs : List ℤ). All (Within 2047) zs) (replicate 16 (replicate 16 (pos 0)))
all_zero = All-replicate (λ (zs : List ℤ). All (Within 2047) zs) 16 (replicate 16 (pos 0)) (All-replicate (Within 2047) 16 (pos 0) zero_small)
