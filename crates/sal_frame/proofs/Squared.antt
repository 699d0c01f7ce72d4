-- Squares of samples with their residues, place by place.
use Rattle.std.proofs.Common.{◌≡◌, ◌∙◌, ◌<◌, ◌≤◌, ◌+◌, ◌*◌, ◌/◌, ◌%◌, ℕ, ℤ, pos, List, [], ◌∷◌, length, get_or, replicate, sym, ap, arith}
use Rattle.sal_base.specs.Samples.{IsBlockOf}
use Rattle.sal_base.specs.declared.kinds.SubMode.{SubMode}
use Rattle.sal_intra.specs.declared.edge.SubEdge.{SubEdge}
use Rattle.sal_intra.specs.Sub.{sub_sample}
use Rattle.sal_frame.specs.Built.{sum_cut, added}
use Rattle.sal_frame.specs.Residues.{residue_at}
use Rattle.sal_macroblock.proofs.Places.{listed_is}
use Rattle.sal_frame.proofs.Nones.{zeros, none_added_16, none_added_8}

alone_at : (r : List ℤ) (k : ℕ) → k < 16 → get_or r k (pos 0) ≡ residue_at 1 (r ∷ []) (k / 4) (k % 4)
alone_at r k lt =
    let i : 1 * ((k / 4) / 4) + (k % 4) / 4 ≡ 0 = omega arith in
    let j : 4 * ((k / 4) % 4) + (k % 4) % 4 ≡ k = omega arith in
    sym (ap (λ (a : ℕ). get_or (get_or (r ∷ []) a []) (4 * ((k / 4) % 4) + (k % 4) % 4) (pos 0)) i ∙ ap (λ (b : ℕ). get_or r b (pos 0)) j)

-- a subblock
pub sub_is : (mode : SubMode) (e e' : SubEdge) (r : List ℤ) (ps xs : List ℕ) → length xs ≡ 16
    → ((k : ℕ) → k < 16 → get_or xs k 0 ≡ sum_cut (get_or ps k 0) (get_or r k (pos 0))) → IsBlockOf 4 16 ps (sub_sample mode e) → e ≡ e' → xs ≡ added 4 16 (sub_sample mode e') (residue_at 1 (r ∷ []))
sub_is mode e e' r ps xs long h predicted same =
    listed_is 16 xs 0 _ long (λ k lt.
    (h k lt
    ∙ (ap (λ (p : ℕ). sum_cut p (get_or r k (pos 0))) (predicted k lt ∙ ap (λ (f : SubEdge). sub_sample mode f (k / 4) (k % 4)) same)
    ∙ ap (λ (z : ℤ). sum_cut (sub_sample mode e' (k / 4) (k % 4)) z) (alone_at r k lt))))

-- a luma square with its residues, and one without any
pub luma_is : (f : ℕ → ℕ → ℕ) (ps xs : List ℕ) (rs rs' : List (List ℤ)) → length xs ≡ 256
    → ((k : ℕ) → k < 256 → get_or xs k 0 ≡ sum_cut (get_or ps k 0) (residue_at 4 rs (k / 16) (k % 16))) → IsBlockOf 16 256 ps f → rs ≡ rs' → xs ≡ added 16 256 f (residue_at 4 rs')
luma_is f ps xs rs rs' long h predicted same =
    listed_is 256 xs 0 _ long (λ k lt.
    (h k lt
    ∙ (ap (λ (p : ℕ). sum_cut p (residue_at 4 rs (k / 16) (k % 16))) (predicted k lt)
    ∙ ap (λ (zs : List (List ℤ)). sum_cut (f (k / 16) (k % 16)) (residue_at 4 zs (k / 16) (k % 16))) same)))

pub luma_none : (f : ℕ → ℕ → ℕ) (ps : List ℕ) (rs : List (List ℤ)) → length ps ≡ 256 → ((k : ℕ) → get_or ps k 0 ≤ 255) → IsBlockOf 16 256 ps f → rs ≡ replicate 16 zeros → ps ≡ added 16 256 f (residue_at 4 rs)
luma_none f ps rs long bytes predicted none =
    listed_is 256 ps 0 _ long (λ k lt.
    (sym (none_added_16 rs (get_or ps k 0) k none lt (bytes k)) ∙ ap (λ (p : ℕ). sum_cut p (residue_at 4 rs (k / 16) (k % 16))) (predicted k lt)))

-- a chroma square with its residues, and one without any
pub chroma_is : (f : ℕ → ℕ → ℕ) (ps xs : List ℕ) (rs rs' : List (List ℤ)) → length xs ≡ 64
    → ((k : ℕ) → k < 64 → get_or xs k 0 ≡ sum_cut (get_or ps k 0) (residue_at 2 rs (k / 8) (k % 8))) → IsBlockOf 8 64 ps f → rs ≡ rs' → xs ≡ added 8 64 f (residue_at 2 rs')
chroma_is f ps xs rs rs' long h predicted same =
    listed_is 64 xs 0 _ long (λ k lt.
    (h k lt
    ∙ (ap (λ (p : ℕ). sum_cut p (residue_at 2 rs (k / 8) (k % 8))) (predicted k lt)
    ∙ ap (λ (zs : List (List ℤ)). sum_cut (f (k / 8) (k % 8)) (residue_at 2 zs (k / 8) (k % 8))) same)))

pub chroma_none : (f : ℕ → ℕ → ℕ) (ps : List ℕ) (rs : List (List ℤ)) → length ps ≡ 64 → ((k : ℕ) → get_or ps k 0 ≤ 255) → IsBlockOf 8 64 ps f → rs ≡ replicate 4 zeros → ps ≡ added 8 64 f (residue_at 2 rs)
chroma_none f ps rs long bytes predicted none =
    listed_is 64 ps 0 _ long (λ k lt.
    (sym (none_added_8 rs (get_or ps k 0) k none lt (bytes k)) ∙ ap (λ (p : ℕ). sum_cut p (residue_at 2 rs (k / 8) (k % 8))) (predicted k lt)))
