-- The samples around a block, part by part.
use Rattle.std.proofs.Common.{◌≡◌, ◌∙◌, ◌<◌, ◌+◌, ◌==◌, ℕ, List, not, length, get_or, ap}
use Rattle.sal_base.specs.Samples.{listed}
use Rattle.sal_intra.specs.declared.edge.LumaEdge.{LumaEdge}
use Rattle.sal_intra.specs.declared.edge.ChromaEdge.{ChromaEdge}
use Rattle.sal_intra.specs.Edges.{above_at, left_at, corner_at, luma_edge_of, chroma_edge_of}
use Rattle.sal_macroblock.proofs.Places.{listed_is}

abbrev luma_record : ℕ → ℕ → List ℕ → List ℕ → ℕ → LumaEdge
luma_record x y above left corner = record { above = above; left = left; corner = corner; has_above = not (y == 0); has_left = not (x == 0) }

pub luma_around : (w x y corner : ℕ) (samples seen above left : List ℕ) → seen ≡ samples → length above ≡ 20 → length left ≡ 16
    → ((i : ℕ) → i < 20 → get_or above i 0 ≡ above_at w seen (x + i) y) → ((i : ℕ) → i < 16 → get_or left i 0 ≡ left_at w seen x (y + i)) → corner ≡ corner_at w seen x y
    → luma_record x y above left corner ≡ luma_edge_of w samples x y
unfolding luma_edge_of
luma_around w x y corner samples seen above left e long high ha hl hc =
    ap (λ (zs : List ℕ). luma_record x y zs left corner) (listed_is 20 above 0 (λ i. above_at w seen (x + i) y) long ha)
    ∙ (ap (λ (zs : List ℕ). luma_record x y (listed 20 (λ i. above_at w seen (x + i) y)) zs corner) (listed_is 16 left 0 (λ i. left_at w seen x (y + i)) high hl)
    ∙ (ap (λ (n : ℕ). luma_record x y (listed 20 (λ i. above_at w seen (x + i) y)) (listed 16 (λ i. left_at w seen x (y + i))) n) hc
    ∙ ap (λ (zs : List ℕ). luma_edge_of w zs x y) e))

abbrev chroma_record : ℕ → ℕ → List ℕ → List ℕ → ℕ → ChromaEdge
chroma_record x y above left corner = record { above = above; left = left; corner = corner; has_above = not (y == 0); has_left = not (x == 0) }

pub chroma_around : (w x y corner : ℕ) (samples seen above left : List ℕ) → seen ≡ samples → length above ≡ 8 → length left ≡ 8
    → ((i : ℕ) → i < 8 → get_or above i 0 ≡ above_at w seen (x + i) y) → ((i : ℕ) → i < 8 → get_or left i 0 ≡ left_at w seen x (y + i)) → corner ≡ corner_at w seen x y
    → chroma_record x y above left corner ≡ chroma_edge_of w samples x y
unfolding chroma_edge_of
chroma_around w x y corner samples seen above left e long high ha hl hc =
    ap (λ (zs : List ℕ). chroma_record x y zs left corner) (listed_is 8 above 0 (λ i. above_at w seen (x + i) y) long ha)
    ∙ (ap (λ (zs : List ℕ). chroma_record x y (listed 8 (λ i. above_at w seen (x + i) y)) zs corner) (listed_is 8 left 0 (λ i. left_at w seen x (y + i)) high hl)
    ∙ (ap (λ (n : ℕ). chroma_record x y (listed 8 (λ i. above_at w seen (x + i) y)) (listed 8 (λ i. left_at w seen x (y + i))) n) hc
    ∙ ap (λ (zs : List ℕ). chroma_edge_of w zs x y) e))
