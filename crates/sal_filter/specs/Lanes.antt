-- The samples around an edge in eight rows of eight lanes, so that eight places are filtered side by side.
use Rattle.std.specs.Prelude.{ℕ, suc, zero, ◌+◌, ◌*◌, List, slice_index, slice_set}
use Rattle.sal_filter.specs.declared.across.Across.{Across}
use Rattle.sal_filter.specs.declared.edge.Edge.{Edge}
use Rattle.sal_filter.specs.Edges.{place_filtered}

-- one place of an edge
abbrev pub edge_place : Edge → Across → Across
edge_place e a = place_filtered e.sort e.limit e.interior e.threshold a

-- n samples written from a place on, each further along
unfoldable pub row_put : ℕ → ℕ → (ℕ → ℕ) → ℕ → List ℕ → List ℕ
row_put from along f zero xs = xs
row_put from along f (suc n) xs = slice_set (row_put from along f n xs) (from + n * along) (f n)

-- rows 1 to k written so, a step apart
unfoldable pub rows_put : ℕ → ℕ → ℕ → (ℕ → ℕ → ℕ) → ℕ → ℕ → List ℕ → List ℕ
rows_put from step along f n zero xs = xs
rows_put from step along f n (suc k) xs = row_put (from + suc k * step) along (f (suc k)) n (rows_put from step along f n k xs)

-- lane i of row k
abbrev pub lane : List ℕ → ℕ → ℕ → ℕ
lane lanes k i = slice_index lanes (8 * k + i)
