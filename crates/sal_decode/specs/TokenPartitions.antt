-- The token partitions: the coefficients of all macroblocks (RFC 6386, 9.5 and 13).
use Rattle.std.specs.Prelude.{ℕ, ◌+◌, ◌/◌, ◌%◌, List, [], ◌∷◌, Bool, if◌then◌else◌, ◌==◌, length, replicate, slice_index_or, slice_range, slice_set}
use Rattle.sal_bool.specs.Bits.{Interval, start}
use Rattle.sal_bool.specs.Syntax.{read}
use Rattle.sal_macroblock.specs.declared.mode.MbMode.{MbMode}
use Rattle.sal_macroblock.specs.Macroblocks.{has_y2}
use Rattle.sal_tokens.specs.Blocks.{Tokens, macroblock, skipped, no_contexts}
use Rattle.sal_frame.specs.Records.{Macroblock}

-- how far each partition has been read, and the contexts above each column and left
pub record Progress : Type 0 where
  pub read_to : List Interval
  pub above : List (List Bool)
  pub left : List Bool

-- nothing is read yet
abbrev pub begun : ℕ → ℕ → Progress
begun count columns = record { read_to = replicate count start; above = replicate columns no_contexts; left = no_contexts }

-- the bytes of partition k, by the places and lengths of all
abbrev pub part_bytes : List ℕ → List (ℕ × ℕ) → ℕ → List ℕ
part_bytes bytes parts k = let p = slice_index_or parts k (0, 0) in slice_range bytes p.0 (p.0 + p.1)

-- the partition of macroblock k: that of its row, modulo their count (9.5)
abbrev pub part_of : ℕ → ℕ → ℕ → ℕ
part_of count columns k = k / columns % count

-- the tokens of a macroblock out of the bytes of its partition, from here on, and how far it is read after them; a skipped one
-- has none
abbrev pub tokens_in : List ℕ → Interval → List ℕ → MbMode → List Bool → List Bool → Tokens × Interval
tokens_in bytes from probabilities m above left =
    if m.skip then (skipped (has_y2 m.y) above left, from) else read bytes from (macroblock probabilities (has_y2 m.y) above left)

-- those of macroblock k, and how far its partition is read
unfoldable pub tokens_of : List ℕ → List (ℕ × ℕ) → List ℕ → ℕ → ℕ → MbMode → Progress → Tokens × Interval
tokens_of bytes parts probabilities columns k m r =
    let part = part_of (length parts) columns k in
    tokens_in (part_bytes bytes parts part) (slice_index_or r.read_to part start) probabilities m (slice_index_or r.above (k % columns) no_contexts)
    (if k % columns == 0 then no_contexts else r.left)

abbrev pub progress_after : ℕ → ℕ → ℕ → Progress → Tokens × Interval → Progress
progress_after count columns k r t =
    record { read_to = slice_set r.read_to (part_of count columns k) t.1; above = slice_set r.above (k % columns) t.0.above; left = t.0.left }

-- the macroblocks from the k-th on, with their coefficients
unfoldable pub macroblocks : List ℕ → List (ℕ × ℕ) → List ℕ → ℕ → ℕ → List MbMode → Progress → List Macroblock
macroblocks bytes parts probabilities columns k [] r = []
macroblocks bytes parts probabilities columns k (m ∷ ms) r =
    let t = tokens_of bytes parts probabilities columns k m r in
    record { mode = m; coefficients = t.0.coefficients; has_coefficients = t.0.has_coefficients } ∷ macroblocks bytes parts probabilities columns (k + 1) ms (progress_after (length parts) columns k r t)
