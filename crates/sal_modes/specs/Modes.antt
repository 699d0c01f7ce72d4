-- The modes and vectors of a macroblock, in the order of their bits (RFC 6386, 10, 11, 16 and 19.3).
use Rattle.std.specs.Prelude.{ℕ, List, [], ◌∷◌, Bool, false, not, if◌then◌else◌, replicate, slice_index, slice_index_or}
use Rattle.sal_base.specs.Samples.{listed}
use Rattle.sal_base.specs.declared.kinds.Vector.{Vector}
use Rattle.sal_base.specs.declared.kinds.YMode.{YMode}
use Rattle.sal_base.specs.declared.kinds.YMode.TheVariants.{DC, NEAREST, NEAR, ZERO, NEW, SPLIT}
use Rattle.sal_base.specs.declared.kinds.SubMode.TheVariants.{BDC}
use Rattle.sal_bool.specs.Syntax.{Syntax, Done, ◌>>=◌, one, when, leaf}
use Rattle.sal_tables.specs.Tables.{vector_mode_probabilities_of}
use Rattle.sal_tables.specs.Trees.{segment_entries, vector_mode_entries}
use Rattle.sal_probs.specs.Probabilities.{Table}
use Rattle.sal_header.specs.declared.header.Header.{Header}
use Rattle.sal_macroblock.specs.declared.mode.RefKind.{RefKind}
use Rattle.sal_macroblock.specs.declared.mode.RefKind.TheVariants.{Last, Golden, Alt}
use Rattle.sal_macroblock.specs.declared.mode.MbMode.{MbMode}
use Rattle.sal_macroblock.specs.Macroblocks.{zero_vector}
use Rattle.sal_modes.specs.declared.around.Bias.{Bias}
use Rattle.sal_modes.specs.declared.around.Near.{Near}
use Rattle.sal_modes.specs.Vectors.{plus}
use Rattle.sal_modes.specs.Near.{bias_of, near_of}
use Rattle.sal_modes.specs.Around.{Around}
use Rattle.sal_modes.specs.IntraModes.{intra_mode}
use Rattle.sal_modes.specs.ReadVectors.{read_vector}
use Rattle.sal_modes.specs.SplitVectors.{split_vectors}

-- the mode that a leaf of the vector mode's tree stands for
abbrev pub vector_mode : ℕ → YMode
vector_mode l = slice_index_or (ZERO ∷ NEAREST ∷ NEAR ∷ NEW ∷ SPLIT ∷ []) l ZERO

-- the vector mode's four probabilities: entry i of the row that count i names (16.3)
abbrev pub mode_row : List ℕ → List ℕ
mode_row counts = listed 4 (λ i. slice_index (slice_index_or vector_mode_probabilities_of (slice_index counts i) []) i)

-- the vectors of the sixteen blocks, by the mode; NEW is best and a vector that is read (16.3)
abbrev pub vectors_of : List ℕ → Around → Near → YMode → Syntax (List Vector)
vectors_of ps a near NEAREST = Done (replicate 16 near.nearest)
vectors_of ps a near NEAR = Done (replicate 16 near.near)
vectors_of ps a near NEW = read_vector ps >>= λ v. Done (replicate 16 (plus near.best v))
vectors_of ps a near SPLIT = split_vectors ps a near.best
vectors_of ps a near _ = Done (replicate 16 zero_vector)

-- the reference: last, or else golden or alt (16.2)
abbrev pub reference_of : Bool → Bool → RefKind
reference_of later alt = if later then (if alt then Alt else Golden) else Last

-- a frame's sign biases and that of a macroblock's reference (9.7)
abbrev pub frame_bias : Header → Bias
frame_bias h = record { golden = h.bias_golden; alt = h.bias_alt; own = false }

abbrev pub bias_for : Header → RefKind → Bias
bias_for h r = record { golden = h.bias_golden; alt = h.bias_alt; own = bias_of (frame_bias h) r }

-- an inter macroblock: its reference, its vector mode, its vectors (16.2 and 16.3)
unfoldable pub inter_mode : Header → Table → Around → Syntax MbMode
inter_mode h probs a = do
  later ← one h.prob_last
  alt ← when later (one h.prob_golden) false
  let reference = reference_of later alt
  let near = near_of a.above a.left a.corner (bias_for h reference) a.bounds
  y ← leaf vector_mode_entries (mode_row near.counts)
  vectors ← vectors_of probs.vectors a near (vector_mode y)
  Done (record { segment = 0; skip = false; reference = reference; y = vector_mode y; sub = replicate 16 BDC; chroma = DC; vectors = vectors })

-- a macroblock: its segment where the map is updated, whether it is skipped, whether it is inter, and its modes (19.3)
unfoldable pub mb_mode : Header → Table → Around → Syntax MbMode
mb_mode h probs a = do
  segment ← when h.update_map (leaf segment_entries h.map) 0
  skip ← when h.skips (one h.prob_skip) false
  inter ← when (not h.key) (one h.prob_intra) false
  m ← (if inter then inter_mode h probs a else intra_mode h.key probs a)
  Done (record m { segment = segment; skip = skip })
