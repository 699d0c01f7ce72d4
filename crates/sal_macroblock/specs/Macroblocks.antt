-- Macroblocks: their kinds, their vectors, and the one that stands for those outside the picture. Sections are those of RFC 6386.
use Rattle.std.specs.Prelude.{◌≡◌, ◌≤◌, ◌||◌, ℕ, ℤ, pos, List, Bool, true, false, replicate, slice_index_or}
use Rattle.sal_base.specs.Kinds.{is_whole}
use Rattle.sal_base.specs.declared.kinds.Vector.{Vector}
use Rattle.sal_base.specs.declared.kinds.YMode.{YMode}
use Rattle.sal_base.specs.declared.kinds.YMode.TheVariants.{DC, V, H, TM, B, SPLIT}
use Rattle.sal_base.specs.declared.kinds.SubMode.{SubMode}
use Rattle.sal_base.specs.declared.kinds.SubMode.TheVariants.{BDC, BTM, BVE, BHE}
use Rattle.sal_macroblock.specs.declared.mode.RefKind.{RefKind}
use Rattle.sal_macroblock.specs.declared.mode.RefKind.TheVariants.{Intra, Last, Golden, Alt}
use Rattle.sal_macroblock.specs.declared.mode.MbMode.{MbMode}

abbrev pub vector : ℤ → ℤ → Vector
vector row column = record { row = row; column = column }

abbrev pub zero_vector : Vector
zero_vector = vector (pos 0) (pos 0)

-- the vector of block k of a macroblock, in raster order
abbrev pub vector_at : List Vector → ℕ → Vector
vector_at vectors k = slice_index_or vectors k zero_vector

-- a macroblock's own vector is that of its last block (16.3)
abbrev pub own_vector : MbMode → Vector
own_vector m = vector_at m.vectors 15

-- predicted from samples of its own picture
abbrev pub is_intra : RefKind → Bool
is_intra Intra = true
is_intra Last = false
is_intra Golden = false
is_intra Alt = false

-- with a vector for each part (16.3)
abbrev pub is_split : YMode → Bool
is_split SPLIT = true
is_split _ = false

-- with a mode for each subblock (11.2)
abbrev pub is_b : YMode → Bool
is_b B = true
is_b _ = false

-- the first coefficients of the luma blocks stand in a block of their own, unless subblocks are predicted one by one (13)
abbrev pub has_y2 : YMode → Bool
has_y2 B = false
has_y2 SPLIT = false
has_y2 _ = true

-- the subblock mode that a macroblock counts as where its mode isn't B (11.3)
abbrev pub implied : YMode → SubMode
implied V = BVE
implied H = BHE
implied TM = BTM
implied _ = BDC

-- outside the picture: intra, DC, each subblock bDC, no vectors (11.3 and 16.3)
unfoldable pub outside : MbMode
outside = record { segment = 0; skip = false; reference = Intra; y = DC; sub = replicate 16 BDC; chroma = DC; vectors = replicate 16 zero_vector }

-- the Y modes of an intra macroblock; the others are those of an inter one (8 and 16.3)
abbrev pub is_intra_mode : YMode → Bool
is_intra_mode y = is_b y || is_whole y

-- what is true of each macroblock that is read: one of four segments; a Y mode that fits its reference; a whole chroma mode, DC in
-- an inter one; for each subblock the mode that its Y mode counts as, unless that is B; one vector for all blocks, unless it is in
-- parts, and no motion in an intra one (8, 10, 11.3 and 16.3)
pub record HasFittingModes (m : MbMode) : Type 0 where
  pub segment : m.segment ≤ 3
  pub luma : is_intra_mode m.y ≡ is_intra m.reference
  pub chroma : is_whole m.chroma ≡ true
  pub inter_chroma : is_intra m.reference ≡ false → m.chroma ≡ DC
  pub sub : is_b m.y ≡ false → m.sub ≡ replicate 16 (implied m.y)
  pub vectors : is_split m.y ≡ false → m.vectors ≡ replicate 16 (own_vector m)
  pub still : is_intra m.reference ≡ true → m.vectors ≡ replicate 16 zero_vector
