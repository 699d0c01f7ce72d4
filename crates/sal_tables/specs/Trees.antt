-- The trees of the bitstream (8.1). Sections are those of RFC 6386.
use Rattle.std.specs.Prelude.{List, [], ◌∷◌}
use Rattle.sal_tables.specs.declared.tree.Entry.{Entry}
use Rattle.sal_tables.specs.declared.tree.Entry.TheVariants.{Leaf, Pair}

-- a macroblock's segment (10): leaves 0 S0, 1 S1, 2 S2, 3 S3
unfoldable pub segment_entries : List Entry
segment_entries = Pair 2 ∷ Pair 4 ∷ Leaf 0 ∷ Leaf 1 ∷ Leaf 2 ∷ Leaf 3 ∷ []

-- the Y mode of a key frame (11.2): leaves 0 DC, 1 V, 2 H, 3 TM, 4 B
unfoldable pub key_y_entries : List Entry
key_y_entries = Leaf 4 ∷ Pair 2 ∷ Pair 4 ∷ Pair 6 ∷ Leaf 0 ∷ Leaf 1 ∷ Leaf 2 ∷ Leaf 3 ∷ []

-- the Y mode of an intra macroblock in an inter frame (16.2): leaves 0 DC, 1 V, 2 H, 3 TM, 4 B
unfoldable pub inter_y_entries : List Entry
inter_y_entries = Leaf 0 ∷ Pair 2 ∷ Pair 4 ∷ Pair 6 ∷ Leaf 1 ∷ Leaf 2 ∷ Leaf 3 ∷ Leaf 4 ∷ []

-- the chroma mode (11.2): leaves 0 DC, 1 V, 2 H, 3 TM
unfoldable pub chroma_entries : List Entry
chroma_entries = Leaf 0 ∷ Pair 2 ∷ Leaf 1 ∷ Pair 4 ∷ Leaf 2 ∷ Leaf 3 ∷ []

-- a subblock's mode (11.2): leaves 0 bDC, 1 bTM, 2 bVE, 3 bHE, 4 bLD, 5 bRD, 6 bVR, 7 bVL, 8 bHD, 9 bHU
unfoldable pub subblock_entries : List Entry
subblock_entries =
    Leaf 0 ∷ Pair 2 ∷ Leaf 1 ∷ Pair 4 ∷ Leaf 2 ∷ Pair 6 ∷ Pair 8 ∷ Pair 12 ∷ Leaf 3 ∷ Pair 10
    ∷ Leaf 5 ∷ Leaf 6 ∷ Leaf 4 ∷ Pair 14 ∷ Leaf 7 ∷ Pair 16 ∷ Leaf 8 ∷ Leaf 9 ∷ []

-- the vector mode of an inter macroblock (16.3): leaves 0 ZERO, 1 NEAREST, 2 NEAR, 3 NEW, 4 SPLIT
unfoldable pub vector_mode_entries : List Entry
vector_mode_entries = Leaf 0 ∷ Pair 2 ∷ Leaf 1 ∷ Pair 4 ∷ Leaf 2 ∷ Pair 6 ∷ Leaf 3 ∷ Leaf 4 ∷ []

-- the partition of a macroblock into vectors (16.3): leaves 0 TOPBOTTOM, 1 LEFTRIGHT, 2 QUARTERS, 3 SIXTEENTHS
unfoldable pub split_entries : List Entry
split_entries = Leaf 3 ∷ Pair 2 ∷ Leaf 2 ∷ Pair 4 ∷ Leaf 0 ∷ Leaf 1 ∷ []

-- the mode of one of its vectors (16.3): leaves 0 LEFT, 1 ABOVE, 2 ZERO, 3 NEW
unfoldable pub sub_vector_entries : List Entry
sub_vector_entries = Leaf 0 ∷ Pair 2 ∷ Leaf 1 ∷ Pair 4 ∷ Leaf 2 ∷ Leaf 3 ∷ []

-- a vector's component below 8 (17.2)
unfoldable pub short_vector_entries : List Entry
short_vector_entries = Pair 2 ∷ Pair 8 ∷ Pair 4 ∷ Pair 6 ∷ Leaf 0 ∷ Leaf 1 ∷ Leaf 2 ∷ Leaf 3 ∷ Pair 10 ∷ Pair 12 ∷ Leaf 4 ∷ Leaf 5 ∷ Leaf 6 ∷ Leaf 7 ∷ []

-- a token of a block (13.2): leaves 0 end of block, 1 to 5 the levels 0 to 4, 6 to 11 the categories 1 to 6
unfoldable pub token_entries : List Entry
token_entries =
    Leaf 0 ∷ Pair 2 ∷ Leaf 1 ∷ Pair 4 ∷ Leaf 2 ∷ Pair 6 ∷ Pair 8 ∷ Pair 12 ∷ Leaf 3 ∷ Pair 10
    ∷ Leaf 4 ∷ Leaf 5 ∷ Pair 14 ∷ Pair 16 ∷ Leaf 6 ∷ Leaf 7 ∷ Pair 18 ∷ Pair 20 ∷ Leaf 8 ∷ Leaf 9
    ∷ Leaf 10 ∷ Leaf 11 ∷ []
