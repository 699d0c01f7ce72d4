-- The vectors of a macroblock in parts (RFC 6386, 16.3).
use Rattle.std.specs.Prelude.{ℕ, suc, zero, ◌+◌, ◌*◌, ◌/◌, ◌%◌, List, [], ◌∷◌, ◌==◌, if◌then◌else◌, replicate, slice_index, slice_index_or}
use Rattle.sal_base.specs.Samples.{listed}
use Rattle.sal_base.specs.declared.kinds.Vector.{Vector}
use Rattle.sal_bool.specs.Syntax.{Syntax, Done, ◌>>=◌, leaf}
use Rattle.sal_tables.specs.Tables.{split_probabilities_of, sub_vector_probabilities_of}
use Rattle.sal_tables.specs.Trees.{split_entries, sub_vector_entries}
use Rattle.sal_macroblock.specs.Macroblocks.{zero_vector, vector_at}
use Rattle.sal_modes.specs.Around.{Around, above_of, left_of}
use Rattle.sal_modes.specs.ReadVectors.{read_vector}
use Rattle.sal_modes.specs.Vectors.{plus, same}

-- partitions: 0 top and bottom, 1 left and right, 2 quarters, 3 sixteenths. How many parts there are
abbrev pub part_count : ℕ → ℕ
part_count partition = slice_index (2 ∷ 2 ∷ 4 ∷ 16 ∷ []) partition

-- which part block k is in
abbrev pub part_of : ℕ → ℕ → ℕ
part_of partition k =
    if partition == 0 then k / 8
    else (if partition == 1 then k % 4 / 2
    else (if partition == 2 then 2 * (k / 8) + k % 4 / 2
    else k))

-- the first block of a part, in raster order
abbrev pub first_block : ℕ → ℕ → ℕ
first_block partition part =
    if partition == 0 then 8 * part
    else (if partition == 1 then 2 * part
    else (if partition == 2 then 8 * (part / 2) + 2 * (part % 2)
    else part))

-- the vectors of all blocks, those of a part replaced
abbrev pub part_put : ℕ → ℕ → Vector → List Vector → List Vector
part_put partition part v vs = listed 16 (λ k. if part_of partition k == part then v else vector_at vs k)

-- the context of a part's mode, by the vectors left and above: the first that holds
abbrev pub sub_context : Vector → Vector → ℕ
sub_context left above =
    if same left above then (if same above zero_vector then 4 else 3)
    else (if same above zero_vector then 2
    else (if same left zero_vector then 1
    else 0))

-- LEFT, ABOVE, ZERO, or NEW: best and a vector that is read
abbrev pub sub_vector_of : List ℕ → Vector → Vector → Vector → ℕ → Syntax Vector
sub_vector_of ps best left above l =
    if l == 0 then Done left
    else (if l == 1 then Done above
    else (if l == 2 then Done zero_vector
    else (read_vector ps >>= λ v. Done (plus best v))))

-- the vector of one part, by those left of and above its first block
unfoldable pub sub_vector : List ℕ → Vector → Vector → Vector → Syntax Vector
sub_vector ps best left above = leaf sub_vector_entries (slice_index_or sub_vector_probabilities_of (sub_context left above) []) >>= λ l. sub_vector_of ps best left above l

-- the vectors of n more parts from this one on; vectors of blocks in a neighbour are its own, not negated by sign bias
unfoldable pub parts : List ℕ → Around → Vector → ℕ → ℕ → ℕ → List Vector → Syntax (List Vector)
parts ps a best partition part zero vs = Done vs
parts ps a best partition part (suc n) vs =
    let k = first_block partition part in
    sub_vector ps best (left_of zero_vector a.left.vectors vs k) (above_of zero_vector a.above.vectors vs k)
    >>= λ v. parts ps a best partition (part + 1) n (part_put partition part v vs)

-- the vectors of the sixteen blocks of a macroblock in parts
unfoldable pub split_vectors : List ℕ → Around → Vector → Syntax (List Vector)
split_vectors ps a best = leaf split_entries split_probabilities_of >>= λ p. parts ps a best p 0 (part_count p) (replicate 16 zero_vector)
