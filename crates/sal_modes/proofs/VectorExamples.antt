-- Components read from bytes, and the parts of a macroblock, computed; bytes are an independent program's, the other values by hand.
use Rattle.std.proofs.Common.{◌≡◌, pos, negsuc, [], ◌∷◌, refl, slice_range}
use Rattle.sal_base.specs.Samples.{listed, listed_from}
use Rattle.sal_bool.specs.Bits.{start, widen, next}
use Rattle.sal_bool.specs.Syntax.{◌>>=◌, read, walk}
use Rattle.sal_tables.specs.Tables.{default_vectors_of, vector_mode_probabilities_of}
use Rattle.sal_tables.specs.Trees.{short_vector_entries}
use Rattle.sal_macroblock.specs.Macroblocks.{vector, zero_vector}
use Rattle.sal_modes.specs.ReadVectors.{bits_at, long_size, component}
use Rattle.sal_modes.specs.SplitVectors.{part_of, part_count, first_block, sub_context}
use Rattle.sal_modes.specs.Modes.{mode_row}

none : (read (39 ∷ 176 ∷ 0 ∷ []) start (component (slice_range default_vectors_of 19 38))).0 ≡ pos 0
unfolding read widen next ◌>>=◌ walk default_vectors_of short_vector_entries bits_at long_size component
none = refl

short : (read (162 ∷ 254 ∷ 80 ∷ []) start (component (slice_range default_vectors_of 19 38))).0 ≡ negsuc 6
unfolding read widen next ◌>>=◌ walk default_vectors_of short_vector_entries bits_at long_size component
short = refl

least_long : (read (164 ∷ 176 ∷ 152 ∷ []) start (component (slice_range default_vectors_of 19 38))).0 ≡ pos 8
unfolding read widen next ◌>>=◌ walk default_vectors_of short_vector_entries bits_at long_size component
least_long = refl

bit_3_unread : (read (224 ∷ 12 ∷ 176 ∷ []) start (component (slice_range default_vectors_of 19 38))).0 ≡ negsuc 12
unfolding read widen next ◌>>=◌ walk default_vectors_of short_vector_entries bits_at long_size component
bit_3_unread = refl

bit_3_read_as_0 : (read (197 ∷ 170 ∷ 94 ∷ 0 ∷ []) start (component (slice_range default_vectors_of 19 38))).0 ≡ pos 530
unfolding read widen next ◌>>=◌ walk default_vectors_of short_vector_entries bits_at long_size component
bit_3_read_as_0 = refl

bit_3_read_as_1 : (read (254 ∷ 255 ∷ 255 ∷ 255 ∷ 232 ∷ 128 ∷ []) start (component (slice_range default_vectors_of 19 38))).0 ≡ negsuc 1022
unfolding read widen next ◌>>=◌ walk default_vectors_of short_vector_entries bits_at long_size component
bit_3_read_as_1 = refl

-- blocks by their parts: rows of four
top_and_bottom : listed 16 (part_of 0) ≡ 0 ∷ 0 ∷ 0 ∷ 0 ∷ 0 ∷ 0 ∷ 0 ∷ 0 ∷ 1 ∷ 1 ∷ 1 ∷ 1 ∷ 1 ∷ 1 ∷ 1 ∷ 1 ∷ []
unfolding listed_from
top_and_bottom = refl

left_and_right : listed 16 (part_of 1) ≡ 0 ∷ 0 ∷ 1 ∷ 1 ∷ 0 ∷ 0 ∷ 1 ∷ 1 ∷ 0 ∷ 0 ∷ 1 ∷ 1 ∷ 0 ∷ 0 ∷ 1 ∷ 1 ∷ []
unfolding listed_from
left_and_right = refl

quarters : listed 16 (part_of 2) ≡ 0 ∷ 0 ∷ 1 ∷ 1 ∷ 0 ∷ 0 ∷ 1 ∷ 1 ∷ 2 ∷ 2 ∷ 3 ∷ 3 ∷ 2 ∷ 2 ∷ 3 ∷ 3 ∷ []
unfolding listed_from
quarters = refl

-- the first block of each part
first_blocks : listed 4 (λ p. listed (part_count p) (first_block p))
    ≡ (0 ∷ 8 ∷ []) ∷ (0 ∷ 2 ∷ []) ∷ (0 ∷ 2 ∷ 8 ∷ 10 ∷ []) ∷ (0 ∷ 1 ∷ 2 ∷ 3 ∷ 4 ∷ 5 ∷ 6 ∷ 7 ∷ 8 ∷ 9 ∷ 10 ∷ 11 ∷ 12 ∷ 13 ∷ 14 ∷ 15 ∷ []) ∷ []
unfolding listed_from
first_blocks = refl

-- equal and zero, equal, above zero, left zero, neither
contexts : (sub_context zero_vector zero_vector ∷ sub_context (vector (pos 1) (negsuc 2)) (vector (pos 1) (negsuc 2)) ∷ sub_context (vector (pos 1) (pos 0)) zero_vector
    ∷ sub_context zero_vector (vector (pos 0) (negsuc 0)) ∷ sub_context (vector (pos 1) (pos 0)) (vector (pos 0) (pos 1)) ∷ []) ≡ 4 ∷ 3 ∷ 2 ∷ 1 ∷ 0 ∷ []
contexts = refl

-- entry i of the row that count i names
rows_of_counts : mode_row (2 ∷ 1 ∷ 0 ∷ 5 ∷ []) ≡ 135 ∷ 18 ∷ 1 ∷ 28 ∷ []
unfolding listed_from vector_mode_probabilities_of
rows_of_counts = refl
