-- Bits written and read, and the ways to the leaves of every tree, computed.
use Rattle.std.proofs.Common.{◌≡◌, ℕ, List, [], ◌∷◌, Bool, true, false, refl, length, replicate, is_some}
use Rattle.std.specs.List.{list_all}
use Rattle.sal_tables.specs.declared.tree.Entry.{Entry}
use Rattle.sal_tables.specs.Trees.{segment_entries, key_y_entries, inter_y_entries, chroma_entries, subblock_entries, vector_mode_entries, split_entries, sub_vector_entries, short_vector_entries, token_entries}
use Rattle.sal_bool.specs.Bits.{start, widen, next}
use Rattle.sal_bool.specs.Written.{steps, written}
use Rattle.sal_bool.specs.Syntax.{read, number}
use Rattle.sal_bool.specs.Pairs.{pair, way}

one_zero : written (steps start (pair 128 false ∷ [])) ≡ 0x00 ∷ 0x00 ∷ []
unfolding written widen next
one_zero = refl

one_one : written (steps start (pair 128 true ∷ [])) ≡ 0x80 ∷ 0x00 ∷ []
unfolding written widen next
one_one = refl

-- past the end zeros are read
past_end : (read (0xa7 ∷ []) start (number (replicate 20 117) 0)).0 ≡ (read (0xa7 ∷ 0 ∷ 0 ∷ 0 ∷ 0 ∷ 0 ∷ []) start (number (replicate 20 117) 0)).0
unfolding read number widen next
past_end = refl

-- after a first byte 255 every bit is 1
above_all : (read (0xff ∷ 0x00 ∷ 0x7f ∷ []) start (number (1 ∷ 200 ∷ 255 ∷ 0 ∷ 128 ∷ 128 ∷ 17 ∷ 255 ∷ []) 0)).0 ≡ 255
unfolding read number widen next
above_all = refl

all_have_ways : List Entry → List ℕ → Bool
all_have_ways es leaves = list_all (λ (l : ℕ). is_some (way (length es) es 0 l)) leaves

segment_ways : all_have_ways segment_entries (0 ∷ 1 ∷ 2 ∷ 3 ∷ []) ≡ true
unfolding all_have_ways segment_entries way
segment_ways = refl

key_y_ways : all_have_ways key_y_entries (0 ∷ 1 ∷ 2 ∷ 3 ∷ 4 ∷ []) ≡ true
unfolding all_have_ways key_y_entries way
key_y_ways = refl

inter_y_ways : all_have_ways inter_y_entries (0 ∷ 1 ∷ 2 ∷ 3 ∷ 4 ∷ []) ≡ true
unfolding all_have_ways inter_y_entries way
inter_y_ways = refl

chroma_ways : all_have_ways chroma_entries (0 ∷ 1 ∷ 2 ∷ 3 ∷ []) ≡ true
unfolding all_have_ways chroma_entries way
chroma_ways = refl

subblock_ways : all_have_ways subblock_entries (0 ∷ 1 ∷ 2 ∷ 3 ∷ 4 ∷ 5 ∷ 6 ∷ 7 ∷ 8 ∷ 9 ∷ []) ≡ true
unfolding all_have_ways subblock_entries way
subblock_ways = refl

vector_mode_ways : all_have_ways vector_mode_entries (0 ∷ 1 ∷ 2 ∷ 3 ∷ 4 ∷ []) ≡ true
unfolding all_have_ways vector_mode_entries way
vector_mode_ways = refl

split_ways : all_have_ways split_entries (0 ∷ 1 ∷ 2 ∷ 3 ∷ []) ≡ true
unfolding all_have_ways split_entries way
split_ways = refl

sub_vector_ways : all_have_ways sub_vector_entries (0 ∷ 1 ∷ 2 ∷ 3 ∷ []) ≡ true
unfolding all_have_ways sub_vector_entries way
sub_vector_ways = refl

short_vector_ways : all_have_ways short_vector_entries (0 ∷ 1 ∷ 2 ∷ 3 ∷ 4 ∷ 5 ∷ 6 ∷ 7 ∷ []) ≡ true
unfolding all_have_ways short_vector_entries way
short_vector_ways = refl

token_ways : all_have_ways token_entries (0 ∷ 1 ∷ 2 ∷ 3 ∷ 4 ∷ 5 ∷ 6 ∷ 7 ∷ 8 ∷ 9 ∷ 10 ∷ 11 ∷ []) ≡ true
unfolding all_have_ways token_entries way
token_ways = refl
