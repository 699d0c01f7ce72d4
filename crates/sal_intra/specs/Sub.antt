-- The predicted sample of a subblock at one place (RFC 6386, 12.3).
use Rattle.std.specs.Prelude.{ℕ, ◌+◌, ◌-◌, ◌*◌, ◌/◌, min, List, [], ◌∷◌, sum, take, slice_index, if◌then◌else◌, Bool, true, false, nat_lt, ◌==◌}
use Rattle.sal_base.specs.declared.kinds.SubMode.{SubMode}
use Rattle.sal_base.specs.declared.kinds.SubMode.TheVariants.{BDC, BTM, BVE, BHE, BLD, BRD, BVR, BVL, BHD, BHU}
use Rattle.sal_intra.specs.declared.edge.SubEdge.{SubEdge}
use Rattle.sal_intra.specs.Intra.{true_motion}

-- the mean of two samples, and that of three of which the middle one counts twice
abbrev pub average_of_two : ℕ → ℕ → ℕ
average_of_two x y = (x + y + 1) / 2

abbrev pub average_of_three : ℕ → ℕ → ℕ → ℕ
average_of_three x y z = (x + 2 * y + z + 2) / 4

-- samples above and left; past the end the last one
abbrev pub sample_above : SubEdge → ℕ → ℕ
sample_above e i = slice_index e.above (min i 7)

abbrev pub sample_left : SubEdge → ℕ → ℕ
sample_left e i = slice_index e.left (min i 3)

-- the thirteen edge samples, from the lowest left one up to the corner, then to the right
abbrev pub edge_sample : SubEdge → ℕ → ℕ
edge_sample e i = if nat_lt i 4 then sample_left e (3 - i) else (if i == 4 then e.corner else sample_above e (i - 5))

-- means along a row of samples
abbrev pub averages_of_two : (ℕ → ℕ) → ℕ → ℕ
averages_of_two f i = average_of_two (f i) (f (i + 1))

abbrev pub averages_of_three : (ℕ → ℕ) → ℕ → ℕ
averages_of_three f i = average_of_three (f i) (f (i + 1)) (f (i + 2))

-- the mean of the edge around its sample i, and that of i and the next one
abbrev pub edge_average_of_three : SubEdge → ℕ → ℕ
edge_average_of_three e i = average_of_three (edge_sample e (i - 1)) (edge_sample e i) (edge_sample e (i + 1))

abbrev pub edge_average_of_two : SubEdge → ℕ → ℕ
edge_average_of_two e i = averages_of_two (edge_sample e) i

-- four rows of four samples, taken at a row and column
abbrev pub from_rows : List ℕ → ℕ → ℕ → ℕ
from_rows xs row column = slice_index xs (4 * row + column)

-- bVR
unfoldable pub right_rows : SubEdge → List ℕ
right_rows e =
    edge_average_of_two e 4 ∷ edge_average_of_two e 5 ∷ edge_average_of_two e 6 ∷ edge_average_of_two e 7
    ∷ edge_average_of_three e 4 ∷ edge_average_of_three e 5 ∷ edge_average_of_three e 6 ∷ edge_average_of_three e 7
    ∷ edge_average_of_three e 3 ∷ edge_average_of_two e 4 ∷ edge_average_of_two e 5 ∷ edge_average_of_two e 6
    ∷ edge_average_of_three e 2 ∷ edge_average_of_three e 4 ∷ edge_average_of_three e 5 ∷ edge_average_of_three e 6 ∷ []

-- bVL
unfoldable pub left_rows : SubEdge → List ℕ
left_rows e =
    averages_of_two (sample_above e) 0 ∷ averages_of_two (sample_above e) 1 ∷ averages_of_two (sample_above e) 2 ∷ averages_of_two (sample_above e) 3
    ∷ averages_of_three (sample_above e) 0 ∷ averages_of_three (sample_above e) 1 ∷ averages_of_three (sample_above e) 2 ∷ averages_of_three (sample_above e) 3
    ∷ averages_of_two (sample_above e) 1 ∷ averages_of_two (sample_above e) 2 ∷ averages_of_two (sample_above e) 3 ∷ averages_of_three (sample_above e) 4
    ∷ averages_of_three (sample_above e) 1 ∷ averages_of_three (sample_above e) 2 ∷ averages_of_three (sample_above e) 3 ∷ averages_of_three (sample_above e) 5 ∷ []

-- bHD
unfoldable pub down_rows : SubEdge → List ℕ
down_rows e =
    edge_average_of_two e 3 ∷ edge_average_of_three e 4 ∷ edge_average_of_three e 5 ∷ edge_average_of_three e 6
    ∷ edge_average_of_two e 2 ∷ edge_average_of_three e 3 ∷ edge_average_of_two e 3 ∷ edge_average_of_three e 4
    ∷ edge_average_of_two e 1 ∷ edge_average_of_three e 2 ∷ edge_average_of_two e 2 ∷ edge_average_of_three e 3
    ∷ edge_average_of_two e 0 ∷ edge_average_of_three e 1 ∷ edge_average_of_two e 1 ∷ edge_average_of_three e 2 ∷ []

-- bHU
unfoldable pub up_rows : SubEdge → List ℕ
up_rows e =
    averages_of_two (sample_left e) 0 ∷ averages_of_three (sample_left e) 0 ∷ averages_of_two (sample_left e) 1 ∷ averages_of_three (sample_left e) 1
    ∷ averages_of_two (sample_left e) 1 ∷ averages_of_three (sample_left e) 1 ∷ averages_of_two (sample_left e) 2 ∷ averages_of_three (sample_left e) 2
    ∷ averages_of_two (sample_left e) 2 ∷ averages_of_three (sample_left e) 2 ∷ sample_left e 3 ∷ sample_left e 3
    ∷ sample_left e 3 ∷ sample_left e 3 ∷ sample_left e 3 ∷ sample_left e 3 ∷ []

-- the modes whose sample is one formula of its row and column
abbrev pub is_by_formula : SubMode → Bool
is_by_formula BVR = false
is_by_formula BVL = false
is_by_formula BHD = false
is_by_formula BHU = false
is_by_formula _ = true

-- the sum of the nearest eight samples, an eighth
abbrev pub sub_average : SubEdge → ℕ
sub_average e = (sum (take 4 e.above) + sum e.left + 4) / 8

-- the sample at a row and column, by mode
unfoldable pub sub_sample : SubMode → SubEdge → ℕ → ℕ → ℕ
sub_sample BDC e row column = sub_average e
sub_sample BTM e row column = true_motion (sample_left e row) (sample_above e column) e.corner
sub_sample BVE e row column = edge_average_of_three e (5 + column)
sub_sample BHE e row column = average_of_three (edge_sample e (4 - row)) (sample_left e row) (sample_left e (row + 1))
sub_sample BLD e row column = averages_of_three (sample_above e) (row + column)
sub_sample BRD e row column = edge_average_of_three e ((4 - row) + column)
sub_sample BVR e row column = from_rows (right_rows e) row column
sub_sample BVL e row column = from_rows (left_rows e) row column
sub_sample BHD e row column = from_rows (down_rows e) row column
sub_sample BHU e row column = from_rows (up_rows e) row column
