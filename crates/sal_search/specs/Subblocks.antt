-- The subblocks of a macroblock in mode B: each has the first mode of least cost, on the samples built so far.
use Rattle.std.specs.Prelude.{ℕ, suc, zero, ◌+◌, ◌*◌, ◌/◌, ◌%◌, ℤ, pos, ◌+ℤ◌, ◌-ℤ◌, List, [], ◌∷◌, replicate, slice_set, slice_index, slice_index_or}
use Rattle.sal_base.specs.Samples.{clamped, listed, block_of, square_put}
use Rattle.sal_base.specs.declared.kinds.SubMode.{SubMode}
use Rattle.sal_base.specs.declared.kinds.SubMode.TheVariants.{BDC, BTM, BVE, BHE, BLD, BRD, BVR, BVL, BHD, BHU}
use Rattle.sal_intra.specs.declared.edge.LumaEdge.{LumaEdge}
use Rattle.sal_intra.specs.declared.edge.SubEdge.{SubEdge}
use Rattle.sal_intra.specs.Edges.{sample_at, sub_edge_of}
use Rattle.sal_intra.specs.Sub.{sub_sample}
use Rattle.sal_transform.specs.Factors.{Factors}
use Rattle.sal_transform.specs.Forward.{forward_of, quantised}
use Rattle.sal_transform.specs.Residue.{residue_of}
use Rattle.sal_search.specs.declared.subblocks.Subblocks.{Subblocks}
use Rattle.sal_search.specs.Costs.{sad, Candidate, candidate, first_least}

-- the subblock of a macroblock's samples at column x, row y
abbrev pub sub_square : List ℕ → ℕ → ℕ → List ℕ
sub_square samples x y = block_of 4 16 (λ row column. sample_at 16 samples (x + column) (y + row))

-- samples by mode
abbrev pub sub_predicted : SubMode → SubEdge → List ℕ
sub_predicted m around = block_of 4 16 (sub_sample m around)

-- a mode with its sum of differences
abbrev pub sub_candidate : List ℕ → SubEdge → SubMode → Candidate SubMode
sub_candidate wanted around m = candidate m (sad wanted (sub_predicted m around))

-- all modes in their order
abbrev pub best_sub : List ℕ → SubEdge → Candidate SubMode
best_sub wanted around =
    let of_mode = sub_candidate wanted around in
    first_least (of_mode BDC) (of_mode BTM ∷ of_mode BVE ∷ of_mode BHE ∷ of_mode BLD ∷ of_mode BRD ∷ of_mode BVR ∷ of_mode BVL ∷ of_mode BHD ∷ of_mode BHU ∷ [])

-- sixteen samples less their prediction
abbrev pub differences : List ℕ → List ℕ → List ℤ
differences wanted predicted = listed 16 (λ k. pos (slice_index wanted k) -ℤ pos (slice_index predicted k))

-- sixteen samples out of their prediction and their residues, cut off at 0 and at 255
abbrev pub sums : List ℕ → List ℤ → List ℕ
sums predicted residues = listed 16 (λ k. clamped (pos (slice_index predicted k) +ℤ slice_index_or residues k (pos 0)))

-- the coefficients of a subblock, by a macroblock's factors
abbrev pub sub_coefficients : Factors → List ℕ → List ℕ → List ℤ
sub_coefficients s wanted predicted = quantised (forward_of (differences wanted predicted)) (pos s.y_dc) (pos s.y_ac)

-- what a decoder makes of them
abbrev pub sub_rebuilt : Factors → List ℕ → List ℕ → List ℕ
sub_rebuilt s wanted predicted = sums predicted (residue_of (sub_coefficients s wanted predicted) (pos s.y_dc) (pos s.y_ac))

-- subblock n, after those before it
unfoldable pub sub_added : List ℕ → LumaEdge → Factors → ℕ → Subblocks → Subblocks
sub_added samples e s n before =
    let x = 4 * (n % 4) in
    let y = 4 * (n / 4) in
    let wanted = sub_square samples x y in
    let around = sub_edge_of e before.built x y in
    let best = best_sub wanted around in
    let predicted = sub_predicted best.choice around in
    record {
      built = square_put 16 x y 4 (sub_rebuilt s wanted predicted) before.built;
      modes = slice_set before.modes n best.choice;
      coefficients = slice_set before.coefficients n (sub_coefficients s wanted predicted);
      cost = before.cost + best.cost;
    }

abbrev pub no_subblocks : Subblocks
no_subblocks = record { built = replicate 256 0; modes = replicate 16 BDC; coefficients = replicate 16 (replicate 16 (pos 0)); cost = 0 }

-- the first n subblocks of a macroblock, in raster order
unfoldable pub subblocks : List ℕ → LumaEdge → Factors → ℕ → Subblocks
subblocks samples e s zero = no_subblocks
subblocks samples e s (suc n) = sub_added samples e s n (subblocks samples e s n)
