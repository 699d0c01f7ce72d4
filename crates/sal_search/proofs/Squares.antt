-- Squares of samples in flat planes.
use Rattle.std.proofs.Common.{◌≡◌, ℕ, ◌+◌, ◌*◌, List, refl, add-one, slice_range}
use borrow.Rule.Slice.PartMut.{put_mid}
use Rattle.sal_base.specs.Samples.{rows_put}

-- one row more
pub rows_more : (width x y side : ℕ) (block samples now ys : List ℕ) (row k : ℕ) → now ≡ rows_put width x y side block row samples → k ≡ side
    → ys ≡ slice_range block (side * row) (side * row + side) → put_mid ((y + row) * width + x) k now ys ≡ rows_put width x y side block (row + 1) samples
unfolding rows_put
rows_more width x y side block samples now ys row k h four e = rw (add-one, four, e, h) refl
