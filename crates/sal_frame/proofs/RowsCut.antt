-- The rows of a plane that is cut, one after the other.
use Rattle.std.proofs.Common.{◌≡◌, ℕ, suc, ◌+◌, ◌-◌, ◌*◌, ◌<◌, ◌≤◌, length, List, [], ◌++◌, sym, ◌∙◌, subst, arith, append_assoc, slice_range, drop}
use Rattle.std.proofs.lemmas.List.{append-nil, length-append, length-take-le, length-drop}
use Rattle.std.proofs.lemmas.Nat.{mul-le}
use Rattle.sal_base.specs.Samples.{rows_cut}

module _ (stride columns : ℕ) (from all : List ℕ) where
  abbrev pub Onward : List ℕ → ℕ → ℕ → Type 0
  Onward done row n = done ++ rows_cut stride columns row n from ≡ all

  -- one row more
  one_row : (row n : ℕ) (done : List ℕ) → Onward done row (suc n) → Onward (done ++ slice_range from (row * stride) (row * stride + columns)) (row + 1) n
  unfolding rows_cut
  one_row row n done h = append_assoc done (slice_range from (row * stride) (row * stride + columns)) (rows_cut stride columns (row + 1) n from) ∙ h

  pub next_row : (row height : ℕ) (done : List ℕ) → row < height → Onward done row (height - row) → Onward (done ++ slice_range from (row * stride) (row * stride + columns)) (row + 1) (height - (row + 1))
  next_row row height done below h =
      let n : height - row ≡ suc (height - (row + 1)) = omega arith in
      one_row row (height - (row + 1)) done (subst (λ k. Onward done row k) n h)

  -- no row is left
  pub no_row : (height : ℕ) (done : List ℕ) → Onward done height (height - height) → done ≡ all
  unfolding rows_cut
  no_row height done h =
      let n : height - height ≡ 0 = omega arith in
      sym (append-nil done) ∙ subst (λ k. Onward done height k) n h

-- n samples from a place on
slice_long : (at n : ℕ) (xs : List ℕ) → at + n ≤ length xs → length (slice_range xs at (at + n)) ≡ n
slice_long at n xs within =
    let d : length (drop at xs) ≡ length xs - at = length-drop at xs in
    let e : at + n - at ≡ n = omega arith in
    length-take-le (at + n - at) (drop at xs) (rw (d, e) (omega (arith, within))) ∙ e

-- with one row more there are its samples more
pub longer : (row width columns height : ℕ) (done from : List ℕ) → row < height → columns ≤ width → length from ≡ width * height → length done ≡ row * columns → length (done ++ slice_range from (row * width) (row * width + columns)) ≡ (row + 1) * columns
longer row width columns height done from below le long so_far =
    let m : (row + 1) * width ≤ height * width = mul-le (row + 1) width height width (omega (arith, below)) (omega arith) in
    let within : row * width + columns ≤ length from = grind (arith, m, le, long) in
    length-append done (slice_range from (row * width) (row * width + columns)) ∙ grind (arith, so_far, slice_long (row * width) columns from within)
