-- A picture filtered edge by edge, macroblocks in raster order (RFC 6386, 15).
use Rattle.std.specs.Prelude.{ℕ, suc, zero, ◌+◌, ◌-◌, ◌*◌, ◌/◌, ◌%◌, ℤ, pos, ◌+ℤ◌, ◌-ℤ◌, List, [], ◌∷◌, Bool, true, false, if◌then◌else◌, ◌==◌, nat_lt, unsigned_abs, slice_index, slice_set}
use Rattle.sal_base.specs.declared.picture.Plane.{Plane}
use Rattle.sal_base.specs.declared.picture.Planes.{Planes}
use Rattle.sal_filter.specs.declared.head.FilterHead.{FilterHead}
use Rattle.sal_filter.specs.declared.head.MbInfo.{MbInfo}
use Rattle.sal_filter.specs.declared.limits.Limits.{Limits}
use Rattle.sal_filter.specs.Limits.{level_of, limits_of}
use Rattle.sal_filter.specs.declared.across.Across.{Across}
use Rattle.sal_filter.specs.declared.edge.Edge.{Edge}
use Rattle.sal_filter.specs.declared.edge.Sort.TheVariants.{Simple, Inner, Outer}
use Rattle.sal_filter.specs.Edges.{place_filtered}

-- a sample less 128, and back
abbrev pub less_128 : List ℕ → ℕ → ℤ
less_128 samples at = pos (slice_index samples at) -ℤ pos 128

abbrev pub plus_128 : ℤ → ℕ
plus_128 x = unsigned_abs (x +ℤ pos 128)

-- the samples around the edge before place at, step by step
abbrev pub across : List ℕ → ℕ → ℕ → Across
across xs at step =
    record {
      p3 = less_128 xs (at - 4 * step);
      p2 = less_128 xs (at - 3 * step);
      p1 = less_128 xs (at - 2 * step);
      p0 = less_128 xs (at - step);
      q0 = less_128 xs at;
      q1 = less_128 xs (at + step);
      q2 = less_128 xs (at + 2 * step);
      q3 = less_128 xs (at + 3 * step);
    }

-- no filter moves the outermost two
abbrev pub across_put : ℕ → ℕ → Across → List ℕ → List ℕ
across_put at step a xs =
    slice_set (slice_set (slice_set (slice_set (slice_set (slice_set xs
    (at - 3 * step) (plus_128 a.p2)) (at - 2 * step) (plus_128 a.p1)) (at - step) (plus_128 a.p0))
    at (plus_128 a.q0)) (at + step) (plus_128 a.q1)) (at + 2 * step) (plus_128 a.q2)

-- one place of an edge
unfoldable pub place_put : Edge → ℕ → ℕ → List ℕ → List ℕ
place_put e at step xs = across_put at step (place_filtered e.sort e.limit e.interior e.threshold (across xs at step)) xs

-- n places of an edge, each further along
unfoldable pub edge_filtered : Edge → ℕ → ℕ → ℕ → ℕ → List ℕ → List ℕ
edge_filtered e at step along zero xs = xs
edge_filtered e at step along (suc n) xs = place_put e (at + n * along) step (edge_filtered e at step along n xs)

-- between macroblocks or within one
abbrev pub edge_of : Bool → Bool → Limits → Edge
edge_of is_simple is_outer l =
    record { sort = if is_simple then Simple else (if is_outer then Outer else Inner); limit = if is_outer then l.outer else l.inner; interior = l.interior; threshold = l.threshold }

-- the vertical edge this far into a block of this side whose first sample is at column x, row y
abbrev pub vertical : Edge → ℕ → ℕ → ℕ → ℕ → Plane → Plane
vertical e side x y offset p = record p { samples = edge_filtered e (y * p.width + x + offset) 1 p.width side p.samples }

-- the horizontal edge this far down
abbrev pub horizontal : Edge → ℕ → ℕ → ℕ → ℕ → Plane → Plane
horizontal e side x y offset p = record p { samples = edge_filtered e ((y + offset) * p.width + x) p.width 1 side p.samples }

-- f on each plane; the simple filter does luma alone
abbrev pub on_planes : Bool → (Plane → Plane) → (Plane → Plane) → Planes → Planes
on_planes is_simple luma chroma p = if is_simple then record p { y = luma p.y } else record { y = luma p.y; u = chroma p.u; v = chroma p.v }

-- f where b
abbrev pub on : Bool → (Planes → Planes) → Planes → Planes
on b f p = if b then f p else p

-- left edge, inner vertical edges, top edge, inner horizontal edges, in a macroblock at this column and row
unfoldable pub mb_filtered : Bool → Limits → Bool → ℕ → ℕ → Planes → Planes
mb_filtered is_simple l within column row p =
    let o = edge_of is_simple true l in
    let i = edge_of is_simple false l in
    let x = 16 * column in
    let y = 16 * row in
    let left = on (nat_lt 0 column) (on_planes is_simple (vertical o 16 x y 0) (vertical o 8 (8 * column) (8 * row) 0)) p in
    let upright = on within (on_planes is_simple (λ q. vertical i 16 x y 12 (vertical i 16 x y 8 (vertical i 16 x y 4 q))) (vertical i 8 (8 * column) (8 * row) 4)) left in
    let top = on (nat_lt 0 row) (on_planes is_simple (horizontal o 16 x y 0) (horizontal o 8 (8 * column) (8 * row) 0)) upright in
    on within (on_planes is_simple (λ q. horizontal i 16 x y 12 (horizontal i 16 x y 8 (horizontal i 16 x y 4 q))) (horizontal i 8 (8 * column) (8 * row) 4)) top

-- the macroblock at this column and row; none of its edges where its level is 0
abbrev pub info_filtered : FilterHead → ℕ → ℕ → MbInfo → Planes → Planes
info_filtered h column row m p =
    if level_of h m.mode == 0 then p
    else mb_filtered h.simple (limits_of h.key h.sharpness (level_of h m.mode)) m.inner column row p

-- the macroblocks from the k-th on, in raster order
unfoldable pub all_filtered : FilterHead → ℕ → ℕ → List MbInfo → Planes → Planes
all_filtered h columns k [] p = p
all_filtered h columns k (m ∷ ms) p = all_filtered h columns (k + 1) ms (info_filtered h (k % columns) (k / columns) m p)

-- a picture of whole macroblocks; nothing where the header's level is 0
unfoldable pub filtered : FilterHead → List MbInfo → Planes → Planes
filtered h infos p = if h.level == 0 then p else all_filtered h (p.y.width / 16) 0 infos p
