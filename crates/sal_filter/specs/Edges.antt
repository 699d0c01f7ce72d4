-- The filters of one place of an edge, on the four samples before it and the four after it (RFC 6386, 15.2 and 15.3).
use Rattle.std.specs.Prelude.{ℕ, ◌+◌, ◌*◌, ◌/◌, ℤ, pos, neg_ℤ, ◌+ℤ◌, ◌-ℤ◌, ◌*ℤ◌, Bool, ◌&&◌, ◌||◌, if◌then◌else◌, nat_le, nat_lt, unsigned_abs, ◌≤ℤ◌}
use Rattle.sal_filter.specs.declared.across.Across.{Across}
use Rattle.sal_filter.specs.declared.edge.Sort.{Sort}
use Rattle.sal_filter.specs.declared.edge.Sort.TheVariants.{Simple, Inner, Outer}
use Rattle.std.specs.Int.{int_min, int_max, int_shr}

-- a sample less 128
abbrev pub IsSigned : ℤ → Type 0
IsSigned x = (neg_ℤ (pos 128) ≤ℤ x) × (x ≤ℤ pos 127)

-- the same of all eight samples
pub record AreSigned (a : Across) : Type 0 where
  pub p3 : IsSigned a.p3
  pub p2 : IsSigned a.p2
  pub p1 : IsSigned a.p1
  pub p0 : IsSigned a.p0
  pub q0 : IsSigned a.q0
  pub q1 : IsSigned a.q1
  pub q2 : IsSigned a.q2
  pub q3 : IsSigned a.q3

-- cut off to a signed byte (c)
abbrev pub signed_clamp : ℤ → ℤ
signed_clamp x = int_min (pos 127) (int_max (neg_ℤ (pos 128)) x)

-- how far two samples are apart
abbrev pub distance : ℤ → ℤ → ℕ
distance x y = unsigned_abs (x -ℤ y)

-- an edge is filtered only where the step across it is small
abbrev pub is_near : ℕ → Across → Bool
is_near limit a = nat_le (2 * distance a.p0 a.q0 + distance a.p1 a.q1 / 2) limit

-- and, but for the simple filter, neighbours on each side differ little
abbrev pub is_even : ℕ → ℤ → ℤ → ℤ → ℤ → Bool
is_even limit x3 x2 x1 x0 = nat_le (distance x3 x2) limit && nat_le (distance x2 x1) limit && nat_le (distance x1 x0) limit

abbrev pub is_smooth : ℕ → Across → Bool
is_smooth limit a = is_even limit a.p3 a.p2 a.p1 a.p0 && is_even limit a.q3 a.q2 a.q1 a.q0

-- high edge variance (hev)
abbrev pub has_high_variance : ℕ → Across → Bool
has_high_variance threshold a = nat_lt threshold (distance a.p1 a.p0) || nat_lt threshold (distance a.q1 a.q0)

-- what is taken from the sample after the edge, q0, and what is added to the one before it, p0 (common_adjust)
unfoldable pub q0_adjustment : ℤ → ℤ
q0_adjustment x = int_shr (signed_clamp (x +ℤ pos 4)) 3

unfoldable pub p0_adjustment : ℤ → ℤ
p0_adjustment x = int_shr (signed_clamp (x +ℤ pos 3)) 3

-- the two nearest samples moved
abbrev pub common : ℤ → Across → Across
common x a = record a { q0 = signed_clamp (a.q0 -ℤ q0_adjustment x); p0 = signed_clamp (a.p0 +ℤ p0_adjustment x) }

-- an adjustment by three times the step across the edge
abbrev pub step : ℤ → Across → ℤ
step outer a = signed_clamp (outer +ℤ pos 3 *ℤ (a.q0 -ℤ a.p0))

-- the simple filter (15.2)
unfoldable pub simple : Across → Across
simple a = common (step (signed_clamp (a.p1 -ℤ a.q1)) a) a

-- what is taken from q1 and added to p1: half of what is taken from q0, rounded up
unfoldable pub q1_adjustment : ℤ → ℤ
q1_adjustment x = int_shr (q0_adjustment x +ℤ pos 1) 1

abbrev pub inner_step : Bool → Across → ℤ
inner_step high_variance a = step (if high_variance then signed_clamp (a.p1 -ℤ a.q1) else pos 0) a

-- within a macroblock: without high variance the next two samples move by half as much
unfoldable pub inner : Bool → Across → Across
inner high_variance a =
    let x = inner_step high_variance a in
    let moved = common x a in
    if high_variance then moved else record moved { q1 = signed_clamp (a.q1 -ℤ q1_adjustment x); p1 = signed_clamp (a.p1 +ℤ q1_adjustment x) }

-- k parts in 128, rounded
unfoldable pub part : ℕ → ℤ → ℤ
part k w = signed_clamp (int_shr ((pos k *ℤ w) +ℤ pos 63) 7)

-- between macroblocks: without high variance three samples on each side move
unfoldable pub outer : Bool → Across → Across
outer high_variance a =
    let w = step (signed_clamp (a.p1 -ℤ a.q1)) a in
    if high_variance then common w a
    else record a {
      q0 = signed_clamp (a.q0 -ℤ part 27 w);
      p0 = signed_clamp (a.p0 +ℤ part 27 w);
      q1 = signed_clamp (a.q1 -ℤ part 18 w);
      p1 = signed_clamp (a.p1 +ℤ part 18 w);
      q2 = signed_clamp (a.q2 -ℤ part 9 w);
      p2 = signed_clamp (a.p2 +ℤ part 9 w);
    }

-- one place, by the limits of its macroblock
unfoldable pub place_filtered : Sort → ℕ → ℕ → ℕ → Across → Across
place_filtered Simple edge interior threshold a = if is_near edge a then simple a else a
place_filtered Inner edge interior threshold a = if is_near edge a && is_smooth interior a then inner (has_high_variance threshold a) a else a
place_filtered Outer edge interior threshold a = if is_near edge a && is_smooth interior a then outer (has_high_variance threshold a) a else a
