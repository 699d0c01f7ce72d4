-- One place of an edge and many.
use Rattle.std.proofs.Common.{subst, ◌≡◌, ◌∙◌, ap, refl, sym, arith, ℕ, zero, suc, ◌+◌, ◌*◌, Bool, true, false, ◌&&◌, cond, List, length, add-one, ℤ, ◌+ℤ◌, ◌-ℤ◌}
use Rattle.std.proofs.lemmas.Int.{ints, clamps}
use Rattle.std.proofs.lemmas.List.{length-set}
use Rattle.sal_filter.specs.declared.across.Across.{Across}
use Rattle.sal_filter.specs.declared.edge.Edge.{Edge}
use Rattle.sal_filter.specs.declared.edge.Sort.{Sort}
use Rattle.sal_filter.specs.declared.edge.Sort.TheVariants.{Simple, Inner, Outer}
use Rattle.sal_filter.specs.Edges.{AreSigned, IsSigned, signed_clamp, is_near, is_smooth, has_high_variance, place_filtered, simple, inner, outer, step, inner_step, q0_adjustment, p0_adjustment, q1_adjustment, part}
use Rattle.sal_filter.specs.Filtered.{across, across_put, place_put, edge_filtered}
use Rattle.sal_filter.specs.Lanes.{edge_place}

cut_signed : (x : ℤ) → IsSigned (signed_clamp x)
cut_signed x = (omega (arith, ints, clamps), omega (arith, ints, clamps))

pub simple_signed : (a : Across) → AreSigned a → AreSigned (simple a)
unfolding simple
simple_signed a h =
    let w = step (signed_clamp (a.p1 -ℤ a.q1)) a in
    record { p3 = h.p3; p2 = h.p2; p1 = h.p1; p0 = cut_signed (a.p0 +ℤ p0_adjustment w); q0 = cut_signed (a.q0 -ℤ q0_adjustment w); q1 = h.q1; q2 = h.q2; q3 = h.q3 }

pub inner_signed : (high_variance : Bool) (a : Across) → AreSigned a → AreSigned (inner high_variance a)
unfolding inner
inner_signed true a h =
    let w = inner_step true a in
    record { p3 = h.p3; p2 = h.p2; p1 = h.p1; p0 = cut_signed (a.p0 +ℤ p0_adjustment w); q0 = cut_signed (a.q0 -ℤ q0_adjustment w); q1 = h.q1; q2 = h.q2; q3 = h.q3 }
inner_signed false a h =
    let w = inner_step false a in
    record { p3 = h.p3; p2 = h.p2; p1 = cut_signed (a.p1 +ℤ q1_adjustment w); p0 = cut_signed (a.p0 +ℤ p0_adjustment w); q0 = cut_signed (a.q0 -ℤ q0_adjustment w); q1 = cut_signed (a.q1 -ℤ q1_adjustment w); q2 = h.q2; q3 = h.q3 }

pub outer_signed : (high_variance : Bool) (a : Across) → AreSigned a → AreSigned (outer high_variance a)
unfolding outer
outer_signed true a h =
    let w = step (signed_clamp (a.p1 -ℤ a.q1)) a in
    record { p3 = h.p3; p2 = h.p2; p1 = h.p1; p0 = cut_signed (a.p0 +ℤ p0_adjustment w); q0 = cut_signed (a.q0 -ℤ q0_adjustment w); q1 = h.q1; q2 = h.q2; q3 = h.q3 }
outer_signed false a h =
    let w = step (signed_clamp (a.p1 -ℤ a.q1)) a in
    record { p3 = h.p3; p2 = cut_signed (a.p2 +ℤ part 9 w); p1 = cut_signed (a.p1 +ℤ part 18 w); p0 = cut_signed (a.p0 +ℤ part 27 w); q0 = cut_signed (a.q0 -ℤ part 27 w); q1 = cut_signed (a.q1 -ℤ part 18 w); q2 = cut_signed (a.q2 -ℤ part 9 w); q3 = h.q3 }

by_simple : (t : Sort) (l i h : ℕ) (a : Across) (b : Bool) → t ≡ Simple → b ≡ is_near l a → place_filtered t l i h a ≡ cond b (simple a) a
unfolding place_filtered
by_simple t l i h a b e f = rw (e, f) refl

by_inner : (t : Sort) (l i h : ℕ) (a : Across) (b : Bool) → t ≡ Inner → b ≡ (is_near l a && is_smooth i a) → place_filtered t l i h a ≡ cond b (inner (has_high_variance h a) a) a
unfolding place_filtered
by_inner t l i h a b e f = rw (e, f) refl

by_outer : (t : Sort) (l i h : ℕ) (a : Across) (b : Bool) → t ≡ Outer → b ≡ (is_near l a && is_smooth i a) → place_filtered t l i h a ≡ cond b (outer (has_high_variance h a) a) a
unfolding place_filtered
by_outer t l i h a b e f = rw (e, f) refl

chosen : (b c : Bool) (x y : Across) → b ≡ c → cond b x y ≡ cond c x y
chosen b c x y e = ap (λ (t : Bool). cond t x y) e

-- one place by each filter
pub simple_left : (e : Edge) (a : Across) (b : Bool) → e.sort ≡ Simple → b ≡ is_near e.limit a → b ≡ false → a ≡ edge_place e a
simple_left e a b t n f = sym (by_simple e.sort e.limit e.interior e.threshold a b t n ∙ chosen b false _ _ f)

pub simple_done : (e : Edge) (a m : Across) (b : Bool) → e.sort ≡ Simple → b ≡ is_near e.limit a → b ≡ true → m ≡ simple a → m ≡ edge_place e a
simple_done e a m b t n f s = s ∙ sym (by_simple e.sort e.limit e.interior e.threshold a b t n ∙ chosen b true _ _ f)

pub inner_value : (e : Edge) (a m : Across) (b h : Bool) → e.sort ≡ Inner → b ≡ (is_near e.limit a && is_smooth e.interior a) → h ≡ has_high_variance e.threshold a → m ≡ cond b (inner h a) a → m ≡ edge_place e a
inner_value e a m b h t n v s = s ∙ (ap (λ (k : Bool). cond b (inner k a) a) v ∙ sym (by_inner e.sort e.limit e.interior e.threshold a b t n))

either_inner : (b h : Bool) (a : Across) → AreSigned a → AreSigned (cond b (inner h a) a)
either_inner true h a s = inner_signed h a s
either_inner false h a s = s

pub inner_stays : (b h : Bool) (a m : Across) → AreSigned a → m ≡ cond b (inner h a) a → AreSigned m
inner_stays b h a m s e = subst AreSigned (sym e) (either_inner b h a s)

pub outer_value : (e : Edge) (a m : Across) (b h : Bool) → e.sort ≡ Outer → b ≡ (is_near e.limit a && is_smooth e.interior a) → h ≡ has_high_variance e.threshold a → m ≡ cond b (outer h a) a → m ≡ edge_place e a
outer_value e a m b h t n v s = s ∙ (ap (λ (k : Bool). cond b (outer k a) a) v ∙ sym (by_outer e.sort e.limit e.interior e.threshold a b t n))

either_outer : (b h : Bool) (a : Across) → AreSigned a → AreSigned (cond b (outer h a) a)
either_outer true h a s = outer_signed h a s
either_outer false h a s = s

pub outer_stays : (b h : Bool) (a m : Across) → AreSigned a → m ≡ cond b (outer h a) a → AreSigned m
outer_stays b h a m s e = subst AreSigned (sym e) (either_outer b h a s)

-- one place in the samples
pub place_done : (e : Edge) (at step : ℕ) (xs ys : List ℕ) (a m : Across) → a ≡ across xs at step → m ≡ edge_place e a → ys ≡ across_put at step m xs → ys ≡ place_put e at step xs
unfolding place_put
place_done e at step xs ys a m r v p = p ∙ ap (λ (x : Across). across_put at step x xs) (v ∙ ap (edge_place e) r)

-- no place more, and one place more
pub edge_none : (e : Edge) (at step along : ℕ) (xs : List ℕ) → xs ≡ edge_filtered e at step along 0 xs
unfolding edge_filtered
edge_none e at step along xs = refl

pub edge_more : (e : Edge) (at step along n : ℕ) (start xs ys : List ℕ) → xs ≡ edge_filtered e at step along n start → ys ≡ place_put e (at + n * along) step xs → ys ≡ edge_filtered e at step along (n + 1) start
unfolding edge_filtered
edge_more e at step along n start xs ys h p = rw add-one (p ∙ ap (place_put e (at + n * along) step) h)

length_put : (at step : ℕ) (a : Across) (xs : List ℕ) → length (across_put at step a xs) ≡ length xs
length_put at step a xs = simp length-set

pub length_place : (e : Edge) (at step : ℕ) (xs : List ℕ) → length (place_put e at step xs) ≡ length xs
unfolding place_put
length_place e at step xs = length_put at step (place_filtered e.sort e.limit e.interior e.threshold (across xs at step)) xs

pub length_edge : (e : Edge) (at step along n : ℕ) (xs : List ℕ) → length (edge_filtered e at step along n xs) ≡ length xs
unfolding edge_filtered
length_edge e at step along zero xs = refl
length_edge e at step along (suc n) xs = length_place e (at + n * along) step (edge_filtered e at step along n xs) ∙ length_edge e at step along n xs
