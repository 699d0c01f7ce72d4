use Rattle.std.proofs.Common.{refl, ◌∙◌, sym}
use Rattle.sal_filter.proofs.Planes.{mb_simple, mb_normal}
use Rattle.sal_filter.proofs.picture.filter_macroblock.Goals as goal

pub returns-then-is_simple-clause-value : goal.returns-then-is_simple-clause-value
returns-then-is_simple-clause-value c = mb_simple _ _ _ _ _ _ _ _ _ _ c.if-is_simple.true c.edge_of-outer.ensures c.edge_of-inner.ensures refl c.filter_plane.ensures.value

pub returns-clause-value : goal.returns-clause-value
returns-clause-value c = mb_normal _ _ _ _ _ _ _ _ _ _ _ _ _ c.if-is_simple.false c.edge_of-outer.ensures c.edge_of-inner.ensures refl refl (c.requires.sides.v.width ∙ sym c.requires.sides.u.width) c.filter_plane.ensures.value c.filter_plane-2.ensures.value c.filter_plane-3.ensures.value
