use Rattle.std.proofs.Common.{◌≡◌, arith, pos, refl}
use Rattle.std.proofs.lemmas.Int.{ints}
use Rattle.sal_inter.proofs.Places.{as_index, index_of, window_starts}
use Rattle.sal_inter.proofs.block.first_in.Goals as goal

pub returns-clause-first : goal.returns-clause-first
returns-clause-first c = record {
  column = as_index c.args.across.start;
  row = as_index c.args.down.start;
  across_is = index_of c.args.across.start c.requires.columns.low c.requires.left;
  down_is = index_of c.args.down.start c.requires.rows.low c.requires.top;
  at_is = refl;
}

pub returns-clause-inside : goal.returns-clause-inside
returns-clause-inside c =
    let a = c.args in
    let x : a.across.start ≡ pos (as_index a.across.start) = index_of a.across.start c.requires.columns.low c.requires.left in
    let y : a.down.start ≡ pos (as_index a.down.start) = index_of a.down.start c.requires.rows.low c.requires.top in
    window_starts a.plane.now.width a.plane.now.height (as_index a.across.start) (as_index a.down.start) a.across.count a.down.count (omega (arith, ints)) (omega (arith, ints)) c.requires.some.1
