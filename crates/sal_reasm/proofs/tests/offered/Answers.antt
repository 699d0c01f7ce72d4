use Rattle.std.proofs.Common.{refl, arith}
use Rattle.sal_wire.specs.Layout.{name_bytes}
use Rattle.sal_reasm.proofs.tests.offered.Goals as goal

pub offer-requires : goal.offer-requires
unfolding name_bytes
offer-requires c = record {
  serial = omega arith;
  number = omega (arith, c.if-case-eq0.false, c.if-case.false);
  number_below = c.if-case-gt1048575.false;
  floor = omega (arith, c.if-case-eq0.false);
  floor_below = c.if-case.false;
  window = omega (arith, c.if-case-gt15.false);
  source = refl;
  target = refl;
  count = omega (arith, c.if-case-2.false);
  count_below = c.if-case-gt4096.false;
  index = c.if-case-2.false;
  wide = omega arith;
  not_wider = omega arith;
  high = omega arith;
  not_higher = omega arith;
  pictures = omega arith;
  seconds = omega arith;
  some = omega (arith, c.if-length-eq0.false);
  short = c.if-length-gt1200.false;
  whole = c.fits_place.ensures c.if-not-fits_place.false;
}
