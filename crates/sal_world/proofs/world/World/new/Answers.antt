use Rattle.std.proofs.Common.{arith, refl}
use Rattle.sal_world.proofs.Stepping.{stands_new}
use Rattle.sal_world.proofs.world.World.new.Goals as goal

pub returns : goal.returns
returns g c = stands_new g.C.Codec.coding _ _ (record { number = omega arith; head = c.requires; pictures = c.rate_fits.ensures.pictures; seconds = c.rate_fits.ensures.seconds }) c.in_ok-new.ensures.session c.in_ok-new.ensures.stands c.in_ok-new-2.ensures c.new-4.ensures.items c.new-5.ensures.items refl
