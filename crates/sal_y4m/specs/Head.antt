-- What a head may say.
use Rattle.std.specs.Prelude.{◌≤◌}
use Rattle.sal_base.specs.Picture.{AreSides}
use Rattle.sal_y4m.specs.declared.head.Head.{Head}

-- the sides are within the limits, and the rate has no zero
pub record IsHead (head : Head) : Type 0 where
  pub sides : AreSides head.width head.height
  pub pictures : 1 ≤ head.rate.0
  pub seconds : 1 ≤ head.rate.1
