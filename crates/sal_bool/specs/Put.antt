-- Pairs that an encoder was given, of which want of memory left some out.
use Rattle.std.specs.Prelude.{◌≡◌, ℕ, ◌∷◌, ◌++◌, Bool}
use Rattle.sal_bool.specs.Bits.{Interval}
use Rattle.sal_bool.specs.Written.{steps}
use Rattle.sal_bool.specs.Pairs.{Pairs}

-- some of these pairs were put, from the first on, and the next one wasn't
pub record PutSome (i : Interval) (qs : Pairs) (j : Interval) : Type 0 where
  pub front : Pairs
  pub next : ℕ × Bool
  pub later : Pairs
  pub all : qs ≡ front ++ next ∷ later
  pub puts : j ≡ steps i front
