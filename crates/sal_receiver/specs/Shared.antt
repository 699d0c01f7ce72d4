-- Several shares of one state.
use Rattle.std.specs.Prelude.{◌≡◌, ℕ, List}
use Rattle.std.specs.Arc.{arc_value}
use Rattle.std.specs.declared.sync.Arc.{Arc}
use Rattle.sal_base.specs.Lists.{Each}

-- the state, and how many shares there are besides the first
pub record Shared (S : Type 0) : Type 0 where
  pub state : S
  pub others : ℕ

-- each of these is a share of the state
abbrev pub AreOf : {S Z : Type 0} → S → List (Arc S Z) → Type 0
AreOf state shares = Each (λ share. arc_value share ≡ state) shares
