-- Shares of one state.
use Rattle.std.proofs.Common.{◌≡◌, List, [], ◌∷◌, ◌++◌, sym, subst}
use Rattle.std.specs.Arc.{arc_value}
use Rattle.std.specs.declared.sync.Arc.{Arc}
use Rattle.sal_receiver.specs.Shared.{AreOf}

module _ {S Z : Type 0} where
  pub are_push : (state : S) (xs : List (Arc S Z)) (y : Arc S Z) → AreOf state xs → arc_value y ≡ state → AreOf state (xs ++ y ∷ [])
  are_push state [] y h e = (e, tt)
  are_push state (x ∷ xs) y h e = (h.0, are_push state xs y h.1 e)

  pub are_more : (state : S) (xs ys : List (Arc S Z)) (y : Arc S Z) → ys ≡ xs ++ y ∷ [] → AreOf state xs → arc_value y ≡ state → AreOf state ys
  are_more state xs ys y is h e = subst (λ (zs : List (Arc S Z)). AreOf state zs) (sym is) (are_push state xs y h e)
