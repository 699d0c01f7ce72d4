-- How a history without names is stored: entries, each with the count of Voids after it, and the count of those before the first.
use Rattle.std.specs.Prelude.{ℕ, zero, suc, List, [], ◌∷◌, Option, Some, None}
use Rattle.sal_desk.specs.declared.history.Stored.{Stored}
use Rattle.sal_desk.specs.declared.history.Log.{Log}

module _ {E : Type 0} where
  -- so many Voids, and then the rest
  abbrev pub voids : ℕ → List (Option E) → List (Option E)
  voids zero rest = rest
  voids (suc n) rest = None ∷ voids n rest

  -- the items that are stored
  abbrev pub unpacked : ℕ → List (Stored E) → List (Option E)
  unpacked before [] = voids before []
  unpacked before (s ∷ ss) = voids before (Some s.entry ∷ unpacked s.voids ss)

  abbrev pub items_of : Log E → List (Option E)
  items_of log = unpacked log.before log.stored.items

  -- the entries of a history without names, in order
  abbrev pub present : List (Option E) → List E
  present [] = []
  present (Some e ∷ items) = e ∷ present items
  present (None ∷ items) = present items
