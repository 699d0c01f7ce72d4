-- What a store holds: a floor, and the states at or above it.
use Rattle.std.specs.Prelude.{ℕ, suc, ◌+◌, ◌<◌, ◌≤◌, List, [], ◌∷◌, max}
use Rattle.sal_base.specs.declared.limits.TheConstants.{WINDOW}
use Rattle.sal_chain.specs.declared.stored_state.StoredState.{StoredState}
use Rattle.sal_chain.specs.Held.{not_below}

-- a floor, and the states at or above it in rising order of their frame numbers
pub record StateTable (T : Type 0) : Type 0 where
  pub floor : ℕ
  pub kept : List (StoredState T)

-- no states
abbrev pub empty_table : {T : Type 0} → StateTable T
empty_table = record { floor = 1; kept = [] }

-- a floor that is higher, and what stands at or above it; a lower one changes nothing
abbrev pub floor_raised : {T : Type 0} → ℕ → StateTable T → StateTable T
floor_raised floor s = record { floor = max s.floor floor; kept = not_below (max s.floor floor) s.kept }

-- numbers rise from at least this one, and stand below that one
abbrev pub Rises : {T : Type 0} → ℕ → ℕ → List (StoredState T) → Type 0
Rises least above [] = Unit {0}
Rises least above (k ∷ rest) = (least ≤ k.number) × (k.number < above) × Rises (suc k.number) above rest

-- numbers of the window from the floor on, each once
abbrev pub IsStateTable : {T : Type 0} → ℕ → List (StoredState T) → Type 0
IsStateTable floor kept = Rises floor (floor + WINDOW) kept
