-- How the bytes of a frame are split over fragments.
use Rattle.std.specs.Prelude.{ℕ, zero, suc, ◌+◌, ◌-◌, ◌*◌, ◌/◌, List, [], ◌∷◌, ◌++◌, length, take, drop}
use Rattle.sal_wire.specs.declared.layout.TheConstants.{MAX_DATA}

-- 0, 1, .. below n
unfoldable pub below : ℕ → List ℕ
below zero = []
below (suc n) = below n ++ n ∷ []

-- how many fragments these bytes take; the last one may be shorter than the others
abbrev pub fragment_count : List ℕ → ℕ
fragment_count bytes = (length bytes + (MAX_DATA - 1)) / MAX_DATA

-- the data of the fragment with this index
abbrev pub fragment_data : List ℕ → ℕ → List ℕ
fragment_data bytes k = take MAX_DATA (drop (MAX_DATA * k) bytes)
