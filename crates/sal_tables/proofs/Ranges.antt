-- What a test over all digits says of the digit at a place.
use Rattle.std.proofs.Common.{◌≡◌, ℕ, suc, zero, ◌<◌, ◌≤◌, List, [], ◌∷◌, Bool, true, false, ◌&&◌, length, get_or, refl, arith}
use Rattle.std.proofs.lemmas.Bool.{leb-true}
use Rattle.sal_tables.specs.Shape.{in_range}

both : (a b : Bool) → (a && b) ≡ true → (a ≡ true) × (b ≡ true)
both true true h = (refl, refl)
both true false h = cc
both false b h = cc

-- the digit at a place of a list in range is in range
pub in_range_at : (low high : ℕ) (xs : List ℕ) (i : ℕ) → in_range low high xs ≡ true → i < length xs → (low ≤ get_or xs i 0) × (get_or xs i 0 ≤ high)
in_range_at low high [] i h lt = absurd (omega arith)
in_range_at low high (x ∷ xs) zero h lt = let here = both _ _ (both _ _ h).0 in (leb-true _ _ here.0, leb-true _ _ here.1)
in_range_at low high (x ∷ xs) (suc i) h lt = in_range_at low high xs i (both _ _ h).1 (omega arith)

-- a digit at most the greatest, past the end too
pub at_most : (low high : ℕ) (xs : List ℕ) (i : ℕ) → in_range low high xs ≡ true → get_or xs i 0 ≤ high
at_most low high [] i h = omega arith
at_most low high (x ∷ xs) zero h = leb-true _ _ (both _ _ (both _ _ h).0).1
at_most low high (x ∷ xs) (suc i) h = at_most low high xs i (both _ _ h).1
