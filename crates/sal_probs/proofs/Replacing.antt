-- Entries replaced one by one.
use Rattle.std.proofs.Common.{◌≡◌, ℕ, suc, zero, ◌+◌, ◌<◌, ◌≤◌, ◌∙◌, List, [], ◌∷◌, ◌++◌, Option, None, sym, ap, arith, get_or, take, drop, length, set, add-one}
use Rattle.std.specs.Prelude.{unwrap_or}
use Rattle.std.proofs.lemmas.List.{drop_all, take_all, append-nil}
use Rattle.sal_probs.specs.Probabilities.{replaced}

step : (xs : List ℕ) (us : List (Option ℕ)) (i v : ℕ) → i < length xs → i < length us → v ≡ unwrap_or (get_or us i None) (get_or xs i 0)
    → take (suc i) (set xs i v) ++ replaced (drop (suc i) (set xs i v)) (drop (suc i) us) ≡ take i xs ++ replaced (drop i xs) (drop i us)
step [] us i v lt lu e = absurd (omega arith)
step (x ∷ xs) [] i v lt lu e = absurd (omega arith)
step (x ∷ xs) (u ∷ us) zero v lt lu e = ap (λ n. n ∷ replaced xs us) e
step (x ∷ xs) (u ∷ us) (suc i) v lt lu e = ap (λ ys. x ∷ ys) (step xs us i v (omega arith) (omega arith) e)

-- the entries before i are replaced already, and those from i on are still to be
pub replaced_next : (xs : List ℕ) (us : List (Option ℕ)) (i v : ℕ) (all : List ℕ) → i < length xs → i < length us → v ≡ unwrap_or (get_or us i None) (get_or xs i 0)
    → take i xs ++ replaced (drop i xs) (drop i us) ≡ all → take (i + 1) (set xs i v) ++ replaced (drop (i + 1) (set xs i v)) (drop (i + 1) us) ≡ all
replaced_next xs us i v all lt lu e h = let p = step xs us i v lt lu e in rw add-one (p ∙ h)

pub replaced_end : (xs : List ℕ) (us : List (Option ℕ)) (i : ℕ) (all : List ℕ) → length xs ≤ i → take i xs ++ replaced (drop i xs) (drop i us) ≡ all → xs ≡ all
replaced_end xs us i all le h =
    let a : take i xs ≡ xs = take_all i xs le in
    let b : drop i xs ≡ [] = drop_all i xs le in
    let none : xs ++ [] ≡ xs = append-nil xs in
    sym none ∙ (ap (λ ys. ys ++ replaced [] (drop i us)) (sym a) ∙ (ap (λ ys. take i xs ++ replaced ys (drop i us)) (sym b) ∙ h))
