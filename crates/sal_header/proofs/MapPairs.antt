-- Where the pairs of a probability of the segment map stop.
use Rattle.std.proofs.Common.{◌≡◌, ℕ, ◌++◌, Bool, true, false, sym, ap, if◌then◌else◌}
use Rattle.std.proofs.lemmas.Bool.{ne_eqb}
use Rattle.sal_bool.specs.Bits.{Interval}
use Rattle.sal_bool.specs.Written.{steps}
use Rattle.sal_bool.specs.Pairs.{flag_pairs, literal_pairs}
use Rattle.sal_bool.specs.Put.{PutSome}
use Rattle.sal_bool.proofs.Putting.{some_then, then_some, some_same}
use Rattle.sal_header.specs.Written.{map_pairs}

map_more : (x : ℕ) → (x ≡ 255 → ⊥) → map_pairs x ≡ flag_pairs true ++ literal_pairs 8 x
map_more x ne = ap (λ (t : Bool). if t then flag_pairs false else flag_pairs true ++ literal_pairs 8 x) (ne_eqb x 255 ne)

pub map_some : (x : ℕ) (i k : Interval) → (x ≡ 255 → ⊥) → PutSome i (flag_pairs true) k → PutSome i (map_pairs x) k
map_some x i k ne h = some_same _ _ i k (sym (map_more x ne)) (some_then (flag_pairs true) (literal_pairs 8 x) i k h)

pub map_then_some : (x : ℕ) (i j k : Interval) → (x ≡ 255 → ⊥) → j ≡ steps i (flag_pairs true) → PutSome j (literal_pairs 8 x) k → PutSome i (map_pairs x) k
map_then_some x i j k ne a h = some_same _ _ i k (sym (map_more x ne)) (then_some (flag_pairs true) (literal_pairs 8 x) i j k a h)
