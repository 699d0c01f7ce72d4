-- What is said of digits: their range and order, and what a list of entries must be to be a tree.
use Rattle.std.specs.Prelude.{ℕ, ◌+◌, List, [], ◌∷◌, if◌then◌else◌, Bool, true, false, ◌&&◌, nat_lt, nat_le, nat_eq, length}
use Rattle.std.specs.Prelude.{◌%◌}
use Rattle.sal_tables.specs.declared.tree.Entry.{Entry}
use Rattle.sal_tables.specs.declared.tree.Entry.TheVariants.{Leaf, Pair}

-- each number is from low to high
abbrev pub in_range : ℕ → ℕ → List ℕ → Bool
in_range low high [] = true
in_range low high (x ∷ xs) = nat_le low x && nat_le x high && in_range low high xs

-- no number is below the one before it
abbrev pub is_rising : List ℕ → Bool
is_rising [] = true
is_rising (x ∷ []) = true
is_rising (x ∷ y ∷ xs) = nat_le x y && is_rising (y ∷ xs)

-- an entry at this index of a tree of this length: a leaf, or an even index further on
abbrev pub goes_on : ℕ → ℕ → Entry → Bool
goes_on long at (Leaf n) = true
goes_on long at (Pair n) = nat_lt at n && nat_lt (n + 1) long && nat_eq (n % 2) 0

abbrev pub all_go_on : ℕ → ℕ → List Entry → Bool
all_go_on long at [] = true
all_go_on long at (e ∷ es) = goes_on long at e && all_go_on long (at + 1) es

-- how often the entries lead to the pair k
abbrev pub leads : ℕ → List Entry → ℕ
leads k [] = 0
leads k (Leaf n ∷ es) = leads k es
leads k (Pair n ∷ es) = (if nat_eq n k then 1 else 0) + leads k es

-- the pairs from index k on are each led to once, and the first of a tree never
abbrev pub each_once : ℕ → List Entry → List Entry → Bool
each_once k all [] = true
each_once k all (e ∷ []) = false
each_once k all (e ∷ f ∷ es) = nat_eq (leads k all) (if nat_eq k 0 then 0 else 1) && each_once (k + 2) all es

-- each pair leads further on, and each pair but the first is led to exactly once
abbrev pub is_tree : List Entry → Bool
is_tree es = nat_lt 1 (length es) && all_go_on (length es) 0 es && each_once 0 es es

-- each leaf is below n
abbrev pub leaves_below : ℕ → List Entry → Bool
leaves_below n [] = nat_lt 0 n
leaves_below n (Leaf l ∷ es) = nat_lt l n && leaves_below n es
leaves_below n (Pair k ∷ es) = leaves_below n es
