-- Costs, and the first candidate of least cost.
use Rattle.std.specs.Prelude.{◌≡◌, ℕ, ◌+◌, ◌<◌, ◌≤◌, List, [], ◌∷◌, ◌++◌, All, if◌then◌else◌, nat_lt}
use Rattle.std.specs.Int.{abs_diff}

-- the sum of absolute differences, place by place
unfoldable pub sad : List ℕ → List ℕ → ℕ
sad [] ys = 0
sad (x ∷ xs) [] = 0
sad (x ∷ xs) (y ∷ ys) = abs_diff x y + sad xs ys

-- one of several choices, and its cost
pub record Candidate (A : Type 0) : Type 0 where
  pub choice : A
  pub cost : ℕ

abbrev pub candidate : {A : Type 0} → A → ℕ → Candidate A
candidate a n = record { choice = a; cost = n }

-- the second of two where it costs less
abbrev pub better : {A : Type 0} → Candidate A → Candidate A → Candidate A
better a b = if nat_lt b.cost a.cost then b else a

-- the first of least cost, of a candidate and those after it
unfoldable pub first_least : {A : Type 0} → Candidate A → List (Candidate A) → Candidate A
first_least a [] = a
first_least a (b ∷ bs) = first_least (better a b) bs

-- it stands in the list, each one before it costs more, and none after it costs less
pub record IsFirstLeast {A : Type 0} (all : List (Candidate A)) (c : Candidate A) : Type 0 where
  pub before : List (Candidate A)
  pub after : List (Candidate A)
  pub stands : all ≡ before ++ c ∷ after
  pub first : All (λ (d : Candidate A). c.cost < d.cost) before
  pub least : All (λ (d : Candidate A). c.cost ≤ d.cost) after
