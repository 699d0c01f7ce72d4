-- What is read from the front of what is left, where that is told.
use Rattle.std.specs.Prelude.{◌≡◌, ◌≢◌, ◌≤◌, ℕ, zero, suc, List, [], ◌∷◌, length, take, drop, Option, Some, None, IfSome, nat_le, ◌==◌, if◌then◌else◌}
use Rattle.std.specs.List.{AllByRecursion}
use Rattle.std.specs.Io.KnownBytes.{Consumes}

-- a reading gives a value and the bytes after it, or nothing
abbrev pub Reading : Type 0 → Type 0
Reading X = List ℕ → Option (X × List ℕ)

-- the reading finds x in what was left, and leaves what is left now
abbrev pub ReadsAs : {X : Type 0} → Reading X → Option (List ℕ) → Option (List ℕ) → X → Type 0
ReadsAs read None new x = Unit {0}
ReadsAs read (Some xs) None x = ⊥
ReadsAs read (Some xs) (Some ys) x = read xs ≡ Some (x, ys)

-- the reading finds nothing in what was left
abbrev pub Lacks : {X : Type 0} → Reading X → Option (List ℕ) → Type 0
Lacks read old = IfSome old (λ xs. read xs ≡ None)

-- what is left now comes after a front of at most so many bytes
abbrev pub TakesUpTo : ℕ → Option (List ℕ) → Option (List ℕ) → Type 0
TakesUpTo most old new = (front : List ℕ) × (length front ≤ most) × Consumes old new front

-- one reading after another
infixl 10 ◌>>=◌
abbrev pub ◌>>=◌ : {A B : Type 0} → Option A → (A → Option B) → Option B
None >>= f = None
(Some x) >>= f = f x

-- so many bytes in front
abbrev pub block_at : ℕ → Reading (List ℕ)
block_at n bytes = if nat_le n (length bytes) then Some (take n bytes, drop n bytes) else None

-- a line with one byte more in front
abbrev pub with_front : ℕ → Option (List ℕ × List ℕ) → Option (List ℕ × List ℕ)
with_front b None = None
with_front b (Some x) = Some (b ∷ x.0, x.1)

-- bytes without a newline
abbrev pub NoNewline : List ℕ → Type 0
NoNewline = AllByRecursion (λ b. b ≢ 10)

-- a line without its newline, which is among the first n bytes
unfoldable pub line_within : ℕ → Reading (List ℕ)
line_within zero bytes = None
line_within (suc n) [] = None
line_within (suc n) (b ∷ bytes) = if b == 10 then Some ([], bytes) else with_front b (line_within n bytes)

-- one reading after another gives these values, and leaves the rest
abbrev pub Repeats : {X : Type 0} → Reading X → List ℕ → List X → List ℕ → Type 0
Repeats read bytes [] rest = bytes ≡ rest
Repeats read bytes (x ∷ xs) rest = (mid : List ℕ) × (read bytes ≡ Some (x, mid)) × Repeats read mid xs rest

-- the same of what was left and what is left now, where told
abbrev pub ToldRepeats : {X : Type 0} → Reading X → Option (List ℕ) → List X → Option (List ℕ) → Type 0
ToldRepeats read None xs new = Unit {0}
ToldRepeats read (Some a) xs None = ⊥
ToldRepeats read (Some a) xs (Some b) = Repeats read a xs b

-- all values that stand one after the other, and what comes after them
abbrev pub Front : {X : Type 0} → Reading X → List ℕ → List X → List ℕ → Type 0
Front read bytes xs rest = Repeats read bytes xs rest × (read rest ≡ None)
