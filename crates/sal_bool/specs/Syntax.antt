-- What a stretch of bits means: a value, or one more bit at a probability and what follows after either bit.
use Rattle.std.specs.Prelude.{◌≡◌, ℕ, suc, zero, ◌+◌, ◌*◌, ◌/◌, ℤ, pos, neg_ℤ, List, [], ◌∷◌, Bool, true, false, Option, Some, None, min, if◌then◌else◌, length, replicate, slice_index, slice_index_or}
use Rattle.sal_bool.specs.Reading.{Reading, next_bit, after_bit}
use Rattle.sal_bool.specs.Bits.{Interval, bit_at, next}
use Rattle.sal_tables.specs.declared.tree.Entry.{Entry}
use Rattle.sal_tables.specs.declared.tree.Entry.TheVariants.{Leaf, Pair}

pub data Syntax (X : Type 0) : Type 0 where
  Done : X → Syntax X
  Bit : (p : ℕ) → (Bool → Syntax X) → Syntax X

-- one after the other
infixl 20 ◌>>=◌
unfoldable pub ◌>>=◌ : {X Y : Type 0} → Syntax X → (X → Syntax Y) → Syntax Y
Done x >>= f = f x
Bit p s >>= f = Bit p (λ b. s b >>= f)

-- a probability is a byte
abbrev pub byte : ℕ → ℕ
byte p = min 255 p

-- the value that the exact number leads to from an interval on, and the interval after it (RFC 6386, 7)
unfoldable pub read : {X : Type 0} → List ℕ → Interval → Syntax X → X × Interval
read bytes i (Done x) = (x, i)
read bytes i (Bit p s) = read bytes (next i (byte p) (bit_at bytes i (byte p))) (s (bit_at bytes i (byte p)))

-- the same by a decoder's numbers
unfoldable pub run : {X : Type 0} → Syntax X → Reading → X × Reading
run (Done x) r = (x, r)
run (Bit p s) r = run (s (next_bit r (byte p))) (after_bit r (byte p))

-- these pairs of a probability and a bit lead to x, and no further
unfoldable pub Follows : {X : Type 0} → Syntax X → List (ℕ × Bool) → X → Type 0
Follows (Done y) [] x = y ≡ x
Follows (Done y) (q ∷ qs) x = ⊥
Follows (Bit p s) [] x = ⊥
Follows (Bit p s) (q ∷ qs) x = (q.0 ≡ byte p) × Follows (s q.1) qs x

-- a bit as a number
abbrev pub bit_of : Bool → ℕ
bit_of false = 0
bit_of true = 1

-- one bit (8)
abbrev pub one : ℕ → Syntax Bool
one p = Bit p Done

abbrev pub flag : Syntax Bool
flag = one 128

-- a number by its bits at these probabilities, highest first
unfoldable pub number : List ℕ → ℕ → Syntax ℕ
number [] v = Done v
number (p ∷ ps) v = Bit p (λ b. number ps (2 * v + bit_of b))

-- n bits at probability 128, highest first (8)
unfoldable pub literal : ℕ → Syntax ℕ
literal n = number (replicate n 128) 0

abbrev pub signed : ℕ → Bool → ℤ
signed size negative = if negative then neg_ℤ (pos size) else pos size

-- n bits, then a sign (9)
unfoldable pub signed_literal : ℕ → Syntax ℤ
signed_literal n = do
  size ← literal n
  negative ← flag
  Done (signed size negative)

abbrev pub when : {X : Type 0} → Bool → Syntax X → X → Syntax X
when b s x = if b then s else Done x

-- a flag, and where it is 1 a value; else x
abbrev pub flagged : {X : Type 0} → Syntax X → X → Syntax X
flagged s x = flag >>= λ b. when b s x

-- a flag, and where it is 1 a value
abbrev pub optional : {X : Type 0} → ℕ → Syntax X → Syntax (Option X)
optional p s = one p >>= λ b. if b then (s >>= λ x. Done (Some x)) else Done None

-- a value for each element, in order
unfoldable pub each : {X Y : Type 0} → (X → Syntax Y) → List X → Syntax (List Y)
each f [] = Done []
each f (x ∷ xs) = do
  y ← f x
  ys ← each f xs
  Done (y ∷ ys)

abbrev pub onward : (ℕ → Syntax ℕ) → Entry → Syntax ℕ
onward go (Leaf l) = Done l
onward go (Pair k) = go k

abbrev pub entry_at : List Entry → ℕ → Bool → Entry
entry_at es at b = slice_index_or es (at + bit_of b) (Leaf 0)

-- the leaf that the bits lead to from the pair at an index, in n bits at most (8.1)
unfoldable pub walk : ℕ → List Entry → List ℕ → ℕ → Syntax ℕ
walk zero es ps at = Done 0
walk (suc n) es ps at = Bit (slice_index ps (at / 2)) (λ b. onward (walk n es ps) (entry_at es at b))

abbrev pub leaf_from : List Entry → List ℕ → ℕ → Syntax ℕ
leaf_from es ps at = walk (length es) es ps at

abbrev pub leaf : List Entry → List ℕ → Syntax ℕ
leaf es ps = leaf_from es ps 0
