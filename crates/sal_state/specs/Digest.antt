-- The digest of a state.
use Rattle.std.specs.Prelude.{ℕ, ◌/◌, ◌%◌, ◌-◌, ℤ, pos, negsuc, List, [], ◌∷◌, ◌++◌, Option, Some, None, map, replicate}
use Rattle.sha2.specs.Sha256.{sha256}
use Rattle.sal_base.specs.declared.picture.Planes.{Planes}
use Rattle.sal_bool.specs.Syntax.{bit_of}
use Rattle.sal_probs.specs.Probabilities.{Table}
use Rattle.sal_header.specs.declared.header.Kept.{Kept}
use Rattle.sal_state.specs.States.{References, StateData}

-- a number of 16 bits in two bytes, the high one first
abbrev pub two_bytes : ℕ → List ℕ
two_bytes n = n / 256 ∷ n % 256 ∷ []

-- a number from -128 to 127 as a byte in two's complement
abbrev pub signed_byte : ℤ → ℕ
signed_byte (pos n) = n
signed_byte (negsuc n) = 255 - n

abbrev pub signed_bytes : List ℤ → List ℕ
signed_bytes zs = map signed_byte zs

-- the samples of all three planes
unfoldable pub planes_digest : Planes → List ℕ
planes_digest p = sha256 (p.y.samples ++ p.u.samples ++ p.v.samples)

-- the size of pictures
abbrev pub size_bytes : References → List ℕ
size_bytes r = two_bytes r.width ++ two_bytes r.height

-- coefficient, vector, Y and chroma probabilities
abbrev pub probability_bytes : Table → List ℕ
probability_bytes t = t.coefficients ++ t.vectors ++ t.y ++ t.chroma

-- the segments' mode, quantisers and levels
abbrev pub segment_bytes : Kept → List ℕ
segment_bytes k = (bit_of k.absolute ∷ []) ++ signed_bytes k.quantisers ++ signed_bytes k.levels

-- the filter's deltas by reference and by mode
abbrev pub delta_bytes : Kept → List ℕ
delta_bytes k = signed_bytes k.ref_deltas ++ signed_bytes k.mode_deltas

-- the sign biases of golden and alt, and the segment map
abbrev pub map_bytes : Kept → List ℕ
map_bytes k = (bit_of k.bias_golden ∷ bit_of k.bias_alt ∷ []) ++ k.map

-- the digests of last, golden and alt
abbrev pub reference_bytes : References → List ℕ
reference_bytes r = planes_digest r.last ++ planes_digest r.golden ++ planes_digest r.alt

-- a state with references as bytes
unfoldable pub state_bytes : Kept → References → List ℕ
state_bytes k r = size_bytes r ++ probability_bytes k.probs ++ segment_bytes k ++ delta_bytes k ++ map_bytes k ++ reference_bytes r

abbrev pub digest_from : Kept → Option References → List ℕ
digest_from k (Some r) = sha256 (state_bytes k r)
digest_from k None = replicate 32 0

-- a state's digest; zeros before the first key frame
unfoldable pub digest_of : StateData → List ℕ
digest_of s = digest_from s.kept s.references
