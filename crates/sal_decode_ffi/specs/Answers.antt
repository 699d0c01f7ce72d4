-- The answers to frames that are decoded one after another, as bytes. Numbers have their high byte first.
use Rattle.std.specs.Prelude.{◌≡◌, ℕ, List, [], ◌∷◌, ◌++◌, length, take, drop, nat_le, if◌then◌else◌, ◌⊎◌, Option, Some, None, Result, Ok, Err}
use Rattle.std.specs.Int.{to_be_bytes, w16, w32}
use Rattle.sal_base.specs.declared.coding.Fault.{Fault}
use Rattle.sal_base.specs.declared.coding.Fault.TheVariants.{Short, BadVersion, BadStart, ZeroSize, TooLarge, NoReference, FirstPart, Partition}
use Rattle.sal_base.specs.declared.coding.Decoded.{Decoded}
use Rattle.sal_base.specs.declared.picture.Picture.{Picture}
use Rattle.sal_bool.specs.Syntax.{bit_of}
use Rattle.sal_state.specs.States.{StateData, initial_state}
use Rattle.sal_state.specs.Digest.{digest_of}
use Rattle.sal_decode.specs.Decode.{decode_of}

-- a fault's number, and the two numbers that it has, of four bytes each
abbrev pub numbered : ℕ → ℕ → ℕ → List ℕ
numbered code first second = (code ∷ []) ++ to_be_bytes w32 first ++ to_be_bytes w32 second

-- the answer to a frame that isn't decoded: faults count from 1, and a number that a fault doesn't have is 0
abbrev pub fault_bytes : Fault → List ℕ
fault_bytes Short = numbered 1 0 0
fault_bytes (BadVersion version) = numbered 2 version 0
fault_bytes BadStart = numbered 3 0 0
fault_bytes ZeroSize = numbered 4 0 0
fault_bytes (TooLarge width height) = numbered 5 width height
fault_bytes NoReference = numbered 6 0 0
fault_bytes (FirstPart size left) = numbered 7 size left
fault_bytes (Partition k) = numbered 8 k 0

abbrev pub picture_bytes : Picture → List ℕ
picture_bytes p = to_be_bytes w16 p.width ++ to_be_bytes w16 p.height

abbrev pub sample_bytes : Picture → List ℕ
sample_bytes p = p.y.samples ++ p.u.samples ++ p.v.samples

-- the answer to a frame that is decoded: 0, whether it is to be shown, width and height of two bytes each, the digest of the state
-- that it leads to, and the samples of Y, U and V
abbrev pub decoded_bytes : Decoded StateData → List ℕ
decoded_bytes d = (0 ∷ bit_of d.shown ∷ []) ++ picture_bytes d.picture ++ digest_of d.state ++ sample_bytes d.picture

-- the answer to a frame
abbrev pub answer_to : Result (Decoded StateData) Fault → List ℕ
answer_to (Ok d) = decoded_bytes d
answer_to (Err f) = fault_bytes f

-- the state that a frame leads to, where it is decoded
abbrev pub state_to : Result (Decoded StateData) Fault → Option StateData
state_to (Ok d) = Some d.state
state_to (Err f) = None

-- the answer to a frame, and those that come after it where it is decoded
abbrev pub answered : Result (Decoded StateData) Fault → (Decoded StateData → List ℕ) → List ℕ
answered (Ok d) more = decoded_bytes d ++ more d
answered (Err f) more = fault_bytes f

-- the answers to frames of these lengths, whose bytes follow one another, from a state up to the first fault; where the bytes end
-- early, so do the frames
unfoldable pub answers_from : StateData → List ℕ → List ℕ → List ℕ
answers_from s [] bytes = []
answers_from s (n ∷ lengths) bytes = answered (decode_of s (take n bytes)) (λ d. answers_from d.state lengths (drop n bytes))

-- those from the state before any frame
abbrev pub answers_of : List ℕ → List ℕ → List ℕ
answers_of lengths bytes = answers_from initial_state lengths bytes

-- bytes with a text at their front, where it fits
abbrev pub with_front : List ℕ → List ℕ → List ℕ
with_front text old = if nat_le (length text) (length old) then text ++ drop (length text) old else old

-- what a call leaves of these bytes, and what it answers: the text at their front and its length, or 0 for want of memory
abbrev pub Gives : List ℕ → List ℕ → List ℕ → ℕ → Type 0
Gives text old new answer = ((answer ≡ length text) × (new ≡ with_front text old)) ⊎ ((answer ≡ 0) × (new ≡ old))
