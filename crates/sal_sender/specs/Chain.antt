-- What a choice made, and the chain of sources.
use Rattle.std.specs.Prelude.{◌≡◌, ℕ, ◌-◌, List, [], ◌∷◌, true, false, Option, Some, None, ◌==◌, nat_le, filter, slice_get}
use Rattle.sal_base.specs.declared.picture.Picture.{Picture}
use Rattle.sal_base.specs.declared.coding.Kind.{Kind}
use Rattle.sal_base.specs.Picture.{flat_picture}
use Rattle.sal_codec.specs.Coding.{Coding, Made, made_of}
use Rattle.sal_chain.specs.Held.{name_in}
use Rattle.sal_sender.specs.declared.choice.Choice.{Choice}
use Rattle.sal_sender.specs.Past.{Past, choices, pictures, tip, floor}

-- the picture of picture number n, of pictures that are numbered from 1
abbrev pub picture_at : List Picture → ℕ → Picture
picture_at shot n = or_none (slice_get shot (n - 1))
  where
    or_none : Option Picture → Picture
    or_none None = flat_picture 0 0 0
    or_none (Some p) = p

module _ {S : Type 0} (codec : Coding S) where
  -- what the codec makes of a picture from a state
  abbrev pub made_from : S → Picture → ℕ → Kind → Made S
  made_from s picture q kind = made_of s picture (codec.encode s picture q kind)

  -- the state that was made, or the initial one
  abbrev pub target_of : Option (Made S) → S
  target_of None = codec.initial
  target_of (Some made) = made.target

  -- what the frame of number n made, encoded from the state of its source, which is that of an older frame or the initial one
  unfoldable pub made_at : List Picture → List Choice → ℕ → Option (Made S)
  made_at shot [] n = None
  made_at shot (choice ∷ older) n =
      elim (n == choice.number) [
        | true ↦ Some (made_from (target_of (made_at shot older choice.source)) (picture_at shot choice.picture) choice.q choice.kind)
        | false ↦ made_at shot older n
      ]

  -- the state of frame number n, the initial one where there is no such frame
  abbrev pub state : List Picture → List Choice → ℕ → S
  state shot chosen n = target_of (made_at shot chosen n)

  abbrev pub state_at : Past → ℕ → S
  state_at past n = state (pictures past) (choices past) n

  -- what this choice made, with the older ones behind it
  abbrev pub made : List Picture → List Choice → Choice → Made S
  made shot older choice = made_from (state shot older choice.source) (picture_at shot choice.picture) choice.q choice.kind

  -- the different states among the initial and the chosen ones have different names
  abbrev pub NamesDiffer : List Picture → List Choice → Type 0
  NamesDiffer shot chosen = (m n : ℕ) → name_in codec (state shot chosen m) ≡ name_in codec (state shot chosen n) → state shot chosen m ≡ state shot chosen n

-- a frame number, its source, and so on
unfoldable pub sources_from : List Choice → ℕ → List ℕ
sources_from [] n = []
sources_from (choice ∷ older) n =
    elim (n == choice.number) [
      | true ↦ n ∷ sources_from older choice.source
      | false ↦ sources_from older n
    ]

-- the tip, its source, and so on, down to the floor
abbrev pub chain : Past → List ℕ
chain past = filter (λ n. nat_le (floor past) n) (sources_from (choices past) (tip past))
