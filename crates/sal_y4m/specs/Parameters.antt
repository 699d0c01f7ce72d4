-- The parameters of a header line.
use Rattle.std.specs.Prelude.{ℕ, List, [], ◌∷◌, length, Bool, Option, Some, None, Result, Ok, Err, ◌==◌, if◌then◌else◌}
use Rattle.std.specs.List.{before_first}
use Rattle.std.specs.Option.{is_some, ok_or}
use Rattle.sal_base.specs.declared.limits.TheConstants.{MAX_WIDTH, MAX_HEIGHT}
use Rattle.sal_io.specs.Told.{◌>>=◌}
use Rattle.sal_y4m.specs.declared.fault.Why.{Why}
use Rattle.sal_y4m.specs.declared.fault.Why.TheVariants as why
use Rattle.sal_y4m.specs.declared.fault.Flaw.{Flaw}
use Rattle.sal_y4m.specs.declared.head.Head.{Head}
use Rattle.sal_y4m.specs.declared.parameters.Letter.{Letter}
use Rattle.sal_y4m.specs.declared.parameters.Letter.TheVariants as letter
use Rattle.sal_y4m.specs.declared.parameters.Settings.{Settings}
use Rattle.sal_y4m.specs.Values.{ratio_of, side_of, rate_of, is_interlace, is_colour}

-- the letters W, H, F, I, A, C and X
abbrev pub letter_of : ℕ → Letter
letter_of byte =
    if byte == 87 then letter.Width
    else if byte == 72 then letter.Height
    else if byte == 70 then letter.Rate
    else if byte == 73 then letter.Interlace
    else if byte == 65 then letter.Aspect
    else if byte == 67 then letter.Colour
    else if byte == 88 then letter.Extension
    else letter.Other

-- what a parameter makes of the settings before it, or what is wrong with it
abbrev pub set : Letter → List ℕ → Settings → Result Settings Why
set letter.Width value s = ok_or (side_of MAX_WIDTH value >>= λ width. Some (record s { width = Some width })) why.Side
set letter.Height value s = ok_or (side_of MAX_HEIGHT value >>= λ height. Some (record s { height = Some height })) why.Side
set letter.Rate value s = ok_or (rate_of value >>= λ rate. Some (record s { rate = rate })) why.Rate
set letter.Interlace value s = if is_interlace value then Ok s else Err why.Interlace
set letter.Aspect value s = if is_some (ratio_of value) then Ok s else Err why.Param
set letter.Colour value s = if is_colour value then Ok s else Err why.Colour
set letter.Extension value s = Ok s
set letter.Other value s = Err why.Param

-- a parameter: its letter, what comes after the letter up to a space or the end, and how many bytes there are from the letter on
pub record Parameter : Type 0 where
  pub letter : ℕ
  pub value : List ℕ
  pub left : ℕ

abbrev pub is_space : ℕ → Bool
is_space byte = byte == 32

-- the parameter that a text begins with, if it isn't empty and doesn't begin with a space, and then more
abbrev pub first_and : List ℕ → List Parameter → List Parameter
first_and [] more = more
first_and (byte ∷ text) more = if byte == 32 then more else record { letter = byte; value = before_first is_space text; left = length (byte ∷ text) } ∷ more

-- the parameters of a text, each of which stands after a space
unfoldable pub parameters : List ℕ → List Parameter
parameters [] = []
parameters (byte ∷ text) = if byte == 32 then first_and text (parameters text) else parameters text

-- what is wrong with a parameter stands at its letter
abbrev pub or_flaw : ℕ → Result Settings Why → (Settings → Result Settings Flaw) → Result Settings Flaw
or_flaw left (Ok s) more = more s
or_flaw left (Err why) more = Err (record { left = left; why = why })

-- parameters from left to right: of those of one letter the last counts
abbrev pub all_set : List Parameter → Settings → Result Settings Flaw
all_set [] s = Ok s
all_set (p ∷ more) s = or_flaw p.left (set (letter_of p.letter) p.value s) (all_set more)

-- what comes of some parameters, and then of more
abbrev pub and_then : Result Settings Flaw → (Settings → Result Settings Flaw) → Result Settings Flaw
and_then (Ok s) more = more s
and_then (Err flaw) more = Err flaw

-- before any parameter
abbrev pub unset : Settings
unset = record { width = None; height = None; rate = (30, 1) }

-- a head has both sides; one that lacks one is flawed at the end of its line
abbrev pub head_with : Option ℕ → Option ℕ → ℕ × ℕ → Result Head Flaw
head_with (Some width) (Some height) rate = Ok (record { width = width; height = height; rate = rate })
head_with _ _ rate = Err (record { left = 0; why = why.Missing })

abbrev pub whole : Result Settings Flaw → Result Head Flaw
whole (Ok s) = head_with s.width s.height s.rate
whole (Err flaw) = Err flaw

-- the head of the parameters that come after the word, up to the end of the line
abbrev pub head_of : List ℕ → Result Head Flaw
head_of text = whole (all_set (parameters text) unset)
