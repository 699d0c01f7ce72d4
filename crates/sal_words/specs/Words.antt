-- What words say as names and options, before it is asked what these mean.
use Rattle.std.specs.Prelude.{ℕ, Bool, true, false, ◌==◌, ◌&&◌, not, List, [], ◌∷◌, map, Option, Some, None, if◌then◌else◌, codes}
use Rattle.std.specs.Str.{bytes_eq}
use Rattle.std.specs.List.{list_any, before_first, after_first}

-- a word, as its bytes
abbrev pub Text : Type 0
Text = List ℕ

infixl 10 ◌>>=◌
abbrev pub ◌>>=◌ : {A B : Type 0} → Option A → (A → Option B) → Option B
None >>= f = None
(Some x) >>= f = f x

-- names in their order, and options with their values
pub record Said : Type 0 where
  pub names : List Text
  pub options : List (Text × Text)

abbrev pub nothing_said : Said
nothing_said = record { names = []; options = [] }

abbrev pub add_name : Text → Said → Said
add_name word s = record s { names = word ∷ s.names }

abbrev pub add_option : Text → Text → Said → Said
add_option name value s = record s { options = (name, value) ∷ s.options }

-- what more words say, after a name or an option with its value
abbrev pub with_name : Text → Option Said → Option Said
with_name word more = more >>= λ s. Some (add_name word s)

abbrev pub with_option : Text → Text → Option Said → Option Said
with_option name value more = more >>= λ s. Some (add_option name value s)

-- one of these is the text
abbrev pub is_among : List Text → Text → Bool
is_among texts text = list_any (λ t. bytes_eq t text) texts

-- the word begins with `-` (45) and isn't `-` alone
abbrev pub is_dashed : Text → Bool
is_dashed (first ∷ second ∷ rest) = first == 45
is_dashed word = false

-- after this word every word is a name
abbrev pub dashes : Text
dashes = codes "--"

abbrev pub is_equals : ℕ → Bool
is_equals byte = byte == 61

-- `NAME` or `NAME=VALUE`, as the name and the value
abbrev pub name_and_value : Text → Text × Option Text
name_and_value text = (before_first is_equals text, if list_any is_equals text then Some (after_first is_equals text) else None)

-- the same after two dashes
abbrev pub option_of : Text → Option (Text × Option Text)
option_of (first ∷ second ∷ third ∷ rest) = if first == 45 && second == 45 then Some (name_and_value (third ∷ rest)) else None
option_of word = None

-- an option has its value after `=`, or the next word is it; `more` says what comes then, where a next word is the value of an
-- option, or of none
abbrev pub value_said : Text → Option Text → (Option Text → Option Said) → Option Said
value_said name (Some value) more = with_option name value (more None)
value_said name None more = more (Some name)

-- only these options are known
abbrev pub option_said : List Text → Option (Text × Option Text) → (Option Text → Option Said) → Option Said
option_said known None more = None
option_said known (Some o) more = if is_among known o.0 then value_said o.0 o.1 more else None

abbrev pub word_said : List Text → Text → List Text → (Option Text → Option Said) → Option Said
word_said known word rest more =
    if bytes_eq word dashes then Some (record { names = rest; options = [] })
    else if is_dashed word then option_said known (option_of word) more
    else with_name word (more None)

-- what words say, where the first is the value of an option, or of none: options of these names, each with a value that isn't
-- dashed unless it follows `=`, and names; after `--` all words are names
unfoldable pub said_from : List Text → List Text → Option Text → Option Said
said_from known [] None = Some nothing_said
said_from known [] (Some option) = None
said_from known (word ∷ rest) None = word_said known word rest (said_from known rest)
said_from known (word ∷ rest) (Some option) = if is_dashed word then None else with_option option word (said_from known rest None)

-- no text stands twice
abbrev pub is_once : List Text → Bool
is_once [] = true
is_once (text ∷ more) = not (is_among more text) && is_once more

abbrev pub option_names : Said → List Text
option_names s = map (λ o. o.0) s.options

-- what words say, where these options may stand, each once; None where they aren't in this grammar
abbrev pub said : List Text → List Text → Option Said
said known words = said_from known words None >>= λ s. if is_once (option_names s) then Some s else None

-- the value of an option
abbrev pub value_of : Text → List (Text × Text) → Option Text
value_of name [] = None
value_of name (o ∷ more) = if bytes_eq o.0 name then Some o.1 else value_of name more
