-- How `clap` is asked to read the words of a command: names are values of one argument, and each option has one value.
use Rattle.std.specs.Prelude.{◌≡◌, false, true, List, [], ◌∷◌, map, Option, Some, None, Result, Ok, Err, codes, option_map, unwrap_or}
use Rattle.std.specs.Str.{bytes_eq}
use Rattle.clap.specs.Matches.{found_of, matched_of, raw_values, first_value}
use Rattle.clap.specs.Walk.{Rule}
use Rattle.clap.specs.Simple.{App, new_rule, new_shape}
use Rattle.clap.specs.declared.builder.action.ArgAction.TheVariants.{Append}
use Rattle.clap.specs.declared.parser.matches.ArgMatches.{ArgMatches}
use Rattle.sal_words.specs.declared.command.WordsFault.{WordsFault}
use Rattle.sal_words.specs.declared.command.WordsFault.TheVariants.{Usage, Memory}
use Rattle.clap.specs.declared.error.kind.ErrorKind.{ErrorKind}
use Rattle.clap.specs.declared.error.kind.ErrorKind.TheVariants.{OutOfMemory}
use Rattle.sal_words.specs.Words.{Text, Said, value_of}

-- the argument of all names
abbrev pub names_id : Text
names_id = codes "NAMES"

abbrev pub names_rule : Rule
names_rule = record (new_rule names_id) { action = Some Append }

-- `--NAME`, with one value
abbrev pub option_rule : Text → Rule
option_rule name = record (new_rule name) { long = Some name }

-- a command with these options, without help and version
abbrev pub form : List Text → App
form known = record {
  top = record (new_shape (codes "salsify")) {
    rules = names_rule ∷ map option_rule known;
    no_binary_name = true;
    disable_help_flag = true;
    disable_version_flag = true;
  };
  subs = [];
}

abbrev pub names_in : ArgMatches → List Text
names_in m = unwrap_or (option_map raw_values (matched_of (found_of m) names_id)) []

-- the matches are these names and options
pub record Says (s : Said) (m : ArgMatches) : Type 0 where
  pub names : names_in m ≡ s.names
  pub values : (name : Text) → bytes_eq name names_id ≡ false → first_value (found_of m) name ≡ value_of name s.options

-- want of memory, or words that aren't in the grammar
abbrev pub fault_for : ErrorKind → WordsFault
fault_for OutOfMemory = Memory
fault_for other = Usage

-- matches say what the words say, and Usage comes exactly where they say nothing in the grammar
abbrev pub Reads : Option Said → Result ArgMatches WordsFault → Type 0
Reads wanted (Ok m) = (s : Said) × (wanted ≡ Some s) × Says s m
Reads wanted (Err Usage) = wanted ≡ None
Reads wanted (Err Memory) = Unit {0}
