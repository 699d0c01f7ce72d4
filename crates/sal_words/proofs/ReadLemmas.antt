-- What a parse by `clap` gives, in the words of the grammar.
use Rattle.std.proofs.Common.{◌≡◌, ◌∙◌, ◌⊎◌, inl, inr, ℕ, ◌+◌, ◌<◌, Bool, true, false, not, cond, ◌&&◌, ◌||◌, refl, sym, ap, subst, List, [], ◌∷◌, ◌++◌, map, length, take, get_or, Option, Some, None, Ok, Err, is_some, true≢false, string_bytes}
use Rattle.std.specs.Prelude.{find, fold, option_map, unwrap_or, slice_get, option_and_then}
use Rattle.std.specs.List.{AllByRecursion}
use Rattle.std.specs.Str.{bytes_eq, IsUtf8}
use Rattle.std.specs.Borrow.{Bor}
use Rattle.std.specs.declared.string.String.{String}
use Rattle.std.proofs.lemmas.List.{take_more, map-append}
use Rattle.clap.specs.Kinds.{HasKind, IsAmong, Kinds, or_else}
use Rattle.clap.specs.Values.{kind_of}
use Rattle.clap.specs.Faults.{built_fault, check_fault, defaults_fault, entered_fault, fault_of, is_simple_and_free, level_fault, settle_fault, walk_fault}
use Rattle.clap.specs.Takes.{is_given}
use Rattle.clap.specs.Matches.{found_of}
use Rattle.clap.specs.Walk.{Row, Rule, all_of, finished, first_of, has_row, idle, nothing_held, rows_after, rows_of, settled, texts, walk, walk_from, with_default}
use Rattle.clap.specs.Simple.{App, HasMatchesOf, entered, is_simple, matches_of, names_of, with_rule}
use Rattle.clap.specs.declared.error.Error.{Error}
use Rattle.clap.specs.declared.error.kind.ErrorKind.{ErrorKind}
use Rattle.clap.specs.declared.error.kind.ErrorKind.TheVariants as kind
use Rattle.clap.specs.declared.parser.matches.ArgMatches.{ArgMatches}
use Rattle.clap.proofs.WalkLemmas.{first_value-rows, raw_values-rows}
use Rattle.sal_words.specs.declared.command.WordsFault.{WordsFault}
use Rattle.sal_words.specs.Words.{Text, Said, ◌>>=◌, is_among, is_once, option_names, said, said_from, value_of}
use Rattle.sal_words.specs.Form.{form, fault_for, names_id, names_rule, option_rule, Reads, Says}
use Rattle.sal_words.proofs.RowLemmas.{text_flip}
use Rattle.sal_words.proofs.FormLemmas.{app_with, built_form, is_read, is_simple_form, names_built, no_option, option_built, rules, shape_with}
use Rattle.sal_words.proofs.TurnLemmas.{at, no_value, passes}
use Rattle.sal_words.proofs.SaidLemmas.{Finds, Found, are_new, either, fits, is_found, is_wanted, ok_from, resting, rows_from}

or_true : (t : Bool) → (t || true) ≡ true
or_true true = refl
or_true false = refl

same_rows : (t : Bool) (rows : List Row) → cond t rows rows ≡ rows
same_rows true rows = refl
same_rows false rows = refl

or_nil : (a : Kinds) → or_else a [] ≡ a
or_nil [] = refl
or_nil (k ∷ ks) = refl

-- no argument has a default
defaults_none : (known : List Text) (rows : List Row) → defaults_fault rows (map option_built known) ≡ []
unfolding defaults_fault
defaults_none [] rows = refl
defaults_none (key ∷ rest) rows = rw (or_true (has_row key rows)) (defaults_none rest (with_default rows (option_built key)))

all_defaults_none : (known : List Text) (rows : List Row) → defaults_fault rows (rules known) ≡ []
unfolding defaults_fault
all_defaults_none known rows = rw (or_true (has_row names_id rows)) (defaults_none known (with_default rows names_built))

kept_by_options : (known : List Text) (rows : List Row) → fold with_default rows (map option_built known) ≡ rows
kept_by_options [] rows = refl
kept_by_options (key ∷ rest) rows = ap (λ rs. fold with_default rs (map option_built rest)) (same_rows (has_row key rows) rows) ∙ kept_by_options rest rows

kept : (known : List Text) (rows : List Row) → fold with_default rows (rules known) ≡ rows
kept known rows = ap (λ rs. fold with_default rs (map option_built known)) (same_rows (has_row names_id rows) rows) ∙ kept_by_options known rows

-- none is required
nothing_wanted : (known : List Text) (rows : List Row) → check_fault (shape_with (rules known)) rows false ≡ []
nothing_wanted known rows =
    let none = no_option (λ a. a.required && not (is_given a.id rows)) option_built known (λ key. refl) in
    rw none refl

-- no subcommand is met
no_subcommand : (known words : List Text) (stop : Option (Text × List Text))
    → level_fault (shape_with (rules known)) [] nothing_held words (is_some (entered (app_with (rules known)) stop)) (entered_fault (app_with (rules known)) stop)
    ≡ level_fault (shape_with (rules known)) [] nothing_held words false []
no_subcommand known words None = refl
no_subcommand known words (Some p) = refl

module _ (known : List Text) (none_so : is_among known names_id ≡ false) (words : List Text) where
  abbrev found_rows : List Row
  found_rows = rows_from known none_so (at [] no_value idle false) words

  level_passes : passes (level_fault (shape_with (rules known)) [] nothing_held words false []) ≡ ok_from known none_so (at [] no_value idle false) words
  level_passes =
      let W = walk_fault (shape_with (rules known)) [] (walk_from nothing_held) words in
      let end = (walk (rules known) [] nothing_held words).held in
      let S = settle_fault (rules known) false end in
      let D = all_defaults_none known (settled (rules known) end).rows in
      let C = nothing_wanted known (finished (rules known) end) in
      ap (λ (k : Kinds). passes (or_else W (or_else S (or_else k (check_fault (shape_with (rules known)) (finished (rules known) end) false))))) D
      ∙ ap (λ (k : Kinds). passes (or_else W (or_else S k))) C
      ∙ ap (λ (k : Kinds). passes (or_else W k)) (or_nil S)

  fault_passes : passes (fault_of (form known) words) ≡ ok_from known none_so (at [] no_value idle false) words
  fault_passes =
      ap (λ (a : App). passes (built_fault a nothing_held words)) (built_form known)
      ∙ ap passes (no_subcommand known words (walk (rules known) [] nothing_held words).stopped) ∙ level_passes

  matches_are : matches_of (form known) words ≡ found_rows
  matches_are = ap (λ (a : App). rows_after a.top.rules (names_of a) words) (built_form known) ∙ kept known found_rows

  new_once : (keys : List Text) → are_new [] keys ≡ is_once keys
  new_once [] = refl
  new_once (key ∷ keys) = ap (λ t. not (is_among keys key) && t) (new_once keys)

  -- the parse has no fault exactly where the words are in the grammar
  passes_fits : AllByRecursion (λ w. ∥ IsUtf8 w ∥₁) words → passes (fault_of (form known) words) ≡ fits [] (said_from known words None)
  passes_fits utf8 = fault_passes ∙ is_wanted known none_so words (resting [] no_value true) utf8 tt

  first_is : (key : Text) (rows : List Row) → first_of key rows ≡ option_and_then (λ (vs : List Text). slice_get vs 0) (all_of key rows)
  first_is key rows = go (find (λ r. bytes_eq r.id key) rows)
    where
      go : (o : Option Row) → option_and_then (λ (r : Row). slice_get r.values 0) o ≡ option_and_then (λ (vs : List Text). slice_get vs 0) (option_map (λ (r : Row). r.values) o)
      go None = refl
      go (Some r) = refl

  says : (m : ArgMatches) (s : Said) → rows_of (found_of m) ≡ found_rows → Found known none_so [] s found_rows → Says s m
  says m s rows found = record {
    names = ap (λ (o : Option (List Text)). unwrap_or o []) (raw_values-rows (found_of m) names_id ∙ ap (all_of names_id) rows) ∙ found.names;
    values = λ key free. first_value-rows (found_of m) key ∙ ap (first_of key) rows ∙ first_is key found_rows
        ∙ ap (λ (o : Option (List Text)). option_and_then (λ (vs : List Text). slice_get vs 0) o) (found.values key (text_flip key names_id free)) ∙ last (value_of key s.options);
  }
    where
      last : (o : Option Text) → option_and_then (λ (vs : List Text). slice_get vs 0) (either known none_so None o) ≡ o
      last None = refl
      last (Some value) = refl

  pub reads_matches : AllByRecursion (λ w. ∥ IsUtf8 w ∥₁) words → (m : ArgMatches) → fault_of (form known) words ≡ [] → rows_of (found_of m) ≡ matches_of (form known) words
      → Reads (said known words) (Ok m)
  reads_matches utf8 m none rows =
      go (said_from known words None) (sym (passes_fits utf8) ∙ ap passes none) (is_found known none_so words (resting [] no_value true) tt)
    where
      go : (o : Option Said) → fits [] o ≡ true → Finds known none_so [] o found_rows → (s : Said) × ((o >>= λ s. cond (is_once (option_names s)) (Some s) None) ≡ Some s) × Says s m
      go None e h = absurd (true≢false (sym e))
      go (Some s) e h = (s, rw (sym (new_once (option_names s)) ∙ e) refl, says m s (rows ∙ matches_are) (h e))

  no_kind : (kinds : Kinds) (k : ErrorKind) → IsAmong k kinds → passes kinds ≡ false
  no_kind [] k h = absurd h
  no_kind (x ∷ xs) k h = refl

  pub reads_fault : AllByRecursion (λ w. ∥ IsUtf8 w ∥₁) words → (k : ErrorKind) → (k ≡ kind.OutOfMemory) ⊎ IsAmong k (fault_of (form known) words)
      → Reads (said known words) (Err (fault_for k))
  reads_fault utf8 k h = go k h
    where
      none : (o : Option Said) → fits [] o ≡ false → (o >>= λ s. cond (is_once (option_names s)) (Some s) None) ≡ None
      none None e = refl
      none (Some s) e = rw (sym (new_once (option_names s)) ∙ e) refl

      go : (k : ErrorKind) → (k ≡ kind.OutOfMemory) ⊎ IsAmong k (fault_of (form known) words) → Reads (said known words) (Err (fault_for k))
      go kind.OutOfMemory h = tt
      go other (inl e) = absurd (cc)
      go other (inr h) = none (said_from known words None) (sym (passes_fits utf8) ∙ no_kind (fault_of (form known) words) other h)

-- the same of a command that is this one, by the clauses of a parse
pub parsed : (known : List Text) (none_so : is_among known names_id ≡ false) (words : List Text) → AllByRecursion (λ w. ∥ IsUtf8 w ∥₁) words → (a : App) (m : ArgMatches)
    → a ≡ form known → (is_simple_and_free a ≡ true → fault_of a words ≡ []) → HasMatchesOf a words m → Reads (said known words) (Ok m)
parsed known none_so words utf8 a m e kinds has =
    reads_matches known none_so words utf8 m (ap (λ (x : App). fault_of x words) (sym e) ∙ kinds (ap is_simple_and_free e ∙ is_read known))
    ((has (ap is_simple e ∙ is_simple_form known)).0 ∙ ap (λ (x : App). matches_of x words) e)

pub failed : (known : List Text) (none_so : is_among known names_id ≡ false) (words : List Text) → AllByRecursion (λ w. ∥ IsUtf8 w ∥₁) words → (a : App) (error : Error) (fault : WordsFault)
    → a ≡ form known → (is_simple_and_free a ≡ true → HasKind (fault_of a words) error) → fault ≡ fault_for (kind_of error) → Reads (said known words) (Err fault)
failed known none_so words utf8 a error fault e kinds is =
    subst (λ (f : WordsFault). Reads (said known words) (Err f)) (sym is)
    (reads_fault known none_so words utf8 (kind_of error) (subst (λ (x : App). HasKind (fault_of x words) error) e (kinds (ap is_simple_and_free e ∙ is_read known))))

-- one more option of a command
pub grows : (xs : List (Bor Text)) (i : ℕ) (d : Bor Text) (name : Text) → i < length xs → name ≡ (get_or xs i d).now
    → with_rule (form (texts (take i xs))) (option_rule name) ≡ form (texts (take (i + 1) xs))
grows xs i d name lt is =
    let more : texts (take (i + 1) xs) ≡ texts (take i xs) ++ name ∷ [] =
    ap texts (take_more xs i d lt) ∙ map-append (λ (s : Bor Text). s.now) (take i xs) (get_or xs i d ∷ []) ∙ ap (λ (y : Text). texts (take i xs) ++ y ∷ []) (sym is) in
    let rs : map option_rule (texts (take i xs)) ++ option_rule name ∷ [] ≡ map option_rule (texts (take (i + 1) xs)) =
    sym (ap (map option_rule) more ∙ map-append option_rule (texts (take i xs)) (name ∷ [])) in
    ap (λ (ys : List Rule). record (form []) { top = record (form []).top { rules = names_rule ∷ ys } }) rs

-- words are text
pub utf8_words : {Z : Type 0} (ws : List (String Z)) → AllByRecursion (λ w. ∥ IsUtf8 w ∥₁) (map string_bytes ws)
utf8_words [] = tt
utf8_words (w ∷ ws) = (w.ok, utf8_words ws)
