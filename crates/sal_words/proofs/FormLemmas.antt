-- What `clap` makes of a command before it reads words.
use Rattle.std.proofs.Common.{◌≡◌, ◌∙◌, ℕ, ◌+◌, Bool, true, false, not, cond, ◌&&◌, ◌||◌, refl, sym, ap, arith, List, [], ◌∷◌, map, Some, None, is_some, true≢false}
use Rattle.std.specs.Prelude.{codes, find, fold}
use Rattle.std.specs.List.{list_all, list_any}
use Rattle.std.specs.Str.{bytes_eq}
use Rattle.clap.specs.Walk.{Rule, arg_by_id, arg_by_index, arg_by_long, arg_by_short, has_long, has_short, is_early_multiple}
use Rattle.clap.specs.Simple.{App, Shape, built, filled_from, is_buildable, is_in_order, is_ready, is_ready_leaf, is_simple, new_shape}
use Rattle.clap.specs.Faults.{is_free_app, is_simple_and_free}
use Rattle.clap.specs.declared.builder.action.ArgAction.TheVariants.{Append, Set}
use Rattle.clap.specs.declared.builder.value_parser.ValueParser.TheVariants as parser
use Rattle.clap.proofs.WalkLemmas.{both}
use Rattle.sal_words.specs.Words.{Text, is_among}
use Rattle.sal_words.specs.Form.{form, names_id, names_rule, option_rule}
use Rattle.sal_words.proofs.RowLemmas.{same_text}

-- the arguments as they are read
abbrev pub names_built : Rule
names_built = record names_rule { action = Some Append; parser = Some parser.String; range = Some (record { start_inclusive = 1; end_inclusive = 1 }); index = Some 1 }

abbrev pub option_built : Text → Rule
option_built name = record (option_rule name) { action = Some Set; parser = Some parser.String; range = Some (record { start_inclusive = 1; end_inclusive = 1 }) }

abbrev pub rules : List Text → List Rule
rules known = names_built ∷ map option_built known

abbrev pub shape_with : List Rule → Shape
shape_with rs = record (new_shape (codes "salsify")) {
  rules = rs;
  no_binary_name = true;
  disable_help_flag = true;
  disable_version_flag = true;
  disable_help_subcommand = true;
  is_built = true;
}

abbrev pub app_with : List Rule → App
app_with rs = record { top = shape_with rs; subs = [] }

filled_options : (known : List Text) (i : ℕ) → filled_from i (map option_rule known) ≡ map option_built known
filled_options [] i = refl
filled_options (name ∷ rest) i = ap (λ rs. option_built name ∷ rs) (filled_options rest i)

pub built_form : (known : List Text) → built (form known) ≡ app_with (rules known)
built_form known = ap (λ rs. app_with (names_built ∷ rs)) (filled_options known 2)

each_option : (p : Rule → Bool) (f : Text → Rule) (known : List Text) → ((name : Text) → p (f name) ≡ true) → list_all p (map f known) ≡ true
each_option p f [] each = refl
each_option p f (name ∷ rest) each = rw (each name) (each_option p f rest each)

pub no_option : (p : Rule → Bool) (f : Text → Rule) (known : List Text) → ((name : Text) → p (f name) ≡ false) → list_any p (map f known) ≡ false
no_option p f [] none = refl
no_option p f (name ∷ rest) none = rw (none name) (no_option p f rest none)

count_none : (known : List Text) (n : ℕ) → fold (λ (count : ℕ) (a : Rule). count + cond (is_some a.index) 1 0) n (map option_built known) ≡ n
count_none [] n = refl
count_none (key ∷ rest) n =
    let same : n + 0 ≡ n = omega arith in
    ap (λ k. fold (λ (count : ℕ) (a : Rule). count + cond (is_some a.index) 1 0) k (map option_built rest)) same ∙ count_none rest n

in_order : (known : List Text) → is_in_order (rules known) ≡ true
in_order known =
    let early = no_option (is_early_multiple 1) option_built known (λ key. refl) in
    ap (λ n. not (list_any (is_early_multiple n) (rules known))) (count_none known 1) ∙ ap not early

-- the exact clauses of `clap` speak of such a command
pub is_read : (known : List Text) → is_simple_and_free (form known) ≡ true
is_read known =
    let simple = each_option (λ a. a.is_simple) option_rule known (λ name. refl) in
    let built_simple = each_option (λ a. a.is_simple) option_built known (λ name. refl) in
    let free = each_option (λ a. a.is_free) option_built known (λ name. refl) in
    ap (λ a. (is_buildable (form known) && (is_ready a.top && list_all is_ready_leaf a.subs)) && is_free_app a) (built_form known)
    ∙ rw (simple, built_simple, free, in_order known) refl

pub is_simple_form : (known : List Text) → is_simple (form known) ≡ true
is_simple_form known = (both (is_simple (form known)) _ (is_read known)).0

module _ (known : List Text) where
  pub long_is : (name : Text) → arg_by_long (rules known) name ≡ cond (is_among known name) (Some (option_built name)) None
  long_is name = go known
    where
      go : (ks : List Text) → find (λ a. not (is_some a.index) && has_long a name) (map option_built ks) ≡ cond (is_among ks name) (Some (option_built name)) None
      go [] = refl
      go (k ∷ ks) = here (bytes_eq k name) refl (go ks)
        where
          here : (t : Bool) → bytes_eq k name ≡ t → find (λ a. not (is_some a.index) && has_long a name) (map option_built ks) ≡ cond (is_among ks name) (Some (option_built name)) None
              → cond (t || false) (Some (option_built k)) (find (λ a. not (is_some a.index) && has_long a name) (map option_built ks)) ≡ cond (t || is_among ks name) (Some (option_built name)) None
          here true e h = ap (λ x. Some (option_built x)) (same_text k name e)
          here false e h = h

  pub short_is : (flag : ℕ) → arg_by_short (rules known) flag ≡ None
  short_is flag = go known
    where
      go : (ks : List Text) → find (λ a. not (is_some a.index) && has_short a flag) (map option_built ks) ≡ None
      go [] = refl
      go (k ∷ ks) = go ks

  -- an option isn't called as the argument of all names is
  pub apart : (name : Text) → is_among known names_id ≡ false → is_among known name ≡ true → bytes_eq names_id name ≡ false
  apart name none here = go (bytes_eq names_id name) refl
    where
      go : (t : Bool) → bytes_eq names_id name ≡ t → t ≡ false
      go false e = refl
      go true e = absurd (true≢false (sym (ap (λ x. is_among known x) (same_text names_id name e) ∙ here) ∙ none))

  pub id_is : (name : Text) → is_among known names_id ≡ false → is_among known name ≡ true → arg_by_id (rules known) name ≡ Some (option_built name)
  id_is name none here = rw (apart name none here) (go known here)
    where
      go : (ks : List Text) → is_among ks name ≡ true → find (λ a. bytes_eq a.id name) (map option_built ks) ≡ Some (option_built name)
      go [] e = absurd (true≢false (sym e))
      go (k ∷ ks) e = at (bytes_eq k name) refl e (λ h. go ks h)
        where
          at : (t : Bool) → bytes_eq k name ≡ t → (t || is_among ks name) ≡ true → (is_among ks name ≡ true → find (λ a. bytes_eq a.id name) (map option_built ks) ≡ Some (option_built name))
              → cond t (Some (option_built k)) (find (λ a. bytes_eq a.id name) (map option_built ks)) ≡ Some (option_built name)
          at true same h more = ap (λ x. Some (option_built x)) (same_text k name same)
          at false same h more = more h

  pub names_is : arg_by_id (rules known) names_id ≡ Some names_built
  names_is = refl

  pub first_is : arg_by_index (rules known) 1 ≡ Some names_built
  first_is = refl
