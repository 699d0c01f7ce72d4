-- What `clap`'s walk over words comes to, beside what the grammar says of them.
use Rattle.std.proofs.Common.{◌≡◌, ◌∙◌, Bool, true, false, not, cond, ◌&&◌, ◌||◌, refl, sym, ap, ap₂, subst, List, [], ◌∷◌, ◌++◌, Option, Some, None, true≢false, append-nil, append_assoc}
use Rattle.std.specs.Prelude.{find, fold, option_map, unwrap_or}
use Rattle.std.specs.List.{AllByRecursion}
use Rattle.std.specs.Str.{bytes_eq, IsUtf8}
use Rattle.clap.specs.Lexer.{long_of}
use Rattle.clap.specs.Kinds.{Kinds, or_else}
use Rattle.clap.specs.Faults.{settle_fault, walk_fault}
use Rattle.clap.specs.Walk.{Row, Waiting, Walk, all_of, has_row, positional, settled, walked, with_values}
use Rattle.clap.specs.declared.builder.value_parser.Reading.TheVariants as reading
use Rattle.clap.specs.declared.parser.matches.ValueSource.TheVariants.{CommandLine}
use Rattle.sal_words.specs.Words.{Text, Said, add_name, add_option, dashes, is_among, is_dashed, nothing_said, option_names, said_from, value_of, value_said, with_name, with_option, word_said}
use Rattle.sal_words.specs.Form.{names_id}
use Rattle.sal_words.proofs.RowLemmas.{row_added, same_text, text_flip, text_same, values_added, values_kept, without_none}
use Rattle.sal_words.proofs.WordLemmas.{Form, ending, long, short, plain, form_of, text_begins}
use Rattle.sal_words.proofs.FormLemmas.{apart, rules, shape_with}
use Rattle.sal_words.proofs.TurnLemmas.{Pending, no_value, a_name, a_value, IsKnown, at, rest, waits, is_new, rows_with, name_row, option_row, passes, never, next, turn_passes, rows_are, settles, waits_settled, end_passes, end_next, plain_passes, plain_next, attached_passes, attached_next, alone_passes, alone_next, unknown_passes, flags_passes, waits_end_passes, waits_end_next, waits_plain_passes, waits_plain_next, waits_long_passes, waits_flags_passes, trailing_passes, trailing_next, trailing_waits_passes}

-- ---- what was given before

-- an option was given, which isn't the argument of all names
abbrev pub is_used : Text → List Row → Bool
is_used key rows = has_row key rows && not (bytes_eq names_id key)

-- options that weren't given before, each once
abbrev pub are_new : List Row → List Text → Bool
are_new rows [] = true
are_new rows (key ∷ keys) = (not (is_used key rows) && not (is_among keys key)) && are_new rows keys

abbrev pub fits : List Row → Option Said → Bool
fits rows None = false
fits rows (Some s) = are_new rows (option_names s)

name_used : (key word : Text) (rows : List Row) → is_used key rows ≡ is_used key (name_row word rows)
name_used key word rows = go (bytes_eq names_id key) (has_row key rows) ∙ ap (λ t. t && not (bytes_eq names_id key)) (sym (row_added names_id reading.AsWritten CommandLine (word ∷ []) key rows))
  where
    go : (a b : Bool) → (b && not a) ≡ ((a || b) && not a)
    go true true = refl
    go true false = refl
    go false b = refl

name_new : (word : Text) (rows : List Row) (keys : List Text) → are_new rows keys ≡ are_new (name_row word rows) keys
name_new word rows [] = refl
name_new word rows (key ∷ keys) = ap₂ (λ (a b : Bool). (not a && not (is_among keys key)) && b) (name_used key word rows) (name_new word rows keys)

pub fits_name : (word : Text) (rows : List Row) (o : Option Said) → fits rows (with_name word o) ≡ fits (name_row word rows) o
fits_name word rows None = refl
fits_name word rows (Some s) = name_new word rows (option_names s)

-- an option that wasn't given before
option_rows : (key word : Text) (rows : List Row) → has_row key rows ≡ false → option_row key word rows ≡ with_values key reading.AsWritten CommandLine (word ∷ []) rows
option_rows key word rows e = ap (with_values key reading.AsWritten CommandLine (word ∷ [])) (without_none key rows e)

option_used : (key word other : Text) (rows : List Row) → has_row key rows ≡ false
    → is_used other (option_row key word rows) ≡ ((bytes_eq key other || has_row other rows) && not (bytes_eq names_id other))
option_used key word other rows e =
    ap (λ t. t && not (bytes_eq names_id other)) (ap (has_row other) (option_rows key word rows e) ∙ row_added key reading.AsWritten CommandLine (word ∷ []) other rows)

option_new : (key word : Text) (rows : List Row) (keys : List Text) → bytes_eq names_id key ≡ false → has_row key rows ≡ false
    → (not (is_among keys key) && are_new rows keys) ≡ are_new (option_row key word rows) keys
option_new key word rows [] free e = refl
option_new key word rows (k ∷ ks) free e = go (bytes_eq k key) refl (option_used key word k rows e) (option_new key word rows ks free e)
  where
    turn : (a b d n : Bool) → (not a && ((not b && d) && n)) ≡ ((not b && d) && (not a && n))
    turn true true d n = refl
    turn true false true n = refl
    turn true false false n = refl
    turn false b d n = refl

    go : (t : Bool) → bytes_eq k key ≡ t → is_used k (option_row key word rows) ≡ ((bytes_eq key k || has_row k rows) && not (bytes_eq names_id k))
        → (not (is_among ks key) && are_new rows ks) ≡ are_new (option_row key word rows) ks
        → (not (t || is_among ks key) && ((not (is_used k rows) && not (is_among ks k)) && are_new rows ks))
        ≡ ((not (is_used k (option_row key word rows)) && not (is_among ks k)) && are_new (option_row key word rows) ks)
    go true same used more =
        let k_is : k ≡ key = same_text k key same in
        let first : bytes_eq key k ≡ true = text_same key k (sym k_is) in
        let other : bytes_eq names_id k ≡ false = ap (bytes_eq names_id) k_is ∙ free in
        rw (used, first, other) refl
    go false same used more =
        rw (used, text_flip k key same, ← more) (turn (is_among ks key) (is_used k rows) (not (is_among ks k)) (are_new rows ks))

pub fits_option : (key word : Text) (rows : List Row) (o : Option Said) → bytes_eq names_id key ≡ false
    → fits rows (with_option key word o) ≡ (not (has_row key rows) && fits (option_row key word rows) o)
fits_option key word rows None free = sym (never (not (has_row key rows)))
fits_option key word rows (Some s) free = go (has_row key rows) refl (λ e. option_new key word rows (option_names s) free e)
  where
    go : (t : Bool) → has_row key rows ≡ t → (has_row key rows ≡ false → (not (is_among (option_names s) key) && are_new rows (option_names s)) ≡ are_new (option_row key word rows) (option_names s))
        → ((not (t && not (bytes_eq names_id key)) && not (is_among (option_names s) key)) && are_new rows (option_names s)) ≡ (not t && are_new (option_row key word rows) (option_names s))
    go true e more = rw free refl
    go false e more = more e

-- ---- the walk

module _ (known : List Text) (none_so : is_among known names_id ≡ false) where
  -- the walk from here on has no fault, and what it then has found
  abbrev pub ok_from : Walk → List Text → Bool
  ok_from w words = passes (or_else (walk_fault (shape_with (rules known)) [] w words) (settle_fault (rules known) false (fold (walked (rules known) []) w words).held))

  abbrev pub rows_from : Walk → List Text → List Row
  rows_from w words = (settled (rules known) (fold (walked (rules known) []) w words).held).rows

  ok_step : (w : Walk) (word : Text) (words : List Text) → ok_from w (word ∷ words) ≡ (turn_passes known none_so w word && ok_from (next known none_so w word) words)
  unfolding walk_fault
  ok_step w word words = three _ _ _
    where
      three : (a b d : Kinds) → passes (or_else (or_else a b) d) ≡ (passes a && passes (or_else b d))
      three [] b d = refl
      three (k ∷ ks) b d = refl

  -- after `--` every word is a name
  trailing_ok : (words : List Text) (rows : List Row) (p : Pending) (w : Waiting) → IsKnown known p → ok_from (at rows p w true) words ≡ is_new p rows
  unfolding walk_fault
  trailing_ok [] rows p w k = settles known none_so rows p k
  trailing_ok (word ∷ words) rows p w k =
      ok_step (at rows p w true) word words
      ∙ ap₂ (λ a b. a && b) (trailing_passes known none_so rows p w word k)
      (ap (λ v. ok_from v words) (trailing_next known none_so rows p w word k) ∙ trailing_ok words (rows_with p rows) (a_name word) positional tt)
      ∙ also_true (is_new p rows)
    where
      also_true : (t : Bool) → (t && true) ≡ t
      also_true true = refl
      also_true false = refl

  trailing_waits_ok : (words : List Text) (rows : List Row) (key : Text) → is_among known key ≡ true → ok_from (waits rows key true) words ≡ false
  unfolding walk_fault
  trailing_waits_ok [] rows key here = waits_settled known none_so rows key here
  trailing_waits_ok (word ∷ words) rows key here =
      ok_step (waits rows key true) word words ∙ ap (λ t. t && ok_from (next known none_so (waits rows key true) word) words) (trailing_waits_passes known none_so rows key word here)

  -- where the walk stands before a word that isn't after `--`
  pub data Stand : Type 0 where
    resting : List Row → Pending → Bool → Stand
    waiting : List Row → Text → Stand

  abbrev pub walk_at : Stand → Walk
  walk_at (resting rows p b) = at rows p (rest b) false
  walk_at (waiting rows key) = waits rows key false

  abbrev pub IsStand : Stand → Type 0
  IsStand (resting rows p b) = IsKnown known p
  IsStand (waiting rows key) = is_among known key ≡ true

  abbrev pub wanted : Stand → List Text → Bool
  wanted (resting rows p b) words = is_new p rows && fits (rows_with p rows) (said_from known words None)
  wanted (waiting rows key) words = fits rows (said_from known words (Some key))

  abbrev pub AreTexts : List Text → Type 0
  AreTexts words = AllByRecursion (λ w. ∥ IsUtf8 w ∥₁) words

  assoc : (a b d : Bool) → ((a && b) && d) ≡ (a && (b && d))
  assoc true b d = refl
  assoc false b d = refl

  true_too : (t : Bool) → (t && true) ≡ t
  true_too true = refl
  true_too false = refl

  refused : (w : Walk) (word : Text) (words : List Text) → turn_passes known none_so w word ≡ false → ok_from w (word ∷ words) ≡ false
  refused w word words e = ok_step w word words ∙ ap (λ t. t && ok_from (next known none_so w word) words) e

  -- an option among the known ones
  long_ok : (word key : Text) (value : Option Text) (words : List Text) (rows : List Row) (p : Pending) (b : Bool) → IsKnown known p → is_among known key ≡ true
      → bytes_eq word dashes ≡ false → long_of word ≡ Some (key, value)
      → ((s : Stand) → IsStand s → ok_from (walk_at s) words ≡ wanted s words)
      → ok_from (at rows p (rest b) false) (word ∷ words) ≡ (is_new p rows && fits (rows_with p rows) (value_said key value (said_from known words)))
  long_ok word key None words rows p b k here e l more =
      ok_step (at rows p (rest b) false) word words
      ∙ ap₂ (λ x y. x && y) (alone_passes known none_so rows p b word key k here e l)
      (ap (λ v. ok_from v words) (alone_next known none_so rows p b word key k here e l) ∙ more (waiting (rows_with p rows) key) here)
  long_ok word key (Some value) words rows p b k here e l more =
      ok_step (at rows p (rest b) false) word words
      ∙ ap₂ (λ x y. x && y) (attached_passes known none_so rows p b word key value k here e l)
      (ap (λ v. ok_from v words) (attached_next known none_so rows p b word key value k here e l) ∙ more (resting (option_row key value (rows_with p rows)) no_value true) tt)
      ∙ assoc (is_new p rows) (not (has_row key (rows_with p rows))) _
      ∙ ap (λ t. is_new p rows && t) (sym (fits_option key value (rows_with p rows) (said_from known words None) (apart known key none_so here)))

  rest_ok : (word : Text) (words : List Text) (rows : List Row) (p : Pending) (b : Bool) → IsKnown known p → ∥ IsUtf8 word ∥₁ → Form word
      → ((s : Stand) → IsStand s → ok_from (walk_at s) words ≡ wanted s words)
      → ok_from (at rows p (rest b) false) (word ∷ words) ≡ (is_new p rows && fits (rows_with p rows) (word_said known word words (said_from known words)))
  rest_ok word words rows p b k text (ending e d) more =
      ok_step (at rows p (rest b) false) word words
      ∙ ap₂ (λ x y. x && y) (end_passes known none_so rows p b word e) (ap (λ v. ok_from v words) (end_next known none_so rows p b word e) ∙ trailing_ok words rows p (rest b) k)
      ∙ rw e (sym (true_too (is_new p rows)))
  rest_ok word words rows p b k text (long o e l opt d) more = go (is_among known o.0) refl
    where
      go : (t : Bool) → is_among known o.0 ≡ t
          → ok_from (at rows p (rest b) false) (word ∷ words) ≡ (is_new p rows && fits (rows_with p rows) (word_said known word words (said_from known words)))
      go false same =
          refused (at rows p (rest b) false) word words (unknown_passes known none_so rows p b word o.0 o.1 same e l) ∙ rw (e, d, opt, same) (sym (never (is_new p rows)))
      go true same = rw (e, d, opt, same) (long_ok word o.0 o.1 words rows p b k same e l more)
  rest_ok word words rows p b k text (short flag flags e l s opt d) more =
      refused (at rows p (rest b) false) word words (flags_passes known none_so rows p b word flag flags e l s (text_begins word flag flags text s))
      ∙ rw (e, d, opt) (sym (never (is_new p rows)))
  rest_ok word words rows p b k text (plain e l s d) more =
      ok_step (at rows p (rest b) false) word words
      ∙ ap₂ (λ x y. x && y) (plain_passes known none_so rows p b word k e l s)
      (ap (λ v. ok_from v words) (plain_next known none_so rows p b word k e l s) ∙ more (resting (rows_with p rows) (a_name word) false) tt)
      ∙ rw (e, d) (ap (λ t. is_new p rows && t) (sym (fits_name word (rows_with p rows) (said_from known words None))))

  waits_ok : (word : Text) (words : List Text) (rows : List Row) (key : Text) → is_among known key ≡ true → ∥ IsUtf8 word ∥₁ → Form word
      → ((s : Stand) → IsStand s → ok_from (walk_at s) words ≡ wanted s words)
      → ok_from (waits rows key false) (word ∷ words) ≡ fits rows (cond (is_dashed word) None (with_option key word (said_from known words None)))
  waits_ok word words rows key here text (ending e d) more =
      ok_step (waits rows key false) word words
      ∙ ap₂ (λ x y. x && y) (waits_end_passes known none_so rows key word e) (ap (λ v. ok_from v words) (waits_end_next known none_so rows key word e) ∙ trailing_waits_ok words rows key here)
      ∙ rw d refl
  waits_ok word words rows key here text (long o e l opt d) more =
      refused (waits rows key false) word words (waits_long_passes known none_so rows key word o.0 o.1 here e l) ∙ rw d refl
  waits_ok word words rows key here text (short flag flags e l s opt d) more =
      refused (waits rows key false) word words (waits_flags_passes known none_so rows key word flag flags e l s (text_begins word flag flags text s)) ∙ rw d refl
  waits_ok word words rows key here text (plain e l s d) more =
      ok_step (waits rows key false) word words
      ∙ ap₂ (λ x y. x && y) (waits_plain_passes known none_so rows key word here e l s)
      (ap (λ v. ok_from v words) (waits_plain_next known none_so rows key word here e l s) ∙ more (resting rows (a_value key word) true) here)
      ∙ rw d (sym (fits_option key word rows (said_from known words None) (apart known key none_so here)))

  pub is_wanted : (words : List Text) (s : Stand) → AreTexts words → IsStand s → ok_from (walk_at s) words ≡ wanted s words
  unfolding said_from walk_fault
  is_wanted [] (resting rows p b) texts k = settles known none_so rows p k ∙ sym (true_too (is_new p rows))
  is_wanted [] (waiting rows key) texts here = waits_settled known none_so rows key here
  is_wanted (word ∷ words) (resting rows p b) texts k = rest_ok word words rows p b k texts.0 (form_of word) (λ s h. is_wanted words s texts.1 h)
  is_wanted (word ∷ words) (waiting rows key) texts here = waits_ok word words rows key here texts.0 (form_of word) (λ s h. is_wanted words s texts.1 h)

  -- ---- what it then has found

  -- the names, and the value of an option
  abbrev pub names_of : List Row → List Text
  names_of rows = unwrap_or (all_of names_id rows) []

  abbrev pub either : Option (List Text) → Option Text → Option (List Text)
  either (Some values) o = Some values
  either None None = None
  either None (Some value) = Some (value ∷ [])

  -- after these rows the words said this, and those were found
  pub record Found (before : List Row) (s : Said) (after : List Row) : Type 0 where
    pub names : names_of after ≡ names_of before ++ s.names
    pub values : (key : Text) → bytes_eq names_id key ≡ false → all_of key after ≡ either (all_of key before) (value_of key s.options)

  abbrev pub Finds : List Row → Option Said → List Row → Type 0
  Finds before None after = Unit {0}
  Finds before (Some s) after = are_new before (option_names s) ≡ true → Found before s after

  either_none : (o : Option (List Text)) → o ≡ either o None
  either_none (Some values) = refl
  either_none None = refl

  found_same : (rows : List Row) → Found rows nothing_said rows
  found_same rows = record { names = sym (append-nil (names_of rows)); values = λ key free. either_none (all_of key rows) }

  name_found : (rows : List Row) (word : Text) (s : Said) (after : List Row) → Found (name_row word rows) s after → Found rows (add_name word s) after
  name_found rows word s after h = record {
    names = h.names ∙ ap (λ o. unwrap_or o [] ++ s.names) (values_added names_id reading.AsWritten CommandLine (word ∷ []) rows) ∙ append_assoc (names_of rows) (word ∷ []) s.names;
    values = λ key free. h.values key free ∙ ap (λ o. either o (value_of key s.options)) (values_kept names_id reading.AsWritten CommandLine (word ∷ []) key rows free);
  }

  pub finds_name : (rows : List Row) (word : Text) (o : Option Said) (after : List Row) → Finds (name_row word rows) o after → Finds rows (with_name word o) after
  finds_name rows word None after h = tt
  finds_name rows word (Some s) after h = λ e. name_found rows word s after (h (sym (name_new word rows (option_names s)) ∙ e))

  no_values : (key : Text) (rows : List Row) → has_row key rows ≡ false → all_of key rows ≡ None
  no_values key [] e = refl
  no_values key (r ∷ rs) e = go (bytes_eq r.id key) e (λ h. no_values key rs h)
    where
      go : (t : Bool) → (t || has_row key rs) ≡ false → (has_row key rs ≡ false → all_of key rs ≡ None)
          → option_map (λ (x : Row). x.values) (cond t (Some r) (find (λ x. bytes_eq x.id key) rs)) ≡ None
      go true h more = absurd (true≢false h)
      go false h more = more h

  option_found : (rows : List Row) (key word : Text) (s : Said) (after : List Row) → bytes_eq names_id key ≡ false → has_row key rows ≡ false
      → Found (option_row key word rows) s after → Found rows (add_option key word s) after
  option_found rows key word s after free new h =
      let rows_is = option_rows key word rows new in
      record {
        names = h.names ∙ ap (λ rs. unwrap_or (all_of names_id rs) [] ++ s.names) rows_is
            ∙ ap (λ o. unwrap_or o [] ++ s.names) (values_kept key reading.AsWritten CommandLine (word ∷ []) names_id rows (text_flip names_id key free));
        values = λ other apart. h.values other apart ∙ ap (λ rs. either (all_of other rs) (value_of other s.options)) rows_is
            ∙ go other (bytes_eq key other) refl;
      }
    where
      go : (other : Text) (t : Bool) → bytes_eq key other ≡ t
          → either (all_of other (with_values key reading.AsWritten CommandLine (word ∷ []) rows)) (value_of other s.options)
          ≡ either (all_of other rows) (cond t (Some word) (value_of other s.options))
      go other false e = ap (λ o. either o (value_of other s.options)) (values_kept key reading.AsWritten CommandLine (word ∷ []) other rows e)
      go other true e =
          let here : all_of key (with_values key reading.AsWritten CommandLine (word ∷ []) rows) ≡ Some (word ∷ []) =
          values_added key reading.AsWritten CommandLine (word ∷ []) rows ∙ ap (λ o. Some (unwrap_or o [] ++ word ∷ [])) (no_values key rows new) in
          let both : (all_of key (with_values key reading.AsWritten CommandLine (word ∷ []) rows) ≡ Some (word ∷ [])) × (all_of key rows ≡ None) = (here, no_values key rows new) in
          let moved = subst (λ k. (all_of k (with_values key reading.AsWritten CommandLine (word ∷ []) rows) ≡ Some (word ∷ [])) × (all_of k rows ≡ None)) (same_text key other e) both in
          rw (moved.0, moved.1) refl

  -- `a && b` is true
  both_true : (a b : Bool) → (a && b) ≡ true → (a ≡ true) × (b ≡ true)
  both_true true b e = (refl, e)
  both_true false b e = absurd (true≢false (sym e))

  not_true : (a : Bool) → not a ≡ true → a ≡ false
  not_true false e = refl
  not_true true e = absurd (true≢false (sym e))

  pub finds_option : (rows : List Row) (key word : Text) (o : Option Said) (after : List Row) → bytes_eq names_id key ≡ false
      → Finds (option_row key word rows) o after → Finds rows (with_option key word o) after
  finds_option rows key word None after free h = tt
  finds_option rows key word (Some s) after free h = λ e.
      let parts = both_true (not (has_row key rows)) (are_new (option_row key word rows) (option_names s)) (sym (fits_option key word rows (Some s) free) ∙ e) in
      option_found rows key word s after free (not_true (has_row key rows) parts.0) (h parts.1)

  trailing_found : (words : List Text) (rows : List Row) (p : Pending) (w : Waiting) → IsKnown known p
      → Found (rows_with p rows) (record { names = words; options = [] }) (rows_from (at rows p w true) words)
  trailing_found [] rows p w k = subst (Found (rows_with p rows) nothing_said) (sym (rows_are known none_so rows p k)) (found_same (rows_with p rows))
  trailing_found (word ∷ words) rows p w k =
      let more = trailing_found words (rows_with p rows) (a_name word) positional tt in
      let here = name_found (rows_with p rows) word (record { names = words; options = [] }) _ more in
      subst (λ v. Found (rows_with p rows) (record { names = word ∷ words; options = [] }) (rows_from v words)) (sym (trailing_next known none_so rows p w word k)) here

  abbrev pub Reached : Stand → List Text → Type 0
  Reached (resting rows p b) words = Finds (rows_with p rows) (said_from known words None) (rows_from (at rows p (rest b) false) words)
  Reached (waiting rows key) words = Finds rows (said_from known words (Some key)) (rows_from (waits rows key false) words)

  long_found : (word key : Text) (value : Option Text) (words : List Text) (rows : List Row) (p : Pending) (b : Bool) → IsKnown known p → is_among known key ≡ true
      → bytes_eq word dashes ≡ false → long_of word ≡ Some (key, value) → ((s : Stand) → IsStand s → Reached s words)
      → Finds (rows_with p rows) (value_said key value (said_from known words)) (rows_from (next known none_so (at rows p (rest b) false) word) words)
  long_found word key None words rows p b k here e l more =
      subst (λ v. Finds (rows_with p rows) (said_from known words (Some key)) (rows_from v words)) (sym (alone_next known none_so rows p b word key k here e l))
      (more (waiting (rows_with p rows) key) here)
  long_found word key (Some value) words rows p b k here e l more =
      subst (λ v. Finds (rows_with p rows) (with_option key value (said_from known words None)) (rows_from v words)) (sym (attached_next known none_so rows p b word key value k here e l))
      (finds_option (rows_with p rows) key value (said_from known words None) _ (apart known key none_so here) (more (resting (option_row key value (rows_with p rows)) no_value true) tt))

  rest_found : (word : Text) (words : List Text) (rows : List Row) (p : Pending) (b : Bool) → IsKnown known p → Form word → ((s : Stand) → IsStand s → Reached s words)
      → Finds (rows_with p rows) (word_said known word words (said_from known words)) (rows_from (next known none_so (at rows p (rest b) false) word) words)
  rest_found word words rows p b k (ending e d) more =
      rw e (λ h. subst (λ v. Found (rows_with p rows) (record { names = words; options = [] }) (rows_from v words)) (sym (end_next known none_so rows p b word e)) (trailing_found words rows p (rest b) k))
  rest_found word words rows p b k (long o e l opt d) more = go (is_among known o.0) refl
    where
      go : (t : Bool) → is_among known o.0 ≡ t
          → Finds (rows_with p rows) (word_said known word words (said_from known words)) (rows_from (next known none_so (at rows p (rest b) false) word) words)
      go false same = rw (e, d, opt, same) tt
      go true same = rw (e, d, opt, same) (long_found word o.0 o.1 words rows p b k same e l more)
  rest_found word words rows p b k (short flag flags e l s opt d) more = rw (e, d, opt) tt
  rest_found word words rows p b k (plain e l s d) more =
      rw (e, d) (subst (λ v. Finds (rows_with p rows) (with_name word (said_from known words None)) (rows_from v words)) (sym (plain_next known none_so rows p b word k e l s))
      (finds_name (rows_with p rows) word (said_from known words None) _ (more (resting (rows_with p rows) (a_name word) false) tt)))

  waits_found : (word : Text) (words : List Text) (rows : List Row) (key : Text) → is_among known key ≡ true → Form word → ((s : Stand) → IsStand s → Reached s words)
      → Finds rows (cond (is_dashed word) None (with_option key word (said_from known words None))) (rows_from (next known none_so (waits rows key false) word) words)
  waits_found word words rows key here (ending e d) more = rw d tt
  waits_found word words rows key here (long o e l opt d) more = rw d tt
  waits_found word words rows key here (short flag flags e l s opt d) more = rw d tt
  waits_found word words rows key here (plain e l s d) more =
      rw d (subst (λ v. Finds rows (with_option key word (said_from known words None)) (rows_from v words)) (sym (waits_plain_next known none_so rows key word here e l s))
      (finds_option rows key word (said_from known words None) _ (apart known key none_so here) (more (resting rows (a_value key word) true) here)))

  pub is_found : (words : List Text) (s : Stand) → IsStand s → Reached s words
  unfolding said_from
  is_found [] (resting rows p b) k = λ e. subst (Found (rows_with p rows) nothing_said) (sym (rows_are known none_so rows p k)) (found_same (rows_with p rows))
  is_found [] (waiting rows key) here = tt
  is_found (word ∷ words) (resting rows p b) k = rest_found word words rows p b k (form_of word) (λ s h. is_found words s h)
  is_found (word ∷ words) (waiting rows key) here = waits_found word words rows key here (form_of word) (λ s h. is_found words s h)
