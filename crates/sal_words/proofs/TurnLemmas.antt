-- What one word makes of `clap`'s walk over words.
use Rattle.std.proofs.Common.{◌≡◌, ◌∙◌, ℕ, Bool, true, false, not, cond, ◌&&◌, refl, sym, ap, ap₂, List, [], ◌∷◌, length, Option, Some, None, is_some, true≢false}
use Rattle.std.specs.Prelude.{slice_get}
use Rattle.std.specs.Str.{bytes_eq, chars}
use Rattle.clap.specs.Lexer.{long_of, short_of}
use Rattle.clap.specs.Kinds.{Kinds, or_else}
use Rattle.clap.specs.Faults.{bundle_fault, bundle_step_fault, flags_fault, react_fault, settle_fault, turn_fault, use_fault}
use Rattle.clap.specs.Walk.{Held, Row, Waiting, Walk, has_row, is_pending, idle, option, positional, reacted, settled, settled_rows, walked, with_values, without}
use Rattle.clap.specs.declared.error.kind.ErrorKind.TheVariants.{ArgumentConflict}
use Rattle.clap.specs.declared.builder.value_parser.Reading.TheVariants as reading
use Rattle.clap.specs.declared.parser.matches.ValueSource.TheVariants.{CommandLine}
use Rattle.sal_words.specs.Words.{Text, dashes, is_among}
use Rattle.sal_words.specs.Form.{names_id}
use Rattle.sal_words.proofs.FormLemmas.{id_is, long_is, names_built, option_built, rules, shape_with, short_is}
use Rattle.sal_words.proofs.RowLemmas.{text_same}
use Rattle.sal_words.proofs.WordLemmas.{Begins}

-- no fault
abbrev pub passes : Kinds → Bool
passes [] = true
passes (k ∷ ks) = false

pub passes_both : (a b : Kinds) → passes (or_else a b) ≡ (passes a && passes b)
passes_both [] b = refl
passes_both (k ∷ ks) b = refl

pub passes_first : (a : Kinds) → passes (or_else a []) ≡ passes a
passes_first [] = refl
passes_first (k ∷ ks) = refl

pub fails_both : (a b : Kinds) → passes a ≡ false → passes (or_else a b) ≡ false
fails_both [] b e = absurd (true≢false e)
fails_both (k ∷ ks) b e = refl

-- one more value of a name, or of an option
abbrev pub name_row : Text → List Row → List Row
name_row word rows = with_values names_id reading.AsWritten CommandLine (word ∷ []) rows

abbrev pub option_row : Text → Text → List Row → List Row
option_row name value rows = with_values name reading.AsWritten CommandLine (value ∷ []) (without name rows)

-- a value that was read and isn't written down yet
pub data Pending : Type 0 where
  no_value : Pending
  a_name : Text → Pending
  a_value : Text → Text → Pending

abbrev pub pending_as : Pending → Option (Text × List Text)
pending_as no_value = None
pending_as (a_name word) = Some (names_id, word ∷ [])
pending_as (a_value key word) = Some (key, word ∷ [])

abbrev pub rows_with : Pending → List Row → List Row
rows_with no_value rows = rows
rows_with (a_name word) rows = name_row word rows
rows_with (a_value key word) rows = option_row key word rows

-- an option that it gives wasn't given before
abbrev pub is_new : Pending → List Row → Bool
is_new no_value rows = true
is_new (a_name word) rows = true
is_new (a_value key word) rows = not (has_row key rows)

abbrev pub IsKnown : List Text → Pending → Type 0
IsKnown known no_value = Unit {0}
IsKnown known (a_name word) = Unit {0}
IsKnown known (a_value key word) = is_among known key ≡ true

abbrev pub held_with : List Row → Pending → Held
held_with rows p = record { rows = rows; pending = pending_as p; skip = 0 }

-- where the walk stands between words
abbrev pub at : List Row → Pending → Waiting → Bool → Walk
at rows p waiting trailing = record { held = held_with rows p; waiting = waiting; position = 1; is_trailing = trailing; stopped = None }

-- it waits for the value of an option
abbrev pub held_waits : List Row → Text → Held
held_waits rows key = record { rows = rows; pending = Some (key, []); skip = 0 }

abbrev pub waits : List Row → Text → Bool → Walk
waits rows key trailing = record { held = held_waits rows key; waiting = option key; position = 1; is_trailing = trailing; stopped = None }

-- nothing waits for the next word, after an option or at the start, and after a name
abbrev pub rest : Bool → Waiting
rest true = idle
rest false = positional

pub never : (t : Bool) → (t && false) ≡ false
never true = refl
never false = refl

module _ (known : List Text) (none_so : is_among known names_id ≡ false) where
  pub use_passes : (key word : Text) (rows : List Row) → passes (use_fault false (option_built key) (word ∷ []) rows) ≡ not (has_row key rows)
  use_passes key word rows = go (has_row key rows)
    where
      go : (t : Bool) → passes (or_else (cond (t && true) (ArgumentConflict ∷ []) []) []) ≡ not t
      go true = refl
      go false = refl

  pub settled_is : (rows : List Row) (p : Pending) → IsKnown known p → settled (rules known) (held_with rows p) ≡ held_with (rows_with p rows) no_value
  settled_is rows no_value k = refl
  settled_is rows (a_name word) k = refl
  settled_is rows (a_value key word) k = rw (id_is known key none_so k) refl

  pub settles : (rows : List Row) (p : Pending) → IsKnown known p → passes (settle_fault (rules known) false (held_with rows p)) ≡ is_new p rows
  settles rows no_value k = refl
  settles rows (a_name word) k = refl
  settles rows (a_value key word) k = rw (id_is known key none_so k) (use_passes key word rows)

  pub waits_settled : (rows : List Row) (key : Text) → is_among known key ≡ true → passes (settle_fault (rules known) false (held_waits rows key)) ≡ false
  waits_settled rows key k = rw (id_is known key none_so k) refl

  pub rows_are : (rows : List Row) (p : Pending) → IsKnown known p → settled_rows (rules known) (pending_as p) rows ≡ rows_with p rows
  rows_are rows p k = ap (λ (h : Held). h.rows) (settled_is rows p k)

  reacted_is : (rows : List Row) (p : Pending) (key word : Text) → IsKnown known p
      → reacted (rules known) (option_built key) (word ∷ []) (held_with rows p) ≡ held_with (option_row key word (rows_with p rows)) no_value
  reacted_is rows p key word k = ap (λ (rs : List Row). held_with (option_row key word rs) no_value) (rows_are rows p k)

  reacts : (rows : List Row) (p : Pending) (key word : Text) → IsKnown known p
      → passes (react_fault (rules known) false (option_built key) (word ∷ []) (held_with rows p)) ≡ (is_new p rows && not (has_row key (rows_with p rows)))
  reacts rows p key word k =
      passes_both (settle_fault (rules known) false (held_with rows p)) (use_fault false (option_built key) (word ∷ []) (settled (rules known) (held_with rows p)).rows)
      ∙ ap₂ (λ x y. x && y) (settles rows p k) (ap (λ (rs : List Row). passes (use_fault false (option_built key) (word ∷ []) rs)) (rows_are rows p k) ∙ use_passes key word (rows_with p rows))

  -- flags aren't known
  bundle_fails : (rows : List Row) (pending : Option (Text × List Text)) (flag : ℕ) (flags : Text) → Begins (flag ∷ flags)
      → passes (bundle_fault (rules known) false (flag ∷ flags) (record { rows = rows; pending = pending; skip = 0 })) ≡ false
  unfolding flags_fault
  bundle_fails rows pending flag flags some = go (slice_get (chars (flag ∷ flags)) 0) some
    where
      go : (o : Option ℕ) → is_some o ≡ true
          → passes (bundle_step_fault (rules known) false o (flag ∷ flags) 0 (record { rows = rows; pending = pending; skip = 0 }) (flags_fault (rules known) false (length flags))) ≡ false
      go None e = absurd (true≢false (sym e))
      go (Some first) e = rw (short_is known first) refl

  -- what comes of a word: whether it has no fault, and where the walk then stands
  abbrev pub turn_passes : Walk → Text → Bool
  turn_passes w word = passes (turn_fault (shape_with (rules known)) [] w word)

  abbrev pub next : Walk → Text → Walk
  next w word = walked (rules known) [] w word

  pub end_passes : (rows : List Row) (p : Pending) (b : Bool) (word : Text) → bytes_eq word dashes ≡ true → turn_passes (at rows p (rest b) false) word ≡ true
  end_passes rows p true word e = rw e refl
  end_passes rows p false word e = rw e refl

  pub end_next : (rows : List Row) (p : Pending) (b : Bool) (word : Text) → bytes_eq word dashes ≡ true → next (at rows p (rest b) false) word ≡ at rows p (rest b) true
  unfolding walked
  end_next rows p true word e = rw e refl
  end_next rows p false word e = rw e refl

  -- a plain word is a name
  pub plain_passes : (rows : List Row) (p : Pending) (b : Bool) (word : Text) → IsKnown known p → bytes_eq word dashes ≡ false → long_of word ≡ None
      → short_of word ≡ None → turn_passes (at rows p (rest b) false) word ≡ is_new p rows
  plain_passes rows p true word k e l s = rw (e, l, s, never (is_pending names_built (pending_as p))) (settles rows p k)
  plain_passes rows p false word k e l s = rw (e, l, s, never (is_pending names_built (pending_as p))) (settles rows p k)

  pub plain_next : (rows : List Row) (p : Pending) (b : Bool) (word : Text) → IsKnown known p → bytes_eq word dashes ≡ false → long_of word ≡ None
      → short_of word ≡ None → next (at rows p (rest b) false) word ≡ at (rows_with p rows) (a_name word) positional false
  unfolding walked
  plain_next rows p true word k e l s = rw (e, l, s, settled_is rows p k, never (is_pending names_built (pending_as p))) refl
  plain_next rows p false word k e l s = rw (e, l, s, settled_is rows p k, never (is_pending names_built (pending_as p))) refl

  -- an option with its value after `=`
  pub attached_passes : (rows : List Row) (p : Pending) (b : Bool) (word key value : Text) → IsKnown known p → is_among known key ≡ true → bytes_eq word dashes ≡ false
      → long_of word ≡ Some (key, Some value) → turn_passes (at rows p (rest b) false) word ≡ (is_new p rows && not (has_row key (rows_with p rows)))
  attached_passes rows p true word key value k here e l = rw (e, l, long_is known key, here) (passes_first _ ∙ reacts rows p key value k)
  attached_passes rows p false word key value k here e l = rw (e, l, long_is known key, here) (passes_first _ ∙ reacts rows p key value k)

  pub attached_next : (rows : List Row) (p : Pending) (b : Bool) (word key value : Text) → IsKnown known p → is_among known key ≡ true → bytes_eq word dashes ≡ false
      → long_of word ≡ Some (key, Some value) → next (at rows p (rest b) false) word ≡ at (option_row key value (rows_with p rows)) no_value idle false
  unfolding walked
  attached_next rows p true word key value k here e l = rw (e, l, long_is known key, here, reacted_is rows p key value k) refl
  attached_next rows p false word key value k here e l = rw (e, l, long_is known key, here, reacted_is rows p key value k) refl

  -- an option whose value is the next word
  pub alone_passes : (rows : List Row) (p : Pending) (b : Bool) (word key : Text) → IsKnown known p → is_among known key ≡ true → bytes_eq word dashes ≡ false
      → long_of word ≡ Some (key, None) → turn_passes (at rows p (rest b) false) word ≡ is_new p rows
  alone_passes rows p true word key k here e l = rw (e, l, long_is known key, here) (passes_first _ ∙ settles rows p k)
  alone_passes rows p false word key k here e l = rw (e, l, long_is known key, here) (passes_first _ ∙ settles rows p k)

  pub alone_next : (rows : List Row) (p : Pending) (b : Bool) (word key : Text) → IsKnown known p → is_among known key ≡ true → bytes_eq word dashes ≡ false
      → long_of word ≡ Some (key, None) → next (at rows p (rest b) false) word ≡ waits (rows_with p rows) key false
  unfolding walked
  alone_next rows p true word key k here e l = rw (e, l, long_is known key, here, rows_are rows p k) refl
  alone_next rows p false word key k here e l = rw (e, l, long_is known key, here, rows_are rows p k) refl

  -- an option that isn't known, and flags
  pub unknown_passes : (rows : List Row) (p : Pending) (b : Bool) (word key : Text) (value : Option Text) → is_among known key ≡ false → bytes_eq word dashes ≡ false
      → long_of word ≡ Some (key, value) → turn_passes (at rows p (rest b) false) word ≡ false
  unknown_passes rows p true word key value none e l = rw (e, l, long_is known key, none) refl
  unknown_passes rows p false word key value none e l = rw (e, l, long_is known key, none) refl

  pub flags_passes : (rows : List Row) (p : Pending) (b : Bool) (word : Text) (flag : ℕ) (flags : Text) → bytes_eq word dashes ≡ false → long_of word ≡ None
      → short_of word ≡ Some (flag ∷ flags) → Begins (flag ∷ flags) → turn_passes (at rows p (rest b) false) word ≡ false
  flags_passes rows p true word flag flags e l s some = rw (e, l, s) (fails_both _ _ (bundle_fails rows (pending_as p) flag flags some))
  flags_passes rows p false word flag flags e l s some = rw (e, l, s) (fails_both _ _ (bundle_fails rows (pending_as p) flag flags some))

  -- while it waits for a value
  pub waits_end_passes : (rows : List Row) (key word : Text) → bytes_eq word dashes ≡ true → turn_passes (waits rows key false) word ≡ true
  waits_end_passes rows key word e = rw e refl

  pub waits_end_next : (rows : List Row) (key word : Text) → bytes_eq word dashes ≡ true → next (waits rows key false) word ≡ waits rows key true
  unfolding walked
  waits_end_next rows key word e = rw e refl

  pub waits_plain_passes : (rows : List Row) (key word : Text) → is_among known key ≡ true → bytes_eq word dashes ≡ false → long_of word ≡ None → short_of word ≡ None
      → turn_passes (waits rows key false) word ≡ true
  waits_plain_passes rows key word here e l s = rw (e, l, s) refl

  pub waits_plain_next : (rows : List Row) (key word : Text) → is_among known key ≡ true → bytes_eq word dashes ≡ false → long_of word ≡ None → short_of word ≡ None
      → next (waits rows key false) word ≡ at rows (a_value key word) idle false
  unfolding walked
  waits_plain_next rows key word here e l s = rw (e, l, s, id_is known key none_so here, text_same key key refl) refl

  pub waits_long_passes : (rows : List Row) (key word other : Text) (value : Option Text) → is_among known key ≡ true → bytes_eq word dashes ≡ false
      → long_of word ≡ Some (other, value) → turn_passes (waits rows key false) word ≡ false
  waits_long_passes rows key word other value here e l = go (is_among known other) value refl l
    where
      go : (t : Bool) (v : Option Text) → is_among known other ≡ t → long_of word ≡ Some (other, v) → turn_passes (waits rows key false) word ≡ false
      go false v same m = rw (e, m, long_is known other, same) refl
      go true None same m = rw (e, m, long_is known other, same) (fails_both _ _ (waits_settled rows key here))
      go true (Some text) same m = rw (e, m, long_is known other, same) (fails_both _ _ (fails_both _ _ (waits_settled rows key here)))

  pub waits_flags_passes : (rows : List Row) (key word : Text) (flag : ℕ) (flags : Text) → bytes_eq word dashes ≡ false → long_of word ≡ None
      → short_of word ≡ Some (flag ∷ flags) → Begins (flag ∷ flags) → turn_passes (waits rows key false) word ≡ false
  waits_flags_passes rows key word flag flags e l s some = rw (e, l, s) (fails_both _ _ (bundle_fails rows (Some (key, [])) flag flags some))

  -- after `--`
  pub trailing_passes : (rows : List Row) (p : Pending) (w : Waiting) (word : Text) → IsKnown known p → turn_passes (at rows p w true) word ≡ is_new p rows
  trailing_passes rows p w word k = rw (never (is_pending names_built (pending_as p))) (settles rows p k)

  pub trailing_next : (rows : List Row) (p : Pending) (w : Waiting) (word : Text) → IsKnown known p → next (at rows p w true) word ≡ at (rows_with p rows) (a_name word) positional true
  unfolding walked
  trailing_next rows p w word k = rw (settled_is rows p k, never (is_pending names_built (pending_as p))) refl

  pub trailing_waits_passes : (rows : List Row) (key word : Text) → is_among known key ≡ true → turn_passes (waits rows key true) word ≡ false
  trailing_waits_passes rows key word here = rw (never (is_pending names_built (Some (key, [])))) (waits_settled rows key here)
