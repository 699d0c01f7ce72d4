-- What `clap` has found for a name, after one more value.
use Rattle.std.proofs.Common.{◌≡◌, ◌∙◌, Bool, true, false, cond, ◌||◌, refl, sym, ap, List, [], ◌∷◌, ◌++◌, Some, append-nil, true≢false}
use Rattle.std.specs.Prelude.{find, option_map, unwrap_or}
use Rattle.std.specs.Str.{bytes_eq}
use Rattle.std.proofs.lemmas.Slice.Eq.{bytes_eq-Decides}
use Rattle.clap.specs.Walk.{Row, all_of, at_row, has_row, more_values, with_values, without}
use Rattle.clap.specs.declared.builder.value_parser.Reading.{Reading}
use Rattle.clap.specs.declared.parser.matches.ValueSource.{ValueSource}
use Rattle.sal_words.specs.Words.{Text}

pub same_text : (x y : Text) → bytes_eq x y ≡ true → x ≡ y
same_text x y e = (bytes_eq-Decides x y).0 e

pub text_same : (x y : Text) → x ≡ y → bytes_eq x y ≡ true
text_same x y e = (bytes_eq-Decides x y).1 e

pub text_flip : (x y : Text) → bytes_eq x y ≡ false → bytes_eq y x ≡ false
text_flip x y e = go (bytes_eq y x) refl
  where
    go : (t : Bool) → bytes_eq y x ≡ t → bytes_eq y x ≡ false
    go false h = h
    go true h = absurd (true≢false (sym (text_same x y (sym (same_text y x h))) ∙ e))

-- a new name is added at the end
pub at_new_row : (id : Text) (change : Row → List Row) (missing rows : List Row) → has_row id rows ≡ false → at_row id change missing rows ≡ rows ++ missing
at_new_row id change missing [] e = refl
at_new_row id change missing (r ∷ rs) e = go (bytes_eq r.id id) e (λ h. at_new_row id change missing rs h)
  where
    go : (t : Bool) → (t || has_row id rs) ≡ false → (has_row id rs ≡ false → at_row id change missing rs ≡ rs ++ missing)
        → cond t (change r ++ rs) (r ∷ at_row id change missing rs) ≡ (r ∷ rs) ++ missing
    go true h more = absurd (true≢false h)
    go false h more = ap (λ x. r ∷ x) (more h)

-- without what isn't there
pub without_none : (id : Text) (rows : List Row) → has_row id rows ≡ false → without id rows ≡ rows
without_none id rows e = at_new_row id (λ _. []) [] rows e ∙ append-nil rows

module _ (id : Text) (how : Reading) (source : ValueSource) (values : List Text) where
  -- the values of that name
  pub values_added : (rows : List Row) → all_of id (with_values id how source values rows) ≡ Some (unwrap_or (all_of id rows) [] ++ values)
  values_added [] = rw (text_same id id refl) refl
  values_added (r ∷ rs) = go (bytes_eq r.id id) refl (values_added rs)
    where
      go : (t : Bool) → bytes_eq r.id id ≡ t → all_of id (with_values id how source values rs) ≡ Some (unwrap_or (all_of id rs) [] ++ values)
          → all_of id (cond t (more_values source values r ++ rs) (r ∷ with_values id how source values rs))
          ≡ Some (unwrap_or (option_map (λ (x : Row). x.values) (cond t (Some r) (find (λ x. bytes_eq x.id id) rs))) [] ++ values)
      go true e h = rw e refl
      go false e h = rw e h

  -- the values of another name
  pub values_kept : (other : Text) (rows : List Row) → bytes_eq id other ≡ false → all_of other (with_values id how source values rows) ≡ all_of other rows
  values_kept other [] e = rw e refl
  values_kept other (r ∷ rs) e = go (bytes_eq r.id id) refl (values_kept other rs e)
    where
      last : (t : Bool) → all_of other (with_values id how source values rs) ≡ all_of other rs
          → option_map (λ (x : Row). x.values) (cond t (Some r) (find (λ x. bytes_eq x.id other) (with_values id how source values rs)))
          ≡ option_map (λ (x : Row). x.values) (cond t (Some r) (find (λ x. bytes_eq x.id other) rs))
      last true h = refl
      last false h = h

      go : (t : Bool) → bytes_eq r.id id ≡ t → all_of other (with_values id how source values rs) ≡ all_of other rs
          → all_of other (cond t (more_values source values r ++ rs) (r ∷ with_values id how source values rs)) ≡ all_of other (r ∷ rs)
      go true same h =
          let apart : bytes_eq r.id other ≡ false = ap (λ x. bytes_eq x other) (same_text r.id id same) ∙ e in
          rw apart refl
      go false same h = last (bytes_eq r.id other) h

  -- which names have values
  pub row_added : (other : Text) (rows : List Row) → has_row other (with_values id how source values rows) ≡ (bytes_eq id other || has_row other rows)
  row_added other [] = refl
  row_added other (r ∷ rs) = go (bytes_eq r.id id) refl (row_added other rs)
    where
      turn : (a b c : Bool) → (a || (b || c)) ≡ (b || (a || c))
      turn true true c = refl
      turn true false c = refl
      turn false b c = refl

      twice : (a b : Bool) → (a || b) ≡ (a || (a || b))
      twice true b = refl
      twice false b = refl

      go : (t : Bool) → bytes_eq r.id id ≡ t → has_row other (with_values id how source values rs) ≡ (bytes_eq id other || has_row other rs)
          → has_row other (cond t (more_values source values r ++ rs) (r ∷ with_values id how source values rs)) ≡ (bytes_eq id other || (bytes_eq r.id other || has_row other rs))
      go true same h =
          let is : bytes_eq r.id other ≡ bytes_eq id other = ap (λ x. bytes_eq x other) (same_text r.id id same) in
          rw is (twice (bytes_eq id other) (has_row other rs))
      go false same h = ap (λ t. bytes_eq r.id other || t) h ∙ turn (bytes_eq r.id other) (bytes_eq id other) (has_row other rs)
