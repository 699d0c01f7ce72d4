-- The modes of all macroblocks, written one after the other over a row and the one above it.
use Rattle.std.proofs.Common.{◌≡◌, ℕ, ◌+◌, ◌-◌, ◌*◌, ◌%◌, ◌<◌, ◌≤◌, ◌==◌, ◌||◌, ◌∙◌, List, [], ◌∷◌, ◌++◌, if◌then◌else◌, length, map, take, drop, get_or, slice_index_or, sym, ap, subst, arith, add-one, drop-cons}
use Rattle.std.proofs.lemmas.Nat.{mul-le}
use Rattle.std.proofs.lemmas.List.{take_more, get_or-map, get_or_default, drop_all, length-map}
use Rattle.sal_bool.specs.Bits.{Interval}
use Rattle.sal_bool.specs.Written.{steps}
use Rattle.sal_bool.specs.Pairs.{Pairs}
use Rattle.sal_bool.proofs.Meaning.{steps_append}
use Rattle.sal_probs.specs.Probabilities.{Table}
use Rattle.sal_header.specs.declared.header.Header.{Header}
use Rattle.sal_macroblock.specs.declared.mode.MbMode.{MbMode}
use Rattle.sal_macroblock.specs.Macroblocks.{outside}
use Rattle.sal_modes.specs.Vectors.{bounds_of}
use Rattle.sal_modes.specs.Around.{Around}
use Rattle.sal_modes.specs.Rows.{Rows, first_row, with_mb, next_row}
use Rattle.sal_modes.specs.Rows.{around as row_around}
use Rattle.sal_modes.specs.Written.{mb_pairs, as_read, IsWritable}
use Rattle.sal_modes.proofs.Raster.{HoldsUpTo, holds_none, holds_more, holds_down, holds_around, holds_place}
use Rattle.sal_decode.specs.FirstPartition.{mode_at, around}
use Rattle.sal_encode.specs.Plans.{read_before}
use Rattle.sal_encode.specs.FrameBytes.{modes_pairs}

-- around the macroblock at a row and column after those so far
abbrev around_at : ℕ → ℕ → List MbMode → ℕ → ℕ → Around
around_at columns rows ms row column =
    record {
      above = if row == 0 then outside else mode_at ms (length ms - columns);
      left = if column == 0 then outside else mode_at ms (length ms - 1);
      corner = if row == 0 || column == 0 then outside else mode_at ms (length ms - columns - 1);
      bounds = bounds_of columns rows column row;
    }

same_around : (columns rows row column : ℕ) (ms : List MbMode) (r : Rows) → column < columns → HoldsUpTo columns rows row column ms r → around columns rows ms ≡ row_around r column
same_around columns rows row column ms r lt h =
    let place = holds_place columns rows row column ms r lt h in
    ap (λ x. around_at columns rows ms x (length ms % columns)) place.0
    ∙ (ap (λ y. around_at columns rows ms row y) place.1 ∙ sym (holds_around columns rows row column ms r lt h))

-- a place in the picture
pub in_picture : (row column columns rows n : ℕ) → row < rows → column < columns → n ≡ columns * rows → row * columns + column < n
in_picture row column columns rows n a b e =
    let most = mul-le (row + 1) columns rows columns (omega (arith, a)) (omega arith) in
    let same : rows * columns ≡ n = omega (arith, e) in
    let whole : (row + 1) * columns ≡ row * columns + columns = omega arith in
    omega (arith, most, same, whole, b)

module _ (h : Header) (probs : Table) (columns rows : ℕ) (ms : List MbMode) (all : Interval) where
  -- with the modes from place k on it is all
  abbrev pub Onward : ℕ → Interval → Type 0
  Onward k i = steps i (modes_pairs h probs columns rows (read_before h ms k) (drop k ms)) ≡ all

  -- where the writing of a row stands, and of the rows
  pub record InRow (row column : ℕ) (r : Rows) (i : Interval) : Type 0 where
    pub holds : HoldsUpTo columns rows row column (read_before h ms (row * columns + column)) r
    pub onward : Onward (row * columns + column) i

  pub record Between (row : ℕ) (r : Rows) (i : Interval) : Type 0 where
    pub holds : row < rows → HoldsUpTo columns rows row 0 (read_before h ms (row * columns)) r
    pub onward : Onward (row * columns) i

  pub at_first : (r : Rows) (i : Interval) → r ≡ first_row columns rows → steps i (modes_pairs h probs columns rows [] ms) ≡ all → Between 0 r i
  at_first r i first e =
      let none : 0 * columns ≡ 0 = omega arith in
      record {
        holds = λ lt. subst (λ x. HoldsUpTo columns rows 0 0 (read_before h ms (0 * columns)) x) (sym first) (subst (λ n. HoldsUpTo columns rows 0 0 (read_before h ms n) (first_row columns rows)) (sym none) (holds_none columns rows));
        onward = subst (λ n. Onward n i) (sym none) e;
      }

  pub in_row : (row : ℕ) (r : Rows) (i : Interval) → row < rows → Between row r i → InRow row 0 r i
  in_row row r i lt b =
      let same : row * columns ≡ row * columns + 0 = omega arith in
      record {
        holds = subst (λ n. HoldsUpTo columns rows row 0 (read_before h ms n) r) same (b.holds lt);
        onward = subst (λ n. Onward n i) same b.onward;
      }

  -- those before it, with one more
  one_read : (k : ℕ) (d : MbMode) → k < length ms → read_before h ms (k + 1) ≡ read_before h ms k ++ as_read h (get_or ms k d) ∷ []
  one_read k d lt =
      let long = length-map ms (as_read h) in
      take_more (map (as_read h) ms) k (as_read h d) (omega (arith, long, lt)) ∙ ap (λ x. take k (map (as_read h) ms) ++ x ∷ []) (get_or-map (as_read h) ms k d (as_read h d) lt)

  pub writable_here : (row column : ℕ) (r : Rows) (i : Interval) (m d : MbMode) → row < rows → column < columns → length ms ≡ columns * rows → InRow row column r i
      → ((k : ℕ) → k < length ms → IsWritable h (around columns rows (read_before h ms k)) (slice_index_or ms k outside))
      → m ≡ get_or ms (row * columns + column) d → IsWritable h (row_around r column) m
  writable_here row column r i m d a b count g w is =
      let k : ℕ = row * columns + column in
      let lt : k < length ms = in_picture row column columns rows (length ms) a b count in
      let mode : get_or ms k outside ≡ m = get_or_default ms k outside d lt ∙ sym is in
      subst (λ x. IsWritable h x m) (same_around columns rows row column (read_before h ms k) r b g.holds) (subst (λ x. IsWritable h (around columns rows (read_before h ms k)) x) mode (w k lt))

  pub one_more : (row column : ℕ) (r r' : Rows) (i j : Interval) (m d : MbMode) → row < rows → column < columns → length ms ≡ columns * rows → InRow row column r i
      → m ≡ get_or ms (row * columns + column) d → j ≡ steps i (mb_pairs h probs (row_around r column) m) → r' ≡ with_mb column (as_read h m) r → InRow row (column + 1) r' j
  unfolding modes_pairs
  one_more row column r r' i j m d a b count g is put with_it =
      let k : ℕ = row * columns + column in
      let lt : k < length ms = in_picture row column columns rows (length ms) a b count in
      let before : List MbMode = read_before h ms k in
      let next : k + 1 ≡ row * columns + (column + 1) = omega arith in
      let read : read_before h ms (k + 1) ≡ before ++ as_read h m ∷ [] = one_read k d lt ∙ ap (λ x. before ++ as_read h x ∷ []) (sym is) in
      let rest : List MbMode = drop (k + 1) ms in
      let split : drop k ms ≡ m ∷ rest = rw add-one (drop-cons ms k d lt) ∙ ap (λ (x : MbMode). x ∷ rest) (sym is) in
      let own : Pairs = mb_pairs h probs (around columns rows before) m in
      let later : Pairs = modes_pairs h probs columns rows (before ++ as_read h m ∷ []) rest in
      let here : j ≡ steps i own = put ∙ ap (λ x. steps i (mb_pairs h probs x m)) (sym (same_around columns rows row column before r b g.holds)) in
      let moved : Onward (k + 1) j =
      ap (λ xs. steps j (modes_pairs h probs columns rows xs rest)) read
      ∙ (ap (λ x. steps x later) here
      ∙ (sym (steps_append own later i) ∙ (ap (λ xs. steps i (modes_pairs h probs columns rows before xs)) (sym split) ∙ g.onward))) in
      record {
        holds = subst (λ n. HoldsUpTo columns rows row (column + 1) (read_before h ms n) r') next
            (subst (λ xs. HoldsUpTo columns rows row (column + 1) xs r') (sym read)
            (subst (λ x. HoldsUpTo columns rows row (column + 1) (before ++ as_read h m ∷ []) x) (sym with_it) (holds_more columns rows row column before r (as_read h m) b g.holds)));
        onward = subst (λ n. Onward n j) next moved;
      }

  pub after_row : (row column : ℕ) (r r' : Rows) (i : Interval) → columns ≤ column → column ≤ columns → InRow row column r i → (row + 1 < rows → r' ≡ next_row r) → Between (row + 1) r' i
  after_row row column r r' i low high g down =
      let whole : column ≡ columns = omega (arith, low, high) in
      let next : row * columns + columns ≡ (row + 1) * columns = omega arith in
      let held : HoldsUpTo columns rows row columns (read_before h ms (row * columns + columns)) r = subst (λ c. HoldsUpTo columns rows row c (read_before h ms (row * columns + c)) r) whole g.holds in
      record {
        holds = λ lt.
            subst (λ n. HoldsUpTo columns rows (row + 1) 0 (read_before h ms n) r') next
            (subst (λ x. HoldsUpTo columns rows (row + 1) 0 (read_before h ms (row * columns + columns)) x) (sym (down lt)) (holds_down columns rows row (read_before h ms (row * columns + columns)) r held));
        onward = subst (λ n. Onward n i) next (subst (λ c. Onward (row * columns + c) i) whole g.onward);
      }

  pub all_written : (row : ℕ) (r : Rows) (i : Interval) → rows ≤ row → row ≤ rows → length ms ≡ columns * rows → Between row r i → i ≡ all
  unfolding modes_pairs
  all_written row r i low high count b =
      let end : row ≡ rows = omega (arith, low, high) in
      let places : row * columns ≡ rows * columns = ap (λ n. n * columns) end in
      let many : length ms ≤ row * columns = omega (arith, places, count) in
      let none : drop (row * columns) ms ≡ [] = drop_all (row * columns) ms many in
      sym (ap (λ xs. steps i (modes_pairs h probs columns rows (read_before h ms (row * columns)) xs)) none) ∙ b.onward
