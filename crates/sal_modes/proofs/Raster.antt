-- Rows and the macroblocks of a picture in raster order: where a row holds those so far, what is around the next one is what is around it in the picture.
use Rattle.std.proofs.Common.{◌≡◌, ℕ, suc, zero, ◌+◌, ◌-◌, ◌*◌, ◌/◌, ◌%◌, ◌≤◌, ◌<◌, ◌==◌, ◌||◌, ◌∙◌, List, [], ◌∷◌, ◌++◌, Bool, true, false, if◌then◌else◌, nat_lt, length, slice_index_or, set, refl, sym, ap, arith, length-append}
use Rattle.std.proofs.lemmas.List.{get_or-replicate, get_or-set_same, get_or-set_other, get_or_append_left, length-set, length-replicate}
use Rattle.std.proofs.Math.Seq.{get_or-append_seam}
use Rattle.std.proofs.lemmas.Bool.{eqb-false, ne_eqb, ltb-true, ltb-false}
use Rattle.std.proofs.lemmas.Nat.{div-mul-add, mod-mul-add}
use Rattle.sal_macroblock.specs.declared.mode.MbMode.{MbMode}
use Rattle.sal_macroblock.specs.Macroblocks.{outside}
use Rattle.sal_modes.specs.declared.around.Bounds.{Bounds}
use Rattle.sal_modes.specs.Vectors.{bounds_of}
use Rattle.sal_modes.specs.Around.{Around}
use Rattle.sal_modes.specs.Rows.{Rows, first_row, before, around, with_mb, next_row}

abbrev at : List MbMode → ℕ → MbMode
at ms k = slice_index_or ms k outside

-- the row has the macroblocks so far: those above, and those of this row up to a column
pub record HoldsUpTo (columns rows row column : ℕ) (ms : List MbMode) (r : Rows) : Type 0 where
  pub columns_are : r.columns ≡ columns
  pub rows_are : r.rows ≡ rows
  pub row_is : r.row ≡ row
  pub many : length ms ≡ row * columns + column
  pub long_above : length r.above ≡ columns
  pub long_here : length r.here ≡ columns
  pub above : (c : ℕ) → c < columns → at r.above c ≡ (if row == 0 then outside else at ms (row * columns + c - columns))
  pub here : (c : ℕ) → c < column → at r.here c ≡ at ms (row * columns + c)

-- none yet
pub holds_none : (columns rows : ℕ) → HoldsUpTo columns rows 0 0 [] (first_row columns rows)
holds_none columns rows = record {
  columns_are = refl;
  rows_are = refl;
  row_is = refl;
  many = omega arith;
  long_above = length-replicate {A = MbMode} columns outside;
  long_here = length-replicate {A = MbMode} columns outside;
  above = λ c lt. get_or-replicate columns c outside outside lt;
  here = λ c lt. absurd (omega arith);
}

at_before : (ms : List MbMode) (m : MbMode) (k : ℕ) → k < length ms → at (ms ++ m ∷ []) k ≡ at ms k
at_before ms m k lt = get_or_append_left ms (m ∷ []) outside k lt

at_end : (ms : List MbMode) (m : MbMode) (k : ℕ) → k ≡ length ms → at (ms ++ m ∷ []) k ≡ m
at_end ms m k e = ap (λ i. at (ms ++ m ∷ []) i) e ∙ get_or-append_seam ms m [] outside

-- rows are whole
row_below : (row columns c : ℕ) → (row ≡ 0 → ⊥) → c < columns → row * columns + c - columns < row * columns
row_below zero columns c ne lt = absurd (ne refl)
row_below (suc row) columns c ne lt = omega arith

above_before : (columns row column c : ℕ) (ms : List MbMode) (m x : MbMode) → c < columns → length ms ≡ row * columns + column → x ≡ (if row == 0 then outside else at ms (row * columns + c - columns))
    → x ≡ (if row == 0 then outside else at (ms ++ m ∷ []) (row * columns + c - columns))
above_before columns row column c ms m x lt many e = by_test (row == 0) refl
  where
    by_test : (b : Bool) → (row == 0) ≡ b → x ≡ (if row == 0 then outside else at (ms ++ m ∷ []) (row * columns + c - columns))
    by_test true t = e ∙ (ap (λ b. if b then outside else at ms (row * columns + c - columns)) t ∙ sym (ap (λ b. if b then outside else at (ms ++ m ∷ []) (row * columns + c - columns)) t))
    by_test false t =
        let below = row_below row columns c (eqb-false row 0 t) lt in
        e ∙ ap (λ y. if row == 0 then outside else y) (sym (at_before ms m (row * columns + c - columns) (omega (arith, below, many))))

-- one more in its place
pub holds_more : (columns rows row column : ℕ) (ms : List MbMode) (r : Rows) (m : MbMode) → column < columns → HoldsUpTo columns rows row column ms r → HoldsUpTo columns rows row (column + 1) (ms ++ m ∷ []) (with_mb column m r)
holds_more columns rows row column ms r m lt h =
    let many = h.many in
    let long = h.long_here in
    record {
      columns_are = h.columns_are;
      rows_are = h.rows_are;
      row_is = h.row_is;
      many = length-append ms (m ∷ []) ∙ omega (arith, many);
      long_above = h.long_above;
      long_here = length-set r.here column m ∙ long;
      above = λ c lt'. above_before columns row column c ms m (at r.above c) lt' many (h.above c lt');
      here = λ c lt'. by_place c lt' (nat_lt c column) refl;
    }
  where
    by_place : (c : ℕ) → c < column + 1 → (b : Bool) → nat_lt c column ≡ b → at (set r.here column m) c ≡ at (ms ++ m ∷ []) (row * columns + c)
    by_place c lt' true t =
        let below : c < column = ltb-true c column t in
        let many = h.many in
        get_or-set_other r.here column c m outside (λ e. omega arith) ∙ (h.here c below ∙ sym (at_before ms m (row * columns + c) (omega (arith, many))))
    by_place c lt' false t =
        let over : column ≤ c = ltb-false c column t in
        let same : c ≡ column = omega arith in
        let many = h.many in
        let long = h.long_here in
        ap (λ k. at (set r.here column m) k) same ∙ (get_or-set_same r.here column m outside (omega (arith, long)) ∙ sym (at_end ms m (row * columns + c) (omega (arith, many))))

next_place : (row columns c : ℕ) → row * columns + c ≡ (row + 1) * columns + c - columns
next_place row columns c = omega arith

-- the next row, after a whole one
pub holds_down : (columns rows row : ℕ) (ms : List MbMode) (r : Rows) → HoldsUpTo columns rows row columns ms r → HoldsUpTo columns rows (row + 1) 0 ms (next_row r)
holds_down columns rows row ms r h =
    let many = h.many in
    let later : ((row + 1) == 0) ≡ false = ne_eqb (row + 1) 0 (λ e. omega arith) in
    record {
      columns_are = h.columns_are;
      rows_are = h.rows_are;
      row_is = ap (λ k. k + 1) h.row_is;
      many = many ∙ omega arith;
      long_above = h.long_here;
      long_here = h.long_above;
      above = λ c lt. h.here c lt ∙ (ap (λ k. at ms k) (next_place row columns c) ∙ sym (ap (λ b. if b then outside else at ms ((row + 1) * columns + c - columns)) later));
      here = λ c lt. absurd (omega arith);
    }

abbrev made : MbMode → MbMode → MbMode → Bounds → Around
made a l c b = record { above = a; left = l; corner = c; bounds = b }

same_around : {a a' l l' c c' : MbMode} {b b' : Bounds} → a ≡ a' → l ≡ l' → c ≡ c' → b ≡ b' → made a l c b ≡ made a' l' c' b'
same_around {a} {a'} {l} {l'} {c} {c'} {b} {b'} ea el ec eb =
    ap (λ (x : MbMode). made x l c b) ea ∙ (ap (λ (x : MbMode). made a' x c b) el ∙ (ap (λ (x : MbMode). made a' l' x b) ec ∙ ap (λ (x : Bounds). made a' l' c' x) eb))

-- what is around the macroblock after those so far, by their places in raster order
pub holds_around : (columns rows row column : ℕ) (ms : List MbMode) (r : Rows) → column < columns → HoldsUpTo columns rows row column ms r
    → around r column ≡ record {
      above = if row == 0 then outside else at ms (length ms - columns);
      left = if column == 0 then outside else at ms (length ms - 1);
      corner = if row == 0 || column == 0 then outside else at ms (length ms - columns - 1);
      bounds = bounds_of columns rows column row;
    }
holds_around columns rows row column ms r lt h =
    let many = h.many in
    let here : row * columns + column ≡ length ms = sym many in
    same_around (h.above column lt ∙ ap (λ k. if row == 0 then outside else at ms (k - columns)) here) (left_by (column == 0) refl) (corner_by (row == 0) (column == 0) refl refl)
    (ap (λ n. bounds_of n r.rows column r.row) h.columns_are ∙ (ap (λ n. bounds_of columns n column r.row) h.rows_are ∙ ap (λ n. bounds_of columns rows column n) h.row_is))
  where
    left_by : (b : Bool) → (column == 0) ≡ b → before r.here column ≡ (if column == 0 then outside else at ms (length ms - 1))
    left_by true t = rw t refl
    left_by false t =
        let ne = eqb-false column 0 t in
        let many = h.many in
        let e : row * columns + (column - 1) ≡ length ms - 1 = omega (arith, ne, many) in
        rw t (h.here (column - 1) (omega (arith, ne)) ∙ ap (λ k. at ms k) e)

    corner_by : (a b : Bool) → (row == 0) ≡ a → (column == 0) ≡ b → before r.above column ≡ (if row == 0 || column == 0 then outside else at ms (length ms - columns - 1))
    corner_by true true s t = rw s (rw t refl)
    corner_by false true s t = rw s (rw t refl)
    corner_by true false s t =
        let ne = eqb-false column 0 t in
        let up = h.above (column - 1) (omega (arith, ne, lt)) ∙ ap (λ b. if b then outside else at ms (row * columns + (column - 1) - columns)) s in
        rw s (rw t up)
    corner_by false false s t =
        let ne = eqb-false column 0 t in
        let many = h.many in
        let up = h.above (column - 1) (omega (arith, ne, lt)) ∙ ap (λ b. if b then outside else at ms (row * columns + (column - 1) - columns)) s in
        let e : row * columns + (column - 1) - columns ≡ length ms - columns - 1 = omega (arith, ne, many) in
        rw s (rw t (up ∙ ap (λ k. at ms k) e))

-- the row and the column of the macroblock after those so far
pub holds_place : (columns rows row column : ℕ) (ms : List MbMode) (r : Rows) → column < columns → HoldsUpTo columns rows row column ms r → (length ms / columns ≡ row) × (length ms % columns ≡ column)
holds_place columns rows row column ms r lt h = (ap (λ k. k / columns) h.many ∙ div-mul-add row columns column lt, ap (λ k. k % columns) h.many ∙ mod-mul-add row columns column lt)
