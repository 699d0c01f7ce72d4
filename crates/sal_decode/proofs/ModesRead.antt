-- The modes of all macroblocks, read one after the other over a row and the one above it.
use Rattle.std.proofs.Common.{◌≡◌, ℕ, suc, ◌+◌, ◌-◌, ◌*◌, ◌%◌, ◌<◌, ◌≤◌, ◌==◌, ◌||◌, List, [], ◌∷◌, ◌++◌, if◌then◌else◌, length, ap, sym, ◌∙◌, subst, arith}
use Rattle.std.proofs.lemmas.List.{length-append}
use Rattle.sal_bool.specs.Reading.{Reading}
use Rattle.sal_bool.specs.Syntax.{run}
use Rattle.sal_bool.proofs.Meaning.{run_on, run_done}
use Rattle.sal_probs.specs.Probabilities.{Table}
use Rattle.sal_header.specs.declared.header.Header.{Header}
use Rattle.sal_macroblock.specs.declared.mode.MbMode.{MbMode}
use Rattle.sal_macroblock.specs.Macroblocks.{outside}
use Rattle.sal_modes.specs.Vectors.{bounds_of}
use Rattle.sal_modes.specs.Around.{Around}
use Rattle.sal_modes.specs.Modes.{mb_mode}
use Rattle.sal_modes.specs.Rows.{Rows, first_row, next_row}
use Rattle.sal_modes.specs.Rows.{around as row_around}
use Rattle.sal_modes.proofs.Raster.{HoldsUpTo, holds_none, holds_down, holds_around, holds_place}
use Rattle.sal_decode.specs.FirstPartition.{mode_at, around, mb_modes}

-- around the macroblock at a row and column after those so far
abbrev around_at : ℕ → ℕ → List MbMode → ℕ → ℕ → Around
around_at columns rows ms row column =
    record {
      above = if row == 0 then outside else mode_at ms (length ms - columns);
      left = if column == 0 then outside else mode_at ms (length ms - 1);
      corner = if row == 0 || column == 0 then outside else mode_at ms (length ms - columns - 1);
      bounds = bounds_of columns rows column row;
    }

same_around : (columns rows row column : ℕ) (ms : List MbMode) (r : Rows) → column < columns → HoldsUpTo columns rows row column ms r → around columns rows ms ≡ row_around r column
same_around columns rows row column ms r lt h =
    let place = holds_place columns rows row column ms r lt h in
    ap (λ x. around_at columns rows ms x (length ms % columns)) place.0
    ∙ (ap (λ y. around_at columns rows ms row y) place.1 ∙ sym (holds_around columns rows row column ms r lt h))

module _ (h : Header) (probs : Table) (columns rows : ℕ) (end : List MbMode × Reading) where
  -- with what is read from here on it is all
  abbrev pub Onward : List MbMode → Reading → Type 0
  Onward ms d = (n : ℕ) → n + length ms ≡ columns * rows → run (mb_modes h probs columns rows n ms) d ≡ end

  step : (n : ℕ) (ms : List MbMode) (d d' : Reading) (m : MbMode) → run (mb_mode h probs (around columns rows ms)) d ≡ (m, d') → run (mb_modes h probs columns rows (suc n) ms) d ≡ run (mb_modes h probs columns rows n (ms ++ m ∷ [])) d'
  unfolding mb_modes
  step n ms d d' m e = run_on (mb_mode h probs (around columns rows ms)) (λ x. mb_modes h probs columns rows n (ms ++ x ∷ [])) d m d' e

  -- one macroblock more
  pub one_more : (row column : ℕ) (ms : List MbMode) (r : Rows) (d d' : Reading) (m : MbMode) → column < columns → HoldsUpTo columns rows row column ms r → run (mb_mode h probs (row_around r column)) d ≡ (m, d') → Onward ms d → Onward (ms ++ m ∷ []) d'
  one_more row column ms r d d' m lt holds e onward n count =
      let more : n + length (ms ++ m ∷ []) ≡ suc n + length ms = ap (λ k. n + k) (length-append ms (m ∷ [])) ∙ omega arith in
      let read : run (mb_mode h probs (around columns rows ms)) d ≡ (m, d') = ap (λ a. run (mb_mode h probs a) d) (same_around columns rows row column ms r lt holds) ∙ e in
      sym (step n ms d d' m read) ∙ onward (suc n) (sym more ∙ count)

  done : (ms : List MbMode) (d : Reading) → run (mb_modes h probs columns rows 0 ms) d ≡ (ms, d)
  unfolding mb_modes
  done ms d = run_done ms d

  -- all are read
  pub all_read : (ms : List MbMode) (d : Reading) → length ms ≡ columns * rows → Onward ms d → end ≡ (ms, d)
  all_read ms d count onward = sym (onward 0 (omega (arith, count))) ∙ done ms d

-- none is read yet
pub none_read : (h : Header) (probs : Table) (columns rows : ℕ) (d : Reading) → Onward h probs columns rows (run (mb_modes h probs columns rows (columns * rows) []) d) [] d
none_read h probs columns rows d n count =
    let e : n ≡ columns * rows = omega (arith, count) in ap (λ k. run (mb_modes h probs columns rows k []) d) e

-- where a row stands between two rows of macroblocks
pub record Between (columns rows row : ℕ) (ms : List MbMode) (r : Rows) : Type 0 where
  pub holds : row < rows → HoldsUpTo columns rows row 0 ms r
  pub count : length ms ≡ columns * row

pub at_first : (columns rows : ℕ) (ms : List MbMode) (r : Rows) → ms ≡ [] → r ≡ first_row columns rows → Between columns rows 0 ms r
at_first columns rows ms r none first = record {
  holds = λ lt. subst (λ xs. HoldsUpTo columns rows 0 0 xs r) (sym none) (subst (λ x. HoldsUpTo columns rows 0 0 [] x) (sym first) (holds_none columns rows));
  count = ap length none ∙ omega arith;
}

pub after_row : (columns rows row : ℕ) (ms : List MbMode) (r r' : Rows) → HoldsUpTo columns rows row columns ms r → (row + 1 < rows → r' ≡ next_row r) → Between columns rows (row + 1) ms r'
after_row columns rows row ms r r' h down =
    let many = h.many in
    record {
      holds = λ lt. subst (λ x. HoldsUpTo columns rows (row + 1) 0 ms x) (sym (down lt)) (holds_down columns rows row ms r h);
      count = many ∙ grind arith;
    }

-- up to the end of a row
pub whole_row : (columns rows row column : ℕ) (ms : List MbMode) (r : Rows) → columns ≤ column → column ≤ columns → HoldsUpTo columns rows row column ms r → HoldsUpTo columns rows row columns ms r
whole_row columns rows row column ms r low high h = let e : column ≡ columns = omega arith in subst (λ c. HoldsUpTo columns rows row c ms r) e h
