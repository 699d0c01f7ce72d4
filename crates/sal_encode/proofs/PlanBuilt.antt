-- A plan's macroblocks in raster order: written, built and noted one after the other.
use Rattle.std.proofs.Common.{◌≡◌, ℕ, suc, zero, ℤ, ◌+◌, ◌*◌, ◌/◌, ◌%◌, ◌<◌, ◌≤◌, ◌∙◌, List, [], ◌∷◌, ◌++◌, All, map, drop, length, replicate, get_or, refl, sym, ap, subst, arith, mod-lt, add-one, drop-cons, append_assoc, length-append}
use Rattle.std.proofs.lemmas.List.{append-nil, drop_all}
use Rattle.std.proofs.Math.Nat.{div-lt_iff_lt-mul}
use Rattle.std.proofs.lemmas.List.Elements.{All-nil, All-push}
use Rattle.sal_base.specs.declared.picture.Planes.{Planes}
use Rattle.sal_bool.specs.Bits.{Interval, start}
use Rattle.sal_bool.specs.Written.{steps}
use Rattle.sal_header.specs.declared.header.Header.{Header}
use Rattle.sal_macroblock.specs.declared.mode.MbMode.{MbMode}
use Rattle.sal_filter.specs.declared.head.MbInfo.{MbInfo}
use Rattle.sal_tokens.specs.declared.contexts.Contexts.{Contexts}
use Rattle.sal_tokens.specs.Blocks.{no_contexts}
use Rattle.sal_tokens.specs.Written.{pairs_of}
use Rattle.sal_state.specs.States.{References, HasBlocks}
use Rattle.sal_frame.specs.Records.{Macroblock, Record, columns_of, segment_factors, info_of}
use Rattle.sal_frame.specs.Built.{one_built, all_built, blanks}
use Rattle.sal_frame.proofs.RasterLaws.{one_size, blank_size}
use Rattle.sal_encode.specs.Plans.{planned, planned_all}
use Rattle.sal_encode.specs.FrameBytes.{tokens_branches}
use Rattle.sal_encode.specs.Standing.{with_tokens}

-- as many macroblocks as modes
pub planned_many : (ms : List MbMode) (ls : List (List (List ℤ))) → length ls ≡ length ms → length (planned_all ms ls) ≡ length ms
unfolding planned_all
planned_many [] ls e = refl
planned_many (m ∷ ms) [] e = absurd (omega (arith, e))
planned_many (m ∷ ms) (l ∷ ls) e = let later = planned_many ms ls (omega (arith, e)) in omega (arith, later)

-- macroblock k
pub planned_at : (ms : List MbMode) (ls : List (List (List ℤ))) (k : ℕ) (d : Macroblock) (m : MbMode) (l : List (List ℤ)) → length ls ≡ length ms → k < length ms
    → get_or (planned_all ms ls) k d ≡ planned (get_or ms k m) (get_or ls k l)
unfolding planned_all
planned_at [] ls k d m l e lt = absurd (omega (arith, lt))
planned_at (x ∷ ms) [] k d m l e lt = absurd (omega (arith, e))
planned_at (x ∷ ms) (y ∷ ls) zero d m l e lt = refl
planned_at (x ∷ ms) (y ∷ ls) (suc k) d m l e lt = planned_at ms ls k d m l (omega (arith, e)) (omega (arith, lt))

-- rows are whole
pub row_below : (k columns rows : ℕ) → 1 ≤ columns → k < columns * rows → k / columns < rows
row_below k columns rows low lt = (div-lt_iff_lt-mul {k = columns} {x = k} {y = rows} low).1 (omega (arith, lt))

-- with those still to come it is all
pub record Going (probabilities : List ℕ) (columns rows : ℕ) (refs : References) (f : Record) (bs : List Macroblock) (k : ℕ) (i : Interval) (above : List Contexts) (left : Contexts) (planes : Planes) (infos : List MbInfo) : Type 0 where
  pub columns_are : length above ≡ columns
  pub tokens : with_tokens probabilities columns k i above left (drop k bs) ≡ steps start (pairs_of probabilities (tokens_branches columns 0 (replicate columns no_contexts) no_contexts bs))
  pub builds : all_built refs f k (drop k bs) planes ≡ all_built refs f 0 bs (blanks columns rows)
  pub notes : infos ++ map info_of (drop k bs) ≡ map info_of bs
  pub blocks : HasBlocks columns rows planes
  pub many : length infos ≡ k
  pub small : All (λ (info : MbInfo). info.mode.segment ≤ 3) infos

module _ (probabilities : List ℕ) (columns rows : ℕ) (refs : References) (f : Record) (bs : List Macroblock) where
  pub none_built : (i : Interval) (above : List Contexts) (left : Contexts) (planes : Planes) (infos : List MbInfo) → length above ≡ columns
      → with_tokens probabilities columns 0 i above left bs ≡ steps start (pairs_of probabilities (tokens_branches columns 0 (replicate columns no_contexts) no_contexts bs))
      → planes ≡ blanks columns rows → infos ≡ [] → Going probabilities columns rows refs f bs 0 i above left planes infos
  none_built i above left planes infos many tokens blank none = record {
    columns_are = many;
    tokens = tokens;
    builds = ap (λ p. all_built refs f 0 bs p) blank;
    notes = ap (λ xs. xs ++ map info_of bs) none;
    blocks = subst (λ p. HasBlocks columns rows p) (sym blank) (blank_size columns rows);
    many = ap length none;
    small = subst (λ xs. All (λ (info : MbInfo). info.mode.segment ≤ 3) xs) (sym none) (All-nil (λ (info : MbInfo). info.mode.segment ≤ 3));
  }

  built_next : (k : ℕ) (b : Macroblock) (rest : List Macroblock) (p : Planes) → all_built refs f k (b ∷ rest) p ≡ all_built refs f (k + 1) rest (one_built refs (segment_factors f.header b.mode.segment) b (k % columns_of f) (k / columns_of f) p)
  unfolding all_built
  built_next k b rest p = refl

  info_mode : (b : Macroblock) → (info_of b).mode ≡ b.mode
  unfolding info_of
  info_mode b = refl

  pub one_more : (k : ℕ) (d b : Macroblock) (i i' : Interval) (above above' : List Contexts) (left left' : Contexts) (planes planes' : Planes) (infos infos' : List MbInfo) (info : MbInfo) (h : Header)
      → k < length bs → 1 ≤ columns → length bs ≡ columns * rows → f.header ≡ h → columns_of f ≡ columns → get_or bs k d ≡ b → b.mode.segment ≤ 3
      → Going probabilities columns rows refs f bs k i above left planes infos
      → length above' ≡ length above → with_tokens probabilities columns (k + 1) i' above' left' (drop (k + 1) bs) ≡ with_tokens probabilities columns k i above left (b ∷ drop (k + 1) bs)
      → planes' ≡ one_built refs (segment_factors h b.mode.segment) b (k % columns) (k / columns) planes
      → info ≡ info_of b → infos' ≡ infos ++ info ∷ []
      → Going probabilities columns rows refs f bs (k + 1) i' above' left' planes' infos'
  one_more k d b i i' above above' left left' planes planes' infos infos' info h lt low count header columns_ is segment g many tokens builds noted pushed =
      let rest : List Macroblock = drop (k + 1) bs in
      let next : drop k bs ≡ b ∷ rest = rw add-one (drop-cons bs k d lt) ∙ ap (λ (x : Macroblock). x ∷ rest) is in
      let built_so : planes' ≡ one_built refs (segment_factors f.header b.mode.segment) b (k % columns_of f) (k / columns_of f) planes =
      builds
      ∙ (ap (λ (x : Header). one_built refs (segment_factors x b.mode.segment) b (k % columns) (k / columns) planes) (sym header)
      ∙ ap (λ n. one_built refs (segment_factors f.header b.mode.segment) b (k % n) (k / n) planes) (sym columns_)) in
      let segment_is : info.mode.segment ≤ 3 = subst (λ (x : MbInfo). x.mode.segment ≤ 3) (sym noted) (subst (λ (x : MbMode). x.segment ≤ 3) (sym (info_mode b)) segment) in
      record {
        columns_are = many ∙ g.columns_are;
        tokens = tokens ∙ (ap (λ xs. with_tokens probabilities columns k i above left xs) (sym next) ∙ g.tokens);
        builds = ap (λ p. all_built refs f (k + 1) rest p) built_so ∙ (sym (built_next k b rest planes) ∙ (ap (λ xs. all_built refs f k xs planes) (sym next) ∙ g.builds));
        notes = ap (λ xs. xs ++ map info_of rest) pushed
            ∙ (append_assoc infos (info ∷ []) (map info_of rest)
            ∙ (ap (λ x. infos ++ x ∷ map info_of rest) noted
            ∙ (ap (λ xs. infos ++ map info_of xs) (sym next) ∙ g.notes)));
        blocks = subst (λ p. HasBlocks columns rows p) (sym builds) (one_size refs (segment_factors h b.mode.segment) b (k % columns) (k / columns) columns rows planes g.blocks (mod-lt k {m = columns} low) (row_below k columns rows low (omega (arith, lt, count))));
        many = ap length pushed ∙ (length-append infos (info ∷ []) ∙ ap (λ n. n + 1) g.many);
        small = subst (λ xs. All (λ (x : MbInfo). x.mode.segment ≤ 3) xs) (sym pushed) (All-push (λ (x : MbInfo). x.mode.segment ≤ 3) infos info g.small segment_is);
      }

  built_all : (k : ℕ) (p : Planes) → all_built refs f k [] p ≡ p
  unfolding all_built
  built_all k p = refl

  pub all_done : (k : ℕ) (i : Interval) (above : List Contexts) (left : Contexts) (planes : Planes) (infos : List MbInfo) → length bs ≤ k → Going probabilities columns rows refs f bs k i above left planes infos
      → (with_tokens probabilities columns k i above left [] ≡ steps start (pairs_of probabilities (tokens_branches columns 0 (replicate columns no_contexts) no_contexts bs)))
      × (planes ≡ all_built refs f 0 bs (blanks columns rows)) × (infos ≡ map info_of bs)
  all_done k i above left planes infos le g =
      let none : drop k bs ≡ [] = drop_all k bs le in (
        ap (λ xs. with_tokens probabilities columns k i above left xs) (sym none) ∙ g.tokens,
        sym (built_all k planes) ∙ (ap (λ xs. all_built refs f k xs planes) (sym none) ∙ g.builds),
        sym (append-nil infos) ∙ (ap (λ xs. infos ++ map info_of xs) (sym none) ∙ g.notes),
      )
