-- A frame's macroblocks in raster order: read, built and noted one after the other.
use Rattle.std.proofs.Common.{◌≡◌, ℕ, ℤ, ◌+◌, ◌*◌, ◌/◌, ◌%◌, ◌<◌, ◌≤◌, ◌∙◌, List, [], ◌∷◌, ◌++◌, Bool, All, map, drop, length, get_or, refl, sym, ap, subst, arith, mod-lt, add-one, drop-cons, append_assoc, length-append}
use Rattle.std.proofs.lemmas.List.{append-nil, drop_all}
use Rattle.std.proofs.Math.Nat.{div-lt_iff_lt-mul}
use Rattle.std.proofs.lemmas.List.Elements.{All-nil, All-push}
use Rattle.sal_base.specs.declared.picture.Planes.{Planes}
use Rattle.sal_base.specs.Pictures.{blocks_of}
use Rattle.sal_bool.specs.Reading.{Reading}
use Rattle.sal_header.specs.declared.header.Header.{Header}
use Rattle.sal_macroblock.specs.declared.mode.MbMode.{MbMode}
use Rattle.sal_filter.specs.declared.head.MbInfo.{MbInfo}
use Rattle.sal_tokens.specs.declared.contexts.Contexts.{Contexts}
use Rattle.sal_probs.specs.Probabilities.{Table, used}
use Rattle.sal_state.specs.States.{References, StateData, HasBlocks}
use Rattle.sal_frame.specs.Records.{Macroblock, macroblock, Record, columns_of, segment_factors, info_of}
use Rattle.sal_frame.specs.Built.{one_built, all_built, blanks, built, references_or}
use Rattle.sal_frame.proofs.RasterLaws.{one_size, blank_size}
use Rattle.sal_decode.specs.FirstPartition.{segment_of, with_segments}
use Rattle.sal_decode.specs.TokenPartitions.{Progress, begun, tokens_of, progress_after, macroblocks}
use Rattle.sal_decode.specs.Standing.{Holds, HasRead}
use Rattle.sal_decode.specs.Syntax.{record_of}

-- the macroblocks of a frame that are still to come, from place k on
abbrev pub coming : List ℕ → List (ℕ × ℕ) → List ℕ → ℕ → Header → List ℕ → List MbMode → ℕ → Progress → List Macroblock
coming bytes parts probabilities columns h segments ms k r = macroblocks bytes parts probabilities columns k (with_segments h segments k (drop k ms)) r

-- with those still to come it is all
pub record Going (bytes : List ℕ) (parts : List (ℕ × ℕ)) (probabilities : List ℕ) (columns rows : ℕ) (h : Header) (segments : List ℕ) (ms : List MbMode) (refs : References) (f : Record) (k : ℕ)
    (ds : List Reading) (above : List Contexts) (left : Contexts) (planes : Planes) (infos : List MbInfo) : Type 0 where
  pub progress : Progress
  pub holds : Holds bytes parts columns progress ds above left
  pub builds : all_built refs f k (coming bytes parts probabilities columns h segments ms k progress) planes
      ≡ all_built refs f 0 (coming bytes parts probabilities columns h segments ms 0 (begun (length parts) columns)) (blanks columns rows)
  pub notes : infos ++ map info_of (coming bytes parts probabilities columns h segments ms k progress)
      ≡ map info_of (coming bytes parts probabilities columns h segments ms 0 (begun (length parts) columns))
  pub blocks : HasBlocks columns rows planes
  pub many : length infos ≡ k
  pub small : All (λ (info : MbInfo). info.mode.segment ≤ 3) infos

-- rows are whole
pub row_below : (k columns rows : ℕ) → 1 ≤ columns → k < columns * rows → k / columns < rows
row_below k columns rows low lt = (div-lt_iff_lt-mul {k = columns} {x = k} {y = rows} low).1 (omega (arith, lt))

module _ (bytes : List ℕ) (parts : List (ℕ × ℕ)) (probabilities : List ℕ) (columns rows : ℕ) (h : Header) (segments : List ℕ) (ms : List MbMode) (refs : References) (f : Record) where
  pub at_first : (ds : List Reading) (above : List Contexts) (left : Contexts) (planes : Planes) (infos : List MbInfo)
      → Holds bytes parts columns (begun (length parts) columns) ds above left → planes ≡ blanks columns rows → infos ≡ []
      → Going bytes parts probabilities columns rows h segments ms refs f 0 ds above left planes infos
  at_first ds above left planes infos holds blank none = record {
    progress = begun (length parts) columns;
    holds = holds;
    builds = ap (λ p. all_built refs f 0 (coming bytes parts probabilities columns h segments ms 0 (begun (length parts) columns)) p) blank;
    notes = ap (λ is. is ++ map info_of (coming bytes parts probabilities columns h segments ms 0 (begun (length parts) columns))) none;
    blocks = subst (λ p. HasBlocks columns rows p) (sym blank) (blank_size columns rows);
    many = ap length none;
    small = subst (λ is. All (λ (info : MbInfo). info.mode.segment ≤ 3) is) (sym none) (All-nil (λ (info : MbInfo). info.mode.segment ≤ 3));
  }

  -- the next macroblock and those after it
  next_is : (k : ℕ) (r : Progress) (m d : MbMode) → k < length ms → m ≡ record (get_or ms k d) { segment = segment_of h segments k (get_or ms k d) }
      → coming bytes parts probabilities columns h segments ms k r
      ≡ macroblock m (tokens_of bytes parts probabilities columns k m r).0.coefficients (tokens_of bytes parts probabilities columns k m r).0.has_coefficients
      ∷ coming bytes parts probabilities columns h segments ms (k + 1) (progress_after (length parts) columns k r (tokens_of bytes parts probabilities columns k m r))
  unfolding macroblocks with_segments
  next_is k r m d lt is =
      let after : MbMode → List Macroblock = λ x.
      macroblock x (tokens_of bytes parts probabilities columns k x r).0.coefficients (tokens_of bytes parts probabilities columns k x r).0.has_coefficients
      ∷ coming bytes parts probabilities columns h segments ms (k + 1) (progress_after (length parts) columns k r (tokens_of bytes parts probabilities columns k x r)) in
      let e : drop k ms ≡ get_or ms k d ∷ drop (k + 1) ms = rw add-one (drop-cons ms k d lt) in
      ap (λ xs. macroblocks bytes parts probabilities columns k (with_segments h segments k xs) r) e ∙ ap after (sym is)

  built_next : (k : ℕ) (b : Macroblock) (bs : List Macroblock) (p : Planes) → all_built refs f k (b ∷ bs) p ≡ all_built refs f (k + 1) bs (one_built refs (segment_factors f.header b.mode.segment) b (k % columns_of f) (k / columns_of f) p)
  unfolding all_built
  built_next k b bs p = refl

  info_mode : (b : Macroblock) → (info_of b).mode ≡ b.mode
  unfolding info_of
  info_mode b = refl

  pub one_more : (k : ℕ) (ds ds' : List Reading) (above above' : List Contexts) (left left' : Contexts) (planes planes' : Planes) (infos infos' : List MbInfo) (m d : MbMode) (coefficients : List (List ℤ)) (has_coefficients : Bool) (info : MbInfo)
      → k < length ms → 1 ≤ columns → length ms ≡ columns * rows → f.header ≡ h → columns_of f ≡ columns
      → (g : Going bytes parts probabilities columns rows h segments ms refs f k ds above left planes infos)
      → m ≡ record (get_or ms k d) { segment = segment_of h segments k (get_or ms k d) } → m.segment ≤ 3
      → HasRead bytes parts columns k g.progress (tokens_of bytes parts probabilities columns k m g.progress) coefficients has_coefficients ds' above' left'
      → planes' ≡ one_built refs (segment_factors h m.segment) (macroblock m coefficients has_coefficients) (k % columns) (k / columns) planes
      → info ≡ info_of (macroblock m coefficients has_coefficients) → infos' ≡ infos ++ info ∷ []
      → Going bytes parts probabilities columns rows h segments ms refs f (k + 1) ds' above' left' planes' infos'
  one_more k ds ds' above above' left left' planes planes' infos infos' m d coefficients has_coefficients info lt low count header columns_ g is segment has builds noted pushed =
      let t = tokens_of bytes parts probabilities columns k m g.progress in
      let b = macroblock m t.0.coefficients t.0.has_coefficients in
      let later = progress_after (length parts) columns k g.progress t in
      let rest = coming bytes parts probabilities columns h segments ms (k + 1) later in
      let same : macroblock m coefficients has_coefficients ≡ b = ap (λ l. macroblock m l has_coefficients) has.coefficients_are ∙ ap (λ s. macroblock m t.0.coefficients s) has.has_coefficients_are in
      let next = next_is k g.progress m d lt is in
      let built_so : planes' ≡ one_built refs (segment_factors f.header m.segment) b (k % columns_of f) (k / columns_of f) planes =
      builds
      ∙ (ap (λ x. one_built refs (segment_factors h m.segment) x (k % columns) (k / columns) planes) same
      ∙ (ap (λ x. one_built refs (segment_factors x m.segment) b (k % columns) (k / columns) planes) (sym header)
      ∙ ap (λ n. one_built refs (segment_factors f.header m.segment) b (k % n) (k / n) planes) (sym columns_))) in
      let info_is : info ≡ info_of b = noted ∙ ap info_of same in
      let segment_is : info.mode.segment ≤ 3 = subst (λ (i : MbInfo). i.mode.segment ≤ 3) (sym info_is) (subst (λ (x : MbMode). x.segment ≤ 3) (sym (info_mode b)) segment) in
      record {
        progress = later;
        holds = has.holds;
        builds = ap (λ p. all_built refs f (k + 1) rest p) built_so ∙ (sym (built_next k b rest planes) ∙ (ap (λ bs. all_built refs f k bs planes) (sym next) ∙ g.builds));
        notes = ap (λ is. is ++ map info_of rest) pushed
            ∙ (append_assoc infos (info ∷ []) (map info_of rest)
            ∙ (ap (λ i. infos ++ i ∷ map info_of rest) info_is
            ∙ (ap (λ bs. infos ++ map info_of bs) (sym next) ∙ g.notes)));
        blocks = subst (λ p. HasBlocks columns rows p) (sym builds) (one_size refs (segment_factors h m.segment) (macroblock m coefficients has_coefficients) (k % columns) (k / columns) columns rows planes g.blocks (mod-lt k {m = columns} low) (row_below k columns rows low (omega (arith, lt, count))));
        many = ap length pushed ∙ (length-append infos (info ∷ []) ∙ ap (λ n. n + 1) g.many);
        small = subst (λ is. All (λ (i : MbInfo). i.mode.segment ≤ 3) is) (sym pushed) (All-push (λ (i : MbInfo). i.mode.segment ≤ 3) infos info g.small segment_is);
      }

  none_coming : (k : ℕ) (r : Progress) → length ms ≤ k → coming bytes parts probabilities columns h segments ms k r ≡ []
  unfolding macroblocks with_segments
  none_coming k r le = ap (λ xs. macroblocks bytes parts probabilities columns k (with_segments h segments k xs) r) (drop_all k ms le)

  none_built : (k : ℕ) (p : Planes) → all_built refs f k [] p ≡ p
  unfolding all_built
  none_built k p = refl

  pub all_done : (k : ℕ) (ds : List Reading) (above : List Contexts) (left : Contexts) (planes : Planes) (infos : List MbInfo) → length ms ≤ k
      → Going bytes parts probabilities columns rows h segments ms refs f k ds above left planes infos
      → (planes ≡ all_built refs f 0 (coming bytes parts probabilities columns h segments ms 0 (begun (length parts) columns)) (blanks columns rows))
      × (infos ≡ map info_of (coming bytes parts probabilities columns h segments ms 0 (begun (length parts) columns)))
  all_done k ds above left planes infos le g =
      let none = none_coming k g.progress le in (
        sym (none_built k planes) ∙ (ap (λ bs. all_built refs f k bs planes) (sym none) ∙ g.builds),
        sym (append-nil infos) ∙ (ap (λ bs. infos ++ map info_of bs) (sym none) ∙ g.notes),
      )

-- what a frame's record is made of
pub record_header : (s : StateData) (bytes : List ℕ) (size : ℕ × ℕ) (parts : List (ℕ × ℕ)) (x : Header × List MbMode) → (record_of s bytes size parts x).header ≡ x.0
unfolding record_of
record_header s bytes size parts x = refl

pub record_columns : (s : StateData) (bytes : List ℕ) (size : ℕ × ℕ) (parts : List (ℕ × ℕ)) (x : Header × List MbMode) → columns_of (record_of s bytes size parts x) ≡ blocks_of size.0
unfolding record_of
record_columns s bytes size parts x = refl

pub record_blocks : (s : StateData) (bytes : List ℕ) (size : ℕ × ℕ) (parts : List (ℕ × ℕ)) (h : Header) (ms : List MbMode) (probs : Table) (columns : ℕ) (segments : List ℕ)
    → probs ≡ used h.key s.kept.probs h.updates → columns ≡ blocks_of size.0 → segments ≡ s.kept.map
    → coming bytes parts probs.coefficients columns h segments ms 0 (begun (length parts) columns) ≡ (record_of s bytes size parts (h, ms)).blocks
unfolding record_of
record_blocks s bytes size parts h ms probs columns segments probs_are columns_are segments_are =
    ap (λ (t : Table). coming bytes parts t.coefficients columns h segments ms 0 (begun (length parts) columns)) probs_are
    ∙ (ap (λ n. coming bytes parts (used h.key s.kept.probs h.updates).coefficients n h segments ms 0 (begun (length parts) n)) columns_are
    ∙ ap (λ xs. coming bytes parts (used h.key s.kept.probs h.updates).coefficients (blocks_of size.0) h xs ms 0 (begun (length parts) (blocks_of size.0))) segments_are)

pub record_built : (s : StateData) (bytes : List ℕ) (size : ℕ × ℕ) (parts : List (ℕ × ℕ)) (h : Header) (ms : List MbMode) (columns : ℕ) → columns ≡ blocks_of size.0
    → all_built (references_or (blanks columns (blocks_of size.1)) s.references) (record_of s bytes size parts (h, ms)) 0 (record_of s bytes size parts (h, ms)).blocks (blanks columns (blocks_of size.1))
    ≡ built s.references (record_of s bytes size parts (h, ms))
unfolding record_of built
record_built s bytes size parts h ms columns columns_are =
    ap (λ n. all_built (references_or (blanks n (blocks_of size.1)) s.references) (record_of s bytes size parts (h, ms)) 0 (record_of s bytes size parts (h, ms)).blocks (blanks n (blocks_of size.1))) columns_are
