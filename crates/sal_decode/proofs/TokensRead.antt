-- The token partitions, opened and read macroblock by macroblock.
use Rattle.std.proofs.Common.{◌≡◌, ℕ, suc, zero, ℤ, ◌+◌, ◌/◌, ◌%◌, ◌<◌, ◌≤◌, ◌==◌, ◌∙◌, List, [], ◌∷◌, ◌++◌, Bool, true, false, if◌then◌else◌, map, length, take, replicate, slice_index_or, slice_set, slice_range, mod-lt, refl, sym, ap, subst, arith}
use Rattle.std.proofs.lemmas.List.{get_or-replicate, get_or-set_same, get_or-set_other, get_or_append_left, get_or-take, get_or-map, get_or_default, map-set, length-set, length-replicate, length-take-le}
use Rattle.std.proofs.Math.Seq.{get_or-append_seam}
use Rattle.std.proofs.lemmas.Bool.{eqb-true, eqb-false}
use Rattle.sal_bool.specs.Bits.{Interval, start}
use Rattle.sal_bool.specs.Reading.{Reading, StandsFor, opened}
use Rattle.sal_macroblock.specs.declared.mode.MbMode.{MbMode}
use Rattle.sal_tokens.specs.declared.contexts.Contexts.{Contexts}
use Rattle.sal_tokens.specs.Blocks.{Tokens, tokens, no_contexts}
use Rattle.sal_decode.specs.TokenPartitions.{Progress, begun, part_bytes, part_of, tokens_in, tokens_of, progress_after}
use Rattle.sal_decode.specs.Standing.{AreOpened, Holds, HasRead}

-- one partition more is opened
pub one_opened : (bytes : List ℕ) (at : List (ℕ × ℕ)) (k : ℕ) (ds : List Reading) (d : Reading) (p : ℕ)
    → length ds ≡ k → ((p : ℕ) → p < k → StandsFor (part_bytes bytes at p) start (slice_index_or ds p (opened [])))
    → StandsFor (part_bytes bytes at k) start d → p < k + 1 → StandsFor (part_bytes bytes at p) start (slice_index_or (ds ++ d ∷ []) p (opened []))
one_opened bytes at k ds d p many stand new lt = by_test (p == k) refl
  where
    by_test : (b : Bool) → (p == k) ≡ b → StandsFor (part_bytes bytes at p) start (slice_index_or (ds ++ d ∷ []) p (opened []))
    by_test true t =
        let e : p ≡ k = eqb-true p k t in
        let f : slice_index_or (ds ++ d ∷ []) p (opened []) ≡ d = ap (λ i. slice_index_or (ds ++ d ∷ []) i (opened [])) (e ∙ sym many) ∙ get_or-append_seam ds d [] (opened []) in
        subst (λ x. StandsFor (part_bytes bytes at p) start x) (sym f) (subst (λ i. StandsFor (part_bytes bytes at i) start d) (sym e) new)
    by_test false t =
        let ne = eqb-false p k t in
        let less : p < k = omega (arith, lt, ne) in
        let f : slice_index_or (ds ++ d ∷ []) p (opened []) ≡ slice_index_or ds p (opened []) = get_or_append_left ds (d ∷ []) (opened []) p (omega (arith, less, many)) in
        subst (λ x. StandsFor (part_bytes bytes at p) start x) (sym f) (stand p less)

-- all are
pub all_opened : (bytes : List ℕ) (at : List (ℕ × ℕ)) (count : ℕ) (ds : List Reading) → count ≤ length at → length ds ≡ count
    → ((p : ℕ) → p < count → StandsFor (part_bytes bytes at p) start (slice_index_or ds p (opened []))) → AreOpened bytes (take count at) ds
all_opened bytes at count ds le many stand =
    let long = length-take-le count at le in
    record {
      count = many ∙ sym long;
      stand = λ p lt.
          let less : p < count = omega (arith, lt, long) in
          let e : slice_index_or (take count at) p (0, 0) ≡ slice_index_or at p (0, 0) = get_or-take count at p (0, 0) less in
          subst (λ x. StandsFor (slice_range bytes x.0 (x.0 + x.1)) start (slice_index_or ds p (opened []))) (sym e) (stand p less);
    }

-- outside contexts of each column
outside_above : (n : ℕ) (outside : Contexts) → outside.0 ≡ no_contexts → replicate n no_contexts ≡ map (λ (c : Contexts). c.0) (replicate n outside)
outside_above zero outside none = refl
outside_above (suc n) outside none = ap (λ (x : List Bool). x ∷ replicate n no_contexts) (sym none) ∙ ap (λ xs. outside.0 ∷ xs) (outside_above n outside none)

-- nothing is read of them
pub none_read : (bytes : List ℕ) (parts : List (ℕ × ℕ)) (columns : ℕ) (ds : List Reading) (above : List Contexts) (outside left : Contexts)
    → outside.0 ≡ no_contexts → left.0 ≡ no_contexts → above ≡ replicate columns outside → AreOpened bytes parts ds
    → Holds bytes parts columns (begun (length parts) columns) ds above left
none_read bytes parts columns ds above outside left none none_left all opened_ = record {
  count = opened_.count;
  places = length-replicate (length parts) start;
  stand = λ p lt.
      let e : slice_index_or (replicate (length parts) start) p start ≡ start = get_or-replicate (length parts) p start start lt in
      subst (λ i. StandsFor (part_bytes bytes parts p) i (slice_index_or ds p (opened []))) (sym e) (opened_.stand p lt);
  columns_are = ap length all ∙ length-replicate columns outside;
  above_is = outside_above columns outside none ∙ ap (λ xs. map (λ (c : Contexts). c.0) xs) (sym all);
  left_is = sym none_left;
}

-- one of them is read further
stands_set : (bytes : List ℕ) (parts : List (ℕ × ℕ)) (read_to : List Interval) (ds : List Reading) (q : ℕ) (i : Interval) (d : Reading)
    → length ds ≡ length parts → length read_to ≡ length parts → q < length parts
    → ((p : ℕ) → p < length parts → StandsFor (part_bytes bytes parts p) (slice_index_or read_to p start) (slice_index_or ds p (opened [])))
    → StandsFor (part_bytes bytes parts q) i d → (p : ℕ) → p < length parts
    → StandsFor (part_bytes bytes parts p) (slice_index_or (slice_set read_to q i) p start) (slice_index_or (slice_set ds q d) p (opened []))
stands_set bytes parts read_to ds q i d many places less all new p lt = by_test (p == q) refl
  where
    by_test : (b : Bool) → (p == q) ≡ b → StandsFor (part_bytes bytes parts p) (slice_index_or (slice_set read_to q i) p start) (slice_index_or (slice_set ds q d) p (opened []))
    by_test true t =
        let e : p ≡ q = eqb-true p q t in
        let a : slice_index_or (slice_set read_to q i) q start ≡ i = get_or-set_same read_to q i start (omega (arith, less, places)) in
        let b : slice_index_or (slice_set ds q d) q (opened []) ≡ d = get_or-set_same ds q d (opened []) (omega (arith, less, many)) in
        let there : StandsFor (part_bytes bytes parts q) (slice_index_or (slice_set read_to q i) q start) (slice_index_or (slice_set ds q d) q (opened [])) =
        subst (λ x. StandsFor (part_bytes bytes parts q) x (slice_index_or (slice_set ds q d) q (opened []))) (sym a) (subst (λ x. StandsFor (part_bytes bytes parts q) i x) (sym b) new) in
        subst (λ n. StandsFor (part_bytes bytes parts n) (slice_index_or (slice_set read_to q i) n start) (slice_index_or (slice_set ds q d) n (opened []))) (sym e) there
    by_test false t =
        let ne = eqb-false p q t in
        let a : slice_index_or (slice_set read_to q i) p start ≡ slice_index_or read_to p start = get_or-set_other read_to q p i start ne in
        let b : slice_index_or (slice_set ds q d) p (opened []) ≡ slice_index_or ds p (opened []) = get_or-set_other ds q p d (opened []) ne in
        subst (λ x. StandsFor (part_bytes bytes parts p) x (slice_index_or (slice_set ds q d) p (opened []))) (sym a) (subst (λ x. StandsFor (part_bytes bytes parts p) (slice_index_or read_to p start) x) (sym b) (all p lt))

-- a macroblock read out of its partition
module _ (bytes : List ℕ) (parts : List (ℕ × ℕ)) (probabilities : List ℕ) (columns k column row : ℕ) (m : MbMode) (r : Progress)
    (ds : List Reading) (above : List Contexts) (left over beside after_above after_left : Contexts) (n : ℕ) (from d : Reading) (coefficients : List (List ℤ)) (has_coefficients : Bool)
    (column_is : k % columns ≡ column) (row_is : k / columns ≡ row) (in_columns : column < length above) (in_parts : 1 ≤ length ds) (n_is : n ≡ length ds)
    (h : Holds bytes parts columns r ds above left) (from_is : from ≡ slice_index_or ds (row % n) from) (over_is : over ≡ slice_index_or above column over) (beside_is : beside.0 ≡ (if column == 0 then no_contexts else left.0)) where
  abbrev part : ℕ
  part = row % n

  abbrev here : Tokens × Interval
  here = tokens_in (part_bytes bytes parts part) (slice_index_or r.read_to part start) probabilities m over.0 beside.0

  part_is : part_of (length parts) columns k ≡ part
  part_is = ap (λ x. x % length parts) row_is ∙ ap (λ x. row % x) (sym (n_is ∙ h.count))

  -- what the code reads is what the definition says
  same : tokens_of bytes parts probabilities columns k m r ≡ here
  unfolding tokens_of
  same =
      let a : slice_index_or r.above (k % columns) no_contexts ≡ over.0 =
      ap (λ x. slice_index_or r.above x no_contexts) column_is
      ∙ (ap (λ xs. slice_index_or xs column no_contexts) h.above_is
      ∙ (get_or-map (λ (c : Contexts). c.0) above column over no_contexts in_columns
      ∙ ap (λ (c : Contexts). c.0) (sym over_is))) in
      let l : (if k % columns == 0 then no_contexts else r.left) ≡ beside.0 =
      ap (λ x. if x == 0 then no_contexts else r.left) column_is ∙ (ap (λ xs. if column == 0 then no_contexts else xs) h.left_is ∙ sym beside_is) in
      ap (λ p. tokens_in (part_bytes bytes parts p) (slice_index_or r.read_to p start) probabilities m (slice_index_or r.above (k % columns) no_contexts) (if k % columns == 0 then no_contexts else r.left)) part_is
      ∙ (ap (λ x. tokens_in (part_bytes bytes parts part) (slice_index_or r.read_to part start) probabilities m x (if k % columns == 0 then no_contexts else r.left)) a
      ∙ ap (λ x. tokens_in (part_bytes bytes parts part) (slice_index_or r.read_to part start) probabilities m over.0 x) l)

  pub read_next : ((b : List ℕ) (i : Interval) → StandsFor b i from → (tokens coefficients has_coefficients after_above.0 after_left.0 ≡ (tokens_in b i probabilities m over.0 beside.0).0) × StandsFor b (tokens_in b i probabilities m over.0 beside.0).1 d)
      → HasRead bytes parts columns k r (tokens_of bytes parts probabilities columns k m r) coefficients has_coefficients (slice_set ds part d) (slice_set above column after_above) after_left
  read_next reads =
      let lt : part < length parts = subst (λ x. part < x) (n_is ∙ h.count) (mod-lt row {m = n} (omega (arith, n_is, in_parts))) in
      let stood : StandsFor (part_bytes bytes parts part) (slice_index_or r.read_to part start) from =
      subst (λ x. StandsFor (part_bytes bytes parts part) (slice_index_or r.read_to part start) x) (get_or_default ds part (opened []) from (omega (arith, lt, h.count)) ∙ sym from_is) (h.stand part lt) in
      let x = reads (part_bytes bytes parts part) (slice_index_or r.read_to part start) stood in
      let stands = subst (λ q. (p : ℕ) → p < length parts → StandsFor (part_bytes bytes parts p) (slice_index_or (slice_set r.read_to q here.1) p start) (slice_index_or (slice_set ds part d) p (opened []))) (sym part_is)
      (stands_set bytes parts r.read_to ds part here.1 d h.count h.places lt h.stand x.1) in
      let all_above : slice_set r.above (k % columns) here.0.above ≡ map (λ (c : Contexts). c.0) (slice_set above column after_above) =
      ap (λ i. slice_set r.above i here.0.above) column_is
      ∙ (ap (λ xs. slice_set xs column here.0.above) h.above_is
      ∙ (ap (λ a. slice_set (map (λ (c : Contexts). c.0) above) column a) (sym (ap (λ (t : Tokens). t.above) x.0))
      ∙ sym (map-set (λ (c : Contexts). c.0) above column after_above))) in
      let holds : Holds bytes parts columns (progress_after (length parts) columns k r here) (slice_set ds part d) (slice_set above column after_above) after_left =
      record {
        count = length-set ds part d ∙ h.count;
        places = length-set r.read_to (part_of (length parts) columns k) here.1 ∙ h.places;
        stand = stands;
        columns_are = length-set above column after_above ∙ h.columns_are;
        above_is = all_above;
        left_is = sym (ap (λ (t : Tokens). t.left) x.0);
      } in
      subst (λ t. HasRead bytes parts columns k r t coefficients has_coefficients (slice_set ds part d) (slice_set above column after_above) after_left) (sym same)
      (record { coefficients_are = ap (λ (t : Tokens). t.coefficients) x.0; has_coefficients_are = ap (λ (t : Tokens). t.has_coefficients) x.0; holds = holds })
