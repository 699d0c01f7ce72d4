-- What is written of the modes of all macroblocks is read as them.
use Rattle.std.proofs.Common.{◌≡◌, ℕ, suc, ◌+◌, ◌<◌, ◌∙◌, List, [], ◌∷◌, ◌++◌, Bool, true, false, not, ◌&&◌, if◌then◌else◌, length, map, take, refl, sym, ap, arith, subst, append_assoc, slice_index, slice_index_or}
use Rattle.std.proofs.lemmas.List.{append-nil}
use Rattle.sal_bool.specs.Syntax.{Follows}
use Rattle.sal_bool.proofs.Meaning.{follows_then}
use Rattle.sal_bool.proofs.Writing.{follows_end}
use Rattle.sal_probs.specs.Probabilities.{Table}
use Rattle.sal_header.specs.declared.header.Header.{Header}
use Rattle.sal_macroblock.specs.declared.mode.MbMode.{MbMode}
use Rattle.sal_macroblock.specs.Macroblocks.{outside, is_b}
use Rattle.sal_modes.specs.Modes.{mb_mode}
use Rattle.sal_modes.proofs.WrittenModes.{mb_again}
use Rattle.sal_modes.specs.Written.{mb_pairs, as_read, IsWritable}
use Rattle.sal_decode.specs.FirstPartition.{around, mb_modes, segment_of, with_segments}
use Rattle.sal_encode.specs.FrameBytes.{modes_pairs}

module _ (h : Header) (probs : Table) (columns rows : ℕ) where
  pub modes_again : (ms before : List MbMode)
      → ((j : ℕ) → j < length ms → IsWritable h (around columns rows (before ++ take j (map (as_read h) ms))) (slice_index_or ms j outside))
      → ((j : ℕ) → j < length ms → is_b (slice_index_or ms j outside).y ≡ true → length (slice_index_or ms j outside).sub ≡ 16)
      → Follows (mb_modes h probs columns rows (length ms) before) (modes_pairs h probs columns rows before ms) (before ++ map (as_read h) ms)
  unfolding mb_modes modes_pairs
  modes_again [] before w sixteen = follows_end before (before ++ []) (sym (append-nil before))
  modes_again (m ∷ ms) before w sixteen =
      let next : List MbMode = before ++ as_read h m ∷ [] in
      let here : IsWritable h (around columns rows before) m = subst (λ xs. IsWritable h (around columns rows xs) m) (append-nil before) (w 0 (omega arith)) in
      let those : (j : ℕ) → j < length ms → IsWritable h (around columns rows (next ++ take j (map (as_read h) ms))) (slice_index_or ms j outside) =
      λ j lt. subst (λ xs. IsWritable h (around columns rows xs) (slice_index_or ms j outside)) (sym (append_assoc before (as_read h m ∷ []) (take j (map (as_read h) ms)))) (w (suc j) (omega (arith, lt))) in
      let later : Follows (mb_modes h probs columns rows (length ms) next) (modes_pairs h probs columns rows next ms) (before ++ as_read h m ∷ map (as_read h) ms) =
      subst (λ xs. Follows (mb_modes h probs columns rows (length ms) next) (modes_pairs h probs columns rows next ms) xs) (append_assoc before (as_read h m ∷ []) (map (as_read h) ms)) (modes_again ms next those (λ j lt. sixteen (suc j) (omega (arith, lt)))) in
      follows_then (mb_mode h probs (around columns rows before)) (λ x. mb_modes h probs columns rows (length ms) (before ++ x ∷ [])) (mb_pairs h probs (around columns rows before) m) (modes_pairs h probs columns rows next ms) (as_read h m) (before ++ as_read h m ∷ map (as_read h) ms)
      (mb_again h probs (around columns rows before) m here (sixteen 0 (omega arith))) later

-- what is read stands in its segment
module _ (h : Header) (segments : List ℕ) where
  one_again : (k : ℕ) (m : MbMode) → m.segment ≡ segment_of h segments k m → (let r : MbMode = as_read h m in record r { segment = segment_of h segments k r }) ≡ m
  one_again k m e = by_update h.update_map (if h.segmentation && not h.key then slice_index segments k else 0) e
    where
      by_update : (b : Bool) (other : ℕ) → m.segment ≡ (if b then m.segment else other)
          → (let r : MbMode = record m { segment = if b then m.segment else 0 } in record r { segment = if b then r.segment else other }) ≡ m
      by_update true other e = refl
      by_update false other e = ap (λ n. let r : MbMode = record m { segment = n } in r) (sym e)

  pub segments_again : (ms : List MbMode) (k : ℕ)
      → ((j : ℕ) → j < length ms → (slice_index_or ms j outside).segment ≡ segment_of h segments (k + j) (slice_index_or ms j outside))
      → with_segments h segments k (map (as_read h) ms) ≡ ms
  unfolding with_segments
  segments_again [] k e = refl
  segments_again (m ∷ ms) k e =
      let none : k + 0 ≡ k = omega arith in
      let here : m.segment ≡ segment_of h segments k m = e 0 (omega arith) ∙ ap (λ n. segment_of h segments n m) none in
      let those : (j : ℕ) → j < length ms → (slice_index_or ms j outside).segment ≡ segment_of h segments (k + 1 + j) (slice_index_or ms j outside) =
      λ j lt. (let on : k + suc j ≡ k + 1 + j = omega arith in e (suc j) (omega (arith, lt)) ∙ ap (λ n. segment_of h segments n (slice_index_or ms j outside)) on) in
      ap (λ (x : MbMode). x ∷ with_segments h segments (k + 1) (map (as_read h) ms)) (one_again k m here) ∙ ap (λ xs. m ∷ xs) (segments_again ms (k + 1) those)
