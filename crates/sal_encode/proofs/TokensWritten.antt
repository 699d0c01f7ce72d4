-- The token partition while it is written: with the macroblocks to come it is all.
use Rattle.std.proofs.Common.{◌≡◌, ℕ, suc, zero, ◌+◌, ◌%◌, ◌<◌, ◌==◌, ◌∙◌, ℤ, List, [], ◌∷◌, ◌++◌, Bool, if◌then◌else◌, map, replicate, length, slice_index_or, slice_set, refl, sym, ap, Result, Ok, Err, IfOk, OnOk}
use Rattle.std.proofs.lemmas.List.{map-append, map-set, get_or-map}
use Rattle.sal_bool.specs.Bits.{Interval, start}
use Rattle.sal_bool.specs.Written.{steps}
use Rattle.sal_bool.specs.Pairs.{Pairs}
use Rattle.sal_bool.proofs.Meaning.{steps_append}
use Rattle.sal_macroblock.specs.declared.mode.MbMode.{MbMode}
use Rattle.sal_tokens.specs.declared.contexts.Contexts.{Contexts}
use Rattle.sal_tokens.specs.Blocks.{Tokens, tokens, no_contexts}
use Rattle.sal_tokens.specs.Written.{Branch, pair_of, pairs_of}
use Rattle.sal_frame.specs.Records.{Macroblock, macroblock}
use Rattle.sal_encode.specs.Plans.{planned, AreLevels}
use Rattle.sal_encode.specs.FrameBytes.{mb_branches, mb_tokens, tokens_branches}
use Rattle.sal_encode.specs.Standing.{with_tokens}
use Rattle.sal_encode.proofs.TokensAgain.{tokens_planned}

-- nothing is written yet
outside_above : (n : ℕ) (outside : Contexts) → outside.0 ≡ no_contexts → map (λ (c : Contexts). c.0) (replicate n outside) ≡ replicate n no_contexts
outside_above zero outside none = refl
outside_above (suc n) outside none = ap (λ (x : List Bool). x ∷ map (λ (c : Contexts). c.0) (replicate n outside)) none ∙ ap (λ xs. no_contexts ∷ xs) (outside_above n outside none)

pub none_written : (columns : ℕ) (i : Interval) (above : List Contexts) (outside left : Contexts) → i ≡ start → above ≡ replicate columns outside → outside.0 ≡ no_contexts → left.0 ≡ no_contexts
    → (probabilities : List ℕ) (bs : List Macroblock) → with_tokens probabilities columns 0 i above left bs ≡ steps start (pairs_of probabilities (tokens_branches columns 0 (replicate columns no_contexts) no_contexts bs))
unfolding with_tokens
none_written columns i above outside left first all none none_left probabilities bs =
    ap (λ (j : Interval). steps j (pairs_of probabilities (tokens_branches columns 0 (map (λ (c : Contexts). c.0) above) left.0 bs))) first
    ∙ (ap (λ (cs : List (List Bool)). steps start (pairs_of probabilities (tokens_branches columns 0 cs left.0 bs))) (ap (λ (xs : List Contexts). map (λ (c : Contexts). c.0) xs) all ∙ outside_above columns outside none)
    ∙ ap (λ (c : List Bool). steps start (pairs_of probabilities (tokens_branches columns 0 (replicate columns no_contexts) c bs))) none_left)

-- none is left
pub none_left : (probabilities : List ℕ) (columns k : ℕ) (i : Interval) (above : List Contexts) (left : Contexts) → with_tokens probabilities columns k i above left [] ≡ i
unfolding with_tokens tokens_branches
none_left probabilities columns k i above left = refl

-- one more
module _ (m : MbMode) (ls : List (List ℤ)) (b : Bool) (above : List Contexts) (left over beside after_above after_left : Contexts) (column : ℕ) where
  pub planned_so : AreLevels m ls → mb_tokens m ls over.0 beside.0 ≡ tokens ls b after_above.0 after_left.0 → macroblock m ls b ≡ planned m ls
  planned_so h e = sym (ap (λ (t : Tokens). macroblock m t.coefficients t.has_coefficients) e) ∙ tokens_planned m ls over.0 beside.0 h

  pub one_written : (probabilities : List ℕ) (i j : Interval) → column < length above → over ≡ slice_index_or above column over → beside.0 ≡ (if column == 0 then no_contexts else left.0)
      → mb_tokens m ls over.0 beside.0 ≡ tokens ls b after_above.0 after_left.0 → j ≡ steps i (pairs_of probabilities (mb_branches m ls over.0 beside.0))
      → (columns k : ℕ) (bs : List Macroblock) → k % columns ≡ column
      → with_tokens probabilities columns (k + 1) j (slice_set above column after_above) after_left bs ≡ with_tokens probabilities columns k i above left (planned m ls ∷ bs)
  unfolding with_tokens tokens_branches
  one_written probabilities i j lt over_is beside_is after put columns k bs column_is =
      let all : List (List Bool) = map (λ (c : Contexts). c.0) above in
      let t : Tokens = mb_tokens m ls over.0 beside.0 in
      let own : List Branch = mb_branches m ls over.0 beside.0 in
      let rest : List (List Bool) → List Bool → List Branch = λ cs c. tokens_branches columns (k + 1) cs c bs in
      let whole : List Bool → List Bool → ℕ → List Branch = λ o l n. mb_branches m ls o l ++ tokens_branches columns (k + 1) (slice_set all n (mb_tokens m ls o l).above) (mb_tokens m ls o l).left bs in
      let set_all : map (λ (c : Contexts). c.0) (slice_set above column after_above) ≡ slice_set all column t.above =
      map-set (λ (c : Contexts). c.0) above column after_above ∙ ap (λ (x : Tokens). slice_set all column x.above) (sym after) in
      let over_at : over.0 ≡ slice_index_or all column no_contexts = ap (λ (c : Contexts). c.0) over_is ∙ sym (get_or-map (λ (c : Contexts). c.0) above column over no_contexts lt) in
      ap (λ (x : Interval). steps x (pairs_of probabilities (rest (map (λ (c : Contexts). c.0) (slice_set above column after_above)) after_left.0))) put
      ∙ (ap (λ cs. steps (steps i (pairs_of probabilities own)) (pairs_of probabilities (rest cs after_left.0))) set_all
      ∙ (ap (λ (x : Tokens). steps (steps i (pairs_of probabilities own)) (pairs_of probabilities (rest (slice_set all column t.above) x.left))) (sym after)
      ∙ (sym (steps_append (pairs_of probabilities own) (pairs_of probabilities (rest (slice_set all column t.above) t.left)) i)
      ∙ (ap (λ (qs : Pairs). steps i qs) (sym (map-append (pair_of probabilities) own (rest (slice_set all column t.above) t.left)))
      ∙ (ap (λ o. steps i (pairs_of probabilities (whole o beside.0 column))) over_at
      ∙ (ap (λ l. steps i (pairs_of probabilities (whole (slice_index_or all column no_contexts) l column))) beside_is
      ∙ ap (λ n. steps i (pairs_of probabilities (whole (slice_index_or all n no_contexts) (if n == 0 then no_contexts else left.0) n))) (sym column_is)))))))

-- what is known where an answer is Ok
pub ok_with : {X E : Type 0} (r : Result X E) (P : X → Type 0) (Q R : Type 0) → IfOk r P → OnOk r Q → ((x : X) → P x → Q → R) → OnOk r R
ok_with (Ok x) P Q R p q f = f x p q
ok_with (Err e) P Q R p q f = tt
