-- What is written of the coefficients of all macroblocks is read as them.
use Rattle.std.proofs.Common.{◌≡◌, ℕ, suc, ◌+◌, ◌%◌, ◌<◌, ◌∙◌, ℤ, List, [], ◌∷◌, ◌++◌, Bool, true, false, not, ◌&&◌, ◌||◌, if◌then◌else◌, ◌==◌, length, refl, sym, ap, arith, append_assoc, slice_index_or, slice_set}
use Rattle.std.proofs.lemmas.Bool.{ltb-true}
use Rattle.std.proofs.lemmas.List.{map-append, append-nil}
use Rattle.sal_base.specs.Samples.{listed_from}
use Rattle.sal_bool.specs.Bits.{Interval, start}
use Rattle.sal_bool.specs.Syntax.{read}
use Rattle.sal_bool.specs.Written.{steps, written, AreFit}
use Rattle.sal_bool.specs.Pairs.{Pairs}
use Rattle.sal_bool.proofs.ReadBack.{fit_both}
use Rattle.sal_macroblock.specs.declared.mode.MbMode.{MbMode}
use Rattle.sal_macroblock.specs.Macroblocks.{outside, has_y2}
use Rattle.sal_macroblock.specs.Blocks.{no_coefficients}
use Rattle.sal_tokens.specs.declared.places.Place.{Place}
use Rattle.sal_tokens.specs.Blocks.{Tokens, tokens, places, with_block, are_places, macroblock, skipped, no_contexts}
use Rattle.sal_tokens.specs.Written.{Branch, pair_of, pairs_of, is_some_block, block_at, after_blocks, after_macroblock, macroblock_branches, macroblock_pairs, AreSized}
use Rattle.sal_tokens.proofs.WrittenMacroblocks.{macroblock_again, all_there}
use Rattle.sal_frame.specs.Records.{Macroblock, macroblock as mb_record}
use Rattle.sal_decode.specs.TokenPartitions.{Progress, part_bytes, part_of, tokens_in, tokens_of, progress_after, macroblocks}
use Rattle.sal_encode.specs.Plans.{some_block, planned, planned_all, AreLevels}
use Rattle.sal_encode.specs.FrameBytes.{mb_branches, mb_tokens, tokens_branches}
use Rattle.sal_encode.proofs.PartitionRead.{branches_fit, read_between}

-- whether some block has a coefficient
some_after : (ls : List (List ℤ)) (ps : List Place) (t : Tokens) → (after_blocks ls ps t).has_coefficients ≡ (t.has_coefficients || some_block ls ps)
unfolding after_blocks
some_after ls [] t = none t.has_coefficients
  where
    none : (a : Bool) → a ≡ (a || false)
    none true = refl
    none false = refl
some_after ls (p ∷ ps) t = some_after ls ps (with_block t p (block_at ls p)) ∙ grouped t.has_coefficients (is_some_block p.kind (slice_index_or ls p.index [])) (some_block ls ps)
  where
    grouped : (a b c : Bool) → ((a || b) || c) ≡ (a || (b || c))
    grouped true b c = refl
    grouped false b c = refl

after_some : (y2 : Bool) (above left : List Bool) (ls : List (List ℤ)) → (after_macroblock y2 above left ls).has_coefficients ≡ some_block ls (places y2)
unfolding after_macroblock
after_some y2 above left ls = some_after ls (places y2) (tokens no_coefficients false above left)

-- a macroblock of the record has what is read
pub tokens_planned : (m : MbMode) (ls : List (List ℤ)) (above left : List Bool) → AreLevels m ls
    → mb_record m (mb_tokens m ls above left).coefficients (mb_tokens m ls above left).has_coefficients ≡ planned m ls
tokens_planned m ls above left h = by_skip m.skip refl
  where
    by_skip : (b : Bool) → m.skip ≡ b
        → (let t : Tokens = if b then skipped (has_y2 m.y) above left else after_macroblock (has_y2 m.y) above left ls in mb_record m t.coefficients t.has_coefficients) ≡ mb_record m ls (not b && some_block ls (places (has_y2 m.y)))
    by_skip true e = ap (λ zs. mb_record m zs false) (sym (h.skipped e))
    by_skip false e =
        ap (λ zs. mb_record m zs (after_macroblock (has_y2 m.y) above left ls).has_coefficients) (all_there (has_y2 m.y) above left ls h.blocks)
        ∙ ap (λ b. mb_record m ls b) (after_some (has_y2 m.y) above left ls)

both : (a b : Bool) → (a && b) ≡ true → (a ≡ true) × (b ≡ true)
both true b e = (refl, e)
both false b e = cc

-- each block at these places is sized
sized_all : (m : MbMode) (ls : List (List ℤ)) → AreLevels m ls → (ps : List Place) → are_places ps ≡ true → AreSized ls ps
sized_all m ls h [] e = tt
sized_all m ls h (p ∷ ps) e =
    let four = both _ _ e in
    let in_blocks : p.index < 25 = ltb-true _ _ (both _ _ (both _ _ (both _ _ four.0).0).0).0 in
    (h.sized p.index in_blocks, sized_all m ls h ps four.1)

pub all_places : (y2 : Bool) → are_places (places y2) ≡ true
unfolding places listed_from
all_places true = refl
all_places false = refl

pub sized : (m : MbMode) (ls : List (List ℤ)) → AreLevels m ls → AreSized ls (places (has_y2 m.y))
sized m ls h = sized_all m ls h (places (has_y2 m.y)) (all_places (has_y2 m.y))

-- a macroblock's tokens are read where they were written
mb_read : (probs : List ℕ) (m : MbMode) (ls : List (List ℤ)) (above left : List Bool) (before more : Pairs) → AreFit before → AreFit more → AreLevels m ls
    → tokens_in (written (steps start (before ++ (pairs_of probs (mb_branches m ls above left) ++ more)))) (steps start before) probs m above left
    ≡ (mb_tokens m ls above left, steps start (before ++ pairs_of probs (mb_branches m ls above left)))
mb_read probs m ls above left before more a b h = by_skip m.skip
  where
    by_skip : (skip : Bool)
        → (let own : Pairs = pairs_of probs (if skip then [] else macroblock_branches (has_y2 m.y) above left ls) in
        (if skip then (skipped (has_y2 m.y) above left, steps start before) else read (written (steps start (before ++ (own ++ more)))) (steps start before) (macroblock probs (has_y2 m.y) above left))
        ≡ ((if skip then skipped (has_y2 m.y) above left else after_macroblock (has_y2 m.y) above left ls), steps start (before ++ own)))
    by_skip true = ap (λ (qs : Pairs). let x : Tokens × Interval = (skipped (has_y2 m.y) above left, steps start qs) in x) (sym (append-nil before))
    by_skip false =
        read_between (macroblock probs (has_y2 m.y) above left) (after_macroblock (has_y2 m.y) above left ls) before (macroblock_pairs probs (has_y2 m.y) above left ls) more
        (macroblock_again probs (has_y2 m.y) above left ls h.blocks (sized m ls h)) a b

-- all of them, out of one partition
module _ (bytes : List ℕ) (part : ℕ × ℕ) (probs : List ℕ) (columns : ℕ) where
  abbrev progress : Pairs → List (List Bool) → List Bool → Progress
  progress before above left = record { read_to = steps start before ∷ []; above = above; left = left }

  one_part : (k : ℕ) → part_of 1 columns k ≡ 0
  one_part k = omega arith

  -- the next macroblock is read from the one partition
  next_read : (k : ℕ) (m : MbMode) (before : Pairs) (above : List (List Bool)) (left : List Bool)
      → tokens_of bytes (part ∷ []) probs columns k m (progress before above left)
      ≡ tokens_in (part_bytes bytes (part ∷ []) 0) (steps start before) probs m (slice_index_or above (k % columns) no_contexts) (if k % columns == 0 then no_contexts else left)
  unfolding tokens_of
  next_read k m before above left =
      ap (λ n. tokens_in (part_bytes bytes (part ∷ []) n) (slice_index_or (steps start before ∷ []) n start) probs m (slice_index_or above (k % columns) no_contexts) (if k % columns == 0 then no_contexts else left)) (one_part k)

  progress_next : (k : ℕ) (before after : Pairs) (above : List (List Bool)) (left : List Bool) (t : Tokens)
      → progress_after 1 columns k (progress before above left) (t, steps start after) ≡ progress after (slice_set above (k % columns) t.above) t.left
  progress_next k before after above left t =
      ap (λ n. let r : Progress = record { read_to = slice_set (steps start before ∷ []) n (steps start after); above = slice_set above (k % columns) t.above; left = t.left } in r) (one_part k)

  one_more : (k : ℕ) (m : MbMode) (ms : List MbMode) (before after : Pairs) (above : List (List Bool)) (left : List Bool) (t : Tokens)
      → tokens_of bytes (part ∷ []) probs columns k m (progress before above left) ≡ (t, steps start after)
      → macroblocks bytes (part ∷ []) probs columns k (m ∷ ms) (progress before above left)
      ≡ mb_record m t.coefficients t.has_coefficients ∷ macroblocks bytes (part ∷ []) probs columns (k + 1) ms (progress after (slice_set above (k % columns) t.above) t.left)
  unfolding macroblocks
  one_more k m ms before after above left t e =
      ap (λ (x : Tokens × Interval). mb_record m x.0.coefficients x.0.has_coefficients ∷ macroblocks bytes (part ∷ []) probs columns (k + 1) ms (progress_after 1 columns k (progress before above left) x)) e
      ∙ ap (λ (r : Progress). mb_record m t.coefficients t.has_coefficients ∷ macroblocks bytes (part ∷ []) probs columns (k + 1) ms r) (progress_next k before after above left t)

  pub tokens_again : (ms : List MbMode) (ls : List (List (List ℤ))) (k : ℕ) (before : Pairs) (above : List (List Bool)) (left : List Bool)
      → length ls ≡ length ms → ((j : ℕ) → j < length ms → AreLevels (slice_index_or ms j outside) (slice_index_or ls j [])) → AreFit before
      → part_bytes bytes (part ∷ []) 0 ≡ written (steps start (before ++ pairs_of probs (tokens_branches columns k above left (planned_all ms ls))))
      → macroblocks bytes (part ∷ []) probs columns k ms (progress before above left) ≡ planned_all ms ls
  unfolding macroblocks tokens_branches planned_all
  tokens_again [] [] k before above left many levels fit e = refl
  tokens_again [] (l ∷ ls) k before above left many levels fit e = absurd (omega (arith, many))
  tokens_again (m ∷ ms) [] k before above left many levels fit e = absurd (omega (arith, many))
  tokens_again (m ∷ ms) (l ∷ ls) k before above left many levels fit e =
      let over : List Bool = slice_index_or above (k % columns) no_contexts in
      let beside : List Bool = if k % columns == 0 then no_contexts else left in
      let here : AreLevels m l = levels 0 (omega arith) in
      let t : Tokens = mb_tokens m l over beside in
      let own : Pairs = pairs_of probs (mb_branches m l over beside) in
      let later : List Branch = tokens_branches columns (k + 1) (slice_set above (k % columns) t.above) t.left (planned_all ms ls) in
      let more : Pairs = pairs_of probs later in
      let split : before ++ pairs_of probs (mb_branches m l over beside ++ later) ≡ before ++ (own ++ more) = ap (λ (qs : Pairs). before ++ qs) (map-append (pair_of probs) (mb_branches m l over beside) later) in
      let all : part_bytes bytes (part ∷ []) 0 ≡ written (steps start (before ++ (own ++ more))) = e ∙ ap (λ (qs : Pairs). written (steps start qs)) split in
      let is_read : tokens_of bytes (part ∷ []) probs columns k m (progress before above left) ≡ (t, steps start (before ++ own)) =
      next_read k m before above left ∙ (ap (λ bs. tokens_in bs (steps start before) probs m over beside) all ∙ mb_read probs m l over beside before more fit (branches_fit probs later) here) in
      let rest : part_bytes bytes (part ∷ []) 0 ≡ written (steps start ((before ++ own) ++ more)) = all ∙ ap (λ (qs : Pairs). written (steps start qs)) (sym (append_assoc before own more)) in
      one_more k m ms before (before ++ own) above left t is_read
      ∙ (ap (λ (b : Macroblock). b ∷ macroblocks bytes (part ∷ []) probs columns (k + 1) ms (progress (before ++ own) (slice_set above (k % columns) t.above) t.left)) (tokens_planned m l over beside here)
      ∙ ap (λ (bs : List Macroblock). planned m l ∷ bs)
      (tokens_again ms ls (k + 1) (before ++ own) (slice_set above (k % columns) t.above) t.left (omega (arith, many)) (λ j lt. levels (suc j) (omega (arith, lt)))
      (fit_both before own fit (branches_fit probs (mb_branches m l over beside))) rest))
