-- What sinks are left as, and the blocks of a macroblock one by one.
use Rattle.std.proofs.Common.{◌≡◌, ℕ, suc, zero, ◌+◌, ◌<◌, ◌≤◌, ◌∙◌, ℤ, pos, List, [], ◌∷◌, ◌++◌, Bool, false, ◌||◌, length, take, drop, refl, sym, ap, arith, subst, get_or, drop-cons, add-one, slice_set, slice_index_or, All}
use Rattle.std.proofs.lemmas.List.{drop_all, take_all}
use Rattle.sal_macroblock.specs.Sizes.{Within}
use Rattle.sal_macroblock.specs.Blocks.{no_coefficients}
use Rattle.sal_bool.specs.Bits.{Interval, start, next}
use Rattle.sal_bool.specs.Written.{steps, written, AreFit}
use Rattle.sal_bool.specs.Syntax.{Syntax, Follows, read, bit_of}
use Rattle.sal_bool.specs.Pairs.{Pairs}
use Rattle.sal_bool.proofs.ReadBack.{read_among}
use Rattle.sal_tokens.specs.Blocks.{Tokens, tokens, is_set, context, with_block, places}
use Rattle.sal_tokens.specs.Written.{Branch, pair_of, pairs_of, counted, counted_all, taken_all, is_some_block, block_branches, block_at, blocks_branches, after_blocks, macroblock_branches, after_macroblock, AreWritable, Leaves, IsSized, AreSized}
use Rattle.sal_tokens.specs.declared.counts.Counts.{Counts}
use Rattle.sal_tokens.specs.declared.places.Place.{Place}
use Rattle.sal_tokens.proofs.WrittenBlocks.{IsBlock}
use Rattle.sal_tokens.proofs.WrittenMacroblocks.{all_small, all_there}
use Rattle.sal_tokens.proofs.Taking.{Left, left_start, left_same, left_taken, left_none}

-- an encoder is left as by the pairs
pub put_all : (ps : List ℕ) (i : Interval) (bs : List Branch) → taken_all (λ (j : Interval) (b : Branch). next j (pair_of ps b).0 (pair_of ps b).1) i bs ≡ steps i (pairs_of ps bs)
unfolding taken_all
put_all ps i [] = refl
put_all ps i (b ∷ bs) = put_all ps (next i (pair_of ps b).0 (pair_of ps b).1) bs

-- counts are left as by the branches
pub count_all : (c : Counts) (bs : List Branch) → (taken_all (λ (d : Counts) (b : Branch). let e : Counts = record { pairs = counted d.pairs b } in e) c bs).pairs ≡ counted_all c.pairs bs
unfolding taken_all
count_all c [] = refl
count_all c (b ∷ bs) = count_all (record { pairs = counted c.pairs b }) bs

-- what leads to a value is read as that value, where it was written
pub read_where : {X : Type 0} (s : Syntax X) (qs : Pairs) (x : X) (before more : Pairs) (i j : Interval) → Follows s qs x → AreFit before → AreFit more → i ≡ steps start before → j ≡ steps i qs → read (written (steps j more)) i s ≡ (x, j)
read_where {X} s qs x before more i j h a b e f =
    let P : Interval → Type 0 = λ k. read (written (steps (steps k qs) more)) k s ≡ (let y : X × Interval = (x, steps k qs) in y) in
    let Q : Interval → Type 0 = λ k. read (written (steps k more)) i s ≡ (let y : X × Interval = (x, k) in y) in
    subst Q (sym f) (subst P (sym e) (read_among s qs x before more h a b))

pub is_block : (kind : ℕ) (zs : List ℤ) → length zs ≡ 16 → All (Within 2114) zs → (kind ≡ 0 → slice_index_or zs 0 (pos 0) ≡ pos 0) → IsBlock kind zs
is_block kind zs long small first = record { long = long; small = all_small zs small; no_first = first }

-- the blocks that are left are all, whatever coefficients stand so far
pub record Going {X : Type 0} (f : X → Branch → X) (ls : List (List ℤ)) (ps : List Place) (x : X) (has : Bool) (above left : List Bool) (s : X) (ws : List Branch) (end : Tokens) : Type 0 where
  pub coefficients : List (List ℤ)
  pub branches : Left f x (blocks_branches ls ps (tokens coefficients has above left)) s ws
  pub after : after_blocks ls ps (tokens coefficients has above left) ≡ end

pub going_start : {X : Type 0} (f : X → Branch → X) (ls : List (List ℤ)) (ps : List Place) (x : X) (has_y2 : Bool) (above left : List Bool) → ps ≡ places has_y2
    → Going f ls ps x false above left x (macroblock_branches has_y2 above left ls) (after_macroblock has_y2 above left ls)
unfolding macroblock_branches after_macroblock
going_start f ls ps x has_y2 above left e =
    let P : List Place → Type 0 = λ qs. Going f ls qs x false above left x (macroblock_branches has_y2 above left ls) (after_macroblock has_y2 above left ls) in
    subst P (sym e) (record { coefficients = no_coefficients; branches = left_start f x (macroblock_branches has_y2 above left ls); after = refl })

branches_step : (ls : List (List ℤ)) (ps qs : List Place) (p : Place) (t : Tokens) (zs : List ℤ) (c : ℕ) → ps ≡ p ∷ qs → slice_index_or ls p.index [] ≡ zs → context t p ≡ c
    → blocks_branches ls ps t ≡ block_branches p.kind c zs ++ blocks_branches ls qs (with_block t p (block_at ls p))
unfolding blocks_branches
branches_step ls ps qs p t zs c e same is =
    ap (λ (xs : List Place). blocks_branches ls xs t) e
    ∙ (ap (λ n. block_branches p.kind n (slice_index_or ls p.index []) ++ blocks_branches ls qs (with_block t p (block_at ls p))) is
    ∙ ap (λ (ys : List ℤ). block_branches p.kind c ys ++ blocks_branches ls qs (with_block t p (block_at ls p))) same)

after_step : (ls : List (List ℤ)) (ps qs : List Place) (p : Place) (t : Tokens) → ps ≡ p ∷ qs → after_blocks ls ps t ≡ after_blocks ls qs (with_block t p (block_at ls p))
unfolding after_blocks
after_step ls ps qs p t e = ap (λ (xs : List Place). after_blocks ls xs t) e

-- one block more
pub going_more : {X : Type 0} (f : X → Branch → X) (ls : List (List ℤ)) (ps : List Place) (i : ℕ) (d : Place) (x y s : X) (has has' b : Bool) (above above' left left' : List Bool) (m n : ℕ) (zs : List ℤ) (ws : List Branch) (end : Tokens)
    → i < length ps
    → m ≡ bit_of (is_set above (get_or ps i d).above)
    → n ≡ bit_of (is_set left (get_or ps i d).left)
    → zs ≡ slice_index_or ls (get_or ps i d).index []
    → y ≡ taken_all f x (block_branches (get_or ps i d).kind (m + n) zs)
    → b ≡ is_some_block (get_or ps i d).kind zs
    → above' ≡ slice_set above (get_or ps i d).above b
    → left' ≡ slice_set left (get_or ps i d).left b
    → has' ≡ (has || b)
    → Going f ls (drop i ps) x has above left s ws end
    → Going f ls (drop (i + 1) ps) y has' above' left' s ws end
going_more f ls ps i d x y s has has' b above above' left left' m n zs ws end lt em en same put is ea ef eh h =
    let p : Place = get_or ps i d in
    let t : Tokens = tokens h.coefficients has above left in
    let qs : List Place = drop (i + 1) ps in
    let e : drop i ps ≡ p ∷ qs = rw add-one (drop-cons ps i d lt) in
    let c : context t p ≡ m + n = ap (λ k. k + bit_of (is_set left p.left)) (sym em) ∙ ap (λ k. m + k) (sym en) in
    let first : b ≡ is_some_block p.kind (slice_index_or ls p.index []) = is ∙ ap (λ (ys : List ℤ). is_some_block p.kind ys) same in
    let after : tokens (slice_set h.coefficients p.index (slice_index_or ls p.index [])) has' above' left' ≡ with_block t p (block_at ls p) =
    ap (λ (k : Bool). tokens (slice_set h.coefficients p.index (slice_index_or ls p.index [])) k above' left') eh
    ∙ (ap (λ (ks : List Bool). tokens (slice_set h.coefficients p.index (slice_index_or ls p.index [])) (has || b) ks left') ea
    ∙ (ap (λ (ks : List Bool). tokens (slice_set h.coefficients p.index (slice_index_or ls p.index [])) (has || b) (slice_set above p.above b) ks) ef
    ∙ ap (λ (k : Bool). tokens (slice_set h.coefficients p.index (slice_index_or ls p.index [])) (has || k) (slice_set above p.above k) (slice_set left p.left k)) first)) in
    let rest = left_taken f x y s _ (blocks_branches ls qs (with_block t p (block_at ls p))) ws put (left_same f x s _ _ ws (branches_step ls (drop i ps) qs p t zs (m + n) e (sym same) c) h.branches) in
    record {
      coefficients = slice_set h.coefficients p.index (slice_index_or ls p.index []);
      branches = left_same f y s _ _ ws (ap (λ (u : Tokens). blocks_branches ls qs u) (sym after)) rest;
      after = ap (λ (u : Tokens). after_blocks ls qs u) after ∙ (sym (after_step ls (drop i ps) qs p t e) ∙ h.after);
    }

pub going_all : {X : Type 0} (f : X → Branch → X) (ls : List (List ℤ)) (ps : List Place) (i : ℕ) (x s : X) (has : Bool) (above left : List Bool) (ws : List Branch) (end : Tokens)
    → length ps ≤ i → Going f ls (drop i ps) x has above left s ws end → x ≡ taken_all f s ws
unfolding blocks_branches
going_all f ls ps i x s has above left ws end le h =
    left_none f x s ws (left_same f x s _ _ ws (ap (λ (qs : List Place). blocks_branches ls qs (tokens h.coefficients has above left)) (drop_all i ps le)) h.branches)

pub going_leaves : {X : Type 0} (f : X → Branch → X) (ls : List (List ℤ)) (ps : List Place) (i : ℕ) (x s : X) (has : Bool) (above left : List Bool) (ws : List Branch) (end : Tokens)
    → length ps ≤ i → Going f ls (drop i ps) x has above left s ws end → Leaves end has above left
unfolding after_blocks
going_leaves f ls ps i x s has above left ws end le h =
    let e : tokens h.coefficients has above left ≡ end = sym (ap (λ (qs : List Place). after_blocks ls qs (tokens h.coefficients has above left)) (drop_all i ps le)) ∙ h.after in
    record { some = ap (λ (t : Tokens). t.has_coefficients) (sym e); over = ap (λ (t : Tokens). t.above) (sym e); beside = ap (λ (t : Tokens). t.left) (sym e) }

-- the blocks so far are sized
sized_suc : (ls : List (List ℤ)) (ps : List Place) (i : ℕ) (d : Place) (zs : List ℤ) → i < length ps → zs ≡ slice_index_or ls (get_or ps i d).index [] → length zs ≡ 16 → All (Within 2114) zs → AreSized ls (take i ps) → AreSized ls (take (suc i) ps)
sized_suc ls [] i d zs lt e long small h = absurd (omega (arith, lt))
sized_suc ls (p ∷ ps) zero d zs lt e long small h =
    let P : List ℤ → Type 0 = λ ys. IsSized ys in
    (subst P e (record { long = long; small = small }), tt)
sized_suc ls (p ∷ ps) (suc i) d zs lt e long small h = (h.0, sized_suc ls ps i d zs (omega (arith, lt)) e long small h.1)

pub sized_more : (ls : List (List ℤ)) (ps : List Place) (i : ℕ) (d : Place) (zs : List ℤ) → i < length ps → zs ≡ slice_index_or ls (get_or ps i d).index [] → length zs ≡ 16 → All (Within 2114) zs → AreSized ls (take i ps) → AreSized ls (take (i + 1) ps)
sized_more ls ps i d zs lt e long small h =
    let n : suc i ≡ i + 1 = omega arith in
    let P : ℕ → Type 0 = λ k. AreSized ls (take k ps) in
    subst P n (sized_suc ls ps i d zs lt e long small h)

pub sized_all : (ls : List (List ℤ)) (ps : List Place) (i : ℕ) (has_y2 : Bool) → ps ≡ places has_y2 → length ps ≤ i → AreSized ls (take i ps) → AreSized ls (places has_y2)
sized_all ls ps i has_y2 e le h = let P : List Place → Type 0 = λ qs. AreSized ls qs in subst P (take_all i ps le ∙ e) h

-- what is left of coefficients that can be written
pub after_is : (has_y2 : Bool) (above left above' left' : List Bool) (b : Bool) (ls : List (List ℤ)) → AreWritable has_y2 ls → Leaves (after_macroblock has_y2 above left ls) b above' left' → after_macroblock has_y2 above left ls ≡ tokens ls b above' left'
after_is has_y2 above left above' left' b ls w h =
    let t : Tokens = after_macroblock has_y2 above left ls in
    ap (λ (zs : List (List ℤ)). tokens zs t.has_coefficients t.above t.left) (all_there has_y2 above left ls w)
    ∙ (ap (λ (k : Bool). tokens ls k t.above t.left) h.some ∙ (ap (λ (ks : List Bool). tokens ls b ks t.left) h.over ∙ ap (λ (ks : List Bool). tokens ls b above' ks) h.beside))
