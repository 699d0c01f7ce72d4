-- The blocks of a macroblock, one by one, by a decoder's numbers.
use Rattle.std.proofs.Common.{◌≡◌, ℕ, suc, zero, ◌+◌, ◌<◌, ◌≤◌, ◌∙◌, ◌-◌, ◌==◌, ℤ, pos, replicate, if◌then◌else◌, List, [], ◌∷◌, Bool, true, false, ◌&&◌, ◌||◌, length, refl, sym, ap, arith, get_or, drop, drop-cons, add-one, slice_set}
use Rattle.std.proofs.lemmas.Bool.{ltb-true}
use Rattle.std.proofs.lemmas.List.{drop_all, get_or-replicate, set-get_or}
use Rattle.sal_macroblock.specs.Blocks.{no_coefficients}
use Rattle.sal_bool.specs.Reading.{Reading}
use Rattle.sal_bool.specs.Syntax.{Done, run, bit_of}
use Rattle.sal_bool.proofs.Meaning.{run_then, run_on, run_done}
use Rattle.sal_tokens.specs.Coefficients.{first_position, coefficients, filled_block, is_some_coefficient, block}
use Rattle.sal_tokens.specs.Blocks.{Tokens, tokens, is_set, context, with_block, blocks, are_places}
use Rattle.sal_tokens.specs.declared.places.Place.{Place}

-- one block more is read
blocks_step : (cs : List ℕ) (ps qs : List Place) (p : Place) (t : Tokens) (b : List ℤ × Bool) (r r' : Reading) (end : Tokens × Reading)
    → ps ≡ p ∷ qs → run (block cs p.kind (context t p)) r ≡ (b, r') → run (blocks cs ps t) r ≡ end → run (blocks cs qs (with_block t p b)) r' ≡ end
unfolding blocks
blocks_step cs ps qs p t b r r' end e h all =
    sym (ap (λ xs. run (blocks cs xs t) r) e ∙ run_on (block cs p.kind (context t p)) _ r b r' h) ∙ all

-- the same, with what the calls of a loop's body say
pub block_read : (cs : List ℕ) (ps : List Place) (i : ℕ) (d : Place) (coefficients coefficients' : List (List ℤ)) (has_coefficients b : Bool) (above above' left left' : List Bool) (x y : ℕ) (zs : List ℤ) (r r' : Reading) (end : Tokens × Reading)
    → i < length ps
    → x ≡ bit_of (is_set above (get_or ps i d).above)
    → y ≡ bit_of (is_set left (get_or ps i d).left)
    → run (block cs (get_or ps i d).kind (x + y)) r ≡ ((zs, b), r')
    → coefficients' ≡ slice_set coefficients (get_or ps i d).index zs
    → above' ≡ slice_set above (get_or ps i d).above b
    → left' ≡ slice_set left (get_or ps i d).left b
    → run (blocks cs (drop i ps) (tokens coefficients has_coefficients above left)) r ≡ end
    → run (blocks cs (drop (i + 1) ps) (tokens coefficients' (has_coefficients || b) above' left')) r' ≡ end
block_read cs ps i d coefficients coefficients' has_coefficients b above above' left left' x y zs r r' end lt ex ey h el ea ef all =
    let p : Place = get_or ps i d in
    let t : Tokens = tokens coefficients has_coefficients above left in
    let pair : List ℤ × Bool = (zs, b) in
    let e : drop i ps ≡ p ∷ drop (i + 1) ps = rw add-one (drop-cons ps i d lt) in
    let same : context t p ≡ x + y = ap (λ n. n + bit_of (is_set left p.left)) (sym ex) ∙ ap (λ n. x + n) (sym ey) in
    let called : run (block cs p.kind (context t p)) r ≡ (pair, r') = ap (λ n. run (block cs p.kind n) r) same ∙ h in
    let more : run (blocks cs (drop (i + 1) ps) (with_block t p pair)) r' ≡ end = blocks_step cs (drop i ps) (drop (i + 1) ps) p t pair r r' end e called all in
    let after : tokens coefficients' (has_coefficients || b) above' left' ≡ with_block t p pair =
    ap (λ zs'. tokens zs' (has_coefficients || b) above' left') el ∙ (ap (λ bs. tokens (slice_set coefficients p.index zs) (has_coefficients || b) bs left') ea ∙ ap (λ bs. tokens (slice_set coefficients p.index zs) (has_coefficients || b) (slice_set above p.above b) bs) ef) in
    ap (λ t'. run (blocks cs (drop (i + 1) ps) t') r') after ∙ more

-- all are read
pub blocks_end : (cs : List ℕ) (ps : List Place) (i : ℕ) (t : Tokens) (r : Reading) (end : Tokens × Reading)
    → length ps ≤ i → run (blocks cs (drop i ps) t) r ≡ end → end ≡ (t, r)
unfolding blocks
blocks_end cs ps i t r end le h = sym h ∙ (ap (λ qs. run (blocks cs qs t) r) (drop_all i ps le) ∙ run_done t r)

both : (a b : Bool) → (a && b) ≡ true → (a ≡ true) × (b ≡ true)
both true true h = (refl, refl)
both true false h = cc
both false b h = cc

pub record IsPlace (p : Place) : Type 0 where
  pub index : p.index < 25
  pub kind : p.kind ≤ 3
  pub above : p.above < 9
  pub left : p.left < 9

-- a test over all places, at one of them
pub place_at : (ps : List Place) (i : ℕ) (d : Place) → are_places ps ≡ true → i < length ps → IsPlace (get_or ps i d)
place_at [] i d h lt = absurd (omega arith)
place_at (p ∷ ps) zero d h lt =
    let e = both _ _ h in
    let f = both _ _ e.0 in
    let g = both _ _ f.0 in
    let k = both _ _ g.0 in
    let four : p.kind < 4 = ltb-true _ _ k.1 in
    record { index = ltb-true _ _ k.0; kind = omega arith; above = ltb-true _ _ g.1; left = ltb-true _ _ f.1 }
place_at (p ∷ ps) (suc i) d h lt = place_at ps i d (both _ _ h).1 (omega arith)

none_filled : (first : ℕ) (b : Bool) (ls : List ℤ) → first ≡ (if b then 1 else 0) → is_some_coefficient ls ≡ false → filled_block first ls ≡ replicate 16 (pos 0)
none_filled first true [] e h = ap (λ (n : ℕ). filled_block n []) e
none_filled first false [] e h = ap (λ (n : ℕ). filled_block n []) e
none_filled first b (z ∷ zs) e h = cc

-- a block whose first token is the end has no coefficients
none_read : (cs : List ℕ) (kind c : ℕ) (r : Reading) (zs : List ℤ) (b : Bool) (r' : Reading) → run (block cs kind c) r ≡ ((zs, b), r') → b ≡ false → zs ≡ replicate 16 (pos 0)
unfolding block
none_read cs kind c r zs b r' h e =
    let first : ℕ = first_position kind in
    let read = coefficients cs kind (16 - first) c false in
    let ls : List ℤ = (run read r).0 in
    let done : run (block cs kind c) r ≡ ((filled_block first ls, is_some_coefficient ls), (run read r).1) = run_then read (λ us. Done (filled_block first us, is_some_coefficient us)) r ∙ run_done (filled_block first ls, is_some_coefficient ls) (run read r).1 in
    let same : ((zs, b), r') ≡ ((filled_block first ls, is_some_coefficient ls), (run read r).1) = sym h ∙ done in
    let has_coefficients : is_some_coefficient ls ≡ false = sym (ap (λ (y : (List ℤ × Bool) × Reading). y.0.1) same) ∙ e in
    ap (λ (y : (List ℤ × Bool) × Reading). y.0.0) same ∙ none_filled first (kind == 0) ls refl has_coefficients

neither : (a b : Bool) → (a || b) ≡ false → (a ≡ false) × (b ≡ false)
neither true b h = cc
neither false b h = (refl, h)

-- where all blocks so far begin with the end there are no coefficients
pub none_more : (cs : List ℕ) (kind c : ℕ) (r r' : Reading) (coefficients coefficients' : List (List ℤ)) (zs : List ℤ) (has_coefficients b : Bool) (i : ℕ) → i < 25 → (has_coefficients || b) ≡ false
    → (has_coefficients ≡ false → coefficients ≡ no_coefficients) → coefficients' ≡ slice_set coefficients i zs → run (block cs kind c) r ≡ ((zs, b), r') → coefficients' ≡ no_coefficients
none_more cs kind c r r' coefficients coefficients' zs has_coefficients b i lt e none put h =
    let both_none = neither has_coefficients b e in
    let zeros : List ℤ = replicate 16 (pos 0) in
    let here : get_or no_coefficients i [] ≡ zeros = get_or-replicate 25 i zeros [] lt in
    put
    ∙ (ap (λ (ls : List (List ℤ)). slice_set ls i zs) (none both_none.0)
    ∙ (ap (λ (ys : List ℤ). slice_set no_coefficients i ys) (none_read cs kind c r zs b r' h both_none.1 ∙ sym here)
    ∙ set-get_or no_coefficients i []))
