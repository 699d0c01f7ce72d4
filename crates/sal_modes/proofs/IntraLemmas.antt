-- The modes of an intra macroblock, step by step, by a decoder's numbers.
use Rattle.std.proofs.Common.{◌≡◌, ℕ, suc, ◌+◌, ◌-◌, ◌≤◌, ◌<◌, ◌∙◌, List, [], ◌∷◌, ◌++◌, Bool, false, if◌then◌else◌, length, replicate, set, take, refl, sym, ap, arith, zero, true}
use Rattle.std.proofs.lemmas.List.{take_more_set, take_all}
use Rattle.sal_base.specs.Kinds.{is_whole}
use Rattle.sal_base.specs.declared.kinds.YMode.{YMode}
use Rattle.sal_base.specs.declared.kinds.YMode.TheVariants.{DC, V, H, TM, B, NEAREST, NEAR, ZERO, NEW, SPLIT}
use Rattle.sal_base.specs.declared.kinds.SubMode.{SubMode}
use Rattle.sal_bool.specs.Reading.{Reading}
use Rattle.sal_bool.specs.Syntax.{Done, run, leaf}
use Rattle.sal_bool.proofs.Meaning.{run_on, run_done}
use Rattle.sal_tables.specs.Trees.{subblock_entries}
use Rattle.sal_tables.specs.declared.tree.Entry.{Entry}
use Rattle.sal_probs.specs.Probabilities.{Table}
use Rattle.sal_macroblock.specs.declared.mode.RefKind.TheVariants.{Intra}
use Rattle.sal_macroblock.specs.declared.mode.MbMode.{MbMode}
use Rattle.sal_macroblock.specs.Macroblocks.{is_b, implied, zero_vector, is_intra_mode, HasFittingModes}
use Rattle.sal_modes.specs.Around.{Around}
use Rattle.sal_modes.specs.IntraModes.{whole_mode, sub_mode, sub_modes, sub_probabilities, y_mode, chroma_mode, intra_mode}

-- what is read of one leaf, as the definition names the tree and the probabilities
pub leaf_along : (es es' : List Entry) (ps ps' : List ℕ) (r : Reading) (end : ℕ × Reading) → es ≡ es' → ps ≡ ps' → run (leaf es ps) r ≡ end → run (leaf es' ps') r ≡ end
leaf_along es es' ps ps' r end e f h = ap (λ qs. run (leaf es' qs) r) (sym f) ∙ (ap (λ ys. run (leaf ys ps) r) (sym e) ∙ h)

one_more : (key : Bool) (a : Around) (n m : ℕ) (subs : List SubMode) (l : ℕ) (r r' : Reading) → n ≡ suc m
    → run (leaf subblock_entries (sub_probabilities key a subs)) r ≡ (l, r') → run (sub_modes key a n subs) r ≡ run (sub_modes key a m (subs ++ sub_mode l ∷ [])) r'
unfolding sub_modes
one_more key a n m subs l r r' e h = rw e (run_on (leaf subblock_entries (sub_probabilities key a subs)) (λ x. sub_modes key a m (subs ++ sub_mode x ∷ [])) r l r' h)

-- one more subblock mode in its place
pub sub_modes_more : (key : Bool) (a : Around) (modes : List SubMode) (k l : ℕ) (v : SubMode) (r r' : Reading) (end : List SubMode × Reading) → k < 16 → length modes ≡ 16
    → run (leaf subblock_entries (sub_probabilities key a (take k modes))) r ≡ (l, r') → v ≡ sub_mode l
    → run (sub_modes key a (16 - k) (take k modes)) r ≡ end → run (sub_modes key a (16 - (k + 1)) (take (k + 1) (set modes k v))) r' ≡ end
sub_modes_more key a modes k l v r r' end lt long h e before =
    let more : take (k + 1) (set modes k v) ≡ take k modes ++ sub_mode l ∷ [] = take_more_set modes k v (omega (arith, long)) ∙ ap (λ (m : SubMode). take k modes ++ m ∷ []) e in
    ap (λ (ms : List SubMode). run (sub_modes key a (16 - (k + 1)) ms) r') more
    ∙ (sym (one_more key a (16 - k) (16 - (k + 1)) (take k modes) l r r' (omega arith) h) ∙ before)

ended : (key : Bool) (a : Around) (n : ℕ) (subs : List SubMode) (r : Reading) → n ≡ 0 → run (sub_modes key a n subs) r ≡ (subs, r)
unfolding sub_modes
ended key a n subs r e = rw e (run_done _ _)

pub sub_modes_all : (key : Bool) (a : Around) (modes : List SubMode) (k : ℕ) (r : Reading) (end : List SubMode × Reading) → 16 ≤ k → length modes ≡ 16
    → run (sub_modes key a (16 - k) (take k modes)) r ≡ end → end ≡ (modes, r)
sub_modes_all key a modes k r end le long h =
    sym h ∙ (ended key a (16 - k) (take k modes) r (omega arith) ∙ ap (λ (ms : List SubMode). let x : List SubMode × Reading = (ms, r) in x) (take_all k modes (omega (arith, long))))

not_b : (y : YMode) → (y ≡ B → ⊥) → is_b y ≡ false
not_b DC h = refl
not_b V h = refl
not_b H h = refl
not_b TM h = refl
not_b B h = absurd (h refl)
not_b NEAREST h = refl
not_b NEAR h = refl
not_b ZERO h = refl
not_b NEW h = refl
not_b SPLIT h = refl

-- subblocks of a macroblock whose mode isn't B have no bits
pub subs_implied : (key : Bool) (a : Around) (y : YMode) (s : SubMode) (r : Reading) → (y ≡ B → ⊥) → s ≡ implied y
    → run (if is_b y then sub_modes key a 16 [] else Done (replicate 16 (implied y))) r ≡ (replicate 16 s, r)
subs_implied key a y s r h e = rw (not_b y h) (run_done _ _ ∙ ap (λ (m : SubMode). let x : List SubMode × Reading = (replicate 16 m, r) in x) (sym e))

abbrev intra_of : YMode → List SubMode → YMode → MbMode
intra_of y subs chroma = record { segment = 0; skip = false; reference = Intra; y = y; sub = subs; chroma = chroma; vectors = replicate 16 zero_vector }

-- a whole intra macroblock, out of its parts
pub intra_read : (key : Bool) (probs : Table) (a : Around) (l m : ℕ) (y chroma : YMode) (subs : List SubMode) (r r1 r2 r3 : Reading)
    → run (y_mode key probs) r ≡ (l, r1) → y ≡ whole_mode l → run (if is_b y then sub_modes key a 16 [] else Done (replicate 16 (implied y))) r1 ≡ (subs, r2)
    → run (chroma_mode key probs) r2 ≡ (m, r3) → chroma ≡ whole_mode m
    → run (intra_mode key probs a) r ≡ (record { segment = 0; skip = false; reference = Intra; y = y; sub = subs; chroma = chroma; vectors = replicate 16 zero_vector }, r3)
unfolding intra_mode
intra_read key probs a l m y chroma subs r r1 r2 r3 hy ey hs hc ec =
    let hs' : run (if is_b (whole_mode l) then sub_modes key a 16 [] else Done (replicate 16 (implied (whole_mode l)))) r1 ≡ (subs, r2) =
    ap (λ (w : YMode). run (if is_b w then sub_modes key a 16 [] else Done (replicate 16 (implied w))) r1) (sym ey) ∙ hs in
    run_on (y_mode key probs) _ r l r1 hy ∙ (run_on _ _ r1 subs r2 hs' ∙ (run_on (chroma_mode key probs) _ r2 m r3 hc ∙ (run_done _ r3
    ∙ (ap (λ (w : YMode). let x : MbMode × Reading = (intra_of w subs (whole_mode m), r3) in x) (sym ey) ∙ ap (λ (w : YMode). let x : MbMode × Reading = (intra_of y subs w, r3) in x) (sym ec)))))

-- what the leaves of the Y and chroma trees stand for are intra modes, and the first four are whole
pub leaf_intra : (l : ℕ) → is_intra_mode (whole_mode l) ≡ true
leaf_intra zero = refl
leaf_intra (suc zero) = refl
leaf_intra (suc (suc zero)) = refl
leaf_intra (suc (suc (suc zero))) = refl
leaf_intra (suc (suc (suc (suc zero)))) = refl
leaf_intra (suc (suc (suc (suc (suc l))))) = refl

pub leaf_whole : (l : ℕ) → l < 4 → is_whole (whole_mode l) ≡ true
leaf_whole zero lt = refl
leaf_whole (suc zero) lt = refl
leaf_whole (suc (suc zero)) lt = refl
leaf_whole (suc (suc (suc zero))) lt = refl
leaf_whole (suc (suc (suc (suc l)))) lt = absurd (omega arith)

-- the modes of an intra macroblock fit
pub intra_fits : (l m : ℕ) (y chroma : YMode) (subs : List SubMode) → y ≡ whole_mode l → chroma ≡ whole_mode m → m < 4 → (is_b y ≡ false → subs ≡ replicate 16 (implied y)) → HasFittingModes (intra_of y subs chroma)
intra_fits l m y chroma subs ey ec lt whole =
    record { segment = omega arith; luma = ap is_intra_mode ey ∙ leaf_intra l; chroma = ap is_whole ec ∙ leaf_whole m lt; inter_chroma = λ e. absurd (never e); sub = whole; vectors = λ e. refl; still = λ e. refl }
  where
    never : true ≡ false → ⊥
    never e = cc
