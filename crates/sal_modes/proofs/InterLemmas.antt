-- An inter macroblock, and a whole one, step by step, by a decoder's numbers.
use Rattle.std.proofs.Common.{◌≡◌, ℕ, ◌+◌, ◌*◌, ◌≤◌, ◌<◌, ◌∙◌, ℤ, pos, neg_ℤ, ◌+ℤ◌, ◌-ℤ◌, ◌*ℤ◌, List, Bool, false, not, if◌then◌else◌, replicate, refl, sym, ap, arith, subst, to_z, of_z, w16, zero, suc, true}
use Rattle.std.specs.Int.{int_max}
use Rattle.std.proofs.lemmas.Int.{ints, int_max_is, int_min_is}
use Rattle.sal_base.specs.declared.kinds.Vector.{Vector}
use Rattle.sal_base.specs.declared.kinds.YMode.{YMode}
use Rattle.sal_base.specs.declared.kinds.YMode.TheVariants.{DC, V, H, TM, B, NEAREST, NEAR, ZERO, NEW, SPLIT}
use Rattle.sal_base.specs.declared.kinds.SubMode.{SubMode}
use Rattle.sal_base.specs.declared.kinds.SubMode.TheVariants.{BDC}
use Rattle.sal_bool.specs.Reading.{Reading}
use Rattle.sal_bool.specs.Syntax.{Syntax, Done, run, one, when, leaf}
use Rattle.sal_bool.proofs.Meaning.{run_on, run_done}
use Rattle.sal_tables.specs.Trees.{segment_entries, vector_mode_entries}
use Rattle.sal_probs.specs.Probabilities.{Table}
use Rattle.sal_header.specs.declared.header.Header.{Header}
use Rattle.sal_macroblock.specs.Sizes.{Within}
use Rattle.sal_macroblock.specs.Macroblocks.{vector, vector_at, zero_vector, is_intra, is_split, implied, is_intra_mode, HasFittingModes}
use Rattle.sal_macroblock.specs.declared.mode.RefKind.{RefKind}
use Rattle.sal_macroblock.specs.declared.mode.MbMode.{MbMode}
use Rattle.sal_modes.specs.declared.around.Bias.{Bias}
use Rattle.sal_modes.specs.declared.around.Bounds.{Bounds}
use Rattle.sal_modes.specs.declared.around.Near.{Near}
use Rattle.sal_modes.specs.Around.{Around}
use Rattle.sal_modes.specs.Vectors.{between, plus, AreNear}
use Rattle.sal_modes.specs.Near.{near_of}
use Rattle.sal_modes.specs.ReadVectors.{read_vector}
use Rattle.sal_modes.specs.IntraModes.{intra_mode}
use Rattle.sal_modes.specs.Modes.{vector_mode, mode_row, vectors_of, reference_of, bias_for, inter_mode, mb_mode}

-- what has no bits
pub unread : {X : Type 0} (b : Bool) (s : Syntax X) (d : X) (r : Reading) → b ≡ false → run (when b s d) r ≡ (d, r)
unread b s d r e = rw e (run_done d r)

between_near : (low high x : ℤ) → Within 5120 low → Within 5120 high → Within 5120 (between low high x)
between_near low high x h k =
    let a = int_max_is low x in
    let b = int_min_is high (int_max low x) in
    (omega (arith, ints, a, b), omega (arith, ints, a, b))

-- the best vector stays within the bounds of the largest picture
pub best_near : (above left corner : MbMode) (b : Bias) (bounds : Bounds) (n : Near) → AreNear bounds → n ≡ near_of above left corner b bounds → Within 5120 n.best.row × Within 5120 n.best.column
unfolding near_of
best_near above left corner b bounds n h e =
    let P : Near → Type 0 = λ m. Within 5120 m.best.row × Within 5120 m.best.column in
    subst P (sym e) (between_near bounds.least.row bounds.greatest.row _ h.least_row h.greatest_row, between_near bounds.least.column bounds.greatest.column _ h.least_column h.greatest_column)

abbrev bounds : ℤ → ℤ → ℤ → ℤ → Bounds
bounds a b c d = record { least = vector a b; greatest = vector c d }

pub least_kept : (k : ℕ) → k < 80 → to_z w16 (of_z w16 (pos 0 -ℤ to_z w16 (of_z w16 (pos 64 *ℤ to_z w16 (of_z w16 (to_z w16 k +ℤ pos 1)))))) ≡ neg_ℤ (pos (64 * (k + 1)))
least_kept k lt = omega (arith, ints)

pub greatest_kept : (n : ℕ) → n ≤ 80 → to_z w16 (of_z w16 (pos 64 *ℤ to_z w16 n)) ≡ pos (64 * n)
greatest_kept n le = omega (arith, ints)

pub same_bounds : (a b c d a' b' c' d' : ℤ) → a ≡ a' → b ≡ b' → c ≡ c' → d ≡ d' → bounds a b c d ≡ bounds a' b' c' d'
same_bounds a b c d a' b' c' d' ea eb ec ed =
    ap (λ (z : ℤ). bounds z b c d) ea ∙ (ap (λ (z : ℤ). bounds a' z c d) eb ∙ (ap (λ (z : ℤ). bounds a' b' z d) ec ∙ ap (λ (z : ℤ). bounds a' b' c' z) ed))

-- vectors by the mode
pub all_nearest : (ps : List ℕ) (a : Around) (near : Near) (y : YMode) (r : Reading) → y ≡ NEAREST → run (vectors_of ps a near y) r ≡ (replicate 16 near.nearest, r)
all_nearest ps a near y r e = rw e (run_done _ _)

pub all_near : (ps : List ℕ) (a : Around) (near : Near) (y : YMode) (r : Reading) → y ≡ NEAR → run (vectors_of ps a near y) r ≡ (replicate 16 near.near, r)
all_near ps a near y r e = rw e (run_done _ _)

pub all_new : (ps : List ℕ) (a : Around) (near : Near) (y : YMode) (r : Reading) (v w : Vector) (r' : Reading) → y ≡ NEW → run (read_vector ps) r ≡ (v, r') → w ≡ plus near.best v
    → run (vectors_of ps a near y) r ≡ (replicate 16 w, r')
all_new ps a near y r v w r' e h is =
    rw e (run_on (read_vector ps) (λ x. Done (replicate 16 (plus near.best x))) r v r' h ∙ (run_done _ r' ∙ ap (λ (x : Vector). let z : List Vector × Reading = (replicate 16 x, r') in z) (sym is)))

pub all_zero : (ps : List ℕ) (a : Around) (near : Near) (y : YMode) (r : Reading) → (y ≡ NEAREST → ⊥) → (y ≡ NEAR → ⊥) → (y ≡ NEW → ⊥) → (y ≡ SPLIT → ⊥) → run (vectors_of ps a near y) r ≡ (replicate 16 zero_vector, r)
all_zero ps a near DC r e f g h = run_done _ _
all_zero ps a near V r e f g h = run_done _ _
all_zero ps a near H r e f g h = run_done _ _
all_zero ps a near TM r e f g h = run_done _ _
all_zero ps a near B r e f g h = run_done _ _
all_zero ps a near NEAREST r e f g h = absurd (e refl)
all_zero ps a near NEAR r e f g h = absurd (f refl)
all_zero ps a near ZERO r e f g h = run_done _ _
all_zero ps a near NEW r e f g h = absurd (g refl)
all_zero ps a near SPLIT r e f g h = absurd (h refl)

abbrev inter_of : RefKind → YMode → List Vector → MbMode
inter_of reference y vectors = record { segment = 0; skip = false; reference = reference; y = y; sub = replicate 16 BDC; chroma = DC; vectors = vectors }

-- an inter macroblock out of its parts
pub inter_read : (h : Header) (probs : Table) (a : Around) (later alt : Bool) (reference : RefKind) (near : Near) (l : ℕ) (y : YMode) (vectors : List Vector) (r r1 r2 r3 r4 : Reading)
    → run (one h.prob_last) r ≡ (later, r1) → run (when later (one h.prob_golden) false) r1 ≡ (alt, r2) → reference ≡ reference_of later alt
    → near ≡ near_of a.above a.left a.corner (bias_for h reference) a.bounds → run (leaf vector_mode_entries (mode_row near.counts)) r2 ≡ (l, r3) → y ≡ vector_mode l
    → run (vectors_of probs.vectors a near y) r3 ≡ (vectors, r4) → run (inter_mode h probs a) r ≡ (inter_of reference y vectors, r4)
unfolding inter_mode
inter_read h probs a later alt reference near l y vectors r r1 r2 r3 r4 hl ha er en hm ey hv =
    let known : Near = near_of a.above a.left a.corner (bias_for h (reference_of later alt)) a.bounds in
    let en' : near ≡ known = en ∙ ap (λ (k : RefKind). near_of a.above a.left a.corner (bias_for h k) a.bounds) er in
    let hm' : run (leaf vector_mode_entries (mode_row known.counts)) r2 ≡ (l, r3) = ap (λ (n : Near). run (leaf vector_mode_entries (mode_row n.counts)) r2) (sym en') ∙ hm in
    let hv' : run (vectors_of probs.vectors a known (vector_mode l)) r3 ≡ (vectors, r4) =
    ap (λ (m : YMode). run (vectors_of probs.vectors a known m) r3) (sym ey) ∙ (ap (λ (n : Near). run (vectors_of probs.vectors a n y) r3) (sym en') ∙ hv) in
    run_on (one h.prob_last) _ r later r1 hl ∙ (run_on _ _ r1 alt r2 ha ∙ (run_on _ _ r2 l r3 hm' ∙ (run_on _ _ r3 vectors r4 hv' ∙ (run_done _ r4
    ∙ (ap (λ (k : RefKind). let x : MbMode × Reading = (inter_of k (vector_mode l) vectors, r4) in x) (sym er)
    ∙ ap (λ (m : YMode). let x : MbMode × Reading = (inter_of reference m vectors, r4) in x) (sym ey))))))

-- a whole macroblock out of its parts
pub whole_read : (h : Header) (probs : Table) (a : Around) (segment : ℕ) (skip inter : Bool) (m : MbMode) (r r1 r2 r3 r4 : Reading)
    → run (when h.update_map (leaf segment_entries h.map) 0) r ≡ (segment, r1) → run (when h.skips (one h.prob_skip) false) r1 ≡ (skip, r2) → run (when (not h.key) (one h.prob_intra) false) r2 ≡ (inter, r3)
    → run (if inter then inter_mode h probs a else intra_mode h.key probs a) r3 ≡ (m, r4) → run (mb_mode h probs a) r ≡ (record m { segment = segment; skip = skip }, r4)
unfolding mb_mode
whole_read h probs a segment skip inter m r r1 r2 r3 r4 hs hk hi hm =
    run_on _ _ r segment r1 hs ∙ (run_on _ _ r1 skip r2 hk ∙ (run_on _ _ r2 inter r3 hi ∙ (run_on _ _ r3 m r4 hm ∙ run_done _ r4)))

-- the modes of an inter macroblock fit
vector_not_intra : (l : ℕ) → is_intra_mode (vector_mode l) ≡ false
vector_not_intra zero = refl
vector_not_intra (suc zero) = refl
vector_not_intra (suc (suc zero)) = refl
vector_not_intra (suc (suc (suc zero))) = refl
vector_not_intra (suc (suc (suc (suc zero)))) = refl
vector_not_intra (suc (suc (suc (suc (suc l))))) = refl

never_intra : (later alt : Bool) → is_intra (reference_of later alt) ≡ false
never_intra false alt = refl
never_intra true false = refl
never_intra true true = refl

leaf_implies : (l : ℕ) → implied (vector_mode l) ≡ BDC
leaf_implies zero = refl
leaf_implies (suc zero) = refl
leaf_implies (suc (suc zero)) = refl
leaf_implies (suc (suc (suc zero))) = refl
leaf_implies (suc (suc (suc (suc zero)))) = refl
leaf_implies (suc (suc (suc (suc (suc l))))) = refl

opposite : {X : Type 0} (b : Bool) → b ≡ false → b ≡ true → X
opposite b e f = let no : ⊥ = cc in absurd no

pub inter_fits : (later alt : Bool) (reference : RefKind) (l : ℕ) (y : YMode) (vectors : List Vector) → reference ≡ reference_of later alt → y ≡ vector_mode l
    → (is_split y ≡ false → vectors ≡ replicate 16 (vector_at vectors 15)) → HasFittingModes (inter_of reference y vectors)
inter_fits later alt reference l y vectors er ey whole =
    let inter : is_intra reference ≡ false = ap is_intra er ∙ never_intra later alt in
    record {
      segment = omega arith;
      luma = ap is_intra_mode ey ∙ (vector_not_intra l ∙ sym inter);
      chroma = refl;
      inter_chroma = λ e. refl;
      sub = λ e. ap (λ (m : SubMode). replicate 16 m) (sym (ap implied ey ∙ leaf_implies l));
      vectors = whole;
      still = λ e. opposite (is_intra reference) inter e;
    }

-- a whole one in its segment
pub whole_fits : (m : MbMode) (segment : ℕ) (skip : Bool) → segment ≤ 3 → HasFittingModes m → HasFittingModes (record m { segment = segment; skip = skip })
whole_fits m segment skip le h = record { segment = le; luma = h.luma; chroma = h.chroma; inter_chroma = h.inter_chroma; sub = h.sub; vectors = h.vectors; still = h.still }
