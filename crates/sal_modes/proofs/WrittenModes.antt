-- What is written of a macroblock's modes and vectors is read as that.
use Rattle.std.proofs.Common.{◌≡◌, ℕ, suc, zero, ◌+◌, ◌<◌, ◌∙◌, List, [], ◌∷◌, ◌++◌, Bool, true, false, not, if◌then◌else◌, length, replicate, take, get_or, slice_index_or, refl, sym, ap, arith, subst}
use Rattle.std.proofs.lemmas.List.{take_all}
use Rattle.sal_base.specs.Kinds.{is_whole}
use Rattle.sal_base.specs.declared.kinds.Vector.{Vector}
use Rattle.sal_base.specs.declared.kinds.YMode.{YMode}
use Rattle.sal_base.specs.declared.kinds.YMode.TheVariants.{DC, V, H, TM, B, NEAREST, NEAR, ZERO, NEW, SPLIT}
use Rattle.sal_base.specs.declared.kinds.SubMode.{SubMode}
use Rattle.sal_base.specs.declared.kinds.SubMode.TheVariants.{BDC, BTM, BVE, BHE, BLD, BRD, BVR, BVL, BHD, BHU}
use Rattle.sal_tables.specs.Tables.{key_y_probabilities_of, key_chroma_probabilities_of}
use Rattle.sal_tables.specs.Trees.{segment_entries, key_y_entries, inter_y_entries, chroma_entries, subblock_entries, vector_mode_entries}
use Rattle.sal_probs.specs.Probabilities.{Table}
use Rattle.sal_header.specs.declared.header.Header.{Header}
use Rattle.sal_bool.specs.Bits.{Interval, start}
use Rattle.sal_bool.specs.Written.{steps, written, AreFit}
use Rattle.sal_bool.specs.Syntax.{Syntax, Done, ◌>>=◌, Follows, read, one, when, leaf}
use Rattle.sal_bool.specs.Pairs.{Pairs, pair, way, leaf_pairs, pairs_when}
use Rattle.sal_bool.proofs.Meaning.{follows_then}
use Rattle.sal_bool.proofs.Writing.{follows_done, follows_end, follows_one, follows_made}
use Rattle.sal_bool.proofs.ReadBack.{follows_when, read_among}
use Rattle.sal_macroblock.specs.declared.mode.RefKind.{RefKind}
use Rattle.sal_macroblock.specs.declared.mode.RefKind.TheVariants.{Intra, Last, Golden, Alt}
use Rattle.sal_macroblock.specs.declared.mode.MbMode.{MbMode}
use Rattle.sal_macroblock.specs.Macroblocks.{zero_vector, own_vector, is_intra, is_split, is_b, implied, is_intra_mode, HasFittingModes}
use Rattle.sal_modes.specs.declared.around.Near.{Near}
use Rattle.sal_modes.specs.Vectors.{plus}
use Rattle.sal_modes.specs.Around.{Around}
use Rattle.sal_modes.specs.ReadVectors.{read_vector}
use Rattle.sal_modes.specs.IntraModes.{whole_mode, sub_mode, sub_number, sub_probabilities, sub_modes, y_mode, chroma_mode, intra_mode}
use Rattle.sal_modes.specs.Modes.{vector_mode, mode_row, vectors_of, reference_of, inter_mode, mb_mode}
use Rattle.sal_modes.specs.Written.{whole_number, vector_number, subs_pairs, y_pairs, chroma_pairs, intra_pairs, vector_pairs, is_new, is_last, is_alt, near_for, inter_pairs, mb_pairs, as_read, IsVectorOf, IsWritable}
use Rattle.sal_modes.proofs.WrittenVectors.{HasWay, leaf_again, vector_again, plus_again}

-- each tree has the leaves that are written
segment_has : (n : ℕ) → n < 4 → HasWay segment_entries n
unfolding way segment_entries
segment_has zero lt = record { path = _; is = refl }
segment_has (suc zero) lt = record { path = _; is = refl }
segment_has (suc (suc zero)) lt = record { path = _; is = refl }
segment_has (suc (suc (suc zero))) lt = record { path = _; is = refl }
segment_has (suc (suc (suc (suc n)))) lt = absurd (omega (arith, lt))

key_y_has : (y : YMode) → HasWay key_y_entries (whole_number y)
unfolding way key_y_entries
key_y_has DC = record { path = _; is = refl }
key_y_has V = record { path = _; is = refl }
key_y_has H = record { path = _; is = refl }
key_y_has TM = record { path = _; is = refl }
key_y_has B = record { path = _; is = refl }
key_y_has NEAREST = record { path = _; is = refl }
key_y_has NEAR = record { path = _; is = refl }
key_y_has ZERO = record { path = _; is = refl }
key_y_has NEW = record { path = _; is = refl }
key_y_has SPLIT = record { path = _; is = refl }

inter_y_has : (y : YMode) → HasWay inter_y_entries (whole_number y)
unfolding way inter_y_entries
inter_y_has DC = record { path = _; is = refl }
inter_y_has V = record { path = _; is = refl }
inter_y_has H = record { path = _; is = refl }
inter_y_has TM = record { path = _; is = refl }
inter_y_has B = record { path = _; is = refl }
inter_y_has NEAREST = record { path = _; is = refl }
inter_y_has NEAR = record { path = _; is = refl }
inter_y_has ZERO = record { path = _; is = refl }
inter_y_has NEW = record { path = _; is = refl }
inter_y_has SPLIT = record { path = _; is = refl }

chroma_has : (y : YMode) → is_whole y ≡ true → HasWay chroma_entries (whole_number y)
unfolding way chroma_entries
chroma_has DC h = record { path = _; is = refl }
chroma_has V h = record { path = _; is = refl }
chroma_has H h = record { path = _; is = refl }
chroma_has TM h = record { path = _; is = refl }
chroma_has B h = cc
chroma_has NEAREST h = cc
chroma_has NEAR h = cc
chroma_has ZERO h = cc
chroma_has NEW h = cc
chroma_has SPLIT h = cc

sub_has : (s : SubMode) → HasWay subblock_entries (sub_number s)
unfolding way subblock_entries
sub_has BDC = record { path = _; is = refl }
sub_has BTM = record { path = _; is = refl }
sub_has BVE = record { path = _; is = refl }
sub_has BHE = record { path = _; is = refl }
sub_has BLD = record { path = _; is = refl }
sub_has BRD = record { path = _; is = refl }
sub_has BVR = record { path = _; is = refl }
sub_has BVL = record { path = _; is = refl }
sub_has BHD = record { path = _; is = refl }
sub_has BHU = record { path = _; is = refl }

vector_mode_has : (y : YMode) → HasWay vector_mode_entries (vector_number y)
unfolding way vector_mode_entries
vector_mode_has DC = record { path = _; is = refl }
vector_mode_has V = record { path = _; is = refl }
vector_mode_has H = record { path = _; is = refl }
vector_mode_has TM = record { path = _; is = refl }
vector_mode_has B = record { path = _; is = refl }
vector_mode_has NEAREST = record { path = _; is = refl }
vector_mode_has NEAR = record { path = _; is = refl }
vector_mode_has ZERO = record { path = _; is = refl }
vector_mode_has NEW = record { path = _; is = refl }
vector_mode_has SPLIT = record { path = _; is = refl }

-- and they stand for the modes
mode_again : (y : YMode) → is_intra_mode y ≡ true → whole_mode (whole_number y) ≡ y
mode_again DC h = refl
mode_again V h = refl
mode_again H h = refl
mode_again TM h = refl
mode_again B h = refl
mode_again NEAREST h = cc
mode_again NEAR h = cc
mode_again ZERO h = cc
mode_again NEW h = cc
mode_again SPLIT h = cc

whole_intra : (y : YMode) → is_whole y ≡ true → is_intra_mode y ≡ true
whole_intra DC h = refl
whole_intra V h = refl
whole_intra H h = refl
whole_intra TM h = refl
whole_intra B h = refl
whole_intra NEAREST h = cc
whole_intra NEAR h = cc
whole_intra ZERO h = cc
whole_intra NEW h = cc
whole_intra SPLIT h = cc

sub_again : (s : SubMode) → sub_mode (sub_number s) ≡ s
sub_again BDC = refl
sub_again BTM = refl
sub_again BVE = refl
sub_again BHE = refl
sub_again BLD = refl
sub_again BRD = refl
sub_again BVR = refl
sub_again BVL = refl
sub_again BHD = refl
sub_again BHU = refl

inter_mode_again : (y : YMode) → is_intra_mode y ≡ false → vector_mode (vector_number y) ≡ y
inter_mode_again DC h = cc
inter_mode_again V h = cc
inter_mode_again H h = cc
inter_mode_again TM h = cc
inter_mode_again B h = cc
inter_mode_again NEAREST h = refl
inter_mode_again NEAR h = refl
inter_mode_again ZERO h = refl
inter_mode_again NEW h = refl
inter_mode_again SPLIT h = refl

-- subblock modes
take_snoc : (xs : List SubMode) (k : ℕ) → k < length xs → take (suc k) xs ≡ take k xs ++ get_or xs k BDC ∷ []
take_snoc [] k lt = absurd (omega (arith, lt))
take_snoc (x ∷ xs) zero lt = refl
take_snoc (x ∷ xs) (suc k) lt = ap (λ (ys : List SubMode). x ∷ ys) (take_snoc xs k (omega (arith, lt)))

subs_again : (key : Bool) (a : Around) (subs : List SubMode) (k n : ℕ) → k + n ≡ length subs → Follows (sub_modes key a n (take k subs)) (subs_pairs key a subs k n) subs
unfolding sub_modes subs_pairs
subs_again key a subs k zero e = follows_end (take k subs) subs (take_all k subs (omega (arith, e)))
subs_again key a subs k (suc n) e =
    let s : SubMode = slice_index_or subs k BDC in
    let one_more : suc k ≡ k + 1 = omega arith in
    let so_far : take k subs ++ sub_mode (sub_number s) ∷ [] ≡ take (k + 1) subs = ap (λ (m : SubMode). take k subs ++ m ∷ []) (sub_again s) ∙ (sym (take_snoc subs k (omega (arith, e))) ∙ ap (λ i. take i subs) one_more) in
    let P : List SubMode → Type 0 = λ ms. Follows (sub_modes key a n ms) (subs_pairs key a subs (k + 1) n) subs in
    follows_then (leaf subblock_entries (sub_probabilities key a (take k subs))) (λ l. sub_modes key a n (take k subs ++ sub_mode l ∷ [])) _ _ (sub_number s) subs (leaf_again subblock_entries (sub_probabilities key a (take k subs)) (sub_number s) (sub_has s))
    (subst P (sym so_far) (subs_again key a subs (k + 1) n (omega (arith, e))))

subs_when : (key : Bool) (a : Around) (y : YMode) (subs : List SubMode) (b : Bool) → (b ≡ true → length subs ≡ 16) → (b ≡ false → subs ≡ replicate 16 (implied y))
    → Follows (if b then sub_modes key a 16 [] else Done (replicate 16 (implied y))) (pairs_when b (subs_pairs key a subs 0 16)) subs
subs_when key a y subs true long h = let n = long refl in subs_again key a subs 0 16 (omega (arith, n))
subs_when key a y subs false long h = follows_end (replicate 16 (implied y)) subs (sym (h refl))

y_again : (key : Bool) (probs : Table) (y : YMode) → Follows (y_mode key probs) (y_pairs key probs y) (whole_number y)
y_again true probs y = leaf_again key_y_entries key_y_probabilities_of (whole_number y) (key_y_has y)
y_again false probs y = leaf_again inter_y_entries probs.y (whole_number y) (inter_y_has y)

-- a macroblock before its segment and its skip bit are known
abbrev bare : MbMode → MbMode
bare m = record m { segment = 0; skip = false }

abbrev intra_of : YMode → List SubMode → YMode → MbMode
intra_of y subs chroma = record { segment = 0; skip = false; reference = Intra; y = y; sub = subs; chroma = chroma; vectors = replicate 16 zero_vector }

-- what follows the Y mode
abbrev after_y : Bool → Table → Around → YMode → Syntax MbMode
after_y key probs a y =
    (if is_b y then sub_modes key a 16 [] else Done (replicate 16 (implied y))) >>= λ subs. (chroma_mode key probs >>= λ chroma. Done (intra_of y subs (whole_mode chroma)))

intra_all : (key : Bool) (probs : Table) (a : Around) (m : MbMode) → is_intra_mode m.y ≡ true → is_whole m.chroma ≡ true → (is_b m.y ≡ true → length m.sub ≡ 16) → (is_b m.y ≡ false → m.sub ≡ replicate 16 (implied m.y))
    → Follows (intra_mode key probs a) (intra_pairs key probs a m) (intra_of m.y m.sub m.chroma)
unfolding intra_mode intra_pairs
intra_all key probs a m luma chroma long sub =
    let c : Follows (chroma_mode key probs) (chroma_pairs key probs m.chroma) (whole_number m.chroma) = leaf_again chroma_entries (if key then key_chroma_probabilities_of else probs.chroma) (whole_number m.chroma) (chroma_has m.chroma chroma) in
    let end : intra_of m.y m.sub (whole_mode (whole_number m.chroma)) ≡ intra_of m.y m.sub m.chroma = ap (λ (w : YMode). intra_of m.y m.sub w) (mode_again m.chroma (whole_intra m.chroma chroma)) in
    let rest : Follows (after_y key probs a m.y) (pairs_when (is_b m.y) (subs_pairs key a m.sub 0 16) ++ (chroma_pairs key probs m.chroma ++ [])) (intra_of m.y m.sub m.chroma) =
    (follows_then (if is_b m.y then sub_modes key a 16 [] else Done (replicate 16 (implied m.y))) (λ subs. (chroma_mode key probs >>= λ k. Done (intra_of m.y subs (whole_mode k)))) _ _ m.sub _ (subs_when key a m.y m.sub (is_b m.y) long sub)
    (follows_then (chroma_mode key probs) (λ k. Done (intra_of m.y m.sub (whole_mode k))) _ _ (whole_number m.chroma) _ c (follows_end _ _ end))) in
    let P : YMode → Type 0 = λ y. Follows (after_y key probs a y) (pairs_when (is_b m.y) (subs_pairs key a m.sub 0 16) ++ (chroma_pairs key probs m.chroma ++ [])) (intra_of m.y m.sub m.chroma) in
    follows_then (y_mode key probs) (λ y. after_y key probs a (whole_mode y)) _ _ (whole_number m.y) _ (y_again key probs m.y) (subst P (sym (mode_again m.y luma)) rest)

intra_only : (r : RefKind) → is_intra r ≡ true → r ≡ Intra
intra_only Intra h = refl
intra_only Last h = cc
intra_only Golden h = cc
intra_only Alt h = cc

intra_again : (key : Bool) (probs : Table) (a : Around) (m : MbMode) → is_intra m.reference ≡ true → HasFittingModes m → (is_b m.y ≡ true → length m.sub ≡ 16) → Follows (intra_mode key probs a) (intra_pairs key probs a m) (bare m)
intra_again key probs a m intra h long =
    let whole : intra_of m.y m.sub m.chroma ≡ bare m =
    ap (λ (r : RefKind). let x : MbMode = record { segment = 0; skip = false; reference = r; y = m.y; sub = m.sub; chroma = m.chroma; vectors = replicate 16 zero_vector } in x) (sym (intra_only m.reference intra))
    ∙ ap (λ (vs : List Vector). let x : MbMode = record { segment = 0; skip = false; reference = m.reference; y = m.y; sub = m.sub; chroma = m.chroma; vectors = vs } in x) (sym (h.still intra)) in
    let P : MbMode → Type 0 = λ x. Follows (intra_mode key probs a) (intra_pairs key probs a m) x in
    subst P whole (intra_all key probs a m (h.luma ∙ intra) h.chroma long h.sub)

-- an inter macroblock
reference_again : (r : RefKind) → is_intra r ≡ false → reference_of (not (is_last r)) (is_alt r) ≡ r
reference_again Intra h = cc
reference_again Last h = refl
reference_again Golden h = refl
reference_again Alt h = refl

last_only : (r : RefKind) → not (is_last r) ≡ false → is_alt r ≡ false
last_only Intra h = refl
last_only Last h = refl
last_only Golden h = refl
last_only Alt h = cc

vectors_again : (ps : List ℕ) (a : Around) (near : Near) (y : YMode) (v : Vector) → is_split y ≡ false → IsVectorOf near y v → Follows (vectors_of ps a near y) (pairs_when (is_new y) (vector_pairs ps near.best v) ++ []) (replicate 16 v)
vectors_again ps a near DC v split h = follows_end _ _ (ap (λ (w : Vector). replicate 16 w) (sym h))
vectors_again ps a near V v split h = follows_end _ _ (ap (λ (w : Vector). replicate 16 w) (sym h))
vectors_again ps a near H v split h = follows_end _ _ (ap (λ (w : Vector). replicate 16 w) (sym h))
vectors_again ps a near TM v split h = follows_end _ _ (ap (λ (w : Vector). replicate 16 w) (sym h))
vectors_again ps a near B v split h = follows_end _ _ (ap (λ (w : Vector). replicate 16 w) (sym h))
vectors_again ps a near NEAREST v split h = follows_end _ _ (ap (λ (w : Vector). replicate 16 w) (sym h))
vectors_again ps a near NEAR v split h = follows_end _ _ (ap (λ (w : Vector). replicate 16 w) (sym h))
vectors_again ps a near ZERO v split h = follows_end _ _ (ap (λ (w : Vector). replicate 16 w) (sym h))
vectors_again ps a near NEW v split h =
    follows_then (read_vector ps) (λ w. Done (replicate 16 (plus near.best w))) _ _ _ _ (vector_again ps near.best v h.0 h.1) (follows_end _ _ (ap (λ (w : Vector). replicate 16 w) (plus_again near.best v)))
vectors_again ps a near SPLIT v split h = cc

abbrev inter_of : RefKind → YMode → List Vector → MbMode
inter_of r y vs = record { segment = 0; skip = false; reference = r; y = y; sub = replicate 16 BDC; chroma = DC; vectors = vs }

-- what follows the reference, and what follows the vector mode
abbrev after_mode : Table → Around → RefKind → Near → YMode → Syntax MbMode
after_mode probs a r near y = vectors_of probs.vectors a near y >>= λ vs. Done (inter_of r y vs)

abbrev after_reference : Header → Table → Around → RefKind → Syntax MbMode
after_reference h probs a r = leaf vector_mode_entries (mode_row (near_for h a r).counts) >>= λ l. after_mode probs a r (near_for h a r) (vector_mode l)

-- what is left of an inter macroblock after its reference
abbrev rest_pairs : Header → Table → Around → MbMode → Pairs
rest_pairs h probs a m =
    leaf_pairs vector_mode_entries (mode_row (near_for h a m.reference).counts) (vector_number m.y) ++ (pairs_when (is_new m.y) (vector_pairs probs.vectors (near_for h a m.reference).best (own_vector m)) ++ [])

after_reference_again : (h : Header) (probs : Table) (a : Around) (m : MbMode) → is_intra_mode m.y ≡ false → is_split m.y ≡ false → IsVectorOf (near_for h a m.reference) m.y (own_vector m)
    → Follows (after_reference h probs a m.reference) (rest_pairs h probs a m) (inter_of m.reference m.y (replicate 16 (own_vector m)))
after_reference_again h probs a m luma split v =
    let near : Near = near_for h a m.reference in
    let vs : Follows (after_mode probs a m.reference near m.y) (pairs_when (is_new m.y) (vector_pairs probs.vectors near.best (own_vector m)) ++ []) (inter_of m.reference m.y (replicate 16 (own_vector m))) =
    follows_made (vectors_of probs.vectors a near m.y) (λ ws. inter_of m.reference m.y ws) _ (replicate 16 (own_vector m)) (vectors_again probs.vectors a near m.y (own_vector m) split v) in
    let P : YMode → Type 0 = λ y. Follows (after_mode probs a m.reference near y) (pairs_when (is_new m.y) (vector_pairs probs.vectors near.best (own_vector m)) ++ []) (inter_of m.reference m.y (replicate 16 (own_vector m))) in
    follows_then (leaf vector_mode_entries (mode_row near.counts)) (λ l. after_mode probs a m.reference near (vector_mode l)) _ _ (vector_number m.y) _ (leaf_again vector_mode_entries (mode_row near.counts) (vector_number m.y) (vector_mode_has m.y))
    (subst P (sym (inter_mode_again m.y luma)) vs)

inter_all : (h : Header) (probs : Table) (a : Around) (m : MbMode) → is_intra m.reference ≡ false → is_intra_mode m.y ≡ false → is_split m.y ≡ false → IsVectorOf (near_for h a m.reference) m.y (own_vector m)
    → Follows (inter_mode h probs a) (inter_pairs h probs a m) (inter_of m.reference m.y (replicate 16 (own_vector m)))
unfolding inter_mode inter_pairs
inter_all h probs a m inter luma split v =
    let later : Bool = not (is_last m.reference) in
    let end : MbMode = inter_of m.reference m.y (replicate 16 (own_vector m)) in
    let P : RefKind → Type 0 = λ r. Follows (after_reference h probs a r) (rest_pairs h probs a m) end in
    follows_then (one h.prob_last) (λ l. (when l (one h.prob_golden) false >>= λ g. after_reference h probs a (reference_of l g))) _ _ later end (follows_one h.prob_last later)
    (follows_then (when later (one h.prob_golden) false) (λ g. after_reference h probs a (reference_of later g)) _ _ (is_alt m.reference) end (follows_when later (one h.prob_golden) false (is_alt m.reference) _ (λ e. follows_one h.prob_golden (is_alt m.reference)) (last_only m.reference))
    (subst P (sym (reference_again m.reference inter)) (after_reference_again h probs a m luma split v)))

not_b : (y : YMode) → is_intra_mode y ≡ false → (is_b y ≡ false) × (implied y ≡ BDC)
not_b DC h = cc
not_b V h = cc
not_b H h = cc
not_b TM h = cc
not_b B h = cc
not_b NEAREST h = (refl, refl)
not_b NEAR h = (refl, refl)
not_b ZERO h = (refl, refl)
not_b NEW h = (refl, refl)
not_b SPLIT h = (refl, refl)

inter_again : (h : Header) (probs : Table) (a : Around) (m : MbMode) → is_intra m.reference ≡ false → HasFittingModes m → is_split m.y ≡ false → IsVectorOf (near_for h a m.reference) m.y (own_vector m)
    → Follows (inter_mode h probs a) (inter_pairs h probs a m) (bare m)
inter_again h probs a m inter fits split v =
    let luma : is_intra_mode m.y ≡ false = fits.luma ∙ inter in
    let plain = not_b m.y luma in
    let subs : m.sub ≡ replicate 16 BDC = fits.sub plain.0 ∙ ap (λ (s : SubMode). replicate 16 s) plain.1 in
    let whole : inter_of m.reference m.y (replicate 16 (own_vector m)) ≡ bare m =
    ap (λ (vs : List Vector). inter_of m.reference m.y vs) (sym (fits.vectors split))
    ∙ (ap (λ (ss : List SubMode). let x : MbMode = record { segment = 0; skip = false; reference = m.reference; y = m.y; sub = ss; chroma = DC; vectors = m.vectors } in x) (sym subs)
    ∙ ap (λ (c : YMode). let x : MbMode = record { segment = 0; skip = false; reference = m.reference; y = m.y; sub = m.sub; chroma = c; vectors = m.vectors } in x) (sym (fits.inter_chroma inter))) in
    let P : MbMode → Type 0 = λ x. Follows (inter_mode h probs a) (inter_pairs h probs a m) x in
    subst P whole (inter_all h probs a m inter luma split v)

-- a macroblock
segment_again : (b : Bool) (map : List ℕ) (n : ℕ) → n < 4 → Follows (when b (leaf segment_entries map) 0) (pairs_when b (leaf_pairs segment_entries map n)) (if b then n else 0)
segment_again true map n lt = leaf_again segment_entries map n (segment_has n lt)
segment_again false map n lt = follows_done 0

bit_again : (b : Bool) (p : ℕ) (x : Bool) → (b ≡ false → x ≡ false) → Follows (when b (one p) false) (pairs_when b (pair p x ∷ [])) x
bit_again b p x h = follows_when b (one p) false x _ (λ e. follows_one p x) h

not_inter : (key intra : Bool) → (key ≡ true → intra ≡ true) → not key ≡ false → not intra ≡ false
not_inter true intra h e = ap not (h refl)
not_inter false intra h e = cc

modes_again : (h : Header) (probs : Table) (a : Around) (m : MbMode) → IsWritable h a m → (is_b m.y ≡ true → length m.sub ≡ 16)
    → Follows (if not (is_intra m.reference) then inter_mode h probs a else intra_mode h.key probs a) (if is_intra m.reference then intra_pairs h.key probs a m else inter_pairs h probs a m) (bare m)
modes_again h probs a m w long = by_kind (is_intra m.reference) refl
  where
    by_kind : (b : Bool) → is_intra m.reference ≡ b → Follows (if not b then inter_mode h probs a else intra_mode h.key probs a) (if b then intra_pairs h.key probs a m else inter_pairs h probs a m) (bare m)
    by_kind true e = intra_again h.key probs a m e w.modes long
    by_kind false e = inter_again h probs a m e w.modes w.whole (w.vector e)

-- what is written of a macroblock leads to it, but for a segment that isn't written
pub mb_again : (h : Header) (probs : Table) (a : Around) (m : MbMode) → IsWritable h a m → (is_b m.y ≡ true → length m.sub ≡ 16) → Follows (mb_mode h probs a) (mb_pairs h probs a m) (as_read h m)
unfolding mb_mode mb_pairs
mb_again h probs a m w long =
    let segment : ℕ = if h.update_map then m.segment else 0 in
    let small = w.modes.segment in
    let inter : Bool = not (is_intra m.reference) in
    follows_then (when h.update_map (leaf segment_entries h.map) 0) _ _ _ segment (as_read h m) (segment_again h.update_map h.map m.segment (omega (arith, small)))
    (follows_then (when h.skips (one h.prob_skip) false) _ _ _ m.skip (as_read h m) (bit_again h.skips h.prob_skip m.skip w.unskipped)
    (follows_then (when (not h.key) (one h.prob_intra) false) _ _ _ inter (as_read h m) (bit_again (not h.key) h.prob_intra inter (not_inter h.key (is_intra m.reference) w.key))
    (follows_then (if inter then inter_mode h probs a else intra_mode h.key probs a) _ _ _ (bare m) (as_read h m) (modes_again h probs a m w long) (follows_done (as_read h m)))))

-- what leads to a macroblock is read as that, where it was written
pub read_where : {X : Type 0} (s : Syntax X) (qs : Pairs) (x : X) (before more : Pairs) (i j : Interval) → Follows s qs x → AreFit before → AreFit more → i ≡ steps start before → j ≡ steps i qs → read (written (steps j more)) i s ≡ (x, j)
read_where {X} s qs x before more i j h a b e f =
    let P : Interval → Type 0 = λ k. read (written (steps (steps k qs) more)) k s ≡ (let y : X × Interval = (x, steps k qs) in y) in
    let Q : Interval → Type 0 = λ k. read (written (steps k more)) i s ≡ (let y : X × Interval = (x, k) in y) in
    subst Q (sym f) (subst P (sym e) (read_among s qs x before more h a b))
