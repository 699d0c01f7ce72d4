-- What is kept of the fragments of one number, and what one more of them is answered.
use Rattle.std.proofs.Common.{◌≡◌, ◌≢◌, ℕ, ◌<◌, Bool, true, false, cond, List, [], ◌∷◌, length, map, set, get_or, find, refl, ap, ◌∙◌, sym, arith, eqb}
use Rattle.std.proofs.lemmas.Bool.{eqb-true, eq-eqb, ne_eqb}
use Rattle.std.proofs.lemmas.List.Folds.{list_all-map, flat_map-map}
use Rattle.std.specs.Option.{is_some, option_map}
use Rattle.std.specs.declared.option.Option.{Option}
use Rattle.std.specs.declared.option.Option.TheVariants.{Some, None}
use Rattle.sal_wire.specs.Fields.{FragmentFields}
use Rattle.sal_wire.specs.Fragmentation.{below}
use Rattle.sal_reasm.specs.declared.answers.ClashField.{ClashField}
use Rattle.sal_reasm.specs.declared.answers.ClashField.TheVariants.{Source, Target, Count, Length, Data}
use Rattle.sal_reasm.specs.declared.answers.Offered.{Offered}
use Rattle.sal_reasm.specs.declared.answers.Offered.TheVariants.{Repeat, Complete, Kept}
use Rattle.sal_reasm.specs.Complete.{data_at, has_all, reassembled}
use Rattle.sal_reasm.specs.Offer.{Difference, or_else, first_difference, unequal, data_clash, clash_with_fragments, unless_clash}
use Rattle.sal_reasm.specs.Stands.{AreNamed}
use Rattle.sal_reasm.specs.SlotTable.{PartialFrame, partial_frame_with, partial_frame}
use Rattle.sal_reasm.specs.Step.{data_of, opened, filled, clash_with_frame, answer_of, answered, frame_then}
use Rattle.sal_reasm.proofs.Differences.{same_lists}
use Rattle.sal_reasm.proofs.Places.{length_values, value_at, other_value, same_values, all_values}

step_found : (b : Bool) (e : FragmentFields) (rest : Option FragmentFields) → b ≡ true → option_map (λ (x : FragmentFields). x.bytes) (cond b (Some e) rest) ≡ Some e.bytes
step_found true e rest h = refl
step_found false e rest h = absurd (cc)

step_passed : (b : Bool) (e : FragmentFields) (rest : Option FragmentFields) → b ≡ false → option_map (λ (x : FragmentFields). x.bytes) (cond b (Some e) rest) ≡ option_map (λ (x : FragmentFields). x.bytes) rest
step_passed true e rest h = absurd (cc)
step_passed false e rest h = refl

-- the newest fragment has its data at its index
pub data_new : (e : FragmentFields) (es : List FragmentFields) → data_at (e ∷ es) e.index ≡ Some e.bytes
data_new e es = step_found (eqb e.index e.index) e (find (λ (x : FragmentFields). eqb x.index e.index) es) (eq-eqb _ _ refl)

-- and changes no other's
pub data_old : (e : FragmentFields) (es : List FragmentFields) (k : ℕ) → k ≢ e.index → data_at (e ∷ es) k ≡ data_at es k
data_old e es k other = step_passed (eqb e.index k) e (find (λ (x : FragmentFields). eqb x.index k) es) (ne_eqb _ _ (λ (q : e.index ≡ k). other (sym q)))

same_frame : (n m : ℕ) (s t u v : List ℕ) (ps qs : List (Option (List ℕ))) → n ≡ m → s ≡ u → t ≡ v → ps ≡ qs
    → ◌≡◌ {A = PartialFrame} (record { number = n; source = s; target = t; parts = ps }) (record { number = m; source = u; target = v; parts = qs })
same_frame n m s t u v ps qs a b c d = cc

-- the first fragment of a frame fills one of its parts
pub first_filled : (e : FragmentFields) → e.index < e.count → filled (opened e) e ≡ partial_frame_with e []
first_filled e h =
    same_frame e.number e.number e.source e.target e.source e.target _ _ refl refl refl
    (ap (λ (ps : List (Option (List ℕ))). set ps e.index (Some e.bytes)) (all_values e.count None)
    ∙ other_value (data_at []) (data_at (e ∷ [])) e.count e.index (Some e.bytes) h (data_new e []) (λ (j : ℕ) (q : j ≢ e.index). data_old e [] j q))

-- and so does another one with the same fields
pub more_filled : (e p : FragmentFields) (more : List FragmentFields) → e.index < e.count → p.number ≡ e.number → p.source ≡ e.source → p.target ≡ e.target → p.count ≡ e.count → filled (partial_frame_with p more) e ≡ partial_frame_with e (p ∷ more)
more_filled e p more h number source target count =
    same_frame p.number e.number p.source p.target e.source e.target _ _ number source target
    (other_value (data_at (p ∷ more)) (data_at (e ∷ p ∷ more)) p.count e.index (Some e.bytes) (omega arith) (data_new e (p ∷ more)) (λ (j : ℕ) (q : j ≢ e.index). data_old e (p ∷ more) j q)
    ∙ ap (λ (n : ℕ). map (data_at (e ∷ p ∷ more)) (below n)) count)

step_repeated : (b : Bool) (e p : FragmentFields) (more : List FragmentFields) (j : ℕ) → eqb j e.index ≡ b → data_at (p ∷ more) e.index ≡ Some e.bytes → data_at (e ∷ p ∷ more) j ≡ data_at (p ∷ more) j
step_repeated true e p more j h same =
    let here : j ≡ e.index = eqb-true _ _ h in
    ap (data_at (e ∷ p ∷ more)) here ∙ (data_new e (p ∷ more) ∙ (sym same ∙ ap (data_at (p ∷ more)) (sym here)))
step_repeated false e p more j h same = data_old e (p ∷ more) j (λ (q : j ≡ e.index). absurd (let t : eqb j e.index ≡ true = eq-eqb _ _ q in cc))

-- a repeated one changes nothing
pub repeated : (e p : FragmentFields) (more : List FragmentFields) → p.number ≡ e.number → p.source ≡ e.source → p.target ≡ e.target → p.count ≡ e.count → data_at (p ∷ more) e.index ≡ Some e.bytes → partial_frame_with p more ≡ partial_frame_with e (p ∷ more)
repeated e p more number source target count same =
    same_frame p.number e.number p.source p.target e.source e.target _ _ number source target
    (same_values (data_at (p ∷ more)) (data_at (e ∷ p ∷ more)) p.count (λ (j : ℕ). step_repeated (eqb j e.index) e p more j refl same)
    ∙ ap (λ (n : ℕ). map (data_at (e ∷ p ∷ more)) (below n)) count)

step_answer : (a b : Bool) (xs ys : List ℕ) → a ≡ b → xs ≡ ys → ◌≡◌ {A = Offered} (cond a (Complete xs) Kept) (cond b (Complete ys) Kept)
step_answer a b xs ys p q = ap (λ (x : Bool). cond x (Complete xs) Kept) p ∙ ap (λ (zs : List ℕ). cond b (Complete zs) Kept) q

-- a frame is complete where all its fragments came, with their data
pub answer_with : (e : FragmentFields) (es : List FragmentFields) → answer_of (partial_frame_with e es) ≡ cond (has_all (e ∷ es)) (Complete (reassembled (e ∷ es))) Kept
answer_with e es = step_answer _ _ _ _ (list_all-map is_some (data_at (e ∷ es)) (below e.count)) (flat_map-map data_of (data_at (e ∷ es)) (below e.count))

step_tail : (b : Bool) (d : Difference) (x y : Option Difference) → (b ≡ true → x ≡ y) → or_else (cond b None (Some d)) x ≡ or_else (cond b None (Some d)) y
step_tail true d x y h = h refl
step_tail false d x y h = refl

-- a fragment differs from a frame as from the frame's fragments
pub same_clash : (e p : FragmentFields) (more : List FragmentFields) → e.index < e.count → clash_with_frame (partial_frame_with p more) e ≡ clash_with_fragments (p ∷ more) e
same_clash e p more h =
    ap (λ (o : Option Difference). or_else (first_difference Source 0 p.source e.source) (or_else (first_difference Target 0 p.target e.target) o))
    (ap (λ (n : ℕ). or_else (unequal Count n e.count) (data_clash (get_or (map (data_at (p ∷ more)) (below p.count)) e.index None) e.bytes)) (length_values (data_at (p ∷ more)) p.count)
    ∙ step_tail (eqb p.count e.count) (Count, p.count, e.count) _ _ (λ (q : eqb p.count e.count ≡ true).
    let same : p.count ≡ e.count = eqb-true _ _ q in
    ap (λ (o : Option (List ℕ)). data_clash o e.bytes) (value_at (data_at (p ∷ more)) p.count e.index None (omega arith))))

-- what a fragment without a difference shares with a frame
pub record Agrees (e p : FragmentFields) (more : List FragmentFields) : Type 0 where
  pub source : p.source ≡ e.source
  pub target : p.target ≡ e.target
  pub count : p.count ≡ e.count
  pub bytes : data_clash (data_at (p ∷ more) e.index) e.bytes ≡ None

neither : (a b : Option Difference) → or_else a b ≡ None → (a ≡ None) × (b ≡ None)
neither None b h = (refl, h)
neither (Some d) b h = absurd (cc)

step_equal : (b : Bool) (field : ClashField) (n m : ℕ) → eqb n m ≡ b → ◌≡◌ {A = Option Difference} (cond b None (Some (field, n, m))) None → n ≡ m
step_equal true field n m e h = eqb-true _ _ e
step_equal false field n m e h = absurd (cc)

pub agrees : (e p : FragmentFields) (more : List FragmentFields) → length p.source ≡ length e.source → length p.target ≡ length e.target → clash_with_fragments (p ∷ more) e ≡ None → Agrees e p more
agrees e p more s t h =
    let a = neither (first_difference Source 0 p.source e.source) _ h in
    let b = neither (first_difference Target 0 p.target e.target) _ a.1 in
    let c = neither (unequal Count p.count e.count) _ b.1 in
    record {
      source = same_lists Source 0 p.source e.source s a.0;
      target = same_lists Target 0 p.target e.target t b.0;
      count = step_equal (eqb p.count e.count) Count p.count e.count refl c.0;
      bytes = c.1;
    }

-- data without a difference that is there is the same
pub same_bytes : (there : Option (List ℕ)) (new : List ℕ) → data_clash there new ≡ None → is_some there ≡ true → there ≡ Some new
same_bytes None new h e = absurd (cc)
same_bytes (Some kept) new h e =
    let a = neither (unequal Length (length kept) (length new)) _ h in
    ap (λ (z : List ℕ). Some z) (same_lists Data 0 kept new (step_equal (eqb (length kept) (length new)) Length (length kept) (length new) refl a.0) a.1)

step_unless : (o : Option Difference) (x y : Offered) → (o ≡ None → x ≡ y) → unless_clash o x ≡ unless_clash o y
step_unless None x y h = h refl
step_unless (Some d) x y h = refl

two_ways : (a b : Bool) (x y : Offered) → a ≡ b → x ≡ y → cond a Repeat x ≡ cond b Repeat y
two_ways a b x y p q = ap (λ (z : Bool). cond z Repeat x) p ∙ ap (λ (z : Offered). cond b Repeat z) q

-- the first fragment has this number
abbrev pub AreNumbered : ℕ → List FragmentFields → Type 0
AreNumbered n [] = Unit {0}
AreNumbered n (e ∷ before) = e.number ≡ n

-- what is answered by a frame is what is answered by its fragments
pub answered_by : (e : FragmentFields) (parts : List FragmentFields) → e.index < e.count → length e.source ≡ 16 → length e.target ≡ 16 → AreNamed parts → AreNumbered e.number parts
    → answered (partial_frame parts) e ≡ unless_clash (clash_with_fragments parts e) (cond (is_some (data_at parts e.index)) Repeat (cond (has_all (e ∷ parts)) (Complete (reassembled (e ∷ parts))) Kept))
answered_by e [] h s t named number = ap answer_of (first_filled e h) ∙ answer_with e []
answered_by e (p ∷ more) h s t named number =
    ap (λ (o : Option Difference). unless_clash o (cond (is_some (get_or (map (data_at (p ∷ more)) (below p.count)) e.index None)) Repeat (answer_of (filled (partial_frame_with p more) e)))) (same_clash e p more h)
    ∙ step_unless (clash_with_fragments (p ∷ more) e) _ _ (λ (q : clash_with_fragments (p ∷ more) e ≡ None).
    let a = agrees e p more (named.0 ∙ sym s) (named.1 ∙ sym t) q in
    let same : p.count ≡ e.count = a.count in
    two_ways _ _ _ _ (ap is_some (value_at (data_at (p ∷ more)) p.count e.index None (omega arith)))
    (ap answer_of (more_filled e p more h number a.source a.target a.count) ∙ answer_with e (p ∷ more)))

-- the frame with the data of a fragment that doesn't differ is that of all fragments
pub filled_by : (e : FragmentFields) (parts : List FragmentFields) → e.index < e.count → length e.source ≡ 16 → length e.target ≡ 16 → AreNamed parts → AreNumbered e.number parts → clash_with_fragments parts e ≡ None
    → Some (frame_then (partial_frame parts) e) ≡ partial_frame (e ∷ parts)
filled_by e [] h s t named number q = ap (λ (f : PartialFrame). Some f) (first_filled e h)
filled_by e (p ∷ more) h s t named number q =
    let a = agrees e p more (named.0 ∙ sym s) (named.1 ∙ sym t) q in
    ap (λ (f : PartialFrame). Some f) (more_filled e p more h number a.source a.target a.count)

-- a fragment whose data is there changes nothing
pub repeated_by : (e : FragmentFields) (parts : List FragmentFields) → length e.source ≡ 16 → length e.target ≡ 16 → AreNamed parts → AreNumbered e.number parts → clash_with_fragments parts e ≡ None → is_some (data_at parts e.index) ≡ true
    → partial_frame parts ≡ partial_frame (e ∷ parts)
repeated_by e [] s t named number q there = absurd (cc)
repeated_by e (p ∷ more) s t named number q there =
    let a = agrees e p more (named.0 ∙ sym s) (named.1 ∙ sym t) q in
    ap (λ (f : PartialFrame). Some f) (repeated e p more number a.source a.target a.count (same_bytes (data_at (p ∷ more) e.index) e.bytes a.bytes there))
