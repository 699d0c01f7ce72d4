-- Lists of parts, of which some are missing.
use Rattle.std.proofs.Common.{◌≡◌, ℕ, zero, suc, ◌+◌, ◌-◌, ◌<◌, ◌≤◌, ◌≢◌, Bool, true, false, cond, List, [], ◌∷◌, ◌++◌, length, take, drop, set, replicate, get_or, flat_map, refl, ap, ◌∙◌, sym, arith, eqb, append_assoc}
use Rattle.std.proofs.lemmas.Bool.{eq-eqb, ne_eqb}
use Rattle.std.proofs.lemmas.List.{length-drop, take_all}
use Rattle.std.specs.List.{list_all}
use Rattle.std.specs.Option.{is_some}
use Rattle.std.specs.declared.option.Option.{Option}
use Rattle.std.specs.declared.option.Option.TheVariants.{Some, None}
use Rattle.sal_base.specs.Lists.{Each}
use Rattle.sal_wire.specs.declared.layout.TheConstants.{MAX_DATA}
use Rattle.sal_wire.specs.Fields.{FragmentFields}
use Rattle.sal_reasm.specs.declared.answers.Offered.{Offered}
use Rattle.sal_reasm.specs.declared.answers.Offered.TheVariants.{Complete, Kept}
use Rattle.sal_reasm.specs.SlotTable.{PartialFrame}
use Rattle.sal_reasm.specs.Step.{data_of, gaps, filled, answer_of, IsShort}

pub gaps_none : (n : ℕ) → gaps (replicate n None) ≡ n
gaps_none zero = refl
gaps_none (suc n) = ap suc (gaps_none n)

-- no part came, so none is long
pub none_short : (n : ℕ) → Each IsShort (replicate n None)
none_short zero = tt
none_short (suc n) = (tt, none_short n)

pub set_short : (parts : List (Option (List ℕ))) (i : ℕ) (bytes : List ℕ) → Each IsShort parts → length bytes ≤ MAX_DATA → Each IsShort (set parts i (Some bytes))
set_short [] i bytes are short = are
set_short (x ∷ parts) zero bytes are short = (short, are.1)
set_short (x ∷ parts) (suc i) bytes are short = (are.0, set_short parts i bytes are.1 short)

pub gaps_set : (parts : List (Option (List ℕ))) (i : ℕ) (bytes : List ℕ) → i < length parts → get_or parts i None ≡ None → suc (gaps (set parts i (Some bytes))) ≡ gaps parts
gaps_set [] i bytes h e = absurd (omega arith)
gaps_set (None ∷ parts) zero bytes h e = refl
gaps_set (Some x ∷ parts) zero bytes h e = absurd (cc)
gaps_set (None ∷ parts) (suc i) bytes h e = ap suc (gaps_set parts i bytes (omega arith) e)
gaps_set (Some x ∷ parts) (suc i) bytes h e = gaps_set parts i bytes (omega arith) e

-- all parts are there exactly where none is missing
pub all_there : (parts : List (Option (List ℕ))) → list_all is_some parts ≡ eqb (gaps parts) 0
all_there [] = refl
all_there (None ∷ parts) = sym (ne_eqb (suc (gaps parts)) 0 (λ z. absurd (omega arith)))
all_there (Some x ∷ parts) = all_there parts

drop_one : (i : ℕ) (x : Option (List ℕ)) (parts : List (Option (List ℕ))) → drop (suc i + 1) (x ∷ parts) ≡ drop (i + 1) parts
drop_one i x parts = let e : suc i + 1 ≡ suc (i + 1) = omega arith in rw e refl

pub joined_set : (parts : List (Option (List ℕ))) (i : ℕ) (bytes : List ℕ) → i < length parts → flat_map data_of (set parts i (Some bytes)) ≡ (flat_map data_of (take i parts) ++ bytes) ++ flat_map data_of (drop (i + 1) parts)
joined_set [] i bytes h = absurd (omega arith)
joined_set (x ∷ parts) zero bytes h = refl
joined_set (x ∷ parts) (suc i) bytes h =
    let rest : flat_map data_of (set parts i (Some bytes)) ≡ (flat_map data_of (take i parts) ++ bytes) ++ flat_map data_of (drop (i + 1) parts) = joined_set parts i bytes (omega arith) in
    rw (drop_one i x parts)
    (ap (λ (z : List ℕ). data_of x ++ z) rest
    ∙ (sym (append_assoc (data_of x) (flat_map data_of (take i parts) ++ bytes) (flat_map data_of (drop (i + 1) parts)))
    ∙ ap (λ (z : List ℕ). z ++ flat_map data_of (drop (i + 1) parts)) (sym (append_assoc (data_of x) (flat_map data_of (take i parts)) bytes))))

-- the parts before, the bytes, and the parts after, each added at the end
pub joined_from : (parts : List (Option (List ℕ))) (i k : ℕ) (bytes new kept first second last : List ℕ) → i < length parts → k ≡ length parts - (i + 1) → new ≡ [] → kept ≡ new
    → first ≡ kept ++ flat_map data_of (take i parts) → second ≡ first ++ bytes → last ≡ second ++ flat_map data_of (take k (drop (i + 1) parts)) → last ≡ flat_map data_of (set parts i (Some bytes))
joined_from parts i k bytes new kept first second last h amount none same a b d =
    let start : first ≡ flat_map data_of (take i parts) = a ∙ ap (λ (z : List ℕ). z ++ flat_map data_of (take i parts)) (same ∙ none) in
    let middle : second ≡ flat_map data_of (take i parts) ++ bytes = b ∙ ap (λ (z : List ℕ). z ++ bytes) start in
    let all : take k (drop (i + 1) parts) ≡ drop (i + 1) parts = take_all k (drop (i + 1) parts) (let l = length-drop (i + 1) parts in omega arith) in
    d ∙ (ap (λ (z : List (Option (List ℕ))). second ++ flat_map data_of z) all
    ∙ (ap (λ (z : List ℕ). z ++ flat_map data_of (drop (i + 1) parts)) middle ∙ sym (joined_set parts i bytes h)))

answer_if : (b : Bool) (bytes : List ℕ) (all : Bool) → all ≡ b → ◌≡◌ {A = Offered} (cond all (Complete bytes) Kept) (cond b (Complete bytes) Kept)
answer_if b bytes all e = ap (λ (x : Bool). cond x (Complete bytes) Kept) e

-- where one part is missing, the frame with its data is complete
pub answer_last : (f : PartialFrame) (e : FragmentFields) → gaps f.parts ≡ 1 → e.index < length f.parts → get_or f.parts e.index None ≡ None → answer_of (filled f e) ≡ Complete (flat_map data_of (set f.parts e.index (Some e.bytes)))
answer_last f e one h none =
    let g = gaps_set f.parts e.index e.bytes h none in
    let zero_left : gaps (set f.parts e.index (Some e.bytes)) ≡ 0 = omega arith in
    answer_if true (flat_map data_of (set f.parts e.index (Some e.bytes))) (list_all is_some (set f.parts e.index (Some e.bytes))) (all_there (set f.parts e.index (Some e.bytes)) ∙ eq-eqb _ _ zero_left)

-- and where more are missing it is kept
pub answer_more : (f : PartialFrame) (e : FragmentFields) → gaps f.parts ≢ 1 → e.index < length f.parts → get_or f.parts e.index None ≡ None → answer_of (filled f e) ≡ Kept
answer_more f e more h none =
    let g = gaps_set f.parts e.index e.bytes h none in
    answer_if false (flat_map data_of (set f.parts e.index (Some e.bytes))) (list_all is_some (set f.parts e.index (Some e.bytes))) (all_there (set f.parts e.index (Some e.bytes)) ∙ ne_eqb _ _ (λ z. more (omega arith)))

-- the same of the fields of a slot
pub last_answered : (f : PartialFrame) (e : FragmentFields) (items slice : List (Option (List ℕ))) (missing index : ℕ) (bytes : List ℕ) → items ≡ f.parts → missing ≡ gaps items → missing ≡ 1 → length f.parts ≡ e.count → e.index < e.count → get_or f.parts e.index None ≡ None
    → slice ≡ items → index ≡ e.index → bytes ≡ flat_map data_of (set slice index (Some e.bytes)) → ◌≡◌ {A = Offered} (Complete bytes) (answer_of (filled f e))
last_answered f e items slice missing index bytes same m one count h none lent at joined =
    let g : gaps f.parts ≡ 1 = ap gaps (sym same) ∙ (sym m ∙ one) in
    let b : bytes ≡ flat_map data_of (set f.parts e.index (Some e.bytes)) = joined ∙ (ap (λ (z : List (Option (List ℕ))). flat_map data_of (set z index (Some e.bytes))) (lent ∙ same) ∙ ap (λ (k : ℕ). flat_map data_of (set f.parts k (Some e.bytes))) at) in
    ap (λ (z : List ℕ). Complete z) b ∙ sym (answer_last f e g (omega arith) none)

pub more_answered : (f : PartialFrame) (e : FragmentFields) (items : List (Option (List ℕ))) (missing : ℕ) → items ≡ f.parts → missing ≡ gaps items → missing ≢ 1 → length f.parts ≡ e.count → e.index < e.count → get_or f.parts e.index None ≡ None → ◌≡◌ {A = Offered} Kept (answer_of (filled f e))
more_answered f e items missing same m more count h none = sym (answer_more f e (λ one. more (m ∙ (ap gaps same ∙ one))) (omega arith) none)

pub one_less : (f : PartialFrame) (e : FragmentFields) (items : List (Option (List ℕ))) (missing index : ℕ) (bytes : List ℕ) → items ≡ f.parts → missing ≡ gaps items → length f.parts ≡ e.count → e.index < e.count → get_or f.parts e.index None ≡ None → index ≡ e.index → suc (gaps (set items index (Some bytes))) ≡ missing
one_less f e items missing index bytes same m count h none at =
    let g : suc (gaps (set f.parts e.index (Some bytes))) ≡ gaps f.parts = gaps_set f.parts e.index bytes (omega arith) none in
    ap (λ (z : List (Option (List ℕ))). suc (gaps (set z index (Some bytes)))) same ∙ (ap (λ (k : ℕ). suc (gaps (set f.parts k (Some bytes)))) at ∙ (g ∙ (ap gaps (sym same) ∙ sym m)))
