-- The first place where two lists differ, found from the front.
use Rattle.std.proofs.Common.{◌≡◌, ◌≢◌, ℕ, ◌+◌, ◌*◌, ◌<◌, ◌≤◌, Bool, true, false, cond, List, [], ◌∷◌, length, drop, get_or, min, refl, ap, ◌∙◌, arith, eqb}
use Rattle.std.proofs.lemmas.List.{drop_more, length-drop}
use Rattle.std.specs.declared.option.Option.{Option}
use Rattle.std.specs.declared.option.Option.TheVariants.{Some, None}
use Rattle.std.proofs.lemmas.Bool.{eqb-true, eq-eqb, ne_eqb}
use Rattle.sal_reasm.specs.declared.answers.ClashField.{ClashField}
use Rattle.sal_reasm.specs.Offer.{Difference, first_difference}

both : (field : ClashField) (place : ℕ) (xs ys us vs : List ℕ) → xs ≡ us → ys ≡ vs → first_difference field place xs ys ≡ first_difference field place us vs
both field place xs ys us vs e f = ap (λ (zs : List ℕ). first_difference field place zs ys) e ∙ ap (λ (zs : List ℕ). first_difference field place us zs) f

by_case : (b : Bool) (rest found : Option Difference) → b ≡ true → cond b rest found ≡ rest
by_case true rest found e = refl
by_case false rest found e = absurd (cc)

by_other : (b : Bool) (rest found : Option Difference) → b ≡ false → cond b rest found ≡ found
by_other true rest found e = absurd (cc)
by_other false rest found e = refl

-- the same byte is passed
pub passed : (field : ClashField) (i : ℕ) (xs ys : List ℕ) → i < length xs → i < length ys → get_or xs i 0 ≡ get_or ys i 0 → first_difference field i (drop i xs) (drop i ys) ≡ first_difference field (i + 1) (drop (i + 1) xs) (drop (i + 1) ys)
passed field i xs ys h k e =
    both field i _ _ _ _ (drop_more xs i 0 h) (drop_more ys i 0 k)
    ∙ by_case (eqb (get_or xs i 0) (get_or ys i 0)) (first_difference field (i + 1) (drop (i + 1) xs) (drop (i + 1) ys)) (Some (field, 256 * i + get_or xs i 0, 256 * i + get_or ys i 0)) (eq-eqb _ _ e)

-- another byte is the difference
pub found : (field : ClashField) (i : ℕ) (xs ys : List ℕ) → i < length xs → i < length ys → get_or xs i 0 ≢ get_or ys i 0 → first_difference field i (drop i xs) (drop i ys) ≡ Some (field, 256 * i + get_or xs i 0, 256 * i + get_or ys i 0)
found field i xs ys h k e =
    both field i _ _ _ _ (drop_more xs i 0 h) (drop_more ys i 0 k)
    ∙ by_other (eqb (get_or xs i 0) (get_or ys i 0)) (first_difference field (i + 1) (drop (i + 1) xs) (drop (i + 1) ys)) (Some (field, 256 * i + get_or xs i 0, 256 * i + get_or ys i 0)) (ne_eqb _ _ e)

none_left : (field : ClashField) (place : ℕ) (xs ys : List ℕ) → min (length xs) (length ys) ≡ 0 → first_difference field place xs ys ≡ None
none_left field place [] ys h = refl
none_left field place (x ∷ xs) [] h = refl
none_left field place (x ∷ xs) (y ∷ ys) h = absurd (omega arith)

-- none is left past the end of one of them
pub none_between : (field : ClashField) (i : ℕ) (xs ys : List ℕ) → min (length xs) (length ys) ≤ i → first_difference field i (drop i xs) (drop i ys) ≡ None
none_between field i xs ys h = none_left field i (drop i xs) (drop i ys) (let a = length-drop i xs in let b = length-drop i ys in omega arith)

step_same : (field : ClashField) (place x y : ℕ) (rest : Option Difference) (b : Bool) → eqb x y ≡ b → cond b rest (Some (field, 256 * place + x, 256 * place + y)) ≡ None → (x ≡ y) × (rest ≡ None)
step_same field place x y rest true e h = (eqb-true _ _ e, h)
step_same field place x y rest false e h = absurd (cc)

-- lists of one length without a difference are the same
pub same_lists : (field : ClashField) (place : ℕ) (xs ys : List ℕ) → length xs ≡ length ys → first_difference field place xs ys ≡ None → xs ≡ ys
same_lists field place [] [] h e = refl
same_lists field place [] (y ∷ ys) h e = absurd (omega arith)
same_lists field place (x ∷ xs) [] h e = absurd (omega arith)
same_lists field place (x ∷ xs) (y ∷ ys) h e =
    let step = step_same field place x y (first_difference field (place + 1) xs ys) (eqb x y) refl e in
    let rest : xs ≡ ys = same_lists field (place + 1) xs ys (omega arith) step.1 in
    ap (λ (z : ℕ). z ∷ xs) step.0 ∙ ap (λ (zs : List ℕ). y ∷ zs) rest
