-- What was read of an input, and what is left of its clip.
use Rattle.std.proofs.Common.{◌≡◌, ◌≢◌, ℕ, zero, suc, ◌+◌, Bool, false, List, [], ◌∷◌, length, take, Option, Some, None, refl, ap, sym, ◌∙◌, subst, arith}
use Rattle.std.specs.Prelude.{nat_lt, if◌then◌else◌}
use Rattle.std.proofs.lemmas.Bool.Decides.{nat_tests}
use Rattle.std.proofs.lemmas.Bool.{le-ltb}
use Rattle.sal_base.specs.declared.picture.Picture.{Picture}
use Rattle.sal_io.specs.Told.{Reading, line_within}
use Rattle.sal_y4m.specs.declared.head.Head.{Head}
use Rattle.sal_y4m.specs.Grammar.{picture_at, picture_flaw}
use Rattle.sal_run.specs.Front.{front, and_more, is_empty}
use Rattle.sal_run.specs.Clip.{BadInput, over, Clip}
use Rattle.sal_run.specs.Input.{clip_within, clip_in}

no_picture : (head : Head) → picture_at head [] ≡ None
unfolding line_within
no_picture head = refl

front_none : {X : Type 0} (read : Reading X) (n : ℕ) (b : List ℕ) → read b ≡ None → front read n b ≡ ([], b)
unfolding front
front_none read zero b e = refl
front_none {X = X} read (suc n) b e = ap (λ (o : Option (X × List ℕ)). and_more o b (front read n)) e

front_some : {X : Type 0} (read : Reading X) (n : ℕ) (a b : List ℕ) (x : X) → read a ≡ Some (x, b) → front read (suc n) a ≡ (x ∷ (front read n b).0, (front read n b).1)
unfolding front
front_some {X = X} read n a b x e = ap (λ (o : Option (X × List ℕ)). and_more o a (front read n)) e

front_zero : {X : Type 0} (read : Reading X) (b : List ℕ) → front read 0 b ≡ ([], b)
unfolding front
front_zero read b = refl

lt_suc : (m n : ℕ) → nat_lt (suc m) (suc n) ≡ nat_lt m n
lt_suc m n = grind (arith, nat_tests)

clip_read : (head : Head) (m : ℕ) (p : Picture) (found : List Picture × List ℕ) → clip_within head (suc m) (p ∷ found.0, found.1) ≡ record { pictures = p ∷ (clip_within head m found).pictures; fault = (clip_within head m found).fault }
clip_read head m p found = ap (λ (b : Bool). let c : Clip = record { pictures = p ∷ take m found.0; fault = if b then Some (over head) else if is_empty found.1 then None else Some (BadInput (picture_flaw found.1)) } in c) (lt_suc m (length found.0))

-- a picture that a session takes
pub clip_some : (head : Head) (m : ℕ) (l l' : List ℕ) (p : Picture) → picture_at head l ≡ Some (p, l') → clip_in head (suc m) l ≡ record { pictures = p ∷ (clip_in head m l').pictures; fault = (clip_in head m l').fault }
clip_some head m l l' p e =
    let found : List Picture × List ℕ = front (picture_at head) (m + 1) l' in
    let P : ℕ → Type 0 = λ k. front (picture_at head) (suc m + 1) l ≡ (p ∷ (front (picture_at head) k l').0, (front (picture_at head) k l').1) in
    let Q : ℕ → Type 0 = λ k. front (picture_at head) k l ≡ (p ∷ (front (picture_at head) (m + 1) l').0, (front (picture_at head) (m + 1) l').1) in
    let more : suc (m + 1) ≡ suc m + 1 = omega arith in
    let read : front (picture_at head) (suc m + 1) l ≡ (p ∷ found.0, found.1) = subst Q more (front_some (picture_at head) (m + 1) l l' p e) in
    ap (λ (f : List Picture × List ℕ). clip_within head (suc m) f) read ∙ clip_read head m p found

-- no picture stands there
pub clip_none : (head : Head) (m : ℕ) (l : List ℕ) → picture_at head l ≡ None → clip_in head m l ≡ record { pictures = []; fault = if is_empty l then None else Some (BadInput (picture_flaw l)) }
clip_none head m l e = ap (λ (f : List Picture × List ℕ). clip_within head m f) (front_none (picture_at head) (m + 1) l e) ∙ none_within m
  where
    none_within : (m : ℕ) → clip_within head m ([], l) ≡ record { pictures = []; fault = if is_empty l then None else Some (BadInput (picture_flaw l)) }
    none_within zero = ap (λ (b : Bool). let c : Clip = record { pictures = []; fault = if b then Some (over head) else if is_empty l then None else Some (BadInput (picture_flaw l)) } in c) (le-ltb 0 0 (omega arith))
    none_within (suc m) = ap (λ (b : Bool). let c : Clip = record { pictures = []; fault = if b then Some (over head) else if is_empty l then None else Some (BadInput (picture_flaw l)) } in c) (le-ltb (suc m) 0 (omega arith))

pub clip_end : (head : Head) (m : ℕ) (l : List ℕ) → l ≡ [] → clip_in head m l ≡ record { pictures = []; fault = None }
clip_end head m l e = clip_none head m l (ap (picture_at head) e ∙ no_picture head) ∙ ap (λ (xs : List ℕ). let c : Clip = record { pictures = []; fault = if is_empty xs then None else Some (BadInput (picture_flaw xs)) } in c) e

not_empty : (xs : List ℕ) → xs ≢ [] → is_empty xs ≡ false
not_empty [] h = absurd (h refl)
not_empty (x ∷ xs) h = grind (arith, nat_tests)

pub clip_broken : (head : Head) (m : ℕ) (l : List ℕ) → l ≢ [] → picture_at head l ≡ None → clip_in head m l ≡ record { pictures = []; fault = Some (BadInput (picture_flaw l)) }
clip_broken head m l h e = clip_none head m l e ∙ ap (λ (b : Bool). let c : Clip = record { pictures = []; fault = if b then None else Some (BadInput (picture_flaw l)) } in c) (not_empty l h)

-- a picture stands there that is one too many
pub clip_over : (head : Head) (m : ℕ) (l l' : List ℕ) (p : Picture) → m ≡ 0 → picture_at head l ≡ Some (p, l') → clip_in head m l ≡ record { pictures = []; fault = Some (over head) }
clip_over head m l l' p none e =
    let P : ℕ → Type 0 = λ k. clip_in head k l ≡ record { pictures = []; fault = Some (over head) } in
    let one : 1 ≡ 0 + 1 = omega arith in
    let Q : ℕ → Type 0 = λ k. front (picture_at head) k l ≡ (p ∷ [], l') in
    let read : front (picture_at head) (0 + 1) l ≡ (p ∷ [], l') = subst Q one (front_some (picture_at head) 0 l l' p e ∙ ap (λ (f : List Picture × List ℕ). let r : List Picture × List ℕ = (p ∷ f.0, f.1) in r) (front_zero (picture_at head) l')) in
    subst P (sym none) (ap (λ (f : List Picture × List ℕ). clip_within head 0 f) read)
