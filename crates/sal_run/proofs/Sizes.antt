-- The pictures of a clip have the head's size.
use Rattle.std.proofs.Common.{◌≡◌, ℕ, zero, suc, ◌*◌, Bool, true, false, cond, List, [], ◌∷◌, length, take, drop, Option, Some, None, IfSome, refl}
use Rattle.std.specs.Prelude.{nat_le}
use Rattle.std.proofs.lemmas.Bool.{leb-true}
use Rattle.std.proofs.lemmas.List.{length-take-le}
use Rattle.sal_base.specs.Lists.{Each}
use Rattle.sal_base.specs.Picture.{half, IsPlane, AreSides}
use Rattle.sal_codec.specs.Coding.{HasSides}
use Rattle.sal_io.specs.Told.{Reading, ◌>>=◌, block_at}
use Rattle.sal_y4m.specs.declared.head.Head.{Head}
use Rattle.sal_y4m.specs.Grammar.{mark_at, plane_at, picture_at}
use Rattle.sal_run.specs.Front.{front, and_more}
use Rattle.sal_run.specs.Clip.{most, clip_at}

-- what holds of a reading's value, where it gives one
abbrev pub Of : {X : Type 0} → (X → Type 0) → Option (X × List ℕ) → Type 0
Of P o = IfSome o (λ x. P x.0)

pub if_then : {X Y : Type 0} (P : X → Type 0) (Q : Y → Type 0) (o : Option (X × List ℕ)) (s : X × List ℕ → Option (Y × List ℕ))
    → Of P o → ((x : X × List ℕ) → P x.0 → Of Q (s x)) → Of Q (o >>= s)
if_then P Q None s p more = tt
if_then P Q (Some x) s p more = more x p

block_cond : (n : ℕ) (bytes : List ℕ) (b : Bool) → (b ≡ true → length (take n bytes) ≡ n) → Of (λ (xs : List ℕ). length xs ≡ n) (cond b (Some (take n bytes, drop n bytes)) None)
block_cond n bytes true f = f refl
block_cond n bytes false f = tt

block_size : (n : ℕ) (bytes : List ℕ) → Of (λ (xs : List ℕ). length xs ≡ n) (block_at n bytes)
block_size n bytes = block_cond n bytes (nat_le n (length bytes)) (λ e. length-take-le n bytes (leb-true n (length bytes) e))

plane_size : (w h : ℕ) (bytes : List ℕ) → Of (IsPlane w h) (plane_at w h bytes)
plane_size w h bytes =
    if_then (λ (xs : List ℕ). length xs ≡ w * h) (IsPlane w h) (block_at (w * h) bytes) (λ block. Some (record { width = w; height = h; samples = block.0 }, block.1))
    (block_size (w * h) bytes) (λ x e. record { width = refl; height = refl; samples = e })

any : {X : Type 0} (o : Option (X × List ℕ)) → Of (λ (x : X). Unit {0}) o
any None = tt
any (Some x) = tt

pub picture_size : (head : Head) → AreSides head.width head.height → (bytes : List ℕ) → Of (HasSides head.width head.height) (picture_at head bytes)
picture_size head sides bytes =
    let w : ℕ = head.width in
    let h : ℕ = head.height in
    if_then (λ (x : List ℕ). Unit {0}) (HasSides w h) (mark_at bytes) _ (any (mark_at bytes)) (λ word p.
    if_then (IsPlane w h) (HasSides w h) (plane_at w h word.1) _ (plane_size w h word.1) (λ y py.
    if_then (IsPlane (half w) (half h)) (HasSides w h) (plane_at (half w) (half h) y.1) _ (plane_size (half w) (half h) y.1) (λ u pu.
    if_then (IsPlane (half w) (half h)) (HasSides w h) (plane_at (half w) (half h) u.1) _ (plane_size (half w) (half h) u.1) (λ v pv.
    record { whole = record { sides = sides; y = py; u = pu; v = pv }; width = refl; height = refl }))))

more_each : {X : Type 0} (P : X → Type 0) (o : Option (X × List ℕ)) (bytes : List ℕ) (more : List ℕ → List X × List ℕ)
    → Of P o → ((rest : List ℕ) → Each P (more rest).0) → Each P (and_more o bytes more).0
more_each P None bytes more p f = tt
more_each P (Some x) bytes more p f = (p, f x.1)

pub front_each : {X : Type 0} (P : X → Type 0) (read : Reading X) → ((bytes : List ℕ) → Of P (read bytes)) → (n : ℕ) (bytes : List ℕ) → Each P (front read n bytes).0
unfolding front
front_each P read f zero bytes = tt
front_each P read f (suc n) bytes = more_each P (read bytes) bytes (front read n) (f bytes) (λ rest. front_each P read f n rest)

pub take_each : {X : Type 0} (P : X → Type 0) (n : ℕ) (xs : List X) → Each P xs → Each P (take n xs)
take_each P zero xs p = tt
take_each P (suc n) [] p = tt
take_each P (suc n) (x ∷ xs) p = (p.0, take_each P n xs p.1)

pub clip_sizes : (head : Head) → AreSides head.width head.height → (bytes : List ℕ) → Each (HasSides head.width head.height) (clip_at head bytes).pictures
clip_sizes head sides bytes =
    take_each (HasSides head.width head.height) (most head) _ (front_each (HasSides head.width head.height) (picture_at head) (picture_size head sides) _ bytes)
