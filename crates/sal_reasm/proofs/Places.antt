-- Lists of which each item is changed, and lists by index.
use Rattle.std.proofs.Common.{◌≡◌, ◌≢◌, ℕ, zero, suc, ◌+◌, ◌<◌, ◌≤◌, Bool, true, false, List, [], ◌∷◌, ◌++◌, length, map, take, drop, set, replicate, get_or, refl, ap, ◌∙◌, sym, arith, eqb, ltb}
use Rattle.std.proofs.lemmas.Bool.{eqb-true, eqb-false, ltb-true, ltb-false}
use Rattle.std.proofs.lemmas.List.{length-append, length-map, length-set, map-append, get_or_append_left, get_or-set_same, get_or-set_other, get_or-replicate, length-replicate, ext_get_or}
use Rattle.std.proofs.Math.Seq.{get_or-append_seam}
use Rattle.sal_wire.specs.Fragmentation.{below}

module _ {X : Type 0} (f : X → X) where
  kept_at : (xs : List X) (i : ℕ) (x y : X) → i < length xs → y ≡ f (get_or (map f (take i xs) ++ drop i xs) i x) → set (map f (take i xs) ++ drop i xs) i y ≡ map f (take (i + 1) xs) ++ drop (i + 1) xs
  kept_at [] i x y h e = absurd (omega arith)
  kept_at (z ∷ xs) zero x y h e = ap (λ (w : X). w ∷ xs) e
  kept_at (z ∷ xs) (suc i) x y h e =
      let more : suc i + 1 ≡ suc (i + 1) = omega arith in
      rw more (ap (λ (ws : List X). f z ∷ ws) (kept_at xs i x y (omega arith) e))

  -- a list of which the first items were changed, and one more
  pub kept_one : (xs : List X) (i : ℕ) (now : List X) (x y : X) → i < length xs → now ≡ map f (take i xs) ++ drop i xs → y ≡ f (get_or now i x) → set now i y ≡ map f (take (i + 1) xs) ++ drop (i + 1) xs
  kept_one xs i now x y h n e = ap (λ (zs : List X). set zs i y) n ∙ kept_at xs i x y h (e ∙ ap (λ (zs : List X). f (get_or zs i x)) n)

pub length_below : (n : ℕ) → length (below n) ≡ n
unfolding below
length_below zero = refl
length_below (suc n) = let all = length-append (below n) (n ∷ []) in let rest = length_below n in omega arith

module _ {X : Type 0} (g : ℕ → X) where
  pub length_values : (n : ℕ) → length (map g (below n)) ≡ n
  length_values n = length-map (below n) g ∙ length_below n

  step_value : (b : Bool) (n i : ℕ) (d : X) → ltb i n ≡ b → i < suc n → length (map g (below n)) ≡ n → (i < n → get_or (map g (below n)) i d ≡ g i) → get_or (map g (below n) ++ g n ∷ []) i d ≡ g i
  step_value true n i d e h l ih = get_or_append_left (map g (below n)) (g n ∷ []) d i (let a : i < n = ltb-true _ _ e in omega arith) ∙ ih (ltb-true _ _ e)
  step_value false n i d e h l ih =
      let a : n ≤ i = ltb-false _ _ e in
      let here : i ≡ n = omega arith in
      ap (λ (k : ℕ). get_or (map g (below n) ++ g n ∷ []) k d) (here ∙ sym l) ∙ (get_or-append_seam (map g (below n)) (g n) [] d ∙ ap g (sym here))

  -- the value of each number below n stands at its place
  pub value_at : (n i : ℕ) (d : X) → i < n → get_or (map g (below n)) i d ≡ g i
  unfolding below
  value_at zero i d h = absurd (omega arith)
  value_at (suc n) i d h =
      ap (λ (xs : List X). get_or xs i d) (map-append g (below n) (n ∷ []))
      ∙ step_value (ltb i n) n i d refl h (length_values n) (λ (q : i < n). value_at n i d q)

module _ {X : Type 0} (g h : ℕ → X) where
  step_other : (b : Bool) (n i k : ℕ) (x d : X) → eqb k i ≡ b → i < n → k < n → h i ≡ x → ((j : ℕ) → j ≢ i → h j ≡ g j) → get_or (set (map g (below n)) i x) k d ≡ get_or (map h (below n)) k d
  step_other true n i k x d e p q new old =
      let here : k ≡ i = eqb-true _ _ e in
      ap (λ (j : ℕ). get_or (set (map g (below n)) i x) j d) here
      ∙ (get_or-set_same (map g (below n)) i x d (let l = length_values g n in omega arith)
      ∙ (sym new ∙ (ap h (sym here) ∙ sym (value_at h n k d q))))
  step_other false n i k x d e p q new old =
      get_or-set_other (map g (below n)) i k x d (eqb-false _ _ e)
      ∙ (value_at g n k d q ∙ (sym (old k (eqb-false _ _ e)) ∙ sym (value_at h n k d q)))

  -- one value is another
  pub other_value : (n i : ℕ) (x : X) → i < n → h i ≡ x → ((j : ℕ) → j ≢ i → h j ≡ g j) → set (map g (below n)) i x ≡ map h (below n)
  other_value n i x p new old =
      ext_get_or x (set (map g (below n)) i x) (map h (below n)) (length-set (map g (below n)) i x ∙ (length_values g n ∙ sym (length_values h n)))
      (λ (k : ℕ) (q : k < length (set (map g (below n)) i x)). step_other (eqb k i) n i k x x refl p (let l = length-set (map g (below n)) i x in let m = length_values g n in omega arith) new old)

  -- no value is another
  pub same_values : (n : ℕ) → ((j : ℕ) → h j ≡ g j) → map g (below n) ≡ map h (below n)
  same_values n old =
      ext_get_or (g 0) (map g (below n)) (map h (below n)) (length_values g n ∙ sym (length_values h n))
      (λ (k : ℕ) (q : k < length (map g (below n))). let m = length_values g n in value_at g n k (g 0) (omega arith) ∙ (sym (old k) ∙ sym (value_at h n k (g 0) (omega arith))))

pub all_values : {X : Type 0} (n : ℕ) (x : X) → replicate n x ≡ map (λ (k : ℕ). x) (below n)
all_values n x =
    ext_get_or x (replicate n x) (map (λ (k : ℕ). x) (below n)) (length-replicate n x ∙ sym (length_values (λ (k : ℕ). x) n))
    (λ (k : ℕ) (q : k < length (replicate n x)). let m = length-replicate n x in get_or-replicate n k x x (omega arith) ∙ sym (value_at (λ (k : ℕ). x) n k x (omega arith)))
