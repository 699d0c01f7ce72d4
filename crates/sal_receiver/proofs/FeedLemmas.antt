-- Shares given to one frame after the other.
use Rattle.std.proofs.Common.{◌≡◌, ℕ, suc, ◌+◌, ◌<◌, ◌≤◌, Bool, true, false, cond, List, [], ◌∷◌, ◌++◌, length, map, take, drop, set, get_or, ap, sym, ◌∙◌, subst, arith}
use Rattle.std.proofs.lemmas.List.{take_more_set, take_more, drop_more, drop-set-lt, map-append, take_all}
use Rattle.std.specs.declared.sync.Arc.{Arc}
use Rattle.sal_receiver.specs.declared.pending_frame.PendingFrame.{PendingFrame}
use Rattle.sal_receiver.specs.Pending.{frame_unshared, fed, fed_one, wants, wanting}

heads : {X : Type 0} (x y : X) (xs ys : List X) → x ∷ xs ≡ y ∷ ys → x ≡ y
heads x y xs ys h = cc

tails : {X : Type 0} (x y : X) (xs ys : List X) → x ∷ xs ≡ y ∷ ys → xs ≡ ys
tails x y xs ys h = cc

one_step : (b : Bool) (w others : ℕ) → cond b (suc w) w ≤ others → b ≡ true → 0 < others
one_step true w others h e = omega arith
one_step false w others h e = absurd (cc)

left_step : (b : Bool) (w others left : ℕ) → cond b (suc w) w ≤ others → left + cond b 1 0 ≡ others → w ≤ left
left_step true w others left h e = omega (arith, e)
left_step false w others left h e = omega (arith, e)

module _ {S Z : Type 0} where
  both_drop : (i : ℕ) (d : PendingFrame (Arc S Z)) (xs ys : List (PendingFrame (Arc S Z))) → i < length xs → length xs ≡ length ys → drop i xs ≡ drop i ys → get_or xs i d ∷ drop (i + 1) xs ≡ get_or ys i d ∷ drop (i + 1) ys
  both_drop i d xs ys h e same = sym (drop_more xs i d h) ∙ (same ∙ drop_more ys i d (omega (arith, e)))

  pub feed_done : (name : List ℕ) (state : S) (i : ℕ) (xs ys : List (PendingFrame (Arc S Z))) (x y : PendingFrame (Arc S Z)) → i < length ys → length xs ≡ length ys → map frame_unshared (take i xs) ≡ fed name state (map frame_unshared (take i ys)) → drop i xs ≡ drop i ys → x ≡ get_or xs i x → frame_unshared y ≡ fed_one name state (frame_unshared x)
      → map frame_unshared (take (i + 1) (set xs i y)) ≡ fed name state (map frame_unshared (take (i + 1) ys))
  feed_done name state i xs ys x y h e done rest is one =
      let here : x ≡ get_or ys i x = is ∙ heads _ _ _ _ (both_drop i x xs ys (omega (arith, e)) e rest) in
      ap (λ (zs : List (PendingFrame (Arc S Z))). map frame_unshared zs) (take_more_set xs i y (omega (arith, e)))
      ∙ (map-append frame_unshared (take i xs) (y ∷ [])
      ∙ (ap (λ (zs : List (PendingFrame S)). zs ++ frame_unshared y ∷ []) done
      ∙ (ap (λ (z : PendingFrame S). fed name state (map frame_unshared (take i ys)) ++ z ∷ []) (one ∙ ap (λ z. fed_one name state (frame_unshared z)) here)
      ∙ (sym (map-append (fed_one name state) (map frame_unshared (take i ys)) (frame_unshared (get_or ys i x) ∷ []))
      ∙ ap (λ (zs : List (PendingFrame S)). fed name state zs) (sym (map-append frame_unshared (take i ys) (get_or ys i x ∷ [])) ∙ ap (λ (zs : List (PendingFrame (Arc S Z))). map frame_unshared zs) (sym (take_more ys i x h)))))))

  pub feed_rest : (i : ℕ) (xs ys : List (PendingFrame (Arc S Z))) (x y : PendingFrame (Arc S Z)) → i < length ys → length xs ≡ length ys → drop i xs ≡ drop i ys → drop (i + 1) (set xs i y) ≡ drop (i + 1) ys
  feed_rest i xs ys x y h e rest =
      drop-set-lt (i + 1) xs i y (omega arith) ∙ tails _ _ _ _ (both_drop i x xs ys (omega (arith, e)) e rest)

  -- a frame that wants a share finds one
  wanting_here : (name : List ℕ) (i : ℕ) (xs : List (PendingFrame (Arc S Z))) (x : PendingFrame (Arc S Z)) → i < length xs → x ≡ get_or xs i x → wanting name (drop i xs) ≡ cond (wants name x) (suc (wanting name (drop (i + 1) xs))) (wanting name (drop (i + 1) xs))
  wanting_here name i xs x h is =
      ap (λ (zs : List (PendingFrame (Arc S Z))). wanting name zs) (drop_more xs i x h)
      ∙ ap (λ (z : PendingFrame (Arc S Z)). cond (wants name z) (suc (wanting name (drop (i + 1) xs))) (wanting name (drop (i + 1) xs))) (sym is)

  pub feed_one_left : (name : List ℕ) (i others : ℕ) (xs : List (PendingFrame (Arc S Z))) (x : PendingFrame (Arc S Z)) → i < length xs → x ≡ get_or xs i x → wanting name (drop i xs) ≤ others → wants name (get_or xs i x) ≡ true → 0 < others
  feed_one_left name i others xs x h is enough wants_it =
      one_step (wants name x) (wanting name (drop (i + 1) xs)) others (subst (λ (n : ℕ). n ≤ others) (wanting_here name i xs x h is) enough) (ap (λ z. wants name z) is ∙ wants_it)

  pub feed_enough : (name : List ℕ) (i others left : ℕ) (xs : List (PendingFrame (Arc S Z))) (x y : PendingFrame (Arc S Z)) → i < length xs → x ≡ get_or xs i x → wanting name (drop i xs) ≤ others → left + cond (wants name x) 1 0 ≡ others → wanting name (drop (i + 1) (set xs i y)) ≤ left
  feed_enough name i others left xs x y h is enough e =
      subst (λ (zs : List (PendingFrame (Arc S Z))). wanting name zs ≤ left) (sym (drop-set-lt (i + 1) xs i y (omega arith)))
      (left_step (wants name x) (wanting name (drop (i + 1) xs)) others left (subst (λ (n : ℕ). n ≤ others) (wanting_here name i xs x h is) enough) e)

  pub feed_all : (name : List ℕ) (state : S) (i : ℕ) (xs ys : List (PendingFrame (Arc S Z))) → length ys ≤ i → length xs ≡ length ys → map frame_unshared (take i xs) ≡ fed name state (map frame_unshared (take i ys)) → map frame_unshared xs ≡ fed name state (map frame_unshared ys)
  feed_all name state i xs ys h e done =
      ap (λ (zs : List (PendingFrame (Arc S Z))). map frame_unshared zs) (sym (take_all i xs (omega (arith, e))))
      ∙ (done ∙ ap (λ (zs : List (PendingFrame (Arc S Z))). fed name state (map frame_unshared zs)) (take_all i ys h))
