-- Later choices change nothing of what was made.
use Rattle.std.proofs.Common.{◌≡◌, ◌≢◌, ℕ, ◌<◌, ◌≤◌, Bool, true, false, List, [], ◌∷◌, ◌++◌, length, None, refl, ap, sym, ◌∙◌, arith, eqb, leb, inl, inr}
use Rattle.std.proofs.lemmas.Bool.{ne_eqb, leb-true, leb-false}
use Rattle.sal_base.specs.declared.picture.Picture.{Picture}
use Rattle.sal_base.specs.Lists.{Has}
use Rattle.sal_wire.specs.Fields.{FragmentFields}
use Rattle.sal_codec.specs.Coding.{Coding}
use Rattle.sal_sender.specs.declared.choice.Choice.{Choice}
use Rattle.sal_chain.specs.Held.{name_in}
use Rattle.sal_sender.specs.Chain.{made_at, state, target_of, NamesDiffer}
use Rattle.sal_sender.specs.OneThread.{Session, one_thread, burst_after}
use Rattle.sal_sender.specs.Sound.{AreChained}
use Rattle.sal_sender.proofs.Thread.{ArePicturesOf, state_before}

second : {X : Type 0} (b : Bool) (x y : X) → b ≡ false → (elim b as (λ c. X) [ true ↦ x | false ↦ y ]) ≡ y
second true x y h = absurd (cc)
second false x y h = refl

module _ {S : Type 0} (codec : Coding S) where
  -- a number at most the old tip was made as it was
  pub made_older : (shot : List Picture) (choice : Choice) (older : List Choice) (n : ℕ) → AreChained (choice ∷ older) → n ≤ length older → made_at codec shot (choice ∷ older) n ≡ made_at codec shot older n
  unfolding made_at
  made_older shot choice older n chained low =
      let other : n ≢ choice.number = (λ (e : n ≡ choice.number). omega (arith, chained.0.number)) in
      second (eqb n choice.number) _ _ (ne_eqb n choice.number other)

  pub state_older : (shot : List Picture) (choice : Choice) (older : List Choice) (n : ℕ) → AreChained (choice ∷ older) → n ≤ length older → state codec shot (choice ∷ older) n ≡ state codec shot older n
  state_older shot choice older n chained low = ap (target_of codec) (made_older shot choice older n chained low)

  -- a number above all choices has the initial state
  pub none_above : (shot : List Picture) (chosen : List Choice) (n : ℕ) → AreChained chosen → length chosen < n → made_at codec shot chosen n ≡ None
  unfolding made_at
  none_above shot [] n chained high = refl
  none_above shot (choice ∷ older) n chained high =
      let other : n ≢ choice.number = (λ (e : n ≡ choice.number). omega (arith, chained.0.number)) in
      second (eqb n choice.number) _ _ (ne_eqb n choice.number other) ∙ none_above shot older n chained.1 (omega arith)

  -- 0 is no choice's number
  pub zero_none : (shot : List Picture) (chosen : List Choice) → AreChained chosen → made_at codec shot chosen 0 ≡ None
  unfolding made_at
  zero_none shot [] chained = refl
  zero_none shot (choice ∷ older) chained =
      let other : 0 ≢ choice.number = (λ (e : 0 ≡ choice.number). omega (arith, chained.0.number)) in
      second (eqb 0 choice.number) _ _ (ne_eqb 0 choice.number other) ∙ zero_none shot older chained.1

  -- what was sent before is the beginning of what is sent
  pub has_sent : (session : Session) (shot : List Picture) (choice : Choice) (older : List Choice) (e : FragmentFields) → Has (one_thread codec session shot older) e → Has (one_thread codec session shot (choice ∷ older)) e
  unfolding one_thread
  has_sent session shot choice older e h = has_first (one_thread codec session shot older) (burst_after codec session shot older choice (length (one_thread codec session shot older))) e h
    where
      has_first : (xs ys : List FragmentFields) (x : FragmentFields) → Has xs x → Has (xs ++ ys) x
      has_first [] ys x h = absurd h
      has_first (y ∷ xs) ys x (inl q) = inl q
      has_first (y ∷ xs) ys x (inr q) = inr (has_first xs ys x q)

  -- an old state is one of the states after a later choice
  among : (shot : List Picture) (choice : Choice) (older : List Choice) → AreChained (choice ∷ older) → (m : ℕ) (b : Bool) → leb m (length older) ≡ b → (k : ℕ) × (state codec shot (choice ∷ older) k ≡ state codec shot older m)
  among shot choice older chained m true e = (m, state_older shot choice older m chained (leb-true _ _ e))
  among shot choice older chained m false e =
      let high : length older < m = leb-false _ _ e in
      (0, state_older shot choice older 0 chained (omega arith) ∙ (ap (target_of codec) (zero_none shot older chained.1) ∙ ap (target_of codec) (sym (none_above shot older m chained.1 high))))

  -- what differs by name after a later choice differed before
  pub names_older : (shot : List Picture) (choice : Choice) (older : List Choice) → AreChained (choice ∷ older) → NamesDiffer codec shot (choice ∷ older) → NamesDiffer codec shot older
  names_older shot choice older chained names m n same =
      let a : (k : ℕ) × (state codec shot (choice ∷ older) k ≡ state codec shot older m) = among shot choice older chained m (leb m (length older)) refl in
      let b : (k : ℕ) × (state codec shot (choice ∷ older) k ≡ state codec shot older n) = among shot choice older chained n (leb n (length older)) refl in
      sym a.1 ∙ (names a.0 b.0 (ap (name_in codec) a.1 ∙ (same ∙ ap (name_in codec) (sym b.1))) ∙ b.1)

  pub names_before : (shot more : List Picture) (chosen : List Choice) → ArePicturesOf (length shot) chosen → NamesDiffer codec (shot ++ more) chosen → NamesDiffer codec shot chosen
  names_before shot more chosen a names m n same =
      let p : state codec (shot ++ more) chosen m ≡ state codec shot chosen m = state_before codec shot more chosen m a in
      let q : state codec (shot ++ more) chosen n ≡ state codec shot chosen n = state_before codec shot more chosen n a in
      sym p ∙ (names m n (ap (name_in codec) p ∙ (same ∙ ap (name_in codec) (sym q))) ∙ q)
