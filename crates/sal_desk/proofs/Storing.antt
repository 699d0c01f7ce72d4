-- Entries with the counts of Voids after them, one more item at the end.
use Rattle.std.proofs.Common.{◌≡◌, ℕ, ◌+◌, ◌≤◌, List, [], ◌∷◌, ◌++◌, length, map, Option, Some, None, refl, sym, ap, ◌∙◌, subst, arith, zero, suc, slice_get, take, ◌-◌}
use Rattle.std.specs.Option.{option_map, option_to_list}
use Rattle.std.proofs.lemmas.Option.{slice_get-map}
use Rattle.sal_desk.specs.declared.history.Stored.{Stored}
use Rattle.sal_desk.specs.Stored.{voids, unpacked, present}

module _ {E : Type 0} where
  voids_snoc : (n : ℕ) (rest : List (Option E)) (o : Option E) → voids n (rest ++ o ∷ []) ≡ voids n rest ++ o ∷ []
  voids_snoc zero rest o = refl
  voids_snoc (suc n) rest o = ap (λ l. None ∷ l) (voids_snoc n rest o)

  voids_more : (n : ℕ) → voids {E = E} (suc n) [] ≡ voids n [] ++ None ∷ []
  voids_more zero = refl
  voids_more (suc n) = ap (λ l. None ∷ l) (voids_more n)

  -- an entry more
  pub entry_more : (b : ℕ) (ss : List (Stored E)) (e : E) → unpacked b (ss ++ record { entry = e; voids = 0 } ∷ []) ≡ unpacked b ss ++ Some e ∷ []
  entry_more b [] e = voids_snoc b [] (Some e)
  entry_more b (s ∷ ss) e = ap (λ l. voids b (Some s.entry ∷ l)) (entry_more s.voids ss e) ∙ voids_snoc b (Some s.entry ∷ unpacked s.voids ss) (Some e)

  pub first_void : (b : ℕ) → unpacked {E = E} (b + 1) [] ≡ unpacked b [] ++ None ∷ []
  first_void b = let e : suc b ≡ b + 1 = omega arith in subst (λ (n : ℕ). voids {E = E} n [] ≡ voids b [] ++ None ∷ []) e (voids_more b)

  -- a Void more after the last entry
  pub void_more : (b : ℕ) (ss : List (Stored E)) (e : E) (v : ℕ)
      → unpacked b (ss ++ record { entry = e; voids = v + 1 } ∷ []) ≡ unpacked b (ss ++ record { entry = e; voids = v } ∷ []) ++ None ∷ []
  void_more b [] e v = ap (λ l. voids b (Some e ∷ l)) (first_void v) ∙ voids_snoc b (Some e ∷ voids v []) None
  void_more b (s ∷ ss) e v =
      ap (λ l. voids b (Some s.entry ∷ l)) (void_more s.voids ss e v) ∙ voids_snoc b (Some s.entry ∷ unpacked s.voids (ss ++ record { entry = e; voids = v } ∷ [])) None

  voids_long : (n : ℕ) (rest : List (Option E)) → length (voids n rest) ≡ n + length rest
  voids_long zero rest = omega arith
  voids_long (suc n) rest = let h = voids_long n rest in omega (arith, h)

  pub before_below : (b : ℕ) (ss : List (Stored E)) → b ≤ length (unpacked b ss)
  before_below b [] = let h = voids_long b [] in omega (arith, h)
  before_below b (s ∷ ss) = let h = voids_long b (Some s.entry ∷ unpacked s.voids ss) in omega (arith, h)

  pub last_below : (b : ℕ) (ss : List (Stored E)) (e : E) (v : ℕ) → v ≤ length (unpacked b (ss ++ record { entry = e; voids = v } ∷ []))
  last_below b [] e v =
      let h = voids_long b (Some e ∷ voids v []) in
      let g = voids_long v [] in
      omega (arith, h, g)
  last_below b (s ∷ ss) e v =
      let h = voids_long b (Some s.entry ∷ unpacked s.voids (ss ++ record { entry = e; voids = v } ∷ [])) in
      let g = last_below s.voids ss e v in
      omega (arith, h, g)

  present_voids : (n : ℕ) (rest : List (Option E)) → present (voids n rest) ≡ present rest
  present_voids zero rest = refl
  present_voids (suc n) rest = present_voids n rest

  pub present_are : (b : ℕ) (ss : List (Stored E)) → present (unpacked b ss) ≡ map (λ s. s.entry) ss
  present_are b [] = present_voids b []
  present_are b (s ∷ ss) = present_voids b (Some s.entry ∷ unpacked s.voids ss) ∙ ap (λ l. s.entry ∷ l) (present_are s.voids ss)

  -- what stands at an index of the entries
  pub present_at : (b : ℕ) (ss : List (Stored E)) (i : ℕ) → slice_get (present (unpacked b ss)) i ≡ option_map (λ s. s.entry) (slice_get ss i)
  present_at b ss i = ap (λ l. slice_get l i) (present_are b ss) ∙ slice_get-map (λ s. s.entry) ss i

  pub popped : (old new : List (Stored E)) (r : Option (Stored E)) (s : Stored E) → old ≡ new ++ option_to_list r → r ≡ Some s → old ≡ new ++ s ∷ []
  popped old new r s h e = h ∙ ap (λ q. new ++ option_to_list q) e

  pub emptied : (old new : List (Stored E)) (r : Option (Stored E)) (n : ℕ) → old ≡ new ++ option_to_list r → r ≡ None → new ≡ take (n - 1) old → n ≡ 0 → (old ≡ []) × (new ≡ [])
  emptied old new r n h e short zero_is =
      let gone : new ≡ [] = short ∙ ap (λ k. take (k - 1) old) zero_is in
      (h ∙ ap (λ q. new ++ option_to_list q) e ∙ ap (λ l. l ++ []) gone, gone)

  pub voided_first : (b : ℕ) (old new : List (Stored E)) → old ≡ [] → new ≡ [] → unpacked (b + 1) new ≡ unpacked b old ++ None ∷ []
  voided_first b old new e f = rw e (rw f (first_void b))

  pub voided_last : (b : ℕ) (s : Stored E) (old rest new : List (Stored E)) → old ≡ rest ++ s ∷ [] → new ≡ rest ++ record { entry = s.entry; voids = s.voids + 1 } ∷ []
      → unpacked b new ≡ unpacked b old ++ None ∷ []
  voided_last b s old rest new f h = rw f (rw h (void_more b rest s.entry s.voids))

  pub last_fits : (b : ℕ) (s : Stored E) (old rest : List (Stored E)) → old ≡ rest ++ s ∷ [] → s.voids ≤ length (unpacked b old)
  last_fits b s old rest f = subst (λ (l : List (Stored E)). s.voids ≤ length (unpacked b l)) (sym f) (last_below b rest s.entry s.voids)

  pub entry_found : (b : ℕ) (ss : List (Stored E)) (i : ℕ) (r : Option (Stored E)) → r ≡ slice_get ss i → option_map (λ s. s.entry) r ≡ slice_get (present (unpacked b ss)) i
  entry_found b ss i r e = ap (option_map (λ s. s.entry)) e ∙ sym (present_at b ss i)
