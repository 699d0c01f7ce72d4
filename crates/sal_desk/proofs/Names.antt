-- The names of seats through a desk's steps.
use Rattle.std.proofs.Common.{◌≡◌, ◌≢◌, ℕ, ◌+◌, ◌<◌, ◌≤◌, ◌⊎◌, List, [], ◌∷◌, ◌++◌, length, Option, Some, Bool, true, false, eqb, set, refl, sym, ap, ◌∙◌, subst, inl, inr, ⊎_elim, arith, zero, suc, eq-eqb, ne_eqb, if◌then◌else◌}
use mathlib.Core.Logic.{dite}
use mathlib.Core.Option.{some, some-injective, some-ne-none}
use native.Mathlib.Decide.{ℕ_discrete}
use lib.ListN.{get_elem?}
use Rattle.atomic_table.proofs.Lists.{at_set, at_longer, set_here, set_else}
use Rattle.sal_desk.specs.declared.view.Item.{Item}
use Rattle.sal_desk.specs.declared.view.Own.{Own}
use Rattle.sal_desk.specs.declared.view.View.{View}
use Rattle.sal_desk.specs.Histories.{same, entries_by}
use Rattle.sal_desk.specs.Desk.{members_of, members, At, Named, ListedAll}
use Rattle.sal_desk.proofs.Items.{same_refl, same_is, at_below, at_end, at_both, at_after}

module _ {M E : Type 0} where
  -- whoever has a start stands for itself first
  pub members_are : (v : View M E) (start : M) → v.start ≡ Some start → members v ≡ v.own ∷ v.joined
  members_are v start e = ap (λ (s : Option M). members_of s v.own v.joined) e

  at_same : (views : List (View M E)) (i : ℕ) (u v : View M E) → get_elem? views i ≡ some u → get_elem? views i ≡ some v → u ≡ v
  at_same views i u v a b = some-injective u v (sym a ∙ b)

  -- one place has one seat
  pub at_one : (views : List (View M E)) (i a j b : ℕ) (o p : Own E) → i ≡ j → a ≡ b → At views i a o → At views j b p → o ≡ p
  at_one views i a j b o p ij ab x y =
      let same_view : x.0 ≡ y.0 = some-injective x.0 y.0 (sym x.1 ∙ (ap (λ (k : ℕ). get_elem? views k) ij ∙ y.1)) in
      some-injective o p (sym x.2 ∙ (ap (λ (k : ℕ). get_elem? (members x.0) k) ab ∙ (ap (λ (v : View M E). get_elem? (members v) b) same_view ∙ y.2)))

  -- who has one name has one place
  pub place_of : (views : List (View M E)) (named : Named views) (i a j b : ℕ) (o p : Own E) → At views i a o → At views j b p → o.name ≡ p.name → (i ≡ j) × (a ≡ b)
  place_of views named i a j b o p x y e =
      let same_place : ◌≡◌ {A = ℕ × ℕ} (i, a) (j, b) = sym (named.placed i a o x) ∙ (ap named.place e ∙ named.placed j b p y) in
      (ap (λ (q : ℕ × ℕ). q.0) same_place, ap (λ (q : ℕ × ℕ). q.1) same_place)

  -- ---- one seat's own part changes

  module _ (views : List (View M E)) (id : ℕ) (v w : View M E) (own own' : Own E) (joined : List (Own E))
      (at : get_elem? views id ≡ some v) (before : members v ≡ own ∷ joined) (after : members w ≡ own' ∷ joined) (name_is : own'.name ≡ own.name) where
    pub here : At views id 0 own
    here = (v, at, subst (λ (l : List (Own E)). get_elem? l 0 ≡ some own) (sym before) refl)

    pub here_after : At (set views id w) id 0 own'
    here_after = (w, set_here views id w (at_below views id v at), subst (λ (l : List (Own E)). get_elem? l 0 ≡ some own') (sym after) refl)

    abbrev WasAt : ℕ → ℕ → Own E → Type 0
    WasAt i a o = (was : Own E) × (At views i a was × ((was.name ≡ o.name) × (((i ≡ id) × ((a ≡ 0) × (o ≡ own'))) ⊎ ((was ≡ o) × ((i ≡ id) × (a ≡ 0) → ⊥)))))

    was_member : (i a : ℕ) (o : Own E) → i ≡ id → get_elem? (own' ∷ joined) a ≡ some o → WasAt i a o
    was_member i zero o is e =
        let o_is = some-injective own' o e in
        (own, (subst (λ (k : ℕ). At views k 0 own) (sym is) here, (sym name_is ∙ ap (λ (p : Own E). p.name) o_is, inl (is, (refl, sym o_is)))))
    was_member i (suc a) o is e =
        (o, (subst (λ (k : ℕ). At views k (suc a) o) (sym is) (v, at, subst (λ (l : List (Own E)). get_elem? l (suc a) ≡ some o) (sym before) e), (refl, inr (refl, λ z. let no = z.1 in omega (arith, no)))))

    pub was_at : (i a : ℕ) (o : Own E) → At (set views id w) i a o → WasAt i a o
    was_at i a o x =
        ⊎_elim
        (λ (h : (i ≡ id) × (w ≡ x.0)).
        was_member i a o h.0 (subst (λ (l : List (Own E)). get_elem? l a ≡ some o) after (subst (λ (u : View M E). get_elem? (members u) a ≡ some o) (sym h.1) x.2)))
        (λ (h : (i ≢ id) × (get_elem? views i ≡ some x.0)). (o, ((x.0, h.1, x.2), (refl, inr (refl, λ z. h.0 z.0)))))
        (at_set views id i w x.0 x.1)

    abbrev GoesOn : ℕ → ℕ → Own E → Type 0
    GoesOn i a o = (later : Own E) × (At (set views id w) i a later × ((later.name ≡ o.name) × (((later ≡ own') × (o ≡ own)) ⊎ (later ≡ o))))

    goes_member : (a : ℕ) (o : Own E) → get_elem? (own ∷ joined) a ≡ some o → GoesOn id a o
    goes_member zero o e =
        let o_is = some-injective own o e in
        (own', (here_after, (name_is ∙ ap (λ (p : Own E). p.name) o_is, inl (refl, sym o_is))))
    goes_member (suc a) o e =
        (o, ((w, set_here views id w (at_below views id v at), subst (λ (l : List (Own E)). get_elem? l (suc a) ≡ some o) (sym after) e), (refl, inr refl)))

    pub goes_on : (i a : ℕ) (o : Own E) → At views i a o → GoesOn i a o
    goes_on i a o x =
        dite (ℕ_discrete i id)
        (λ e.
        let same_view : x.0 ≡ v = some-injective x.0 v (sym x.1 ∙ (ap (λ (k : ℕ). get_elem? views k) e ∙ at)) in
        subst (λ (k : ℕ). GoesOn k a o) (sym e)
        (goes_member a o (subst (λ (l : List (Own E)). get_elem? l a ≡ some o) before (subst (λ (u : View M E). get_elem? (members u) a ≡ some o) same_view x.2))))
        (λ ne. (o, ((x.0, set_else views id i w ne ∙ x.1, x.2), (refl, inr refl))))

    pub named_after : own.splits ≤ own'.splits → Named views → Named (set views id w)
    named_after more named = record {
      place = named.place;
      placed = λ i a o x. let was = was_at i a o x in ap named.place (sym was.1.1.0) ∙ named.placed i a was.0 was.1.0;
      parent = λ i a k n o x e.
          let was = was_at i a o x in
          let p = named.parent i a k n was.0 was.1.0 (was.1.1.0 ∙ e) in
          let on = goes_on p.0 p.1 p.2 p.3 in
          let lt = p.5 in
          let grown : (p.2).splits ≤ (on.0).splits =
          ⊎_elim (λ (h : (on.0 ≡ own') × (p.2 ≡ own)). let a = ap (λ (q : Own E). q.splits) h.0 in let b = ap (λ (q : Own E). q.splits) h.1 in omega (arith, a, b, more))
          (λ (h : on.0 ≡ p.2). let a = ap (λ (q : Own E). q.splits) h in omega (arith, a)) on.1.1.1 in
          (p.0, p.1, on.0, on.1.0, on.1.1.0 ∙ p.4, omega (arith, lt, grown));
    }

    -- no other seat has this one's name
    pub other_name : Named views → (i a : ℕ) (o : Own E) → At views i a o → ((i ≡ id) × (a ≡ 0) → ⊥) → o.name ≢ own.name
    other_name named i a o x ne e = ne (place_of views named i a id 0 o own x here e)

    pub listed_after : (log log' : List (Item E)) → Named views → ListedAll views log → entries_by own.name log' ≡ own'.mine → ((name : List ℕ) → name ≢ own.name → entries_by name log' ≡ entries_by name log)
        → ListedAll (set views id w) log'
    listed_after log log' named all mine rest = record {
      mine = λ i a o x.
          let was = was_at i a o x in
          ⊎_elim
          (λ (h : (i ≡ id) × ((a ≡ 0) × (o ≡ own'))). subst (λ (p : Own E). entries_by p.name log' ≡ p.mine) (sym h.1.1) (subst (λ (n : List ℕ). entries_by n log' ≡ own'.mine) (sym name_is) mine))
          (λ (h : (was.0 ≡ o) × ((i ≡ id) × (a ≡ 0) → ⊥)).
          subst (λ (p : Own E). entries_by p.name log' ≡ p.mine) h.0 (rest (was.0).name (other_name named i a was.0 was.1.0 h.1) ∙ all.mine i a was.0 was.1.0))
          was.1.1.1;
      others = λ name nobody.
          let ne : name ≢ own.name = λ e. nobody id 0 own' here_after (name_is ∙ sym e) in
          rest name ne ∙ all.others name (λ i a o x e. let on = goes_on i a o x in nobody i a on.0 on.1.0 (on.1.1.0 ∙ e));
    }

  -- ---- one seat more

  module _ (views : List (View M E)) (u : View M E) (new parent : Own E) (k i0 a0 : ℕ) (alone : members u ≡ new ∷ []) (name_is : new.name ≡ k ∷ parent.name) (by : At views i0 a0 parent) (below : k < parent.splits)
      (fresh : (i a : ℕ) (o : Own E) → At views i a o → o.name ≢ new.name) where
    at_old : (i a : ℕ) (o : Own E) → At views i a o → At (views ++ u ∷ []) i a o
    at_old i a o x = (x.0, at_longer views (u ∷ []) i x.0 x.1, x.2)

    only_one : (a : ℕ) (o : Own E) → get_elem? (new ∷ []) a ≡ some o → (a ≡ 0) × (new ≡ o)
    only_one zero o e = (refl, some-injective new o e)
    only_one (suc a) o e = absurd (some-ne-none o (sym e))

    old_or_new : (i a : ℕ) (o : Own E) → At (views ++ u ∷ []) i a o → At views i a o ⊎ ((i ≡ length views) × ((a ≡ 0) × (new ≡ o)))
    old_or_new i a o x =
        ⊎_elim (λ (h : get_elem? views i ≡ some x.0). inl (x.0, h, x.2))
        (λ (h : (i ≡ length views) × (u ≡ x.0)).
        let one = only_one a o (subst (λ (l : List (Own E)). get_elem? l a ≡ some o) alone (subst (λ (y : View M E). get_elem? (members y) a ≡ some o) (sym h.1) x.2)) in
        inr (h.0, one))
        (at_end views u x.0 i x.1)

    pub named_longer : Named views → Named (views ++ u ∷ [])
    named_longer named = record {
      place = λ n. if same n new.name then (length views, 0) else named.place n;
      placed = λ i a o x.
          ⊎_elim (λ (h : At views i a o). old_place i a o h (same o.name new.name) refl)
          (λ (h : (i ≡ length views) × ((a ≡ 0) × (new ≡ o))).
          subst (λ (p : Own E). (if same p.name new.name then (length views, 0) else named.place p.name) ≡ (i, a)) h.1.1
          (rw (same_refl new.name) (ap (λ (n : ℕ). (n, 0)) (sym h.0) ∙ ap (λ (n : ℕ). (i, n)) (sym h.1.0))))
          (old_or_new i a o x);
      parent = λ i a j n o x e.
          ⊎_elim (λ (h : At views i a o). let p = named.parent i a j n o h e in (p.0, p.1, p.2, at_old p.0 p.1 p.2 p.3, p.4, p.5))
          (λ (h : (i ≡ length views) × ((a ≡ 0) × (new ≡ o))).
          let q : k ∷ parent.name ≡ j ∷ n = sym name_is ∙ (ap (λ (p : Own E). p.name) h.1.1 ∙ e) in
          let same_k : k ≡ j = cc in
          let same_n : parent.name ≡ n = cc in
          (i0, a0, parent, at_old i0 a0 parent by, same_n, subst (λ (m : ℕ). m < parent.splits) same_k below))
          (old_or_new i a o x);
    }
      where
        old_place : (i a : ℕ) (o : Own E) → At views i a o → (b : Bool) → same o.name new.name ≡ b → (if same o.name new.name then (length views, 0) else named.place o.name) ≡ (i, a)
        old_place i a o h true e = absurd (fresh i a o h (same_is o.name new.name e))
        old_place i a o h false e = rw e (named.placed i a o h)

    pub listed_longer : (log : List (Item E)) → new.mine ≡ [] → ListedAll views log → ListedAll (views ++ u ∷ []) log
    listed_longer log empty all = record {
      mine = λ i a o x.
          ⊎_elim (λ (h : At views i a o). all.mine i a o h)
          (λ (h : (i ≡ length views) × ((a ≡ 0) × (new ≡ o))).
          subst (λ (p : Own E). entries_by p.name log ≡ p.mine) h.1.1 (all.others new.name fresh ∙ sym empty))
          (old_or_new i a o x);
      others = λ name nobody. all.others name (λ i a o x. nobody i a o (at_old i a o x));
    }

  -- ---- one seat is joined into another

  module _ (views : List (View M E)) (id other : ℕ) (v w both spent : View M E) (at : get_elem? views id ≡ some v) (at_other : get_elem? views other ≡ some w) (ne : other ≢ id)
      (both_is : members both ≡ members v ++ members w) (spent_is : members spent ≡ []) where
    abbrev After : List (View M E)
    After = set (set views id both) other spent

    id_below : id < length views
    id_below = at_below views id v at

    at_id : get_elem? After id ≡ some both
    at_id = set_else (set views id both) other id spent (λ e. ne (sym e)) ∙ set_here views id both id_below

    abbrev Was : ℕ → ℕ → Own E → Type 0
    Was i a o =
        (((i ≡ id) × At views id a o) ⊎ ((i ≡ id) × ((b : ℕ) × ((a ≡ length (members v) + b) × At views other b o)))) ⊎ (((i ≢ id) × (i ≢ other)) × At views i a o)

    at_none : (a : ℕ) (o : Own E) → get_elem? (members spent) a ≡ some o → ⊥
    at_none a o e = some-ne-none o (sym (subst (λ (l : List (Own E)). get_elem? l a ≡ some o) spent_is e))

    was : (i a : ℕ) (o : Own E) → At After i a o → Was i a o
    was i a o x =
        ⊎_elim (λ (h : (i ≡ other) × (spent ≡ x.0)). absurd (at_none a o (subst (λ (y : View M E). get_elem? (members y) a ≡ some o) (sym h.1) x.2)))
        (λ (h : (i ≢ other) × (get_elem? (set views id both) i ≡ some x.0)).
        ⊎_elim
        (λ (g : (i ≡ id) × (both ≡ x.0)).
        let there = subst (λ (l : List (Own E)). get_elem? l a ≡ some o) both_is (subst (λ (y : View M E). get_elem? (members y) a ≡ some o) (sym g.1) x.2) in
        ⊎_elim (λ (f : get_elem? (members v) a ≡ some o). inl (inl (g.0, (v, at, f))))
        (λ (f : (b : ℕ) × ((a ≡ length (members v) + b) × (get_elem? (members w) b ≡ some o))). inl (inr (g.0, (f.0, (f.1.0, (w, at_other, f.1.1))))))
        (at_both (members v) (members w) a o there))
        (λ (g : (i ≢ id) × (get_elem? views i ≡ some x.0)). inr ((g.0, h.0), (x.0, g.1, x.2)))
        (at_set views id i both x.0 h.1))
        (at_set (set views id both) other i spent x.0 x.1)

    on : (i a : ℕ) (o : Own E) → At views i a o → (j b : ℕ) × At After j b o
    on i a o x =
        dite (ℕ_discrete i id)
        (λ e.
        let same_view : x.0 ≡ v = some-injective x.0 v (sym x.1 ∙ (ap (λ (k : ℕ). get_elem? views k) e ∙ at)) in
        let there = subst (λ (y : View M E). get_elem? (members y) a ≡ some o) same_view x.2 in
        (id, a, (both, at_id, subst (λ (l : List (Own E)). get_elem? l a ≡ some o) (sym both_is) (at_longer (members v) (members w) a o there))))
        (λ not_id.
        dite (ℕ_discrete i other)
        (λ e.
        let same_view : x.0 ≡ w = some-injective x.0 w (sym x.1 ∙ (ap (λ (k : ℕ). get_elem? views k) e ∙ at_other)) in
        let there = subst (λ (y : View M E). get_elem? (members y) a ≡ some o) same_view x.2 in
        (id, length (members v) + a, (both, at_id, subst (λ (l : List (Own E)). get_elem? l (length (members v) + a) ≡ some o) (sym both_is) (at_after (members v) (members w) a o there))))
        (λ not_other. (i, a, (x.0, set_else (set views id both) other i spent not_other ∙ (set_else views id i both not_id ∙ x.1), x.2))))

    pub named_joined : Named views → Named After
    named_joined named = record {
      place = moved;
      placed = λ i a o x.
          ⊎_elim
          (λ (h : ((i ≡ id) × At views id a o) ⊎ ((i ≡ id) × ((b : ℕ) × ((a ≡ length (members v) + b) × At views other b o)))).
          ⊎_elim
          (λ (g : (i ≡ id) × At views id a o). stays (id, a) o.name (named.placed id a o g.1) (λ e. ne (sym e)) ∙ ap (λ (n : ℕ). (n, a)) (sym g.0))
          (λ (g : (i ≡ id) × ((b : ℕ) × ((a ≡ length (members v) + b) × At views other b o))).
          moves g.1.0 o.name (named.placed other g.1.0 o g.1.1.1) ∙ (ap (λ (n : ℕ). (n, length (members v) + g.1.0)) (sym g.0) ∙ ap (λ (n : ℕ). (i, n)) (sym g.1.1.0))) h)
          (λ (h : ((i ≢ id) × (i ≢ other)) × At views i a o). stays (i, a) o.name (named.placed i a o h.1) h.0.1) (was i a o x);
      parent = λ i a k n o x e.
          let p = old i a o x in
          let q = named.parent p.0 p.1 k n o p.2 e in
          let there = on q.0 q.1 q.2 q.3 in
          (there.0, there.1, q.2, there.2, q.4, q.5);
    }
      where
        moved : List ℕ → ℕ × ℕ
        moved n = if eqb (named.place n).0 other then (id, length (members v) + (named.place n).1) else named.place n

        stays : (p : ℕ × ℕ) (n : List ℕ) → named.place n ≡ p → p.0 ≢ other → moved n ≡ p
        stays p n e differ = rw e (rw (ne_eqb p.0 other differ) refl)

        moves : (b : ℕ) (n : List ℕ) → named.place n ≡ (other, b) → moved n ≡ (id, length (members v) + b)
        moves b n e = rw e (rw (eq-eqb other other refl) refl)

        old : (i a : ℕ) (o : Own E) → At After i a o → (j b : ℕ) × At views j b o
        old i a o x =
            ⊎_elim
            (λ (h : ((i ≡ id) × At views id a o) ⊎ ((i ≡ id) × ((b : ℕ) × ((a ≡ length (members v) + b) × At views other b o)))).
            ⊎_elim (λ (g : (i ≡ id) × At views id a o). (id, a, g.1)) (λ (g : (i ≡ id) × ((b : ℕ) × ((a ≡ length (members v) + b) × At views other b o))). (other, g.1.0, g.1.1.1)) h)
            (λ (h : ((i ≢ id) × (i ≢ other)) × At views i a o). (i, a, h.1)) (was i a o x)

    pub listed_joined : (log : List (Item E)) → ListedAll views log → ListedAll After log
    listed_joined log all = record {
      mine = λ i a o x.
          ⊎_elim
          (λ (h : ((i ≡ id) × At views id a o) ⊎ ((i ≡ id) × ((b : ℕ) × ((a ≡ length (members v) + b) × At views other b o)))).
          ⊎_elim (λ (g : (i ≡ id) × At views id a o). all.mine id a o g.1) (λ (g : (i ≡ id) × ((b : ℕ) × ((a ≡ length (members v) + b) × At views other b o))). all.mine other g.1.0 o g.1.1.1) h)
          (λ (h : ((i ≢ id) × (i ≢ other)) × At views i a o). all.mine i a o h.1) (was i a o x);
      others = λ name nobody. all.others name (λ i a o x. let there = on i a o x in nobody there.0 there.1 o there.2);
    }
