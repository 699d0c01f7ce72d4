-- Splitting, joining and closing keep the desk's rule, or end it.
use Rattle.std.proofs.Common.{◌≡◌, ◌≢◌, ℕ, ◌<◌, ◌⊎◌, List, [], ◌∷◌, ◌++◌, length, Option, Some, None, set, refl, sym, ap, ◌∙◌, subst, inl, inr, ⊎_elim, arith, slice_index, slice_set}
use mathlib.Core.Option.{Option as Maybe, none, some, some-injective}
use lib.ListN.{get_elem?}
use Rattle.atomic_table.specs.Table.{State, Me, Act, keeps, Allows, step, Valid, homes_after, carried_after, Splits, Joins, Final, Seen}
use Rattle.atomic_table.proofs.Lists.{at_set, at_longer, set_here, set_else}
use Rattle.atomic_table.specs.Seated.{TableId}
use Rattle.sal_desk.specs.declared.view.Stage.{Stage}
use Rattle.sal_desk.specs.declared.view.Stage.TheVariants.{Idle, Working}
use Rattle.sal_desk.specs.declared.view.Item.{Item}
use Rattle.sal_desk.specs.declared.view.Own.{Own}
use Rattle.sal_desk.specs.declared.view.View.{View}
use Rattle.sal_desk.specs.declared.view.Kept.{Kept}
use Rattle.sal_desk.specs.Stored.{items_of}
use Rattle.sal_desk.specs.Histories.{StartsWith, longer, shorter, entries_by, entries, unnamed}
use Rattle.sal_desk.specs.Seats.{AllBack, IsNamed, fresh}
use Rattle.sal_desk.specs.Desk.{Stands, Knows, Named, ListedAll, Home, Ruled, members, At, parting, newcomer, joining, spent_view, compared, learned, state, IsResting}
use Rattle.sal_desk.specs.Calls.{Joined, Closed}
use Rattle.sal_desk.proofs.Items.{at_below, at_end, any_at, each_at, at_each, longer_begins, shorter_begins, longer_is}
use Rattle.sal_desk.proofs.Names.{members_are, at_one, place_of, was_at, named_after, listed_after, named_longer, listed_longer, named_joined, listed_joined}
use Rattle.sal_desk.proofs.Turns.{idle_holds, working_holds, some_none, some_same, apart_after, own_mine, named_same, listed_same, home_after}

none_or_some : {A : Type 0} (o : Option A) → (o ≡ None) ⊎ ((a : A) × (o ≡ Some a))
none_or_some None = inl refl
none_or_some (Some a) = inr (a, refl)

module _ {M E : Type 0} (stands : M → M → List E → Type 0) (follows : M → List E → E → Type 0) (start : M) where
  abbrev Table : Type 0
  Table = State (Option (Kept M E)) (View M E)

  abbrev Sat : Type 0
  Sat = Me (Option (Kept M E)) (View M E)

  abbrev Rule : Table → Type 0
  Rule = Ruled stands follows start

  not_working : (u : View M E) (n : ℕ) → u.stage ≡ Idle → u.stage ≡ Working n → ⊥
  not_working u n idle working = idle_holds u.stage n idle (working_holds u.stage n working)

  -- one idle view for another
  replaced : (s : Table) (id : ℕ) (v w : View M E) (r : Rule s) → get_elem? s.views id ≡ some v → v.stage ≡ Idle → w.stage ≡ Idle → Knows start r.tickets r.log w → Named (set s.views id w) → ListedAll (set s.views id w) r.log
      → Rule (record { words = s.words; homes = s.homes; views = set s.views id w })
  replaced s id v w r at idle idle' knows named listed = record {
    tickets = r.tickets;
    log = r.log;
    words = r.words;
    ahead = r.ahead;
    below = r.below;
    legal = r.legal;
    home = home_after stands follows start s s.words id v w r.log r.home at idle;
    out = λ j u n e working.
        ⊎_elim (λ (h : (j ≡ id) × (w ≡ u)). absurd (not_working u n (ap (λ (x : View M E). x.stage) (sym h.1) ∙ idle') working))
        (λ (h : (j ≢ id) × (get_elem? s.views j ≡ some u)). r.out j u n h.1 working) (at_set s.views id j w u e);
    each = λ j u e.
        ⊎_elim (λ (h : (j ≡ id) × (w ≡ u)). subst (λ (x : View M E). Knows start r.tickets r.log x) h.1 knows) (λ (h : (j ≢ id) × (get_elem? s.views j ≡ some u)). r.each j u h.1)
        (at_set s.views id j w u e);
    apart = apart_after s.views id w (λ j u n e hw hu. absurd (idle_holds w.stage n idle' hw)) r.apart;
    named = named;
    listed = listed;
  }

  -- ---- split

  module _ (s : Table) (id k : ℕ) (v u : View M E) (m : M) (r : Rule s) (at : get_elem? s.views id ≡ some v) (started : v.start ≡ Some m) (started' : u.start ≡ Some m) (idle : u.stage ≡ Idle) (alone : u.joined ≡ [])
      (same_seen : u.seen ≡ v.seen) (none_told : u.told ≡ []) (own_is : u.own ≡ fresh (k ∷ v.own.name)) (below : k < v.own.splits) (new : (i a : ℕ) (o : Own E) → At s.views i a o → o.name ≢ u.own.name) where
    members_alone : members u ≡ u.own ∷ []
    members_alone = members_are u m started' ∙ ap (λ (l : List (Own E)). u.own ∷ l) alone

    by : At s.views id 0 v.own
    by = (v, at, subst (λ (l : List (Own E)). get_elem? l 0 ≡ some v.own) (sym (members_are v m started)) refl)

    name_is : u.own.name ≡ k ∷ v.own.name
    name_is = ap (λ (o : Own E). o.name) own_is

    home_longer : Home stands follows start s r.log → Home stands follows start (record { words = s.words; homes = s.homes; views = s.views ++ u ∷ [] }) r.log
    home_longer home = elim home [ inl h ↦ inl h | inr h ↦ inr (h.0, h.1, h.2, at_longer s.views (u ∷ []) h.1 h.2 h.3, h.4) ]

    knows_new : Knows start r.tickets r.log u
    knows_new =
        let knows = r.each id v at in
        record {
          seen = subst (λ l. StartsWith r.log l) (sym same_seen) knows.seen;
          told = subst (λ (l : List (Item E)). StartsWith u.seen l) (sym none_told) (u.seen, refl);
          turn = subst (λ (g : Stage). Stands r.tickets r.log u.seen g) (sym idle) tt;
          start_is = λ n e. knows.start_is n (started ∙ (sym started' ∙ e));
          spent = λ gone. idle;
        }

    lengthened : Rule (record { words = s.words; homes = s.homes; views = s.views ++ u ∷ [] })
    lengthened = record {
      tickets = r.tickets;
      log = r.log;
      words = r.words;
      ahead = r.ahead;
      below = r.below;
      legal = r.legal;
      home = home_longer r.home;
      out = λ j x n e working.
          ⊎_elim (λ (h : get_elem? s.views j ≡ some x). r.out j x n h working)
          (λ (h : (j ≡ length s.views) × (u ≡ x)). absurd (not_working x n (ap (λ (y : View M E). y.stage) (sym h.1) ∙ idle) working)) (at_end s.views u x j e);
      each = λ j x e.
          ⊎_elim (λ (h : get_elem? s.views j ≡ some x). r.each j x h) (λ (h : (j ≡ length s.views) × (u ≡ x)). subst (λ (y : View M E). Knows start r.tickets r.log y) h.1 knows_new)
          (at_end s.views u x j e);
      apart = λ i j n x y ex ey hx hy.
          ⊎_elim
          (λ (a : get_elem? s.views i ≡ some x).
          ⊎_elim (λ (b : get_elem? s.views j ≡ some y). r.apart i j n x y a b hx hy)
          (λ (b : (j ≡ length s.views) × (u ≡ y)). absurd (idle_holds y.stage n (ap (λ (z : View M E). z.stage) (sym b.1) ∙ idle) hy)) (at_end s.views u y j ey))
          (λ (a : (i ≡ length s.views) × (u ≡ x)). absurd (idle_holds x.stage n (ap (λ (z : View M E). z.stage) (sym a.1) ∙ idle) hx)) (at_end s.views u x i ex);
      named = named_longer s.views u u.own v.own k id 0 members_alone name_is by below new r.named;
      listed = listed_longer s.views u u.own v.own k id 0 members_alone name_is by below new r.log (ap (λ (o : Own E). o.mine) own_is) r.listed;
    }

  -- the name of the seat that is split off is new
  new_name : (s : Table) (id : ℕ) (v : View M E) (m : M) (r : Rule s) → get_elem? s.views id ≡ some v → v.start ≡ Some m → (i a : ℕ) (o : Own E) → At (set s.views id (parting v)) i a o → o.name ≢ v.own.splits ∷ v.own.name
  new_name s id v m r at started i a o x e =
      let w = parting v in
      let was = was_at s.views id v w v.own w.own v.joined at (members_are v m started) (members_are w m started) refl i a o x in
      let p = r.named.parent i a v.own.splits v.own.name was.0 was.1.0 (was.1.1.0 ∙ e) in
      let mine : At s.views id 0 v.own = (v, at, subst (λ (l : List (Own E)). get_elem? l 0 ≡ some v.own) (sym (members_are v m started)) refl) in
      let same_place = place_of s.views r.named p.0 p.1 id 0 p.2 v.own p.3 mine p.4 in
      let same_seat : p.2 ≡ v.own = at_one s.views p.0 p.1 id 0 p.2 v.own same_place.0 same_place.1 p.3 mine in
      let lt : v.own.splits < v.own.splits = subst (λ (q : Own E). v.own.splits < q.splits) same_seat p.5 in
      omega (arith, lt)

  pub splits : (id : ℕ) (v : View M E) (m : M) → v.stage ≡ Idle → v.start ≡ Some m → Splits Rule id v (parting v) (newcomer v)
  splits id v m idle started s r at =
      let w = parting v in
      let knows = r.each id v at in
      let before = members_are v m started in
      let after = members_are w m started in
      let listed =
      listed_after s.views id v w v.own w.own v.joined at before after refl r.log r.log r.named r.listed (own_mine s.views r.log id v m r.listed at started) (λ name ne. refl) in
      let r' =
      replaced s id v w r at idle idle (record { seen = knows.seen; told = knows.told; turn = knows.turn; start_is = knows.start_is; spent = knows.spent })
      (named_after s.views id v w v.own w.own v.joined at before after refl (omega arith) r.named) listed in
      lengthened (record { words = s.words; homes = s.homes; views = set s.views id w }) id v.own.splits w (newcomer v) m r' (set_here s.views id w (at_below s.views id v at)) started started refl refl refl refl refl (omega arith)
      (new_name s id v m r at started)

  -- ---- join

  pub joins : (id other : ℕ) (v w : View M E) (m n : M) → v.stage ≡ Idle → v.start ≡ Some m → w.stage ≡ Idle → w.start ≡ Some n → Joins Rule id v other w (joining v w) spent_view
  joins id other v w m n idle started idle' started' s r at ne at_other =
      let both = joining v w in
      let at_w : get_elem? s.views other ≡ some w = sym (set_else s.views id other both ne) ∙ at_other in
      let kv = r.each id v at in
      let kw = r.each other w at_w in
      let both_is : members both ≡ members v ++ members w =
      members_are both m started ∙ (ap (λ (l : List (Own E)). l ++ w.own ∷ w.joined) (sym (members_are v m started)) ∙ ap (λ (l : List (Own E)). members v ++ l) (sym (members_are w n started'))) in
      let s1 : Table = record { words = s.words; homes = s.homes; views = set s.views id both } in
      record {
        tickets = r.tickets;
        log = r.log;
        words = r.words;
        ahead = r.ahead;
        below = r.below;
        legal = r.legal;
        home = home_after stands follows start s1 s.words other w spent_view r.log (home_after stands follows start s s.words id v both r.log r.home at idle) at_other idle';
        out = λ j u t e working.
            ⊎_elim (λ (h : (j ≡ other) × (spent_view ≡ u)). absurd (not_working u t (ap (λ (x : View M E). x.stage) (sym h.1)) working))
            (λ (h : (j ≢ other) × (get_elem? (set s.views id both) j ≡ some u)).
            ⊎_elim (λ (g : (j ≡ id) × (both ≡ u)). absurd (not_working u t (ap (λ (x : View M E). x.stage) (sym g.1) ∙ idle) working))
            (λ (g : (j ≢ id) × (get_elem? s.views j ≡ some u)). r.out j u t g.1 working) (at_set s.views id j both u h.1))
            (at_set (set s.views id both) other j spent_view u e);
        each = λ j u e.
            ⊎_elim
            (λ (h : (j ≡ other) × (spent_view ≡ u)).
            subst (λ (x : View M E). Knows start r.tickets r.log x) h.1
            (record { seen = (r.log, refl); told = ([], refl); turn = tt; start_is = λ x no_start. absurd (some_none x (sym no_start)); spent = λ gone. refl }))
            (λ (h : (j ≢ other) × (get_elem? (set s.views id both) j ≡ some u)).
            ⊎_elim
            (λ (g : (j ≡ id) × (both ≡ u)).
            subst (λ (x : View M E). Knows start r.tickets r.log x) g.1 (record {
              seen = longer_begins r.log v.seen w.seen kv.seen kw.seen;
              told = shorter_begins r.log v.seen w.seen kv.seen kw.seen;
              turn = subst (λ (q : Stage). Stands r.tickets r.log both.seen q) (sym idle) tt;
              start_is = kv.start_is;
              spent = kv.spent;
            }))
            (λ (g : (j ≢ id) × (get_elem? s.views j ≡ some u)). r.each j u g.1) (at_set s.views id j both u h.1))
            (at_set (set s.views id both) other j spent_view u e);
        apart = apart_after (set s.views id both) other spent_view (λ j u t e hw hu. absurd hw)
            (apart_after s.views id both (λ j u t e hw hu. absurd (idle_holds both.stage t idle hw)) r.apart);
        named = named_joined s.views id other v w both spent_view at at_w ne both_is refl r.named;
        listed = listed_joined s.views id other v w both spent_view at at_w ne both_is refl r.log r.listed;
      }

  abbrev AfterCompare : Table → ℕ → Sat → (ℕ → Sat → Type 0) → List ℕ → Type 0
  AfterCompare s id me then words =
      (w : View M E) × (a : Act (Option (Kept M E))) × Valid s.homes me.1 a
      × Rule (record { words = slice_set words 0 (slice_index words 0); homes = homes_after s.homes me.1 a; views = slice_set s.views id w })
      × then (slice_index words 0) (w, carried_after me.1 a)

  pub compares : (slots id : ℕ) (me : Sat) (m : M) → me.0.stage ≡ Idle → me.0.start ≡ Some m → Allows Rule slots id me 0 (λ n. n) (learned stands follows (step slots 0 0 0 none) me)
  compares slots id me m idle started s r long at fits =
      let v = me.0 in
      let w = compared v in
      let knows = r.each id v at in
      let after =
      replaced s id v w r at idle idle (record { seen = knows.seen; told = (v.seen, refl); turn = knows.turn; start_is = knows.start_is; spent = knows.spent }) (named_same s.views id v w m at started started refl refl r.named)
      (listed_same s.views r.log id v w m at started started refl refl r.named r.listed) in
      subst (AfterCompare s id me (learned stands follows (step slots 0 0 0 none) me)) (sym r.words)
      (w, keeps, tt, subst (λ (ws : List ℕ). Rule (record { words = ws; homes = s.homes; views = set s.views id w })) r.words after, (knows.told, (refl, refl)))

  pub joined : (v w : View M E) (me me1 me2 : Sat) → me.0 ≡ v → me1 ≡ (joining me.0 w, me.1) → StartsWith me1.0.seen me1.0.told × ((me2.0 ≡ compared me1.0) × (me2.1 ≡ me1.1)) → (t t' t'' : TableId) → Joined (state t v) (state t' w) (state t'' me2.0)
  joined v w me me1 me2 is at_join told t t' t'' =
      let one : me1.0 ≡ joining v w = ap (λ (m : Sat). m.0) at_join ∙ ap (λ (u : View M E). joining u w) is in
      let two : me2.0 ≡ compared (joining v w) = told.1.0 ∙ ap compared one in
      let begins : StartsWith (longer v.seen w.seen) (shorter v.seen w.seen) = subst (λ (u : View M E). StartsWith u.seen u.told) one told.0 in
      let both = longer_is v.seen w.seen begins in
      let sees : me2.0.seen ≡ longer v.seen w.seen = ap (λ (u : View M E). u.seen) two in
      record {
        one_of = ⊎_elim (λ h. inl (sees ∙ h)) (λ h. inr (sees ∙ h)) both.0;
        begins = subst (λ l. StartsWith l v.seen) (sym sees) both.1.0;
        begins_other = subst (λ l. StartsWith l w.seen) (sym sees) both.1.1;
        own = ap (λ (u : View M E). u.own) two;
        joined = ap (λ (u : View M E). u.joined) two;
      }

  abbrev Told : Sat → Sat → Type 0
  Told me1 me2 = StartsWith me1.0.seen me1.0.told × ((me2.0 ≡ compared me1.0) × (me2.1 ≡ me1.1))

  pub joined_rests : (w : View M E) (me me1 me2 : Sat) → IsResting me → me1 ≡ (joining me.0 w, me.1) → Told me1 me2 → IsResting me2
  joined_rests w me me1 me2 rests at_join told =
      let one = ap (λ (m : Sat). m.0.stage) at_join in
      (ap (λ (u : View M E). u.stage) told.1.0 ∙ (one ∙ rests.0), (told.1.1 ∙ (ap (λ (m : Sat). m.1) at_join ∙ rests.1.0), ap (λ (u : View M E). u.told) told.1.0))

  pub joined_started : (w : View M E) (me me1 me2 : Sat) (m : M) → me.0.start ≡ Some m → me1 ≡ (joining me.0 w, me.1) → Told me1 me2 → me2.0.start ≡ Some m
  joined_started w me me1 me2 m started at_join told = ap (λ (u : View M E). u.start) told.1.0 ∙ (ap (λ (x : Sat). x.0.start) at_join ∙ started)

  -- what is seen of a place is what is seen of its view
  pub same_state : (t t' : TableId) (v v' : View M E) → t' ≡ t → v' ≡ v → state t' v' ≡ state t v
  same_state t t' v v' e f = ap (λ (x : TableId). state x v') e ∙ ap (λ (x : View M E). state t x) f

  -- ---- close

  module _ (s : Table) (id : ℕ) (v : View M E) (r : Rule s) (at : get_elem? s.views id ≡ some v) (m : M) (started : v.start ≡ Some m) (back : AllBack (v.own ∷ v.joined)) where
    abbrev crew : List (Own E)
    crew = v.own ∷ v.joined

    in_crew : (a : ℕ) (o : Own E) → get_elem? crew a ≡ some o → At s.views id a o
    in_crew a o e = (v, at, subst (λ (l : List (Own E)). get_elem? l a ≡ some o) (sym (members_are v m started)) e)

    -- every name is one of those that came back
    everyone : (name : List ℕ) (i a : ℕ) (o : Own E) → At s.views i a o → o.name ≡ name → IsNamed name crew
    everyone [] i a o x e = back.first
    everyone (k ∷ n) i a o x e =
        let p = r.named.parent i a k n o x e in
        let here = any_at (λ (q : Own E). q.name ≡ n) crew (everyone n p.0 p.1 p.2 p.3 p.4) in
        let there : At s.views id here.0 here.1.0 = in_crew here.0 here.1.0 here.1.1.0 in
        let same_place = place_of s.views r.named p.0 p.1 id here.0 p.2 here.1.0 p.3 there (p.4 ∙ sym here.1.1.1) in
        let same_seat : p.2 ≡ here.1.0 = at_one s.views p.0 p.1 id here.0 p.2 here.1.0 same_place.0 same_place.1 p.3 there in
        let children = each_at (λ (q : Own E). (j : ℕ) → j < q.splits → IsNamed (j ∷ q.name) crew) crew here.0 here.1.0 back.split here.1.1.0 in
        subst (λ (l : List ℕ). IsNamed (k ∷ l) crew) here.1.1.1 (children k (subst (λ (q : Own E). k < q.splits) same_seat p.5))

    only_here : (i a : ℕ) (o : Own E) → At s.views i a o → i ≡ id
    only_here i a o x =
        let here = any_at (λ (q : Own E). q.name ≡ o.name) crew (everyone o.name i a o x refl) in
        (place_of s.views r.named i a id here.0 o here.1.0 x (in_crew here.0 here.1.0 here.1.1.0) (sym here.1.1.1)).0

    at_home : v.stage ≡ Idle → (k : Kept M E) × (s.homes ≡ some (Some k) ∷ []) × (items_of k.history ≡ unnamed r.log) × stands start k.machine (entries r.log)
    at_home idle =
        elim r.home [
          | inl h ↦ h
          | inr h ↦
              let u = h.2 in
              absurd
              (⊎_elim (λ (gone : u.start ≡ None). not_working u (length r.log) ((r.each h.1 u h.3).spent gone) h.4)
              (λ (q : (q : M) × (u.start ≡ Some q)).
              let there : At s.views h.1 0 u.own = (u, h.3, subst (λ (l : List (Own E)). get_elem? l 0 ≡ some u.own) (sym (members_are u q.0 q.1)) refl) in
              let same_id = only_here h.1 0 u.own there in
              let same_view : u ≡ v = some-injective u v (sym h.3 ∙ (ap (λ (j : ℕ). get_elem? s.views j) same_id ∙ at)) in
              not_working u (length r.log) (ap (λ (x : View M E). x.stage) same_view ∙ idle) h.4) (none_or_some u.start))
        ]

    closed : (table : TableId) (k : Kept M E) → items_of k.history ≡ unnamed r.log → stands start k.machine (entries r.log) → Closed stands follows start (state table v) k.machine (items_of k.history)
    closed table k items kept = record {
      log = r.log;
      items_are = items;
      seen = (r.each id v at).seen;
      legal = r.legal;
      stands_for = kept;
      mine = at_each (λ (o : Own E). entries_by o.name r.log ≡ o.mine) crew (λ a o e. r.listed.mine id a o (in_crew a o e));
      others = λ name nobody. r.listed.others name (λ i a o x e. nobody (everyone name i a o x e));
    }

  pub closes : (table : TableId) (id : ℕ) (v : View M E) (m : M) (words : List ℕ) (slots : List (Option (Kept M E))) → v.stage ≡ Idle → v.start ≡ Some m → AllBack (v.own ∷ v.joined) → Final (Seen Rule id v) words slots
      → (k : Kept M E) × ((get_elem? slots 0 ≡ some (Some k)) × Closed stands follows start (state table v) k.machine (items_of k.history))
  closes table id v m words slots idle started back f =
      let s = f.0 in
      let r = (f.1).0 in
      let at = (f.1).1 in
      let h = at_home s id v r at m started back idle in
      (h.0, (f.4 0 (Some h.0) (ap (λ hs. get_elem? hs 0) h.1), closed s id v r at m started back table h.0 h.2 h.3))

  -- what was taken out of the slot
  pub taken_out : (table : TableId) (v : View M E) (slots : List (Option (Kept M E))) (r : Option (Kept M E)) (kept : Kept M E) → (k : Kept M E) × ((get_elem? slots 0 ≡ some (Some k)) × Closed stands follows start (state table v) k.machine (items_of k.history))
      → get_elem? slots 0 ≡ some r → r ≡ Some kept → Closed stands follows start (state table v) kept.machine (items_of kept.history)
  taken_out table v slots r kept k at is =
      let out : Some k.0 ≡ Some kept = some-injective (Some k.0) (Some kept) (sym k.1.0 ∙ (at ∙ ap some is)) in
      subst (λ (x : Kept M E). Closed stands follows start (state table v) x.machine (items_of x.history)) (some_same k.0 kept out) k.1.1

  some_not_none : (k : Kept M E) (r : Option (Kept M E)) → ◌≡◌ {A = Maybe (Option (Kept M E))} (some (Some k)) (some r) → r ≡ None → ⊥
  some_not_none k r e gone = some_none k (some-injective (Some k) r e ∙ gone)

  pub not_empty : (table : TableId) (v : View M E) (slots : List (Option (Kept M E))) (r : Option (Kept M E)) → (k : Kept M E) × ((get_elem? slots 0 ≡ some (Some k)) × Closed stands follows start (state table v) k.machine (items_of k.history)) → get_elem? slots 0 ≡ some r → r ≡ None → ⊥
  not_empty table v slots r k at gone = some_not_none k.0 r (sym k.1.0 ∙ at) gone
