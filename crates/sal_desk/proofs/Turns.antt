-- The steps of a turn keep the desk's rule: a ticket is drawn, the seat looks whether its turn has come, and the turn ends.
use Rattle.std.proofs.Common.{◌≡◌, ◌≢◌, ℕ, ◌+◌, ◌%◌, ◌<◌, ◌^◌, List, [], ◌∷◌, ◌++◌, length, Option, Some, None, Bool, true, false, eqb, set, refl, sym, ap, ◌∙◌, subst, inl, inr, ⊎_elim, arith, slice_index, slice_set, zero, suc, length-append, lit≤}
use Rattle.std.proofs.lemmas.List.{append-nil}
use Rattle.std.proofs.Math.Nat.{mod-eq_of_lt}
use Rattle.std.proofs.lemmas.Bool.Decides.{nat_tests}
use mathlib.Core.Option.{Option as Maybe, none, some, some-injective, some-ne-none}
use lib.ListN.{get_elem?}
use prog.Atomic.{either}
use Rattle.atomic_table.specs.Table.{State, Me, Act, keeps, takes, gives, Allows, step, Valid, homes_after, carried_after, put_back, rest, opening}
use Rattle.atomic_table.proofs.Lists.{at_set, set_here, set_else, set_again}
use Rattle.sal_desk.specs.declared.view.Stage.{Stage}
use Rattle.sal_desk.specs.declared.view.Stage.TheVariants.{Idle, Waiting, Working}
use Rattle.sal_desk.specs.declared.view.Item.{Item}
use Rattle.sal_desk.specs.declared.view.Own.{Own}
use Rattle.sal_desk.specs.declared.view.View.{View}
use Rattle.sal_desk.specs.declared.view.Kept.{Kept}
use Rattle.sal_desk.specs.Stored.{items_of}
use Rattle.sal_desk.specs.Histories.{item_of, listed, unnamed, entries, entries_by, Legal}
use Rattle.sal_desk.specs.Desk.{Holds, Stands, Knows, Named, ListedAll, Home, Ruled, HasTurn, members, At, first_view, staged, at_work, after_turn, drawn, looked, finished}
use Rattle.sal_desk.proofs.Items.{at_below, begins_itself, begins_longer, last_same, legal_more, unnamed_more, entries_more, own_more, others_same}
use Rattle.sal_desk.proofs.Names.{members_are, named_after, listed_after}

-- a seat that holds a ticket holds one that was drawn
holds_drawn : {E : Type 0} (tickets : ℕ) (log : List (Item E)) (stage : Stage) (seen : List (Item E)) (t : ℕ) → Stands tickets log seen stage → Holds stage t → t < tickets
holds_drawn tickets log Idle seen t k h = absurd h
holds_drawn tickets log (Waiting n) seen t k h = let lt = k.1 in omega (arith, h, lt)
holds_drawn tickets log (Working n) seen t k h = let lt = k.1 in omega (arith, h, lt)

-- one more ticket
more_tickets : {E : Type 0} (tickets : ℕ) (log : List (Item E)) (seen : List (Item E)) (stage : Stage) → Stands tickets log seen stage → Stands (tickets + 1) log seen stage
more_tickets tickets log seen Idle k = tt
more_tickets tickets log seen (Waiting n) k = let lt = k.1 in (k.0, omega (arith, lt))
more_tickets tickets log seen (Working n) k = let lt = k.1 in (k.0, omega (arith, lt), k.2)

pub idle_holds : (stage : Stage) (t : ℕ) → stage ≡ Idle → Holds stage t → ⊥
idle_holds stage t e h = subst (λ (s : Stage). Holds s t) e h

pub working_holds : (stage : Stage) (t : ℕ) → stage ≡ Working t → Holds stage t
working_holds stage t e = subst (λ (s : Stage). Holds s t) (sym e) refl

waiting_holds : (stage : Stage) (t : ℕ) → stage ≡ Waiting t → Holds stage t
waiting_holds stage t e = subst (λ (s : Stage). Holds s t) (sym e) refl

waiting_working : (t n : ℕ) → Waiting t ≡ Working n → ⊥
waiting_working t n e = cc

waiting_idle : (t : ℕ) → Waiting t ≡ Idle → ⊥
waiting_idle t e = cc

pub working_idle : (t : ℕ) → Working t ≡ Idle → ⊥
working_idle t e = cc

pub some_none : {A : Type 0} (a : A) → ◌≡◌ {A = Option A} (Some a) None → ⊥
some_none a e = cc

pub some_same : {A : Type 0} (a b : A) → ◌≡◌ {A = Option A} (Some a) (Some b) → a ≡ b
some_same a b e = cc

module _ {M E : Type 0} where
  pub Apart : List (View M E) → Type 0
  Apart views = (i j t : ℕ) (u v : View M E) → get_elem? views i ≡ some u → get_elem? views j ≡ some v → Holds u.stage t → Holds v.stage t → i ≡ j

  -- tickets stay apart where the new view holds none that another holds
  pub apart_after : (views : List (View M E)) (id : ℕ) (w : View M E) → ((j : ℕ) (u : View M E) (n : ℕ) → get_elem? views j ≡ some u → Holds w.stage n → Holds u.stage n → j ≡ id)
      → ((i j t : ℕ) (u v : View M E) → get_elem? views i ≡ some u → get_elem? views j ≡ some v → Holds u.stage t → Holds v.stage t → i ≡ j)
      → (i j t : ℕ) (u v : View M E) → get_elem? (set views id w) i ≡ some u → get_elem? (set views id w) j ≡ some v → Holds u.stage t → Holds v.stage t → i ≡ j
  apart_after views id w alone apart i j n u x eu ex hu hx =
      ⊎_elim
      (λ (a : (i ≡ id) × (w ≡ u)).
      ⊎_elim (λ (b : (j ≡ id) × (w ≡ x)). a.0 ∙ sym b.0)
      (λ (b : (j ≢ id) × (get_elem? views j ≡ some x)). absurd (b.0 (alone j x n b.1 (subst (λ (y : View M E). Holds y.stage n) (sym a.1) hu) hx)))
      (at_set views id j w x ex))
      (λ (a : (i ≢ id) × (get_elem? views i ≡ some u)).
      ⊎_elim (λ (b : (j ≡ id) × (w ≡ x)). absurd (a.0 (alone i u n a.1 (subst (λ (y : View M E). Holds y.stage n) (sym b.1) hx) hu)))
      (λ (b : (j ≢ id) × (get_elem? views j ≡ some x)). apart i j n u x a.1 b.1 hu hx) (at_set views id j w x ex))
      (at_set views id i w u eu)

  -- a seat's own entries
  pub own_mine : (views : List (View M E)) (log : List (Item E)) (id : ℕ) (v : View M E) (m : M) → ListedAll views log → get_elem? views id ≡ some v → v.start ≡ Some m → entries_by v.own.name log ≡ v.own.mine
  own_mine views log id v m all at started = all.mine id 0 v.own (v, at, subst (λ (l : List (Own E)). get_elem? l 0 ≡ some v.own) (sym (members_are v m started)) refl)

  -- names and lists where one view changes, and its own part doesn't
  pub named_same : (views : List (View M E)) (id : ℕ) (v w : View M E) (m : M) → get_elem? views id ≡ some v → v.start ≡ Some m → w.start ≡ Some m → w.own ≡ v.own → w.joined ≡ v.joined → Named views → Named (set views id w)
  named_same views id v w m at started started' own joined named =
      named_after views id v w v.own w.own v.joined at (members_are v m started) (members_are w m started' ∙ ap (λ (l : List (Own E)). w.own ∷ l) joined) (ap (λ (o : Own E). o.name) own)
      (let e = ap (λ (o : Own E). o.splits) own in omega (arith, e)) named

  pub listed_same : (views : List (View M E)) (log : List (Item E)) (id : ℕ) (v w : View M E) (m : M) → get_elem? views id ≡ some v → v.start ≡ Some m → w.start ≡ Some m → w.own ≡ v.own → w.joined ≡ v.joined → Named views → ListedAll views log
      → ListedAll (set views id w) log
  listed_same views log id v w m at started started' own joined named all =
      listed_after views id v w v.own w.own v.joined at (members_are v m started) (members_are w m started' ∙ ap (λ (l : List (Own E)). w.own ∷ l) joined) (ap (λ (o : Own E). o.name) own) log log named all
      (own_mine views log id v m all at started ∙ ap (λ (o : Own E). o.mine) (sym own)) (λ name ne. refl)

module _ {M E : Type 0} (stands : M → M → List E → Type 0) (follows : M → List E → E → Type 0) (start : M) where
  abbrev Table : Type 0
  Table = State (Option (Kept M E)) (View M E)

  abbrev Sat : Type 0
  Sat = Me (Option (Kept M E)) (View M E)

  abbrev Rule : Table → Type 0
  Rule = Ruled stands follows start

  abbrev Homes : Type 0
  Homes = List (Maybe (Option (Kept M E)))

  idle_working : (v u : View M E) (n : ℕ) → v.stage ≡ Idle → u.stage ≡ Working n → v ≡ u → ⊥
  idle_working v u n idle working same_view = idle_holds u.stage n (ap (λ (x : View M E). x.stage) (sym same_view) ∙ idle) (working_holds u.stage n working)

  pub home_after : (s : Table) (words : List ℕ) (id : ℕ) (v w : View M E) (log : List (Item E)) → Home stands follows start s log → get_elem? s.views id ≡ some v → v.stage ≡ Idle
      → Home stands follows start (record { words = words; homes = s.homes; views = set s.views id w }) log
  home_after s words id v w log home at idle =
      elim home [
        | inl h ↦ inl h
        | inr h ↦
            let ne : h.1 ≢ id = λ e. idle_working v h.2 (length log) idle h.4 (some-injective v h.2 (sym at ∙ (ap (λ (k : ℕ). get_elem? s.views k) (sym e) ∙ h.3))) in
            inr (h.0, h.1, h.2, set_else s.views id h.1 w ne ∙ h.3, h.4)
      ]

  -- ---- draw

  drawn_ruled : (s : Table) (id t : ℕ) (v : View M E) (m : M) (r : Rule s) → get_elem? s.views id ≡ some v → v.stage ≡ Idle → v.start ≡ Some m → r.tickets ≡ t → t < 2 ^ 63
      → Rule (record { words = (t + 1) ∷ length r.log ∷ []; homes = s.homes; views = set s.views id (staged (Waiting t) v) })
  drawn_ruled s id t v m r at idle started same_ticket below =
      let w = staged (Waiting t) v in
      let ahead = r.ahead in
      let knows = r.each id v at in
      let not_at : (j : ℕ) (u : View M E) → get_elem? s.views j ≡ some u → Holds u.stage t → ⊥ =
      (λ j u e h. let lt = holds_drawn r.tickets r.log u.stage u.seen t (r.each j u e).turn h in absurd (omega (arith, lt, same_ticket))) in
      record {
        tickets = t + 1;
        log = r.log;
        words = refl;
        ahead = omega (arith, ahead, same_ticket);
        below = omega (arith, below);
        legal = r.legal;
        home = home_after s ((t + 1) ∷ length r.log ∷ []) id v w r.log r.home at idle;
        each = λ j u e.
            ⊎_elim
            (λ (h : (j ≡ id) × (w ≡ u)).
            subst (λ (x : View M E). Knows start (t + 1) r.log x) h.1 (record {
              seen = knows.seen;
              told = knows.told;
              turn = (omega (arith, ahead, same_ticket), omega arith);
              start_is = knows.start_is;
              spent = λ gone. absurd (some_none m (sym started ∙ gone));
            }))
            (λ (h : (j ≢ id) × (get_elem? s.views j ≡ some u)).
            let k = r.each j u h.1 in
            record { seen = k.seen; told = k.told; turn = subst (λ (n : ℕ). Stands (n + 1) r.log u.seen u.stage) same_ticket (more_tickets r.tickets r.log u.seen u.stage k.turn); start_is = k.start_is; spent = k.spent })
            (at_set s.views id j w u e);
        out = λ j u n e working.
            ⊎_elim (λ (h : (j ≡ id) × (w ≡ u)). absurd (waiting_working t n (ap (λ (x : View M E). x.stage) h.1 ∙ working)))
            (λ (h : (j ≢ id) × (get_elem? s.views j ≡ some u)). r.out j u n h.1 working) (at_set s.views id j w u e);
        apart = apart_after s.views id w (λ j u n e hw hu. absurd (not_at j u e (subst (λ (k : ℕ). Holds u.stage k) (sym hw) hu))) r.apart;
        named = named_same s.views id v w m at started started refl refl r.named;
        listed = listed_same s.views r.log id v w m at started started refl refl r.named r.listed;
      }

  abbrev After : Table → ℕ → Sat → (ℕ → ℕ) → (ℕ → Sat → Type 0) → List ℕ → Type 0
  After s id me f then words =
      (w : View M E) × (a : Act (Option (Kept M E))) × Valid s.homes me.1 a
      × Rule (record { words = slice_set words 0 (f (slice_index words 0)); homes = homes_after s.homes me.1 a; views = slice_set s.views id w })
      × then (slice_index words 0) (w, carried_after me.1 a)

  pub draws : (slots id t : ℕ) (me : Sat) (m : M) → me.0.stage ≡ Idle → me.0.start ≡ Some m → t < 2 ^ 63
      → Allows Rule slots id me 0 (λ n. either (eqb n t) (t + 1) n) (drawn stands follows (step slots 0 t (t + 1) none) me)
  draws slots id t me m idle started below s r long at fits =
      subst (After s id me (λ n. either (eqb n t) (t + 1) n) (drawn stands follows (step slots 0 t (t + 1) none) me)) (sym r.words) (go (eqb r.tickets t) refl)
    where
      go : (b : Bool) → eqb r.tickets t ≡ b → After s id me (λ n. either (eqb n t) (t + 1) n) (drawn stands follows (step slots 0 t (t + 1) none) me) (r.tickets ∷ length r.log ∷ [])
      go true e =
          let same_ticket : r.tickets ≡ t = grind (arith, nat_tests) in
          (staged (Waiting t) me.0, keeps, tt, rw e (drawn_ruled s id t me.0 m r at idle started same_ticket below), rw e (rw same_ticket (refl, refl)))
      go false e = (me.0, keeps, tt, rw e (rw (← r.words) (rw (set_again s.views id me.0 at) r)), rw e refl)

  -- ---- look

  -- the seat holds the next ticket, so no other is at work, and the slot is at home
  kept_at_home : (s : Table) (id t : ℕ) (v : View M E) (r : Rule s) → get_elem? s.views id ≡ some v → v.stage ≡ Waiting t → length r.log ≡ t
      → (k : Kept M E) × (s.homes ≡ some (Some k) ∷ []) × (items_of k.history ≡ unnamed r.log) × stands start k.machine (entries r.log)
  kept_at_home s id t v r at waiting turn =
      elim r.home [
        | inl h ↦ h
        | inr h ↦
            let same_id : h.1 ≡ id = r.apart h.1 id t h.2 v h.3 at (subst (λ (g : Stage). Holds g t) (sym h.4) turn) (waiting_holds v.stage t waiting) in
            let view_is : h.2 ≡ v = some-injective h.2 v (sym h.3 ∙ (ap (λ (k : ℕ). get_elem? s.views k) same_id ∙ at)) in
            absurd (waiting_working t (length r.log) (sym waiting ∙ (ap (λ (x : View M E). x.stage) (sym view_is) ∙ h.4)))
      ]

  looked_ruled : (s : Table) (id t : ℕ) (v : View M E) (m : M) (r : Rule s) → get_elem? s.views id ≡ some v → v.stage ≡ Waiting t → v.start ≡ Some m → length r.log ≡ t
      → Rule (record { words = r.tickets ∷ length r.log ∷ []; homes = none ∷ []; views = set s.views id (at_work t r.log v) })
  looked_ruled s id t v m r at waiting started turn =
      let w = at_work t r.log v in
      let knows = r.each id v at in
      let mine : Stands r.tickets r.log v.seen (Waiting t) = subst (λ (g : Stage). Stands r.tickets r.log v.seen g) waiting knows.turn in
      record {
        tickets = r.tickets;
        log = r.log;
        words = refl;
        ahead = r.ahead;
        below = r.below;
        legal = r.legal;
        home = inr (refl, id, w, set_here s.views id w (at_below s.views id v at), ap Working (sym turn));
        out = λ j u n e working. refl;
        each = λ j u e.
            ⊎_elim
            (λ (h : (j ≡ id) × (w ≡ u)).
            subst (λ (x : View M E). Knows start r.tickets r.log x) h.1 (record {
              seen = begins_itself r.log;
              told = (r.log, refl);
              turn = (sym turn, mine.1, refl);
              start_is = knows.start_is;
              spent = λ gone. absurd (some_none m (sym started ∙ gone));
            }))
            (λ (h : (j ≢ id) × (get_elem? s.views j ≡ some u)). r.each j u h.1) (at_set s.views id j w u e);
        apart = apart_after s.views id w (λ j u n e hw hu. r.apart j id n u v e at hu (subst (λ (g : Stage). Holds g n) (sym waiting) hw)) r.apart;
        named = named_same s.views id v w m at started started refl refl r.named;
        listed = listed_same s.views r.log id v w m at started started refl refl r.named r.listed;
      }

  abbrev AfterLook : Table → ℕ → Sat → (ℕ → Sat → Type 0) → List ℕ → Type 0
  AfterLook s id me then words =
      (w : View M E) × (a : Act (Option (Kept M E))) × Valid s.homes me.1 a
      × Rule (record { words = slice_set words 1 (slice_index words 1); homes = homes_after s.homes me.1 a; views = slice_set s.views id w })
      × then (slice_index words 1) (w, carried_after me.1 a)

  -- what a seat has whose turn has come
  has_turn : (s : Table) (id t : ℕ) (v : View M E) (m : M) (r : Rule s) (k : Kept M E) (slot : List (ℕ × Option (Kept M E))) → get_elem? s.views id ≡ some v → v.stage ≡ Waiting t → v.start ≡ Some m → length r.log ≡ t
      → items_of k.history ≡ unnamed r.log → stands start k.machine (entries r.log) → slot ≡ (0, Some k) ∷ []
      → HasTurn stands follows m t v (at_work t r.log v, slot)
  has_turn s id t v m r k slot at waiting started turn items kept slot_is =
      let knows = r.each id v at in
      let mine : Stands r.tickets r.log v.seen (Waiting t) = subst (λ (g : Stage). Stands r.tickets r.log v.seen g) waiting knows.turn in
      let lt = mine.1 in let below = r.below in
      let start_is : start ≡ m = sym (knows.start_is m started) in
      record {
        kept = k;
        log = r.log;
        view_is = refl;
        slot = slot_is;
        seen = knows.seen;
        long = turn;
        small = omega (arith, lt, below);
        items = items;
        stands_for = subst (λ (x : M). stands x k.machine (entries r.log)) start_is kept;
        legal = subst (λ (x : M). Legal (follows x) (entries r.log)) start_is r.legal;
        mine = own_mine s.views r.log id v m r.listed at started;
      }

  pub looks : (slots id t : ℕ) (me : Sat) → me.0.stage ≡ Waiting t → (m : M) → me.0.start ≡ Some m → me.1 ≡ []
      → Allows Rule slots id me 1 (λ n. n) (looked stands follows (step slots 1 0 0 none) me)
  looks slots id t me waiting m0 started0 free s r long at fits =
      subst (AfterLook s id me (looked stands follows (step slots 1 0 0 none) me)) (sym r.words) (go (eqb (length r.log) t) refl)
    where
      ticket_is : (n : ℕ) → me.0.stage ≡ Waiting n → t ≡ n
      ticket_is n e = let h : Waiting t ≡ Waiting n = sym waiting ∙ e in cc

      go : (b : Bool) → eqb (length r.log) t ≡ b → AfterLook s id me (looked stands follows (step slots 1 0 0 none) me) (r.tickets ∷ length r.log ∷ [])
      go true e =
          let turn : length r.log ≡ t = grind (arith, nat_tests) in
          let h = kept_at_home s id t me.0 r at waiting turn in (
            at_work t r.log me.0,
            takes 0 (Some h.0),
            ap (λ hs. get_elem? hs 0) h.1,
            subst (λ (hs : Homes). Rule (record { words = r.tickets ∷ length r.log ∷ []; homes = slice_set hs 0 none; views = set s.views id (at_work t r.log me.0) })) (sym h.1)
                (looked_ruled s id t me.0 m0 r at waiting started0 turn),
            (λ m n started was.
                rw (← ticket_is n was)
                (rw e (has_turn s id t me.0 m r h.0 ((0, Some h.0) ∷ me.1) at waiting started turn h.2 h.3 (ap (λ l. (0, Some h.0) ∷ l) free)))),
          )
      go false e = (me.0, keeps, tt, rw (← r.words) (rw (set_again s.views id me.0 at) r), λ m n started was. rw (← ticket_is n was) (rw e refl))

  -- ---- finish

  later : (tickets id t j : ℕ) (log : List (Item E)) (item : Item E) (seen : List (Item E)) (stage : Stage) → Stands tickets log seen stage → length log ≡ t → ((n : ℕ) → Holds stage n → n ≢ t)
      → Stands tickets (log ++ item ∷ []) seen stage
  later tickets id t j log item seen Idle k turn apart = tt
  later tickets id t j log item seen (Waiting n) k turn apart =
      let le = k.0 in let ne : n ≢ t = apart n refl in
      let long = length-append log (item ∷ []) in
      (omega (arith, le, ne, long, turn), k.1)
  later tickets id t j log item seen (Working n) k turn apart = absurd (apart n refl (k.0 ∙ turn))

  finished_ruled : (s : Table) (id t : ℕ) (v : View M E) (m : M) (made : Option E) (k : Kept M E) (r : Rule s) → get_elem? s.views id ≡ some v → v.stage ≡ Working t → v.start ≡ Some m
      → v.seen ≡ r.log → items_of k.history ≡ unnamed r.log ++ made ∷ [] → ((e : E) → made ≡ Some e → follows start (entries r.log) e) → stands start k.machine (entries r.log ++ listed made)
      → Rule (record { words = r.tickets ∷ (length r.log + 1) ∷ []; homes = some (Some k) ∷ []; views = set s.views id (after_turn made v) })
  finished_ruled s id t v m made k r at working started seen items may kept =
      let w = after_turn made v in
      let name = v.own.name in
      let item = item_of name made in
      let log = r.log ++ item ∷ [] in
      let knows = r.each id v at in
      let mine : Stands r.tickets r.log v.seen (Working t) = subst (λ (g : Stage). Stands r.tickets r.log v.seen g) working knows.turn in
      let turn : length r.log ≡ t = sym mine.0 in
      let lt = mine.1 in
      let long : length log ≡ length r.log + 1 = length-append r.log (item ∷ []) in
      let sees : w.seen ≡ log = ap (λ (l : List (Item E)). l ++ item ∷ []) seen in
      let others : (j : ℕ) (u : View M E) → j ≢ id → get_elem? s.views j ≡ some u → (n : ℕ) → Holds u.stage n → n ≢ t =
      λ j u ne e' n h same_ticket. ne (r.apart j id t u v e' at (subst (λ (q : ℕ). Holds u.stage q) same_ticket h) (working_holds v.stage t working)) in
      let before = members_are v m started in
      let after = members_are w m started in
      record {
        tickets = r.tickets;
        log = log;
        words = rw long refl;
        ahead = omega (arith, long, lt, turn);
        below = r.below;
        legal = subst (λ (l : List E). Legal (follows start) l) (sym (entries_more r.log name made)) (legal_more (follows start) (entries r.log) made r.legal may);
        home = inl (k, refl, items ∙ sym (unnamed_more r.log name made), subst (λ (l : List E). stands start k.machine l) (sym (entries_more r.log name made)) kept);
        out = λ j u n e' busy.
            ⊎_elim (λ (h : (j ≡ id) × (w ≡ u)). absurd (idle_holds u.stage n (ap (λ (x : View M E). x.stage) (sym h.1)) (working_holds u.stage n busy)))
            (λ (h : (j ≢ id) × (get_elem? s.views j ≡ some u)).
            absurd
            (others j u h.0 h.1 n (working_holds u.stage n busy)
            ((subst (λ (g : Stage). Stands r.tickets r.log u.seen g) busy (r.each j u h.1).turn).0 ∙ turn)))
            (at_set s.views id j w u e');
        each = λ j u e'.
            ⊎_elim
            (λ (h : (j ≡ id) × (w ≡ u)).
            subst (λ (x : View M E). Knows start r.tickets log x) h.1 (record {
              seen = ([], sym sees ∙ sym (append-nil w.seen));
              told = (w.seen, refl);
              turn = tt;
              start_is = knows.start_is;
              spent = λ gone. refl;
            }))
            (λ (h : (j ≢ id) × (get_elem? s.views j ≡ some u)).
            let k' = r.each j u h.1 in
            record {
              seen = begins_longer r.log u.seen item k'.seen;
              told = k'.told;
              turn = later r.tickets id t j r.log item u.seen u.stage k'.turn turn (others j u h.0 h.1);
              start_is = k'.start_is;
              spent = k'.spent;
            }) (at_set s.views id j w u e');
        apart = apart_after s.views id w (λ j u n e' hw hu. absurd hw) r.apart;
        named = named_after s.views id v w v.own w.own v.joined at before after refl (omega arith) r.named;
        listed = listed_after s.views id v w v.own w.own v.joined at before after refl r.log log r.named r.listed
            (own_more r.log name made ∙ ap (λ (l : List E). l ++ listed made) (own_mine s.views r.log id v m r.listed at started))
            (λ n ne. others_same r.log n name made ne);
      }

  the_kept : (k k' : Kept M E) → ◌≡◌ {A = List (ℕ × Option (Kept M E))} ((0, Some k) ∷ []) ((0, Some k') ∷ []) → k ≡ k'
  the_kept k k' e =
      let q : ◌≡◌ {A = ℕ × Option (Kept M E)} (0, Some k) (0, Some k') = cc in
      let p : ◌≡◌ {A = Option (Kept M E)} (Some k) (Some k') = ap (λ (x : ℕ × Option (Kept M E)). x.1) q in
      cc

  abbrev AfterFinish : Table → ℕ → Sat → (ℕ → Sat → Type 0) → List ℕ → Type 0
  AfterFinish s id me then words =
      (w : View M E) × (a : Act (Option (Kept M E))) × Valid s.homes me.1 a
      × Rule (record { words = slice_set words 1 ((slice_index words 1 + 1) % 2 ^ 64); homes = homes_after s.homes me.1 a; views = slice_set s.views id w })
      × then (slice_index words 1) (w, carried_after me.1 a)

  -- a turn ends with one more item, and the machine stands for the entries with it
  pub finishes : (slots id t : ℕ) (made : Option E) (k : Kept M E) (me : Sat) → me.0.stage ≡ Working t → me.0.start ≡ Some start → me.1 ≡ (0, Some k) ∷ []
      → items_of k.history ≡ unnamed me.0.seen ++ made ∷ [] → ((e : E) → made ≡ Some e → follows start (entries me.0.seen) e) → stands start k.machine (entries me.0.seen ++ listed made)
      → Allows Rule slots id me 1 (λ n. (n + 1) % 2 ^ 64) (finished stands follows (step slots 1 1 0 none) me)
  finishes slots id t made k me working started carried items may kept s r long at fits =
      let mine : Stands r.tickets r.log me.0.seen (Working t) = subst (λ (g : Stage). Stands r.tickets r.log me.0.seen g) working (r.each id me.0 at).turn in
      let out = r.out id me.0 t at working in
      let seen : me.0.seen ≡ r.log = mine.2 in
      let lt = mine.1 in let same_ticket = mine.0 in let below = r.below in
      let small : (length r.log + 1) % 2 ^ 64 ≡ length r.log + 1 = mod-eq_of_lt (omega (arith, lt, same_ticket, below)) in
      let after =
      finished_ruled s id t me.0 start made k r at working started seen (items ∙ ap (λ (l : List (Item E)). unnamed l ++ made ∷ []) seen) (λ e is. subst (λ (l : List (Item E)). follows start (entries l) e) seen (may e is))
      (subst (λ (l : List (Item E)). stands start k.machine (entries l ++ listed made)) seen kept) in
      subst (AfterFinish s id me (finished stands follows (step slots 1 1 0 none) me)) (sym r.words) (
        after_turn made me.0,
        gives,
        tt,
        subst (λ (c : List (ℕ × Option (Kept M E))). Rule (record { words = r.tickets ∷ ((length r.log + 1) % 2 ^ 64) ∷ []; homes = put_back s.homes c; views = set s.views id (after_turn made me.0) })) (sym carried)
            (subst (λ (hs : Homes). Rule (record { words = r.tickets ∷ ((length r.log + 1) % 2 ^ 64) ∷ []; homes = slice_set hs 0 (some (Some k)); views = set s.views id (after_turn made me.0) })) (sym out)
            (subst (λ (n : ℕ). Rule (record { words = r.tickets ∷ n ∷ []; homes = some (Some k) ∷ []; views = set s.views id (after_turn made me.0) })) (sym small) after)),
        (λ k' made' has items'.
            let same_kept = the_kept k k' (sym carried ∙ has) in
            let same_made = last_same (unnamed me.0.seen) made made' (sym items ∙ (ap (λ (x : Kept M E). items_of x.history) same_kept ∙ items')) in
            (ap (λ (o : Option E). after_turn o me.0) same_made, ap rest carried)),
      )

  -- ---- the opening

  one_view : (v u : View M E) (j : ℕ) → get_elem? (v ∷ []) j ≡ some u → (j ≡ 0) × (v ≡ u)
  one_view v u zero e = (refl, some-injective v u e)
  one_view v u (suc j) e = absurd (some-ne-none u (sym e))

  one_own : (o p : Own E) (a : ℕ) → get_elem? (o ∷ []) a ≡ some p → (a ≡ 0) × (o ≡ p)
  one_own o p zero e = (refl, some-injective o p e)
  one_own o p (suc a) e = absurd (some-ne-none p (sym e))

  first_own : (i a : ℕ) (o : Own E) → At (first_view start ∷ []) i a o → (i ≡ 0) × ((a ≡ 0) × (record { name = []; splits = 0; mine = [] } ≡ o))
  first_own i a o x =
      let view_is = one_view (first_view start) x.0 i x.1 in
      let own_is = one_own (first_view start).own o a (subst (λ (u : View M E). get_elem? (members u) a ≡ some o) (sym view_is.1) x.2) in
      (view_is.0, (own_is.0, own_is.1))

  nil_cons : (k : ℕ) (n : List ℕ) → [] ≡ k ∷ n → ⊥
  nil_cons k n e = cc

  pub opens : (k : Kept M E) (slots : List (Option (Kept M E))) → slots ≡ Some k ∷ [] → items_of k.history ≡ [] → stands start k.machine [] → Rule (opening (0 ∷ 0 ∷ []) slots (first_view start))
  opens k slots is empty kept =
      subst (λ (l : List (Option (Kept M E))). Rule (opening (0 ∷ 0 ∷ []) l (first_view start))) (sym is)
      (record {
        tickets = 0;
        log = [];
        words = refl;
        ahead = lit≤ tt;
        below = lit≤ tt;
        legal = λ before after e h. absurd (no_entries before after e h);
        home = inl (k, refl, empty, kept);
        out = λ j u n e working. absurd (idle_holds u.stage n (ap (λ (x : View M E). x.stage) (sym (one_view (first_view start) u j e).1)) (working_holds u.stage n working));
        each = λ j u e.
            subst (λ (x : View M E). Knows start 0 [] x) (one_view (first_view start) u j e).1 (record {
              seen = ([], refl);
              told = ([], refl);
              turn = tt;
              start_is = λ m h. sym (some_same start m h);
              spent = λ gone. refl;
            });
        apart = λ i j n u x eu ex hu hx. absurd (idle_holds u.stage n (ap (λ (x : View M E). x.stage) (sym (one_view (first_view start) u i eu).1)) hu);
        named = record {
          place = λ n. (0, 0);
          placed = λ i a o x. let f = first_own i a o x in ap (λ (n : ℕ). (n, 0)) (sym f.0) ∙ ap (λ (n : ℕ). (i, n)) (sym f.1.0);
          parent = λ i a k n o x e. let f = first_own i a o x in absurd (nil_cons k n (ap (λ (p : Own E). p.name) f.1.1 ∙ e));
        };
        listed = record { mine = λ i a o x. let f = first_own i a o x in ap (λ (p : Own E). p.mine) f.1.1; others = λ name nobody. refl };
      })
    where
      no_entries : (before after : List E) (e : E) → [] ≡ before ++ e ∷ after → ⊥
      no_entries [] after e h = cc
      no_entries (b ∷ bs) after e h = cc
