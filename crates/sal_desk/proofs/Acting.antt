-- What a whole call does, of what its steps do.
use Rattle.std.proofs.Common.{◌≡◌, ℕ, List, [], ◌∷◌, ◌++◌, length, Option, Some, None, refl, sym, ap, ◌∙◌, subst, arith, append_assoc}
use Rattle.atomic_table.specs.Table.{Me, rest}
use Rattle.atomic_table.specs.Seated.{TableId}
use Rattle.sal_desk.specs.declared.view.Stage.{Stage}
use Rattle.sal_desk.specs.declared.view.Stage.TheVariants.{Working}
use Rattle.sal_desk.specs.declared.view.Item.{Item}
use Rattle.sal_desk.specs.declared.view.View.{View}
use Rattle.sal_desk.specs.declared.view.Kept.{Kept}
use Rattle.sal_desk.specs.Stored.{items_of}
use Rattle.sal_desk.specs.Histories.{Each, entry_of, item_of, listed, unnamed, entries, entries_by, Legal}
use Rattle.sal_desk.specs.Desk.{HasTurn, HasTaken, staged, at_work, after_turn, IsResting, state}
use Rattle.sal_desk.specs.Calls.{Answered, Played, Acted}
use Rattle.sal_desk.proofs.Items.{legal_more, entries_more, own_more}

module _ {E : Type 0} where
  pub entries_both : (log more : List (Item E)) → entries (log ++ more) ≡ entries log ++ entries more
  entries_both [] more = refl
  entries_both (i ∷ log) more = ap (λ (l : List E). listed (entry_of i) ++ l) (entries_both log more) ∙ sym (append_assoc (listed (entry_of i)) (entries log) (entries more))

  pub unnamed_long : (log : List (Item E)) → length (unnamed log) ≡ length log
  unnamed_long [] = refl
  unnamed_long (i ∷ log) = let h = unnamed_long log in omega (arith, h)

  none_some : (e : E) → ◌≡◌ {A = Option E} None (Some e) → ⊥
  none_some e h = cc

  some_same : (a b : E) → ◌≡◌ {A = Option E} (Some a) (Some b) → a ≡ b
  some_same a b e = cc

  each_listed : (P : E → Type 0) (made : Option E) → Each P (listed made) → (e : E) → made ≡ Some e → P e
  each_listed P None h e is = absurd (none_some e is)
  each_listed P (Some x) h e is = subst P (some_same x e is) h.0

module _ {M E C R : Type 0} (stands : M → M → List E → Type 0) (answers : M → List E → C → R → E → Type 0) (follows : M → List E → E → Type 0) (voided : R) (may : M → List E → C → Type 0) (start : M) where
  abbrev Sat : Type 0
  Sat = Me (Option (Kept M E)) (View M E)

  abbrev with_slot : List (ℕ × Option (Kept M E)) → View M E → Sat
  with_slot slots u = (u, slots)

  slot_same : (k : Kept M E) (r : Option (Kept M E)) (slots : List (ℕ × Option (Kept M E))) → slots ≡ (0, Some k) ∷ [] → slots ≡ (0, r) ∷ rest slots → (r ≡ Some k) × (rest slots ≡ [])
  slot_same k r slots is was =
      let heads : ◌≡◌ {A = List (ℕ × Option (Kept M E))} ((0, r) ∷ rest slots) ((0, Some k) ∷ []) = sym was ∙ is in
      let head : ◌≡◌ {A = ℕ × Option (Kept M E)} (0, r) (0, Some k) = cc in
      (ap (λ (x : ℕ × Option (Kept M E)). x.1) head, ap rest is)

  some_kept : (k kept : Kept M E) → ◌≡◌ {A = Option (Kept M E)} (Some kept) (Some k) → kept ≡ k
  some_kept k kept e = cc

  -- what a seat looked at before it had its ticket
  pub same_turn : (t : ℕ) (stage : Stage) (v u : View M E) (m : Sat) → u ≡ staged stage v → HasTurn stands follows start t u m → HasTurn stands follows start t v m
  same_turn t stage v u m is turn =
      let h = subst (λ (x : View M E). HasTurn stands follows start t x m) is turn in
      record {
        kept = h.kept;
        log = h.log;
        view_is = h.view_is;
        slot = h.slot;
        seen = h.seen;
        long = h.long;
        small = h.small;
        items = h.items;
        stands_for = h.stands_for;
        legal = h.legal;
        mine = h.mine;
      }

  pub taken : (t : ℕ) (v : View M E) (me me' : Sat) (r : Option (Kept M E)) (kept : Kept M E) → HasTurn stands follows start t v me → me.1 ≡ (0, r) ∷ rest me.1 → r ≡ Some kept → me' ≡ (me.0, (0, None) ∷ rest me.1) → HasTaken stands follows start t kept v me'
  taken t v me me' r kept turn slot_was r_is after =
      let slot = slot_same turn.kept r me.1 turn.slot slot_was in
      let is : kept ≡ turn.kept = some_kept turn.kept kept (sym r_is ∙ slot.0) in
      let me_is : me' ≡ (me.0, (0, None) ∷ []) = after ∙ ap (λ (l : List (ℕ × Option (Kept M E))). (me.0, (0, None) ∷ l)) slot.1 in
      let items : items_of kept.history ≡ unnamed turn.log = ap (λ (x : Kept M E). items_of x.history) is ∙ turn.items in
      let long = turn.long in
      let small = turn.small in
      let same_long : length (unnamed turn.log) ≡ length turn.log = unnamed_long turn.log in
      let items_long : length (items_of kept.history) ≡ length (unnamed turn.log) = ap (λ (l : List (Option E)). length l) items in
      record {
        log = turn.log;
        me_is = me_is ∙ ap (with_slot ((0, None) ∷ [])) turn.view_is;
        seen = turn.seen;
        long = turn.long;
        small = omega (arith, long, small, same_long, items_long);
        items = items;
        stands_for = subst (λ (x : Kept M E). stands start x.machine (entries turn.log)) (sym is) turn.stands_for;
        legal = turn.legal;
        mine = turn.mine;
      }

  module _ (t : ℕ) (v : View M E) (me : Sat) (call : C) (kept : Kept M E) (held : HasTaken stands follows start t kept v me) where
    pub may_now : ((s : M) (log more : List E) (c : C) → may s log c → may s (log ++ more) c) → may start (entries v.seen) call → may start (entries held.log) call
    may_now stays ok =
        let more = (held.seen).0 in
        subst (λ (l : List E). may start l call) (sym (ap entries (held.seen).1 ∙ entries_both v.seen more)) (stays start (entries v.seen) (entries more) call ok)

    view_now : me.0 ≡ at_work t held.log v
    view_now = ap (λ (m : Sat). m.0) held.me_is

    module _ (kept' : Kept M E) (reply : R) (played : Played stands answers follows voided start (entries held.log) call kept kept' reply) where
      pub working : (n : ℕ) × (me.0.stage ≡ Working n)
      working = (t, ap (λ (u : View M E). u.stage) view_now)

      pub slot_is : me.1 ≡ (0, None) ∷ []
      slot_is = ap (λ (m : Sat). m.1) held.me_is

      sees : me.0.seen ≡ held.log
      sees = ap (λ (u : View M E). u.seen) view_now

      pub items_now : items_of kept'.history ≡ unnamed me.0.seen ++ played.made ∷ []
      items_now = played.items ∙ (ap (λ (l : List (Option E)). l ++ played.made ∷ []) held.items ∙ ap (λ (l : List (Item E)). unnamed l ++ played.made ∷ []) (sym sees))

      pub longer : (made : Option E) × ((items_of kept'.history ≡ unnamed me.0.seen ++ made ∷ []) × ((e : E) → made ≡ Some e → follows start (entries me.0.seen) e) × stands start kept'.machine (entries me.0.seen ++ listed made))
      longer = (
        played.made,
        (
          items_now,
          (λ e is. subst (λ (l : List (Item E)). follows start (entries l) e) (sym sees) (each_listed (follows start (entries held.log)) played.made played.follow e is)),
          subst (λ (l : List (Item E)). stands start kept'.machine (entries l ++ listed played.made)) (sym sees) played.stands_for,
        ),
      )

      module _ (me' : Sat) (after : me' ≡ (after_turn played.made me.0, [])) where
        after_is : me'.0 ≡ after_turn played.made (at_work t held.log v)
        after_is = ap (λ (m : Sat). m.0) after ∙ ap (after_turn played.made) view_now

        pub rests : IsResting me'
        rests = (ap (λ (u : View M E). u.stage) after_is, (ap (λ (m : Sat). m.1) after, ap (λ (u : View M E). u.told) after_is))

        pub started : v.start ≡ Some start → me'.0.start ≡ Some start
        started e = ap (λ (u : View M E). u.start) after_is ∙ e

        pub acted : (table table' : TableId) → Acted answers follows voided start (state table v) call reply t (state table' me'.0)
        acted table table' =
            let more = (held.seen).0 in
            let log_is : held.log ≡ v.seen ++ more = (held.seen).1 in
            let name = v.own.name in
            let seen : me'.0.seen ≡ held.log ++ item_of name played.made ∷ [] = ap (λ (u : View M E). u.seen) after_is in
            let long = held.long in
            let own = ap (λ (u : View M E). u.own) after_is in
            record {
              between = more;
              made = played.made;
              seen = seen ∙ ap (λ (l : List (Item E)). l ++ item_of name played.made ∷ []) log_is;
              place_is = sym long ∙ ap (λ (l : List (Item E)). length l) log_is;
              legal = subst (λ (l : List E). Legal (follows start) l) (sym (ap entries seen ∙ entries_more held.log name played.made))
                  (legal_more (follows start) (entries held.log) played.made held.legal (each_listed (follows start (entries held.log)) played.made played.follow));
              answered = subst (λ (l : List (Item E)). Answered answers voided start (entries l) call reply played.made) log_is played.answered;
              own = own;
              mine = ap (entries_by name) seen ∙ (own_more held.log name played.made ∙ (ap (λ (l : List E). l ++ listed played.made) held.mine ∙ sym (ap (λ o. o.mine) own)));
              joined = ap (λ (u : View M E). u.joined) after_is;
            }
