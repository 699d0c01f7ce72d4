-- What a call, and a desk that is closed, give.
use Rattle.std.specs.Prelude.{◌≡◌, ℕ, List, [], ◌∷◌, ◌++◌, length, Option, Some, None, ◌⊎◌}
use Rattle.sal_desk.specs.declared.view.Item.{Item}
use Rattle.sal_desk.specs.declared.view.Own.{Own}
use Rattle.sal_desk.specs.declared.view.Kept.{Kept}
use Rattle.sal_desk.specs.Stored.{items_of}
use Rattle.sal_desk.specs.Histories.{Each, StartsWith, item_of, listed, unnamed, entries, entries_by, Legal}
use Rattle.sal_desk.specs.Seats.{SeatState, IsNamed, with_mine, team}

module _ {M E C R : Type 0} (answers : M → List E → C → R → E → Type 0) (voided : R) (start : M) where
  -- a call was answered after these entries and made one, or it was a Void
  abbrev pub Answered : List E → C → R → Option E → Type 0
  Answered before call reply (Some e) = answers start before call reply e
  Answered before call reply None = reply ≡ voided

module _ {M E C R : Type 0} (stands : M → M → List E → Type 0) (answers : M → List E → C → R → E → Type 0) (follows : M → List E → E → Type 0) (voided : R) (start : M) where
  -- One call of the machine that is kept, after these entries, or a Void.
  pub record Played (before : List E) (call : C) (old new : Kept M E) (reply : R) : Type 0 where
    pub made : Option E
    pub items : items_of new.history ≡ items_of old.history ++ made ∷ []
    pub answered : Answered answers voided start before call reply made
    pub follow : Each (follows start before) (listed made)
    pub stands_for : stands start new.machine (before ++ listed made)

module _ {M E C R : Type 0} (answers : M → List E → C → R → E → Type 0) (follows : M → List E → E → Type 0) (voided : R) (start : M) where
  -- What a call at this place leaves of a seat. What it has seen begins with all that it had seen and ends, at that place,
  -- with the call's entry or a Void; that history is legal, the reply is the answer there, and the seat's own list has the
  -- entry more, and is just what the history has under its name.
  pub record Acted (old : SeatState M E) (call : C) (reply : R) (place : ℕ) (new : SeatState M E) : Type 0 where
    pub between : List (Item E)
    pub made : Option E
    pub seen : new.seen ≡ (old.seen ++ between) ++ item_of old.own.name made ∷ []
    pub place_is : place ≡ length (old.seen ++ between)
    pub legal : Legal (follows start) (entries new.seen)
    pub answered : Answered answers voided start (entries (old.seen ++ between)) call reply made
    pub own : new.own ≡ with_mine old.own made
    pub mine : entries_by old.own.name new.seen ≡ new.own.mine
    pub joined : new.joined ≡ old.joined

module _ {M E : Type 0} where
  -- What joining another seat leaves of a seat: it has seen the longer of what both had seen, of which the shorter is a
  -- beginning, keeps its own name and list, and stands for the other one and all for which that one stood.
  pub record Joined (old other new : SeatState M E) : Type 0 where
    pub one_of : (new.seen ≡ old.seen) ⊎ (new.seen ≡ other.seen)
    pub begins : StartsWith new.seen old.seen
    pub begins_other : StartsWith new.seen other.seen
    pub own : new.own ≡ old.own
    pub joined : new.joined ≡ old.joined ++ other.own ∷ other.joined

module _ {M E : Type 0} (stands : M → M → List E → Type 0) (follows : M → List E → E → Type 0) (start : M) where
  -- What a desk gives that is closed with a seat into which all others were joined: a legal history, which begins with all
  -- that the seat had seen, and for which the machine stands. Under the names of the seat and of those joined it has their
  -- own lists, and it has no other entry.
  pub record Closed (seat : SeatState M E) (machine : M) (items : List (Option E)) : Type 0 where
    pub log : List (Item E)
    pub items_are : items ≡ unnamed log
    pub seen : StartsWith log seat.seen
    pub legal : Legal (follows start) (entries log)
    pub stands_for : stands start machine (entries log)
    pub mine : Each (λ (o : Own E). entries_by o.name log ≡ o.mine) (team seat)
    pub others : (name : List ℕ) → ¬ IsNamed name (team seat) → entries_by name log ≡ []
