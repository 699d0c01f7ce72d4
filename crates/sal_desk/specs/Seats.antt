-- What contracts see of desks and seats.
use Rattle.std.specs.Prelude.{◌≡◌, ℕ, ◌+◌, ◌<◌, List, [], ◌∷◌, ◌++◌, Option, Some}
use Rattle.atomic_table.specs.Seated.{TableId}
use Rattle.sal_desk.specs.declared.view.Item.{Item}
use Rattle.sal_desk.specs.declared.view.Own.{Own}
use Rattle.sal_desk.specs.Histories.{Each, Any, listed}

-- which desk it is, and the machine as the desk was made over it
pub record DeskKey (M : Type 0) : Type 0 where
  pub table : TableId
  pub start : M

-- the desk of a seat, its own part, those of the seats that were joined into it, and the history as far as it has seen it
pub record SeatState (M E : Type 0) : Type 0 where
  pub table : TableId
  pub start : Option M
  pub own : Own E
  pub joined : List (Own E)
  pub seen : List (Item E)

module _ {E : Type 0} where
  -- a seat that has made no call
  abbrev pub fresh : List ℕ → Own E
  fresh name = record { name = name; splits = 0; mine = [] }

  -- one of these seats has the name
  abbrev pub IsNamed : List ℕ → List (Own E) → Type 0
  IsNamed name team = Any (λ (o : Own E). o.name ≡ name) team

  -- the first seat is among these, and with each of them all that were split off it
  pub record AllBack (team : List (Own E)) : Type 0 where
    pub first : IsNamed [] team
    pub split : Each (λ (o : Own E). (k : ℕ) → k < o.splits → IsNamed (k ∷ o.name) team) team

  -- the seat's own part after a call, with its entry or none
  abbrev pub with_mine : Own E → Option E → Own E
  with_mine own made = record { name = own.name; splits = own.splits; mine = own.mine ++ listed made }

  -- the seat's own part after one more seat was split off it
  abbrev pub with_split : Own E → Own E
  with_split own = record { name = own.name; splits = own.splits + 1; mine = own.mine }

module _ {M : Type 0} where
  abbrev pub desk_key : TableId → M → DeskKey M
  desk_key table start = record { table = table; start = start }

module _ {M E : Type 0} where
  -- the seat is one of this desk
  abbrev pub IsSeatOf : DeskKey M → SeatState M E → Type 0
  IsSeatOf desk seat = (seat.table ≡ desk.table) × (seat.start ≡ Some desk.start)

  -- the seats for which a seat stands: itself, and those that were joined into it
  abbrev pub team : SeatState M E → List (Own E)
  team seat = seat.own ∷ seat.joined

  -- a desk's first seat
  abbrev pub first_seat : DeskKey M → SeatState M E
  first_seat desk = record { table = desk.table; start = Some desk.start; own = fresh []; joined = []; seen = [] }

  -- a seat after one more was split off it
  abbrev pub after_split : SeatState M E → SeatState M E
  after_split seat = record { table = seat.table; start = seat.start; own = with_split seat.own; joined = seat.joined; seen = seat.seen }

  -- the seat that is split off: it has a new name, has seen as much, and has made no call
  abbrev pub split_off : SeatState M E → SeatState M E
  split_off seat = record { table = seat.table; start = seat.start; own = fresh (seat.own.splits ∷ seat.own.name); joined = []; seen = seat.seen }
