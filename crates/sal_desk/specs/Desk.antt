-- The desk's table: word 0 counts the tickets, word 1 the calls that are finished, and the slot holds the machine with its history.
use Rattle.std.specs.Prelude.{◌≡◌, ◌≢◌, ℕ, ◌<◌, ◌≤◌, ◌^◌, List, [], ◌∷◌, ◌++◌, length, Option, Some, None, ◌==◌, MatchBool, ◌⊎◌}
use Rattle.atomic_table.specs.Table.{State, Step, Me}
use Rattle.atomic_table.specs.Seated.{TableId}
use Rattle.atomic_table.specs.declared.shared.Seat.{Seat}
use mathlib.Core.Option.{none, some}
use lib.ListN.{get_elem?}
use Rattle.sal_desk.specs.declared.view.Stage.{Stage}
use Rattle.sal_desk.specs.declared.view.Stage.TheVariants.{Idle, Waiting, Working}
use Rattle.sal_desk.specs.declared.view.Item.{Item}
use Rattle.sal_desk.specs.declared.view.Own.{Own}
use Rattle.sal_desk.specs.declared.view.View.{View}
use Rattle.sal_desk.specs.declared.view.Kept.{Kept}
use Rattle.sal_desk.specs.Seats.{SeatState, fresh, with_mine, with_split}
use Rattle.sal_desk.specs.Stored.{items_of}
use Rattle.sal_desk.specs.Histories.{StartsWith, longer, shorter, item_of, unnamed, entries, entries_by, Legal}

-- the ticket that a seat holds
abbrev pub Holds : Stage → ℕ → Type 0
Holds Idle t = ⊥
Holds (Waiting n) t = n ≡ t
Holds (Working n) t = n ≡ t

module _ {E : Type 0} where
  -- of a seat at this stage: its ticket is still to come, or it is the one at work, which has seen the history
  abbrev pub Stands : ℕ → List (Item E) → List (Item E) → Stage → Type 0
  Stands tickets log seen Idle = Unit {0}
  Stands tickets log seen (Waiting t) = (length log ≤ t) × (t < tickets)
  Stands tickets log seen (Working t) = (t ≡ length log) × (t < tickets) × (seen ≡ log)

module _ {M E : Type 0} where
  abbrev pub members_of : Option M → Own E → List (Own E) → List (Own E)
  members_of None own joined = []
  members_of (Some start) own joined = own ∷ joined

  -- the seats for which a seat stands: itself, and those that were joined into it
  abbrev pub members : View M E → List (Own E)
  members v = members_of v.start v.own v.joined

  -- at a view, so far down its members
  abbrev pub At : List (View M E) → ℕ → ℕ → Own E → Type 0
  At views i a o = (v : View M E) × (get_elem? views i ≡ some v) × (get_elem? (members v) a ≡ some o)

  -- names differ, and whoever has a name was split off who has the name without its first number
  pub record Named (views : List (View M E)) : Type 0 where
    pub place : List ℕ → ℕ × ℕ
    pub placed : (i a : ℕ) (o : Own E) → At views i a o → place o.name ≡ (i, a)
    pub parent : (i a k : ℕ) (name : List ℕ) (o : Own E) → At views i a o → o.name ≡ k ∷ name → (j b : ℕ) × (p : Own E) × At views j b p × (p.name ≡ name) × (k < p.splits)

  -- the entries under each name are its own list, and there are no others
  pub record ListedAll (views : List (View M E)) (log : List (Item E)) : Type 0 where
    pub mine : (i a : ℕ) (o : Own E) → At views i a o → entries_by o.name log ≡ o.mine
    pub others : (name : List ℕ) → ((i a : ℕ) (o : Own E) → At views i a o → o.name ≢ name) → entries_by name log ≡ []

  -- what a view says is so
  pub record Knows (start : M) (tickets : ℕ) (log : List (Item E)) (v : View M E) : Type 0 where
    pub seen : StartsWith log v.seen
    pub told : StartsWith v.seen v.told
    pub turn : Stands tickets log v.seen v.stage
    pub start_is : (m : M) → v.start ≡ Some m → m ≡ start
    pub spent : v.start ≡ None → v.stage ≡ Idle

  -- the first seat
  abbrev pub first_view : M → View M E
  first_view start = record { stage = Idle; start = Some start; own = fresh []; joined = []; seen = []; told = [] }

  -- a seat that was joined into another
  abbrev pub spent_view : View M E
  spent_view = record { stage = Idle; start = None; own = fresh []; joined = []; seen = []; told = [] }

  abbrev pub staged : Stage → View M E → View M E
  staged stage v = record { stage = stage; start = v.start; own = v.own; joined = v.joined; seen = v.seen; told = v.told }

  -- a seat that has the machine has seen the whole history
  abbrev pub at_work : ℕ → List (Item E) → View M E → View M E
  at_work t log v = record { stage = Working t; start = v.start; own = v.own; joined = v.joined; seen = log; told = [] }

  -- after its turn, in which it made an entry or none
  abbrev pub after_turn : Option E → View M E → View M E
  after_turn made v = record { stage = Idle; start = v.start; own = with_mine v.own made; joined = v.joined; seen = v.seen ++ item_of v.own.name made ∷ []; told = [] }

  -- one more seat was split off
  abbrev pub parting : View M E → View M E
  parting v = record { stage = v.stage; start = v.start; own = with_split v.own; joined = v.joined; seen = v.seen; told = v.told }

  -- the seat that is split off
  abbrev pub newcomer : View M E → View M E
  newcomer v = record { stage = Idle; start = v.start; own = fresh (v.own.splits ∷ v.own.name); joined = []; seen = v.seen; told = [] }

  -- another seat was joined into it
  abbrev pub joining : View M E → View M E → View M E
  joining v w = record { stage = v.stage; start = v.start; own = v.own; joined = v.joined ++ w.own ∷ w.joined; seen = longer v.seen w.seen; told = shorter v.seen w.seen }

  -- what both had seen was compared
  abbrev pub compared : View M E → View M E
  compared v = record { stage = v.stage; start = v.start; own = v.own; joined = v.joined; seen = v.seen; told = [] }

  -- the seat has no call under way
  abbrev pub IsResting : Me (Option (Kept M E)) (View M E) → Type 0
  IsResting me = (me.0.stage ≡ Idle) × ((me.1 ≡ []) × (me.0.told ≡ []))

  -- what contracts see of a place at the table
  abbrev pub state : TableId → View M E → SeatState M E
  state table v = record { table = table; start = v.start; own = v.own; joined = v.joined; seen = v.seen }

  abbrev pub state_of : Seat (Option (Kept M E)) (View M E) → SeatState M E
  state_of place = state place.table_id place.me.0

-- the slot is at home with a machine that stands for the history, or one seat is at work
module _ {M E : Type 0} (stands : M → M → List E → Type 0) (follows : M → List E → E → Type 0) where
  abbrev pub Home : M → State (Option (Kept M E)) (View M E) → List (Item E) → Type 0
  Home start s log =
      ((k : Kept M E) × (s.homes ≡ some (Some k) ∷ []) × (items_of k.history ≡ unnamed log) × stands start k.machine (entries log))
      ⊎ ((s.homes ≡ none ∷ []) × (by : ℕ) × (v : View M E) × (get_elem? s.views by ≡ some v) × (v.stage ≡ Working (length log)))

  pub record Ruled (start : M) (s : State (Option (Kept M E)) (View M E)) : Type 0 where
    pub tickets : ℕ
    pub log : List (Item E)
    pub words : s.words ≡ tickets ∷ length log ∷ []
    pub ahead : length log ≤ tickets
    pub below : tickets ≤ 2 ^ 63
    pub legal : Legal (follows start) (entries log)
    pub home : Home start s log
    pub out : (j : ℕ) (v : View M E) (n : ℕ) → get_elem? s.views j ≡ some v → v.stage ≡ Working n → s.homes ≡ none ∷ []
    pub each : (j : ℕ) (v : View M E) → get_elem? s.views j ≡ some v → Knows start tickets log v
    pub apart : (i j t : ℕ) (u v : View M E) → get_elem? s.views i ≡ some u → get_elem? s.views j ≡ some v → Holds u.stage t → Holds v.stage t → i ≡ j
    pub named : Named s.views
    pub listed : ListedAll s.views log

  abbrev Sat : Type 0
  Sat = Me (Option (Kept M E)) (View M E)

  -- a ticket was drawn, where the number expected was found
  abbrev pub drawn : Step (Option (Kept M E)) → Sat → ℕ → Sat → Type 0
  drawn st m r m' = MatchBool (r == st.first) ((m'.0 ≡ staged (Waiting r) m.0) × (m'.1 ≡ m.1)) (m' ≡ m)

  -- the seat has its turn, and the slot with what stands for the history that it now sees
  pub record HasTurn (start : M) (t : ℕ) (v : View M E) (m : Sat) : Type 0 where
    pub kept : Kept M E
    pub log : List (Item E)
    pub view_is : m.0 ≡ at_work t log v
    pub slot : m.1 ≡ (0, Some kept) ∷ []
    pub seen : StartsWith log v.seen
    pub long : length log ≡ t
    pub small : t < 2 ^ 63
    pub items : items_of kept.history ≡ unnamed log
    pub stands_for : stands start kept.machine (entries log)
    pub legal : Legal (follows start) (entries log)
    pub mine : entries_by v.own.name log ≡ v.own.mine

  -- the seat has taken what lay in the slot
  pub record HasTaken (start : M) (t : ℕ) (kept : Kept M E) (v : View M E) (m : Sat) : Type 0 where
    pub log : List (Item E)
    pub me_is : m ≡ (at_work t log v, (0, None) ∷ [])
    pub seen : StartsWith log v.seen
    pub long : length log ≡ t
    pub small : length (items_of kept.history) < 2 ^ 63
    pub items : items_of kept.history ≡ unnamed log
    pub stands_for : stands start kept.machine (entries log)
    pub legal : Legal (follows start) (entries log)
    pub mine : entries_by v.own.name log ≡ v.own.mine

  -- where the seat's turn has come, it has the slot
  abbrev pub looked : Step (Option (Kept M E)) → Sat → ℕ → Sat → Type 0
  looked st m r m' = (start : M) (t : ℕ) → m.0.start ≡ Some start → m.0.stage ≡ Waiting t → MatchBool (r == t) (HasTurn start t m.0 m') (m' ≡ m)

  -- the turn is over, and the history has the item more that lay in the slot
  abbrev pub finished : Step (Option (Kept M E)) → Sat → ℕ → Sat → Type 0
  finished st m r m' = (k : Kept M E) (made : Option E) → m.1 ≡ (0, Some k) ∷ [] → items_of k.history ≡ unnamed m.0.seen ++ made ∷ [] → (m'.0 ≡ after_turn made m.0) × (m'.1 ≡ [])

  -- of what two seats had seen the shorter begins the longer
  abbrev pub learned : Step (Option (Kept M E)) → Sat → ℕ → Sat → Type 0
  learned st m r m' = StartsWith m.0.seen m.0.told × ((m'.0 ≡ compared m.0) × (m'.1 ≡ m.1))
