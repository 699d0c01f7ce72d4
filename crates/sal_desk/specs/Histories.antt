-- The history of a desk: its items in order, each an entry with the name of the seat that made it, or a Void.
use Rattle.std.specs.Prelude.{◌≡◌, ℕ, if◌then◌else◌, length, nat_lt, ◌==◌, ◌&&◌, Bool, true, false, List, [], ◌∷◌, ◌++◌, map, Option, Some, None, ◌⊎◌}
use Rattle.sal_desk.specs.declared.view.Item.{Item}
use Rattle.sal_desk.specs.declared.view.Item.TheVariants.{Entry, Void}

-- whether two names are the same
abbrev pub same : List ℕ → List ℕ → Bool
same [] [] = true
same [] (y ∷ ys) = false
same (x ∷ xs) [] = false
same (x ∷ xs) (y ∷ ys) = (x == y) && same xs ys

module _ {A : Type 0} where
  -- P holds of each element
  abbrev pub Each : (A → Type 0) → List A → Type 0
  Each P [] = Unit {0}
  Each P (x ∷ xs) = P x × Each P xs

  -- P holds of an element
  abbrev pub Any : (A → Type 0) → List A → Type 0
  Any P [] = ⊥
  Any P (x ∷ xs) = P x ⊎ Any P xs

module _ {E : Type 0} where
  -- long begins with short
  abbrev pub StartsWith : List E → List E → Type 0
  StartsWith long short = (rest : List E) × (long ≡ short ++ rest)

  -- the longer of two lists, and the other one
  abbrev pub longer : List E → List E → List E
  longer xs ys = if nat_lt (length xs) (length ys) then ys else xs

  abbrev pub shorter : List E → List E → List E
  shorter xs ys = if nat_lt (length xs) (length ys) then xs else ys

  -- the entry of an item, if it is one
  abbrev pub entry_of : Item E → Option E
  entry_of (Entry name e) = Some e
  entry_of Void = None

  -- the item that stands for an entry of a seat, or for none
  abbrev pub item_of : List ℕ → Option E → Item E
  item_of name (Some e) = Entry name e
  item_of name None = Void

  -- one entry, or none
  abbrev pub listed : Option E → List E
  listed None = []
  listed (Some e) = e ∷ []

  -- the items without names
  abbrev pub unnamed : List (Item E) → List (Option E)
  unnamed log = map entry_of log

  -- the entries, in order
  abbrev pub entries : List (Item E) → List E
  entries [] = []
  entries (item ∷ log) = listed (entry_of item) ++ entries log

  -- what an item has under a name
  abbrev pub of_name : List ℕ → Item E → List E
  of_name name (Entry by e) = if same name by then e ∷ [] else []
  of_name name Void = []

  -- the entries under a name, in order
  abbrev pub entries_by : List ℕ → List (Item E) → List E
  entries_by name [] = []
  entries_by name (item ∷ log) = of_name name item ++ entries_by name log

  -- each entry follows those before it
  abbrev pub Legal : (List E → E → Type 0) → List E → Type 0
  Legal follows all = (before after : List E) (e : E) → all ≡ before ++ e ∷ after → follows before e
