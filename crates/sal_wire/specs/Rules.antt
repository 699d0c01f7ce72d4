-- The tests that bytes must pass to be a datagram, in their order, each with the fault that it gives.
use Rattle.std.specs.Prelude.{ℕ, ◌+◌, ◌*◌, ◌-◌, List, [], ◌∷◌, length, slice_index, Bool, Option, Some, None, nat_lt, nat_le, ◌==◌, ◌&&◌, ◌||◌, if◌then◌else◌}
use Rattle.sal_base.specs.declared.limits.TheConstants.{MAX_FRAMES, WINDOW, MAX_WIDTH, MAX_HEIGHT}
use Rattle.sal_wire.specs.declared.layout.TheConstants.{FRAGMENT_KIND, ACK_KIND, BYE_KIND, VERSION, FRAGMENT_HEAD, ACK_HEAD, STATE_BYTES, BYE_BYTES, MAX_FRAGMENTS, MAX_DATA}
use Rattle.sal_wire.specs.declared.fault.Wire.{Wire}
use Rattle.sal_wire.specs.declared.fault.Wire.TheVariants.{Short, Kind, Version, Serial, Window, Index, Size, Rate, Length, Held}
use Rattle.sal_wire.specs.declared.fault.WireFault.{WireFault}
use Rattle.sal_base.specs.declared.name.Name.{Name}
use Rattle.sal_wire.specs.Fields.{FragmentFields}

-- a test, which is passed or not, and the fault that it gives where it isn't passed
abbrev pub Test : Type 0
Test = Bool × WireFault

abbrev pub test : Bool → Wire → ℕ → Test
test passed what place = (passed, record { what = what; place = place })

-- the fault of the first test that isn't passed
abbrev pub first_fault : List Test → Option WireFault
first_fault [] = None
first_fault (t ∷ tests) = if t.0 then first_fault tests else Some t.1

-- the first byte of each kind
abbrev pub is_kind : ℕ → Bool
is_kind byte = byte == FRAGMENT_KIND || byte == ACK_KIND || byte == BYE_KIND

-- how long the head of a kind is
abbrev pub head_length : ℕ → ℕ
head_length kind = if kind == ACK_KIND then ACK_HEAD else if kind == BYE_KIND then BYE_BYTES else FRAGMENT_HEAD

-- of any bytes: they have a kind, the version and a whole head
abbrev pub front_tests : List ℕ → List Test
front_tests bytes =
    test (nat_le 2 (length bytes)) Short (length bytes)
    ∷ test (is_kind (slice_index bytes 0)) Kind 0
    ∷ test (slice_index bytes 1 == VERSION) Version 1
    ∷ test (nat_le (head_length (slice_index bytes 0)) (length bytes)) Short (length bytes)
    ∷ []

-- the number is one of a session, and the floor is among it and the 15 numbers below it
abbrev pub in_window : ℕ → ℕ → Bool
in_window number floor = nat_le 1 number && nat_le number MAX_FRAMES && nat_le 1 floor && nat_le floor number && nat_lt (number - floor) WINDOW

-- the part is one of 1 to 4,096
abbrev pub is_index : ℕ → ℕ → Bool
is_index index count = nat_le 1 count && nat_le count MAX_FRAGMENTS && nat_lt index count

abbrev pub are_sides : ℕ → ℕ → Bool
are_sides width height = nat_le 1 width && nat_le width MAX_WIDTH && nat_le 1 height && nat_le height MAX_HEIGHT

abbrev pub is_rate : ℕ × ℕ → Bool
is_rate rate = nat_le 1 rate.0 && nat_le 1 rate.1

-- the length that the head says is one of this part, and that of the data
abbrev pub is_length : ℕ → FragmentFields → Bool
is_length said e = nat_le 1 said && nat_le said MAX_DATA && (said == MAX_DATA || nat_le e.count (e.index + 1)) && length e.bytes == said

-- of a fragment whose head says this length
abbrev pub fragment_tests : ℕ → FragmentFields → List Test
fragment_tests said e =
    test (nat_le 1 e.serial) Serial 6
    ∷ test (in_window e.number e.floor) Window 10
    ∷ test (is_index e.index e.count) Index 34
    ∷ test (are_sides e.width e.height) Size 42
    ∷ test (is_rate e.rate) Rate 46
    ∷ test (is_length said e) Length 54
    ∷ []

-- of states from this place on, twelve bytes each, after this number
abbrev pub held_tests : ℕ → ℕ → List (ℕ × Name) → List Test
held_tests before place [] = []
held_tests before place (h ∷ more) = test (nat_lt before h.0 && nat_le h.0 MAX_FRAMES) Held place ∷ held_tests h.0 (place + STATE_BYTES) more

-- of an acknowledgement with this count in its head, of so many bytes
abbrev pub ack_tests : ℕ → ℕ → List (ℕ × Name) → List Test
ack_tests count size held =
    test (nat_le count WINDOW) Held 14
    ∷ test (size == ACK_HEAD + STATE_BYTES * count) Length 14
    ∷ held_tests 0 ACK_HEAD held

-- of an end of so many bytes
abbrev pub bye_tests : ℕ → List Test
bye_tests size = test (size == BYE_BYTES) Length BYE_BYTES ∷ []
