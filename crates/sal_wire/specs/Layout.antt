-- The layout of each kind: its one spelling, and the rules that its fields meet. Numbers have their highest byte first.
use Rattle.std.specs.Prelude.{◌≡◌, ℕ, ◌+◌, ◌-◌, ◌^◌, ◌<◌, ◌≤◌, List, [], ◌∷◌, ◌++◌, length, slice_index, flat_map}
use Rattle.byteorder.specs.Endian.{big_bytes}
use Rattle.sal_base.specs.declared.limits.TheConstants.{MAX_FRAMES, WINDOW, MAX_WIDTH, MAX_HEIGHT}
use Rattle.sal_wire.specs.declared.layout.TheConstants.{FRAGMENT_KIND, ACK_KIND, BYE_KIND, VERSION, MAX_FRAGMENTS, MAX_DATA}
use Rattle.sal_base.specs.declared.name.Name.{Name}
use Rattle.sal_wire.specs.declared.datagram.Ack.{Ack}
use Rattle.sal_wire.specs.Fields.{FragmentFields}

-- a number in four bytes
unfoldable pub u32_bytes : ℕ → List ℕ
u32_bytes n = big_bytes 4 n

-- a number in two bytes
unfoldable pub u16_bytes : ℕ → List ℕ
u16_bytes n = big_bytes 2 n

-- the first eight bytes of a name, which are sent
unfoldable pub name_bytes : List ℕ → List ℕ
name_bytes n =
    slice_index n 0 ∷ slice_index n 1 ∷ slice_index n 2 ∷ slice_index n 3 ∷ slice_index n 4 ∷ slice_index n 5 ∷ slice_index n 6 ∷ slice_index n 7 ∷ []

abbrev pub eight_zeros : List ℕ
eight_zeros = 0 ∷ 0 ∷ 0 ∷ 0 ∷ 0 ∷ 0 ∷ 0 ∷ 0 ∷ []

-- the kind and the version, the fields in their order, and the length of the data
abbrev pub fragment_head : FragmentFields → List ℕ
fragment_head e =
    FRAGMENT_KIND ∷ VERSION ∷ u32_bytes e.session ++ u32_bytes e.serial ++ u32_bytes e.number ++ u32_bytes e.floor ++ name_bytes e.source ++ name_bytes e.target
    ++ u16_bytes e.index ++ u16_bytes e.count ++ u32_bytes e.pause ++ u16_bytes e.width ++ u16_bytes e.height
    ++ u32_bytes e.rate.0 ++ u32_bytes e.rate.1 ++ u16_bytes (length e.bytes)

-- the head of 56 bytes and the data
unfoldable pub fragment_bytes : FragmentFields → List ℕ
fragment_bytes e = fragment_head e ++ e.bytes

-- the fields are numbers of their types
pub record FitsFragment (e : FragmentFields) : Type 0 where
  pub session : e.session < 2 ^ 32
  pub serial : e.serial < 2 ^ 32
  pub number : e.number < 2 ^ 32
  pub floor : e.floor < 2 ^ 32
  pub index : e.index < 2 ^ 16
  pub count : e.count < 2 ^ 16
  pub pause : e.pause < 2 ^ 32
  pub width : e.width < 2 ^ 16
  pub height : e.height < 2 ^ 16
  pub pictures : e.rate.0 < 2 ^ 32
  pub seconds : e.rate.1 < 2 ^ 32

-- a name of which the first eight bytes say all
abbrev pub IsWireName : List ℕ → Type 0
IsWireName n = n ≡ name_bytes n ++ eight_zeros

-- the fields meet the rules of a fragment
pub record IsFragment (e : FragmentFields) : Type 0 where
  pub serial : 1 ≤ e.serial
  pub number : 1 ≤ e.number
  pub number_below : e.number ≤ MAX_FRAMES
  pub floor : 1 ≤ e.floor
  pub floor_below : e.floor ≤ e.number
  pub window : e.number - e.floor < WINDOW
  pub source : IsWireName e.source
  pub target : IsWireName e.target
  pub count : 1 ≤ e.count
  pub count_below : e.count ≤ MAX_FRAGMENTS
  pub index : e.index < e.count
  pub wide : 1 ≤ e.width
  pub not_wider : e.width ≤ MAX_WIDTH
  pub high : 1 ≤ e.height
  pub not_higher : e.height ≤ MAX_HEIGHT
  pub pictures : 1 ≤ e.rate.0
  pub seconds : 1 ≤ e.rate.1
  pub some : 1 ≤ length e.bytes
  pub short : length e.bytes ≤ MAX_DATA
  pub whole : e.index + 1 < e.count → length e.bytes ≡ MAX_DATA

-- a number and the first eight bytes of its name
abbrev pub state_bytes : (ℕ × Name) → List ℕ
state_bytes h = u32_bytes h.0 ++ name_bytes h.1.0

-- the head of an acknowledgement, of which the last byte is the count
abbrev pub ack_head : Ack → List ℕ
ack_head a = ACK_KIND ∷ VERSION ∷ u32_bytes a.session ++ u32_bytes a.serial ++ u32_bytes a.gap ++ length a.held ∷ []

-- an acknowledgement: a head of 15 bytes, and twelve bytes for each state
unfoldable pub ack_bytes : Ack → List ℕ
ack_bytes a = ack_head a ++ flat_map state_bytes a.held

-- an end, of ten bytes
unfoldable pub bye_bytes : ℕ → ℕ → List ℕ
bye_bytes session last = BYE_KIND ∷ VERSION ∷ u32_bytes session ++ u32_bytes last

-- the numbers are of a session, and each is above the one before; each name is sent whole
abbrev pub AreRising : ℕ → List (ℕ × Name) → Type 0
AreRising before [] = Unit {0}
AreRising before (h ∷ more) = (before < h.0) × (h.0 ≤ MAX_FRAMES) × IsWireName h.1.0 × AreRising h.0 more

-- the fields meet the rules of an acknowledgement
pub record IsAck (a : Ack) : Type 0 where
  pub few : length a.held ≤ WINDOW
  pub rising : AreRising 0 a.held

-- the fields are numbers of their types
pub record FitsAck (a : Ack) : Type 0 where
  pub session : a.session < 2 ^ 32
  pub serial : a.serial < 2 ^ 32
  pub gap : a.gap < 2 ^ 32

pub record FitsBye (session last : ℕ) : Type 0 where
  pub session_fits : session < 2 ^ 32
  pub last_fits : last < 2 ^ 32
