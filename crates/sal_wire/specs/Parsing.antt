-- What bytes say: the fields at their places, and the first test that fails.
use Rattle.std.specs.Prelude.{ℕ, zero, suc, ◌+◌, List, [], ◌∷◌, length, drop, slice_index, Option, Some, None, Result, Ok, Err, ◌==◌, if◌then◌else◌}
use Rattle.byteorder.specs.Endian.{big_number}
use Rattle.sal_wire.specs.declared.layout.TheConstants.{ACK_KIND, BYE_KIND, FRAGMENT_HEAD, ACK_HEAD, STATE_BYTES}
use Rattle.sal_base.specs.declared.name.Name.{Name}
use Rattle.sal_wire.specs.declared.datagram.Ack.{Ack}
use Rattle.sal_wire.specs.declared.fault.WireFault.{WireFault}
use Rattle.sal_wire.specs.Message.{Message, FragmentMessage, AckMessage, ByeMessage}
use Rattle.sal_wire.specs.Fields.{FragmentFields}
use Rattle.sal_wire.specs.Rules.{first_fault, front_tests, fragment_tests, ack_tests, bye_tests}
use Rattle.sal_wire.specs.Layout.{eight_zeros}

-- the number in the n bytes from this place on
abbrev pub big_endian_at : ℕ → ℕ → List ℕ → ℕ
big_endian_at n place bytes = big_number n (drop place bytes)

-- the name of which eight bytes stand at this place
abbrev pub name_at : ℕ → List ℕ → List ℕ
name_at place bytes =
    slice_index bytes place ∷ slice_index bytes (place + 1) ∷ slice_index bytes (place + 2) ∷ slice_index bytes (place + 3) ∷ slice_index bytes (place + 4)
    ∷ slice_index bytes (place + 5) ∷ slice_index bytes (place + 6) ∷ slice_index bytes (place + 7) ∷ eight_zeros

-- the fields of a fragment at their places
unfoldable pub fragment_fields : List ℕ → FragmentFields
fragment_fields bytes = record {
  session = big_endian_at 4 2 bytes;
  serial = big_endian_at 4 6 bytes;
  number = big_endian_at 4 10 bytes;
  floor = big_endian_at 4 14 bytes;
  source = name_at 18 bytes;
  target = name_at 26 bytes;
  index = big_endian_at 2 34 bytes;
  count = big_endian_at 2 36 bytes;
  pause = big_endian_at 4 38 bytes;
  width = big_endian_at 2 42 bytes;
  height = big_endian_at 2 44 bytes;
  rate = (big_endian_at 4 46 bytes, big_endian_at 4 50 bytes);
  bytes = drop FRAGMENT_HEAD bytes;
}

-- n states from this place on
unfoldable pub held_at : ℕ → ℕ → List ℕ → List (ℕ × Name)
held_at zero place bytes = []
held_at (suc n) place bytes = (big_endian_at 4 place bytes, record { 0 = name_at (place + 4) bytes }) ∷ held_at n (place + STATE_BYTES) bytes

-- the fields of an acknowledgement at their places
unfoldable pub ack_fields : List ℕ → Ack
ack_fields bytes = record {
  session = big_endian_at 4 2 bytes;
  serial = big_endian_at 4 6 bytes;
  gap = big_endian_at 4 10 bytes;
  held = held_at (slice_index bytes 14) ACK_HEAD bytes;
}

-- x, unless there is a fault
abbrev pub unless : {A : Type 0} → Option WireFault → A → Result A WireFault
unless None x = Ok x
unless (Some f) x = Err f

-- what the bytes say as each kind, or the fault of the first test that fails after the front
abbrev pub parsed_fragment : List ℕ → Result Message WireFault
parsed_fragment bytes = unless (first_fault (fragment_tests (big_endian_at 2 54 bytes) (fragment_fields bytes))) (FragmentMessage (fragment_fields bytes))

abbrev pub parsed_ack : List ℕ → Result Message WireFault
parsed_ack bytes = unless (first_fault (ack_tests (slice_index bytes 14) (length bytes) (ack_fields bytes).held)) (AckMessage (ack_fields bytes))

abbrev pub parsed_bye : List ℕ → Result Message WireFault
parsed_bye bytes = unless (first_fault (bye_tests (length bytes))) (ByeMessage (big_endian_at 4 2 bytes) (big_endian_at 4 6 bytes))

abbrev pub parsed_as : ℕ → List ℕ → Result Message WireFault
parsed_as kind bytes = if kind == ACK_KIND then parsed_ack bytes else if kind == BYE_KIND then parsed_bye bytes else parsed_fragment bytes

-- what comes after these tests
abbrev pub after_tests : Option WireFault → Result Message WireFault → Result Message WireFault
after_tests None answer = answer
after_tests (Some f) answer = Err f

-- the datagram that the bytes spell, or the fault of the first test that fails
unfoldable pub parsed : List ℕ → Result Message WireFault
parsed bytes = after_tests (first_fault (front_tests bytes)) (parsed_as (slice_index bytes 0) bytes)
