-- A datagram without where its data lies in memory: what it says, its rules and its bytes.
use Rattle.std.specs.Prelude.{◌≡◌, ℕ, List, Result, Ok, Err}
use Rattle.sal_wire.specs.declared.datagram.Datagram.{Datagram}
use Rattle.sal_wire.specs.declared.datagram.Datagram.TheVariants.{Fragment, Ack, Bye}
use Rattle.sal_wire.specs.declared.datagram.Ack.{Ack as AckFields}
use Rattle.sal_wire.specs.declared.fault.WireFault.{WireFault}
use Rattle.sal_wire.specs.Fields.{FragmentFields, fields_of}
use Rattle.sal_wire.specs.Layout.{FitsFragment, IsFragment, fragment_bytes, FitsAck, IsAck, ack_bytes, FitsBye, bye_bytes}

pub data Message : Type 0 where
  FragmentMessage : (e : FragmentFields) → Message
  AckMessage : (a : AckFields) → Message
  ByeMessage : (session : ℕ) → (last : ℕ) → Message

abbrev pub message_of : Datagram → Message
message_of (Fragment f) = FragmentMessage (fields_of f)
message_of (Ack a) = AckMessage a
message_of (Bye b) = ByeMessage b.session b.last

-- what was answered
abbrev pub as_message : Result Datagram WireFault → Result Message WireFault
as_message (Ok d) = Ok (message_of d)
as_message (Err e) = Err e

-- the numbers are those of their types
abbrev pub FitsMessage : Message → Type 0
FitsMessage (FragmentMessage e) = FitsFragment e
FitsMessage (AckMessage a) = FitsAck a
FitsMessage (ByeMessage session last) = FitsBye session last

-- the fields meet the rules
abbrev pub IsDatagram : Message → Type 0
IsDatagram (FragmentMessage e) = IsFragment e
IsDatagram (AckMessage a) = IsAck a
IsDatagram (ByeMessage session last) = Unit {0}

-- the one spelling
abbrev pub message_bytes : Message → List ℕ
message_bytes (FragmentMessage e) = fragment_bytes e
message_bytes (AckMessage a) = ack_bytes a
message_bytes (ByeMessage session last) = bye_bytes session last

-- the bytes are the spelling of this datagram, which meets the rules
pub record Serializes (bytes : List ℕ) (d : Message) : Type 0 where
  pub fits : FitsMessage d
  pub meets : IsDatagram d
  pub spelled : bytes ≡ message_bytes d
