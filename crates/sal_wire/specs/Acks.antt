-- What an acknowledgement says of frames. All definitions above read an acknowledgement's states through these two.
use Rattle.std.specs.Prelude.{ℕ, List, map}
use Rattle.sal_base.specs.declared.name.Name.{Name}
use Rattle.sal_wire.specs.declared.datagram.Ack.{Ack}

-- the frame numbers that are held
abbrev pub held_numbers : Ack → List ℕ
held_numbers ack = map (λ state. state.0) ack.held

-- the names that are said, each with the frame number whose state it names
abbrev pub held_names : Ack → List (ℕ × Name)
held_names ack = ack.held
