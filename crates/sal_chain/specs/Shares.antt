-- What is kept as shares, seen as what they share.
use Rattle.std.specs.Prelude.{ℕ}
use Rattle.std.specs.Arc.{arc_value}
use Rattle.std.specs.Borrow.{Bor}
use Rattle.sal_base.specs.declared.name.Name.{Name}
use Rattle.std.specs.declared.sync.Arc.{Arc}
use Rattle.sal_chain.specs.declared.stored_state.StoredState.{StoredState}

-- a share seen as its state
abbrev pub unshared : {S Z : Type 0} → StoredState (Arc S Z) → StoredState S
unshared k = record { number = k.number; name = k.name; state = arc_value k.state }

-- what was found beside a share, and what that shares
abbrev pub with_state : {X S Z : Type 0} → X × Bor (Arc S Z) → X × S
with_state x = (x.0, arc_value x.1.now)

abbrev pub number_and_state : {S : Type 0} → StoredState S → ℕ × S
number_and_state k = (k.number, k.state)

abbrev pub name_and_state : {S : Type 0} → StoredState S → Name × S
name_and_state k = (k.name, k.state)
