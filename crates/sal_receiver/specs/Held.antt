-- Which states the receiver holds.
use Rattle.std.specs.Prelude.{ℕ, List, filter_map, replicate, Option, Some, None, if◌then◌else◌}
use Rattle.std.specs.Option.{option_map}
use Rattle.sal_base.specs.Names.{same}
use Rattle.sal_codec.specs.Coding.{Coding}
use Rattle.sal_chain.specs.declared.stored_state.StoredState.{StoredState}
use Rattle.sal_chain.specs.Held.{in_order, not_below, with_name, name_in}
use Rattle.sal_receiver.specs.declared.answers.Done.TheVariants.{Show, Older}
use Rattle.sal_receiver.specs.Past.{ReceiverCall, Decoding, Sound, floor}

-- the name under which the initial state is held: 16 bytes, all 0
abbrev pub zero_name : List ℕ
zero_name = replicate 16 0

-- the state of this name: the initial one, else that of the least number among these
abbrev pub state_among : {S : Type 0} → S → List ℕ → List (StoredState S) → Option S
state_among initial name kept = if same name zero_name then Some initial else option_map (λ k. k.state) (with_name name kept)

module _ {S : Type 0} (codec : Coding S) where
  abbrev pub kept_as : ℕ → S → StoredState S
  kept_as n state = record { number = n; name = record { 0 = name_in codec state }; state = state }

  abbrev pub state_in : ReceiverCall S → Option (StoredState S)
  state_in (Decoding n (Sound state picture) (Show m shown)) = Some (kept_as n state)
  state_in (Decoding n (Sound state picture) (Older m greater)) = Some (kept_as n state)
  state_in _ = None

  -- the states of all numbers that were shown or older
  abbrev pub decoded : List (ReceiverCall S) → List (StoredState S)
  decoded past = filter_map state_in past

  -- those of them at or above the floor, in rising order; the initial state is held besides
  abbrev pub held : List (ReceiverCall S) → List (StoredState S)
  held past = in_order (not_below (floor past) (decoded past))

  -- the held state of this name
  abbrev pub held_under : List (ReceiverCall S) → List ℕ → Option S
  held_under past name = state_among codec.initial name (held past)
