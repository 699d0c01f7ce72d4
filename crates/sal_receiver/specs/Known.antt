-- What a receiver keeps of the session, and its moment.
use Rattle.std.specs.Prelude.{ℕ, max, Some}
use Rattle.sal_wire.specs.Fields.{FragmentFields}
use Rattle.sal_reasm.specs.Offer.{or_else}
use Rattle.sal_budget.specs.Gap.{no_arrival, arrived}
use Rattle.sal_receiver.specs.declared.session_state.SessionState.{SessionState}
use Rattle.sal_receiver.specs.Past.{head_of, arrival_of}

abbrev pub nothing_known : SessionState
nothing_known = record { session = Rattle.std.specs.Prelude.None; head = Rattle.std.specs.Prelude.None; moment = 0; gap = no_arrival }

-- after a fragment that is taken
abbrev pub known_after : FragmentFields → ℕ → SessionState → SessionState
known_after e moment l = record {
  session = or_else l.session (Some e.session);
  head = or_else l.head (Some (head_of e));
  moment = max moment l.moment;
  gap = arrived (arrival_of e (max moment l.moment)) l.gap;
}

-- after an end
abbrev pub known_after_end : ℕ → ℕ → SessionState → SessionState
known_after_end session moment l = record l { session = or_else l.session (Some session); moment = max moment l.moment }
