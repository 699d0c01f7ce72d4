-- The next state out of its parts.
use Rattle.std.proofs.Common.{◌≡◌, ℕ, List, refl, sym}
use Rattle.sal_base.specs.declared.picture.Planes.{Planes}
use Rattle.sal_probs.specs.Probabilities.{Table, kept}
use Rattle.sal_header.specs.declared.header.Header.{Header}
use Rattle.sal_state.specs.States.{StateData}
use Rattle.sal_frame.specs.Records.{Record}
use Rattle.sal_frame.specs.After.{map_after, planes_of, state_from, state_after}

-- of a frame whose header, size, planes, map and probabilities they are
pub next : (s : StateData) (h : Header) (width height : ℕ) (planes : Planes) (map : List ℕ) (probs : Table) (f : Record) (result : StateData) → f.header ≡ h → f.width ≡ width → f.height ≡ height → planes ≡ planes_of s.references f → map ≡ map_after f s.kept.map → probs ≡ kept h.key h.refresh_entropy s.kept.probs h.updates → result ≡ state_from h width height planes map probs s.references → result ≡ state_after s f
unfolding state_after
next s h width height planes map probs f result header_is width_is height_is planes_are map_is probs_are is =
    rw (is, planes_are, map_is, probs_are, sym header_is, sym width_is, sym height_is) refl
