-- The datagrams of a frame that is to be sent.
use Rattle.std.specs.Prelude.{◌≡◌, ℕ, ◌+◌, ◌-◌, ◌^◌, ◌≤◌, List, map, length, ◌==◌, if◌then◌else◌}
use Rattle.sal_wire.specs.Fields.{FragmentFields}
use Rattle.sal_wire.specs.Fragmentation.{below, fragment_count, fragment_data}
use Rattle.sal_wire.specs.Layout.{IsWireName, fragment_bytes}
use Rattle.sal_base.specs.declared.limits.TheConstants.{MAX_FRAMES}
use Rattle.sal_wire.specs.declared.layout.TheConstants.{MAX_FRAGMENTS}
use Rattle.sal_sender.specs.declared.outgoing_frame.OutgoingFrame.{OutgoingFrame}
use Rattle.sal_y4m.specs.Head.{IsHead}

-- the fragment with this index, counted from 0
abbrev pub fragment_of : OutgoingFrame → ℕ → FragmentFields
fragment_of outgoing k = record {
  session = outgoing.session;
  serial = outgoing.choice.first_serial + k;
  number = outgoing.choice.number;
  floor = outgoing.choice.floor;
  source = outgoing.source.0;
  target = outgoing.target.0;
  index = k;
  count = outgoing.choice.count;
  pause = if k == 0 then outgoing.pause else 0;
  width = outgoing.head.width;
  height = outgoing.head.height;
  rate = outgoing.head.rate;
  bytes = fragment_data outgoing.bytes.now k;
}

-- the first so many datagrams
abbrev pub datagrams_of : OutgoingFrame → ℕ → List (List ℕ)
datagrams_of outgoing n = map fragment_bytes (map (fragment_of outgoing) (below n))

-- the fields meet the rules of fragments
pub record IsOutgoing (outgoing : OutgoingFrame) : Type 0 where
  pub head : IsHead outgoing.head
  pub serial : 1 ≤ outgoing.choice.first_serial
  pub last : outgoing.choice.first_serial + outgoing.choice.count ≤ 2 ^ 32
  pub number : 1 ≤ outgoing.choice.number
  pub number_below : outgoing.choice.number ≤ MAX_FRAMES
  pub floor : 1 ≤ outgoing.choice.floor
  pub floor_below : outgoing.choice.floor ≤ outgoing.choice.number
  pub window : outgoing.choice.number - outgoing.choice.floor ≤ 15
  pub source : IsWireName outgoing.source.0
  pub target : IsWireName outgoing.target.0
  pub some : 1 ≤ length outgoing.bytes.now
  pub count : outgoing.choice.count ≡ fragment_count outgoing.bytes.now
  pub count_below : outgoing.choice.count ≤ MAX_FRAGMENTS
