-- What one thread that makes these choices sends.
use Rattle.std.specs.Prelude.{ℕ, ◌+◌, ◌-◌, min, List, [], ◌∷◌, ◌++◌, length, map, ◌==◌, if◌then◌else◌}
use Rattle.sal_base.specs.declared.picture.Picture.{Picture}
use Rattle.sal_y4m.specs.declared.head.Head.{Head}
use Rattle.sal_codec.specs.Coding.{Coding, Made}
use Rattle.sal_wire.specs.Fields.{FragmentFields}
use Rattle.sal_wire.specs.Fragmentation.{below, fragment_count, fragment_data}
use Rattle.sal_sender.specs.declared.choice.Choice.{Choice}
use Rattle.sal_chain.specs.Held.{name_in}
use Rattle.sal_sender.specs.Chain.{state, made}

-- what doesn't change over a session: its number, and the pictures' size and rate
pub record Session : Type 0 where
  pub number : ℕ
  pub head : Head

-- the pause before a choice: the microseconds since the choice before, at most 4,294,967,295, and 0 for the first
abbrev pub pause_of : List Choice → Choice → ℕ
pause_of [] choice = 0
pause_of (before ∷ older) choice = min 4294967295 (choice.moment - before.moment)

module _ {S : Type 0} (codec : Coding S) (session : Session) where
  -- the fragment with this index of what a choice made from a source, after so many datagrams
  abbrev pub fragment : S → ℕ → Choice → Made S → ℕ → ℕ → FragmentFields
  fragment source pause choice made before k = record {
    session = session.number;
    serial = before + 1 + k;
    number = choice.number;
    floor = choice.floor;
    source = name_in codec source;
    target = name_in codec made.target;
    index = k;
    count = fragment_count made.bytes;
    pause = if k == 0 then pause else 0;
    width = session.head.width;
    height = session.head.height;
    rate = session.head.rate;
    bytes = fragment_data made.bytes k;
  }

  -- the datagrams of a choice, after so many datagrams
  abbrev pub burst_of : S → ℕ → Choice → Made S → ℕ → List FragmentFields
  burst_of source pause choice made before = map (fragment source pause choice made before) (below (fragment_count made.bytes))

  -- the datagrams of a choice, with the older ones behind it, after so many datagrams
  abbrev pub burst_after : List Picture → List Choice → Choice → ℕ → List FragmentFields
  burst_after shot older choice before = burst_of (state codec shot older choice.source) (pause_of older choice) choice (made codec shot older choice) before

  abbrev pub with_burst : List Picture → List Choice → Choice → List FragmentFields → List FragmentFields
  with_burst shot older choice before = before ++ burst_after shot older choice (length before)

  -- the datagrams of all choices in order; the choices stand with the newest first
  unfoldable pub one_thread : List Picture → List Choice → List FragmentFields
  one_thread shot [] = []
  one_thread shot (choice ∷ older) = with_burst shot older choice (one_thread shot older)
