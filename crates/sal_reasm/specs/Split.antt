-- A frame that was cut, and put together again.
use Rattle.std.specs.Prelude.{◌≡◌, ℕ, List, true}
use Rattle.sal_base.specs.Lists.{Each}
use Rattle.sal_wire.specs.Fields.{FragmentFields}
use Rattle.sal_wire.specs.Fragmentation.{fragment_count, fragment_data}
use Rattle.sal_reasm.specs.Complete.{has_all, reassembled}

-- the fragment has one of the pieces that these bytes are cut into
abbrev pub IsFragmentOf : List ℕ → FragmentFields → Type 0
IsFragmentOf bytes e = (e.count ≡ fragment_count bytes) × (e.bytes ≡ fragment_data bytes e.index)

-- where all pieces came, in any order and any number of times, they join to the bytes that were cut
abbrev pub ReassemblesWhatWasSplit : Type 0
ReassemblesWhatWasSplit = (bytes : List ℕ) (parts : List FragmentFields) → Each (IsFragmentOf bytes) parts → has_all parts ≡ true → reassembled parts ≡ bytes
