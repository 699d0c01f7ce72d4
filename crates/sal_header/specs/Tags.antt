-- The uncompressed bytes at the head of a frame, and where its partitions lie. Sections are those of RFC 6386.
use Rattle.std.specs.Prelude.{ℕ, suc, zero, ◌+◌, ◌-◌, ◌*◌, ◌/◌, ◌%◌, ◌^◌, ◌<◌, ◌≤◌, List, [], ◌∷◌, ◌++◌, Bool, true, false, not, ◌&&◌, ◌||◌, ◌==◌, nat_lt, if◌then◌else◌, take, drop, length, slice_index, slice_index_or, Result, Ok, Err}
use Rattle.sal_base.specs.declared.coding.Fault.{Fault}
use Rattle.sal_base.specs.declared.coding.Fault.TheVariants.{Short, BadVersion, BadStart, ZeroSize, TooLarge, FirstPart, Partition}
use Rattle.sal_header.specs.declared.tag.Tag.{Tag}

-- the number that n bytes from a place on spell, lowest first
abbrev pub little : ℕ → List ℕ → ℕ → ℕ
little zero bytes at = 0
little (suc n) bytes at = slice_index bytes at + 256 * little n bytes (at + 1)

-- a key frame's start code follows the tag (9.1)
abbrev pub is_start : List ℕ → Bool
is_start bytes = slice_index bytes 3 == 0x9d && slice_index bytes 4 == 0x01 && slice_index bytes 5 == 0x2a

-- the lowest 14 bits of the two bytes from a place on; the other two are the scale (9.1)
abbrev pub side_at : List ℕ → ℕ → ℕ
side_at bytes at = little 2 bytes at % 2 ^ 14

-- the width and height of a key frame, or the first fault of what follows its tag (9.1)
unfoldable pub sides_of : List ℕ → Result (ℕ × ℕ) Fault
sides_of bytes =
    let width = side_at bytes 6 in
    let height = side_at bytes 8 in
    if nat_lt (length bytes) 10 then Err Short
    else (if not (is_start bytes) then Err BadStart
    else (if width == 0 || height == 0 then Err ZeroSize
    else (if nat_lt 1280 width || nat_lt 720 height then Err (TooLarge width height)
    else Ok (width, height))))

abbrev pub key_tag : Bool → ℕ → Result (ℕ × ℕ) Fault → Result Tag Fault
key_tag shown size (Ok s) = Ok (record { key = true; shown = shown; size = size; width = s.0; height = s.1 })
key_tag shown size (Err f) = Err f

-- the tag, 24 bits in three bytes, and the sides of a key frame, or the first fault (9.1)
unfoldable pub tag_of : List ℕ → Result Tag Fault
tag_of bytes =
    let word = little 3 bytes 0 in
    let version = word / 2 % 8 in
    let shown = word / 16 % 2 == 1 in
    let size = word / 32 in
    if nat_lt (length bytes) 3 then Err Short
    else (if not (version == 0) then Err (BadVersion version)
    else (if word % 2 == 0 then key_tag shown size (sides_of bytes)
    else Ok (record { key = false; shown = shown; size = size; width = 0; height = 0 })))

abbrev pub head_length : Bool → ℕ
head_length key = if key then 10 else 3

-- the first partition (9.2)
unfoldable pub first_part_of : List ℕ → Tag → Result (List ℕ) Fault
first_part_of bytes tag =
    let rest = drop (head_length tag.key) bytes in
    if nat_lt (length rest) tag.size then Err (FirstPart tag.size (length rest)) else Ok (take tag.size rest)

abbrev pub then_part : ℕ × ℕ → Result (List (ℕ × ℕ)) Fault → Result (List (ℕ × ℕ)) Fault
then_part p (Ok ps) = Ok (p ∷ ps)
then_part p (Err f) = Err f

-- the places and lengths of partition k and those after it, the first of them at a place: n whose sizes stand in the
-- table, three bytes each, and one that takes the rest; or the first that passes the end (9.5)
unfoldable pub placed : List ℕ → ℕ → ℕ → ℕ → ℕ → Result (List (ℕ × ℕ)) Fault
placed bytes table k zero at = Ok ((at, length bytes - at) ∷ [])
placed bytes table k (suc n) at =
    let size = little 3 bytes (table + 3 * k) in
    if nat_lt (length bytes - at) size then Err (Partition k) else then_part (at, size) (placed bytes table (k + 1) n (at + size))

-- the place and length of each token partition, or the first that passes the end; it is the first one where sizes are missing (9.5)
unfoldable pub parts_of : List ℕ → Tag → ℕ → Result (List (ℕ × ℕ)) Fault
parts_of bytes tag log2 =
    let table = head_length tag.key + tag.size in
    let sized = 2 ^ log2 - 1 in
    if nat_lt (length bytes - table) (3 * sized) then Err (Partition 0) else placed bytes table 0 sized (table + 3 * sized)

-- the first n of these places and lengths lie before the end
abbrev pub AreInside : ℕ → List (ℕ × ℕ) → ℕ → Type 0
AreInside end ps n = (k : ℕ) → k < n → (slice_index_or ps k (0, 0)).0 + (slice_index_or ps k (0, 0)).1 ≤ end

-- the bytes at these places and lengths, one after the other
abbrev pub bytes_at : List ℕ → List (ℕ × ℕ) → List ℕ
bytes_at bytes [] = []
bytes_at bytes (p ∷ ps) = take p.1 (drop p.0 bytes) ++ bytes_at bytes ps

-- where the first token partition begins: after the first partition and the table of sizes (9.5)
abbrev pub parts_start : Tag → ℕ → ℕ
parts_start tag log2 = head_length tag.key + tag.size + 3 * (2 ^ log2 - 1)
