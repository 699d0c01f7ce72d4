-- The grammar of YUV4MPEG2: a header line, and then pictures, each of which is a FRAME line and its samples.
use Rattle.std.specs.Prelude.{ℕ, suc, ◌+◌, ◌*◌, List, [], ◌∷◌, ◌++◌, length, drop, Bool, true, false, Option, Some, None, Result, Ok, Err, nat_le, ◌==◌, ◌||◌, if◌then◌else◌, codes, decimal}
use Rattle.std.specs.Result.{result_ok}
use Rattle.std.specs.Option.{is_some}
use Rattle.std.specs.Str.{bytes_eq}
use Rattle.sal_base.specs.declared.picture.Plane.{Plane}
use Rattle.sal_base.specs.declared.picture.Picture.{Picture}
use Rattle.sal_base.specs.Picture.{half}
use Rattle.sal_io.specs.Told.{Reading, ◌>>=◌, block_at, line_within}
use Rattle.sal_y4m.specs.declared.fault.Why.TheVariants.{Magic, Cut, Line, Frame}
use Rattle.sal_y4m.specs.declared.fault.Flaw.{Flaw}
use Rattle.sal_y4m.specs.declared.head.Head.{Head}
use Rattle.sal_y4m.specs.Values.{after}
use Rattle.sal_y4m.specs.Parameters.{head_of}

-- the input ends too early: no byte of it is left from that place on
abbrev pub cut : Flaw
cut = record { left = 0; why = Cut }

-- what is wrong with bytes that have no newline among their first 256: the line that they begin with is too long, or cut
abbrev pub line_flaw : List ℕ → Flaw
line_flaw bytes = if nat_le 256 (length bytes) then record { left = length bytes; why = Line } else cut

-- ---- the header

-- the word that a header line begins with
abbrev pub magic : List ℕ
magic = codes "YUV4MPEG2"

-- the word ends here: at a space, at a newline, or with the input
abbrev pub ends_word : List ℕ → Bool
ends_word [] = true
ends_word (byte ∷ bytes) = byte == 32 || byte == 10

abbrev pub is_word : Option (List ℕ) → Bool
is_word None = false
is_word (Some bytes) = ends_word bytes

abbrev pub begins_header : List ℕ → Bool
begins_header bytes = is_word (after magic bytes)

-- a flaw of a line before its newline and the bytes after that
abbrev pub before_rest : List ℕ → Result Head Flaw → Result (Head × List ℕ) Flaw
before_rest rest (Ok head) = Ok (head, rest)
before_rest rest (Err flaw) = Err (record flaw { left = flaw.left + suc (length rest) })

-- the head that a line represents, without its newline and with what comes after that
abbrev pub header_line_of : List ℕ → Option (List ℕ × List ℕ) → Result (Head × List ℕ) Flaw
header_line_of bytes (Some line) = before_rest line.1 (head_of (drop (length magic) line.0))
header_line_of bytes None = Err (line_flaw bytes)

-- the header line at the front, of at most 256 bytes with its newline, and what comes after it; or the first flaw
abbrev pub header_of : List ℕ → Result (Head × List ℕ) Flaw
header_of bytes = if begins_header bytes then header_line_of bytes (line_within 256 bytes) else Err (record { left = length bytes; why = Magic })

abbrev pub header_at : Reading Head
header_at bytes = result_ok (header_of bytes)

abbrev pub flaw_of : Result (Head × List ℕ) Flaw → Flaw
flaw_of (Ok x) = cut
flaw_of (Err flaw) = flaw

-- what is wrong with bytes that begin with no header
abbrev pub header_flaw : List ℕ → Flaw
header_flaw bytes = flaw_of (header_of bytes)

-- ---- pictures

-- the samples of a picture
abbrev pub samples_of : ℕ → ℕ → ℕ
samples_of width height = width * height + 2 * (half width * half height)

-- a FRAME line, without its newline: what comes after the word and a space doesn't count
abbrev pub is_mark : List ℕ → Bool
is_mark line = bytes_eq line (codes "FRAME") || is_some (after (codes "FRAME ") line)

-- the line before each picture
abbrev pub mark_at : Reading (List ℕ)
mark_at bytes = do
  line ← line_within 256 bytes
  if is_mark line.0 then Some line else None

-- a plane of these sides at the front
abbrev pub plane_at : ℕ → ℕ → Reading Plane
plane_at width height bytes = do
  block ← block_at (width * height) bytes
  Some (record { width = width; height = height; samples = block.0 }, block.1)

-- the samples of luma and of both chroma planes
abbrev pub planes_at : Head → Reading Picture
planes_at head bytes = do
  y ← plane_at head.width head.height bytes
  u ← plane_at (half head.width) (half head.height) y.1
  v ← plane_at (half head.width) (half head.height) u.1
  Some (record { width = head.width; height = head.height; y = y.0; u = u.0; v = v.0 }, v.1)

-- a picture at the front
abbrev pub picture_at : Head → Reading Picture
picture_at head bytes = do
  line ← mark_at bytes
  planes_at head line.1

abbrev pub mark_flaw : List ℕ → Option (List ℕ × List ℕ) → Flaw
mark_flaw bytes None = line_flaw bytes
mark_flaw bytes (Some line) = if is_mark line.0 then cut else record { left = length bytes; why = Frame }

-- what is wrong with bytes that begin with no picture: they begin with no line, or with another one, or samples are lacking
abbrev pub picture_flaw : List ℕ → Flaw
picture_flaw bytes = mark_flaw bytes (line_within 256 bytes)

-- ---- what is written

-- the header line that is written, of four numbers in decimal digits
abbrev pub header_line : List ℕ → List ℕ → List ℕ → List ℕ → List ℕ
header_line width height pictures seconds =
    codes "YUV4MPEG2 W" ++ (width ++ (codes " H" ++ (height ++ (codes " F" ++ (pictures ++ (codes ":" ++ (seconds ++ codes " Ip A0:0 C420jpeg\n")))))))

-- the text of a head
abbrev pub head_text : Head → List ℕ
head_text head = header_line (decimal head.width) (decimal head.height) (decimal head.rate.0) (decimal head.rate.1)

-- the text of a picture
abbrev pub picture_text : Picture → List ℕ
picture_text p = codes "FRAME\n" ++ (p.y.samples ++ (p.u.samples ++ p.v.samples))
