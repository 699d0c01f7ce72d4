-- What the parts of reading answer.
use Rattle.std.specs.Prelude.{◌≡◌, ◌≢◌, ℕ, ◌+◌, ◌-◌, ◌*◌, ◌<◌, List, [], ◌∷◌, ◌++◌, length, take, true, Option, None, Result, Ok, Err, IfSome}
use Rattle.std.specs.Io.KnownBytes.{Consumes}
use Rattle.sal_io.specs.Told.{ReadsAs, NoNewline}
use Rattle.sal_base.specs.declared.picture.Plane.{Plane}
use Rattle.sal_base.specs.declared.picture.Picture.{Picture}
use Rattle.sal_y4m.specs.declared.head.Head.{Head}
use Rattle.sal_y4m.specs.declared.fault.Why.TheVariants.{Cut}
use Rattle.sal_y4m.specs.declared.fault.Flaw.{Flaw}
use Rattle.sal_y4m.specs.declared.fault.Y4mFault.{Y4mFault}
use Rattle.sal_y4m.specs.declared.fault.Y4mFault.TheVariants.{Bad, ReadFault, Memory}
use Rattle.sal_y4m.specs.declared.line.LineRead.{LineRead}
use Rattle.sal_y4m.specs.declared.line.LineRead.TheVariants as lines
use Rattle.sal_y4m.specs.declared.parts.Mark.{Mark}
use Rattle.sal_y4m.specs.declared.parts.Mark.TheVariants as marks
use Rattle.sal_y4m.specs.Grammar.{is_mark, mark_at, planes_at, plane_at, samples_of, picture_flaw}
use Rattle.sal_y4m.specs.Answers.{counted, IsAt}

-- bytes without a newline were taken
abbrev pub TakesPlain : Option (List ℕ) → Option (List ℕ) → List ℕ → Type 0
TakesPlain old new front = NoNewline front × Consumes old new front

-- a line and its newline; a buffer full of a line; all that was left, which has no newline; or a front of a line
abbrev pub LineGives : Option (List ℕ) → Option (List ℕ) → LineRead → List ℕ → Type 0
LineGives old new (lines.Whole n) buf = (n < length buf) × NoNewline (take n buf) × Consumes old new (take n buf ++ 10 ∷ [])
LineGives old new lines.Long buf = TakesPlain old new buf
LineGives old new (lines.Ended n) buf = (n < length buf) × IfSome old (λ xs. xs ≡ take n buf) × TakesPlain old new (take n buf)
LineGives old new lines.Failed buf = (n : ℕ) × (n < length buf) × TakesPlain old new (take n buf)

-- so many bytes were taken, and counted
abbrev pub Takes : ℕ → ℕ → ℕ → Option (List ℕ) → Option (List ℕ) → Type 0
Takes n before now old new = (front : List ℕ) × (length front ≡ n) × Consumes old new front × (now ≡ counted before n)

-- fewer bytes than these were left, and the input is cut; or fewer were taken, and the source failed
abbrev pub FallsShort : ℕ → ℕ → Option (List ℕ) → Option (List ℕ) → Y4mFault → Type 0
FallsShort many before old new (Bad place why) = (why ≡ Cut) × IfSome old (λ xs. (length xs < many) × (place ≡ counted before (length xs)))
FallsShort many before old new ReadFault = (front : List ℕ) × (length front < many) × Consumes old new front
FallsShort many before old new Memory = ⊥

abbrev pub PlaneGives : ℕ → ℕ → ℕ → ℕ → Option (List ℕ) → Option (List ℕ) → Result Plane Y4mFault → Type 0
PlaneGives width height before now old new (Ok plane) = ReadsAs (plane_at width height) old new plane × Takes (width * height) before now old new
PlaneGives width height before now old new (Err e) = FallsShort (width * height) before old new e

abbrev pub PlanesGive : Head → ℕ → ℕ → Option (List ℕ) → Option (List ℕ) → Result Picture Y4mFault → Type 0
PlanesGive head before now old new (Ok p) = ReadsAs (planes_at head) old new p × Takes (samples_of head.width head.height) before now old new
PlanesGive head before now old new (Err e) = FallsShort (samples_of head.width head.height) before old new e

-- a line that is a FRAME line was read
pub record IsMarkLine (before now : ℕ) (old new : Option (List ℕ)) (line : List ℕ) : Type 0 where
  pub short : length line < 256
  pub plain : NoNewline line
  pub mark : is_mark line ≡ true
  pub taken : Consumes old new (line ++ 10 ∷ [])
  pub count : now ≡ counted before (length line + 1)

-- a FRAME line, or the end, or what is wrong
abbrev pub MarkGives : ℕ → ℕ → Option (List ℕ) → Option (List ℕ) → Mark → Type 0
MarkGives before now old new marks.Frame = (line : List ℕ) × IsMarkLine before now old new line
MarkGives before now old new marks.End = IfSome old (λ xs. xs ≡ []) × Consumes old new [] × (now ≡ counted before 0)
MarkGives before now old new (marks.Bad place why) = IfSome old (λ xs. (xs ≢ []) × (mark_at xs ≡ None) × IsAt before xs (picture_flaw xs) place why)
MarkGives before now old new marks.Failed = (front : List ℕ) × (length front < 256) × TakesPlain old new front

-- ---- the header line

-- what a whole line gives that has so many bytes before it
abbrev pub line_head_of : ℕ → List ℕ → Result Head Flaw → Result Head Y4mFault
line_head_of before line (Ok head) = Ok head
line_head_of before line (Err flaw) = Err (Bad (counted before (length line - flaw.left)) flaw.why)
