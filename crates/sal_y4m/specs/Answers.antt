-- What the reader and the writer answer.
use Rattle.std.specs.Prelude.{◌≡◌, ◌≢◌, ℕ, ◌+◌, ◌-◌, ◌^◌, ◌≤◌, min, List, [], length, take, Option, Some, None, Result, Ok, Err, IfSome}
use Rattle.std.specs.Io.KnownBytes.{Consumes, Appends}
use Rattle.sal_io.specs.Told.{Reading, ReadsAs, NoNewline}
use Rattle.sal_base.specs.declared.picture.Picture.{Picture}
use Rattle.sal_y4m.specs.declared.head.Head.{Head}
use Rattle.sal_y4m.specs.declared.fault.Flaw.{Flaw}
use Rattle.sal_y4m.specs.declared.fault.Why.{Why}
use Rattle.sal_y4m.specs.declared.fault.Y4mFault.{Y4mFault}
use Rattle.sal_y4m.specs.declared.fault.Y4mFault.TheVariants.{Bad, ReadFault, Memory}
use Rattle.sal_y4m.specs.declared.fault.WriteFault.{WriteFault}
use Rattle.sal_y4m.specs.Grammar.{cut, header_at, header_flaw, picture_at, picture_flaw}

-- a count of bytes, which stays at the greatest u64
abbrev pub counted : ℕ → ℕ → ℕ
counted before more = min (before + more) (2 ^ 64 - 1)

-- the count has grown by the bytes that were taken
abbrev pub Counts : ℕ → ℕ → Option (List ℕ) → Option (List ℕ) → Type 0
Counts before now old new = (front : List ℕ) × Consumes old new front × (now ≡ counted before (length front))

-- the place and the reason of this flaw of bytes that have so many before them
abbrev pub IsAt : ℕ → List ℕ → Flaw → ℕ → Why → Type 0
IsAt before bytes flaw place why = (place ≡ counted before (length bytes - flaw.left)) × (why ≡ flaw.why)

-- what was left, after so many bytes, begins with nothing that is read, and this is what is wrong with it and where
abbrev pub IsBad : {X : Type 0} → Reading X → (List ℕ → Flaw) → ℕ → Option (List ℕ) → ℕ → Why → Type 0
IsBad read flaw before old place why = IfSome old (λ xs. (read xs ≡ None) × IsAt before xs (flaw xs) place why)

-- what a header is read as, or why it isn't
abbrev pub HeadGives : ℕ → Option (List ℕ) → Option (List ℕ) → Result Head Y4mFault → Type 0
HeadGives before old new (Ok head) = ReadsAs header_at old new head
HeadGives before old new (Err (Bad place why)) = IsBad header_at header_flaw before old place why
HeadGives before old new (Err ReadFault) = Unit {0}
HeadGives before old new (Err Memory) = Unit {0}

-- the head of a header line
abbrev pub OpenGives : ℕ → Option (List ℕ) → Option (List ℕ) → Result (Unit {0}) Y4mFault → Head → Type 0
OpenGives before old new (Ok x) head = ReadsAs header_at old new head
OpenGives before old new (Err (Bad place why)) head = IsBad header_at header_flaw before old place why
OpenGives before old new (Err ReadFault) head = Unit {0}
OpenGives before old new (Err Memory) head = Unit {0}

-- the next picture, or the end
abbrev pub NextGives : Head → ℕ → Option (List ℕ) → Option (List ℕ) → Result (Option Picture) Y4mFault → Type 0
NextGives head before old new (Ok (Some p)) = ReadsAs (picture_at head) old new p
NextGives head before old new (Ok None) = IfSome old (λ xs. xs ≡ []) × Consumes old new []
NextGives head before old new (Err (Bad place why)) = IfSome old (λ xs. xs ≢ []) × IsBad (picture_at head) picture_flaw before old place why
NextGives head before old new (Err ReadFault) = Unit {0}
NextGives head before old new (Err Memory) = Unit {0}

-- of a header line only bytes before its newline were taken
abbrev pub HeaderUnread : Option (List ℕ) → Option (List ℕ) → Type 0
HeaderUnread old new = (front : List ℕ) × NoNewline front × Consumes old new front

-- what was taken is a front of a picture, and not the whole of it: an input that ended there would be cut
abbrev pub PictureUnread : Head → Option (List ℕ) → Option (List ℕ) → Type 0
PictureUnread head old new = (front : List ℕ) × Consumes old new front × (picture_at head front ≡ None) × (picture_flaw front ≡ cut)

-- the fault that is answered from then on
abbrev pub lasting : {X : Type 0} → Result X Y4mFault → Option Y4mFault
lasting (Ok x) = None
lasting (Err (Bad place why)) = Some (Bad place why)
lasting (Err ReadFault) = Some ReadFault
lasting (Err Memory) = None

-- a text was written, or a front of it
abbrev pub Writes : Option (List ℕ) → Option (List ℕ) → Result (Unit {0}) WriteFault → List ℕ → Type 0
Writes old new (Ok x) text = Appends old new text
Writes old new (Err e) text = (n : ℕ) × (n ≤ length text) × Appends old new (take n text)
