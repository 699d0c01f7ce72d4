-- What the lines of a script over a clip come to: how the run ends, and what OUT then holds.
use Rattle.std.specs.Prelude.{ℕ, List, [], ◌∷◌, ◌++◌, reverse, Option, Some, None, Result, Ok, Err}
use Rattle.std.specs.List.{flat_map}
use Rattle.sal_base.specs.declared.picture.Picture.{Picture}
use Rattle.sal_codec.specs.Coding.{Coding}
use Rattle.sal_y4m.specs.declared.head.Head.{Head}
use Rattle.sal_y4m.specs.Grammar.{header_at, header_flaw, head_text, picture_text}
use Rattle.sal_script.specs.declared.line.ScriptLine.{ScriptLine}
use Rattle.sal_script.specs.declared.line.ScriptLine.TheVariants.{Next, NextLate, Rest}
use Rattle.sal_script.specs.Numbered.{Numbered}
use Rattle.sal_script.specs.Script.{script_of}
use Rattle.sal_sender.specs.OneThread.{Session}
use Rattle.sal_receiver.specs.Past.{shown}
use Rattle.sal_world.specs.World.{WorldPast}
use Rattle.sal_world.specs.Script.{Run, begun, line}
use Rattle.sal_run.specs.Clip.{End, Done, BadInput, BadScript, clip_at}

-- the session of a run
abbrev pub session_of : Head → Session
session_of head = record { number = 1; head = head }

abbrev pub or_end : Option End → End → End
or_end None end = end
or_end (Some end) other = end

-- why a line isn't run: a `next` finds no picture, and any other names a number that wasn't sent
abbrev pub unrun : Option End → ℕ → ScriptLine → End
unrun fault number Next = or_end fault (BadScript number)
unrun fault number NextLate = or_end fault (BadScript number)
unrun fault number _ = BadScript number

-- a picture that was shown, as it is written
abbrev pub shown_text : ℕ × Picture → List ℕ
shown_text s = picture_text s.1

-- the header and all pictures shown, in the order in which they were
abbrev pub out_text : {S : Type 0} → Head → WorldPast S → List ℕ
out_text head w = head_text head ++ flat_map shown_text (reverse (shown w.receiver))

module _ {S : Type 0} where
  -- a `rest` comes to the fault of the input, if it has one; else the lines after it are run
  abbrev pub after_rest : Option End → (Run S → Run S × End) → Run S → Run S × End
  after_rest None more r = more r
  after_rest (Some end) more r = (r, end)

  abbrev pub after_line : Option End → ScriptLine → (Run S → Run S × End) → Run S → Run S × End
  after_line fault Rest more r = after_rest fault more r
  after_line fault _ more r = more r

  -- a line isn't run, or the lines after it are
  abbrev pub in_line : Option End → Numbered → (Run S → Run S × End) → Run S → Option (Run S) → Run S × End
  in_line fault numbered more r None = (r, unrun fault numbered.0 numbered.1)
  in_line fault numbered more r (Some after) = after_line fault numbered.1 more after

module _ {S : Type 0} (codec : Coding S) (session : Session) where
  -- where the run of these lines ends, and how, of pictures after which the input has this fault: in a line that isn't run, in
  -- a `rest` that comes to the fault, or with the input
  abbrev pub ended : Option End → List Numbered → Run S → Run S × End
  ended fault [] r = (r, or_end fault Done)
  ended fault (numbered ∷ more) r = in_line fault numbered (ended fault more) r (line codec session numbered.1 r)

module _ {S : Type 0} (codec : Coding S) where
  -- where a run over the bytes after a header ends, and how
  abbrev pub clip_run : Head → List ℕ → List Numbered → Run S × End
  clip_run head bytes lines = let clip = clip_at head bytes in ended codec (session_of head) clip.fault lines (begun clip.pictures)

  -- the same of a whole input, which may begin with no header
  abbrev pub input_end : List ℕ → Option (Head × List ℕ) → List Numbered → End
  input_end input None lines = BadInput (header_flaw input)
  input_end input (Some clip) lines = (clip_run clip.0 clip.1 lines).1

  abbrev pub input_out : Option (Head × List ℕ) → List Numbered → List ℕ
  input_out None lines = []
  input_out (Some clip) lines = out_text clip.0 (clip_run clip.0 clip.1 lines).0.world

  abbrev pub script_end : List ℕ → Result (List Numbered) ℕ → End
  script_end input (Ok lines) = input_end input (header_at input) lines
  script_end input (Err number) = BadScript number

  abbrev pub script_out : List ℕ → Result (List Numbered) ℕ → List ℕ
  script_out input (Ok lines) = input_out (header_at input) lines
  script_out input (Err number) = []

  -- how `loop` ends for the bytes of IN and of SCRIPT: all lines of SCRIPT are tested first, then IN's header
  unfoldable pub loop_end : List ℕ → List ℕ → End
  loop_end input script = script_end input (script_of script)

  -- the bytes of OUT then: the header and the pictures shown, or nothing where the end came before the header
  unfoldable pub loop_out : List ℕ → List ℕ → List ℕ
  loop_out input script = script_out input (script_of script)
