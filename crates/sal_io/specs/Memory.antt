-- What a shelf in memory holds and keeps.
use Rattle.std.specs.Prelude.{ℕ, List, [], ◌∷◌, Option, Some, None, drop, if◌then◌else◌}
use Rattle.std.specs.Str.{bytes_eq}
use Rattle.sal_io.specs.declared.mem_file.MemFile.{MemFile}
use Rattle.sal_io.specs.declared.mem_source.MemSource.{MemSource}
use Rattle.sal_io.specs.declared.mem_sink.MemSink.{MemSink}
use Rattle.sal_io.specs.declared.ledger.Shut.{Shut}
use Rattle.sal_io.specs.declared.ledger.Shut.TheVariants.{Source, Sink}
use Rattle.sal_io.specs.Past.{Past}
use Rattle.sal_io.specs.Past.Past.{In, Out}

-- the bytes of the first file of that name
abbrev pub bytes_under : List MemFile → List ℕ → Option (List ℕ)
bytes_under [] name = None
bytes_under (file ∷ files) name = if bytes_eq file.name name then Some file.bytes else bytes_under files name

-- the calls that are to fail of what is opened under that name
abbrev pub failing_under : List MemFile → List ℕ → Option (List ℕ)
failing_under [] name = None
failing_under (file ∷ files) name = if bytes_eq file.name name then Some file.failing.items else failing_under files name

-- none of them where no file has the name
abbrev pub or_none : Option (List ℕ) → List ℕ
or_none None = []
or_none (Some numbers) = numbers

-- what is known of an object in memory that was shut
abbrev pub past_of : Shut MemSource MemSink → Past
past_of (Source s) = In s.name (Some s.bytes) (Some (drop s.at s.bytes)) s.faults
past_of (Sink s) = Out s.name (Some s.bytes) s.faults
