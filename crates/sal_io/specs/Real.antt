-- What a shelf over std keeps of what was shut: no contents.
use Rattle.std.specs.Prelude.{None}
use Rattle.sal_io.specs.declared.std_shelf.StdSource.{StdSource}
use Rattle.sal_io.specs.declared.std_shelf.StdSink.{StdSink}
use Rattle.sal_io.specs.declared.ledger.Shut.{Shut}
use Rattle.sal_io.specs.declared.ledger.Shut.TheVariants.{Source, Sink}
use Rattle.sal_io.specs.Past.{Past}
use Rattle.sal_io.specs.Past.Past.{In, Out}

-- what is known of an object over std that was shut
abbrev pub real_past_of : {F : Type 0} → Shut (StdSource F) (StdSink F) → Past
real_past_of (Source s) = In s.name None None s.faults
real_past_of (Sink s) = Out s.name None s.faults
