-- The number that the program ends with.
use Rattle.std.specs.Prelude.{ℕ}
use Rattle.sal_status.specs.declared.status.Status.{Status}
use Rattle.sal_status.specs.declared.status.Status.TheVariants as status

abbrev pub number_of : Status → ℕ
number_of (status.Ok shows) = 0
number_of status.Usage = 2
number_of (status.BadInput name place why) = 3
number_of (status.BadScript line) = 4
number_of (status.ReadFault name) = 6
number_of (status.WriteFault name) = 7
number_of (status.OpenFault name) = 8
number_of status.TooLong = 11
number_of status.TooMany = 12
number_of status.Memory = 15
