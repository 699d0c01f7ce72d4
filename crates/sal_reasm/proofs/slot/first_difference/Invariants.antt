use Rattle.std.proofs.Common.{◌≡◌, drop}
use Rattle.sal_reasm.specs.Offer.{first_difference as difference_from}
use Rattle.sal_reasm.proofs.slot.first_difference.Given as goal

abbrev pub invariant-loop-place : goal.invariant-loop-place
invariant-loop-place l = difference_from l.field l.place (drop l.place l.kept) (drop l.place l.new) ≡ difference_from l.field 0 l.kept l.new
