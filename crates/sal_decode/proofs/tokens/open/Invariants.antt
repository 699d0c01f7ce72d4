use Rattle.std.proofs.Common.{◌≡◌, ◌<◌, ◌≤◌, ℕ, [], length, slice_index_or}
use Rattle.sal_bool.specs.Bits.{start}
use Rattle.sal_bool.specs.Reading.{StandsFor, opened}
use Rattle.sal_decode.specs.TokenPartitions.{part_bytes}
use Rattle.sal_decode.proofs.tokens.open.Given as goal

abbrev pub invariant-loop-k : goal.invariant-loop-k
invariant-loop-k l = record {
  count : length l.decoders.items ≡ l.k;
  fits : l.k ≤ length l.parts.at;
  stand : (p : ℕ) → p < l.k → StandsFor (part_bytes l.bytes l.parts.at p) start (slice_index_or l.decoders.items p (opened []));
}
