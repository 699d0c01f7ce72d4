-- What was hashed piece by piece is the bytes of the state.
use Rattle.std.proofs.Common.{[]}
use Rattle.sal_state.specs.Digest.{state_bytes}
use Rattle.sal_state.proofs.state.digest_with.Goals as goal

pub returns : goal.returns
unfolding state_bytes
returns c =
    c.finalize.ensures _ (c.take_references.ensures _ (c.take_map.ensures _ (c.take_deltas.ensures _ (c.take_segments.ensures _ (c.take_probabilities.ensures _ (c.take_size.ensures [] c.new-hasher.ensures))))))
