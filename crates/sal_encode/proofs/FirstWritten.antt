-- The first partition, written header first.
use Rattle.std.proofs.Common.{◌≡◌, ℕ, ◌∙◌, List, [], sym, ap}
use Rattle.sal_base.specs.Pictures.{blocks_of}
use Rattle.sal_bool.specs.Bits.{Interval, start}
use Rattle.sal_bool.specs.Written.{steps, written}
use Rattle.sal_bool.proofs.Meaning.{steps_append}
use Rattle.sal_probs.specs.Probabilities.{Table}
use Rattle.sal_header.specs.Written.{header_pairs}
use Rattle.sal_macroblock.specs.declared.mode.MbMode.{MbMode}
use Rattle.sal_state.specs.States.{StateData}
use Rattle.sal_encode.specs.declared.plan.Plan.{Plan}
use Rattle.sal_encode.specs.FrameBytes.{probs_of, modes_pairs, first_pairs, first_bytes}

pub first_written : (s : StateData) (size : ℕ × ℕ) (p : Plan) (probs : Table) (ms : List MbMode) (columns rows : ℕ) (i j k : Interval) → i ≡ start → j ≡ steps i (header_pairs p.header) → k ≡ steps j (modes_pairs p.header probs columns rows [] ms)
    → probs ≡ probs_of s p → ms ≡ p.modes → columns ≡ blocks_of size.0 → rows ≡ blocks_of size.1 → written k ≡ first_bytes s size p
unfolding first_bytes first_pairs
first_written s size p probs ms columns rows i j k first header modes probs_are modes_are columns_are rows_are =
    ap written
    (modes
    ∙ (ap (λ (x : Interval). steps x (modes_pairs p.header probs columns rows [] ms)) (header ∙ ap (λ (x : Interval). steps x (header_pairs p.header)) first)
    ∙ (ap (λ (t : Table). steps (steps start (header_pairs p.header)) (modes_pairs p.header t columns rows [] ms)) probs_are
    ∙ (ap (λ (xs : List MbMode). steps (steps start (header_pairs p.header)) (modes_pairs p.header (probs_of s p) columns rows [] xs)) modes_are
    ∙ (ap (λ n. steps (steps start (header_pairs p.header)) (modes_pairs p.header (probs_of s p) n rows [] p.modes)) columns_are
    ∙ (ap (λ n. steps (steps start (header_pairs p.header)) (modes_pairs p.header (probs_of s p) (blocks_of size.0) n [] p.modes)) rows_are
    ∙ sym (steps_append (header_pairs p.header) (modes_pairs p.header (probs_of s p) (blocks_of size.0) (blocks_of size.1) [] p.modes) start)))))))
