use Rattle.std.proofs.Common.{arith, subst, ◌∙◌, ap, sym}
use Rattle.sal_bool.proofs.Meaning.{run_on, run_done, exact_of}
use Rattle.sal_bool.specs.Syntax.{run}
use Rattle.sal_header.specs.declared.parts.SegmentData.{SegmentData}
use Rattle.sal_header.specs.declared.parts.Deltas.{Deltas}
use Rattle.sal_header.specs.declared.header.Header.{Header}
use Rattle.sal_header.specs.Headers.{header_made, IsInRange, header_over, header_of, data_before, deltas_before}
use Rattle.sal_header.proofs.Values.{as_read}
use Rattle.sal_header.proofs.read.read_header.Goals as goal

pub returns-clause-reads : goal.returns-clause-reads
unfolding header_over
returns-clause-reads c =
    let key = c.args.tag.now.key in
    let s = ap (λ (d : SegmentData). run (header_over key c.args.tag.now.shown d (deltas_before key c.args.kept.now)) c.args.decoder.now) (sym c.data_before.ensures) in
    let d = ap (λ (e : Deltas). run (header_over key c.args.tag.now.shown c.data_before.result e) c.args.decoder.now) (sym c.deltas_before.ensures) in
    let all = run_on _ _ _ _ _ c.flag_when-colour.ensures.reads ∙ (run_on _ _ _ _ _ c.flag_when-clamping.ensures.reads ∙ (run_on _ _ _ _ _ c.read_segments-segments.ensures.reads ∙ (run_on _ _ _ _ _ c.read_filtering-filtering.ensures.reads ∙ (run_on _ _ _ _ _ c.small-log2.ensures.reads ∙ (run_on _ _ _ _ _ c.read_quantisers-quantisers.ensures.reads ∙ (run_on _ _ _ _ _ c.read_refreshing-refreshing.ensures.reads ∙ (run_on _ _ _ _ _ c.coefficient_updates.ensures.reads ∙ (run_on _ _ _ _ _ c.read_modes-modes.ensures.reads ∙ run_done _ _)))))))) in
    as_read (header_over key c.args.tag.now.shown (data_before key c.args.kept.now) (deltas_before key c.args.kept.now)) _ _ _ _ (s ∙ (d ∙ all)) (sym c.header_made.ensures)

pub returns-clause-exact : goal.returns-clause-exact
returns-clause-exact c = exact_of (header_of c.args.tag.now.key c.args.tag.now.shown c.args.kept.now) _ _ _ (returns-clause-reads c)

pub returns-clause-range : goal.returns-clause-range
unfolding header_made
returns-clause-range c =
    let P : Header → Type 0 = λ h. IsInRange h in
    subst P (sym c.header_made.ensures) (record { log2 = omega (arith, c.small-log2.ensures.small); level = c.read_filtering-filtering.ensures.level; sharpness = c.read_filtering-filtering.ensures.sharpness; y_ac = c.read_quantisers-quantisers.ensures.y_ac })
