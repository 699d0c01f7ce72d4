use Rattle.std.proofs.Common.{◌∙◌, ℤ}
use Rattle.sal_bool.proofs.Meaning.{run_on, run_done}
use Rattle.sal_header.specs.declared.parts.Quantisers.{Quantisers}
use Rattle.sal_header.specs.Headers.{quantisers}
use Rattle.sal_header.proofs.Values.{as_read, passed_five}
use Rattle.sal_header.proofs.read.read_quantisers.Goals as goal

pub returns-clause-reads : goal.returns-clause-reads
unfolding quantisers
returns-clause-reads c =
    let of_five : ℤ → ℤ → ℤ → ℤ → ℤ → Quantisers = λ a b d e f. record { y_ac = c.small-y_ac.result; y_dc = a; y2_dc = b; y2_ac = d; uv_dc = e; uv_ac = f } in
    let all = run_on _ _ _ _ _ c.small-y_ac.ensures.reads ∙ (run_on _ _ _ _ _ c.index_delta-y_dc.ensures.reads ∙ (run_on _ _ _ _ _ c.index_delta-y2_dc.ensures.reads ∙ (run_on _ _ _ _ _ c.index_delta-y2_ac.ensures.reads ∙ (run_on _ _ _ _ _ c.index_delta-uv_dc.ensures.reads ∙ (run_on _ _ _ _ _ c.index_delta-uv_ac.ensures.reads ∙ run_done _ _))))) in
    as_read quantisers _ (of_five c.index_delta-y_dc.result c.index_delta-y2_dc.result c.index_delta-y2_ac.result c.index_delta-uv_dc.result c.index_delta-uv_ac.result) _ _ all
    (passed_five of_five _ _ _ _ _ (record { sfits = c.index_delta-y_dc.type_inv }) (record { sfits = c.index_delta-y2_dc.type_inv }) (record { sfits = c.index_delta-y2_ac.type_inv }) (record { sfits = c.index_delta-uv_dc.type_inv }) (record { sfits = c.index_delta-uv_ac.type_inv }))
