use Rattle.std.proofs.Common.{◌∙◌, sym, ap, refl}
use Rattle.sal_base.specs.declared.kinds.Vector.{Vector}
use Rattle.sal_bool.specs.Reading.{Reading}
use Rattle.sal_modes.proofs.VectorLemmas.{vector_read, same_vector, kept, kept_small}
use Rattle.sal_modes.proofs.vectors.read_vector.Goals as goal

pub returns : goal.returns
returns c =
    let row = c.read_component-row.result in
    let column = c.read_component-column.result in
    let same = same_vector row column _ _ (sym (kept row row refl c.read_component-row.ensures.small)) (sym (kept column column refl c.read_component-column.ensures.small)) in
    record {
      reads = vector_read c.args.probabilities.now _ _ _ _ _ c.read_component-row.ensures.reads c.read_component-column.ensures.reads ∙ ap (λ (v : Vector). let x : Vector × Reading = (v, c.read_component-column.new.decoder) in x) same;
      row = kept_small row c.read_component-row.ensures.small;
      column = kept_small column c.read_component-column.ensures.small;
    }
