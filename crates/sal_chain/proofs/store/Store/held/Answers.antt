use Rattle.std.proofs.Common.{◌≤◌, map, length, arith, ap, ◌∙◌}
use Rattle.std.proofs.lemmas.List.{length-map}
use Rattle.sal_chain.specs.Held.{number_and_name}
use Rattle.sal_chain.specs.Shares.{unshared}
use Rattle.sal_chain.proofs.TableLemmas.{table_short}
use Rattle.sal_chain.proofs.Sharing.{labels_seen}
use Rattle.sal_chain.proofs.store.Store.held.Goals as goal

pub numbers_and_names-requires : goal.numbers_and_names-requires
numbers_and_names-requires g c =
    let few : length (map unshared c.self.inside.items.items) ≤ 16 = table_short c.self.inside.floor (map unshared c.self.inside.items.items) c.self.invariant.0 in
    omega (arith, length-map c.self.inside.items.items unshared, ap length c.as_slice.ensures.value)

pub returns-clause-value : goal.returns-clause-value
returns-clause-value g c =
    c.numbers_and_names.ensures ∙ (ap (map number_and_name) c.as_slice.ensures.value ∙ (labels_seen c.self.inside.items.items ∙ ap (λ v. map number_and_name v.kept) c.self.view_is))
