use Rattle.std.proofs.Common.{List, map, arith, ap, sym, subst, ◌∙◌}
use Rattle.sal_chain.specs.declared.stored_state.StoredState.{StoredState}
use Rattle.sal_chain.specs.StateTable.{IsStateTable}
use Rattle.sal_chain.specs.Shares.{unshared}
use Rattle.sal_chain.proofs.TableLemmas.{table_not_below, table_raised}
use Rattle.sal_chain.proofs.Sharing.{from_seen}
use Rattle.sal_chain.proofs.store.Store.raise_floor.Goals as goal

pub invariant_of-self : goal.invariant_of-self
invariant_of-self g c =
    let e = ap (map unshared) c.keep_from.ensures.kept ∙ from_seen c.max-self-inside.result c.self.inside.items.items in (
      subst (λ (xs : List (StoredState g.row.C-State.Denot)). IsStateTable c.max-self-inside.result xs) (sym e)
          (table_not_below c.self.inside.floor c.max-self-inside.result (map unshared c.self.inside.items.items) c.self.invariant.0 (omega (arith, c.max-self-inside.ensures))),
      omega (arith, c.keep_from.ensures.room, c.self.invariant.1),
    )

pub returns : goal.returns
returns g c =
    table_raised c.args.self.now c.self.inside.floor c.args.floor c.max-self-inside.result (map unshared c.self.inside.items.items) (map unshared c.keep_from.new.items.items) c.self.view_is c.max-self-inside.ensures
    (ap (map unshared) c.keep_from.ensures.kept ∙ from_seen c.max-self-inside.result c.self.inside.items.items)
