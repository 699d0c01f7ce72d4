use Rattle.std.proofs.Common.{◌<◌, List, map, length, arith, ap, sym, subst, ◌∙◌}
use Rattle.std.proofs.lemmas.List.{length-map}
use Rattle.std.specs.Arc.{arc_value}
use Rattle.sal_chain.specs.declared.stored_state.StoredState.{StoredState}
use Rattle.sal_chain.specs.StateTable.{IsStateTable}
use Rattle.sal_chain.specs.Shares.{unshared}
use Rattle.sal_chain.proofs.TableLemmas.{room_left, table_inserted, table_added}
use Rattle.sal_chain.proofs.Sharing.{placed_seen}
use Rattle.sal_chain.proofs.store.Store.add.Goals as goal

pub put-requires : goal.put-requires
put-requires g c =
    let few : length (map unshared c.self.inside.items.items) < 16 = room_left c.args.self.now c.self.inside.floor (map unshared c.self.inside.items.items) (record { number = c.args.number; name = c.args.name; state = arc_value c.args.state }) c.self.view_is c.self.invariant.0 c.requires.floor c.requires.window c.requires.fresh in
    omega (arith, length-map c.self.inside.items.items unshared, c.self.invariant.1)

pub invariant_of-self : goal.invariant_of-self
invariant_of-self g c =
    let e = ap (map unshared) c.put.ensures.kept ∙ placed_seen (record { number = c.args.number; name = c.args.name; state = c.args.state }) c.self.inside.items.items in (
      subst (λ (xs : List (StoredState g.row.C-State.Denot)). IsStateTable c.self.inside.floor xs) (sym e)
          (table_inserted c.args.self.now c.self.inside.floor (map unshared c.self.inside.items.items) (record { number = c.args.number; name = c.args.name; state = arc_value c.args.state }) c.self.view_is c.self.invariant.0 c.requires.floor c.requires.window c.requires.fresh),
      omega (arith, c.put.ensures.room, c.self.invariant.1),
    )

pub returns : goal.returns
returns g c =
    table_added c.args.self.now c.self.inside.floor (map unshared c.self.inside.items.items) (map unshared c.put.new.items.items) (record { number = c.args.number; name = c.args.name; state = arc_value c.args.state }) c.self.view_is
    (ap (map unshared) c.put.ensures.kept ∙ placed_seen (record { number = c.args.number; name = c.args.name; state = c.args.state }) c.self.inside.items.items)
