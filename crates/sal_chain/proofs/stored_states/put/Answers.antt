use Rattle.std.proofs.Common.{arith, ap, ◌∙◌, ◌≡◌}
use Rattle.std.specs.List.{insert}
use Rattle.sal_chain.specs.Held.{inserted, place_in}
use Rattle.sal_chain.proofs.TableLemmas.{place_short, placed_insert}
use Rattle.sal_chain.proofs.stored_states.put.Goals as goal

pub insert-requires : goal.insert-requires
insert-requires g c =
    let a = place_short c.args.k.number c.as_slice.result.now in
    omega (arith, c.place_of-at.ensures, c.as_slice.ensures.len)

pub returns-clause-kept : goal.returns-clause-kept
returns-clause-kept g c =
    let at : c.place_of-at.result ≡ place_in c.args.k.number c.args.items.now.items = c.place_of-at.ensures ∙ ap (λ xs. place_in c.args.k.number xs) c.as_slice.ensures.value in
    let same : insert c.args.items.now.items c.place_of-at.result c.args.k ≡ inserted c.args.k c.args.items.now.items = ap (λ n. insert c.args.items.now.items n c.args.k) at ∙ placed_insert c.args.k c.args.items.now.items in
    rw (c.unwrap.ensures) at c.insert.ensures.items ∙ same
