use Rattle.std.proofs.Common.{arith, ap, ◌∙◌, ◌≡◌}
use Rattle.std.specs.List.{insert}
use Rattle.sal_receiver.specs.Pending.{frame_inserted, place_in}
use Rattle.sal_receiver.proofs.FrameLemmas.{place_short, put_insert}
use Rattle.sal_receiver.proofs.pending_frames.put.Goals as goal

pub insert-requires : goal.insert-requires
insert-requires g c =
    let a = place_short c.args.p.number c.as_slice.result.now in
    omega (arith, c.place_of-at.ensures, c.as_slice.ensures.len)

pub returns : goal.returns
returns g c =
    let at : c.place_of-at.result ≡ place_in c.args.p.number c.args.items.now.items = c.place_of-at.ensures ∙ ap (λ xs. place_in c.args.p.number xs) c.as_slice.ensures.value in
    let same : insert c.args.items.now.items c.place_of-at.result c.args.p ≡ frame_inserted c.args.p c.args.items.now.items = ap (λ n. insert c.args.items.now.items n c.args.p) at ∙ put_insert c.args.p c.args.items.now.items in
    rw (c.unwrap.ensures) at c.insert.ensures.items ∙ same
