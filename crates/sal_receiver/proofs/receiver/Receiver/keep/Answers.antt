use Rattle.std.proofs.Common.{◌<◌, ◌≤◌, map, ap, sym, ◌∙◌, arith}
use Rattle.std.proofs.lemmas.Bool.{cond-true, cond-false, le-leb, lt-leb}
use Rattle.sal_receiver.specs.Pending.{frame_unshared, without}
use Rattle.sal_receiver.proofs.SeenLemmas.{without_seen}
use Rattle.sal_receiver.proofs.BookLemmas.{with_frames}
use Rattle.sal_receiver.proofs.receiver.Receiver.keep.Goals as goal

pub returns : goal.returns
returns g c =
    let low : c.args.self.now.store.floor ≤ c.args.number = omega (arith, c.if-number-self.false, c.self.invariant.1, ap (λ b. b.store.floor) c.self.view_is) in
    c.hold.ensures ∙ sym (cond-true _ _ _ (le-leb _ _ low))

pub returns-then-number-self : goal.returns-then-number-self
returns-then-number-self g c =
    let below : c.args.number < c.args.self.now.store.floor = omega (arith, c.if-number-self.true, c.self.invariant.1, ap (λ b. b.store.floor) c.self.view_is) in
    with_frames c.args.self.now c.self.inside.known c.self.inside.slots c.self.inside.store (map frame_unshared c.self.inside.frames.items) (map frame_unshared c.remove.new.items.items) c.self.inside.last (without c.args.number) c.self.view_is
    (ap (λ xs. map frame_unshared xs) c.remove.ensures ∙ without_seen c.args.number c.self.inside.frames.items)
    ∙ sym (cond-false _ _ _ (lt-leb _ _ below))
