use Rattle.std.proofs.Common.{◌≤◌, map, ap, sym, ◌∙◌, subst}
use Rattle.sal_chain.specs.Held.{inserted}
use Rattle.sal_receiver.specs.Pending.{frame_unshared, without, wanting}
use Rattle.sal_receiver.proofs.SeenLemmas.{without_seen, wanting_seen}
use Rattle.sal_receiver.proofs.BookLemmas.{held_book}
use Rattle.sal_receiver.proofs.receiver.Receiver.hold.Goals as goal

pub feed-state-requires : goal.feed-state-requires
feed-state-requires g c =
    subst (λ n. n ≤ c.args.shares.others) (sym (ap (λ b. wanting c.args.name.0 b.frames) c.self.view_is) ∙ wanting_seen c.args.name.0 c.self.inside.frames.items) c.requires.enough

pub returns : goal.returns
returns g c =
    held_book c.args.self.now c.self.inside.known c.self.inside.slots c.self.inside.store c.add.new.self (map frame_unshared c.self.inside.frames.items) (map frame_unshared c.remove.new.items.items) c.self.inside.last c.args.number c.args.name c.args.shares.state c.self.view_is
    (c.add.ensures ∙ ap (λ s. record { floor = c.self.inside.store.floor; kept = inserted (record { number = c.args.number; name = c.args.name; state = s }) c.self.inside.store.kept }) c.feed-state.ensures.share)
    (ap (λ xs. map frame_unshared xs) c.remove.ensures ∙ (without_seen c.args.number c.feed-state.new.items.items ∙ ap (λ xs. without c.args.number xs) c.feed-state.ensures.fed))
