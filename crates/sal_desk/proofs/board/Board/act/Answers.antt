use Rattle.std.proofs.Common.{◌∙◌}
use Rattle.sal_desk.specs.Histories.{entries}
use Rattle.sal_desk.proofs.Acting.{may_now, working, longer, items_now, rests, started, acted}
use Rattle.sal_desk.proofs.board.Board.act.Goals as goal

pub play-reply-requires-clause-may : goal.play-reply-requires-clause-may
play-reply-requires-clause-may g c =
    let m = g.M.Machine in
    let start = c.args.self.now.table.shared.key.value in
    let held = c.take-ticket.ensures.taken in
    let may = may_now m.stands m.answers m.follows m.voided m.may start _ _ _ c.args.call _ held g.met.M.Machine.may_stays c.requires.may in
    (start, (entries held.log, (held.stands_for, may)))

pub finish-requires-clause-working : goal.finish-requires-clause-working
finish-requires-clause-working g c =
    let m = g.M.Machine in
    let start = c.args.self.now.table.shared.key.value in
    let held = c.take-ticket.ensures.taken in
    let may = may_now m.stands m.answers m.follows m.voided m.may start _ _ _ c.args.call _ held g.met.M.Machine.may_stays c.requires.may in
    let played = c.play-reply.ensures start (entries held.log) held.stands_for may in
    working m.stands m.answers m.follows m.voided m.may start _ _ _ c.args.call _ held _ _ played

pub finish-requires-clause-longer : goal.finish-requires-clause-longer
finish-requires-clause-longer g c =
    let m = g.M.Machine in
    let start = c.args.self.now.table.shared.key.value in
    let held = c.take-ticket.ensures.taken in
    let may = may_now m.stands m.answers m.follows m.voided m.may start _ _ _ c.args.call _ held g.met.M.Machine.may_stays c.requires.may in
    let played = c.play-reply.ensures start (entries held.log) held.stands_for may in
    longer m.stands m.answers m.follows m.voided m.may start _ _ _ c.args.call _ held _ _ played

pub returns-clause-rests : goal.returns-clause-rests
returns-clause-rests g c =
    let m = g.M.Machine in
    let start = c.args.self.now.table.shared.key.value in
    let held = c.take-ticket.ensures.taken in
    let may = may_now m.stands m.answers m.follows m.voided m.may start _ _ _ c.args.call _ held g.met.M.Machine.may_stays c.requires.may in
    let played = c.play-reply.ensures start (entries held.log) held.stands_for may in
    let after = c.finish.ensures.after played.made (items_now m.stands m.answers m.follows m.voided m.may start _ _ _ c.args.call _ held _ _ played) in
    rests m.stands m.answers m.follows m.voided m.may start _ _ _ c.args.call _ held _ _ played _ after

pub returns-clause-own : goal.returns-clause-own
returns-clause-own g c =
    let m = g.M.Machine in
    let start = c.args.self.now.table.shared.key.value in
    let held = c.take-ticket.ensures.taken in
    let may = may_now m.stands m.answers m.follows m.voided m.may start _ _ _ c.args.call _ held g.met.M.Machine.may_stays c.requires.may in
    let played = c.play-reply.ensures start (entries held.log) held.stands_for may in
    let after = c.finish.ensures.after played.made (items_now m.stands m.answers m.follows m.voided m.may start _ _ _ c.args.call _ held _ _ played) in
    (c.finish.ensures.own ∙ (c.take-ticket.ensures.own ∙ c.requires.own.0), started m.stands m.answers m.follows m.voided m.may start _ _ _ c.args.call _ held _ _ played _ after c.requires.own.1)

pub returns-clause-acted : goal.returns-clause-acted
returns-clause-acted g c =
    let m = g.M.Machine in
    let start = c.args.self.now.table.shared.key.value in
    let held = c.take-ticket.ensures.taken in
    let may = may_now m.stands m.answers m.follows m.voided m.may start _ _ _ c.args.call _ held g.met.M.Machine.may_stays c.requires.may in
    let played = c.play-reply.ensures start (entries held.log) held.stands_for may in
    let after = c.finish.ensures.after played.made (items_now m.stands m.answers m.follows m.voided m.may start _ _ _ c.args.call _ held _ _ played) in
    acted m.stands m.answers m.follows m.voided m.may start _ _ _ c.args.call _ held _ _ played _ after _ _
