use Rattle.std.proofs.Common.{arith}
use Rattle.sal_desk.proofs.Storing.{before_below, popped, emptied, voided_first, voided_last, last_fits}
use Rattle.sal_desk.proofs.history.Log.push_void.Goals as goal

pub overflow_add-self : goal.overflow_add-self
overflow_add-self g c =
    let small = c.requires in
    let low = before_below c.args.self.now.before c.args.self.now.stored.items in
    omega (arith, low, small)

pub overflow_add-voids : goal.overflow_add-voids
overflow_add-voids g c =
    let small = c.requires in
    let low = last_fits c.args.self.now.before c.in-Some.field-0 _ _ (popped _ _ _ _ c.pop.ensures.items c.in-Some.is) in
    omega (arith, low, small)

pub returns-in-None : goal.returns-in-None
returns-in-None g c =
    let gone = emptied _ _ _ _ c.pop.ensures.items c.in-None.is c.pop.ensures.rest (c.in-None.ensures).cases.0 in
    voided_first c.args.self.now.before _ _ gone.0 gone.1

pub returns-in-Some : goal.returns-in-Some
returns-in-Some g c =
    voided_last c.args.self.now.before c.in-Some.field-0 _ _ _ (popped _ _ _ _ c.pop.ensures.items c.in-Some.is) c.push_reserved.ensures.items
