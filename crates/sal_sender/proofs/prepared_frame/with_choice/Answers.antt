use Rattle.sal_sender.proofs.Near.{longer_is}
use Rattle.sal_sender.proofs.prepared_frame.with_choice.Goals as goal

pub returns : goal.returns
returns c = longer_is c.args.choice c.args.sent_frames.now _ _ _ c.in_ok-insert.ensures.items c.keep_from.ensures c.in_ok-with_choice.ensures.items
