use Rattle.std.proofs.Common.{ap, ◌∙◌}
use Rattle.sal_desk.specs.Stored.{unpacked}
use Rattle.sal_desk.proofs.Storing.{entry_more}
use Rattle.sal_desk.proofs.history.Log.push.Goals as goal

pub returns : goal.returns
returns g c = ap (unpacked c.args.self.now.before) c.push_reserved.ensures.items ∙ entry_more _ c.args.self.now.stored.items c.args.entry
