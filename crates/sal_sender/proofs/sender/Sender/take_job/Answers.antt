use Rattle.std.proofs.Common.{rules, sym, ◌∙◌, Some}
use Rattle.sal_sender.proofs.HandedOut.{taken, waits_first, waits_least}
use Rattle.sal_sender.proofs.Promised.{promised}
use Rattle.sal_sender.proofs.Works.{waiting_known}
use Rattle.sal_sender.proofs.sender.Sender.take_job.Goals as goal

pub returns-clause-answered : goal.returns-clause-answered
returns-clause-answered g c past stands = taken g.C.Codec.coding _ c.args.self.now past c.take.new.self c.mark.new.outstanding.items c.in_ok-job.job c.id.result c.self.view_is stands (sym c.take.ensures.first ∙ c.in_ok-job.was) c.take.ensures.rest c.id.ensures c.mark.ensures

pub returns-clause-waiting : goal.returns-clause-waiting
returns-clause-waiting g c past stands = waits_first g.C.Codec.coding _ c.args.self.now past (Some c.in_ok-job.job) c.self.view_is stands (sym (sym c.take.ensures.first ∙ c.in_ok-job.was))

pub returns-clause-least : goal.returns-clause-least
returns-clause-least g c past stands = waits_least g.C.Codec.coding _ c.args.self.now past c.in_ok-job.job c.self.view_is stands (sym (sym c.take.ensures.first ∙ c.in_ok-job.was))

pub returns-clause-promises : goal.returns-clause-promises
returns-clause-promises g c past stands = promised g.C.Codec.coding _ _ past stands.legal (returns-clause-answered g c past stands).0

pub returns-clause-known : goal.returns-clause-known
returns-clause-known g c past stands = waiting_known g.C.Codec.coding c.args.self.now.session past c.in_ok-job.job stands.legal (returns-clause-waiting g c past stands)

pub returns-in_err-job-clause-answered : goal.returns-in_err-job-clause-answered
returns-in_err-job-clause-answered g c past s = search rules

pub returns-in_err-job-clause-promises : goal.returns-in_err-job-clause-promises
returns-in_err-job-clause-promises g c past s = promised g.C.Codec.coding _ _ past s.legal (returns-in_err-job-clause-answered g c past s).0
