use Rattle.std.proofs.Common.{rules, ap, ◌∙◌}
use Rattle.sal_sender.specs.Machine.{flag}
use Rattle.sal_sender.proofs.ReportedBack.{report_taken, report_left, late_keeps}
use Rattle.sal_sender.proofs.Promised.{promised}
use Rattle.sal_sender.proofs.sender.Sender.report.Goals as goal

pub returns-clause-answer : goal.returns-clause-answer
returns-clause-answer g c past s = (report_taken g.C.Codec.coding _ c.args.self.now past c.args.report.work c.args.report.gave c.id-id.result c.keep-is_open.new.open_picture c.mark.new.outstanding.items c.keep-is_open.result c.kept_or_late.result c.self.view_is s c.id-id.ensures (c.if-not-is_outstanding.ensures ∙ ap (λ xs. flag xs c.id-id.result) c.as_slice.ensures.value) c.mark.ensures c.keep-is_open.ensures.known c.keep-is_open.ensures.kept c.kept_or_late.ensures).0

pub returns-clause-answered : goal.returns-clause-answered
returns-clause-answered g c past s own =
    let taken = report_taken g.C.Codec.coding _ c.args.self.now past c.args.report.work c.args.report.gave c.id-id.result c.keep-is_open.new.open_picture c.mark.new.outstanding.items c.keep-is_open.result c.kept_or_late.result c.self.view_is s c.id-id.ensures (c.if-not-is_outstanding.ensures ∙ ap (λ xs. flag xs c.id-id.result) c.as_slice.ensures.value) c.mark.ensures c.keep-is_open.ensures.known c.keep-is_open.ensures.kept c.kept_or_late.ensures in
    (taken.0, taken.1 own)

pub returns-clause-after : goal.returns-clause-after
returns-clause-after g c = report_left _ c.args.self.now c.args.report c.id-id.result c.keep-is_open.new.open_picture c.mark.new.outstanding.items c.keep-is_open.result c.kept_or_late.result c.self.view_is c.id-id.ensures c.mark.ensures c.keep-is_open.ensures.known c.keep-is_open.ensures.kept c.kept_or_late.ensures

pub returns-clause-promises : goal.returns-clause-promises
returns-clause-promises g c past s = promised g.C.Codec.coding _ _ past s.legal (returns-clause-answer g c past s)

pub returns-clause-late : goal.returns-clause-late
returns-clause-late g c = λ late. late_keeps c.args.self.now _ c.args.report c.kept_or_late.result (returns-clause-after g c) late

pub returns-then-not-is_outstanding-clause-answer : goal.returns-then-not-is_outstanding-clause-answer
returns-then-not-is_outstanding-clause-answer g c past s = search rules

pub returns-then-not-is_outstanding-clause-promises : goal.returns-then-not-is_outstanding-clause-promises
returns-then-not-is_outstanding-clause-promises g c past s = promised g.C.Codec.coding _ _ past s.legal (returns-then-not-is_outstanding-clause-answer g c past s)
