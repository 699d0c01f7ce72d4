use Rattle.std.proofs.Common.{◌<◌, ◌^◌, sym, subst}
use Rattle.sal_io.specs.Calls.{HasCause}
use Rattle.sal_run.specs.declared.end.RunEnd.TheVariants.{ReadFault, WriteFault}
use Rattle.sal_run.specs.declared.end.Which.TheVariants.{Out, Journal}
use Rattle.sal_run.specs.Ends.{RunGives, KeepsPromises, LeavesNothing, AtEnd}
use Rattle.sal_run.proofs.Promised.{session_is, where_told}
use Rattle.sal_run.proofs.Emptied.{leaves_nothing}
use Rattle.sal_run.proofs.Whole.{read_cause, out_cause, journal_cause, end_at_stop}
use Rattle.sal_run.proofs.run.run_alone.Goals as goal

pub returns-in-Ok-clause-promises : goal.returns-in-Ok-clause-promises
returns-in-Ok-clause-promises g c = where_told (g.S.Source.left c.args.pictures.now.source) (KeepsPromises g.C.Codec.coding c.args.pictures.now.head c.args.script.now) (λ bytes. c.every_run_keeps_its_promises.ensures c.args.pictures.now.head c.args.script.now bytes (session_is c.args.pictures.now.head c.requires.legal (subst (λ h. h.rate.0 < 2 ^ 32) c.head.ensures c.rate_fits.ensures.pictures) (subst (λ h. h.rate.1 < 2 ^ 32) c.head.ensures c.rate_fits.ensures.seconds)))

pub returns-in-Err-clause-promises : goal.returns-in-Err-clause-promises
returns-in-Err-clause-promises g c = where_told (g.S.Source.left c.args.pictures.now.source) (KeepsPromises g.C.Codec.coding c.args.pictures.now.head c.args.script.now) (λ bytes. c.every_run_keeps_its_promises.ensures c.args.pictures.now.head c.args.script.now bytes (session_is c.args.pictures.now.head c.requires.legal (subst (λ h. h.rate.0 < 2 ^ 32) c.head.ensures c.rate_fits.ensures.pictures) (subst (λ h. h.rate.1 < 2 ^ 32) c.head.ensures c.rate_fits.ensures.seconds)))

pub returns-in-Ok-clause-leaves : goal.returns-in-Ok-clause-leaves
returns-in-Ok-clause-leaves g c = where_told (g.S.Source.left c.args.pictures.now.source) (LeavesNothing g.C.Codec.coding c.args.pictures.now.head c.args.script.now) (λ bytes. leaves_nothing g.C.Codec.coding c.args.pictures.now.head c.args.script.now bytes (c.every_run_keeps_its_promises.ensures c.args.pictures.now.head c.args.script.now bytes (session_is c.args.pictures.now.head c.requires.legal (subst (λ h. h.rate.0 < 2 ^ 32) c.head.ensures c.rate_fits.ensures.pictures) (subst (λ h. h.rate.1 < 2 ^ 32) c.head.ensures c.rate_fits.ensures.seconds))))

pub returns-in-Err-clause-leaves : goal.returns-in-Err-clause-leaves
returns-in-Err-clause-leaves g c = where_told (g.S.Source.left c.args.pictures.now.source) (LeavesNothing g.C.Codec.coding c.args.pictures.now.head c.args.script.now) (λ bytes. leaves_nothing g.C.Codec.coding c.args.pictures.now.head c.args.script.now bytes (c.every_run_keeps_its_promises.ensures c.args.pictures.now.head c.args.script.now bytes (session_is c.args.pictures.now.head c.requires.legal (subst (λ h. h.rate.0 < 2 ^ 32) c.head.ensures c.rate_fits.ensures.pictures) (subst (λ h. h.rate.1 < 2 ^ 32) c.head.ensures c.rate_fits.ensures.seconds))))

pub returns-in-Err-clause-gives : goal.returns-in-Err-clause-gives
returns-in-Err-clause-gives g c = subst (λ e. RunGives g.C.Codec.coding c.args.pictures.now.head c.args.script.now g.J.Diary.gives c.args.pictures.now.place e (g.S.Source.left c.args.pictures.now.source) (g.K.Sink.held c.run.new.out.sink)) (sym c.end_of.ensures) c.in-Err.ensures.gives

pub returns-in-Err-clause-end : goal.returns-in-Err-clause-end
returns-in-Err-clause-end g c = subst (λ e. AtEnd e (g.S.Source.left c.run.new.pictures.source)) (sym c.end_of.ensures) (end_at_stop c.in-Err.stop _)

pub returns-in-Err-clause-cause : goal.returns-in-Err-clause-cause
returns-in-Err-clause-cause g c = subst (λ e. HasCause ReadFault (g.S.Source.faults c.args.pictures.now.source) (g.S.Source.faults c.run.new.pictures.source) e) (sym c.end_of.ensures) (read_cause _ _ c.in-Err.stop c.in-Err.ensures.cause)

pub returns-in-Err-clause-out_cause : goal.returns-in-Err-clause-out_cause
returns-in-Err-clause-out_cause g c = subst (λ e. HasCause (WriteFault Out) (g.K.Sink.faults c.args.out.now.sink) (g.K.Sink.faults c.run.new.out.sink) e) (sym c.end_of.ensures) (out_cause _ _ c.in-Err.stop c.in-Err.ensures.out_cause)

pub returns-in-Err-clause-journal_cause : goal.returns-in-Err-clause-journal_cause
returns-in-Err-clause-journal_cause g c = subst (λ e. HasCause (WriteFault Journal) (g.J.Diary.faults c.args.journal.now) (g.J.Diary.faults c.run.new.journal) e) (sym c.end_of.ensures) (journal_cause _ _ c.in-Err.stop c.in-Err.ensures.journal_cause)
