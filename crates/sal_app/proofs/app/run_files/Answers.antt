use Rattle.std.proofs.Common.{[], ◌∷◌, ◌++◌, sym, ap, ◌∙◌, subst}
use Rattle.sal_io.specs.Past.Past.{In, Out}
use Rattle.sal_io.specs.Calls.{IsOpened, IsCreated}
use Rattle.sal_app.proofs.TopLemmas.{run_answered}
use Rattle.sal_app.proofs.app.run_files.Goals as goal

pub returns-clause-answers : goal.returns-clause-answers
returns-clause-answers g c =
    let name = g.F.In.Source.name in
    let had = g.F.In.Source.had in
    let left = g.F.In.Source.left in
    let faults = g.F.In.Source.faults in
    let oname = g.F.Out.Sink.name in
    let held = g.F.Out.Sink.held in
    let ofaults = g.F.Out.Sink.faults in
    let opened = subst (λ s. IsOpened c.args.input.now (g.F.Shelf.holds c.args.files.now c.args.input.now) (name s) (had s) (left s) (faults s)) (sym c.new-pictures.ensures.source) c.in-Ok.ensures.opened in
    let created = subst (λ s. IsCreated c.args.output.now (oname s) (held s) (ofaults s)) (sym c.new-out.ensures.sink) c.in-Ok-create.ensures.created in
    run_answered c.args.input.now c.args.script.now c.args.output.now (g.F.Shelf.holds c.args.files.now) (g.F.Shelf.holds c.open.new.self) _ _ _ _ _ _ _ _ _ c.run_loop-end.result c.status_of.result
    _ _ _ _ _ _ _ _ _ _ _ _ _ _ _ _ _ _ _ _ _ _
    c.status_of.ensures opened c.in-Ok-open.ensures.opened created c.open.ensures.holds
    c.open.ensures.pasts c.open-2.ensures.pasts c.create.ensures.pasts
    (c.shut_in-2.ensures.pasts ∙ ap (λ s. g.F.Shelf.pasts c.create.new.self ++ In (name s) (had s) (left s) (faults s) ∷ []) c.into_source.ensures)
    c.shut_in-3.ensures.pasts
    (c.shut_out.ensures.pasts ∙ ap (λ s. g.F.Shelf.pasts c.shut_in-3.new.self ++ Out (oname s) (held s) (ofaults s) ∷ []) c.into_sink.ensures)
    c.run_loop-end.ensures.name c.run_loop-end.ensures.had c.run_loop-end.ensures.script_name c.run_loop-end.ensures.script_had c.run_loop-end.ensures.out_name
    c.run_loop-end.ensures.gives c.run_loop-end.ensures.end c.run_loop-end.ensures.script_end
    c.run_loop-end.ensures.cause c.run_loop-end.ensures.script_cause c.run_loop-end.ensures.out_cause
