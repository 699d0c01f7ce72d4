use Rattle.sal_app.proofs.TopLemmas.{put_printed, complete}
use Rattle.sal_app.proofs.app.salsify_alone.Goals as goal

pub returns-clause-serves : goal.returns-clause-serves
returns-clause-serves g c = (c.serve-status.result, (c.serve-status.ensures.answers, put_printed _ _ _ c.show-put.result _ _ _ _ c.printed.ensures c.show-put.ensures.bytes c.show-put.ensures.cause))

pub returns-clause-complete : goal.returns-clause-complete
returns-clause-complete g c =
    let served = returns-clause-serves g c in
    complete _ _ _ _ _ _ _ _ _ _ served.0 _ served.1.0 served.1.1
