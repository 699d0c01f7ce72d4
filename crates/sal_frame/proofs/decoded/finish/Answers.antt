use Rattle.std.proofs.Common.{◌∙◌, sym, ap}
use Rattle.sal_header.specs.declared.header.Kept.{Kept}
use Rattle.sal_header.specs.declared.header.Header.{Header}
use Rattle.sal_frame.specs.After.{map_after}
use Rattle.sal_frame.proofs.Finished.{filtered_planes, cut_picture, all_of_it}
use Rattle.sal_frame.proofs.decoded.finish.Goals as goal

pub returns-clause-decoded : goal.returns-clause-decoded
returns-clause-decoded c f header width height built noted probs =
    let planes = filtered_planes c.args.state.now.references f c.args.header.now c.args.infos.now c.args.planes c.filter.new.planes header built noted c.filter.ensures.filtered in
    let segments = c.in_ok-map.ensures.after f header noted ∙ ap (λ (k : Kept). map_after f k.map) c.kept.ensures.kept in
    all_of_it c.args.state.now c.in_ok-next.next f c.in_ok-picture.picture c.args.header.now.shown
    (c.in_ok-next.ensures.after f header width height planes segments probs)
    (cut_picture c.args.state.now f c.args.width c.args.height c.filter.new.planes c.in_ok-picture.picture width height planes c.in_ok-picture.ensures.cropped)
    (sym (ap (λ (h : Header). h.shown) header))
