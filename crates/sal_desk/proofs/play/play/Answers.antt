use Rattle.std.proofs.Common.{ap, sym, subst, ◌∙◌, ◌++◌, ◌∷◌, [], Some, None}
use Rattle.std.proofs.lemmas.List.{append-nil}
use Rattle.sal_desk.proofs.play.play.Goals as goal

pub returns-then-has_room : goal.returns-then-has_room
returns-then-has_room g c start log stands may =
    let entry = c.step-reply.result.1 in
    record {
      made = Some entry;
      items = c.push.ensures ∙ ap (λ l. l ++ Some entry ∷ []) c.has_room.ensures.items;
      answered = c.step-reply.ensures.answered start log stands may;
      follow = (c.step-reply.ensures.follows start log stands may, tt);
      stands_for = c.step-reply.ensures.stands start log stands may;
    }

pub returns-else-has_room : goal.returns-else-has_room
returns-else-has_room g c start log stands may = record {
  made = None;
  items = c.push_void.ensures ∙ ap (λ l. l ++ None ∷ []) c.has_room.ensures.items;
  answered = c.void.ensures;
  follow = tt;
  stands_for = subst (λ l. g.M.Machine.stands start c.args.kept.machine l) (sym (append-nil log)) stands;
}
