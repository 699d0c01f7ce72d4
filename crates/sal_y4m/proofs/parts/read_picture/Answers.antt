use Rattle.std.proofs.Common.{[]}
use Rattle.sal_io.proofs.ToldLemmas.{takes_more}
use Rattle.sal_y4m.specs.Grammar.{samples_of}
use Rattle.sal_y4m.proofs.PictureLemmas.{picture_read, picture_fails, fails_unread, line_unread, counts_picture}
use Rattle.sal_y4m.proofs.parts.read_picture.Goals as goal

pub returns-in-End-clause-count : goal.returns-in-End-clause-count
returns-in-End-clause-count g c = ([], c.in-End.ensures.told.1, c.in-End.ensures.told.2)

pub returns-in-Failed-clause-unread : goal.returns-in-Failed-clause-unread
returns-in-Failed-clause-unread g c = λ _. let told = c.in-Failed.ensures.told in line_unread c.args.head _ _ told.0 told.1 told.2

pub returns-in_err-picture-clause-told : goal.returns-in_err-picture-clause-told
returns-in_err-picture-clause-told g c =
    picture_fails c.args.head _ _ _ _ _ c.in-Frame.ensures.told.0 _ c.from_residual.result c.from_residual.ensures.1 c.in-Frame.ensures.told.1 c.in_err-picture.ensures.told

pub returns-in_err-picture-clause-unread : goal.returns-in_err-picture-clause-unread
returns-in_err-picture-clause-unread g c =
    fails_unread c.args.head _ _ _ _ _ c.in-Frame.ensures.told.0 _ c.from_residual.result c.from_residual.ensures.1 c.in-Frame.ensures.told.1 c.in_err-picture.ensures.told

pub returns-in_err-picture-clause-front : goal.returns-in_err-picture-clause-front
returns-in_err-picture-clause-front g c = takes_more 256 (samples_of c.args.head.width c.args.head.height) _ _ _ c.in-Frame.ensures.front c.in_err-picture.ensures.front

pub returns-clause-told : goal.returns-clause-told
returns-clause-told g c = picture_read c.args.head _ _ _ _ _ c.in-Frame.ensures.told.0 _ c.in-Frame.ensures.told.1 c.in_ok-picture.ensures.told.0

pub returns-clause-count : goal.returns-clause-count
returns-clause-count g c = counts_picture (samples_of c.args.head.width c.args.head.height) _ _ _ _ _ _ c.in-Frame.ensures.told.0 c.in-Frame.ensures.told.1 c.in_ok-picture.ensures.told.1

pub returns-clause-front : goal.returns-clause-front
returns-clause-front g c = takes_more 256 (samples_of c.args.head.width c.args.head.height) _ _ _ c.in-Frame.ensures.front c.in_ok-picture.ensures.front
