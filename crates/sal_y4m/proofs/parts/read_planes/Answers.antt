use Rattle.std.proofs.Common.{rules, ◌*◌}
use Rattle.sal_base.specs.Picture.{half}
use Rattle.sal_y4m.proofs.PictureLemmas.{planes_fail, planes_read, luma_short, chroma_short, last_short, all_taken, front_chroma, front_planes}
use Rattle.sal_y4m.proofs.parts.read_planes.Goals as goal

pub returns-clause-told : goal.returns-clause-told
returns-clause-told g c = (
  planes_read c.args.head _ _ _ _ _ _ _ _ _ (search rules) (search rules) c.in_ok-y.ensures.told.0 c.in_ok-u.ensures.told.0 c.in_ok-v.ensures.told.0,
  all_taken _ _ _ (half c.args.head.width) (half c.args.head.height) _ _ _ _ _ _ _ _ (search rules) (search rules) c.in_ok-y.ensures.told.1 c.in_ok-u.ensures.told.1 c.in_ok-v.ensures.told.1,
)

pub returns-in_err-y-clause-told : goal.returns-in_err-y-clause-told
returns-in_err-y-clause-told g c =
    planes_fail c.args.head _ _ _ _ _ c.from_residual.result c.from_residual.ensures.1
    (luma_short (c.args.head.width * c.args.head.height) (half c.args.head.width * half c.args.head.height) _ _ _ _ c.in_err-y.ensures.told)

pub returns-in_err-u-clause-told : goal.returns-in_err-u-clause-told
returns-in_err-u-clause-told g c =
    planes_fail c.args.head _ _ _ _ _ c.from_residual-in_err-u.result c.from_residual-in_err-u.ensures.1
    (chroma_short (c.args.head.width * c.args.head.height) _ _ (half c.args.head.width) (half c.args.head.height) _ _ _ _ _ _ (search rules) (search rules) c.in_ok-y.ensures.told.1 c.in_err-u.ensures.told)

pub returns-in_err-v-clause-told : goal.returns-in_err-v-clause-told
returns-in_err-v-clause-told g c =
    planes_fail c.args.head _ _ _ _ _ c.from_residual-in_err-v.result c.from_residual-in_err-v.ensures.1
    (last_short (c.args.head.width * c.args.head.height) _ _ (half c.args.head.width) (half c.args.head.height) _ _ _ _ _ _ _ _ (search rules) (search rules) c.in_ok-y.ensures.told.1 c.in_ok-u.ensures.told.1 c.in_err-v.ensures.told)

pub returns-in_err-u-clause-front : goal.returns-in_err-u-clause-front
returns-in_err-u-clause-front g c =
    front_chroma (c.args.head.width * c.args.head.height) _ _ (half c.args.head.width) (half c.args.head.height) _ _ _ (search rules) (search rules) c.in_ok-y.ensures.front c.in_err-u.ensures.front

pub returns-in_err-v-clause-front : goal.returns-in_err-v-clause-front
returns-in_err-v-clause-front g c =
    front_planes (c.args.head.width * c.args.head.height) _ _ (half c.args.head.width) (half c.args.head.height) _ _ _ _ (search rules) (search rules) c.in_ok-y.ensures.front c.in_ok-u.ensures.front c.in_err-v.ensures.front

pub returns-clause-front : goal.returns-clause-front
returns-clause-front g c =
    front_planes (c.args.head.width * c.args.head.height) _ _ (half c.args.head.width) (half c.args.head.height) _ _ _ _ (search rules) (search rules) c.in_ok-y.ensures.front c.in_ok-u.ensures.front c.in_ok-v.ensures.front
