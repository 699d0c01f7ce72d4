use Rattle.std.proofs.Common.{refl}
use Rattle.sal_script.specs.declared.line.ScriptLine.TheVariants.{Next, NextLate, Down, Up, DownAll, UpAll, Wait, Rest}
use Rattle.sal_world.specs.Script.{down_all, up_all, wait}
use Rattle.sal_run.specs.Loop.{session_of}
use Rattle.sal_run.proofs.Onward.{said_goes, plain_goes, down_all_grows, up_all_grows, wait_grows, comes_at}
use Rattle.sal_run.proofs.script.line.Goals as goal

pub returns-in-Next-clause-goes : goal.returns-in-Next-clause-goes
returns-in-Next-clause-goes g c r is = said_goes g.C.Codec.coding c.args.pictures.now.head g.J.Diary.gives c.args.pictures.now.place c.args.number _ Next _ _ _ _ _ _ _ _ r c.next.result c.in-Next.is (c.next.ensures.goes r _ is)

pub returns-in-NextLate-clause-goes : goal.returns-in-NextLate-clause-goes
returns-in-NextLate-clause-goes g c r is = said_goes g.C.Codec.coding c.args.pictures.now.head g.J.Diary.gives c.args.pictures.now.place c.args.number _ NextLate _ _ _ _ _ _ _ _ r c.next-in-NextLate.result c.in-NextLate.is (c.next-in-NextLate.ensures.goes r _ is)

pub returns-in-Down-clause-goes : goal.returns-in-Down-clause-goes
returns-in-Down-clause-goes g c r is = said_goes g.C.Codec.coding c.args.pictures.now.head g.J.Diary.gives c.args.pictures.now.place c.args.number _ (Down c.in-Down.which) _ _ _ _ _ _ _ _ r c.down.result c.in-Down.is (c.down.ensures.goes c.args.pictures.now.head c.args.pictures.now.place _ _ r is)

pub returns-in-Up-clause-goes : goal.returns-in-Up-clause-goes
returns-in-Up-clause-goes g c r is = said_goes g.C.Codec.coding c.args.pictures.now.head g.J.Diary.gives c.args.pictures.now.place c.args.number _ (Up c.in-Up.which) _ _ _ _ _ _ _ _ r c.up.result c.in-Up.is (c.up.ensures.goes c.args.pictures.now.head c.args.pictures.now.place _ _ r _ is)

pub returns-in-DownAll-clause-goes : goal.returns-in-DownAll-clause-goes
returns-in-DownAll-clause-goes g c r is = said_goes g.C.Codec.coding c.args.pictures.now.head g.J.Diary.gives c.args.pictures.now.place c.args.number _ DownAll _ _ _ _ _ _ _ _ r c.down_all.result c.in-DownAll.is (plain_goes g.C.Codec.coding c.args.pictures.now.head g.J.Diary.gives c.args.pictures.now.place (c.args.number, DownAll) (down_all g.C.Codec.coding (session_of c.args.pictures.now.head)) _ _ _ _ _ _ _ _ _ _ r c.down_all.result (λ q. down_all_grows g.C.Codec.coding c.args.pictures.now.head q) (λ more fault q same. refl) is (λ q at. c.down_all.ensures.comes c.args.pictures.now.head q at))

pub returns-in-UpAll-clause-goes : goal.returns-in-UpAll-clause-goes
returns-in-UpAll-clause-goes g c r is = said_goes g.C.Codec.coding c.args.pictures.now.head g.J.Diary.gives c.args.pictures.now.place c.args.number _ UpAll _ _ _ _ _ _ _ _ r c.up_all.result c.in-UpAll.is (plain_goes g.C.Codec.coding c.args.pictures.now.head g.J.Diary.gives c.args.pictures.now.place (c.args.number, UpAll) (up_all g.C.Codec.coding (session_of c.args.pictures.now.head)) _ _ _ _ _ _ _ _ _ _ r c.up_all.result (λ q. up_all_grows g.C.Codec.coding c.args.pictures.now.head q) (λ more fault q same. refl) is (λ q at. c.up_all.ensures.comes c.args.pictures.now.head q _ at))

pub returns-in-Wait-clause-goes : goal.returns-in-Wait-clause-goes
returns-in-Wait-clause-goes g c r is = said_goes g.C.Codec.coding c.args.pictures.now.head g.J.Diary.gives c.args.pictures.now.place c.args.number _ (Wait c.in-Wait.time) _ _ _ _ _ _ _ _ r c.wait.result c.in-Wait.is (plain_goes g.C.Codec.coding c.args.pictures.now.head g.J.Diary.gives c.args.pictures.now.place (c.args.number, Wait c.in-Wait.time) (wait g.C.Codec.coding (session_of c.args.pictures.now.head) c.in-Wait.time) _ _ _ _ _ _ _ _ _ _ r c.wait.result (λ q. wait_grows g.C.Codec.coding c.args.pictures.now.head c.in-Wait.time q) (λ more fault q same. refl) is (λ q at. comes_at g.C.Codec.coding c.args.pictures.now.head g.J.Diary.gives _ _ _ _ (wait g.C.Codec.coding (session_of c.args.pictures.now.head)) _ c.in-Wait.time q c.wait.result c.from.ensures (c.wait.ensures.comes c.args.pictures.now.head q _ at)))

pub returns-in-Rest-clause-goes : goal.returns-in-Rest-clause-goes
returns-in-Rest-clause-goes g c r is = said_goes g.C.Codec.coding c.args.pictures.now.head g.J.Diary.gives c.args.pictures.now.place c.args.number _ Rest _ _ _ _ _ _ _ _ r c.rest.result c.in-Rest.is (c.rest.ensures.goes c.args.number r is)
