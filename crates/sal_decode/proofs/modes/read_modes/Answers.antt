use Rattle.std.proofs.Common.{◌≡◌, ◌∙◌, ◌*◌, [], sym, ap, subst, All, arith}
use Rattle.std.proofs.lemmas.List.Elements.{All-nil, All-push}
use Rattle.sal_bool.specs.Syntax.{run}
use Rattle.sal_macroblock.specs.Macroblocks.{HasFittingModes}
use Rattle.sal_modes.proofs.Raster.{holds_more}
use Rattle.sal_decode.specs.FirstPartition.{mb_modes}
use Rattle.sal_decode.specs.Standing.{IsIntraKind}
use Rattle.sal_decode.proofs.ModesRead.{Onward, one_more, all_read, none_read, at_first, after_row, whole_row}
use Rattle.sal_decode.proofs.modes.read_modes.Goals.{then-row-rows, else-row-rows}
use Rattle.sal_decode.proofs.modes.read_modes.Goals as goal

pub loop-row-init : goal.loop-row-init
loop-row-init c =
    let none = c.reserve.ensures.items ∙ c.new-modes.ensures.items in (
      at_first c.args.columns c.args.rows c.reserve.new.self.items c.in_ok-context.context none c.in_ok-context.ensures,
      subst (λ xs. Onward c.args.header.now c.args.probs.now c.args.columns c.args.rows (run (mb_modes c.args.header.now c.args.probs.now c.args.columns c.args.rows (c.args.columns * c.args.rows) []) c.args.decoder.now) xs c.args.decoder.now) (sym none) (none_read c.args.header.now c.args.probs.now c.args.columns c.args.rows c.args.decoder.now),
      (subst (λ xs. All HasFittingModes xs) (sym none) (All-nil HasFittingModes), λ key. subst (λ xs. All IsIntraKind xs) (sym none) (All-nil IsIntraKind)),
    )

pub loop-column-init : goal.loop-column-init
loop-column-init c = (c.loop-row.invariant.0.holds c.loop-row-test.true, c.loop-row.invariant.1, c.loop-row.invariant.2)

pub read_mb-mode-requires : goal.read_mb-mode-requires
read_mb-mode-requires c = rw c.loop-column.invariant.0.columns_are c.loop-column-test.true

pub loop-column-preserved : goal.loop-column-preserved
loop-column-preserved c =
    rw (c.in_ok-push.ensures.items, c.read_mb-mode.ensures.row) (
      holds_more c.args.columns c.args.rows c.loop-row.row c.loop-column.column c.loop-column.modes.items c.loop-column.context c.read_mb-mode.result c.loop-column-test.true c.loop-column.invariant.0,
      one_more c.args.header.now c.args.probs.now c.args.columns c.args.rows _ c.loop-row.row c.loop-column.column c.loop-column.modes.items c.loop-column.context c.loop-column.decoder c.read_mb-mode.new.decoder c.read_mb-mode.result c.loop-column-test.true c.loop-column.invariant.0 c.read_mb-mode.ensures.reads c.loop-column.invariant.1,
      (
        All-push HasFittingModes c.loop-column.modes.items c.read_mb-mode.result c.loop-column.invariant.2.0 c.read_mb-mode.ensures.modes,
        λ key. All-push IsIntraKind c.loop-column.modes.items c.read_mb-mode.result (c.loop-column.invariant.2.1 key) (c.read_mb-mode.ensures.key key),
      ),
    )

pub down-requires : goal.down-requires
down-requires c = rw (c.loop-column.invariant.0.row_is, c.loop-column.invariant.0.rows_are) c.if-row-rows.true

pub loop-row-preserved : goal.loop-row-preserved
loop-row-preserved c = (
  after_row c.args.columns c.args.rows c.loop-row.row c.loop-column.modes.items c.loop-column.context c.if-row-rows.context
      (whole_row c.args.columns c.args.rows c.loop-row.row c.loop-column.column c.loop-column.modes.items c.loop-column.context c.loop-column-test.false c.loop-column.auto.column-end c.loop-column.invariant.0)
      (elim c.if-row-rows.branch [ then-row-rows w ↦ λ lt. w.context-is ∙ w.down.ensures | else-row-rows w ↦ λ lt. absurd (omega (arith, lt, w.if-row-rows.false)) ]),
  c.loop-column.invariant.1,
  c.loop-column.invariant.2,
)

pub returns-clause-count : goal.returns-clause-count
returns-clause-count c =
    let e : c.loop-row.row ≡ c.args.rows = omega (arith, c.loop-row-test.false, c.loop-row.auto.row-end) in
    c.loop-row.invariant.0.count ∙ ap (λ n. c.args.columns * n) e

pub returns-clause-reads : goal.returns-clause-reads
returns-clause-reads c = all_read c.args.header.now c.args.probs.now c.args.columns c.args.rows _ c.loop-row.modes.items c.loop-row.decoder (returns-clause-count c) c.loop-row.invariant.1
