use Rattle.std.proofs.Common.{rules, ap, ◌∙◌, take}
use Rattle.world_def.specs.Worlds.{leading, of_row}
use Rattle.world_def.proofs.Walks.{within_list}
use Rattle.sym_rows.proofs.Hypos.{row_same, rows_init, rows_step, rows_err, rows_end}
use Rattle.sym_rows.proofs.hypo.rows_from.Goals as goal

pub loop-at-init : goal.loop-at-init
loop-at-init c = rows_init c.args.columns.now c.args.first c.args.bases.now c.args.chosen.now c.args.fold.now c.new-made.result c.new-made.ensures

pub returns-in_err-row_of : goal.returns-in_err-row_of
returns-in_err-row_of c =
    let ends = c.leading_row-end.ensures.value ∙ ap (leading (of_row c.loop-at.at)) c.behind-rest.ensures in
    let mine = c.head-mine.ensures ∙ ap (take c.leading_row-end.result) c.behind-rest.ensures in
    search (
      rules,
      rows_err c.args.columns.now c.args.first c.args.bases.now c.args.chosen.now c.args.fold.now c.loop-at.at c.loop-at.from c.leading_row-end.result c.index-bases-at.result c.loop-at.made c.loop-at.fold c.row_of.new.fold c.loop-at-test.true c.index-bases-at.is ends
          c.in_err-row_of.field-0.0 (row_same c.args.columns.now _ _ _ _ _ _ _ mine c.in_err-row_of.ensures) c.loop-at.invariant,
    )

pub loop-at-preserved : goal.loop-at-preserved
loop-at-preserved c =
    let ends = c.leading_row-end.ensures.value ∙ ap (leading (of_row c.loop-at.at)) c.behind-rest.ensures in
    let mine = c.head-mine.ensures ∙ ap (take c.leading_row-end.result) c.behind-rest.ensures in
    rows_step c.args.columns.now c.args.first c.args.bases.now c.args.chosen.now c.args.fold.now c.loop-at.at c.loop-at.from c.leading_row-end.result c.index-bases-at.result c.loop-at.made c.loop-at.fold c.row_of.new.fold c.loop-at-test.true c.index-bases-at.is ends
    c.in_ok-row_of.field-0 c.push.new.self c.in_ok-push.ensures.ok (within_list _ _ _ _ c.behind-rest.ensures c.loop-at.invariant.within c.leading_row-end.ensures.room) (row_same c.args.columns.now _ _ _ _ _ _ _ mine c.in_ok-row_of.ensures) c.loop-at.invariant

pub returns : goal.returns
returns c = rows_end c.args.columns.now c.args.first c.args.bases.now c.args.chosen.now c.args.fold.now c.loop-at.at c.loop-at.from c.loop-at.made c.loop-at.fold c.loop-at-test.false c.loop-at.invariant
