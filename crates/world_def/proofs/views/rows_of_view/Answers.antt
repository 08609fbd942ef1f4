use Rattle.std.proofs.Common.{map, arith, rules}
use Rattle.world_def.specs.Views.{select_more}
use Rattle.world_def.specs.Making.{rows_there}
use Rattle.world_def.proofs.Making.{over_step, over_err, over_end}
use Rattle.world_def.proofs.views.rows_of_view.Goals as goal

pub returns-in_err-rows : goal.returns-in_err-rows
returns-in_err-rows c = search (
  rules,
  over_err (select_more c.args.query.now c.args.tables.now c.args.world.now (map rows_there c.args.views.now.made.items) c.args.number)
      c.as_slice-select-items.result.now c.loop-select.select-index c.loop-select.rows _ c.select-item.result _ (omega arith) c.select-item.is c.in_err-rows.ensures c.loop-select.invariant,
)

pub loop-select-preserved : goal.loop-select-preserved
loop-select-preserved c = over_step (select_more c.args.query.now c.args.tables.now c.args.world.now (map rows_there c.args.views.now.made.items) c.args.number)
    c.as_slice-select-items.result.now c.loop-select.select-index c.loop-select.rows _ c.select-item.result c.in_ok-rows.rows (omega arith) c.select-item.is c.in_ok-rows.ensures c.loop-select.invariant

pub returns : goal.returns
returns c = over_end (select_more c.args.query.now c.args.tables.now c.args.world.now (map rows_there c.args.views.now.made.items) c.args.number)
    c.as_slice-select-items.result.now c.loop-select.select-index c.loop-select.rows _ (omega arith) c.loop-select.invariant
