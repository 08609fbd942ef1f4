use Rattle.std.proofs.Common.{sym, ◌∙◌, pos, false}
use Rattle.std.specs.Prelude.{None}
use Rattle.tiql_query.specs.declared.world_column.WorldColumn.{WorldColumn}
use Rattle.sym_rows.proofs.Hypos.{column_all, column_here, column_on, column_end}
use Rattle.sym_rows.proofs.hypo.column_of.Goals as goal

none : WorldColumn
none = record { hypo = 0; row = 0; cell = None; droppable = false; lo = pos 0; hi = pos 0 }

pub loop-at-init : goal.loop-at-init
loop-at-init c = column_all c.args.place c.args.first c.args.chosen.now

pub returns-then-is_cell : goal.returns-then-is_cell
unfolding none
returns-then-is_cell c = column_here c.args.place c.args.first c.args.chosen.now c.loop-at.at none _ c.loop-at-test.true (sym c.is_cell.ensures ∙ c.if-is_cell.true) c.loop-at.invariant

pub loop-at-preserved : goal.loop-at-preserved
unfolding none
loop-at-preserved c = column_on c.args.place c.args.first c.args.chosen.now c.loop-at.at none _ c.loop-at-test.true (sym c.is_cell.ensures ∙ c.if-is_cell.false) c.loop-at.invariant

pub returns : goal.returns
returns c = column_end c.args.place c.args.first c.args.chosen.now c.loop-at.at _ c.loop-at-test.false c.loop-at.invariant
