use Rattle.std.proofs.Common.{arith, rules, ◌∙◌}
use Rattle.world_def.specs.Columns.{with_cell}
use Rattle.world_def.proofs.Turns.{turns-step, turns-err, turns-end, cell_anywhere}
use Rattle.world_def.proofs.columns.with_cells.Goals as goal

pub loop-bound-preserved : goal.loop-bound-preserved
loop-bound-preserved c = turns-step (with_cell c.args.hypo c.args.droppable c.args.at c.args.row.now) c.args.set.now _ _ _ _ _ (omega arith) c.bound-item.is (cell_anywhere c.args.hypo c.args.droppable c.args.at c.args.row.now _ _ _ ∙ c.in_ok-made.ensures) c.loop-bound.invariant

pub returns-in_err-made : goal.returns-in_err-made
returns-in_err-made c = search (rules, turns-err (with_cell c.args.hypo c.args.droppable c.args.at c.args.row.now) c.args.set.now _ _ _ _ _ (omega arith) c.bound-item.is (λ ne. cell_anywhere c.args.hypo c.args.droppable c.args.at c.args.row.now _ _ _ ∙ c.in_err-made.ensures ne) c.loop-bound.invariant)

pub returns : goal.returns
returns c = turns-end (with_cell c.args.hypo c.args.droppable c.args.at c.args.row.now) c.args.set.now _ _ _ (omega arith) c.loop-bound.invariant
