use Rattle.std.proofs.Common.{arith, rules, ◌∙◌}
use Rattle.world_def.specs.Columns.{with_hypo}
use Rattle.world_def.proofs.Turns.{turns-step, turns-err, turns-end, hypo_rows}
use Rattle.world_def.proofs.columns.with_hypos.Goals as goal

pub loop-at-preserved : goal.loop-at-preserved
loop-at-preserved c = turns-step (with_hypo c.args.tables.now) c.args.hypos.now _ _ _ _ _ (omega arith) c.index-hypos-at.is (hypo_rows _ _ _ _ _ c.rows_of-rows.ensures.value ∙ c.in_ok-made.ensures) c.loop-at.invariant

pub returns-in_err-made : goal.returns-in_err-made
returns-in_err-made c = search (rules, turns-err (with_hypo c.args.tables.now) c.args.hypos.now _ _ _ _ _ (omega arith) c.index-hypos-at.is (λ ne. hypo_rows _ _ _ _ _ c.rows_of-rows.ensures.value ∙ c.in_err-made.ensures ne) c.loop-at.invariant)

pub returns : goal.returns
returns c = turns-end (with_hypo c.args.tables.now) c.args.hypos.now _ _ _ (omega arith) c.loop-at.invariant
