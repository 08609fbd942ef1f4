use Rattle.std.proofs.Common.{sym, ◌∙◌, Some, None}
use Rattle.safe_bound.proofs.Duality.{bound_in_turn, bound_at_most, bound_exact}
use Rattle.safe_bound.proofs.sums.bound.Goals as goal

pub returns-in_err-total-clause-gives : goal.returns-in_err-total-clause-gives
returns-in_err-total-clause-gives c =
    let a = c.args in
    bound_in_turn a.rows.now c.as_slice-rows.result.now a.aim.now a.sides.now a.multipliers.now a.reach.now None c.from_residual.result c.as_slice-rows.ensures c.in_err-total.ensures c.from_residual.ensures

pub plus_columns-requires-clause-rows : goal.plus_columns-requires-clause-rows
plus_columns-requires-clause-rows c =
    rw c.as_slice-rows.ensures (λ k d lt. (c.requires.rows k d lt).rising)

pub returns-clause-gives : goal.returns-clause-gives
returns-clause-gives c =
    let a = c.args in
    bound_in_turn a.rows.now c.as_slice-rows.result.now a.aim.now a.sides.now a.multipliers.now a.reach.now (Some c.in_ok-total.total) c.plus_columns.result c.as_slice-rows.ensures c.in_ok-total.ensures c.plus_columns.ensures

pub returns-clause-exact : goal.returns-clause-exact
returns-clause-exact c =
    let a = c.args in
    bound_exact a.rows.now a.aim.now a.sides.now a.multipliers.now a.reach.now c.plus_columns.result (bound_in_turn a.rows.now c.as_slice-rows.result.now a.aim.now a.sides.now a.multipliers.now a.reach.now (Some c.in_ok-total.total) c.plus_columns.result c.as_slice-rows.ensures c.in_ok-total.ensures c.plus_columns.ensures)

pub returns-clause-below : goal.returns-clause-below
returns-clause-below c =
    let a = c.args in
    bound_at_most a.rows.now a.aim.now a.sides.now a.multipliers.now a.reach.now c.requires.rows c.requires.aim c.requires.named c.requires.reach c.plus_columns.result (bound_in_turn a.rows.now c.as_slice-rows.result.now a.aim.now a.sides.now a.multipliers.now a.reach.now (Some c.in_ok-total.total) c.plus_columns.result c.as_slice-rows.ensures c.in_ok-total.ensures c.plus_columns.ensures)
