use Rattle.std.proofs.Common.{◌≡◌, drop}
use Rattle.safe_bound.specs.Bound.{plus_columns}
use Rattle.safe_bound.proofs.sums.plus_columns.Given as goal

abbrev pub invariant-loop-column : goal.invariant-loop-column
invariant-loop-column l =
    plus_columns l.rows l.aim l.sides l.multipliers l.total (drop l.column-index l.reach) ≡ plus_columns l.rows l.aim l.sides l.multipliers l.initial.total l.reach
