use Rattle.std.proofs.Common.{◌≡◌, ◌≤◌, ◌*◌, ◌^◌, unsigned_abs, [], ◌∷◌}
use Rattle.base_kit.specs.Asking.{left}
use Rattle.row_values.specs.Asked.{asked}
use Rattle.world_def.specs.Judging.{sum_over}
use Rattle.row_values.proofs.Evaluate.{summed}
use Rattle.world_def.proofs.judge.sum_over.Given as goal

abbrev pub invariant-loop-row : goal.invariant-loop-row
invariant-loop-row l =
    (left (λ row. asked (row ∷ []) l.part) l.rows l.row-index (summed l.total) ≡ sum_over l.part l.rows)
    × (unsigned_abs l.total ≤ 10 ^ 17 * l.row-index)
