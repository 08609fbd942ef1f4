use Rattle.std.proofs.Common.{◌≡◌, ◌≤◌, ◌*◌, ◌^◌, map, unsigned_abs}
use Rattle.base_kit.specs.Asking.{left}
use Rattle.row_values.specs.Asked.{asked, asked_part, sum_asked, product_asked}
use Rattle.row_values.specs.Steps.{run}
use Rattle.row_values.proofs.Evaluate.{summed}
use Rattle.row_values.proofs.expression.+number.Given as goal

abbrev pub invariant-sum-loop-part : goal.invariant-sum-loop-part
invariant-sum-loop-part l =
    (left (asked_part (map (λ row. row.now) l.rows)) l.parts l.part-index (summed l.total) ≡ sum_asked (map (asked_part (map (λ row. row.now) l.rows)) l.parts))
    × (unsigned_abs l.total ≤ 10 ^ 17 * l.part-index)

abbrev pub invariant-product-loop-factor : goal.invariant-product-loop-factor
invariant-product-loop-factor l =
    (left (asked (map (λ row. row.now) l.rows)) l.factors l.factor-index (run l.partial) ≡ product_asked (map (asked (map (λ row. row.now) l.rows)) l.factors))
    × (unsigned_abs l.partial ≤ 10 ^ 34)
