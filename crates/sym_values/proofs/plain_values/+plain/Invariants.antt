use Rattle.std.proofs.Common.{◌≡◌, ◌≤◌, ◌*◌, ◌^◌, map, unsigned_abs}
use Rattle.base_kit.specs.Asking.{left}
use Rattle.row_values.specs.Asked.{sum_asked}
use Rattle.row_values.proofs.Evaluate.{summed}
use Rattle.sym_values.specs.Numbers.{plain, plain_part, product_of, fixed_rows}
use Rattle.sym_values.specs.Steps.{run}
use Rattle.sym_values.proofs.plain_values.+plain.Given as goal

abbrev pub invariant-plain_sum-loop-part : goal.invariant-plain_sum-loop-part
invariant-plain_sum-loop-part l =
    (left (plain_part (fixed_rows (map (λ row. row.now) l.rows))) l.parts l.part-index (summed l.total) ≡ sum_asked (map (plain_part (fixed_rows (map (λ row. row.now) l.rows))) l.parts))
    × (unsigned_abs l.total ≤ 10 ^ 17 * l.part-index)

abbrev pub invariant-plain_product-loop-factor : goal.invariant-plain_product-loop-factor
invariant-plain_product-loop-factor l =
    (left (plain (fixed_rows (map (λ row. row.now) l.rows))) l.factors l.factor-index (run l.partial) ≡ product_of (map (plain (fixed_rows (map (λ row. row.now) l.rows))) l.factors))
    × (unsigned_abs l.partial ≤ 10 ^ 34)
