use Rattle.std.proofs.Common.{◌≡◌, ◌≤◌, ◌^◌, map, unsigned_abs}
use Rattle.sym_values.specs.Steps.{fixed_product}
use Rattle.sym_values.proofs.PlainValues.{fixed_left}
use Rattle.sym_values.proofs.numbers.fixed_product.Given as goal

abbrev pub invariant-loop-factor : goal.invariant-loop-factor
invariant-loop-factor l =
    (fixed_left (map (λ columns. columns.now) l.scope) (map (λ row. row.now) l.rows) l.factors l.factor-index l.partial ≡ fixed_product (map (λ columns. columns.now) l.scope) (map (λ row. row.now) l.rows) l.factors)
    × (unsigned_abs l.partial ≤ 10 ^ 34)
