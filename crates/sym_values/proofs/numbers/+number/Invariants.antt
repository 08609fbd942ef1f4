use Rattle.std.proofs.Common.{◌≡◌, map, filter, drop}
use Rattle.view_select.specs.Asking.{is_unknown}
use Rattle.sym_rows.proofs.Each.{Going}
use Rattle.sym_values.specs.Steps.{part_walk, IsPart}
use Rattle.sym_values.proofs.Numbering.{PartsSo}
use Rattle.sym_values.proofs.numbers.+number.Given as goal

abbrev pub invariant-parts_of-loop-part : goal.invariant-parts_of-loop-part
invariant-parts_of-loop-part l =
    Going (part_walk (map (λ columns. columns.now) l.scope) (map (λ row. row.now) l.rows)) l.parts IsPart (PartsSo (map (λ columns. columns.now) l.scope) (map (λ row. row.now) l.rows) l.parts) l.fn.fold l.part-index l.made.items l.fold

abbrev pub invariant-first_unknown-loop-factor : goal.invariant-first_unknown-loop-factor
invariant-first_unknown-loop-factor l =
    (filter (is_unknown (map (λ columns. columns.now) l.scope)) (drop l.factor-index l.factors) ≡ filter (is_unknown (map (λ columns. columns.now) l.scope)) l.factors)
    × (l.fold ≡ l.fn.fold)
