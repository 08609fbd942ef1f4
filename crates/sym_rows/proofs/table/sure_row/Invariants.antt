use Rattle.std.proofs.Common.{◌≡◌, map, take}
use Rattle.base_kit.specs.declared.value.Value.{Value}
use Rattle.sym_rows.specs.declared.row.Cell.TheVariants as cells
use Rattle.sym_rows.proofs.table.sure_row.Given as goal

abbrev pub invariant-loop-value : goal.invariant-loop-value
invariant-loop-value l = l.cells ≡ map (λ (value : Value). cells.Fixed value) (take l.value-index l.row)
