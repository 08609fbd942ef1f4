-- single steps of the evaluation, which private contracts cite
use Rattle.std.specs.Prelude.{ℤ, pos, ◌*ℤ◌, if◌then◌else◌, List, [], ◌∷◌, Option, unwrap_or, slice_get, Result}
use Rattle.std.specs.Ordering.{int_eq}
use Rattle.base_kit.specs.declared.value.Value.{Value}
use Rattle.tiql_query.specs.declared.expression.At.{At}
use Rattle.row_values.specs.declared.fault.Wide.{Wide}
use Rattle.row_values.specs.Values.{Combination}
use Rattle.row_values.specs.Asked.{passes, within}

-- a partial product with one more factor: one that passes stays, but a factor 0 makes it 0
unfoldable pub next : ℤ → ℤ → ℤ
next partial n = if int_eq n (pos 0) then pos 0 else (if passes partial then partial else partial *ℤ n)

-- the products that follow
abbrev pub run : ℤ → List ℤ → Result ℤ Wide
run partial [] = within partial
run partial (n ∷ ns) = run (next partial n) ns

-- what stands in a column, where the column is there
unfoldable pub cell_there : Combination → At → Option Value
cell_there rows at = slice_get (unwrap_or (slice_get rows at.source) []) at.column
