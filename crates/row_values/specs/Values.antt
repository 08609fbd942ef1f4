-- the values of expressions and conditions on rows: whole numbers of any size, texts and truths
use Rattle.std.specs.Prelude.{ℕ, ℤ, pos, ◌+ℤ◌, ◌*ℤ◌, neg_ℤ, unsigned_abs, Bool, true, false, not, if◌then◌else◌, List, [], ◌∷◌, map, Option, Some, None, unwrap_or, slice_get}
use Rattle.std.specs.List.{list_all, list_any}
use Rattle.std.specs.declared.cmp.Ordering.{Ordering}
use Rattle.std.specs.declared.cmp.Ordering.TheVariants.{Less, Equal, Greater}
use Rattle.base_kit.specs.Orders.{value_order}
use Rattle.base_kit.specs.declared.value.Value.{Value}
use Rattle.base_kit.specs.declared.value.Value.TheVariants.{Int, Text}
use Rattle.tiql_query.specs.declared.expression.At.{At}
use Rattle.tiql_query.specs.declared.expression.Expr.{Expr}
use Rattle.tiql_query.specs.declared.expression.Expr.TheOpen.{Expr-F, Signed-F}
use Rattle.tiql_query.specs.declared.expression.Expr.TheFolds.{fold-Expr}
use Rattle.tiql_query.specs.declared.condition.Cmp.{Cmp}
use Rattle.tiql_query.specs.declared.condition.Cmp.TheVariants as cmp
use Rattle.tiql_query.specs.declared.condition.Cond.{Cond}
use Rattle.tiql_query.specs.declared.condition.Cond.TheOpen.{Cond-F}
use Rattle.tiql_query.specs.declared.condition.Cond.TheFolds.{fold-Cond}

-- a row of each source in scope
abbrev pub Combination : Type 0
Combination = List (List Value)

-- the number of a value; a text counts as 0
abbrev pub number : Value → ℤ
number (Int n) = n
number (Text t) = pos 0

-- the text of a value, which a number has not
abbrev pub text : Value → Option (List ℕ)
text (Int n) = None
text (Text t) = Some t

-- what stands in a column of the sources; where the column is not there, 0
unfoldable pub cell : Combination → At → Value
cell rows at = unwrap_or (slice_get (unwrap_or (slice_get rows at.source) []) at.column) (Int (pos 0))

-- the sum of numbers
abbrev pub total : List ℤ → ℤ
total [] = pos 0
total (n ∷ ns) = n +ℤ total ns

-- the product of numbers
abbrev pub product : List ℤ → ℤ
product [] = pos 1
product (n ∷ ns) = n *ℤ product ns

-- the number of a part of a sum: with its sign turned where the part is taken away
abbrev pub signed : Bool → ℤ → ℤ
signed minus n = if minus then neg_ℤ n else n

-- the value of an expression, by those of its parts
abbrev pub value_step : Combination → Expr-F Value ℤ → Value
value_step rows (Expr-F.Int n) = Int n
value_step rows (Expr-F.Text t) = Text t
value_step rows (Expr-F.Column at) = cell rows at
value_step rows (Expr-F.Sum parts) = Int (total parts)
value_step rows (Expr-F.Product factors) = Int (product (map number factors))
value_step rows (Expr-F.Neg part) = Int (neg_ℤ (number part))
value_step rows (Expr-F.Abs part) = Int (pos (unsigned_abs (number part)))

-- the number of a part of a sum, by the value of its expression
abbrev pub part_step : Signed-F Value ℤ → ℤ
part_step part = signed part.minus (number part.part)

-- what an expression is on these rows
unfoldable pub value : Combination → Expr → Value
value rows = fold-Expr Value ℤ (value_step rows) part_step

-- whether a comparison holds of values that stand so to each other
unfoldable pub holds : Cmp → Ordering → Bool
holds cmp.Eq Equal = true
holds cmp.Eq Less = false
holds cmp.Eq Greater = false
holds cmp.Ne Equal = false
holds cmp.Ne Less = true
holds cmp.Ne Greater = true
holds cmp.Lt Less = true
holds cmp.Lt Equal = false
holds cmp.Lt Greater = false
holds cmp.Le Less = true
holds cmp.Le Equal = true
holds cmp.Le Greater = false
holds cmp.Gt Less = false
holds cmp.Gt Equal = false
holds cmp.Gt Greater = true
holds cmp.Ge Less = false
holds cmp.Ge Equal = true
holds cmp.Ge Greater = true

-- whether a condition holds, by its parts
abbrev pub truth_step : Combination → Cond-F Bool → Bool
truth_step rows (Cond-F.Compare test one other) = holds test (value_order (value rows one) (value rows other))
truth_step rows (Cond-F.Not part) = not part
truth_step rows (Cond-F.And parts) = list_all (λ b. b) parts
truth_step rows (Cond-F.Or parts) = list_any (λ b. b) parts

-- whether a condition holds on these rows
unfoldable pub truth : Combination → Cond → Bool
truth rows = fold-Cond Bool (truth_step rows)
