-- expressions on a combination of possible rows: their plain values, and the numbers that are made of them
use Rattle.std.specs.Prelude.{ℕ, ℤ, pos, negsuc, Bool, not, if◌then◌else◌, List, [], ◌∷◌, map, filter, Option, Some, None, slice_get, Result}
use Rattle.base_kit.specs.Asking.{and_then, all_of}
use Rattle.tiql_query.specs.Kinds.{Scope}
use Rattle.tiql_query.specs.declared.expression.At.{At}
use Rattle.tiql_query.specs.declared.expression.Signed.{Signed, fold-Signed}
use Rattle.tiql_query.specs.declared.expression.Expr.{Expr}
use Rattle.tiql_query.specs.declared.expression.Expr.TheOpen.{Expr-F, Signed-F}
use Rattle.tiql_query.specs.declared.expression.Expr.TheFolds.{fold-Expr, map-Expr}
use Rattle.tiql_query.specs.declared.expression.Expr.TheViews.{roll-Expr}
use Rattle.row_values.specs.declared.fault.Wide.{Wide}
use Rattle.row_values.specs.Values.{Combination, number}
use Rattle.row_values.specs.Asked.{asked_step, asked_part_step, partial_products}
use Rattle.view_select.specs.Asking.{is_unknown}
use Rattle.prov_fold.specs.declared.span.Scaled.{Scaled}
use Rattle.prov_fold.specs.Rules as rule
use Rattle.sym_rows.specs.declared.row.Cell.{Cell}
use Rattle.sym_rows.specs.declared.row.Cell.TheVariants as cells
use Rattle.sym_rows.specs.declared.row.SymRow.{SymRow}
use Rattle.sym_rows.specs.Cells.{fixed_row}
use Rattle.sym_rows.specs.Walks.{Walk, gives, ◌>>=◌, each, by_rule, told}

-- ---- plain values

-- all factors are asked, and then their partial products from the left
abbrev pub product_of : List (Result ℤ Wide) → Result ℤ Wide
product_of factors = and_then (all_of factors) (partial_products (pos 1))

-- as values are asked, but of a product each partial product is judged
abbrev pub plain_step : Combination → Expr-F (Result ℤ Wide) (Result ℤ Wide) → Result ℤ Wide
plain_step rows (Expr-F.Int n) = asked_step rows (Expr-F.Int n)
plain_step rows (Expr-F.Text t) = asked_step rows (Expr-F.Text t)
plain_step rows (Expr-F.Column at) = asked_step rows (Expr-F.Column at)
plain_step rows (Expr-F.Sum parts) = asked_step rows (Expr-F.Sum parts)
plain_step rows (Expr-F.Product factors) = product_of factors
plain_step rows (Expr-F.Neg part) = asked_step rows (Expr-F.Neg part)
plain_step rows (Expr-F.Abs part) = asked_step rows (Expr-F.Abs part)

-- the number of a fixed expression, 0 for a text
unfoldable pub plain : Combination → Expr → Result ℤ Wide
plain rows = fold-Expr (Result ℤ Wide) (Result ℤ Wide) (plain_step rows) asked_part_step

-- likewise of a part of a sum
unfoldable pub plain_part : Combination → Signed → Result ℤ Wide
plain_part rows = fold-Signed (Result ℤ Wide) (Result ℤ Wide) (plain_step rows) asked_part_step

-- the fixed columns of possible rows
abbrev pub fixed_rows : List SymRow → Combination
fixed_rows rows = map fixed_row rows

-- ---- numbers that are made

-- an expression beside the walk that makes its number
pub record Making : Type 0 where
  pub whole : Expr
  pub number : Walk ℕ

-- likewise a part of a sum, whose walk makes the number without its sign
pub record MakingPart : Type 0 where
  pub whole : Signed
  pub number : Walk ℕ

-- the cell in a column of a row, where both are there
abbrev pub cell_of : ℕ → Option SymRow → Option Cell
cell_of column None = None
cell_of column (Some row) = slice_get row.cells column

-- the cell in a column of the sources, where the column is there
unfoldable pub cell_there : List SymRow → At → Option Cell
cell_there rows at = cell_of at.column (slice_get rows at.source)

-- the number in a cell
abbrev pub cell_number : Option Cell → Walk ℕ
cell_number None g = by_rule (rule.constant (pos 0)) g
cell_number (Some (cells.Fixed value)) g = by_rule (rule.constant (number value)) g
cell_number (Some (cells.Number id)) g = gives id g

-- a number with its sign, as a part of a sum
abbrev pub signed : Bool → ℕ → Scaled
signed minus id = record { factor = if minus then negsuc 0 else pos 1; number = id }

-- a number times a factor
abbrev pub times : ℤ → ℕ → Walk ℕ
times factor id g = by_rule (rule.sum (pos 0) (record { factor = factor; number = id } ∷ [])) g

-- the first of some walks
abbrev pub first_of : List (Walk ℕ) → Walk ℕ
first_of [] g = by_rule (rule.constant (pos 0)) g
first_of (walk ∷ walks) g = walk g

-- an expression that has an unknown column
abbrev pub unknown_by : Scope → List SymRow → Expr-F Making MakingPart → Walk ℕ
unknown_by scope rows (Expr-F.Int n) g = by_rule (rule.constant (pos 0)) g
unknown_by scope rows (Expr-F.Text t) g = by_rule (rule.constant (pos 0)) g
unknown_by scope rows (Expr-F.Column at) g = cell_number (cell_there rows at) g
unknown_by scope rows (Expr-F.Sum parts) g = each (λ i part g. part.number g >>= λ id g. gives (signed part.whole.minus id) g) 0 parts g >>= λ made g. by_rule (rule.sum (pos 0) made) g
unknown_by scope rows (Expr-F.Product factors) g =
    told (product_of (map (λ factor. plain (fixed_rows rows) factor.whole) (filter (λ factor. not (is_unknown scope factor.whole)) factors))) g >>= λ factor g.
    first_of (map (λ factor. factor.number) (filter (λ factor. is_unknown scope factor.whole) factors)) g >>= λ id g. times factor id g
unknown_by scope rows (Expr-F.Neg part) g = part.number g >>= λ id g. times (negsuc 0) id g
unknown_by scope rows (Expr-F.Abs part) g = part.number g >>= λ id g. by_rule (rule.abs id) g

-- the plain value of a fixed expression as a constant
abbrev pub fixed_number : List SymRow → Expr → Walk ℕ
fixed_number rows whole g = told (plain (fixed_rows rows) whole) g >>= λ n g. by_rule (rule.constant n) g

-- a number by the parts of its expression
abbrev pub number_by : Scope → List SymRow → Expr → Expr-F Making MakingPart → Walk ℕ
number_by scope rows whole parts g =
    if is_unknown scope whole then unknown_by scope rows parts g
    else fixed_number rows whole g

-- an expression by its parts
abbrev pub whole_of : Expr-F Making MakingPart → Expr
whole_of parts = roll-Expr (map-Expr Making MakingPart Expr Signed (λ part. part.whole) (λ part. part.whole) parts)

abbrev pub making_step : Scope → List SymRow → Expr-F Making MakingPart → Making
making_step scope rows parts = record { whole = whole_of parts; number = number_by scope rows (whole_of parts) parts }

abbrev pub making_part_step : Signed-F Making MakingPart → MakingPart
making_part_step part = record { whole = record { minus = part.minus; part = part.part.whole }; number = part.part.number }

unfoldable pub making : Scope → List SymRow → Expr → Making
making scope rows = fold-Expr Making MakingPart (making_step scope rows) making_part_step

-- the number of an expression
unfoldable pub number_of : Scope → List SymRow → Expr → Walk ℕ
number_of scope rows part g = (making scope rows part).number g
