-- what stands in columns, expressions and conditions: texts or whole numbers, and whether they differ from world to world
use Rattle.std.specs.Prelude.{◌^◌, unsigned_abs, nat_le, Bool, true, false, not, ◌||◌, ◌&&◌, if◌then◌else◌, List, [], ◌∷◌, Option, Some, None, option_map, unwrap_or, slice_get}
use Rattle.std.specs.List.{list_all}
use Rattle.tiql_query.specs.declared.relation.Column.{Column}
use Rattle.tiql_query.specs.declared.expression.At.{At}
use Rattle.tiql_query.specs.declared.expression.Expr.{Expr}
use Rattle.tiql_query.specs.declared.expression.Expr.TheOpen.{Expr-F, Signed-F}
use Rattle.tiql_query.specs.declared.expression.Expr.TheFolds.{fold-Expr}
use Rattle.tiql_query.specs.declared.condition.Cond.{Cond}
use Rattle.tiql_query.specs.declared.condition.Cond.TheOpen.{Cond-F}
use Rattle.tiql_query.specs.declared.condition.Cond.TheFolds.{fold-Cond}

-- whether it is a text, and not a whole number, and whether it may differ from world to world
pub record Kind : Type 0 where
  pub text : Bool
  pub unknown : Bool

-- a whole number, unknown or fixed
abbrev pub number : Bool → Kind
number unknown = record { text = false; unknown = unknown }

-- the columns of each source in scope
abbrev pub Scope : Type 0
Scope = List (List Column)

-- the kind of a column of a source, where it is there
unfoldable pub kind_at : Scope → At → Option Kind
kind_at scope at = option_map (λ column. record { text = column.text; unknown = column.unknown }) (slice_get (unwrap_or (slice_get scope at.source) []) at.column)

-- a part before others of one arithmetic
abbrev pub with_part : Kind → Option Kind → Option Kind
with_part part None = None
with_part part (Some others) = if part.text then None else Some (number (part.unknown || others.unknown))

-- arithmetic on these parts: a number, unknown where one of them is. There is none where a part has no kind or is a text
unfoldable pub arithmetic : List (Option Kind) → Option Kind
arithmetic [] = Some (number false)
arithmetic (None ∷ parts) = None
arithmetic (Some part ∷ parts) = with_part part (arithmetic parts)

-- a factor before others of one product
abbrev pub with_factor : Kind → Option Kind → Option Kind
with_factor factor None = None
with_factor factor (Some others) = if factor.text || (factor.unknown && others.unknown) then None else Some (number (factor.unknown || others.unknown))

-- the product of these factors: a number, unknown where one of them is. There is none where a factor has no kind or is a text,
-- or where two are unknown
unfoldable pub multiplied : List (Option Kind) → Option Kind
multiplied [] = Some (number false)
multiplied (None ∷ factors) = None
multiplied (Some factor ∷ factors) = with_factor factor (multiplied factors)

-- the kind of an expression by those of its parts. A number of a query is at most 10^15 in size
abbrev pub kind_step : Scope → Expr-F (Option Kind) (Option Kind) → Option Kind
kind_step scope (Expr-F.Int n) = if nat_le (unsigned_abs n) (10 ^ 15) then Some (number false) else None
kind_step scope (Expr-F.Text t) = Some (record { text = true; unknown = false })
kind_step scope (Expr-F.Column at) = kind_at scope at
kind_step scope (Expr-F.Sum parts) = arithmetic parts
kind_step scope (Expr-F.Product factors) = multiplied factors
kind_step scope (Expr-F.Neg part) = arithmetic (part ∷ [])
kind_step scope (Expr-F.Abs part) = arithmetic (part ∷ [])

-- a sign changes no kind
abbrev pub part_step : Signed-F (Option Kind) (Option Kind) → Option Kind
part_step signed = signed.part

-- the kind of an expression, and none where a number in it is too large, a column of it is not there, it reckons with a text, or
-- two factors of a product in it are unknown
unfoldable pub kind : Scope → Expr → Option Kind
kind scope = fold-Expr (Option Kind) (Option Kind) (kind_step scope) part_step

-- it has a kind, which is a number
abbrev pub is_number : Option Kind → Bool
is_number None = false
is_number (Some it) = not it.text

-- it has a kind, which may differ from world to world
abbrev pub is_unknown : Option Kind → Bool
is_unknown None = false
is_unknown (Some it) = it.unknown

-- both are there, and are numbers or texts alike
abbrev pub are_alike : Option Kind → Option Kind → Bool
are_alike None other = false
are_alike (Some one) None = false
are_alike (Some one) (Some other) = if one.text then other.text else not other.text

-- whether a condition fits, by its parts
abbrev pub fit_step : Scope → Cond-F Bool → Bool
fit_step scope (Cond-F.Compare test one other) = are_alike (kind scope one) (kind scope other)
fit_step scope (Cond-F.Not part) = part
fit_step scope (Cond-F.And parts) = list_all (λ fit. fit) parts
fit_step scope (Cond-F.Or parts) = list_all (λ fit. fit) parts

-- all that a condition compares is alike
unfoldable pub is_fit : Scope → Cond → Bool
is_fit scope = fold-Cond Bool (fit_step scope)

-- likewise of a condition that may be missing
abbrev pub is_fit_filter : Scope → Option Cond → Bool
is_fit_filter scope None = true
is_fit_filter scope (Some test) = is_fit scope test
