-- values as they are asked, part by part, up to the first whose size passes 10^17: its number is told
use Rattle.std.specs.Prelude.{◌^◌, ℕ, ℤ, pos, ◌*ℤ◌, neg_ℤ, unsigned_abs, nat_lt, Bool, not, if◌then◌else◌, List, [], ◌∷◌, Option, Some, None, Result, Ok, Err}
use Rattle.std.specs.List.{list_all, list_any}
use Rattle.std.specs.Ordering.{int_eq}
use Rattle.base_kit.specs.Asking.{and_then, all_of}
use Rattle.base_kit.specs.Orders.{value_order}
use Rattle.base_kit.specs.declared.value.Value.{Value}
use Rattle.base_kit.specs.declared.value.Value.TheVariants.{Int, Text}
use Rattle.tiql_query.specs.declared.expression.Expr.{Expr}
use Rattle.tiql_query.specs.declared.expression.Expr.TheOpen.{Expr-F, Signed-F}
use Rattle.tiql_query.specs.declared.expression.Expr.TheFolds.{fold-Expr}
use Rattle.tiql_query.specs.declared.expression.Signed.{Signed, fold-Signed}
use Rattle.tiql_query.specs.declared.condition.Cmp.{Cmp}
use Rattle.tiql_query.specs.declared.condition.Cond.{Cond}
use Rattle.tiql_query.specs.declared.condition.Cond.TheOpen.{Cond-F}
use Rattle.tiql_query.specs.declared.condition.Cond.TheFolds.{fold-Cond}
use Rattle.row_values.specs.declared.fault.Wide.{Wide}
use Rattle.row_values.specs.Values.{Combination, number, text, cell, total, signed, holds}

-- whether a number is more than 10^17 in size
abbrev pub passes : ℤ → Bool
passes n = nat_lt (10 ^ 17) (unsigned_abs n)

-- the number, unless it passes
unfoldable pub within : ℤ → Result ℤ Wide
within n = if passes n then Err (record { number = n }) else Ok n

-- the products of more and more factors from the left, up to the first that passes
unfoldable pub partial_products : ℤ → List ℤ → Result ℤ Wide
partial_products product [] = within product
partial_products product (n ∷ ns) = and_then (within product) (λ so_far. partial_products (so_far *ℤ n) ns)

-- a factor 0 makes the product 0, whatever the others. Without one no partial product is smaller than those before it, so that the
-- product passes exactly where one of them does, and the first of these is told
unfoldable pub product_within : List ℤ → Result ℤ Wide
product_within ns = if list_any (λ n. int_eq n (pos 0)) ns then Ok (pos 0) else partial_products (pos 1) ns

-- the sum of parts that are asked one after the other
abbrev pub sum_asked : List (Result ℤ Wide) → Result ℤ Wide
sum_asked parts = and_then (all_of parts) (λ ns. within (total ns))

-- likewise the product of factors
abbrev pub product_asked : List (Result ℤ Wide) → Result ℤ Wide
product_asked factors = and_then (all_of factors) product_within

-- parts before the whole, and a product by its own value alone
abbrev pub asked_step : Combination → Expr-F (Result ℤ Wide) (Result ℤ Wide) → Result ℤ Wide
asked_step rows (Expr-F.Int n) = within n
asked_step rows (Expr-F.Text t) = Ok (pos 0)
asked_step rows (Expr-F.Column at) = within (number (cell rows at))
asked_step rows (Expr-F.Sum parts) = sum_asked parts
asked_step rows (Expr-F.Product factors) = product_asked factors
asked_step rows (Expr-F.Neg part) = and_then part (λ n. Ok (neg_ℤ n))
asked_step rows (Expr-F.Abs part) = and_then part (λ n. Ok (pos (unsigned_abs n)))

-- a part of a sum with its sign
abbrev pub asked_part_step : Signed-F (Result ℤ Wide) (Result ℤ Wide) → Result ℤ Wide
asked_part_step part = and_then part.part (λ n. Ok (signed part.minus n))

-- the number of an expression on these rows, 0 for a text
unfoldable pub asked : Combination → Expr → Result ℤ Wide
asked rows = fold-Expr (Result ℤ Wide) (Result ℤ Wide) (asked_step rows) asked_part_step

-- likewise of a part of a sum
unfoldable pub asked_part : Combination → Signed → Result ℤ Wide
asked_part rows = fold-Signed (Result ℤ Wide) (Result ℤ Wide) (asked_step rows) asked_part_step

-- the text of an expression, by its form
abbrev pub text_step : Combination → Expr-F (Option (List ℕ)) (Option (List ℕ)) → Option (List ℕ)
text_step rows (Expr-F.Int n) = None
text_step rows (Expr-F.Text t) = Some t
text_step rows (Expr-F.Column at) = text (cell rows at)
text_step rows (Expr-F.Sum parts) = None
text_step rows (Expr-F.Product factors) = None
text_step rows (Expr-F.Neg part) = None
text_step rows (Expr-F.Abs part) = None

-- the text of an expression on these rows, which a number has not
unfoldable pub text_of : Combination → Expr → Option (List ℕ)
text_of rows = fold-Expr (Option (List ℕ)) (Option (List ℕ)) (text_step rows) (λ part. None)

-- the text, or the number where there is none
abbrev pub value_of : Option (List ℕ) → ℤ → Value
value_of (Some t) n = Text t
value_of None n = Int n

-- both sides are asked
unfoldable pub compare_asked : Combination → Cmp → Expr → Expr → Result Bool Wide
compare_asked rows test one other = and_then (asked rows one) (λ m. and_then (asked rows other) (λ n.
    Ok (holds test (value_order (value_of (text_of rows one) m) (value_of (text_of rows other) n)))))

-- all parts are asked, also behind one that decides
abbrev pub truth_asked_step : Combination → Cond-F (Result Bool Wide) → Result Bool Wide
truth_asked_step rows (Cond-F.Compare test one other) = compare_asked rows test one other
truth_asked_step rows (Cond-F.Not part) = and_then part (λ b. Ok (not b))
truth_asked_step rows (Cond-F.And parts) = and_then (all_of parts) (λ bs. Ok (list_all (λ b. b) bs))
truth_asked_step rows (Cond-F.Or parts) = and_then (all_of parts) (λ bs. Ok (list_any (λ b. b) bs))

-- whether a condition holds on these rows
unfoldable pub truth_asked : Combination → Cond → Result Bool Wide
truth_asked rows = fold-Cond (Result Bool Wide) (truth_asked_step rows)
