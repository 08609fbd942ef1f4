-- conditions on a combination of possible rows: the truths that are made of them
use Rattle.std.specs.Prelude.{ℕ, ℤ, pos, negsuc, Bool, ◌||◌, if◌then◌else◌, List, [], ◌∷◌, Result, Ok}
use Rattle.base_kit.specs.Asking.{and_then}
use Rattle.base_kit.specs.Orders.{value_order}
use Rattle.tiql_query.specs.Kinds.{Scope}
use Rattle.tiql_query.specs.declared.expression.Expr.{Expr}
use Rattle.tiql_query.specs.declared.condition.Cmp.{Cmp}
use Rattle.tiql_query.specs.declared.condition.Cmp.TheVariants as cmp
use Rattle.tiql_query.specs.declared.condition.Cond.{Cond}
use Rattle.tiql_query.specs.declared.condition.Cond.TheOpen.{Cond-F}
use Rattle.tiql_query.specs.declared.condition.Cond.TheFolds.{fold-Cond}
use Rattle.row_values.specs.declared.fault.Wide.{Wide}
use Rattle.row_values.specs.Values.{Combination, holds}
use Rattle.row_values.specs.Asked.{text_of, value_of}
use Rattle.view_select.specs.Asking.{is_unknown}
use Rattle.prov_fold.specs.Rules as rule
use Rattle.sym_rows.specs.declared.row.SymRow.{SymRow}
use Rattle.sym_values.specs.Numbers.{plain, fixed_rows, number_of}
use Rattle.sym_rows.specs.Walks.{truth_of, Walk, gives, ◌>>=◌, each, by_rule, told}

-- whether one number and this constant are at least another
abbrev pub at_least : ℤ → ℕ → ℕ → Walk ℕ
at_least constant one other g = by_rule (rule.sum constant (record { factor = pos 1; number = one } ∷ record { factor = negsuc 0; number = other } ∷ [])) g >>= λ n g. by_rule (rule.pos_of n) g

-- the same both ways
abbrev pub both_ways : ℤ → (List ℕ → rule.Rule) → ℕ → ℕ → Walk ℕ
both_ways constant word one other g = at_least constant one other g >>= λ p g. at_least constant other one g >>= λ q g. by_rule (word (p ∷ q ∷ [])) g

-- a comparison of two numbers
unfoldable pub compared : Cmp → ℕ → ℕ → Walk ℕ
compared cmp.Eq one other g = both_ways (pos 0) rule.and_of one other g
compared cmp.Ne one other g = both_ways (negsuc 0) rule.or_of one other g
compared cmp.Lt one other g = at_least (negsuc 0) other one g
compared cmp.Le one other g = at_least (pos 0) other one g
compared cmp.Gt one other g = at_least (negsuc 0) one other g
compared cmp.Ge one other g = at_least (pos 0) one other g

-- a comparison of two fixed sides, both of which are asked
unfoldable pub compare_plain : Combination → Cmp → Expr → Expr → Result Bool Wide
compare_plain rows test one other = and_then (plain rows one) (λ m. and_then (plain rows other) (λ n.
    Ok (holds test (value_order (value_of (text_of rows one) m) (value_of (text_of rows other) n)))))

-- a comparison: known where both sides are fixed, else both sides are made
unfoldable pub compare_of : Scope → List SymRow → Cmp → Expr → Expr → Walk ℕ
compare_of scope rows test one other g =
    if is_unknown scope one || is_unknown scope other
    then (number_of scope rows one g >>= λ m g. number_of scope rows other g >>= λ n g. compared test m n g)
    else (told (compare_plain (fixed_rows rows) test one other) g >>= λ b g. gives (truth_of b) g)

-- a condition, by its parts
abbrev pub test_step : Scope → List SymRow → Cond-F (Walk ℕ) → Walk ℕ
test_step scope rows (Cond-F.Compare test one other) g = compare_of scope rows test one other g
test_step scope rows (Cond-F.Not part) g = part g >>= λ id g. by_rule (rule.not_of id) g
test_step scope rows (Cond-F.And parts) g = each (λ i part. part) 0 parts g >>= λ ids g. by_rule (rule.and_of ids) g
test_step scope rows (Cond-F.Or parts) g = each (λ i part. part) 0 parts g >>= λ ids g. by_rule (rule.or_of ids) g

-- the truth of a condition
unfoldable pub test_of : Scope → List SymRow → Cond → Walk ℕ
test_of scope rows = fold-Cond (Walk ℕ) (test_step scope rows)
