-- the truths of requirements and the number of the objective: what is made of the possible rows of a relation
use Rattle.std.specs.Prelude.{ℕ, pos, List, [], ◌∷◌}
use Rattle.tiql_query.specs.declared.relation.Column.{Column}
use Rattle.tiql_query.specs.declared.expression.Expr.{Expr}
use Rattle.tiql_query.specs.declared.condition.Cond.{Cond}
use Rattle.tiql_query.specs.declared.aim.Require.{Require}
use Rattle.tiql_query.specs.declared.aim.Require.TheVariants as needs
use Rattle.prov_fold.specs.declared.span.Scaled.{Scaled}
use Rattle.prov_fold.specs.Rules as rule
use Rattle.sym_rows.specs.declared.row.SymRow.{SymRow}
use Rattle.sym_rows.specs.Walks.{Walk, gives, ◌>>=◌, each, by_rule}
use Rattle.sym_values.specs.Numbers.{number_of}
use Rattle.sym_values.specs.Conditions.{test_of}

-- ---- requirements

-- a row is not there
abbrev pub absent : SymRow → Walk ℕ
absent row g = by_rule (rule.not_of row.presence) g

-- a row is not there, or meets a condition; the condition is made first
unfoldable pub absent_or : List Column → Cond → SymRow → Walk ℕ
absent_or columns test row g = test_of (columns ∷ []) (row ∷ []) test g >>= λ met g. absent row g >>= λ gone g. by_rule (rule.or_of (gone ∷ met ∷ [])) g

-- a row is there and meets a condition; the condition is made first
unfoldable pub there_and : List Column → Cond → SymRow → Walk ℕ
there_and columns test row g = test_of (columns ∷ []) (row ∷ []) test g >>= λ met g. by_rule (rule.and_of (row.presence ∷ met ∷ [])) g

-- what a requirement asks of a row
unfoldable pub part_of : List Column → Require → SymRow → Walk ℕ
part_of columns (needs.All source test) row g = absent_or columns test row g
part_of columns (needs.Some source test) row g = there_and columns test row g
part_of columns (needs.None source) row g = absent row g

-- what it asks of each row, in turn
unfoldable pub parts_of : List Column → Require → List SymRow → Walk (List ℕ)
parts_of columns need rows g = each (λ place row. part_of columns need row) 0 rows g

-- one truth: one of these holds
unfoldable pub one_of : List ℕ → Walk (List ℕ)
one_of parts g = by_rule (rule.or_of parts) g >>= λ root g. gives (root ∷ []) g

-- SOME asks that one of the rows does what is asked, ALL and NONE that each does
unfoldable pub roots_from : Require → List ℕ → Walk (List ℕ)
roots_from (needs.All source test) parts g = gives parts g
roots_from (needs.Some source test) parts g = one_of parts g
roots_from (needs.None source) parts g = gives parts g

-- the truths that a requirement asks to hold
unfoldable pub roots_of : List Column → Require → List SymRow → Walk (List ℕ)
roots_of columns need rows g = parts_of columns need rows g >>= roots_from need

-- ---- the objective

-- what a row brings: its number where it is there
unfoldable pub share_of : List Column → Expr → SymRow → Walk Scaled
share_of columns part row g = number_of (columns ∷ []) (row ∷ []) part g >>= λ value g. by_rule (rule.guard row.presence value) g >>= λ share g. gives (record { factor = pos 1; number = share }) g

-- what the rows bring, in turn
unfoldable pub shares_of : List Column → Expr → List SymRow → Walk (List Scaled)
shares_of columns part rows g = each (λ place row. share_of columns part row) 0 rows g

-- one sum of it
abbrev pub total_of : List Scaled → Walk ℕ
total_of made g = by_rule (rule.sum (pos 0) made) g

-- the number of the objective
unfoldable pub aim_of : List Column → Expr → List SymRow → Walk ℕ
aim_of columns part rows g = shares_of columns part rows g >>= total_of
