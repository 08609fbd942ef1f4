-- the truths of a requirement, and the number of the objective
use Rattle.std.proofs.Common.{ℕ, pos, List, [], ◌∷◌}
use Rattle.ip_rows.specs.declared.Bounds.{Bounds}
use Rattle.tiql_query.specs.declared.relation.Column.{Column}
use Rattle.tiql_query.specs.declared.expression.Expr.{Expr}
use Rattle.tiql_query.specs.declared.condition.Cond.{Cond}
use Rattle.tiql_query.specs.declared.aim.Require.{Require}
use Rattle.tiql_query.specs.declared.aim.Require.TheVariants as needs
use Rattle.prov_fold.specs.Graphs.{Graph}
use Rattle.prov_fold.specs.Rules as rule
use Rattle.sym_rows.specs.declared.row.SymRow.{SymRow}
use Rattle.sym_rows.specs.Walks.{by_rule}
use Rattle.sym_values.specs.Numbers.{number_of}
use Rattle.sym_values.specs.Conditions.{test_of}
use Rattle.sym_goals.specs.Goals.{absent, absent_or, there_and, part_of, parts_of, one_of, roots_from, roots_of, share_of, shares_of, aim_of}
use Rattle.walk_choices.proofs.RuleChoices.{IsOver}
use Rattle.walk_choices.proofs.WalkChoices.{WalkedOver, ok_over, bind_over, each_over, not_walk, sum_walk, guard_walk, and_walk, or_walk}
use Rattle.walk_choices.proofs.ValueChoices.{number_over, test_over}

module _ (sides : List Bounds) (columns : List Column) where
  -- ---- requirements

  absent_or_over : (test : Cond) (row : SymRow) (g : Graph) → IsOver sides g → WalkedOver sides (absent_or columns test row g)
  unfolding absent_or
  absent_or_over test row g over =
      bind_over sides (test_of (columns ∷ []) (row ∷ []) test g) _ (test_over sides (columns ∷ []) (row ∷ []) test g over)
      (λ met more. bind_over sides (absent row met.1) _ (not_walk sides row.presence met.1 more)
      (λ gone last. or_walk sides (gone.0 ∷ met.0 ∷ []) gone.1 last))

  there_over : (test : Cond) (row : SymRow) (g : Graph) → IsOver sides g → WalkedOver sides (there_and columns test row g)
  unfolding there_and
  there_over test row g over =
      bind_over sides (test_of (columns ∷ []) (row ∷ []) test g) _ (test_over sides (columns ∷ []) (row ∷ []) test g over)
      (λ met more. and_walk sides (row.presence ∷ met.0 ∷ []) met.1 more)

  part_over : (need : Require) (row : SymRow) (g : Graph) → IsOver sides g → WalkedOver sides (part_of columns need row g)
  unfolding part_of
  part_over (needs.All source test) row g over = absent_or_over test row g over
  part_over (needs.Some source test) row g over = there_over test row g over
  part_over (needs.None source) row g over = not_walk sides row.presence g over

  parts_over : (need : Require) (rows : List SymRow) (g : Graph) → IsOver sides g → WalkedOver sides (parts_of columns need rows g)
  unfolding parts_of
  parts_over need rows g over = each_over sides (λ place row. part_of columns need row) (λ place row g more. part_over need row g more) 0 rows g over

  one_over : (parts : List ℕ) (g : Graph) → IsOver sides g → WalkedOver sides (one_of parts g)
  unfolding one_of
  one_over parts g over = bind_over sides (by_rule (rule.or_of parts) g) _ (or_walk sides parts g over) (λ root more. ok_over sides (root.0 ∷ [], root.1) more)

  from_over : (need : Require) (parts : List ℕ) (g : Graph) → IsOver sides g → WalkedOver sides (roots_from need parts g)
  unfolding roots_from
  from_over (needs.All source test) parts g over = ok_over sides (parts, g) over
  from_over (needs.Some source test) parts g over = one_over parts g over
  from_over (needs.None source) parts g over = ok_over sides (parts, g) over

  pub roots_over : (need : Require) (rows : List SymRow) (g : Graph) → IsOver sides g → WalkedOver sides (roots_of columns need rows g)
  unfolding roots_of
  roots_over need rows g over = bind_over sides (parts_of columns need rows g) _ (parts_over need rows g over) (λ parts more. from_over need parts.0 parts.1 more)

  -- ---- the objective

  share_over : (part : Expr) (row : SymRow) (g : Graph) → IsOver sides g → WalkedOver sides (share_of columns part row g)
  unfolding share_of
  share_over part row g over =
      bind_over sides (number_of (columns ∷ []) (row ∷ []) part g) _ (number_over sides (columns ∷ []) (row ∷ []) part g over)
      (λ value more. bind_over sides (by_rule (rule.guard row.presence value.0) value.1) _ (guard_walk sides row.presence value.0 value.1 more)
      (λ share last. ok_over sides (record { factor = pos 1; number = share.0 }, share.1) last))

  shares_over : (part : Expr) (rows : List SymRow) (g : Graph) → IsOver sides g → WalkedOver sides (shares_of columns part rows g)
  unfolding shares_of
  shares_over part rows g over = each_over sides (λ place row. share_of columns part row) (λ place row g more. share_over part row g more) 0 rows g over

  pub aim_over : (part : Expr) (rows : List SymRow) (g : Graph) → IsOver sides g → WalkedOver sides (aim_of columns part rows g)
  unfolding aim_of
  aim_over part rows g over = bind_over sides (shares_of columns part rows g) _ (shares_over part rows g over) (λ made more. sum_walk sides (pos 0) made.0 made.1 more)
