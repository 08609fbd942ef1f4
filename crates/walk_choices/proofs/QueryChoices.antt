-- the walk of a whole query: its presences and cells are world columns
use Rattle.std.proofs.Common.{refl, subst, ℕ, zero, suc, ◌<◌, List, [], ◌∷◌, ◌++◌, length, All, Some, None, Ok, Err, arith}
use Rattle.ip_rows.specs.declared.Bounds.{Bounds}
use Rattle.tiql_query.specs.declared.relation.Source.{Source}
use Rattle.tiql_query.specs.declared.relation.Source.TheVariants as sources
use Rattle.tiql_query.specs.declared.relation.QHypo.{QHypo}
use Rattle.tiql_query.specs.declared.view.QView.{QView}
use Rattle.tiql_query.specs.declared.aim.Require.{Require}
use Rattle.tiql_query.specs.declared.aim.Aim.{Aim}
use Rattle.tiql_query.specs.declared.aim.Aim.TheVariants as aims
use Rattle.tiql_query.specs.declared.expression.Expr.{Expr}
use Rattle.tiql_query.specs.declared.query.Query.{Query}
use Rattle.tiql_query.specs.declared.world_column.WorldColumn.{WorldColumn}
use Rattle.world_def.specs.Columns.{Tables}
use Rattle.world_def.specs.Judging.{source_of}
use Rattle.world_points.specs.Points.{root}
use Rattle.prov_fold.specs.Graphs.{Graph, node, range, size}
use Rattle.sym_rows.specs.declared.row.SymRow.{SymRow}
use Rattle.sym_rows.specs.declared.row.Known.{Known}
use Rattle.sym_rows.specs.Hypos.{hypo_rows}
use Rattle.sym_rows.specs.Walks as rows
use Rattle.sym_goals.specs.Goals.{roots_of, aim_of}
use Rattle.view_join.specs.Sources.{rows_at}
use Rattle.view_agg.specs.Views.{view_walk}
use Rattle.sym_query.specs.declared.goals.Goals.{Goals}
use Rattle.sym_query.specs.Walks.{Walked, Walk, through, of, hypo_more, hypos_walk, with_view, view_more, views_walk, before_views, known_walk, columns_at, need_walk, need_more, roots_walk, sum_walk, aim_walk, goals_walk, query_walk}
use Rattle.walk_choices.specs.Choices.{start, WalksOverChoices}
use Rattle.walk_choices.proofs.RuleChoices.{IsRight, IsOver}
use Rattle.walk_choices.proofs.WalkChoices.{WalkedOver, ok_over, bind_over}
use Rattle.walk_choices.proofs.SideChoices.{IsSwitch, columns_switch}
use Rattle.walk_choices.proofs.RowChoices.{hypo_over}
use Rattle.walk_choices.proofs.ViewChoices.{view_over}
use Rattle.walk_choices.proofs.GoalChoices.{roots_over, aim_over}

-- the walk of a relation, with its name
of_over : {A : Type 0} (sides : List Bounds) (source : Source) (walked : rows.Walked A) → WalkedOver sides walked → WalkedOver sides (of source walked)
of_over sides source (Ok made) over = record { behind = over.behind }
of_over sides source (Err stop) over = record { behind = over.behind }

-- items in turn, beside what was made of those before
through_over : {X S : Type 0} (sides : List Bounds) (f : X → S → Walk S) → ((x : X) (made : S) (g : Graph) → IsOver sides g → WalkedOver sides (f x made g)) → (xs : List X) (made : S) (g : Graph) → IsOver sides g → WalkedOver sides (through f xs made g)
unfolding through
through_over sides f h [] made g over = ok_over sides (made, g) over
through_over sides f h (x ∷ xs) made g over = bind_over sides (f x made g) _ (h x made g over) (λ more kept. through_over sides f h xs more.0 more.1 kept)

module _ (query : Query) (tables : Tables) (columns : List WorldColumn) (switch : All IsSwitch columns) where
  -- ---- the possible rows of all relations

  hypo_more_over : (hypo : QHypo) (made : List (List SymRow)) (g : Graph) → IsOver (root columns) g → WalkedOver (root columns) (hypo_more query tables columns hypo made g)
  unfolding hypo_more
  hypo_more_over hypo made g over =
      bind_over (root columns) (of (sources.Hypo (length made)) (hypo_rows query tables columns (length made) g)) _
      (of_over (root columns) (sources.Hypo (length made)) (hypo_rows query tables columns (length made) g) (hypo_over query tables columns switch (length made) g over))
      (λ rows more. ok_over (root columns) (made ++ rows.0 ∷ [], rows.1) more)

  hypos_over : (g : Graph) → IsOver (root columns) g → WalkedOver (root columns) (hypos_walk query tables columns g)
  unfolding hypos_walk
  hypos_over g over = through_over (root columns) (hypo_more query tables columns) hypo_more_over query.hypos [] g over

  view_more_over : (view : QView) (known : Known) (g : Graph) → IsOver (root columns) g → WalkedOver (root columns) (view_more query view known g)
  unfolding view_more
  view_more_over view known g over =
      bind_over (root columns) (of (sources.View (length known.views)) (view_walk query known view g)) _
      (of_over (root columns) (sources.View (length known.views)) (view_walk query known view g) (view_over (root columns) query known view g over))
      (λ rows more. ok_over (root columns) (with_view known rows.0, rows.1) more)

  views_over : (before : Known) (g : Graph) → IsOver (root columns) g → WalkedOver (root columns) (views_walk query before g)
  unfolding views_walk
  views_over before g over = through_over (root columns) (view_more query) view_more_over query.views before g over

  known_over : (g : Graph) → IsOver (root columns) g → WalkedOver (root columns) (known_walk query tables columns g)
  unfolding known_walk
  known_over g over = bind_over (root columns) (hypos_walk query tables columns g) _ (hypos_over g over) (λ hypos more. views_over (before_views tables hypos.0) hypos.1 more)

  -- ---- requirements and the objective

  need_over : (known : Known) (need : Require) (g : Graph) → IsOver (root columns) g → WalkedOver (root columns) (need_walk query known need g)
  unfolding need_walk
  need_over known need g over =
      of_over (root columns) (source_of need) (roots_of (columns_at query (source_of need)) need (rows_at known (source_of need)) g)
      (roots_over (root columns) (columns_at query (source_of need)) need (rows_at known (source_of need)) g over)

  need_more_over : (known : Known) (need : Require) (made : List ℕ) (g : Graph) → IsOver (root columns) g → WalkedOver (root columns) (need_more query known need made g)
  unfolding need_more
  need_more_over known need made g over = bind_over (root columns) (need_walk query known need g) _ (need_over known need g over) (λ roots more. ok_over (root columns) (made ++ roots.0, roots.1) more)

  needs_over : (known : Known) (g : Graph) → IsOver (root columns) g → WalkedOver (root columns) (roots_walk query known g)
  unfolding roots_walk
  needs_over known g over = through_over (root columns) (need_more query known) (need_more_over known) query.requires_ [] g over

  sum_over : (known : Known) (source : Source) (part : Expr) (g : Graph) → IsOver (root columns) g → WalkedOver (root columns) (sum_walk query known source part g)
  unfolding sum_walk
  sum_over known source part g over =
      of_over (root columns) source (aim_of (columns_at query source) part (rows_at known source) g) (aim_over (root columns) (columns_at query source) part (rows_at known source) g over)

  aimed_over : (known : Known) (aim : Aim) (g : Graph) → IsOver (root columns) g → WalkedOver (root columns) (aim_walk query known aim g)
  unfolding aim_walk
  aimed_over known aims.Find g over = ok_over (root columns) (None, g) over
  aimed_over known (aims.Sum maximize source part) g over =
      bind_over (root columns) (sum_walk query known source part g) _ (sum_over known source part g over) (λ id more. ok_over (root columns) (Some id.0, id.1) more)

  goals_over : (known : Known) (g : Graph) → IsOver (root columns) g → WalkedOver (root columns) (goals_walk query known g)
  unfolding goals_walk
  goals_over known g over =
      bind_over (root columns) (roots_walk query known g) _ (needs_over known g over)
      (λ roots more. bind_over (root columns) (aim_walk query known query.aim roots.1) _ (aimed_over known query.aim roots.1 more)
      (λ aim last. ok_over (root columns) (record { roots = roots.0; aim = aim.0 }, aim.1) last))

  query_over : (g : Graph) → IsOver (root columns) g → WalkedOver (root columns) (query_walk query tables columns g)
  unfolding query_walk
  query_over g over = bind_over (root columns) (known_walk query tables columns g) _ (known_over g over) (λ known more. goals_over known.0 known.1 more)

-- False and True are no choices
start_over : (sides : List Bounds) → IsOver sides start
start_over sides = record { count = refl; right = right }
  where
    right : (z : ℕ) → z < size start → IsRight sides (range start z) (node start z)
    right zero lt = λ number is. absurd is
    right (suc zero) lt = λ number is. absurd is
    right (suc (suc z)) lt = absurd (omega (arith, lt))

-- each presence and each cell of the list that the walk makes is a world column, whose sides are its range
pub walk_choices : WalksOverChoices
walk_choices query tables columns goals g made walked =
    let over : IsOver (root columns) g = (subst (λ (w : Walked Goals). WalkedOver (root columns) w) walked (query_over query tables columns (columns_switch query tables columns made) start (start_over (root columns)))).behind in
    record { there = λ z number lt is. (over.right z lt number is).0; ranged = λ z number lt is. (over.right z lt number is).1 }
