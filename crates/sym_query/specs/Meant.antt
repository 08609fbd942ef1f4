-- what the walk of a query means: on each possible world, whether the world meets and its score
use Rattle.std.specs.Prelude.{◌≡◌, ℕ, ℤ, pos, List, All, Option, Some, None}
use Rattle.std.specs.List.{list_all}
use Rattle.tiql_query.specs.declared.query.Query.{Query}
use Rattle.tiql_query.specs.declared.view.QView.{QView}
use Rattle.tiql_query.specs.declared.world_column.WorldColumn.{WorldColumn}
use Rattle.world_def.specs.declared.world.World.{World}
use Rattle.world_def.specs.Columns.{Tables}
use Rattle.world_def.specs.Meaning.{IsPossible, meets}
use Rattle.world_def.specs.Meaning as meaning
use Rattle.prov_fold.specs.Graphs.{Graph, HasTruth, HasNumber}
use Rattle.prov_fold.specs.Values.{holds}
use Rattle.view_agg.specs.Views.{IsGroupedBy}
use Rattle.sym_query.specs.declared.goals.Goals.{Goals}

-- what is no aggregate in a grouped select is a column of GROUP BY, in all views
abbrev pub AreGroupedBy : Query → Type 0
AreGroupedBy query = All (λ (view : QView). All IsGroupedBy view.arms) query.views

-- the number of the objective, 0 of FIND
abbrev pub aim_in : (ℕ → ℤ) → Option ℕ → ℤ
aim_in v None = pos 0
aim_in v (Some id) = v id

-- the number of the objective is a number of the list
abbrev pub IsAim : Graph → Option ℕ → Type 0
IsAim g None = Unit {0}
IsAim g (Some id) = HasNumber g id

-- the truths are truths of the list, and the number of the objective is a number of it
pub record AreGoals (g : Graph) (goals : Goals) : Type 0 where
  pub roots : All (HasTruth g) goals.roots
  pub aim : IsAim g goals.aim

-- all truths hold exactly where the world meets, and the number of the objective is its score
pub record AreGoalsOn (query : Query) (tables : Tables) (world : World) (goals : Goals) (v : ℕ → ℤ) : Type 0 where
  pub met : list_all (holds v) goals.roots ≡ meets query tables world
  pub score : aim_in v goals.aim ≡ meaning.score query tables world

-- likewise on each possible world
abbrev pub AreGoalsOf : Query → Tables → List WorldColumn → Goals → List ℤ → (ℕ → ℤ) → Type 0
AreGoalsOf query tables columns goals numbers v =
    AreGroupedBy query → (world : World) → IsPossible query tables world → numbers ≡ meaning.numbers columns world → AreGoalsOn query tables world goals v
