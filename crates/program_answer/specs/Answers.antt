-- The answers to a query by its program: when each verdict is right, by the program's points and by the worlds.
use Rattle.std.specs.Prelude.{◌≡◌, ℕ, ℤ, List, length, take}
use Rattle.ip_rows.specs.declared.program.Program.{Program}
use Rattle.tiql_query.specs.declared.query.Query.{Query}
use Rattle.tiql_query.specs.declared.world_column.WorldColumn.{WorldColumn}
use Rattle.world_def.specs.declared.world.World.{World}
use Rattle.world_def.specs.Columns.{Tables}
use Rattle.world_def.specs.Meaning.{IsBest, IsPossible, Meets, NoneMeets, score}
use Rattle.world_def.specs.Meaning as meaning
use Rattle.world_points.specs.Points.{cost}
use Rattle.prov_fold.specs.Graphs.{Graph, size}
use Rattle.bool_encode.specs.declared.stand.Stand.{Stand}
use Rattle.program_leaves.specs.Leaves.{IsFirstFalseRow, IsTooLarge}
use Rattle.point_listing.specs.Solving.{IsNoWorld, IsSpent}
use Rattle.point_listing.specs.Solving as solving
use Rattle.agg_encode.specs.Encoding.{value_at}
use Rattle.answer_text.specs.Written.{AreWritten}
use Rattle.answer_text.specs.declared.answer.Answer.{Answer}
use Rattle.answer_text.specs.declared.answer.PartAnswer.{PartAnswer}
use Rattle.answer_text.specs.declared.answer.Verdict.{Verdict}
use Rattle.answer_text.specs.declared.answer.Verdict.TheVariants as verdict
use Rattle.answer_text.specs.declared.answer.WorldText.{WorldText}

module _ (query : Query) (tables : Tables) (columns : List WorldColumn) (program : Program) where
  -- the sections are those of a world that is possible and meets, whose numbers stand first in the point, and the objective is its
  -- score, which is the point's value as it is minimized
  pub record IsWorldAt (point : List ℤ) (objective : ℤ) (worlds : List WorldText) : Type 0 where
    pub world : World
    pub possible : IsPossible query tables world
    pub meets : Meets query tables world
    pub numbers : meaning.numbers columns world ≡ take (length columns) point
    pub score : objective ≡ score query tables world
    pub value : value_at program point ≡ cost query.aim objective
    pub sections : AreWritten query.hypos world.tables worlds

  -- an optimal verdict with the world of a point, and with these parts
  abbrev pub IsOf : List ℤ → List PartAnswer → Verdict → Type 0
  IsOf point parts (verdict.Optimal objective worlds listed) = IsWorldAt point objective worlds × (listed ≡ parts)
  IsOf point parts (verdict.FalseRow row) = ⊥
  IsOf point parts (verdict.NoWorld part) = ⊥
  IsOf point parts (verdict.Unfinished nodes listed) = ⊥

  module _ (g : Graph) (stands : List Stand) where
    -- an optimal verdict: its point is a best one, and its world a best world
    pub record IsOptimal (budget : ℕ) (objective : ℤ) (worlds : List WorldText) (parts : List PartAnswer) : Type 0 where
      pub point : List ℤ
      pub told : IsWorldAt point objective worlds
      pub best : IsBest query tables told.world
      pub solved : solving.IsBest program g stands budget point parts

    -- the verdict is right, for a listing within the budget
    abbrev pub IsVerdictFor : ℕ → Verdict → Type 0
    IsVerdictFor budget (verdict.Optimal objective worlds parts) = IsOptimal budget objective worlds parts
    IsVerdictFor budget (verdict.FalseRow row) = IsFirstFalseRow program row × NoneMeets query tables
    IsVerdictFor budget (verdict.NoWorld part) = IsNoWorld program g stands budget part × NoneMeets query tables
    IsVerdictFor budget (verdict.Unfinished nodes parts) = (nodes ≡ budget) × IsSpent program g stands budget parts

    -- what is answered, with a budget of nodes: the part is not too large, and the three numbers are those of the program and the list
    pub record Answers (budget : ℕ) (answer : Answer) : Type 0 where
      pub fits : ¬ IsTooLarge program
      pub column_count : answer.columns ≡ length program.columns
      pub row_count : answer.rows ≡ length program.rows
      pub formula_count : answer.formulas ≡ size g
      pub verdict : IsVerdictFor budget answer.verdict
