-- What is answered by how the work at a program ended.
use Rattle.std.proofs.Common.{◌≡◌, ℕ, ℤ, List, length, take, refl, sym, ◌∙◌, ap, subst}
use Rattle.std.specs.Prelude.{Result, Ok, Err, IfOk}
use Rattle.base_kit.specs.declared.memory.Memory.{Memory}
use Rattle.ip_rows.specs.declared.program.Program.{Program}
use Rattle.ip_rows.specs.Programs.{IsMeasured, IsWellFormed}
use Rattle.tiql_query.specs.declared.query.Query.{Query}
use Rattle.tiql_query.specs.declared.world_column.WorldColumn.{WorldColumn}
use Rattle.world_def.specs.declared.world.World.{World}
use Rattle.world_def.specs.Columns.{Tables, columns_of}
use Rattle.world_def.specs.Meaning.{IsPossible, score}
use Rattle.world_def.specs.Meaning as meaning
use Rattle.world_points.specs.Points.{cost}
use Rattle.prov_fold.specs.Graphs.{Graph}
use Rattle.bool_encode.specs.declared.stand.Stand.{Stand}
use Rattle.whole_points.specs.Points.{IsWholePoint}
use Rattle.program_leaves.specs.Leaves.{IsFirstFalseRow}
use Rattle.program_leaves.proofs.Closing.{false_none}
use Rattle.point_listing.specs.Solving as solving
use Rattle.agg_encode.specs.Encoding.{Encodes, value_at}
use Rattle.answer_text.specs.Written.{AreWritten}
use Rattle.answer_text.specs.declared.answer.PartAnswer.{PartAnswer}
use Rattle.answer_text.specs.declared.answer.Verdict.{Verdict}
use Rattle.answer_text.specs.declared.answer.Verdict.TheVariants as verdict
use Rattle.answer_text.specs.declared.answer.WorldText.{WorldText}
use Rattle.program_answer.specs.Answers.{IsOf, IsVerdictFor, IsWorldAt}
use Rattle.program_answer.proofs.Best.{best_world, cost_twice, none_meets}

module _ (query : Query) (tables : Tables) (columns : List WorldColumn) (program : Program) (g : Graph) (stands : List Stand) (encodes : Encodes query tables columns program g stands) where
  -- the world that is made of a whole point's numbers is the one whose point it is
  pub world_told : (made : columns_of query tables ≡ Ok columns) (point numbers : List ℤ) (found : World) (objective value : ℤ) (worlds : List WorldText) → IsWholePoint program point → numbers ≡ take (length columns) point
      → ((world : World) → columns_of query tables ≡ Ok columns → IsPossible query tables world → meaning.numbers columns world ≡ numbers → found ≡ world)
      → value ≡ value_at program point → objective ≡ cost query.aim value → AreWritten query.hypos found.tables worlds → IsWorldAt query tables columns program point objective worlds
  world_told made point numbers found objective value worlds whole first one worth told sections =
      let its = encodes.back point whole in
      let same : found ≡ its.0 = one its.0 made its.1.possible (its.1.numbers ∙ sym first) in
      let scored : objective ≡ score query tables its.0 = told ∙ ap (cost query.aim) (worth ∙ its.1.value) ∙ cost_twice query.aim (score query tables its.0) in
      record {
        world = its.0;
        possible = its.1.possible;
        meets = its.1.meets;
        numbers = its.1.numbers;
        score = scored;
        value = its.1.value ∙ ap (cost query.aim) (sym scored);
        sections = subst (λ (w : World). AreWritten query.hypos w.tables worlds) same sections;
      }

  optimal_verdict : (budget : ℕ) (point : List ℤ) (parts : List PartAnswer) (told : Verdict) → solving.IsBest program g stands budget point parts → IsOf query tables columns program point parts told → IsVerdictFor query tables columns program g stands budget told
  optimal_verdict budget point parts (verdict.Optimal objective worlds listed) best of =
      let at = of.0 in
      record {
        point = point;
        told = at;
        best = best_world query tables columns program g stands encodes point at.world best.least at.possible at.meets (at.value ∙ ap (cost query.aim) at.score);
        solved = subst (λ (l : List PartAnswer). solving.IsBest program g stands budget point l) (sym of.1) best;
      }
  optimal_verdict budget point parts (verdict.FalseRow row) best of = absurd of
  optimal_verdict budget point parts (verdict.NoWorld part) best of = absurd of
  optimal_verdict budget point parts (verdict.Unfinished nodes listed) best of = absurd of

  -- a best point
  pub best_verdict : (budget : ℕ) (point : List ℤ) (parts : List PartAnswer) (told : Result Verdict Memory) → solving.IsBest program g stands budget point parts → IfOk told (IsOf query tables columns program point parts)
      → IfOk told (IsVerdictFor query tables columns program g stands budget)
  best_verdict budget point parts (Ok told) best of = optimal_verdict budget point parts told best of
  best_verdict budget point parts (Err e) best of = tt

  -- a false row
  pub row_verdict : (budget row : ℕ) → IsWellFormed program → IsMeasured program → IsFirstFalseRow program row → IsVerdictFor query tables columns program g stands budget (verdict.FalseRow row)
  row_verdict budget row formed measured first = (first, none_meets query tables columns program g stands encodes (false_none program formed measured row first.here))

  -- a part without a whole point
  pub part_verdict : (budget : ℕ) (part : PartAnswer) → solving.IsNoWorld program g stands budget part → IsVerdictFor query tables columns program g stands budget (verdict.NoWorld part)
  part_verdict budget part none = (none, none_meets query tables columns program g stands encodes none.none)
