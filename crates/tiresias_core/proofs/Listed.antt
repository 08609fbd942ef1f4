-- a finished answer of a listing is valid, and no world that a check of it judges is at fault
use Rattle.std.proofs.Common.{◌≡◌, ◌<◌, ◌≤◌, ◌+◌, ◌*◌, arith, ℕ, ℤ, true, false, List, [], length, refl, sym, ◌∙◌, subst, Option, Some, None}
use Rattle.std.specs.Prelude.{Result, Ok, All, position}
use Rattle.std.proofs.lemmas.List.Elements.{All-cons, All-nil}
use Rattle.branch_tree.specs.Faults.{IsSound, NoFault}
use Rattle.branch_tree.specs.Listing.{Closes, has_two, points}
use Rattle.branch_tree.specs.Tree.{Tree}
use Rattle.branch_tree.proofs.Counting.{worked_below}
use Rattle.branch_tree.proofs.Trees.{one_tree}
use Rattle.tiql_query.specs.Rows.{AreTables}
use Rattle.tiql_query.specs.WellFormed.{IsWellFormed}
use Rattle.tiql_query.specs.declared.query.Query.{Query}
use Rattle.tiql_query.specs.declared.world_column.WorldColumn.{WorldColumn}
use Rattle.world_def.specs.Columns.{Tables, columns_of}
use Rattle.world_def.specs.Meaning.{IsBest, NoneMeets, score}
use Rattle.world_def.specs.declared.fault.EvalFault.{EvalFault}
use Rattle.world_def.specs.declared.world.World.{World}
use Rattle.world_points.specs.Points.{cost, cost_at, judged, judged_at, root}
use Rattle.answer_text.specs.Worlds.{IsWorldOf}
use Rattle.answer_text.proofs.Worlds.{world_one}
use Rattle.answer_text.specs.declared.answer.Answer.{Answer}
use Rattle.answer_text.specs.declared.answer.PartAnswer.{PartAnswer}
use Rattle.answer_text.specs.declared.answer.Verdict.{Verdict}
use Rattle.answer_text.specs.declared.answer.Verdict.TheVariants as verdict
use Rattle.answer_text.specs.declared.answer.WorldText.{WorldText}
use Rattle.cert_check.specs.Reasons.{is_finished}
use Rattle.cert_check.specs.Valid as valid
use Rattle.world_listing.specs.Parts as told
use Rattle.world_listing.proofs.Texts.{optimal_read}

module _ (query : Query) (tables : Tables) (columns : List WorldColumn) where
  module _ (budget : ℕ) where
    sound_part : (part : PartAnswer) → told.IsListed query tables columns budget part → valid.IsSoundPart query tables columns part
    sound_part part listed = λ tree same.
        subst (λ (t : Tree). NoFault (judged_at query tables columns) t (root columns)) (one_tree listed.tree tree (sym listed.nodes ∙ same)) listed.sound

    sound_parts : (best : Option ℤ) (column : Option ℕ) (parts : List PartAnswer) → told.ArePartsFor query tables columns budget best column parts → All (valid.IsSoundPart query tables columns) parts
    sound_parts best None parts are = subst (All (valid.IsSoundPart query tables columns)) (sym are.0) (All-nil (valid.IsSoundPart query tables columns))
    sound_parts best (Some column) parts are =
        subst (All (valid.IsSoundPart query tables columns)) (sym are.1)
        (All-cons (valid.IsSoundPart query tables columns) are.0 [] (sound_part are.0 are.2.listed) (All-nil (valid.IsSoundPart query tables columns)))

    -- ---- what is closed

    closed_of : (best : Option ℤ) (part : PartAnswer) → told.IsWhole query tables columns budget best part → valid.IsClosed query tables columns best part
    closed_of best part whole = record {
      number = whole.listed.number;
      shown = whole.listed.columns;
      found = whole.found;
      tree = whole.listed.tree;
      nodes = whole.listed.nodes;
      done = whole.done;
      closes = subst (λ (b : Option ℤ). Closes (cost_at query tables columns) b whole.listed.tree (root columns)) whole.found whole.listed.closes;
    }

    all_closed : (best : Option ℤ) (column : Option ℕ) (parts : List PartAnswer) → told.ArePartsFor query tables columns budget best column parts → valid.AreClosedFor query tables columns best column parts
    all_closed best None parts are = are.0
    all_closed best (Some column) parts are = (are.0, are.1, closed_of best are.0 are.2)

    -- ---- answers

    module _ (fit : IsWellFormed query) (are : AreTables query tables) (made : columns_of query tables ≡ Ok columns) (some : All (λ table. 0 < length table.columns) query.tables) where
      valid_verdict : (verdict : Verdict) → told.IsVerdictFor query tables columns budget verdict → is_finished verdict ≡ true → valid.IsValidVerdict query tables columns verdict
      valid_verdict (verdict.Optimal objective worlds parts) tells finished = record {
        world = tells.world;
        given = optimal_read query tables columns budget fit are made some objective worlds parts tells;
        possible = tells.best.possible;
        meets = tells.best.meets;
        value = tells.score;
        closed = all_closed (Some (cost query.aim objective)) (position has_two (root columns)) parts tells.listed;
      }
      valid_verdict (verdict.FalseRow row) tells finished = record { first = tells.first; fixed = tells.fixed; none = tells.none }
      valid_verdict (verdict.NoWorld part) tells finished = record { several = tells.several; closed = closed_of None part tells.whole }
      valid_verdict (verdict.Unfinished nodes parts) tells finished = absurd (let k : false ≡ true = finished in cc)

      sound_verdict : (verdict : Verdict) → told.IsVerdictFor query tables columns budget verdict → valid.NoFaults query tables columns verdict
      sound_verdict (verdict.Optimal objective worlds parts) tells = (
        λ world is.
            let same : tells.world ≡ world = world_one query tables are worlds tells.world world (optimal_read query tables columns budget fit are made some objective worlds parts tells) is in
            subst (λ (w : World). IsSound (judged query tables w)) same
            (subst (λ (r : Result (Option ℤ) EvalFault). IsSound r) (sym tells.sound) refl),
        sound_parts (Some (cost query.aim objective)) (position has_two (root columns)) parts tells.listed,
      )
      sound_verdict (verdict.FalseRow row) tells = tells.sound
      sound_verdict (verdict.NoWorld part) tells = sound_part part tells.whole.listed
      sound_verdict (verdict.Unfinished nodes parts) tells = tt

-- a finished answer is valid
pub listed_valid : (query : Query) (tables : Tables) (columns : List WorldColumn) (budget : ℕ) (answer : Answer) → IsWellFormed query → AreTables query tables → columns_of query tables ≡ Ok columns
    → All (λ table. 0 < length table.columns) query.tables → told.Answers query tables columns budget answer → is_finished answer.verdict ≡ true → valid.IsValid query tables columns answer
listed_valid query tables columns budget answer fit are made some answers finished = record {
  no_columns = answers.columns;
  no_rows = answers.rows;
  no_formulas = answers.formulas;
  verdict = valid_verdict query tables columns budget fit are made some answer.verdict answers.verdict finished;
}

-- and no world that a check of an answer judges is at fault
pub listed_sound : (query : Query) (tables : Tables) (columns : List WorldColumn) (budget : ℕ) (answer : Answer) → IsWellFormed query → AreTables query tables → columns_of query tables ≡ Ok columns
    → All (λ table. 0 < length table.columns) query.tables → told.Answers query tables columns budget answer → valid.NoFaults query tables columns answer.verdict
listed_sound query tables columns budget answer fit are made some answers = sound_verdict query tables columns budget fit are made some answer.verdict answers.verdict

-- ---- what is said of an answer, verdict by verdict

module _ (query : Query) (tables : Tables) (columns : List WorldColumn) (budget : ℕ) (answer : Answer) (answers : told.Answers query tables columns budget answer) where
  told_of : (verdict : Verdict) → answer.verdict ≡ verdict → told.IsVerdictFor query tables columns budget verdict
  told_of verdict at = subst (told.IsVerdictFor query tables columns budget) at answers.verdict

  -- the sections of an optimal answer are those of a best world, whose score is the objective
  pub optimal_best : IsWellFormed query → AreTables query tables → columns_of query tables ≡ Ok columns → All (λ table. 0 < length table.columns) query.tables
      → (objective : ℤ) (worlds : List WorldText) (parts : List PartAnswer) → answer.verdict ≡ verdict.Optimal objective worlds parts
      → (world : World) × IsWorldOf query tables worlds world × IsBest query tables world × (objective ≡ score query tables world)
  optimal_best fit are made some objective worlds parts at =
      let tells : told.IsOptimal query tables columns budget objective worlds parts = told_of (verdict.Optimal objective worlds parts) at in
      (tells.world, optimal_read query tables columns budget fit are made some objective worlds parts tells, tells.best, tells.score)

  -- there is none where no possible world meets
  pub optimal_meets : (objective : ℤ) (worlds : List WorldText) (parts : List PartAnswer) → answer.verdict ≡ verdict.Optimal objective worlds parts → NoneMeets query tables → ⊥
  optimal_meets objective worlds parts at none =
      let tells : told.IsOptimal query tables columns budget objective worlds parts = told_of (verdict.Optimal objective worlds parts) at in
      none tells.world tells.best.possible tells.best.meets

  -- no possible world meets where an answer is impossible
  pub row_none : (row : ℕ) → answer.verdict ≡ verdict.FalseRow row → NoneMeets query tables
  row_none row at = let tells : told.IsFalseRow query tables columns row = told_of (verdict.FalseRow row) at in tells.none

  pub part_none : (part : PartAnswer) → answer.verdict ≡ verdict.NoWorld part → NoneMeets query tables
  part_none part at = let tells : told.IsNoWorld query tables columns budget part = told_of (verdict.NoWorld part) at in tells.none

  -- an unfinished answer has worked the whole budget
  pub unfinished_spent : (nodes : ℕ) (parts : List PartAnswer) → answer.verdict ≡ verdict.Unfinished nodes parts → nodes ≡ budget
  unfinished_spent nodes parts at = let tells : told.IsUnfinished query tables columns budget nodes parts = told_of (verdict.Unfinished nodes parts) at in tells.spent

  -- and there is none where the budget has a node for each that may be worked
  pub unfinished_short : (nodes : ℕ) (parts : List PartAnswer) → answer.verdict ≡ verdict.Unfinished nodes parts → 2 * points (root columns) ≤ budget + 1 → ⊥
  unfinished_short nodes parts at enough =
      let tells : told.IsUnfinished query tables columns budget nodes parts = told_of (verdict.Unfinished nodes parts) at in
      let below = worked_below tells.listed.tree (root columns) tells.listed.listing tells.undone in
      let spent = tells.listed.spent tells.undone in
      omega (arith, below, spent, enough)
