-- what is told of an answer: of each view its rows, then whether the world meets, then its score
use Rattle.std.specs.Prelude.{◌≡◌, ◌≢◌, ◌↔◌, ℕ, ◌+◌, Bool, false, IsTrue, List, [], ◌∷◌, ◌++◌, Option, is_none, Result, Ok, Err}
use Rattle.std.specs.Global.{Vec}
use Rattle.base_kit.specs.Asking.{and_then}
use Rattle.tiql_query.specs.declared.relation.Source.TheVariants as sources
use Rattle.tiql_query.specs.declared.view.QView.{QView}
use Rattle.tiql_query.specs.declared.query.Query.{Query}
use Rattle.world_def.specs.declared.fault.EvalFault.{EvalFault}
use Rattle.world_def.specs.declared.fault.EvalFault.TheVariants as fault
use Rattle.world_def.specs.declared.world.World.{World}
use Rattle.world_def.specs.declared.judge.Broken.{Broken}
use Rattle.world_def.specs.Columns.{Tables}
use Rattle.world_def.specs.Judging.{IsSmallWorld, broken_from, score_asked}
use Rattle.world_def.specs.Relations.{rows_in}
use Rattle.world_def.specs.Views.{Gives, rows_asked}
use Rattle.world_def.specs.Meaning as meaning
use Rattle.answer_text.specs.declared.answer.WorldText.{WorldText}
use Rattle.answer_text.specs.declared.answer.Verdict.{Verdict}
use Rattle.answer_text.specs.declared.answer.Verdict.TheVariants as verdict
use Rattle.answer_text.specs.Worlds.{IsWorldOf}
use Rattle.world_eval.specs.declared.evaluation.Evaluation.{Evaluation}
use Rattle.world_eval.specs.declared.evaluation.Evaluation.TheVariants as evaluations
use Rattle.world_eval.specs.declared.standing.Standing.{Standing}
use Rattle.world_eval.specs.declared.standing.Standing.TheVariants as standing
use Rattle.world_eval.specs.Lines.{possible_line, view_text, meets_line, score_line}
use Rattle.world_eval.specs.Standings.{IsStanding}

-- ---- as it is asked

-- the text of the view with this number
unfoldable pub view_told : Query → Tables → World → ℕ → QView → Result (List ℕ) EvalFault
view_told query tables world number view = and_then (rows_asked query tables world (sources.View number)) (λ rows. Ok (view_text view rows))

-- the text of views in their order, of which the first has this number
unfoldable pub views_told : Query → Tables → World → ℕ → List QView → Result (List ℕ) EvalFault
views_told query tables world number [] = Ok []
views_told query tables world number (view ∷ views) =
    and_then (view_told query tables world number view) (λ text. and_then (views_told query tables world (number + 1) views) (λ more. Ok (text ++ more)))

-- a world: its views, then whether it meets, then its score
unfoldable pub world_told : Query → Tables → World → Result Evaluation EvalFault
world_told query tables world =
    and_then (views_told query tables world 0 query.views) (λ views.
    and_then (broken_from query tables world 1 query.requires_) (λ broken.
    and_then (score_asked query tables world query.aim) (λ score.
    Ok (evaluations.Told (views ++ meets_line broken ++ score_line score) (is_none broken)))))

-- a world that is not possible is told by its first wrong name, and a possible one by what it has
unfoldable pub evaluation : Query → Tables → Standing → Result Evaluation EvalFault
evaluation query tables (standing.NotPossible name) = Ok (evaluations.Told (possible_line name) false)
evaluation query tables (standing.Possible world) = world_told query tables world

-- the world of these sections stands somehow, and this is its evaluation, unless memory is wanting
abbrev pub Tells : Query → Tables → List WorldText → Result Evaluation EvalFault → Type 0
Tells query tables worlds (Ok told) = (stands : Standing) × IsStanding query tables worlds stands × (evaluation query tables stands ≡ Ok told)
Tells query tables worlds (Err e) = e ≢ fault.Memory → (stands : Standing) × IsStanding query tables worlds stands × (evaluation query tables stands ≡ Err e)

-- an optimal answer is told by its world, and any other has none
abbrev pub Evaluates : Query → Tables → Verdict → Result Evaluation EvalFault → Type 0
Evaluates query tables (verdict.Optimal objective worlds parts) result = Tells query tables worlds result
Evaluates query tables (verdict.FalseRow row) result = Gives (Ok evaluations.NoWorld) result
Evaluates query tables (verdict.NoWorld part) result = Gives (Ok evaluations.NoWorld) result
Evaluates query tables (verdict.Unfinished nodes parts) result = Gives (Ok evaluations.NoWorld) result

-- however the world of these sections stands, this is its evaluation, unless memory is wanting
abbrev pub TellsEach : Query → Tables → List WorldText → Result Evaluation EvalFault → Type 0
TellsEach query tables worlds result = (stands : Standing) → IsStanding query tables worlds stands → Gives (evaluation query tables stands) result

abbrev pub EvaluatesEach : Query → Tables → Verdict → Result Evaluation EvalFault → Type 0
EvaluatesEach query tables (verdict.Optimal objective worlds parts) result = TellsEach query tables worlds result
EvaluatesEach query tables (verdict.FalseRow row) result = Gives (Ok evaluations.NoWorld) result
EvaluatesEach query tables (verdict.NoWorld part) result = Gives (Ok evaluations.NoWorld) result
EvaluatesEach query tables (verdict.Unfinished nodes parts) result = Gives (Ok evaluations.NoWorld) result

-- ---- as it is meant

-- the text of views by the rows that they have in a world
unfoldable pub views_in : Query → Tables → World → ℕ → List QView → List ℕ
views_in query tables world number [] = []
views_in query tables world number (view ∷ views) = view_text view (rows_in query tables world (sources.View number)) ++ views_in query tables world (number + 1) views

-- the text has the rows of each view, the world's score, and no broken requirement exactly where the world meets
pub record IsTextOf (query : Query) (tables : Tables) (world : World) (text : List ℕ) (is_met : Bool) : Type 0 where
  pub broken : Option Broken
  pub whole : text ≡ views_in query tables world 0 query.views ++ meets_line broken ++ score_line (meaning.score query tables world)
  pub meets : is_none broken ≡ meaning.meets query tables world
  pub met : is_met ≡ meaning.meets query tables world

-- the evaluation is a text of a world
abbrev pub IsToldOf : Query → Tables → World → Evaluation → Type 0
IsToldOf query tables world evaluations.NoWorld = ⊥
IsToldOf query tables world (evaluations.Told text met) = IsTextOf query tables world text met

-- a possible world that the sections are is told by its meaning
abbrev pub MeansEach : Query → Tables → List WorldText → Evaluation → Type 0
MeansEach query tables worlds told = (world : World) → IsWorldOf query tables worlds world → meaning.IsPossible query tables world → IsToldOf query tables world told

-- likewise of an optimal answer, and any other has no world
abbrev pub IsMeant : Query → Tables → Verdict → Evaluation → Type 0
IsMeant query tables (verdict.Optimal objective worlds parts) told = MeansEach query tables worlds told
IsMeant query tables (verdict.FalseRow row) told = told ≡ evaluations.NoWorld
IsMeant query tables (verdict.NoWorld part) told = told ≡ evaluations.NoWorld
IsMeant query tables (verdict.Unfinished nodes parts) told = told ≡ evaluations.NoWorld

-- whether the evaluation is of a world that meets
abbrev pub is_met : Evaluation → Bool
is_met evaluations.NoWorld = false
is_met (evaluations.Told text met) = met

-- the sections are a possible world that meets
abbrev pub HaveWorld : Query → Tables → List WorldText → Type 0
HaveWorld query tables worlds = (world : World) × IsWorldOf query tables worlds world × meaning.IsPossible query tables world × meaning.Meets query tables world

-- an evaluation is of a world that meets exactly where the answer is optimal and has such a world
abbrev pub IsMetExactly : Query → Tables → Verdict → Evaluation → Type 0
IsMetExactly query tables (verdict.Optimal objective worlds parts) told = IsTrue (is_met told) ↔ HaveWorld query tables worlds
IsMetExactly query tables (verdict.FalseRow row) told = is_met told ≡ false
IsMetExactly query tables (verdict.NoWorld part) told = is_met told ≡ false
IsMetExactly query tables (verdict.Unfinished nodes parts) told = is_met told ≡ false

-- ---- of the parts

-- a world that is possible has few rows
abbrev pub IsSmallStanding : Tables → Standing → Type 0
IsSmallStanding tables (standing.NotPossible name) = Unit {0}
IsSmallStanding tables (standing.Possible world) = IsSmallWorld tables world

-- the text that the asking comes to, unless memory is wanting
abbrev pub Puts : Result (List ℕ) EvalFault → Result (Vec ℕ) EvalFault → Type 0
Puts outcome (Ok text) = outcome ≡ Ok text.items
Puts outcome (Err e) = e ≢ fault.Memory → outcome ≡ Err e

-- likewise where it is appended
abbrev pub Adds : Result (List ℕ) EvalFault → List ℕ → List ℕ → Result Unit EvalFault → Type 0
Adds outcome before after (Ok done) = (text : List ℕ) × (outcome ≡ Ok text) × (after ≡ before ++ text)
Adds outcome before after (Err e) = e ≢ fault.Memory → outcome ≡ Err e
