-- What the parts of a check tell.
use Rattle.std.specs.Prelude.{◌≡◌, ◌≢◌, ℤ, ◌&&◌, List, Option, None, Result, Ok, Err}
use Rattle.std.specs.List.{AllZip}
use Rattle.tiql_query.specs.declared.query.Query.{Query}
use Rattle.tiql_query.specs.declared.world_column.WorldColumn.{WorldColumn}
use Rattle.branch_tree.specs.Tree.{Tree, preorder}
use Rattle.answer_text.specs.declared.answer.PartAnswer.{PartAnswer}
use Rattle.answer_text.specs.declared.answer.WorldText.{WorldText}
use Rattle.world_def.specs.declared.fault.EvalFault.{EvalFault}
use Rattle.world_def.specs.declared.world.World.{World}
use Rattle.world_def.specs.Columns.{Tables}
use Rattle.world_points.specs.Points.{root}
use Rattle.cert_check.specs.Faults.{asking}
use Rattle.cert_check.specs.declared.fault.CheckFault.{CheckFault}
use Rattle.cert_check.specs.declared.fault.CheckFault.TheVariants as fault
use Rattle.cert_check.specs.declared.fault.Reject.TheVariants as reject
use Rattle.cert_check.specs.Reasons.{Outcome, ◌>>◌, unless, have_two, is_the_part, in_part, of_world, Give}

-- what is told is the outcome, unless memory ran out
abbrev pub TellsOutcome : Outcome → Outcome → Type 0
TellsOutcome outcome (Ok x) = outcome ≡ Ok tt
TellsOutcome outcome (Err told) = told ≢ fault.Memory → outcome ≡ Err told

-- likewise of a cost
abbrev pub TellsCost : Result ℤ CheckFault → Result ℤ CheckFault → Type 0
TellsCost outcome (Ok cost) = outcome ≡ Ok cost
TellsCost outcome (Err told) = told ≢ fault.Memory → outcome ≡ Err told

-- what is told is what the asking comes to, unless memory ran out
abbrev pub Judges : Result (Option ℤ) EvalFault → Result (Option ℤ) CheckFault → Type 0
Judges outcome (Ok value) = outcome ≡ Ok value
Judges outcome (Err told) = told ≢ fault.Memory → asking outcome ≡ Err told

-- what an impossible answer with a part comes to
abbrev pub of_part : Query → Tables → List WorldColumn → PartAnswer → Tree → Outcome
of_part query tables columns part tree =
    unless (have_two (root columns) && is_the_part (root columns) part) reject.WrongParts 0 0 >> in_part query tables columns None part tree

-- what an optimal answer comes to
pub record IsOptimalOutcome (query : Query) (tables : Tables) (columns : List WorldColumn) (objective : ℤ) (worlds : List WorldText) (parts : List PartAnswer) (outcome : Outcome) : Type 0 where
  pub given : Option World
  pub world : Give query tables worlds given
  pub first : (trees : List Tree) → AllZip (λ part tree. part.tree ≡ preorder tree) parts trees → outcome ≡ of_world query tables columns objective parts trees given

-- what is told of an optimal answer is what it comes to, unless memory ran out
abbrev pub TellsOptimal : Query → Tables → List WorldColumn → ℤ → List WorldText → List PartAnswer → Outcome → Type 0
TellsOptimal query tables columns objective worlds parts (Ok x) = IsOptimalOutcome query tables columns objective worlds parts (Ok tt)
TellsOptimal query tables columns objective worlds parts (Err told) =
    told ≢ fault.Memory → IsOptimalOutcome query tables columns objective worlds parts (Err told)
