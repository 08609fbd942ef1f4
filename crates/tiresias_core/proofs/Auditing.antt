-- what is answered to a job that is solved, and what a check accepts
use Rattle.std.proofs.Common.{◌≡◌, ℕ, ℤ, ◌^◌, ◌<◌, ◌≤◌, arith, List, subst}
use Rattle.std.specs.Prelude.{Ok, true}
use Rattle.answer_text.specs.Worlds.{IsWorldOf}
use Rattle.answer_text.specs.declared.answer.Answer.{Answer}
use Rattle.answer_text.specs.declared.answer.PartAnswer.{PartAnswer}
use Rattle.answer_text.specs.declared.answer.Verdict.TheVariants as verdict
use Rattle.answer_text.specs.declared.answer.WorldText.{WorldText}
use Rattle.cert_check.specs.Reasons.{IsOutcome, is_finished}
use Rattle.cert_check.specs.Valid.{IsRight, IsValid, NoFaults}
use Rattle.cert_check.proofs.Accepted.{accepted_valid, valid_right}
use Rattle.job_intake.specs.declared.job.Job.{Job}
use Rattle.job_intake.specs.Ready.{IsReady}
use Rattle.job_intake.specs.Tasks.{IsTaken}
use Rattle.job_intake.proofs.Readied.{comes_ready}
use Rattle.world_def.specs.Meaning.{IsBest, score}
use Rattle.world_def.specs.declared.world.World.{World}
use Rattle.world_listing.proofs.Texts.{listed_text}
use Rattle.tiresias_core.specs.Causes.{Checks, Solves}
use Rattle.tiresias_core.specs.Results.{IsReadable}
use Rattle.tiresias_core.specs.Sights.{Run}
use Rattle.tiresias_core.specs.Solving.{IsSolution}
use Rattle.tiresias_core.proofs.Listed.{listed_sound, listed_valid, optimal_best}

module _ (run : Run) (job : Job) (nodes : ℕ) (answer : Answer) (solves : Solves run job nodes) (solution : IsSolution job.query job.tables job.columns nodes answer) where
  ready : IsReady job
  ready = comes_ready run.words run.visit job solves.comes

  few_nodes : nodes < 2 ^ 32
  few_nodes = let few : nodes ≤ 100000 = subst IsTaken solves.task ready.taken in omega (arith, few)

  -- it is read from its text
  pub readable_says : IsReadable answer
  readable_says short = listed_text job.query job.tables job.columns nodes answer ready.asked.fit ready.tables ready.columns ready.wide few_nodes solution short

  -- a finished one is valid, and no world that a check of it judges is at fault
  pub finished_says : is_finished answer.verdict ≡ true → IsValid job.query job.tables job.columns answer × NoFaults job.query job.tables job.columns answer.verdict
  finished_says finished = (
    listed_valid job.query job.tables job.columns nodes answer ready.asked.fit ready.tables ready.columns ready.wide solution finished,
    listed_sound job.query job.tables job.columns nodes answer ready.asked.fit ready.tables ready.columns ready.wide solution,
  )

  -- and where it is optimal, its sections are those of a best world
  pub optimal_says : (objective : ℤ) (worlds : List WorldText) (parts : List PartAnswer) → answer.verdict ≡ verdict.Optimal objective worlds parts →
      (world : World) × IsWorldOf job.query job.tables worlds world × IsBest job.query job.tables world × (objective ≡ score job.query job.tables world)
  optimal_says = optimal_best job.query job.tables job.columns nodes answer solution ready.asked.fit ready.tables ready.columns ready.wide

-- an answer that is accepted is valid, and right
pub accepted_right : (run : Run) (job : Job) (answer : Answer) → Checks run job answer → IsOutcome job.query job.tables job.columns answer (Ok tt) →
    IsValid job.query job.tables job.columns answer × IsRight job.query job.tables answer.verdict
accepted_right run job answer checks of =
    let ready = comes_ready run.words run.visit job checks.comes in
    let valid = accepted_valid job.query job.tables job.columns ready.columns ready.asked.fit ready.tables answer of in
    (valid, valid_right job.query job.tables job.columns ready.columns ready.asked.fit ready.tables answer valid)
