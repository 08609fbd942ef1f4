-- what is done of a job is the reply to the words
use Rattle.std.proofs.Common.{◌≡◌, ◌≢◌, ℕ, List, sym, ◌∙◌, ap, arith}
use Rattle.std.specs.Prelude.{Some, Result, Ok, Err, IfOk}
use Rattle.std.proofs.lemmas.Option.{none-some}
use Rattle.base_kit.specs.declared.memory.Memory.{Memory}
use Rattle.cert_check.specs.Faults.{as_told}
use Rattle.cert_check.specs.Reasons.{IsOutcome}
use Rattle.cert_check.specs.declared.fault.CheckFault.TheVariants as wrong
use Rattle.answer_text.specs.declared.answer.Answer.{Answer}
use Rattle.job_intake.specs.declared.job.Job.{Job}
use Rattle.job_intake.specs.declared.job.Task.{Task}
use Rattle.job_intake.specs.declared.job.Task.TheVariants as task
use Rattle.job_intake.specs.declared.refusal.Refusal.{Refusal}
use Rattle.job_intake.specs.Jobs.{Comes}
use Rattle.job_intake.specs.Ready.{IsReady}
use Rattle.job_intake.specs.Visits.{Visit}
use Rattle.tiql_query.proofs.Rows.{tables-few}
use Rattle.world_def.specs.Columns.{IsSmall}
use Rattle.world_def.specs.declared.fault.EvalFault.{EvalFault}
use Rattle.world_def.specs.declared.fault.EvalFault.TheVariants as eval
use Rattle.tiresias_core.specs.Causes.{IsChecked, IsDone, IsDoneFor, IsReply, IsSolved, excess_of}
use Rattle.tiresias_core.specs.Solving.{IsTooLarge}
use Rattle.tiresias_core.specs.declared.excess.Excess.{Excess}
use Rattle.tiresias_core.specs.declared.reply.Reply.{Reply}
use Rattle.tiresias_core.specs.declared.reply.Reply.TheVariants as reply

-- a job that is taken has few tables and rows
pub small_job : (job : Job) → IsReady job → IsSmall job.query job.tables
small_job job ready = record {
  hypos = let few = ready.asked.numbered.hypos in omega (arith, few);
  rows = tables-few job.query job.tables ready.tables;
}

-- what is told of a world at fault is the first that passes in solving
pub listing_passes : (job : Job) (nodes : ℕ) (fault : EvalFault) (told : Excess) → (fault ≢ eval.Memory → IsTooLarge job.query job.tables job.columns nodes fault) → excess_of job.query fault ≡ Some told → IsSolved job nodes (reply.TooLarge told)
listing_passes job nodes fault told faults e = (fault, faults (λ memory. none-some told (sym (ap (excess_of job.query) memory) ∙ e)), e)

-- and in a check
pub check_passes : (job : Job) (answer : Answer) (fault : EvalFault) (told : Excess) → (as_told fault ≢ wrong.Memory → IsOutcome job.query job.tables job.columns answer (Err (as_told fault))) → excess_of job.query fault ≡ Some told
    → IsChecked job answer (reply.TooLarge told)
check_passes job answer (eval.Wide source number) told tells e = (eval.Wide source number, tells (λ same. cc), e)
check_passes job answer (eval.TooManyRows view limit) told tells e = (eval.TooManyRows view limit, tells (λ same. cc), e)
check_passes job answer eval.Memory told tells e = absurd (none-some told e)

module _ (job : Job) where
  no_refusal : (it : Task) (why : Refusal) → IsDoneFor job it (reply.Refused why) → ⊥
  no_refusal (task.Solve nodes) why done = done
  no_refusal (task.Check answer) why done = done
  no_refusal (task.Evaluate answer) why done = done

  pub done_reply : (words : List (List ℕ)) (v : Visit) → Comes words v (Ok job) → (told : Result Reply Memory) → IfOk told (IsDone job) → IfOk told (IsReply words v)
  done_reply words v comes (Ok (reply.Refused why)) done = absurd (no_refusal job.task why done)
  done_reply words v comes (Ok (reply.Answered answer)) done = (job, comes, done)
  done_reply words v comes (Ok (reply.TooLarge excess)) done = (job, comes, done)
  done_reply words v comes (Ok (reply.Accepted objective)) done = (job, comes, done)
  done_reply words v comes (Ok (reply.Rejected reason part node)) done = (job, comes, done)
  done_reply words v comes (Ok (reply.Evaluated told)) done = (job, comes, done)
  done_reply words v comes (Err e) done = tt
