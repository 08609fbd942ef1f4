use Rattle.std.proofs.Common.{◌≡◌, ℕ, List, inr, sym, ◌∙◌, ap, subst}
use Rattle.std.specs.Prelude.{Result, Err}
use Rattle.std.proofs.lemmas.Result.{err_from_is_err_and}
use Rattle.tiql_query.specs.declared.world_column.WorldColumn.{WorldColumn}
use Rattle.job_intake.specs.Bounding.{LimitComes}
use Rattle.job_intake.specs.Forms as forms
use Rattle.job_intake.specs.Jobs.{Finished, JobComes}
use Rattle.job_intake.specs.Steps.{FailsAs, Follows, Then}
use Rattle.job_intake.specs.Tasks.{TaskComes}
use Rattle.job_intake.specs.Visits.{visit}
use Rattle.job_intake.specs.declared.job.Job.{Job}
use Rattle.job_intake.specs.declared.refusal.Stop.{Stop}
use Rattle.job_intake.specs.declared.refusal.Stop.TheVariants as stop
use Rattle.job_intake.proofs.Steps.{then_goes, then_stop}
use Rattle.job_intake.proofs.job.finish.Goals as goal

pub returns-in_err-limit-clause-comes : goal.returns-in_err-limit-clause-comes
returns-in_err-limit-clause-comes g c =
    let p = err_from_is_err_and c.from_residual-in_err-limit.result c.from_residual-in_err-limit.ensures.1 in
    let v = visit g.S.Shelf.held g.S.Shelf.fails g.S.Shelf.misses g.S.Shelf.faults c.args.shelf.now c.task_of.new.shelf in
    subst (λ (o : Result Job Stop). Follows (Finished v (forms.command c.args.command) c.args.query c.args.tables c.args.columns) o) (sym (p.1 ∙ ap Err p.2))
    (then_goes (TaskComes v (forms.command c.args.command)) (λ task. Then (LimitComes task c.args.columns) (JobComes c.args.query c.args.tables c.args.columns task)) c.in_ok-task.task (Err c.in_err-limit.field-0.0) c.in_ok-task.ensures.comes
    (then_stop (LimitComes c.in_ok-task.task c.args.columns) (JobComes c.args.query c.args.tables c.args.columns c.in_ok-task.task) c.in_err-limit.field-0.0 (subst (λ (l : List WorldColumn). Follows (LimitComes c.in_ok-task.task l) (Err c.in_err-limit.field-0.0)) c.as_slice.ensures c.in_err-limit.ensures)))

-- where no fetch failed, none is told
none_failed : (before now : ℕ) (why : Stop) → now ≡ before → FailsAs {A = Job} before now (Err why)
none_failed before now (stop.Refused why) same = inr same
none_failed before now stop.Memory same = tt

pub returns-in_err-limit-clause-failed : goal.returns-in_err-limit-clause-failed
returns-in_err-limit-clause-failed g c =
    let p = err_from_is_err_and c.from_residual-in_err-limit.result c.from_residual-in_err-limit.ensures.1 in
    subst (λ (o : Result Job Stop). FailsAs (g.S.Shelf.faults c.args.shelf.now) (g.S.Shelf.faults c.task_of.new.shelf) o) (sym (p.1 ∙ ap Err p.2))
    (none_failed (g.S.Shelf.faults c.args.shelf.now) (g.S.Shelf.faults c.task_of.new.shelf) c.in_err-limit.field-0.0 c.in_ok-task.ensures.failed)
