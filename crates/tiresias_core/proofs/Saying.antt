-- what each status says, from what a run leaves
use Rattle.std.proofs.Common.{◌≡◌, ℕ, ℤ, List, refl, sym, ◌∙◌, subst, ap, inl, inr}
use Rattle.std.specs.Prelude.{Option, Err, true, false}
use Rattle.base_kit.specs.declared.status.Status.{Status}
use Rattle.base_kit.specs.declared.status.Status.TheVariants as status
use Rattle.cert_check.specs.Reasons.{is_finished}
use Rattle.cert_check.specs.declared.fault.Reject.{Reject}
use Rattle.answer_text.specs.Text.{answer_bytes}
use Rattle.answer_text.specs.declared.answer.Answer.{Answer}
use Rattle.answer_text.specs.declared.answer.Verdict.{Verdict}
use Rattle.answer_text.specs.declared.answer.Verdict.TheVariants as verdict
use Rattle.job_intake.specs.declared.job.Job.{Job}
use Rattle.job_intake.specs.declared.job.Task.{Task}
use Rattle.job_intake.specs.declared.job.Task.TheVariants as task
use Rattle.job_intake.specs.declared.refusal.Refusal.{Refusal}
use Rattle.job_intake.specs.declared.refusal.Refusal.TheVariants as refusal
use Rattle.job_intake.specs.Jobs.{Comes}
use Rattle.world_def.specs.Meaning.{NoneMeets}
use Rattle.tiresias_core.proofs.Auditing.{accepted_right, finished_says, optimal_says, readable_says}
use Rattle.tiresias_core.proofs.Listed.{part_none, row_none, unfinished_spent}
use Rattle.tiresias_core.specs.Causes.{Checks, IsDoneFor, IsReply, Passes, Solves}
use Rattle.tiresias_core.specs.Lines.{refusal_line, refusal_status}
use Rattle.world_eval.specs.declared.evaluation.Evaluation.{Evaluation}
use Rattle.world_eval.specs.declared.evaluation.Evaluation.TheVariants as evaluation
use Rattle.tiresias_core.specs.Replies.{accepted_line, evaluation_status, evaluation_text, status_of, text_of, verdict_status}
use Rattle.tiresias_core.specs.Results.{Says, WroteEvaluation, WroteNone, WroteRefusal}
use Rattle.tiresias_core.specs.Runs.{Leaves}
use Rattle.tiresias_core.specs.Sights.{Run, Writes}
use Rattle.tiresias_core.specs.Solving.{IsSolution}
use Rattle.tiresias_core.specs.declared.excess.Excess.{Excess}
use Rattle.tiresias_core.specs.declared.reply.Reply.{Reply}
use Rattle.tiresias_core.specs.declared.reply.Reply.TheVariants as reply

-- an answer is made where a job is solved
record Solved (run : Run) (answer : Answer) : Type 0 where
  job : Job
  nodes : ℕ
  solves : Solves run job nodes
  solution : IsSolution job.query job.tables job.columns nodes answer

-- a check comes to an outcome where an answer is checked
record Checked (run : Run) (told : Reply) : Type 0 where
  job : Job
  answer : Answer
  checks : Checks run job answer
  done : IsDoneFor job (task.Check answer) told

module _ (run : Run) where
  solved_of : (answer : Answer) → IsReply run.words run.visit (reply.Answered answer) → Solved run answer
  solved_of answer is = by_task is.0.task refl is.2
    where
      by_task : (it : Task) → is.0.task ≡ it → IsDoneFor is.0 it (reply.Answered answer) → Solved run answer
      by_task (task.Solve nodes) e done = record { job = is.0; nodes = nodes; solves = record { comes = is.1; task = e }; solution = done }
      by_task (task.Check other) e done = absurd done
      by_task (task.Evaluate other) e done = absurd done

  accepted_of : (objective : Option ℤ) → IsReply run.words run.visit (reply.Accepted objective) → Checked run (reply.Accepted objective)
  accepted_of objective is = by_task is.0.task refl is.2
    where
      by_task : (it : Task) → is.0.task ≡ it → IsDoneFor is.0 it (reply.Accepted objective) → Checked run (reply.Accepted objective)
      by_task (task.Solve nodes) e done = absurd done
      by_task (task.Check answer) e done = record { job = is.0; answer = answer; checks = record { comes = is.1; task = e }; done = done }
      by_task (task.Evaluate answer) e done = absurd done

  rejected_of : (reason : Reject) (part node : ℕ) → IsReply run.words run.visit (reply.Rejected reason part node) → Checked run (reply.Rejected reason part node)
  rejected_of reason part node is = by_task is.0.task refl is.2
    where
      by_task : (it : Task) → is.0.task ≡ it → IsDoneFor is.0 it (reply.Rejected reason part node) → Checked run (reply.Rejected reason part node)
      by_task (task.Solve nodes) e done = absurd done
      by_task (task.Check answer) e done = record { job = is.0; answer = answer; checks = record { comes = is.1; task = e }; done = done }
      by_task (task.Evaluate answer) e done = absurd done

  evaluated_of : (told : Evaluation) → IsReply run.words run.visit (reply.Evaluated told) → Writes run (evaluation_text told) → WroteEvaluation run (evaluation_status told)
  evaluated_of told is text = by_task is.0.task refl is.2
    where
      by_task : (it : Task) → is.0.task ≡ it → IsDoneFor is.0 it (reply.Evaluated told) → WroteEvaluation run (evaluation_status told)
      by_task (task.Solve nodes) e done = absurd done
      by_task (task.Check answer) e done = absurd done
      by_task (task.Evaluate answer) e done = record { job = is.0; answer = answer; evaluating = record { comes = is.1; task = e }; evaluation = told; comes = done.0; meant = done.1; status = refl; text = text }

  evaluation_says : (told : Evaluation) → WroteEvaluation run (evaluation_status told) → Says run (evaluation_status told)
  evaluation_says evaluation.NoWorld wrote = inr wrote
  evaluation_says (evaluation.Told text true) wrote = inr (inr wrote)
  evaluation_says (evaluation.Told text false) wrote = inr wrote

  refusal_wrote : (why : Refusal) → Comes run.words run.visit (Err why) → Writes run (refusal_line why) → WroteRefusal run (refusal_status why)
  refusal_wrote why comes text = record { why = why; status = refl; comes = comes; text = text }

  refusal_says : (why : Refusal) → Comes run.words run.visit (Err why) → Writes run (refusal_line why) → Says run (refusal_status why)
  refusal_says refusal.Words comes text = refusal_wrote refusal.Words comes text
  refusal_says (refusal.File name why) comes text = refusal_wrote (refusal.File name why) comes text
  refusal_says (refusal.Syntax place) comes text = refusal_wrote (refusal.Syntax place) comes text
  refusal_says (refusal.Unsound fault) comes text = refusal_wrote (refusal.Unsound fault) comes text
  refusal_says (refusal.Table name why) comes text = refusal_wrote (refusal.Table name why) comes text
  refusal_says (refusal.EmptyBounds hypo row) comes text = refusal_wrote (refusal.EmptyBounds hypo row) comes text
  refusal_says (refusal.TooWide hypo number) comes text = inl (refusal_wrote (refusal.TooWide hypo number) comes text)
  refusal_says refusal.TooManyWorldColumns comes text = inl (refusal_wrote refusal.TooManyWorldColumns comes text)
  refusal_says (refusal.TooManyColumns count) comes text = inl (refusal_wrote (refusal.TooManyColumns count) comes text)
  refusal_says (refusal.PartTooLarge columns) comes text = inl (refusal_wrote (refusal.PartTooLarge columns) comes text)
  refusal_says (refusal.Unreadable line) comes text = refusal_wrote (refusal.Unreadable line) comes text

  module _ (answer : Answer) (it : Solved run answer) (text : Writes run (answer_bytes answer)) where
    none_says : is_finished answer.verdict ≡ true → NoneMeets it.job.query it.job.tables → WroteNone run
    none_says finished none =
        let right = finished_says run it.job it.nodes answer it.solves it.solution finished in
        record { job = it.job; nodes = it.nodes; solves = it.solves; none = none; answer = answer; solution = it.solution; valid = right.0; sound = right.1; readable = readable_says run it.job it.nodes answer it.solves it.solution; text = text }

    answer_says : (told : Verdict) → answer.verdict ≡ told → Says run (verdict_status told)
    answer_says (verdict.Optimal objective worlds parts) at =
        let best = optimal_says run it.job it.nodes answer it.solves it.solution objective worlds parts at in
        let right = finished_says run it.job it.nodes answer it.solves it.solution (ap is_finished at) in
        inl (record {
          job = it.job;
          nodes = it.nodes;
          solves = it.solves;
          answer = answer;
          objective = objective;
          worlds = worlds;
          parts = parts;
          verdict = at;
          solution = it.solution;
          world = best.0;
          given = best.1;
          best = best.2;
          value = best.3;
          valid = right.0;
          sound = right.1;
          readable = readable_says run it.job it.nodes answer it.solves it.solution;
          text = text;
        })
    answer_says (verdict.FalseRow row) at = none_says (ap is_finished at) (row_none it.job.query it.job.tables it.job.columns it.nodes answer it.solution row at)
    answer_says (verdict.NoWorld part) at = none_says (ap is_finished at) (part_none it.job.query it.job.tables it.job.columns it.nodes answer it.solution part at)
    answer_says (verdict.Unfinished nodes parts) at =
        let spent = unfinished_spent it.job.query it.job.tables it.job.columns it.nodes answer it.solution nodes parts at in
        record { job = it.job; nodes = it.nodes; solves = it.solves; answer = answer; parts = parts; verdict = at ∙ ap (λ (n : ℕ). verdict.Unfinished n parts) spent; solution = it.solution; readable = readable_says run it.job it.nodes answer it.solves it.solution; text = text }

  passes_of : (job : Job) (it : Task) (told : Excess) → IsDoneFor job it (reply.TooLarge told) → Passes job it told
  passes_of job (task.Solve nodes) told done = done
  passes_of job (task.Check answer) told done = done
  passes_of job (task.Evaluate answer) told done = done

  reply_says : (it : Reply) → IsReply run.words run.visit it → Writes run (text_of it) → Says run (status_of it)
  reply_says (reply.Refused why) is text = refusal_says why is text
  reply_says (reply.Answered answer) is text = answer_says answer (solved_of answer is) text answer.verdict refl
  reply_says (reply.TooLarge told) is text = inr (record { job = is.0; comes = is.1; told = told; cause = passes_of is.0 is.0.task told is.2; text = text })
  reply_says (reply.Accepted objective) is text =
      let it = accepted_of objective is in
      let right = accepted_right run it.job it.answer it.checks it.done.0 in
      inr (inl (record { job = it.job; answer = it.answer; checks = it.checks; valid = right.0; right = right.1; text = subst (λ (o : Option ℤ). Writes run (accepted_line o)) it.done.1 text }))
  reply_says (reply.Rejected reason part node) is text =
      let it = rejected_of reason part node is in
      inl (record { job = it.job; answer = it.answer; checks = it.checks; reason = reason; part = part; node = node; first = it.done; text = text })
  reply_says (reply.Evaluated told) is text = evaluation_says told (evaluated_of told is text)

  pub left_says : (told : Status) → Leaves run told → Says run told
  left_says status.Write left = left.rose
  left_says status.Memory left = tt
  left_says status.Done left = subst (Says run) (sym left.same) (reply_says left.reply left.cause left.text)
  left_says status.Impossible left = subst (Says run) (sym left.same) (reply_says left.reply left.cause left.text)
  left_says status.Words left = subst (Says run) (sym left.same) (reply_says left.reply left.cause left.text)
  left_says status.Query left = subst (Says run) (sym left.same) (reply_says left.reply left.cause left.text)
  left_says status.Tables left = subst (Says run) (sym left.same) (reply_says left.reply left.cause left.text)
  left_says status.Size left = subst (Says run) (sym left.same) (reply_says left.reply left.cause left.text)
  left_says status.Unfinished left = subst (Says run) (sym left.same) (reply_says left.reply left.cause left.text)
  left_says status.Read left = subst (Says run) (sym left.same) (reply_says left.reply left.cause left.text)
  left_says status.Rejected left = subst (Says run) (sym left.same) (reply_says left.reply left.cause left.text)
  left_says status.Unreadable left = subst (Says run) (sym left.same) (reply_says left.reply left.cause left.text)
