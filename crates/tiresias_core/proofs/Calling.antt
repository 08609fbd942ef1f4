-- where it is told which files there are and which fetches fail, the words and the files call for one reply alone
use Rattle.std.proofs.Common.{◌≡◌, ◌≢◌, ℕ, List, [], inl, inr, refl, sym, ◌∙◌, ap, subst}
use Rattle.std.specs.Prelude.{Option, Some, None, Result, Ok, Err, option_map, unwrap_or}
use Rattle.std.proofs.lemmas.Option.{none-some}
use Rattle.base_kit.proofs.Results.{Ok-Err, same_Err, same_Ok}
use Rattle.base_kit.specs.declared.status.Status.{Status}
use Rattle.base_kit.specs.declared.status.Status.TheVariants as status
use Rattle.cert_check.specs.Faults.{as_told}
use Rattle.cert_check.specs.Reasons.{IsOutcome, Outcome}
use Rattle.cert_check.specs.declared.fault.CheckFault.TheVariants as wrong
use Rattle.cert_check.specs.Valid.{IsValid, NoFaults}
use Rattle.cert_check.proofs.Accepted.{one_outcome, valid_accepted}
use Rattle.answer_text.specs.declared.answer.Answer.{Answer}
use Rattle.answer_text.specs.declared.answer.Verdict.{Verdict}
use Rattle.answer_text.specs.declared.answer.Verdict.TheVariants as verdict
use Rattle.job_intake.specs.declared.job.Job.{Job}
use Rattle.job_intake.specs.declared.job.Task.{Task}
use Rattle.job_intake.specs.declared.job.Task.TheVariants as task
use Rattle.job_intake.specs.declared.refusal.Refusal.{Refusal}
use Rattle.job_intake.specs.declared.refusal.Refusal.TheVariants as refusal
use Rattle.job_intake.specs.Jobs.{Comes}
use Rattle.job_intake.specs.Ready.{IsReady}
use Rattle.job_intake.specs.Visits.{IsTold}
use Rattle.job_intake.specs.Words.{form_of}
use Rattle.job_intake.proofs.One.{comes_one}
use Rattle.job_intake.proofs.Readied.{comes_ready}
use Rattle.tiql_query.specs.declared.query.Query.{Query}
use Rattle.world_def.specs.Meaning.{NoneMeets}
use Rattle.world_def.specs.declared.fault.EvalFault.{EvalFault}
use Rattle.world_def.specs.declared.fault.EvalFault.TheVariants as eval
use Rattle.world_listing.proofs.FaultLaws.{one_fault, answer_excludes}
use Rattle.answer_text.specs.declared.answer.WorldText.{WorldText}
use Rattle.world_def.specs.Columns.{Tables}
use Rattle.world_def.specs.Views.{Gives}
use Rattle.world_eval.specs.Evaluating.{Evaluates, EvaluatesEach, Tells, TellsEach}
use Rattle.world_eval.specs.declared.evaluation.Evaluation.{Evaluation}
use Rattle.world_eval.specs.declared.evaluation.Evaluation.TheVariants as evaluation
use Rattle.tiresias_core.specs.Causes.{Checks, Evaluating, EvaluatesTo, IsDoneFor, IsReply, Solves, excess_of}
use Rattle.tiresias_core.specs.Exact.{IsAnswered, TellsAccepted, TellsAnswer, TellsEvaluation, TellsFinished, TellsNone, TellsOutcome, TellsRefusal, TellsTooLarge, TellsWords, TellsWrite, evaluated_status, evaluated_text, fault_line, outcome_line, outcome_status}
use Rattle.tiresias_core.specs.Lines.{excess_line, refusal_status}
use Rattle.tiresias_core.specs.Replies.{accepted_line, status_of, text_of, verdict_status}
use Rattle.tiresias_core.specs.Runs.{Leaves, Wrote}
use Rattle.tiresias_core.specs.Sights.{IsWhole, Run, Writes}
use Rattle.tiresias_core.specs.Solving.{IsEnough, IsTooLarge}
use Rattle.tiresias_core.specs.declared.excess.Excess.{Excess}
use Rattle.tiresias_core.specs.declared.reply.Reply.{Reply}
use Rattle.tiresias_core.specs.declared.reply.Reply.TheVariants as reply
use Rattle.tiresias_core.proofs.Listed.{optimal_meets, unfinished_short}

module _ (run : Run) where
  -- the words alone decide whether they are refused
  no_form : (outcome : Result Job Refusal) → Comes run.words run.visit outcome → form_of run.words ≡ None → outcome ≡ Err refusal.Words
  no_form outcome (inl some) none = absurd (none-some some.0 (sym none ∙ some.1))
  no_form outcome (inr refused) none = refused.2 ∙ ap (λ (w : Refusal). Err w) refused.1.0

  no_job : (job : Job) → Comes run.words run.visit (Ok job) → form_of run.words ≡ None → ⊥
  no_job job comes none = Ok-Err job refusal.Words (no_form (Ok job) comes none)

  words_status : (it : Reply) → IsReply run.words run.visit it → form_of run.words ≡ None → status_of it ≡ status.Words
  words_status (reply.Refused why) is none = ap refusal_status (same_Err why refusal.Words (no_form (Err why) is none))
  words_status (reply.Answered answer) is none = absurd (no_job is.0 is.1 none)
  words_status (reply.TooLarge told) is none = absurd (no_job is.0 is.1 none)
  words_status (reply.Accepted objective) is none = absurd (no_job is.0 is.1 none)
  words_status (reply.Rejected reason part node) is none = absurd (no_job is.0 is.1 none)
  words_status (reply.Evaluated told) is none = absurd (no_job is.0 is.1 none)

  left_whole : (told : Status) → Leaves run told → IsWhole told → Wrote run told
  left_whole status.Done left whole = left
  left_whole status.Impossible left whole = left
  left_whole status.Words left whole = left
  left_whole status.Query left whole = left
  left_whole status.Tables left whole = left
  left_whole status.Size left whole = left
  left_whole status.Unfinished left whole = left
  left_whole status.Read left whole = left
  left_whole status.Rejected left whole = left
  left_whole status.Unreadable left whole = left
  left_whole status.Write left whole = absurd (whole.0 refl)
  left_whole status.Memory left whole = absurd (whole.1 refl)

  pub words_told : (told : Status) → Leaves run told → TellsWords run told
  words_told told left whole none = let w = left_whole told left whole in w.same ∙ words_status w.reply w.cause none

  pub writes_told : (told : Status) → Leaves run told → TellsWrite run told
  writes_told status.Done left whole = left.none_failed
  writes_told status.Impossible left whole = left.none_failed
  writes_told status.Words left whole = left.none_failed
  writes_told status.Query left whole = left.none_failed
  writes_told status.Tables left whole = left.none_failed
  writes_told status.Size left whole = left.none_failed
  writes_told status.Unfinished left whole = left.none_failed
  writes_told status.Read left whole = left.none_failed
  writes_told status.Rejected left whole = left.none_failed
  writes_told status.Unreadable left whole = left.none_failed
  writes_told status.Memory left whole = left.none_failed
  writes_told status.Write left whole = absurd (whole refl)

module _ (run : Run) (is : IsTold run.visit) where
  one_job : (one other : Job) → Comes run.words run.visit (Ok one) → Comes run.words run.visit (Ok other) → one ≡ other
  one_job one other a b = same_Ok one other (comes_one run.visit is run.words (Ok one) (Ok other) a b)

  not_both : (job : Job) (why : Refusal) → Comes run.words run.visit (Ok job) → Comes run.words run.visit (Err why) → ⊥
  not_both job why a b = Ok-Err job why (comes_one run.visit is run.words (Ok job) (Err why) a b)

  -- of a job that is taken each reply is that of doing it
  done_job : (job : Job) (it : Reply) → Comes run.words run.visit (Ok job) → IsReply run.words run.visit it → IsDoneFor job job.task it
  done_job job (reply.Refused why) comes cause = absurd (not_both job why comes cause)
  done_job job (reply.Answered answer) comes cause = subst (λ (j : Job). IsDoneFor j j.task (reply.Answered answer)) (one_job cause.0 job cause.1 comes) cause.2
  done_job job (reply.TooLarge told) comes cause = subst (λ (j : Job). IsDoneFor j j.task (reply.TooLarge told)) (one_job cause.0 job cause.1 comes) cause.2
  done_job job (reply.Accepted objective) comes cause = subst (λ (j : Job). IsDoneFor j j.task (reply.Accepted objective)) (one_job cause.0 job cause.1 comes) cause.2
  done_job job (reply.Rejected reason part node) comes cause = subst (λ (j : Job). IsDoneFor j j.task (reply.Rejected reason part node)) (one_job cause.0 job cause.1 comes) cause.2
  done_job job (reply.Evaluated told) comes cause = subst (λ (j : Job). IsDoneFor j j.task (reply.Evaluated told)) (one_job cause.0 job cause.1 comes) cause.2

  -- one that is solved, and one whose answer is checked
  solved_job : (job : Job) (nodes : ℕ) (it : Reply) → Solves run job nodes → IsReply run.words run.visit it → IsDoneFor job (task.Solve nodes) it
  solved_job job nodes it solves cause = subst (λ (t : Task). IsDoneFor job t it) solves.task (done_job job it solves.comes cause)

  checked_job : (job : Job) (answer : Answer) (it : Reply) → Checks run job answer → IsReply run.words run.visit it → IsDoneFor job (task.Check answer) it
  checked_job job answer it checks cause = subst (λ (t : Task). IsDoneFor job t it) checks.task (done_job job it checks.comes cause)

  evaluated_job : (job : Job) (answer : Answer) (it : Reply) → Evaluating run job answer → IsReply run.words run.visit it → IsDoneFor job (task.Evaluate answer) it
  evaluated_job job answer it evaluating cause = subst (λ (t : Task). IsDoneFor job t it) evaluating.task (done_job job it evaluating.comes cause)

  refused_reply : (why : Refusal) (it : Reply) → Comes run.words run.visit (Err why) → IsReply run.words run.visit it → it ≡ reply.Refused why
  refused_reply why (reply.Refused other) comes cause = ap reply.Refused (same_Err other why (comes_one run.visit is run.words (Err other) (Err why) cause comes))
  refused_reply why (reply.Answered answer) comes cause = absurd (not_both cause.0 why cause.1 comes)
  refused_reply why (reply.TooLarge told) comes cause = absurd (not_both cause.0 why cause.1 comes)
  refused_reply why (reply.Accepted objective) comes cause = absurd (not_both cause.0 why cause.1 comes)
  refused_reply why (reply.Rejected reason part node) comes cause = absurd (not_both cause.0 why cause.1 comes)
  refused_reply why (reply.Evaluated told) comes cause = absurd (not_both cause.0 why cause.1 comes)

-- ---- what is told of a job that is solved

-- the line of what is told of a world at fault is that of the fault
line_told : (query : Query) (fault : EvalFault) (told : Excess) → excess_of query fault ≡ Some told → excess_line told ≡ fault_line query fault
line_told query fault told e = sym (ap (λ (o : Option Excess). unwrap_or (option_map excess_line o) []) e)

-- what passes is told
passed : (job : Job) (nodes : ℕ) (it : Reply) (fault : EvalFault) → IsReady job → IsTooLarge job.query job.tables job.columns nodes fault → IsDoneFor job (task.Solve nodes) it
    → (status_of it ≡ status.Size) × (text_of it ≡ fault_line job.query fault)
passed job nodes (reply.Refused why) fault ready faults done = absurd done
passed job nodes (reply.Answered answer) fault ready faults done = absurd (answer_excludes job.query job.tables job.columns ready.columns nodes fault faults answer done)
passed job nodes (reply.TooLarge told) fault ready faults done =
    let same = one_fault job.query job.tables job.columns nodes nodes done.0 fault done.1 faults in
    (refl, line_told job.query done.0 told done.2 ∙ ap (fault_line job.query) same)
passed job nodes (reply.Accepted objective) fault ready faults done = absurd done
passed job nodes (reply.Rejected reason part node) fault ready faults done = absurd done
passed job nodes (reply.Evaluated told) fault ready faults done = absurd done

verdict_answered : (it : Verdict) → IsAnswered (verdict_status it)
verdict_answered (verdict.Optimal objective worlds parts) = tt
verdict_answered (verdict.FalseRow row) = tt
verdict_answered (verdict.NoWorld part) = tt
verdict_answered (verdict.Unfinished nodes parts) = tt

answered_by : (job : Job) (nodes : ℕ) (it : Reply) → ((fault : EvalFault) → IsTooLarge job.query job.tables job.columns nodes fault → ⊥) → IsDoneFor job (task.Solve nodes) it → IsAnswered (status_of it)
answered_by job nodes (reply.Refused why) none done = absurd done
answered_by job nodes (reply.Answered answer) none done = verdict_answered answer.verdict
answered_by job nodes (reply.TooLarge told) none done = absurd (none done.0 done.1)
answered_by job nodes (reply.Accepted objective) none done = absurd done
answered_by job nodes (reply.Rejected reason part node) none done = absurd done
answered_by job nodes (reply.Evaluated told) none done = absurd done

-- where none meets, no answer is an optimal one
none_done : (job : Job) (nodes : ℕ) (it : Reply) → NoneMeets job.query job.tables → IsDoneFor job (task.Solve nodes) it → status.Done ≡ status_of it → ⊥
none_done job nodes (reply.Refused why) none done same = done
none_done job nodes (reply.TooLarge told) none done same = cc
none_done job nodes (reply.Accepted objective) none done same = done
none_done job nodes (reply.Rejected reason part node) none done same = done
none_done job nodes (reply.Evaluated told) none done same = done
none_done job nodes (reply.Answered answer) none done same = by_verdict answer.verdict refl same
  where
    by_verdict : (it : Verdict) → answer.verdict ≡ it → status.Done ≡ verdict_status it → ⊥
    by_verdict (verdict.Optimal objective worlds parts) at same = optimal_meets job.query job.tables job.columns nodes answer done objective worlds parts at none
    by_verdict (verdict.FalseRow row) at same = cc
    by_verdict (verdict.NoWorld part) at same = cc
    by_verdict (verdict.Unfinished count parts) at same = cc

-- with nodes enough, the work is finished
enough_done : (job : Job) (nodes : ℕ) (it : Reply) → IsEnough job.columns nodes → IsDoneFor job (task.Solve nodes) it → status.Unfinished ≡ status_of it → ⊥
enough_done job nodes (reply.Refused why) enough done same = done
enough_done job nodes (reply.TooLarge told) enough done same = cc
enough_done job nodes (reply.Accepted objective) enough done same = done
enough_done job nodes (reply.Rejected reason part node) enough done same = done
enough_done job nodes (reply.Evaluated told) enough done same = done
enough_done job nodes (reply.Answered answer) enough done same = by_verdict answer.verdict refl same
  where
    by_verdict : (it : Verdict) → answer.verdict ≡ it → status.Unfinished ≡ verdict_status it → ⊥
    by_verdict (verdict.Optimal objective worlds parts) at same = cc
    by_verdict (verdict.FalseRow row) at same = cc
    by_verdict (verdict.NoWorld part) at same = cc
    by_verdict (verdict.Unfinished count parts) at same = unfinished_short job.query job.tables job.columns nodes answer done count parts at enough

-- ---- and of one whose answer is checked

-- so is what passes in a check
outcome_told : (query : Query) (answer : Answer) (fault : EvalFault) (told : Excess) → excess_of query fault ≡ Some told
    → (status.Size ≡ outcome_status (Err (as_told fault))) × (excess_line told ≡ outcome_line query answer (Err (as_told fault)))
outcome_told query answer (eval.Wide source number) told e = (refl, line_told query (eval.Wide source number) told e)
outcome_told query answer (eval.TooManyRows view limit) told e = (refl, line_told query (eval.TooManyRows view limit) told e)
outcome_told query answer eval.Memory told e = absurd (none-some told e)

-- what the check comes to is told
audited : (job : Job) (answer : Answer) (it : Reply) (outcome : Outcome) → IsReady job → IsOutcome job.query job.tables job.columns answer outcome → IsDoneFor job (task.Check answer) it
    → (status_of it ≡ outcome_status outcome) × (text_of it ≡ outcome_line job.query answer outcome)
audited job answer (reply.Refused why) outcome ready of done = absurd done
audited job answer (reply.Answered other) outcome ready of done = absurd done
audited job answer (reply.TooLarge told) outcome ready of done =
    let same = one_outcome job.query job.tables job.columns ready.tables answer (Err (as_told done.0)) outcome done.1 of in
    let both = outcome_told job.query answer done.0 told done.2 in
    (both.0 ∙ ap outcome_status same, both.1 ∙ ap (outcome_line job.query answer) same)
audited job answer (reply.Accepted objective) outcome ready of done =
    let same = one_outcome job.query job.tables job.columns ready.tables answer (Ok tt) outcome done.0 of in
    (ap outcome_status same, ap accepted_line done.1 ∙ ap (outcome_line job.query answer) same)
audited job answer (reply.Rejected reason part node) outcome ready of done =
    let same = one_outcome job.query job.tables job.columns ready.tables answer (Err (wrong.Rejected reason part node)) outcome done of in
    (ap outcome_status same, ap (outcome_line job.query answer) same)
audited job answer (reply.Evaluated told) outcome ready of done = absurd done

-- a valid answer is accepted where no judged world is at fault
accepted_by : (job : Job) (answer : Answer) (it : Reply) → IsReady job → IsValid job.query job.tables job.columns answer → NoFaults job.query job.tables job.columns answer.verdict → IsDoneFor job (task.Check answer) it → status_of it ≡ status.Done
accepted_by job answer (reply.Refused why) ready valid sound done = absurd done
accepted_by job answer (reply.Answered other) ready valid sound done = absurd done
accepted_by job answer (reply.TooLarge told) ready valid sound done =
    let no = valid_accepted job.query job.tables job.columns ready.columns ready.asked.fit ready.tables answer (Err (as_told done.0)) valid sound done.1 in cc
accepted_by job answer (reply.Accepted objective) ready valid sound done = refl
accepted_by job answer (reply.Rejected reason part node) ready valid sound done =
    let no = valid_accepted job.query job.tables job.columns ready.columns ready.asked.fit ready.tables answer (Err (wrong.Rejected reason part node)) valid sound done in cc
accepted_by job answer (reply.Evaluated told) ready valid sound done = absurd done

-- ---- and of one whose answer is evaluated

-- what an evaluation comes to is one
one_told : (query : Query) (tables : Tables) (worlds : List WorldText) (one other : Result Evaluation EvalFault) → one ≢ Err eval.Memory → other ≢ Err eval.Memory → Tells query tables worlds one → TellsEach query tables worlds other → one ≡ other
one_told query tables worlds (Ok a) (Ok b) x y of each = sym of.2 ∙ each of.0 of.1
one_told query tables worlds (Ok a) (Err f) x y of each = sym of.2 ∙ each of.0 of.1 (λ e. y (ap (λ (f : EvalFault). Err f) e))
one_told query tables worlds (Err e) (Ok b) x y of each = let it = of (λ m. x (ap (λ (f : EvalFault). Err f) m)) in sym it.2 ∙ each it.0 it.1
one_told query tables worlds (Err e) (Err f) x y of each = let it = of (λ m. x (ap (λ (f : EvalFault). Err f) m)) in sym it.2 ∙ each it.0 it.1 (λ m. y (ap (λ (f : EvalFault). Err f) m))

one_given : (one other : Result Evaluation EvalFault) → one ≢ Err eval.Memory → other ≢ Err eval.Memory → Gives (Ok evaluation.NoWorld) one → Gives (Ok evaluation.NoWorld) other → one ≡ other
one_given (Ok a) (Ok b) x y of each = sym of ∙ each
one_given (Ok a) (Err f) x y of each = sym of ∙ each (λ e. y (ap (λ (f : EvalFault). Err f) e))
one_given (Err e) (Ok b) x y of each = sym (of (λ m. x (ap (λ (f : EvalFault). Err f) m))) ∙ each
one_given (Err e) (Err f) x y of each = sym (of (λ m. x (ap (λ (f : EvalFault). Err f) m))) ∙ each (λ m. y (ap (λ (f : EvalFault). Err f) m))

one_evaluation : (query : Query) (tables : Tables) (it : Verdict) (one other : Result Evaluation EvalFault) → one ≢ Err eval.Memory → other ≢ Err eval.Memory → Evaluates query tables it one → EvaluatesEach query tables it other → one ≡ other
one_evaluation query tables (verdict.Optimal objective worlds parts) one other x y of each = one_told query tables worlds one other x y of each
one_evaluation query tables (verdict.FalseRow row) one other x y of each = one_given one other x y of each
one_evaluation query tables (verdict.NoWorld part) one other x y of each = one_given one other x y of each
one_evaluation query tables (verdict.Unfinished nodes parts) one other x y of each = one_given one other x y of each

no_memory : (query : Query) (fault : EvalFault) (told : Excess) → excess_of query fault ≡ Some told → ◌≢◌ {A = Result Evaluation EvalFault} (Err fault) (Err eval.Memory)
no_memory query fault told e memory = none-some told (sym (ap (excess_of query) (same_Err fault eval.Memory memory)) ∙ e)

-- it is told
evaluated_by : (job : Job) (answer : Answer) (it : Reply) (outcome : Result Evaluation EvalFault) → outcome ≢ Err eval.Memory → Evaluates job.query job.tables answer.verdict outcome → IsDoneFor job (task.Evaluate answer) it
    → (status_of it ≡ evaluated_status outcome) × (text_of it ≡ evaluated_text job.query outcome)
evaluated_by job answer (reply.Refused why) outcome some of done = absurd done
evaluated_by job answer (reply.Answered other) outcome some of done = absurd done
evaluated_by job answer (reply.TooLarge told) outcome some of done =
    let same = one_evaluation job.query job.tables answer.verdict outcome (Err done.0) some (no_memory job.query done.0 told done.2) of done.1.each in
    (ap evaluated_status (sym same), line_told job.query done.0 told done.2 ∙ ap (evaluated_text job.query) (sym same))
evaluated_by job answer (reply.Accepted objective) outcome some of done = absurd done
evaluated_by job answer (reply.Rejected reason part node) outcome some of done = absurd done
evaluated_by job answer (reply.Evaluated told) outcome some of done =
    let same = one_evaluation job.query job.tables answer.verdict outcome (Ok told) some (λ e. Ok-Err told eval.Memory e) of done.0.each in
    (ap evaluated_status (sym same), ap (evaluated_text job.query) (sym same))

-- ---- so it is told

module _ (run : Run) (told : Status) (left : Leaves run told) where
  pub refused_told : TellsRefusal run told
  refused_told is whole why comes =
      let w = left_whole run told left whole in
      let same = refused_reply run is why w.reply comes w.cause in
      (w.same ∙ ap status_of same, subst (λ (r : Reply). Writes run (text_of r)) same w.text)

  pub passes_told : TellsTooLarge run told
  passes_told is whole job nodes solves fault faults =
      let w = left_whole run told left whole in
      let ready = comes_ready run.words run.visit job solves.comes in
      let both = passed job nodes w.reply fault ready faults (solved_job run is job nodes w.reply solves w.cause) in
      (w.same ∙ both.0, subst (Writes run) both.1 w.text)

  pub answered_told : TellsAnswer run told
  answered_told is whole job nodes solves none =
      let w = left_whole run told left whole in
      subst IsAnswered (sym w.same) (answered_by job nodes w.reply none (solved_job run is job nodes w.reply solves w.cause))

  pub none_told : TellsNone run told
  none_told is job nodes solves none e =
      let w = subst (Leaves run) e left in
      none_done job nodes w.reply none (solved_job run is job nodes w.reply solves w.cause) w.same

  pub enough_told : TellsFinished run told
  enough_told is job nodes solves enough e =
      let w = subst (Leaves run) e left in
      enough_done job nodes w.reply enough (solved_job run is job nodes w.reply solves w.cause) w.same

  pub checked_told : TellsOutcome run told
  checked_told is whole job answer checks outcome of =
      let w = left_whole run told left whole in
      let ready = comes_ready run.words run.visit job checks.comes in
      let both = audited job answer w.reply outcome ready of (checked_job run is job answer w.reply checks w.cause) in
      (w.same ∙ both.0, subst (Writes run) both.1 w.text)

  pub accepted_told : TellsAccepted run told
  accepted_told is whole job answer checks valid sound =
      let w = left_whole run told left whole in
      let ready = comes_ready run.words run.visit job checks.comes in
      w.same ∙ accepted_by job answer w.reply ready valid sound (checked_job run is job answer w.reply checks w.cause)

  pub evaluated_told : TellsEvaluation run told
  evaluated_told is whole job answer evaluating outcome some of =
      let w = left_whole run told left whole in
      let both = evaluated_by job answer w.reply outcome some of (evaluated_job run is job answer w.reply evaluating w.cause) in
      (w.same ∙ both.0, subst (Writes run) both.1 w.text)
