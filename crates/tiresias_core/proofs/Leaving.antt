-- what is left of a reply with its cause is what a run leaves
use Rattle.std.proofs.Common.{◌≡◌, refl, ◌∙◌, ap, subst, inl, inr}
use Rattle.std.specs.Prelude.{Err}
use Rattle.base_kit.specs.declared.status.Status.{Status}
use Rattle.base_kit.specs.declared.status.Status.TheVariants as status
use Rattle.job_intake.specs.Jobs.{Comes}
use Rattle.job_intake.specs.declared.refusal.Refusal.{Refusal}
use Rattle.tiresias_core.specs.Causes.{IsReply, KeepsFaults}
use Rattle.tiresias_core.specs.Exact.{TellsReadFailed}
use Rattle.tiresias_core.specs.Lines.{refusal_line, refusal_status}
use Rattle.tiresias_core.specs.Replies.{status_of, text_of}
use Rattle.tiresias_core.specs.Runs.{Leaves, Tells}
use Rattle.tiresias_core.specs.Sights.{IsWhole, Run, Writes}
use Rattle.tiresias_core.specs.declared.reply.Reply.{Reply}
use Rattle.tiresias_core.specs.declared.reply.Reply.TheVariants as reply

module _ (run : Run) where
  pub leaves_of : (told : Status) (it : Reply) → IsReply run.words run.visit it → Tells it run.before run.now run.faults run.faults_now told → Leaves run told
  leaves_of status.Write it is told = record { rose = told.0; reply = it; cause = is; bytes = told.1.0; text = told.1.1 }
  leaves_of status.Memory it is told = record { none_failed = told.2; reply = it; pieces = told.0; cause = λ some. is; text = told.1 }
  leaves_of status.Done it is told = record { none_failed = told.2; reply = it; cause = is; same = told.0; text = told.1 }
  leaves_of status.Impossible it is told = record { none_failed = told.2; reply = it; cause = is; same = told.0; text = told.1 }
  leaves_of status.Words it is told = record { none_failed = told.2; reply = it; cause = is; same = told.0; text = told.1 }
  leaves_of status.Query it is told = record { none_failed = told.2; reply = it; cause = is; same = told.0; text = told.1 }
  leaves_of status.Tables it is told = record { none_failed = told.2; reply = it; cause = is; same = told.0; text = told.1 }
  leaves_of status.Size it is told = record { none_failed = told.2; reply = it; cause = is; same = told.0; text = told.1 }
  leaves_of status.Unfinished it is told = record { none_failed = told.2; reply = it; cause = is; same = told.0; text = told.1 }
  leaves_of status.Read it is told = record { none_failed = told.2; reply = it; cause = is; same = told.0; text = told.1 }
  leaves_of status.Rejected it is told = record { none_failed = told.2; reply = it; cause = is; same = told.0; text = told.1 }
  leaves_of status.Unreadable it is told = record { none_failed = told.2; reply = it; cause = is; same = told.0; text = told.1 }

  -- a text that was told whole
  whole_text : (told : Status) (it : Reply) → Tells it run.before run.now run.faults run.faults_now told → IsWhole told → (told ≡ status_of it) × Writes run (text_of it)
  whole_text status.Done it tells whole = (tells.0, tells.1)
  whole_text status.Impossible it tells whole = (tells.0, tells.1)
  whole_text status.Words it tells whole = (tells.0, tells.1)
  whole_text status.Query it tells whole = (tells.0, tells.1)
  whole_text status.Tables it tells whole = (tells.0, tells.1)
  whole_text status.Size it tells whole = (tells.0, tells.1)
  whole_text status.Unfinished it tells whole = (tells.0, tells.1)
  whole_text status.Read it tells whole = (tells.0, tells.1)
  whole_text status.Rejected it tells whole = (tells.0, tells.1)
  whole_text status.Unreadable it tells whole = (tells.0, tells.1)
  whole_text status.Write it tells whole = absurd (whole.0 refl)
  whole_text status.Memory it tells whole = absurd (whole.1 refl)

  -- a fetch that failed is told
  pub reads_of : (told : Status) (it : Reply) → IsReply run.words run.visit it → KeepsFaults it run.visit.faults run.visit.faults_now → Tells it run.before run.now run.faults run.faults_now told → TellsReadFailed run told
  reads_of told (reply.Refused why) is (inl failed) tells whole rose =
      let both = whole_text told (reply.Refused why) tells whole in (
        both.0 ∙ ap refusal_status failed.1,
        record {
          name = failed.0;
          failed = subst (λ (r : Refusal). Comes run.words run.visit (Err r)) failed.1 is;
          text = subst (λ (r : Refusal). Writes run (refusal_line r)) failed.1 both.1;
        },
      )
  reads_of told (reply.Refused why) is (inr kept) tells whole rose = absurd (rose kept)
  reads_of told (reply.Answered answer) is kept tells whole rose = absurd (rose kept)
  reads_of told (reply.TooLarge excess) is kept tells whole rose = absurd (rose kept)
  reads_of told (reply.Accepted objective) is kept tells whole rose = absurd (rose kept)
  reads_of told (reply.Rejected reason part node) is kept tells whole rose = absurd (rose kept)
  reads_of told (reply.Evaluated evaluation) is kept tells whole rose = absurd (rose kept)
