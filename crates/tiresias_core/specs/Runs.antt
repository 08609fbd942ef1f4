-- what a run leaves behind: its status, and what was written
use Rattle.std.specs.Prelude.{◌≡◌, ℕ, ◌<◌, ◌*◌, List, take, Option}
use Rattle.std.specs.Io.KnownBytes.{Appends}
use Rattle.base_kit.specs.declared.status.Status.{Status}
use Rattle.base_kit.specs.declared.status.Status.TheVariants as status
use Rattle.outside_io.specs.Counts.{Rose}
use Rattle.tiresias_core.specs.Causes.{IsReply}
use Rattle.tiresias_core.specs.Replies.{status_of, text_of}
use Rattle.tiresias_core.specs.Sights.{Run, Writes}
use Rattle.tiresias_core.specs.declared.reply.Reply.{Reply}

-- a reply with its cause was written whole
pub record Wrote (run : Run) (told : Status) : Type 0 where
  pub none_failed : run.faults_now ≡ run.faults
  pub reply : Reply
  pub cause : IsReply run.words run.visit reply
  pub same : told ≡ status_of reply
  pub text : Writes run (text_of reply)

-- the text of a reply was cut, since a write failed
pub record Cut (run : Run) : Type 0 where
  pub rose : Rose run.faults run.faults_now
  pub reply : Reply
  pub cause : IsReply run.words run.visit reply
  pub bytes : ℕ
  pub text : Writes run (take bytes (text_of reply))

-- memory was wanting: whole pieces of the text of a reply were written, or nothing
pub record Halted (run : Run) : Type 0 where
  pub none_failed : run.faults_now ≡ run.faults
  pub reply : Reply
  pub pieces : ℕ
  pub cause : 0 < pieces → IsReply run.words run.visit reply
  pub text : Writes run (take (65536 * pieces) (text_of reply))

-- all of what a run leaves, at each status
abbrev pub Leaves : Run → Status → Type 0
Leaves run status.Write = Cut run
Leaves run status.Memory = Halted run
Leaves run other = Wrote run other

-- what is left of one given reply in a sink
abbrev pub Tells : Reply → Option (List ℕ) → Option (List ℕ) → ℕ → ℕ → Status → Type 0
Tells reply before now faults faults' status.Write = Rose faults faults' × ((bytes : ℕ) × Appends before now (take bytes (text_of reply)))
Tells reply before now faults faults' status.Memory = (pieces : ℕ) × Appends before now (take (65536 * pieces) (text_of reply)) × (faults' ≡ faults)
Tells reply before now faults faults' other = (other ≡ status_of reply) × Appends before now (text_of reply) × (faults' ≡ faults)
