use Rattle.std.proofs.Common.{map, subst, sym}
use Rattle.std.specs.Prelude.{Err, string_bytes}
use Rattle.job_intake.specs.Jobs.{Comes}
use Rattle.job_intake.specs.Steps.{Follows}
use Rattle.job_intake.specs.Visits.{visit}
use Rattle.job_intake.specs.declared.job.Job.{Job}
use Rattle.job_intake.specs.declared.refusal.Refusal.{Refusal}
use Rattle.job_intake.specs.declared.refusal.Stop.{Stop}
use Rattle.tiresias_core.proofs.Doing.{done_reply}
use Rattle.tiresias_core.proofs.engine.decide.Goals as goal

pub returns-in-Ok-clause-cause : goal.returns-in-Ok-clause-cause
returns-in-Ok-clause-cause g c =
    done_reply c.in-Ok.job (map (λ word. string_bytes word) c.args.words.now) (visit g.S.Shelf.held g.S.Shelf.fails g.S.Shelf.misses g.S.Shelf.faults c.args.shelf.now c.take_job.new.shelf)
    c.in-Ok.ensures.comes c.work.result c.work.ensures

pub returns-in-Err-Refused-clause-cause : goal.returns-in-Err-Refused-clause-cause
returns-in-Err-Refused-clause-cause g c =
    let words = map (λ word. string_bytes word) c.args.words.now in
    let v = visit g.S.Shelf.held g.S.Shelf.fails g.S.Shelf.misses g.S.Shelf.faults c.args.shelf.now c.take_job.new.shelf in
    subst (λ (why : Refusal). Comes words v (Err why)) (sym c.in-Err-Refused.why-is)
    (subst (λ (stop : Stop). Follows {A = Job} (Comes words v) (Err stop)) c.in-Err-Refused.field-0-is c.in-Err-Refused.ensures.comes)
