use Rattle.std.proofs.Common.{map, sym}
use Rattle.std.specs.Prelude.{string_bytes}
use Rattle.job_intake.specs.Forms as forms
use Rattle.job_intake.specs.Jobs.{Opened, WordsCome}
use Rattle.job_intake.specs.Visits.{visit}
use Rattle.job_intake.proofs.Readied.{ready_if_given}
use Rattle.job_intake.proofs.Steps.{then_goes}
use Rattle.job_intake.proofs.job.take_job.Goals as goal

pub returns-in-Some-clause-ready : goal.returns-in-Some-clause-ready
returns-in-Some-clause-ready g c =
    let words = map (λ word. string_bytes word) c.args.words.now in
    let v = visit g.S.Shelf.held g.S.Shelf.fails g.S.Shelf.misses g.S.Shelf.faults c.args.shelf.now c.open.new.shelf in
    ready_if_given words v c.open.result (then_goes (WordsCome words) (Opened v) (forms.form c.in-Some.form) c.open.result (sym c.in-Some.ensures) c.open.ensures.comes)
