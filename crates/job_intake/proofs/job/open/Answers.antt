use Rattle.std.proofs.Common.{ℕ, List, subst}
use Rattle.std.specs.Prelude.{Ok}
use Rattle.job_intake.specs.Asking.{AskComes}
use Rattle.job_intake.specs.Files.{FileComes}
use Rattle.job_intake.specs.Forms as forms
use Rattle.job_intake.specs.Jobs.{Loaded}
use Rattle.job_intake.specs.Steps.{Follows, Then}
use Rattle.job_intake.specs.Visits.{Visit, after_fetches, visit}
use Rattle.job_intake.proofs.Fetched.{from_before}
use Rattle.job_intake.proofs.Steps.{then_goes}
use Rattle.job_intake.proofs.job.open.Goals as goal

pub returns-clause-comes : goal.returns-clause-comes
returns-clause-comes g c =
    let before = c.args.shelf.now in
    let here = c.fetch_file.new.shelf in
    let now = c.load.new.shelf in
    let w = visit g.S.Shelf.held g.S.Shelf.fails g.S.Shelf.misses g.S.Shelf.faults before now in
    let next = after_fetches 1 w in
    let name = c.args.form.query.now in
    let folder = c.args.form.folder.now in
    let command = forms.command c.args.form.command in
    let text = c.in_ok-text.text in
    let query = c.in_ok-query.query in
    then_goes (FileComes w 16777216 name) (λ bytes. Then (AskComes bytes) (Loaded next folder command)) text c.load.result c.in_ok-text.ensures.comes
    (then_goes (AskComes text) (Loaded next folder command) query c.load.result (subst (λ (l : List ℕ). Follows (AskComes l) (Ok query)) c.as_slice.ensures c.in_ok-query.ensures.comes)
    (subst (λ (u : Visit). Follows (Loaded u folder command query) c.load.result)
    (from_before 1 (g.S.Shelf.held before) (g.S.Shelf.held here) (g.S.Shelf.fails before) (g.S.Shelf.fails here) (g.S.Shelf.misses before) (g.S.Shelf.misses here) (g.S.Shelf.misses now) (g.S.Shelf.faults before) (g.S.Shelf.faults here) (g.S.Shelf.faults now) c.in_ok-text.ensures.held c.in_ok-text.ensures.moved c.in_ok-text.ensures.counts.misses c.in_ok-text.ensures.counts.faults)
    c.load.ensures.comes))
