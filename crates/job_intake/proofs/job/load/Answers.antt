use Rattle.std.proofs.Common.{◌≡◌, ℕ, List, length, refl, sym, ◌∙◌, ap, subst, arith}
use Rattle.std.specs.Prelude.{Result, Err}
use Rattle.std.proofs.lemmas.Result.{err_from_is_err_and}
use Rattle.tiql_query.specs.declared.relation.QTable.{QTable}
use Rattle.job_intake.specs.Bounding.{BoundComes}
use Rattle.job_intake.specs.Forms as forms
use Rattle.job_intake.specs.Jobs.{Finished, Loaded}
use Rattle.job_intake.specs.Loading.{AreLoaded, LoadComes}
use Rattle.job_intake.specs.Steps.{Follows, Then}
use Rattle.job_intake.specs.Visits.{Visit, after_fetches, later_by, visit}
use Rattle.job_intake.specs.declared.job.Job.{Job}
use Rattle.job_intake.specs.declared.refusal.Stop.{Stop}
use Rattle.job_intake.proofs.Fetched.{from_before}
use Rattle.job_intake.proofs.Loaded.{few_loaded, loaded_later}
use Rattle.job_intake.proofs.Steps.{then_goes, then_stop}
use Rattle.job_intake.proofs.job.load.Goals as goal

pub bounds-requires : goal.bounds-requires
bounds-requires g c =
    let v = visit g.S.Shelf.held g.S.Shelf.fails g.S.Shelf.misses g.S.Shelf.faults c.args.shelf.now c.load_tables.new.shelf in
    record {
      hypos = omega (arith, c.requires.numbered.hypos);
      rows = few_loaded c.args.folder.now v c.as_slice.result.now c.in_ok-tables.tables c.in_ok-tables.ensures.comes;
    }

pub returns-in_err-columns-clause-comes : goal.returns-in_err-columns-clause-comes
returns-in_err-columns-clause-comes g c =
    let p = err_from_is_err_and c.from_residual-in_err-columns.result c.from_residual-in_err-columns.ensures.1 in
    let v = visit g.S.Shelf.held g.S.Shelf.fails g.S.Shelf.misses g.S.Shelf.faults c.args.shelf.now c.load_tables.new.shelf in
    let query = c.args.query in
    let made = c.in_ok-tables.tables in
    let command = forms.command c.args.command in
    let next = after_fetches (length query.tables) v in
    subst (λ (o : Result Job Stop). Follows (Loaded v c.args.folder.now command query) o) (sym (p.1 ∙ ap Err p.2))
    (then_goes (LoadComes v c.args.folder.now query.tables) (λ tables. Then (BoundComes query tables) (Finished next command query tables)) made (Err c.in_err-columns.field-0.0)
    (subst (λ (ts : List QTable). AreLoaded v c.args.folder.now ts made) c.as_slice.ensures c.in_ok-tables.ensures.comes)
    (then_stop (BoundComes query made) (Finished next command query made) c.in_err-columns.field-0.0 c.in_err-columns.ensures))

pub returns-clause-comes : goal.returns-clause-comes
returns-clause-comes g c =
    let before = c.args.shelf.now in
    let here = c.load_tables.new.shelf in
    let now = c.finish.new.shelf in
    let v = visit g.S.Shelf.held g.S.Shelf.fails g.S.Shelf.misses g.S.Shelf.faults before here in
    let w = visit g.S.Shelf.held g.S.Shelf.fails g.S.Shelf.misses g.S.Shelf.faults before now in
    let query = c.args.query in
    let made = c.in_ok-tables.tables in
    let command = forms.command c.args.command in
    let done = length query.tables in
    let next = after_fetches done w in
    let moved : g.S.Shelf.fails here ≡ later_by done (g.S.Shelf.fails before) = c.in_ok-tables.ensures.moved ∙ ap (λ (ts : List QTable). later_by (length ts) (g.S.Shelf.fails before)) c.as_slice.ensures in
    then_goes (LoadComes w c.args.folder.now query.tables) (λ tables. Then (BoundComes query tables) (Finished next command query tables)) made c.finish.result
    (loaded_later v w c.args.folder.now query.tables made refl refl (subst (λ (ts : List QTable). AreLoaded v c.args.folder.now ts made) c.as_slice.ensures c.in_ok-tables.ensures.comes))
    (then_goes (BoundComes query made) (Finished next command query made) c.in_ok-columns.columns c.finish.result c.in_ok-columns.ensures
    (subst (λ (u : Visit). Follows (Finished u command query made c.in_ok-columns.columns) c.finish.result)
    (from_before done (g.S.Shelf.held before) (g.S.Shelf.held here) (g.S.Shelf.fails before) (g.S.Shelf.fails here) (g.S.Shelf.misses before) (g.S.Shelf.misses here) (g.S.Shelf.misses now) (g.S.Shelf.faults before) (g.S.Shelf.faults here) (g.S.Shelf.faults now) c.in_ok-tables.ensures.held moved c.in_ok-tables.ensures.counts.misses c.in_ok-tables.ensures.counts.faults)
    c.finish.ensures.comes))
