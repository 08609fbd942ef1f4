use Rattle.std.proofs.Common.{refl, sym, ◌∙◌, ap, subst, arith}
use Rattle.std.specs.Prelude.{Result, Ok, Err}
use Rattle.std.proofs.lemmas.Result.{err_from_is_err_and}
use Rattle.outside_io.specs.Shelves.{later}
use Rattle.world_def.specs.Columns.{Rows, Tables}
use Rattle.job_intake.specs.Loading.{LoadComes, TableComes}
use Rattle.job_intake.specs.Steps.{Follows}
use Rattle.job_intake.specs.Visits.{Visit, after_fetches, visit}
use Rattle.job_intake.specs.declared.refusal.Stop.{Stop}
use Rattle.job_intake.proofs.Fetched.{from_before, one_later}
use Rattle.job_intake.proofs.Loaded.{loaded_later, loaded_more, stops_at, table_later}
use Rattle.job_intake.proofs.load.load_tables.Goals as goal

pub returns-in_err-load_table-clause-comes : goal.returns-in_err-load_table-clause-comes
returns-in_err-load_table-clause-comes g c =
    let p = err_from_is_err_and c.from_residual.result c.from_residual.ensures.1 in
    let before = c.args.shelf.now in
    let here = c.loop-table.shelf in
    let now = c.load_table.new.shelf in
    let so_far = c.loop-table.invariant in
    let v = visit g.S.Shelf.held g.S.Shelf.fails g.S.Shelf.misses g.S.Shelf.faults before now in
    subst (λ (o : Result Tables Stop). Follows (LoadComes v c.args.folder.now c.args.tables.now) o) (sym (p.1 ∙ ap Err p.2))
    (stops_at v c.args.folder.now c.args.tables.now c.loop-table.table-index c.table-item.result c.loop-table.made c.in_err-load_table.field-0.0 (omega arith) c.table-item.is
    (loaded_later (visit g.S.Shelf.held g.S.Shelf.fails g.S.Shelf.misses g.S.Shelf.faults before before) v c.args.folder.now _ c.loop-table.made refl refl so_far.loaded)
    (subst (λ (w : Visit). Follows {A = Rows} (TableComes w c.args.folder.now c.table-item.result) (Err c.in_err-load_table.field-0.0))
    (from_before c.loop-table.table-index (g.S.Shelf.held before) (g.S.Shelf.held here) (g.S.Shelf.fails before) (g.S.Shelf.fails here) (g.S.Shelf.misses before) (g.S.Shelf.misses here) (g.S.Shelf.misses now) (g.S.Shelf.faults before) (g.S.Shelf.faults here) (g.S.Shelf.faults now) so_far.held so_far.fails so_far.misses so_far.faults)
    c.in_err-load_table.ensures.comes))

pub loop-table-preserved : goal.loop-table-preserved
loop-table-preserved g c =
    let before = c.args.shelf.now in
    let here = c.loop-table.shelf in
    let so_far = c.loop-table.invariant in
    let one = c.in_ok-load_table.ensures in
    record {
      held = one.held ∙ so_far.held;
      fails = one.moved ∙ ap later so_far.fails ∙ one_later c.loop-table.table-index (g.S.Shelf.fails before);
      misses = one.counts.misses ∙ so_far.misses;
      faults = one.counts.faults ∙ so_far.faults;
      loaded = loaded_more (visit g.S.Shelf.held g.S.Shelf.fails g.S.Shelf.misses g.S.Shelf.faults before before) c.args.folder.now c.args.tables.now c.loop-table.table-index c.table-item.result c.loop-table.made c.push.new.self c.in_ok-load_table.field-0 (omega arith) c.table-item.is c.in_ok-push.ensures.ok so_far.loaded
          (table_later (visit g.S.Shelf.held g.S.Shelf.fails g.S.Shelf.misses g.S.Shelf.faults here c.load_table.new.shelf) (after_fetches c.loop-table.table-index (visit g.S.Shelf.held g.S.Shelf.fails g.S.Shelf.misses g.S.Shelf.faults before before))
          c.args.folder.now c.table-item.result c.in_ok-load_table.field-0 so_far.held so_far.fails one.comes);
    }
