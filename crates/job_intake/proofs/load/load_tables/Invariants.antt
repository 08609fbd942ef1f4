use Rattle.std.proofs.Common.{◌≡◌, take}
use Rattle.job_intake.specs.Loading.{AreLoaded}
use Rattle.job_intake.specs.Visits.{later_by, visit}
use Rattle.job_intake.proofs.load.load_tables.Given as goal

abbrev pub invariant-loop-table : goal.invariant-loop-table
invariant-loop-table g l = record {
  held : g.S.Shelf.held l.shelf ≡ g.S.Shelf.held l.initial.shelf;
  fails : g.S.Shelf.fails l.shelf ≡ later_by l.table-index (g.S.Shelf.fails l.initial.shelf);
  misses : g.S.Shelf.misses l.shelf ≡ g.S.Shelf.misses l.initial.shelf;
  faults : g.S.Shelf.faults l.shelf ≡ g.S.Shelf.faults l.initial.shelf;
  loaded : AreLoaded (visit g.S.Shelf.held g.S.Shelf.fails g.S.Shelf.misses g.S.Shelf.faults l.initial.shelf l.initial.shelf) l.folder (take l.table-index l.tables) l.made;
}
