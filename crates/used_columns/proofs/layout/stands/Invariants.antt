use Rattle.std.proofs.Common.{◌≡◌, ◌++◌}
use Rattle.prov_fold.specs.Graphs.{size}
use Rattle.used_columns.specs.Columns.{marked_stands, stands_for}
use Rattle.used_columns.proofs.RangeLemmas.{from}
use Rattle.used_columns.proofs.layout.stands.Given as goal

abbrev pub invariant-loop-id : goal.invariant-loop-id
invariant-loop-id l = l.stands ++ from (marked_stands l.fold l.used) (size l.fold) l.id ≡ stands_for l.fold l.worlds l.used
