use Rattle.std.proofs.Common.{◌≡◌, ◌+◌, length}
use Rattle.prov_fold.specs.Graphs.{size}
use Rattle.used_columns.specs.Columns.{marked_stands, stands_for}
use Rattle.used_columns.proofs.RangeLemmas.{from}
use Rattle.used_columns.proofs.layout.count.Given as goal

abbrev pub invariant-loop-id : goal.invariant-loop-id
invariant-loop-id l = l.count + length (from (marked_stands l.fold l.used) (size l.fold) l.id) ≡ length (stands_for l.fold l.worlds l.used)
