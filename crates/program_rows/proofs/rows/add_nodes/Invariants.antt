use Rattle.prov_fold.specs.Graphs.{size}
use Rattle.used_columns.proofs.RangeLemmas.{from}
use Rattle.program_rows.specs.Goals.{marked_forms, node_forms}
use Rattle.program_rows.proofs.Turns.{IsOnWay}
use Rattle.program_rows.proofs.rows.add_nodes.Given as goal

abbrev pub invariant-loop-id : goal.invariant-loop-id
invariant-loop-id l = IsOnWay l.fold l.map.stands (from (marked_forms l.fold l.used) (size l.fold) l.id) (node_forms l.fold l.used) l.initial.rows l.rows l.total
