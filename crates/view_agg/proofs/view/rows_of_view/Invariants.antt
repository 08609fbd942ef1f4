use Rattle.view_agg.proofs.Arms.{Going}
use Rattle.view_agg.proofs.view.rows_of_view.Given as goal

abbrev pub invariant-loop-select : goal.invariant-loop-select
invariant-loop-select l = Going l.query l.known l.view l.fn.fold l.select-index l.made l.fold
