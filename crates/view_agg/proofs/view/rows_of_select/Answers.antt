use Rattle.tiql_query.specs.WellFormed.{scope_of}
use Rattle.view_join.specs.Sources.{sources_of}
use Rattle.view_agg.proofs.Finished.{select_then}
use Rattle.view_agg.proofs.view.rows_of_select.Goals as goal

pub returns : goal.returns
returns c =
    select_then (scope_of c.args.query.now c.args.select.now) c.args.columns.now c.args.select.now (sources_of c.args.known.now c.args.select.now) c.args.fold.now c.select_rows.new.fold c.in_ok-left.left c.finished.new.fold c.finished.result
    c.in_ok-left.ensures (c.finished.ensures (scope_of c.args.query.now c.args.select.now))
