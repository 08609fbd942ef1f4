use Rattle.sym_rows.proofs.Hypos.{row_ok}
use Rattle.sym_rows.proofs.hypo.row_of.Goals as goal

pub returns : goal.returns
returns c = row_ok c.args.columns.now c.args.first c.args.chosen.now c.args.base.now c.args.fold.now c.presence.new.fold c.in_ok-presence.presence c.cells_of.new.fold c.in_ok-cells.cells c.in_ok-presence.ensures c.in_ok-cells.ensures
