use Rattle.view_agg.proofs.Arms.{more_then}
use Rattle.view_agg.proofs.view.select_more.Goals as goal

pub returns : goal.returns
returns c =
    more_then c.args.query.now c.args.columns.now c.args.known.now c.args.select.now c.args.made c.args.fold.now c.rows_of_select.new.fold c.requires.made c.in_ok-more.more c.in_ok-all.all c.rows_of_select.new.fold c.few.result
    c.in_ok-all.ensures c.in_ok-more.ensures c.few.ensures
