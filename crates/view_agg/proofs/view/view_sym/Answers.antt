use Rattle.view_agg.proofs.Arms.{view_done, view_of, same_view}
use Rattle.view_agg.proofs.view.view_sym.Goals as goal

pub returns : goal.returns
returns c = λ it there.
    view_done c.args.query.now c.requires.fit c.args.view it there c.args.known.now c.args.fold.now c.rows_of_view.new.fold c.rows_of_view.result
    (view_of c.args.query.now c.args.known.now c.index-as_slice-view.result it c.args.fold.now c.rows_of_view.new.fold c.rows_of_view.result
    (same_view c.args.query.now c.args.view c.index-as_slice-view.result it c.as_slice.result.now c.as_slice.ensures c.index-as_slice-view.is there) c.rows_of_view.ensures)
