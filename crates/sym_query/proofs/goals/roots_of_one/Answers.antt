use Rattle.sym_query.proofs.Needs.{rows_known, need_made}
use Rattle.sym_query.proofs.goals.roots_of_one.Goals as goal

pub roots_of-requires : goal.roots_of-requires
roots_of-requires c = rows_known c.args.query.now c.args.known.now c.args.fold.now c.source_of-source.result c.rows_at-rows.result.now c.rows_at-rows.ensures c.requires

pub returns : goal.returns
returns c =
    need_made c.args.query.now c.args.known.now c.args.need.now c.args.fold.now c.roots_of.new.fold c.source_of-source.result c.columns_at-columns.result.now c.rows_at-rows.result.now c.roots_of.result c.told_of.result c.source_of-source.ensures c.columns_at-columns.ensures c.rows_at-rows.ensures c.told_of.ensures c.roots_of.ensures
