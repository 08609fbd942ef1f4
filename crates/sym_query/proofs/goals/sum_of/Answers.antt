use Rattle.sym_query.proofs.Needs.{rows_known, sum_made}
use Rattle.sym_query.proofs.goals.sum_of.Goals as goal

pub aim_of-requires : goal.aim_of-requires
aim_of-requires c = rows_known c.args.query.now c.args.known.now c.args.fold.now c.args.source c.rows_at-rows.result.now c.rows_at-rows.ensures c.requires

pub returns : goal.returns
returns c = sum_made c.args.query.now c.args.known.now c.args.source c.args.part.now c.args.fold.now c.aim_of.new.fold c.columns_at-columns.result.now c.rows_at-rows.result.now c.aim_of.result c.told_of.result c.columns_at-columns.ensures c.rows_at-rows.ensures c.told_of.ensures c.aim_of.ensures
