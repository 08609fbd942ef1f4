use Rattle.std.proofs.Common.{rules}
use Rattle.tiql_read.proofs.Told.{stop_end, stop_token}
use Rattle.tiql_read.proofs.reader.place_of.Goals as goal

pub returns-then-left-eq0 : goal.returns-then-left-eq0
returns-then-left-eq0 c = stop_end c.args.lexed.now c.args.left c.unwrap_or.result (search rules) c.unwrap_or.ensures

pub returns : goal.returns
returns c = stop_token c.args.lexed.now c.args.left c.as_slice-tokens.result.now _ (search rules) c.requires c.as_slice-tokens.ensures
