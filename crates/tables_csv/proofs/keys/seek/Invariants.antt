use Rattle.std.proofs.Common.{length}
use Rattle.tables_csv.specs.Chains.{Seeking}
use Rattle.tiql_query.specs.Keys.{key_of}
use Rattle.tables_csv.proofs.keys.seek.Given as goal

abbrev pub invariant-chain : goal.invariant-chain
invariant-chain l = Seeking l.key l.rows l.hashes (length l.heads) (key_of l.key l.row) l.link

abbrev pub decreases-chain : goal.decreases-chain
decreases-chain l = l.link
