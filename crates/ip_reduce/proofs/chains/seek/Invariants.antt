use Rattle.std.proofs.Common.{length}
use Rattle.ip_reduce.specs.Chains.{Seeking}
use Rattle.ip_reduce.proofs.chains.seek.Given as goal

abbrev pub invariant-chain : goal.invariant-chain
invariant-chain l = Seeking l.rows l.hashes (length l.heads) l.row l.link

abbrev pub decreases-chain : goal.decreases-chain
decreases-chain l = l.link
