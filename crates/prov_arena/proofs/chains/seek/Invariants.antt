use Rattle.std.proofs.Common.{length}
use Rattle.prov_arena.specs.Formulas.{formula}
use Rattle.prov_arena.specs.Chains.{formulas, hashes, Seeking}
use Rattle.prov_arena.proofs.chains.seek.Given as goal

abbrev pub invariant-chain : goal.invariant-chain
invariant-chain l = Seeking (formulas l.nodes) (hashes l.nodes) (length l.heads) (formula l.part) l.link

abbrev pub decreases-chain : goal.decreases-chain
decreases-chain l = l.link
