use Rattle.std.proofs.Common.{◌≡◌, length}
use Rattle.prov_arena.specs.Chains.{formulas, hashes, nexts, Linked}
use Rattle.prov_arena.proofs.chains.link_all.Given as goal

abbrev pub invariant-nodes : goal.invariant-nodes
invariant-nodes l = record {
  same_formulas : formulas l.nodes ≡ formulas l.initial.nodes;
  same_hashes : hashes l.nodes ≡ hashes l.initial.nodes;
  chains : length l.heads ≡ length l.initial.heads;
  linked_so_far : Linked l.i (hashes l.nodes) (nexts l.nodes) l.heads;
}
