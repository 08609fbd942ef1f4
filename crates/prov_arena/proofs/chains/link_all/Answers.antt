use Rattle.std.proofs.Common.{◌∙◌, ◌+◌, ◌%◌, length, get_or, arith, length-set}
use Rattle.prov_arena.proofs.Blanks.{blank, formulas_relinked, hashes_relinked, linked_relinked}
use Rattle.prov_arena.proofs.chains.link_all.Goals as goal

pub nodes-preserved : goal.nodes-preserved
nodes-preserved c =
    let chain = (get_or c.nodes.nodes c.nodes.i blank).hash % length c.nodes.heads in
    let kept = c.nodes.invariant in
    record {
      same_formulas = formulas_relinked c.nodes.nodes c.nodes.i _ ∙ kept.same_formulas;
      same_hashes = hashes_relinked c.nodes.nodes c.nodes.i _ ∙ kept.same_hashes;
      chains = length-set c.nodes.heads chain (c.nodes.i + 1) ∙ kept.chains;
      linked_so_far = linked_relinked c.nodes.nodes c.nodes.heads c.nodes.i kept.linked_so_far (omega arith) (omega (arith, kept.linked_so_far.some));
    }
