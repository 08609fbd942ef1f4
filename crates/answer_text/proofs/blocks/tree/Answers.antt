use Rattle.std.proofs.Common.{arith}
use Rattle.std.proofs.lemmas.Bool.{false≢true}
use Rattle.answer_text.proofs.Grammar.{nodes_whole, nodes_few}
use Rattle.answer_text.proofs.blocks.tree.Goals as goal

pub from_nodes-requires : goal.from_nodes-requires
from_nodes-requires c = omega (arith, nodes_few c.args.bytes.now (c.in_ok-nodes.nodes, c.in_ok-nodes.rest.now) c.in_ok-nodes.ensures)

pub unreachable-requires : goal.unreachable-requires
unreachable-requires c =
    false≢true (c.in-None.ensures.tree.1 (nodes_whole c.args.bytes.now (c.in_ok-nodes.nodes, c.in_ok-nodes.rest.now) c.in_ok-nodes.ensures))
