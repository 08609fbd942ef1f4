use Rattle.tiql_tree.proofs.Theorem.{has_layout, has_tree}
use Rattle.tiql_tree.proofs.print.print_tree.Goals as goal

pub returns-clause-layout : goal.returns-clause-layout
returns-clause-layout c = has_layout c.args.tree.now c.requires c.tree_bytes.result c.tree_bytes.ensures

pub returns-clause-spells : goal.returns-clause-spells
returns-clause-spells c = has_tree c.args.tree.now c.requires c.tree_bytes.result c.tree_bytes.ensures
