use Rattle.text_tests.proofs.Spelled.{has_text}
use Rattle.text_tests.proofs.tree.it_groups_a_sum_in_a_product.Goals as goal

pub print_tree-requires : goal.print_tree-requires
print_tree-requires g c = has_text _ _ c.in_ok-tree.ensures.tree
