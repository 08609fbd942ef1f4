-- a tree that was read has a text
use Rattle.std.proofs.Common.{ℕ, List, refl}
use Rattle.tiql_tree.specs.declared.tree.Tree.{Tree}
use Rattle.tiql_tree.specs.Spelled.{Spelled}
use Rattle.tiql_tree.specs.Unplaced.{HasText}

-- the bytes that spell it are one
pub has_text : (bytes : List ℕ) (tree : Tree) → Spelled bytes tree → HasText tree
has_text bytes tree spelled = (bytes, record { other = tree; spelled = spelled; same = refl })
