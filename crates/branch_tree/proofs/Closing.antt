-- Trees whose leaves close: a better best keeps them closed.
use Rattle.std.proofs.Common.{◌≡◌, ℤ, List, refl, arith}
use Rattle.std.specs.Prelude.{Option}
use Rattle.ip_rows.specs.declared.Bounds.{Bounds}
use Rattle.branch_tree.specs.declared.node.Leaf.TheVariants as leaf
use Rattle.branch_tree.specs.Tree.{Tree, closed, split}
use Rattle.branch_tree.specs.Tree.{worked_of}
use Rattle.branch_tree.specs.Boxes.{low_box, high_box}
use Rattle.branch_tree.specs.Listing.{Closes, NoBetter, lows}

module _ (value : List ℤ → Option ℤ) (before now : Option ℤ) (kept : (other : Option ℤ) → NoBetter before other → NoBetter now other) where
  pub closes_kept : (tree : Tree) (sides : List Bounds) → Closes value before tree sides → Closes value now tree sides
  closes_kept (closed leaf.Pending) sides h = tt
  closes_kept (closed leaf.Fixed) sides h = (h.0, kept (value (lows sides)) h.1)
  closes_kept (split column at reason low high) sides h =
      (h.0, closes_kept low (low_box sides column at) h.1, closes_kept high (high_box sides column at) h.2)

-- a tree without a worked node is one open leaf
pub none_worked : (tree : Tree) → worked_of tree ≡ 0 → tree ≡ closed leaf.Pending
none_worked (closed leaf.Pending) none = refl
none_worked (closed leaf.Fixed) none = absurd (omega (arith, none))
none_worked (split column at reason low high) none = absurd (omega (arith, none))
