-- What is asked of a truth of each kind, as it stands in the code.
use Rattle.std.proofs.Common.{◌≡◌, ℕ, ◌<◌, pos, negsuc, Bool, true, false, [], ◌∷◌}
use Rattle.prov_arena.specs.Formulas.{PresNode, PosNode}
use Rattle.prov_fold.specs.Graphs.{Graph, node, size}
use Rattle.prov_fold.specs.Folds.{IsFold}
use Rattle.bool_encode.specs.Forms.{form}
use Rattle.bool_encode.specs.Tables.{times}
use Rattle.root_encode.specs.Roots.{root_forms}
use Rattle.root_encode.proofs.ByKind.{pos_is, pres_is}

module _ (g : Graph) (fold : IsFold g) (z : ℕ) (lt : z < size g) where
  pub pos_held : (b : Bool) (n : ℕ) → PosNode n ≡ node g z → b ≡ true → form (pos 0) (times (pos 1) n ∷ []) ∷ [] ≡ root_forms g b z
  pos_held true n e h = pos_is g fold z lt true n e
  pos_held false n e h = cc

  pub pos_lacks : (b : Bool) (n : ℕ) → PosNode n ≡ node g z → b ≡ false → form (negsuc 0) (times (negsuc 0) n ∷ []) ∷ [] ≡ root_forms g b z
  pos_lacks true n e h = cc
  pos_lacks false n e h = pos_is g fold z lt false n e

  pub pres_held : (b : Bool) (column : ℕ) → PresNode column ≡ node g z → b ≡ true → form (negsuc 0) (times (pos 1) z ∷ []) ∷ [] ≡ root_forms g b z
  pres_held true column e h = pres_is g fold z lt true column e
  pres_held false column e h = cc

  pub pres_lacks : (b : Bool) (column : ℕ) → PresNode column ≡ node g z → b ≡ false → form (pos 0) (times (negsuc 0) z ∷ []) ∷ [] ≡ root_forms g b z
  pres_lacks true column e h = cc
  pres_lacks false column e h = pres_is g fold z lt false column e
