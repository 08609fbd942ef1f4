-- Forms of roots and aim as pieces of nodes, and nodes as terms of columns.
use Rattle.std.proofs.Common.{◌≡◌, ap, refl, ℕ, ◌<◌, pos, List, [], ◌∷◌, map, All}
use Rattle.ip_rows.specs.declared.rows.Coef.{Coef}
use Rattle.prov_arena.specs.declared.part.Term.{Term}
use Rattle.prov_arena.specs.Formulas.{Formula, FalseNode, TrueNode, PresNode, CellNode, PosNode, NotNode, AndNode, OrNode, LinNode, GuardNode, AbsNode, TotNode, MinNode}
use Rattle.prov_fold.specs.Graphs.{Graph, node, size}
use Rattle.prov_fold.specs.Folds.{IsFold}
use Rattle.bool_encode.specs.declared.form.Key.TheVariants as key
use Rattle.bool_encode.specs.declared.stand.Stand.{Stand}
use Rattle.bool_encode.specs.Columns.{coef, column_at, columns_by, columns_of, stand_by}
use Rattle.bool_encode.specs.Forms.{Form}
use Rattle.bool_encode.specs.Stands.{column_of}
use Rattle.used_columns.specs.Seeds.{terms_of, key_terms, form_terms, IsSeed}
use Rattle.used_columns.proofs.JoinedSeeds.{node_in}
use Rattle.used_columns.proofs.Linear.{IsNodePiece}
use Rattle.used_columns.proofs.SeedLemmas.{form_there}
use Rattle.program_rows.specs.Fair.{IsFair}
use Rattle.program_rows.proofs.Fairness.{asked_there, fair_keys}

pub fair_nodes : (g : Graph) (r : Form) → IsFair g r → All (IsNodePiece g) r.pieces
fair_nodes g r fair = λ j d lt. let names = fair.nodes j d lt in (names.node, asked_there g names.node names.asked, names.is)

-- a seed of a form is a node of the list
pub seed_below : (g : Graph) (fold : IsFold g) (r : Form) (z : ℕ) → IsFair g r → IsSeed g r.pieces z → z < size g
seed_below g fold r z fair seed = node_in (λ (k : ℕ). k < size g) (form_terms g r.pieces) z (form_there g fold r.pieces (fair_keys g r fair)) seed

-- ---- nodes as terms of columns

module _ (g : Graph) (stands : List Stand) where
  abbrev placed : Term → Coef
  placed t = coef t.factor (column_at g stands t.node)

  own_placed : (z : ℕ) (m : Formula) → m ≡ node g z → coef (pos 1) (column_of stands (stand_by z m)) ∷ [] ≡ coef (pos 1) (column_at g stands z) ∷ []
  own_placed z m e = ap (λ (f : Formula). coef (pos 1) (column_of stands (stand_by z f)) ∷ []) e

  node_placed : (z : ℕ) (m : Formula) → m ≡ node g z → (columns_by g stands z m).terms ≡ map placed (terms_of z m)
  node_placed z FalseNode e = refl
  node_placed z TrueNode e = refl
  node_placed z (NotNode truth) e = refl
  node_placed z (LinNode c terms) e = refl
  node_placed z (PresNode column) e = own_placed z (PresNode column) e
  node_placed z (CellNode column) e = own_placed z (CellNode column) e
  node_placed z (PosNode number) e = own_placed z (PosNode number) e
  node_placed z (AndNode kids) e = own_placed z (AndNode kids) e
  node_placed z (OrNode kids) e = own_placed z (OrNode kids) e
  node_placed z (GuardNode truth number) e = own_placed z (GuardNode truth number) e
  node_placed z (AbsNode number) e = own_placed z (AbsNode number) e
  node_placed z (TotNode number) e = own_placed z (TotNode number) e
  node_placed z (MinNode pairs) e = own_placed z (MinNode pairs) e

  pub key_placed : (z : ℕ) → (columns_of g stands (key.Node z)).terms ≡ map placed (key_terms g (key.Node z))
  unfolding columns_of
  key_placed z = node_placed z (node g z) refl
