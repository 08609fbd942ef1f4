-- The constant of a key as columns rests on the list alone.
use Rattle.std.proofs.Common.{◌≡◌, refl, ℕ, List}
use Rattle.prov_arena.specs.Formulas.{Formula, FalseNode, TrueNode, PresNode, CellNode, PosNode, NotNode, AndNode, OrNode, LinNode, GuardNode, AbsNode, TotNode, MinNode}
use Rattle.prov_fold.specs.Graphs.{Graph, node}
use Rattle.bool_encode.specs.declared.form.Key.{Key}
use Rattle.bool_encode.specs.declared.form.Key.TheVariants as key
use Rattle.bool_encode.specs.declared.stand.Stand.{Stand}
use Rattle.bool_encode.specs.Columns.{columns_by, columns_of, constant_by, constant_of}

constant_same : (g : Graph) (stands : List Stand) (z : ℕ) (m : Formula) → (columns_by g stands z m).constant ≡ constant_by m
constant_same g stands z FalseNode = refl
constant_same g stands z TrueNode = refl
constant_same g stands z (PresNode column) = refl
constant_same g stands z (CellNode column) = refl
constant_same g stands z (PosNode number) = refl
constant_same g stands z (NotNode truth) = refl
constant_same g stands z (AndNode kids) = refl
constant_same g stands z (OrNode kids) = refl
constant_same g stands z (LinNode c terms) = refl
constant_same g stands z (GuardNode truth number) = refl
constant_same g stands z (AbsNode number) = refl
constant_same g stands z (TotNode number) = refl
constant_same g stands z (MinNode pairs) = refl

pub constant_is : (g : Graph) (stands : List Stand) (k : Key) → (columns_of g stands k).constant ≡ constant_of g k
unfolding columns_of
constant_is g stands (key.Node z) = constant_same g stands z (node g z)
constant_is g stands (key.Selector z i) = refl
