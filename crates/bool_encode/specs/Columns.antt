-- Nodes as columns: which columns, with which factors, make up what a node is worth.
use Rattle.std.specs.Prelude.{◌<◌, ℕ, ℤ, pos, negsuc, ◌+ℤ◌, ◌*ℤ◌, List, [], ◌∷◌, map, length, All}
use Rattle.ip_rows.specs.declared.rows.Coef.{Coef}
use Rattle.ip_rows.specs.Programs.{sum_at}
use Rattle.prov_arena.specs.declared.part.Term.{Term}
use Rattle.prov_arena.specs.Formulas.{Formula, FalseNode, TrueNode, PresNode, CellNode, NotNode, LinNode}
use Rattle.prov_fold.specs.Graphs.{Graph, node}
use Rattle.bool_encode.specs.declared.form.Key.{Key}
use Rattle.bool_encode.specs.declared.form.Key.TheVariants as key
use Rattle.bool_encode.specs.declared.stand.Stand.{Stand}
use Rattle.bool_encode.specs.declared.stand.Stand.TheVariants as stand
use Rattle.bool_encode.specs.Stands.{column_of}

-- a constant plus factors of columns
pub record Columns : Type 0 where
  pub constant : ℤ
  pub terms : List Coef

abbrev pub coef : ℤ → ℕ → Coef
coef factor column = record { factor = factor; column = column }

-- what the column of a node stands for: a presence and a cell have that of the world's
abbrev pub stand_by : ℕ → Formula → Stand
stand_by z (PresNode column) = stand.World column
stand_by z (CellNode column) = stand.World column
stand_by z _ = stand.Node z

abbrev pub column_at : Graph → List Stand → ℕ → ℕ
column_at g stands z = column_of stands (stand_by z (node g z))

abbrev pub constantly : ℤ → Columns
constantly c = record { constant = c; terms = [] }

abbrev pub once : ℕ → Columns
once column = record { constant = pos 0; terms = coef (pos 1) column ∷ [] }

-- the constant of a node as columns
abbrev pub constant_by : Formula → ℤ
constant_by TrueNode = pos 1
constant_by (NotNode truth) = pos 1
constant_by (LinNode c terms) = c
constant_by _ = pos 0

-- a truth or a number as columns: Not(t) is 1 - t
abbrev pub columns_by : Graph → List Stand → ℕ → Formula → Columns
columns_by g stands z FalseNode = constantly (pos 0)
columns_by g stands z TrueNode = constantly (pos 1)
columns_by g stands z (NotNode truth) = record { constant = pos 1; terms = coef (negsuc 0) (column_at g stands truth) ∷ [] }
columns_by g stands z (LinNode c terms) = record { constant = c; terms = map (λ (t : Term). coef t.factor (column_at g stands t.node)) terms }
columns_by g stands z m = once (column_of stands (stand_by z m))

unfoldable pub columns_of : Graph → List Stand → Key → Columns
columns_of g stands (key.Node z) = columns_by g stands z (node g z)
columns_of g stands (key.Selector z i) = once (column_of stands (stand.Selector z i))

abbrev pub constant_of : Graph → Key → ℤ
constant_of g (key.Node z) = constant_by (node g z)
constant_of g (key.Selector z i) = pos 0

-- the number, over d, that a point over d gives a key
unfoldable pub reading : Graph → List Stand → ℕ → List ℤ → Key → ℤ
reading g stands d point k = (columns_of g stands k).constant *ℤ pos d +ℤ sum_at point (columns_of g stands k).terms

-- each column of a key is there
unfoldable pub IsOnMap : Graph → List Stand → Key → Type 0
IsOnMap g stands k = All (λ (t : Coef). t.column < length stands) (columns_of g stands k).terms
