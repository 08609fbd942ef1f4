-- A program, a list of formulas and a map that fit one another.
use Rattle.std.specs.Prelude.{◌≡◌, ◌<◌, ◌≤◌, ℕ, pos, Bool, true, false, if◌then◌else◌, List, length, count_by, All, Contains, slice_index_or}
use Rattle.ip_rows.specs.declared.Bounds.{Bounds}
use Rattle.ip_rows.specs.declared.rows.Coef.{Coef}
use Rattle.ip_rows.specs.declared.rows.IpRow.{IpRow}
use Rattle.ip_rows.specs.declared.program.ColumnKind.{ColumnKind}
use Rattle.ip_rows.specs.declared.program.ColumnKind.TheVariants as kind
use Rattle.ip_rows.specs.declared.program.IpColumn.{IpColumn}
use Rattle.ip_rows.specs.declared.program.Program.{Program}
use Rattle.prov_arena.specs.Formulas.{Formula, PresNode, CellNode, GuardNode, AbsNode, TotNode, MinNode}
use Rattle.prov_fold.specs.declared.span.Span.{Span}
use Rattle.prov_fold.specs.Graphs.{Graph, node, range, size}
use Rattle.bool_encode.specs.declared.form.Key.TheVariants as key
use Rattle.bool_encode.specs.declared.stand.Stand.{Stand}
use Rattle.bool_encode.specs.declared.stand.Stand.TheVariants as stand
use Rattle.bool_encode.specs.Forms.{Form}
use Rattle.bool_encode.specs.Stands.{IsMap, stand_at}
use Rattle.bool_encode.specs.Columns.{IsOnMap}
use Rattle.bool_encode.specs.Rows.{IsRowOf, AreRows}
use Rattle.bool_encode.specs.Points.{HasPairAt}
use Rattle.bool_encode.specs.Tellings.{is_switch}
use Rattle.cmp_encode.specs.Tables.{forms_of, named_by}

-- the kinds that have a column of their own
abbrev pub has_column : Formula → Bool
has_column (GuardNode t n) = true
has_column (AbsNode n) = true
has_column (TotNode n) = true
has_column (MinNode pairs) = true
has_column m = is_switch m

abbrev pub bounds_of : Span → Bounds
bounds_of s = record { lo = s.lo; hi = s.hi }

abbrev pub column : ColumnKind → Bounds → IpColumn
column k sides = record { kind = k; sides = sides }

-- the formula is a presence or a cell with the world column of this number
abbrev pub IsChoice : ℕ → Formula → Type 0
IsChoice number (PresNode c) = c ≡ number
IsChoice number (CellNode c) = c ≡ number
IsChoice number _ = ⊥

-- the column of a node: its range, which is 0 .. 1 for a truth
abbrev pub own_column : Graph → ℕ → IpColumn
own_column g z = column (if is_switch (node g z) then kind.Switch else kind.Value) (bounds_of (range g z))

-- what has a place of the list as its column is right there
pub record IsOwn (g : Graph) (z : ℕ) (c : IpColumn) : Type 0 where
  pub there : z < size g
  pub kind : has_column (node g z) ≡ true
  pub is : c ≡ own_column g z

pub record IsSelector (g : Graph) (stands : List Stand) (z pair : ℕ) (c : IpColumn) : Type 0 where
  pub there : z < size g
  pub has : HasPairAt pair (node g z)
  pub beside : IsOnMap g stands (key.Node z)
  pub is : c ≡ column kind.Switch (record { lo = pos 0; hi = pos 1 })

-- the column of what it stands for; a world column has the range of each of its presences and cells in the list
abbrev pub IsColumnOf : Graph → List Stand → Stand → IpColumn → Type 0
IsColumnOf g stands (stand.World number) c = (c.kind ≡ kind.World) × ((z : ℕ) → z < size g → IsChoice number (node g z) → c.sides ≡ bounds_of (range g z))
IsColumnOf g stands (stand.Node z) c = IsOwn g z c
IsColumnOf g stands (stand.Selector z pair) c = IsSelector g stands z pair c

-- the column of this number
abbrev pub column_at : List IpColumn → ℕ → IpColumn
column_at columns number = slice_index_or columns number (column kind.World (record { lo = pos 0; hi = pos 0 }))

abbrev pub is_world : Stand → Bool
is_world (stand.World number) = true
is_world _ = false

-- how many columns are the world's
abbrev pub world_count : List Stand → ℕ
world_count stands = count_by is_world stands

-- the first so many columns are the world's, in order, and no other one is
pub record BeginsWithWorld (stands : List Stand) (worlds : ℕ) : Type 0 where
  pub within : worlds ≤ length stands
  pub first : (number : ℕ) → number < worlds → stand_at stands number ≡ stand.World number
  pub last : (number other : ℕ) → worlds ≤ number → number < length stands → stand_at stands number ≡ stand.World other → ⊥

-- all that the rows of a node name is on the map, and the program has these rows
pub record HasRows (program : Program) (g : Graph) (stands : List Stand) (z : ℕ) : Type 0 where
  pub named : All (λ k. IsOnMap g stands (key.Node k)) (named_by g (node g z))
  pub chosen : (pair : ℕ) → HasPairAt pair (node g z) → IsOnMap g stands (key.Selector z pair)
  pub own : List IpRow
  pub are : AreRows g stands (forms_of g z (node g z)) own
  pub within : All (λ row. Contains program.rows row) own

-- a term at the column of a selector
abbrev pub NamesSelector : List Stand → ℕ → ℕ → List Coef → Type 0
NamesSelector stands z pair terms = (t : Coef) × Contains terms t × (stand_at stands t.column ≡ stand.Selector z pair)

-- the row is one of the forms of the node
abbrev pub IsRowIn : Graph → List Stand → ℕ → IpRow → Type 0
IsRowIn g stands z row = (r : Form) × Contains (forms_of g z (node g z)) r × IsRowOf g stands r row

-- a program, a list and a map are matched: the columns are those of the map, each node with a column has its rows, and only the rows
-- of a Min name its selectors
pub record IsMatched (program : Program) (g : Graph) (stands : List Stand) : Type 0 where
  pub map : IsMap stands
  pub begins : BeginsWithWorld stands (world_count stands)
  pub choices : (z number : ℕ) → z < size g → IsChoice number (node g z) → number < world_count stands
  pub count : length program.columns ≡ length stands
  pub columns : (number : ℕ) → number < length stands → IsColumnOf g stands (stand_at stands number) (column_at program.columns number)
  pub rows : (number z : ℕ) → number < length stands → stand_at stands number ≡ stand.Node z → HasRows program g stands z
  pub selectors : (row : IpRow) (z pair : ℕ) → Contains program.rows row → NamesSelector stands z pair row.terms → IsRowIn g stands z row
  pub aim : (z pair : ℕ) → NamesSelector stands z pair program.aim → ⊥
