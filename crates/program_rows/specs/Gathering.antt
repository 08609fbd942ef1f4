-- Rows as they are gathered, up to the greatest size.
use Rattle.std.specs.Prelude.{◌≡◌, ◌<◌, ◌≤◌, ℕ, true, List, ◌∷◌, ◌++◌, All, Result, Ok, Err}
use Rattle.ip_rows.specs.declared.rows.IpRow.{IpRow}
use Rattle.prov_fold.specs.Graphs.{Graph, node}
use Rattle.bool_encode.specs.declared.form.Key.TheVariants as key
use Rattle.bool_encode.specs.declared.stand.Stand.{Stand}
use Rattle.bool_encode.specs.Columns.{IsOnMap}
use Rattle.bool_encode.specs.Forms.{Form}
use Rattle.bool_encode.specs.Points.{HasPairAt}
use Rattle.bool_encode.specs.Rows.{AreRows}
use Rattle.cmp_encode.specs.Tables.{named_by}
use Rattle.whole_points.specs.Matched.{has_column}
use Rattle.root_encode.specs.Told.{Adds}
use Rattle.program_rows.specs.declared.fault.ProgramFault.{ProgramFault}
use Rattle.program_rows.specs.declared.fault.ProgramFault.TheVariants as fault
use Rattle.program_rows.specs.Programs.{size_of_rows}

-- all that the rows of a node name is on the map, if it has rows
pub record HasNames (g : Graph) (stands : List Stand) (z : ℕ) : Type 0 where
  pub named : has_column (node g z) ≡ true → All (λ k. IsOnMap g stands (key.Node k)) (z ∷ named_by g (node g z))
  pub chosen : (pair : ℕ) → HasPairAt pair (node g z) → IsOnMap g stands (key.Selector z pair)

-- with the rows of forms that come first, the rows have a size above 50,000,000
pub record PassesSize (g : Graph) (stands : List Stand) (forms : List Form) (rows : List IpRow) : Type 0 where
  pub before : List Form
  pub behind : List Form
  pub parts : before ++ behind ≡ forms
  pub made : List IpRow
  pub are : AreRows g stands before made
  pub large : 50000000 < size_of_rows (rows ++ made)

-- the rows of the forms were appended, and the size is told, unless it passes 50,000,000 or memory is wanting
abbrev pub Gathers : Graph → List Stand → List Form → List IpRow → List IpRow → Result ℕ ProgramFault → Type 0
Gathers g stands forms before after (Ok size) = Adds g stands forms before after × (size ≡ size_of_rows after) × (size ≤ 50000000)
Gathers g stands forms before after (Err fault.TooLarge) = PassesSize g stands forms before
Gathers g stands forms before after (Err (fault.TooManyColumns count)) = ⊥
Gathers g stands forms before after (Err fault.Memory) = Unit {0}

-- these rows were appended, and the size is told, unless it passes 50,000,000 or memory is wanting
abbrev pub AddsRows : List IpRow → List IpRow → List IpRow → Result ℕ ProgramFault → Type 0
AddsRows more before after (Ok size) = (after ≡ before ++ more) × (size ≡ size_of_rows after) × (size ≤ 50000000)
AddsRows more before after (Err fault.TooLarge) = 50000000 < size_of_rows (before ++ more)
AddsRows more before after (Err (fault.TooManyColumns count)) = ⊥
AddsRows more before after (Err fault.Memory) = Unit {0}

-- behind the rows of cells stand those of the forms, unless the size passes 50,000,000 or memory is wanting
abbrev pub GathersAll : Graph → List Stand → List Form → List IpRow → Result (List IpRow) ProgramFault → Type 0
GathersAll g stands forms cells (Ok rows) = Adds g stands forms cells rows × (size_of_rows rows ≤ 50000000)
GathersAll g stands forms cells (Err fault.TooLarge) = PassesSize g stands forms cells
GathersAll g stands forms cells (Err (fault.TooManyColumns count)) = ⊥
GathersAll g stands forms cells (Err fault.Memory) = Unit {0}
