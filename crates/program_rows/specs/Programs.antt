-- The program of a list of formulas, its roots and its aim, and what a call for it comes to.
use Rattle.std.specs.Prelude.{◌≡◌, ◌+◌, ◌<◌, ◌≤◌, ℕ, neg_ℤ, Bool, List, ◌++◌, length, sum_by, Option, Result, Ok, Err}
use Rattle.ip_rows.specs.declared.rows.IpRow.{IpRow}
use Rattle.ip_rows.specs.declared.program.Program.{Program}
use Rattle.ip_rows.specs.Programs.{size_of}
use Rattle.tiql_query.specs.declared.world_column.WorldColumn.{WorldColumn}
use Rattle.world_points.specs.Points.{root}
use Rattle.drop_rows.specs.Cells.{cell_rows}
use Rattle.prov_fold.specs.Graphs.{Graph}
use Rattle.bool_encode.specs.declared.stand.Stand.{Stand}
use Rattle.bool_encode.specs.Forms.{Form}
use Rattle.bool_encode.specs.Rows.{AreRows, IsRowOf}
use Rattle.used_columns.specs.declared.fault.ColumnsFault.{ColumnsFault}
use Rattle.used_columns.specs.declared.fault.ColumnsFault.TheVariants as columns_fault
use Rattle.used_columns.specs.declared.layout.Layout.{Layout}
use Rattle.used_columns.specs.Columns.{laid}
use Rattle.used_columns.specs.Used.{AreUsed}
use Rattle.program_rows.specs.declared.fault.ProgramFault.{ProgramFault}
use Rattle.program_rows.specs.declared.fault.ProgramFault.TheVariants as fault
use Rattle.program_rows.specs.declared.goal.Goal.{Goal}
use Rattle.program_rows.specs.declared.program.Encoded.{Encoded}
use Rattle.program_rows.specs.Goals.{wanted_forms, all_forms, aim_form, AreSeedsOf}

-- the rows and their terms, counted together
abbrev pub size_of_rows : List IpRow → ℕ
size_of_rows rows = length rows + sum_by (λ (row : IpRow). length row.terms) rows

-- the columns of a program whose map is this
abbrev pub layout_of : List Stand → Program → Layout
layout_of stands program = record { map = record { stands = stands }; columns = program.columns }

-- the columns for the nodes that roots and aim use come to this
pub record IsLayoutOf (columns : List WorldColumn) (g : Graph) (roots : List ℕ) (aim : Option Goal) (outcome : Result Layout ColumnsFault) : Type 0 where
  pub seeds : List ℕ
  pub sown : AreSeedsOf g (wanted_forms g roots aim) seeds
  pub marks : List Bool
  pub used : AreUsed g seeds marks
  pub is : laid g (root columns) marks ≡ outcome

-- the program: its columns are laid for the nodes that roots and aim use, its rows are those of cells that may be dropped, of used
-- nodes and of roots, its aim is the goal's, and it isn't too large
pub record IsProgramOf (columns : List WorldColumn) (g : Graph) (roots : List ℕ) (aim : Option Goal) (program : Program) (stands : List Stand) : Type 0 where
  pub seeds : List ℕ
  pub sown : AreSeedsOf g (wanted_forms g roots aim) seeds
  pub marks : List Bool
  pub used : AreUsed g seeds marks
  pub layout : laid g (root columns) marks ≡ Ok (layout_of stands program)
  pub made : List IpRow
  pub are : AreRows g stands (all_forms g marks roots) made
  pub rows : program.rows ≡ cell_rows columns ++ made
  pub aim_row : IpRow
  pub aimed : IsRowOf g stands (aim_form aim) aim_row
  pub terms : program.aim ≡ aim_row.terms
  pub constant : program.constant ≡ neg_ℤ aim_row.least
  pub small : size_of program ≤ 50000000

-- there are columns, but rows of the program that come first have already a size above 50,000,000
pub record IsTooLarge (columns : List WorldColumn) (g : Graph) (roots : List ℕ) (aim : Option Goal) : Type 0 where
  pub seeds : List ℕ
  pub sown : AreSeedsOf g (wanted_forms g roots aim) seeds
  pub marks : List Bool
  pub used : AreUsed g seeds marks
  pub layout : Layout
  pub is : laid g (root columns) marks ≡ Ok layout
  pub before : List Form
  pub behind : List Form
  pub forms : before ++ behind ≡ all_forms g marks roots
  pub made : List IpRow
  pub are : AreRows g layout.map.stands before made
  pub large : 50000000 < size_of_rows (cell_rows columns ++ made)

-- what a call comes to, unless memory is wanting
abbrev pub ComesTo : List WorldColumn → Graph → List ℕ → Option Goal → Result Encoded ProgramFault → Type 0
ComesTo columns g roots aim (Ok made) = IsProgramOf columns g roots aim made.program made.map.stands
ComesTo columns g roots aim (Err (fault.TooManyColumns count)) = IsLayoutOf columns g roots aim (Err (columns_fault.TooManyColumns count))
ComesTo columns g roots aim (Err fault.TooLarge) = IsTooLarge columns g roots aim
ComesTo columns g roots aim (Err fault.Memory) = Unit {0}
