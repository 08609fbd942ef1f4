-- the worlds of a query: which are possible, which meet it, their scores, and the best of them
use Rattle.std.specs.Prelude.{◌≡◌, ℕ, ℤ, pos, ◌+◌, ◌<◌, ◌==◌, ◌<ℤ◌, Bool, true, false, ◌&&◌, IsTrue, if◌then◌else◌, List, [], ◌∷◌, ◌++◌, map, drop, length, Option, Some, None, slice_get}
use Rattle.std.specs.List.{list_all, list_any}
use Rattle.base_kit.specs.declared.value.Value.{Value}
use Rattle.tiql_query.specs.declared.condition.Cond.{Cond}
use Rattle.tiql_query.specs.declared.relation.QBound.{QBound}
use Rattle.tiql_query.specs.declared.relation.Source.{Source}
use Rattle.tiql_query.specs.declared.relation.QHypo.{QHypo}
use Rattle.tiql_query.specs.declared.aim.Require.{Require}
use Rattle.tiql_query.specs.declared.aim.Require.TheVariants as needs
use Rattle.tiql_query.specs.declared.aim.Aim.{Aim}
use Rattle.tiql_query.specs.declared.aim.Aim.TheVariants as aims
use Rattle.tiql_query.specs.declared.query.Query.{Query}
use Rattle.tiql_query.specs.declared.world_column.WorldColumn.{WorldColumn}
use Rattle.world_def.specs.declared.world.World.{World}
use Rattle.world_def.specs.declared.world.WorldTable.{WorldTable}
use Rattle.world_def.specs.Best as best
use Rattle.row_values.specs.Values.{number, total, value, truth}
use Rattle.world_def.specs.Columns.{Rows, Tables, rows_of, presence_column}
use Rattle.world_def.specs.Relations.{rows_in}
use Rattle.world_def.specs.Judging.{source_of}
use Rattle.world_def.specs.Worlds.{standing, count_of, row_possible, are_none, number_in}

-- whether a row of the table may change; without a condition every row may
unfoldable pub may_change : Option Cond → List Value → Bool
may_change None row = true
may_change (Some test) row = truth (row ∷ []) test

-- the choice of a cell's number, between bounds that are read from the row of the table
unfoldable pub cell_choice : ℕ → Bool → ℕ → List Value → QBound → WorldColumn
cell_choice hypo droppable at row bound =
    record { hypo = hypo; row = at; cell = Some bound.column; droppable = droppable; lo = number (value (row ∷ []) bound.lo); hi = number (value (row ∷ []) bound.hi) }

-- the choice whether a row is there, under DROP
abbrev pub presence_choice : ℕ → Bool → ℕ → List WorldColumn
presence_choice hypo true at = presence_column hypo at ∷ []
presence_choice hypo false at = []

-- what a row of the table leaves to choose: nothing where it may not change
unfoldable pub choices : ℕ → QHypo → ℕ → List Value → List WorldColumn
choices hypo table at row = if may_change table.filter row then presence_choice hypo table.droppable at ++ map (cell_choice hypo table.droppable at row) table.set else []

-- the rows of the table, from the one with this number on, against those of the world. A row that leaves nothing to choose is there, as it
-- is in the table
unfoldable pub rows_can : ℕ → QHypo → ℕ → Rows → List ℕ → Rows → Bool
rows_can hypo table at [] picks rows = are_none picks && are_none rows
rows_can hypo table at (base ∷ bases) picks rows =
    row_possible (choices hypo table at base) base (standing at picks rows)
    && rows_can hypo table (at + 1) bases (drop (count_of (standing at picks rows)) picks) (drop (count_of (standing at picks rows)) rows)

-- a hypothetical table's rows, from the first on
abbrev pub table_can : ℕ → QHypo → Rows → Option WorldTable → Bool
table_can hypo table bases None = false
table_can hypo table bases (Some made) = rows_can hypo table 0 bases made.picks made.rows

-- and those of each hypothetical table, from the one with this number on
unfoldable pub tables_can : Tables → List WorldTable → ℕ → List QHypo → Bool
tables_can tables world hypo [] = true
tables_can tables world hypo (table ∷ others) = table_can hypo table (rows_of tables table.table) (slice_get world hypo) && tables_can tables world (hypo + 1) others

-- each hypothetical table has rows that the rows of its table can be, in their order, and there are no more tables
pub record IsPossible (query : Query) (tables : Tables) (world : World) : Type 0 where
  pub long : length world.tables ≡ length query.hypos
  pub rows : tables_can tables world.tables 0 query.hypos ≡ true

-- what the world has at this number is not what this hypothetical table may be; where there is none, the world has a table there
abbrev pub IsNotFor : Tables → World → ℕ → Option QHypo → Type 0
IsNotFor tables world number None = number < length world.tables
IsNotFor tables world number (Some hypo) = table_can number hypo (rows_of tables hypo.table) (slice_get world.tables number) ≡ false

-- the world is not possible for the hypothetical table with this number, or has a table too many there
abbrev pub IsWrongAt : Query → Tables → World → ℕ → Type 0
IsWrongAt query tables world number = IsNotFor tables world number (slice_get query.hypos number)

-- the first number at which the world is wrong
pub record IsFirstWrong (query : Query) (tables : Tables) (world : World) (number : ℕ) : Type 0 where
  pub here : IsWrongAt query tables world number
  pub first : (earlier : ℕ) → earlier < number → IsWrongAt query tables world earlier → ⊥

-- the row of a world over the row of the table with this number, where it is there
unfoldable pub row_over : ℕ → List ℕ → Rows → Option (List Value)
row_over at [] rows = None
row_over at (pick ∷ picks) [] = None
row_over at (pick ∷ picks) (row ∷ rows) = if pick == at then Some row else row_over at picks rows

-- likewise of a hypothetical table's rows, where the world has it
abbrev pub row_in : ℕ → Option WorldTable → Option (List Value)
row_in at None = None
row_in at (Some table) = row_over at table.picks table.rows

-- the number of a world column: whether its row is there, 1 or 0; or what its cell holds, and 0 where its row is not there
abbrev pub number_of : World → WorldColumn → ℤ
number_of world column = number_in (row_in column.row (slice_get world.tables column.hypo)) column

-- the numbers of a world, one for each column
abbrev pub numbers : List WorldColumn → World → List ℤ
numbers columns world = map (number_of world) columns

-- ALL: every row meets the condition; SOME: one does; NONE: there is no row
abbrev pub is_met : Require → Rows → Bool
is_met (needs.All source test) rows = list_all (λ row. truth (row ∷ []) test) rows
is_met (needs.Some source test) rows = list_any (λ row. truth (row ∷ []) test) rows
is_met (needs.None source) rows = are_none rows

-- whether each requirement holds of the rows of its relation
abbrev pub meets : Query → Tables → World → Bool
meets query tables world = list_all (λ need. is_met need (rows_in query tables world (source_of need))) query.requires_

-- each requirement holds of the rows of its relation
abbrev pub Meets : Query → Tables → World → Type 0
Meets query tables world = IsTrue (meets query tables world)

-- the sum of the goal's expression over the rows of its relation, and 0 for FIND
abbrev pub score_by : Aim → (Source → Rows) → ℤ
score_by aims.Find rows = pos 0
score_by (aims.Sum maximize source part) rows = total (map (λ row. number (value (row ∷ []) part)) (rows source))

-- the score of a world
unfoldable pub score : Query → Tables → World → ℤ
score query tables world = score_by query.aim (rows_in query tables world)

-- the score of a world that meets
unfoldable pub score_met : Query → Tables → World → Option ℤ
score_met query tables world = if meets query tables world then Some (score query tables world) else None

-- the greater score is better under MAXIMIZE, the lesser under MINIMIZE
abbrev pub better_by : Bool → ℤ → ℤ → Type 0
better_by true one other = other <ℤ one
better_by false one other = one <ℤ other

-- any world is as good as another where nothing is asked
abbrev pub Better : Aim → ℤ → ℤ → Type 0
Better aims.Find one other = ⊥
Better (aims.Sum maximize source part) one other = better_by maximize one other

-- the world is possible and meets, and no possible world that meets is better
abbrev pub IsBest : Query → Tables → World → Type 0
IsBest query tables world = best.IsBest (IsPossible query tables) (Meets query tables) (score query tables) (Better query.aim) world

-- no possible world meets
abbrev pub NoneMeets : Query → Tables → Type 0
NoneMeets query tables = best.NoneMeets (IsPossible query tables) (Meets query tables)

-- the choices of the rows of a table, from the row with this number on
unfoldable pub rows_choices : ℕ → QHypo → ℕ → Rows → List WorldColumn
rows_choices hypo table at [] = []
rows_choices hypo table at (row ∷ rows) = choices hypo table at row ++ rows_choices hypo table (at + 1) rows

-- and of the hypothetical tables, from the one with this number on
unfoldable pub all_choices : Tables → ℕ → List QHypo → List WorldColumn
all_choices tables hypo [] = []
all_choices tables hypo (table ∷ others) = rows_choices hypo table 0 (rows_of tables table.table) ++ all_choices tables (hypo + 1) others
