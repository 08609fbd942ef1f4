-- the sides of world columns are the ranges with which the walk makes their presences and cells
use Rattle.std.proofs.Common.{◌≡◌, refl, sym, subst, ap, ℕ, ◌+◌, ℤ, pos, Bool, true, false, cond, List, [], ◌∷◌, ◌++◌, map, All, Option, Some, None, arith}
use Rattle.std.specs.Prelude.{int_lt, Ok}
use Rattle.std.proofs.lemmas.Int.{ints}
use Rattle.std.proofs.lemmas.List.Elements.{All-nil, All-cons, All-append}
use Rattle.base_kit.specs.declared.value.Value.{Value}
use Rattle.tiql_query.specs.declared.relation.QBound.{QBound}
use Rattle.tiql_query.specs.declared.relation.QHypo.{QHypo}
use Rattle.tiql_query.specs.declared.query.Query.{Query}
use Rattle.tiql_query.specs.declared.world_column.WorldColumn.{WorldColumn}
use Rattle.world_def.specs.Columns.{Rows, Tables, rows_of, presence_column, columns_of}
use Rattle.world_def.specs.Meaning.{may_change, cell_choice, presence_choice, choices, rows_choices, all_choices}
use Rattle.world_def.proofs.Choices.{columns_told}
use Rattle.prov_fold.specs.Spans.{lesser, greater, truth_span}
use Rattle.whole_points.specs.Matched.{bounds_of}
use Rattle.sym_rows.specs.Hypos.{sides}
use Rattle.world_points.specs.Points.{least, greatest, side}

least_lesser : (m n : ℤ) → least m n ≡ lesser m n
least_lesser m n = by_tests (int_lt n m) (int_lt m n) refl refl
  where
    by_tests : (b c : Bool) → int_lt n m ≡ b → int_lt m n ≡ c → cond b n m ≡ cond c m n
    by_tests true true e f = let k : n ≡ m = grind (arith, ints) in k
    by_tests true false e f = refl
    by_tests false true e f = refl
    by_tests false false e f = let k : m ≡ n = grind (arith, ints) in k

-- the sides of a column, and the range of its cells
pub side_is : (c : WorldColumn) → side c ≡ bounds_of (sides c)
unfolding side
side_is c = by_test c.droppable
  where
    by_test : (b : Bool) → cond b (record { lo = least c.lo (pos 0); hi = greatest c.hi (pos 0) }) (record { lo = c.lo; hi = c.hi })
        ≡ bounds_of (cond b (record { lo = lesser c.lo (pos 0); hi = greater c.hi (pos 0) }) (record { lo = c.lo; hi = c.hi }))
    by_test true = ap (λ (m : ℤ). record { lo = m; hi = greatest c.hi (pos 0) }) (least_lesser c.lo (pos 0))
    by_test false = refl

-- a column of no cell is a presence: 0 or 1
pub IsSwitch : WorldColumn → Type 0
IsSwitch c = c.cell ≡ None → side c ≡ bounds_of truth_span

pub switch_sides : (c : WorldColumn) → IsSwitch c → c.cell ≡ None → side c ≡ bounds_of truth_span
unfolding IsSwitch
switch_sides c is none = is none

presence_switch : (hypo at : ℕ) → IsSwitch (presence_column hypo at)
unfolding IsSwitch side
presence_switch hypo at none = refl

cell_switch : (hypo : ℕ) (droppable : Bool) (at : ℕ) (row : List Value) (bound : QBound) → IsSwitch (cell_choice hypo droppable at row bound)
unfolding IsSwitch cell_choice
cell_switch hypo droppable at row bound none = absurd (let k : ◌≡◌ {A = Option ℕ} (Some bound.column) None = none in cc)

cells_switch : (hypo : ℕ) (droppable : Bool) (at : ℕ) (row : List Value) (set : List QBound) → All IsSwitch (map (cell_choice hypo droppable at row) set)
cells_switch hypo droppable at row [] = All-nil IsSwitch
cells_switch hypo droppable at row (bound ∷ set) = All-cons IsSwitch (cell_choice hypo droppable at row bound) (map (cell_choice hypo droppable at row) set) (cell_switch hypo droppable at row bound) (cells_switch hypo droppable at row set)

presences_switch : (hypo : ℕ) (droppable : Bool) (at : ℕ) → All IsSwitch (presence_choice hypo droppable at)
presences_switch hypo true at = All-cons IsSwitch (presence_column hypo at) [] (presence_switch hypo at) (All-nil IsSwitch)
presences_switch hypo false at = All-nil IsSwitch

row_switch : (hypo : ℕ) (table : QHypo) (at : ℕ) (row : List Value) → All IsSwitch (choices hypo table at row)
unfolding choices
row_switch hypo table at row = by_test (may_change table.filter row)
  where
    by_test : (b : Bool) → All IsSwitch (cond b (presence_choice hypo table.droppable at ++ map (cell_choice hypo table.droppable at row) table.set) [])
    by_test true = All-append IsSwitch (presence_choice hypo table.droppable at) (map (cell_choice hypo table.droppable at row) table.set) (presences_switch hypo table.droppable at) (cells_switch hypo table.droppable at row table.set)
    by_test false = All-nil IsSwitch

rows_switch : (hypo : ℕ) (table : QHypo) (at : ℕ) (rows : Rows) → All IsSwitch (rows_choices hypo table at rows)
unfolding rows_choices
rows_switch hypo table at [] = All-nil IsSwitch
rows_switch hypo table at (row ∷ rows) = All-append IsSwitch (choices hypo table at row) (rows_choices hypo table (at + 1) rows) (row_switch hypo table at row) (rows_switch hypo table (at + 1) rows)

tables_switch : (tables : Tables) (hypo : ℕ) (hypos : List QHypo) → All IsSwitch (all_choices tables hypo hypos)
unfolding all_choices
tables_switch tables hypo [] = All-nil IsSwitch
tables_switch tables hypo (table ∷ others) = All-append IsSwitch (rows_choices hypo table 0 (rows_of tables table.table)) (all_choices tables (hypo + 1) others) (rows_switch hypo table 0 (rows_of tables table.table)) (tables_switch tables (hypo + 1) others)

-- so are all world columns of a query
pub columns_switch : (query : Query) (tables : Tables) (columns : List WorldColumn) → columns_of query tables ≡ Ok columns → All IsSwitch columns
columns_switch query tables columns made = subst (All IsSwitch) (sym (columns_told query tables columns made)) (tables_switch tables 0 query.hypos)
