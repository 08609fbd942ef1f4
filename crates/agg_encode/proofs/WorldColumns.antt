-- the world columns of a query are as a program asks them to be
use Rattle.std.proofs.Common.{◌≡◌, ◌≤ℤ◌, ℕ, pos, ◌+◌, Bool, true, false, if◌then◌else◌, List, [], ◌∷◌, ◌++◌, map, All, refl, sym, subst, arith}
use Rattle.std.specs.Prelude.{is_none, Ok}
use Rattle.std.proofs.lemmas.Int.{ints}
use Rattle.std.proofs.lemmas.List.Elements.{All-nil, All-cons, All-append}
use Rattle.base_kit.specs.declared.value.Value.{Value}
use Rattle.tiql_query.specs.declared.relation.QBound.{QBound}
use Rattle.tiql_query.specs.declared.relation.QHypo.{QHypo}
use Rattle.tiql_query.specs.declared.query.Query.{Query}
use Rattle.tiql_query.specs.declared.world_column.WorldColumn.{WorldColumn}
use Rattle.world_def.specs.Columns.{Rows, Tables, rows_of, presence_column, columns_of}
use Rattle.world_def.specs.Meaning.{may_change, cell_choice, presence_choice, choices, rows_choices, all_choices}
use Rattle.world_def.proofs.Choices.{columns_told}
use Rattle.drop_rows.specs.Cells.{cell_rows}
use Rattle.drop_rows.specs.Told.{AreFormed}
use Rattle.drop_rows.proofs.Formed.{are_formed}
use Rattle.sym_rows.specs.Hypos.{HasSides}
use Rattle.sym_rows.proofs.FewColumns.{columns_few}
use Rattle.program_rows.specs.Worlds.{IsRanged, HavePresences, AreLed}

-- ---- the sides of a presence

-- those of a column of no cell lie within 0 .. 1
record IsPresence (c : WorldColumn) : Type 0 where
  above : is_none c.cell ≡ true → pos 0 ≤ℤ c.lo
  below : is_none c.cell ≡ true → c.hi ≤ℤ pos 1

presence_within : (hypo at : ℕ) → IsPresence (presence_column hypo at)
presence_within hypo at = record { above = λ e. omega (arith, ints); below = λ e. omega (arith, ints) }

cell_within : (hypo : ℕ) (droppable : Bool) (at : ℕ) (row : List Value) (bound : QBound) → IsPresence (cell_choice hypo droppable at row bound)
unfolding cell_choice
cell_within hypo droppable at row bound = record { above = λ e. absurd (let no : false ≡ true = e in cc); below = λ e. absurd (let no : false ≡ true = e in cc) }

cells_within : (hypo : ℕ) (droppable : Bool) (at : ℕ) (row : List Value) (set : List QBound) → All IsPresence (map (cell_choice hypo droppable at row) set)
cells_within hypo droppable at row [] = All-nil IsPresence
cells_within hypo droppable at row (bound ∷ set) = All-cons IsPresence (cell_choice hypo droppable at row bound) (map (cell_choice hypo droppable at row) set) (cell_within hypo droppable at row bound) (cells_within hypo droppable at row set)

presences_within : (hypo : ℕ) (droppable : Bool) (at : ℕ) → All IsPresence (presence_choice hypo droppable at)
presences_within hypo true at = All-cons IsPresence (presence_column hypo at) [] (presence_within hypo at) (All-nil IsPresence)
presences_within hypo false at = All-nil IsPresence

row_within : (hypo : ℕ) (table : QHypo) (at : ℕ) (row : List Value) → All IsPresence (choices hypo table at row)
unfolding choices
row_within hypo table at row = by_test (may_change table.filter row)
  where
    by_test : (b : Bool) → All IsPresence (if b then presence_choice hypo table.droppable at ++ map (cell_choice hypo table.droppable at row) table.set else [])
    by_test true = All-append IsPresence (presence_choice hypo table.droppable at) (map (cell_choice hypo table.droppable at row) table.set) (presences_within hypo table.droppable at) (cells_within hypo table.droppable at row table.set)
    by_test false = All-nil IsPresence

rows_within : (hypo : ℕ) (table : QHypo) (at : ℕ) (rows : Rows) → All IsPresence (rows_choices hypo table at rows)
unfolding rows_choices
rows_within hypo table at [] = All-nil IsPresence
rows_within hypo table at (row ∷ rows) = All-append IsPresence (choices hypo table at row) (rows_choices hypo table (at + 1) rows) (row_within hypo table at row) (rows_within hypo table (at + 1) rows)

tables_within : (tables : Tables) (hypo : ℕ) (hypos : List QHypo) → All IsPresence (all_choices tables hypo hypos)
unfolding all_choices
tables_within tables hypo [] = All-nil IsPresence
tables_within tables hypo (table ∷ others) = All-append IsPresence (rows_choices hypo table 0 (rows_of tables table.table)) (all_choices tables (hypo + 1) others) (rows_within hypo table 0 (rows_of tables table.table)) (tables_within tables (hypo + 1) others)

ranged : (columns : List WorldColumn) → All HasSides columns → All IsPresence columns → All IsRanged columns
ranged columns sides within = λ k d lt. record {
  small_lo = (sides k d lt).lo;
  small_hi = (sides k d lt).hi;
  order = (sides k d lt).order;
  above = (within k d lt).above;
  below = (within k d lt).below;
}

-- the bounds of the world columns of a query
pub columns_ranged : (query : Query) (tables : Tables) (columns : List WorldColumn) → columns_of query tables ≡ Ok columns → All IsRanged columns
columns_ranged query tables columns made = ranged columns (columns_few query tables columns made).sides (subst (All IsPresence) (sym (columns_told query tables columns made)) (tables_within tables 0 query.hypos))

-- ---- a presence before the cells that may be dropped

led_join : (columns more : List WorldColumn) (some : Bool) → HavePresences some columns → ((b : Bool) → HavePresences b more) → HavePresences some (columns ++ more)
led_join [] more some led later = later some
led_join (c ∷ columns) more some led later = (led.0, led_join columns more (if is_none c.cell then true else some) led.1 later)

led_cells : (hypo : ℕ) (droppable : Bool) (at : ℕ) (row : List Value) (set : List QBound) (some : Bool) → (droppable ≡ true → some ≡ true) → HavePresences some (map (cell_choice hypo droppable at row) set)
unfolding cell_choice
led_cells hypo droppable at row [] some before = tt
led_cells hypo droppable at row (bound ∷ set) some before = (before, led_cells hypo droppable at row set some before)

led_row : (hypo : ℕ) (table : QHypo) (at : ℕ) (row : List Value) (some : Bool) → HavePresences some (choices hypo table at row)
unfolding choices
led_row hypo table at row some = by_test (may_change table.filter row) table.droppable
  where
    by_test : (b d : Bool) → HavePresences some (if b then presence_choice hypo d at ++ map (cell_choice hypo d at row) table.set else [])
    by_test false d = tt
    by_test true false = led_cells hypo false at row table.set some (λ may. absurd (let no : false ≡ true = may in cc))
    by_test true true = ((λ may. absurd (let no : false ≡ true = may in cc)), led_cells hypo true at row table.set true (λ may. refl))

led_rows : (hypo : ℕ) (table : QHypo) (at : ℕ) (rows : Rows) (some : Bool) → HavePresences some (rows_choices hypo table at rows)
unfolding rows_choices
led_rows hypo table at [] some = tt
led_rows hypo table at (row ∷ rows) some = led_join (choices hypo table at row) (rows_choices hypo table (at + 1) rows) some (led_row hypo table at row some) (led_rows hypo table (at + 1) rows)

led_tables : (tables : Tables) (hypo : ℕ) (hypos : List QHypo) (some : Bool) → HavePresences some (all_choices tables hypo hypos)
unfolding all_choices
led_tables tables hypo [] some = tt
led_tables tables hypo (table ∷ others) some =
    led_join (rows_choices hypo table 0 (rows_of tables table.table)) (all_choices tables (hypo + 1) others) some (led_rows hypo table 0 (rows_of tables table.table) some) (led_tables tables (hypo + 1) others)

formed : (query : Query) (tables : Tables) (columns : List WorldColumn) → columns_of query tables ≡ Ok columns → AreFormed columns (cell_rows columns) → AreLed columns
unfolding AreFormed
formed query tables columns made are = record {
  presences = subst (HavePresences false) (sym (columns_told query tables columns made)) (led_tables tables 0 query.hypos false);
  formed = are query tables made;
}

-- the terms of the rows of a query's cells rise
pub columns_led : (query : Query) (tables : Tables) (columns : List WorldColumn) → columns_of query tables ≡ Ok columns → AreLed columns
columns_led query tables columns made = formed query tables columns made (are_formed columns (cell_rows columns) refl)
