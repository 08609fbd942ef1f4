-- the possible rows of tables and of hypothetical tables have a cell for each column, and each cell fits its column
use Rattle.std.proofs.Common.{◌≡◌, ◌∙◌, sym, ap, subst, refl, ℕ, zero, suc, ◌+◌, ◌<◌, ◌==◌, ◌||◌, Bool, true, false, List, [], ◌∷◌, ◌++◌, map, drop, take, All, arith, append_assoc, Option, Some, None, if◌then◌else◌}
use Rattle.std.specs.Prelude.{slice_get, unwrap_or, option_map, not, Ok, IsTrue}
use Rattle.std.specs.List.{list_any, AllZip}
use Rattle.std.proofs.lemmas.Bool.{false≢true}
use Rattle.std.proofs.lemmas.List.Elements.{All-head, All-tail, All-cons, All-nil}
use Rattle.base_kit.specs.declared.value.Value.{Value}
use Rattle.base_kit.specs.declared.value.Value.TheVariants.{Int, Text}
use Rattle.tiql_query.specs.declared.relation.Column.{Column}
use Rattle.tiql_query.specs.declared.relation.QBound.{QBound}
use Rattle.tiql_query.specs.declared.relation.QHypo.{QHypo}
use Rattle.tiql_query.specs.declared.relation.QTable.{QTable}
use Rattle.tiql_query.specs.declared.query.Query.{Query}
use Rattle.tiql_query.specs.declared.world_column.WorldColumn.{WorldColumn}
use Rattle.tiql_query.specs.Kinds.{kind_at, is_number}
use Rattle.tiql_query.specs.Rows.{IsOfColumn, AreRowsOf, AreTables}
use Rattle.tiql_query.specs.WellFormed.{with_set, IsBoundFit, IsHypoFit, IsTableFit}
use Rattle.row_values.specs.Values.{number as number_of}
use Rattle.row_values.proofs.Agreed.{and_then-Ok, same_answer}
use Rattle.world_def.specs.Columns.{Rows, Tables, rows_of, columns_of}
use Rattle.world_def.specs.Worlds.{leading, of_hypo, of_row, is_cell}
use Rattle.world_def.specs.Meaning.{cell_choice, presence_choice, choices, rows_choices, all_choices, may_change}
use Rattle.world_def.proofs.Choices.{columns_told}
use Rattle.world_def.proofs.Restored.{equal_of}
use Rattle.world_def.proofs.Runs.{of_hypo_all}
use Rattle.world_def.proofs.Runs as runs
use Rattle.prov_fold.specs.Graphs.{Graph}
use Rattle.prov_fold.specs.Rules as rule
use Rattle.sym_rows.specs.declared.row.Cell.{Cell}
use Rattle.sym_rows.specs.declared.row.Cell.TheVariants as cells
use Rattle.sym_rows.specs.declared.row.SymRow.{SymRow}
use Rattle.sym_rows.specs.Cells.{sure_row}
use Rattle.sym_rows.specs.Walks.{Walk, Walked, gives, ◌>>=◌, each, by_rule}
use Rattle.sym_rows.specs.Hypos.{sides, presence, column_of, is_unknown_in, as_cell, cell_by, cells_of, row_of, rows_from, start_of, columns_in, table_of, hypo_rows}
use Rattle.sym_values.specs.Meanings.{IsCellFit, IsRowFit}

-- ---- tables

sure_cells : (columns : List Column) (row : List Value) → AllZip IsOfColumn columns row → All (λ (column : Column). column.unknown ≡ false) columns → AllZip IsCellFit columns (map (λ (value : Value). cells.Fixed value) row)
sure_cells [] [] typed fixed = tt
sure_cells [] (value ∷ row) typed fixed = absurd typed
sure_cells (column ∷ columns) [] typed fixed = absurd typed
sure_cells (column ∷ columns) (Int n ∷ row) typed fixed =
    ((All-head (λ (c : Column). c.unknown ≡ false) column columns fixed, typed.0.0), sure_cells columns row typed.1 (All-tail (λ (c : Column). c.unknown ≡ false) column columns fixed))
sure_cells (column ∷ columns) (Text t ∷ row) typed fixed =
    ((All-head (λ (c : Column). c.unknown ≡ false) column columns fixed, typed.0.0), sure_cells columns row typed.1 (All-tail (λ (c : Column). c.unknown ≡ false) column columns fixed))

-- the rows of a table fit its columns
pub sure_fit : (table : QTable) (rows : Rows) → All (λ row. AllZip IsOfColumn table.columns row) rows → IsTableFit table → All (IsRowFit table.columns) (map sure_row rows)
sure_fit table [] typed fit = All-nil (IsRowFit table.columns)
sure_fit table (row ∷ rows) typed fit =
    All-cons (IsRowFit table.columns) (sure_row row) (map sure_row rows) (sure_cells table.columns row (All-head (λ row. AllZip IsOfColumn table.columns row) row rows typed) fit.fixed)
    (sure_fit table rows (All-tail (λ row. AllZip IsOfColumn table.columns row) row rows typed) fit)

-- ---- the world columns of a hypothetical table

-- the cell of a world column is one of a set column
abbrev IsSetIn : List QBound → WorldColumn → Type 0
IsSetIn set column = (place : ℕ) → is_cell place column.cell ≡ true → list_any (λ bound. bound.column == place) set ≡ true

-- likewise, where the world column is of this hypothetical table
abbrev IsSetOf : ℕ → List QBound → WorldColumn → Type 0
IsSetOf hypo set column = of_hypo hypo column ≡ true → IsSetIn set column

abbrev Every : (WorldColumn → Type 0) → List WorldColumn → Type 0
Every P [] = Unit {0}
Every P (x ∷ xs) = P x × Every P xs

every_append : (P : WorldColumn → Type 0) (xs ys : List WorldColumn) → Every P xs → Every P ys → Every P (xs ++ ys)
every_append P [] ys one other = other
every_append P (x ∷ xs) ys one other = (one.0, every_append P xs ys one.1 other)

every_drop : (P : WorldColumn → Type 0) (n : ℕ) (xs : List WorldColumn) → Every P xs → Every P (drop n xs)
every_drop P zero xs all = all
every_drop P (suc n) [] all = tt
every_drop P (suc n) (x ∷ xs) all = every_drop P n xs all.1

every_take : (P : WorldColumn → Type 0) (n : ℕ) (xs : List WorldColumn) → Every P xs → Every P (take n xs)
every_take P zero xs all = tt
every_take P (suc n) [] all = tt
every_take P (suc n) (x ∷ xs) all = (all.0, every_take P n xs all.1)

any_mid : (test : QBound → Bool) (before after : List QBound) (bound : QBound) → test bound ≡ true → list_any test (before ++ bound ∷ after) ≡ true
any_mid test [] after bound so = rw so refl
any_mid test (one ∷ before) after bound so = by_head (test one) (any_mid test before after bound so)
  where
    by_head : (b : Bool) → list_any test (before ++ bound ∷ after) ≡ true → (b || list_any test (before ++ bound ∷ after)) ≡ true
    by_head true k = refl
    by_head false k = k

module _ (hypo : ℕ) (table : QHypo) (at : ℕ) (row : List Value) where
  cells_set : (before set : List QBound) → Every (IsSetIn (before ++ set)) (map (cell_choice hypo table.droppable at row) set)
  unfolding cell_choice
  cells_set before [] = tt
  cells_set before (bound ∷ set) = (
    (λ place same. any_mid (λ (b : QBound). b.column == place) before set bound same),
    subst (λ (l : List QBound). Every (IsSetIn l) (map (cell_choice hypo table.droppable at row) set)) (append_assoc before (bound ∷ []) set) (cells_set (before ++ bound ∷ []) set),
  )

  presence_set : (set : List QBound) (droppable : Bool) → Every (IsSetIn set) (presence_choice hypo droppable at)
  presence_set set true = ((λ place same. absurd (false≢true same)), tt)
  presence_set set false = tt

  choices_set : Every (IsSetIn table.set) (choices hypo table at row)
  unfolding choices
  choices_set = by_change (may_change table.filter row)
    where
      by_change : (b : Bool) → Every (IsSetIn table.set) (if b then presence_choice hypo table.droppable at ++ map (cell_choice hypo table.droppable at row) table.set else [])
      by_change true = every_append (IsSetIn table.set) (presence_choice hypo table.droppable at) (map (cell_choice hypo table.droppable at row) table.set) (presence_set table.set table.droppable) (cells_set [] table.set)
      by_change false = tt

every_so : (P Q : WorldColumn → Type 0) (xs : List WorldColumn) → ((x : WorldColumn) → P x → Q x) → Every P xs → Every Q xs
every_so P Q [] so all = tt
every_so P Q (x ∷ xs) so all = (so x all.0, every_so P Q xs so all.1)

-- of the hypothetical table itself
rows_set : (hypo : ℕ) (table : QHypo) (at : ℕ) (rows : Rows) → Every (IsSetOf hypo table.set) (rows_choices hypo table at rows)
unfolding rows_choices
rows_set hypo table at [] = tt
rows_set hypo table at (row ∷ rows) =
    every_append (IsSetOf hypo table.set) (choices hypo table at row) (rows_choices hypo table (at + 1) rows)
    (every_so (IsSetIn table.set) (IsSetOf hypo table.set) (choices hypo table at row) (λ x so mine. so) (choices_set hypo table at row))
    (rows_set hypo table (at + 1) rows)

-- of another one nothing is asked
not_mine : (xs : List WorldColumn) (hypo : ℕ) (set : List QBound) → runs.Each (λ c. of_hypo hypo c ≡ false) xs → Every (IsSetOf hypo set) xs
not_mine [] hypo set other = tt
not_mine (x ∷ xs) hypo set other = ((λ mine. absurd (false≢true (sym other.0 ∙ mine))), not_mine xs hypo set other.1)

other_number : (a b : ℕ) → (a ≡ b → ⊥) → (a == b) ≡ false
other_number a b differ = by_test (a == b) refl
  where
    by_test : (t : Bool) → (a == b) ≡ t → (a == b) ≡ false
    by_test true e = absurd (differ (equal_of a b e))
    by_test false e = e

same_hypo : (one other : QHypo) → ◌≡◌ {A = Option QHypo} (Some one) (Some other) → one ≡ other
same_hypo one other e = cc

later_set : (tables : Tables) (hypos : List QHypo) (h hypo : ℕ) (set : List QBound) → hypo < h → Every (IsSetOf hypo set) (all_choices tables h hypos)
unfolding all_choices
later_set tables [] h hypo set lt = tt
later_set tables (first ∷ others) h hypo set lt =
    every_append (IsSetOf hypo set) (rows_choices h first 0 (rows_of tables first.table)) (all_choices tables (h + 1) others)
    (not_mine (rows_choices h first 0 (rows_of tables first.table)) hypo set (of_hypo_all h first hypo false (other_number h hypo (λ e. omega (arith, lt, e))) (rows_of tables first.table) 0))
    (later_set tables others (h + 1) hypo set (omega (arith, lt)))

all_set : (tables : Tables) (hypos : List QHypo) (h k hypo : ℕ) (table : QHypo) → hypo ≡ h + k → slice_get hypos k ≡ Some table → Every (IsSetOf hypo table.set) (all_choices tables h hypos)
unfolding all_choices
all_set tables [] h k hypo table at is = tt
all_set tables (first ∷ others) h zero hypo table at is =
    let same : h ≡ hypo = omega (arith, at) in
    let mine : first ≡ table = same_hypo first table is in
    every_append (IsSetOf hypo table.set) (rows_choices h first 0 (rows_of tables first.table)) (all_choices tables (h + 1) others)
    (subst (λ (n : ℕ). Every (IsSetOf n table.set) (rows_choices h first 0 (rows_of tables first.table))) same
    (subst (λ (t : QHypo). Every (IsSetOf h t.set) (rows_choices h first 0 (rows_of tables first.table))) mine (rows_set h first 0 (rows_of tables first.table))))
    (later_set tables others (h + 1) hypo table.set (omega (arith, at)))
all_set tables (first ∷ others) h (suc k) hypo table at is =
    every_append (IsSetOf hypo table.set) (rows_choices h first 0 (rows_of tables first.table)) (all_choices tables (h + 1) others)
    (not_mine (rows_choices h first 0 (rows_of tables first.table)) hypo table.set (of_hypo_all h first hypo false (other_number h hypo (λ e. omega (arith, at, e))) (rows_of tables first.table) 0))
    (all_set tables others (h + 1) k hypo table (omega (arith, at)) is)

-- all that are of it, and among all
mine_run : (hypo : ℕ) (set : List QBound) (xs : List WorldColumn) → Every (IsSetOf hypo set) xs → Every (IsSetIn set) (take (leading (of_hypo hypo) xs) xs)
unfolding leading
mine_run hypo set [] all = tt
mine_run hypo set (x ∷ xs) all = by_head (mine_run hypo set xs all.1) (of_hypo hypo x) refl
  where
    by_head : Every (IsSetIn set) (take (leading (of_hypo hypo) xs) xs) → (b : Bool) → of_hypo hypo x ≡ b → Every (IsSetIn set) (take (if b then 1 + leading (of_hypo hypo) xs else 0) (x ∷ xs))
    by_head later true e = subst (λ (n : ℕ). Every (IsSetIn set) (take n (x ∷ xs))) (let k : suc (leading (of_hypo hypo) xs) ≡ 1 + leading (of_hypo hypo) xs = omega arith in k) (all.0 e, later)
    by_head later false e = tt

columns_set : (query : Query) (tables : Tables) (columns : List WorldColumn) (hypo : ℕ) (table : QHypo) → columns_of query tables ≡ Ok columns → slice_get query.hypos hypo ≡ Some table → Every (IsSetIn table.set) (columns_in hypo columns)
columns_set query tables columns hypo table told is =
    mine_run hypo table.set (drop (start_of hypo columns) columns)
    (every_drop (IsSetOf hypo table.set) (start_of hypo columns) columns
    (subst (λ (l : List WorldColumn). Every (IsSetOf hypo table.set) l) (sym (columns_told query tables columns told)) (all_set tables query.hypos 0 hypo hypo table (omega arith) is)))

-- ---- rows of hypothetical tables

-- where a cell has a world column its column is set
abbrev IsSetFound : List QBound → ℕ → Option (ℕ × WorldColumn) → Type 0
IsSetFound set place None = Unit {0}
IsSetFound set place (Some found) = list_any (λ bound. bound.column == place) set ≡ true

found_set : (set : List QBound) (place first : ℕ) (chosen : List WorldColumn) → Every (IsSetIn set) chosen → IsSetFound set place (column_of place first chosen)
unfolding column_of
found_set set place first [] all = tt
found_set set place first (column ∷ columns) all = by_cell (found_set set place (first + 1) columns all.1) (is_cell place column.cell) refl
  where
    by_cell : IsSetFound set place (column_of place (first + 1) columns) → (b : Bool) → is_cell place column.cell ≡ b → IsSetFound set place (if b then Some (first, column) else column_of place (first + 1) columns)
    by_cell later true e = all.0 place e
    by_cell later false e = later

-- what two walks give that come to the same
same_given : {A : Type 0} (one other : A) (g after : Graph) → ◌≡◌ {A = Walked A} (Ok (one, g)) (Ok (other, after)) → one ≡ other
same_given {A} one other g after e = ap (λ (made : A × Graph). made.0) (same_answer (one, g) (other, after) e)

-- what a cell is made of fits its column
cell_fit : (column : Column) (set : List QBound) (place : ℕ) (unknown : Bool) (value : Value) (found : Option (ℕ × WorldColumn)) (g after : Graph) (cell : Cell)
    → unknown ≡ list_any (λ bound. bound.column == place) set → IsOfColumn column value → (list_any (λ bound. bound.column == place) set ≡ true → column.text ≡ false) → IsSetFound set place found
    → cell_by unknown value found g ≡ Ok (cell, after) → IsCellFit (record column { unknown = list_any (λ bound. bound.column == place) set }) cell
cell_fit column set place unknown value (Some found) g after cell marked typed number so e =
    let one = and_then-Ok (by_rule (rule.cell found.0 (sides found.1)) g) (λ made. as_cell made.0 made.1) (cell, after) e in
    subst (IsCellFit (record column { unknown = list_any (λ bound. bound.column == place) set })) (same_given (cells.Number one.0.0) cell one.0.1 after one.2) (so, number so)
cell_fit column set place true value None g after cell marked typed number so e =
    let one = and_then-Ok (by_rule (rule.constant (number_of value)) g) (λ made. as_cell made.0 made.1) (cell, after) e in
    subst (IsCellFit (record column { unknown = list_any (λ bound. bound.column == place) set })) (same_given (cells.Number one.0.0) cell one.0.1 after one.2) (sym marked, number (sym marked))
cell_fit column set place false (Int n) None g after cell marked typed number so e =
    subst (IsCellFit (record column { unknown = list_any (λ bound. bound.column == place) set })) (same_given (cells.Fixed (Int n)) cell g after e) (sym marked, typed.0)
cell_fit column set place false (Text t) None g after cell marked typed number so e =
    subst (IsCellFit (record column { unknown = list_any (λ bound. bound.column == place) set })) (same_given (cells.Fixed (Text t)) cell g after e) (sym marked, typed.0)

module _ (all : List Column) (set : List QBound) (first : ℕ) (chosen : List WorldColumn) (are_set : Every (IsSetIn set) chosen) where
  made_by : ℕ → Value → Walk Cell
  made_by place value g = cell_by (is_unknown_in all place) value (column_of place first chosen) g

  cells_fit : (n : ℕ) (columns : List Column) (values : List Value) (g after : Graph) (made : List Cell)
      → ((k : ℕ) (column : Column) → slice_get columns k ≡ Some column → list_any (λ bound. bound.column == n + k) set ≡ true → column.text ≡ false)
      → ((k : ℕ) → is_unknown_in all (n + k) ≡ is_unknown_in (with_set set n columns) k) → AllZip IsOfColumn columns values
      → each made_by n values g ≡ Ok (made, after) → AllZip IsCellFit (with_set set n columns) made
  unfolding with_set each column_of made_by
  cells_fit n [] [] g after made numbers marks typed e = subst (λ (l : List Cell). AllZip IsCellFit [] l) (same_given [] made g after e) tt
  cells_fit n [] (value ∷ values) g after made numbers marks typed e = absurd typed
  cells_fit n (column ∷ columns) [] g after made numbers marks typed e = absurd typed
  cells_fit n (column ∷ columns) (value ∷ values) g after made numbers marks typed e =
      let one = and_then-Ok (made_by n value g) (λ m. each made_by (n + 1) values m.1 >>= λ more g. gives (m.0 ∷ more) g) (made, after) e in
      let two = and_then-Ok (each made_by (n + 1) values one.0.1) (λ more. gives (one.0.0 ∷ more.0) more.1) (made, after) one.2 in
      subst (λ (l : List Cell). AllZip IsCellFit (record column { unknown = list_any (λ (bound : QBound). bound.column == n) set } ∷ with_set set (n + 1) columns) l) (same_given (one.0.0 ∷ two.0.0) made two.0.1 after two.2) (
        (cell_fit column set n (is_unknown_in all n) value (column_of n first chosen) g one.0.1 one.0.0
            (ap (is_unknown_in all) (let k : n ≡ n + 0 = omega arith in k) ∙ marks 0) typed.0
            (λ so. numbers 0 column refl (ap (λ (m : ℕ). list_any (λ bound. bound.column == m) set) (let k : n + 0 ≡ n = omega arith in k) ∙ so))
            (found_set set n first chosen are_set) one.1),
        cells_fit (n + 1) columns values one.0.1 two.0.1 two.0.0
            (λ k c is so. numbers (suc k) c is (ap (λ (m : ℕ). list_any (λ bound. bound.column == m) set) (let j : n + suc k ≡ n + 1 + k = omega arith in j) ∙ so))
            (λ k. ap (is_unknown_in all) (let j : n + 1 + k ≡ n + suc k = omega arith in j) ∙ marks (suc k)) typed.1 two.1,
      )

  row_fit : (columns : List Column) (base : List Value) (g after : Graph) (row : SymRow)
      → ((k : ℕ) (column : Column) → slice_get columns k ≡ Some column → list_any (λ bound. bound.column == k) set ≡ true → column.text ≡ false)
      → all ≡ with_set set 0 columns → AllZip IsOfColumn columns base → row_of all first chosen base g ≡ Ok (row, after) → IsRowFit all row
  unfolding row_of cells_of made_by
  row_fit columns base g after row numbers is typed e =
      let one = and_then-Ok (presence first chosen g) (λ there. cells_of all first chosen base there.1 >>= λ made g. gives (record { presence = there.0; cells = made }) g) (row, after) e in
      let two = and_then-Ok (cells_of all first chosen base one.0.1) (λ made. gives (record { presence = one.0.0; cells = made.0 }) made.1) (row, after) one.2 in
      subst (IsRowFit all) (same_given (record { presence = one.0.0; cells = two.0.0 }) row two.0.1 after two.2)
      (subst (λ (l : List Column). AllZip IsCellFit l two.0.0) (sym is)
      (cells_fit 0 columns base one.0.1 two.0.1 two.0.0
      (λ k c at so. numbers k c at (ap (λ (m : ℕ). list_any (λ bound. bound.column == m) set) (let j : k ≡ 0 + k = omega arith in j) ∙ so))
      (λ k. ap (λ (l : List Column). is_unknown_in l (0 + k)) is ∙ ap (is_unknown_in (with_set set 0 columns)) (let j : 0 + k ≡ k = omega arith in j)) typed two.1))

rows_fit : (all : List Column) (set : List QBound) (columns : List Column) (bases : Rows) (at first : ℕ) (chosen : List WorldColumn) (g after : Graph) (made : List SymRow) → Every (IsSetIn set) chosen
    → ((k : ℕ) (column : Column) → slice_get columns k ≡ Some column → list_any (λ bound. bound.column == k) set ≡ true → column.text ≡ false)
    → all ≡ with_set set 0 columns → All (λ row. AllZip IsOfColumn columns row) bases → rows_from all at first bases chosen g ≡ Ok (made, after) → All (IsRowFit all) made
unfolding rows_from
rows_fit all set columns [] at first chosen g after made are_set numbers is typed e = subst (λ (l : List SymRow). All (IsRowFit all) l) (same_given [] made g after e) (All-nil (IsRowFit all))
rows_fit all set columns (base ∷ bases) at first chosen g after made are_set numbers is typed e =
    let one = and_then-Ok (row_of all first (take (leading (of_row at) chosen) chosen) base g) (λ m. rows_from all (at + 1) (first + leading (of_row at) chosen) bases (drop (leading (of_row at) chosen) chosen) m.1 >>= λ more g. gives (m.0 ∷ more) g) (made, after) e in
    let two = and_then-Ok (rows_from all (at + 1) (first + leading (of_row at) chosen) bases (drop (leading (of_row at) chosen) chosen) one.0.1) (λ more. gives (one.0.0 ∷ more.0) more.1) (made, after) one.2 in
    subst (λ (l : List SymRow). All (IsRowFit all) l) (same_given (one.0.0 ∷ two.0.0) made two.0.1 after two.2)
    (All-cons (IsRowFit all) one.0.0 two.0.0
    (row_fit all set first (take (leading (of_row at) chosen) chosen) (every_take (IsSetIn set) (leading (of_row at) chosen) chosen are_set) columns base g one.0.1 one.0.0 numbers is (All-head (λ row. AllZip IsOfColumn columns row) base bases typed) one.1)
    (rows_fit all set columns bases (at + 1) (first + leading (of_row at) chosen) (drop (leading (of_row at) chosen) chosen) one.0.1 two.0.1 two.0.0 (every_drop (IsSetIn set) (leading (of_row at) chosen) chosen are_set) numbers is
    (All-tail (λ row. AllZip IsOfColumn columns row) base bases typed) two.1))

-- ---- set columns are numbers

pub set_number : (columns : List Column) (set : List QBound) (k : ℕ) (column : Column) → All (IsBoundFit columns) set → slice_get columns k ≡ Some column → list_any (λ bound. bound.column == k) set ≡ true → column.text ≡ false
unfolding kind_at
set_number columns [] k column fit at e = absurd (false≢true e)
set_number columns (bound ∷ set) k column fit at e = by_test (set_number columns set k column (All-tail (IsBoundFit columns) bound set fit) at) (bound.column == k) refl e
  where
    by_kind : (o : Option Column) → o ≡ Some column → IsTrue (is_number (option_map (λ c. record { text = c.text; unknown = c.unknown }) o)) → column.text ≡ false
    by_kind None s h = absurd (let none : ◌≡◌ {A = Option Column} None (Some column) = s in cc)
    by_kind (Some c) s h = by_text c.text refl h (ap (λ (o : Option Column). text_in o) s)
      where
        text_in : Option Column → Bool
        text_in None = false
        text_in (Some c) = c.text

        by_text : (b : Bool) → c.text ≡ b → not b ≡ true → c.text ≡ column.text → column.text ≡ false
        by_text true e h s = absurd (false≢true h)
        by_text false e h s = sym s ∙ e

    by_test : (list_any (λ bound. bound.column == k) set ≡ true → column.text ≡ false) → (b : Bool) → (bound.column == k) ≡ b → (b || list_any (λ bound. bound.column == k) set) ≡ true → column.text ≡ false
    by_test later true t so = by_kind (slice_get columns k) at (subst (λ (n : ℕ). IsTrue (is_number (kind_at (columns ∷ []) (record { source = 0; column = n })))) (equal_of bound.column k t) (All-head (IsBoundFit columns) bound set fit).column)
    by_test later false t so = later so

zip_at : {X Y : Type 0} (P : X → Y → Type 0) (xs : List X) (ys : List Y) (n : ℕ) (x : X) (d : Y) → AllZip P xs ys → slice_get xs n ≡ Some x → P x (unwrap_or (slice_get ys n) d)
zip_at {X} {Y} P [] ys n x d all is = absurd (let none : ◌≡◌ {A = Option X} None (Some x) = is in cc)
zip_at P (a ∷ xs) [] n x d all is = absurd all
zip_at {X} {Y} P (a ∷ xs) (b ∷ ys) zero x d all is = subst (λ (z : X). P z b) (let k : ◌≡◌ {A = Option X} (Some a) (Some x) = is in cc) all.0
zip_at P (a ∷ xs) (b ∷ ys) (suc n) x d all is = zip_at P xs ys n x d all.1 is

-- the possible rows of a hypothetical table fit its columns
pub hypo_fit : (query : Query) (tables : Tables) (columns : List WorldColumn) (hypo : ℕ) (table : QHypo) (g after : Graph) (made : List SymRow) → IsHypoFit query table → AreTables query tables → columns_of query tables ≡ Ok columns
    → slice_get query.hypos hypo ≡ Some table → hypo_rows query tables columns hypo g ≡ Ok (made, after) → All (IsRowFit table.columns) made
unfolding hypo_rows rows_of
hypo_fit query tables columns hypo table g after made fit are told is e =
    let rows = zip_at AreRowsOf query.tables tables table.table fit.table [] are fit.there in
    rows_fit table.columns table.set fit.table.columns (unwrap_or (slice_get tables table.table) []) 0 (start_of hypo columns) (columns_in hypo columns) g after made (columns_set query tables columns hypo table told is)
    (λ k column at so. set_number fit.table.columns table.set k column fit.bounds at so) fit.columns rows.each
    (ap (λ (o : Option QHypo). table_of tables columns hypo o g) (sym is) ∙ e)
