-- the numbers of a possible world are tied to the presences
use Rattle.std.proofs.Common.{◌≡◌, ℕ, suc, ℤ, pos, ◌≤ℤ◌, ◌*ℤ◌, ◌+◌, ◌<◌, ◌==◌, Bool, true, false, List, [], ◌∷◌, ◌++◌, length, map, take, drop, get_or, refl, sym, ◌∙◌, subst, arith, Option, Some, None, if◌then◌else◌}
use Rattle.std.specs.Prelude.{◌||◌, slice_get, int_le, All}
use Rattle.std.specs.List.{list_any}
use Rattle.std.proofs.Math.Seq.{take-append_seam, drop-append_seam}
use Rattle.std.proofs.lemmas.List.{length-map}
use Rattle.std.proofs.lemmas.Option.{unwrap_or-slice_get}
use Rattle.std.proofs.lemmas.Bool.{and_parts}
use Rattle.base_kit.specs.declared.value.Value.{Value}
use Rattle.base_kit.specs.declared.value.Value.TheVariants.{Int, Text}
use Rattle.tiql_query.specs.WellFormed.{are_once}
use Rattle.tiql_query.specs.declared.relation.QBound.{QBound}
use Rattle.tiql_query.specs.declared.relation.QHypo.{QHypo}
use Rattle.tiql_query.specs.declared.query.Query.{Query}
use Rattle.tiql_query.specs.declared.world_column.WorldColumn.{WorldColumn}
use Rattle.world_def.specs.declared.world.World.{World}
use Rattle.world_def.specs.declared.world.WorldTable.{WorldTable}
use Rattle.row_values.specs.Values.{number}
use Rattle.world_def.specs.Columns.{Rows, Tables, rows_of, presence_column}
use Rattle.world_def.specs.Worlds.{leading, of_hypo, standing, count_of, column_at, is_between, fits_cell, row_fits, row_possible, number_in, rows_numbers, table_numbers, world_numbers}
use Rattle.world_def.specs.Meaning.{may_change, cell_choice, presence_choice, choices, rows_choices, all_choices, rows_can, table_can, tables_can, IsPossible}
use Rattle.world_def.proofs.Restored.{equal_of, zero_value, fits_at, numbers_there, numbers_length}
use Rattle.world_def.proofs.Runs.{hypo_run}
use Rattle.world_def.proofs.Walks.{same_number}
use Rattle.world_points.proofs.Within.{HasCells}
use Rattle.drop_rows.proofs.OneRow.{low_zero, high_zero, one_between, le_of, once_none, once_rest}
use Rattle.drop_rows.proofs.Ties.{IsTied, AreTied, tied_join}

or_first : (a b : Bool) → a ≡ true → (a || b) ≡ true
or_first a b e = rw e refl

or_second : (a b : Bool) → b ≡ true → (a || b) ≡ true
or_second true b e = refl
or_second false b e = e

-- a column that is set stands in the row
set_within : (set : List QBound) (size p : ℕ) → All (λ bound. bound.column < size) set → list_any (λ other. other.column == p) set ≡ true → p < size
set_within [] size p there e = absurd (let no : false ≡ true = e in cc)
set_within (bound ∷ set) size p there e = by_test (set_within set size p (λ k d lt. there (suc k) d (omega (arith, lt)))) (bound.column == p) refl e
  where
    by_test : (list_any (λ other. other.column == p) set ≡ true → p < size) → (b : Bool) → (bound.column == p) ≡ b → (b || list_any (λ other. other.column == p) set) ≡ true → p < size
    by_test later true t h = subst (λ (k : ℕ). k < size) (equal_of bound.column p t) (there 0 bound (omega arith))
    by_test later false t h = later h

module _ (hypo : ℕ) (droppable : Bool) (at : ℕ) (base : List Value) where
  cell : QBound → WorldColumn
  cell bound = cell_choice hypo droppable at base bound

  untied : droppable ≡ false → (set : List QBound) (q : ℤ) (ns : List ℤ) → AreTied q (map cell set) ns
  unfolding cell_choice cell
  untied stays [] q ns = tt
  untied stays (bound ∷ set) q [] = tt
  untied stays (bound ∷ set) q (n ∷ ns) = ((λ may. absurd (let no : true ≡ false = sym may ∙ stays in cc)), untied stays set q ns)

  gone_tied : (set : List QBound) → AreTied (pos 0) (map cell set) (map (number_in None) (map cell set))
  unfolding cell_choice cell number_in
  gone_tied [] = tt
  gone_tied (bound ∷ set) = ((λ may. (low_zero (cell bound).lo, high_zero (cell bound).hi)), gone_tied set)

  cell_tied : (bound : QBound) (row : List Value) → is_between (cell bound) (get_or row bound.column zero_value) ≡ true → IsTied (pos 1) (cell bound) (number_in (Some row) (cell bound))
  unfolding cell_choice cell number_in
  cell_tied bound row between may = rw (unwrap_or-slice_get row bound.column zero_value) (by_value (get_or row bound.column zero_value) between)
    where
      mine : WorldColumn
      mine = cell_choice hypo droppable at base bound

      by_value : (v : Value) → is_between mine v ≡ true → ((mine.lo *ℤ pos 1) ≤ℤ number v) × (number v ≤ℤ (mine.hi *ℤ pos 1))
      by_value (Int n) e = let parts = and_parts (int_le mine.lo n) (int_le n mine.hi) e in one_between mine n (le_of _ _ parts.0) (le_of _ _ parts.1)
      by_value (Text t) e = absurd (let no : false ≡ true = e in cc)

  there_tied : (set : List QBound) → are_once set ≡ true → (row : List Value)
      → ((p : ℕ) → list_any (λ other. other.column == p) set ≡ true → fits_cell (column_at (map cell set) p) (get_or base p zero_value) (get_or row p zero_value) ≡ true)
      → AreTied (pos 1) (map cell set) (map (number_in (Some row)) (map cell set))
  unfolding column_at cell_choice cell
  there_tied [] once row each = tt
  there_tied (bound ∷ set) once row each =
      let same = same_number bound.column bound.column refl in
      let here : is_between (cell bound) (get_or row bound.column zero_value) ≡ true = first same (each bound.column (or_first (bound.column == bound.column) (list_any (λ other. other.column == bound.column) set) same)) in
      (cell_tied bound row here, there_tied set (once_rest hypo droppable at base bound set once) row (λ p e. by_place p e (bound.column == p) refl (each p (or_second (bound.column == p) (list_any (λ other. other.column == p) set) e))))
    where
      rest : List WorldColumn
      rest = map (cell_choice hypo droppable at base) set

      first : (bound.column == bound.column) ≡ true
          → fits_cell (if bound.column == bound.column then Some (cell_choice hypo droppable at base bound) else column_at rest bound.column) (get_or base bound.column zero_value) (get_or row bound.column zero_value) ≡ true
          → is_between (cell_choice hypo droppable at base bound) (get_or row bound.column zero_value) ≡ true
      first same fits = subst (λ (b : Bool). fits_cell (if b then Some (cell_choice hypo droppable at base bound) else column_at rest bound.column) (get_or base bound.column zero_value) (get_or row bound.column zero_value) ≡ true) same fits

      by_place : (p : ℕ) → list_any (λ other. other.column == p) set ≡ true → (b : Bool) → (bound.column == p) ≡ b
          → fits_cell (if bound.column == p then Some (cell_choice hypo droppable at base bound) else column_at rest p) (get_or base p zero_value) (get_or row p zero_value) ≡ true
          → fits_cell (column_at rest p) (get_or base p zero_value) (get_or row p zero_value) ≡ true
      by_place p e true t fits =
          let none = subst (λ (k : ℕ). list_any (λ other. other.column == k) set ≡ false) (equal_of bound.column p t) (once_none hypo droppable at base bound set once) in
          absurd (let no : true ≡ false = sym e ∙ none in cc)
      by_place p e false t fits = subst (λ (b : Bool). fits_cell (if b then Some (cell_choice hypo droppable at base bound) else column_at rest p) (get_or base p zero_value) (get_or row p zero_value) ≡ true) t fits

-- whatever may be there of a row has numbers that are tied
row_tied : (hypo : ℕ) (table : QHypo) (at : ℕ) (base : List Value) → are_once table.set ≡ true → All (λ bound. bound.column < length base) table.set → (here : Option (List Value)) → row_possible (choices hypo table at base) base here ≡ true
    → (q : ℤ) → AreTied q (choices hypo table at base) (map (number_in here) (choices hypo table at base))
unfolding choices row_possible number_in column_at cell
row_tied hypo table at base once there here possible q = by_test (may_change table.filter base) table.droppable refl here possible
  where
    cells : List WorldColumn
    cells = map (cell_choice hypo table.droppable at base) table.set

    fits : (row : List Value) → row_fits (presence_column hypo at ∷ cells) 0 base row ≡ true → (p : ℕ) → p < length base → fits_cell (column_at cells p) (get_or base p zero_value) (get_or row p zero_value) ≡ true
    fits row e p lt =
        let from : 0 + p ≡ p = omega arith in
        subst (λ (k : ℕ). fits_cell (column_at (presence_column hypo at ∷ cells) k) (get_or base p zero_value) (get_or row p zero_value) ≡ true) from (fits_at (presence_column hypo at ∷ cells) 0 base row p e lt)

    by_test : (b d : Bool) → table.droppable ≡ d → (here : Option (List Value)) → row_possible (if b then presence_choice hypo d at ++ cells else []) base here ≡ true
        → AreTied q (if b then presence_choice hypo d at ++ cells else []) (map (number_in here) (if b then presence_choice hypo d at ++ cells else []))
    by_test false d t here e = tt
    by_test true false t here e = untied hypo table.droppable at base t table.set q (map (number_in here) cells)
    by_test true true t None e = ((λ may. absurd (let no : false ≡ true = may in cc)), gone_tied hypo table.droppable at base table.set)
    by_test true true t (Some row) e = (
      (λ may. absurd (let no : false ≡ true = may in cc)),
      there_tied hypo table.droppable at base table.set once row (λ p set. fits row e p (set_within table.set (length base) p there set)),
    )

-- the numbers of the rows of a table
rows_tied : (hypo : ℕ) (table : QHypo) (once : are_once table.set ≡ true) (bases : Rows) → All (λ base. All (λ bound. bound.column < length base) table.set) bases → (at : ℕ) (picks : List ℕ) (rows : Rows) → rows_can hypo table at bases picks rows ≡ true
    → (q : ℤ) → AreTied q (rows_choices hypo table at bases) (rows_numbers at bases (rows_choices hypo table at bases) picks rows)
unfolding rows_can rows_choices rows_numbers
rows_tied hypo table once [] there at picks rows e q = tt
rows_tied hypo table once (base ∷ bases) there at picks rows e q =
    let here = standing at picks rows in
    let parts = and_parts (row_possible (choices hypo table at base) base here) (rows_can hypo table (at + 1) bases (drop (count_of here) picks) (drop (count_of here) rows)) e in
    subst (λ (ns : List ℤ). AreTied q (choices hypo table at base ++ rows_choices hypo table (at + 1) bases) ns) (sym (numbers_there hypo table at base bases picks rows))
    (tied_join (choices hypo table at base) (rows_choices hypo table (at + 1) bases) (map (number_in here) (choices hypo table at base))
    (rows_numbers (at + 1) bases (rows_choices hypo table (at + 1) bases) (drop (count_of here) picks) (drop (count_of here) rows)) q
    (length-map (choices hypo table at base) (number_in here)) (row_tied hypo table at base once (there 0 base (omega arith)) here parts.0 q)
    (rows_tied hypo table once bases (λ k d lt. there (suc k) d (omega (arith, lt))) (at + 1) (drop (count_of here) picks) (drop (count_of here) rows) parts.1))

tables_tied : (tables : Tables) (world : List WorldTable) (hypos : List QHypo) → All (HasCells tables) hypos → (hypo : ℕ) → tables_can tables world hypo hypos ≡ true
    → (q : ℤ) → AreTied q (all_choices tables hypo hypos) (world_numbers tables world hypo hypos (all_choices tables hypo hypos))
unfolding tables_can all_choices world_numbers
tables_tied tables world [] all hypo e q = tt
tables_tied tables world (table ∷ others) all hypo e q =
    let parts = and_parts (table_can hypo table (rows_of tables table.table) (slice_get world hypo)) (tables_can tables world (hypo + 1) others) e in
    by_table (slice_get world hypo) refl parts.0 (tables_tied tables world others (λ k d lt. all (suc k) d (omega (arith, lt))) (hypo + 1) parts.1)
  where
    mine : List WorldColumn
    mine = rows_choices hypo table 0 (rows_of tables table.table)

    rest : List WorldColumn
    rest = all_choices tables (hypo + 1) others

    more : List ℤ
    more = world_numbers tables world (hypo + 1) others rest

    by_table : (made : Option WorldTable) → slice_get world hypo ≡ made → table_can hypo table (rows_of tables table.table) made ≡ true → ((p : ℤ) → AreTied p rest more)
        → AreTied q (mine ++ rest) (table_numbers (rows_of tables table.table) (take (leading (of_hypo hypo) (mine ++ rest)) (mine ++ rest)) (slice_get world hypo) ++ world_numbers tables world (hypo + 1) others (drop (leading (of_hypo hypo) (mine ++ rest)) (mine ++ rest)))
    by_table None is can later = absurd (let no : false ≡ true = can in cc)
    by_table (Some made) is can later =
        let cells = all 0 table (omega arith) in
        let numbers = rows_numbers 0 (rows_of tables table.table) mine made.picks made.rows in
        rw (hypo_run tables hypo table others, take-append_seam mine rest, drop-append_seam mine rest, is)
        (tied_join mine rest numbers more q (numbers_length hypo table (rows_of tables table.table) 0 made.picks made.rows)
        (rows_tied hypo table cells.once (rows_of tables table.table) cells.there 0 made.picks made.rows can q) later)

-- the numbers of a possible world
pub world_tied : (query : Query) (tables : Tables) (columns : List WorldColumn) (world : World) → columns ≡ all_choices tables 0 query.hypos → All (HasCells tables) query.hypos → IsPossible query tables world
    → (q : ℤ) → AreTied q columns (world_numbers tables world.tables 0 query.hypos columns)
world_tied query tables columns world made cells p q = rw made (tables_tied tables world.tables query.hypos cells 0 p.rows q)
