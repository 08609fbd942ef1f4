-- the numbers of a possible world, gathered row by row, are those of its columns
use Rattle.std.proofs.Common.{◌≡◌, ◌≢◌, ℕ, ℤ, ◌+◌, ◌<◌, ◌≤◌, ◌==◌, Bool, true, false, List, [], ◌∷◌, ◌++◌, map, drop, refl, sym, ◌∙◌, ap, ap₂, arith, Option, Some, None, if◌then◌else◌}
use Rattle.std.specs.Prelude.{IfOk, Ok, Err, Result, slice_get}
use Rattle.std.proofs.Math.Seq.{take-append_seam, drop-append_seam}
use Rattle.std.proofs.lemmas.Bool.{and_parts}
use Rattle.std.proofs.lemmas.List.{map-append}
use Rattle.base_kit.specs.declared.value.Value.{Value}
use Rattle.tiql_query.specs.declared.relation.QHypo.{QHypo}
use Rattle.tiql_query.specs.declared.query.Query.{Query}
use Rattle.tiql_query.specs.declared.world_column.WorldColumn.{WorldColumn}
use Rattle.world_def.specs.declared.world.World.{World}
use Rattle.world_def.specs.declared.world.WorldTable.{WorldTable}
use Rattle.world_def.specs.Columns.{Rows, Tables, rows_of, columns_of}
use Rattle.world_def.specs.Worlds.{count_of, number_in, of_hypo, of_row, row_possible, rows_numbers, standing, tables_at, world_numbers}
use Rattle.world_def.specs.Meaning.{IsPossible, all_choices, choices, number_of, numbers, row_in, row_over, rows_can, rows_choices, table_can, tables_can}
use Rattle.world_def.proofs.Choices.{columns_told}
use Rattle.world_def.proofs.Restored.{equal_of, numbers_there, world_restored}
use Rattle.world_def.proofs.Runs.{Each, hypo_run, of_hypo_all, of_this_row}
use Rattle.world_def.proofs.Walks.{other_number, same_number}

-- a row over the first pick, and over those behind it
over_first : (at pick : ℕ) (picks : List ℕ) (row : List Value) (rows : Rows) → pick ≡ at → row_over at (pick ∷ picks) (row ∷ rows) ≡ Some row
unfolding row_over
over_first at pick picks row rows same = rw (same_number pick at same) refl

over_rest : (at pick : ℕ) (picks : List ℕ) (row : List Value) (rows : Rows) → pick ≢ at → row_over at (pick ∷ picks) (row ∷ rows) ≡ row_over at picks rows
unfolding row_over
over_rest at pick picks row rows differ = rw (other_number pick at differ) refl

-- the row that is taken at a row of the table hides no row over another
module _ (at n : ℕ) (other : at ≢ n) where
  over_behind : (picks : List ℕ) (rows : Rows) → row_over n (drop (count_of (standing at picks rows)) picks) (drop (count_of (standing at picks rows)) rows) ≡ row_over n picks rows
  unfolding standing row_over count_of
  over_behind [] rows = refl
  over_behind (pick ∷ picks) [] = refl
  over_behind (pick ∷ picks) (row ∷ rows) = by_test (pick == at) refl
    where
      by_test : (b : Bool) → (pick == at) ≡ b → row_over n (drop (count_of (if pick == at then Some row else None)) (pick ∷ picks)) (drop (count_of (if pick == at then Some row else None)) (row ∷ rows)) ≡ row_over n (pick ∷ picks) (row ∷ rows)
      by_test true t = rw (t) (sym (over_rest n pick picks row rows (λ same. other (sym (equal_of pick at t) ∙ same))))
      by_test false t = rw (t) refl

-- rows from the one with this number on are over no row before it
over_none : (hypo : ℕ) (table : QHypo) (bases : Rows) (at n : ℕ) (picks : List ℕ) (rows : Rows) → n < at → rows_can hypo table at bases picks rows ≡ true → row_over n picks rows ≡ None
unfolding rows_can row_over
over_none hypo table [] at n [] rows lt can = refl
over_none hypo table [] at n (pick ∷ picks) rows lt can = absurd (let no : false ≡ true = can in cc)
over_none hypo table (base ∷ bases) at n picks rows lt can =
    let parts = and_parts (row_possible (choices hypo table at base) base (standing at picks rows)) (rows_can hypo table (at + 1) bases (drop (count_of (standing at picks rows)) picks) (drop (count_of (standing at picks rows)) rows)) can in
    sym (over_behind at n (λ same. omega (arith, same, lt)) picks rows)
    ∙ over_none hypo table bases (at + 1) n (drop (count_of (standing at picks rows)) picks) (drop (count_of (standing at picks rows)) rows) (omega (arith, lt)) parts.1

-- the row that is taken at a row of the table is the one over it
over_here : (hypo : ℕ) (table : QHypo) (bases : Rows) (at : ℕ) (picks : List ℕ) (rows : Rows)
    → rows_can hypo table (at + 1) bases (drop (count_of (standing at picks rows)) picks) (drop (count_of (standing at picks rows)) rows) ≡ true → standing at picks rows ≡ row_over at picks rows
unfolding standing count_of row_over
over_here hypo table bases at [] rows can = refl
over_here hypo table bases at (pick ∷ picks) [] can = refl
over_here hypo table bases at (pick ∷ picks) (row ∷ rows) can = by_test (pick == at) refl can
  where
    by_test : (b : Bool) → (pick == at) ≡ b
        → rows_can hypo table (at + 1) bases (drop (count_of (if pick == at then Some row else None)) (pick ∷ picks)) (drop (count_of (if pick == at then Some row else None)) (row ∷ rows)) ≡ true
        → (if pick == at then Some row else None) ≡ (if pick == at then Some row else row_over at picks rows)
    by_test true t c = rw (t) refl
    by_test false t c =
        let rest : rows_can hypo table (at + 1) bases (pick ∷ picks) (row ∷ rows) ≡ true = sym (rw (t) refl) ∙ c in
        let none = over_none hypo table bases (at + 1) at (pick ∷ picks) (row ∷ rows) (omega arith) rest in
        let behind : row_over at picks rows ≡ None = sym (over_rest at pick picks row rows (λ same. let k : true ≡ false = sym (same_number pick at same) ∙ t in cc)) ∙ none in
        rw (t) (sym behind)

-- columns of one row
same_row : (f : ℕ → Option (List Value)) (at : ℕ) (columns : List WorldColumn) → Each (λ c. of_row at c ≡ true) columns
    → map (number_in (f at)) columns ≡ map (λ c. number_in (f c.row) c) columns
same_row f at [] each = refl
same_row f at (column ∷ columns) each =
    ap₂ (λ (n : ℤ) (l : List ℤ). n ∷ l) (ap (λ n. number_in (f n) column) (sym (equal_of column.row at each.0))) (same_row f at columns each.1)

-- the numbers of a hypothetical table's rows, where f tells the row over each
rows_numbered : (hypo : ℕ) (table : QHypo) (f : ℕ → Option (List Value)) (bases : Rows) (at : ℕ) (picks : List ℕ) (rows : Rows) → rows_can hypo table at bases picks rows ≡ true
    → ((n : ℕ) → at ≤ n → row_over n picks rows ≡ f n)
    → rows_numbers at bases (rows_choices hypo table at bases) picks rows ≡ map (λ c. number_in (f c.row) c) (rows_choices hypo table at bases)
unfolding rows_can rows_choices rows_numbers
rows_numbered hypo table f [] at picks rows can over = refl
rows_numbered hypo table f (base ∷ bases) at picks rows can over =
    let parts = and_parts (row_possible (choices hypo table at base) base (standing at picks rows)) (rows_can hypo table (at + 1) bases (drop (count_of (standing at picks rows)) picks) (drop (count_of (standing at picks rows)) rows)) can in
    let here : standing at picks rows ≡ f at = over_here hypo table bases at picks rows parts.1 ∙ over at (omega arith) in
    numbers_there hypo table at base bases picks rows
    ∙ ap₂ (λ (l m : List ℤ). l ++ m)
    (ap (λ (r : Option (List Value)). map (number_in r) (choices hypo table at base)) here ∙ same_row f at (choices hypo table at base) (of_this_row hypo table at base))
    (rows_numbered hypo table f bases (at + 1) (drop (count_of (standing at picks rows)) picks) (drop (count_of (standing at picks rows)) rows) parts.1
    (λ n le. over_behind at n (λ same. omega (arith, same, le)) picks rows ∙ over n (omega (arith, le))))
    ∙ sym (map-append (λ c. number_in (f c.row) c) (choices hypo table at base) (rows_choices hypo table (at + 1) bases))

-- columns of one hypothetical table
same_table : (world : World) (hypo : ℕ) (made : Option WorldTable) → slice_get world.tables hypo ≡ made → (columns : List WorldColumn) → Each (λ c. of_hypo hypo c ≡ true) columns
    → map (λ c. number_in (row_in c.row made) c) columns ≡ map (number_of world) columns
same_table world hypo made is [] each = refl
same_table world hypo made is (column ∷ columns) each =
    let same : made ≡ slice_get world.tables column.hypo = sym is ∙ ap (slice_get world.tables) (sym (equal_of column.hypo hypo each.0)) in
    ap₂ (λ (n : ℤ) (l : List ℤ). n ∷ l) (ap (λ (m : Option WorldTable). number_in (row_in column.row m) column) same) (same_table world hypo made is columns each.1)

tables_numbered : (tables : Tables) (world : World) (hypos : List QHypo) (hypo : ℕ) → tables_can tables world.tables hypo hypos ≡ true
    → world_numbers tables world.tables hypo hypos (all_choices tables hypo hypos) ≡ map (number_of world) (all_choices tables hypo hypos)
unfolding tables_can world_numbers all_choices
tables_numbered tables world [] hypo can = refl
tables_numbered tables world (table ∷ others) hypo can =
    let parts = and_parts (table_can hypo table (rows_of tables table.table) (slice_get world.tables hypo)) (tables_can tables world.tables (hypo + 1) others) can in
    by_table (slice_get world.tables hypo) refl parts.0 (tables_numbered tables world others (hypo + 1) parts.1)
  where
    mine : List WorldColumn
    mine = rows_choices hypo table 0 (rows_of tables table.table)

    rest : List WorldColumn
    rest = all_choices tables (hypo + 1) others

    by_table : (made : Option WorldTable) → slice_get world.tables hypo ≡ made → table_can hypo table (rows_of tables table.table) made ≡ true
        → world_numbers tables world.tables (hypo + 1) others rest ≡ map (number_of world) rest
        → world_numbers tables world.tables hypo (table ∷ others) (mine ++ rest) ≡ map (number_of world) (mine ++ rest)
    by_table None is here later = absurd (let no : false ≡ true = here in cc)
    by_table (Some made) is here later =
        rw (hypo_run tables hypo table others, take-append_seam mine rest, drop-append_seam mine rest, is)
        (ap₂ (λ (l m : List ℤ). l ++ m)
        (rows_numbered hypo table (λ n. row_over n made.picks made.rows) (rows_of tables table.table) 0 made.picks made.rows here (λ n le. refl)
        ∙ same_table world hypo (Some made) is mine (of_hypo_all hypo table hypo true (same_number hypo hypo refl) (rows_of tables table.table) 0))
        later
        ∙ sym (map-append (number_of world) mine rest))

-- what is gathered of a possible world are its numbers
pub numbers_told : (query : Query) (tables : Tables) (columns : List WorldColumn) (world : World) → columns ≡ all_choices tables 0 query.hypos → IsPossible query tables world
    → world_numbers tables world.tables 0 query.hypos columns ≡ numbers columns world
numbers_told query tables columns world made possible = rw (made) (tables_numbered tables world query.hypos 0 possible.rows)

pub gathered_told : {E : Type 0} (query : Query) (tables : Tables) (columns : List WorldColumn) (world : World) (result : Result (List ℤ) E)
    → IfOk result (λ made. made ≡ world_numbers tables world.tables 0 query.hypos columns)
    → IfOk result (λ made. columns_of query tables ≡ Ok columns → IsPossible query tables world → made ≡ numbers columns world)
gathered_told query tables columns world (Ok made) walk = λ all possible. walk ∙ numbers_told query tables columns world (columns_told query tables columns all) possible
gathered_told query tables columns world (Err fault) walk = tt

-- the world that has its numbers is the possible one
pub world_told : (query : Query) (tables : Tables) (columns : List WorldColumn) (given : List ℤ) (made : World) → made.tables ≡ tables_at tables 0 query.hypos columns given
    → (world : World) → columns_of query tables ≡ Ok columns → IsPossible query tables world → numbers columns world ≡ given → made ≡ world
world_told query tables columns given made walk world all possible same =
    let chosen = columns_told query tables columns all in
    let gathered : world_numbers tables world.tables 0 query.hypos columns ≡ given = numbers_told query tables columns world chosen possible ∙ same in
    ap (λ (t : List WorldTable). record { tables = t }) (walk ∙ ap (tables_at tables 0 query.hypos columns) (sym gathered) ∙ world_restored query tables columns world chosen possible)
