-- the numbers of a possible world lie in the box of the columns
use Rattle.std.proofs.Common.{◌≡◌, ℕ, zero, suc, ℤ, pos, ◌≤ℤ◌, ◌+◌, ◌<◌, ◌==◌, Bool, true, false, not, List, [], ◌∷◌, ◌++◌, length, map, take, drop, get_or, refl, sym, ◌∙◌, ap, subst, arith, Option, Some, None, if◌then◌else◌}
use Rattle.std.specs.Prelude.{◌||◌, is_none, slice_get, int_le, int_lt, All}
use Rattle.std.specs.List.{list_any}
use Rattle.std.proofs.Math.Seq.{take-append_seam, drop-append_seam}
use Rattle.std.proofs.lemmas.Int.{ints}
use Rattle.std.proofs.lemmas.List.{map-append}
use Rattle.std.proofs.lemmas.Bool.Decides.{nat_tests}
use Rattle.std.proofs.lemmas.Option.{unwrap_or-slice_get}
use Rattle.ip_rows.specs.declared.Bounds.{Bounds}
use Rattle.branch_tree.specs.Listing.{InBox}
use Rattle.base_kit.specs.declared.value.Value.{Value}
use Rattle.base_kit.specs.declared.value.Value.TheVariants.{Int, Text}
use Rattle.tiql_query.specs.declared.relation.QBound.{QBound}
use Rattle.tiql_query.specs.declared.relation.QHypo.{QHypo}
use Rattle.tiql_query.specs.declared.query.Query.{Query}
use Rattle.tiql_query.specs.WellFormed.{are_once}
use Rattle.tiql_query.specs.declared.world_column.WorldColumn.{WorldColumn}
use Rattle.world_def.specs.declared.world.World.{World}
use Rattle.world_def.specs.declared.world.WorldTable.{WorldTable}
use Rattle.row_values.specs.Values.{number}
use Rattle.world_def.specs.Columns.{Rows, Tables, rows_of, presence_column}
use Rattle.world_def.specs.Worlds.{leading, of_hypo, standing, count_of, column_at, is_between, fits_cell, row_fits, row_possible, number_in, rows_numbers, table_numbers, world_numbers}
use Rattle.world_def.specs.Meaning.{may_change, cell_choice, presence_choice, choices, rows_choices, all_choices, rows_can, table_can, tables_can, IsPossible}
use Rattle.world_def.proofs.Restored.{zero_value, cells_stay, fits_at, numbers_there}
use Rattle.std.proofs.lemmas.Bool.{and_parts}
use Rattle.world_def.proofs.Runs.{hypo_run}
use Rattle.world_def.proofs.Walks.{same_number}
use Rattle.world_points.specs.Points.{least, greatest, side, root}

-- a number between the bounds lies within the sides, and so does 0 where the row may be left out
least_below : (m n : ℤ) → least m n ≤ℤ m
least_below m n = by_test (int_lt n m) refl
  where
    by_test : (b : Bool) → int_lt n m ≡ b → (if b then n else m) ≤ℤ m
    by_test true e = grind (arith, ints)
    by_test false e = omega (arith, ints)

least_zero : (m n : ℤ) → least m n ≤ℤ n
least_zero m n = by_test (int_lt n m) refl
  where
    by_test : (b : Bool) → int_lt n m ≡ b → (if b then n else m) ≤ℤ n
    by_test true e = omega (arith, ints)
    by_test false e = grind (arith, ints)

greatest_above : (m n : ℤ) → m ≤ℤ greatest m n
greatest_above m n = by_test (int_lt m n) refl
  where
    by_test : (b : Bool) → int_lt m n ≡ b → m ≤ℤ (if b then n else m)
    by_test true e = grind (arith, ints)
    by_test false e = omega (arith, ints)

greatest_zero : (m n : ℤ) → n ≤ℤ greatest m n
greatest_zero m n = by_test (int_lt m n) refl
  where
    by_test : (b : Bool) → int_lt m n ≡ b → n ≤ℤ (if b then n else m)
    by_test true e = omega (arith, ints)
    by_test false e = grind (arith, ints)

at_most_trans : (a b c : ℤ) → a ≤ℤ b → b ≤ℤ c → a ≤ℤ c
at_most_trans a b c p q = omega (arith, ints)

-- a number lies within the sides of a column
abbrev pub IsWithin : WorldColumn → ℤ → Type 0
IsWithin c n = ((side c).lo ≤ℤ n) × (n ≤ℤ (side c).hi)

both_sides : Bool → WorldColumn → Bounds
both_sides b c = if b then record { lo = least c.lo (pos 0); hi = greatest c.hi (pos 0) } else record { lo = c.lo; hi = c.hi }

pub between_within : (c : WorldColumn) (n : ℤ) → c.lo ≤ℤ n → n ≤ℤ c.hi → IsWithin c n
unfolding side both_sides
between_within c n low high = by_test c.droppable
  where
    by_test : (b : Bool) → ((both_sides b c).lo ≤ℤ n) × (n ≤ℤ (both_sides b c).hi)
    by_test true = (at_most_trans (least c.lo (pos 0)) c.lo n (least_below c.lo (pos 0)) low, at_most_trans n c.hi (greatest c.hi (pos 0)) high (greatest_above c.hi (pos 0)))
    by_test false = (low, high)

zero_within : (c : WorldColumn) → c.droppable ≡ true → IsWithin c (pos 0)
unfolding side
zero_within c e = rw e (least_zero c.lo (pos 0), greatest_zero c.hi (pos 0))

in_box_of : (f : WorldColumn → ℤ) (cs : List WorldColumn) → All (λ c. IsWithin c (f c)) cs → InBox (root cs) (map f cs)
in_box_of f [] all = tt
in_box_of f (c ∷ cs) all = let here = all 0 c (omega arith) in (here.0, here.1, in_box_of f cs (λ k d lt. all (suc k) d (omega (arith, lt))))

pub in_box_append : (one other : List Bounds) (ms ns : List ℤ) → InBox one ms → InBox other ns → InBox (one ++ other) (ms ++ ns)
in_box_append [] other [] ns p q = q
in_box_append [] other (m ∷ ms) ns p q = absurd p
in_box_append (s ∷ one) other [] ns p q = absurd p
in_box_append (s ∷ one) other (m ∷ ms) ns p q = (p.0, p.1, in_box_append one other ms ns p.2 q)

first_false : (a b : Bool) → (a || b) ≡ false → a ≡ false
first_false true b e = e
first_false false b e = refl

second_false : (a b : Bool) → (a || b) ≡ false → b ≡ false
second_false true b e = absurd (let k : true ≡ false = e in cc)
second_false false b e = e

at_most_of : (m n : ℤ) → int_le m n ≡ true → m ≤ℤ n
at_most_of m n e = grind (arith, ints)

not_true : (a : Bool) → not a ≡ true → a ≡ false
not_true true e = absurd (let k : false ≡ true = e in cc)
not_true false e = refl

turned : (m n : ℕ) → (m == n) ≡ false → (n == m) ≡ false
turned m n e = grind (arith, nat_tests)

at_last : (k : ℕ) → k < 0 → ⊥
at_last k lt = omega (arith, lt)

pub all_cons : {X : Type 0} (P : X → Type 0) (x : X) (xs : List X) → P x → All P xs → All P (x ∷ xs)
all_cons {X} P x xs p ps = by_place
  where
    by_place : (k : ℕ) (d : X) → k < suc (length xs) → P (get_or (x ∷ xs) k d)
    by_place zero d lt = p
    by_place (suc k) d lt = ps k d (omega (arith, lt))

none_other : (bounds : List QBound) (n : ℕ) → list_any (λ other. other.column == n) bounds ≡ false → All (λ bound. (n == bound.column) ≡ false) bounds
none_other [] n e = λ k d lt. absurd (at_last k lt)
none_other (bound ∷ bounds) n e =
    all_cons (λ other. (n == other.column) ≡ false) bound bounds (turned bound.column n (first_false (bound.column == n) (list_any (λ other. other.column == n) bounds) e))
    (none_other bounds n (second_false (bound.column == n) (list_any (λ other. other.column == n) bounds) e))

-- of set columns that are set once, each is found where its cell is sought
module _ (hypo : ℕ) (droppable : Bool) (at : ℕ) (base : List Value) where
  cell : QBound → WorldColumn
  cell bound = cell_choice hypo droppable at base bound

  later_cell : (bound other : QBound) (cells : List WorldColumn) → (bound.column == other.column) ≡ false → column_at cells other.column ≡ Some (cell other) → column_at (cell bound ∷ cells) other.column ≡ Some (cell other)
  unfolding column_at cell_choice cell
  later_cell bound other cells e f = rw e f

  first_cell : (bound : QBound) (cells : List WorldColumn) → column_at (cell bound ∷ cells) bound.column ≡ Some (cell bound)
  unfolding column_at cell_choice cell
  first_cell bound cells = let same : (bound.column == bound.column) ≡ true = same_number bound.column bound.column refl in rw same refl

  found_cell : (set : List QBound) → are_once set ≡ true → All (λ bound. column_at (map cell set) bound.column ≡ Some (cell bound)) set
  unfolding are_once
  found_cell [] e = λ k d lt. absurd (at_last k lt)
  found_cell (bound ∷ set) e =
      let parts = and_parts (not (list_any (λ other. other.column == bound.column) set)) (are_once set) e in
      let others = none_other set bound.column (not_true (list_any (λ other. other.column == bound.column) set) parts.0) in
      let later = found_cell set parts.1 in
      all_cons (λ other. column_at (map cell (bound ∷ set)) other.column ≡ Some (cell other)) bound set (first_cell bound (map cell set)) (λ k d lt. later_cell bound (get_or set k d) (map cell set) (others k d lt) (later k d lt))

  -- a row that fits has in each set cell a number between the bounds
  fitting : (columns : List WorldColumn) (row : List Value) (bound : QBound) → row_fits columns 0 base row ≡ true → bound.column < length base → column_at columns bound.column ≡ Some (cell bound)
      → IsWithin (cell bound) (number_in (Some row) (cell bound))
  unfolding number_in cell cell_choice
  fitting columns row bound fits lt is =
      rw (unwrap_or-slice_get row bound.column zero_value) (by_value (get_or row bound.column zero_value) (let from : 0 + bound.column ≡ bound.column = omega arith in subst (λ (c : Option WorldColumn). fits_cell c (get_or base bound.column zero_value) (get_or row bound.column zero_value) ≡ true) (ap (column_at columns) from ∙ is) (fits_at columns 0 base row bound.column fits lt)))
    where
      by_value : (v : Value) → is_between (cell_choice hypo droppable at base bound) v ≡ true → IsWithin (cell_choice hypo droppable at base bound) (number v)
      by_value (Int n) e =
          let parts = and_parts (int_le (cell_choice hypo droppable at base bound).lo n) (int_le n (cell_choice hypo droppable at base bound).hi) e in
          between_within (cell_choice hypo droppable at base bound) n (at_most_of _ _ parts.0) (at_most_of _ _ parts.1)
      by_value (Text t) e = absurd (let k : false ≡ true = e in cc)

  cells_box : (f : WorldColumn → ℤ) (set : List QBound) → All (λ bound. IsWithin (cell bound) (f (cell bound))) set → InBox (root (map cell set)) (map f (map cell set))
  cells_box f [] all = tt
  cells_box f (bound ∷ set) all = let here = all 0 bound (omega arith) in (here.0, here.1, cells_box f set (λ k d lt. all (suc k) d (omega (arith, lt))))

  past_presence : (d : Bool) (cells : List WorldColumn) (place : ℕ) → column_at (presence_choice hypo d at ++ cells) place ≡ column_at cells place
  unfolding column_at
  past_presence true cells place = refl
  past_presence false cells place = refl

  presence_there : (d : Bool) (row : List Value) → InBox (root (presence_choice hypo d at)) (map (number_in (Some row)) (presence_choice hypo d at))
  unfolding number_in
  presence_there true row = let here = between_within (presence_column hypo at) (pos 1) (omega (arith, ints)) (omega (arith, ints)) in (here.0, here.1, tt)
  presence_there false row = tt

root_append : (one other : List WorldColumn) → root (one ++ other) ≡ root one ++ root other
root_append one other = map-append side one other

-- the numbers of a row, whether it is there or not
module _ (hypo : ℕ) (table : QHypo) (at : ℕ) (base : List Value) (once : are_once table.set ≡ true) (there : All (λ bound. bound.column < length base) table.set) where
  cells : List WorldColumn
  cells = map (cell hypo table.droppable at base) table.set

  gone_inside : row_possible (choices hypo table at base) base None ≡ true → InBox (root (choices hypo table at base)) (map (number_in None) (choices hypo table at base))
  unfolding row_possible choices cell cell_choice number_in cells
  gone_inside = by_test (may_change table.filter base) table.droppable refl
    where
      by_test : (b d : Bool) → table.droppable ≡ d → list_any (λ c. is_none c.cell) (if b then presence_choice hypo d at ++ map (cell_choice hypo table.droppable at base) table.set else []) ≡ true
          → InBox (root (if b then presence_choice hypo d at ++ map (cell_choice hypo table.droppable at base) table.set else [])) (map (number_in None) (if b then presence_choice hypo d at ++ map (cell_choice hypo table.droppable at base) table.set else []))
      by_test true true t e =
          let first = zero_within (presence_column hypo at) refl in
          in_box_append (root (presence_column hypo at ∷ [])) (root cells) (pos 0 ∷ []) (map (number_in None) cells) (first.0, first.1, tt)
          (cells_box hypo table.droppable at base (number_in None) table.set (λ k d lt. zero_within (cell_choice hypo table.droppable at base (get_or table.set k d)) t))
      by_test true false t e = absurd (let k : false ≡ true = sym (cells_stay hypo table.droppable at base table.set) ∙ e in cc)
      by_test false d t e = tt

  found_there : (d : Bool) → All (λ bound. column_at (presence_choice hypo d at ++ cells) bound.column ≡ Some (cell hypo table.droppable at base bound)) table.set
  unfolding cells
  found_there d = λ k e lt. past_presence hypo table.droppable at base d (map (cell hypo table.droppable at base) table.set) (get_or table.set k e).column ∙ found_cell hypo table.droppable at base table.set once k e lt

  row_there : (row : List Value) → row_possible (choices hypo table at base) base (Some row) ≡ true → InBox (root (choices hypo table at base)) (map (number_in (Some row)) (choices hypo table at base))
  unfolding row_possible choices cell cells
  row_there row = by_test (may_change table.filter base) table.droppable
    where
      by_test : (b d : Bool) → row_fits (if b then presence_choice hypo d at ++ map (cell_choice hypo table.droppable at base) table.set else []) 0 base row ≡ true
          → InBox (root (if b then presence_choice hypo d at ++ map (cell_choice hypo table.droppable at base) table.set else [])) (map (number_in (Some row)) (if b then presence_choice hypo d at ++ map (cell_choice hypo table.droppable at base) table.set else []))
      by_test true d e =
          let numbers : InBox (root cells) (map (number_in (Some row)) cells) =
          cells_box hypo table.droppable at base (number_in (Some row)) table.set (λ k f lt. fitting hypo table.droppable at base (presence_choice hypo d at ++ cells) row (get_or table.set k f) e (there k f lt) (found_there d k f lt)) in
          subst (λ (sides : List Bounds). InBox sides (map (number_in (Some row)) (presence_choice hypo d at ++ cells))) (sym (root_append (presence_choice hypo d at) cells))
          (subst (λ (ns : List ℤ). InBox (root (presence_choice hypo d at) ++ root cells) ns) (sym (map-append (number_in (Some row)) (presence_choice hypo d at) cells))
          (in_box_append (root (presence_choice hypo d at)) (root cells) (map (number_in (Some row)) (presence_choice hypo d at)) (map (number_in (Some row)) cells) (presence_there hypo table.droppable at base d row) numbers))
      by_test false d e = tt

  row_inside : (here : Option (List Value)) → row_possible (choices hypo table at base) base here ≡ true → InBox (root (choices hypo table at base)) (map (number_in here) (choices hypo table at base))
  row_inside None e = gone_inside e
  row_inside (Some row) e = row_there row e

-- the numbers of the rows of a table
rows_inside : (hypo : ℕ) (table : QHypo) (once : are_once table.set ≡ true) (bases : Rows) → All (λ base. All (λ bound. bound.column < length base) table.set) bases → (at : ℕ) (picks : List ℕ) (rows : Rows) → rows_can hypo table at bases picks rows ≡ true
    → InBox (root (rows_choices hypo table at bases)) (rows_numbers at bases (rows_choices hypo table at bases) picks rows)
unfolding rows_can rows_choices rows_numbers
rows_inside hypo table once [] there at picks rows e = tt
rows_inside hypo table once (base ∷ bases) there at picks rows e =
    let here = standing at picks rows in
    let parts = and_parts (row_possible (choices hypo table at base) base here) (rows_can hypo table (at + 1) bases (drop (count_of here) picks) (drop (count_of here) rows)) e in
    let first = row_inside hypo table at base once (there 0 base (omega arith)) here parts.0 in
    let later = rows_inside hypo table once bases (λ k d lt. there (suc k) d (omega (arith, lt))) (at + 1) (drop (count_of here) picks) (drop (count_of here) rows) parts.1 in
    subst (λ (sides : List Bounds). InBox sides (rows_numbers at (base ∷ bases) (rows_choices hypo table at (base ∷ bases)) picks rows)) (sym (root_append (choices hypo table at base) (rows_choices hypo table (at + 1) bases)))
    (subst (λ (ns : List ℤ). InBox (root (choices hypo table at base) ++ root (rows_choices hypo table (at + 1) bases)) ns) (sym (numbers_there hypo table at base bases picks rows))
    (in_box_append (root (choices hypo table at base)) (root (rows_choices hypo table (at + 1) bases)) (map (number_in here) (choices hypo table at base)) (rows_numbers (at + 1) bases (rows_choices hypo table (at + 1) bases) (drop (count_of here) picks) (drop (count_of here) rows)) first later))

-- of a hypothetical table: no column is set twice, and the rows of its table have the columns that are set
pub record HasCells (tables : Tables) (table : QHypo) : Type 0 where
  pub once : are_once table.set ≡ true
  pub there : All (λ base. All (λ bound. bound.column < length base) table.set) (rows_of tables table.table)

world_inside : (tables : Tables) (world : List WorldTable) (hypos : List QHypo) → All (HasCells tables) hypos → (hypo : ℕ) → tables_can tables world hypo hypos ≡ true
    → InBox (root (all_choices tables hypo hypos)) (world_numbers tables world hypo hypos (all_choices tables hypo hypos))
unfolding tables_can all_choices world_numbers
world_inside tables world [] all hypo e = tt
world_inside tables world (table ∷ others) all hypo e =
    let parts = and_parts (table_can hypo table (rows_of tables table.table) (slice_get world hypo)) (tables_can tables world (hypo + 1) others) e in
    by_table (slice_get world hypo) refl parts.0 (world_inside tables world others (λ k d lt. all (suc k) d (omega (arith, lt))) (hypo + 1) parts.1)
  where
    mine : List WorldColumn
    mine = rows_choices hypo table 0 (rows_of tables table.table)

    rest : List WorldColumn
    rest = all_choices tables (hypo + 1) others

    more : List ℤ
    more = world_numbers tables world (hypo + 1) others rest

    by_table : (made : Option WorldTable) → slice_get world hypo ≡ made → table_can hypo table (rows_of tables table.table) made ≡ true → InBox (root rest) more
        → InBox (root (mine ++ rest)) (table_numbers (rows_of tables table.table) (take (leading (of_hypo hypo) (mine ++ rest)) (mine ++ rest)) (slice_get world hypo) ++ world_numbers tables world (hypo + 1) others (drop (leading (of_hypo hypo) (mine ++ rest)) (mine ++ rest)))
    by_table None is can later = absurd (let k : false ≡ true = can in cc)
    by_table (Some made) is can later =
        let cells = all 0 table (omega arith) in
        let numbers = rows_numbers 0 (rows_of tables table.table) mine made.picks made.rows in
        rw (hypo_run tables hypo table others, take-append_seam mine rest, drop-append_seam mine rest, is, root_append mine rest)
        (in_box_append (root mine) (root rest) numbers more (rows_inside hypo table cells.once (rows_of tables table.table) cells.there 0 made.picks made.rows can) later)

-- the numbers of a possible world lie in the box of the columns
pub inside_box : (query : Query) (tables : Tables) (columns : List WorldColumn) (world : World) → columns ≡ all_choices tables 0 query.hypos → All (HasCells tables) query.hypos → IsPossible query tables world
    → InBox (root columns) (world_numbers tables world.tables 0 query.hypos columns)
inside_box query tables columns world made cells p = rw made (world_inside tables world.tables query.hypos cells 0 p.rows)
