-- the choices of each row stand together among the world columns, so that a world is possible by the columns where the query allows it
use Rattle.std.proofs.Common.{◌≡◌, ℕ, ◌+◌, ◌<◌, ◌≤◌, ◌==◌, ◌&&◌, Bool, true, false, List, [], ◌∷◌, ◌++◌, length, map, drop, refl, sym, ◌∙◌, ap, arith, Option, Some, None, if◌then◌else◌}
use Rattle.std.specs.Prelude.{⊤, is_none, nat_lt, slice_get}
use Rattle.std.proofs.lemmas.Bool.{and_parts}
use Rattle.std.proofs.lemmas.Bool.Decides.{nat_tests}
use Rattle.std.proofs.lemmas.Option.{slice_get_within}
use Rattle.std.proofs.Math.Seq.{take-append_seam, drop-append_seam}
use Rattle.base_kit.specs.declared.value.Value.{Value}
use Rattle.tiql_query.specs.declared.relation.QBound.{QBound}
use Rattle.tiql_query.specs.declared.relation.QHypo.{QHypo}
use Rattle.tiql_query.specs.declared.query.Query.{Query}
use Rattle.tiql_query.specs.declared.world_column.WorldColumn.{WorldColumn}
use Rattle.world_def.specs.declared.world.World.{World}
use Rattle.world_def.specs.declared.world.WorldTable.{WorldTable}
use Rattle.world_def.specs.Columns.{Rows, Tables, rows_of, presence_column}
use Rattle.world_def.specs.Worlds.{leading, of_hypo, of_row, standing, count_of, row_possible, rows_possible, table_possible, surplus, first_impossible}
use Rattle.world_def.specs.Meaning.{may_change, cell_choice, presence_choice, choices, rows_choices, all_choices, rows_can, table_can, tables_can, IsPossible}
use Rattle.world_def.proofs.Walks.{same_number, other_number}

-- it holds of each column
abbrev pub Each : (WorldColumn → Type 0) → List WorldColumn → Type 0
Each P [] = ⊤
Each P (x ∷ xs) = P x × Each P xs

both : (P : WorldColumn → Type 0) (xs ys : List WorldColumn) → Each P xs → Each P ys → Each P (xs ++ ys)
both P [] ys a b = b
both P (x ∷ xs) ys a b = (a.0, both P xs ys a.1 b)

-- what is so at the head of a list, before what is not
run : (is_so : WorldColumn → Bool) (xs ys : List WorldColumn) → Each (λ c. is_so c ≡ true) xs → leading is_so ys ≡ 0 → leading is_so (xs ++ ys) ≡ length xs
unfolding leading
run is_so [] ys so e = e
run is_so (x ∷ xs) ys so e = let k = run is_so xs ys so.1 e in rw (so.0) (omega (arith, k))

none_leads : (is_so : WorldColumn → Bool) (ys : List WorldColumn) → Each (λ c. is_so c ≡ false) ys → leading is_so ys ≡ 0
unfolding leading
none_leads is_so [] no_ = refl
none_leads is_so (y ∷ ys) no_ = rw (no_.0) refl

-- what holds of a row's presence and of its cells holds of all its choices
module _ (P : WorldColumn → Type 0) (hypo : ℕ) (table : QHypo) (at : ℕ) (row : List Value) (p : P (presence_column hypo at)) (q : (bound : QBound) → P (cell_choice hypo table.droppable at row bound)) where
  cells_all : (set : List QBound) → Each P (map (cell_choice hypo table.droppable at row) set)
  cells_all [] = tt
  cells_all (bound ∷ set) = (q bound, cells_all set)

  presence_all : (droppable : Bool) → Each P (presence_choice hypo droppable at)
  presence_all true = (p, tt)
  presence_all false = tt

  if_all : (b : Bool) (xs : List WorldColumn) → Each P xs → Each P (if b then xs else [])
  if_all true xs a = a
  if_all false xs a = tt

  choices_all : Each P (choices hypo table at row)
  unfolding choices
  choices_all = if_all (may_change table.filter row) (presence_choice hypo table.droppable at ++ map (cell_choice hypo table.droppable at row) table.set) (both P (presence_choice hypo table.droppable at) (map (cell_choice hypo table.droppable at row) table.set) (presence_all table.droppable) (cells_all table.set))

-- the choices of a row are of this row, and those of later rows are not
pub of_this_row : (hypo : ℕ) (table : QHypo) (at : ℕ) (row : List Value) → Each (λ c. of_row at c ≡ true) (choices hypo table at row)
unfolding cell_choice
of_this_row hypo table at row = choices_all (λ c. of_row at c ≡ true) hypo table at row (same_number at at refl) (λ bound. same_number at at refl)

of_later_rows : (hypo : ℕ) (table : QHypo) (rows : Rows) (at later : ℕ) → at < later → Each (λ c. of_row at c ≡ false) (rows_choices hypo table later rows)
unfolding rows_choices cell_choice
of_later_rows hypo table [] at later lt = tt
of_later_rows hypo table (row ∷ rows) at later lt =
    both (λ c. of_row at c ≡ false) (choices hypo table later row) (rows_choices hypo table (later + 1) rows)
    (choices_all (λ c. of_row at c ≡ false) hypo table later row (other_number later at (λ e. omega (arith, e, lt))) (λ bound. other_number later at (λ e. omega (arith, e, lt))))
    (of_later_rows hypo table rows at (later + 1) (omega (arith, lt)))

pub row_run : (hypo : ℕ) (table : QHypo) (at : ℕ) (row : List Value) (rows : Rows) → leading (of_row at) (choices hypo table at row ++ rows_choices hypo table (at + 1) rows) ≡ length (choices hypo table at row)
row_run hypo table at row rows = run (of_row at) (choices hypo table at row) (rows_choices hypo table (at + 1) rows) (of_this_row hypo table at row) (none_leads (of_row at) (rows_choices hypo table (at + 1) rows) (of_later_rows hypo table rows at (at + 1) (omega arith)))

-- and likewise of hypothetical tables
pub of_hypo_all : (hypo : ℕ) (table : QHypo) (number : ℕ) (b : Bool) → (hypo == number) ≡ b → (rows : Rows) (at : ℕ) → Each (λ c. of_hypo number c ≡ b) (rows_choices hypo table at rows)
unfolding rows_choices cell_choice
of_hypo_all hypo table number b e [] at = tt
of_hypo_all hypo table number b e (row ∷ rows) at =
    both (λ c. of_hypo number c ≡ b) (choices hypo table at row) (rows_choices hypo table (at + 1) rows)
    (choices_all (λ c. of_hypo number c ≡ b) hypo table at row e (λ bound. e))
    (of_hypo_all hypo table number b e rows (at + 1))

of_later_hypos : (tables : Tables) (hypos : List QHypo) (number later : ℕ) → number < later → Each (λ c. of_hypo number c ≡ false) (all_choices tables later hypos)
unfolding all_choices
of_later_hypos tables [] number later lt = tt
of_later_hypos tables (table ∷ others) number later lt =
    both (λ c. of_hypo number c ≡ false) (rows_choices later table 0 (rows_of tables table.table)) (all_choices tables (later + 1) others)
    (of_hypo_all later table number false (other_number later number (λ e. omega (arith, e, lt))) (rows_of tables table.table) 0)
    (of_later_hypos tables others number (later + 1) (omega (arith, lt)))

pub hypo_run : (tables : Tables) (hypo : ℕ) (table : QHypo) (others : List QHypo) → leading (of_hypo hypo) (rows_choices hypo table 0 (rows_of tables table.table) ++ all_choices tables (hypo + 1) others) ≡ length (rows_choices hypo table 0 (rows_of tables table.table))
hypo_run tables hypo table others = run (of_hypo hypo) (rows_choices hypo table 0 (rows_of tables table.table)) (all_choices tables (hypo + 1) others)
    (of_hypo_all hypo table hypo true (same_number hypo hypo refl) (rows_of tables table.table) 0)
    (none_leads (of_hypo hypo) (all_choices tables (hypo + 1) others) (of_later_hypos tables others hypo (hypo + 1) (omega arith)))

rows_same : (hypo : ℕ) (table : QHypo) (bases : Rows) (at : ℕ) (picks : List ℕ) (rows : Rows) → rows_possible at bases (rows_choices hypo table at bases) picks rows ≡ rows_can hypo table at bases picks rows
unfolding rows_possible rows_can rows_choices
rows_same hypo table [] at picks rows = refl
rows_same hypo table (base ∷ bases) at picks rows =
    rw (row_run hypo table at base bases, take-append_seam (choices hypo table at base) (rows_choices hypo table (at + 1) bases), drop-append_seam (choices hypo table at base) (rows_choices hypo table (at + 1) bases))
    (ap (λ b. row_possible (choices hypo table at base) base (standing at picks rows) && b) (rows_same hypo table bases (at + 1) (drop (count_of (standing at picks rows)) picks) (drop (count_of (standing at picks rows)) rows)))

table_same : (hypo : ℕ) (table : QHypo) (bases : Rows) (made : Option WorldTable) → table_possible bases (rows_choices hypo table 0 bases) made ≡ table_can hypo table bases made
table_same hypo table bases None = refl
table_same hypo table bases (Some made) = rows_same hypo table bases 0 made.picks made.rows

module _ (tables : Tables) (world : List WorldTable) where
  -- the walk over one more hypothetical table
  pub impossible_next : (hypo : ℕ) (table : QHypo) (others : List QHypo) → first_impossible tables world hypo (table ∷ others) (all_choices tables hypo (table ∷ others))
      ≡ (if table_can hypo table (rows_of tables table.table) (slice_get world hypo) then first_impossible tables world (hypo + 1) others (all_choices tables (hypo + 1) others) else Some hypo)
  unfolding first_impossible all_choices
  impossible_next hypo table others =
      rw (hypo_run tables hypo table others, take-append_seam (rows_choices hypo table 0 (rows_of tables table.table)) (all_choices tables (hypo + 1) others), drop-append_seam (rows_choices hypo table 0 (rows_of tables table.table)) (all_choices tables (hypo + 1) others), table_same hypo table (rows_of tables table.table) (slice_get world hypo))
      refl

  none_or : (b : Bool) (n : ℕ) (later : Option ℕ) (l s : Bool) → is_none later ≡ (l && s) → is_none (if b then later else Some n) ≡ ((b && l) && s)
  none_or true n later l s e = e
  none_or false n later l s e = refl

  tables_same : (hypos : List QHypo) (hypo last : ℕ) → last ≡ hypo + length hypos
      → is_none (first_impossible tables world hypo hypos (all_choices tables hypo hypos)) ≡ (tables_can tables world hypo hypos && is_none (surplus world last))
  unfolding first_impossible tables_can all_choices
  tables_same [] hypo last e = let same : hypo ≡ last = omega (arith, e) in ap (λ n. is_none (surplus world n)) same
  tables_same (table ∷ others) hypo last e =
      ap is_none (impossible_next hypo table others)
      ∙ none_or (table_can hypo table (rows_of tables table.table) (slice_get world hypo)) hypo (first_impossible tables world (hypo + 1) others (all_choices tables (hypo + 1) others)) (tables_can tables world (hypo + 1) others) (is_none (surplus world last))
      (tables_same others (hypo + 1) last (omega (arith, e)))

  -- where each hypothetical table has what it may be, the world has a table for each
  tables_there : (hypos : List QHypo) (hypo : ℕ) → tables_can tables world hypo hypos ≡ true → hypo ≤ length world → hypo + length hypos ≤ length world
  unfolding tables_can
  tables_there [] hypo e le = omega (arith, le)
  tables_there (table ∷ others) hypo e le =
      let parts = and_parts (table_can hypo table (rows_of tables table.table) (slice_get world hypo)) (tables_can tables world (hypo + 1) others) e in
      by_table (tables_there others (hypo + 1) parts.1) (slice_get world hypo) refl parts.0
    where
      by_table : (hypo + 1 ≤ length world → (hypo + 1) + length others ≤ length world) → (made : Option WorldTable) → slice_get world hypo ≡ made
          → table_can hypo table (rows_of tables table.table) made ≡ true → hypo + length (table ∷ others) ≤ length world
      by_table later None is can = absurd (let no : false ≡ true = can in cc)
      by_table later (Some made) is can =
          let within = slice_get_within world hypo made is in
          let more = later (omega (arith, within)) in
          omega (arith, more)

none_is : (r : Option ℕ) → is_none r ≡ true → r ≡ None
none_is None e = refl
none_is (Some n) e = absurd (let k : false ≡ true = e in cc)

no_surplus : (world : List WorldTable) (n : ℕ) → is_none (surplus world n) ≡ true → length world ≤ n
no_surplus world n = by_test (nat_lt n (length world)) refl
  where
    by_test : (b : Bool) → nat_lt n (length world) ≡ b → is_none (if b then Some n else None) ≡ true → length world ≤ n
    by_test true t e = absurd (let k : false ≡ true = e in cc)
    by_test false t e = grind (arith, nat_tests)

surplus_none : (world : List WorldTable) (n : ℕ) → length world ≤ n → is_none (surplus world n) ≡ true
surplus_none world n le = by_test (nat_lt n (length world)) refl
  where
    by_test : (b : Bool) → nat_lt n (length world) ≡ b → is_none (if b then Some n else None) ≡ true
    by_test true t = absurd (let lt : n < length world = grind (arith, nat_tests) in omega (arith, lt, le))
    by_test false t = refl

-- a world of which nothing is impossible is possible
pub possible_told : (query : Query) (tables : Tables) (columns : List WorldColumn) (world : World) → columns ≡ all_choices tables 0 query.hypos
    → first_impossible tables world.tables 0 query.hypos columns ≡ None → IsPossible query tables world
possible_told query tables columns world made e =
    let none : first_impossible tables world.tables 0 query.hypos (all_choices tables 0 query.hypos) ≡ None = rw (← made) e in
    let parts = and_parts (tables_can tables world.tables 0 query.hypos) (is_none (surplus world.tables (length query.hypos))) (sym (tables_same tables world.tables query.hypos 0 (length query.hypos) (omega arith)) ∙ ap is_none none) in
    let few = no_surplus world.tables (length query.hypos) parts.1 in
    let many = tables_there tables world.tables query.hypos 0 parts.0 (omega arith) in
    record { long = omega (arith, few, many); rows = parts.0 }

-- of a possible world nothing is impossible
pub possible_passes : (query : Query) (tables : Tables) (columns : List WorldColumn) (world : World) → columns ≡ all_choices tables 0 query.hypos → IsPossible query tables world
    → first_impossible tables world.tables 0 query.hypos columns ≡ None
possible_passes query tables columns world made p =
    let long = p.long in
    let none = surplus_none world.tables (length query.hypos) (omega (arith, long)) in
    rw (made) (none_is (first_impossible tables world.tables 0 query.hypos (all_choices tables 0 query.hypos))
    (tables_same tables world.tables query.hypos 0 (length query.hypos) (omega arith) ∙ rw (p.rows, none) refl))
