-- a hypothetical table of a possible world, with its world columns and their numbers
use Rattle.std.proofs.Common.{◌≡◌, ◌∙◌, sym, ap, subst, refl, ℕ, zero, suc, ◌+◌, ◌<◌, ◌≤◌, ◌==◌, ◌||◌, ℤ, Bool, true, false, List, [], ◌∷◌, ◌++◌, length, get_or, drop, take, All, arith, Option, Some, None}
use Rattle.std.specs.Prelude.{slice_get, unwrap_or, option_map, Ok, IsTrue}
use Rattle.std.specs.List.{list_any, AllZip}
use Rattle.std.proofs.lemmas.Bool.{and_parts, lt-ltb, le-ltb, false≢true}
use Rattle.std.proofs.lemmas.List.{drop-drop}
use Rattle.std.proofs.lemmas.List.Elements.{All-head, All-tail}
use Rattle.std.proofs.lemmas.Option.{slice_get-map, get_or_from_slice_get, slice_get_within}
use Rattle.std.proofs.Math.Seq.{take-append_seam, drop-append_seam}
use Rattle.base_kit.specs.declared.value.Value.{Value}
use Rattle.base_kit.specs.declared.value.Value.TheVariants.{Int, Text}
use Rattle.tiql_query.specs.declared.relation.Column.{Column}
use Rattle.tiql_query.specs.declared.relation.QBound.{QBound}
use Rattle.tiql_query.specs.declared.relation.QHypo.{QHypo}
use Rattle.tiql_query.specs.declared.query.Query.{Query}
use Rattle.tiql_query.specs.declared.world_column.WorldColumn.{WorldColumn}
use Rattle.tiql_query.specs.Kinds.{kind_at, is_number}
use Rattle.tiql_query.specs.Rows.{IsOfColumn, AreRowsOf, AreTables}
use Rattle.tiql_query.specs.WellFormed.{with_set, IsBoundFit, IsHypoFit, IsWellFormed}
use Rattle.row_values.specs.Values.{number}
use Rattle.world_def.specs.declared.world.WorldTable.{WorldTable}
use Rattle.world_def.specs.Columns.{Rows, Tables, rows_of, columns_of}
use Rattle.world_def.specs.Worlds.{leading, of_hypo, rows_numbers, world_numbers}
use Rattle.world_def.specs.Meaning.{rows_choices, all_choices, rows_can, table_can, tables_can}
use Rattle.world_def.proofs.Choices.{columns_told}
use Rattle.world_def.proofs.Numbered.{numbers_told}
use Rattle.world_def.proofs.Restored.{equal_of, zero_value, numbers_length, drop_whole}
use Rattle.world_def.proofs.Runs.{Each, of_hypo_all, hypo_run}
use Rattle.world_def.proofs.Walks.{same_number}
use Rattle.sym_rows.specs.declared.row.SymRow.{SymRow}
use Rattle.std.proofs.Common.{Result}
use Rattle.prov_fold.specs.Graphs.{Graph}
use Rattle.prov_fold.specs.Meanings.{values_in}
use Rattle.sym_rows.specs.declared.fault.WalkFault.{WalkFault}
use Rattle.sym_rows.specs.Cells.{AreRowsOf as AreSymRows}
use Rattle.sym_rows.specs.Walks.{Makes}
use Rattle.sym_rows.proofs.Makes.{makes_is, makes_so}
use Rattle.sym_rows.specs.Hypos.{table_of, hypo_rows, rows_from, is_unknown_in, before_hypo, start_of, columns_in, rows_then, RowsThere, AreRowsThen}
use Rattle.sym_rows.specs.Possible.{AreOfWorlds}
use Rattle.sym_rows.proofs.PossibleRows.{AreNumbers, rows_are}

-- ---- the world columns of earlier hypothetical tables

before_other : (hypo h : ℕ) (xs ys : List WorldColumn) → hypo ≤ h → Each (λ c. of_hypo h c ≡ true) xs → leading (before_hypo hypo) ys ≡ 0 → leading (before_hypo hypo) (xs ++ ys) ≡ 0
unfolding leading
before_other hypo h [] ys le all none = none
before_other hypo h (x ∷ xs) ys le all none =
    let same = equal_of x.hypo h all.0 in
    rw (le-ltb x.hypo hypo (omega (arith, le, same))) refl

before_none : (tables : Tables) (hypos : List QHypo) (hypo h : ℕ) → hypo ≤ h → leading (before_hypo hypo) (all_choices tables h hypos) ≡ 0
unfolding all_choices leading
before_none tables [] hypo h le = refl
before_none tables (table ∷ others) hypo h le =
    before_other hypo h (rows_choices h table 0 (rows_of tables table.table)) (all_choices tables (h + 1) others) le (of_hypo_all h table h true (same_number h h refl) (rows_of tables table.table) 0)
    (before_none tables others hypo (h + 1) (omega (arith, le)))

before_all : (hypo h : ℕ) (xs ys : List WorldColumn) → h < hypo → Each (λ c. of_hypo h c ≡ true) xs → leading (before_hypo hypo) (xs ++ ys) ≡ length xs + leading (before_hypo hypo) ys
unfolding leading
before_all hypo h [] ys lt all = let k : 0 + leading (before_hypo hypo) ys ≡ leading (before_hypo hypo) ys = omega arith in sym k
before_all hypo h (x ∷ xs) ys lt all =
    let same = equal_of x.hypo h all.0 in
    let more = before_all hypo h xs ys lt all.1 in
    rw (lt-ltb x.hypo hypo (omega (arith, lt, same))) (omega (arith, more))

-- ---- a hypothetical table in its place

pub record Placed (tables : Tables) (world : List WorldTable) (numbers : List ℤ) (offset hypo : ℕ) (table : QHypo) (columns : List WorldColumn) : Type 0 where
  pub made : WorldTable
  pub more : List ℤ
  pub is : slice_get world hypo ≡ Some made
  pub can : rows_can hypo table 0 (rows_of tables table.table) made.picks made.rows ≡ true
  pub mine : columns_in hypo columns ≡ rows_choices hypo table 0 (rows_of tables table.table)
  pub numbers_are : drop (offset + start_of hypo columns) numbers ≡ rows_numbers 0 (rows_of tables table.table) (rows_choices hypo table 0 (rows_of tables table.table)) made.picks made.rows ++ more

module _ (tables : Tables) (world : List WorldTable) (numbers : List ℤ) (h : ℕ) (table : QHypo) (others : List QHypo) where
  mine_of : List WorldColumn
  mine_of = rows_choices h table 0 (rows_of tables table.table)

  rest_of : List WorldColumn
  rest_of = all_choices tables (h + 1) others

  here_placed : (offset : ℕ) (made : WorldTable) (more : List ℤ) → slice_get world h ≡ Some made → rows_can h table 0 (rows_of tables table.table) made.picks made.rows ≡ true
      → drop offset numbers ≡ rows_numbers 0 (rows_of tables table.table) mine_of made.picks made.rows ++ more → Placed tables world numbers offset h table (mine_of ++ rest_of)
  unfolding mine_of rest_of
  here_placed offset made more is can e =
      let none : start_of h (rows_choices h table 0 (rows_of tables table.table) ++ all_choices tables (h + 1) others) ≡ 0 =
      before_other h h (rows_choices h table 0 (rows_of tables table.table)) (all_choices tables (h + 1) others) (omega arith) (of_hypo_all h table h true (same_number h h refl) (rows_of tables table.table) 0) (before_none tables others h (h + 1) (omega arith)) in
      record {
        made = made;
        more = more;
        is = is;
        can = can;
        mine = rw none (rw (hypo_run tables h table others) (take-append_seam (rows_choices h table 0 (rows_of tables table.table)) (all_choices tables (h + 1) others)));
        numbers_are = ap (λ (n : ℕ). drop n numbers) (omega (arith, none)) ∙ e;
      }

  later_placed : (offset hypo : ℕ) (later : QHypo) → h < hypo → Placed tables world numbers (offset + length mine_of) hypo later rest_of → Placed tables world numbers offset hypo later (mine_of ++ rest_of)
  unfolding mine_of rest_of
  later_placed offset hypo later lt p =
      let s = before_all hypo h (rows_choices h table 0 (rows_of tables table.table)) (all_choices tables (h + 1) others) lt (of_hypo_all h table h true (same_number h h refl) (rows_of tables table.table) 0) in
      let d : drop (start_of hypo (rows_choices h table 0 (rows_of tables table.table) ++ all_choices tables (h + 1) others)) (rows_choices h table 0 (rows_of tables table.table) ++ all_choices tables (h + 1) others) ≡ drop (start_of hypo (all_choices tables (h + 1) others)) (all_choices tables (h + 1) others) =
      ap (λ (n : ℕ). drop n (rows_choices h table 0 (rows_of tables table.table) ++ all_choices tables (h + 1) others)) s
      ∙ sym (drop-drop (start_of hypo (all_choices tables (h + 1) others)) (length (rows_choices h table 0 (rows_of tables table.table))) (rows_choices h table 0 (rows_of tables table.table) ++ all_choices tables (h + 1) others))
      ∙ ap (drop (start_of hypo (all_choices tables (h + 1) others))) (drop-append_seam (rows_choices h table 0 (rows_of tables table.table)) (all_choices tables (h + 1) others)) in
      record {
        made = p.made;
        more = p.more;
        is = p.is;
        can = p.can;
        mine = ap (λ (l : List WorldColumn). take (leading (of_hypo hypo) l) l) d ∙ p.mine;
        numbers_are = ap (λ (n : ℕ). drop n numbers) (omega (arith, s)) ∙ p.numbers_are;
      }

same_hypo : (one other : QHypo) → ◌≡◌ {A = Option QHypo} (Some one) (Some other) → one ≡ other
same_hypo one other e = cc

-- the numbers of the first hypothetical table, and of those behind it
first_numbers : (tables : Tables) (world : List WorldTable) (h : ℕ) (first : QHypo) (others : List QHypo) (made : WorldTable) → slice_get world h ≡ Some made
    → world_numbers tables world h (first ∷ others) (all_choices tables h (first ∷ others)) ≡ rows_numbers 0 (rows_of tables first.table) (rows_choices h first 0 (rows_of tables first.table)) made.picks made.rows ++ world_numbers tables world (h + 1) others (all_choices tables (h + 1) others)
unfolding world_numbers all_choices
first_numbers tables world h first others made is =
    rw (hypo_run tables h first others, take-append_seam (rows_choices h first 0 (rows_of tables first.table)) (all_choices tables (h + 1) others), drop-append_seam (rows_choices h first 0 (rows_of tables first.table)) (all_choices tables (h + 1) others), is) refl

placed : (tables : Tables) (world : List WorldTable) (numbers : List ℤ) (hypos : List QHypo) (h k hypo offset : ℕ) (table : QHypo) → hypo ≡ h + k → slice_get hypos k ≡ Some table → tables_can tables world h hypos ≡ true
    → drop offset numbers ≡ world_numbers tables world h hypos (all_choices tables h hypos) → Placed tables world numbers offset hypo table (all_choices tables h hypos)
unfolding tables_can all_choices mine_of rest_of
placed tables world numbers [] h k hypo offset table at is can e = absurd (let no : ◌≡◌ {A = Option QHypo} None (Some table) = is in cc)
placed tables world numbers (first ∷ others) h zero hypo offset table at is can e =
    let ps = and_parts (table_can h first (rows_of tables first.table) (slice_get world h)) (tables_can tables world (h + 1) others) can in
    by_table (slice_get world h) refl ps.0
  where
    by_table : (made : Option WorldTable) → slice_get world h ≡ made → table_can h first (rows_of tables first.table) made ≡ true → Placed tables world numbers offset hypo table (rows_choices h first 0 (rows_of tables first.table) ++ all_choices tables (h + 1) others)
    by_table None m c = absurd (let no : false ≡ true = c in cc)
    by_table (Some made) m c =
        let same : h ≡ hypo = omega (arith, at) in
        subst (λ (n : ℕ). Placed tables world numbers offset n table (rows_choices h first 0 (rows_of tables first.table) ++ all_choices tables (h + 1) others)) same
        (subst (λ (t : QHypo). Placed tables world numbers offset h t (rows_choices h first 0 (rows_of tables first.table) ++ all_choices tables (h + 1) others)) (same_hypo first table is)
        (here_placed tables world numbers h first others offset made (world_numbers tables world (h + 1) others (all_choices tables (h + 1) others)) m c (e ∙ first_numbers tables world h first others made m)))
placed tables world numbers (first ∷ others) h (suc k) hypo offset table at is can e =
    let ps = and_parts (table_can h first (rows_of tables first.table) (slice_get world h)) (tables_can tables world (h + 1) others) can in
    by_table (slice_get world h) refl ps.0 (λ behind. placed tables world numbers others (h + 1) k hypo (offset + length (rows_choices h first 0 (rows_of tables first.table))) table (omega (arith, at)) is ps.1 behind)
  where
    mine : List WorldColumn
    mine = rows_choices h first 0 (rows_of tables first.table)

    by_table : (made : Option WorldTable) → slice_get world h ≡ made → table_can h first (rows_of tables first.table) made ≡ true
        → (drop (offset + length mine) numbers ≡ world_numbers tables world (h + 1) others (all_choices tables (h + 1) others) → Placed tables world numbers (offset + length mine) hypo table (all_choices tables (h + 1) others))
        → Placed tables world numbers offset hypo table (mine ++ all_choices tables (h + 1) others)
    by_table None m c go = absurd (let no : false ≡ true = c in cc)
    by_table (Some made) m c go =
        later_placed tables world numbers h first others offset hypo table (omega (arith, at))
        (go (sym (drop-drop (length mine) offset numbers) ∙ ap (drop (length mine)) (e ∙ first_numbers tables world h first others made m)
        ∙ drop_whole (rows_numbers 0 (rows_of tables first.table) mine made.picks made.rows) (world_numbers tables world (h + 1) others (all_choices tables (h + 1) others)) (length mine) (numbers_length h first (rows_of tables first.table) 0 made.picks made.rows)))

-- ---- unknown columns hold numbers

any_bound : (columns : List Column) (set : List QBound) (m : ℕ) → All (IsBoundFit columns) set → list_any (λ bound. bound.column == m) set ≡ true → IsTrue (is_number (kind_at (columns ∷ []) (record { source = 0; column = m })))
any_bound columns [] m fit e = absurd (false≢true e)
any_bound columns (bound ∷ set) m fit e = by_test (bound.column == m) refl e (any_bound columns set m (All-tail (IsBoundFit columns) bound set fit))
  where
    by_test : (b : Bool) → (bound.column == m) ≡ b → (b || list_any (λ bound. bound.column == m) set) ≡ true → (list_any (λ bound. bound.column == m) set ≡ true → IsTrue (is_number (kind_at (columns ∷ []) (record { source = 0; column = m }))))
        → IsTrue (is_number (kind_at (columns ∷ []) (record { source = 0; column = m })))
    by_test true t e later = subst (λ (n : ℕ). IsTrue (is_number (kind_at (columns ∷ []) (record { source = 0; column = n })))) (equal_of bound.column m t) (All-head (IsBoundFit columns) bound set fit).column
    by_test false t e later = later e

set_unknown : (set : List QBound) (n : ℕ) (columns : List Column) (place : ℕ) → is_unknown_in (with_set set n columns) place ≡ true → list_any (λ bound. bound.column == n + place) set ≡ true
unfolding with_set
set_unknown set n [] place e = absurd (false≢true e)
set_unknown set n (column ∷ columns) zero e = ap (λ (m : ℕ). list_any (λ bound. bound.column == m) set) (let k : n + 0 ≡ n = omega arith in k) ∙ e
set_unknown set n (column ∷ columns) (suc place) e = ap (λ (m : ℕ). list_any (λ bound. bound.column == m) set) (let k : n + suc place ≡ n + 1 + place = omega arith in k) ∙ set_unknown set (n + 1) columns place e

abbrev is_text : Bool → Bool
is_text true = false
is_text false = true

int_of : (columns : List Column) (row : List Value) (place : ℕ) → AllZip IsOfColumn columns row → place < length row → IsTrue (is_number (kind_at (columns ∷ []) (record { source = 0; column = place }))) → Int (number (get_or row place zero_value)) ≡ get_or row place zero_value
unfolding kind_at
int_of columns [] place all lt e = absurd (omega arith)
int_of [] (value ∷ row) place all lt e = absurd all
int_of (column ∷ columns) (Int n ∷ row) zero all lt e = refl
int_of (column ∷ columns) (Text t ∷ row) zero all lt e = absurd (by_text column.text all.0.0 e)
  where
    by_text : (b : Bool) → b ≡ true → is_text b ≡ true → ⊥
    by_text true t e = false≢true e
    by_text false t e = false≢true t
int_of (column ∷ columns) (value ∷ row) (suc place) all lt e = int_of columns row place all.1 (omega (arith, lt)) e

zip_at : {X Y : Type 0} (P : X → Y → Type 0) (xs : List X) (ys : List Y) (n : ℕ) (x : X) (d : Y) → AllZip P xs ys → slice_get xs n ≡ Some x → P x (unwrap_or (slice_get ys n) d)
zip_at {X} {Y} P [] ys n x d all is = absurd (let no : ◌≡◌ {A = Option X} None (Some x) = is in cc)
zip_at P (a ∷ xs) [] n x d all is = absurd all
zip_at {X} {Y} P (a ∷ xs) (b ∷ ys) zero x d all is = subst (λ (z : X). P z b) (let k : ◌≡◌ {A = Option X} (Some a) (Some x) = is in cc) all.0
zip_at P (a ∷ xs) (b ∷ ys) (suc n) x d all is = zip_at P xs ys n x d all.1 is

known_numbers : (query : Query) (tables : Tables) (hypo : QHypo) → IsHypoFit query hypo → AreTables query tables → All (AreNumbers hypo.columns) (rows_of tables hypo.table)
unfolding rows_of
known_numbers query tables hypo fit are =
    let rows = zip_at AreRowsOf query.tables tables hypo.table fit.table [] are fit.there in
    λ k d lt place inside e.
    int_of fit.table.columns (get_or (unwrap_or (slice_get tables hypo.table) []) k d) place (rows.each k d lt) inside
    (any_bound fit.table.columns hypo.set place fit.bounds (ap (λ (m : ℕ). list_any (λ bound. bound.column == m) hypo.set) (let k : place ≡ 0 + place = omega arith in k) ∙ set_unknown hypo.set 0 fit.table.columns place (ap (λ (l : List Column). is_unknown_in l place) (sym fit.columns) ∙ e)))

-- ---- the rows of a hypothetical table in a possible world

pub rows_possible : (query : Query) (tables : Tables) (columns : List WorldColumn) (hypo : ℕ) (table : QHypo) (made : List SymRow) (numbers : List ℤ) (v : ℕ → ℤ) → IsWellFormed query → AreTables query tables → columns_of query tables ≡ Ok columns → slice_get query.hypos hypo ≡ Some table
    → AreRowsThen table.columns 0 (start_of hypo columns) (rows_of tables table.table) (columns_in hypo columns) made numbers v → AreOfWorlds query tables columns hypo made numbers v
unfolding rows_of
rows_possible query tables columns hypo table made numbers v fit are told is so world possible same =
    let chosen = columns_told query tables columns told in
    let p : Placed tables world.tables numbers 0 hypo table (all_choices tables 0 query.hypos) =
    placed tables world.tables numbers query.hypos 0 hypo hypo 0 table (omega arith) is possible.rows (same ∙ sym (numbers_told query tables columns world chosen possible) ∙ ap (world_numbers tables world.tables 0 query.hypos) chosen) in
    let q : Placed tables world.tables numbers 0 hypo table columns = subst (Placed tables world.tables numbers 0 hypo table) (sym chosen) p in
    let all = rows_are numbers table.columns hypo table (rows_of tables table.table) 0 (start_of hypo columns) q.made.picks q.made.rows q.more (known_numbers query tables table (fit_of fit.hypos) are) (ap (λ (n : ℕ). drop n numbers) (let k : start_of hypo columns ≡ 0 + start_of hypo columns = omega arith in k) ∙ q.numbers_are) q.can in
    so (subst (RowsThere numbers 0 (start_of hypo columns) (rows_of tables table.table)) (sym q.mine) all.0)
    ∙ ap (rows_then numbers table.columns 0 (start_of hypo columns) (rows_of tables table.table)) q.mine ∙ all.1
    ∙ sym (ap (λ (o : Option Rows). unwrap_or o []) (slice_get-map (λ (t : WorldTable). t.rows) world.tables hypo ∙ ap (option_map (λ (t : WorldTable). t.rows)) q.is))
  where
    fit_of : All (IsHypoFit query) query.hypos → IsHypoFit query table
    fit_of all = subst (IsHypoFit query) (get_or_from_slice_get query.hypos hypo table table is) (all hypo table (slice_get_within query.hypos hypo table is))

-- ---- the whole call

pub hypo_told : (query : Query) (tables : Tables) (columns : List WorldColumn) (hypo : ℕ) (table : QHypo) (cols : List Column) (first : ℕ) (bases : Rows) (mine : List WorldColumn) (g after : Graph) (r : Result (List SymRow) WalkFault)
    → cols ≡ table.columns → first ≡ start_of hypo columns → bases ≡ rows_of tables table.table → mine ≡ columns_in hypo columns
    → slice_get query.hypos hypo ≡ Some table → IsWellFormed query → AreTables query tables → columns_of query tables ≡ Ok columns
    → Makes (rows_from cols 0 first bases mine g) AreSymRows (AreRowsThen cols 0 first bases mine) g r after → Makes (hypo_rows query tables columns hypo g) AreSymRows (AreOfWorlds query tables columns hypo) g r after
unfolding hypo_rows
hypo_told query tables columns hypo table cols first bases mine g after r a b c d is fit are told h =
    let one : Makes (rows_from table.columns 0 (start_of hypo columns) (rows_of tables table.table) (columns_in hypo columns) g) AreSymRows (AreRowsThen table.columns 0 (start_of hypo columns) (rows_of tables table.table) (columns_in hypo columns)) g r after =
    subst (λ (x : List WorldColumn). Makes (rows_from table.columns 0 (start_of hypo columns) (rows_of tables table.table) x g) AreSymRows (AreRowsThen table.columns 0 (start_of hypo columns) (rows_of tables table.table) x) g r after) d
    (subst (λ (x : Rows). Makes (rows_from table.columns 0 (start_of hypo columns) x mine g) AreSymRows (AreRowsThen table.columns 0 (start_of hypo columns) x mine) g r after) c
    (subst (λ (x : ℕ). Makes (rows_from table.columns 0 x bases mine g) AreSymRows (AreRowsThen table.columns 0 x bases mine) g r after) b
    (subst (λ (x : List Column). Makes (rows_from x 0 first bases mine g) AreSymRows (AreRowsThen x 0 first bases mine) g r after) a h))) in
    makes_is AreSymRows (AreOfWorlds query tables columns hypo) (table_of tables columns hypo (Some table) g) (table_of tables columns hypo (slice_get query.hypos hypo) g) g after r (ap (λ (o : Option QHypo). table_of tables columns hypo o g) (sym is))
    (makes_so AreSymRows (AreRowsThen table.columns 0 (start_of hypo columns) (rows_of tables table.table) (columns_in hypo columns)) (table_of tables columns hypo (Some table) g) AreSymRows (AreOfWorlds query tables columns hypo) g after r (λ rows good. good)
    (λ rows l world later so. rows_possible query tables columns hypo table rows world (values_in l world) fit are told is so) one)
