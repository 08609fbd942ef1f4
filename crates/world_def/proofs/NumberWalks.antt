-- walks along the rows of worlds that gather their numbers, or that make the rows from numbers
use Rattle.std.proofs.Common.{◌≡◌, ℕ, ℤ, ◌+◌, ◌<◌, ◌≤◌, Bool, true, false, List, [], ◌∷◌, ◌++◌, length, map, get_or, take, drop, refl, sym, ◌∙◌, ap, ap₂, subst, ◌⊎◌, inl, inr, arith, append_assoc, Option, Some, None}
use Rattle.std.specs.Prelude.{slice_get, unwrap_or, All, zero, suc}
use Rattle.std.proofs.lemmas.Option.{slice_get_cases}
use Rattle.std.proofs.lemmas.List.{drop_more, drop_all, drop-drop}
use Rattle.base_kit.specs.declared.value.Value.{Value}
use Rattle.tiql_query.specs.declared.relation.QHypo.{QHypo}
use Rattle.tiql_query.specs.declared.world_column.WorldColumn.{WorldColumn}
use Rattle.world_def.specs.declared.world.WorldTable.{WorldTable}
use Rattle.world_def.specs.Columns.{Rows, Tables, rows_of}
use Rattle.world_def.specs.Worlds.{leading, of_hypo, of_row, standing, count_of, number_in, rows_numbers, table_numbers, world_numbers, with_number, row_with, is_left_out, put_row, no_rows, one_row, rows_at, tables_at}

append_nil : {A : Type 0} (xs : List A) → xs ++ [] ≡ xs
append_nil [] = refl
append_nil (x ∷ xs) = ap (λ l. x ∷ l) (append_nil xs)

joined : {A : Type 0} (made a b whole more r : List A) → more ≡ made ++ a → whole ≡ a ++ b → made ++ whole ≡ r → more ++ b ≡ r
joined made a b whole more r m w h = rw m (append_assoc made a b ∙ ap (λ l. made ++ l) (sym w) ∙ h)

module _ (bases : Rows) (columns : List WorldColumn) (picks : List ℕ) (rows : Rows) (i from next end n : ℕ) (here : Option (List Value)) (made more r : List ℤ) where
  pub numbers_step : i < length bases → end ≡ leading (of_row i) (drop from columns) → here ≡ standing i (drop next picks) (drop next rows) → n ≡ count_of here
      → more ≡ made ++ map (number_in here) (take end (drop from columns))
      → made ++ rows_numbers i (drop i bases) (drop from columns) (drop next picks) (drop next rows) ≡ r
      → more ++ rows_numbers (i + 1) (drop (i + 1) bases) (drop (from + end) columns) (drop (next + n) picks) (drop (next + n) rows) ≡ r
  unfolding rows_numbers
  numbers_step lt e s c m h =
      let on : rows_numbers i (drop i bases) (drop from columns) (drop next picks) (drop next rows)
      ≡ map (number_in here) (take end (drop from columns)) ++ rows_numbers (i + 1) (drop (i + 1) bases) (drop end (drop from columns)) (drop n (drop next picks)) (drop n (drop next rows))
      = rw (drop_more bases i [] lt, ← e, ← s, ← c) refl in
      rw (← drop-drop end from columns, ← drop-drop n next picks, ← drop-drop n next rows) (joined made _ _ _ more r m on h)

pub numbers_end : (bases : Rows) (columns : List WorldColumn) (picks : List ℕ) (rows : Rows) (i : ℕ) (made r : List ℤ) → length bases ≤ i → made ++ rows_numbers i (drop i bases) columns picks rows ≡ r → made ≡ r
unfolding rows_numbers
numbers_end bases columns picks rows i made r le h = sym (append_nil made) ∙ sym (rw (drop_all i bases le) refl) ∙ h

module _ (tables : Tables) (world : List WorldTable) (hypos : List QHypo) (columns : List WorldColumn) (i from end : ℕ) (hypo : QHypo) (bases : Rows) (table : Option WorldTable) (made more r : List ℤ) where
  pub world_step : i < length hypos → hypo ≡ get_or hypos i hypo → end ≡ leading (of_hypo i) (drop from columns) → bases ≡ rows_of tables hypo.table → table ≡ slice_get world i
      → more ≡ made ++ table_numbers bases (take end (drop from columns)) table
      → made ++ world_numbers tables world i (drop i hypos) (drop from columns) ≡ r
      → more ++ world_numbers tables world (i + 1) (drop (i + 1) hypos) (drop (from + end) columns) ≡ r
  unfolding world_numbers
  world_step lt is e b t m h =
      let on : world_numbers tables world i (drop i hypos) (drop from columns) ≡ table_numbers bases (take end (drop from columns)) table ++ world_numbers tables world (i + 1) (drop (i + 1) hypos) (drop end (drop from columns))
      = rw (drop_more hypos i hypo lt, ← is, ← e, ← b, ← t) refl in
      rw (← drop-drop end from columns) (joined made _ _ _ more r m on h)

pub world_end : (tables : Tables) (world : List WorldTable) (hypos : List QHypo) (columns : List WorldColumn) (i : ℕ) (made r : List ℤ) → length hypos ≤ i → made ++ world_numbers tables world i (drop i hypos) columns ≡ r → made ≡ r
unfolding world_numbers
world_end tables world hypos columns i made r le h = sym (append_nil made) ∙ sym (rw (drop_all i hypos le) refl) ∙ h

module _ (tables : Tables) (hypos : List QHypo) (columns : List WorldColumn) (numbers : List ℤ) (i from end : ℕ) (hypo : QHypo) (bases : Rows) (table : WorldTable) (made more r : List WorldTable) where
  pub tables_step : i < length hypos → hypo ≡ get_or hypos i hypo → end ≡ leading (of_hypo i) (drop from columns) → bases ≡ rows_of tables hypo.table
      → table ≡ rows_at 0 bases (take end (drop from columns)) (take end (drop from numbers))
      → more ≡ made ++ table ∷ []
      → made ++ tables_at tables i (drop i hypos) (drop from columns) (drop from numbers) ≡ r
      → more ++ tables_at tables (i + 1) (drop (i + 1) hypos) (drop (from + end) columns) (drop (from + end) numbers) ≡ r
  unfolding tables_at
  tables_step lt is e b t m h =
      let on : tables_at tables i (drop i hypos) (drop from columns) (drop from numbers) ≡ table ∷ tables_at tables (i + 1) (drop (i + 1) hypos) (drop end (drop from columns)) (drop end (drop from numbers))
      = rw (drop_more hypos i hypo lt, ← is, ← e, ← b, ← t) refl in
      rw (← drop-drop end from columns, ← drop-drop end from numbers) (joined made (table ∷ []) _ _ more r m on h)

pub tables_end : (tables : Tables) (hypos : List QHypo) (columns : List WorldColumn) (numbers : List ℤ) (i : ℕ) (made r : List WorldTable) → length hypos ≤ i → made ++ tables_at tables i (drop i hypos) columns numbers ≡ r → made ≡ r
unfolding tables_at
tables_end tables hypos columns numbers i made r le h = sym (append_nil made) ∙ sym (rw (drop_all i hypos le) refl) ∙ h

put_picks : (gone : Bool) (at : ℕ) (row : List Value) (later : WorldTable) → (put_row gone at row later).picks ≡ (one_row gone at row).picks ++ later.picks
put_picks true at row later = refl
put_picks false at row later = refl

put_rows : (gone : Bool) (at : ℕ) (row : List Value) (later : WorldTable) → (put_row gone at row later).rows ≡ (one_row gone at row).rows ++ later.rows
put_rows true at row later = refl
put_rows false at row later = refl

module _ (bases : Rows) (columns : List WorldColumn) (numbers : List ℤ) (i from end : ℕ) (base : List Value) (gone : Bool) (lt : i < length bases) (is : base ≡ get_or bases i base) (e : end ≡ leading (of_row i) (drop from columns))
    (g : gone ≡ is_left_out (take end (drop from columns)) (take end (drop from numbers))) where
  on : rows_at i (drop i bases) (drop from columns) (drop from numbers)
      ≡ put_row gone i (row_with (take end (drop from columns)) (take end (drop from numbers)) base) (rows_at (i + 1) (drop (i + 1) bases) (drop end (drop from columns)) (drop end (drop from numbers)))
  unfolding rows_at
  on = rw (drop_more bases i base lt, ← is, ← e, ← g) refl

  pub picks_step : (made more r : List ℕ) → more ≡ made ++ (one_row gone i (row_with (take end (drop from columns)) (take end (drop from numbers)) base)).picks
      → made ++ (rows_at i (drop i bases) (drop from columns) (drop from numbers)).picks ≡ r
      → more ++ (rows_at (i + 1) (drop (i + 1) bases) (drop (from + end) columns) (drop (from + end) numbers)).picks ≡ r
  picks_step made more r m h =
      rw (← drop-drop end from columns, ← drop-drop end from numbers)
      (joined made (one_row gone i (row_with (take end (drop from columns)) (take end (drop from numbers)) base)).picks _ _ more r m (ap (λ (t : WorldTable). t.picks) on ∙ put_picks gone i _ _) h)

  pub rows_step : (made more r : Rows) → more ≡ made ++ (one_row gone i (row_with (take end (drop from columns)) (take end (drop from numbers)) base)).rows
      → made ++ (rows_at i (drop i bases) (drop from columns) (drop from numbers)).rows ≡ r
      → more ++ (rows_at (i + 1) (drop (i + 1) bases) (drop (from + end) columns) (drop (from + end) numbers)).rows ≡ r
  rows_step made more r m h =
      rw (← drop-drop end from columns, ← drop-drop end from numbers)
      (joined made (one_row gone i (row_with (take end (drop from columns)) (take end (drop from numbers)) base)).rows _ _ more r m (ap (λ (t : WorldTable). t.rows) on ∙ put_rows gone i _ _) h)

pub rows_end : (bases : Rows) (columns : List WorldColumn) (numbers : List ℤ) (i : ℕ) → length bases ≤ i → rows_at i (drop i bases) columns numbers ≡ no_rows
unfolding rows_at
rows_end bases columns numbers i le = rw (drop_all i bases le) refl

pub made_all : (made whole later : WorldTable) → later ≡ no_rows → made.picks ++ later.picks ≡ whole.picks → made.rows ++ later.rows ≡ whole.rows → made ≡ whole
made_all made whole later none p q =
    let picks : made.picks ≡ whole.picks = sym (append_nil made.picks) ∙ sym (ap (λ (t : WorldTable). made.picks ++ t.picks) none) ∙ p in
    let rows : made.rows ≡ whole.rows = sym (append_nil made.rows) ∙ sym (ap (λ (t : WorldTable). made.rows ++ t.rows) none) ∙ q in
    let make : List ℕ → Rows → WorldTable = λ p q. record { picks = p; rows = q } in
    ap₂ make picks rows

module _ (columns : List WorldColumn) (numbers : List ℤ) (i : ℕ) (d : WorldColumn) (z : ℤ) (row more r : List Value) where
  pub row_step : i < length columns → length numbers ≡ length columns → more ≡ with_number (get_or columns i d) (get_or numbers i z) row → row_with (drop i columns) (drop i numbers) row ≡ r → row_with (drop (i + 1) columns) (drop (i + 1) numbers) more ≡ r
  unfolding row_with
  row_step lt long m h = rw m (sym (rw (drop_more columns i d lt, drop_more numbers i z (omega (arith, long))) refl) ∙ h)

pub row_end : (columns : List WorldColumn) (numbers : List ℤ) (i : ℕ) (row r : List Value) → length columns ≤ i → row_with (drop i columns) (drop i numbers) row ≡ r → row ≡ r
unfolding row_with
row_end columns numbers i row r le h = sym (rw (drop_all i columns le) refl) ∙ h

-- the world of given numbers has no more rows than the tables
put_small : (gone : Bool) (at n : ℕ) (row : List Value) (later : WorldTable) → length later.rows ≤ n → length (put_row gone at row later).rows ≤ suc n
put_small true at n row later le = omega (arith, le)
put_small false at n row later le = omega (arith, le)

rows_small : (at : ℕ) (bases : Rows) (columns : List WorldColumn) (numbers : List ℤ) → length (rows_at at bases columns numbers).rows ≤ length bases
unfolding rows_at
rows_small at [] columns numbers = omega arith
rows_small at (base ∷ bases) columns numbers = put_small _ at (length bases) _ _ (rows_small (at + 1) bases (drop (leading (of_row at) columns) columns) (drop (leading (of_row at) columns) numbers))

abbrev IsFew : Rows → Type 0
IsFew rows = length rows ≤ 200000

rows_is : (tables : Tables) (n : ℕ) (o : Option Rows) → slice_get tables n ≡ o → rows_of tables n ≡ unwrap_or o []
unfolding rows_of
rows_is tables n o e = rw e refl

table_small : (tables : Tables) → All IsFew tables → (n : ℕ) → length (rows_of tables n) ≤ 200000
table_small tables few n = by_case (slice_get_cases tables n).1
  where
    by_case : ((x : Rows) × (n < length tables) × (slice_get tables n ≡ Some x) × (get_or tables n x ≡ x)) ⊎ ((length tables ≤ n) × (slice_get tables n ≡ None)) → length (rows_of tables n) ≤ 200000
    by_case (inl h) = rw (rows_is tables n (Some h.0) h.2) (subst IsFew h.3 (few n h.0 h.1))
    by_case (inr h) = rw (rows_is tables n None h.1) (omega arith)

few_more : (table : WorldTable) (tables : List WorldTable) → length table.rows ≤ 200000 → All (λ table. length table.rows ≤ 200000) tables → All (λ table. length table.rows ≤ 200000) (table ∷ tables)
few_more table tables here later zero d lt = here
few_more table tables here later (suc k) d lt = later k d (omega (arith, lt))

pub tables_small : (tables : Tables) → All IsFew tables → (hypo : ℕ) (hypos : List QHypo) (columns : List WorldColumn) (numbers : List ℤ) → All (λ table. length table.rows ≤ 200000) (tables_at tables hypo hypos columns numbers)
unfolding tables_at
tables_small tables few hypo [] columns numbers = λ k d lt. omega (arith, lt)
tables_small tables few hypo (table ∷ hypos) columns numbers =
    let here = rows_small 0 (rows_of tables table.table) (take (leading (of_hypo hypo) columns) columns) (take (leading (of_hypo hypo) columns) numbers) in
    let few_here = table_small tables few table.table in
    few_more _ _ (omega (arith, here, few_here)) (tables_small tables few (hypo + 1) hypos (drop (leading (of_hypo hypo) columns) columns) (drop (leading (of_hypo hypo) columns) numbers))
