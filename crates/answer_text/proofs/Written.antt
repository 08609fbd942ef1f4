-- the sections that are written of a possible world are read again as that world
use Rattle.std.proofs.Common.{◌≡◌, ◌<◌, ◌+◌, ℕ, suc, Bool, true, false, List, [], ◌∷◌, length, get_or, refl, sym, ◌∙◌, ap, subst, arith, Option, Some}
use Rattle.std.specs.Prelude.{Ok, All, slice_get}
use Rattle.std.specs.List.{AllZip}
use Rattle.std.proofs.lemmas.Bool.{and_parts}
use Rattle.std.proofs.lemmas.List.Elements.{All-from_get_or, All-head, All-tail}
use Rattle.std.proofs.lemmas.Option.{get_or_from_slice_get, slice_get_within}
use Rattle.base_kit.specs.declared.value.Value.{Value}
use Rattle.tiql_query.specs.declared.relation.QHypo.{QHypo}
use Rattle.tiql_query.specs.declared.relation.QTable.{QTable}
use Rattle.tiql_query.specs.declared.query.Query.{Query}
use Rattle.tiql_query.specs.declared.world_column.WorldColumn.{WorldColumn}
use Rattle.tiql_query.specs.WellFormed.{IsHypoFit, IsWellFormed}
use Rattle.tiql_query.specs.Keys.{HaveDistinctKeys, key_at}
use Rattle.tiql_query.specs.Rows.{AreRowsOf, AreTables, IsOfColumn}
use Rattle.tiql_query.proofs.Rows.{table_has_rows}
use Rattle.answer_text.specs.declared.answer.WorldText.{WorldText}
use Rattle.answer_text.specs.Worlds as read
use Rattle.world_def.specs.declared.world.World.{World}
use Rattle.world_def.specs.declared.world.WorldTable.{WorldTable}
use Rattle.world_def.specs.Columns.{Rows, Tables, columns_of, rows_of}
use Rattle.world_def.specs.Meaning.{IsPossible, all_choices, rows_can, rows_choices, table_can, tables_can}
use Rattle.world_def.proofs.Choices.{columns_told}
use Rattle.answer_text.specs.Written.{AreWritten, IsWritten}
use Rattle.world_def.proofs.Bounded.{AreBounded, bounded_first, bounded_second, columns_bounded}
use Rattle.world_def.proofs.Held.{key_kept, row_held}
use Rattle.answer_text.proofs.Marks.{plain_table, set_long, set_rows, set_table}
use Rattle.world_def.proofs.Standing.{AreStanding, table_standing}

-- ---- the rows of one table of a possible world

module _ (query : Query) (hypo : QHypo) (fit : IsHypoFit query hypo) (number : ℕ) (bases : Rows) (are : AreRowsOf fit.table bases) (picks : List ℕ) (rows : Rows) (stand : AreStanding number hypo bases 0 picks rows) where
  -- a row has the key of the row of the table with its number
  row_key : (place : ℕ) → place < length rows → key_at fit.table.key rows place ≡ key_at fit.table.key bases (get_or picks place 0)
  row_key place less =
      let is = stand.each place less in
      key_kept number hypo (get_or picks place 0) (get_or bases (get_or picks place 0) []) fit.table.key (get_or rows place []) fit.keys is.fits

  world_distinct : HaveDistinctKeys fit.table.key rows
  world_distinct = λ some i j before less same.
      let within = (stand.each j less).within in
      let earlier : i < length rows = omega (arith, before, less) in
      are.keys some (get_or picks i 0) (get_or picks j 0) (stand.rising i j before less) within (sym (row_key i earlier) ∙ same ∙ row_key j less)

  -- the table may have these rows
  pub world_rows : AreRowsOf fit.table rows
  world_rows = record {
    each = All-from_get_or (λ (row : List Value). AllZip IsOfColumn fit.table.columns row) rows [] (λ place less.
        let is = stand.each place less in
        row_held number hypo (get_or picks place 0) (get_or bases (get_or picks place 0) []) fit.table.columns (get_or rows place []) fit.bounds is.bounded (are.each (get_or picks place 0) [] is.within) is.fits);
    few = let most = are.few in let short = stand.few in omega (arith, most, short);
    keys = world_distinct;
  }

  -- without a key no row is left out
  kept_places : length fit.table.key ≡ 0 → (place : ℕ) → place < length rows → get_or picks place 0 ≡ place
  kept_places none place less = stand.placed (not_dropped hypo.droppable refl) place less ∙ (let k : 0 + place ≡ place = omega arith in k)
    where
      not_dropped : (b : Bool) → hypo.droppable ≡ b → b ≡ false
      not_dropped true e = let some = fit.dropped e in absurd (omega (arith, some, none))
      not_dropped false e = refl

  -- each is the row of the table with its number
  pub world_picks : read.ArePicks fit.table.key bases rows picks
  world_picks = record {
    count = stand.count;
    each = λ place less. record {
      within = (stand.each place less).within;
      keyed = λ some. sym (row_key place less);
      placed = λ none. kept_places none place less;
    };
  }

-- ---- the tables of a possible world

table_rows : (query : Query) (tables : Tables) (number : ℕ) (table : QTable) → AreTables query tables → slice_get query.tables number ≡ Some table → AreRowsOf table (rows_of tables number)
unfolding rows_of
table_rows query tables number table are there = let has = table_has_rows query tables number table are there in rw (has.1) has.2

module _ (query : Query) (tables : Tables) (are : AreTables query tables) (some : All (λ table. 0 < length table.columns) query.tables) where
  table_some : (number : ℕ) (table : QTable) → slice_get query.tables number ≡ Some table → 0 < length table.columns
  table_some number table there =
      subst (λ (t : QTable). 0 < length t.columns) (get_or_from_slice_get query.tables number table table there) (some number table (slice_get_within query.tables number table there))

  -- a section is read as its table
  section_read : (hypo : QHypo) (number : ℕ) (found : WorldTable) (text : WorldText) → IsHypoFit query hypo → AreBounded (rows_choices number hypo 0 (rows_of tables hypo.table))
      → rows_can number hypo 0 (rows_of tables hypo.table) found.picks found.rows ≡ true → IsWritten hypo found text → read.IsSectionOf query tables hypo text found
  section_read hypo number found text fit bounded can section =
      let bases = rows_of tables hypo.table in
      let rows = table_rows query tables hypo.table fit.table are fit.there in
      let stand = table_standing number hypo bases found.picks found.rows bounded can in
      let held = world_rows query hypo fit number bases rows found.picks found.rows stand in
      let wide : length hypo.columns ≡ length fit.table.columns = ap length fit.columns ∙ set_long hypo.set 0 fit.table.columns in
      let one = table_some hypo.table fit.table fit.there in
      record {
        table = fit.table;
        there = fit.there;
        right = record {
          named = section.name;
          rows = plain_table hypo.set text.bytes fit.table found.rows (section.read (set_table hypo.set fit.table) (sym fit.columns) (omega (arith, wide, one)) (set_rows hypo.set fit.table found.rows held));
          count = section.rows;
          picks = world_picks query hypo fit number bases rows found.picks found.rows stand;
        };
      }

  -- and so are those of the hypothetical tables from this number on
  sections_read : (hypos : List QHypo) (number : ℕ) (whole rest : List WorldTable) (texts : List WorldText) → All (IsHypoFit query) hypos → ((k : ℕ) → slice_get rest k ≡ slice_get whole (number + k))
      → AreBounded (all_choices tables number hypos) → tables_can tables whole number hypos ≡ true → AreWritten hypos rest texts → read.AreSections query tables hypos texts rest
  unfolding AreWritten tables_can all_choices
  sections_read [] number whole [] [] fit same bounded can sections = tt
  sections_read [] number whole [] (text ∷ texts) fit same bounded can sections = absurd sections
  sections_read [] number whole (table ∷ rest) texts fit same bounded can sections = absurd sections
  sections_read (hypo ∷ hypos) number whole [] texts fit same bounded can sections = absurd sections
  sections_read (hypo ∷ hypos) number whole (table ∷ rest) [] fit same bounded can sections = absurd sections
  sections_read (hypo ∷ hypos) number whole (table ∷ rest) (text ∷ texts) fit same bounded can sections =
      let bases = rows_of tables hypo.table in
      let parts = and_parts (table_can number hypo bases (slice_get whole number)) (tables_can tables whole (number + 1) hypos) can in
      let from : number + 0 ≡ number = omega arith in
      let here : slice_get whole number ≡ Some table = ap (slice_get whole) (sym from) ∙ sym (same 0) in
      let mine : rows_can number hypo 0 bases table.picks table.rows ≡ true = subst (λ (made : Option WorldTable). table_can number hypo bases made ≡ true) here parts.0 in
      let first = bounded_first (rows_choices number hypo 0 bases) (all_choices tables (number + 1) hypos) bounded in
      let later = bounded_second (rows_choices number hypo 0 bases) (all_choices tables (number + 1) hypos) bounded in (
        section_read hypo number table text (All-head (IsHypoFit query) hypo hypos fit) first mine sections.0,
        sections_read hypos (number + 1) whole rest texts (All-tail (IsHypoFit query) hypo hypos fit)
            (λ k. let next : number + suc k ≡ (number + 1) + k = omega arith in same (suc k) ∙ ap (slice_get whole) next) later parts.1 sections.1,
      )

-- what is told of a possible world is read as that world, where no table is without a column
pub rows_read : (query : Query) (tables : Tables) (columns : List WorldColumn) (worlds : List WorldText) (world : World) → IsWellFormed query → AreTables query tables → columns_of query tables ≡ Ok columns
    → All (λ table. 0 < length table.columns) query.tables → IsPossible query tables world → AreWritten query.hypos world.tables worlds → read.IsWorldOf query tables worlds world
rows_read query tables columns worlds world fit are made some possible sections =
    let bounded = subst AreBounded (columns_told query tables columns made) (columns_bounded query tables columns made) in
    sections_read query tables are some query.hypos 0 world.tables world.tables worlds fit.hypos
    (λ k. let from : k ≡ 0 + k = omega arith in ap (slice_get world.tables) from) bounded possible.rows sections
