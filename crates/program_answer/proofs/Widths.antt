-- The rows of the world of a point have a value for each column; and the sections of a loop.
use Rattle.std.proofs.Common.{◌≡◌, ℕ, zero, suc, ◌+◌, ◌<◌, ◌≤◌, ℤ, Bool, true, false, List, [], ◌∷◌, ◌++◌, length, get_or, set, take, drop, refl, sym, ◌∙◌, ap, subst, arith}
use Rattle.std.specs.Prelude.{All, MatchOption, Option, Some, None, slice_get, unwrap_or}
use Rattle.std.specs.List.{AllZip}
use Rattle.std.specs.Option.{IsSomeAnd}
use Rattle.std.proofs.lemmas.List.{length-set, take_all, take_more}
use Rattle.std.proofs.lemmas.List.Elements.{All-nil, All-cons, All-tail, All-weaker}
use Rattle.std.proofs.lemmas.Slice.Zip.{AllZip-left, AllZip-long}
use Rattle.base_kit.specs.declared.value.Value.{Value}
use Rattle.base_kit.specs.declared.value.Value.TheVariants.{Int}
use Rattle.tiql_query.specs.declared.relation.Column.{Column}
use Rattle.tiql_query.specs.declared.relation.QBound.{QBound}
use Rattle.tiql_query.specs.declared.relation.QHypo.{QHypo}
use Rattle.tiql_query.specs.declared.relation.QTable.{QTable}
use Rattle.tiql_query.specs.declared.query.Query.{Query}
use Rattle.tiql_query.specs.declared.world_column.WorldColumn.{WorldColumn}
use Rattle.tiql_query.specs.WellFormed.{IsHypoFit, with_set}
use Rattle.answer_text.specs.declared.answer.WorldText.{WorldText}
use Rattle.tiql_query.specs.Rows.{AreRowsOf, AreTables, IsOfColumn}
use Rattle.world_def.specs.declared.world.WorldTable.{WorldTable}
use Rattle.world_def.specs.Columns.{Rows, Tables, rows_of}
use Rattle.world_def.specs.Worlds.{is_left_out, leading, of_hypo, of_row, put_row, row_with, rows_at, tables_at, with_number}
use Rattle.answer_text.specs.Written.{AreWritten, IsWritten}
use Rattle.program_answer.specs.Sections.{AreFit, IsFit}

-- a number set in a row leaves it as long
number_long : (column : WorldColumn) (n : ℤ) (row : List Value) → length (with_number column n row) ≡ length row
unfolding with_number
number_long column n row =
    elim column.cell as (λ (o : Option ℕ). length (elim o as (λ x. List Value) [ None ↦ row | Some place ↦ set row place (Int n) ]) ≡ length row) [ None ↦ refl | Some place ↦ length-set row place (Int n) ]

row_long : (columns : List WorldColumn) (numbers : List ℤ) (row : List Value) → length (row_with columns numbers row) ≡ length row
unfolding row_with
row_long [] numbers row = refl
row_long (column ∷ columns) [] row = refl
row_long (column ∷ columns) (n ∷ numbers) row = row_long columns numbers (with_number column n row) ∙ number_long column n row

-- the rows of a table of a world, from those of its table
abbrev AreWide : ℕ → Rows → Type 0
AreWide width rows = All (λ row. length row ≡ width) rows

put_wide : (width : ℕ) (gone : Bool) (at : ℕ) (row : List Value) (later : WorldTable) → length row ≡ width → AreWide width later.rows → AreWide width (put_row gone at row later).rows
put_wide width true at row later long wide = wide
put_wide width false at row later long wide = All-cons (λ (r : List Value). length r ≡ width) row later.rows long wide

put_few : (count : ℕ) (gone : Bool) (at : ℕ) (row : List Value) (later : WorldTable) → length later.rows ≤ count → length (put_row gone at row later).rows ≤ suc count
put_few count true at row later few = omega arith
put_few count false at row later few = omega arith

rows_wide : (width at : ℕ) (bases : Rows) (columns : List WorldColumn) (numbers : List ℤ) → AreWide width bases → AreWide width (rows_at at bases columns numbers).rows
unfolding rows_at
rows_wide width at [] columns numbers wide = All-nil (λ (r : List Value). length r ≡ width)
rows_wide width at (base ∷ bases) columns numbers wide =
    put_wide width (is_left_out (take (leading (of_row at) columns) columns) (take (leading (of_row at) columns) numbers)) at (row_with (take (leading (of_row at) columns) columns) (take (leading (of_row at) columns) numbers) base)
    (rows_at (at + 1) bases (drop (leading (of_row at) columns) columns) (drop (leading (of_row at) columns) numbers))
    (row_long (take (leading (of_row at) columns) columns) (take (leading (of_row at) columns) numbers) base ∙ wide 0 base (omega arith))
    (rows_wide width (at + 1) bases (drop (leading (of_row at) columns) columns) (drop (leading (of_row at) columns) numbers) (All-tail (λ (r : List Value). length r ≡ width) base bases wide))

rows_few : (at : ℕ) (bases : Rows) (columns : List WorldColumn) (numbers : List ℤ) → length (rows_at at bases columns numbers).rows ≤ length bases
unfolding rows_at
rows_few at [] columns numbers = omega arith
rows_few at (base ∷ bases) columns numbers =
    put_few (length bases) (is_left_out (take (leading (of_row at) columns) columns) (take (leading (of_row at) columns) numbers)) at (row_with (take (leading (of_row at) columns) columns) (take (leading (of_row at) columns) numbers) base)
    (rows_at (at + 1) bases (drop (leading (of_row at) columns) columns) (drop (leading (of_row at) columns) numbers))
    (rows_few (at + 1) bases (drop (leading (of_row at) columns) columns) (drop (leading (of_row at) columns) numbers))

-- the rows of a table that is there
rows_there : (declared : List QTable) (tables : Tables) (number : ℕ) (table : QTable) → AllZip AreRowsOf declared tables → slice_get declared number ≡ Some table → AreRowsOf table (rows_of tables number)
unfolding rows_of
rows_there declared tables number table all there =
    by_rows (slice_get tables number) (subst (λ (o : Option QTable). MatchOption o (Unit {0}) (λ declared. IsSomeAnd (slice_get tables number) (AreRowsOf declared))) there (AllZip-left AreRowsOf declared tables all number))
  where
    by_rows : (o : Option Rows) → IsSomeAnd o (AreRowsOf table) → AreRowsOf table (unwrap_or o [])
    by_rows (Some rows) h = h
    by_rows None h = absurd h

set_long : (set : List QBound) (n : ℕ) (columns : List Column) → length (with_set set n columns) ≡ length columns
unfolding with_set
set_long set n [] = refl
set_long set n (column ∷ columns) = ap suc (set_long set (n + 1) columns)

hypo_fit : (query : Query) (tables : Tables) (hypo : QHypo) (columns : List WorldColumn) (numbers : List ℤ) → AreTables query tables → IsHypoFit query hypo → IsFit hypo (rows_at 0 (rows_of tables hypo.table) columns numbers)
hypo_fit query tables hypo columns numbers given fit =
    let rows = rows_there query.tables tables hypo.table fit.table given fit.there in
    record {
      few = let less = rows_few 0 (rows_of tables hypo.table) columns numbers in let few = rows.few in omega (arith, less, few);
      wide = rows_wide (length hypo.columns) 0 (rows_of tables hypo.table) columns numbers
          (All-weaker (λ (row : List Value). AllZip IsOfColumn fit.table.columns row) (λ (row : List Value). length row ≡ length hypo.columns)
          (λ row all. AllZip-long IsOfColumn fit.table.columns row all ∙ sym (ap length fit.columns ∙ set_long hypo.set 0 fit.table.columns))
          (rows_of tables hypo.table) rows.each);
    }

pub world_fit : (query : Query) (tables : Tables) → AreTables query tables → (number : ℕ) (hypos : List QHypo) → All (IsHypoFit query) hypos → (columns : List WorldColumn) (numbers : List ℤ) → AreFit hypos (tables_at tables number hypos columns numbers)
unfolding AreFit tables_at
world_fit query tables given number [] all columns numbers = tt
world_fit query tables given number (hypo ∷ hypos) all columns numbers = (
  hypo_fit query tables hypo (take (leading (of_hypo number) columns) columns) (take (leading (of_hypo number) columns) numbers) given (all 0 hypo (omega arith)),
  world_fit query tables given (number + 1) hypos (All-tail (IsHypoFit query) hypo hypos all) (drop (leading (of_hypo number) columns) columns) (drop (leading (of_hypo number) columns) numbers),
)

-- a loop over the hypothetical tables
pub fit_long : (hypos : List QHypo) (tables : List WorldTable) → AreFit hypos tables → length tables ≡ length hypos
unfolding AreFit
fit_long [] [] fit = refl
fit_long [] (table ∷ tables) fit = absurd fit
fit_long (hypo ∷ hypos) [] fit = absurd fit
fit_long (hypo ∷ hypos) (table ∷ tables) fit = ap suc (fit_long hypos tables fit.1)

pub fit_at : (hypos : List QHypo) (tables : List WorldTable) (i : ℕ) (hypo : QHypo) (table : WorldTable) → AreFit hypos tables → i < length hypos → IsFit (get_or hypos i hypo) (get_or tables i table)
unfolding AreFit
fit_at [] [] i hypo table fit lt = absurd (omega (arith, lt))
fit_at [] (t ∷ tables) i hypo table fit lt = absurd fit
fit_at (h ∷ hypos) [] i hypo table fit lt = absurd fit
fit_at (h ∷ hypos) (t ∷ tables) zero hypo table fit lt = fit.0
fit_at (h ∷ hypos) (t ∷ tables) (suc i) hypo table fit lt = fit_at hypos tables i hypo table fit.1 (omega (arith, lt))

sections_push : (hypos : List QHypo) (tables : List WorldTable) (texts : List WorldText) (hypo : QHypo) (table : WorldTable) (text : WorldText) → AreWritten hypos tables texts → IsWritten hypo table text → AreWritten (hypos ++ hypo ∷ []) (tables ++ table ∷ []) (texts ++ text ∷ [])
unfolding AreWritten
sections_push [] [] [] hypo table text all here = (here, tt)
sections_push [] [] (x ∷ texts) hypo table text all here = absurd all
sections_push [] (t ∷ tables) texts hypo table text all here = absurd all
sections_push (h ∷ hypos) [] texts hypo table text all here = absurd all
sections_push (h ∷ hypos) (t ∷ tables) [] hypo table text all here = absurd all
sections_push (h ∷ hypos) (t ∷ tables) (x ∷ texts) hypo table text all here = (all.0, sections_push hypos tables texts hypo table text all.1 here)

pub sections_none : (hypos : List QHypo) (tables : List WorldTable) (texts : List WorldText) → texts ≡ [] → AreWritten (take 0 hypos) (take 0 tables) texts
unfolding AreWritten
sections_none hypos tables texts none = subst (AreWritten [] []) (sym none) tt

pub sections_more : (hypos : List QHypo) (tables : List WorldTable) (texts more : List WorldText) (i : ℕ) (hypo : QHypo) (table : WorldTable) (text : WorldText) → AreFit hypos tables → i < length hypos →
    hypo ≡ get_or hypos i hypo → table ≡ get_or tables i table → IsWritten hypo table text → more ≡ texts ++ text ∷ [] → AreWritten (take i hypos) (take i tables) texts → AreWritten (take (i + 1) hypos) (take (i + 1) tables) more
sections_more hypos tables texts more i hypo table text fit lt hypo_is table_is here pushed all =
    let first : take (i + 1) hypos ≡ take i hypos ++ hypo ∷ [] = take_more hypos i hypo lt ∙ ap (λ (h : QHypo). take i hypos ++ h ∷ []) (sym hypo_is) in
    let inside : i < length tables = let long = fit_long hypos tables fit in omega (arith, lt, long) in
    let second : take (i + 1) tables ≡ take i tables ++ table ∷ [] = take_more tables i table inside ∙ ap (λ (t : WorldTable). take i tables ++ t ∷ []) (sym table_is) in
    rw (first, second, pushed) (sections_push (take i hypos) (take i tables) texts hypo table text all here)

pub sections_all : (hypos : List QHypo) (tables : List WorldTable) (texts : List WorldText) (i : ℕ) → AreFit hypos tables → length hypos ≤ i → AreWritten (take i hypos) (take i tables) texts → AreWritten hypos tables texts
sections_all hypos tables texts i fit past all =
    let long = fit_long hypos tables fit in
    let first : take i hypos ≡ hypos = take_all i hypos past in
    let second : take i tables ≡ tables = take_all i tables (omega (arith, past, long)) in
    subst (λ (l : List QHypo). AreWritten l tables texts) first (subst (λ (l : List WorldTable). AreWritten (take i hypos) l texts) second all)
