-- The whole reduction.
use Rattle.std.proofs.Common.{◌≡◌, ◌+◌, ◌<◌, ◌^◌, ℕ, ◌-ℤ◌, FitsSigned, w64, Option, None, Some, eqb, List, [], length, get_or, filter, sym, ap, ◌∙◌, subst, arith}
use Rattle.std.specs.List.{All, list_any, range_with_len}
use Rattle.std.specs.Option.{MatchOption}
use Rattle.std.specs.Prelude.{not}
use Rattle.std.proofs.lemmas.List.{length-map}
use Rattle.cross_links.specs.declared.entry.Entry.{Entry}
use Rattle.cross_links.specs.Layout.{Layout}
use Rattle.ip_rows.specs.declared.Bounds.{Bounds}
use Rattle.ip_rows.specs.declared.rows.Coef.{Coef}
use Rattle.ip_rows.specs.declared.rows.IpRow.{IpRow}
use Rattle.ip_rows.specs.declared.program.IpColumn.{IpColumn}
use Rattle.ip_rows.specs.declared.program.Program.{Program}
use Rattle.ip_rows.specs.Rows.{AreTerms}
use Rattle.ip_rows.specs.Programs.{IsWellFormed, IsMeasured, sides_of, is_fixed, fixed_sum}
use Rattle.ip_reduce.specs.Reductions.{IsFalse, IsFirstFalse, IsReduced, KeepsPoints}
use Rattle.ip_reduce.specs.Entries.{AreEntered, entries_in, count_of}
use Rattle.ip_reduce.specs.Sieves.{IsSieved}
use Rattle.ip_reduce.specs.Unlinking.{IsUnlinked}
use Rattle.ip_reduce.proofs.EntryLemmas.{live_rows}
use Rattle.ip_reduce.proofs.SieveLemmas.{sieve_points}

module _ (program : Program) (formed : IsWellFormed program) (measured : IsMeasured program) where
  abbrev sides : List Bounds
  sides = sides_of program.columns

  same_count : length sides ≡ length program.columns
  same_count = length-map program.columns (λ (column : IpColumn). column.sides)

  -- the rows of a measured program are light
  pub are_entered : AreEntered sides program.rows
  are_entered = record {
    formed = λ k d lt. subst (λ n. AreTerms n (get_or program.rows k d).terms) (sym same_count) (formed.rows k d lt);
    light = λ k d lt. record {
      there = subst (λ n. All (λ (t : Coef). t.column < n) (get_or program.rows k d).terms) (sym same_count) (formed.rows k d lt).there;
      small = let weighs = measured.rows k d lt in omega arith;
    };
  }

  pub few_entries : count_of program.rows + length program.rows + length program.columns < 2 ^ 32
  few_entries = let size = measured.size in let columns = measured.columns in omega arith

  pub few_rows : length program.rows < 2 ^ 31
  few_rows = let size = measured.size in omega arith

  -- the same of slices of the columns and the rows
  module _ (columns : List IpColumn) (rows : List IpRow) (columns_are : columns ≡ program.columns) (rows_are : rows ≡ program.rows) where
    pub slices_entered : AreEntered (sides_of columns) rows
    slices_entered = rw (columns_are, rows_are) are_entered

    pub slices_few : count_of rows + length rows + length columns < 2 ^ 32
    slices_few = rw (columns_are, rows_are) few_entries

    pub slices_fit : All (λ (row : IpRow). FitsSigned w64 (row.least -ℤ fixed_sum (sides_of columns) row.terms)) rows
    slices_fit = rw (columns_are, rows_are) measured.leasts

    pub slices_short : length rows < 2 ^ 31
    slices_short = rw rows_are few_rows

    pub columns_few : length columns < 2 ^ 32
    columns_few = rw columns_are (let few = measured.columns in omega arith)

  module _ (columns full : List ℕ) (kept : List IpRow) (found : Option ℕ) (grid : Layout)
      (columns_are : columns ≡ filter (λ column. not (is_fixed sides column)) (range_with_len 0 (length program.columns)))
      (sieved : IsSieved sides program.rows (length program.rows) kept full found) (unlinked : IsUnlinked (length program.rows) grid.unlinked full)
      (grid_rows : grid.rows ≡ length program.rows) (grid_columns : grid.columns ≡ length program.columns) (entries : grid.entries ≡ entries_in sides program.rows (length program.rows)) where
    first_false : (o : Option ℕ) → MatchOption o ((number : ℕ) → number < length program.rows → IsFalse sides program.rows number → ⊥) (λ f. (f < length program.rows) × IsFalse sides program.rows f × ((earlier : ℕ) → earlier < f → IsFalse sides program.rows earlier → ⊥)) → IsFirstFalse sides program.rows o
    first_false None none = λ number wrong. none number wrong.there wrong
    first_false (Some f) some = (some.1, some.2)

    pub is_reduced : IsReduced program (record { columns = columns; rows = kept; full = full; false_row = found; grid = grid })
    is_reduced = record {
      columns = columns_are;
      full_rises = sieved.full_rises;
      full = λ number. (
        (λ h. (sieved.numbers number (let lt = sieved.full_below h.0 number h.1 in let same = h.2 in omega arith)).0 h),
        (λ k. (sieved.numbers number k.there).1 k),
      );
      rows = sieved.rows_are;
      false_row = first_false found sieved.first_false;
      grid_rows = grid_rows;
      grid_columns = grid_columns;
      grid = ap (λ (es : List Entry). filter (λ (e : Entry). not (list_any (λ r. eqb r e.row) grid.unlinked)) es) entries ∙ live_rows sides program.rows grid.unlinked full unlinked.kept;
    }

    pub keeps_points : KeepsPoints program (record { columns = columns; rows = kept; full = full; false_row = found; grid = grid })
    keeps_points point between = sieve_points sides program.rows kept full found sieved are_entered.light point between

-- the same of what was made of slices of the columns and the rows
module _ (program : Program) (formed : IsWellFormed program) (measured : IsMeasured program) (given : List IpColumn) (rows : List IpRow) (given_are : given ≡ program.columns) (rows_are : rows ≡ program.rows)
    (columns full full' : List ℕ) (kept kept' : List IpRow) (found : Option ℕ) (grid first : Layout)
    (columns_are : columns ≡ filter (λ column. not (is_fixed (sides_of given) column)) (range_with_len 0 (length given)))
    (sieved : IsSieved (sides_of given) rows (length rows) kept full found) (unlinked : IsUnlinked (length rows) grid.unlinked full)
    (first_is : first ≡ record { rows = length rows; columns = length given; entries = entries_in (sides_of given) rows (length rows); unlinked = [] }) (grid_is : grid ≡ record first { unlinked = grid.unlinked })
    (kept_is : kept' ≡ kept) (full_is : full' ≡ full) where
  numbers_are : columns ≡ filter (λ column. not (is_fixed (sides_of program.columns) column)) (range_with_len 0 (length program.columns))
  numbers_are = columns_are ∙ ap (λ (cs : List IpColumn). filter (λ column. not (is_fixed (sides_of cs) column)) (range_with_len 0 (length cs))) given_are

  whole_sieved : IsSieved (sides_of program.columns) program.rows (length program.rows) kept' full' found
  whole_sieved =
      subst (λ (ks : List IpRow). IsSieved (sides_of program.columns) program.rows (length program.rows) ks full' found) (sym kept_is)
      (subst (λ (fs : List ℕ). IsSieved (sides_of program.columns) program.rows (length program.rows) kept fs found) (sym full_is)
      (subst (λ (rs : List IpRow). IsSieved (sides_of program.columns) rs (length rs) kept full found) rows_are
      (subst (λ (cs : List IpColumn). IsSieved (sides_of cs) rows (length rows) kept full found) given_are sieved)))

  whole_unlinked : IsUnlinked (length program.rows) grid.unlinked full'
  whole_unlinked =
      subst (λ (fs : List ℕ). IsUnlinked (length program.rows) grid.unlinked fs) (sym full_is)
      (subst (λ (rs : List IpRow). IsUnlinked (length rs) grid.unlinked full) rows_are unlinked)

  layout : grid ≡ record { rows = length rows; columns = length given; entries = entries_in (sides_of given) rows (length rows); unlinked = grid.unlinked }
  layout = grid_is ∙ ap (λ (g : Layout). record g { unlinked = grid.unlinked }) first_is

  whole_rows : grid.rows ≡ length program.rows
  whole_rows = ap (λ (g : Layout). g.rows) layout ∙ ap (λ (rs : List IpRow). length rs) rows_are

  whole_columns : grid.columns ≡ length program.columns
  whole_columns = ap (λ (g : Layout). g.columns) layout ∙ ap (λ (cs : List IpColumn). length cs) given_are

  whole_entries : grid.entries ≡ entries_in (sides_of program.columns) program.rows (length program.rows)
  whole_entries =
      ap (λ (g : Layout). g.entries) layout ∙ ap (λ (cs : List IpColumn). entries_in (sides_of cs) rows (length rows)) given_are
      ∙ ap (λ (rs : List IpRow). entries_in (sides_of program.columns) rs (length rs)) rows_are

  pub made_reduced : IsReduced program (record { columns = columns; rows = kept'; full = full'; false_row = found; grid = grid })
  made_reduced = is_reduced program formed measured columns full' kept' found grid numbers_are whole_sieved whole_unlinked whole_rows whole_columns whole_entries

  pub made_keeps : KeepsPoints program (record { columns = columns; rows = kept'; full = full'; false_row = found; grid = grid })
  made_keeps = keeps_points program formed measured columns full' kept' found grid numbers_are whole_sieved whole_unlinked whole_rows whole_columns whole_entries
