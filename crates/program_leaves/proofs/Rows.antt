-- Rows of a program, and how many columns have two values.
use Rattle.std.proofs.Common.{◌≡◌, ◌∙◌, sym, ap, subst, refl, ℕ, suc, ◌+◌, ◌<◌, ◌≤◌, ℤ, pos, Bool, true, false, List, [], ◌∷◌, length, get_or, arith}
use Rattle.std.specs.Prelude.{if◌then◌else◌}
use Rattle.ip_rows.specs.declared.Bounds.{Bounds}
use Rattle.ip_rows.specs.declared.rows.IpRow.{IpRow}
use Rattle.ip_rows.specs.declared.program.IpColumn.{IpColumn}
use Rattle.ip_rows.specs.declared.program.Program.{Program}
use Rattle.whole_points.specs.Matched.{column_at}
use Rattle.ip_rows.specs.Programs.{IsBetween, IsMeasured, IsWellFormed, number_at, row_at}
use Rattle.ip_rows.specs.Rows.{AreTerms, side_at}
use Rattle.ip_rows.specs.Sums.{IsBounded}
use Rattle.ip_rows.proofs.SumLemmas.{bounded_rows, bounded_aim}
use Rattle.branch_tree.specs.Listing.{has_two, lows, open_from}
use Rattle.program_leaves.specs.Leaves.{part_columns, root_of}
use Rattle.whole_points.proofs.WorldNumbers.{at_any}
use Rattle.program_leaves.proofs.Closing.{low_is, lows_between}
use Rattle.program_leaves.proofs.Points.{root_long, side_is}

module _ (program : Program) (formed : IsWellFormed program) (rows : List IpRow) (same : rows ≡ program.rows) (number : ℕ) (lt : number < length rows) (row : IpRow) (is : row ≡ get_or rows number row) where
  at_row : row ≡ row_at program.rows number
  at_row = is ∙ at_any rows number (record { terms = []; least = pos 0 }) row lt ∙ ap (λ (rs : List IpRow). row_at rs number) same

  in_rows : number < length program.rows
  in_rows = let long : length rows ≡ length program.rows = ap (length {A = IpRow}) same in omega (arith, lt, long)

  pub row_formed : AreTerms (length program.columns) row.terms
  row_formed = subst (λ (r : IpRow). AreTerms (length program.columns) r.terms) (sym at_row) (formed.rows number (record { terms = []; least = pos 0 }) in_rows)

  pub row_bounded : IsMeasured program → IsBounded (lows (root_of program)) row.terms
  row_bounded measured = subst (λ (r : IpRow). IsBounded (lows (root_of program)) r.terms) (sym at_row)
      (bounded_rows program.columns (lows (root_of program)) (lows_between program measured) program.rows program.rows refl formed.rows measured.rows number (record { terms = []; least = pos 0 }) in_rows)

-- no more columns have two values than there are columns
open_few : (at : ℕ) (sides : List Bounds) → length (open_from at sides) ≤ length sides
unfolding open_from
open_few at [] = omega arith
open_few at (side ∷ sides) = by_test (has_two side) (open_few (at + 1) sides)
  where
    by_test : (two : Bool) → length (open_from (at + 1) sides) ≤ length sides → length (if two then at ∷ open_from (at + 1) sides else open_from (at + 1) sides) ≤ suc (length sides)
    by_test true rest = omega (arith, rest)
    by_test false rest = omega (arith, rest)

pub part_few : (program : Program) → IsMeasured program → (columns : List ℕ) → columns ≡ part_columns program → length columns ≤ 100000
part_few program measured columns is =
    let few = open_few 0 (root_of program) in
    let long = root_long program in
    let all = measured.columns in
    let same : length columns ≡ length (part_columns program) = ap (length {A = ℕ}) is in
    omega (arith, few, long, all, same)

pub aim_bounded : (program : Program) → IsWellFormed program → IsMeasured program → (point : List ℤ) → IsBetween (root_of program) point → IsBounded point program.aim
aim_bounded program formed measured point between = bounded_aim program.columns point between program.aim program.aim program.constant refl formed.aim measured.aim

-- the lower side of a column
pub low_column : (program : Program) (columns : List IpColumn) (column : ℕ) → columns ≡ program.columns → column < length program.columns → (column_at columns column).sides.lo ≡ number_at (lows (root_of program)) column
low_column program columns column same lt =
    let long = root_long program in
    ap (λ (cs : List IpColumn). (column_at cs column).sides.lo) same ∙ sym (ap (λ (b : Bounds). b.lo) (side_is program column lt)) ∙ sym (low_is (root_of program) column (omega (arith, lt, long)))

pub open_column : (program : Program) (columns : List IpColumn) (column : ℕ) → columns ≡ program.columns → column < length program.columns → has_two (column_at columns column).sides ≡ has_two (side_at (root_of program) column)
open_column program columns column same lt = ap (λ (cs : List IpColumn). has_two (column_at cs column).sides) same ∙ sym (ap has_two (side_is program column lt))
