-- Whole-number programs: which are well formed, which are measured, and what their points come to.
use Rattle.std.specs.Prelude.{◌≡◌, ◌+◌, ◌<◌, ◌≤◌, ◌^◌, ℕ, ℤ, pos, unsigned_abs, ◌+ℤ◌, ◌-ℤ◌, ◌*ℤ◌, ◌≤ℤ◌, Bool, List, [], ◌∷◌, length, map, sum_by, All, FitsSigned, slice_index_or, if◌then◌else◌}
use Rattle.std.specs.Int.{w64}
use Rattle.std.specs.Ordering.{int_eq}
use Rattle.ip_rows.specs.declared.Bounds.{Bounds}
use Rattle.ip_rows.specs.declared.rows.Coef.{Coef}
use Rattle.ip_rows.specs.declared.rows.IpRow.{IpRow}
use Rattle.ip_rows.specs.declared.program.IpColumn.{IpColumn}
use Rattle.ip_rows.specs.declared.program.Program.{Program}
use Rattle.ip_rows.specs.Rows.{AreTerms, IsMeasuredRow, side_at, weight}

-- the sides of columns
abbrev pub sides_of : List IpColumn → List Bounds
sides_of columns = map (λ (column : IpColumn). column.sides) columns

-- whether a column has one number alone
abbrev pub is_fixed : List Bounds → ℕ → Bool
is_fixed sides column = int_eq (side_at sides column).lo (side_at sides column).hi

-- what the terms at fixed columns come to
abbrev pub fixed_sum : List Bounds → List Coef → ℤ
fixed_sum sides [] = pos 0
fixed_sum sides (term ∷ terms) = (if is_fixed sides term.column then term.factor *ℤ (side_at sides term.column).lo else pos 0) +ℤ fixed_sum sides terms

-- the rows and their terms, counted together
abbrev pub size_of : Program → ℕ
size_of program = length program.rows + sum_by (λ (row : IpRow). length row.terms) program.rows

-- the terms of the aim and of each row name columns that are there
pub record IsWellFormed (program : Program) : Type 0 where
  pub aim : AreTerms (length program.columns) program.aim
  pub rows : All (λ (row : IpRow). AreTerms (length program.columns) row.terms) program.rows

-- no sides are empty, the weights are at most 2 ^ 120, what rows ask and the constant have 64 bits with fixed columns put in, and
-- columns, rows and terms are few enough
pub record IsMeasured (program : Program) : Type 0 where
  pub aim : weight (sides_of program.columns) program.aim + unsigned_abs program.constant ≤ 2 ^ 120
  pub rows : All (IsMeasuredRow (sides_of program.columns)) program.rows
  pub sides : All (λ (side : Bounds). side.lo ≤ℤ side.hi) (sides_of program.columns)
  pub constant : FitsSigned w64 (program.constant +ℤ fixed_sum (sides_of program.columns) program.aim)
  pub leasts : All (λ (row : IpRow). FitsSigned w64 (row.least -ℤ fixed_sum (sides_of program.columns) row.terms)) program.rows
  pub columns : length program.columns ≤ 100000
  pub size : size_of program ≤ 50000000

-- the number of a column at a point
abbrev pub number_at : List ℤ → ℕ → ℤ
number_at point column = slice_index_or point column (pos 0)

-- one number for each column, within its sides
pub record IsBetween (sides : List Bounds) (point : List ℤ) : Type 0 where
  pub count : length point ≡ length sides
  pub low : (column : ℕ) → column < length sides → (side_at sides column).lo ≤ℤ number_at point column
  pub high : (column : ℕ) → column < length sides → number_at point column ≤ℤ (side_at sides column).hi

-- what terms come to at a point
abbrev pub sum_at : List ℤ → List Coef → ℤ
sum_at point [] = pos 0
sum_at point (term ∷ terms) = term.factor *ℤ number_at point term.column +ℤ sum_at point terms

-- the row holds at the point
abbrev pub Holds : List ℤ → IpRow → Type 0
Holds point row = row.least ≤ℤ sum_at point row.terms

-- the row at a place
abbrev pub row_at : List IpRow → ℕ → IpRow
row_at rows number = slice_index_or rows number (record { terms = []; least = pos 0 })

-- the row of this number does not hold, and each before it does
pub record IsFirstBroken (point : List ℤ) (rows : List IpRow) (number : ℕ) : Type 0 where
  pub there : number < length rows
  pub broken : ¬ Holds point (row_at rows number)
  pub before : (earlier : ℕ) → earlier < number → Holds point (row_at rows earlier)
