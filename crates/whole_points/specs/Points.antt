-- The whole points of a program, and points over a denominator whose truths and selectors are whole.
use Rattle.std.specs.Prelude.{◌≡◌, ◌≢◌, ◌<◌, ℕ, ℤ, pos, ◌*ℤ◌, ◌≤ℤ◌, List, length, All}
use Rattle.ip_rows.specs.declared.program.ColumnKind.TheVariants as kind
use Rattle.ip_rows.specs.declared.program.Program.{Program}
use Rattle.ip_rows.specs.Programs.{IsBetween, Holds, number_at, sides_of}
use Rattle.bool_encode.specs.declared.stand.Stand.{Stand}
use Rattle.bool_encode.specs.declared.stand.Stand.TheVariants as stand
use Rattle.bool_encode.specs.Stands.{stand_at}
use Rattle.bool_encode.specs.Rows.{HoldsOver}
use Rattle.whole_points.specs.Matched.{column_at, world_count}

-- within the sides, and every row holds
pub record IsWholePoint (program : Program) (point : List ℤ) : Type 0 where
  pub between : IsBetween (sides_of program.columns) point
  pub rows : All (Holds point) program.rows

-- a whole number of times d
pub record IsTimes (d : ℕ) (n : ℤ) : Type 0 where
  pub part : ℤ
  pub is : n ≡ part *ℤ pos d

-- the same of a point over d, where what is no number that follows from others is whole
pub record IsPointOver (d : ℕ) (program : Program) (point : List ℤ) : Type 0 where
  pub some : 0 < d
  pub count : length point ≡ length program.columns
  pub low : (number : ℕ) → number < length program.columns → ((column_at program.columns number).sides.lo *ℤ pos d) ≤ℤ number_at point number
  pub high : (number : ℕ) → number < length program.columns → number_at point number ≤ℤ ((column_at program.columns number).sides.hi *ℤ pos d)
  pub whole : (number : ℕ) → number < length program.columns → (column_at program.columns number).kind ≢ kind.Value → IsTimes d (number_at point number)
  pub rows : All (HoldsOver d point) program.rows

-- one number for each world column, within its sides
pub record IsWorldWithin (program : Program) (stands : List Stand) (world : List ℤ) : Type 0 where
  pub count : length world ≡ world_count stands
  pub low : (number : ℕ) → number < world_count stands → (column_at program.columns number).sides.lo ≤ℤ number_at world number
  pub high : (number : ℕ) → number < world_count stands → number_at world number ≤ℤ (column_at program.columns number).sides.hi

-- the point has d times the world's numbers
abbrev pub IsWorldOver : ℕ → List Stand → List ℤ → List ℤ → Type 0
IsWorldOver d stands world point = (number : ℕ) → number < world_count stands → number_at point number ≡ number_at world number *ℤ pos d

abbrev pub IsNoSelector : Stand → Type 0
IsNoSelector (stand.Selector z pair) = ⊥
IsNoSelector _ = Unit {0}

-- at each column that is no selector, the first point has d times the number of the second
abbrev pub AgreeOver : ℕ → List Stand → List ℤ → List ℤ → Type 0
AgreeOver d stands point other = (number : ℕ) → number < length stands → IsNoSelector (stand_at stands number) → number_at point number ≡ number_at other number *ℤ pos d
