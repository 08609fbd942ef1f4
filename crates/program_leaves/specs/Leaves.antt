-- What is said of boxes of a program's columns, and of the points of worlds in them.
use Rattle.std.specs.Prelude.{◌≡◌, ◌<◌, ◌&&◌, ◌⊎◌, ℕ, ℤ, int_lt, nat_lt, Bool, true, false, not, if◌then◌else◌, List, [], ◌∷◌, length, take, filter, All, Option, Some, None, ◌≤ℤ◌}
use Rattle.std.specs.List.{list_all, list_any}
use Rattle.ip_rows.specs.declared.Bounds.{Bounds}
use Rattle.ip_rows.specs.declared.rows.Coef.{Coef}
use Rattle.ip_rows.specs.declared.rows.IpRow.{IpRow}
use Rattle.ip_rows.specs.declared.program.Program.{Program}
use Rattle.ip_rows.specs.Programs.{Holds, row_at, sides_of, sum_at}
use Rattle.ip_rows.specs.Rows.{side_at}
use Rattle.prov_fold.specs.Graphs.{Graph}
use Rattle.branch_tree.specs.Listing.{has_two, lows, open_columns}
use Rattle.bool_encode.specs.declared.stand.Stand.{Stand}
use Rattle.bool_encode.specs.Points.{point_of}
use Rattle.whole_points.specs.Matched.{world_count}
use Rattle.program_leaves.specs.declared.part.PartSize.{PartSize}

-- a number within a side
abbrev pub is_within : Bounds → ℤ → Bool
is_within side n = not (int_lt n side.lo) && not (int_lt side.hi n)

-- one number for each side, within it
abbrev pub is_in : List Bounds → List ℤ → Bool
is_in [] [] = true
is_in [] (n ∷ ns) = false
is_in (side ∷ sides) [] = false
is_in (side ∷ sides) (n ∷ ns) = is_within side n && is_in sides ns

-- a box that has points lies within another
abbrev pub IsInside : List Bounds → List Bounds → Type 0
IsInside [] [] = Unit {0}
IsInside [] (side ∷ sides) = ⊥
IsInside (outer ∷ root) [] = ⊥
IsInside (outer ∷ root) (side ∷ sides) = (outer.lo ≤ℤ side.lo) × (side.lo ≤ℤ side.hi) × (side.hi ≤ℤ outer.hi) × IsInside root sides

-- a row holds at a point
abbrev pub is_met : List ℤ → IpRow → Bool
is_met point row = not (int_lt (sum_at point row.terms) row.least)

module _ (program : Program) where
  -- the sides of all columns
  abbrev pub root_of : List Bounds
  root_of = sides_of program.columns

  -- every row holds at a point
  abbrev pub meets_rows : List ℤ → Bool
  meets_rows point = list_all (is_met point) program.rows

  -- the columns with two values, rising: they are the one part
  abbrev pub part_columns : List ℕ
  part_columns = open_columns root_of

  -- the term's column has two values
  abbrev pub is_open : Coef → Bool
  is_open term = has_two (side_at root_of term.column)

  -- what terms come to at a point, with those at fixed columns left out
  abbrev pub open_sum : List ℤ → List Coef → ℤ
  open_sum point terms = sum_at point (filter is_open terms)

  -- what the part's aim comes to at a point: the constant and fixed columns are left out
  abbrev pub part_value : List ℤ → ℤ
  part_value point = open_sum point program.aim

  -- a row has no column with two values, and fails
  abbrev pub fails_fixed : IpRow → Bool
  fails_fixed row = list_all (λ (term : Coef). not (is_open term)) row.terms && not (is_met (lows root_of) row)

  -- the same of the row of this number, if it is there
  abbrev pub is_false_row : ℕ → Bool
  is_false_row number = nat_lt number (length program.rows) && fails_fixed (row_at program.rows number)

  -- the row of this number has no column with two values, and fails
  pub record IsFalseRow (number : ℕ) : Type 0 where
    pub there : number < length program.rows
    pub fixed : All (λ (term : Coef). is_open term ≡ false) (row_at program.rows number).terms
    pub fails : ¬ Holds (lows root_of) (row_at program.rows number)

  -- it is the first one
  pub record IsFirstFalseRow (number : ℕ) : Type 0 where
    pub here : IsFalseRow number
    pub before : (earlier : ℕ) → earlier < number → ¬ IsFalseRow earlier

  -- there is none
  abbrev pub HasNoFalseRow : Type 0
  HasNoFalseRow = (number : ℕ) → ¬ IsFalseRow number

  -- a column has two values, and there are too many such columns or too many rows
  abbrev pub IsTooLarge : Type 0
  IsTooLarge = (0 < length part_columns) × ((1024 < length part_columns) ⊎ (4096 < length program.rows))

  -- how many columns have two values, and how many rows there are
  pub record IsSizeOf (size : PartSize) : Type 0 where
    pub columns : size.columns ≡ length part_columns
    pub rows : size.rows ≡ length program.rows

  -- the value of a point of the program, if it lies in a box and meets every row
  unfoldable pub value_in : List Bounds → List ℤ → Option ℤ
  value_in sides point = if is_in sides point && meets_rows point then Some (part_value point) else None

module _ (stands : List Stand) where
  -- the sides of the world columns of a box
  abbrev pub worlds_in : List Bounds → List Bounds
  worlds_in sides = take (world_count stands) sides

  -- each world column has one value
  abbrev pub has_one_world : List Bounds → Bool
  has_one_world sides = not (list_any has_two (worlds_in sides))

module _ (program : Program) (g : Graph) (stands : List Stand) where
  -- the point of the world at the lower sides of the world columns
  abbrev pub leaf_point : List Bounds → List ℤ
  leaf_point sides = point_of g stands (lows (worlds_in stands sides))

  -- the value of that point, if it lies in the box and meets every row
  abbrev pub leaf_value : List Bounds → Option ℤ
  leaf_value sides = value_in program sides (leaf_point sides)
