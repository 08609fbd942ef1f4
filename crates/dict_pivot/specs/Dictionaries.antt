-- Dictionaries as they are kept, in fractions of 127 bits: their numbers, and what a pivot asks of them.
use Rattle.std.specs.Prelude.{◌≡◌, ◌≢◌, IsSome, ℕ, zero, suc, ◌+◌, ◌-◌, ◌*◌, ◌^◌, ◌<◌, ◌==◌, cond, List, length, slice_index, slice_index_or, slice_range, ℤ, pos, Option, Some, None}
use Rattle.rat128.specs.Fractions.{Fraction, whole_fraction, minus}
use Rattle.rat128.specs.Operations.{IsNarrow, add_of, sub_of, mul_of, div_of}
use Rattle.rat128.specs.Rationals.{ℚ, value}
use Rattle.dict_pivot.specs.Tables.{Table, IsUnits, IsHome}

-- the cells row by row, each row with its constant first; the rows whose quantities are free in the columns, from column 1 on; the lower sides of the values, which stand in the rows from 1 on
pub record Dictionary : Type 0 where
  pub height : ℕ
  pub width : ℕ
  pub cells : List Fraction
  pub free : List ℕ
  pub low : List ℤ

-- the number at a place
abbrev pub number : List Fraction → ℕ → Fraction
number xs j = slice_index_or xs j (whole_fraction (pos 0))

-- row i of cells in one list
abbrev pub line : List Fraction → ℕ → ℕ → List Fraction
line cells width i = slice_range cells (i * width) (i * width + width)

-- the cell at row i and column j
abbrev pub cell_of : Dictionary → ℕ → ℕ → Fraction
cell_of d i j = number (line d.cells d.width i) j

-- the least that a row's quantity may be: a column's lower side for its value, else 0
abbrev pub least_number : List ℤ → ℕ → Fraction
least_number low zero = whole_fraction (pos 0)
least_number low (suc k) = whole_fraction (slice_index_or low k (pos 0))

abbrev pub least_of : List ℤ → ℕ → ℚ
least_of low i = value (least_number low i)

-- the numbers of the cells
abbrev pub table_of : List Fraction → ℕ → ℕ → (ℕ → ℕ) → Table
table_of cells width height free = record {
  height = height;
  width = width - 1;
  cell = λ i j. value (number (line cells width i) j);
  free = free;
}

-- the dictionary over fractions of any size
abbrev pub table : Dictionary → Table
table d = table_of d.cells d.width d.height (slice_index d.free)

-- what holds of every dictionary: its lists fit together, its numbers are fractions of 127 bits, each free quantity's row is itself, and its constant is the least that it may be
pub record IsDictionary (d : Dictionary) : Type 0 where
  pub size : length d.cells ≡ d.height * d.width
  pub width : d.width ≡ length d.low + 1
  pub free : length d.free ≡ d.width
  pub tall : 2 * length d.low < d.height
  pub height_small : d.height < 2 ^ 32
  pub width_small : d.width < 2 ^ 32
  pub narrow : (i j : ℕ) → i < d.height → j < d.width → IsNarrow (cell_of d i j)
  pub units : IsUnits (table d)
  pub home : IsHome (least_of d.low) (table d)

-- ---- the operations of a pivot, one after another
abbrev pub and_then : {A B : Type 0} → Option A → (A → Option B) → Option B
and_then (Some a) f = f a
and_then None f = None

abbrev pub option_minus : Option Fraction → Option Fraction
option_minus (Some p) = Some (minus p)
option_minus None = None

-- 1 over the pivot's cell
unfoldable pub inverse_of : Fraction → Option Fraction
inverse_of cell = div_of (whole_fraction (pos 1)) cell

-- what is divided by the pivot's cell: a factor, or how far the constant stands above the least
unfoldable pub divided_of : List Fraction → Fraction → ℕ → Option Fraction
divided_of xs least zero = sub_of (number xs 0) least
divided_of xs least (suc j) = Some (number xs (suc j))

-- what column c is multiplied by where it is added to column j, and in column c itself what it is multiplied by: xs is the pivot's row
unfoldable pub share_of : List Fraction → ℕ → Fraction → ℕ → Option Fraction
share_of xs c least j =
    and_then (inverse_of (number xs c)) (λ u. cond (j == c) (Some u) (and_then (divided_of xs least j) (λ x. option_minus (mul_of x u))))

-- a number outside the pivot's row and column: its own, and its row's number in the pivot's column times its column's share
unfoldable pub new_number : Fraction → Fraction → Fraction → Option Fraction
new_number own across share = and_then (mul_of across share) (λ p. add_of own p)

-- the number in column j of the row ys, with the share of that column
unfoldable pub new_with : List Fraction → ℕ → ℕ → Fraction → Option Fraction
new_with ys c j share =
    cond (j == c) (mul_of (number ys c) share) (new_number (number ys j) (number ys c) share)

-- the cell at row i and column j after the pivot at row r and column c, for a row other than r: None where a number of the cell passes
unfoldable pub cell_asked : Dictionary → ℕ → ℕ → ℕ → ℕ → Option Fraction
cell_asked d r c i j =
    and_then (share_of (line d.cells d.width r) c (least_number d.low r) j) (λ s. new_with (line d.cells d.width i) c j s)

-- the cell at row i and column j is the first, row by row, of which a number passes
pub record IsFirstWide (d : Dictionary) (r c i j : ℕ) : Type 0 where
  pub within : i < d.height
  pub other : i ≢ r
  pub column : j < d.width
  pub wide : cell_asked d r c i j ≡ None
  pub before : (l : ℕ) → l < j → IsSome (cell_asked d r c i l)
  pub above : (k l : ℕ) → k < i → k ≢ r → l < d.width → IsSome (cell_asked d r c k l)

-- d' has what the pivot's operations give, of which none passes
pub record IsPivoted (d : Dictionary) (r c : ℕ) (d' : Dictionary) : Type 0 where
  pub height : d'.height ≡ d.height
  pub width : d'.width ≡ d.width
  pub low : d'.low ≡ d.low
  pub cells : (i j : ℕ) → i < d.height → i ≢ r → j < d.width → cell_asked d r c i j ≡ Some (cell_of d' i j)
  pub constant : cell_of d' r 0 ≡ least_number d.low r
  pub own : cell_of d' r c ≡ whole_fraction (pos 1)
  pub factors : (j : ℕ) → 0 < j → j < d.width → j ≢ c → cell_of d' r j ≡ whole_fraction (pos 0)
  pub free : slice_index d'.free c ≡ r
  pub frees : (j : ℕ) → j ≢ c → slice_index d'.free j ≡ slice_index d.free j

-- ---- the fields of a dictionary
abbrev pub seen : ℕ → ℕ → List Fraction → List ℕ → List ℤ → Dictionary
seen height width cells free low =
    record { height = height; width = width; cells = cells; free = free; low = low }

-- with room for the shares of a pivot
pub record IsKept (height width : ℕ) (cells : List Fraction) (free : List ℕ) (low : List ℤ) (shares : List Fraction) (active : List ℕ) : Type 0 where
  pub dictionary : IsDictionary (seen height width cells free low)
  pub shares_room : length shares ≡ width
  pub active_room : length active ≡ width
