-- A pivot step by step, as the private functions take it. Public contracts cite none of this.
use Rattle.std.specs.Prelude.{◌≡◌, ◌≢◌, ◌<◌, ℕ, List, length, slice_index, pos, Option, Some}
use Rattle.rat128.specs.Fractions.{Fraction, whole_fraction}
use Rattle.rat128.specs.Operations.{IsNarrow}
use Rattle.dict_pivot.specs.Dictionaries.{number, line, new_with, share_of}

-- a number of the row xs after the pivot, where the shares are made
abbrev pub new_at : List Fraction → ℕ → List Fraction → ℕ → Option Fraction
new_at xs c shares j = new_with xs c j (number shares j)

-- the cell at row i and column j after the pivot, where the shares are made
abbrev pub new_cell : List Fraction → ℕ → ℕ → List Fraction → ℕ → ℕ → Option Fraction
new_cell cells width c shares i j = new_at (line cells width i) c shares j

-- the shares of the columns below `end` are made from the pivot's row
pub record AreShares (xs : List Fraction) (c : ℕ) (least : Fraction) (end : ℕ) (shares : List Fraction) : Type 0 where
  pub each : (j : ℕ) → j < end → share_of xs c least j ≡ Some (number shares j)
  pub narrow : (j : ℕ) → j < end → IsNarrow (number shares j)

-- the columns below `end` whose share is not 0, in rising order, with column c
pub record AreActive (active : List ℕ) (c end : ℕ) (shares : List Fraction) : Type 0 where
  pub within : (s : ℕ) → s < length active → slice_index active s < end
  pub rising : (s t : ℕ) → s < t → t < length active → slice_index active s < slice_index active t
  pub passed : (j : ℕ) → j < end → ((s : ℕ) → s < length active → slice_index active s ≢ j) → ((number shares j).num ≡ pos 0) × (j ≢ c)

-- the row whose quantity became free: the least that it may be, and the factor 1 of itself
pub record IsOwnRow (least : Fraction) (c : ℕ) (cells : List Fraction) : Type 0 where
  pub constant : number cells 0 ≡ least
  pub own : number cells c ≡ whole_fraction (pos 1)
  pub others : (j : ℕ) → 0 < j → j < length cells → j ≢ c → number cells j ≡ whole_fraction (pos 0)
