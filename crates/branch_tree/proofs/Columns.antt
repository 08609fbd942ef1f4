-- The columns of a box: the first with two values, and how a split narrows one.
use Rattle.std.proofs.Common.{◌≡◌, ℕ, zero, suc, ◌<◌, ◌≤◌, ℤ, pos, ◌-ℤ◌, ◌≤ℤ◌, ◌<ℤ◌, unsigned_abs, List, [], ◌∷◌, length, get_or, set, sum_by, arith, true, false}
use Rattle.std.specs.Prelude.{Some, None, position, int_lt, nat_lt, cond}
use Rattle.std.proofs.lemmas.List.Quantifiers.{position-Some}
use Rattle.std.proofs.lemmas.List.Sums.{sum_by-set, fails_before_first}
use Rattle.std.specs.List.{position_or_len}
use Rattle.std.proofs.lemmas.Bool.Decides.{nat_tests}
use Rattle.std.proofs.lemmas.Int.{ints}
use Rattle.ip_rows.specs.declared.Bounds.{Bounds}
use Rattle.branch_tree.specs.Boxes.{side_at, low_side, high_side, low_box, high_box, IsParted}
use Rattle.branch_tree.specs.Listing.{AreSides, AreFixed, IsFirstOpen, has_two}

-- the width of a column's sides
abbrev pub width : Bounds → ℕ
width side = unsigned_abs (side.hi -ℤ side.lo)

abbrev pub no_side : Bounds
no_side = record { lo = pos 0; hi = pos 0 }

less_by : (a b : ℤ) → int_lt a b ≡ true → a <ℤ b
less_by a b e = grind (arith, ints)

same_by : (a b : ℤ) → int_lt a b ≡ false → a ≤ℤ b → a ≡ b
same_by a b e le = grind (arith, ints)

pub open_within : (sides : List Bounds) (column : ℕ) → IsFirstOpen sides column → column < length sides
open_within sides column first = (position-Some has_two sides column no_side first).0

pub open_has_two : (sides : List Bounds) (column : ℕ) → IsFirstOpen sides column → (side_at sides column).lo <ℤ (side_at sides column).hi
open_has_two sides column first = less_by _ _ (position-Some has_two sides column no_side first).1

pub sides_set : (sides : List Bounds) (column : ℕ) (side : Bounds) → AreSides sides → side.lo ≤ℤ side.hi → AreSides (set sides column side)
sides_set [] column side all le = tt
sides_set (first ∷ sides) zero side all le = (le, all.1)
sides_set (first ∷ sides) (suc column) side all le = (all.0, sides_set sides column side all.1 le)

pub sides_low : (sides : List Bounds) (column : ℕ) (at : ℤ) → AreSides sides → IsParted sides column at → AreSides (low_box sides column at)
sides_low sides column at all parted = sides_set sides column (low_side (side_at sides column) at) all parted.low

pub sides_high : (sides : List Bounds) (column : ℕ) (at : ℤ) → AreSides sides → IsParted sides column at → AreSides (high_box sides column at)
sides_high sides column at all parted = sides_set sides column (high_side (side_at sides column) at) all (omega (arith, ints, parted.high))

pub narrower : (sides : List Bounds) (column : ℕ) (side : Bounds) → column < length sides → width side < width (side_at sides column) → sum_by width (set sides column side) < sum_by width sides
narrower sides column side lt less = omega (arith, sum_by-set width sides column side no_side lt)

pub fixed_of : (sides : List Bounds) → AreSides sides → ((k : ℕ) → k < length sides → has_two (get_or sides k no_side) ≡ false) → AreFixed sides
fixed_of [] all none = tt
fixed_of (side ∷ sides) all none = (same_by side.lo side.hi (none 0 (omega arith)) all.0, fixed_of sides all.1 (λ k lt. none (suc k) (omega arith)))

-- a box without a column of two values has one point
pub one_point : (sides : List Bounds) → AreSides sides → position has_two sides ≡ None → AreFixed sides
one_point sides all none = fixed_of sides all (λ k lt. fails_before_first has_two sides k no_side (let past = none_within (position_or_len has_two sides) (length sides) none in omega arith))
  where
    none_within : (at len : ℕ) → cond (nat_lt at len) (Some at) None ≡ None → len ≤ at
    none_within at len none = grind (arith, nat_tests)

pub low_narrow : (side : Bounds) (at : ℤ) → side.lo ≤ℤ at → at <ℤ side.hi → width (low_side side at) < width side
low_narrow side at low high = omega (arith, ints)

pub high_narrow : (side : Bounds) (at : ℤ) → side.lo ≤ℤ at → at <ℤ side.hi → width (high_side side at) < width side
high_narrow side at low high = omega (arith, ints)
