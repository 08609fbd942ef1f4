-- The world columns of a box that is split at one of them, and the sides of a program.
use Rattle.std.proofs.Common.{◌≡◌, ◌∙◌, sym, ap, subst, ℕ, zero, suc, ◌<◌, ◌≤◌, ℤ, ◌≤ℤ◌, ◌<ℤ◌, List, [], ◌∷◌, length, take, set, sum_by, All, arith}
use Rattle.std.specs.Prelude.{None, position}
use Rattle.std.proofs.Math.Seq.{take-set-lt}
use Rattle.std.proofs.lemmas.List.{get_or-take, length-take-le}
use Rattle.ip_rows.specs.declared.Bounds.{Bounds}
use Rattle.ip_rows.specs.declared.program.Program.{Program}
use Rattle.ip_rows.specs.Programs.{IsMeasured}
use Rattle.bool_encode.specs.declared.stand.Stand.{Stand}
use Rattle.branch_tree.specs.Boxes.{side_at, low_side, high_side, low_box, high_box, IsParted}
use Rattle.branch_tree.specs.Listing.{AreFixed, AreSides, IsFirstOpen, has_two}
use Rattle.branch_tree.proofs.Columns.{no_side, open_within, one_point, open_has_two, width, narrower, low_narrow, high_narrow}
use Rattle.prov_fold.specs.Graphs.{Graph}
use Rattle.whole_points.specs.Matched.{IsMatched, world_count}
use Rattle.program_leaves.specs.Leaves.{IsInside, root_of}
use Rattle.program_leaves.proofs.Insides.{inside_root}
use Rattle.program_leaves.proofs.Points.{worlds_few}

-- the first sides of a box, so many that there are no fewer
module _ (count : ℕ) (sides : List Bounds) (few : count ≤ length sides) (column : ℕ) (first : IsFirstOpen (take count sides) column) where
  pub world_column : column < count
  world_column = let within = open_within (take count sides) column first in let long = length-take-le count sides few in omega (arith, within, long)

  pub column_there : column < length sides
  column_there = let less = world_column in omega (arith, less, few)

  pub same_side : side_at (take count sides) column ≡ side_at sides column
  same_side = get_or-take count sides column no_side world_column

  -- it has two values, and a number from the lower one to below the upper one parts the box
  pub two_there : (side_at sides column).lo <ℤ (side_at sides column).hi
  two_there = subst (λ (s : Bounds). s.lo <ℤ s.hi) same_side (open_has_two (take count sides) column first)

  pub parted_at : (at : ℤ) → (side_at sides column).lo ≤ℤ at → at <ℤ (side_at sides column).hi → IsParted sides column at
  parted_at at low high = record { there = column_there; low = low; high = high }

  pub low_taken : (at : ℤ) → take count (low_box sides column at) ≡ low_box (take count sides) column at
  low_taken at =
      take-set-lt count sides column (low_side (side_at sides column) at) world_column
      ∙ ap (λ (s : Bounds). set (take count sides) column (low_side s at)) (sym same_side)

  pub high_taken : (at : ℤ) → take count (high_box sides column at) ≡ high_box (take count sides) column at
  high_taken at =
      take-set-lt count sides column (high_side (side_at sides column) at) world_column
      ∙ ap (λ (s : Bounds). set (take count sides) column (high_side s at)) (sym same_side)

-- the first sides of a box without an empty side
pub sides_taken : (count : ℕ) (sides : List Bounds) → AreSides sides → AreSides (take count sides)
sides_taken zero [] all = tt
sides_taken zero (side ∷ sides) all = tt
sides_taken (suc count) [] all = tt
sides_taken (suc count) (side ∷ sides) all = (all.0, sides_taken count sides all.1)

-- the first columns of a box, none of which has two values
pub fixed_first : (count : ℕ) (sides : List Bounds) → AreSides sides → position has_two (take count sides) ≡ None → AreFixed (take count sides)
fixed_first count sides all none = one_point (take count sides) (sides_taken count sides all) none

-- a split makes the box narrower
pub low_width : (sides : List Bounds) (column : ℕ) (at : ℤ) (low : Bounds) (put : List Bounds) → IsParted sides column at → low ≡ low_side (side_at sides column) at → put ≡ set sides column low → sum_by width put < sum_by width sides
low_width sides column at low put parted is made =
    subst (λ (l : List Bounds). sum_by width l < sum_by width sides) (sym (made ∙ ap (set sides column) is)) (narrower sides column (low_side (side_at sides column) at) parted.there (low_narrow (side_at sides column) at parted.low parted.high))

pub high_width : (sides : List Bounds) (column : ℕ) (at : ℤ) (high : Bounds) (put : List Bounds) → IsParted sides column at → high ≡ high_side (side_at sides column) at → put ≡ set sides column high → sum_by width put < sum_by width sides
high_width sides column at high put parted is made =
    subst (λ (l : List Bounds). sum_by width l < sum_by width sides) (sym (made ∙ ap (set sides column) is)) (narrower sides column (high_side (side_at sides column) at) parted.there (high_narrow (side_at sides column) at parted.low parted.high))

-- no side of a measured program is empty
sides_of_all : (sides : List Bounds) → All (λ (side : Bounds). side.lo ≤ℤ side.hi) sides → AreSides sides
sides_of_all [] all = tt
sides_of_all (side ∷ sides) all = (all 0 no_side (omega arith), sides_of_all sides (λ k d lt. all (suc k) d (omega (arith, lt))))

pub root_sides_there : (program : Program) → IsMeasured program → AreSides (root_of program)
root_sides_there program measured = sides_of_all (root_of program) measured.sides

pub root_inside : (program : Program) → IsMeasured program → (sides : List Bounds) → sides ≡ root_of program → IsInside (root_of program) sides
root_inside program measured sides is = subst (IsInside (root_of program)) (sym is) (inside_root (root_of program) (root_sides_there program measured))

-- a box has the world's columns
pub worlds_there : (program : Program) (g : Graph) (stands : List Stand) (sides : List Bounds) → IsMatched program g stands → IsInside (root_of program) sides → (count : ℕ) → count ≡ world_count stands → count ≤ length sides
worlds_there program g stands sides matched inside count is = subst (λ (n : ℕ). n ≤ length sides) (sym is) (worlds_few program g stands sides matched inside)
