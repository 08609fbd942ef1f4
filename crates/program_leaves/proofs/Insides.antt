-- Boxes within others, and numbers within sides.
use Rattle.std.proofs.Common.{◌≡◌, ap₂, refl, ℕ, zero, suc, ◌+◌, ◌<◌, ◌≤◌, ℤ, ◌≤ℤ◌, ◌<ℤ◌, Bool, true, ◌&&◌, List, [], ◌∷◌, length, take, drop, set, get_or, arith}
use Rattle.std.proofs.lemmas.Int.{ints}
use Rattle.std.proofs.lemmas.List.{drop_more, drop_all}
use Rattle.ip_rows.specs.declared.Bounds.{Bounds}
use Rattle.ip_rows.specs.Programs.{IsBetween}
use Rattle.branch_tree.specs.Boxes.{IsParted, side_at, low_side, high_side, low_box, high_box}
use Rattle.branch_tree.specs.Listing.{AreSides, InBox}
use Rattle.program_leaves.specs.Leaves.{IsInside, is_in, is_within}

itself : (n : ℤ) → n ≤ℤ n
itself n = omega (arith, ints)

pub inside_long : (root sides : List Bounds) → IsInside root sides → length sides ≡ length root
inside_long [] [] inside = refl
inside_long [] (side ∷ sides) inside = absurd inside
inside_long (outer ∷ root) [] inside = absurd inside
inside_long (outer ∷ root) (side ∷ sides) inside = let rest = inside_long root sides inside.3 in omega (arith, rest)

pub inside_root : (sides : List Bounds) → AreSides sides → IsInside sides sides
inside_root [] all = tt
inside_root (side ∷ sides) all = (itself side.lo, all.0, itself side.hi, inside_root sides all.1)

pub inside_sides : (root sides : List Bounds) → IsInside root sides → AreSides sides
inside_sides [] [] inside = tt
inside_sides [] (side ∷ sides) inside = absurd inside
inside_sides (outer ∷ root) [] inside = absurd inside
inside_sides (outer ∷ root) (side ∷ sides) inside = (inside.1, inside_sides root sides inside.3)

-- the side of a column lies within the outer one
pub record IsSideInside (outer side : Bounds) : Type 0 where
  pub low : outer.lo ≤ℤ side.lo
  pub some : side.lo ≤ℤ side.hi
  pub high : side.hi ≤ℤ outer.hi

pub inside_at : (root sides : List Bounds) (column : ℕ) → IsInside root sides → column < length sides → IsSideInside (side_at root column) (side_at sides column)
inside_at [] [] column inside lt = absurd (omega (arith, lt))
inside_at [] (side ∷ sides) column inside lt = absurd inside
inside_at (outer ∷ root) [] column inside lt = absurd inside
inside_at (outer ∷ root) (side ∷ sides) zero inside lt = record { low = inside.0; some = inside.1; high = inside.2 }
inside_at (outer ∷ root) (side ∷ sides) (suc column) inside lt = inside_at root sides column inside.3 (omega (arith, lt))

pub inside_set : (root sides : List Bounds) (column : ℕ) (side : Bounds) → IsInside root sides → column < length sides → IsSideInside (side_at root column) side → IsInside root (set sides column side)
inside_set [] [] column side inside lt one = absurd (omega (arith, lt))
inside_set [] (first ∷ sides) column side inside lt one = absurd inside
inside_set (outer ∷ root) [] column side inside lt one = absurd inside
inside_set (outer ∷ root) (first ∷ sides) zero side inside lt one = (one.low, one.some, one.high, inside.3)
inside_set (outer ∷ root) (first ∷ sides) (suc column) side inside lt one = (inside.0, inside.1, inside.2, inside_set root sides column side inside.3 (omega (arith, lt)) one)

low_inside : (outer side : Bounds) (at : ℤ) → IsSideInside outer side → side.lo ≤ℤ at → at <ℤ side.hi → IsSideInside outer (low_side side at)
low_inside outer side at one low high = let h = one.high in record { low = one.low; some = low; high = omega (arith, ints, h, high) }

high_inside : (outer side : Bounds) (at : ℤ) → IsSideInside outer side → side.lo ≤ℤ at → at <ℤ side.hi → IsSideInside outer (high_side side at)
high_inside outer side at one low high = let l = one.low in record { low = omega (arith, ints, l, low); some = omega (arith, ints, high); high = one.high }

-- a split leaves boxes within the outer one
pub inside_low : (root sides : List Bounds) (column : ℕ) (at : ℤ) → IsInside root sides → IsParted sides column at → IsInside root (low_box sides column at)
inside_low root sides column at inside parted =
    inside_set root sides column (low_side (side_at sides column) at) inside parted.there
    (low_inside (side_at root column) (side_at sides column) at (inside_at root sides column inside parted.there) parted.low parted.high)

pub inside_high : (root sides : List Bounds) (column : ℕ) (at : ℤ) → IsInside root sides → IsParted sides column at → IsInside root (high_box sides column at)
inside_high root sides column at inside parted =
    inside_set root sides column (high_side (side_at sides column) at) inside parted.there
    (high_inside (side_at root column) (side_at sides column) at (inside_at root sides column inside parted.there) parted.low parted.high)

-- ---- points in boxes

within_of : (side : Bounds) (n : ℤ) → side.lo ≤ℤ n → n ≤ℤ side.hi → is_within side n ≡ true
within_of side n low high = grind (arith, ints)

pub in_of : (sides : List Bounds) (ns : List ℤ) → InBox sides ns → is_in sides ns ≡ true
in_of [] [] inside = refl
in_of [] (n ∷ ns) inside = absurd inside
in_of (side ∷ sides) [] inside = absurd inside
in_of (side ∷ sides) (n ∷ ns) inside = ap₂ (λ (a b : Bool). a && b) (within_of side n inside.0 inside.1) (in_of sides ns inside.2)

-- a point between the sides lies in their box
pub between_in : (sides : List Bounds) (ns : List ℤ) → IsBetween sides ns → InBox sides ns
between_in [] [] between = tt
between_in [] (n ∷ ns) between = absurd (let count = between.count in omega (arith, count))
between_in (side ∷ sides) [] between = absurd (let count = between.count in omega (arith, count))
between_in (side ∷ sides) (n ∷ ns) between = (
  between.low 0 (omega arith),
  between.high 0 (omega arith),
  between_in sides ns (record {
    count = (let count = between.count in omega (arith, count));
    low = λ column lt. between.low (suc column) (omega (arith, lt));
    high = λ column lt. between.high (suc column) (omega (arith, lt));
  }),
)

-- the first numbers of a point lie in the first sides of its box
pub in_taken : (count : ℕ) (sides : List Bounds) (ns : List ℤ) → InBox sides ns → InBox (take count sides) (take count ns)
in_taken zero [] [] inside = tt
in_taken zero [] (n ∷ ns) inside = tt
in_taken zero (side ∷ sides) [] inside = tt
in_taken zero (side ∷ sides) (n ∷ ns) inside = tt
in_taken (suc count) [] [] inside = tt
in_taken (suc count) [] (n ∷ ns) inside = absurd inside
in_taken (suc count) (side ∷ sides) [] inside = absurd inside
in_taken (suc count) (side ∷ sides) (n ∷ ns) inside = (inside.0, inside.1, in_taken count sides ns inside.2)

-- ---- the loop over a box and a point

pub in_here : (sides : List Bounds) (ns : List ℤ) (column : ℕ) (side : Bounds) (n : ℤ) → column < length sides → length sides ≡ length ns
    → is_in (drop column sides) (drop column ns) ≡ (is_within (get_or sides column side) (get_or ns column n) && is_in (drop (column + 1) sides) (drop (column + 1) ns))
in_here sides ns column side n lt same = ap₂ is_in (drop_more sides column side lt) (drop_more ns column n (omega (arith, lt, same)))

pub in_end : (sides : List Bounds) (ns : List ℤ) (column : ℕ) → length sides ≤ column → length sides ≡ length ns → is_in (drop column sides) (drop column ns) ≡ true
in_end sides ns column le same = ap₂ is_in (drop_all column sides le) (drop_all column ns (omega (arith, le, same)))
