-- How many nodes the tree of a listing may have worked: fewer than twice the points of its box.
use Rattle.std.proofs.Common.{◌≡◌, ℕ, zero, suc, ◌+◌, ◌*◌, ◌<◌, ◌≤◌, ℤ, pos, ◌+ℤ◌, ◌-ℤ◌, ◌≤ℤ◌, ◌<ℤ◌, unsigned_abs, List, [], ◌∷◌, refl, ap, arith, Bool, true, false}
use Rattle.std.specs.Prelude.{◌&&◌}
use Rattle.std.proofs.lemmas.Int.{ints}
use Rattle.ip_rows.specs.declared.Bounds.{Bounds}
use Rattle.branch_tree.specs.declared.node.Leaf.TheVariants as leaf
use Rattle.branch_tree.specs.Tree.{Tree, closed, split, worked_of}
use Rattle.branch_tree.specs.Boxes.{side_at, low_box, high_box, IsParted}
use Rattle.branch_tree.specs.Listing.{points, IsListing, IsFirstOpen, IsMiddle, is_done}
use Rattle.branch_tree.proofs.Columns.{open_within, open_has_two}

two_parts : (side : Bounds) (at : ℤ) → side.lo ≤ℤ at → at <ℤ side.hi → (unsigned_abs (at -ℤ side.lo) + 1) + (unsigned_abs (side.hi -ℤ (at +ℤ pos 1)) + 1) ≡ unsigned_abs (side.hi -ℤ side.lo) + 1
two_parts side at low high = omega (arith, ints)

spread : (a b c rest : ℕ) → a + b ≡ c → a * rest + b * rest ≡ c * rest
spread a b c rest same = omega (arith, ap (λ (n : ℕ). n * rest) same)

spread_right : (k x y z : ℕ) → x + y ≡ z → k * x + k * y ≡ k * z
spread_right k x y z same = omega (arith, ap (λ (n : ℕ). k * n) same)

some_of : (k rest : ℕ) → 0 < rest → 0 < (k + 1) * rest
some_of k rest some = grind arith

second_not : (a b : Bool) → a ≡ true → (a && b) ≡ false → b ≡ false
second_not true b e both = both
second_not false b e both = cc

pub points_halves : (sides : List Bounds) (column : ℕ) (at : ℤ) → IsParted sides column at → points (low_box sides column at) + points (high_box sides column at) ≡ points sides
points_halves [] column at parted = absurd (let there = parted.there in omega arith)
points_halves (side ∷ sides) zero at parted = spread _ _ _ (points sides) (two_parts side at parted.low parted.high)
points_halves (side ∷ sides) (suc column) at parted =
    spread_right _ _ _ (points sides) (points_halves sides column at (record { there = let there = parted.there in omega arith; low = parted.low; high = parted.high }))

some_point : (sides : List Bounds) → 0 < points sides
some_point [] = omega arith
some_point (side ∷ sides) = some_of _ _ (some_point sides)

middle_parts : (sides : List Bounds) (column : ℕ) (at : ℤ) → IsFirstOpen sides column → IsMiddle (side_at sides column) at → IsParted sides column at
middle_parts sides column at first middle = let two = open_has_two sides column first in let low = middle.0 in let high = middle.1 in
    record { there = open_within sides column first; low = omega (arith, ints); high = omega (arith, ints) }

-- a whole tree has worked at most, and another one less than, twice the points less one
pub worked_within : (tree : Tree) (sides : List Bounds) → IsListing tree sides → worked_of tree + 1 ≤ 2 * points sides
worked_within (closed leaf.Pending) sides listing = let some = some_point sides in omega arith
worked_within (closed leaf.Fixed) sides listing = let some = some_point sides in omega arith
worked_within (split column at reason low high) sides listing =
    let sum = points_halves sides column at (middle_parts sides column at listing.0 listing.1) in
    let one = worked_within low (low_box sides column at) listing.2 in
    let two = worked_within high (high_box sides column at) listing.3 in
    omega arith

pub worked_below : (tree : Tree) (sides : List Bounds) → IsListing tree sides → is_done tree ≡ false → worked_of tree + 1 < 2 * points sides
worked_below (closed leaf.Pending) sides listing undone = let some = some_point sides in omega arith
worked_below (closed leaf.Fixed) sides listing undone = absurd cc
worked_below (split column at reason low high) sides listing undone = by_low (is_done low) refl (worked_below low (low_box sides column at) listing.2) (worked_below high (high_box sides column at) listing.3)
  where
    by_low : (b : Bool) → is_done low ≡ b → (is_done low ≡ false → worked_of low + 1 < 2 * points (low_box sides column at)) → (is_done high ≡ false → worked_of high + 1 < 2 * points (high_box sides column at)) → 1 + worked_of low + worked_of high + 1 < 2 * points sides
    by_low true e one two = let less = two (second_not _ _ e undone) in let sum = points_halves sides column at (middle_parts sides column at listing.0 listing.1) in let most = worked_within low (low_box sides column at) listing.2 in omega arith
    by_low false e one two = let less = one e in let sum = points_halves sides column at (middle_parts sides column at listing.0 listing.1) in let most = worked_within high (high_box sides column at) listing.3 in omega arith
