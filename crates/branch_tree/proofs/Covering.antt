-- A whole tree covers its box: no point of it is better than a best value against which every leaf closes.
use Rattle.std.proofs.Common.{◌≡◌, ℕ, zero, suc, ◌<◌, ℤ, pos, ◌+ℤ◌, ◌≤ℤ◌, ◌<ℤ◌, List, [], ◌∷◌, length, refl, sym, subst, arith, ◌⊎◌, inl, inr, Bool, true, false}
use Rattle.std.proofs.lemmas.Bool.{and_parts}
use Rattle.std.specs.Prelude.{Option, Some, int_lt}
use Rattle.std.proofs.lemmas.Int.{ints}
use Rattle.ip_rows.specs.declared.Bounds.{Bounds}
use Rattle.branch_tree.specs.declared.node.Leaf.TheVariants as leaf
use Rattle.branch_tree.specs.Tree.{Tree, closed, split}
use Rattle.branch_tree.specs.Boxes.{side_at, low_box, high_box}
use Rattle.branch_tree.specs.Listing.{InBox, AreFixed, Closes, HasLeaf, NoBetter, lows, is_done}

above : (at n : ℤ) → int_lt at n ≡ true → (at +ℤ pos 1) ≤ℤ n
above at n e = grind (arith, ints)

below : (at n : ℤ) → int_lt at n ≡ false → n ≤ℤ at
below at n e = grind (arith, ints)

lower : (n at hi : ℤ) → n ≤ℤ at → at <ℤ hi → n ≤ℤ hi
lower n at hi le less = omega (arith, ints)

higher : (n at lo : ℤ) → lo ≤ℤ at → (at +ℤ pos 1) ≤ℤ n → lo ≤ℤ n
higher n at lo le above = omega (arith, ints)

between : (n lo hi : ℤ) → lo ≡ hi → lo ≤ℤ n → n ≤ℤ hi → n ≡ lo
between n lo hi same low high = omega (arith, ints)

itself : (n : ℤ) → n ≤ℤ n
itself n = omega (arith, ints)

below_same : (lo hi : ℤ) → lo ≡ hi → lo ≤ℤ hi
below_same lo hi same = omega (arith, ints)

at_or_above : (n at : ℤ) → (n ≤ℤ at) ⊎ ((at +ℤ pos 1) ≤ℤ n)
at_or_above n at = by_test (int_lt at n) refl
  where
    by_test : (b : Bool) → int_lt at n ≡ b → (n ≤ℤ at) ⊎ ((at +ℤ pos 1) ≤ℤ n)
    by_test true e = inr (above at n e)
    by_test false e = inl (below at n e)

-- a point of a box lies in one of the two parts of a split
pub in_half : (sides : List Bounds) (column : ℕ) (at : ℤ) (ns : List ℤ) → column < length sides → InBox sides ns → InBox (low_box sides column at) ns ⊎ InBox (high_box sides column at) ns
in_half [] column at ns there inside = absurd (omega arith)
in_half (side ∷ sides) column at [] there inside = absurd inside
in_half (side ∷ sides) zero at (n ∷ ns) there inside = by_side (at_or_above n at)
  where
    by_side : (n ≤ℤ at) ⊎ ((at +ℤ pos 1) ≤ℤ n) → InBox (low_box (side ∷ sides) zero at) (n ∷ ns) ⊎ InBox (high_box (side ∷ sides) zero at) (n ∷ ns)
    by_side (inl le) = inl (inside.0, le, inside.2)
    by_side (inr le) = inr (le, inside.1, inside.2)
in_half (side ∷ sides) (suc column) at (n ∷ ns) there inside = by_rest (in_half sides column at ns (omega arith) inside.2)
  where
    by_rest : InBox (low_box sides column at) ns ⊎ InBox (high_box sides column at) ns → InBox (low_box (side ∷ sides) (suc column) at) (n ∷ ns) ⊎ InBox (high_box (side ∷ sides) (suc column) at) (n ∷ ns)
    by_rest (inl rest) = inl (inside.0, inside.1, rest)
    by_rest (inr rest) = inr (inside.0, inside.1, rest)

-- a point of a part lies in the box
in_low : (sides : List Bounds) (column : ℕ) (at : ℤ) (ns : List ℤ) → at <ℤ (side_at sides column).hi → InBox (low_box sides column at) ns → InBox sides ns
in_low [] column at ns high inside = inside
in_low (side ∷ sides) zero at [] high inside = absurd inside
in_low (side ∷ sides) zero at (n ∷ ns) high inside = (inside.0, lower n at side.hi inside.1 high, inside.2)
in_low (side ∷ sides) (suc column) at [] high inside = absurd inside
in_low (side ∷ sides) (suc column) at (n ∷ ns) high inside = (inside.0, inside.1, in_low sides column at ns high inside.2)

in_high : (sides : List Bounds) (column : ℕ) (at : ℤ) (ns : List ℤ) → (side_at sides column).lo ≤ℤ at → InBox (high_box sides column at) ns → InBox sides ns
in_high [] column at ns low inside = inside
in_high (side ∷ sides) zero at [] low inside = absurd inside
in_high (side ∷ sides) zero at (n ∷ ns) low inside = (higher n at side.lo low inside.0, inside.1, inside.2)
in_high (side ∷ sides) (suc column) at [] low inside = absurd inside
in_high (side ∷ sides) (suc column) at (n ∷ ns) low inside = (inside.0, inside.1, in_high sides column at ns low inside.2)

-- a box of one point has its least point alone
pub one_inside : (sides : List Bounds) (ns : List ℤ) → AreFixed sides → InBox sides ns → ns ≡ lows sides
one_inside [] [] fixed inside = refl
one_inside [] (n ∷ ns) fixed inside = absurd inside
one_inside (side ∷ sides) [] fixed inside = absurd inside
one_inside (side ∷ sides) (n ∷ ns) fixed inside = let head = between n side.lo side.hi fixed.0 inside.0 inside.1 in let rest = one_inside sides ns fixed.1 inside.2 in cc

pub lows_inside : (sides : List Bounds) → AreFixed sides → InBox sides (lows sides)
lows_inside [] fixed = tt
lows_inside (side ∷ sides) fixed = (itself side.lo, below_same side.lo side.hi fixed.0, lows_inside sides fixed.1)

module _ (value : List ℤ → Option ℤ) where
  pub covers : (best : Option ℤ) (tree : Tree) (sides : List Bounds) → Closes value best tree sides → is_done tree ≡ true → (ns : List ℤ) → InBox sides ns → NoBetter best (value ns)
  covers best (closed leaf.Pending) sides closes done ns inside = absurd cc
  covers best (closed leaf.Fixed) sides closes done ns inside = subst (λ (point : List ℤ). NoBetter best (value point)) (sym (one_inside sides ns closes.0 inside)) closes.1
  covers best (split column at reason low high) sides closes done ns inside =
      by_half (covers best low (low_box sides column at) closes.1 (and_parts (is_done low) (is_done high) done).0 ns) (covers best high (high_box sides column at) closes.2 (and_parts (is_done low) (is_done high) done).1 ns) (in_half sides column at ns closes.0.there inside)
    where
      by_half : (InBox (low_box sides column at) ns → NoBetter best (value ns)) → (InBox (high_box sides column at) ns → NoBetter best (value ns)) → InBox (low_box sides column at) ns ⊎ InBox (high_box sides column at) ns → NoBetter best (value ns)
      by_half low high (inl inside) = low inside
      by_half low high (inr inside) = high inside

  -- the point of a leaf lies in the box, and has its value
  pub leaf_inside : (best : Option ℤ) (point : List ℤ) (score : ℤ) (tree : Tree) (sides : List Bounds) → Closes value best tree sides → HasLeaf value point score tree sides → InBox sides point
  leaf_inside best point score (closed leaf.Pending) sides closes here = absurd here
  leaf_inside best point score (closed leaf.Fixed) sides closes here = subst (InBox sides) (sym here.0) (lows_inside sides closes.0)
  leaf_inside best point score (split column at reason low high) sides closes (inl here) = in_low sides column at point closes.0.high (leaf_inside best point score low (low_box sides column at) closes.1 here)
  leaf_inside best point score (split column at reason low high) sides closes (inr here) = in_high sides column at point closes.0.low (leaf_inside best point score high (high_box sides column at) closes.2 here)

  pub leaf_value : (point : List ℤ) (score : ℤ) (tree : Tree) (sides : List Bounds) → HasLeaf value point score tree sides → value point ≡ Some score
  leaf_value point score (closed leaf.Pending) sides here = absurd here
  leaf_value point score (closed leaf.Fixed) sides here = here.1
  leaf_value point score (split column at reason low high) sides (inl here) = leaf_value point score low (low_box sides column at) here
  leaf_value point score (split column at reason low high) sides (inr here) = leaf_value point score high (high_box sides column at) here
