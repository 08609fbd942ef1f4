-- What a leaf with a value says, and what a program has where no column has two values.
use Rattle.std.proofs.Common.{◌≡◌, ◌∙◌, sym, ap, ap₂, subst, refl, ℕ, zero, suc, ◌+◌, ◌<◌, inl, inr, ℤ, pos, ◌≤ℤ◌, Bool, true, false, ◌||◌, List, [], ◌∷◌, length, take, get_or, All, arith}
use Rattle.std.specs.Prelude.{Option, Some, None, if◌then◌else◌, int_lt}
use Rattle.std.specs.List.{list_any}
use Rattle.std.proofs.lemmas.Int.{ints}
use Rattle.ip_rows.specs.declared.Bounds.{Bounds}
use Rattle.ip_rows.specs.declared.rows.Coef.{Coef}
use Rattle.ip_rows.specs.declared.program.Program.{Program}
use Rattle.ip_rows.specs.Programs.{Holds, IsMeasured, IsWellFormed, row_at}
use Rattle.ip_rows.specs.Rows.{side_at}
use Rattle.prov_fold.specs.Graphs.{Graph}
use Rattle.prov_fold.specs.Folds.{IsFold}
use Rattle.bool_encode.specs.declared.stand.Stand.{Stand}
use Rattle.bool_encode.specs.Points.{point_of}
use Rattle.branch_tree.specs.declared.node.Leaf.TheVariants as leaf
use Rattle.branch_tree.specs.Boxes.{low_box, high_box}
use Rattle.branch_tree.specs.Listing.{AreFixed, AreSides, has_two, lows, open_from}
use Rattle.branch_tree.specs.Tree.{Tree, closed, split}
use Rattle.branch_tree.proofs.Covering.{one_inside}
use Rattle.whole_points.specs.Matched.{IsMatched, world_count}
use Rattle.whole_points.specs.Points.{IsWholePoint, IsWorldWithin}
use Rattle.whole_points.proofs.WorldNumbers.{at_any}
use Rattle.program_leaves.specs.Leaves.{HasNoFalseRow, IsInside, is_in, is_met, is_open, leaf_value, meets_rows, part_columns, part_value, root_of, value_in, worlds_in}
use Rattle.program_leaves.specs.Closing.{Closes, ClosesLeaf, IsLeastPoint}
use Rattle.program_leaves.proofs.Closing.{least_fixed, lows_between, same_whole}
use Rattle.program_leaves.proofs.Insides.{between_in, inside_high, inside_low}
use Rattle.program_leaves.proofs.Meets.{all_hold, holds_of, met_of, value_both, value_broken, value_outside}
use Rattle.program_leaves.proofs.Points.{root_long, within_given, world_between, world_taken}
use Rattle.point_listing.specs.Works.{HasLeaf}
use Rattle.point_listing.proofs.Worlds.{root_sides_there}

-- a point with a value in a box meets the rows, and this is its value in the part
pub record IsValued (program : Program) (point : List ℤ) (value : ℤ) : Type 0 where
  pub met : meets_rows program point ≡ true
  pub is : part_value program point ≡ value

some_same : (m n : ℤ) → ◌≡◌ {A = Option ℤ} (Some m) (Some n) → m ≡ n
some_same m n e = cc

none_some : (n : ℤ) → ◌≡◌ {A = Option ℤ} None (Some n) → ⊥
none_some n e = cc

pub apart : true ≡ false → ⊥
apart e = cc

pub valued_of : (program : Program) (sides : List Bounds) (point : List ℤ) (value : ℤ) → value_in program sides point ≡ Some value → IsValued program point value
valued_of program sides point value is = by_tests (is_in sides point) (meets_rows program point) refl refl
  where
    by_tests : (a b : Bool) → is_in sides point ≡ a → meets_rows program point ≡ b → IsValued program point value
    by_tests true true inside met = record { met = met; is = some_same (part_value program point) value (sym (value_both program sides point inside met) ∙ is) }
    by_tests true false inside met = absurd (none_some value (sym (value_broken program sides point inside met) ∙ is))
    by_tests false b inside met = absurd (none_some value (sym (value_outside program sides point inside) ∙ is))

module _ (program : Program) (g : Graph) (stands : List Stand) (fold : IsFold g) (matched : IsMatched program g stands) where
  -- the world of a leaf lies within the sides, and its point is whole, with the value
  pub record IsFoundWorld (world : List ℤ) (value : ℤ) : Type 0 where
    pub within : IsWorldWithin program stands world
    pub whole : IsWholePoint program (point_of g stands world)
    pub is : part_value program (point_of g stands world) ≡ value

  found_here : (world : List ℤ) (value : ℤ) (sides : List Bounds) → IsInside (root_of program) sides → world ≡ lows (worlds_in stands sides) → leaf_value program g stands sides ≡ Some value → IsFoundWorld world value
  found_here world value sides inside is valued =
      let within = within_given program g stands sides matched inside world is in
      let told : IsValued program (point_of g stands world) value =
      valued_of program sides (point_of g stands world) value (ap (λ (w : List ℤ). value_in program sides (point_of g stands w)) is ∙ valued) in
      record {
        within = within;
        whole = record {
          between = world_between program g stands world matched fold within;
          rows = all_hold (point_of g stands world) program.rows told.met;
        };
        is = told.is;
      }

  pub found_world : (best : Option ℤ) (world : List ℤ) (value : ℤ) (tree : Tree) (sides : List Bounds) → IsInside (root_of program) sides → Closes (ClosesLeaf program g stands best) tree sides → HasLeaf program g stands world value tree sides → IsFoundWorld world value
  found_world best world value (closed leaf.Pending) sides inside closes here = absurd here
  found_world best world value (closed leaf.Fixed) sides inside closes here = found_here world value sides inside here.0 here.1
  found_world best world value (split column at reason low high) sides inside closes (inl here) = found_world best world value low (low_box sides column at) (inside_low (root_of program) sides column at inside closes.0) closes.1 here
  found_world best world value (split column at reason low high) sides inside closes (inr here) = found_world best world value high (high_box sides column at) (inside_high (root_of program) sides column at inside closes.0) closes.2 here

  -- the point of a world within the sides is that of its own world
  pub own_world : (world : List ℤ) → IsWorldWithin program stands world → point_of g stands world ≡ point_of g stands (take (world_count stands) (point_of g stands world))
  own_world world within = ap (point_of g stands) (sym (world_taken program g stands world matched within.count))

-- ---- where no column has two values

none_first : (column : ℕ) (sides : List Bounds) → open_from column sides ≡ [] → list_any has_two sides ≡ false
unfolding open_from
none_first column [] none = refl
none_first column (side ∷ sides) none = by_test (has_two side) refl none (none_first (column + 1) sides)
  where
    by_test : (b : Bool) → has_two side ≡ b → (if b then column ∷ open_from (column + 1) sides else open_from (column + 1) sides) ≡ [] → (open_from (column + 1) sides ≡ [] → list_any has_two sides ≡ false) → (has_two side || list_any has_two sides) ≡ false
    by_test true e none rest = absurd cc
    by_test false e none rest = ap₂ (λ (a b : Bool). a || b) e (rest none)

pub none_two : (program : Program) → part_columns program ≡ [] → list_any has_two (root_of program) ≡ false
none_two program none = none_first 0 (root_of program) none

same_by : (a b : ℤ) → int_lt a b ≡ false → a ≤ℤ b → a ≡ b
same_by a b e le = grind (arith, ints)

or_first : (a b : Bool) → (a || b) ≡ false → a ≡ false
or_first true b e = absurd cc
or_first false b e = refl

or_second : (a b : Bool) → (a || b) ≡ false → b ≡ false
or_second true b e = absurd cc
or_second false b e = e

none_fixed : (sides : List Bounds) → AreSides sides → list_any has_two sides ≡ false → AreFixed sides
none_fixed [] all none = tt
none_fixed (side ∷ sides) all none = (same_by side.lo side.hi (or_first (has_two side) (list_any has_two sides) none) all.0, none_fixed sides all.1 (or_second (has_two side) (list_any has_two sides) none))

side_fixed : (sides : List Bounds) (column : ℕ) → list_any has_two sides ≡ false → column < length sides → has_two (side_at sides column) ≡ false
side_fixed [] column none lt = absurd (omega (arith, lt))
side_fixed (side ∷ sides) zero none lt = or_first (has_two side) (list_any has_two sides) none
side_fixed (side ∷ sides) (suc column) none lt = side_fixed sides column (or_second (has_two side) (list_any has_two sides) none) (omega (arith, lt))

module _ (program : Program) (formed : IsWellFormed program) (measured : IsMeasured program) (none : part_columns program ≡ []) (sound : HasNoFalseRow program) where
  abbrev pub only : List ℤ
  only = lows (root_of program)

  row_fixed : (number : ℕ) → number < length program.rows → All (λ (t : Coef). is_open program t ≡ false) (row_at program.rows number).terms
  row_fixed number there =
      let terms = formed.rows number (record { terms = []; least = pos 0 }) there in
      let long = root_long program in
      λ k d lt. side_fixed (root_of program) (get_or (row_at program.rows number).terms k d).column (none_two program none) (let here = terms.there k d lt in omega (arith, here, long))

  -- a row that fails would be a false one
  row_holds : (number : ℕ) → number < length program.rows → Holds only (row_at program.rows number)
  row_holds number there = by_test (is_met only (row_at program.rows number)) refl
    where
      by_test : (b : Bool) → is_met only (row_at program.rows number) ≡ b → Holds only (row_at program.rows number)
      by_test true met = holds_of only (row_at program.rows number) met
      by_test false unmet = absurd (sound number (record { there = there; fixed = row_fixed number there; fails = λ holds. apart (sym (met_of only (row_at program.rows number) holds) ∙ unmet) }))

  -- the one point is whole
  pub only_whole : IsWholePoint program only
  only_whole = record {
    between = lows_between program measured;
    rows = λ number d there. subst (Holds only) (sym (at_any program.rows number (record { terms = []; least = pos 0 }) d there)) (row_holds number there);
  }

  pub only_least : IsLeastPoint program only
  only_least = least_fixed program formed only only_whole (none_two program none)

  -- and it is the point of its world
  pub only_own : (g : Graph) (stands : List Stand) → IsFold g → IsMatched program g stands → only ≡ point_of g stands (take (world_count stands) only)
  only_own g stands fold matched =
      let whole = same_whole program g stands fold formed matched only only_whole in
      sym (one_inside (root_of program) (point_of g stands (take (world_count stands) only)) (none_fixed (root_of program) (root_sides_there program measured) (none_two program none)) (between_in (root_of program) (point_of g stands (take (world_count stands) only)) whole.between))
