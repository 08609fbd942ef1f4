-- An answer for which no reason comes is valid, and for a valid answer none comes.
use Rattle.std.proofs.Common.{◌≡◌, ℕ, zero, suc, ◌+◌, ◌<◌, ℤ, ◌≤ℤ◌, ◌<ℤ◌, Bool, true, false, not, List, [], ◌∷◌, length, get_or, refl, sym, ◌∙◌, ap, subst, arith}
use Rattle.std.proofs.lemmas.Bool.{and_parts, and_from, or_parts, not-true}
use Rattle.std.specs.Prelude.{Option, Some, None, Ok, Err, is_some, position, int_le, int_lt, nat_lt, ◌&&◌, ◌||◌}
use Rattle.std.proofs.lemmas.Int.{ints}
use Rattle.std.proofs.lemmas.List.Quantifiers.{position-Some}
use Rattle.ip_rows.specs.declared.Bounds.{Bounds}
use Rattle.tiql_query.specs.WellFormed.{IsWellFormed}
use Rattle.tiql_query.specs.declared.query.Query.{Query}
use Rattle.tiql_query.specs.declared.world_column.WorldColumn.{WorldColumn}
use Rattle.branch_tree.specs.declared.node.Leaf.TheVariants as leaf
use Rattle.branch_tree.specs.Tree.{Tree, closed, split, preorder}
use Rattle.branch_tree.specs.Faults.{NoFault, first_fault}
use Rattle.branch_tree.proofs.Faults.{neither_first, neither_later, sound_ok}
use Rattle.branch_tree.specs.Boxes.{IsParted, low_box, high_box}
use Rattle.branch_tree.specs.Listing.{AreSides, AreFixed, Closes, NoBetter, has_two, lows, is_done}
use Rattle.branch_tree.proofs.Columns.{no_side, one_point, sides_low, sides_high}
use Rattle.world_def.specs.Columns.{Tables}
use Rattle.world_points.specs.Points.{judged_at, cost_at}
use Rattle.cert_check.specs.declared.fault.Reject.{Reject}
use Rattle.cert_check.specs.declared.fault.Reject.TheVariants as reject
use Rattle.cert_check.specs.Reasons.{Outcome, ◌>>◌, unless, beats, is_parted, have_two, in_tree}
use Rattle.world_points.proofs.Told.{agree}
use Rattle.cert_check.proofs.Nodes.{parted_of, unless_ok}
use Rattle.cert_check.proofs.Costs.{asked_ok, ok_asked}

-- both of two reasons stay away
pub first_ok : (a b : Outcome) → (a >> b) ≡ Ok tt → a ≡ Ok tt
first_ok (Ok x) b is = refl
first_ok (Err e) b is = cc

pub next_ok : (a b : Outcome) → (a >> b) ≡ Ok tt → b ≡ Ok tt
next_ok (Ok x) b is = is
next_ok (Err e) b is = cc

pub holds_ok : (test : Bool) (reason : Reject) (part place : ℕ) → test ≡ true → unless test reason part place ≡ Ok tt
holds_ok test reason part place is = ap (λ (b : Bool). unless b reason part place) is

pub both_ok : (a b : Outcome) → a ≡ Ok tt → b ≡ Ok tt → (a >> b) ≡ Ok tt
both_ok a b one other = ap (λ (o : Outcome). o >> b) one ∙ other

-- a value is not better than the best exactly where the test says so
no_better : (best value : Option ℤ) → beats best value ≡ false → NoBetter best value
no_better best None is = tt
no_better None (Some value) is = cc
no_better (Some best) (Some value) is = grind (arith, ints)

never_beats : (best value : Option ℤ) → NoBetter best value → beats best value ≡ false
never_beats best None none = refl
never_beats None (Some value) none = absurd none
never_beats (Some best) (Some value) none = grind (arith, ints)

-- a box has one point exactly where no column has two values
one_value : (side : Bounds) → side.lo ≤ℤ side.hi → has_two side ≡ false → side.lo ≡ side.hi
one_value side le is = grind (arith, ints)

no_two : (side : Bounds) → side.lo ≡ side.hi → has_two side ≡ false
no_two side same = grind (arith, ints)

pub fixed_of_test : (sides : List Bounds) → AreSides sides → have_two sides ≡ false → AreFixed sides
fixed_of_test [] all is = tt
fixed_of_test (side ∷ sides) all is = let both = or_parts (has_two side) (have_two sides) is in (one_value side all.0 both.0, fixed_of_test sides all.1 both.1)

pub test_of_fixed : (sides : List Bounds) → AreFixed sides → have_two sides ≡ false
test_of_fixed [] fixed = refl
test_of_fixed (side ∷ sides) fixed = rw (no_two side fixed.0) (test_of_fixed sides fixed.1)

two_at : (sides : List Bounds) (k : ℕ) → k < length sides → has_two (get_or sides k no_side) ≡ true → have_two sides ≡ true
two_at [] k lt is = absurd (omega (arith, lt))
two_at (side ∷ sides) zero lt is = rw is refl
two_at (side ∷ sides) (suc k) lt is = by_first (has_two side) (two_at sides k (omega (arith, lt)) is)
  where
    by_first : (b : Bool) → have_two sides ≡ true → (b || have_two sides) ≡ true
    by_first true rest = refl
    by_first false rest = rest

-- the first column with two values is there exactly where some column has two
pub choice_position : (sides : List Bounds) → AreSides sides → have_two sides ≡ is_some (position has_two sides)
choice_position sides all = by_first (position has_two sides) refl
  where
    by_first : (o : Option ℕ) → position has_two sides ≡ o → have_two sides ≡ is_some o
    by_first None is = test_of_fixed sides (one_point sides all is)
    by_first (Some column) is = let there = position-Some has_two sides column no_side is in two_at sides column there.0 there.1

parted_test : (sides : List Bounds) (column : ℕ) (at : ℤ) → IsParted sides column at → is_parted sides column at ≡ true
parted_test sides column at parted = all_three _ _ _ (below _ _ parted.there) (at_most _ _ parted.low) (less _ _ parted.high)
  where
    all_three : (a b c : Bool) → a ≡ true → b ≡ true → c ≡ true → (a && b && c) ≡ true
    all_three a b c one two three = cc

    below : (m n : ℕ) → m < n → nat_lt m n ≡ true
    below m n e = grind arith

    at_most : (m n : ℤ) → m ≤ℤ n → int_le m n ≡ true
    at_most m n e = grind (arith, ints)

    less : (m n : ℤ) → m <ℤ n → int_lt m n ≡ true
    less m n e = grind (arith, ints)

module _ (query : Query) (tables : Tables) (columns : List WorldColumn) (fit : IsWellFormed query) (best : Option ℤ) (part : ℕ) where
  -- a tree in which nothing is wrong is done and closes
  pub tree_right : (tree : Tree) (sides : List Bounds) (place : ℕ) → AreSides sides → in_tree query tables columns best tree sides part place ≡ Ok tt → (is_done tree ≡ true) × Closes (cost_at query tables columns) best tree sides
  tree_right (closed leaf.Pending) sides place all right = cc
  tree_right (closed leaf.Fixed) sides place all right =
      let alone = unless (not (have_two sides)) reject.NotFixed part place in
      let fixed = unless_ok (not (have_two sides)) reject.NotFixed part place (first_ok alone _ right) in
      let told = asked_ok (judged_at query tables columns (lows sides)) (λ value. unless (not (beats best value)) reject.FixedBeats part place) tt (next_ok alone _ right) in
      let beaten = unless_ok (not (beats best told.0)) reject.FixedBeats part place told.2 in
      (refl, (fixed_of_test sides all (not-true _ fixed), subst (NoBetter best) (sym (agree query tables columns fit (lows sides) told.0 told.1)) (no_better best told.0 (not-true _ beaten))))
  tree_right (split column at reason low high) sides place all right =
      let parts = unless (is_parted sides column at) reject.WrongSplit part place in
      let in_low = in_tree query tables columns best low (low_box sides column at) part (place + 1) in
      let in_high = in_tree query tables columns best high (high_box sides column at) part (place + 1 + length (preorder low)) in
      let parted = parted_of sides column at (unless_ok (is_parted sides column at) reject.WrongSplit part place (first_ok parts (in_low >> in_high) right)) in
      let rest = next_ok parts (in_low >> in_high) right in
      let one = tree_right low (low_box sides column at) (place + 1) (sides_low sides column at all parted) (first_ok in_low in_high rest) in
      let other = tree_right high (high_box sides column at) (place + 1 + length (preorder low)) (sides_high sides column at all parted) (next_ok in_low in_high rest) in
      (and_from (is_done low) (is_done high) one.0 other.0, (parted, one.1, other.1))

  -- and nothing is wrong in a tree that is done and closes, where no world is at fault
  pub right_tree : (tree : Tree) (sides : List Bounds) (place : ℕ) → is_done tree ≡ true → Closes (cost_at query tables columns) best tree sides → NoFault (judged_at query tables columns) tree sides → in_tree query tables columns best tree sides part place ≡ Ok tt
  right_tree (closed leaf.Pending) sides place done closes sound = absurd cc
  right_tree (closed leaf.Fixed) sides place done closes sound =
      let told = sound_ok (judged_at query tables columns (lows sides)) sound in
      let none : NoBetter best told.0 = subst (NoBetter best) (agree query tables columns fit (lows sides) told.0 told.1) closes.1 in
      both_ok (unless (not (have_two sides)) reject.NotFixed part place) _
      (holds_ok (not (have_two sides)) reject.NotFixed part place (ap not (test_of_fixed sides closes.0)))
      (ok_asked (judged_at query tables columns (lows sides)) (λ value. unless (not (beats best value)) reject.FixedBeats part place) told.0 tt told.1
      (holds_ok (not (beats best told.0)) reject.FixedBeats part place (ap not (never_beats best told.0 none))))
  right_tree (split column at reason low high) sides place done closes sound =
      both_ok (unless (is_parted sides column at) reject.WrongSplit part place) _
      (holds_ok (is_parted sides column at) reject.WrongSplit part place (parted_test sides column at closes.0))
      (both_ok (in_tree query tables columns best low (low_box sides column at) part (place + 1)) _
      (right_tree low (low_box sides column at) (place + 1) (and_parts (is_done low) (is_done high) done).0 closes.1 (neither_first (first_fault (judged_at query tables columns) low (low_box sides column at)) (first_fault (judged_at query tables columns) high (high_box sides column at)) sound))
      (right_tree high (high_box sides column at) (place + 1 + length (preorder low)) (and_parts (is_done low) (is_done high) done).1 closes.2 (neither_later (first_fault (judged_at query tables columns) low (low_box sides column at)) (first_fault (judged_at query tables columns) high (high_box sides column at)) sound)))
