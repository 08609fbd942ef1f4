-- The fault that a listing comes upon first is one, whatever was worked.
use Rattle.std.proofs.Common.{◌≡◌, ℕ, zero, suc, ◌+◌, ◌<◌, ◌≤◌, ℤ, pos, ◌+ℤ◌, ◌≤ℤ◌, ◌<ℤ◌, List, [], ◌∷◌, Bool, true, false, refl, sym, ◌∙◌, ap, ap₂, subst, arith, ◌⊎◌, inl, inr}
use Rattle.std.specs.Prelude.{Option, Some, None, Result, Ok, IsSome, position}
use Rattle.std.proofs.lemmas.Int.{ints}
use Rattle.std.proofs.lemmas.Bool.{cases_lt, and_parts}
use Rattle.ip_rows.specs.declared.Bounds.{Bounds}
use Rattle.branch_tree.specs.declared.node.Leaf.TheVariants as leaf
use Rattle.branch_tree.specs.declared.node.Reason.{Reason}
use Rattle.branch_tree.specs.declared.node.Reason.TheVariants as reason
use Rattle.branch_tree.specs.Tree.{Tree, closed, split, worked_of}
use Rattle.branch_tree.specs.Boxes.{side_at, low_box, high_box}
use Rattle.branch_tree.specs.Listing.{AreFixed, IsFirstOpen, IsListing, IsInOrder, IsMiddle, has_two, is_done}
use Rattle.branch_tree.proofs.Columns.{open_has_two}
use Rattle.branch_tree.proofs.Columns.{one_point}
use Rattle.answer_text.specs.declared.answer.Answer.{Answer}
use Rattle.answer_text.specs.declared.answer.PartAnswer.{PartAnswer}
use Rattle.answer_text.specs.declared.answer.Verdict.{Verdict}
use Rattle.answer_text.specs.declared.answer.Verdict.TheVariants as verdict
use Rattle.tiql_query.specs.declared.query.Query.{Query}
use Rattle.tiql_query.specs.declared.world_column.WorldColumn.{WorldColumn}
use Rattle.world_def.specs.Columns.{Tables, columns_of}
use Rattle.world_def.specs.declared.fault.EvalFault.{EvalFault}
use Rattle.world_points.specs.Points.{judged_at, root}
use Rattle.world_points.proofs.Ordered.{sides_there}
use Rattle.branch_tree.specs.Faults.{NoFault, first_fault, or_later}
use Rattle.world_listing.specs.Faults.{FaultsIn}
use Rattle.world_listing.specs.Parts.{Answers, AreParts, ArePartsFor, IsListed, IsOneSound, IsVerdictFor}

-- a box of one point is not split
pub fixed_side : (sides : List Bounds) (column : ℕ) → AreFixed sides → (side_at sides column).lo ≡ (side_at sides column).hi
fixed_side [] column fixed = refl
fixed_side (side ∷ sides) zero fixed = fixed.0
fixed_side (side ∷ sides) (suc column) fixed = fixed_side sides column fixed.1

not_open : (lo hi : ℤ) → lo ≡ hi → lo <ℤ hi → ⊥
not_open lo hi same less = omega (arith, ints)

pub fixed_whole : (sides : List Bounds) (column : ℕ) → AreFixed sides → IsFirstOpen sides column → ⊥
fixed_whole sides column fixed first = not_open _ _ (fixed_side sides column fixed) (open_has_two sides column first)

-- the column and the middle at which a box is split are one
same_column : (sides : List Bounds) (one other : ℕ) → IsFirstOpen sides one → IsFirstOpen sides other → one ≡ other
same_column sides one other first again = cc

middle_below : (lo hi at other : ℤ) → (at +ℤ at) ≤ℤ (lo +ℤ hi) → (lo +ℤ hi) <ℤ (other +ℤ other +ℤ pos 2) → at ≤ℤ other
middle_below lo hi at other low high = omega (arith, ints)

both_ways : (a b : ℤ) → a ≤ℤ b → b ≤ℤ a → a ≡ b
both_ways a b le ge = omega (arith, ints)

same_middle : (side : Bounds) (one other : ℤ) → IsMiddle side one → IsMiddle side other → one ≡ other
same_middle side one other middle again = both_ways one other (middle_below side.lo side.hi one other middle.0 again.1) (middle_below side.lo side.hi other one again.0 middle.1)

same_reason : (one other : Reason) → one ≡ other
same_reason reason.Plain reason.Plain = refl

-- the halves of one tree are those of the other
module _ (sides : List Bounds) (c d : ℕ) (a b : ℤ) (first : IsFirstOpen sides c) (again : IsFirstOpen sides d) (middle : IsMiddle (side_at sides c) a) (next : IsMiddle (side_at sides d) b) where
  column_is : d ≡ c
  column_is = same_column sides d c again first

  at_is : b ≡ a
  at_is = same_middle (side_at sides c) b a (subst (λ (k : ℕ). IsMiddle (side_at sides k) b) column_is next) middle

  low_same : low_box sides d b ≡ low_box sides c a
  low_same = ap₂ (low_box sides) column_is at_is

  high_same : high_box sides d b ≡ high_box sides c a
  high_same = ap₂ (high_box sides) column_is at_is

-- a done listing has worked most
pub done_most : (one other : Tree) (sides : List Bounds) → IsListing one sides → IsListing other sides → is_done other ≡ true → worked_of one ≤ worked_of other
done_most (closed leaf.Pending) other sides here there done = omega arith
done_most (closed leaf.Fixed) (closed leaf.Pending) sides here there done = absurd cc
done_most (closed leaf.Fixed) (closed leaf.Fixed) sides here there done = omega arith
done_most (closed leaf.Fixed) (split d b r low high) sides here there done = omega arith
done_most (split c a r low high) (closed leaf.Pending) sides here there done = absurd cc
done_most (split c a r low high) (closed leaf.Fixed) sides here there done = absurd (fixed_whole sides c there here.0)
done_most (split c a r low high) (split d b s down up) sides here there done =
    let one : worked_of low ≤ worked_of down = done_most low down (low_box sides c a) here.2 (subst (IsListing down) (low_same sides c d a b here.0 there.0 here.1 there.1) there.2) (and_parts (is_done down) (is_done up) done).0 in
    let two : worked_of high ≤ worked_of up = done_most high up (high_box sides c a) here.3 (subst (IsListing up) (high_same sides c d a b here.0 there.0 here.1 there.1) there.3) (and_parts (is_done down) (is_done up) done).1 in
    omega arith

-- two done listings are one
pub done_one : (one other : Tree) (sides : List Bounds) → IsListing one sides → IsListing other sides → is_done one ≡ true → is_done other ≡ true → one ≡ other
done_one (closed leaf.Pending) other sides here there done whole = absurd cc
done_one (closed leaf.Fixed) (closed leaf.Pending) sides here there done whole = absurd cc
done_one (closed leaf.Fixed) (closed leaf.Fixed) sides here there done whole = refl
done_one (closed leaf.Fixed) (split d b s down up) sides here there done whole = absurd (fixed_whole sides d here there.0)
done_one (split c a r low high) (closed leaf.Pending) sides here there done whole = absurd cc
done_one (split c a r low high) (closed leaf.Fixed) sides here there done whole = absurd (fixed_whole sides c there here.0)
done_one (split c a r low high) (split d b s down up) sides here there done whole =
    let one : low ≡ down = done_one low down (low_box sides c a) here.2 (subst (IsListing down) (low_same sides c d a b here.0 there.0 here.1 there.1) there.2) (and_parts (is_done low) (is_done high) done).0 (and_parts (is_done down) (is_done up) whole).0 in
    let two : high ≡ up = done_one high up (high_box sides c a) here.3 (subst (IsListing up) (high_same sides c d a b here.0 there.0 here.1 there.1) there.3) (and_parts (is_done low) (is_done high) done).1 (and_parts (is_done down) (is_done up) whole).1 in
    let column : d ≡ c = column_is sides c d a b here.0 there.0 here.1 there.1 in
    let at : b ≡ a = at_is sides c d a b here.0 there.0 here.1 there.1 in
    let why : r ≡ s = same_reason r s in
    cc

module _ (judged : List ℤ → Result (Option ℤ) EvalFault) where
  -- what the high half has comes where the low half is done
  low_done : (low high : Tree) (box : List Bounds) (told : EvalFault) → (is_done low ≡ false → high ≡ closed leaf.Pending) → first_fault judged high box ≡ Some told → is_done low ≡ true
  low_done low high box told order first = by_test (is_done low) refl
    where
      by_test : (b : Bool) → is_done low ≡ b → is_done low ≡ true
      by_test true e = e
      by_test false e = absurd (let none : first_fault judged high box ≡ None = ap (λ (t : Tree). first_fault judged t box) (order e) in cc)

  some_worked : (tree : Tree) (box : List Bounds) (told : EvalFault) → first_fault judged tree box ≡ Some told → 0 < worked_of tree
  some_worked (closed leaf.Pending) box told first = absurd cc
  some_worked (closed leaf.Fixed) box told first = omega arith
  some_worked (split c a r low high) box told first = omega arith

  -- a listing that works no less, at a box that is split
  module _ (low high down up : Tree) (lows highs : List Bounds) (told : EvalFault)
      (low_lists : IsListing low lows) (down_lists : IsListing down lows)
      (order : is_done low ≡ false → high ≡ closed leaf.Pending) (again : is_done down ≡ false → up ≡ closed leaf.Pending)
      (less : 1 + worked_of low + worked_of high ≤ 1 + worked_of down + worked_of up) where
    none_worked_up : is_done down ≡ false → worked_of up ≡ 0
    none_worked_up e = ap worked_of (again e)

    low_less : worked_of low ≤ worked_of down
    low_less = by_down (is_done down) refl
      where
        by_down : (b : Bool) → is_done down ≡ b → worked_of low ≤ worked_of down
        by_down true e = done_most low down lows low_lists down_lists e
        by_down false e = let none = none_worked_up e in omega (arith, less, none)

    -- the fault is in the low half
    in_low : (own : EvalFault) → (worked_of low ≤ worked_of down → first_fault judged low lows ≡ Some told → first_fault judged down lows ≡ Some told) → first_fault judged low lows ≡ Some own → Some own ≡ Some told →
        or_later (first_fault judged down lows) (first_fault judged up highs) ≡ Some told
    in_low own kept e first = ap (λ (o : Option EvalFault). or_later o (first_fault judged up highs)) (kept low_less (e ∙ first))

    -- the fault is in the high half, so that the low one is done
    in_high : (worked_of high ≤ worked_of up → first_fault judged high highs ≡ Some told → first_fault judged up highs ≡ Some told) → first_fault judged low lows ≡ None → first_fault judged high highs ≡ Some told →
        or_later (first_fault judged down lows) (first_fault judged up highs) ≡ Some told
    in_high kept none first = by_down (is_done down) refl
      where
        done : is_done low ≡ true
        done = low_done low high highs told order first

        by_down : (b : Bool) → is_done down ≡ b → or_later (first_fault judged down lows) (first_fault judged up highs) ≡ Some told
        by_down true e =
            let same : low ≡ down = done_one low down lows low_lists down_lists (low_done low high highs told order first) e in
            ap (λ (o : Option EvalFault). or_later o (first_fault judged up highs)) (ap (λ (t : Tree). first_fault judged t lows) (sym same) ∙ none)
            ∙ kept (let count = ap worked_of same in omega (arith, less, count)) first
        by_down false e = absurd (
            let most = done_most down low lows down_lists low_lists (low_done low high highs told order first) in
            let some = some_worked high highs told first in
            let nought = none_worked_up e in
            omega (arith, less, most, some, nought))

    at_halves : (worked_of low ≤ worked_of down → first_fault judged low lows ≡ Some told → first_fault judged down lows ≡ Some told) → (worked_of high ≤ worked_of up → first_fault judged high highs ≡ Some told → first_fault judged up highs ≡ Some told) →
        or_later (first_fault judged low lows) (first_fault judged high highs) ≡ Some told → or_later (first_fault judged down lows) (first_fault judged up highs) ≡ Some told
    at_halves kept_low kept_high = by_low (first_fault judged low lows) refl
      where
        by_low : (o : Option EvalFault) → first_fault judged low lows ≡ o → or_later o (first_fault judged high highs) ≡ Some told → or_later (first_fault judged down lows) (first_fault judged up highs) ≡ Some told
        by_low None e first = in_high kept_high e first
        by_low (Some own) e first = in_low own kept_low e first

  -- a listing that works no less comes upon the same fault first
  pub fault_kept : (one other : Tree) (sides : List Bounds) (told : EvalFault) → IsListing one sides → IsListing other sides → IsInOrder one → IsInOrder other → worked_of one ≤ worked_of other → first_fault judged one sides ≡ Some told → first_fault judged other sides ≡ Some told
  fault_kept (closed leaf.Pending) other sides told here there order again less first = absurd cc
  fault_kept (closed leaf.Fixed) (closed leaf.Pending) sides told here there order again less first = absurd (omega (arith, less))
  fault_kept (closed leaf.Fixed) (closed leaf.Fixed) sides told here there order again less first = first
  fault_kept (closed leaf.Fixed) (split d b s down up) sides told here there order again less first = absurd (fixed_whole sides d here there.0)
  fault_kept (split c a r low high) (closed leaf.Pending) sides told here there order again less first = absurd (omega (arith, less))
  fault_kept (split c a r low high) (closed leaf.Fixed) sides told here there order again less first = absurd (fixed_whole sides c there here.0)
  fault_kept (split c a r low high) (split d b s down up) sides told here there order again less first =
      let lows = low_same sides c d a b here.0 there.0 here.1 there.1 in
      let highs = high_same sides c d a b here.0 there.0 here.1 there.1 in
      let down_lists = subst (IsListing down) lows there.2 in
      let up_lists = subst (IsListing up) highs there.3 in
      ap₂ or_later (ap (first_fault judged down) lows) (ap (first_fault judged up) highs)
      ∙ at_halves low high down up (low_box sides c a) (high_box sides c a) told here.2 down_lists order.2 again.2 less
      (λ le. fault_kept low down (low_box sides c a) told here.2 down_lists order.0 again.0 le)
      (λ le. fault_kept high up (high_box sides c a) told here.3 up_lists order.1 again.1 le)
      first

  -- two listings that come upon a fault come upon the same one first
  pub one_first : (one other : Tree) (sides : List Bounds) (told heard : EvalFault) → IsListing one sides → IsListing other sides → IsInOrder one → IsInOrder other → first_fault judged one sides ≡ Some told → first_fault judged other sides ≡ Some heard → told ≡ heard
  one_first one other sides told heard here there order again first next = by_count (cases_lt (worked_of one) (worked_of other))
    where
      by_count : (worked_of one < worked_of other) ⊎ (worked_of other ≤ worked_of one) → told ≡ heard
      by_count (inl less) = let kept = fault_kept one other sides told here there order again (omega (arith, less)) first in cc
      by_count (inr less) = let kept = fault_kept other one sides heard there here again order less next in cc

  -- a listing without a fault has not worked as much as one that comes upon one, unless it were done
  none_before : (one other : Tree) (sides : List Bounds) (told : EvalFault) → IsListing one sides → IsListing other sides → IsInOrder one → IsInOrder other → worked_of one ≤ worked_of other → NoFault judged other sides → first_fault judged one sides ≡ Some told → ⊥
  none_before one other sides told here there order again less none first = let kept = fault_kept one other sides told here there order again less first in cc

module _ (query : Query) (tables : Tables) (columns : List WorldColumn) where
  -- whatever the budgets, the fault is one
  pub one_fault : (budget other : ℕ) (told heard : EvalFault) → FaultsIn query tables columns budget told → FaultsIn query tables columns other heard → told ≡ heard
  one_fault budget other told heard one two = one_first (judged_at query tables columns) one.tree two.tree (root columns) told heard one.listing two.listing one.in_order two.in_order one.first two.first

  -- no fault comes up where a part is told
  pub fault_excludes : (budget : ℕ) (part : PartAnswer) (told : EvalFault) → IsSome (position has_two (root columns)) → IsListed query tables columns budget part → FaultsIn query tables columns budget told → ⊥
  fault_excludes budget part told several listed faults =
      none_before (judged_at query tables columns) faults.tree listed.tree (root columns) told faults.listing listed.listing faults.in_order listed.in_order (by_done (is_done listed.tree) refl) listed.sound faults.first
    where
      by_done : (b : Bool) → is_done listed.tree ≡ b → worked_of faults.tree ≤ worked_of listed.tree
      by_done true e = done_most faults.tree listed.tree (root columns) faults.listing listed.listing e
      by_done false e = let spent = listed.spent e in let within = faults.within several in omega (arith, spent, within)

  -- nor where the one world is told
  pub sound_excludes : (budget : ℕ) (told : EvalFault) → AreFixed (root columns) → IsOneSound query tables columns → FaultsIn query tables columns budget told → ⊥
  sound_excludes budget told fixed sound faults =
      none_before (judged_at query tables columns) faults.tree (closed leaf.Fixed) (root columns) told faults.listing fixed faults.in_order tt (done_most faults.tree (closed leaf.Fixed) (root columns) faults.listing fixed refl) sound faults.first

  module _ (made : columns_of query tables ≡ Ok columns) (budget : ℕ) (told : EvalFault) (faults : FaultsIn query tables columns budget told) where
    parts_exclude : (best : Option ℤ) (parts : List PartAnswer) → AreParts query tables columns budget best parts → ⊥
    parts_exclude best parts = by_column (position has_two (root columns)) refl
      where
        by_column : (o : Option ℕ) → position has_two (root columns) ≡ o → ArePartsFor query tables columns budget best o parts → ⊥
        by_column None none told_parts = sound_excludes budget told (one_point (root columns) (sides_there query tables columns made) none) told_parts.1 faults
        by_column (Some column) some told_parts = fault_excludes budget told_parts.0 told (subst IsSome (sym some) refl) told_parts.2.listed faults

    -- a query has an answer or a fault, and not both
    pub answer_excludes : (answer : Answer) → Answers query tables columns budget answer → ⊥
    answer_excludes answer answers = by_verdict answer.verdict answers.verdict
      where
        by_verdict : (verdict : Verdict) → IsVerdictFor query tables columns budget verdict → ⊥
        by_verdict (verdict.Optimal objective worlds parts) tells = parts_exclude _ parts tells.listed
        by_verdict (verdict.FalseRow row) tells = sound_excludes budget told tells.fixed tells.sound faults
        by_verdict (verdict.NoWorld part) tells = fault_excludes budget part told tells.several tells.whole.listed faults
        by_verdict (verdict.Unfinished nodes parts) tells = fault_excludes budget tells.part told tells.several tells.listed faults
