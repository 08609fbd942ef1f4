-- From a listing to the answer that tells it.
use Rattle.std.proofs.Common.{◌≡◌, ℕ, suc, ◌<◌, ℤ, ◌≤ℤ◌, List, [], ◌∷◌, length, Bool, true, false, refl, sym, ◌∙◌, ap, subst, arith, inl, inr, if◌then◌else◌}
use Rattle.std.proofs.lemmas.Bool.{and_parts}
use Rattle.std.specs.Prelude.{Option, Some, None, Ok, Err, position, IsSome, ◌&&◌}
use Rattle.std.proofs.lemmas.Int.{ints}
use Rattle.ip_rows.specs.declared.Bounds.{Bounds}
use Rattle.branch_tree.specs.declared.node.Leaf.TheVariants as leaf
use Rattle.branch_tree.specs.Tree.{Tree, closed, split, pending_of, pending_nodes}
use Rattle.branch_tree.specs.Listing.{InBox, AreFixed, Closes, HasLeaf, NoBetter, has_two, lows, is_done, open_columns}
use Rattle.branch_tree.proofs.Trees.{pending_nodes-preorder}
use Rattle.branch_tree.proofs.Covering.{covers, leaf_inside, leaf_value}
use Rattle.answer_text.specs.declared.answer.PartAnswer.{PartAnswer}
use Rattle.answer_text.specs.declared.answer.Verdict.{Verdict}
use Rattle.answer_text.specs.declared.answer.Verdict.TheVariants as verdict
use Rattle.tiql_query.specs.declared.query.Query.{Query}
use Rattle.tiql_query.specs.declared.world_column.WorldColumn.{WorldColumn}
use Rattle.world_def.specs.Columns.{Tables}
use Rattle.world_def.specs.Meaning.{IsBest, NoneMeets, score}
use Rattle.world_def.specs.declared.fault.EvalFault.{EvalFault}
use Rattle.world_def.specs.Views.{Gives}
use Rattle.world_points.specs.Points.{is_of_world, judged, judged_at, root, cost_at, world_at, cost}
use Rattle.world_points.specs.Subject.{IsSubject}
use Rattle.branch_tree.specs.Faults.{fault_of}
use Rattle.branch_tree.proofs.Faults.{leaf_judged}
use Rattle.world_listing.specs.Parts.{AreParts, ArePartsFor, IsListed, IsOf, IsReached, IsOneSound, IsWhole, ListsFor, IsVerdictFor, TellsFault}
use Rattle.world_listing.specs.Works.{IsFromLeaf, best_value}
use Rattle.world_listing.specs.declared.search.Found.{Found}
use Rattle.world_listing.specs.declared.search.Listed.{Listed}
use Rattle.world_points.proofs.Laws.{best_there, none_there}
use Rattle.world_points.proofs.Told.{agree}
use Rattle.world_listing.proofs.Sizes.{cost_back}

none_open : (tree : Tree) → pending_of tree ≡ 0 → is_done tree ≡ true
none_open (closed leaf.Pending) none = absurd (omega (arith, none))
none_open (closed leaf.Fixed) none = refl
none_open (split column at reason low high) none =
    let one = none_open low (omega (arith, none)) in let two = none_open high (omega (arith, none)) in rw (one, two) refl

done_none : (tree : Tree) → is_done tree ≡ true → pending_of tree ≡ 0
done_none (closed leaf.Pending) done = absurd cc
done_none (closed leaf.Fixed) done = refl
done_none (split column at reason low high) done =
    let one : pending_of low ≡ 0 = done_none low (and_parts (is_done low) (is_done high) done).0 in let two : pending_of high ≡ 0 = done_none high (and_parts (is_done low) (is_done high) done).1 in omega arith

some_open : (tree : Tree) → 0 < pending_of tree → is_done tree ≡ false
some_open (closed leaf.Pending) some = refl
some_open (closed leaf.Fixed) some = absurd (omega (arith, some))
some_open (split column at reason low high) some = by_low (is_done low) refl (some_open high)
  where
    by_low : (b : Bool) → is_done low ≡ b → (0 < pending_of high → is_done high ≡ false) → (is_done low && is_done high) ≡ false
    by_low false e high = rw e refl
    by_low true e high = rw e (high (let none = done_none low e in omega (arith, some, none)))

itself : (n : ℤ) → n ≤ℤ n
itself n = omega (arith, ints)

-- a point of a box has a number for each column
inside_long : (sides : List Bounds) (ns : List ℤ) → InBox sides ns → length ns ≡ length sides
inside_long [] [] inside = refl
inside_long [] (n ∷ ns) inside = absurd inside
inside_long (side ∷ sides) [] inside = absurd inside
inside_long (side ∷ sides) (n ∷ ns) inside = ap suc (inside_long sides ns inside.2)

pub root_long : (columns : List WorldColumn) → length (root columns) ≡ length columns
root_long [] = refl
root_long (column ∷ columns) = ap suc (root_long columns)

module _ (query : Query) (tables : Tables) (columns : List WorldColumn) where
  pub reached_of : (best : Option Found) (tree : Tree) → IsFromLeaf (cost_at query tables columns) None best tree (root columns) → IsReached query tables columns tree (best_value best)
  reached_of None tree from = tt
  reached_of (Some found) tree (inl none) = absurd cc
  reached_of (Some found) tree (inr leaf) = (found.point, leaf)

  abbrev pub listed_of : (budget : ℕ) (listed : Listed) (part : PartAnswer) → ListsFor query tables columns budget listed →
      part.number ≡ 1 → part.columns ≡ open_columns (root columns) → part.best ≡ best_value listed.best → part.tree ≡ listed.tree → IsListed query tables columns budget part
  listed_of budget listed part lists number chosen best tree = record {
    number = number;
    columns = chosen;
    tree = lists.tree;
    nodes = tree ∙ lists.nodes;
    listing = lists.listing;
    in_order = lists.in_order;
    closes = subst (λ (b : Option ℤ). Closes (cost_at query tables columns) b lists.tree (root columns)) (sym best) lists.closes;
    reached = subst (λ (b : Option ℤ). IsReached query tables columns lists.tree b) (sym best) (reached_of listed.best lists.tree lists.found);
    within = lists.within;
    spent = lists.pending;
    sound = lists.sound;
  }

  -- the world of a point with a value is judged as the point is
  world_judged : (point : List ℤ) (v : ℤ) → judged_at query tables columns point ≡ Ok (Some v) → judged query tables (world_at query tables columns point) ≡ Ok (Some v)
  unfolding judged_at
  world_judged point v = by_test (is_of_world query tables columns point)
    where
      by_test : (b : Bool) → (if b then judged query tables (world_at query tables columns point) else Ok None) ≡ Ok (Some v) → judged query tables (world_at query tables columns point) ≡ Ok (Some v)
      by_test true e = e
      by_test false e = cc

  -- an optimal answer with a best world
  pub tells_optimal : (budget : ℕ) (found : Found) (parts : List PartAnswer) (told : Verdict) → IsOf query tables columns found parts told →
      IsBest query tables (world_at query tables columns found.point) × (found.cost ≡ cost query.aim (score query tables (world_at query tables columns found.point))) →
      judged_at query tables columns found.point ≡ Ok (Some found.cost) →
      AreParts query tables columns budget (Some found.cost) parts → IsVerdictFor query tables columns budget told
  tells_optimal budget found parts (verdict.Optimal objective worlds listed) is best sound whole = record {
    world = world_at query tables columns found.point;
    best = best.0;
    score = is.0 ∙ ap (cost query.aim) best.1 ∙ cost_back query.aim (score query tables (world_at query tables columns found.point));
    sound = world_judged found.point found.cost sound ∙ ap (λ (v : ℤ). Ok (Some v)) (sym (ap (cost query.aim) is.0 ∙ cost_back query.aim found.cost));
    sections = is.1;
    listed = subst (λ (v : ℤ). AreParts query tables columns budget (Some v) listed) (sym (ap (cost query.aim) is.0 ∙ cost_back query.aim found.cost)) (subst (λ (l : List PartAnswer). AreParts query tables columns budget (Some found.cost) l) (sym is.2) whole);
  }
  tells_optimal budget found parts (verdict.FalseRow row) is best sound whole = absurd is
  tells_optimal budget found parts (verdict.NoWorld part) is best sound whole = absurd is
  tells_optimal budget found parts (verdict.Unfinished nodes listed) is best sound whole = absurd is

  module _ (asked : IsSubject query tables columns) where
    module _ (fixed : AreFixed (root columns)) where
      -- the one possible world, which meets
      pub one_best : (point : List ℤ) (v : ℤ) → point ≡ lows (root columns) → judged_at query tables columns point ≡ Ok (Some v) →
          IsBest query tables (world_at query tables columns point) × (v ≡ cost query.aim (score query tables (world_at query tables columns point)))
      one_best point v lowest is =
          let value : cost_at query tables columns point ≡ Some v = agree query tables columns asked.fit point (Some v) is in
          best_there query tables columns asked.made asked.fit asked.given point v value
          (covers (cost_at query tables columns) (Some v) (closed leaf.Fixed) (root columns)
          (fixed, subst (NoBetter (Some v)) (sym (ap (cost_at query tables columns) (sym lowest) ∙ value)) (itself v)) refl)

      -- or does not
      pub one_fails : (point : List ℤ) → point ≡ lows (root columns) → judged_at query tables columns point ≡ Ok None → NoneMeets query tables
      one_fails point lowest is =
          none_there query tables columns asked.made asked.fit asked.given
          (covers (cost_at query tables columns) None (closed leaf.Fixed) (root columns)
          (fixed, subst (NoBetter None) (sym (ap (cost_at query tables columns) (sym lowest) ∙ agree query tables columns asked.fit point None is)) tt) refl)

    module _ (budget : ℕ) (listed : Listed) (lists : ListsFor query tables columns budget listed) where
      pub lists_done : pending_nodes listed.tree ≡ 0 → is_done lists.tree ≡ true
      lists_done none = none_open lists.tree (sym (pending_nodes-preorder lists.tree) ∙ ap pending_nodes (sym lists.nodes) ∙ none)

      pub lists_undone : 0 < pending_nodes listed.tree → is_done lists.tree ≡ false
      lists_undone some = some_open lists.tree (subst (λ (n : ℕ). 0 < n) (ap pending_nodes lists.nodes ∙ pending_nodes-preorder lists.tree) some)

      -- what is found is the point of a leaf
      found_leaf : (found : Found) → listed.best ≡ Some found → HasLeaf (cost_at query tables columns) found.point found.cost lists.tree (root columns)
      found_leaf found is = by_from (subst (λ (b : Option Found). IsFromLeaf (cost_at query tables columns) None b lists.tree (root columns)) is lists.found)
        where
          by_from : IsFromLeaf (cost_at query tables columns) None (Some found) lists.tree (root columns) → HasLeaf (cost_at query tables columns) found.point found.cost lists.tree (root columns)
          by_from (inl none) = absurd cc
          by_from (inr leaf) = leaf

      found_closes : (best : Option Found) → listed.best ≡ best → Closes (cost_at query tables columns) (best_value best) lists.tree (root columns)
      found_closes best is = subst (λ (b : Option Found). Closes (cost_at query tables columns) (best_value b) lists.tree (root columns)) is lists.closes

      pub found_long : (found : Found) → listed.best ≡ Some found → length found.point ≡ length columns
      found_long found is =
          inside_long (root columns) found.point (leaf_inside (cost_at query tables columns) (Some found.cost) found.point found.cost lists.tree (root columns) (found_closes (Some found) is) (found_leaf found is))
          ∙ root_long columns

      pub found_judged : (found : Found) → listed.best ≡ Some found → judged_at query tables columns found.point ≡ Ok (Some found.cost)
      found_judged found is = leaf_judged (cost_at query tables columns) (judged_at query tables columns) (agree query tables columns asked.fit) found.point found.cost lists.tree (root columns) lists.sound (found_leaf found is)

      pub found_best : (found : Found) → listed.best ≡ Some found → pending_nodes listed.tree ≡ 0 →
          IsBest query tables (world_at query tables columns found.point) × (found.cost ≡ cost query.aim (score query tables (world_at query tables columns found.point)))
      found_best found is none =
          best_there query tables columns asked.made asked.fit asked.given found.point found.cost (leaf_value (cost_at query tables columns) found.point found.cost lists.tree (root columns) (found_leaf found is))
          (covers (cost_at query tables columns) (Some found.cost) lists.tree (root columns) (found_closes (Some found) is) (lists_done none))

      pub found_none : listed.best ≡ None → pending_nodes listed.tree ≡ 0 → NoneMeets query tables
      found_none is none = none_there query tables columns asked.made asked.fit asked.given (covers (cost_at query tables columns) None lists.tree (root columns) (found_closes None is) (lists_done none))

  -- the one part, where a column has two values
  pub tells_parts : (budget : ℕ) (best : Option ℤ) (part : PartAnswer) (parts : List PartAnswer) →
      IsSome (position has_two (root columns)) → parts ≡ part ∷ [] → IsWhole query tables columns budget best part → AreParts query tables columns budget best parts
  tells_parts budget best part parts several one whole = by_column (position has_two (root columns)) several
    where
      by_column : (o : Option ℕ) → IsSome o → ArePartsFor query tables columns budget best o parts
      by_column None several = absurd cc
      by_column (Some column) several = (part, one, whole)

  -- no part, where none has
  pub tells_none : (budget : ℕ) (best : Option ℤ) (parts : List PartAnswer) → position has_two (root columns) ≡ None → parts ≡ [] → IsOneSound query tables columns → AreParts query tables columns budget best parts
  tells_none budget best parts none empty sound = subst (λ (o : Option ℕ). ArePartsFor query tables columns budget best o parts) (sym none) (empty, sound)

  -- the fault of the one world
  pub tells_one : (point : List ℤ) (told : EvalFault) → position has_two (root columns) ≡ None → AreFixed (root columns) → point ≡ lows (root columns) → Gives {A = Option ℤ} (judged_at query tables columns point) (Err told) →
      (budget : ℕ) → TellsFault query tables columns budget told
  tells_one point told none fixed lowest is budget = λ other. record {
    tree = closed leaf.Fixed;
    listing = fixed;
    in_order = tt;
    within = λ several. absurd (let some = subst IsSome none several in cc);
    first = ap fault_of (ap (judged_at query tables columns) (sym lowest) ∙ is other);
  }
