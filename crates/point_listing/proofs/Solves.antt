-- From a listing to the answer that tells it.
use Rattle.std.proofs.Common.{◌≡◌, ◌∙◌, sym, ap, subst, refl, ℕ, ◌<◌, inl, inr, ℤ, Bool, true, false, List, [], ◌∷◌, length, arith}
use Rattle.std.specs.Prelude.{Option, Some, None, ◌&&◌}
use Rattle.std.proofs.lemmas.Bool.{and_parts}
use Rattle.ip_rows.specs.declared.program.Program.{Program}
use Rattle.ip_rows.specs.Programs.{IsMeasured, IsWellFormed}
use Rattle.prov_fold.specs.Graphs.{Graph}
use Rattle.prov_fold.specs.Folds.{IsFold}
use Rattle.bool_encode.specs.declared.stand.Stand.{Stand}
use Rattle.bool_encode.specs.Points.{point_of}
use Rattle.branch_tree.specs.declared.node.Leaf.TheVariants as leaf
use Rattle.branch_tree.specs.Tree.{Tree, closed, split, pending_of, pending_nodes}
use Rattle.branch_tree.specs.Listing.{is_done, lows}
use Rattle.branch_tree.proofs.Counting.{worked_below}
use Rattle.branch_tree.proofs.Trees.{pending_nodes-preorder}
use Rattle.answer_text.specs.declared.answer.PartAnswer.{PartAnswer}
use Rattle.whole_points.specs.Matched.{IsMatched}
use Rattle.whole_points.specs.Points.{IsWorldWithin}
use Rattle.program_leaves.specs.Leaves.{HasNoFalseRow, part_columns, part_value, root_of, worlds_in}
use Rattle.program_leaves.specs.Closing.{Closes, ClosesLeaf, NoneBetter}
use Rattle.program_leaves.proofs.Closing.{least_by, no_point_by, none_better}
use Rattle.program_leaves.proofs.Insides.{inside_root}
use Rattle.point_listing.specs.Works.{HasLeaf, IsFromLeaf, Lists, best_value}
use Rattle.point_listing.specs.Solving.{ArePartsFor, IsBest, IsEnough, IsFinished, IsListed, IsNoWorld, IsReached, IsSolved, IsSpent, IsWhole}
use Rattle.point_listing.specs.declared.search.Found.{Found}
use Rattle.point_listing.specs.declared.search.Listed.{Listed}
use Rattle.point_listing.specs.declared.solved.Solved.{Solved}
use Rattle.point_listing.specs.declared.solved.Solved.TheVariants as solved
use Rattle.point_listing.proofs.Tells.{IsFoundWorld, apart, found_world, only_least, only_own, own_world}
use Rattle.point_listing.proofs.Worlds.{root_sides_there}

-- a tree without an open box is done, and one with an open box is not
none_open : (tree : Tree) → pending_of tree ≡ 0 → is_done tree ≡ true
none_open (closed leaf.Pending) none = absurd (omega (arith, none))
none_open (closed leaf.Fixed) none = refl
none_open (split column at reason low high) none =
    let one = none_open low (omega (arith, none)) in let two = none_open high (omega (arith, none)) in rw (one, two) refl

done_none : (tree : Tree) → is_done tree ≡ true → pending_of tree ≡ 0
done_none (closed leaf.Pending) done = absurd cc
done_none (closed leaf.Fixed) done = refl
done_none (split column at reason low high) done =
    let one : pending_of low ≡ 0 = done_none low (and_parts (is_done low) (is_done high) done).0 in let two : pending_of high ≡ 0 = done_none high (and_parts (is_done low) (is_done high) done).1 in omega arith

some_open : (tree : Tree) → 0 < pending_of tree → is_done tree ≡ false
some_open (closed leaf.Pending) some = refl
some_open (closed leaf.Fixed) some = absurd (omega (arith, some))
some_open (split column at reason low high) some = by_low (is_done low) refl (some_open high)
  where
    by_low : (b : Bool) → is_done low ≡ b → (0 < pending_of high → is_done high ≡ false) → (is_done low && is_done high) ≡ false
    by_low false e high = rw e refl
    by_low true e high = rw e (high (let none = done_none low e in omega (arith, some, none)))

-- a list that is not empty
pub some_columns : (columns shown : List ℕ) (empty : Bool) → columns ≡ shown → empty ≡ false → (columns ≡ [] → empty ≡ true) → 0 < length shown
some_columns columns [] empty same some told = absurd (apart (sym (told same) ∙ some))
some_columns columns (column ∷ shown) empty same some told = omega arith

module _ (program : Program) (g : Graph) (stands : List Stand) where
  pub reached_of : (best : Option Found) (tree : Tree) → IsFromLeaf program g stands None best tree (root_of program) → IsReached program g stands tree (best_value best)
  reached_of None tree from = tt
  reached_of (Some found) tree (inl none) = absurd cc
  reached_of (Some found) tree (inr leaf) = (found.world, leaf)

  abbrev pub listed_of : (budget : ℕ) (listed : Listed) (part : PartAnswer) → Lists program g stands budget listed →
      part.number ≡ 1 → part.columns ≡ part_columns program → part.best ≡ best_value listed.best → part.tree ≡ listed.tree → IsListed program g stands budget part
  listed_of budget listed part lists number chosen best tree = record {
    number = number;
    columns = chosen;
    tree = lists.tree;
    nodes = tree ∙ lists.nodes;
    listing = lists.listing;
    in_order = lists.in_order;
    closes = subst (λ (b : Option ℤ). Closes (ClosesLeaf program g stands b) lists.tree (root_of program)) (sym best) lists.closes;
    reached = subst (λ (b : Option ℤ). IsReached program g stands lists.tree b) (sym best) (reached_of listed.best lists.tree lists.found);
    within = lists.within;
    spent = lists.pending;
  }

  -- the one part, where some column has two values
  parts_one : (budget : ℕ) (best : ℤ) (part : PartAnswer) (parts : List PartAnswer) (columns : List ℕ) → 0 < length columns → parts ≡ part ∷ [] → IsWhole program g stands budget (Some best) part → ArePartsFor program g stands budget best columns parts
  parts_one budget best part parts [] several one whole = absurd (omega (arith, several))
  parts_one budget best part parts (column ∷ columns) several one whole = (part, one, whole)

  module _ (budget : ℕ) (listed : Listed) (lists : Lists program g stands budget listed) where
    pub lists_done : pending_nodes listed.tree ≡ 0 → is_done lists.tree ≡ true
    lists_done none = none_open lists.tree (sym (pending_nodes-preorder lists.tree) ∙ ap pending_nodes (sym lists.nodes) ∙ none)

    pub lists_undone : 0 < pending_nodes listed.tree → is_done lists.tree ≡ false
    lists_undone some = some_open lists.tree (subst (λ (n : ℕ). 0 < n) (ap pending_nodes lists.nodes ∙ pending_nodes-preorder lists.tree) some)

    -- the one part, listed whole
    whole_of : (part : PartAnswer) (best : Option ℤ) → part.number ≡ 1 → part.columns ≡ part_columns program → part.best ≡ best_value listed.best → part.tree ≡ listed.tree → pending_nodes listed.tree ≡ 0 → best_value listed.best ≡ best → IsWhole program g stands budget best part
    whole_of part best number chosen found tree none is = record {
      listed = listed_of budget listed part lists number chosen found tree;
      done = lists_done none;
      found = found ∙ is;
    }

    -- the budget is spent
    pub tells_spent : (part : PartAnswer) (parts : List PartAnswer) → part.number ≡ 1 → part.columns ≡ part_columns program → part.best ≡ best_value listed.best → part.tree ≡ listed.tree →
        0 < length (part_columns program) → HasNoFalseRow program → parts ≡ part ∷ [] → 0 < pending_nodes listed.tree → IsSpent program g stands budget parts
    tells_spent part parts number chosen found tree several sound one some = record {
      several = several;
      sound = sound;
      part = part;
      one = one;
      listed = listed_of budget listed part lists number chosen found tree;
      undone = lists_undone some;
    }

    module _ (fold : IsFold g) (formed : IsWellFormed program) (measured : IsMeasured program) (matched : IsMatched program g stands) where
      closes_at : (best : Option Found) → listed.best ≡ best → Closes (ClosesLeaf program g stands (best_value best)) lists.tree (root_of program)
      closes_at best is = subst (λ (b : Option Found). Closes (ClosesLeaf program g stands (best_value b)) lists.tree (root_of program)) is lists.closes

      found_leaf : (found : Found) → listed.best ≡ Some found → HasLeaf program g stands found.world found.value lists.tree (root_of program)
      found_leaf found is = by_from (subst (λ (b : Option Found). IsFromLeaf program g stands None b lists.tree (root_of program)) is lists.found)
        where
          by_from : IsFromLeaf program g stands None (Some found) lists.tree (root_of program) → HasLeaf program g stands found.world found.value lists.tree (root_of program)
          by_from (inl none) = absurd cc
          by_from (inr leaf) = leaf

      -- what is found is a world within the sides, with a whole point of this value
      pub found_is : (found : Found) → listed.best ≡ Some found → IsFoundWorld program g stands fold matched found.world found.value
      found_is found is =
          found_world program g stands fold matched (Some found.value) found.world found.value lists.tree (root_of program)
          (inside_root (root_of program) (root_sides_there program measured)) (closes_at (Some found) is) (found_leaf found is)

      pub found_within : (found : Found) → listed.best ≡ Some found → IsWorldWithin program stands found.world
      found_within found is = (found_is found is).within

      found_least : (found : Found) → listed.best ≡ Some found → pending_nodes listed.tree ≡ 0 → NoneBetter program (Some (part_value program (point_of g stands found.world)))
      found_least found is none =
          none_better program g stands fold formed matched (Some (part_value program (point_of g stands found.world))) lists.tree
          (record { done = lists_done none; closes = subst (λ (v : ℤ). Closes (ClosesLeaf program g stands (Some v)) lists.tree (root_of program)) (sym (found_is found is).is) (closes_at (Some found) is) })

      -- the best point, with its one part
      pub tells_best : (found : Found) (point : List ℤ) (part : PartAnswer) (parts : List PartAnswer) → listed.best ≡ Some found → point ≡ point_of g stands found.world →
          part.number ≡ 1 → part.columns ≡ part_columns program → part.best ≡ best_value listed.best → part.tree ≡ listed.tree →
          0 < length (part_columns program) → HasNoFalseRow program → parts ≡ part ∷ [] → pending_nodes listed.tree ≡ 0 → IsBest program g stands budget point parts
      tells_best found point part parts is at number chosen best tree several sound one none = subst (λ (q : List ℤ). IsBest program g stands budget q parts) (sym at) (record {
        least = least_by program formed (point_of g stands found.world) (found_is found is).whole (found_least found is none);
        of_world = own_world program g stands fold matched found.world (found_is found is).within;
        sound = sound;
        listed = parts_one budget (part_value program (point_of g stands found.world)) part parts (part_columns program) several one
            (whole_of part (Some (part_value program (point_of g stands found.world))) number chosen best tree none (ap best_value is ∙ ap (λ (v : ℤ). Some v) (sym (found_is found is).is)));
      })

      -- no world has a value
      pub tells_none : (part : PartAnswer) → listed.best ≡ None → part.number ≡ 1 → part.columns ≡ part_columns program → part.best ≡ best_value listed.best → part.tree ≡ listed.tree →
          0 < length (part_columns program) → HasNoFalseRow program → pending_nodes listed.tree ≡ 0 → IsNoWorld program g stands budget part
      tells_none part is number chosen best tree several sound none = record {
        several = several;
        sound = sound;
        whole = whole_of part None number chosen best tree none (ap best_value is);
        none = no_point_by program (none_better program g stands fold formed matched None lists.tree (record { done = lists_done none; closes = closes_at None is }));
      }

  -- the one point, where no column has two values
  pub tells_only : (budget : ℕ) → IsFold g → IsWellFormed program → IsMeasured program → IsMatched program g stands → (none : part_columns program ≡ []) → HasNoFalseRow program → (point : List ℤ) (parts : List PartAnswer) → point ≡ lows (root_of program) → parts ≡ [] → IsBest program g stands budget point parts
  tells_only budget fold formed measured matched none sound point parts at empty = subst (λ (q : List ℤ). IsBest program g stands budget q parts) (sym at) (record {
    least = only_least program formed measured none sound;
    of_world = only_own program formed measured none sound g stands fold matched;
    sound = sound;
    listed = subst (λ (columns : List ℕ). ArePartsFor program g stands budget (part_value program (lows (root_of program))) columns parts) (sym none) empty;
  })

  -- a budget with a node for each that may be worked is never spent
  pub finished_by : (budget : ℕ) (told : Solved) → IsSolved program g stands budget told → IsEnough program g stands budget → IsFinished told
  finished_by budget (solved.Best point parts) is enough = tt
  finished_by budget (solved.FalseRow row) is enough = tt
  finished_by budget (solved.NoWorld part) is enough = tt
  finished_by budget (solved.Spent parts) is enough =
      let all = is.listed.spent is.undone in
      let below = worked_below is.listed.tree (worlds_in stands (root_of program)) is.listed.listing is.undone in
      absurd (omega (arith, all, below, enough))
