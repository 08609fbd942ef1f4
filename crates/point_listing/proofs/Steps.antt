-- The search at a box: one that is left open, one of one world, and one that is split.
use Rattle.std.proofs.Common.{◌≡◌, ℕ, ◌-◌, ◌^◌, ◌<◌, ◌≤◌, ℤ, ◌≤ℤ◌, List, [], ◌∷◌, ◌++◌, length, append_assoc, refl, sym, ◌∙◌, ap, subst, arith, inl, inr, Bool, true, false, cond}
use Rattle.std.specs.Prelude.{Option, Some, None, int_lt, ◌&&◌}
use Rattle.std.proofs.lemmas.Int.{ints}
use Rattle.ip_rows.specs.declared.Bounds.{Bounds}
use Rattle.ip_rows.specs.declared.program.Program.{Program}
use Rattle.prov_fold.specs.Graphs.{Graph}
use Rattle.bool_encode.specs.declared.stand.Stand.{Stand}
use Rattle.branch_tree.specs.declared.node.Node.{Node}
use Rattle.branch_tree.specs.declared.node.Node.TheVariants as node
use Rattle.branch_tree.specs.declared.node.Leaf.TheVariants as leaf
use Rattle.branch_tree.specs.declared.node.Reason.TheVariants as reason
use Rattle.branch_tree.specs.Tree.{Tree, closed, split, preorder}
use Rattle.branch_tree.specs.Boxes.{side_at, low_box, high_box, IsParted}
use Rattle.branch_tree.specs.Listing.{AreFixed, IsFirstOpen, IsListing, IsMiddle, NoBetter, lows, is_done}
use Rattle.branch_tree.proofs.Trees.{length-preorder, pending_of-le-worked_of}
use Rattle.branch_tree.proofs.Closing.{none_worked}
use Rattle.whole_points.specs.Matched.{world_count}
use Rattle.program_leaves.specs.Leaves.{leaf_value, worlds_in}
use Rattle.program_leaves.specs.Closing.{Closes, ClosesLeaf}
use Rattle.point_listing.specs.declared.search.Search.{Search}
use Rattle.point_listing.specs.declared.search.Found.{Found}
use Rattle.point_listing.specs.Works.{Works, IsFromLeaf, best_value, better_of, is_less}
use Rattle.point_listing.proofs.Worlds.{high_taken, low_taken, same_side}

at_itself : (n : ℤ) → n ≤ℤ n
at_itself n = omega (arith, ints)

below_both : (n best other : ℤ) → int_lt n best ≡ true → best ≤ℤ other → n ≤ℤ other
below_both n best other e le = grind (arith, ints)

not_below : (n best : ℤ) → int_lt n best ≡ false → best ≤ℤ n
not_below n best e = grind (arith, ints)

-- a world's value closes its box, or takes the place of the best
kept_by : (best : Option Found) (world : List ℤ) (score : Option ℤ) (other : Option ℤ) → NoBetter (best_value best) other → NoBetter (best_value (better_of best world score)) other
kept_by best world None other h = h
kept_by None world (Some score) None h = tt
kept_by None world (Some score) (Some other) h = absurd h
kept_by (Some found) world (Some score) other h = by_test (int_lt score found.value) refl other h
  where
    by_test : (b : Bool) → int_lt score found.value ≡ b → (other : Option ℤ) → NoBetter (Some found.value) other → NoBetter (best_value (cond b (Some (record { value = score; world = world })) (Some found))) other
    by_test true e None h = tt
    by_test true e (Some other) h = below_both _ _ _ e h
    by_test false e other h = h

closes_by : (best : Option Found) (world : List ℤ) (score : Option ℤ) → NoBetter (best_value (better_of best world score)) score
closes_by best world None = tt
closes_by None world (Some score) = at_itself score
closes_by (Some found) world (Some score) = by_test (int_lt score found.value) refl
  where
    by_test : (b : Bool) → int_lt score found.value ≡ b → NoBetter (best_value (cond b (Some (record { value = score; world = world })) (Some found))) (Some score)
    by_test true e = at_itself score
    by_test false e = not_below _ _ e

module _ (program : Program) (g : Graph) (stands : List Stand) where
  -- a better best keeps a tree closed
  closes_kept : (before now : Option ℤ) → ((other : Option ℤ) → NoBetter before other → NoBetter now other) → (tree : Tree) (sides : List Bounds) → Closes (ClosesLeaf program g stands before) tree sides → Closes (ClosesLeaf program g stands now) tree sides
  closes_kept before now kept (closed leaf.Pending) sides h = tt
  closes_kept before now kept (closed leaf.Fixed) sides h = (h.0, kept (leaf_value program g stands sides) h.1)
  closes_kept before now kept (split column at reason low high) sides h =
      (h.0, closes_kept before now kept low (low_box sides column at) h.1, closes_kept before now kept high (high_box sides column at) h.2)

  -- the budget is spent: the box is left open
  from_before : (best : Option Found) (tree : Tree) (sides : List Bounds) → IsFromLeaf program g stands best best tree sides
  from_before None tree sides = refl
  from_before (Some found) tree sides = inl refl

  pub works_open : (sides : List Bounds) (before now : Search) → before.left ≡ 0 → now.nodes ≡ before.nodes ++ node.Closed leaf.Pending ∷ [] → now.left ≡ before.left → now.best ≡ before.best → Works program g stands sides before now
  works_open sides before now spent nodes left best = record {
    tree = closed leaf.Pending;
    nodes = nodes;
    listing = tt;
    in_order = tt;
    spent = omega (arith, left);
    pending = λ undone. left ∙ spent;
    closes = tt;
    kept = λ other h. subst (λ (b : Option Found). NoBetter (best_value b) other) (sym best) h;
    found = subst (λ (b : Option Found). IsFromLeaf program g stands before.best b (closed leaf.Pending) sides) (sym best) (from_before before.best (closed leaf.Pending) sides);
  }

  -- a box of one world
  from_world : (best : Option Found) (sides : List Bounds) (score : Option ℤ) → leaf_value program g stands sides ≡ score → IsFromLeaf program g stands best (better_of best (lows (worlds_in stands sides)) score) (closed leaf.Fixed) sides
  from_world best sides None is = from_before best (closed leaf.Fixed) sides
  from_world best sides (Some score) is = by_test (is_less score (best_value best))
    where
      by_test : (b : Bool) → IsFromLeaf program g stands best (cond b (Some (record { value = score; world = lows (worlds_in stands sides) })) best) (closed leaf.Fixed) sides
      by_test true = inr (refl, is)
      by_test false = from_before best (closed leaf.Fixed) sides

  pub works_world : (sides : List Bounds) (before now : Search) → AreFixed (worlds_in stands sides) → 0 < before.left → now.nodes ≡ before.nodes ++ node.Closed leaf.Fixed ∷ [] → now.left ≡ before.left - 1 →
      now.best ≡ better_of before.best (lows (worlds_in stands sides)) (leaf_value program g stands sides) → Works program g stands sides before now
  works_world sides before now fixed paid nodes left best =
      let score = leaf_value program g stands sides in
      let world = lows (worlds_in stands sides) in
      record {
        tree = closed leaf.Fixed;
        nodes = nodes;
        listing = fixed;
        in_order = tt;
        spent = omega (arith, left, paid);
        pending = λ undone. cc;
        closes = (fixed, subst (λ (b : Option Found). NoBetter (best_value b) score) (sym best) (closes_by before.best world score));
        kept = λ other h. subst (λ (b : Option Found). NoBetter (best_value b) other) (sym best) (kept_by before.best world score other h);
        found = subst (λ (b : Option Found). IsFromLeaf program g stands before.best b (closed leaf.Fixed) sides) (sym best) (from_world before.best sides score refl);
      }

  -- a box that is split, after both halves
  from_halves : (before mid now : Option Found) (column : ℕ) (at : ℤ) (low high : Tree) (sides : List Bounds) → IsFromLeaf program g stands before mid low (low_box sides column at) → IsFromLeaf program g stands mid now high (high_box sides column at) → IsFromLeaf program g stands before now (split column at reason.Plain low high) sides
  from_halves before mid None column at low high sides one two = subst (λ (m : Option Found). IsFromLeaf program g stands before m low (low_box sides column at)) two one
  from_halves before mid (Some found) column at low high sides one (inr two) = inr (inr two)
  from_halves before mid (Some found) column at low high sides one (inl two) = by_low (subst (λ (m : Option Found). IsFromLeaf program g stands before m low (low_box sides column at)) two one)
    where
      by_low : IsFromLeaf program g stands before (Some found) low (low_box sides column at) → IsFromLeaf program g stands before (Some found) (split column at reason.Plain low high) sides
      by_low (inl one) = inl one
      by_low (inr one) = inr (inl one)

  pub works_halves : (sides : List Bounds) (before begun mid now : Search) (column : ℕ) (at : ℤ) → world_count stands ≤ length sides →
      IsFirstOpen (worlds_in stands sides) column → IsMiddle (side_at sides column) at → IsParted sides column at → 0 < before.left →
      begun.nodes ≡ before.nodes ++ node.Split column at reason.Plain ∷ [] → begun.left ≡ before.left - 1 → begun.best ≡ before.best →
      Works program g stands (low_box sides column at) begun mid → Works program g stands (high_box sides column at) mid now → Works program g stands sides before now
  works_halves sides before begun mid now column at few first middle parted paid nodes left best one two = record {
    tree = split column at reason.Plain one.tree two.tree;
    nodes = two.nodes ∙ ap (λ (l : List Node). l ++ preorder two.tree) (one.nodes ∙ ap (λ (l : List Node). l ++ preorder one.tree) nodes) ∙ simp append_assoc;
    listing = (
      first,
      subst (λ (s : Bounds). IsMiddle s at) (sym (same_side (world_count stands) sides few column first)) middle,
      subst (IsListing one.tree) (low_taken (world_count stands) sides few column first at) one.listing,
      subst (IsListing two.tree) (high_taken (world_count stands) sides few column first at) two.listing,
    );
    in_order = (one.in_order, two.in_order, λ undone. none_worked two.tree (let none = one.pending undone in omega (arith, none, two.spent)));
    spent = omega (arith, left, paid, one.spent, two.spent);
    pending = by_low (is_done one.tree) refl;
    closes = (parted, closes_kept (best_value mid.best) (best_value now.best) two.kept one.tree (low_box sides column at) one.closes, two.closes);
    kept = λ other h. two.kept other (one.kept other (subst (λ (b : Option Found). NoBetter (best_value b) other) (sym best) h));
    found = from_halves before.best mid.best now.best column at one.tree two.tree sides (subst (λ (b : Option Found). IsFromLeaf program g stands b mid.best one.tree (low_box sides column at)) best one.found) two.found;
  }
    where
      by_low : (b : Bool) → is_done one.tree ≡ b → (b && is_done two.tree) ≡ false → now.left ≡ 0
      by_low true e undone = two.pending undone
      by_low false e undone = let none = one.pending e in omega (arith, none, two.spent)

  -- a search that began with nothing, over the whole box
  module _ (sides : List Bounds) (before now : Search) (works : Works program g stands sides before now) (none : before.nodes ≡ []) where
    all_nodes : now.nodes ≡ preorder works.tree
    all_nodes = works.nodes ∙ ap (λ (l : List Node). l ++ preorder works.tree) none

    pub few_nodes : before.left < 2 ^ 31 → length now.nodes < 2 ^ 32
    few_nodes small = omega (arith, ap length all_nodes, length-preorder works.tree, pending_of-le-worked_of works.tree, works.spent)
