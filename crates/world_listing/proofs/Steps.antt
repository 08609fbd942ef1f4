-- The search at a box: one that is left open, one of one point, and one that is split; and where it comes upon a fault.
use Rattle.std.proofs.Common.{◌≡◌, ℕ, ◌-◌, ◌^◌, ◌<◌, ℤ, ◌≤ℤ◌, List, [], ◌∷◌, ◌++◌, length, set, sum_by, append_assoc, refl, sym, ◌∙◌, ap, ap₂, subst, arith, inl, inr, Bool, true, false, cond}
use Rattle.std.specs.Prelude.{Option, Some, None, Result, Ok, Err, int_lt, ◌&&◌}
use Rattle.std.proofs.lemmas.Int.{ints}
use Rattle.ip_rows.specs.declared.Bounds.{Bounds}
use Rattle.branch_tree.specs.declared.node.Node.{Node}
use Rattle.branch_tree.specs.declared.node.Node.TheVariants as node
use Rattle.branch_tree.specs.declared.node.Leaf.TheVariants as leaf
use Rattle.branch_tree.specs.declared.node.Reason.TheVariants as reason
use Rattle.branch_tree.specs.Tree.{Tree, closed, split, preorder}
use Rattle.branch_tree.specs.Boxes.{side_at, low_side, high_side, low_box, high_box, IsParted}
use Rattle.branch_tree.specs.Listing.{AreFixed, IsFirstOpen, IsMiddle, NoBetter, lows, is_done}
use Rattle.branch_tree.proofs.Columns.{open_within, width, narrower, low_narrow, high_narrow}
use Rattle.branch_tree.proofs.Trees.{length-preorder, pending_of-le-worked_of}
use Rattle.branch_tree.proofs.Closing.{closes_kept, none_worked}
use Rattle.world_def.specs.declared.fault.EvalFault.{EvalFault}
use Rattle.world_def.specs.Views.{Gives}
use Rattle.world_listing.specs.declared.search.Search.{Search}
use Rattle.world_listing.specs.declared.search.Found.{Found}
use Rattle.branch_tree.specs.Faults.{fault_of, or_later}
use Rattle.world_listing.specs.Faults.{FaultsAs}
use Rattle.world_listing.specs.Works.{Works, IsFromLeaf, IsJudgedTo, best_value, better_of, is_less}

at_itself : (n : ℤ) → n ≤ℤ n
at_itself n = omega (arith, ints)

below_both : (n best other : ℤ) → int_lt n best ≡ true → best ≤ℤ other → n ≤ℤ other
below_both n best other e le = grind (arith, ints)

not_below : (n best : ℤ) → int_lt n best ≡ false → best ≤ℤ n
not_below n best e = grind (arith, ints)

pub low_width : (sides : List Bounds) (column : ℕ) (at : ℤ) (low : Bounds) (put : List Bounds) → IsFirstOpen sides column → IsParted sides column at → low ≡ low_side (side_at sides column) at → put ≡ set sides column low → sum_by width put < sum_by width sides
low_width sides column at low put first parted is made =
    subst (λ (l : List Bounds). sum_by width l < sum_by width sides) (sym (made ∙ ap (set sides column) is)) (narrower sides column (low_side (side_at sides column) at) (open_within sides column first) (low_narrow (side_at sides column) at parted.low parted.high))

pub high_width : (sides : List Bounds) (column : ℕ) (at : ℤ) (high : Bounds) (put : List Bounds) → IsFirstOpen sides column → IsParted sides column at → high ≡ high_side (side_at sides column) at → put ≡ set sides column high → sum_by width put < sum_by width sides
high_width sides column at high put first parted is made =
    subst (λ (l : List Bounds). sum_by width l < sum_by width sides) (sym (made ∙ ap (set sides column) is)) (narrower sides column (high_side (side_at sides column) at) (open_within sides column first) (high_narrow (side_at sides column) at parted.low parted.high))

-- the budget is spent: the box is left open
module _ (value : List ℤ → Option ℤ) where
  from_before : (best : Option Found) (tree : Tree) (sides : List Bounds) → IsFromLeaf value best best tree sides
  from_before None tree sides = refl
  from_before (Some found) tree sides = inl refl

  pub works_open : (judged : List ℤ → Result (Option ℤ) EvalFault) (sides : List Bounds) (before now : Search) → before.left ≡ 0 → now.nodes ≡ before.nodes ++ node.Closed leaf.Pending ∷ [] → now.left ≡ before.left → now.best ≡ before.best → Works value judged sides before now
  works_open judged sides before now spent nodes left best = record {
    tree = closed leaf.Pending;
    nodes = nodes;
    listing = tt;
    in_order = tt;
    spent = omega (arith, left);
    pending = λ undone. left ∙ spent;
    closes = tt;
    sound = refl;
    kept = λ other h. subst (λ (b : Option Found). NoBetter (best_value b) other) (sym best) h;
    found = subst (λ (b : Option Found). IsFromLeaf value before.best b (closed leaf.Pending) sides) (sym best) (from_before before.best (closed leaf.Pending) sides);
  }

  -- a box of one point: its value closes it, or takes the place of the best
  kept_by : (best : Option Found) (point : List ℤ) (score : Option ℤ) (other : Option ℤ) → NoBetter (best_value best) other → NoBetter (best_value (better_of best point score)) other
  kept_by best point None other h = h
  kept_by None point (Some score) None h = tt
  kept_by None point (Some score) (Some other) h = absurd h
  kept_by (Some found) point (Some score) other h = by_test (int_lt score found.cost) refl other h
    where
      by_test : (b : Bool) → int_lt score found.cost ≡ b → (other : Option ℤ) → NoBetter (Some found.cost) other → NoBetter (best_value (cond b (Some (record { cost = score; point = point })) (Some found))) other
      by_test true e None h = tt
      by_test true e (Some other) h = below_both _ _ _ e h
      by_test false e other h = h

  closes_by : (best : Option Found) (point : List ℤ) (score : Option ℤ) → NoBetter (best_value (better_of best point score)) score
  closes_by best point None = tt
  closes_by None point (Some score) = at_itself score
  closes_by (Some found) point (Some score) = by_test (int_lt score found.cost) refl
    where
      by_test : (b : Bool) → int_lt score found.cost ≡ b → NoBetter (best_value (cond b (Some (record { cost = score; point = point })) (Some found))) (Some score)
      by_test true e = at_itself score
      by_test false e = not_below _ _ e

  from_point : (best : Option Found) (sides : List Bounds) (score : Option ℤ) → value (lows sides) ≡ score → IsFromLeaf value best (better_of best (lows sides) score) (closed leaf.Fixed) sides
  from_point best sides None is = from_before best (closed leaf.Fixed) sides
  from_point best sides (Some score) is = by_test (is_less score (best_value best))
    where
      by_test : (b : Bool) → IsFromLeaf value best (cond b (Some (record { cost = score; point = lows sides })) best) (closed leaf.Fixed) sides
      by_test true = inr (refl, is)
      by_test false = from_before best (closed leaf.Fixed) sides

  module _ (judged : List ℤ → Result (Option ℤ) EvalFault) (agree : (point : List ℤ) (cost : Option ℤ) → judged point ≡ Ok cost → value point ≡ cost) where
    point_judged : (sides : List Bounds) (before now : Search) (score : Option ℤ) → AreFixed sides → 0 < before.left → now.nodes ≡ before.nodes ++ node.Closed leaf.Fixed ∷ [] → now.left ≡ before.left - 1 → judged (lows sides) ≡ Ok score → now.best ≡ better_of before.best (lows sides) score → Works value judged sides before now
    point_judged sides before now score fixed paid nodes left is best = record {
      tree = closed leaf.Fixed;
      nodes = nodes;
      listing = fixed;
      in_order = tt;
      spent = omega (arith, left);
      pending = λ undone. cc;
      closes = (fixed, subst (λ (b : Option Found). NoBetter (best_value b) (value (lows sides))) (sym best) (subst (NoBetter (best_value (better_of before.best (lows sides) score))) (sym (agree (lows sides) score is)) (closes_by before.best (lows sides) score)));
      sound = ap fault_of is;
      kept = λ other h. subst (λ (b : Option Found). NoBetter (best_value b) other) (sym best) (kept_by before.best (lows sides) score other h);
      found = subst (λ (b : Option Found). IsFromLeaf value before.best b (closed leaf.Fixed) sides) (sym best) (from_point before.best sides score (agree (lows sides) score is));
    }

    pub works_point : (sides : List Bounds) (before now : Search) → AreFixed sides → 0 < before.left → now.nodes ≡ before.nodes ++ node.Closed leaf.Fixed ∷ [] → now.left ≡ before.left - 1 → IsJudgedTo (judged (lows sides)) before.best (lows sides) now.best → Works value judged sides before now
    works_point sides before now fixed paid nodes left = by_outcome (judged (lows sides)) refl
      where
        by_outcome : (outcome : Result (Option ℤ) EvalFault) → judged (lows sides) ≡ outcome → IsJudgedTo outcome before.best (lows sides) now.best → Works value judged sides before now
        by_outcome (Ok score) is best = point_judged sides before now score fixed paid nodes left is best
        by_outcome (Err told) is best = absurd best

  -- a box that is split, after both halves
  from_halves : (before mid now : Option Found) (column : ℕ) (at : ℤ) (low high : Tree) (sides : List Bounds) → IsFromLeaf value before mid low (low_box sides column at) → IsFromLeaf value mid now high (high_box sides column at) → IsFromLeaf value before now (split column at reason.Plain low high) sides
  from_halves before mid None column at low high sides one two = subst (λ (m : Option Found). IsFromLeaf value before m low (low_box sides column at)) two one
  from_halves before mid (Some found) column at low high sides one (inr two) = inr (inr two)
  from_halves before mid (Some found) column at low high sides one (inl two) = by_low (subst (λ (m : Option Found). IsFromLeaf value before m low (low_box sides column at)) two one)
    where
      by_low : IsFromLeaf value before (Some found) low (low_box sides column at) → IsFromLeaf value before (Some found) (split column at reason.Plain low high) sides
      by_low (inl one) = inl one
      by_low (inr one) = inr (inl one)

  pub works_halves : (judged : List ℤ → Result (Option ℤ) EvalFault) (sides : List Bounds) (before begun mid now : Search) (column : ℕ) (at : ℤ) →
      IsFirstOpen sides column → IsMiddle (side_at sides column) at → IsParted sides column at → 0 < before.left →
      begun.nodes ≡ before.nodes ++ node.Split column at reason.Plain ∷ [] → begun.left ≡ before.left - 1 → begun.best ≡ before.best →
      Works value judged (low_box sides column at) begun mid → Works value judged (high_box sides column at) mid now → Works value judged sides before now
  works_halves judged sides before begun mid now column at first middle parted paid nodes left best one two = record {
    tree = split column at reason.Plain one.tree two.tree;
    nodes = two.nodes ∙ ap (λ (l : List Node). l ++ preorder two.tree) (one.nodes ∙ ap (λ (l : List Node). l ++ preorder one.tree) nodes) ∙ simp append_assoc;
    listing = (first, middle, one.listing, two.listing);
    in_order = (one.in_order, two.in_order, λ undone. none_worked two.tree (let none = one.pending undone in omega (arith, none, two.spent)));
    spent = omega (arith, left, one.spent, two.spent);
    pending = by_low (is_done one.tree) refl;
    closes = (parted, closes_kept value (best_value mid.best) (best_value now.best) two.kept one.tree (low_box sides column at) one.closes, two.closes);
    sound = ap₂ or_later one.sound two.sound;
    kept = λ other h. two.kept other (one.kept other (subst (λ (b : Option Found). NoBetter (best_value b) other) (sym best) h));
    found = from_halves before.best mid.best now.best column at one.tree two.tree sides (subst (λ (b : Option Found). IsFromLeaf value b mid.best one.tree (low_box sides column at)) best one.found) two.found;
  }
    where
      by_low : (b : Bool) → is_done one.tree ≡ b → (b && is_done two.tree) ≡ false → now.left ≡ 0
      by_low true e undone = two.pending undone
      by_low false e undone = let none = one.pending e in omega (arith, none, two.spent)

-- where the search comes upon a fault: at a box of one point, in the low half, and in the high one
module _ (judged : List ℤ → Result (Option ℤ) EvalFault) where
  pub fault_point : (left : ℕ) (sides : List Bounds) (told : EvalFault) → AreFixed sides → 0 < left → Gives {A = Option ℤ} (judged (lows sides)) (Err told) → FaultsAs judged left sides told
  fault_point left sides told fixed paid is = λ other. record { tree = closed leaf.Fixed; listing = fixed; in_order = tt; within = omega (arith, paid); first = ap fault_of (is other) }

  pub fault_low : (left rest : ℕ) (sides : List Bounds) (column : ℕ) (at : ℤ) (told : EvalFault) → IsFirstOpen sides column → IsMiddle (side_at sides column) at → 0 < left → rest ≡ left - 1 →
      FaultsAs judged rest (low_box sides column at) told → FaultsAs judged left sides told
  fault_low left rest sides column at told first middle paid less faults = λ other. let low = faults other in record {
    tree = split column at reason.Plain low.tree (closed leaf.Pending);
    listing = (first, middle, low.listing, tt);
    in_order = (low.in_order, tt, λ undone. refl);
    within = let within = low.within in omega (arith, within, paid, less);
    first = ap (λ (o : Option EvalFault). or_later o None) low.first;
  }

  pub fault_high : (value : List ℤ → Option ℤ) (left : ℕ) (begun mid : Search) (sides : List Bounds) (column : ℕ) (at : ℤ) (told : EvalFault) → IsFirstOpen sides column → IsMiddle (side_at sides column) at → 0 < left → begun.left ≡ left - 1 →
      Works value judged (low_box sides column at) begun mid → FaultsAs judged mid.left (high_box sides column at) told → FaultsAs judged left sides told
  fault_high value left begun mid sides column at told first middle paid less low faults = λ other. let high = faults other in record {
    tree = split column at reason.Plain low.tree high.tree;
    listing = (first, middle, low.listing, high.listing);
    in_order = (low.in_order, high.in_order, λ undone. none_worked high.tree (let none = low.pending undone in let within = high.within in omega (arith, none, within)));
    within = let within = high.within in omega (arith, within, paid, less, low.spent);
    first = ap₂ or_later low.sound high.first;
  }

-- the nodes of a search that began with none
pub few_nodes : (value : List ℤ → Option ℤ) (judged : List ℤ → Result (Option ℤ) EvalFault) (sides : List Bounds) (before now : Search) → Works value judged sides before now → before.nodes ≡ [] → before.left < 2 ^ 31 → length now.nodes < 2 ^ 32
few_nodes value judged sides before now works none small =
    let nodes : now.nodes ≡ preorder works.tree = works.nodes ∙ ap (λ (l : List Node). l ++ preorder works.tree) none in
    omega (arith, ap length nodes, length-preorder works.tree, pending_of-le-worked_of works.tree, works.spent)
