-- The nodes of a tree in preorder, over the boxes that are still to be gone over.
use Rattle.std.proofs.Common.{◌≡◌, ℕ, suc, ◌+◌, ◌<◌, ℤ, ◌≤ℤ◌, ◌<ℤ◌, Bool, true, false, List, [], ◌∷◌, ◌++◌, length, get_or, drop, refl, sym, ◌∙◌, ap, ap₂, subst, arith}
use Rattle.std.proofs.lemmas.Bool.{and_parts}
use Rattle.std.specs.Prelude.{Option, Ok, Err, int_le, int_lt, nat_lt, ◌&&◌}
use Rattle.std.proofs.lemmas.Int.{ints}
use Rattle.std.proofs.lemmas.List.{drop_more, append_assoc, append-nil, length-append}
use Rattle.ip_rows.specs.declared.Bounds.{Bounds}
use Rattle.tiql_query.specs.declared.query.Query.{Query}
use Rattle.tiql_query.specs.declared.world_column.WorldColumn.{WorldColumn}
use Rattle.branch_tree.specs.declared.node.Node.{Node}
use Rattle.branch_tree.specs.declared.node.Node.TheVariants as node
use Rattle.branch_tree.specs.Tree.{Tree, closed, split, preorder}
use Rattle.branch_tree.specs.Boxes.{IsParted, side_at, low_box, high_box}
use Rattle.world_def.specs.Columns.{Tables}
use Rattle.cert_check.specs.declared.fault.Reject.TheVariants as reject
use Rattle.cert_check.specs.declared.fault.Reject.{Reject}
use Rattle.cert_check.specs.declared.fault.CheckFault.{CheckFault}
use Rattle.cert_check.specs.Reasons.{Outcome, ◌>>◌, unless, is_parted, in_tree}
use Rattle.cert_check.specs.Checks.{TellsOutcome}
use Rattle.cert_check.specs.Walks.{PartsFirst, behind_node, at_node, in_nodes}

pub then_assoc : (a b c : Outcome) → ((a >> b) >> c) ≡ (a >> (b >> c))
then_assoc (Ok x) b c = refl
then_assoc (Err e) b c = refl

pub then_ok : (a : Outcome) → (a >> Ok tt) ≡ a
then_ok (Ok x) = refl
then_ok (Err e) = refl

-- the test of a split is the definition's
pub parted_of : (sides : List Bounds) (column : ℕ) (at : ℤ) → is_parted sides column at ≡ true → IsParted sides column at
parted_of sides column at is =
    let outer = and_parts (nat_lt column (length sides) && int_le (side_at sides column).lo at) (int_lt at (side_at sides column).hi) is in
    let inner = and_parts (nat_lt column (length sides)) (int_le (side_at sides column).lo at) outer.0 in
    record { there = below _ _ inner.0; low = at_most _ _ inner.1; high = less _ _ outer.1 }
  where
    below : (m n : ℕ) → nat_lt m n ≡ true → m < n
    below m n e = grind arith

    at_most : (m n : ℤ) → int_le m n ≡ true → m ≤ℤ n
    at_most m n e = grind (arith, ints)

    less : (m n : ℤ) → int_lt m n ≡ true → m <ℤ n
    less m n e = grind (arith, ints)

pub unless_ok : (test : Bool) (reason : Reject) (part place : ℕ) → unless test reason part place ≡ Ok tt → test ≡ true
unless_ok true reason part place is = refl
unless_ok false reason part place is = cc

module _ (query : Query) (tables : Tables) (columns : List WorldColumn) (best : Option ℤ) (part : ℕ) where
  -- a split that is not wrong parts its box
  pub parts_first : (here : Node) (sides : List Bounds) (place : ℕ) (more rest : List (List Bounds)) → more ≡ sides ∷ rest → at_node query tables columns best part here sides place ≡ Ok tt → PartsFirst here more
  parts_first (node.Closed leaf) sides place more rest is right = tt
  parts_first (node.Split column at reason) sides place more rest is right =
      subst (PartsFirst (node.Split column at reason)) (sym is) (parted_of sides column at (unless_ok (is_parted sides column at) reject.WrongSplit part place right))

  -- nothing is wrong where no box is left
  pub in_none : (nodes : List Node) (more : List (List Bounds)) (place : ℕ) → more ≡ [] → in_nodes query tables columns best part nodes more place ≡ Ok tt
  in_none [] more place none = refl
  in_none (here ∷ nodes) more place none = ap (λ (m : List (List Bounds)). in_nodes query tables columns best part (here ∷ nodes) m place) none

  module _ (nodes : List Node) (at : ℕ) (here : Node) (sides : List Bounds) (more rest : List (List Bounds)) (there : at < length nodes) (is : here ≡ get_or nodes at here) (first : more ≡ sides ∷ rest) where
    nodes_here : in_nodes query tables columns best part (drop at nodes) more (at + 1) ≡ (at_node query tables columns best part here sides (at + 1) >> in_nodes query tables columns best part (drop (at + 1) nodes) (behind_node here more) (at + 1 + 1))
    nodes_here =
        ap₂ (λ (l : List Node) (m : List (List Bounds)). in_nodes query tables columns best part l m (at + 1)) (drop_more nodes at here there ∙ ap (λ (x : Node). x ∷ drop (at + 1) nodes) (sym is)) first
        ∙ ap (λ (m : List (List Bounds)). at_node query tables columns best part here sides (at + 1) >> in_nodes query tables columns best part (drop (at + 1) nodes) (behind_node here m) (at + 1 + 1)) (sym first)

    -- what is wrong at this node is wrong first
    wrong_here : (whole : Outcome) (e : CheckFault) → at_node query tables columns best part here sides (at + 1) ≡ Err e → in_nodes query tables columns best part (drop at nodes) more (at + 1) ≡ whole → whole ≡ Err e
    wrong_here whole e wrong left = sym left ∙ nodes_here ∙ ap (λ (a : Outcome). a >> in_nodes query tables columns best part (drop (at + 1) nodes) (behind_node here more) (at + 1 + 1)) wrong

    pub gives_here : (whole : Outcome) (e : CheckFault) → TellsOutcome (at_node query tables columns best part here sides (at + 1)) (Err e) → in_nodes query tables columns best part (drop at nodes) more (at + 1) ≡ whole → TellsOutcome whole (Err e)
    gives_here whole e wrong left = λ other. wrong_here whole e (wrong other) left

    pub right_here : (whole : Outcome) (behind : List (List Bounds)) → at_node query tables columns best part here sides (at + 1) ≡ Ok tt → behind ≡ behind_node here more → in_nodes query tables columns best part (drop at nodes) more (at + 1) ≡ whole →
        in_nodes query tables columns best part (drop (at + 1) nodes) behind (at + 1 + 1) ≡ whole
    right_here whole behind right same left =
        ap (λ (m : List (List Bounds)). in_nodes query tables columns best part (drop (at + 1) nodes) m (at + 1 + 1)) same
        ∙ sym (ap (λ (a : Outcome). a >> in_nodes query tables columns best part (drop (at + 1) nodes) (behind_node here more) (at + 1 + 1)) right) ∙ sym nodes_here ∙ left

  -- the nodes of a tree over its box are the tree over it
  nodes_tree : (tree : Tree) (nodes : List Node) (sides : List Bounds) (more : List (List Bounds)) (place : ℕ) →
      in_nodes query tables columns best part (preorder tree ++ nodes) (sides ∷ more) place ≡ (in_tree query tables columns best tree sides part place >> in_nodes query tables columns best part nodes more (place + length (preorder tree)))
  nodes_tree (closed leaf) nodes sides more place = refl
  nodes_tree (split column at reason low high) nodes sides more place =
      let parts = unless (is_parted sides column at) reject.WrongSplit part place in
      let in_low = in_tree query tables columns best low (low_box sides column at) part (place + 1) in
      let in_high = in_tree query tables columns best high (high_box sides column at) part (place + 1 + length (preorder low)) in
      let behind = in_nodes query tables columns best part nodes more (place + 1 + length (preorder low) + length (preorder high)) in
      let place_is : place + 1 + length (preorder low) + length (preorder high) ≡ place + suc (length (preorder low ++ preorder high)) =
      (let long = length-append (preorder low) (preorder high) in omega (arith, long)) in
      ap (λ (l : List Node). parts >> in_nodes query tables columns best part l (low_box sides column at ∷ high_box sides column at ∷ more) (place + 1)) (append_assoc (preorder low) (preorder high) nodes)
      ∙ ap (λ (o : Outcome). parts >> o) (nodes_tree low (preorder high ++ nodes) (low_box sides column at) (high_box sides column at ∷ more) (place + 1)
      ∙ ap (λ (o : Outcome). in_low >> o) (nodes_tree high nodes (high_box sides column at) more (place + 1 + length (preorder low)))
      ∙ sym (then_assoc in_low in_high behind))
      ∙ sym (then_assoc parts (in_low >> in_high) behind)
      ∙ ap (λ (n : ℕ). (parts >> in_low >> in_high) >> in_nodes query tables columns best part nodes more n) place_is

  pub whole_tree : (tree : Tree) (nodes : List Node) (sides : List Bounds) → nodes ≡ preorder tree → in_nodes query tables columns best part nodes (sides ∷ []) 1 ≡ in_tree query tables columns best tree sides part 1
  whole_tree tree nodes sides is =
      ap (λ (l : List Node). in_nodes query tables columns best part l (sides ∷ []) 1) (is ∙ sym (append-nil (preorder tree))) ∙ nodes_tree tree [] sides [] 1 ∙ then_ok (in_tree query tables columns best tree sides part 1)
