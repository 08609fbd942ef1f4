-- The nodes of one whole tree are read exactly.
use Rattle.std.proofs.Common.{◌≡◌, ◌<◌, ◌≤◌, ℕ, zero, suc, true, List, [], ◌∷◌, ◌++◌, length, refl, sym, ◌∙◌, ap, subst, arith, append_assoc, length-append}
use Rattle.std.proofs.lemmas.List.Elements.{All-nil, All-cons}
use Rattle.std.specs.Prelude.{Result, Ok, Err, All, flat_map}
use Rattle.branch_tree.specs.Tree.{are_whole}
use Rattle.branch_tree.specs.declared.node.Node.{Node}
use Rattle.branch_tree.specs.declared.node.Node.TheVariants as node
use Rattle.branch_tree.specs.declared.node.Leaf.TheVariants as leaf
use Rattle.answer_text.specs.Tokens.{cut}
use Rattle.answer_text.specs.Lines.{node_of}
use Rattle.answer_text.specs.Blocks.{◌>>=◌, read_line, wanted_behind, nodes_from}
use Rattle.answer_text.proofs.Readers.{Reads, Stopped, any_end, ok_same}

-- a node is one of the nodes of so many trees
pub are_whole-cons : (trees : ℕ) (first : Node) (nodes : List Node) → are_whole (suc trees) (first ∷ nodes) ≡ are_whole (wanted_behind first trees) nodes
are_whole-cons trees (node.Split column at reason) nodes = refl
are_whole-cons trees (node.Closed leaf) nodes = refl

-- so many boxes that have not been worked
open_nodes : ℕ → List Node
open_nodes zero = []
open_nodes (suc trees) = node.Closed leaf.Pending ∷ open_nodes trees

module _ (text : Node → List ℕ) (meets : Node → Type 0) (reads : Reads (read_line node_of) text meets any_end) (long : (first : Node) → meets first → 0 < length (text first)) (open_fits : meets (node.Closed leaf.Pending)) where
  abbrev item : List ℕ → Result (Node × List ℕ) ℕ
  item = read_line node_of

  abbrev with_node : Node → Result (List Node × List ℕ) ℕ → Result (List Node × List ℕ) ℕ
  with_node first r = r >>= (λ xs. Ok (first ∷ xs.0, xs.1))

  abbrev all_nodes : ℕ → List ℕ → Result (List Node × List ℕ) ℕ
  all_nodes trees bytes = nodes_from (length bytes) trees bytes

  abbrev trees_meet : ℕ → List Node → Type 0
  trees_meet trees nodes = (are_whole trees nodes ≡ true) × All meets nodes

  open_meet : (trees : ℕ) → trees_meet trees (open_nodes trees)
  unfolding open_nodes
  open_meet zero = (refl, All-nil meets)
  open_meet (suc trees) = let more = open_meet trees in (more.0, All-cons meets (node.Closed leaf.Pending) (open_nodes trees) open_fits more.1)

  -- what follows a node is shorter
  pub node_shorter : (bytes : List ℕ) (x : Node × List ℕ) → item bytes ≡ Ok x → length x.1 < length bytes
  node_shorter bytes x e =
      let took = reads.takes bytes x e in
      omega (arith, long x.0 took.0, ap length took.1, length-append (text x.0) x.1)

  item_nothing : item [] ≡ Err 0
  unfolding cut
  item_nothing = refl

  -- how many nodes there may be does not matter, where the bytes have no more
  nodes_most : (most other trees : ℕ) (bytes : List ℕ) → length bytes ≤ most → length bytes ≤ other → nodes_from most trees bytes ≡ nodes_from other trees bytes
  nodes_most most other zero bytes low high = refl
  nodes_most zero zero (suc trees) bytes low high = refl
  nodes_most zero (suc other) (suc trees) [] low high = rw item_nothing
  nodes_most zero (suc other) (suc trees) (byte ∷ bytes) low high = absurd (omega arith)
  nodes_most (suc most) zero (suc trees) [] low high = rw item_nothing
  nodes_most (suc most) zero (suc trees) (byte ∷ bytes) low high = absurd (omega arith)
  nodes_most (suc most) (suc other) (suc trees) bytes low high = by_item (item bytes) refl (nodes_most most other)
    where
      by_item : (r : Result (Node × List ℕ) ℕ) → item bytes ≡ r → ((wanted : ℕ) (rest : List ℕ) → length rest ≤ most → length rest ≤ other → nodes_from most wanted rest ≡ nodes_from other wanted rest)
          → (r >>= (λ x. with_node x.0 (nodes_from most (wanted_behind x.0 trees) x.1))) ≡ (r >>= (λ x. with_node x.0 (nodes_from other (wanted_behind x.0 trees) x.1)))
      by_item (Err left) is more = refl
      by_item (Ok x) is more =
          let shorter = node_shorter bytes x is in
          ap (with_node x.0) (more (wanted_behind x.0 trees) x.1 (omega arith) (omega arith))

  -- no tree is wanted any more
  pub nodes_end : (bytes : List ℕ) → all_nodes 0 bytes ≡ Ok ([], bytes)
  nodes_end bytes = refl

  -- one node, and those behind it
  unroll : (trees : ℕ) (bytes : List ℕ) → all_nodes (suc trees) bytes ≡ (item bytes >>= (λ x. with_node x.0 (all_nodes (wanted_behind x.0 trees) x.1)))
  unroll trees bytes = nodes_most (length bytes) (suc (length bytes)) (suc trees) bytes (omega arith) (omega arith) ∙ by_item (item bytes) refl
    where
      by_item : (r : Result (Node × List ℕ) ℕ) → item bytes ≡ r → (r >>= (λ x. with_node x.0 (nodes_from (length bytes) (wanted_behind x.0 trees) x.1))) ≡ (r >>= (λ x. with_node x.0 (nodes_from (length x.1) (wanted_behind x.0 trees) x.1)))
      by_item (Err left) is = refl
      by_item (Ok x) is =
          let shorter = node_shorter bytes x is in
          ap (with_node x.0) (nodes_most (length bytes) (length x.1) (wanted_behind x.0 trees) x.1 (omega arith) (omega arith))

  pub nodes_on : (trees : ℕ) (bytes : List ℕ) (x : Node × List ℕ) → item bytes ≡ Ok x → all_nodes (suc trees) bytes ≡ with_node x.0 (all_nodes (wanted_behind x.0 trees) x.1)
  nodes_on trees bytes x e = unroll trees bytes ∙ ap (λ (r : Result (Node × List ℕ) ℕ). r >>= (λ y. with_node y.0 (all_nodes (wanted_behind y.0 trees) y.1))) e

  pub nodes_stop : (trees : ℕ) (bytes : List ℕ) (left : ℕ) → item bytes ≡ Err left → all_nodes (suc trees) bytes ≡ Err left
  nodes_stop trees bytes left e = unroll trees bytes ∙ ap (λ (r : Result (Node × List ℕ) ℕ). r >>= (λ y. with_node y.0 (all_nodes (wanted_behind y.0 trees) y.1))) e

  -- the nodes that are read are those trees, and their lines are the bytes
  record Took (trees : ℕ) (bytes : List ℕ) (nodes : List Node) (rest : List ℕ) : Type 0 where
    fits : trees_meet trees nodes
    split : bytes ≡ flat_map text nodes ++ rest

  taken : (trees : ℕ) (bytes : List ℕ) (x : List Node × List ℕ) → ((wanted : ℕ) (rest : List ℕ) (z : List Node × List ℕ) → length rest < length bytes → all_nodes wanted rest ≡ Ok z → Took wanted rest z.0 z.1)
      → all_nodes trees bytes ≡ Ok x → Took trees bytes x.0 x.1
  taken zero bytes x more e = subst (λ (y : List Node × List ℕ). Took 0 bytes y.0 y.1) (ok_same ([], bytes) x (sym (nodes_end bytes) ∙ e)) (record { fits = (refl, All-nil meets); split = refl })
  taken (suc trees) bytes x more e = by_item (item bytes) refl
    where
      behind : (y : Node × List ℕ) → item bytes ≡ Ok y → (r : Result (List Node × List ℕ) ℕ) → all_nodes (wanted_behind y.0 trees) y.1 ≡ r → with_node y.0 r ≡ Ok x → Took (suc trees) bytes x.0 x.1
      behind y is (Err left) so f = cc
      behind y is (Ok z) so f =
          let one = reads.takes bytes y is in
          let others = more (wanted_behind y.0 trees) y.1 z (node_shorter bytes y is) so in
          subst (λ (w : List Node × List ℕ). Took (suc trees) bytes w.0 w.1) (ok_same (y.0 ∷ z.0, z.1) x f) (record {
            fits = (are_whole-cons trees y.0 z.0 ∙ others.fits.0, All-cons meets y.0 z.0 one.0 others.fits.1);
            split = one.1 ∙ ap (λ (l : List ℕ). text y.0 ++ l) others.split ∙ sym (append_assoc (text y.0) (flat_map text z.0) z.1);
          })

      by_item : (r : Result (Node × List ℕ) ℕ) → item bytes ≡ r → Took (suc trees) bytes x.0 x.1
      by_item (Err left) is = let same : ◌≡◌ {A = Result (List Node × List ℕ) ℕ} (Err left) (Ok x) = sym (nodes_stop trees bytes left is) ∙ e in cc
      by_item (Ok y) is = behind y is (all_nodes (wanted_behind y.0 trees) y.1) refl (sym (nodes_on trees bytes y is) ∙ e)

  nodes_take : (most trees : ℕ) (bytes : List ℕ) (x : List Node × List ℕ) → length bytes ≤ most → all_nodes trees bytes ≡ Ok x → Took trees bytes x.0 x.1
  nodes_take zero trees bytes x low e = taken trees bytes x (λ wanted rest z short so. absurd (omega arith)) e
  nodes_take (suc most) trees bytes x low e = taken trees bytes x (λ wanted rest z short so. nodes_take most wanted rest z (omega arith) so) e

  nodes_give : (nodes : List Node) (trees : ℕ) (rest : List ℕ) → trees_meet trees nodes → all_nodes trees (flat_map text nodes ++ rest) ≡ Ok (nodes, rest)
  nodes_give [] zero rest fits = nodes_end rest
  nodes_give [] (suc trees) rest fits = let never = fits.0 in cc
  nodes_give (first ∷ nodes) zero rest fits = let never = fits.0 in cc
  nodes_give (first ∷ nodes) (suc trees) rest fits =
      let behind = flat_map text nodes ++ rest in
      let one : meets first = fits.1 0 first (omega arith) in
      let others : All meets nodes = λ k d lt. fits.1 (suc k) d (omega arith) in
      ap (all_nodes (suc trees)) (append_assoc (text first) (flat_map text nodes) rest)
      ∙ nodes_on trees (text first ++ behind) (first, behind) (reads.gives first behind one refl)
      ∙ ap (with_node first) (nodes_give nodes (wanted_behind first trees) rest (sym (are_whole-cons trees first nodes) ∙ fits.0, others))

  stop_first : (trees : ℕ) (bytes : List ℕ) (left : ℕ) → item bytes ≡ Err left → Stopped item text meets bytes left → Stopped (all_nodes (suc trees)) (flat_map text) (trees_meet (suc trees)) bytes left
  stop_first trees bytes left e at =
      let behind = open_nodes (wanted_behind at.value trees) in
      let opened = open_meet (wanted_behind at.value trees) in
      record {
        front = at.front;
        rest = at.rest;
        split = at.split;
        left_is = at.left_is;
        value = at.value ∷ behind;
        fits = (are_whole-cons trees at.value behind ∙ opened.0, All-cons meets at.value behind at.fits opened.1);
        more = at.more ++ flat_map text behind;
        begun = ap (λ (l : List ℕ). l ++ flat_map text behind) at.begun ∙ append_assoc at.front at.more (flat_map text behind);
        again = λ line tail other one line_is. nodes_stop trees (at.front ++ (line ++ 10 ∷ other)) (length (line ++ 10 ∷ other)) (at.again line tail other one line_is);
      }

  stop_next : (trees : ℕ) (bytes : List ℕ) (left : ℕ) (first : Node) (behind : List ℕ) → meets first → bytes ≡ text first ++ behind → Stopped (all_nodes (wanted_behind first trees)) (flat_map text) (trees_meet (wanted_behind first trees)) behind left → Stopped (all_nodes (suc trees)) (flat_map text) (trees_meet (suc trees)) bytes left
  stop_next trees bytes left first behind fits split at = record {
    front = text first ++ at.front;
    rest = at.rest;
    split = split ∙ ap (λ (l : List ℕ). text first ++ l) at.split ∙ sym (append_assoc (text first) at.front at.rest);
    left_is = at.left_is;
    value = first ∷ at.value;
    fits = (are_whole-cons trees first at.value ∙ at.fits.0, All-cons meets first at.value fits at.fits.1);
    more = at.more;
    begun = ap (λ (l : List ℕ). text first ++ l) at.begun ∙ sym (append_assoc (text first) at.front at.more);
    again = λ line tail other one line_is.
        let on = at.front ++ (line ++ 10 ∷ other) in
        ap (all_nodes (suc trees)) (append_assoc (text first) at.front (line ++ 10 ∷ other))
        ∙ nodes_on trees (text first ++ on) (first, on) (reads.gives first on fits refl)
        ∙ ap (with_node first) (at.again line tail other one line_is);
  }

  stopped : (trees : ℕ) (bytes : List ℕ) (left : ℕ) → ((wanted : ℕ) (rest : List ℕ) → length rest < length bytes → all_nodes wanted rest ≡ Err left → Stopped (all_nodes wanted) (flat_map text) (trees_meet wanted) rest left)
      → all_nodes trees bytes ≡ Err left → Stopped (all_nodes trees) (flat_map text) (trees_meet trees) bytes left
  stopped zero bytes left more e = let never : ◌≡◌ {A = Result (List Node × List ℕ) ℕ} (Ok ([], bytes)) (Err left) = sym (nodes_end bytes) ∙ e in cc
  stopped (suc trees) bytes left more e = by_item (item bytes) refl
    where
      behind : (y : Node × List ℕ) → item bytes ≡ Ok y → (r : Result (List Node × List ℕ) ℕ) → all_nodes (wanted_behind y.0 trees) y.1 ≡ r → with_node y.0 r ≡ Err left → Stopped (all_nodes (suc trees)) (flat_map text) (trees_meet (suc trees)) bytes left
      behind y is (Ok z) so f = cc
      behind y is (Err at) so f =
          let took = reads.takes bytes y is in
          let same : at ≡ left = cc in
          stop_next trees bytes left y.0 y.1 took.0 took.1 (more (wanted_behind y.0 trees) y.1 (node_shorter bytes y is) (so ∙ ap (λ (n : ℕ). Err n) same))

      by_item : (r : Result (Node × List ℕ) ℕ) → item bytes ≡ r → Stopped (all_nodes (suc trees)) (flat_map text) (trees_meet (suc trees)) bytes left
      by_item (Err at) is =
          let same : ◌≡◌ {A = Result (List Node × List ℕ) ℕ} (Err at) (Err left) = sym (nodes_stop trees bytes at is) ∙ e in
          let left_is : at ≡ left = cc in
          let so : item bytes ≡ Err left = is ∙ ap (λ (n : ℕ). Err n) left_is in
          stop_first trees bytes left so (reads.stops bytes left so)
      by_item (Ok y) is = behind y is (all_nodes (wanted_behind y.0 trees) y.1) refl (sym (nodes_on trees bytes y is) ∙ e)

  nodes_stopped : (most trees : ℕ) (bytes : List ℕ) (left : ℕ) → length bytes ≤ most → all_nodes trees bytes ≡ Err left → Stopped (all_nodes trees) (flat_map text) (trees_meet trees) bytes left
  nodes_stopped zero trees bytes left low e = stopped trees bytes left (λ wanted rest short so. absurd (omega arith)) e
  nodes_stopped (suc most) trees bytes left low e = stopped trees bytes left (λ wanted rest short so. nodes_stopped most wanted rest left (omega arith) so) e

  pub reads_nodes : (trees : ℕ) → Reads (λ bytes. nodes_from (length bytes) trees bytes) (flat_map text) (λ nodes. (are_whole trees nodes ≡ true) × All meets nodes) any_end
  reads_nodes trees = record {
    takes = λ bytes x e. let took = nodes_take (length bytes) trees bytes x (omega arith) e in (took.fits, took.split, refl);
    gives = λ nodes rest fits end. nodes_give nodes trees rest fits;
    stops = λ bytes left e. nodes_stopped (length bytes) trees bytes left (omega arith) e;
    some = open_nodes trees;
    some_fits = open_meet trees;
    local = λ common one other. refl;
  }
