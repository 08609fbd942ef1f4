-- The way that a walk back finds leads to the box of the node, and the boxes of a tree's leaves part its root's box.
use Rattle.std.proofs.Common.{◌≡◌, ◌+◌, ◌-◌, ◌<◌, ◌≤◌, ℕ, zero, suc, ℤ, Bool, true, false, cond, nat_lt, List, [], ◌∷◌, ◌++◌, length, take, refl, sym, ◌∙◌, ap, ap₂, subst, arith, append_assoc, length-append}
use Rattle.std.specs.Bool.{MatchBool}
use Rattle.std.proofs.lemmas.Bool.{ltb-true, ltb-false}
use Rattle.std.proofs.lemmas.List.{take-append-le, length-take}
use Rattle.std.proofs.Math.Seq.{take-append-add}
use Rattle.branch_tree.specs.Tree.{Tree, closed, split, preorder, is_whole}
use Rattle.branch_tree.proofs.Trees.{tree_of_whole, one_tree}
use Rattle.branch_tree.specs.Boxes.{low_box, high_box, IsParted, HasBox, box_of}
use Rattle.branch_tree.specs.Ways.{turned, box_along, IsWay, walk_back, turn_at, past_tree}
use Rattle.branch_tree.specs.declared.node.Node.{Node}
use Rattle.branch_tree.specs.declared.way.Turn.{Turn}
use Rattle.branch_tree.specs.declared.way.Walk.{Walk}
use Rattle.ip_rows.specs.declared.Bounds.{Bounds}

-- a turn at the end of the list is the first on the way down
pub box_along-push : (sides : List Bounds) (turns : List Turn) (turn : Turn) → box_along sides (turns ++ turn ∷ []) ≡ box_along (turned sides turn) turns
box_along-push sides [] turn = refl
box_along-push sides (last ∷ turns) turn = ap (λ (box : List Bounds). turned box last) (box_along-push sides turns turn)

-- the first split on the way parts the root's box
pub way_first : (sides : List Bounds) (turns : List Turn) (turn : Turn) → IsWay sides (turns ++ turn ∷ []) → IsParted sides turn.column turn.at
way_first sides [] turn way = way.0
way_first sides (last ∷ turns) turn way = way_first sides turns turn way.1

-- the others are a way in the box behind it
pub way_rest : (sides : List Bounds) (turns : List Turn) (turn : Turn) → IsWay sides (turns ++ turn ∷ []) → IsWay (turned sides turn) turns
way_rest sides [] turn way = tt
way_rest sides (last ∷ turns) turn way =
    (subst (λ (box : List Bounds). IsParted box last.column last.at) (box_along-push sides turns turn) way.0, way_rest sides turns turn way.1)

-- such turns are a way
pub way_push : (sides : List Bounds) (turns : List Turn) (turn : Turn) → IsParted sides turn.column turn.at → IsWay (turned sides turn) turns → IsWay sides (turns ++ turn ∷ [])
way_push sides [] turn parted way = (parted, tt)
way_push sides (last ∷ turns) turn parted way =
    (subst (λ (box : List Bounds). IsParted box last.column last.at) (sym (box_along-push sides turns turn)) way.0, way_push sides turns turn parted way.1)

-- one turn of a loop that takes the last turn of the list and narrows the box by it
pub way_at : (sides : List Bounds) (turns rest : List Turn) (turn : Turn) → turns ≡ rest ++ turn ∷ [] → IsWay sides turns → IsParted sides turn.column turn.at
way_at sides turns rest turn is way = way_first sides rest turn (subst (λ (l : List Turn). IsWay sides l) is way)

pub way_after : (sides narrowed : List Bounds) (turns rest : List Turn) (turn : Turn) → turns ≡ rest ++ turn ∷ [] → narrowed ≡ turned sides turn → IsWay sides turns → IsWay narrowed rest
way_after sides narrowed turns rest turn is made way =
    subst (λ (box : List Bounds). IsWay box rest) (sym made) (way_rest sides rest turn (subst (λ (l : List Turn). IsWay sides l) is way))

pub box_along-after : (sides narrowed box : List Bounds) (turns rest : List Turn) (turn : Turn) → turns ≡ rest ++ turn ∷ [] → narrowed ≡ turned sides turn → box_along sides turns ≡ box → box_along narrowed rest ≡ box
box_along-after sides narrowed box turns rest turn is made same =
    ap (λ (b : List Bounds). box_along b rest) made ∙ sym (box_along-push sides rest turn) ∙ ap (box_along sides) (sym is) ∙ same

-- behind two whole trees a split is a whole tree
split_passed : (column : ℕ) (at : ℤ) (walk : Walk) → turn_at column at (past_tree (past_tree walk)) ≡ past_tree walk
split_passed column at walk =
    let two : walk.passed + 1 + 1 ≡ suc (suc walk.passed) = omega arith in
    let one : suc walk.passed ≡ walk.passed + 1 = omega arith in
    ap (λ (n : ℕ). turn_at column at (record walk { passed = n })) two ∙ ap (λ (n : ℕ). record walk { passed = n }) one

-- behind no tree a split is above the walk's begin, which is in its lower side
turn_low : (column : ℕ) (at : ℤ) (walk : Walk) → walk.passed ≡ 0 → turn_at column at walk ≡ record { passed = 0; turns = walk.turns ++ record { column = column; at = at; is_low = true } ∷ [] }
turn_low column at walk none = ap (λ (n : ℕ). turn_at column at (record walk { passed = n })) none

-- behind one tree, its lower side, it is above the walk's begin, which is in its upper side
turn_high : (column : ℕ) (at : ℤ) (walk : Walk) → walk.passed ≡ 0 → turn_at column at (past_tree walk) ≡ record { passed = 0; turns = walk.turns ++ record { column = column; at = at; is_low = false } ∷ [] }
turn_high column at walk none =
    let one : walk.passed + 1 ≡ 1 = omega arith in
    ap (λ (n : ℕ). turn_at column at (record walk { passed = n })) one

-- a walk back over a whole tree passes it
pub walk_back-preorder : (tree : Tree) (rest : List Node) → walk_back (preorder tree ++ rest) ≡ past_tree (walk_back rest)
walk_back-preorder (closed leaf) rest = refl
walk_back-preorder (split column at reason low high) rest =
    ap (λ (l : List Node). turn_at column at (walk_back l)) (append_assoc (preorder low) (preorder high) rest)
    ∙ ap (turn_at column at) (walk_back-preorder low (preorder high ++ rest) ∙ ap past_tree (walk_back-preorder high rest))
    ∙ split_passed column at (walk_back rest)

-- a walk that has come to the root, and whose turns lead from there to the box
pub record Leads (sides : List Bounds) (walk : Walk) (box : List Bounds) : Type 0 where
  pub none_passed : walk.passed ≡ 0
  pub way : IsWay sides walk.turns
  pub box_is : box_along sides walk.turns ≡ box

-- one turn more at the root
leads_on : (sides box : List Bounds) (walk : Walk) (turn : Turn) → IsParted sides turn.column turn.at → Leads (turned sides turn) walk box → Leads sides (record { passed = 0; turns = walk.turns ++ turn ∷ [] }) box
leads_on sides box walk turn parted leads = record {
  none_passed = refl;
  way = way_push sides walk.turns turn parted leads.way;
  box_is = box_along-push sides walk.turns turn ∙ leads.box_is;
}

-- the walk back from a node leads to its box
pub walk_leads : (tree : Tree) (sides : List Bounds) (place : ℕ) → HasBox sides tree place → Leads sides (walk_back (take place (preorder tree))) (box_of sides tree place)
walk_leads tree sides zero has = record { none_passed = refl; way = tt; box_is = refl }
walk_leads (closed leaf) sides (suc place) has = absurd has
walk_leads (split column at reason low high) sides (suc place) has =
    by_side (nat_lt place (length (preorder low))) refl (walk_leads low (low_box sides column at) place) (walk_leads high (high_box sides column at) (place - length (preorder low))) has.1
  where
    by_side : (b : Bool) → nat_lt place (length (preorder low)) ≡ b
        → (HasBox (low_box sides column at) low place → Leads (low_box sides column at) (walk_back (take place (preorder low))) (box_of (low_box sides column at) low place))
        → (HasBox (high_box sides column at) high (place - length (preorder low)) → Leads (high_box sides column at) (walk_back (take (place - length (preorder low)) (preorder high))) (box_of (high_box sides column at) high (place - length (preorder low))))
        → MatchBool b (HasBox (low_box sides column at) low place) (HasBox (high_box sides column at) high (place - length (preorder low)))
        → Leads sides (turn_at column at (walk_back (take place (preorder low ++ preorder high)))) (cond b (box_of (low_box sides column at) low place) (box_of (high_box sides column at) high (place - length (preorder low))))
    by_side true test in_low in_high below =
        let short : place ≤ length (preorder low) = omega (arith, ltb-true place (length (preorder low)) test) in
        let leads = in_low below in
        let before : turn_at column at (walk_back (take place (preorder low ++ preorder high))) ≡ record { passed = 0; turns = (walk_back (take place (preorder low))).turns ++ record { column = column; at = at; is_low = true } ∷ [] }
        = ap (λ (l : List Node). turn_at column at (walk_back l)) (take-append-le place (preorder low) (preorder high) short) ∙ turn_low column at (walk_back (take place (preorder low))) leads.none_passed in
        let low_box_of = box_of (low_box sides column at) low place in
        subst (λ (w : Walk). Leads sides w low_box_of) (sym before) (leads_on sides low_box_of (walk_back (take place (preorder low))) (record { column = column; at = at; is_low = true }) has.0 leads)
    by_side false test in_low in_high below =
        let rest = place - length (preorder low) in
        let long : place ≡ length (preorder low) + rest = omega (arith, ltb-false place (length (preorder low)) test) in
        let leads = in_high below in
        let walk = walk_back (take rest (preorder high)) in
        let taken : take place (preorder low ++ preorder high) ≡ preorder low ++ take rest (preorder high)
        = ap (λ (n : ℕ). take n (preorder low ++ preorder high)) long ∙ take-append-add (preorder low) (preorder high) rest in
        let before : turn_at column at (walk_back (take place (preorder low ++ preorder high))) ≡ record { passed = 0; turns = walk.turns ++ record { column = column; at = at; is_low = false } ∷ [] }
        = ap (λ (l : List Node). turn_at column at (walk_back l)) taken ∙ ap (turn_at column at) (walk_back-preorder low (take rest (preorder high))) ∙ turn_high column at walk leads.none_passed in
        let high_box_of = box_of (high_box sides column at) high rest in
        subst (λ (w : Walk). Leads sides w high_box_of) (sym before) (leads_on sides high_box_of walk (record { column = column; at = at; is_low = false }) has.0 leads)

-- a tree has a node
some_node : (tree : Tree) → 0 < length (preorder tree)
some_node (closed leaf) = omega arith
some_node (split column at reason low high) = omega arith

-- a node that has a box is there
pub has_node : (tree : Tree) (sides : List Bounds) (place : ℕ) → HasBox sides tree place → place < length (preorder tree)
has_node tree sides zero has = some_node tree
has_node (closed leaf) sides (suc place) has = absurd has
has_node (split column at reason low high) sides (suc place) has =
    by_side (nat_lt place (length (preorder low))) refl (has_node high (high_box sides column at) (place - length (preorder low))) has.1
  where
    by_side : (b : Bool) → nat_lt place (length (preorder low)) ≡ b
        → (HasBox (high_box sides column at) high (place - length (preorder low)) → place - length (preorder low) < length (preorder high))
        → MatchBool b (HasBox (low_box sides column at) low place) (HasBox (high_box sides column at) high (place - length (preorder low)))
        → suc place < suc (length (preorder low ++ preorder high))
    by_side true test in_high below = omega (arith, ltb-true place (length (preorder low)) test, length-append (preorder low) (preorder high))
    by_side false test in_high below = omega (arith, ltb-false place (length (preorder low)) test, length-append (preorder low) (preorder high), in_high below)

-- what a walk back over the nodes before one of a kept list finds
module _ (nodes now : List Node) (root : List Bounds) (place : ℕ) (whole : is_whole nodes ≡ true) (kept : nodes ≡ now)
    (has : (tree : Tree) → preorder tree ≡ now → HasBox root tree place) where
  the_tree : Tree
  the_tree = (tree_of_whole nodes whole).0

  the_tree-is : preorder the_tree ≡ nodes
  unfolding the_tree
  the_tree-is = (tree_of_whole nodes whole).1

  the_box : HasBox root the_tree place
  the_box = has the_tree (the_tree-is ∙ kept)

  pub place_within : (seen : List Node) → seen ≡ nodes → place ≡ length (take place seen)
  place_within seen is =
      let within : place ≤ length seen = omega (arith, has_node the_tree root place the_box, ap length the_tree-is, ap length is) in
      omega (arith, length-take place seen)

  leads_to_box : (seen : List Node) → seen ≡ nodes → Leads root (walk_back (take place seen)) (box_of root the_tree place)
  leads_to_box seen is =
      subst (λ (l : List Node). Leads root (walk_back (take place l)) (box_of root the_tree place)) (the_tree-is ∙ sym is) (walk_leads the_tree root place the_box)

  pub way_to_box : (seen : List Node) (sides lent : List Bounds) (turns : List Turn) → seen ≡ nodes → turns ≡ (walk_back (take place seen)).turns → sides ≡ lent → lent ≡ root → IsWay sides turns
  way_to_box seen sides lent turns is found copied of_root = rw (copied, of_root, found) (leads_to_box seen is).way

  pub box_at_end : (seen : List Node) (sides lent narrowed : List Bounds) (turns : List Turn) → seen ≡ nodes → turns ≡ (walk_back (take place seen)).turns → sides ≡ lent → lent ≡ root → narrowed ≡ box_along sides turns
      → (tree : Tree) → preorder tree ≡ now → narrowed ≡ box_of root tree place
  box_at_end seen sides lent narrowed turns is found copied of_root made tree listed =
      let same : the_tree ≡ tree = one_tree the_tree tree (the_tree-is ∙ kept ∙ sym listed) in
      made ∙ ap₂ box_along (copied ∙ of_root) found ∙ (leads_to_box seen is).box_is ∙ ap (λ (t : Tree). box_of root t place) same
