-- What is asked of a truth names nodes of the list alone.
use Rattle.std.proofs.Common.{refl, ℕ, zero, suc, ◌<◌, ℤ, pos, negsuc, ◌-ℤ◌, Bool, true, false, List, [], ◌∷◌, ◌++◌, map, flat_map, length, get_or, All, arith}
use Rattle.prov_arena.specs.Formulas.{Formula, FalseNode, TrueNode, PresNode, CellNode, PosNode, NotNode, AndNode, OrNode, LinNode, GuardNode, AbsNode, TotNode, MinNode, kids_of}
use Rattle.prov_fold.specs.Graphs.{Graph, node, size, HasTruth}
use Rattle.prov_fold.specs.Folds.{IsFold}
use Rattle.prov_fold.proofs.SameLemmas.{All_cons, All_head, All_tail}
use Rattle.bool_encode.specs.Forms.{Form, form}
use Rattle.bool_encode.specs.Tables.{times}
use Rattle.bool_encode.proofs.Each.{All_none}
use Rattle.root_encode.specs.Roots.{asked_by, asked, root_forms, sum_form}
use Rattle.used_columns.proofs.Linear.{IsNodePiece}

module _ (g : Graph) where
  abbrev pub AreNodes : List Form → Type 0
  AreNodes forms = All (λ (r : Form). All (IsNodePiece g) r.pieces) forms

  no_form : AreNodes []
  no_form = All_none (λ (r : Form). All (IsNodePiece g) r.pieces)

  one_form : (r : Form) → All (IsNodePiece g) r.pieces → AreNodes (r ∷ [])
  one_form r h = All_cons (λ (r : Form). All (IsNodePiece g) r.pieces) r [] h no_form

  pub nodes_both : (xs ys : List Form) → AreNodes xs → AreNodes ys → AreNodes (xs ++ ys)
  nodes_both [] ys h k = k
  nodes_both (x ∷ xs) ys h k = All_cons (λ (r : Form). All (IsNodePiece g) r.pieces) x (xs ++ ys) (All_head (λ (r : Form). All (IsNodePiece g) r.pieces) x xs h) (nodes_both xs ys (All_tail (λ (r : Form). All (IsNodePiece g) r.pieces) x xs h) k)

  one_piece : (s : ℤ) (z : ℕ) → z < size g → IsNodePiece g (times s z)
  one_piece s z lt = (z, lt, refl)

  pieces_there : (s : ℤ) (kids : List ℕ) → All (λ k. k < size g) kids → All (IsNodePiece g) (map (times s) kids)
  pieces_there s [] h = All_none (IsNodePiece g)
  pieces_there s (k ∷ kids) h = All_cons (IsNodePiece g) (times s k) (map (times s) kids) (one_piece s k (All_head (λ k. k < size g) k kids h)) (pieces_there s kids (All_tail (λ k. k < size g) k kids h))

  known_form : AreNodes (form (negsuc 0) [] ∷ [])
  known_form = one_form (form (negsuc 0) []) (All_none (IsNodePiece g))

  -- a form of a constant and one node
  pub term_form : (c s : ℤ) (z : ℕ) → z < size g → AreNodes (form c (times s z ∷ []) ∷ [])
  term_form c s z lt = one_form (form c (times s z ∷ [])) (All_cons (IsNodePiece g) (times s z) [] (one_piece s z lt) (All_none (IsNodePiece g)))

  sum_there : (c s : ℤ) (kids : List ℕ) → All (λ k. k < size g) kids → AreNodes (sum_form c s kids ∷ [])
  sum_there c s kids h = one_form (sum_form c s kids) (pieces_there s kids h)

  every : (ask : ℕ → List Form) (kids : List ℕ) → All (λ k. AreNodes (ask k)) kids → AreNodes (flat_map ask kids)
  every ask [] h = no_form
  every ask (k ∷ kids) h = nodes_both (ask k) (flat_map ask kids) (All_head (λ k. AreNodes (ask k)) k kids h) (every ask kids (All_tail (λ k. AreNodes (ask k)) k kids h))

  module _ (ask : Bool → ℕ → List Form) (z : ℕ) (lt : z < size g) where
    -- by the kind, where each kid is there and what is asked of it names nodes alone
    by_kind : (b : Bool) (m : Formula) → All (λ k. k < size g) (kids_of m) → All (λ k. (b : Bool) → AreNodes (ask b k)) (kids_of m) → AreNodes (asked_by ask b z m)
    by_kind true FalseNode there h = known_form
    by_kind false FalseNode there h = no_form
    by_kind true TrueNode there h = no_form
    by_kind false TrueNode there h = known_form
    by_kind true (PresNode column) there h = term_form (negsuc 0) (pos 1) z lt
    by_kind false (PresNode column) there h = term_form (pos 0) (negsuc 0) z lt
    by_kind true (PosNode n) there h = term_form (pos 0) (pos 1) n (there 0 0 (omega arith))
    by_kind false (PosNode n) there h = term_form (negsuc 0) (negsuc 0) n (there 0 0 (omega arith))
    by_kind true (NotNode t) there h = h 0 0 (omega arith) false
    by_kind false (NotNode t) there h = h 0 0 (omega arith) true
    by_kind true (AndNode kids) there h = every (ask true) kids (λ j d less. h j d less true)
    by_kind false (AndNode kids) there h = sum_there (pos (length kids) -ℤ pos 1) (negsuc 0) kids there
    by_kind true (OrNode kids) there h = sum_there (negsuc 0) (pos 1) kids there
    by_kind false (OrNode kids) there h = every (ask false) kids (λ j d less. h j d less false)
    by_kind true (CellNode column) there h = no_form
    by_kind false (CellNode column) there h = no_form
    by_kind true (LinNode c terms) there h = no_form
    by_kind false (LinNode c terms) there h = no_form
    by_kind true (GuardNode t n) there h = no_form
    by_kind false (GuardNode t n) there h = no_form
    by_kind true (AbsNode n) there h = no_form
    by_kind false (AbsNode n) there h = no_form
    by_kind true (TotNode n) there h = no_form
    by_kind false (TotNode n) there h = no_form
    by_kind true (MinNode pairs) there h = no_form
    by_kind false (MinNode pairs) there h = no_form

  module _ (fold : IsFold g) where
    steps : (n z : ℕ) (b : Bool) → z < size g → AreNodes (asked g n b z)
    unfolding asked
    steps zero z b lt = no_form
    steps (suc n) z b lt =
        by_kind (asked g n) z lt b (node g z) (fold.fits z lt).kids (λ j d less. λ b. steps n (get_or (kids_of (node g z)) j d) b ((fold.fits z lt).kids j d less))

    pub root_nodes : (z : ℕ) → z < size g → AreNodes (root_forms g true z)
    unfolding root_forms
    root_nodes z lt = steps (suc z) z true lt

    pub roots_nodes : (roots : List ℕ) → All (HasTruth g) roots → AreNodes (flat_map (root_forms g true) roots)
    roots_nodes roots h = every (root_forms g true) roots (λ j d less. root_nodes (get_or roots j d) (h j d less).below)
