-- What is asked of a truth depends on the list up to its place, and not on the number of steps.
use Rattle.std.proofs.Common.{◌≡◌, ◌∙◌, ap, ap₂, refl, ℕ, zero, suc, ◌<◌, Bool, true, false, List, [], ◌∷◌, ◌++◌, flat_map, get_or, All, arith}
use Rattle.prov_arena.specs.Formulas.{Formula, FalseNode, TrueNode, PresNode, CellNode, PosNode, NotNode, AndNode, OrNode, LinNode, GuardNode, AbsNode, TotNode, MinNode, kids_of}
use Rattle.prov_fold.specs.Graphs.{Graph, node, size}
use Rattle.prov_fold.specs.Folds.{IsFold}
use Rattle.prov_fold.proofs.SameLemmas.{All_head, All_tail}
use Rattle.bool_encode.specs.Forms.{Form}
use Rattle.root_encode.specs.Roots.{asked_by, asked, root_forms}

flat_same : (f h : ℕ → List Form) (kids : List ℕ) → All (λ k. f k ≡ h k) kids → flat_map f kids ≡ flat_map h kids
flat_same f h [] e = refl
flat_same f h (k ∷ kids) e = ap₂ (λ (x y : List Form). x ++ y) (All_head (λ k. f k ≡ h k) k kids e) (flat_same f h kids (All_tail (λ k. f k ≡ h k) k kids e))

module _ (f h : Bool → ℕ → List Form) where
  same_by : (b : Bool) (z : ℕ) (m : Formula) → All (λ k. (b : Bool) → f b k ≡ h b k) (kids_of m) → asked_by f b z m ≡ asked_by h b z m
  same_by true z (NotNode t) e = e 0 0 (omega arith) false
  same_by false z (NotNode t) e = e 0 0 (omega arith) true
  same_by true z (AndNode kids) e = flat_same (f true) (h true) kids (λ j d less. e j d less true)
  same_by false z (OrNode kids) e = flat_same (f false) (h false) kids (λ j d less. e j d less false)
  same_by false z (AndNode kids) e = refl
  same_by true z (OrNode kids) e = refl
  same_by true z FalseNode e = refl
  same_by false z FalseNode e = refl
  same_by true z TrueNode e = refl
  same_by false z TrueNode e = refl
  same_by true z (PresNode column) e = refl
  same_by false z (PresNode column) e = refl
  same_by true z (PosNode n) e = refl
  same_by false z (PosNode n) e = refl
  same_by true z (CellNode column) e = refl
  same_by false z (CellNode column) e = refl
  same_by true z (LinNode c terms) e = refl
  same_by false z (LinNode c terms) e = refl
  same_by true z (GuardNode t n) e = refl
  same_by false z (GuardNode t n) e = refl
  same_by true z (AbsNode n) e = refl
  same_by false z (AbsNode n) e = refl
  same_by true z (TotNode n) e = refl
  same_by false z (TotNode n) e = refl
  same_by true z (MinNode pairs) e = refl
  same_by false z (MinNode pairs) e = refl

module _ (g : Graph) (fold : IsFold g) where
  same_steps : (n m : ℕ) (b : Bool) (z : ℕ) → z < n → z < m → z < size g → asked g n b z ≡ asked g m b z
  unfolding asked
  same_steps zero m b z less more lt = absurd (omega (arith, less))
  same_steps (suc n) zero b z less more lt = absurd (omega (arith, more))
  same_steps (suc n) (suc m) b z less more lt =
      same_by (asked g n) (asked g m) b z (node g z)
      (λ j d below. λ b. let k = fold.graph.below z lt j d below in same_steps n m b (get_or (kids_of (node g z)) j d) (omega (arith, k, less)) (omega (arith, k, more)) (omega (arith, k, lt)))

  -- what is asked of a truth, by its kind
  pub asked_is : (b : Bool) (z : ℕ) (m : Formula) → z < size g → m ≡ node g z → asked_by (root_forms g) b z m ≡ root_forms g b z
  unfolding asked root_forms
  asked_is b z m lt e =
      ap (asked_by (root_forms g) b z) e
      ∙ same_by (root_forms g) (asked g z) b z (node g z)
      (λ j d below. λ b. let k = fold.graph.below z lt j d below in same_steps (suc (get_or (kids_of (node g z)) j d)) z b (get_or (kids_of (node g z)) j d) (omega arith) k (omega (arith, k, lt)))
