-- What the rows of a node name stands before it.
use Rattle.std.proofs.Common.{◌≡◌, ap, subst, ℕ, ◌<◌, List, [], ◌∷◌, map, All, refl, arith}
use Rattle.prov_arena.specs.declared.part.Pair.{Pair}
use Rattle.prov_arena.specs.Formulas.{Formula, FalseNode, TrueNode, PresNode, CellNode, PosNode, NotNode, AndNode, OrNode, LinNode, GuardNode, AbsNode, TotNode, MinNode, kids_of}
use Rattle.prov_arena.proofs.GraphLemmas.{place_is}
use Rattle.prov_fold.specs.Graphs.{Graph, node, size}
use Rattle.prov_fold.specs.Folds.{IsFold, StandsBefore, OrStandsBefore, HasAid}
use Rattle.prov_fold.specs.Rules.{Made}
use Rattle.prov_fold.proofs.SameLemmas.{All_cons}
use Rattle.cmp_encode.specs.Tables.{aid_of, found, made, named_by}

module _ (g : Graph) (z : ℕ) (fold : IsFold g) (lt : z < size g) where
  below_at : (m : Formula) → node g z ≡ m → All (λ kid. kid < z) (kids_of m)
  below_at m e = subst (λ (m : Formula). All (λ kid. kid < z) (kids_of m)) e (fold.graph.below z lt)

  abs_less : (n : ℕ) → node g z ≡ AbsNode n → aid_of g (AbsNode n) < z
  abs_less n e =
      let s : StandsBefore g z (PosNode n) = subst (HasAid g z) e (fold.aids z lt) in
      let before = s.before in
      let is : aid_of g (AbsNode n) ≡ s.place = ap found (place_is g.parts (PosNode n) s.place fold.graph (omega (arith, before, lt)) s.is) in
      omega (arith, is, before)

  abbrev Stood : List Pair → Type 0
  Stood pairs = OrStandsBefore g z (map (λ (p : Pair). p.truth) pairs)

  pub min_place : (pairs : List Pair) (s : Stood pairs) → aid_of g (MinNode pairs) ≡ s.place
  min_place pairs s = ap (λ (m : Made). made m.gives) s.is

  min_less : (pairs : List Pair) → node g z ≡ MinNode pairs → aid_of g (MinNode pairs) < z
  min_less pairs e =
      let s : Stood pairs = subst (HasAid g z) e (fold.aids z lt) in
      let before = s.before in
      let is = min_place pairs s in
      omega (arith, is, before)

  named_by_kind : (m : Formula) → node g z ≡ m → All (λ k. k < z) (named_by g m)
  named_by_kind (AbsNode n) e = All_cons (λ k. k < z) n (aid_of g (AbsNode n) ∷ []) (below_at (AbsNode n) e 0 0 (omega arith)) (All_cons (λ k. k < z) (aid_of g (AbsNode n)) [] (abs_less n e) (λ k d less. absurd (omega arith)))
  named_by_kind (MinNode pairs) e = All_cons (λ k. k < z) (aid_of g (MinNode pairs)) (kids_of (MinNode pairs)) (min_less pairs e) (below_at (MinNode pairs) e)
  named_by_kind FalseNode e = below_at FalseNode e
  named_by_kind TrueNode e = below_at TrueNode e
  named_by_kind (PresNode c) e = below_at (PresNode c) e
  named_by_kind (CellNode c) e = below_at (CellNode c) e
  named_by_kind (PosNode n) e = below_at (PosNode n) e
  named_by_kind (NotNode t) e = below_at (NotNode t) e
  named_by_kind (AndNode kids) e = below_at (AndNode kids) e
  named_by_kind (OrNode kids) e = below_at (OrNode kids) e
  named_by_kind (LinNode c terms) e = below_at (LinNode c terms) e
  named_by_kind (GuardNode t n) e = below_at (GuardNode t n) e
  named_by_kind (TotNode n) e = below_at (TotNode n) e

  pub named_less : All (λ k. k < z) (named_by g (node g z))
  named_less = named_by_kind (node g z) refl
