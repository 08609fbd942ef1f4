-- The ranges are a function of the list and of the columns' ranges.
use Rattle.std.proofs.Common.{◌≡◌, ◌∙◌, sym, ap, subst, refl, ℕ, zero, suc, ◌+◌, ◌<◌, ◌≤◌, pos, List, [], ◌∷◌, ◌++◌, length, take, fold, arith}
use Rattle.std.proofs.lemmas.List.{take_more, take_all, get_or-take}
use Rattle.prov_arena.specs.Formulas.{Formula, FalseNode, TrueNode, PresNode, CellNode, PosNode, NotNode, AndNode, OrNode, LinNode, GuardNode, AbsNode, TotNode, MinNode}
use Rattle.prov_arena.specs.Graphs.{at}
use Rattle.prov_fold.specs.declared.span.Span.{Span}
use Rattle.prov_fold.specs.Spans.{span_at, span_of}
use Rattle.prov_fold.specs.Graphs.{Graph, node, range, size}
use Rattle.prov_fold.specs.Folds.{IsFold}
use Rattle.prov_fold.specs.Sides.{side_of, ranges_of, HasSides}
use Rattle.prov_fold.proofs.SameLemmas.{span_of_same}
use Rattle.prov_fold.proofs.ValueLemmas.{fold_push}

ranges_more : (sides : ℕ → Span) (parts : List Formula) (i : ℕ) → i < length parts → ranges_of sides (take (i + 1) parts) ≡ ranges_of sides (take i parts) ++ span_of (side_of sides (at parts i)) (span_at (ranges_of sides (take i parts))) (at parts i) ∷ []
unfolding ranges_of
ranges_more sides parts i lt =
    ap (fold (λ done f. done ++ span_of (side_of sides f) (span_at done) f ∷ []) []) (take_more parts i FalseNode lt) ∙ fold_push (λ done f. done ++ span_of (side_of sides f) (span_at done) f ∷ []) [] (take i parts) (at parts i)

module _ (sides : ℕ → Span) (g : Graph) (is_fold : IsFold g) (has : HasSides sides g) where
  side_same : (i : ℕ) → i < size g → (r : ℕ → Span) (f : Formula) → node g i ≡ f → span_of (side_of sides f) r f ≡ span_of (range g i) r f
  side_same i lt r (CellNode column) e = sym (has.cells i column lt e)
  side_same i lt r FalseNode e = refl
  side_same i lt r TrueNode e = refl
  side_same i lt r (PresNode column) e = refl
  side_same i lt r (PosNode number) e = refl
  side_same i lt r (NotNode truth) e = refl
  side_same i lt r (AndNode kids) e = refl
  side_same i lt r (OrNode kids) e = refl
  side_same i lt r (LinNode constant terms) e = refl
  side_same i lt r (GuardNode truth number) e = refl
  side_same i lt r (AbsNode number) e = refl
  side_same i lt r (TotNode number) e = refl
  side_same i lt r (MinNode pairs) e = refl

  here : (n : ℕ) → n < size g → span_of (side_of sides (node g n)) (span_at (take n g.ranges)) (node g n) ≡ range g n
  here n lt =
      let below = is_fold.graph.below n lt in
      side_same n lt (span_at (take n g.ranges)) (node g n) refl
      ∙ span_of_same (range g) (span_at (take n g.ranges)) (range g n) (node g n) (λ k d less. get_or-take n g.ranges _ (record { lo = pos 0; hi = pos 0 }) (below k d less))
      ∙ sym (is_fold.fits n lt).ranged

  next : (n : ℕ) → n < size g → ranges_of sides (take n g.parts) ≡ take n g.ranges → ranges_of sides (take (n + 1) g.parts) ≡ take (n + 1) g.ranges
  next n lt e =
      let there : n < length g.ranges = (let count = is_fold.count in omega (arith, lt, count)) in
      ranges_more sides g.parts n lt ∙ (λ i. e i ++ span_of (side_of sides (node g n)) (span_at (e i)) (node g n) ∷ []) ∙ ap (λ s. take n g.ranges ++ s ∷ []) (here n lt) ∙ sym (take_more g.ranges n (record { lo = pos 0; hi = pos 0 }) there)

  start : ranges_of sides [] ≡ []
  unfolding ranges_of
  start = refl

  so_far : (n : ℕ) → n ≤ size g → ranges_of sides (take n g.parts) ≡ take n g.ranges
  so_far zero le = start
  so_far (suc n) le =
      let one_more : n + 1 ≡ suc n = omega arith in
      subst (λ m. ranges_of sides (take m g.parts) ≡ take m g.ranges) one_more (next n (omega (arith, le)) (so_far n (omega (arith, le))))

  pub ranges_are : g.ranges ≡ ranges_of sides g.parts
  ranges_are =
      let count = is_fold.count in
      sym (take_all (size g) g.ranges (omega (arith, count))) ∙ sym (so_far (size g) (omega arith)) ∙ ap (ranges_of sides) (take_all (size g) g.parts (omega arith))

pub range_is : (g : Graph) (id : ℕ) → IsFold g → (sides : ℕ → Span) → HasSides sides g → range g id ≡ span_at (ranges_of sides g.parts) id
range_is g id is_fold sides has = ap (λ ranges. span_at ranges id) (ranges_are sides g is_fold has)
