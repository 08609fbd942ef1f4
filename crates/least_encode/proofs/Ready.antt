-- What the rows of a Min ask of the places that they name.
use Rattle.std.proofs.Common.{◌≡◌, ◌∙◌, sym, ap, subst, ℕ, suc, ◌<◌, ◌==◌, true, List, [], ◌∷◌, map, flat_map, get_or, All, Result, IfOk, arith}
use Rattle.std.proofs.lemmas.List.Elements.{All-filter}
use Rattle.ip_rows.specs.declared.rows.IpRow.{IpRow}
use Rattle.prov_arena.specs.declared.part.Pair.{Pair}
use Rattle.prov_arena.specs.Formulas.{Formula, MinNode}
use Rattle.prov_fold.specs.declared.span.Span.{Span}
use Rattle.prov_fold.specs.Graphs.{Graph, node, range, size, Fits}
use Rattle.prov_fold.specs.Folds.{IsFold, OrStandsBefore, HasAid}
use Rattle.prov_fold.specs.Kinds.{is_truth, is_number, is_term}
use Rattle.prov_fold.specs.Spans.{sure}
use Rattle.prov_fold.proofs.LeastLemmas.{IsSmall, least_small, greatest_small}
use Rattle.bool_encode.specs.declared.form.Key.TheVariants as key
use Rattle.bool_encode.specs.declared.stand.Stand.{Stand}
use Rattle.bool_encode.specs.Columns.{IsOnMap}
use Rattle.bool_encode.specs.Points.{HasPairAt}
use Rattle.bool_encode.specs.Rows.{AreRows, IsKid}
use Rattle.bool_encode.proofs.Each.{All_none, All_to_map}
use Rattle.bool_encode.proofs.LightLemmas.{light_truth}
use Rattle.prov_fold.proofs.SameLemmas.{All_cons}
use Rattle.cmp_encode.specs.Spans.{narrow_by, narrow_span}
use Rattle.cmp_encode.specs.Tables.{aid_of, forms_of, min_forms, named_by}
use Rattle.cmp_encode.proofs.Weights.{number_kid, own_kid}
use Rattle.whole_points.proofs.Named.{min_place}
use Rattle.whole_points.proofs.Whole.{if_ok}
use Rattle.least_encode.specs.Groups.{AreKidPairs, IsKidPair}
use Rattle.least_encode.specs.Told.{TellsLeast}
use Rattle.least_encode.proofs.Telling.{least_tells}

-- ---- the ends of the narrow range are small

module _ (g : Graph) (fold : IsFold g) where
  abbrev There : List Pair → Type 0
  There pairs = All (λ (p : Pair). p.number < size g) pairs

  lows_small : (pairs : List Pair) → There pairs → All IsSmall (map (λ (p : Pair). (range g p.number).lo) pairs)
  lows_small pairs there = All_to_map IsSmall (λ (p : Pair). (range g p.number).lo) pairs (λ k d lt. (fold.fits (get_or pairs k d).number (there k d lt)).small_lo)

  highs_small : (pairs : List Pair) → There pairs → All IsSmall (map (λ (p : Pair). (range g p.number).hi) pairs)
  highs_small pairs there = All_to_map IsSmall (λ (p : Pair). (range g p.number).hi) pairs (λ k d lt. (fold.fits (get_or pairs k d).number (there k d lt)).small_hi)

  abbrev SmallSpan : Span → Type 0
  SmallSpan s = IsSmall s.lo × IsSmall s.hi

  narrow_small_by : (pairs some : List Pair) → There pairs → There some → SmallSpan (narrow_by (range g) pairs some)
  narrow_small_by pairs [] there also = (least_small (map (λ (p : Pair). (range g p.number).lo) pairs) (lows_small pairs there), greatest_small (map (λ (p : Pair). (range g p.number).hi) pairs) (highs_small pairs there))
  narrow_small_by pairs (p ∷ more) there also = (least_small (map (λ (p : Pair). (range g p.number).lo) pairs) (lows_small pairs there), least_small (map (λ (p : Pair). (range g p.number).hi) (p ∷ more)) (highs_small (p ∷ more) also))

  pub narrow_small : (pairs : List Pair) (s : Span) → s ≡ narrow_span (range g) pairs → There pairs → SmallSpan s
  unfolding narrow_span
  narrow_small pairs s e there =
      subst SmallSpan (sym e) (narrow_small_by pairs (sure pairs) there (All-filter (λ (p : Pair). p.truth == 1) (λ (p : Pair). p.number < size g) pairs there))

-- ---- the places of a Min

module _ (g : Graph) (stands : List Stand) (z : ℕ) (fold : IsFold g) (lt : z < size g) (named : All (λ k. IsOnMap g stands (key.Node k)) (z ∷ named_by g (node g z))) (pairs : List Pair) (e : MinNode pairs ≡ node g z) where
  fits : Fits g (range g z) (MinNode pairs)
  fits = subst (Fits g (range g z)) (sym e) (fold.fits z lt)

  named_as : All (λ k. IsOnMap g stands (key.Node k)) (z ∷ named_by g (MinNode pairs))
  named_as = subst (λ (m : Formula). All (λ k. IsOnMap g stands (key.Node k)) (z ∷ named_by g m)) (sym e) named

  pub own_ready : IsKid g stands 2 z
  own_ready = own_kid g stands z lt (named 0 0 (omega arith)) (ap is_term (sym e))

  abbrev Kids : List Pair → List ℕ
  Kids ps = flat_map (λ (p : Pair). p.truth ∷ p.number ∷ []) ps

  each_kid : (ps : List Pair) → All (λ k. k < size g) (Kids ps) → All (λ k. IsOnMap g stands (key.Node k)) (Kids ps) → All (λ (p : Pair). (is_truth (node g p.truth) ≡ true) × (is_number (node g p.number) ≡ true)) ps → All (IsKidPair g stands) ps
  each_kid [] there on kinds = All_none (IsKidPair g stands)
  each_kid (p ∷ ps) there on kinds =
      All_cons (IsKidPair g stands) p ps
      (record {
        truth = light_truth g stands p.truth (there 0 0 (omega arith)) (on 0 0 (omega arith)) (kinds 0 p (omega arith)).0;
        number = number_kid g stands p.number fold (there 1 0 (omega arith)) (on 1 0 (omega arith)) (kinds 0 p (omega arith)).1;
      })
      (each_kid ps (λ j a l. there (suc (suc j)) a (omega (arith, l))) (λ j a l. on (suc (suc j)) a (omega (arith, l))) (λ j a l. kinds (suc j) a (omega (arith, l))))

  pub pairs_ready : ((pair : ℕ) → HasPairAt pair (node g z) → IsOnMap g stands (key.Selector z pair)) → AreKidPairs g stands z pairs
  pairs_ready chosen = record {
    each = each_kid pairs fits.kids (λ j a l. named_as (suc (suc j)) a (omega (arith, l))) fits.typed;
    chosen = λ pair l. chosen pair (subst (λ (m : Formula). HasPairAt pair m) e l);
  }

  stood : OrStandsBefore g z (map (λ (p : Pair). p.truth) pairs)
  stood = subst (HasAid g z) (sym e) (fold.aids z lt)

  pub aid_ready : (b : ℕ) → b ≡ aid_of g (node g z) → IsKid g stands 2 b
  aid_ready b is =
      let at : aid_of g (MinNode pairs) ≡ stood.place = min_place g z fold lt pairs stood in
      let before = stood.before in
      let kid : IsKid g stands 2 (aid_of g (MinNode pairs)) = light_truth g stands (aid_of g (MinNode pairs)) (omega (arith, at, before, lt)) (named_as 1 0 (omega arith)) (ap (λ k. is_truth (node g k)) at ∙ stood.truth) in
      subst (IsKid g stands 2) (sym (is ∙ ap (aid_of g) (sym e))) kid

-- a call that gives the rows of the forms gives rows that tell the value
pub least_if : {E : Type 0} (g : Graph) (stands : List Stand) (z b : ℕ) → IsFold g → z < size g → (pairs : List Pair) → MinNode pairs ≡ node g z → b ≡ aid_of g (node g z) → (r : Result (List IpRow) E) → IfOk r (AreRows g stands (min_forms (range g z) (narrow_span (range g) pairs) (range g) b z pairs))
    → IfOk r (TellsLeast g stands z)
least_if g stands z b fold lt pairs e is r h =
    if_ok r (AreRows g stands (min_forms (range g z) (narrow_span (range g) pairs) (range g) b z pairs)) (TellsLeast g stands z)
    (λ rows are. least_tells g stands z rows fold lt pairs (sym e)
    (subst (λ (m : Formula). AreRows g stands (forms_of g z m) rows) e (subst (λ b. AreRows g stands (min_forms (range g z) (narrow_span (range g) pairs) (range g) b z pairs) rows) (is ∙ ap (aid_of g) (sym e)) are))) h
