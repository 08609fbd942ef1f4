-- What a formula says rests on the places that it names alone.
use Rattle.std.proofs.Common.{◌≡◌, ◌∙◌, sym, ap, refl, ℕ, zero, suc, pos, ◌+ℤ◌, Bool, true, false, cond, ◌==◌, List, [], ◌∷◌, map, All, arith}
use Rattle.prov_arena.specs.declared.part.Term.{Term}
use Rattle.prov_arena.specs.declared.part.Pair.{Pair}
use Rattle.prov_arena.specs.Formulas.{Formula, FalseNode, TrueNode, PresNode, CellNode, PosNode, NotNode, AndNode, OrNode, LinNode, GuardNode, AbsNode, TotNode, MinNode, kids_of}
use Rattle.prov_fold.specs.declared.span.Span.{Span}
use Rattle.prov_fold.specs.Sums.{total_by}
use Rattle.prov_fold.specs.Spans.{span_of, low_of, high_of, lin_low, lin_high, min_span, min_span_by, sure, least, greatest, widened, size_span}
use Rattle.prov_fold.specs.Kinds.{is_number, is_plain, is_truth, is_term}
use Rattle.prov_fold.specs.Graphs.{Graph, node, range, IsTyped, Fits, Keeps}

pub All_head : {A : Type 0} (P : A → Type 0) (x : A) (xs : List A) → All P (x ∷ xs) → P x
All_head P x xs h = h 0 x (omega arith)

pub All_tail : {A : Type 0} (P : A → Type 0) (x : A) (xs : List A) → All P (x ∷ xs) → All P xs
All_tail P x xs h = λ k d lt. h (suc k) d (omega arith)

pub All_cons : {A : Type 0} (P : A → Type 0) (x : A) (xs : List A) → P x → All P xs → All P (x ∷ xs)
All_cons P x xs p h zero d lt = p
All_cons P x xs p h (suc k) d lt = h k d (omega arith)

-- the parts of a list that is not empty
abbrev list_head : List Span → Span
list_head [] = record { lo = pos 0; hi = pos 0 }
list_head (x ∷ xs) = x

abbrev list_tail : List Span → List Span
list_tail [] = []
list_tail (x ∷ xs) = xs

-- ---- ranges

module _ (r r' : ℕ → Span) where
  low_same : (terms : List Term) → All (λ k. r' k ≡ r k) (map (λ (t : Term). t.node) terms) → total_by (λ (t : Term). low_of t.factor (r' t.node)) terms ≡ total_by (λ (t : Term). low_of t.factor (r t.node)) terms
  low_same [] h = refl
  low_same (t ∷ terms) h =
      let here : r' t.node ≡ r t.node = h 0 0 (omega arith) in
      let rest = low_same terms (λ k d lt. h (suc k) d (omega arith)) in
      λ i. low_of t.factor (here i) +ℤ rest i

  high_same : (terms : List Term) → All (λ k. r' k ≡ r k) (map (λ (t : Term). t.node) terms) → total_by (λ (t : Term). high_of t.factor (r' t.node)) terms ≡ total_by (λ (t : Term). high_of t.factor (r t.node)) terms
  high_same [] h = refl
  high_same (t ∷ terms) h =
      let here : r' t.node ≡ r t.node = h 0 0 (omega arith) in
      let rest = high_same terms (λ k d lt. h (suc k) d (omega arith)) in
      λ i. high_of t.factor (here i) +ℤ rest i

  spans_same : (pairs : List Pair) → All (λ k. r' k ≡ r k) (kids_of (MinNode pairs)) → map (λ (p : Pair). r' p.number) pairs ≡ map (λ (p : Pair). r p.number) pairs
  spans_same [] h = refl
  spans_same (p ∷ pairs) h =
      let here : r' p.number ≡ r p.number = h 1 0 (omega arith) in
      let rest = spans_same pairs (λ k d lt. h (suc (suc k)) d (omega arith)) in
      λ i. here i ∷ rest i

  -- the same of the pairs whose truth is True
  sure_step : (p : Pair) (pairs : List Pair) (b : Bool) → r' p.number ≡ r p.number → map (λ (p : Pair). r' p.number) (sure pairs) ≡ map (λ (p : Pair). r p.number) (sure pairs)
      → map (λ (p : Pair). r' p.number) (cond b (p ∷ sure pairs) (sure pairs)) ≡ map (λ (p : Pair). r p.number) (cond b (p ∷ sure pairs) (sure pairs))
  sure_step p pairs true here rest = λ i. here i ∷ rest i
  sure_step p pairs false here rest = rest

  sure_same : (pairs : List Pair) → All (λ k. r' k ≡ r k) (kids_of (MinNode pairs)) → map (λ (p : Pair). r' p.number) (sure pairs) ≡ map (λ (p : Pair). r p.number) (sure pairs)
  sure_same [] h = refl
  sure_same (p ∷ pairs) h =
      sure_step p pairs (p.truth == 1) (h 1 0 (omega arith)) (sure_same pairs (λ k d lt. h (suc (suc k)) d (omega arith)))

  lows_of : (pairs : List Pair) → map (λ (p : Pair). r' p.number) pairs ≡ map (λ (p : Pair). r p.number) pairs → map (λ (p : Pair). (r' p.number).lo) pairs ≡ map (λ (p : Pair). (r p.number).lo) pairs
  lows_of [] e = refl
  lows_of (p ∷ pairs) e = λ i. (list_head (e i)).lo ∷ lows_of pairs (λ i. list_tail (e i)) i

  highs_of : (pairs : List Pair) → map (λ (p : Pair). r' p.number) pairs ≡ map (λ (p : Pair). r p.number) pairs → map (λ (p : Pair). (r' p.number).hi) pairs ≡ map (λ (p : Pair). (r p.number).hi) pairs
  highs_of [] e = refl
  highs_of (p ∷ pairs) e = λ i. (list_head (e i)).hi ∷ highs_of pairs (λ i. list_tail (e i)) i

  min_by_same : (pairs some : List Pair) → map (λ (p : Pair). r' p.number) pairs ≡ map (λ (p : Pair). r p.number) pairs → map (λ (p : Pair). r' p.number) some ≡ map (λ (p : Pair). r p.number) some → min_span_by r' pairs some ≡ min_span_by r pairs some
  min_by_same pairs [] e e' = λ i. widened (record { lo = least (lows_of pairs e i); hi = greatest (highs_of pairs e i) })
  min_by_same pairs (p ∷ more) e e' = λ i. record { lo = least (lows_of pairs e i); hi = least (highs_of (p ∷ more) e' i) }

  pub span_of_same : (s : Span) (f : Formula) → All (λ k. r' k ≡ r k) (kids_of f) → span_of s r' f ≡ span_of s r f
  unfolding lin_low lin_high min_span
  span_of_same s FalseNode h = refl
  span_of_same s TrueNode h = refl
  span_of_same s (PresNode column) h = refl
  span_of_same s (CellNode column) h = refl
  span_of_same s (PosNode number) h = refl
  span_of_same s (NotNode truth) h = refl
  span_of_same s (AndNode kids) h = refl
  span_of_same s (OrNode kids) h = refl
  span_of_same s (LinNode constant terms) h = λ i. record { lo = constant +ℤ low_same terms h i; hi = constant +ℤ high_same terms h i }
  span_of_same s (GuardNode truth number) h = ap widened (h 1 0 (omega arith))
  span_of_same s (AbsNode number) h = ap size_span (h 0 0 (omega arith))
  span_of_same s (TotNode number) h = h 0 0 (omega arith)
  span_of_same s (MinNode pairs) h = min_by_same pairs (sure pairs) (spans_same pairs h) (sure_same pairs h)

-- ---- kinds

module _ (g g' : Graph) where
  all_same : (q : Formula → Bool) (kids : List ℕ) → All (λ k. node g' k ≡ node g k) kids → All (λ k. q (node g k) ≡ true) kids → All (λ k. q (node g' k) ≡ true) kids
  all_same q kids h p = λ k d lt. ap q (h k d lt) ∙ p k d lt

  terms_same : (terms : List Term) → All (λ k. node g' k ≡ node g k) (map (λ (t : Term). t.node) terms) → All (λ (t : Term). is_term (node g t.node) ≡ true) terms → All (λ (t : Term). is_term (node g' t.node) ≡ true) terms
  terms_same [] h p = λ k d lt. absurd (omega arith)
  terms_same (t ∷ terms) h p =
      All_cons (λ (t : Term). is_term (node g' t.node) ≡ true) t terms (ap is_term (h 0 0 (omega arith)) ∙ p 0 t (omega arith)) (terms_same terms (λ k d lt. h (suc k) d (omega arith)) (λ k d lt. p (suc k) d (omega arith)))

  pairs_same : (pairs : List Pair) → All (λ k. node g' k ≡ node g k) (kids_of (MinNode pairs)) → All (λ (p : Pair). (is_truth (node g p.truth) ≡ true) × (is_number (node g p.number) ≡ true)) pairs → All (λ (p : Pair). (is_truth (node g' p.truth) ≡ true) × (is_number (node g' p.number) ≡ true)) pairs
  pairs_same [] h q = λ k d lt. absurd (omega arith)
  pairs_same (p ∷ pairs) h q =
      All_cons (λ (p : Pair). (is_truth (node g' p.truth) ≡ true) × (is_number (node g' p.number) ≡ true)) p pairs (ap is_truth (h 0 0 (omega arith)) ∙ (q 0 p (omega arith)).0, ap is_number (h 1 0 (omega arith)) ∙ (q 0 p (omega arith)).1)
      (pairs_same pairs (λ k d lt. h (suc (suc k)) d (omega arith)) (λ k d lt. q (suc k) d (omega arith)))

  pub typed_same : (f : Formula) → All (λ k. node g' k ≡ node g k) (kids_of f) → IsTyped g f → IsTyped g' f
  typed_same FalseNode h p = p
  typed_same TrueNode h p = p
  typed_same (PresNode column) h p = p
  typed_same (CellNode column) h p = p
  typed_same (PosNode number) h p = ap is_number (h 0 0 (omega arith)) ∙ p
  typed_same (NotNode truth) h p = ap is_plain (h 0 0 (omega arith)) ∙ p
  typed_same (AndNode kids) h p = all_same is_truth kids h p
  typed_same (OrNode kids) h p = all_same is_truth kids h p
  typed_same (LinNode constant terms) h p = record { small = p.small; rising = p.rising; factors = p.factors; kinds = terms_same terms h p.kinds }
  typed_same (GuardNode truth number) h p = (ap is_truth (h 0 0 (omega arith)) ∙ p.0, ap is_number (h 1 0 (omega arith)) ∙ p.1)
  typed_same (AbsNode number) h p = ap is_number (h 0 0 (omega arith)) ∙ p
  typed_same (TotNode number) h p = ap is_number (h 0 0 (omega arith)) ∙ p
  typed_same (MinNode pairs) h p = pairs_same pairs h p

-- a formula fits a longer list with the same range
pub fits_kept : (g g' : Graph) (s : Span) (f : Formula) → Keeps g g' → Fits g s f → Fits g' s f
fits_kept g g' s f keeps fits = record {
  kids = λ k d lt. let below = fits.kids k d lt in omega (arith, below, keeps.longer);
  typed = typed_same g g' f (λ k d lt. keeps.nodes _ (fits.kids k d lt)) fits.typed;
  ranged = fits.ranged ∙ sym (span_of_same (range g) (range g') s f (λ k d lt. keeps.ranges _ (fits.kids k d lt)));
  order = fits.order;
  wide = fits.wide;
  small_lo = fits.small_lo;
  small_hi = fits.small_hi;
}
