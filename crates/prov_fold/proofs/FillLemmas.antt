-- The value of every node lies in its range.
use Rattle.std.proofs.Common.{◌≡◌, ◌≢◌, ◌∙◌, sym, ap, subst, refl, ℕ, zero, suc, ◌+◌, ◌<◌, ◌≤◌, ℤ, pos, ◌+ℤ◌, ◌*ℤ◌, ◌≤ℤ◌, Bool, true, false, cond, ◌==◌, nat_eq, List, [], ◌∷◌, ◌++◌, length, take, get_or, set, map, filter, fold, All, arith}
use Rattle.std.specs.Ordering.{int_eq}
use Rattle.std.specs.List.{list_all, list_any}
use Rattle.std.proofs.lemmas.Int.{ints}
use Rattle.std.proofs.lemmas.Bool.Decides.{Decides-eqb, Decides-int_eq}
use Rattle.std.proofs.lemmas.List.{length-map, length-set, length-take-le, get_or-set_same, get_or-set_other, get_or-take, take_more_set}
use Rattle.std.proofs.lemmas.List.Elements.{All-filter}
use Rattle.prov_arena.specs.declared.part.Term.{Term}
use Rattle.prov_arena.specs.declared.part.Pair.{Pair}
use Rattle.prov_arena.specs.Formulas.{Formula, FalseNode, TrueNode, PresNode, CellNode, PosNode, NotNode, AndNode, OrNode, LinNode, GuardNode, AbsNode, TotNode, MinNode, kids_of}
use Rattle.prov_fold.specs.declared.span.Span.{Span}
use Rattle.prov_fold.specs.Sums.{total_by}
use Rattle.prov_fold.specs.Spans.{least, greatest, greater, widened, sure, min_span, min_span_by}
use Rattle.prov_fold.specs.Graphs.{Graph, node, range, size, Fits}
use Rattle.prov_fold.specs.Folds.{IsFold}
use Rattle.prov_fold.specs.Values.{number_at, holds, value_of, values_of, HasColumn, HasNumbers, IsNear, CanValue}
use Rattle.prov_fold.proofs.SameLemmas.{All_head, All_tail, All_cons}
use Rattle.prov_fold.proofs.SumLemmas.{number_weight}
use Rattle.prov_fold.proofs.SpreadLemmas.{factors_weight, linear_good}
use Rattle.prov_fold.proofs.LeastLemmas.{le_le, least_all, least_above}
use Rattle.prov_fold.proofs.ValueLemmas.{IsIn, linear_in, bit_in, values_more, not_in, widened_in, widened_zero, guard_in, abs_in}

-- ---- least numbers

greater_left : (a b : ℤ) → a ≤ℤ greater a b
greater_left a b = grind (arith, ints)

greater_keeps : (a b c : ℤ) → a ≤ℤ b → a ≤ℤ greater b c
greater_keeps a b c h = grind (arith, ints)

greater_right : (a b : ℤ) → b ≤ℤ greater a b
greater_right a b = grind (arith, ints)

up_first : (a : ℤ) (xs : List ℤ) → a ≤ℤ fold greater a xs
up_first a [] = omega (arith, ints)
up_first a (x ∷ xs) = le_le a (greater a x) (fold greater (greater a x) xs) (greater_left a x) (up_first (greater a x) xs)

up_each : (a : ℤ) (xs : List ℤ) → All (λ (x : ℤ). x ≤ℤ fold greater a xs) xs
up_each a [] = λ k d lt. absurd (omega arith)
up_each a (x ∷ xs) =
    All_cons (λ (z : ℤ). z ≤ℤ fold greater (greater a x) xs) x xs (le_le x (greater a x) (fold greater (greater a x) xs) (greater_right a x) (up_first (greater a x) xs)) (up_each (greater a x) xs)

greatest_all : (xs : List ℤ) → All (λ (x : ℤ). x ≤ℤ greatest xs) xs
greatest_all [] = λ k d lt. absurd (omega arith)
greatest_all (x ∷ xs) = All_cons (λ (z : ℤ). z ≤ℤ fold greater x xs) x xs (up_first x xs) (up_each x xs)

to_map : (P : ℤ → Type 0) (f : Pair → ℤ) (pairs : List Pair) → All (λ (p : Pair). P (f p)) pairs → All P (map f pairs)
to_map P f [] h = λ k d lt. absurd (omega arith)
to_map P f (p ∷ pairs) h = All_cons P (f p) (map f pairs) (All_head (λ (p : Pair). P (f p)) p pairs h) (to_map P f pairs (All_tail (λ (p : Pair). P (f p)) p pairs h))

of_map : (P : ℤ → Type 0) (f : Pair → ℤ) (pairs : List Pair) → All P (map f pairs) → All (λ (p : Pair). P (f p)) pairs
of_map P f [] h = λ k d lt. absurd (omega arith)
of_map P f (p ∷ pairs) h = All_cons (λ (p : Pair). P (f p)) p pairs (All_head P (f p) (map f pairs) h) (of_map P f pairs (All_tail P (f p) (map f pairs) h))

passed_step : (P : Pair → Type 0) (q : Pair → Bool) (p : Pair) (kept pairs : List Pair) (b : Bool) → q p ≡ b → All P (cond b (p ∷ kept) kept) → (All P kept → All (λ (p : Pair). q p ≡ true → P p) pairs) → All (λ (p : Pair). q p ≡ true → P p) (p ∷ pairs)
passed_step P q p kept pairs true e h rest = All_cons (λ (p : Pair). q p ≡ true → P p) p pairs (λ _. All_head P p kept h) (rest (All_tail P p kept h))
passed_step P q p kept pairs false e h rest = All_cons (λ (p : Pair). q p ≡ true → P p) p pairs (λ yes. let no : true ≡ false = sym yes ∙ e in cc) (rest h)

-- what holds of the pairs that pass holds of each that passes
passed : (P : Pair → Type 0) (q : Pair → Bool) (pairs : List Pair) → All P (filter q pairs) → All (λ (p : Pair). q p ≡ true → P p) pairs
passed P q [] h = λ k d lt. absurd (omega arith)
passed P q (p ∷ pairs) h = passed_step P q p (filter q pairs) pairs (q p) refl h (passed P q pairs)

passes_step : (q : Pair → Bool) (p : Pair) (kept : List Pair) (b : Bool) → q p ≡ b → All (λ (p : Pair). q p ≡ true) kept → All (λ (p : Pair). q p ≡ true) (cond b (p ∷ kept) kept)
passes_step q p kept true e h = All_cons (λ (p : Pair). q p ≡ true) p kept e h
passes_step q p kept false e h = h

passes_all : (q : Pair → Bool) (pairs : List Pair) → All (λ (p : Pair). q p ≡ true) (filter q pairs)
passes_all q [] = λ k d lt. absurd (omega arith)
passes_all q (p ∷ pairs) = passes_step q p (filter q pairs) (q p) refl (passes_all q pairs)

fewer_step : (q r : Pair → Bool) (p : Pair) (kept more : List Pair) (a b : Bool) → q p ≡ a → r p ≡ b → (q p ≡ true → r p ≡ true) → length kept ≤ length more → length (cond a (p ∷ kept) kept) ≤ length (cond b (p ∷ more) more)
fewer_step q r p kept more true true e h imp le = omega (arith, le)
fewer_step q r p kept more true false e h imp le = let no : true ≡ false = sym (imp e) ∙ h in cc
fewer_step q r p kept more false true e h imp le = omega (arith, le)
fewer_step q r p kept more false false e h imp le = le

fewer : (q r : Pair → Bool) (pairs : List Pair) → All (λ (p : Pair). q p ≡ true → r p ≡ true) pairs → length (filter q pairs) ≤ length (filter r pairs)
fewer q r [] h = omega arith
fewer q r (p ∷ pairs) h =
    fewer_step q r p (filter q pairs) (filter r pairs) (q p) (r p) refl refl (All_head (λ (p : Pair). q p ≡ true → r p ≡ true) p pairs h) (fewer q r pairs (All_tail (λ (p : Pair). q p ≡ true → r p ≡ true) p pairs h))

some_head : (xs : List ℤ) → 0 < length xs → (a : ℤ) → All (λ (x : ℤ). x ≤ℤ a) xs → least xs ≤ℤ a
some_head [] some a h = absurd (omega arith)
some_head (x ∷ xs) some a h = le_le (least (x ∷ xs)) x a (All_head (λ (z : ℤ). least (x ∷ xs) ≤ℤ z) x xs (least_all (x ∷ xs))) (All_head (λ (x : ℤ). x ≤ℤ a) x xs h)

module _ (g : Graph) (value : ℕ → ℤ) (pairs : List Pair) (inside : All (λ (p : Pair). IsIn (range g p.number) (value p.number)) pairs) where
  counted : List ℤ
  counted = map (λ (p : Pair). value p.number) (filter (λ (p : Pair). holds value p.truth) pairs)

  lows : List ℤ
  lows = map (λ (p : Pair). (range g p.number).lo) pairs

  -- the least lower end is below each value
  low_each : All (λ (p : Pair). least lows ≤ℤ value p.number) pairs
  unfolding lows
  low_each = λ k d lt. le_le (least lows) (range g (get_or pairs k d).number).lo (value (get_or pairs k d).number) (of_map (λ (x : ℤ). least lows ≤ℤ x) (λ (p : Pair). (range g p.number).lo) pairs (least_all lows) k d lt) (inside k d lt).low

  low_counted : All (λ (y : ℤ). least lows ≤ℤ y) counted
  unfolding counted
  low_counted = to_map (λ (y : ℤ). least lows ≤ℤ y) (λ (p : Pair). value p.number) (filter (λ (p : Pair). holds value p.truth) pairs) (All-filter (λ (p : Pair). holds value p.truth) (λ (p : Pair). least lows ≤ℤ value p.number) pairs low_each)

  counted_each : All (λ (p : Pair). holds value p.truth ≡ true → least counted ≤ℤ value p.number) pairs
  unfolding counted
  counted_each = passed (λ (p : Pair). least counted ≤ℤ value p.number) (λ (p : Pair). holds value p.truth) pairs (of_map (λ (y : ℤ). least counted ≤ℤ y) (λ (p : Pair). value p.number) (filter (λ (p : Pair). holds value p.truth) pairs) (least_all counted))

  high_each : All (λ (p : Pair). value p.number ≤ℤ greatest (map (λ (p : Pair). (range g p.number).hi) pairs)) pairs
  high_each = λ k d lt. le_le (value (get_or pairs k d).number) (range g (get_or pairs k d).number).hi (greatest (map (λ (p : Pair). (range g p.number).hi) pairs)) (inside k d lt).high
      (of_map (λ (x : ℤ). x ≤ℤ greatest (map (λ (p : Pair). (range g p.number).hi) pairs)) (λ (p : Pair). (range g p.number).hi) pairs (greatest_all (map (λ (p : Pair). (range g p.number).hi) pairs)) k d lt)

  sure_in : value 1 ≡ pos 1 → 0 < length (sure pairs) → IsIn (record { lo = least lows; hi = least (map (λ (p : Pair). (range g p.number).hi) (sure pairs)) }) (least counted)
  unfolding counted
  sure_in one some =
      let holding : All (λ (p : Pair). (p.truth == 1) ≡ true → holds value p.truth ≡ true) pairs = λ k d lt e. ap (λ n. int_eq (value n) (pos 1)) ((Decides-eqb (get_or pairs k d).truth 1).0 e) ∙ ap (λ (z : ℤ). int_eq z (pos 1)) one ∙ (Decides-int_eq (pos 1) (pos 1)).1 refl in
      let more = fewer (λ (p : Pair). p.truth == 1) (λ (p : Pair). holds value p.truth) pairs holding in
      let there : 0 < length counted = omega (arith, more, some, length-map (filter (λ (p : Pair). holds value p.truth) pairs) (λ (p : Pair). value p.number)) in
      let below : All (λ (p : Pair). (p.truth == 1) ≡ true → least counted ≤ℤ (range g p.number).hi) pairs = λ k d lt e. le_le (least counted) (value (get_or pairs k d).number) (range g (get_or pairs k d).number).hi (counted_each k d lt (holding k d lt e)) (inside k d lt).high in
      let sure_below = All-filter (λ (p : Pair). p.truth == 1) (λ (p : Pair). (p.truth == 1) ≡ true → least counted ≤ℤ (range g p.number).hi) pairs below in
      let sure_is = passes_all (λ (p : Pair). p.truth == 1) pairs in
      record {
        low = least_above (least lows) counted there low_counted;
        high = least_above (least counted) (map (λ (p : Pair). (range g p.number).hi) (sure pairs)) (omega (arith, some, length-map (sure pairs) (λ (p : Pair). (range g p.number).hi)))
            (to_map (λ (y : ℤ). least counted ≤ℤ y) (λ (p : Pair). (range g p.number).hi) (sure pairs) (λ k d lt. sure_below k d lt (sure_is k d lt)));
      }

  open_by : (xs : List ℤ) → All (λ (y : ℤ). least lows ≤ℤ y) xs → All (λ (y : ℤ). y ≤ℤ greatest (map (λ (p : Pair). (range g p.number).hi) pairs)) xs → IsIn (widened (record { lo = least lows; hi = greatest (map (λ (p : Pair). (range g p.number).hi) pairs) })) (least xs)
  open_by [] below above = widened_zero (record { lo = least lows; hi = greatest (map (λ (p : Pair). (range g p.number).hi) pairs) })
  open_by (x ∷ xs) below above =
      widened_in (record { lo = least lows; hi = greatest (map (λ (p : Pair). (range g p.number).hi) pairs) }) (least (x ∷ xs))
      (record { low = least_above (least lows) (x ∷ xs) (omega arith) below; high = some_head (x ∷ xs) (omega arith) (greatest (map (λ (p : Pair). (range g p.number).hi) pairs)) above })

  open_in : IsIn (widened (record { lo = least lows; hi = greatest (map (λ (p : Pair). (range g p.number).hi) pairs) })) (least counted)
  unfolding counted
  open_in = open_by counted low_counted (to_map (λ (y : ℤ). y ≤ℤ greatest (map (λ (p : Pair). (range g p.number).hi) pairs)) (λ (p : Pair). value p.number) (filter (λ (p : Pair). holds value p.truth) pairs) (All-filter (λ (p : Pair). holds value p.truth) (λ (p : Pair). value p.number ≤ℤ greatest (map (λ (p : Pair). (range g p.number).hi) pairs)) pairs high_each))

  min_by : (some : List Pair) → sure pairs ≡ some → value 1 ≡ pos 1 → IsIn (min_span_by (range g) pairs some) (least counted)
  unfolding lows
  min_by [] e one = open_in
  min_by (p ∷ more) e one = subst (λ (ps : List Pair). IsIn (record { lo = least lows; hi = least (map (λ (p : Pair). (range g p.number).hi) ps) }) (least counted)) e (sure_in one (subst (λ (ps : List Pair). 0 < length ps) (sym e) (omega arith)))

  pub min_in : value 1 ≡ pos 1 → IsIn (min_span (range g) pairs) (least (map (λ (p : Pair). value p.number) (filter (λ (p : Pair). holds value p.truth) pairs)))
  unfolding min_span counted
  min_in one = min_by (sure pairs) refl one

-- ---- any node

past : (g : Graph) (id : ℕ) (pairs : List Pair) → IsFold g → node g id ≡ MinNode pairs → 1 < id
past g zero pairs fold e = let no : FalseNode ≡ MinNode pairs = sym fold.graph.false_at ∙ e in cc
past g (suc zero) pairs fold e = let no : TrueNode ≡ MinNode pairs = sym fold.graph.true_at ∙ e in cc
past g (suc (suc id)) pairs fold e = omega arith

module _ (g : Graph) (world values : List ℤ) (id : ℕ) (fold : IsFold g) (has : HasNumbers g world) (lt : id < size g) (len : length values ≡ id)
    (before : (k : ℕ) → k < id → IsIn (range g k) (number_at values k)) (one : 1 < id → number_at values 1 ≡ pos 1) where
  near_by : (k : ℕ) → k < id → IsNear (number_at values k)
  near_by k less =
      let i = before k less in
      let lo = i.low in
      let hi = i.high in
      let f = fold.fits k (omega arith) in
      let small_lo = f.small_lo in
      let small_hi = f.small_hi in
      omega (arith, ints, lo, hi, small_lo, small_hi)

  terms_below : (terms : List Term) → All (λ kid. kid < id) (map (λ (t : Term). t.node) terms) → All (λ (t : Term). t.node < id) terms
  terms_below [] h = λ k d lt. absurd (omega arith)
  terms_below (t ∷ terms) h = All_cons (λ (t : Term). t.node < id) t terms (h 0 0 (omega arith)) (terms_below terms (λ k d lt. h (suc k) d (omega arith)))

  pairs_below : (pairs : List Pair) → All (λ kid. kid < id) (kids_of (MinNode pairs)) → All (λ (p : Pair). (p.truth < id) × (p.number < id)) pairs
  pairs_below [] h = λ k d lt. absurd (omega arith)
  pairs_below (p ∷ pairs) h = All_cons (λ (p : Pair). (p.truth < id) × (p.number < id)) p pairs (h 0 0 (omega arith), h 1 0 (omega arith)) (pairs_below pairs (λ k d lt. h (suc (suc k)) d (omega arith)))

  kids_at : (f : Formula) → node g id ≡ f → All (λ kid. kid < id) (kids_of f)
  kids_at f e = subst (λ (f : Formula). All (λ kid. kid < id) (kids_of f)) e (fold.graph.below id lt)

  fits_at : (f : Formula) → node g id ≡ f → Fits g (range g id) f
  fits_at f e = subst (Fits g (range g id)) e (fold.fits id lt)

  column_at : (f : Formula) → node g id ≡ f → HasColumn world (range g id) f
  column_at f e = subst (HasColumn world (range g id)) e (has.columns id lt)

  linear_at : (c : ℤ) (terms : List Term) → node g id ≡ LinNode c terms → IsIn (range g id) (c +ℤ total_by (λ (t : Term). t.factor *ℤ number_at values t.node) terms)
  linear_at c terms e =
      let below = terms_below terms (kids_at (LinNode c terms) e) in
      linear_in g (number_at values) (range g id) c terms (fits_at (LinNode c terms) e) (λ k d lt'. before (get_or terms k d).node (below k d lt'))

  near_in : (s : Span) (v : ℤ) → IsNear s.lo → IsNear s.hi → IsIn s v → IsNear v
  near_in s v small_lo small_hi i = let lo = i.low in let hi = i.high in omega (arith, ints, lo, hi, small_lo, small_hi)

  can : (f : Formula) → node g id ≡ f → CanValue world values f
  can FalseNode e = tt
  can TrueNode e = tt
  can (PresNode column) e = (column_at (PresNode column) e).there
  can (CellNode column) e = (column_at (CellNode column) e).there
  can (PosNode number) e = let b = kids_at (PosNode number) e 0 0 (omega arith) in omega (arith, b, len)
  can (NotNode truth) e = let b = kids_at (NotNode truth) e 0 0 (omega arith) in omega (arith, b, len)
  can (AndNode kids) e = λ k d lt'. let b = kids_at (AndNode kids) e k d lt' in omega (arith, b, len)
  can (OrNode kids) e = λ k d lt'. let b = kids_at (OrNode kids) e k d lt' in omega (arith, b, len)
  can (LinNode c terms) e =
      let below = terms_below terms (kids_at (LinNode c terms) e) in
      let fits = fits_at (LinNode c terms) e in
      let weight = number_weight g (range g id) c terms fold fits in
      let factors = factors_weight g terms fold (linear_good g c terms fits.kids fits.typed.kinds) in
      record {
        below = λ k d lt'. let b = below k d lt' in omega (arith, b, len);
        near = λ k d lt'. near_by (get_or terms k d).node (below k d lt');
        factors = omega (arith, weight, factors);
        constant_near = fits.typed.small;
        whole = near_in (range g id) (c +ℤ total_by (λ (t : Term). t.factor *ℤ number_at values t.node) terms) fits.small_lo fits.small_hi (linear_at c terms e);
      }
  can (GuardNode truth number) e =
      let a = kids_at (GuardNode truth number) e 0 0 (omega arith) in
      let b = kids_at (GuardNode truth number) e 1 0 (omega arith) in
      (omega (arith, a, len), omega (arith, b, len))
  can (AbsNode number) e =
      let b = kids_at (AbsNode number) e 0 0 (omega arith) in
      (omega (arith, b, len), near_by number b)
  can (TotNode number) e = let b = kids_at (TotNode number) e 0 0 (omega arith) in omega (arith, b, len)
  can (MinNode pairs) e =
      let b = pairs_below pairs (kids_at (MinNode pairs) e) in
      λ k d lt'. let a = (b k d lt').0 in let c = (b k d lt').1 in (omega (arith, a, len), omega (arith, c, len))

  pub can_value : CanValue world values (node g id)
  can_value = can (node g id) refl

  by_span : (f : Formula) (s : Span) (v : ℤ) → range g id ≡ s → IsIn s v → IsIn (range g id) v
  by_span f s v is h = subst (λ (s : Span). IsIn s v) (sym is) h

  pub value_in : (f : Formula) → node g id ≡ f → IsIn (range g id) (value_of world (number_at values) f)
  value_in FalseNode e = by_span FalseNode _ _ (fits_at FalseNode e).ranged (bit_in false)
  value_in TrueNode e = by_span TrueNode _ _ (fits_at TrueNode e).ranged (bit_in true)
  value_in (PresNode column) e = by_span (PresNode column) _ _ (fits_at (PresNode column) e).ranged (bit_in (int_eq (number_at world column) (pos 1)))
  value_in (CellNode column) e = let c = column_at (CellNode column) e in record { low = c.low; high = c.high }
  value_in (PosNode number) e = by_span (PosNode number) _ _ (fits_at (PosNode number) e).ranged (bit_in _)
  value_in (NotNode truth) e = by_span (NotNode truth) _ _ (fits_at (NotNode truth) e).ranged (not_in (holds (number_at values) truth))
  value_in (AndNode kids) e = by_span (AndNode kids) _ _ (fits_at (AndNode kids) e).ranged (bit_in (list_all (holds (number_at values)) kids))
  value_in (OrNode kids) e = by_span (OrNode kids) _ _ (fits_at (OrNode kids) e).ranged (bit_in (list_any (holds (number_at values)) kids))
  value_in (LinNode c terms) e = linear_at c terms e
  value_in (GuardNode truth number) e =
      by_span (GuardNode truth number) _ _ (fits_at (GuardNode truth number) e).ranged (guard_in (range g number) (number_at values number) (holds (number_at values) truth) (before number (kids_at (GuardNode truth number) e 1 0 (omega arith))))
  value_in (AbsNode number) e = by_span (AbsNode number) _ _ (fits_at (AbsNode number) e).ranged (abs_in (range g number) (number_at values number) (before number (kids_at (AbsNode number) e 0 0 (omega arith))))
  value_in (TotNode number) e = by_span (TotNode number) _ _ (fits_at (TotNode number) e).ranged (before number (kids_at (TotNode number) e 0 0 (omega arith)))
  value_in (MinNode pairs) e =
      let b = pairs_below pairs (kids_at (MinNode pairs) e) in
      by_span (MinNode pairs) _ _ (fits_at (MinNode pairs) e).ranged (min_in g (number_at values) pairs (λ k d lt'. before (get_or pairs k d).number (b k d lt').1) (one (past g id pairs fold e)))

-- ---- the values written so far

pub record IsFilled (g : Graph) (world : List ℤ) (id : ℕ) (out : List ℤ) : Type 0 where
  pub values : take id out ≡ values_of world (take id g.parts)
  pub inside : (k : ℕ) → k < id → IsIn (range g k) (number_at out k)
  pub one : 1 < id → number_at out 1 ≡ pos 1
  pub room : length out ≡ size g

module _ (g : Graph) (world : List ℤ) (id : ℕ) (out : List ℤ) (fold : IsFold g) (has : HasNumbers g world) (lt : id < size g) (filled : IsFilled g world id out) where
  taken : (k : ℕ) → k < id → number_at (take id out) k ≡ number_at out k
  taken k less = get_or-take id out k (pos 0) less

  before : (k : ℕ) → k < id → IsIn (range g k) (number_at (take id out) k)
  before k less = subst (IsIn (range g k)) (sym (taken k less)) (filled.inside k less)

  first : 1 < id → number_at (take id out) 1 ≡ pos 1
  first less = taken 1 less ∙ filled.one less

  long : length (take id out) ≡ id
  long = length-take-le id out (let room = filled.room in omega (arith, room, lt))

  pub can_fill : (f : Formula) → f ≡ node g id → CanValue world (take id out) f
  can_fill f e = subst (CanValue world (take id out)) (sym e) (can_value g world (take id out) id fold has lt long before first)

  here : (v : ℤ) → number_at (set out id v) id ≡ v
  here v = get_or-set_same out id v (pos 0) (let room = filled.room in omega (arith, room, lt))

  other : (v : ℤ) (k : ℕ) → k ≢ id → number_at (set out id v) k ≡ number_at out k
  other v k differ = get_or-set_other out id k v (pos 0) differ

  in_by : (v : ℤ) → v ≡ value_of world (number_at (take id out)) (node g id) → (k : ℕ) → k < id + 1 → (b : Bool) → nat_eq k id ≡ b → IsIn (range g k) (number_at (set out id v) k)
  in_by v is k less true e =
      let same : k ≡ id = (Decides-eqb k id).0 e in
      subst (λ k. IsIn (range g k) (number_at (set out id v) k)) (sym same) (subst (IsIn (range g id)) (sym (here v ∙ is)) (value_in g world (take id out) id fold has lt long before first (node g id) refl))
  in_by v is k less false e =
      let differ : k ≢ id = λ same. let bad : true ≡ false = sym ((Decides-eqb k id).1 same) ∙ e in cc in
      subst (IsIn (range g k)) (sym (other v k differ)) (filled.inside k (omega (arith, differ, less)))

  one_by : (v : ℤ) → v ≡ value_of world (number_at (take id out)) (node g id) → 1 < id + 1 → (b : Bool) → nat_eq 1 id ≡ b → number_at (set out id v) 1 ≡ pos 1
  one_by v is less true e =
      let same : 1 ≡ id = (Decides-eqb 1 id).0 e in
      ap (number_at (set out id v)) same ∙ here v ∙ is ∙ ap (λ k. value_of world (number_at (take id out)) (node g k)) (sym same) ∙ ap (value_of world (number_at (take id out))) fold.graph.true_at
  one_by v is less false e =
      let differ : 1 ≢ id = λ same. let bad : true ≡ false = sym ((Decides-eqb 1 id).1 same) ∙ e in cc in
      other v 1 differ ∙ filled.one (omega (arith, differ, less))

  pub fill_step : (v : ℤ) → v ≡ value_of world (number_at (take id out)) (node g id) → IsFilled g world (id + 1) (set out id v)
  fill_step v is = record {
    values = take_more_set out id v (let room = filled.room in omega (arith, room, lt)) ∙ (λ i. filled.values i ++ v ∷ []) ∙ ap (λ v. values_of world (take id g.parts) ++ v ∷ []) (is ∙ ap (λ done. value_of world (number_at done) (node g id)) filled.values) ∙ sym (values_more world g.parts id lt);
    inside = λ k less. in_by v is k less (nat_eq k id) refl;
    one = λ less. one_by v is less (nat_eq 1 id) refl;
    room = length-set out id v ∙ filled.room;
  }

pub fill_start : (g : Graph) (world : List ℤ) (out : List ℤ) → length out ≡ size g → IsFilled g world 0 out
unfolding values_of
fill_start g world out room = record { values = refl; inside = λ k less. absurd (omega (arith, less)); one = λ less. absurd (omega (arith, less)); room = room }

take_over : {A : Type 0} (n : ℕ) (xs : List A) → length xs ≤ n → take n xs ≡ xs
take_over zero [] le = refl
take_over (suc n) [] le = refl
take_over zero (x ∷ xs) le = absurd (omega (arith, le))
take_over (suc n) (x ∷ xs) le = ap (λ ys. x ∷ ys) (take_over n xs (omega (arith, le)))

pub fill_end : (g : Graph) (world : List ℤ) (id : ℕ) (out : List ℤ) → size g ≤ id → IsFilled g world id out → out ≡ values_of world g.parts
fill_end g world id out le filled =
    let room = filled.room in
    sym (take_over id out (omega (arith, le, room))) ∙ filled.values ∙ ap (values_of world) (take_over id g.parts le)
