-- the fold rules append no presence and no cell, but for those two that make them
use Rattle.std.proofs.Common.{◌≡◌, refl, sym, subst, ◌==◌, ℕ, ◌+◌, ◌<◌, ◌≤◌, nat_lt, ℤ, pos, neg_ℤ, Bool, true, false, cond, List, [], ◌∷◌, length, map, Option, Some, None, Result, Ok, Err, arith}
use Rattle.std.specs.Prelude.{int_lt, int_le, flat_map}
use Rattle.std.specs.Ordering.{int_eq}
use Rattle.std.specs.List.{list_any}
use Rattle.std.proofs.lemmas.Bool.{ltb-true}
use Rattle.std.proofs.lemmas.Bool.Decides.{nat_tests}
use Rattle.std.proofs.lemmas.List.{get_or_append_left, get_or_push, length_push}
use Rattle.ip_rows.specs.declared.Bounds.{Bounds}
use Rattle.prov_arena.specs.declared.part.Term.{Term}
use Rattle.prov_arena.specs.declared.part.Pair.{Pair}
use Rattle.prov_arena.specs.Formulas.{Formula, FalseNode, TrueNode, PresNode, CellNode, PosNode, NotNode, AndNode, OrNode, LinNode, GuardNode, AbsNode, TotNode, MinNode}
use Rattle.prov_arena.specs.Graphs.{place_of}
use Rattle.prov_fold.specs.declared.fault.FoldFault.{FoldFault}
use Rattle.prov_fold.specs.declared.fault.FoldFault.TheVariants as fault
use Rattle.prov_fold.specs.declared.span.Span.{Span}
use Rattle.prov_fold.specs.declared.span.Scaled.{Scaled}
use Rattle.prov_fold.specs.Spans.{span_of, truth_span, min_span, passes, lin_low, lin_high}
use Rattle.prov_fold.specs.Graphs.{Graph, node, range, size}
use Rattle.prov_fold.specs.Rules.{Made, Rule, given, refused, then_by, then_, added, interned_at, interned, node_of, number_of, constant, pres, cell, pos_of, not_by, not_of, judged, sum, constant_of, joined, spread, guard_constant, guard_number, guard_by, guard, abs, tot_by, tot, left, list_by, list_of, and_kids, or_kids, and_of, or_of, least_of, min_by, min_of, pairs_left}
use Rattle.whole_points.specs.Matched.{IsChoice, bounds_of}
use Rattle.used_columns.specs.Columns.{side_at}

-- what names a column names one of these, whose sides are the range
abbrev pub IsRight : List Bounds → Span → Formula → Type 0
IsRight sides s f = (number : ℕ) → IsChoice number f → (number < length sides) × (side_at sides number ≡ bounds_of s)

-- so does each formula of the list
pub record IsOver (sides : List Bounds) (g : Graph) : Type 0 where
  pub count : length g.ranges ≡ size g
  pub right : (z : ℕ) → z < size g → IsRight sides (range g z) (node g z)

not_below : (m n : ℕ) → nat_lt m n ≡ false → n ≤ m
not_below m n e = grind (arith, nat_tests)

-- what holds below a number and at it holds up to it
up_to : (P : ℕ → Type 0) (n z : ℕ) → z < n + 1 → ((k : ℕ) → k < n → P k) → P n → P z
up_to P n z lt below last = by_test (nat_lt z n) refl
  where
    by_test : (b : Bool) → nat_lt z n ≡ b → P z
    by_test true e = below z (ltb-true z n e)
    by_test false e = let le = not_below z n e in subst P (let same : n ≡ z = omega (arith, lt, le) in same) last

module _ (sides : List Bounds) where
  right_same : (s t : Span) (f h : Formula) → t ≡ s → h ≡ f → IsRight sides s f → IsRight sides t h
  right_same s t f h same is right =
      subst (λ (t : Span). IsRight sides t h) (sym same) (subst (λ (h : Formula). IsRight sides s h) (sym is) right)

  -- ---- one formula

  added_over : (s : Span) (f : Formula) (g : Graph) → IsOver sides g → IsRight sides s f → IsOver sides (added s f g)
  added_over s f g over right =
      let count = over.count in
      let parts = length_push g.parts f in
      let ranges = length_push g.ranges s in
      record {
        count = omega (arith, count, parts, ranges);
        right = λ z lt. up_to (λ (z : ℕ). IsRight sides (range (added s f g) z) (node (added s f g) z)) (size g) z (omega (arith, lt, parts))
            (λ k le. right_same (range g k) (range (added s f g) k) (node g k) (node (added s f g) k) (get_or_append_left g.ranges (s ∷ []) (record { lo = pos 0; hi = pos 0 }) k (omega (arith, le, count))) (get_or_append_left g.parts (f ∷ []) FalseNode k le) (over.right k le))
            (right_same s (range (added s f g) (size g)) f (node (added s f g) (size g)) (get_or_push g.ranges s (record { lo = pos 0; hi = pos 0 }) (size g) count) (get_or_push g.parts f FalseNode (size g) refl) right);
      }

  -- what a call comes to keeps it
  pub if_over : (b : Bool) (x y : Made) → IsOver sides x.list → IsOver sides y.list → IsOver sides (cond b x y).list
  if_over true x y h k = h
  if_over false x y h k = k

  by_over : (r : Result ℕ FoldFault) (g : Graph) (next : ℕ → Rule) → IsOver sides g → ((id : ℕ) (g : Graph) → IsOver sides g → IsOver sides (next id g).list) → IsOver sides (then_by r g next).list
  by_over (Ok id) g next over h = h id g over
  by_over (Err e) g next over h = over

  then_over : (made : Made) (next : ℕ → Rule) → IsOver sides made.list → ((id : ℕ) (g : Graph) → IsOver sides g → IsOver sides (next id g).list) → IsOver sides (then_ made next).list
  then_over made next over h = by_over made.gives made.list next over h

  interned_over : (s : Span) (f : Formula) (g : Graph) → IsOver sides g → IsRight sides s f → IsOver sides (interned s f g).list
  unfolding interned
  interned_over s f g over right = by_place (place_of g.parts f)
    where
      by_place : (o : Option ℕ) → IsOver sides (interned_at s f o g).list
      by_place (Some id) = over
      by_place None = if_over (nat_lt (size g) 20000000) (given (size g) (added s f g)) (refused fault.Full g) (added_over s f g over right) over

  linear_over : (c : ℤ) (terms : List Term) (g : Graph) → IsOver sides g → IsOver sides (node_of (LinNode c terms) g).list
  linear_over c terms g over = interned_over (span_of truth_span (range g) (LinNode c terms)) (LinNode c terms) g over (λ n is. absurd is)

  number_over : (s : Span) (f : Formula) (g : Graph) → IsOver sides g → IsRight sides s f → IsOver sides (number_of s f g).list
  number_over s f g over right =
      then_over (interned s f g) (λ atom. node_of (LinNode (pos 0) (record { factor = pos 1; node = atom } ∷ []))) (interned_over s f g over right)
      (λ atom h more. linear_over (pos 0) (record { factor = pos 1; node = atom } ∷ []) h more)

  -- ---- the rules

  pub constant_over : (c : ℤ) (g : Graph) → IsOver sides g → IsOver sides (constant c g).list
  unfolding constant
  constant_over c g over = if_over (passes c) (refused (fault.Wide c) g) (node_of (LinNode c []) g) over (linear_over c [] g over)

  pub pres_over : (column : ℕ) (g : Graph) → IsRight sides truth_span (PresNode column) → IsOver sides g → IsOver sides (pres column g).list
  unfolding pres
  pres_over column g right over = interned_over truth_span (PresNode column) g over right

  pub cell_over : (column : ℕ) (s : Span) (g : Graph) → IsRight sides s (CellNode column) → IsOver sides g → IsOver sides (cell column s g).list
  unfolding cell
  cell_over column s g right over = if_over (int_eq s.lo s.hi) (constant s.lo g) (number_of s (CellNode column) g) (constant_over s.lo g over) (number_over s (CellNode column) g over right)

  position_over : (number : ℕ) (g : Graph) → IsOver sides g → IsOver sides (node_of (PosNode number) g).list
  position_over number g over = interned_over truth_span (PosNode number) g over (λ n is. absurd is)

  pub pos_over : (number : ℕ) (g : Graph) → IsOver sides g → IsOver sides (pos_of number g).list
  unfolding pos_of
  pos_over number g over =
      if_over (int_le (pos 0) (range g number).lo) (given 1 g) (cond (int_lt (range g number).hi (pos 0)) (given 0 g) (node_of (PosNode number) g)) over
      (if_over (int_lt (range g number).hi (pos 0)) (given 0 g) (node_of (PosNode number) g) over (position_over number g over))

  not_by_over : (truth : ℕ) (f : Formula) (g : Graph) → IsOver sides g → IsOver sides (not_by truth f g).list
  not_by_over truth FalseNode g over = over
  not_by_over truth TrueNode g over = over
  not_by_over truth (NotNode kid) g over = over
  not_by_over truth _ g over = interned_over truth_span (NotNode truth) g over (λ n is. absurd is)

  pub not_over : (truth : ℕ) (g : Graph) → IsOver sides g → IsOver sides (not_of truth g).list
  unfolding not_of
  not_over truth g over = not_by_over truth (node g truth) g over

  -- ---- sums

  judged_over : (c : ℤ) (terms : List Term) (g : Graph) → IsOver sides g → IsOver sides (judged c terms g).list
  unfolding judged
  judged_over c terms g over =
      if_over (passes c) _ _ over (if_over (passes (lin_low (range g) c terms)) _ _ over (if_over (passes (lin_high (range g) c terms)) _ _ over (linear_over c terms g over)))

  pub sum_over : (c : ℤ) (parts : List Scaled) (g : Graph) → IsOver sides g → IsOver sides (sum c parts g).list
  unfolding sum
  sum_over c parts g over = judged_over (constant_of g c parts) (joined (size g) (spread g parts)) g over

  -- ---- atoms

  guard_constant_over : (truth : ℕ) (f : Formula) (c : ℤ) (g : Graph) → IsOver sides g → IsOver sides (guard_constant truth f c g).list
  guard_constant_over truth (NotNode kid) c g over = sum_over c (record { factor = neg_ℤ c; number = kid } ∷ []) g over
  guard_constant_over truth _ c g over = sum_over (pos 0) (record { factor = c; number = truth } ∷ []) g over

  guard_number_over : (truth number : ℕ) (f : Formula) (g : Graph) → IsOver sides g → IsOver sides (guard_number truth number f g).list
  guard_number_over truth number (LinNode c []) g over = guard_constant_over truth (node g truth) c g over
  guard_number_over truth number _ g over = number_over (span_of truth_span (range g) (GuardNode truth number)) (GuardNode truth number) g over (λ n is. absurd is)

  guard_by_over : (truth number : ℕ) (f : Formula) (g : Graph) → IsOver sides g → IsOver sides (guard_by truth number f g).list
  guard_by_over truth number FalseNode g over = constant_over (pos 0) g over
  guard_by_over truth number TrueNode g over = over
  guard_by_over truth number _ g over = guard_number_over truth number (node g number) g over

  pub guard_over : (truth number : ℕ) (g : Graph) → IsOver sides g → IsOver sides (guard truth number g).list
  unfolding guard
  guard_over truth number g over = guard_by_over truth number (node g truth) g over

  pub abs_over : (number : ℕ) (g : Graph) → IsOver sides g → IsOver sides (abs number g).list
  unfolding abs
  abs_over number g over =
      if_over (int_le (pos 0) (range g number).lo) _ _ over
      (if_over (int_le (range g number).hi (pos 0)) _ _ (sum_over (pos 0) (record { factor = neg_ℤ (pos 1); number = number } ∷ []) g over)
      (then_over (node_of (PosNode number) g) (λ _ g. number_of (span_of truth_span (range g) (AbsNode number)) (AbsNode number) g) (position_over number g over)
      (λ id h more. number_over (span_of truth_span (range h) (AbsNode number)) (AbsNode number) h more (λ n is. absurd is))))

  tot_by_over : (number : ℕ) (f : Formula) (g : Graph) → IsOver sides g → IsOver sides (tot_by number f g).list
  tot_by_over number (LinNode c []) g over = over
  tot_by_over number (LinNode c (t ∷ [])) g over = over
  tot_by_over number _ g over = number_over (range g number) (TotNode number) g over (λ n is. absurd is)

  pub tot_over : (number : ℕ) (g : Graph) → IsOver sides g → IsOver sides (tot number g).list
  unfolding tot
  tot_over number g over = tot_by_over number (node g number) g over

  -- ---- lists of truths

  list_by_over : (unit : ℕ) (word : List ℕ → Formula) (kids : List ℕ) (g : Graph) → ((s : Span) (ks : List ℕ) → IsRight sides s (word ks)) → IsOver sides g → IsOver sides (list_by unit word kids g).list
  list_by_over unit word [] g right over = over
  list_by_over unit word (kid ∷ []) g right over = over
  list_by_over unit word (kid ∷ more ∷ rest) g right over = interned_over (span_of truth_span (range g) (word (kid ∷ more ∷ rest))) (word (kid ∷ more ∷ rest)) g over (right (span_of truth_span (range g) (word (kid ∷ more ∷ rest))) (kid ∷ more ∷ rest))

  list_over : (unit decides : ℕ) (word : List ℕ → Formula) (kids : List ℕ) (g : Graph) → ((s : Span) (ks : List ℕ) → IsRight sides s (word ks)) → IsOver sides g → IsOver sides (list_of unit decides word kids g).list
  list_over unit decides word kids g right over = by_test (list_any (λ kid. kid == decides) kids)
    where
      by_test : (b : Bool) → IsOver sides (cond b (given decides) (list_by unit word (left unit kids)) g).list
      by_test true = over
      by_test false = list_by_over unit word (left unit kids) g right over

  pub and_over : (kids : List ℕ) (g : Graph) → IsOver sides g → IsOver sides (and_of kids g).list
  unfolding and_of
  and_over kids g over = list_over 1 0 (λ ks. AndNode ks) (flat_map (λ kid. and_kids kid (node g kid)) kids) g (λ s ks n is. absurd is) over

  pub or_over : (kids : List ℕ) (g : Graph) → IsOver sides g → IsOver sides (or_of kids g).list
  unfolding or_of
  or_over kids g over = list_over 0 1 (λ ks. OrNode ks) (flat_map (λ kid. or_kids kid (node g kid)) kids) g (λ s ks n is. absurd is) over

  -- ---- the least

  least_over : (pairs : List Pair) (g : Graph) → IsOver sides g → IsOver sides (least_of pairs g).list
  least_over pairs g over =
      if_over (int_eq (min_span (range g) pairs).lo (min_span (range g) pairs).hi) _ _ (constant_over (min_span (range g) pairs).lo g over) (number_over (min_span (range g) pairs) (MinNode pairs) g over (λ n is. absurd is))

  min_by_over : (pairs : List Pair) (g : Graph) → IsOver sides g → IsOver sides (min_by pairs g).list
  min_by_over [] g over = constant_over (pos 0) g over
  min_by_over (p ∷ []) g over = guard_over p.truth p.number g over
  min_by_over (p ∷ q ∷ more) g over =
      then_over (or_of (map (λ (r : Pair). r.truth) (p ∷ q ∷ more)) g) (λ _. least_of (p ∷ q ∷ more)) (or_over (map (λ (r : Pair). r.truth) (p ∷ q ∷ more)) g over) (λ id h kept. least_over (p ∷ q ∷ more) h kept)

  pub min_over : (pairs : List Pair) (g : Graph) → IsOver sides g → IsOver sides (min_of pairs g).list
  unfolding min_of
  min_over pairs g over = min_by_over (pairs_left pairs) g over
