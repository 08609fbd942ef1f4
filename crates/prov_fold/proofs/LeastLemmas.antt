-- The least and the greatest of a list, step by step.
use Rattle.std.proofs.Common.{◌≡◌, ◌≢◌, ◌∙◌, sym, ap, refl, ℕ, zero, suc, ◌<◌, ◌≤◌, ℤ, pos, ◌≤ℤ◌, ◌<ℤ◌, unsigned_abs, true, false, List, [], ◌∷◌, length, get_or, map, fold, ◌==◌, All, arith}
use Rattle.std.proofs.lemmas.Int.{ints}
use Rattle.std.proofs.lemmas.Bool.Decides.{Decides-eqb}
use Rattle.std.proofs.lemmas.List.{length-map}
use Rattle.std.proofs.lemmas.List.Elements.{All-filter}
use Rattle.prov_arena.specs.declared.part.Pair.{Pair}
use Rattle.prov_arena.specs.Formulas.{MinNode, kids_of}
use Rattle.prov_fold.specs.declared.span.Span.{Span}
use Rattle.prov_fold.specs.Graphs.{Graph, range, size, Fits, HasPair}
use Rattle.prov_fold.specs.Folds.{IsFold}
use Rattle.prov_fold.proofs.AtomLemmas.{widened_low, widened_high}
use Rattle.prov_fold.specs.Spans.{lesser, greater, least, greatest, sure, widened, min_span, min_span_by, IsLeastSpan}
use Rattle.prov_fold.proofs.SameLemmas.{All_head, All_tail, All_cons}

pub le_le : (a b c : ℤ) → a ≤ℤ b → b ≤ℤ c → a ≤ℤ c
le_le a b c h k = omega (arith, ints, h, k)

widened_order : (lo hi : ℤ) → lo ≤ℤ hi → lesser lo (pos 0) ≤ℤ greater hi (pos 0)
widened_order lo hi h = grind (arith, ints)

lesser_left : (a b : ℤ) → lesser a b ≤ℤ a
lesser_left a b = grind (arith, ints)

lesser_right : (a b c : ℤ) → b ≤ℤ c → lesser a b ≤ℤ c
lesser_right a b c h = grind (arith, ints)

above_both : (a x y : ℤ) → a ≤ℤ x → a ≤ℤ y → a ≤ℤ lesser x y
above_both a x y h k = grind (arith, ints)

above_one : (a x y : ℤ) → a ≤ℤ x → a ≤ℤ greater x y
above_one a x y h = grind (arith, ints)

lesser_small : (x y : ℤ) → unsigned_abs x ≤ 100000000000000000 → unsigned_abs y ≤ 100000000000000000 → unsigned_abs (lesser x y) ≤ 100000000000000000
lesser_small x y h k = grind (arith, ints)

greater_small : (x y : ℤ) → unsigned_abs x ≤ 100000000000000000 → unsigned_abs y ≤ 100000000000000000 → unsigned_abs (greater x y) ≤ 100000000000000000
greater_small x y h k = grind (arith, ints)

-- the least is not above any, and is not below what is below all
pub fold_first : (a : ℤ) (xs : List ℤ) → fold lesser a xs ≤ℤ a
fold_first a [] = omega (arith, ints)
fold_first a (x ∷ xs) = le_le (fold lesser (lesser a x) xs) (lesser a x) a (fold_first (lesser a x) xs) (lesser_left a x)

pub fold_each : (a : ℤ) (xs : List ℤ) → All (λ (x : ℤ). fold lesser a xs ≤ℤ x) xs
fold_each a [] = λ k d lt. absurd (omega arith)
fold_each a (x ∷ xs) =
    All_cons (λ (z : ℤ). fold lesser (lesser a x) xs ≤ℤ z) x xs (le_le (fold lesser (lesser a x) xs) (lesser a x) x (fold_first (lesser a x) xs) (lesser_right a x x (omega (arith, ints)))) (fold_each (lesser a x) xs)

pub least_all : (xs : List ℤ) → All (λ (x : ℤ). least xs ≤ℤ x) xs
least_all [] = λ k d lt. absurd (omega arith)
least_all (x ∷ xs) = All_cons (λ (z : ℤ). fold lesser x xs ≤ℤ z) x xs (fold_first x xs) (fold_each x xs)

fold_above : (a x : ℤ) (xs : List ℤ) → a ≤ℤ x → All (λ (y : ℤ). a ≤ℤ y) xs → a ≤ℤ fold lesser x xs
fold_above a x [] h r = h
fold_above a x (y ∷ ys) h r = fold_above a (lesser x y) ys (above_both a x y h (All_head (λ (y : ℤ). a ≤ℤ y) y ys r)) (All_tail (λ (y : ℤ). a ≤ℤ y) y ys r)

pub least_above : (a : ℤ) (xs : List ℤ) → 0 < length xs → All (λ (y : ℤ). a ≤ℤ y) xs → a ≤ℤ least xs
least_above a [] some h = absurd (omega arith)
least_above a (x ∷ xs) some h = fold_above a x xs (All_head (λ (y : ℤ). a ≤ℤ y) x xs h) (All_tail (λ (y : ℤ). a ≤ℤ y) x xs h)

fold_greater : (a x : ℤ) (xs : List ℤ) → a ≤ℤ x → a ≤ℤ fold greater x xs
fold_greater a x [] h = h
fold_greater a x (y ∷ ys) h = fold_greater a (greater x y) ys (above_one a x y h)

pub greatest_above : (a : ℤ) (xs : List ℤ) → 0 < length xs → All (λ (y : ℤ). a ≤ℤ y) xs → a ≤ℤ greatest xs
greatest_above a [] some h = absurd (omega arith)
greatest_above a (x ∷ xs) some h = fold_greater a x xs (All_head (λ (y : ℤ). a ≤ℤ y) x xs h)

abbrev pub IsSmall : ℤ → Type 0
IsSmall x = unsigned_abs x ≤ 100000000000000000

fold_small : (x : ℤ) (xs : List ℤ) → IsSmall x → All IsSmall xs → IsSmall (fold lesser x xs)
fold_small x [] h r = h
fold_small x (y ∷ ys) h r = fold_small (lesser x y) ys (lesser_small x y h (All_head IsSmall y ys r)) (All_tail IsSmall y ys r)

pub least_small : (xs : List ℤ) → All IsSmall xs → IsSmall (least xs)
least_small [] h = omega arith
least_small (x ∷ xs) h = fold_small x xs (All_head IsSmall x xs h) (All_tail IsSmall x xs h)

fold_small_up : (x : ℤ) (xs : List ℤ) → IsSmall x → All IsSmall xs → IsSmall (fold greater x xs)
fold_small_up x [] h r = h
fold_small_up x (y ∷ ys) h r = fold_small_up (greater x y) ys (greater_small x y h (All_head IsSmall y ys r)) (All_tail IsSmall y ys r)

pub greatest_small : (xs : List ℤ) → All IsSmall xs → IsSmall (greatest xs)
greatest_small [] h = omega arith
greatest_small (x ∷ xs) h = fold_small_up x xs (All_head IsSmall x xs h) (All_tail IsSmall x xs h)

-- ---- the range of the least number of pairs

module _ (g : Graph) (fold_is : IsFold g) where
  all_map : (P : ℤ → Type 0) (f : Pair → ℤ) (pairs : List Pair) → All (λ (p : Pair). P (f p)) pairs → All P (map f pairs)
  all_map P f [] h = λ k d lt. absurd (omega arith)
  all_map P f (p ∷ pairs) h = All_cons P (f p) (map f pairs) (All_head (λ (p : Pair). P (f p)) p pairs h) (all_map P f pairs (All_tail (λ (p : Pair). P (f p)) p pairs h))

  map_all : (P : ℤ → Type 0) (f : Pair → ℤ) (pairs : List Pair) → All P (map f pairs) → All (λ (p : Pair). P (f p)) pairs
  map_all P f [] h = λ k d lt. absurd (omega arith)
  map_all P f (p ∷ pairs) h = All_cons (λ (p : Pair). P (f p)) p pairs (All_head P (f p) (map f pairs) h) (map_all P f pairs (All_tail P (f p) (map f pairs) h))

  low_at_most : (pairs : List Pair) → All (λ (p : Pair). HasPair g p) pairs → All (λ (p : Pair). least (map (λ (p : Pair). (range g p.number).lo) pairs) ≤ℤ (range g p.number).hi) pairs
  low_at_most pairs has = λ k d lt.
      le_le (least (map (λ (p : Pair). (range g p.number).lo) pairs)) (range g (get_or pairs k d).number).lo (range g (get_or pairs k d).number).hi
      (map_all (λ (x : ℤ). least (map (λ (p : Pair). (range g p.number).lo) pairs) ≤ℤ x) (λ (p : Pair). (range g p.number).lo) pairs (least_all (map (λ (p : Pair). (range g p.number).lo) pairs)) k d lt)
      (fold_is.fits (get_or pairs k d).number (has k d lt).number.below).order

  small_lows : (pairs : List Pair) → All (λ (p : Pair). HasPair g p) pairs → IsSmall (least (map (λ (p : Pair). (range g p.number).lo) pairs))
  small_lows pairs has = least_small (map (λ (p : Pair). (range g p.number).lo) pairs) (all_map IsSmall (λ (p : Pair). (range g p.number).lo) pairs (λ k d lt. (fold_is.fits (get_or pairs k d).number (has k d lt).number.below).small_lo))

  small_highs : (pairs : List Pair) → All (λ (p : Pair). HasPair g p) pairs → All IsSmall (map (λ (p : Pair). (range g p.number).hi) pairs)
  small_highs pairs has = all_map IsSmall (λ (p : Pair). (range g p.number).hi) pairs (λ k d lt. (fold_is.fits (get_or pairs k d).number (has k d lt).number.below).small_hi)

  pub sure_has : (pairs : List Pair) → All (λ (p : Pair). HasPair g p) pairs → All (λ (p : Pair). HasPair g p) (sure pairs)
  sure_has pairs has = All-filter (λ (p : Pair). p.truth == 1) (λ (p : Pair). HasPair g p) pairs has

  -- where a pair is sure
  pub sure_span : (pairs : List Pair) → All (λ (p : Pair). HasPair g p) pairs → 0 < length (sure pairs) → IsLeastSpan (record { lo = least (map (λ (p : Pair). (range g p.number).lo) pairs); hi = least (map (λ (p : Pair). (range g p.number).hi) (sure pairs)) })
  sure_span pairs has some =
      let within = All-filter (λ (p : Pair). p.truth == 1) (λ (p : Pair). least (map (λ (p : Pair). (range g p.number).lo) pairs) ≤ℤ (range g p.number).hi) pairs (low_at_most pairs has) in
      record {
        order = least_above (least (map (λ (p : Pair). (range g p.number).lo) pairs)) (map (λ (p : Pair). (range g p.number).hi) (sure pairs)) (omega (arith, length-map (sure pairs) (λ (p : Pair). (range g p.number).hi)))
            (all_map (λ (y : ℤ). least (map (λ (p : Pair). (range g p.number).lo) pairs) ≤ℤ y) (λ (p : Pair). (range g p.number).hi) (sure pairs) within);
        small_lo = small_lows pairs has;
        small_hi = least_small (map (λ (p : Pair). (range g p.number).hi) (sure pairs)) (small_highs (sure pairs) (sure_has pairs has));
      }

  -- where none is
  pub open_span : (pairs : List Pair) → All (λ (p : Pair). HasPair g p) pairs → 0 < length pairs → IsLeastSpan (widened (record { lo = least (map (λ (p : Pair). (range g p.number).lo) pairs); hi = greatest (map (λ (p : Pair). (range g p.number).hi) pairs) }))
  open_span pairs has some =
      let order = greatest_above (least (map (λ (p : Pair). (range g p.number).lo) pairs)) (map (λ (p : Pair). (range g p.number).hi) pairs) (omega (arith, length-map pairs (λ (p : Pair). (range g p.number).hi)))
      (all_map (λ (y : ℤ). least (map (λ (p : Pair). (range g p.number).lo) pairs) ≤ℤ y) (λ (p : Pair). (range g p.number).hi) pairs (low_at_most pairs has)) in
      record {
        order = widened_order (least (map (λ (p : Pair). (range g p.number).lo) pairs)) (greatest (map (λ (p : Pair). (range g p.number).hi) pairs)) order;
        small_lo = widened_low (least (map (λ (p : Pair). (range g p.number).lo) pairs)) (small_lows pairs has);
        small_hi = widened_high (greatest (map (λ (p : Pair). (range g p.number).hi) pairs)) (greatest_small (map (λ (p : Pair). (range g p.number).hi) pairs) (small_highs pairs has));
      }

by_some : (r : ℕ → Span) (pairs some : List Pair) → 0 < length some → record { lo = least (map (λ (p : Pair). (r p.number).lo) pairs); hi = least (map (λ (p : Pair). (r p.number).hi) some) } ≡ min_span_by r pairs some
by_some r pairs [] lt = absurd (omega arith)
by_some r pairs (p ∷ more) lt = refl

by_none : (r : ℕ → Span) (pairs some : List Pair) → length some ≡ 0 → widened (record { lo = least (map (λ (p : Pair). (r p.number).lo) pairs); hi = greatest (map (λ (p : Pair). (r p.number).hi) pairs) }) ≡ min_span_by r pairs some
by_none r pairs [] e = refl
by_none r pairs (p ∷ more) e = absurd (omega arith)

pub span_open : (r : ℕ → Span) (pairs some : List Pair) → some ≡ sure pairs → length some ≡ 0 → widened (record { lo = least (map (λ (p : Pair). (r p.number).lo) pairs); hi = greatest (map (λ (p : Pair). (r p.number).hi) pairs) }) ≡ min_span r pairs
unfolding min_span
span_open r pairs some is e = by_none r pairs some e ∙ ap (min_span_by r pairs) is

pub span_sure : (r : ℕ → Span) (pairs some : List Pair) → some ≡ sure pairs → 0 < length some → record { lo = least (map (λ (p : Pair). (r p.number).lo) pairs); hi = least (map (λ (p : Pair). (r p.number).hi) some) } ≡ min_span r pairs
unfolding min_span
span_sure r pairs some is lt = by_some r pairs some lt ∙ ap (min_span_by r pairs) is

-- ---- a least number of pairs

kids_by : (g : Graph) (pairs : List Pair) → All (λ (p : Pair). HasPair g p) pairs → All (λ kid. kid < size g) (kids_of (MinNode pairs))
kids_by g [] h = λ k d lt. absurd (omega arith)
kids_by g (p ∷ pairs) h =
    let this = All_head (λ (p : Pair). HasPair g p) p pairs h in
    All_cons (λ kid. kid < size g) p.truth (p.number ∷ kids_of (MinNode pairs)) this.truth.below (All_cons (λ kid. kid < size g) p.number (kids_of (MinNode pairs)) this.number.below (kids_by g pairs (All_tail (λ (p : Pair). HasPair g p) p pairs h)))

less_by : (lo hi : ℤ) → lo ≤ℤ hi → lo ≢ hi → lo <ℤ hi
less_by lo hi le other = omega (arith, ints, le, other)

pub min_fits : (g : Graph) (s : Span) (pairs : List Pair) → All (λ (p : Pair). HasPair g p) pairs → s ≡ min_span (range g) pairs → IsLeastSpan s → s.lo ≢ s.hi → Fits g s (MinNode pairs)
min_fits g s pairs has is least other = record {
  kids = kids_by g pairs has;
  typed = λ k d lt. ((has k d lt).truth.kind, (has k d lt).number.kind);
  ranged = is;
  order = least.order;
  wide = λ _. less_by s.lo s.hi least.order other;
  small_lo = least.small_lo;
  small_hi = least.small_hi;
}

-- a count that is not 0
pub not_none : (n m : ℕ) → n ≡ m → (m == 0) ≡ false → 0 < n
not_none zero m is e = let no : true ≡ false = sym ((Decides-eqb m 0).1 (sym is)) ∙ e in cc
not_none (suc n) m is e = omega arith
