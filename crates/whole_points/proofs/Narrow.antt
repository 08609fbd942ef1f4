-- Where a pair is there, the least number lies in the range that is not widened.
use Rattle.std.proofs.Common.{◌≡◌, ℕ, ◌<◌, ℤ, pos, ◌≤ℤ◌, Bool, true, false, ◌||◌, cond, List, [], ◌∷◌, map, filter, fold, length, All, arith}
use Rattle.std.specs.List.{list_any}
use Rattle.std.proofs.lemmas.Int.{ints}
use Rattle.std.proofs.lemmas.List.Elements.{All-filter}
use Rattle.prov_arena.specs.declared.part.Pair.{Pair}
use Rattle.prov_fold.specs.Graphs.{Graph, range}
use Rattle.prov_fold.specs.Spans.{greater, least, greatest, min_span, min_span_by, sure}
use Rattle.prov_fold.specs.Values.{holds}
use Rattle.prov_fold.proofs.FillLemmas.{min_in}
use Rattle.prov_fold.proofs.LeastLemmas.{least_above, least_all, le_le}
use Rattle.prov_fold.proofs.SameLemmas.{All_head, All_cons}
use Rattle.prov_fold.proofs.ValueLemmas.{IsIn}
use Rattle.bool_encode.proofs.Each.{All_change, All_of_map, All_to_map}
use Rattle.cmp_encode.specs.Spans.{narrow_by, narrow_span}

greater_left : (a b : ℤ) → a ≤ℤ greater a b
greater_left a b = grind (arith, ints)

greater_keeps : (a b c : ℤ) → a ≤ℤ b → a ≤ℤ greater b c
greater_keeps a b c h = grind (arith, ints)

greater_right : (a b : ℤ) → b ≤ℤ greater a b
greater_right a b = grind (arith, ints)

up_first : (a : ℤ) (xs : List ℤ) → a ≤ℤ fold greater a xs
up_first a [] = omega (arith, ints)
up_first a (x ∷ xs) = le_le a (greater a x) (fold greater (greater a x) xs) (greater_left a x) (up_first (greater a x) xs)

up_each : (a : ℤ) (xs : List ℤ) → All (λ (x : ℤ). x ≤ℤ fold greater a xs) xs
up_each a [] = λ k d lt. absurd (omega arith)
up_each a (x ∷ xs) =
    All_cons (λ (z : ℤ). z ≤ℤ fold greater (greater a x) xs) x xs (le_le x (greater a x) (fold greater (greater a x) xs) (greater_right a x) (up_first (greater a x) xs)) (up_each (greater a x) xs)

greatest_all : (xs : List ℤ) → All (λ (x : ℤ). x ≤ℤ greatest xs) xs
greatest_all [] = λ k d lt. absurd (omega arith)
greatest_all (x ∷ xs) = All_cons (λ (z : ℤ). z ≤ℤ fold greater x xs) x xs (up_first x xs) (up_each x xs)

some_by : (b : Bool) (p : Pair) (ps : List Pair) (any : Bool) → (b || any) ≡ true → (any ≡ true → 0 < length ps) → 0 < length (cond b (p ∷ ps) ps)
some_by true p ps any e rest = omega arith
some_by false p ps any e rest = rest e

-- where one is so, one is left
any_some : (q : Pair → Bool) (ps : List Pair) → list_any q ps ≡ true → 0 < length (filter q ps)
any_some q [] e = cc
any_some q (p ∷ ps) e = some_by (q p) p (filter q ps) (list_any q ps) e (any_some q ps)

module _ (g : Graph) (v : ℕ → ℤ) (pairs : List Pair) (inside : All (λ (p : Pair). IsIn (range g p.number) (v p.number)) pairs) where
  abbrev Lowest : ℤ
  Lowest = least (map (λ (p : Pair). (range g p.number).lo) pairs)

  abbrev Highest : ℤ
  Highest = greatest (map (λ (p : Pair). (range g p.number).hi) pairs)

  abbrev On : Pair → Bool
  On p = holds v p.truth

  abbrev Counted : List ℤ
  Counted = map (λ (p : Pair). v p.number) (filter On pairs)

  abbrev Within : ℤ → Type 0
  Within x = (Lowest ≤ℤ x) × (x ≤ℤ Highest)

  each : All (λ (p : Pair). Within (v p.number)) pairs
  each = λ k d lt. (
    le_le Lowest _ _ (All_of_map (λ (x : ℤ). Lowest ≤ℤ x) (λ (p : Pair). (range g p.number).lo) pairs (least_all (map (λ (p : Pair). (range g p.number).lo) pairs)) k d lt) (inside k d lt).low,
    le_le _ _ Highest (inside k d lt).high (All_of_map (λ (x : ℤ). x ≤ℤ Highest) (λ (p : Pair). (range g p.number).hi) pairs (greatest_all (map (λ (p : Pair). (range g p.number).hi) pairs)) k d lt),
  )

  open_by : (xs : List ℤ) → 0 < length xs → All Within xs → IsIn (record { lo = Lowest; hi = Highest }) (least xs)
  open_by [] some h = absurd (omega (arith, some))
  open_by (x ∷ xs) some h = record {
    low = least_above Lowest (x ∷ xs) (omega arith) (All_change Within (λ (y : ℤ). Lowest ≤ℤ y) (x ∷ xs) (λ y w. w.0) h);
    high = le_le (least (x ∷ xs)) x Highest (All_head (λ (y : ℤ). least (x ∷ xs) ≤ℤ y) x xs (least_all (x ∷ xs))) (All_head Within x xs h).1;
  }

  counted_some : (ps : List Pair) → 0 < length ps → 0 < length (map (λ (p : Pair). v p.number) ps)
  counted_some [] some = absurd (omega (arith, some))
  counted_some (p ∷ ps) some = omega arith

  open_in : list_any On pairs ≡ true → IsIn (record { lo = Lowest; hi = Highest }) (least Counted)
  open_in any = open_by Counted (counted_some (filter On pairs) (any_some On pairs any)) (All_to_map Within (λ (p : Pair). v p.number) (filter On pairs) (All-filter On (λ (p : Pair). Within (v p.number)) pairs each))

  by_sure : (some : List Pair) → list_any On pairs ≡ true → IsIn (min_span_by (range g) pairs some) (least Counted) → IsIn (narrow_by (range g) pairs some) (least Counted)
  by_sure [] any h = open_in any
  by_sure (p ∷ more) any h = h

  pub narrow_in : v 1 ≡ pos 1 → list_any On pairs ≡ true → IsIn (narrow_span (range g) pairs) (least Counted)
  unfolding min_span narrow_span
  narrow_in one any = by_sure (sure pairs) any (min_in g v pairs inside one)
