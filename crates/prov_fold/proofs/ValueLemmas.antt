-- Values, and that each lies in its range.
use Rattle.std.proofs.Common.{◌≡◌, ◌∙◌, sym, ap, subst, refl, ℕ, suc, ◌+◌, ◌<◌, ℤ, pos, negsuc, ◌+ℤ◌, ◌*ℤ◌, neg_ℤ, ◌≤ℤ◌, Bool, true, false, cond, List, [], ◌∷◌, ◌++◌, length, drop, take, get_or, map, filter, fold, All, Option, Some, None, arith}
use Rattle.std.specs.Prelude.{int_lt}
use Rattle.std.proofs.lemmas.Int.{ints}
use Rattle.std.proofs.lemmas.List.{drop_more, take_more}
use Rattle.std.proofs.Math.IntN.{*ℤ_comm}
use Rattle.prov_arena.specs.declared.part.Term.{Term}
use Rattle.prov_arena.specs.declared.part.Pair.{Pair}
use Rattle.prov_arena.specs.Formulas.{Formula, FalseNode, LinNode}
use Rattle.prov_arena.specs.Graphs.{at}
use Rattle.prov_fold.specs.declared.span.Span.{Span}
use Rattle.prov_fold.specs.Sums.{total_by}
use Rattle.prov_fold.specs.Spans.{least, lesser, greater, widened, size_span, low_of, high_of, lin_low, lin_high, truth_span}
use Rattle.prov_fold.specs.Graphs.{Graph, range, Fits}
use Rattle.prov_fold.specs.Values.{nearest, number_at, as_number, value_of, values_of}
use Rattle.prov_fold.proofs.SameLemmas.{All_head, All_tail}
use Rattle.prov_fold.proofs.Products.{≤ℤ-*ℤ}

-- the least of a number, where there is one, and a list
abbrev pub least_by : Option ℤ → List ℤ → ℤ
least_by None xs = least xs
least_by (Some a) xs = fold lesser a xs

least_next : (found : Option ℤ) (n : ℤ) (xs : List ℤ) → least_by (Some (nearest found n)) xs ≡ least_by found (n ∷ xs)
least_next None n xs = refl
least_next (Some a) n xs = refl

least_case : (found : Option ℤ) (n : ℤ) (xs : List ℤ) (b : Bool) → least_by (cond b (Some (nearest found n)) found) xs ≡ least_by found (cond b (n ∷ xs) xs)
least_case found n xs true = least_next found n xs
least_case found n xs false = refl

map_cond : (f : Pair → ℤ) (x : Pair) (xs : List Pair) (b : Bool) → map f (cond b (x ∷ xs) xs) ≡ cond b (f x ∷ map f xs) (map f xs)
map_cond f x xs true = refl
map_cond f x xs false = refl

pub least_step : (q : Pair → Bool) (f : Pair → ℤ) (pairs : List Pair) (i : ℕ) (d : Pair) (found next : Option ℤ) (all : ℤ) → i < length pairs → next ≡ cond (q (get_or pairs i d)) (Some (nearest found (f (get_or pairs i d)))) found → least_by found (map f (filter q (drop i pairs))) ≡ all → least_by next (map f (filter q (drop (i + 1) pairs))) ≡ all
least_step q f pairs i d found next all lt next_is so_far =
    let rest : map f (filter q (drop i pairs)) ≡ cond (q (get_or pairs i d)) (f (get_or pairs i d) ∷ map f (filter q (drop (i + 1) pairs))) (map f (filter q (drop (i + 1) pairs))) =
    ap (λ ps. map f (filter q ps)) (drop_more pairs i d lt) ∙ map_cond f (get_or pairs i d) (filter q (drop (i + 1) pairs)) (q (get_or pairs i d)) in
    ap (λ o. least_by o (map f (filter q (drop (i + 1) pairs)))) next_is ∙ least_case found (f (get_or pairs i d)) (map f (filter q (drop (i + 1) pairs))) (q (get_or pairs i d)) ∙ ap (least_by found) (sym rest) ∙ so_far

-- ---- values, place by place

pub fold_push : {A B : Type 0} (f : B → A → B) (b : B) (xs : List A) (y : A) → fold f b (xs ++ y ∷ []) ≡ f (fold f b xs) y
fold_push f b [] y = refl
fold_push f b (x ∷ xs) y = fold_push f (f b x) xs y

pub values_more : (world : List ℤ) (parts : List Formula) (i : ℕ) → i < length parts → values_of world (take (i + 1) parts) ≡ values_of world (take i parts) ++ value_of world (number_at (values_of world (take i parts))) (at parts i) ∷ []
unfolding values_of
values_more world parts i lt =
    ap (fold (λ done f. done ++ value_of world (number_at done) f ∷ []) []) (take_more parts i FalseNode lt) ∙ fold_push (λ done f. done ++ value_of world (number_at done) f ∷ []) [] (take i parts) (at parts i)

-- ---- a value in its range

pub record IsIn (s : Span) (v : ℤ) : Type 0 where
  pub low : s.lo ≤ℤ v
  pub high : v ≤ℤ s.hi

times_negative : (n : ℕ) (x : ℤ) → negsuc n *ℤ x ≡ neg_ℤ (x *ℤ pos (suc n))
times_negative n x = omega (arith, ints)

term_low : (f : ℤ) (s : Span) (v : ℤ) → IsIn s v → low_of f s ≤ℤ (f *ℤ v)
term_low (pos n) s v h =
    let more = ≤ℤ-*ℤ s.lo v n h.low in
    subst (λ (z : ℤ). z ≤ℤ (pos n *ℤ v)) (*ℤ_comm s.lo (pos n)) (subst (λ (z : ℤ). (s.lo *ℤ pos n) ≤ℤ z) (*ℤ_comm v (pos n)) more)
term_low (negsuc n) s v h =
    let more = ≤ℤ-*ℤ v s.hi (suc n) h.high in
    let turned : neg_ℤ (s.hi *ℤ pos (suc n)) ≤ℤ neg_ℤ (v *ℤ pos (suc n)) = omega (arith, ints, more) in
    subst (λ (z : ℤ). z ≤ℤ (negsuc n *ℤ v)) (sym (times_negative n s.hi)) (subst (λ (z : ℤ). neg_ℤ (s.hi *ℤ pos (suc n)) ≤ℤ z) (sym (times_negative n v)) turned)

term_high : (f : ℤ) (s : Span) (v : ℤ) → IsIn s v → (f *ℤ v) ≤ℤ high_of f s
term_high (pos n) s v h =
    let more = ≤ℤ-*ℤ v s.hi n h.high in
    subst (λ (z : ℤ). z ≤ℤ (pos n *ℤ s.hi)) (*ℤ_comm v (pos n)) (subst (λ (z : ℤ). (v *ℤ pos n) ≤ℤ z) (*ℤ_comm s.hi (pos n)) more)
term_high (negsuc n) s v h =
    let more = ≤ℤ-*ℤ s.lo v (suc n) h.low in
    let turned : neg_ℤ (v *ℤ pos (suc n)) ≤ℤ neg_ℤ (s.lo *ℤ pos (suc n)) = omega (arith, ints, more) in
    subst (λ (z : ℤ). z ≤ℤ (negsuc n *ℤ s.lo)) (sym (times_negative n v)) (subst (λ (z : ℤ). neg_ℤ (v *ℤ pos (suc n)) ≤ℤ z) (sym (times_negative n s.lo)) turned)

module _ (g : Graph) (value : ℕ → ℤ) where
  lows_below : (terms : List Term) → All (λ (t : Term). IsIn (range g t.node) (value t.node)) terms → total_by (λ (t : Term). low_of t.factor (range g t.node)) terms ≤ℤ total_by (λ (t : Term). t.factor *ℤ value t.node) terms
  lows_below [] h = omega (arith, ints)
  lows_below (t ∷ terms) h =
      let this = term_low t.factor (range g t.node) (value t.node) (All_head (λ (t : Term). IsIn (range g t.node) (value t.node)) t terms h) in
      let rest = lows_below terms (All_tail (λ (t : Term). IsIn (range g t.node) (value t.node)) t terms h) in
      omega (arith, ints, this, rest)

  highs_above : (terms : List Term) → All (λ (t : Term). IsIn (range g t.node) (value t.node)) terms → total_by (λ (t : Term). t.factor *ℤ value t.node) terms ≤ℤ total_by (λ (t : Term). high_of t.factor (range g t.node)) terms
  highs_above [] h = omega (arith, ints)
  highs_above (t ∷ terms) h =
      let this = term_high t.factor (range g t.node) (value t.node) (All_head (λ (t : Term). IsIn (range g t.node) (value t.node)) t terms h) in
      let rest = highs_above terms (All_tail (λ (t : Term). IsIn (range g t.node) (value t.node)) t terms h) in
      omega (arith, ints, this, rest)

  pub linear_in : (s : Span) (c : ℤ) (terms : List Term) → Fits g s (LinNode c terms) → All (λ (t : Term). IsIn (range g t.node) (value t.node)) terms → IsIn s (c +ℤ total_by (λ (t : Term). t.factor *ℤ value t.node) terms)
  unfolding lin_low lin_high
  linear_in s c terms fits h =
      let lo : s.lo ≡ c +ℤ total_by (λ (t : Term). low_of t.factor (range g t.node)) terms = ap (λ (s : Span). s.lo) fits.ranged in
      let hi : s.hi ≡ c +ℤ total_by (λ (t : Term). high_of t.factor (range g t.node)) terms = ap (λ (s : Span). s.hi) fits.ranged in
      let below = lows_below terms h in
      let above = highs_above terms h in
      record { low = omega (arith, ints, lo, below); high = omega (arith, ints, hi, above) }

pub bit_in : (b : Bool) → IsIn truth_span (as_number b)
bit_in true = record { low = omega (arith, ints); high = omega (arith, ints) }
bit_in false = record { low = omega (arith, ints); high = omega (arith, ints) }

pub not_in : (b : Bool) → IsIn truth_span (cond b (pos 0) (pos 1))
not_in true = record { low = omega (arith, ints); high = omega (arith, ints) }
not_in false = record { low = omega (arith, ints); high = omega (arith, ints) }

widened_below : (lo v : ℤ) → lo ≤ℤ v → lesser lo (pos 0) ≤ℤ v
widened_below lo v h = grind (arith, ints)

widened_above : (hi v : ℤ) → v ≤ℤ hi → v ≤ℤ greater hi (pos 0)
widened_above hi v h = grind (arith, ints)

zero_below : (lo : ℤ) → lesser lo (pos 0) ≤ℤ pos 0
zero_below lo = grind (arith, ints)

zero_above : (hi : ℤ) → pos 0 ≤ℤ greater hi (pos 0)
zero_above hi = grind (arith, ints)

abs_low : (v : ℤ) → pos 0 ≤ℤ cond (int_lt v (pos 0)) (neg_ℤ v) v
abs_low v = grind (arith, ints)

abs_high : (lo hi v : ℤ) → lo ≤ℤ v → v ≤ℤ hi → cond (int_lt v (pos 0)) (neg_ℤ v) v ≤ℤ greater (neg_ℤ lo) hi
abs_high lo hi v h k = grind (arith, ints)

pub widened_in : (s : Span) (v : ℤ) → IsIn s v → IsIn (widened s) v
widened_in s v h = record { low = widened_below s.lo v h.low; high = widened_above s.hi v h.high }

pub widened_zero : (s : Span) → IsIn (widened s) (pos 0)
widened_zero s = record { low = zero_below s.lo; high = zero_above s.hi }

pub guard_in : (s : Span) (v : ℤ) (b : Bool) → IsIn s v → IsIn (widened s) (cond b v (pos 0))
guard_in s v true h = widened_in s v h
guard_in s v false h = widened_zero s

pub abs_in : (s : Span) (v : ℤ) → IsIn s v → IsIn (size_span s) (cond (int_lt v (pos 0)) (neg_ℤ v) v)
abs_in s v h = record { low = abs_low v; high = abs_high s.lo s.hi v h.low h.high }
