-- Sums of terms: what joining, sorting and scaling keep, and the ends of their ranges.
use Rattle.std.proofs.Common.{◌≡◌, ◌≢◌, ◌∙◌, sym, ap, refl, ℕ, suc, ◌+◌, ◌*◌, ◌≤◌, ℤ, pos, negsuc, ◌+ℤ◌, ◌-ℤ◌, ◌*ℤ◌, neg_ℤ, ◌≤ℤ◌, unsigned_abs, Bool, true, false, cond, ◌==◌, List, [], ◌∷◌, All, arith}
use Rattle.std.specs.Int.{int_min, int_max}
use Rattle.std.proofs.lemmas.Int.{ints, clamps}
use Rattle.std.proofs.lemmas.Bool.Decides.{Decides-eqb}
use Rattle.std.proofs.Math.IntN.{*ℤ_comm}
use Rattle.prov_arena.specs.declared.part.Term.{Term}
use Rattle.prov_arena.specs.Formulas.{LinNode}
use Rattle.prov_fold.specs.declared.sums.Scrap.{Scrap}
use Rattle.prov_fold.specs.declared.span.Span.{Span}
use Rattle.prov_fold.specs.Sums.{total_by, added_by}
use Rattle.prov_fold.specs.Spans.{low_of, high_of, lin_low, lin_high}
use Rattle.prov_fold.specs.Graphs.{Graph, range, Fits}
use Rattle.prov_fold.specs.Folds.{IsFold}
use Rattle.prov_fold.specs.Scraps.{together, joins, joins_from, width_of, weight_of, fall_of, rise_of, at_low}
use Rattle.prov_fold.proofs.SameLemmas.{All_head, All_tail, All_cons}
use Rattle.prov_fold.proofs.NumberLemmas.{IsWideTerm, wide_terms}
use Rattle.prov_fold.proofs.Rings.{sub_times}

-- ---- one term: its ends, and how far they are apart

four : (a b c d : ℤ) → (a +ℤ b) +ℤ (c +ℤ d) ≡ (a +ℤ c) +ℤ (b +ℤ d)
four a b c d = omega (arith, ints)

three : (a : ℤ) (n : ℕ) (b : ℤ) (m : ℕ) → (a +ℤ pos n) +ℤ (b +ℤ pos m) ≡ (a +ℤ b) +ℤ pos (n + m)
three a n b m = omega (arith, ints)

swapped : (w k : ℕ) → pos w *ℤ pos k ≡ pos (k * w)
swapped w k = *ℤ_comm (pos w) (pos k)

plus_zero : (a : ℤ) → a +ℤ pos 0 ≡ a
plus_zero a = omega (arith, ints)

min_zero : (n : ℕ) → int_min (pos n) (pos 0) ≡ pos 0
min_zero n = omega (arith, ints, clamps)

max_positive : (n : ℕ) → int_max (pos n) (pos 0) ≡ pos n
max_positive n = omega (arith, ints, clamps)

min_negative : (n : ℕ) → int_min (neg_ℤ (pos n)) (pos 0) ≡ neg_ℤ (pos n)
min_negative n = omega (arith, ints, clamps)

max_zero : (n : ℕ) → int_max (neg_ℤ (pos n)) (pos 0) ≡ pos 0
max_zero n = omega (arith, ints, clamps)

times_negative : (n : ℕ) (x : ℤ) → negsuc n *ℤ x ≡ neg_ℤ (x *ℤ pos (suc n))
times_negative n x = omega (arith, ints)

width_is : (lo hi : ℤ) → lo ≤ℤ hi → hi -ℤ lo ≡ pos (unsigned_abs (hi -ℤ lo))
width_is lo hi le = omega (arith, ints)

-- the size of a factor times a width, as an integer
wide_times : (lo hi : ℤ) (k : ℕ) → lo ≤ℤ hi → (hi -ℤ lo) *ℤ pos k ≡ pos (k * unsigned_abs (hi -ℤ lo))
wide_times lo hi k le = ap (λ (z : ℤ). z *ℤ pos k) (width_is lo hi le) ∙ swapped (unsigned_abs (hi -ℤ lo)) k

-- from the value at the lower end of the node
low_by : (f lo hi : ℤ) → lo ≤ℤ hi → low_of f (record { lo = lo; hi = hi }) ≡ f *ℤ lo +ℤ int_min (f *ℤ (hi -ℤ lo)) (pos 0)
low_by (pos n) lo hi le =
    let p : pos n *ℤ (hi -ℤ lo) ≡ pos (n * unsigned_abs (hi -ℤ lo)) = *ℤ_comm (pos n) (hi -ℤ lo) ∙ wide_times lo hi n le in
    let z : int_min (pos n *ℤ (hi -ℤ lo)) (pos 0) ≡ pos 0 = ap (λ (q : ℤ). int_min q (pos 0)) p ∙ min_zero (n * unsigned_abs (hi -ℤ lo)) in
    sym (ap (λ (q : ℤ). pos n *ℤ lo +ℤ q) z ∙ plus_zero (pos n *ℤ lo))
low_by (negsuc n) lo hi le =
    let q : negsuc n *ℤ (hi -ℤ lo) ≡ neg_ℤ (pos (suc n * unsigned_abs (hi -ℤ lo))) = times_negative n (hi -ℤ lo) ∙ ap neg_ℤ (wide_times lo hi (suc n) le) in
    let z : int_min (negsuc n *ℤ (hi -ℤ lo)) (pos 0) ≡ neg_ℤ (pos (suc n * unsigned_abs (hi -ℤ lo))) = ap (λ (q : ℤ). int_min q (pos 0)) q ∙ min_negative (suc n * unsigned_abs (hi -ℤ lo)) in
    let w = wide_times lo hi (suc n) le in
    let d = sub_times hi lo (pos (suc n)) in
    let a = times_negative n hi in
    let b = times_negative n lo in
    omega (arith, ints, z, w, d, a, b)

high_by : (f lo hi : ℤ) → lo ≤ℤ hi → high_of f (record { lo = lo; hi = hi }) ≡ f *ℤ lo +ℤ int_max (f *ℤ (hi -ℤ lo)) (pos 0)
high_by (pos n) lo hi le =
    let p : pos n *ℤ (hi -ℤ lo) ≡ pos (n * unsigned_abs (hi -ℤ lo)) = *ℤ_comm (pos n) (hi -ℤ lo) ∙ wide_times lo hi n le in
    let z : int_max (pos n *ℤ (hi -ℤ lo)) (pos 0) ≡ pos (n * unsigned_abs (hi -ℤ lo)) = ap (λ (q : ℤ). int_max q (pos 0)) p ∙ max_positive (n * unsigned_abs (hi -ℤ lo)) in
    let w = wide_times lo hi n le in
    let d = sub_times hi lo (pos n) in
    let a = *ℤ_comm (pos n) hi in
    let b = *ℤ_comm (pos n) lo in
    omega (arith, ints, z, w, d, a, b)
high_by (negsuc n) lo hi le =
    let q : negsuc n *ℤ (hi -ℤ lo) ≡ neg_ℤ (pos (suc n * unsigned_abs (hi -ℤ lo))) = times_negative n (hi -ℤ lo) ∙ ap neg_ℤ (wide_times lo hi (suc n) le) in
    let z : int_max (negsuc n *ℤ (hi -ℤ lo)) (pos 0) ≡ pos 0 = ap (λ (q : ℤ). int_max q (pos 0)) q ∙ max_zero (suc n * unsigned_abs (hi -ℤ lo)) in
    sym (ap (λ (q : ℤ). negsuc n *ℤ lo +ℤ q) z ∙ plus_zero (negsuc n *ℤ lo))

-- the ends are apart by the size of the factor times the width
apart : (f lo hi : ℤ) → lo ≤ℤ hi → high_of f (record { lo = lo; hi = hi }) ≡ low_of f (record { lo = lo; hi = hi }) +ℤ pos (unsigned_abs f * unsigned_abs (hi -ℤ lo))
apart (pos n) lo hi le =
    let w = wide_times lo hi n le in
    let d = sub_times hi lo (pos n) in
    let a = *ℤ_comm (pos n) hi in
    let b = *ℤ_comm (pos n) lo in
    let goal : pos n *ℤ hi ≡ pos n *ℤ lo +ℤ pos (n * unsigned_abs (hi -ℤ lo)) = omega (arith, ints, w, d, a, b) in goal
apart (negsuc n) lo hi le =
    let w = wide_times lo hi (suc n) le in
    let d = sub_times hi lo (pos (suc n)) in
    let a = times_negative n hi in
    let b = times_negative n lo in
    let goal : negsuc n *ℤ lo ≡ negsuc n *ℤ hi +ℤ pos (suc n * unsigned_abs (hi -ℤ lo)) = omega (arith, ints, w, d, a, b) in goal

-- ---- joining

joins_total_step : (f : Scrap → ℤ) → ((a b : Scrap) → a.node ≡ b.node → f (together a b) ≡ f a +ℤ f b) → (a b : Scrap) (more : List Scrap) (t : Bool) → (a.node == b.node) ≡ t
    → total_by f (joins_from (together a b) more) ≡ f (together a b) +ℤ total_by f more → total_by f (joins_from b more) ≡ f b +ℤ total_by f more
    → total_by f (cond t (joins_from (together a b) more) (a ∷ joins_from b more)) ≡ f a +ℤ (f b +ℤ total_by f more)
joins_total_step f add a b more true e both one =
    let sum = add a b ((Decides-eqb a.node b.node).0 e) in omega (arith, ints, both, sum)
joins_total_step f add a b more false e both one = ap (λ (z : ℤ). f a +ℤ z) one

joins_from_total : (f : Scrap → ℤ) → ((a b : Scrap) → a.node ≡ b.node → f (together a b) ≡ f a +ℤ f b) → (a : Scrap) (more : List Scrap) → total_by f (joins_from a more) ≡ f a +ℤ total_by f more
joins_from_total f add a [] = refl
joins_from_total f add a (b ∷ more) = joins_total_step f add a b more (a.node == b.node) refl (joins_from_total f add (together a b) more) (joins_from_total f add b more)

pub joins_total : (f : Scrap → ℤ) → ((a b : Scrap) → a.node ≡ b.node → f (together a b) ≡ f a +ℤ f b) → (ss : List Scrap) → total_by f (joins ss) ≡ total_by f ss
joins_total f add [] = refl
joins_total f add (a ∷ more) = joins_from_total f add a more

joins_added_step : (g : Scrap → ℕ) → ((a b : Scrap) → a.node ≡ b.node → g (together a b) ≤ g a + g b) → (a b : Scrap) (more : List Scrap) (t : Bool) → (a.node == b.node) ≡ t
    → added_by g (joins_from (together a b) more) ≤ g (together a b) + added_by g more → added_by g (joins_from b more) ≤ g b + added_by g more
    → added_by g (cond t (joins_from (together a b) more) (a ∷ joins_from b more)) ≤ g a + (g b + added_by g more)
joins_added_step g sub a b more true e both one =
    let sum = sub a b ((Decides-eqb a.node b.node).0 e) in omega (arith, both, sum)
joins_added_step g sub a b more false e both one = omega (arith, one)

joins_from_added : (g : Scrap → ℕ) → ((a b : Scrap) → a.node ≡ b.node → g (together a b) ≤ g a + g b) → (a : Scrap) (more : List Scrap) → added_by g (joins_from a more) ≤ g a + added_by g more
joins_from_added g sub a [] = omega arith
joins_from_added g sub a (b ∷ more) = joins_added_step g sub a b more (a.node == b.node) refl (joins_from_added g sub (together a b) more) (joins_from_added g sub b more)

pub joins_added : (g : Scrap → ℕ) → ((a b : Scrap) → a.node ≡ b.node → g (together a b) ≤ g a + g b) → (ss : List Scrap) → added_by g (joins ss) ≤ added_by g ss
joins_added g sub [] = omega arith
joins_added g sub (a ∷ more) = joins_from_added g sub a more

joins_all_step : (P : ℕ → Type 0) (a b : Scrap) (more : List Scrap) (t : Bool) → P a.node
    → All (λ (s : Scrap). P s.node) (joins_from (together a b) more) → All (λ (s : Scrap). P s.node) (joins_from b more)
    → All (λ (s : Scrap). P s.node) (cond t (joins_from (together a b) more) (a ∷ joins_from b more))
joins_all_step P a b more true p both one = both
joins_all_step P a b more false p both one = All_cons (λ (s : Scrap). P s.node) a (joins_from b more) p one

joins_from_all : (P : ℕ → Type 0) (a : Scrap) (more : List Scrap) → P a.node → All (λ (s : Scrap). P s.node) more → All (λ (s : Scrap). P s.node) (joins_from a more)
joins_from_all P a [] p h = All_cons (λ (s : Scrap). P s.node) a [] p h
joins_from_all P a (b ∷ more) p h =
    let rest = All_tail (λ (s : Scrap). P s.node) b more h in
    joins_all_step P a b more (a.node == b.node) p (joins_from_all P (together a b) more p rest) (joins_from_all P b more (All_head (λ (s : Scrap). P s.node) b more h) rest)

pub joins_all : (P : ℕ → Type 0) (ss : List Scrap) → All (λ (s : Scrap). P s.node) ss → All (λ (s : Scrap). P s.node) (joins ss)
joins_all P [] h = h
joins_all P (a ∷ more) h = joins_from_all P a more (All_head (λ (s : Scrap). P s.node) a more h) (All_tail (λ (s : Scrap). P s.node) a more h)

-- nodes that do not fall, and nodes that rise, from n on
abbrev pub Rises : ℕ → List Scrap → Type 0
Rises n [] = Unit {0}
Rises n (s ∷ ss) = (n ≤ s.node) × Rises s.node ss

abbrev pub Strict : ℕ → List Scrap → Type 0
Strict n [] = Unit {0}
Strict n (s ∷ ss) = (n ≤ s.node) × Strict (suc s.node) ss

strict_down : (m n : ℕ) (ss : List Scrap) → m ≤ n → Strict n ss → Strict m ss
strict_down m n [] le h = tt
strict_down m n (s ∷ ss) le h = (omega (arith, h.0), h.1)

joins_strict_step : (a b : Scrap) (more : List Scrap) (t : Bool) → (a.node == b.node) ≡ t → a.node ≤ b.node
    → Strict a.node (joins_from (together a b) more) → Strict b.node (joins_from b more) → Strict a.node (cond t (joins_from (together a b) more) (a ∷ joins_from b more))
joins_strict_step a b more true e le both one = both
joins_strict_step a b more false e le both one =
    let other : a.node ≢ b.node = λ same. let no : true ≡ false = sym ((Decides-eqb a.node b.node).1 same) ∙ e in cc in
    (omega arith, strict_down (suc a.node) b.node (joins_from b more) (omega (arith, other)) one)

rises_at : (m n : ℕ) (ss : List Scrap) → m ≤ n → Rises n ss → Rises m ss
rises_at m n [] le h = tt
rises_at m n (s ∷ ss) le h = (omega (arith, h.0), h.1)

joins_from_strict : (a : Scrap) (more : List Scrap) → Rises a.node more → Strict a.node (joins_from a more)
joins_from_strict a [] h = (omega arith, tt)
joins_from_strict a (b ∷ more) h =
    joins_strict_step a b more (a.node == b.node) refl h.0 (joins_from_strict (together a b) more (rises_at a.node b.node more h.0 h.1)) (joins_from_strict b more h.1)

pub joins_strict : (ss : List Scrap) → Rises 0 ss → Strict 0 (joins ss)
joins_strict [] h = tt
joins_strict (a ∷ more) h = strict_down 0 a.node (joins_from a more) h.0 (joins_from_strict a more h.1)

-- ---- the ends of a number's range

-- a term whose node's range is not empty
abbrev pub IsOrdered : Graph → Term → Type 0
IsOrdered g t = (range g t.node).lo ≤ℤ (range g t.node).hi

pub lows_split : (g : Graph) (terms : List Term) → All (IsOrdered g) terms → total_by (λ (t : Term). low_of t.factor (range g t.node)) terms ≡ total_by (at_low g) terms +ℤ total_by (fall_of g) terms
lows_split g [] h = refl
lows_split g (t ∷ terms) h =
    let this = low_by t.factor (range g t.node).lo (range g t.node).hi (All_head (IsOrdered g) t terms h) in
    let rest = lows_split g terms (All_tail (IsOrdered g) t terms h) in
    (λ i. this i +ℤ rest i) ∙ four (t.factor *ℤ (range g t.node).lo) (int_min (t.factor *ℤ ((range g t.node).hi -ℤ (range g t.node).lo)) (pos 0)) (total_by (at_low g) terms) (total_by (fall_of g) terms)

pub highs_split : (g : Graph) (terms : List Term) → All (IsOrdered g) terms → total_by (λ (t : Term). high_of t.factor (range g t.node)) terms ≡ total_by (at_low g) terms +ℤ total_by (rise_of g) terms
highs_split g [] h = refl
highs_split g (t ∷ terms) h =
    let this = high_by t.factor (range g t.node).lo (range g t.node).hi (All_head (IsOrdered g) t terms h) in
    let rest = highs_split g terms (All_tail (IsOrdered g) t terms h) in
    (λ i. this i +ℤ rest i) ∙ four (t.factor *ℤ (range g t.node).lo) (int_max (t.factor *ℤ ((range g t.node).hi -ℤ (range g t.node).lo)) (pos 0)) (total_by (at_low g) terms) (total_by (rise_of g) terms)

pub ends_apart : (g : Graph) (terms : List Term) → All (IsOrdered g) terms → total_by (λ (t : Term). high_of t.factor (range g t.node)) terms ≡ total_by (λ (t : Term). low_of t.factor (range g t.node)) terms +ℤ pos (added_by (weight_of g) terms)
ends_apart g [] h = refl
ends_apart g (t ∷ terms) h =
    let this = apart t.factor (range g t.node).lo (range g t.node).hi (All_head (IsOrdered g) t terms h) in
    let rest = ends_apart g terms (All_tail (IsOrdered g) t terms h) in
    (λ i. this i +ℤ rest i) ∙ three (low_of t.factor (range g t.node)) (unsigned_abs t.factor * width_of (range g t.node)) (total_by (λ (t : Term). low_of t.factor (range g t.node)) terms) (added_by (weight_of g) terms)

less_ordered : (g : Graph) (terms : List Term) → All (IsWideTerm (range g)) terms → All (IsOrdered g) terms
less_ordered g terms h = λ k d lt. let w = (h k d lt).1 in omega (arith, ints, w)

pub number_ordered : (g : Graph) (s : Span) (c : ℤ) (terms : List Term) → IsFold g → Fits g s (LinNode c terms) → All (IsOrdered g) terms
number_ordered g s c terms fold fits = less_ordered g terms (wide_terms g c terms fold fits.kids fits.typed)

-- the weight of a number of the list
pub number_weight : (g : Graph) (s : Span) (c : ℤ) (terms : List Term) → IsFold g → Fits g s (LinNode c terms) → added_by (weight_of g) terms ≤ 200000000000000000
unfolding lin_low lin_high
number_weight g s c terms fold fits =
    let e = ends_apart g terms (number_ordered g s c terms fold fits) in
    let lo : s.lo ≡ c +ℤ total_by (λ (t : Term). low_of t.factor (range g t.node)) terms = ap (λ (s : Span). s.lo) fits.ranged in
    let hi : s.hi ≡ c +ℤ total_by (λ (t : Term). high_of t.factor (range g t.node)) terms = ap (λ (s : Span). s.hi) fits.ranged in
    let small_lo = fits.small_lo in
    let small_hi = fits.small_hi in
    omega (arith, ints, e, lo, hi, small_lo, small_hi)

-- its value with each node at the lower end
pub number_base : (g : Graph) (s : Span) (c : ℤ) (terms : List Term) (fall : ℤ) → IsFold g → Fits g s (LinNode c terms) → fall ≡ total_by (fall_of g) terms → s.lo -ℤ fall ≡ c +ℤ total_by (at_low g) terms
unfolding lin_low
number_base g s c terms fall fold fits fall_is =
    let e = lows_split g terms (number_ordered g s c terms fold fits) in
    let lo : s.lo ≡ c +ℤ total_by (λ (t : Term). low_of t.factor (range g t.node)) terms = ap (λ (s : Span). s.lo) fits.ranged in
    omega (arith, ints, e, lo, fall_is)
