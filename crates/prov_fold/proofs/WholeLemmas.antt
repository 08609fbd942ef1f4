-- A sum, from its parts to its number.
use Rattle.std.proofs.Common.{◌≡◌, ◌∙◌, sym, ap, subst, refl, ℕ, ◌+◌, ◌*◌, ◌<◌, ◌≤◌, ◌^◌, ◌⊎◌, inl, inr, ℤ, pos, ◌+ℤ◌, ◌*ℤ◌, ◌≤ℤ◌, ◌<ℤ◌, unsigned_abs, Bool, true, false, cond, ◌==◌, List, [], ◌∷◌, get_or, map, filter, All, arith, mul-le-mul_right, Some, None, Err}
use Rattle.std.specs.List.Sorted.{IsPermutation, IsNonDecreasingBy, IsStrictlyIncreasing}
use Rattle.std.proofs.lemmas.Int.{ints}
use Rattle.std.proofs.lemmas.Bool.{cases_lt}
use Rattle.std.proofs.lemmas.Bool.Decides.{Decides-ltb}
use Rattle.std.proofs.lemmas.List.Sorted.{All-permutation}
use Rattle.std.proofs.lemmas.List.Elements.{All-filter}
use Rattle.std.proofs.Math.Nat.{mul-le-mul_left}
use Rattle.prov_arena.specs.declared.part.Term.{Term}
use Rattle.prov_arena.specs.Formulas.{LinNode}
use Rattle.prov_fold.specs.declared.sums.Scrap.{Scrap}
use Rattle.prov_fold.specs.declared.span.Scaled.{Scaled}
use Rattle.prov_fold.specs.declared.fault.FoldFault.TheVariants as fault
use Rattle.prov_fold.specs.Sums.{total_by, added_by}
use Rattle.prov_fold.specs.Spans.{low_of, high_of, lin_low, lin_high, passes}
use Rattle.prov_fold.specs.Graphs.{Graph, range, size, Fits, HasSummand}
use Rattle.prov_fold.specs.Folds.{IsFold}
use Rattle.prov_fold.specs.Rules.{Made, constant_of, factor_at, joined, spread, judged, refused, node_of}
use Rattle.prov_fold.specs.Scraps.{told, together, joins, weight_of, fall_of, rise_of, at_low, base_of, width_of, IsGood, nonzero, kept}
use Rattle.prov_fold.proofs.SameLemmas.{All_head, All_tail, All_cons}
use Rattle.prov_fold.proofs.SumLemmas.{IsOrdered, joins_total, joins_added, joins_all, joins_strict, lows_split, highs_split, ends_apart}
use Rattle.prov_fold.proofs.SpreadLemmas.{AreGood, good_wide, total_told, added_told, added_sorted, total_sorted, spread_good, spread_weight, factors_weight, spread_base}
use Rattle.prov_fold.proofs.FinishLemmas.{From, from_told, from_kept, rises_sorted, drop_zeros, kept_nonzero, unique}
use Rattle.prov_fold.proofs.Rings.{+ℤ-*ℤ}

told_all : (P : ℕ → Type 0) (ss : List Scrap) → All (λ (t : Term). P t.node) (map told ss) → All (λ (s : Scrap). P s.node) ss
told_all P [] h = λ k d lt. absurd (omega arith)
told_all P (s ∷ ss) h = All_cons (λ (s : Scrap). P s.node) s ss (All_head (λ (t : Term). P t.node) (told s) (map told ss) h) (told_all P ss (All_tail (λ (t : Term). P t.node) (told s) (map told ss) h))

all_told : (P : Term → Type 0) (ss : List Scrap) → All (λ (s : Scrap). P (told s)) ss → All P (map told ss)
all_told P [] h = λ k d lt. absurd (omega arith)
all_told P (s ∷ ss) h = All_cons P (told s) (map told ss) (All_head (λ (s : Scrap). P (told s)) s ss h) (all_told P ss (All_tail (λ (s : Scrap). P (told s)) s ss h))

sizes : (x y : ℤ) → unsigned_abs (x +ℤ y) ≤ unsigned_abs x + unsigned_abs y
sizes x y = omega (arith, ints)

weight_sub : (g : Graph) (a b : Scrap) → a.node ≡ b.node → weight_of g (told (together a b)) ≤ weight_of g (told a) + weight_of g (told b)
weight_sub g a b same =
    let w = width_of (range g a.node) in
    let here : width_of (range g a.node) ≡ width_of (range g b.node) = ap (λ n. width_of (range g n)) same in
    let less : unsigned_abs (a.factor +ℤ b.factor) * width_of (range g a.node) ≤ (unsigned_abs a.factor + unsigned_abs b.factor) * width_of (range g a.node) = mul-le-mul_right (width_of (range g a.node)) (sizes a.factor b.factor) in
    let moved : unsigned_abs b.factor * width_of (range g a.node) ≡ unsigned_abs b.factor * width_of (range g b.node) = ap (λ n. unsigned_abs b.factor * n) here in
    omega (arith, less, moved)

low_add : (g : Graph) (a b : Scrap) → a.node ≡ b.node → at_low g (told (together a b)) ≡ at_low g (told a) +ℤ at_low g (told b)
low_add g a b same = +ℤ-*ℤ a.factor b.factor (range g a.node).lo ∙ ap (λ n. a.factor *ℤ (range g a.node).lo +ℤ b.factor *ℤ (range g n).lo) same

abbrev at : ℕ → Term → ℤ
at m t = cond (t.node == m) t.factor (pos 0)

both_at : (f h : ℤ) (b : Bool) → cond b (f +ℤ h) (pos 0) ≡ cond b f (pos 0) +ℤ cond b h (pos 0)
both_at f h true = refl
both_at f h false = refl

at_add : (m : ℕ) (a b : Scrap) → a.node ≡ b.node → at m (told (together a b)) ≡ at m (told a) +ℤ at m (told b)
at_add m a b same = both_at a.factor b.factor (a.node == m) ∙ ap (λ n. cond (a.node == m) a.factor (pos 0) +ℤ cond (n == m) b.factor (pos 0)) same

zero_by : (b : Bool) → cond b (pos 0) (pos 0) ≡ pos 0
zero_by true = refl
zero_by false = refl

at_zero : (m n : ℕ) → at m (record { factor = pos 0; node = n }) ≡ pos 0
at_zero m n = zero_by (n == m)

low_zero : (g : Graph) (n : ℕ) → low_of (pos 0) (range g n) ≡ pos 0
low_zero g n = omega (arith, ints)

high_zero : (g : Graph) (n : ℕ) → high_of (pos 0) (range g n) ≡ pos 0
high_zero g n = omega (arith, ints)

less_le : (g : Graph) (n : ℕ) → (range g n).lo <ℤ (range g n).hi → (range g n).lo ≤ℤ (range g n).hi
less_le g n h = omega (arith, ints, h)

pub factor_small : (g : Graph) (ss : List Scrap) → IsFold g → All (λ (s : Scrap). IsGood g s.node) ss → All (λ (s : Scrap). unsigned_abs s.factor ≤ added_by (λ (s : Scrap). weight_of g (told s)) ss) ss
factor_small g [] fold h = λ k d lt. absurd (omega arith)
factor_small g (s ∷ ss) fold h =
    let wide = good_wide g s.node fold (All_head (λ (s : Scrap). IsGood g s.node) s ss h) in
    let some : 1 ≤ width_of (range g s.node) = omega (arith, ints, wide) in
    let this : unsigned_abs s.factor * 1 ≤ unsigned_abs s.factor * width_of (range g s.node) = mul-le-mul_left (unsigned_abs s.factor) some in
    let rest = factor_small g ss fold (All_tail (λ (s : Scrap). IsGood g s.node) s ss h) in
    All_cons (λ (t : Scrap). unsigned_abs t.factor ≤ added_by (λ (s : Scrap). weight_of g (told s)) (s ∷ ss)) s ss (omega (arith, this)) (λ k d lt. let r = rest k d lt in omega (arith, r))

nodes_below : (g : Graph) (ts : List Term) → AreGood g ts → All (λ kid. kid < size g) (map (λ (t : Term). t.node) ts)
nodes_below g [] h = λ k d lt. absurd (omega arith)
nodes_below g (t ∷ ts) h = All_cons (λ kid. kid < size g) t.node (map (λ (t : Term). t.node) ts) (All_head (λ (t : Term). IsGood g t.node) t ts h).below (nodes_below g ts (All_tail (λ (t : Term). IsGood g t.node) t ts h))

module _ (g : Graph) (c : ℤ) (parts : List Scaled) (fold : IsFold g) (summands : All (λ (p : Scaled). HasSummand g p.number) parts) (few : added_by (λ (p : Scaled). unsigned_abs p.factor) parts ≤ 10 ^ 18)
    (scraps sorted : List Scrap) (spread_is : map told scraps ≡ spread g parts) (perm : IsPermutation scraps sorted) where
  good_scraps : All (λ (s : Scrap). IsGood g s.node) scraps
  good_scraps = told_all (IsGood g) scraps (subst (AreGood g) (sym spread_is) (spread_good g parts fold summands))

  good_sorted : All (λ (s : Scrap). IsGood g s.node) sorted
  good_sorted = All-permutation (λ (s : Scrap). IsGood g s.node) scraps sorted perm good_scraps

  pub good_joined : All (λ (s : Scrap). IsGood g s.node) (joins sorted)
  good_joined = joins_all (IsGood g) sorted good_sorted

  pub below_joined : All (λ (s : Scrap). s.node < size g) (joins sorted)
  below_joined = λ k d lt. (good_joined k d lt).below

  weight_sorted : added_by (λ (s : Scrap). weight_of g (told s)) sorted ≡ added_by (weight_of g) (spread g parts)
  weight_sorted = added_sorted (λ (s : Scrap). weight_of g (told s)) scraps sorted perm ∙ sym (added_told (weight_of g) scraps) ∙ ap (added_by (weight_of g)) spread_is

  pub size_sorted : added_by (λ (s : Scrap). unsigned_abs s.factor) sorted ≤ 10 ^ 36
  size_sorted =
      let e : added_by (λ (s : Scrap). unsigned_abs s.factor) sorted ≡ added_by (λ (t : Term). unsigned_abs t.factor) (spread g parts) =
      added_sorted (λ (s : Scrap). unsigned_abs s.factor) scraps sorted perm ∙ sym (added_told (λ (t : Term). unsigned_abs t.factor) scraps) ∙ ap (added_by (λ (t : Term). unsigned_abs t.factor)) spread_is in
      let less = factors_weight g (spread g parts) fold (spread_good g parts fold summands) in
      let bound = spread_weight g parts fold summands in
      omega (arith, e, less, bound, few)

  pub weight_joined : added_by (λ (s : Scrap). weight_of g (told s)) (joins sorted) ≤ 10 ^ 36
  weight_joined =
      let less = joins_added (λ (s : Scrap). weight_of g (told s)) (weight_sub g) sorted in
      let bound = spread_weight g parts fold summands in
      omega (arith, less, weight_sorted, bound, few)

  -- what keeps its sum from the parts to the joined terms
  total_joined : (f : Term → ℤ) → ((a b : Scrap) → a.node ≡ b.node → f (told (together a b)) ≡ f (told a) +ℤ f (told b)) → total_by f (map told (joins sorted)) ≡ total_by f (spread g parts)
  total_joined f add =
      total_told f (joins sorted) ∙ joins_total (λ (s : Scrap). f (told s)) add sorted ∙ total_sorted (λ (s : Scrap). f (told s)) scraps sorted perm ∙ sym (total_told f scraps) ∙ ap (total_by f) spread_is

  ordered_joined : All (IsOrdered g) (map told (joins sorted))
  ordered_joined = all_told (IsOrdered g) (joins sorted) (λ k d lt. less_le g (get_or (joins sorted) k d).node (good_wide g (get_or (joins sorted) k d).node fold (good_joined k d lt)))

  -- the ends are those of the joined terms
  pub low_is : (base lo : ℤ) → base ≡ base_of g c parts → lo ≡ base +ℤ total_by (λ (s : Scrap). fall_of g (told s)) (joins sorted) → lo ≡ lin_low (range g) (constant_of g c parts) (filter nonzero (map told (joins sorted)))
  unfolding lin_low
  low_is base lo base_is lo_is =
      let based = spread_base g c parts in
      let lows = sym (total_joined (at_low g) (low_add g)) in
      let falls = sym (total_told (fall_of g) (joins sorted)) in
      let split = lows_split g (map told (joins sorted)) ordered_joined in
      let kept = drop_zeros (λ (t : Term). low_of t.factor (range g t.node)) (low_zero g) (map told (joins sorted)) in
      omega (arith, ints, base_is, lo_is, based, lows, falls, split, kept)

  pub high_is : (base hi : ℤ) → base ≡ base_of g c parts → hi ≡ base +ℤ total_by (λ (s : Scrap). rise_of g (told s)) (joins sorted) → hi ≡ lin_high (range g) (constant_of g c parts) (filter nonzero (map told (joins sorted)))
  unfolding lin_high
  high_is base hi base_is hi_is =
      let based = spread_base g c parts in
      let lows = sym (total_joined (at_low g) (low_add g)) in
      let rises = sym (total_told (rise_of g) (joins sorted)) in
      let split = highs_split g (map told (joins sorted)) ordered_joined in
      let kept = drop_zeros (λ (t : Term). high_of t.factor (range g t.node)) (high_zero g) (map told (joins sorted)) in
      omega (arith, ints, base_is, hi_is, based, lows, rises, split, kept)

  -- and they are apart by the weight
  pub apart_is : (total lo hi : ℤ) → lo ≡ lin_low (range g) total (filter nonzero (map told (joins sorted))) → hi ≡ lin_high (range g) total (filter nonzero (map told (joins sorted))) → hi ≡ lo +ℤ pos (added_by (λ (s : Scrap). weight_of g (told s)) (joins sorted))
  unfolding lin_low lin_high
  apart_is total lo hi lo_is hi_is =
      let e = ends_apart g (map told (joins sorted)) ordered_joined in
      let w = added_told (weight_of g) (joins sorted) in
      let kept_low = drop_zeros (λ (t : Term). low_of t.factor (range g t.node)) (low_zero g) (map told (joins sorted)) in
      let kept_high = drop_zeros (λ (t : Term). high_of t.factor (range g t.node)) (high_zero g) (map told (joins sorted)) in
      omega (arith, ints, e, w, kept_low, kept_high, lo_is, hi_is)

  module _ (rising : IsNonDecreasingBy (λ (s : Scrap). s.node) sorted) where
    pub from_joined : From 0 (filter nonzero (map told (joins sorted)))
    from_joined = from_kept nonzero 0 (map told (joins sorted)) (from_told 0 (joins sorted) (joins_strict sorted (rises_sorted sorted rising)))

    pub terms_are : filter nonzero (map told (joins sorted)) ≡ joined (size g) (spread g parts)
    unfolding joined
    terms_are =
        unique (factor_at (spread g parts)) (size g) 0 (filter nonzero (map told (joins sorted))) from_joined
        (All-filter nonzero (λ (t : Term). t.node < 0 + size g) (map told (joins sorted)) (all_told (λ (t : Term). t.node < 0 + size g) (joins sorted) (λ k d lt. let b = below_joined k d lt in omega (arith, b))))
        (kept_nonzero (map told (joins sorted))) (λ m le. drop_zeros (at m) (at_zero m) (map told (joins sorted)) ∙ total_joined (at m) (at_add m))

-- ---- what is judged

pub judged_fits : (g : Graph) (total lo hi : ℤ) (all : List Scrap) → unsigned_abs total ≤ 100000000000000000 → unsigned_abs lo ≤ 100000000000000000 → unsigned_abs hi ≤ 100000000000000000
    → lo ≡ lin_low (range g) total (kept all) → hi ≡ lin_high (range g) total (kept all) → hi ≡ lo +ℤ pos (added_by (λ (s : Scrap). weight_of g (told s)) all)
    → All (λ (s : Scrap). IsGood g s.node) all → IsStrictlyIncreasing (map (λ (t : Term). t.node) (kept all))
    → Fits g (record { lo = lo; hi = hi }) (LinNode total (kept all))
judged_fits g total lo hi all small_total small_lo small_hi lo_is hi_is far good_all rising =
    let good : AreGood g (kept all) = All-filter nonzero (λ (t : Term). IsGood g t.node) (map told all) (all_told (λ (t : Term). IsGood g t.node) all good_all) in
    record {
      kids = nodes_below g (kept all) good;
      typed = record { small = small_total; rising = rising; factors = kept_nonzero (map told all); kinds = λ k d lt. (good k d lt).kind };
      ranged = λ i. record { lo = lo_is i; hi = hi_is i };
      order = omega (arith, ints, far);
      wide = λ no. cc;
      small_lo = small_lo;
      small_hi = small_hi;
    }

judge_one : (n : ℤ) (b : Bool) (x y : Made) → passes n ≡ b → unsigned_abs n ≤ 100000000000000000 → cond b x y ≡ y
judge_one n true x y e small = let lt : 100000000000000000 < unsigned_abs n = (Decides-ltb 100000000000000000 (unsigned_abs n)).0 e in absurd (omega arith)
judge_one n false x y e small = refl

-- none of the three passes
pub judged_made : (g : Graph) (total : ℤ) (ts : List Term) (m : Made) → unsigned_abs total ≤ 100000000000000000 → unsigned_abs (lin_low (range g) total ts) ≤ 100000000000000000 → unsigned_abs (lin_high (range g) total ts) ≤ 100000000000000000
    → m ≡ node_of (LinNode total ts) g → m ≡ judged total ts g
unfolding judged
judged_made g total ts m small small_lo small_hi made =
    made ∙ sym (judge_one total (passes total) _ _ refl small ∙ judge_one (lin_low (range g) total ts) (passes (lin_low (range g) total ts)) _ _ refl small_lo ∙ judge_one (lin_high (range g) total ts) (passes (lin_high (range g) total ts)) _ _ refl small_hi)

first_of_three : (a b d : Bool) (t l h n : ℤ) (g : Graph) (last : Made) → Some n ≡ cond a (Some t) (cond b (Some l) (cond d (Some h) None))
    → record { gives = Err (fault.Wide n); list = g } ≡ cond a (refused (fault.Wide t) g) (cond b (refused (fault.Wide l) g) (cond d (refused (fault.Wide h) g) last))
first_of_three true b d t l h n g last e = let is : n ≡ t = cc in ap (λ (z : ℤ). record { gives = Err (fault.Wide z); list = g }) is
first_of_three false true d t l h n g last e = let is : n ≡ l = cc in ap (λ (z : ℤ). record { gives = Err (fault.Wide z); list = g }) is
first_of_three false false true t l h n g last e = let is : n ≡ h = cc in ap (λ (z : ℤ). record { gives = Err (fault.Wide z); list = g }) is
first_of_three false false false t l h n g last e = cc

-- the first of the three that passes
pub judged_wide : (g : Graph) (total lo hi n : ℤ) (ts : List Term) → lo ≡ lin_low (range g) total ts → hi ≡ lin_high (range g) total ts
    → Some n ≡ cond (passes total) (Some total) (cond (passes lo) (Some lo) (cond (passes hi) (Some hi) None)) → record { gives = Err (fault.Wide n); list = g } ≡ judged total ts g
unfolding judged
judged_wide g total lo hi n ts lo_is hi_is e =
    first_of_three (passes total) (passes (lin_low (range g) total ts)) (passes (lin_high (range g) total ts)) total (lin_low (range g) total ts) (lin_high (range g) total ts) n g (node_of (LinNode total ts) g)
    (e ∙ (λ i. cond (passes total) (Some total) (cond (passes (lo_is i)) (Some (lo_is i)) (cond (passes (hi_is i)) (Some (hi_is i)) None))))

-- where none passes, the three are small
pub record AreSmall (total lo hi : ℤ) : Type 0 where
  pub total_small : unsigned_abs total ≤ 100000000000000000
  pub lo_small : unsigned_abs lo ≤ 100000000000000000
  pub hi_small : unsigned_abs hi ≤ 100000000000000000

by_order : (n : ℤ) → ((100000000000000000 < unsigned_abs n) ⊎ (unsigned_abs n ≤ 100000000000000000)) → passes n ≡ false → unsigned_abs n ≤ 100000000000000000
by_order n (inl more) e = let no : true ≡ false = sym ((Decides-ltb 100000000000000000 (unsigned_abs n)).1 more) ∙ e in cc
by_order n (inr less) e = less

not_lt : (n : ℤ) (b : Bool) → passes n ≡ b → b ≡ false → unsigned_abs n ≤ 100000000000000000
not_lt n true e is = cc
not_lt n false e is = by_order n (cases_lt 100000000000000000 (unsigned_abs n)) e

small_by : (n : ℤ) → passes n ≡ false → unsigned_abs n ≤ 100000000000000000
small_by n e = not_lt n (passes n) refl e

none_of_three : (a b d : Bool) (t l h : ℤ) → passes t ≡ a → passes l ≡ b → passes h ≡ d → None ≡ cond a (Some t) (cond b (Some l) (cond d (Some h) None)) → AreSmall t l h
none_of_three true b d t l h pa pb pd e = cc
none_of_three false true d t l h pa pb pd e = cc
none_of_three false false true t l h pa pb pd e = cc
none_of_three false false false t l h pa pb pd e = record { total_small = small_by t pa; lo_small = small_by l pb; hi_small = small_by h pd }

pub none_wide : (t l h : ℤ) → None ≡ cond (passes t) (Some t) (cond (passes l) (Some l) (cond (passes h) (Some h) None)) → AreSmall t l h
none_wide t l h e = none_of_three (passes t) (passes l) (passes h) t l h refl refl refl e
