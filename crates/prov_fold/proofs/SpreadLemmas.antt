-- The terms of a sum: their weight, their nodes, and that nothing is lost when they are sorted and joined.
use Rattle.std.proofs.Common.{◌≡◌, ◌∙◌, sym, ap, subst, refl, ℕ, suc, ◌+◌, ◌*◌, ◌<◌, ◌≤◌, ℤ, pos, ◌+ℤ◌, ◌-ℤ◌, ◌*ℤ◌, ◌<ℤ◌, unsigned_abs, true, List, [], ◌∷◌, ◌++◌, map, All, arith}
use Rattle.std.specs.Prelude.{sum_by}
use Rattle.std.specs.List.Sorted.{IsPermutation}
use Rattle.std.proofs.lemmas.Int.{ints, unsigned_abs-mul}
use Rattle.std.proofs.lemmas.List.Sums.{sum_by-cons}
use Rattle.std.proofs.lemmas.List.Sorted.{sum_by-IsPermutation}
use Rattle.std.proofs.lemmas.List.Elements.{All-append}
use Rattle.std.proofs.lemmas.List.Concat.{flat_map-cons}
use Rattle.std.proofs.Math.Nat.{mul-le-mul_left}
use borrow.Author.Differences.{up, down}
use Rattle.prov_arena.specs.declared.part.Term.{Term}
use Rattle.prov_arena.specs.Formulas.{Formula, FalseNode, TrueNode, PresNode, CellNode, PosNode, NotNode, AndNode, OrNode, LinNode, GuardNode, AbsNode, TotNode, MinNode}
use Rattle.prov_fold.specs.declared.sums.Scrap.{Scrap}
use Rattle.prov_fold.specs.declared.span.Scaled.{Scaled}
use Rattle.prov_fold.specs.Sums.{total_by, added_by}
use Rattle.prov_fold.specs.Kinds.{is_term, is_summand}
use Rattle.prov_fold.specs.Graphs.{Graph, node, range, size, Fits, HasSummand}
use Rattle.prov_fold.specs.Folds.{IsFold}
use Rattle.prov_fold.specs.Rules.{terms_in, constant_in, scaled, spread, constant_of}
use Rattle.prov_fold.specs.Scraps.{told, width_of, weight_of, at_low, base_in, base_of, IsGood}
use Rattle.prov_fold.proofs.SameLemmas.{All_head, All_tail, All_cons}
use Rattle.prov_fold.proofs.NumberLemmas.{not_number}
use Rattle.prov_fold.proofs.SumLemmas.{number_weight}
use Rattle.prov_fold.proofs.Rings.{*ℤ_assoc, *ℤ-+ℤ}

-- ---- sums of appended, mapped and sorted lists

zero_plus : (a : ℤ) → pos 0 +ℤ a ≡ a
zero_plus a = omega (arith, ints)

regroup : (a b c : ℤ) → a +ℤ (b +ℤ c) ≡ (a +ℤ b) +ℤ c
regroup a b c = omega (arith, ints)

crossed : (a b c d : ℤ) → (a +ℤ b) +ℤ (c +ℤ d) ≡ (a +ℤ c) +ℤ (b +ℤ d)
crossed a b c d = omega (arith, ints)

spread_out : (k f w r this rest : ℕ) → this ≡ k * f * w → rest ≡ k * r → this + rest ≡ k * (f * w + r)
spread_out k f w r this rest e h = omega (arith, e, h)

pub total_append : {A : Type 0} (f : A → ℤ) (xs ys : List A) → total_by f (xs ++ ys) ≡ total_by f xs +ℤ total_by f ys
total_append f [] ys = sym (zero_plus (total_by f ys))
total_append f (x ∷ xs) ys = ap (λ (z : ℤ). f x +ℤ z) (total_append f xs ys) ∙ regroup (f x) (total_by f xs) (total_by f ys)

pub added_append : {A : Type 0} (f : A → ℕ) (xs ys : List A) → added_by f (xs ++ ys) ≡ added_by f xs + added_by f ys
added_append f [] ys = omega arith
added_append f (x ∷ xs) ys = let rest = added_append f xs ys in omega (arith, rest)

pub total_told : (f : Term → ℤ) (ss : List Scrap) → total_by f (map told ss) ≡ total_by (λ (s : Scrap). f (told s)) ss
total_told f [] = refl
total_told f (s ∷ ss) = ap (λ (z : ℤ). f (told s) +ℤ z) (total_told f ss)

pub added_told : (f : Term → ℕ) (ss : List Scrap) → added_by f (map told ss) ≡ added_by (λ (s : Scrap). f (told s)) ss
added_told f [] = refl
added_told f (s ∷ ss) = ap (λ n. f (told s) + n) (added_told f ss)

added_sum : {A : Type 0} (f : A → ℕ) (xs : List A) → added_by f xs ≡ sum_by f xs
added_sum f [] = refl
added_sum f (x ∷ xs) = ap (λ n. f x + n) (added_sum f xs) ∙ sym (sum_by-cons f x xs)

pub added_sorted : {A : Type 0} (f : A → ℕ) (xs ys : List A) → IsPermutation xs ys → added_by f ys ≡ added_by f xs
added_sorted f xs ys p = added_sum f ys ∙ sum_by-IsPermutation f xs ys p ∙ sym (added_sum f xs)

total_parts : {A : Type 0} (f : A → ℤ) (xs : List A) → total_by f xs ≡ pos (added_by (λ x. up (f x)) xs) -ℤ pos (added_by (λ x. down (f x)) xs)
total_parts f [] = omega (arith, ints)
total_parts f (x ∷ xs) = let rest = total_parts f xs in omega (arith, ints, rest)

pub total_sorted : {A : Type 0} (f : A → ℤ) (xs ys : List A) → IsPermutation xs ys → total_by f ys ≡ total_by f xs
total_sorted f xs ys p =
    total_parts f ys ∙ (λ i. pos (added_sorted (λ x. up (f x)) xs ys p i) -ℤ pos (added_sorted (λ x. down (f x)) xs ys p i)) ∙ sym (total_parts f xs)

-- ---- terms times a factor

pub scaled_weight : (g : Graph) (k : ℤ) (ts : List Term) → added_by (weight_of g) (scaled k ts) ≡ unsigned_abs k * added_by (weight_of g) ts
scaled_weight g k [] = omega arith
scaled_weight g k (t ∷ ts) =
    let rest = scaled_weight g k ts in
    let this : unsigned_abs (k *ℤ t.factor) * width_of (range g t.node) ≡ unsigned_abs k * unsigned_abs t.factor * width_of (range g t.node) = ap (λ n. n * width_of (range g t.node)) (unsigned_abs-mul k t.factor) in
    spread_out (unsigned_abs k) (unsigned_abs t.factor) (width_of (range g t.node)) (added_by (weight_of g) ts) _ _ this rest

pub scaled_total : (x : ℕ → ℤ) (k : ℤ) (ts : List Term) → total_by (λ (t : Term). t.factor *ℤ x t.node) (scaled k ts) ≡ k *ℤ total_by (λ (t : Term). t.factor *ℤ x t.node) ts
scaled_total x k [] = omega (arith, ints)
scaled_total x k (t ∷ ts) =
    (λ i. *ℤ_assoc k t.factor (x t.node) i +ℤ scaled_total x k ts i) ∙ sym (*ℤ-+ℤ k (t.factor *ℤ x t.node) (total_by (λ (t : Term). t.factor *ℤ x t.node) ts))

-- ---- what a part of a sum brings

abbrev pub AreGood : Graph → List Term → Type 0
AreGood g ts = All (λ (t : Term). IsGood g t.node) ts

pub good_wide : (g : Graph) (n : ℕ) → IsFold g → IsGood g n → (range g n).lo <ℤ (range g n).hi
good_wide g n fold good = (fold.fits n good.below).wide (not_number (node g n) good.kind)

-- the weight and the nodes of a part's terms
pub record Brings (g : Graph) (ts : List Term) : Type 0 where
  pub weight : added_by (weight_of g) ts ≤ 200000000000000000
  pub good : AreGood g ts

brings_none : (g : Graph) → Brings g []
brings_none g = record { weight = omega arith; good = λ k d lt. absurd (omega arith) }

span_width : (lo hi : ℤ) → unsigned_abs lo ≤ 100000000000000000 → unsigned_abs hi ≤ 100000000000000000 → 1 * unsigned_abs (hi -ℤ lo) + 0 ≤ 200000000000000000
span_width lo hi small_lo small_hi = omega (arith, ints, small_lo, small_hi)

brings_one : (g : Graph) (n : ℕ) → IsFold g → n < size g → is_term (node g n) ≡ true → Brings g (record { factor = pos 1; node = n } ∷ [])
brings_one g n fold lt kind = record {
  weight = span_width (range g n).lo (range g n).hi (fold.fits n lt).small_lo (fold.fits n lt).small_hi;
  good = All_cons (λ (t : Term). IsGood g t.node) (record { factor = pos 1; node = n }) [] (record { below = lt; kind = kind }) (λ k d none. absurd (omega arith));
}

pub linear_good : (g : Graph) (c : ℤ) (ts : List Term) → All (λ kid. kid < size g) (map (λ (t : Term). t.node) ts) → All (λ (t : Term). is_term (node g t.node) ≡ true) ts → AreGood g ts
linear_good g c [] kids kinds = λ k d lt. absurd (omega arith)
linear_good g c (t ∷ ts) kids kinds =
    All_cons (λ (t : Term). IsGood g t.node) t ts (record { below = kids 0 0 (omega arith); kind = kinds 0 t (omega arith) })
    (linear_good g c ts (λ k d lt. kids (suc k) d (omega arith)) (λ k d lt. kinds (suc k) d (omega arith)))

pub brings : (g : Graph) (n : ℕ) (f : Formula) → node g n ≡ f → IsFold g → n < size g → is_summand f ≡ true → Brings g (terms_in n f)
brings g n FalseNode e fold lt kind = brings_none g
brings g n TrueNode e fold lt kind = brings_none g
brings g n (PresNode column) e fold lt kind = brings_one g n fold lt (ap is_term e)
brings g n (CellNode column) e fold lt kind = cc
brings g n (PosNode number) e fold lt kind = brings_one g n fold lt (ap is_term e)
brings g n (NotNode truth) e fold lt kind = cc
brings g n (AndNode kids) e fold lt kind = brings_one g n fold lt (ap is_term e)
brings g n (OrNode kids) e fold lt kind = brings_one g n fold lt (ap is_term e)
brings g n (LinNode constant terms) e fold lt kind =
    let fits = subst (Fits g (range g n)) e (fold.fits n lt) in
    record { weight = number_weight g (range g n) constant terms fold fits; good = linear_good g constant terms fits.kids fits.typed.kinds }
brings g n (GuardNode truth number) e fold lt kind = cc
brings g n (AbsNode number) e fold lt kind = cc
brings g n (TotNode number) e fold lt kind = cc
brings g n (MinNode pairs) e fold lt kind = cc

pub part_brings : (g : Graph) (n : ℕ) → IsFold g → HasSummand g n → Brings g (terms_in n (node g n))
part_brings g n fold has = brings g n (node g n) refl fold has.below has.kind

-- ---- what all parts bring

scaled_good : (g : Graph) (k : ℤ) (ts : List Term) → AreGood g ts → AreGood g (scaled k ts)
scaled_good g k [] h = h
scaled_good g k (t ∷ ts) h =
    All_cons (λ (t : Term). IsGood g t.node) (record { factor = k *ℤ t.factor; node = t.node }) (scaled k ts) (All_head (λ (t : Term). IsGood g t.node) t ts h) (scaled_good g k ts (All_tail (λ (t : Term). IsGood g t.node) t ts h))

pub spread_good : (g : Graph) (parts : List Scaled) → IsFold g → All (λ (p : Scaled). HasSummand g p.number) parts → AreGood g (spread g parts)
spread_good g [] fold h = λ k d lt. absurd (omega arith)
spread_good g (p ∷ parts) fold h =
    subst (AreGood g) (sym (flat_map-cons (λ (p : Scaled). scaled p.factor (terms_in p.number (node g p.number))) p parts))
    (All-append (λ (t : Term). IsGood g t.node) (scaled p.factor (terms_in p.number (node g p.number))) (spread g parts)
    (scaled_good g p.factor (terms_in p.number (node g p.number)) (part_brings g p.number fold (All_head (λ (p : Scaled). HasSummand g p.number) p parts h)).good)
    (spread_good g parts fold (All_tail (λ (p : Scaled). HasSummand g p.number) p parts h)))

pub spread_weight : (g : Graph) (parts : List Scaled) → IsFold g → All (λ (p : Scaled). HasSummand g p.number) parts → added_by (weight_of g) (spread g parts) ≤ 200000000000000000 * added_by (λ (p : Scaled). unsigned_abs p.factor) parts
spread_weight g [] fold h = omega arith
spread_weight g (p ∷ parts) fold h =
    let ts = terms_in p.number (node g p.number) in
    let rest = spread_weight g parts fold (All_tail (λ (p : Scaled). HasSummand g p.number) p parts h) in
    let this = (part_brings g p.number fold (All_head (λ (p : Scaled). HasSummand g p.number) p parts h)).weight in
    let whole : added_by (weight_of g) (spread g (p ∷ parts)) ≡ added_by (weight_of g) (scaled p.factor (terms_in p.number (node g p.number))) + added_by (weight_of g) (spread g parts) =
    ap (added_by (weight_of g)) (flat_map-cons (λ (p : Scaled). scaled p.factor (terms_in p.number (node g p.number))) p parts) ∙ added_append (weight_of g) (scaled p.factor ts) (spread g parts) in
    let one : added_by (weight_of g) (scaled p.factor (terms_in p.number (node g p.number))) ≡ unsigned_abs p.factor * added_by (weight_of g) (terms_in p.number (node g p.number)) = scaled_weight g p.factor ts in
    let bound : unsigned_abs p.factor * added_by (weight_of g) (terms_in p.number (node g p.number)) ≤ unsigned_abs p.factor * 200000000000000000 = mul-le-mul_left (unsigned_abs p.factor) this in
    omega (arith, rest, whole, one, bound)

-- the size of the factors is no more than the weight
pub factors_weight : (g : Graph) (ts : List Term) → IsFold g → AreGood g ts → added_by (λ (t : Term). unsigned_abs t.factor) ts ≤ added_by (weight_of g) ts
factors_weight g [] fold h = omega arith
factors_weight g (t ∷ ts) fold h =
    let rest = factors_weight g ts fold (All_tail (λ (t : Term). IsGood g t.node) t ts h) in
    let wide = good_wide g t.node fold (All_head (λ (t : Term). IsGood g t.node) t ts h) in
    let some : 1 ≤ width_of (range g t.node) = omega (arith, ints, wide) in
    let this : unsigned_abs t.factor * 1 ≤ unsigned_abs t.factor * width_of (range g t.node) = mul-le-mul_left (unsigned_abs t.factor) some in
    omega (arith, rest, this)

-- the value at the lower ends
bases : (g : Graph) (parts : List Scaled) → total_by (λ (p : Scaled). p.factor *ℤ base_in g p.number) parts ≡ total_by (λ (p : Scaled). p.factor *ℤ constant_in (node g p.number)) parts +ℤ total_by (at_low g) (spread g parts)
bases g [] = omega (arith, ints)
bases g (p ∷ parts) =
    let ts = terms_in p.number (node g p.number) in
    let this : p.factor *ℤ base_in g p.number ≡ p.factor *ℤ constant_in (node g p.number) +ℤ total_by (at_low g) (scaled p.factor (terms_in p.number (node g p.number))) =
    *ℤ-+ℤ p.factor (constant_in (node g p.number)) (total_by (at_low g) ts) ∙ ap (λ (z : ℤ). p.factor *ℤ constant_in (node g p.number) +ℤ z) (sym (scaled_total (λ n. (range g n).lo) p.factor ts)) in
    let whole : total_by (at_low g) (spread g (p ∷ parts)) ≡ total_by (at_low g) (scaled p.factor (terms_in p.number (node g p.number))) +ℤ total_by (at_low g) (spread g parts) =
    ap (total_by (at_low g)) (flat_map-cons (λ (p : Scaled). scaled p.factor (terms_in p.number (node g p.number))) p parts) ∙ total_append (at_low g) (scaled p.factor ts) (spread g parts) in
    (λ i. this i +ℤ bases g parts i) ∙ crossed (p.factor *ℤ constant_in (node g p.number)) (total_by (at_low g) (scaled p.factor (terms_in p.number (node g p.number)))) (total_by (λ (p : Scaled). p.factor *ℤ constant_in (node g p.number)) parts) (total_by (at_low g) (spread g parts)) ∙ ap (λ (z : ℤ). (p.factor *ℤ constant_in (node g p.number) +ℤ total_by (λ (p : Scaled). p.factor *ℤ constant_in (node g p.number)) parts) +ℤ z) (sym whole)

pub spread_base : (g : Graph) (c : ℤ) (parts : List Scaled) → base_of g c parts ≡ constant_of g c parts +ℤ total_by (at_low g) (spread g parts)
spread_base g c parts = ap (λ (z : ℤ). c +ℤ z) (bases g parts) ∙ regroup c (total_by (λ (p : Scaled). p.factor *ℤ constant_in (node g p.number)) parts) (total_by (at_low g) (spread g parts))
