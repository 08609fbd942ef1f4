-- Sums over terms, one part after another, and how large they become on the way.
use Rattle.std.proofs.Common.{◌≡◌, ◌≢◌, ◌+◌, ◌*◌, ◌<◌, ◌≤◌, ◌^◌, ℕ, ℤ, pos, ◌+ℤ◌, ◌*ℤ◌, unsigned_abs, FitsSigned, to_z, of_z, Bool, true, false, cond, List, [], ◌∷◌, length, drop, get_or, filter, refl, sym, ap, ◌∙◌, subst, arith}
use Rattle.std.specs.Int.{w128}
use Rattle.std.specs.Prelude.{int_lt, not}
use Rattle.std.proofs.lemmas.Int.{ints, unsigned_abs-mul, fits_signed_from_abs, to_z-of_z}
use Rattle.std.proofs.lemmas.Bool.Decides.{Decides-int_eq}
use Rattle.std.proofs.lemmas.List.{drop_more, drop_all, length-map}
use Rattle.std.proofs.lemmas.List.Elements.{All-filter}
use Rattle.std.proofs.lemmas.List.Sums.{sum_by-cons}
use Rattle.std.proofs.Math.Nat.{mul-le-mul_left}
use Rattle.ip_rows.specs.declared.Bounds.{Bounds}
use Rattle.ip_rows.specs.declared.rows.Coef.{Coef}
use Rattle.ip_rows.specs.declared.program.IpColumn.{IpColumn}
use Rattle.ip_rows.specs.Rows.{side_at, greater_size, weight}
use Rattle.ip_rows.specs.Programs.{sides_of, is_fixed, fixed_sum}
use Rattle.ip_rows.proofs.SumLemmas.{abs_sum}
use Rattle.ip_reduce.specs.Rows.{open_terms, fixed_part, least_part, least_sum, IsLight}

-- the sum of the parts of terms
abbrev pub total_by : (Coef → ℤ) → List Coef → ℤ
total_by part [] = pos 0
total_by part (term ∷ terms) = part term +ℤ total_by part terms

pub fixed_is : (sides : List Bounds) (terms : List Coef) → fixed_sum sides terms ≡ total_by (fixed_part sides) terms
fixed_is sides [] = refl
fixed_is sides (term ∷ terms) = ap (λ n. fixed_part sides term +ℤ n) (fixed_is sides terms)

pub least_is : (sides : List Bounds) (terms : List Coef) → least_sum sides terms ≡ total_by (least_part sides) terms
least_is sides [] = refl
least_is sides (term ∷ terms) = ap (λ n. least_part sides term +ℤ n) (least_is sides terms)

-- what a term weighs
abbrev pub weight_of : List Bounds → Coef → ℕ
weight_of sides term = unsigned_abs term.factor * greater_size (side_at sides term.column)

-- a part is no heavier than its term
abbrev pub IsBounded : List Bounds → (Coef → ℤ) → Type 0
IsBounded sides part = (term : Coef) → unsigned_abs (part term) ≤ weight_of sides term

side_weighs : (factor side : ℤ) (most : ℕ) → unsigned_abs side ≤ most → unsigned_abs (factor *ℤ side) ≤ unsigned_abs factor * most
side_weighs factor side most le = let product = unsigned_abs-mul factor side in let more = mul-le-mul_left (unsigned_abs factor) le in omega (arith, product, more)

low_weighs : (sides : List Bounds) (term : Coef) → unsigned_abs (term.factor *ℤ (side_at sides term.column).lo) ≤ weight_of sides term
low_weighs sides term = side_weighs term.factor (side_at sides term.column).lo (greater_size (side_at sides term.column)) (omega arith)

high_weighs : (sides : List Bounds) (term : Coef) → unsigned_abs (term.factor *ℤ (side_at sides term.column).hi) ≤ weight_of sides term
high_weighs sides term = side_weighs term.factor (side_at sides term.column).hi (greater_size (side_at sides term.column)) (omega arith)

either_weighs : (b : Bool) (one other : ℤ) (most : ℕ) → unsigned_abs one ≤ most → unsigned_abs other ≤ most → unsigned_abs (cond b one other) ≤ most
either_weighs true one other most p q = p
either_weighs false one other most p q = q

pub fixed_bounded : (sides : List Bounds) → IsBounded sides (fixed_part sides)
fixed_bounded sides term = either_weighs (is_fixed sides term.column) (term.factor *ℤ (side_at sides term.column).lo) (pos 0) (weight_of sides term) (low_weighs sides term) (omega arith)

pub least_bounded : (sides : List Bounds) → IsBounded sides (least_part sides)
least_bounded sides term = either_weighs (int_lt term.factor (pos 0)) (term.factor *ℤ (side_at sides term.column).hi) (term.factor *ℤ (side_at sides term.column).lo) (weight_of sides term) (high_weighs sides term) (low_weighs sides term)

-- a sum so far, and how large what is left makes it at most
pub record IsOnTheWay (sides : List Bounds) (part : Coef → ℤ) (terms : List Coef) (i : ℕ) (sum : ℤ) : Type 0 where
  pub whole : sum +ℤ total_by part (drop i terms) ≡ total_by part terms
  pub small : unsigned_abs sum + weight sides (drop i terms) ≤ 2 ^ 120

pub way_begins : (sides : List Bounds) (part : Coef → ℤ) (terms : List Coef) → IsLight sides terms → IsOnTheWay sides part terms 0 (pos 0)
way_begins sides part terms light = record { whole = omega (arith, ints); small = omega (arith, light.small) }

pub way_ends : (sides : List Bounds) (part : Coef → ℤ) (terms : List Coef) (i : ℕ) (sum : ℤ) → length terms ≤ i → IsOnTheWay sides part terms i sum → (sum ≡ total_by part terms) × (unsigned_abs sum ≤ 2 ^ 120)
way_ends sides part terms i sum over way =
    let whole : sum +ℤ pos 0 ≡ total_by part terms = subst (λ (ts : List Coef). sum +ℤ total_by part ts ≡ total_by part terms) (drop_all i terms over) way.whole in
    (omega (arith, ints, whole), omega (arith, way.small))

module _ (sides : List Bounds) (part : Coef → ℤ) (bounded : IsBounded sides part) (terms : List Coef) (i : ℕ) (sum next : ℤ) (within : i < length terms)
    (is : next ≡ part (get_or terms i (record { factor = pos 0; column = 0 }))) (way : IsOnTheWay sides part terms i sum) where
  abbrev term : Coef
  term = get_or terms i (record { factor = pos 0; column = 0 })

  abbrev rest : List Coef
  rest = drop (i + 1) terms

  split : drop i terms ≡ term ∷ rest
  split = drop_more terms i (record { factor = pos 0; column = 0 }) within

  next_small : unsigned_abs (sum +ℤ next) + weight sides rest ≤ 2 ^ 120
  next_small =
      let before : unsigned_abs sum + weight sides (term ∷ rest) ≤ 2 ^ 120 = subst (λ (ts : List Coef). unsigned_abs sum + weight sides ts ≤ 2 ^ 120) split way.small in
      let cons : weight sides (term ∷ rest) ≡ weight_of sides term + weight sides rest = sum_by-cons (weight_of sides) term rest in
      let one : unsigned_abs next ≤ weight_of sides term = subst (λ (n : ℤ). unsigned_abs n ≤ weight_of sides term) (sym is) (bounded term) in
      omega (arith, abs_sum sum next, before, cons, one)

  next_whole : (sum +ℤ next) +ℤ total_by part rest ≡ total_by part terms
  next_whole =
      let before : sum +ℤ (part term +ℤ total_by part rest) ≡ total_by part terms = subst (λ (ts : List Coef). sum +ℤ total_by part ts ≡ total_by part terms) split way.whole in
      let same : sum +ℤ (next +ℤ total_by part rest) ≡ total_by part terms = subst (λ (n : ℤ). sum +ℤ (n +ℤ total_by part rest) ≡ total_by part terms) (sym is) before in
      omega (arith, ints, same)

  next_way : IsOnTheWay sides part terms (i + 1) (sum +ℤ next)
  next_way = record { whole = next_whole; small = next_small }

  pub way_fits : FitsSigned w128 next → FitsSigned w128 (sum +ℤ to_z w128 (of_z w128 next))
  way_fits fits = subst (λ (n : ℤ). FitsSigned w128 (sum +ℤ n)) (sym (to_z-of_z w128 next fits)) (fits_signed_from_abs w128 (sum +ℤ next) (omega (arith, next_small)))

  pub way_goes_on : FitsSigned w128 next → IsOnTheWay sides part terms (i + 1) (to_z w128 (of_z w128 (sum +ℤ to_z w128 (of_z w128 next))))
  way_goes_on fits =
      let same : to_z w128 (of_z w128 next) ≡ next = to_z-of_z w128 next fits in
      let whole : FitsSigned w128 (sum +ℤ next) = fits_signed_from_abs w128 (sum +ℤ next) (omega (arith, next_small)) in
      subst (λ (n : ℤ). IsOnTheWay sides part terms (i + 1) n) (sym (ap (λ n. to_z w128 (of_z w128 (sum +ℤ n))) same ∙ to_z-of_z w128 (sum +ℤ next) whole)) next_way

-- fewer terms weigh less
filter_weighs : (sides : List Bounds) (p : Coef → Bool) (terms : List Coef) → weight sides (filter p terms) ≤ weight sides terms
filter_weighs sides p [] = omega arith
filter_weighs sides p (term ∷ terms) = by_test (p term) (filter_weighs sides p terms)
  where
    by_test : (b : Bool) → weight sides (filter p terms) ≤ weight sides terms → weight sides (cond b (term ∷ filter p terms) (filter p terms)) ≤ weight sides (term ∷ terms)
    by_test true rest = let one = sum_by-cons (weight_of sides) term (filter p terms) in let all = sum_by-cons (weight_of sides) term terms in omega arith
    by_test false rest = let all = sum_by-cons (weight_of sides) term terms in omega arith

pub light_open : (sides : List Bounds) (terms : List Coef) → IsLight sides terms → IsLight sides (open_terms sides terms)
light_open sides terms light = record {
  there = All-filter (λ (term : Coef). not (is_fixed sides term.column)) (λ (term : Coef). term.column < length sides) terms light.there;
  small = let less = filter_weighs sides (λ (term : Coef). not (is_fixed sides term.column)) terms in let small = light.small in omega arith;
}

-- a term names a column that is there
pub column_there : (columns : List IpColumn) (terms : List Coef) (i : ℕ) (d : Coef) → IsLight (sides_of columns) terms → i < length terms → (get_or terms i d).column < length columns
column_there columns terms i d light lt = let there = light.there i d lt in let size = length-map columns (λ (column : IpColumn). column.sides) in omega arith

-- the parts of one term, by the sides that were read
module _ (sides : List Bounds) (term : Coef) (side : Bounds) (n : ℤ) (is : side ≡ side_at sides term.column) where
  pub least_at_high : int_lt term.factor (pos 0) ≡ true → n ≡ term.factor *ℤ side.hi → n ≡ least_part sides term
  least_at_high below product =
      product ∙ ap (λ (s : Bounds). term.factor *ℤ s.hi) is ∙ ap (λ b. cond b (term.factor *ℤ (side_at sides term.column).hi) (term.factor *ℤ (side_at sides term.column).lo)) (sym below)

  pub least_at_low : int_lt term.factor (pos 0) ≡ false → n ≡ term.factor *ℤ side.lo → n ≡ least_part sides term
  least_at_low above product =
      product ∙ ap (λ (s : Bounds). term.factor *ℤ s.lo) is ∙ ap (λ b. cond b (term.factor *ℤ (side_at sides term.column).hi) (term.factor *ℤ (side_at sides term.column).lo)) (sym above)

  fixed_at : side.lo ≡ side.hi → is_fixed sides term.column ≡ true
  fixed_at same = (Decides-int_eq (side_at sides term.column).lo (side_at sides term.column).hi).1 (subst (λ (s : Bounds). s.lo ≡ s.hi) is same)

  open_at : side.lo ≢ side.hi → is_fixed sides term.column ≢ true
  open_at apart e = apart (subst (λ (s : Bounds). s.lo ≡ s.hi) (sym is) ((Decides-int_eq (side_at sides term.column).lo (side_at sides term.column).hi).0 e))

  pub fixed_here : side.lo ≡ side.hi → n ≡ term.factor *ℤ side.lo → n ≡ fixed_part sides term
  fixed_here same product = product ∙ ap (λ (s : Bounds). term.factor *ℤ s.lo) is ∙ ap (λ b. cond b (term.factor *ℤ (side_at sides term.column).lo) (pos 0)) (sym (fixed_at same))

  pub fixed_nowhere : side.lo ≢ side.hi → n ≡ pos 0 → n ≡ fixed_part sides term
  fixed_nowhere apart none = by_test (is_fixed sides term.column) refl
    where
      by_test : (b : Bool) → is_fixed sides term.column ≡ b → n ≡ cond b (term.factor *ℤ (side_at sides term.column).lo) (pos 0)
      by_test true e = absurd (open_at apart e)
      by_test false e = none
