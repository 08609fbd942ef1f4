-- What terms come to at a point, and how large the sums become on the way.
use Rattle.std.proofs.Common.{◌≡◌, ◌+◌, ◌*◌, ◌<◌, ◌≤◌, ◌^◌, ℕ, ℤ, pos, ◌+ℤ◌, ◌*ℤ◌, ◌≤ℤ◌, unsigned_abs, FitsSigned, to_z, of_z, List, [], ◌∷◌, length, drop, get_or, max, sym, ap, ◌∙◌, subst, arith}
use Rattle.std.specs.Int.{w128}
use Rattle.std.specs.List.{All}
use Rattle.std.proofs.lemmas.Int.{ints, unsigned_abs-mul, fits_signed_from_abs, to_z-of_z}
use Rattle.std.proofs.lemmas.List.{drop_more, drop_all, length-map}
use Rattle.std.proofs.lemmas.List.Sums.{sum_by-cons}
use Rattle.std.proofs.lemmas.List.Elements.{All-head, All-tail}
use Rattle.std.proofs.Math.Nat.{mul-le-mul_left}
use Rattle.ip_rows.specs.declared.Bounds.{Bounds}
use Rattle.ip_rows.specs.declared.rows.Coef.{Coef}
use Rattle.ip_rows.specs.declared.rows.IpRow.{IpRow}
use Rattle.ip_rows.specs.declared.program.IpColumn.{IpColumn}
use Rattle.ip_rows.specs.Rows.{AreTerms, IsMeasuredRow, side_at, greater_size, weight}
use Rattle.ip_rows.specs.Programs.{IsBetween, sides_of, number_at, sum_at}
use Rattle.ip_rows.specs.Sums.{weight_at, IsBounded}

-- a sum is no larger in size than its parts together
pub abs_sum : (a b : ℤ) → unsigned_abs (a +ℤ b) ≤ unsigned_abs a + unsigned_abs b
abs_sum a b = omega (arith, ints)

-- what lies between two sides is no larger in size than the greater of them
pub abs_between : (lo hi n : ℤ) → lo ≤ℤ n → n ≤ℤ hi → unsigned_abs n ≤ max (unsigned_abs lo) (unsigned_abs hi)
abs_between lo hi n p q = omega (arith, ints)

-- a sum of terms so far, and how large what is left makes it at most
pub record IsOnTheWay (point : List ℤ) (terms : List Coef) (i : ℕ) (sum : ℤ) : Type 0 where
  pub whole : sum +ℤ sum_at point (drop i terms) ≡ sum_at point terms
  pub small : unsigned_abs sum + weight_at point (drop i terms) ≤ 2 ^ 120

pub on_the_way_first : (point : List ℤ) (terms : List Coef) → IsBounded point terms → IsOnTheWay point terms 0 (pos 0)
on_the_way_first point terms bounded = record { whole = omega (arith, ints); small = omega (arith, bounded.small) }

pub on_the_way_last : (point : List ℤ) (terms : List Coef) (i : ℕ) (sum : ℤ) → length terms ≤ i → IsOnTheWay point terms i sum → (sum ≡ sum_at point terms) × (unsigned_abs sum ≤ 2 ^ 120)
on_the_way_last point terms i sum over way =
    let whole : sum +ℤ pos 0 ≡ sum_at point terms = subst (λ (ts : List Coef). sum +ℤ sum_at point ts ≡ sum_at point terms) (drop_all i terms over) way.whole in
    (omega (arith, ints, whole), omega (arith, way.small))

module _ (point : List ℤ) (terms : List Coef) (i : ℕ) (sum part : ℤ) (within : i < length terms)
    (is : part ≡ (get_or terms i (record { factor = pos 0; column = 0 })).factor *ℤ number_at point (get_or terms i (record { factor = pos 0; column = 0 })).column)
    (way : IsOnTheWay point terms i sum) where
  abbrev term : Coef
  term = get_or terms i (record { factor = pos 0; column = 0 })

  abbrev rest : List Coef
  rest = drop (i + 1) terms

  split : drop i terms ≡ term ∷ rest
  split = drop_more terms i (record { factor = pos 0; column = 0 }) within

  part_size : unsigned_abs part ≡ unsigned_abs term.factor * unsigned_abs (number_at point term.column)
  part_size = ap unsigned_abs is ∙ unsigned_abs-mul term.factor (number_at point term.column)

  next_small : unsigned_abs (sum +ℤ part) + weight_at point rest ≤ 2 ^ 120
  next_small =
      let before : unsigned_abs sum + (unsigned_abs term.factor * unsigned_abs (number_at point term.column) + weight_at point rest) ≤ 2 ^ 120 = subst (λ (ts : List Coef). unsigned_abs sum + weight_at point ts ≤ 2 ^ 120) split way.small in
      let size : unsigned_abs sum + (unsigned_abs part + weight_at point rest) ≤ 2 ^ 120 = subst (λ (n : ℕ). unsigned_abs sum + (n + weight_at point rest) ≤ 2 ^ 120) (sym part_size) before in
      omega (arith, abs_sum sum part, size)

  next_whole : (sum +ℤ part) +ℤ sum_at point rest ≡ sum_at point terms
  next_whole =
      let before : sum +ℤ (term.factor *ℤ number_at point term.column +ℤ sum_at point rest) ≡ sum_at point terms = subst (λ (ts : List Coef). sum +ℤ sum_at point ts ≡ sum_at point terms) split way.whole in
      let same : sum +ℤ (part +ℤ sum_at point rest) ≡ sum_at point terms = subst (λ (n : ℤ). sum +ℤ (n +ℤ sum_at point rest) ≡ sum_at point terms) (sym is) before in
      omega (arith, ints, same)

  next_way : IsOnTheWay point terms (i + 1) (sum +ℤ part)
  next_way = record { whole = next_whole; small = next_small }

  -- the sum of 128 bits fits, and is the next one
  pub on_the_way_fits : FitsSigned w128 part → FitsSigned w128 (sum +ℤ to_z w128 (of_z w128 part))
  on_the_way_fits fits = subst (λ (n : ℤ). FitsSigned w128 (sum +ℤ n)) (sym (to_z-of_z w128 part fits)) (fits_signed_from_abs w128 (sum +ℤ part) (omega (arith, next_small)))

  pub on_the_way_next : FitsSigned w128 part → IsOnTheWay point terms (i + 1) (to_z w128 (of_z w128 (sum +ℤ to_z w128 (of_z w128 part))))
  on_the_way_next fits =
      let same : to_z w128 (of_z w128 part) ≡ part = to_z-of_z w128 part fits in
      let whole : FitsSigned w128 (sum +ℤ part) = fits_signed_from_abs w128 (sum +ℤ part) (omega (arith, next_small)) in
      subst (λ (n : ℤ). IsOnTheWay point terms (i + 1) n) (sym (ap (λ n. to_z w128 (of_z w128 (sum +ℤ n))) same ∙ to_z-of_z w128 (sum +ℤ part) whole)) next_way

-- at numbers between the sides, terms weigh no more than the sides allow
pub weight_between : (sides : List Bounds) (point : List ℤ) (terms : List Coef) → IsBetween sides point → All (λ (term : Coef). term.column < length sides) terms → weight_at point terms ≤ weight sides terms
weight_between sides point [] between there = omega arith
weight_between sides point (term ∷ terms) between there =
    let here : term.column < length sides = All-head (λ (t : Coef). t.column < length sides) term terms there in
    let first : unsigned_abs term.factor * unsigned_abs (number_at point term.column) ≤ unsigned_abs term.factor * greater_size (side_at sides term.column) =
    mul-le-mul_left (unsigned_abs term.factor) (abs_between (side_at sides term.column).lo (side_at sides term.column).hi (number_at point term.column) (between.low term.column here) (between.high term.column here)) in
    let others : weight_at point terms ≤ weight sides terms = weight_between sides point terms between (All-tail (λ (t : Coef). t.column < length sides) term terms there) in
    let all : weight sides (term ∷ terms) ≡ unsigned_abs term.factor * greater_size (side_at sides term.column) + weight sides terms = sum_by-cons (λ (t : Coef). unsigned_abs t.factor * greater_size (side_at sides t.column)) term terms in
    omega (arith, first, others, all)

module _ (columns : List IpColumn) (point : List ℤ) (between : IsBetween (sides_of columns) point) where
  same_count : length (sides_of columns) ≡ length columns
  same_count = length-map columns (λ (column : IpColumn). column.sides)

  pub bounded_terms : (terms : List Coef) → AreTerms (length columns) terms → weight (sides_of columns) terms ≤ 2 ^ 120 → IsBounded point terms
  bounded_terms terms formed small = record {
    there = λ k d h. let c : (get_or terms k d).column < length columns = formed.there k d h in let same = same_count in let count = between.count in omega arith;
    small = omega (arith, small, weight_between (sides_of columns) point terms between (λ k d h. let c : (get_or terms k d).column < length columns = formed.there k d h in let same = same_count in omega arith));
  }

  pub bounded_rows : (rows read : List IpRow) → read ≡ rows → All (λ (row : IpRow). AreTerms (length columns) row.terms) rows → All (IsMeasuredRow (sides_of columns)) rows → All (λ (row : IpRow). IsBounded point row.terms) read
  bounded_rows rows read same formed small = subst (λ (rs : List IpRow). All (λ (row : IpRow). IsBounded point row.terms) rs) (sym same)
      (λ k d h. let m = small k d h in bounded_terms (get_or rows k d).terms (formed k d h) (omega (arith, m)))

  pub bounded_aim : (aim read : List Coef) (constant : ℤ) → read ≡ aim → AreTerms (length columns) aim → weight (sides_of columns) aim + unsigned_abs constant ≤ 2 ^ 120 → IsBounded point read
  bounded_aim aim read constant same formed small = subst (λ (ts : List Coef). IsBounded point ts) (sym same) (bounded_terms aim formed (omega (arith, small)))
