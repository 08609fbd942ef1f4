-- What terms come to at points of a program's box, with those at columns with one value or without.
use Rattle.std.proofs.Common.{◌≡◌, ◌∙◌, sym, ap, ap₂, subst, refl, ℕ, suc, ◌+◌, ◌*◌, ◌<◌, ◌≤◌, ◌^◌, ℤ, pos, ◌+ℤ◌, ◌*ℤ◌, ◌≤ℤ◌, unsigned_abs, FitsSigned, to_z, of_z, Bool, true, false, cond, List, [], ◌∷◌, length, drop, get_or, filter, All, arith}
use Rattle.std.specs.Prelude.{int_lt, if◌then◌else◌}
use Rattle.std.specs.Int.{w128}
use Rattle.std.proofs.lemmas.Int.{ints, unsigned_abs-mul, fits_signed_from_abs, to_z-of_z}
use Rattle.std.proofs.lemmas.List.{drop_more, drop_all}
use Rattle.ip_rows.specs.declared.rows.Coef.{Coef}
use Rattle.ip_rows.specs.declared.program.Program.{Program}
use Rattle.ip_rows.specs.Programs.{IsBetween, number_at, sum_at}
use Rattle.ip_rows.specs.Rows.{side_at}
use Rattle.ip_rows.specs.Sums.{IsBounded, weight_at}
use Rattle.ip_rows.proofs.SumLemmas.{abs_sum}
use Rattle.program_leaves.specs.Leaves.{is_open, open_sum, root_of}

-- sums at two points that have the same numbers where the terms have columns
pub same_sums : (a b : List ℤ) (keeps : Coef → Bool) (terms : List Coef) → All (λ (t : Coef). number_at a t.column ≡ number_at b t.column) terms → sum_at a (filter keeps terms) ≡ sum_at b (filter keeps terms)
same_sums a b keeps [] same = refl
same_sums a b keeps (t ∷ terms) same = by_test (keeps t) (same_sums a b keeps terms (λ k d lt. same (suc k) d (omega (arith, lt))))
  where
    by_test : (kept : Bool) → sum_at a (filter keeps terms) ≡ sum_at b (filter keeps terms) → sum_at a (cond kept (t ∷ filter keeps terms) (filter keeps terms)) ≡ sum_at b (cond kept (t ∷ filter keeps terms) (filter keeps terms))
    by_test true rest = ap₂ (λ (x y : ℤ). t.factor *ℤ x +ℤ y) (same 0 t (omega arith)) rest
    by_test false rest = rest

pub same_all : (a b : List ℤ) (terms : List Coef) → All (λ (t : Coef). number_at a t.column ≡ number_at b t.column) terms → sum_at a terms ≡ sum_at b terms
same_all a b [] same = refl
same_all a b (t ∷ terms) same = ap₂ (λ (x y : ℤ). t.factor *ℤ x +ℤ y) (same 0 t (omega arith)) (same_all a b terms (λ k d lt. same (suc k) d (omega (arith, lt))))

one_number : (lo hi a b : ℤ) → int_lt lo hi ≡ false → lo ≤ℤ a → a ≤ℤ hi → lo ≤ℤ b → b ≤ℤ hi → a ≡ b
one_number lo hi a b e la ha lb hb = grind (arith, ints)

cross_open : (f a b x y p q : ℤ) → x +ℤ q ≡ y +ℤ p → ((f *ℤ a) +ℤ x) +ℤ ((f *ℤ b) +ℤ q) ≡ ((f *ℤ b) +ℤ y) +ℤ ((f *ℤ a) +ℤ p)
cross_open f a b x y p q e = cross (f *ℤ a) (f *ℤ b) x y p q e
  where
    cross : (m n x y p q : ℤ) → x +ℤ q ≡ y +ℤ p → (m +ℤ x) +ℤ (n +ℤ q) ≡ (n +ℤ y) +ℤ (m +ℤ p)
    cross m n x y p q e = omega (arith, ints, e)

cross_fixed : (m n x y p q : ℤ) → m ≡ n → x +ℤ q ≡ y +ℤ p → (m +ℤ x) +ℤ q ≡ (n +ℤ y) +ℤ p
cross_fixed m n x y p q same e = omega (arith, ints, same, e)

module _ (program : Program) (a b : List ℤ) (in_a : IsBetween (root_of program) a) (in_b : IsBetween (root_of program) b) where
  -- at a column with one value all points of the box have the same number
  pub fixed_same : (t : Coef) → t.column < length (root_of program) → is_open program t ≡ false → number_at a t.column ≡ number_at b t.column
  fixed_same t lt one =
      one_number (side_at (root_of program) t.column).lo (side_at (root_of program) t.column).hi (number_at a t.column) (number_at b t.column) one
      (in_a.low t.column lt) (in_a.high t.column lt) (in_b.low t.column lt) (in_b.high t.column lt)

  -- two points differ as much in all terms as in the terms at columns with two values
  pub cross_sums : (terms : List Coef) → All (λ (t : Coef). t.column < length (root_of program)) terms → sum_at a terms +ℤ open_sum program b terms ≡ sum_at b terms +ℤ open_sum program a terms
  cross_sums [] there = refl
  cross_sums (t ∷ terms) there = by_test (is_open program t) refl (cross_sums terms (λ k d lt. there (suc k) d (omega (arith, lt))))
    where
      by_test : (two : Bool) → is_open program t ≡ two → sum_at a terms +ℤ open_sum program b terms ≡ sum_at b terms +ℤ open_sum program a terms
          → sum_at a (t ∷ terms) +ℤ sum_at b (cond two (t ∷ filter (is_open program) terms) (filter (is_open program) terms)) ≡ sum_at b (t ∷ terms) +ℤ sum_at a (cond two (t ∷ filter (is_open program) terms) (filter (is_open program) terms))
      by_test true e rest = cross_open t.factor (number_at a t.column) (number_at b t.column) (sum_at a terms) (sum_at b terms) (open_sum program a terms) (open_sum program b terms) rest
      by_test false e rest =
          cross_fixed (t.factor *ℤ number_at a t.column) (t.factor *ℤ number_at b t.column) (sum_at a terms) (sum_at b terms) (open_sum program a terms) (open_sum program b terms)
          (ap (λ (n : ℤ). t.factor *ℤ n) (fixed_same t (there 0 t (omega arith)) e)) rest

-- no term at a column with two values
pub none_open : (program : Program) (point : List ℤ) (terms : List Coef) → All (λ (t : Coef). is_open program t ≡ false) terms → open_sum program point terms ≡ pos 0
none_open program point [] none = refl
none_open program point (t ∷ terms) none =
    ap (λ (two : Bool). sum_at point (cond two (t ∷ filter (is_open program) terms) (filter (is_open program) terms))) (none 0 t (omega arith))
    ∙ none_open program point terms (λ k d lt. none (suc k) d (omega (arith, lt)))

-- ---- the loop that adds the terms at columns with two values

-- a sum so far, and how large what is left makes it at most
pub record IsOpenWay (program : Program) (point : List ℤ) (terms : List Coef) (i : ℕ) (sum : ℤ) : Type 0 where
  pub whole : sum +ℤ open_sum program point (drop i terms) ≡ open_sum program point terms
  pub small : unsigned_abs sum + weight_at point (drop i terms) ≤ 2 ^ 120

pub open_first : (program : Program) (point : List ℤ) (terms : List Coef) → IsBounded point terms → IsOpenWay program point terms 0 (pos 0)
open_first program point terms bounded = let small = bounded.small in record { whole = omega (arith, ints); small = omega (arith, small) }

pub open_last : (program : Program) (point : List ℤ) (terms : List Coef) (i : ℕ) (sum : ℤ) → length terms ≤ i → IsOpenWay program point terms i sum → sum ≡ open_sum program point terms
open_last program point terms i sum over way =
    let whole : sum +ℤ pos 0 ≡ open_sum program point terms = subst (λ (ts : List Coef). sum +ℤ open_sum program point ts ≡ open_sum program point terms) (drop_all i terms over) way.whole in
    omega (arith, ints, whole)

abbrev no_term : Coef
no_term = record { factor = pos 0; column = 0 }

less_small : (a b w : ℕ) → a + (b + w) ≤ 2 ^ 120 → a + w ≤ 2 ^ 120
less_small a b w le = omega (arith, le)

sum_small : (s p : ℤ) (n w : ℕ) → unsigned_abs p ≡ n → unsigned_abs s + (n + w) ≤ 2 ^ 120 → unsigned_abs (s +ℤ p) + w ≤ 2 ^ 120
sum_small s p n w is le = let le2 = abs_sum s p in omega (arith, le2, is, le)

regroup : (s p q n w : ℤ) → p ≡ n → s +ℤ (n +ℤ q) ≡ w → (s +ℤ p) +ℤ q ≡ w
regroup s p q n w is e = omega (arith, ints, is, e)

module _ (program : Program) (point : List ℤ) (terms : List Coef) (i : ℕ) (sum : ℤ) (within : i < length terms) (way : IsOpenWay program point terms i sum) where
  abbrev term : Coef
  term = get_or terms i (record { factor = pos 0; column = 0 })

  abbrev rest : List Coef
  rest = drop (i + 1) terms

  split : drop i terms ≡ term ∷ rest
  split = drop_more terms i (record { factor = pos 0; column = 0 }) within

  before_small : unsigned_abs sum + (unsigned_abs term.factor * unsigned_abs (number_at point term.column) + weight_at point rest) ≤ 2 ^ 120
  before_small = subst (λ (ts : List Coef). unsigned_abs sum + weight_at point ts ≤ 2 ^ 120) split way.small

  before_whole : sum +ℤ open_sum program point (term ∷ rest) ≡ open_sum program point terms
  before_whole = subst (λ (ts : List Coef). sum +ℤ open_sum program point ts ≡ open_sum program point terms) split way.whole

  at_test : (two : Bool) → is_open program term ≡ two → sum +ℤ sum_at point (cond two (term ∷ filter (is_open program) rest) (filter (is_open program) rest)) ≡ open_sum program point terms
  at_test two e = subst (λ (two : Bool). sum +ℤ sum_at point (cond two (term ∷ filter (is_open program) rest) (filter (is_open program) rest)) ≡ open_sum program point terms) e before_whole

  passed : is_open program term ≡ false → IsOpenWay program point terms (i + 1) (sum +ℤ pos 0)
  passed one = record {
    whole = no_more sum (open_sum program point rest) (open_sum program point terms) (at_test false one);
    small = same_small sum (weight_at point rest) (less_small (unsigned_abs sum) (unsigned_abs term.factor * unsigned_abs (number_at point term.column)) (weight_at point rest) before_small);
  }
    where
      no_more : (s q w : ℤ) → s +ℤ q ≡ w → (s +ℤ pos 0) +ℤ q ≡ w
      no_more s q w e = omega (arith, ints, e)

      same_small : (s : ℤ) (w : ℕ) → unsigned_abs s + w ≤ 2 ^ 120 → unsigned_abs (s +ℤ pos 0) + w ≤ 2 ^ 120
      same_small s w le = omega (arith, ints, le)

  added : is_open program term ≡ true → IsOpenWay program point terms (i + 1) (sum +ℤ (term.factor *ℤ number_at point term.column))
  added two = record {
    whole = regroup sum (term.factor *ℤ number_at point term.column) (open_sum program point rest) (term.factor *ℤ number_at point term.column) (open_sum program point terms) refl (at_test true two);
    small = sum_small sum (term.factor *ℤ number_at point term.column) (unsigned_abs term.factor * unsigned_abs (number_at point term.column)) (weight_at point rest) (unsigned_abs-mul term.factor (number_at point term.column)) before_small;
  }

  module _ (part : ℤ) (is : part ≡ (if is_open program term then term.factor *ℤ number_at point term.column else pos 0)) where
    next_way : IsOpenWay program point terms (i + 1) (sum +ℤ part)
    next_way = subst (λ (n : ℤ). IsOpenWay program point terms (i + 1) (sum +ℤ n)) (sym is) (by_test (is_open program term) refl)
      where
        by_test : (two : Bool) → is_open program term ≡ two → IsOpenWay program point terms (i + 1) (sum +ℤ (if two then term.factor *ℤ number_at point term.column else pos 0))
        by_test true e = added e
        by_test false e = passed e

    fits_sum : FitsSigned w128 (sum +ℤ part)
    fits_sum = let small = next_way.small in fits_signed_from_abs w128 (sum +ℤ part) (omega (arith, small))

    pub open_fits : FitsSigned w128 part → FitsSigned w128 (sum +ℤ to_z w128 (of_z w128 part))
    open_fits fits = subst (λ (n : ℤ). FitsSigned w128 (sum +ℤ n)) (sym (to_z-of_z w128 part fits)) fits_sum

    pub open_next : FitsSigned w128 part → IsOpenWay program point terms (i + 1) (to_z w128 (of_z w128 (sum +ℤ to_z w128 (of_z w128 part))))
    open_next fits =
        subst (λ (n : ℤ). IsOpenWay program point terms (i + 1) n) (sym (ap (λ n. to_z w128 (of_z w128 (sum +ℤ n))) (to_z-of_z w128 part fits) ∙ to_z-of_z w128 (sum +ℤ part) fits_sum)) next_way
