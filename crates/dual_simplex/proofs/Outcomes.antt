-- What is carried from a bound to an answer.
use Rattle.std.proofs.Common.{◌≡◌, ℕ, suc, ◌+◌, ◌-◌, ◌<◌, ◌==◌, cond, inl, inr, ◌⊎◌, ◌≢◌, zero, ℤ, pos, Option, Some, None, Result, Ok, Err, List, [], ◌∷◌, ◌++◌, length, take, drop, refl, sym, ◌∙◌, ap, ap₂, subst, arith}
use Rattle.std.specs.Prelude.{IfOk, IfSome, slice_index}
use Rattle.std.proofs.lemmas.List.{take_more, get_or_push, get_or_append_left, length_push}
use Rattle.rat128.specs.Fractions.{Fraction, whole_fraction, minus}
use Rattle.rat128.specs.Rationals.{value}
use Rattle.ip_rows.specs.declared.Bounds.{Bounds}
use Rattle.ip_rows.specs.declared.rows.Coef.{Coef}
use Rattle.ip_rows.specs.declared.rows.IpRow.{IpRow}
use Rattle.ip_rows.specs.declared.lp.Lp.{Lp}
use Rattle.ip_rows.specs.declared.mult.Mult.{Mult}
use Rattle.ip_rows.specs.Lps.{IsWellFormedLp}
use Rattle.safe_bound.specs.Below.{IsReach, AreNotNegative, IsAtMost}
use Rattle.safe_bound.specs.Exact.{exact_bound}
use Rattle.dict_pivot.specs.declared.pivot.WideCell.{WideCell}
use Rattle.dict_pivot.specs.Dictionaries.{Dictionary, number, cell_of, least_of, table, IsDictionary, IsFirstWide}
use Rattle.dict_pivot.specs.Quantities.{AreLeast}
use Rattle.dict_pivot.proofs.PivotLaws.{same_or_not}
use Rattle.dual_simplex.specs.declared.next.PivotAt.{PivotAt}
use Rattle.dual_simplex.specs.declared.answer.Relaxed.TheVariants.{Wide}
use Rattle.dual_simplex.specs.Path.{IsChosen}
use Rattle.dual_simplex.specs.Shown.{factor_of_free, surplus_row, objective_multiplier, row_multiplier, multipliers_of, first_columns, bound_with, Stands}
use Rattle.dual_simplex.specs.Evidence.{Shows, HasNoBound}
use Rattle.dual_simplex.proofs.Ends.{path_shaped}
use Rattle.dual_simplex.proofs.Bounds.{eqb_turned}

pub on_ok : {A E : Type 0} (P Q : A → Type 0) (r : Result A E) → ((x : A) → P x → Q x) → IfOk r P → IfOk r Q
on_ok P Q (Ok x) f p = f x p
on_ok P Q (Err e) f p = tt

-- ---- a bound over the same
pub reach_for : (n n' : ℕ) (rows : List IpRow) (aim : List Coef) (ms ms' : List Mult) (reach : List ℕ) → n' ≡ n → ms' ≡ ms → reach ≡ first_columns n → IsReach n rows aim ms (first_columns n) → IsReach n' rows aim ms' reach
reach_for n n' rows aim ms ms' reach e f g h =
    subst (λ r. IsReach n' rows aim ms' r) (sym g) (subst (λ (ms : List Mult). IsReach n' rows aim ms (first_columns n)) (sym f) (subst (λ m. IsReach m rows aim ms (first_columns n)) (sym e) h))

pub exact_for : (o : Option Fraction) (rows : List IpRow) (aim : List Coef) (s s' : List Bounds) (ms ms' : List Mult) (r r' : List ℕ) → s ≡ s' → ms ≡ ms' → r ≡ r' → IfSome o (λ z. value z ≡ exact_bound rows aim s ms r) → IfSome o (λ z. value z ≡ exact_bound rows aim s' ms' r')
exact_for o rows aim s s' ms ms' r r' e f g h =
    subst (λ r. IfSome o (λ z. value z ≡ exact_bound rows aim s' ms' r)) g (subst (λ (ms : List Mult). IfSome o (λ z. value z ≡ exact_bound rows aim s' ms r)) f (subst (λ (s : List Bounds). IfSome o (λ z. value z ≡ exact_bound rows aim s ms r)) e h))

pub below_for : (o : Option Fraction) (rows : List IpRow) (aim : List Coef) (s s' : List Bounds) (ms ms' : List Mult) → s ≡ s' → ms ≡ ms' → IfSome o (λ z. AreNotNegative ms → IsAtMost (value z) rows aim s ms) → IfSome o (λ z. AreNotNegative ms' → IsAtMost (value z) rows aim s' ms')
below_for o rows aim s s' ms ms' e f h =
    subst (λ (ms : List Mult). IfSome o (λ z. AreNotNegative ms → IsAtMost (value z) rows aim s' ms)) f (subst (λ (s : List Bounds). IfSome o (λ z. AreNotNegative ms → IsAtMost (value z) rows aim s ms)) e h)

-- ---- the multipliers by the columns that the code counts
pub objective_by : (lp : Lp) (d : Dictionary) (r n : ℕ) (x : Fraction) → n ≡ length lp.sides → x ≡ factor_of_free d 0 (suc (n + n + r)) n → x ≡ objective_multiplier lp d r
objective_by lp d r n x e f = f ∙ ap (λ n. factor_of_free d 0 (suc (n + n + r)) n) e

pub row_by : (lp : Lp) (d : Dictionary) (i r n : ℕ) (x y z u : Fraction) → n ≡ length lp.sides → y ≡ factor_of_free d i (suc (n + n + r)) n → z ≡ minus y → u ≡ whole_fraction (pos 1) → x ≡ cond (i == suc (n + n + r)) u z → x ≡ row_multiplier lp d i r
row_by lp d i r n x y z u e f g h is =
    is ∙ ap₂ (λ u z. cond (i == suc (n + n + r)) u z) h (g ∙ ap minus f) ∙ ap (λ n. cond (i == suc (n + n + r)) (whole_fraction (pos 1)) (minus (factor_of_free d i (suc (n + n + r)) n))) e ∙ ap (λ b. cond b (whole_fraction (pos 1)) (minus (factor_of_free d i (surplus_row lp r) (length lp.sides)))) (eqb_turned i (surplus_row lp r))

-- ---- lists that are pushed
pub basis_more : (free made new : List ℕ) (column : ℕ) → 0 < column → column < length free → made ≡ drop 1 (take column free) → new ≡ made ++ slice_index free column ∷ [] → new ≡ drop 1 (take (column + 1) free)
basis_more [] made new column s l h e = absurd (omega (arith, l))
basis_more (x ∷ free) made new zero s l h e = absurd (omega arith)
basis_more (x ∷ free) made new (suc column) s l h e =
    e ∙ ap (λ xs. xs ++ slice_index free column ∷ []) h ∙ sym (take_more free column 0 (omega (arith, l))) ∙ ap (λ n. drop 1 (take n (x ∷ free))) (again column)
  where
    again : (n : ℕ) → suc (n + 1) ≡ suc n + 1
    again n = omega arith

pub point_more : (d : Dictionary) (made new : List Fraction) (column : ℕ) (x : Fraction) → length made ≡ column → new ≡ made ++ x ∷ [] → x ≡ cell_of d (column + 1) 0 → ((j : ℕ) → j < column → number made j ≡ cell_of d (suc j) 0) → (j : ℕ) → j < column + 1 → number new j ≡ cell_of d (suc j) 0
point_more d made new column x size e is h j l = ap (λ xs. number xs j) e ∙ pick (same_or_not j column)
  where
    one : (n : ℕ) → n + 1 ≡ suc n
    one n = omega arith

    pick : (j ≡ column) ⊎ (j ≢ column) → number (made ++ x ∷ []) j ≡ cell_of d (suc j) 0
    pick (inl same) = get_or_push made x (whole_fraction (pos 0)) j (size ∙ sym same) ∙ is ∙ ap (λ n. cell_of d n 0) (one column) ∙ ap (λ n. cell_of d (suc n) 0) (sym same)
    pick (inr ne) = get_or_append_left made (x ∷ []) (whole_fraction (pos 0)) j (omega (arith, l, ne, size)) ∙ h j (omega (arith, l, ne))

-- ---- where a number is too wide
pub wide_pivot_shown : (lp : Lp) (best : Option ℤ) (d : Dictionary) (at : PivotAt) (cell : WideCell) → Stands lp best d → IsChosen (least_of d.low) best (table d) at.row at.column → IsFirstWide d at.row at.column cell.row cell.column → Shows lp best (Wide (record { basis = drop 1 d.free; pivot = Some at; cell = Some cell }))
wide_pivot_shown lp best d at cell s chosen w = (d, record { stands = s; those = refl; chosen = chosen; wide = w })

pub wide_end_shown : (lp : Lp) (best : Option ℤ) (d : Dictionary) → Stands lp best d → HasNoBound lp best d → Shows lp best (Wide (record { basis = drop 1 d.free; pivot = None; cell = None }))
wide_end_shown lp best d s none = (d, record { stands = s; those = refl; none = none })

pub none_by_aim : (lp : Lp) (d : Dictionary) (ms : List Mult) (o : Option Fraction) → ms ≡ multipliers_of (objective_multiplier lp d) (length lp.rows) → o ≡ bound_with lp lp.aim ms → o ≡ None → bound_with lp lp.aim (multipliers_of (objective_multiplier lp d) (length lp.rows)) ≡ None
none_by_aim lp d ms o e f g = sym (f ∙ ap (bound_with lp lp.aim) e) ∙ g

pub none_by_row : (lp : Lp) (d : Dictionary) (i : ℕ) (ms : List Mult) (o : Option Fraction) → ms ≡ multipliers_of (row_multiplier lp d i) (length lp.rows) → o ≡ bound_with lp [] ms → o ≡ None → bound_with lp [] (multipliers_of (row_multiplier lp d i) (length lp.rows)) ≡ None
none_by_row lp d i ms o e f g = sym (f ∙ ap (bound_with lp []) e) ∙ g

-- ---- the shape of a dictionary on the path
pub shape_height : (lp : Lp) → IsWellFormedLp lp → (best : Option ℤ) (d : Dictionary) → AreLeast lp (least_of d.low) → Stands lp best d → d.height ≡ suc (length lp.sides + length lp.sides + length lp.rows)
shape_height lp w best d a s = (path_shaped lp w (least_of d.low) a best s.steps (table d) s.on).height

pub shape_width : (lp : Lp) → IsWellFormedLp lp → (best : Option ℤ) (d : Dictionary) → AreLeast lp (least_of d.low) → IsDictionary d → Stands lp best d → d.width ≡ length lp.sides + 1
shape_width lp w best d a own s =
    widened d.width (length d.low) (length lp.sides) (path_shaped lp w (least_of d.low) a best s.steps (table d) s.on).width own.width
  where
    widened : (w m n : ℕ) → w - 1 ≡ n → w ≡ m + 1 → w ≡ n + 1
    widened w m n e f = omega (arith, e, f)

-- ---- before a list is pushed
pub basis_none : (free : List ℕ) → [] ≡ drop 1 (take 1 free)
basis_none [] = refl
basis_none (x ∷ free) = refl

pub one_longer : (made new : List Fraction) (x : Fraction) (n : ℕ) → new ≡ made ++ x ∷ [] → length made ≡ n → length new ≡ n + 1
one_longer made new x n e size = ap length e ∙ length_push made x ∙ ap (λ k. k + 1) size
