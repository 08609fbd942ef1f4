-- What the ends of the path show.
use Rattle.std.proofs.Common.{◌≡◌, ◌⊎◌, inl, inr, ℕ, zero, suc, ◌<◌, true, false, ℤ, pos, ◌-ℤ◌, Option, Some, None, List, [], ◌∷◌, length, get_or, refl, sym, ◌∙◌, ap, ap₂, subst, arith}
use Rattle.std.specs.Prelude.{IfSome}
use Rattle.std.specs.List.{All}
use Rattle.std.proofs.lemmas.List.Elements.{All-head, All-tail}
use Rattle.rat128.specs.Fractions.{Fraction}
use Rattle.rat128.specs.Rationals.{ℚ, value, whole, zero_ℚ, ◌+ℚ◌, ◌*ℚ◌, ◌<ℚ◌, ◌≤ℚ◌}
use Rattle.rat128.proofs.Rationals.{<ℚ-≤ℚ_trans, ≤ℚ_antisymm, ≤ℚ_total}
use Rattle.ip_rows.specs.declared.rows.Coef.{Coef}
use Rattle.ip_rows.specs.declared.lp.Lp.{Lp}
use Rattle.ip_rows.specs.declared.mult.Mult.{Mult}
use Rattle.ip_rows.specs.Rows.{side_at}
use Rattle.ip_rows.specs.Lps.{IsWellFormedLp}
use Rattle.ip_rows.specs.Points.{terms_at, IsWithin, Meets}
use Rattle.safe_bound.specs.Bound.{row_at}
use Rattle.safe_bound.specs.Below.{AreNotNegative, IsAtMost}
use Rattle.safe_bound.specs.Exact.{exact_bound}
use Rattle.safe_bound.proofs.Columns.{climbs}
use Rattle.safe_bound.proofs.Duality.{IsOver, rows_over}
use Rattle.safe_bound.proofs.Corners.{AreOpen, lagrangian, bound_reaches, none_closes}
use Rattle.dict_pivot.specs.Dictionaries.{Dictionary, number, cell_of, least_of, table}
use Rattle.dict_pivot.specs.Quantities.{row_of, quantity_of, quantities, AreLeast}
use Rattle.dict_pivot.proofs.StartLaws.{meaning_value}
use Rattle.dual_simplex.specs.declared.answer.Relaxed.TheVariants.{Closed, Optimum}
use Rattle.dual_simplex.specs.Path.{FirstViolated, NoneViolated, NoneEnters, IsPast}
use Rattle.dual_simplex.specs.Shown.{objective_multiplier, row_multiplier, multipliers_of, first_columns, bound_with, IsRelaxed, IsLeast, Stands}
use Rattle.dual_simplex.specs.Evidence.{Shows}
use Rattle.dual_simplex.proofs.LeastPoints.{lex_front, least_point, constants_are}
use Rattle.dual_simplex.proofs.Bounds.{objective_above, objective_not_negative, row_below, row_not_negative}
use Rattle.dual_simplex.proofs.Reach.{columns_rise, columns_there, columns_contain, all_listed, reach_is}

-- ---- points that agree on a part's columns
pub terms_same : (n : ℕ) (x y : ℕ → ℚ) (ts : List Coef) → ((j : ℕ) → j < n → x j ≡ y j) → All (λ (t : Coef). t.column < n) ts → terms_at x ts ≡ terms_at y ts
terms_same n x y [] h there = refl
terms_same n x y (t ∷ ts) h there =
    ap₂ (λ p q. whole t.factor *ℚ p +ℚ q) (h t.column (All-head (λ (t : Coef). t.column < n) t ts there)) (terms_same n x y ts h (All-tail (λ (t : Coef). t.column < n) t ts there))

module _ (lp : Lp) (w : IsWellFormedLp lp) where
  relaxed_same : (x y : ℕ → ℚ) → ((j : ℕ) → j < length lp.sides → x j ≡ y j) → IsRelaxed lp x → IsRelaxed lp y
  relaxed_same x y h r = record {
    inside = record {
      low = λ j l. subst (λ z. whole (side_at lp.sides j).lo ≤ℚ z) (h j l) (r.inside.low j l);
      high = λ j l. subst (λ z. z ≤ℚ whole (side_at lp.sides j).hi) (h j l) (r.inside.high j l);
    };
    meets = λ i l. subst (λ z. whole (row_of lp.rows i).least ≤ℚ z) (terms_same (length lp.sides) x y (row_of lp.rows i).terms h (w.rows i (record { terms = []; least = pos 0 }) l).there) (r.meets i l);
  }

  pub front_same : (x y : ℕ → ℚ) → ((j : ℕ) → j < length lp.sides → x j ≡ y j) → (i : ℕ) → i < suc (length lp.sides) → quantities lp x i ≡ quantities lp y i
  front_same x y h zero l = terms_same (length lp.sides) x y lp.aim h w.aim.there
  front_same x y h (suc j) l =
      let m : j < length lp.sides = omega (arith, l) in
      ap (λ q. quantity_of lp x q) (meaning_value (length lp.sides) j m) ∙ h j m ∙ sym (ap (λ q. quantity_of lp y q) (meaning_value (length lp.sides) j m))

  least_same : (x y : ℕ → ℚ) → ((j : ℕ) → j < length lp.sides → x j ≡ y j) → IsLeast lp x → IsLeast lp y
  least_same x y h m = record {
    relaxed = relaxed_same x y h m.relaxed;
    least = λ other r. lex_front (suc (length lp.sides)) (suc (length lp.sides)) (quantities lp x) (quantities lp y) (quantities lp other) (omega arith) (front_same x y h) (m.least other r);
  }

  -- ---- the bound over all columns
  named : (f : ℕ → Fraction) → All (λ (m : Mult). m.row < length lp.rows) (multipliers_of f (length lp.rows))
  named f = all_listed (λ (m : Mult). m.row < length lp.rows) f (length lp.rows) (λ r l. l)

  rows_are_over : (f : ℕ → Fraction) → All (λ (m : Mult). IsOver (first_columns (length lp.sides)) (row_at lp.rows m.row)) (multipliers_of f (length lp.rows))
  rows_are_over f =
      rows_over lp.rows lp.aim (multipliers_of f (length lp.rows)) (first_columns (length lp.sides)) (length lp.sides) w.rows (named f) (reach_is (length lp.sides) lp.rows lp.aim (multipliers_of f (length lp.rows)) w.aim w.rows (named f))

  module _ (opened : AreOpen lp.sides) (d : Dictionary) (a : AreLeast lp (least_of d.low)) where
    reaches : (f : ℕ → Fraction) (x : ℚ) → ((y : ℕ → ℚ) → IsWithin lp.sides y → x ≤ℚ lagrangian lp.rows lp.aim (multipliers_of f (length lp.rows)) y) → x ≤ℚ exact_bound lp.rows lp.aim lp.sides (multipliers_of f (length lp.rows)) (first_columns (length lp.sides))
    reaches f x h =
        bound_reaches lp.rows lp.aim (multipliers_of f (length lp.rows)) lp.sides (first_columns (length lp.sides)) (climbs (first_columns (length lp.sides)) (columns_rise (length lp.sides))) (columns_there (length lp.sides)) w.aim.rising (λ k e l. columns_contain (length lp.sides) (get_or lp.aim k e).column (w.aim.there k e l)) (rows_are_over f) opened x h

    -- the bound by the aim's row is at least the aim's constant
    constant_at_most : (best : Option ℤ) (s : Stands lp best d) (ms : List Mult) (z : Fraction) → ms ≡ multipliers_of (objective_multiplier lp d) (length lp.rows) → value z ≡ exact_bound lp.rows lp.aim lp.sides ms (first_columns (length lp.sides)) → value (cell_of d 0 0) ≤ℚ value z
    constant_at_most best s ms z e x =
        subst (λ v. value (cell_of d 0 0) ≤ℚ v) (sym x) (subst (λ (ms : List Mult). value (cell_of d 0 0) ≤ℚ exact_bound lp.rows lp.aim lp.sides ms (first_columns (length lp.sides))) (sym e) (reaches (objective_multiplier lp d) (value (cell_of d 0 0)) (objective_above lp w best d a s.steps s.on)))

    -- no multiplier is negative
    objective_signs : (best : Option ℤ) (s : Stands lp best d) (ms : List Mult) → ms ≡ multipliers_of (objective_multiplier lp d) (length lp.rows) → AreNotNegative ms
    objective_signs best s ms e =
        subst AreNotNegative (sym e) (all_listed (λ (m : Mult). zero_ℚ ≤ℚ value m.factor) (objective_multiplier lp d) (length lp.rows) (λ r l. objective_not_negative lp w best d a s.steps s.on r))

    row_signs : (best : Option ℤ) (s : Stands lp best d) (i : ℕ) → FirstViolated (least_of d.low) (table d) i → NoneEnters (table d) i → (ms : List Mult) → ms ≡ multipliers_of (row_multiplier lp d i) (length lp.rows) → AreNotNegative ms
    row_signs best s i v stuck ms e =
        subst AreNotNegative (sym e) (all_listed (λ (m : Mult). zero_ℚ ≤ℚ value m.factor) (row_multiplier lp d i) (length lp.rows) (λ r l. row_not_negative lp w best d a s.steps s.on i v stuck r))

    pub past_shown : (best : Option ℤ) → Stands lp best d → IsPast best (table d) → (ms : List Mult) (z : Fraction) → ms ≡ multipliers_of (objective_multiplier lp d) (length lp.rows) → bound_with lp lp.aim ms ≡ Some z → value z ≡ exact_bound lp.rows lp.aim lp.sides ms (first_columns (length lp.sides)) → Shows lp best (Closed true ms)
    past_shown None s p ms z e g x = absurd p
    past_shown (Some b) s p ms z e g x = (
      d,
      b,
      refl,
      record {
        stands = s;
        past = p;
        those = e;
        not_negative = objective_signs (Some b) s ms e;
        bound = z;
        given = g;
        above = <ℚ-≤ℚ_trans (whole (b -ℤ pos 1)) (value (cell_of d 0 0)) (value z) p (constant_at_most (Some b) s ms z e x);
      },
    )

    pub none_shown : (best : Option ℤ) → Stands lp best d → (IsPast best (table d) → ⊥) → (i : ℕ) → FirstViolated (least_of d.low) (table d) i → NoneEnters (table d) i → (ms : List Mult) (z : Fraction) → ms ≡ multipliers_of (row_multiplier lp d i) (length lp.rows) → bound_with lp [] ms ≡ Some z → value z ≡ exact_bound lp.rows [] lp.sides ms (first_columns (length lp.sides)) → Shows lp best (Closed false ms)
    none_shown best s ahead i v stuck ms z e g x = (
      d,
      record {
        stands = s;
        ahead = ahead;
        row = i;
        violated = v;
        stuck = stuck;
        those = e;
        not_negative = row_signs best s i v stuck ms e;
        bound = z;
        given = g;
        above = subst (λ q. zero_ℚ <ℚ q) (sym x) (subst (λ (ms : List Mult). zero_ℚ <ℚ exact_bound lp.rows [] lp.sides ms (first_columns (length lp.sides))) (sym e) (none_closes lp.rows (multipliers_of (row_multiplier lp d i) (length lp.rows)) lp.sides (first_columns (length lp.sides)) (climbs (first_columns (length lp.sides)) (columns_rise (length lp.sides))) (columns_there (length lp.sides)) (rows_are_over (row_multiplier lp d i)) opened (row_below lp w best d a s.steps s.on i v stuck)));
      },
    )

    better_than : (best : Option ℤ) (z : Fraction) → value z ≡ value (cell_of d 0 0) → (IsPast best (table d) → ⊥) → IfSome best (λ (b : ℤ). value z ≤ℚ whole (b -ℤ pos 1))
    better_than None z e ahead = tt
    better_than (Some b) z e ahead = pick (≤ℚ_total (value z) (whole (b -ℤ pos 1)))
      where
        pick : (value z ≤ℚ whole (b -ℤ pos 1)) ⊎ (whole (b -ℤ pos 1) <ℚ value z) → value z ≤ℚ whole (b -ℤ pos 1)
        pick (inl le) = le
        pick (inr lt) = absurd (ahead (subst (λ q. whole (b -ℤ pos 1) <ℚ q) e lt))

    pub optimum_shown : (best : Option ℤ) → Stands lp best d → (IsPast best (table d) → ⊥) → NoneViolated (least_of d.low) (table d) → (ms : List Mult) (z : Fraction) (point : List Fraction) → ms ≡ multipliers_of (objective_multiplier lp d) (length lp.rows) → bound_with lp lp.aim ms ≡ Some z → value z ≡ exact_bound lp.rows lp.aim lp.sides ms (first_columns (length lp.sides)) → (AreNotNegative ms → IsAtMost (value z) lp.rows lp.aim lp.sides ms) → length point ≡ length lp.sides → ((j : ℕ) → j < length lp.sides → number point j ≡ cell_of d (suc j) 0) → Shows lp best (Optimum z point ms)
    optimum_shown best s ahead none ms z point e g x below size each =
        let found : ℕ → ℚ = λ j. value (number point j) in
        let agree : (j : ℕ) → j < length lp.sides → value (cell_of d (suc j) 0) ≡ found j = λ j l. ap value (sym (each j l)) in
        let least : IsLeast lp found = least_same (λ j. value (cell_of d (suc j) 0)) found agree (least_point lp w (least_of d.low) a best s.steps (table d) s.on none) in
        let first : value (cell_of d 0 0) ≡ terms_at found lp.aim = constants_are lp w (least_of d.low) a best s.steps (table d) s.on 0 (omega arith) ∙ terms_same (length lp.sides) (λ j. value (cell_of d (suc j) 0)) found lp.aim agree w.aim.there in
        let not_negative : AreNotNegative ms = objective_signs best s ms e in
        let met : All (λ (m : Mult). Meets found (row_at lp.rows m.row)) ms = subst (All (λ (m : Mult). Meets found (row_at lp.rows m.row))) (sym e) (all_listed (λ (m : Mult). Meets found (row_at lp.rows m.row)) (objective_multiplier lp d) (length lp.rows) (λ r l. least.relaxed.meets r l)) in
        let most : value z ≤ℚ value (cell_of d 0 0) = subst (λ q. value z ≤ℚ q) (sym first) (below not_negative found least.relaxed.inside met) in
        let same : value z ≡ value (cell_of d 0 0) = ≤ℚ_antisymm (value z) (value (cell_of d 0 0)) most (constant_at_most best s ms z e x) in (
          d,
          record {
            stands = s;
            ahead = ahead;
            none = none;
            those = e;
            not_negative = not_negative;
            size = size;
            least = least;
            is_worth = sym first ∙ sym same;
            better = better_than best z same ahead;
            given = g;
          },
        )
