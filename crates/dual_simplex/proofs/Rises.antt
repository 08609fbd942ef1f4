-- At each step of the path the constants of the objective and of the columns' values rise.
use Rattle.std.proofs.Common.{◌≡◌, ◌⊎◌, inl, inr, ℕ, suc, ◌+◌, ◌-◌, ◌*◌, ◌<◌, ◌≤◌, ℤ, pos, Option, [], length, sym, ◌∙◌, ap, subst, arith}
use Rattle.std.proofs.lemmas.Bool.{cases_lt}
use Rattle.rat128.specs.Rationals.{ℚ, whole, ◌-ℚ◌, ◌<ℚ◌}
use Rattle.rat128.proofs.Rationals.{<ℚ_irrefl}
use Rattle.ip_rows.specs.declared.lp.Lp.{Lp}
use Rattle.ip_rows.specs.Rows.{side_at}
use Rattle.ip_rows.specs.Lps.{IsWellFormedLp}
use Rattle.dict_pivot.specs.Tables.{Table}
use Rattle.dict_pivot.specs.Quantities.{Quantity, UpperDistance, RowSurplus, meaning, row_of, quantity_of, quantities, AreLeast}
use Rattle.dict_pivot.proofs.StartLaws.{meaning_at_upper, meaning_at_row}
use Rattle.dual_simplex.specs.Path.{LexLess, Next, OnPath, PathRises}
use Rattle.dual_simplex.proofs.Steps.{next_rises}
use Rattle.dual_simplex.proofs.Ends.{path_shaped, path_is_good}
use Rattle.dual_simplex.proofs.LeastPoints.{constants_are}
use Rattle.dual_simplex.proofs.Evidence.{terms_same, front_same}

module _ (lp : Lp) (w : IsWellFormedLp lp) where
  -- points that agree on the columns have the same quantities
  quantities_same : (x y : ℕ → ℚ) → ((j : ℕ) → j < length lp.sides → x j ≡ y j) → (i : ℕ) → i < suc (length lp.sides + length lp.sides + length lp.rows) → quantities lp x i ≡ quantities lp y i
  quantities_same x y h i l = first (cases_lt i (suc (length lp.sides)))
    where
      by : (q : Quantity) → meaning (length lp.sides) i ≡ q → quantity_of lp x q ≡ quantity_of lp y q → quantities lp x i ≡ quantities lp y i
      by q e same = ap (quantity_of lp x) e ∙ same ∙ sym (ap (quantity_of lp y) e)

      second : length lp.sides < i → (2 * length lp.sides < i) ⊎ (i ≤ 2 * length lp.sides) → quantities lp x i ≡ quantities lp y i
      second big (inl above) =
          let r = i - 1 - 2 * length lp.sides in
          let m : r < length lp.rows = omega (arith, above, l) in
          by (RowSurplus r) (meaning_at_row (length lp.sides) i above) (ap (λ s. s -ℚ whole (row_of lp.rows r).least) (terms_same (length lp.sides) x y (row_of lp.rows r).terms h (w.rows r (record { terms = []; least = pos 0 }) m).there))
      second big (inr le) =
          let j = i - 1 - length lp.sides in
          let m : j < length lp.sides = omega (arith, big, le) in
          by (UpperDistance j) (meaning_at_upper (length lp.sides) i big le) (ap (λ z. whole (side_at lp.sides j).hi -ℚ z) (h j m))

      more : (m n : ℕ) → suc m ≤ n → m < n
      more m n le = omega (arith, le)

      first : (i < suc (length lp.sides)) ⊎ (suc (length lp.sides) ≤ i) → quantities lp x i ≡ quantities lp y i
      first (inl lt) = front_same lp w x y h i lt
      first (inr ge) = second (more (length lp.sides) i ge) (cases_lt (2 * length lp.sides) i)

  module _ (least : ℕ → ℚ) (a : AreLeast lp least) (best : Option ℤ) where
    -- constants that agree in the first rows agree in all
    same_after : (k k' : ℕ) (t t' : Table) → OnPath lp least best k t → OnPath lp least best k' t' → ((i : ℕ) → i < suc (length lp.sides) → t.cell i 0 ≡ t'.cell i 0) → (i : ℕ) → i < suc (length lp.sides + length lp.sides + length lp.rows) → t.cell i 0 ≡ t'.cell i 0
    same_after k k' t t' on on' h i l =
        constants_are lp w least a best k t on i l ∙ quantities_same (λ j. t.cell (suc j) 0) (λ j. t'.cell (suc j) 0) (λ j m. h (suc j) (omega (arith, m))) i l ∙ sym (constants_are lp w least a best k' t' on' i l)

    rises_first : (k : ℕ) (t t' : Table) → OnPath lp least best k t → Next least best t t' → LexLess t.height (λ i. t.cell i 0) (λ i. t'.cell i 0) → LexLess (suc (length lp.sides)) (λ i. t.cell i 0) (λ i. t'.cell i 0)
    rises_first k t t' on n l = pick (cases_lt l.at (suc (length lp.sides)))
      where
        low : l.at < suc (length lp.sides + length lp.sides + length lp.rows)
        low = subst (λ h. l.at < h) (path_shaped lp w least a best k t on).height l.within

        under : (i m n : ℕ) → i < n → n ≤ m → i < m
        under i m n lt le = omega (arith, lt, le)

        pick : (l.at < suc (length lp.sides)) ⊎ (suc (length lp.sides) ≤ l.at) → LexLess (suc (length lp.sides)) (λ i. t.cell i 0) (λ i. t'.cell i 0)
        pick (inl lt) = record { at = l.at; within = lt; less = l.less; before = l.before }
        pick (inr ge) = absurd (<ℚ_irrefl (t'.cell l.at 0) (subst (λ z. z <ℚ t'.cell l.at 0) (same_after k (suc k) t t' on (t, on, n) (λ i m. l.before i (under i l.at (suc (length lp.sides)) m ge)) l.at low) l.less))

  pub path_rises : (best : Option ℤ) → PathRises lp best
  path_rises best = λ least k t t' a on n. rises_first least a best k t t' on n (next_rises least best t t' n (path_is_good lp w least a best k t on))
