-- The bound by the multipliers of a row of a dictionary on the path.
use Rattle.std.proofs.Common.{◌≡◌, ◌≢◌, ◌⊎◌, inl, inr, ℕ, zero, suc, ◌+◌, ◌-◌, ◌*◌, ◌<◌, ◌≤◌, ◌==◌, Bool, true, false, cond, ℤ, pos, Option, length, refl, sym, ◌∙◌, ap, ap₂, subst, subst₂, arith, eq-eqb}
use Rattle.std.proofs.lemmas.Bool.{cases_lt, eqb-true, ne_eqb}
use Rattle.std.proofs.lemmas.Int.{ints}
use Rattle.rat128.specs.Fractions.{Fraction, whole_fraction, minus}
use Rattle.rat128.specs.Rationals.{ℚ, value, whole, zero_ℚ, one_ℚ, ◌+ℚ◌, ◌-ℚ◌, ◌*ℚ◌, neg_ℚ, ◌<ℚ◌, ◌≤ℚ◌, value-minus}
use Rattle.rat128.proofs.Rationals.{+ℚ_comm, +ℚ_assoc, +ℚ_zero, zero-+ℚ, +ℚ_neg, *ℚ-+ℚ, one-*ℚ, neg_ℚ-*ℚ, neg_ℚ-+ℚ, ≤ℚ_refl, ≤ℚ_from_≡, ≤ℚ_from_<ℚ, <ℚ_irrefl, ≤ℚ-<ℚ_trans, ≤ℚ-+ℚ, ≤ℚ-+ℚ_both, <ℚ-+ℚ_both, not_negative-*ℚ, ≤ℚ-*ℚ, zero-*ℚ, ≤ℚ-neg_ℚ, ≤ℚ_whole}
use Rattle.ip_rows.specs.declared.lp.Lp.{Lp}
use Rattle.ip_rows.specs.Rows.{side_at}
use Rattle.ip_rows.specs.Lps.{IsWellFormedLp}
use Rattle.ip_rows.specs.Points.{IsWithin}
use Rattle.safe_bound.specs.Bound.{row_at}
use Rattle.safe_bound.proofs.Columns.{taken_back}
use Rattle.safe_bound.proofs.Corners.{surplus, surpluses, lagrangian}
use Rattle.dict_pivot.specs.Tables.{Table, IsColumn, total, distance}
use Rattle.dict_pivot.specs.Dictionaries.{Dictionary, least_of, table}
use Rattle.dict_pivot.specs.Quantities.{UpperDistance, meaning, quantity_of, quantities, AreLeast}
use Rattle.dict_pivot.proofs.PivotLaws.{same_or_not, neg_zero, zero_times}
use Rattle.dict_pivot.proofs.Sums.{total_zero, total_same, total_plus, cross_sum}
use Rattle.dict_pivot.proofs.StartLaws.{meaning_value, meaning_at_upper, meaning_at_row}
use Rattle.dual_simplex.specs.Path.{FirstViolated, NoneEnters, OnPath}
use Rattle.dual_simplex.specs.Goods.{LexPositive}
use Rattle.dual_simplex.specs.Shown.{factor_of_free, surplus_row, objective_multiplier, row_multiplier, multipliers_of}
use Rattle.dual_simplex.proofs.Points.{total_not_negative, total_not_positive, up_from}
use Rattle.dual_simplex.proofs.Ends.{path_shaped, path_solves, path_is_good}
use Rattle.dual_simplex.proofs.LeastPoints.{path_named}
use Rattle.dual_simplex.proofs.Multipliers.{sum_to, sum_same, surpluses_listed, frees_differ, factor_is, exchanged, no_surplus, one_surplus}

-- ---- sums
less_zero : (x : ℚ) → x -ℚ zero_ℚ ≡ x
less_zero x = ap (λ s. x +ℚ s) neg_zero ∙ +ℚ_zero x

more_less : (a b : ℚ) → (a +ℚ b) -ℚ b ≡ a
more_less a b = +ℚ_assoc a b (neg_ℚ b) ∙ ap (λ s. a +ℚ s) (+ℚ_neg b) ∙ +ℚ_zero a

sum_less : (m : ℕ) (f g : ℕ → ℚ) → sum_to m (λ r. f r +ℚ neg_ℚ (g r)) ≡ sum_to m f -ℚ sum_to m g
sum_less zero f g = sym (less_zero zero_ℚ)
sum_less (suc m) f g =
    ap (λ s. s +ℚ (f m +ℚ neg_ℚ (g m))) (sum_less m f g) ∙ cross_sum (sum_to m f) (neg_ℚ (sum_to m g)) (f m) (neg_ℚ (g m)) ∙ ap (λ s. (sum_to m f +ℚ f m) +ℚ s) (sym (neg_ℚ-+ℚ (sum_to m g) (g m)))

pub eqb_turned : (a b : ℕ) → (a == b) ≡ (b == a)
eqb_turned a b = pick (same_or_not a b)
  where
    pick : (a ≡ b) ⊎ (a ≢ b) → (a == b) ≡ (b == a)
    pick (inl e) = eq-eqb a b e ∙ sym (eq-eqb b a (sym e))
    pick (inr ne) = ne_eqb a b ne ∙ sym (ne_eqb b a (λ e. ne (sym e)))

-- a multiplier of a violated row, times a surplus
own_or_negated : (b : Bool) (p : Fraction) (x : ℚ) → (b ≡ true → value p ≡ zero_ℚ) → value (cond b (whole_fraction (pos 1)) (minus p)) *ℚ x ≡ cond b x zero_ℚ +ℚ neg_ℚ (value p *ℚ x)
own_or_negated true p x none =
    one-*ℚ x ∙ sym (ap (λ s. x +ℚ neg_ℚ s) (zero_times (value p) x (none refl)) ∙ ap (λ s. x +ℚ s) neg_zero ∙ +ℚ_zero x)
own_or_negated false p x none =
    ap (λ s. s *ℚ x) (sym (value-minus p)) ∙ neg_ℚ-*ℚ (value p) x ∙ sym (zero-+ℚ (neg_ℚ (value p *ℚ x)))

module _ (lp : Lp) (w : IsWellFormedLp lp) (best : Option ℤ) (d : Dictionary) (a : AreLeast lp (least_of d.low)) (k : ℕ) (on : OnPath lp (least_of d.low) best k (table d)) where
  abbrev n : ℕ
  n = length lp.sides

  abbrev base : ℕ
  base = length lp.sides + length lp.sides

  abbrev t : Table
  t = table d

  abbrev spare : (ℕ → ℚ) → ℕ → ℚ
  spare y r = surplus y (row_at lp.rows r)

  -- what of a free quantity's distance is a row's surplus, and what is left
  abbrev counted : (ℕ → ℚ) → ℕ → ℚ
  counted y j = sum_to (length lp.rows) (λ r. cond (t.free j == suc (base + r)) (spare y r) zero_ℚ)

  abbrev left : (ℕ → ℚ) → ℕ → ℚ
  left y j = distance (least_of d.low) (quantities lp y) (t.free j) -ℚ counted y j

  column : (j : ℕ) → 0 < j → j ≤ n → IsColumn t j
  column j s le = record { some = s; within = subst (λ m. j ≤ m) (sym (path_shaped lp w (least_of d.low) a best k t on).width) le }

  -- within the sides the values and their distances from the upper sides are allowed
  box_allowed : (y : ℕ → ℚ) → IsWithin lp.sides y → (i : ℕ) → 0 < i → i ≤ base → least_of d.low i ≤ℚ quantities lp y i
  box_allowed y inside zero s l = absurd (omega arith)
  box_allowed y inside (suc i) s l = first (cases_lt i n)
    where
      upper : (j : ℕ) → j < n → n < suc i → meaning n (suc i) ≡ UpperDistance j → least_of d.low (suc i) ≤ℚ quantities lp y (suc i)
      upper j m big e = subst (λ q. least_of d.low (suc i) ≤ℚ quantity_of lp y q) (sym e) (subst (λ z. z ≤ℚ (whole (side_at lp.sides j).hi -ℚ y j)) (sym (a.others (suc i) big)) (up_from (whole (side_at lp.sides j).hi) (y j) (inside.high j m)))

      first : (i < n) ⊎ (n ≤ i) → least_of d.low (suc i) ≤ℚ quantities lp y (suc i)
      first (inl lt) = subst (λ q. least_of d.low (suc i) ≤ℚ quantity_of lp y q) (sym (meaning_value n i lt)) (subst (λ z. z ≤ℚ y i) (sym (a.values i lt)) (inside.low i lt))
      first (inr ge) = upper (suc i - 1 - n) (omega (arith, ge, l)) (omega (arith, ge)) (meaning_at_upper n (suc i) (omega (arith, ge)) (omega (arith, l)))

  -- the distance of a row's surplus is that surplus
  surplus_distance : (y : ℕ → ℚ) (i : ℕ) → base < i → distance (least_of d.low) (quantities lp y) i ≡ spare y (i - 1 - 2 * n)
  surplus_distance y i big =
      ap₂ (λ q z. quantity_of lp y q -ℚ z) (meaning_at_row n i (omega (arith, big))) (a.others i (omega (arith, big))) ∙ less_zero (spare y (i - 1 - 2 * n))

  inside_rows : (i : ℕ) → base < i → i < suc (base + length lp.rows) → i - 1 - 2 * n < length lp.rows
  inside_rows i big l = omega (arith, big, l)

  row_again : (i : ℕ) → base < i → i ≡ suc (base + (i - 1 - 2 * n))
  row_again i big = omega (arith, big)

  -- one row's surplus among all
  picked : (y : ℕ → ℚ) (i : ℕ) → base < i → i < suc (base + length lp.rows) → sum_to (length lp.rows) (λ r. cond (i == suc (base + r)) (spare y r) zero_ℚ) ≡ spare y (i - 1 - 2 * n)
  picked y i big l =
      ap (λ h. sum_to (length lp.rows) (λ r. cond (h == suc (base + r)) (spare y r) zero_ℚ)) (row_again i big) ∙ one_surplus (length lp.rows) base (i - 1 - 2 * n) (spare y) (inside_rows i big l)

  tall : (i : ℕ) → i < t.height → i < suc (base + length lp.rows)
  tall i l = subst (λ h. i < h) (path_shaped lp w (least_of d.low) a best k t on).height l

  left_not_negative : (y : ℕ → ℚ) → IsWithin lp.sides y → (j : ℕ) → IsColumn t j → zero_ℚ ≤ℚ left y j
  left_not_negative y inside j col = pick (cases_lt base (t.free j))
    where
      pick : (base < t.free j) ⊎ (t.free j ≤ base) → zero_ℚ ≤ℚ left y j
      pick (inl big) = ≤ℚ_from_≡ zero_ℚ (left y j) (sym (ap₂ (λ p q. p -ℚ q) (surplus_distance y (t.free j) big) (picked y (t.free j) big (tall (t.free j) ((path_shaped lp w (least_of d.low) a best k t on).units.row j col))) ∙ +ℚ_neg (spare y (t.free j - 1 - 2 * n))))
      pick (inr le) = subst (λ z. zero_ℚ ≤ℚ z) (sym (ap (λ z. distance (least_of d.low) (quantities lp y) (t.free j) -ℚ z) (no_surplus (length lp.rows) base (t.free j) (spare y) le) ∙ less_zero (distance (least_of d.low) (quantities lp y) (t.free j)))) (up_from (quantities lp y (t.free j)) (least_of d.low (t.free j)) (box_allowed y inside (t.free j) (path_named lp w (least_of d.low) a best k t on j col) le))

  -- what a row says, parted
  row_said : (y : ℕ → ℚ) (i : ℕ) → i < t.height → quantities lp y i ≡ (t.cell i 0 +ℚ total n (λ j. t.cell i j *ℚ left y j)) +ℚ total n (λ j. t.cell i j *ℚ counted y j)
  row_said y i l =
      (path_solves lp w (least_of d.low) a best k t on y).each i l ∙ ap (λ m. t.cell i 0 +ℚ total m (λ j. t.cell i j *ℚ distance (least_of d.low) (quantities lp y) (t.free j))) (path_shaped lp w (least_of d.low) a best k t on).width ∙ ap (λ s. t.cell i 0 +ℚ s) (total_same n (λ j. t.cell i j *ℚ distance (least_of d.low) (quantities lp y) (t.free j)) (λ j. t.cell i j *ℚ left y j +ℚ t.cell i j *ℚ counted y j) (λ j s le. ap (λ z. t.cell i j *ℚ z) (sym (taken_back (distance (least_of d.low) (quantities lp y) (t.free j)) (counted y j))) ∙ *ℚ-+ℚ (t.cell i j) (left y j) (counted y j)) ∙ total_plus n (λ j. t.cell i j *ℚ left y j) (λ j. t.cell i j *ℚ counted y j)) ∙ sym (+ℚ_assoc (t.cell i 0) (total n (λ j. t.cell i j *ℚ left y j)) (total n (λ j. t.cell i j *ℚ counted y j)))

  differ : (j l : ℕ) → 0 < j → j ≤ n → 0 < l → l ≤ n → j ≢ l → t.free j ≢ t.free l
  differ j l s le m lm ne =
      frees_differ t (path_shaped lp w (least_of d.low) a best k t on).units j l (column j s le) (column l m lm) ne

  -- the factors of the free surpluses, times the surpluses
  factors_counted : (y : ℕ → ℚ) (i : ℕ) → sum_to (length lp.rows) (λ r. value (factor_of_free d i (surplus_row lp r) n) *ℚ spare y r) ≡ total n (λ j. t.cell i j *ℚ counted y j)
  factors_counted y i =
      sum_same (length lp.rows) (λ r. value (factor_of_free d i (surplus_row lp r) n) *ℚ spare y r) (λ r. total n (λ j. cond (t.free j == suc (base + r)) (t.cell i j) zero_ℚ) *ℚ spare y r) (λ r l. ap (λ z. z *ℚ spare y r) (factor_is d i (surplus_row lp r) n differ)) ∙ exchanged n (length lp.rows) (λ j. t.cell i j) t.free (λ r. suc (base + r)) (spare y)

  -- ---- by the objective's multipliers
  first_not_negative : (j : ℕ) → IsColumn t j → zero_ℚ ≤ℚ t.cell 0 j
  first_not_negative j col = pick (same_or_not 0 p.at)
    where
      p : LexPositive t.height (λ i. t.cell i j)
      p = (path_is_good lp w (least_of d.low) a best k t on).positive j col

      pick : (0 ≡ p.at) ⊎ (0 ≢ p.at) → zero_ℚ ≤ℚ t.cell 0 j
      pick (inl e) = ≤ℚ_from_<ℚ zero_ℚ (t.cell 0 j) (subst (λ i. zero_ℚ <ℚ t.cell i j) (sym e) p.above)
      pick (inr ne) = ≤ℚ_from_≡ zero_ℚ (t.cell 0 j) (sym (p.before 0 (above p.at ne)))
        where
          above : (m : ℕ) → 0 ≢ m → 0 < m
          above zero ne = absurd (ne refl)
          above (suc m) ne = omega arith

  at_least : (x y : ℚ) → zero_ℚ ≤ℚ y → x ≤ℚ (x +ℚ y)
  at_least x y h = subst (λ s. s ≤ℚ (x +ℚ y)) (+ℚ_zero x) (≤ℚ-+ℚ_both x x zero_ℚ y (≤ℚ_refl x) h)

  some_height : 0 < t.height
  some_height = subst (λ h. 0 < h) (sym (path_shaped lp w (least_of d.low) a best k t on).height) (omega arith)

  pub objective_above : (y : ℕ → ℚ) → IsWithin lp.sides y → t.cell 0 0 ≤ℚ lagrangian lp.rows lp.aim (multipliers_of (objective_multiplier lp d) (length lp.rows)) y
  objective_above y inside =
      let s : surpluses y lp.rows (multipliers_of (objective_multiplier lp d) (length lp.rows)) ≡ total n (λ j. t.cell 0 j *ℚ counted y j) = surpluses_listed y lp.rows (objective_multiplier lp d) (length lp.rows) ∙ factors_counted y 0 in
      let e : lagrangian lp.rows lp.aim (multipliers_of (objective_multiplier lp d) (length lp.rows)) y ≡ t.cell 0 0 +ℚ total n (λ j. t.cell 0 j *ℚ left y j) = ap₂ (λ p q. p -ℚ q) (row_said y 0 some_height) s ∙ more_less (t.cell 0 0 +ℚ total n (λ j. t.cell 0 j *ℚ left y j)) (total n (λ j. t.cell 0 j *ℚ counted y j)) in
      subst (λ z. t.cell 0 0 ≤ℚ z) (sym e) (at_least (t.cell 0 0) (total n (λ j. t.cell 0 j *ℚ left y j)) (total_not_negative n (λ j. t.cell 0 j *ℚ left y j) (λ j some le. not_negative-*ℚ (t.cell 0 j) (left y j) (first_not_negative j (column j some le)) (left_not_negative y inside j (column j some le)))))

  pub objective_not_negative : (r : ℕ) → zero_ℚ ≤ℚ value (objective_multiplier lp d r)
  objective_not_negative r =
      subst (λ z. zero_ℚ ≤ℚ z) (sym (factor_is d 0 (surplus_row lp r) n differ)) (total_not_negative n (λ j. cond (t.free j == surplus_row lp r) (t.cell 0 j) zero_ℚ) (λ j some le. by_test (t.free j == surplus_row lp r) j (column j some le)))
    where
      by_test : (b : Bool) (j : ℕ) → IsColumn t j → zero_ℚ ≤ℚ cond b (t.cell 0 j) zero_ℚ
      by_test true j col = first_not_negative j col
      by_test false j col = ≤ℚ_refl zero_ℚ

  -- ---- by those of a violated row without a positive factor
  module _ (i : ℕ) (v : FirstViolated (least_of d.low) t i) (stuck : NoneEnters t i) where
    -- the row is free in no column
    not_free : (j : ℕ) → 0 < j → j ≤ n → t.free j ≢ i
    not_free j s le e =
        <ℚ_irrefl (least_of d.low i) (subst (λ z. z <ℚ least_of d.low i) (subst (λ f. t.cell f 0 ≡ least_of d.low f) e ((path_shaped lp w (least_of d.low) a best k t on).home.home j (column j s le))) v.below)

    own_none : (r : ℕ) → (surplus_row lp r == i) ≡ true → value (factor_of_free d i (surplus_row lp r) n) ≡ zero_ℚ
    own_none r e =
        factor_is d i (surplus_row lp r) n differ ∙ total_zero n (λ j. cond (t.free j == surplus_row lp r) (t.cell i j) zero_ℚ) (λ j s le. ap (λ b. cond b (t.cell i j) zero_ℚ) (ne_eqb (t.free j) (surplus_row lp r) (λ f. not_free j s le (f ∙ eqb-true (surplus_row lp r) i e))))

    abbrev own : (ℕ → ℚ) → ℚ
    own y = sum_to (length lp.rows) (λ r. cond (surplus_row lp r == i) (spare y r) zero_ℚ)

    row_surpluses : (y : ℕ → ℚ) → surpluses y lp.rows (multipliers_of (row_multiplier lp d i) (length lp.rows)) ≡ own y -ℚ total n (λ j. t.cell i j *ℚ counted y j)
    row_surpluses y =
        surpluses_listed y lp.rows (row_multiplier lp d i) (length lp.rows) ∙ sum_same (length lp.rows) (λ r. value (row_multiplier lp d i r) *ℚ spare y r) (λ r. cond (surplus_row lp r == i) (spare y r) zero_ℚ +ℚ neg_ℚ (value (factor_of_free d i (surplus_row lp r) n) *ℚ spare y r)) (λ r l. own_or_negated (surplus_row lp r == i) (factor_of_free d i (surplus_row lp r) n) (spare y r) (own_none r)) ∙ sum_less (length lp.rows) (λ r. cond (surplus_row lp r == i) (spare y r) zero_ℚ) (λ r. value (factor_of_free d i (surplus_row lp r) n) *ℚ spare y r) ∙ ap (λ z. own y -ℚ z) (factors_counted y i)

    -- no multiplier of the row is negative
    factor_below : (r : ℕ) → value (factor_of_free d i (surplus_row lp r) n) ≤ℚ zero_ℚ
    factor_below r =
        subst (λ z. z ≤ℚ zero_ℚ) (sym (factor_is d i (surplus_row lp r) n differ)) (total_not_positive n (λ j. cond (t.free j == surplus_row lp r) (t.cell i j) zero_ℚ) (λ j some le. by_test (t.free j == surplus_row lp r) j (column j some le)))
      where
        by_test : (b : Bool) (j : ℕ) → IsColumn t j → cond b (t.cell i j) zero_ℚ ≤ℚ zero_ℚ
        by_test true j col = stuck j col
        by_test false j col = ≤ℚ_refl zero_ℚ

    pub row_not_negative : (r : ℕ) → zero_ℚ ≤ℚ value (row_multiplier lp d i r)
    row_not_negative r = by_test (surplus_row lp r == i)
      where
        one_above : zero_ℚ ≤ℚ one_ℚ
        one_above = ≤ℚ_whole (pos 0) (pos 1) (omega (arith, ints))

        by_test : (b : Bool) → zero_ℚ ≤ℚ value (cond b (whole_fraction (pos 1)) (minus (factor_of_free d i (surplus_row lp r) n)))
        by_test true = one_above
        by_test false = subst₂ (λ a b. a ≤ℚ b) neg_zero (value-minus (factor_of_free d i (surplus_row lp r) n)) (≤ℚ-neg_ℚ (value (factor_of_free d i (surplus_row lp r) n)) zero_ℚ (factor_below r))

    -- the row's own surplus is at most its distance
    own_at_most : (y : ℕ → ℚ) → IsWithin lp.sides y → own y ≤ℚ distance (least_of d.low) (quantities lp y) i
    own_at_most y inside = pick (cases_lt base i)
      where
        same : own y ≡ sum_to (length lp.rows) (λ r. cond (i == suc (base + r)) (spare y r) zero_ℚ)
        same = sum_same (length lp.rows) (λ r. cond (surplus_row lp r == i) (spare y r) zero_ℚ) (λ r. cond (i == suc (base + r)) (spare y r) zero_ℚ) (λ r l. ap (λ b. cond b (spare y r) zero_ℚ) (eqb_turned (surplus_row lp r) i))

        pick : (base < i) ⊎ (i ≤ base) → own y ≤ℚ distance (least_of d.low) (quantities lp y) i
        pick (inl big) = ≤ℚ_from_≡ (own y) (distance (least_of d.low) (quantities lp y) i) (same ∙ picked y i big (tall i v.within) ∙ sym (surplus_distance y i big))
        pick (inr le) = subst (λ z. z ≤ℚ distance (least_of d.low) (quantities lp y) i) (sym (same ∙ no_surplus (length lp.rows) base i (spare y) le)) (up_from (quantities lp y i) (least_of d.low i) (box_allowed y inside i v.some le))

    -- distance, less what is counted: the constant's distance and what is left
    parted : (c x z l : ℚ) → ((c +ℚ x) +ℚ z) -ℚ l ≡ ((c -ℚ l) +ℚ x) +ℚ z
    parted c x z l =
        +ℚ_assoc (c +ℚ x) z (neg_ℚ l) ∙ ap (λ s. (c +ℚ x) +ℚ s) (+ℚ_comm z (neg_ℚ l)) ∙ sym (+ℚ_assoc (c +ℚ x) (neg_ℚ l) z) ∙ ap (λ s. s +ℚ z) (+ℚ_assoc c x (neg_ℚ l) ∙ ap (λ s. c +ℚ s) (+ℚ_comm x (neg_ℚ l)) ∙ sym (+ℚ_assoc c (neg_ℚ l) x))

    below_zero : (t.cell i 0 -ℚ least_of d.low i) <ℚ zero_ℚ
    below_zero =
        subst (λ z. (t.cell i 0 -ℚ least_of d.low i) <ℚ z) (+ℚ_neg (least_of d.low i)) (<ℚ-+ℚ_both (t.cell i 0) (least_of d.low i) (neg_ℚ (least_of d.low i)) (neg_ℚ (least_of d.low i)) v.below (≤ℚ_refl (neg_ℚ (least_of d.low i))))

    left_not_positive : (y : ℕ → ℚ) → IsWithin lp.sides y → total n (λ j. t.cell i j *ℚ left y j) ≤ℚ zero_ℚ
    left_not_positive y inside =
        total_not_positive n (λ j. t.cell i j *ℚ left y j) (λ j some le. subst (λ s. (t.cell i j *ℚ left y j) ≤ℚ s) (zero-*ℚ (left y j)) (≤ℚ-*ℚ (t.cell i j) zero_ℚ (left y j) (left_not_negative y inside j (column j some le)) (stuck j (column j some le))))

    pub row_below : (y : ℕ → ℚ) → IsWithin lp.sides y → surpluses y lp.rows (multipliers_of (row_multiplier lp d i) (length lp.rows)) <ℚ zero_ℚ
    row_below y inside =
        let c = t.cell i 0 -ℚ least_of d.low i in
        let x = total n (λ j. t.cell i j *ℚ left y j) in
        let z = total n (λ j. t.cell i j *ℚ counted y j) in
        let e : distance (least_of d.low) (quantities lp y) i ≡ (c +ℚ x) +ℚ z = ap (λ q. q -ℚ least_of d.low i) (row_said y i v.within) ∙ parted (t.cell i 0) x z (least_of d.low i) in
        let most : (own y -ℚ z) ≤ℚ (((c +ℚ x) +ℚ z) -ℚ z) = ≤ℚ-+ℚ (own y) ((c +ℚ x) +ℚ z) (neg_ℚ z) (subst (λ s. own y ≤ℚ s) e (own_at_most y inside)) in
        let under : (c +ℚ x) <ℚ zero_ℚ = subst (λ s. (c +ℚ x) <ℚ s) (+ℚ_zero zero_ℚ) (<ℚ-+ℚ_both c zero_ℚ x zero_ℚ below_zero (left_not_positive y inside)) in
        subst (λ s. s <ℚ zero_ℚ) (sym (row_surpluses y)) (≤ℚ-<ℚ_trans (own y -ℚ z) (c +ℚ x) zero_ℚ (subst (λ s. (own y -ℚ z) ≤ℚ s) (more_less (c +ℚ x) z) most) under)
