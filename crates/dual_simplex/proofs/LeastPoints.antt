-- Relaxed points and the quantities that are allowed, and the least of them where no row is violated.
use Rattle.std.proofs.Common.{◌≡◌, ◌≢◌, ◌⊎◌, inl, inr, ℕ, zero, suc, ◌+◌, ◌-◌, ◌*◌, ◌<◌, ◌≤◌, Bool, true, false, cond, ℤ, Option, length, sym, ◌∙◌, ap, subst, arith}
use Rattle.std.proofs.lemmas.Bool.{cases_lt}
use Rattle.rat128.specs.Rationals.{ℚ, whole, zero_ℚ, ◌+ℚ◌, ◌-ℚ◌, neg_ℚ, ◌<ℚ◌, ◌≤ℚ◌}
use Rattle.rat128.proofs.Rationals.{+ℚ_comm, +ℚ_assoc, +ℚ_zero, zero-+ℚ, +ℚ_neg, ≤ℚ-+ℚ}
use Rattle.ip_rows.specs.declared.lp.Lp.{Lp}
use Rattle.ip_rows.specs.Rows.{side_at}
use Rattle.ip_rows.specs.Lps.{IsWellFormedLp}
use Rattle.ip_rows.specs.Points.{terms_at, Meets}
use Rattle.dict_pivot.specs.Tables.{Table, IsColumn}
use Rattle.dict_pivot.specs.Quantities.{UpperDistance, RowSurplus, meaning, row_of, quantity_of, quantities, starts_up, first_free, AreLeast}
use Rattle.dict_pivot.proofs.PivotLaws.{same_or_not}
use Rattle.dict_pivot.proofs.StartLaws.{meaning_value, meaning_upper, meaning_at_upper, meaning_at_row}
use Rattle.dual_simplex.specs.Path.{LexAtMost, FirstViolated, NoneViolated, NoneEnters, OnPath}
use Rattle.dual_simplex.specs.Shown.{IsRelaxed, IsLeast}
use Rattle.dual_simplex.proofs.Points.{up_from, constants_least, none_allowed}
use Rattle.dual_simplex.proofs.Ends.{path_shaped, path_solves, path_solved, path_is_good, constants_solve}

-- what is not negative above l is not below it
down_from : (a l : ℚ) → zero_ℚ ≤ℚ (a -ℚ l) → l ≤ℚ a
down_from a l h =
    subst (λ s. s ≤ℚ a) (zero-+ℚ l) (subst (λ s. (zero_ℚ +ℚ l) ≤ℚ s) (+ℚ_assoc a (neg_ℚ l) l ∙ ap (λ s. a +ℚ s) (+ℚ_comm (neg_ℚ l) l ∙ +ℚ_neg l) ∙ +ℚ_zero a) (≤ℚ-+ℚ zero_ℚ (a -ℚ l) l h))

-- the order of the first m of h numbers
pub lex_front : (h m : ℕ) (f f' g : ℕ → ℚ) → m ≤ h → ((i : ℕ) → i < m → f i ≡ f' i) → LexAtMost h f g → LexAtMost m f' g
lex_front h m f f' g le same (inl l) = pick (cases_lt l.at m)
  where
    below : (k i : ℕ) → k < i → i < m → k < m
    below k i a b = omega arith

    past : (k i : ℕ) → k < m → m ≤ i → k < i
    past k i a b = omega arith

    pick : (l.at < m) ⊎ (m ≤ l.at) → LexAtMost m f' g
    pick (inl lt) = inl (record {
      at = l.at;
      within = lt;
      less = subst (λ z. z <ℚ g l.at) (same l.at lt) l.less;
      before = λ k kl. sym (same k (below k l.at kl lt)) ∙ l.before k kl;
    })
    pick (inr ge) = inr (λ i lt. sym (same i lt) ∙ l.before i (past i l.at lt ge))
lex_front h m f f' g le same (inr e) = inr (λ i lt. sym (same i lt) ∙ e i (omega (arith, lt, le)))

module _ (lp : Lp) (w : IsWellFormedLp lp) (least : ℕ → ℚ) (a : AreLeast lp least) (best : Option ℤ) where
  first_above : (j : ℕ) → 0 < j → 0 < first_free lp j
  first_above zero s = absurd (omega arith)
  first_above (suc j) s = by_side (starts_up lp j) (length lp.sides + j) j
    where
      by_side : (b : Bool) (n j : ℕ) → 0 < cond b (suc n) (suc j)
      by_side true n j = omega arith
      by_side false n j = omega arith

  -- the objective is never free
  pub path_named : (k : ℕ) (t : Table) → OnPath lp least best k t → (j : ℕ) → IsColumn t j → 0 < t.free j
  path_named zero t s j col = subst (λ f. 0 < f) (sym (s.frees j col)) (first_above j col.some)
  path_named (suc k) t' (t, on, n) j col =
      pick (same_or_not j n.column) (path_named k t on j (record { some = col.some; within = subst (λ w. j ≤ w) n.pivot.width col.within }))
    where
      pick : (j ≡ n.column) ⊎ (j ≢ n.column) → 0 < t.free j → 0 < t'.free j
      pick (inl e) before = subst (λ j. 0 < t'.free j) (sym e) (subst (λ f. 0 < f) (sym n.pivot.free) n.chosen.violated.some)
      pick (inr ne) before = subst (λ f. 0 < f) (sym (n.pivot.frees j (record { some = col.some; within = subst (λ w. j ≤ w) n.pivot.width col.within }) ne)) before

  -- the quantities of a relaxed point are allowed
  pub relaxed_allowed : (y : ℕ → ℚ) → IsRelaxed lp y → (i : ℕ) → 0 < i → i < suc (length lp.sides + length lp.sides + length lp.rows) → least i ≤ℚ quantities lp y i
  relaxed_allowed y r zero s l = absurd (omega arith)
  relaxed_allowed y r (suc k) s l = first (cases_lt k (length lp.sides))
    where
      upper : (j i : ℕ) → j < length lp.sides → length lp.sides < i → meaning (length lp.sides) i ≡ UpperDistance j → least i ≤ℚ quantities lp y i
      upper j i m big e = subst (λ q. least i ≤ℚ quantity_of lp y q) (sym e) (subst (λ z. z ≤ℚ (whole (side_at lp.sides j).hi -ℚ y j)) (sym (a.others i big)) (up_from (whole (side_at lp.sides j).hi) (y j) (r.inside.high j m)))

      surplus : (j i : ℕ) → j < length lp.rows → length lp.sides < i → meaning (length lp.sides) i ≡ RowSurplus j → least i ≤ℚ quantities lp y i
      surplus j i m big e = subst (λ q. least i ≤ℚ quantity_of lp y q) (sym e) (subst (λ z. z ≤ℚ (terms_at y (row_of lp.rows j).terms -ℚ whole (row_of lp.rows j).least)) (sym (a.others i big)) (up_from (terms_at y (row_of lp.rows j).terms) (whole (row_of lp.rows j).least) (r.meets j m)))

      second : length lp.sides ≤ k → (suc k ≤ 2 * length lp.sides) ⊎ (2 * length lp.sides < suc k) → least (suc k) ≤ℚ quantities lp y (suc k)
      second ge (inl le) = upper (suc k - 1 - length lp.sides) (suc k) (omega (arith, ge, le)) (omega (arith, ge)) (meaning_at_upper (length lp.sides) (suc k) (omega (arith, ge)) le)
      second ge (inr gt) = surplus (suc k - 1 - 2 * length lp.sides) (suc k) (omega (arith, gt, l)) (omega (arith, ge)) (meaning_at_row (length lp.sides) (suc k) gt)

      half : (m n : ℕ) → (m < n) ⊎ (n ≤ m) → (n ≤ m) ⊎ (m < n)
      half m n (inl lt) = inr lt
      half m n (inr le) = inl le

      first : (k < length lp.sides) ⊎ (length lp.sides ≤ k) → least (suc k) ≤ℚ quantities lp y (suc k)
      first (inl lt) = subst (λ q. least (suc k) ≤ℚ quantity_of lp y q) (sym (meaning_value (length lp.sides) k lt)) (subst (λ z. z ≤ℚ y k) (sym (a.values k lt)) (r.inside.low k lt))
      first (inr ge) = second ge (half (2 * length lp.sides) (suc k) (cases_lt (2 * length lp.sides) (suc k)))

  -- and a point whose quantities are allowed is relaxed
  pub allowed_relaxed : (x : ℕ → ℚ) → ((i : ℕ) → 0 < i → i < suc (length lp.sides + length lp.sides + length lp.rows) → least i ≤ℚ quantities lp x i) → IsRelaxed lp x
  allowed_relaxed x h = record {
    inside = record { low = low; high = high };
    meets = meets;
  }
    where
      low : (j : ℕ) → j < length lp.sides → whole (side_at lp.sides j).lo ≤ℚ x j
      low j l = subst (λ z. z ≤ℚ x j) (a.values j l) (subst (λ q. least (suc j) ≤ℚ quantity_of lp x q) (meaning_value (length lp.sides) j l) (h (suc j) (omega arith) (omega (arith, l))))

      high : (j : ℕ) → j < length lp.sides → x j ≤ℚ whole (side_at lp.sides j).hi
      high j l =
          let i = suc (length lp.sides + j) in
          down_from (whole (side_at lp.sides j).hi) (x j) (subst (λ z. z ≤ℚ (whole (side_at lp.sides j).hi -ℚ x j)) (a.others i (omega arith)) (subst (λ q. least i ≤ℚ quantity_of lp x q) (meaning_upper (length lp.sides) j l) (h i (omega arith) (omega (arith, l)))))

      back : (n r : ℕ) → suc (n + n + r) - 1 - 2 * n ≡ r
      back n r = omega arith

      meets : (r : ℕ) → r < length lp.rows → Meets x (row_of lp.rows r)
      meets r l =
          let i = suc (length lp.sides + length lp.sides + r) in
          let e : meaning (length lp.sides) i ≡ RowSurplus r = meaning_at_row (length lp.sides) i (omega arith) ∙ ap RowSurplus (back (length lp.sides) r) in
          down_from (terms_at x (row_of lp.rows r).terms) (whole (row_of lp.rows r).least) (subst (λ z. z ≤ℚ (terms_at x (row_of lp.rows r).terms -ℚ whole (row_of lp.rows r).least)) (a.others i (omega arith)) (subst (λ q. least i ≤ℚ quantity_of lp x q) e (h i (omega arith) (omega (arith, l)))))

  -- a dictionary on the path with no violated row: its constants are the quantities of the least point
  module _ (k : ℕ) (t : Table) (on : OnPath lp least best k t) where
    pub constants_are : (i : ℕ) → i < suc (length lp.sides + length lp.sides + length lp.rows) → t.cell i 0 ≡ quantities lp (λ j. t.cell (suc j) 0) i
    constants_are = path_solved lp w least a best k t on (λ i. t.cell i 0) (constants_solve lp w least a best t (path_shaped lp w least a best k t on).home)

    tall : {i : ℕ} → i < suc (length lp.sides + length lp.sides + length lp.rows) → i < t.height
    tall {i} l = subst (λ h. i < h) (sym (path_shaped lp w least a best k t on).height) l

    low : {i : ℕ} → i < t.height → i < suc (length lp.sides + length lp.sides + length lp.rows)
    low {i} l = subst (λ h. i < h) (path_shaped lp w least a best k t on).height l

    pub constants_relaxed : NoneViolated least t → IsRelaxed lp (λ j. t.cell (suc j) 0)
    constants_relaxed none =
        allowed_relaxed (λ j. t.cell (suc j) 0) (λ i s l. subst (λ z. least i ≤ℚ z) (constants_are i l) (none i s (tall l)))

    pub constants_at_most : (y : ℕ → ℚ) → IsRelaxed lp y → LexAtMost t.height (λ i. t.cell i 0) (quantities lp y)
    constants_at_most y r =
        constants_least least t (quantities lp y) (path_is_good lp w least a best k t on) (path_named k t on) (path_solves lp w least a best k t on y) (λ i s l. relaxed_allowed y r i s (low l))

    pub least_point : NoneViolated least t → IsLeast lp (λ j. t.cell (suc j) 0)
    least_point none = record {
      relaxed = constants_relaxed none;
      least = λ y r. lex_front t.height (suc (length lp.sides)) (λ i. t.cell i 0) (quantities lp (λ j. t.cell (suc j) 0)) (quantities lp y) (front (path_shaped lp w least a best k t on).height) (λ i l. constants_are i (wider l)) (constants_at_most y r);
    }
      where
        front : t.height ≡ suc (length lp.sides + length lp.sides + length lp.rows) → suc (length lp.sides) ≤ t.height
        front e = omega (arith, e)

        wider : {i : ℕ} → i < suc (length lp.sides) → i < suc (length lp.sides + length lp.sides + length lp.rows)
        wider l = omega (arith, l)

    -- where a violated row has no positive factor no point is relaxed
    pub none_relaxed : (r : ℕ) → FirstViolated least t r → NoneEnters t r → (y : ℕ → ℚ) → IsRelaxed lp y → ⊥
    none_relaxed r v stuck y rel =
        none_allowed least t r (quantities lp y) (path_is_good lp w least a best k t on) (path_named k t on) v stuck (path_solves lp w least a best k t on y) (λ i s l. relaxed_allowed y rel i s (low l))
