-- The quantities of a point solve the first dictionary, and whatever solves it are the quantities of a point.
use Rattle.std.proofs.Common.{◌≡◌, ◌≢◌, ◌⊎◌, inl, inr, ℕ, zero, suc, pred, ◌+◌, ◌-◌, ◌*◌, ◌<◌, ◌≤◌, ◌==◌, nat_lt, Bool, true, false, cond, ℤ, pos, negsuc, neg_ℤ, List, [], ◌∷◌, length, get_or, map, refl, sym, ◌∙◌, ap, ap₂, subst, arith, eq-eqb, lt-ltb, le-ltb}
use Rattle.std.proofs.lemmas.Bool.{ne_eqb, cases_lt}
use Rattle.std.proofs.lemmas.List.{get_or-map}
use Rattle.std.specs.Prelude.{All}
use Rattle.rat128.specs.Rationals.{ℚ, whole, zero_ℚ, one_ℚ, ◌+ℚ◌, ◌-ℚ◌, ◌*ℚ◌, neg_ℚ}
use Rattle.rat128.proofs.Rationals.{+ℚ_comm, +ℚ_assoc, +ℚ_zero, zero-+ℚ, +ℚ_neg, *ℚ-+ℚ, zero-*ℚ, one-*ℚ, *ℚ-neg_ℚ, neg_ℚ-*ℚ, neg_ℚ-+ℚ, neg_ℚ-neg_ℚ, whole-neg_ℤ}
use Rattle.ip_rows.specs.declared.rows.Coef.{Coef}
use Rattle.ip_rows.specs.declared.lp.Lp.{Lp}
use Rattle.ip_rows.specs.Rows.{side_at, factor_at, Rise}
use Rattle.ip_rows.specs.Lps.{IsWellFormedLp}
use Rattle.ip_rows.specs.Points.{terms_at}
use Rattle.dict_pivot.specs.Tables.{Table, IsColumn, total, distance, said, Solves, IsUnits, IsHome}
use Rattle.dict_pivot.specs.Quantities.{Quantity, Objective, ColumnValue, UpperDistance, RowSurplus, meaning, row_of, quantity_of, quantities, growth_of, starts_up, corner, toward, IsStart, AreLeast}
use Rattle.dict_pivot.proofs.Sums.{total_zero, total_same, cross_sum, total_put}

-- ---- terms that rise
-- each column is above m
abbrev pub Above : ℕ → List Coef → Type 0
Above m ts = (k : ℕ) (d : Coef) → k < length ts → m < (get_or ts k d).column

-- each term's column is below those of the later ones
abbrev pub Apart : List Coef → Type 0
Apart [] = Unit {0}
Apart (t ∷ ts) = Above t.column ts × Apart ts

factor_above : (m : ℕ) (ts : List Coef) → Above m ts → factor_at ts m ≡ pos 0
factor_above m [] a = refl
factor_above m (t ∷ ts) a =
    let l : m < t.column = a 0 t (omega arith) in
    ap (λ b. cond b t.factor (factor_at ts m)) (ne_eqb t.column m (λ e. absurd (omega (arith, e, l)))) ∙ factor_above m ts (λ k d l. a (suc k) d (omega (arith, l)))

rise_first : (t : Coef) (ts : List Coef) → Rise (t ∷ ts) → Above t.column ts
rise_first t ts r zero d l =
    subst (λ n. t.column < n) (get_or-map (λ (t : Coef). t.column) ts 0 d 0 l) (r 0 (omega (arith, l, length_columns ts)))
  where
    length_columns : (ts : List Coef) → length (map (λ (t : Coef). t.column) ts) ≡ length ts
    length_columns [] = refl
    length_columns (t ∷ ts) = ap suc (length_columns ts)
rise_first t ts r (suc k) d l =
    let before = rise_first t ts r k d (omega (arith, l)) in
    let step : get_or (map (λ (u : Coef). u.column) ts) k 0 < get_or (map (λ (u : Coef). u.column) ts) (suc k) 0 = subst (λ n. get_or (map (λ (u : Coef). u.column) (t ∷ ts)) (suc k) 0 < get_or (map (λ (u : Coef). u.column) (t ∷ ts)) n 0) (one_more (suc k)) (r (suc k) (omega (arith, l, length_columns ts))) in
    step_up (get_or-map (λ (t : Coef). t.column) ts k d 0 (omega (arith, l))) (get_or-map (λ (t : Coef). t.column) ts (suc k) d 0 l) before step
  where
    length_columns : (ts : List Coef) → length (map (λ (t : Coef). t.column) ts) ≡ length ts
    length_columns [] = refl
    length_columns (t ∷ ts) = ap suc (length_columns ts)

    one_more : (n : ℕ) → n + 1 ≡ suc n
    one_more n = omega arith

    step_up : {m a b c d : ℕ} → a ≡ b → c ≡ d → m < b → a < c → m < d
    step_up e f l s = omega (arith, e, f, l, s)

rise_rest : (t : Coef) (ts : List Coef) → Rise (t ∷ ts) → Rise ts
rise_rest t ts r = λ k l. subst (λ n. get_or (map (λ (u : Coef). u.column) ts) k 0 < get_or (map (λ (u : Coef). u.column) (t ∷ ts)) n 0) (later k) (r (suc k) (omega (arith, l)))
  where
    later : (k : ℕ) → suc k + 1 ≡ suc (k + 1)
    later k = omega arith

pub apart : (ts : List Coef) → Rise ts → Apart ts
apart [] r = tt
apart (t ∷ ts) r = (rise_first t ts r, apart ts (rise_rest t ts r))

-- ---- a list of terms at two points
-- what the terms have at x and at c differs by the factors times the differences of the columns
pub terms_differ : (n : ℕ) (x c : ℕ → ℚ) (ts : List Coef) → Apart ts → All (λ (t : Coef). t.column < n) ts → terms_at x ts ≡ terms_at c ts +ℚ total n (λ j. whole (factor_at ts (pred j)) *ℚ (x (pred j) -ℚ c (pred j)))
terms_differ n x c [] a there =
    sym (ap (λ s. zero_ℚ +ℚ s) (total_zero n (λ j. zero_ℚ *ℚ (x (pred j) -ℚ c (pred j))) (λ j s le. zero-*ℚ (x (pred j) -ℚ c (pred j)))) ∙ +ℚ_zero zero_ℚ)
terms_differ n x c (t ∷ ts) a there =
    let f : ℕ → ℚ = λ j. whole (factor_at ts (pred j)) *ℚ (x (pred j) -ℚ c (pred j)) in
    let g : ℕ → ℚ = λ j. whole (factor_at (t ∷ ts) (pred j)) *ℚ (x (pred j) -ℚ c (pred j)) in
    let l : t.column < n = there 0 t (omega arith) in
    let rest = terms_differ n x c ts a.1 (λ k d m. there (suc k) d (omega (arith, m))) in
    let put : total n g ≡ total n f +ℚ g (suc t.column) = total_put n (suc t.column) f g (omega arith) (omega (arith, l)) (λ j s le ne. other j s ne) (ap (λ z. whole z *ℚ (x t.column -ℚ c t.column)) (factor_above t.column ts a.0) ∙ zero-*ℚ (x t.column -ℚ c t.column)) in
    let here : g (suc t.column) ≡ whole t.factor *ℚ (x t.column -ℚ c t.column) = ap (λ b. whole (cond b t.factor (factor_at ts t.column)) *ℚ (x t.column -ℚ c t.column)) (eq-eqb t.column t.column refl) in
    ap₂ (λ a b. a +ℚ b) (product (whole t.factor) (x t.column) (c t.column)) rest ∙ cross_sum (whole t.factor *ℚ c t.column) (whole t.factor *ℚ (x t.column -ℚ c t.column)) (terms_at c ts) (total n f) ∙ ap (λ s. (whole t.factor *ℚ c t.column +ℚ terms_at c ts) +ℚ s) (+ℚ_comm (whole t.factor *ℚ (x t.column -ℚ c t.column)) (total n f) ∙ sym (put ∙ ap (λ s. total n f +ℚ s) here))
  where
    product : (f x c : ℚ) → f *ℚ x ≡ f *ℚ c +ℚ f *ℚ (x -ℚ c)
    product f x c = ap (λ s. f *ℚ s) (sym (+ℚ_comm c (x -ℚ c) ∙ +ℚ_assoc x (neg_ℚ c) c ∙ ap (λ s. x +ℚ s) (+ℚ_comm (neg_ℚ c) c ∙ +ℚ_neg c) ∙ +ℚ_zero x)) ∙ *ℚ-+ℚ f c (x -ℚ c)

    other : (j : ℕ) → 0 < j → j ≢ suc t.column → whole (factor_at (t ∷ ts) (pred j)) *ℚ (x (pred j) -ℚ c (pred j)) ≡ whole (factor_at ts (pred j)) *ℚ (x (pred j) -ℚ c (pred j))
    other zero s ne = absurd (omega arith)
    other (suc j) s ne = ap (λ b. whole (cond b t.factor (factor_at ts j)) *ℚ (x j -ℚ c j)) (ne_eqb t.column j (λ e. ne (ap suc (sym e))))

-- a sum in which one column alone counts
pub total_unit : (n k : ℕ) (s : ℤ) (d : ℕ → ℚ) → k < n → total n (λ j. whole (cond (k == pred j) s (pos 0)) *ℚ d (pred j)) ≡ whole s *ℚ d k
total_unit n k s d l =
    total_put n (suc k) (λ j. zero_ℚ) (λ j. whole (cond (k == pred j) s (pos 0)) *ℚ d (pred j)) (omega arith) (omega (arith, l)) (λ j some le ne. other j some ne) refl ∙ ap₂ (λ a b. a +ℚ b) (total_zero n (λ j. zero_ℚ) (λ j some le. refl)) (ap (λ b. whole (cond b s (pos 0)) *ℚ d k) (eq-eqb k k refl)) ∙ zero-+ℚ (whole s *ℚ d k)
  where
    other : (j : ℕ) → 0 < j → j ≢ suc k → whole (cond (k == pred j) s (pos 0)) *ℚ d (pred j) ≡ zero_ℚ
    other zero some ne = absurd (omega arith)
    other (suc j) some ne = ap (λ b. whole (cond b s (pos 0)) *ℚ d j) (ne_eqb k j (λ e. ne (ap suc (sym e)))) ∙ zero-*ℚ (d j)

-- ---- a quantity at two points
-- the quantity is of a column or a row that is there
abbrev pub IsThere : Lp → Quantity → Type 0
IsThere lp Objective = Unit {0}
IsThere lp (ColumnValue k) = k < length lp.sides
IsThere lp (UpperDistance k) = k < length lp.sides
IsThere lp (RowSurplus r) = r < length lp.rows

pub quantity_differs : (lp : Lp) → IsWellFormedLp lp → (x c : ℕ → ℚ) (q : Quantity) → IsThere lp q → quantity_of lp x q ≡ quantity_of lp c q +ℚ total (length lp.sides) (λ j. whole (growth_of lp q (pred j)) *ℚ (x (pred j) -ℚ c (pred j)))
quantity_differs lp w x c Objective l =
    terms_differ (length lp.sides) x c lp.aim (apart lp.aim w.aim.rising) w.aim.there
quantity_differs lp w x c (ColumnValue k) l =
    sym (ap (λ s. c k +ℚ s) (total_unit (length lp.sides) k (pos 1) (λ j. x j -ℚ c j) l ∙ one-*ℚ (x k -ℚ c k)) ∙ there (x k) (c k))
  where
    there : (x c : ℚ) → c +ℚ (x -ℚ c) ≡ x
    there x c = +ℚ_comm c (x -ℚ c) ∙ +ℚ_assoc x (neg_ℚ c) c ∙ ap (λ s. x +ℚ s) (+ℚ_comm (neg_ℚ c) c ∙ +ℚ_neg c) ∙ +ℚ_zero x
quantity_differs lp w x c (UpperDistance k) l =
    sym (ap (λ s. (whole (side_at lp.sides k).hi -ℚ c k) +ℚ s) (total_unit (length lp.sides) k (negsuc 0) (λ j. x j -ℚ c j) l ∙ ap (λ s. s *ℚ (x k -ℚ c k)) (whole-neg_ℤ (pos 1)) ∙ neg_ℚ-*ℚ one_ℚ (x k -ℚ c k) ∙ ap neg_ℚ (one-*ℚ (x k -ℚ c k))) ∙ there (whole (side_at lp.sides k).hi) (x k) (c k))
  where
    there : (h x c : ℚ) → (h -ℚ c) +ℚ neg_ℚ (x -ℚ c) ≡ h -ℚ x
    there h x c = ap (λ s. (h -ℚ c) +ℚ s) (neg_ℚ-+ℚ x (neg_ℚ c) ∙ ap (λ s. neg_ℚ x +ℚ s) (neg_ℚ-neg_ℚ c) ∙ +ℚ_comm (neg_ℚ x) c) ∙ +ℚ_assoc h (neg_ℚ c) (c +ℚ neg_ℚ x) ∙ ap (λ s. h +ℚ s) (sym (+ℚ_assoc (neg_ℚ c) c (neg_ℚ x)) ∙ ap (λ s. s +ℚ neg_ℚ x) (+ℚ_comm (neg_ℚ c) c ∙ +ℚ_neg c) ∙ zero-+ℚ (neg_ℚ x))
quantity_differs lp w x c (RowSurplus r) l =
    let row = row_of lp.rows r in
    let t = w.rows r (record { terms = []; least = pos 0 }) l in
    ap (λ s. s -ℚ whole row.least) (terms_differ (length lp.sides) x c row.terms (apart row.terms t.rising) t.there) ∙ +ℚ_assoc (terms_at c row.terms) _ (neg_ℚ (whole row.least)) ∙ ap (λ s. terms_at c row.terms +ℚ s) (+ℚ_comm _ (neg_ℚ (whole row.least))) ∙ sym (+ℚ_assoc (terms_at c row.terms) (neg_ℚ (whole row.least)) _)

-- ---- which row has which quantity
pub meaning_value : (n k : ℕ) → k < n → meaning n (suc k) ≡ ColumnValue k
meaning_value n k l =
    ap (λ b. cond b (ColumnValue k) (cond (nat_lt k (n + n)) (UpperDistance (k - n)) (RowSurplus (k - (n + n))))) (lt-ltb k n l)

pub meaning_upper : (n k : ℕ) → k < n → meaning n (suc (n + k)) ≡ UpperDistance k
meaning_upper n k l =
    ap (λ b. cond b (ColumnValue (n + k)) (cond (nat_lt (n + k) (n + n)) (UpperDistance (n + k - n)) (RowSurplus (n + k - (n + n))))) (le-ltb (n + k) n (omega arith)) ∙ ap (λ b. cond b (UpperDistance (n + k - n)) (RowSurplus (n + k - (n + n)))) (lt-ltb (n + k) (n + n) (omega (arith, l))) ∙ ap UpperDistance (back n k)
  where
    back : (n k : ℕ) → n + k - n ≡ k
    back n k = omega arith

pub meaning_there : (lp : Lp) (i : ℕ) → i < suc (length lp.sides + length lp.sides + length lp.rows) → IsThere lp (meaning (length lp.sides) i)
meaning_there lp zero l = tt
meaning_there lp (suc k) l = first (cases_lt k (length lp.sides))
  where
    second : length lp.sides ≤ k → (k < length lp.sides + length lp.sides) ⊎ (length lp.sides + length lp.sides ≤ k) → IsThere lp (cond (nat_lt k (length lp.sides + length lp.sides)) (UpperDistance (k - length lp.sides)) (RowSurplus (k - (length lp.sides + length lp.sides))))
    second ge (inl below) = subst (λ b. IsThere lp (cond b (UpperDistance (k - length lp.sides)) (RowSurplus (k - (length lp.sides + length lp.sides))))) (sym (lt-ltb k (length lp.sides + length lp.sides) below)) (within_upper k (length lp.sides) ge below)
      where
        within_upper : (k n : ℕ) → n ≤ k → k < n + n → k - n < n
        within_upper k n ge below = omega arith
    second ge (inr above) = subst (λ b. IsThere lp (cond b (UpperDistance (k - length lp.sides)) (RowSurplus (k - (length lp.sides + length lp.sides))))) (sym (le-ltb k (length lp.sides + length lp.sides) above)) (within_rows k (length lp.sides) (length lp.rows) above l)
      where
        within_rows : (k n m : ℕ) → n + n ≤ k → suc k < suc (n + n + m) → k - (n + n) < m
        within_rows k n m above l = omega arith

    first : (k < length lp.sides) ⊎ (length lp.sides ≤ k) → IsThere lp (meaning (length lp.sides) (suc k))
    first (inl below) = subst (IsThere lp) (sym (meaning_value (length lp.sides) k below)) below
    first (inr ge) = subst (λ b. IsThere lp (cond b (ColumnValue k) (cond (nat_lt k (length lp.sides + length lp.sides)) (UpperDistance (k - length lp.sides)) (RowSurplus (k - (length lp.sides + length lp.sides)))))) (sym (le-ltb k (length lp.sides) ge)) (second ge (cases_lt k (length lp.sides + length lp.sides)))

-- ---- the first dictionary
module _ (lp : Lp) (w : IsWellFormedLp lp) (least : ℕ → ℚ) (a : AreLeast lp least) (t : Table) (s : IsStart lp t) where
  -- column j's distance from the side where it starts, seen from its number
  unit_toward : (b : Bool) (z : ℤ) (d : ℚ) → whole (cond b (neg_ℤ z) z) *ℚ d ≡ whole z *ℚ (whole (cond b (neg_ℤ (pos 1)) (pos 1)) *ℚ d)
  unit_toward true z d =
      ap (λ f. f *ℚ d) (whole-neg_ℤ z) ∙ neg_ℚ-*ℚ (whole z) d ∙ sym (ap (λ e. whole z *ℚ e) (ap (λ f. f *ℚ d) (whole-neg_ℤ (pos 1)) ∙ neg_ℚ-*ℚ one_ℚ d ∙ ap neg_ℚ (one-*ℚ d)) ∙ *ℚ-neg_ℚ (whole z) d)
  unit_toward false z d = ap (λ e. whole z *ℚ e) (sym (one-*ℚ d))

  in_width : (j : ℕ) → j ≤ t.width → j ≤ length lp.sides
  in_width j le = subst (λ k. j ≤ k) s.width le

  in_sides : (j : ℕ) → j < length lp.sides → suc j ≤ t.width
  in_sides j l = subst (λ k. suc j ≤ k) (sym s.width) (omega (arith, l))

  column : (j : ℕ) → j < length lp.sides → IsColumn t (suc j)
  column j l = record { some = omega arith; within = in_sides j l }

  in_height : (i : ℕ) → i < t.height → i < suc (length lp.sides + length lp.sides + length lp.rows)
  in_height i l = subst (λ h. i < h) s.height l

  -- where the distances are those of the point x, the rows say its quantities
  pub said_at : (q x : ℕ → ℚ) → ((j : ℕ) → j < length lp.sides → whole (toward lp j (pos 1)) *ℚ distance least q (t.free (suc j)) ≡ x j -ℚ corner lp j) → (i : ℕ) → i < t.height → said least t q i ≡ quantities lp x i
  said_at q x steps i l =
      ap₂ (λ c k. c +ℚ total k (λ j. t.cell i j *ℚ distance least q (t.free j))) (s.cells i 0 l (omega arith)) s.width ∙ ap (λ z. quantities lp (corner lp) i +ℚ z) (total_same (length lp.sides) (λ j. t.cell i j *ℚ distance least q (t.free j)) (λ j. whole (growth_of lp (meaning (length lp.sides) i) (pred j)) *ℚ (x (pred j) -ℚ corner lp (pred j))) (λ j some le. term j some le)) ∙ sym (quantity_differs lp w x (corner lp) (meaning (length lp.sides) i) (meaning_there lp i (in_height i l)))
    where
      term : (j : ℕ) → 0 < j → j ≤ length lp.sides → t.cell i j *ℚ distance least q (t.free j) ≡ whole (growth_of lp (meaning (length lp.sides) i) (pred j)) *ℚ (x (pred j) -ℚ corner lp (pred j))
      term zero some le = absurd (omega arith)
      term (suc j) some le =
          ap (λ c. c *ℚ distance least q (t.free (suc j))) (s.cells i (suc j) l (in_sides j (omega (arith, le)))) ∙ unit_toward (starts_up lp j) (growth_of lp (meaning (length lp.sides) i) j) (distance least q (t.free (suc j))) ∙ ap (λ e. whole (growth_of lp (meaning (length lp.sides) i) j) *ℚ e) (steps j (omega (arith, le)))

  free_is : (b : Bool) (j : ℕ) → j < length lp.sides → starts_up lp j ≡ b → t.free (suc j) ≡ cond b (suc (length lp.sides + j)) (suc j)
  free_is b j l e = s.frees (suc j) (column j l) ∙ ap (λ b. cond b (suc (length lp.sides + j)) (suc j)) e

  corner_is : (b : Bool) (j : ℕ) → starts_up lp j ≡ b → corner lp j ≡ whole (cond b (side_at lp.sides j).hi (side_at lp.sides j).lo)
  corner_is b j e = ap (λ b. whole (cond b (side_at lp.sides j).hi (side_at lp.sides j).lo)) e

  toward_is : (b : Bool) (j : ℕ) (z : ℤ) → starts_up lp j ≡ b → toward lp j z ≡ cond b (neg_ℤ z) z
  toward_is b j z e = ap (λ b. cond b (neg_ℤ z) z) e

  turned : (d : ℚ) → whole (neg_ℤ (pos 1)) *ℚ d ≡ neg_ℚ d
  turned d = ap (λ f. f *ℚ d) (whole-neg_ℤ (pos 1)) ∙ neg_ℚ-*ℚ one_ℚ d ∙ ap neg_ℚ (one-*ℚ d)

  less_zero : (x : ℚ) → x -ℚ zero_ℚ ≡ x
  less_zero x = ap (λ z. x +ℚ z) (sym (zero-+ℚ (neg_ℚ zero_ℚ)) ∙ +ℚ_neg zero_ℚ) ∙ +ℚ_zero x

  least_low : (j : ℕ) → j < length lp.sides → least (suc j) ≡ whole (side_at lp.sides j).lo
  least_low j l = a.values j l

  least_up : (j : ℕ) → least (suc (length lp.sides + j)) ≡ zero_ℚ
  least_up j = a.others (suc (length lp.sides + j)) (omega arith)

  -- the distances of a point's quantities are those of the point
  steps_of : (x : ℕ → ℚ) (j : ℕ) → j < length lp.sides → whole (toward lp j (pos 1)) *ℚ distance least (quantities lp x) (t.free (suc j)) ≡ x j -ℚ corner lp j
  steps_of x j l = by_side (starts_up lp j) refl
    where
      by_side : (b : Bool) → starts_up lp j ≡ b → whole (toward lp j (pos 1)) *ℚ distance least (quantities lp x) (t.free (suc j)) ≡ x j -ℚ corner lp j
      by_side true e =
          ap₂ (λ z i. whole z *ℚ distance least (quantities lp x) i) (toward_is true j (pos 1) e) (free_is true j l e) ∙ turned (distance least (quantities lp x) (suc (length lp.sides + j))) ∙ ap neg_ℚ (ap₂ (λ q m. q -ℚ m) (ap (quantity_of lp x) (meaning_upper (length lp.sides) j l)) (least_up j) ∙ less_zero (whole (side_at lp.sides j).hi -ℚ x j)) ∙ neg_ℚ-+ℚ (whole (side_at lp.sides j).hi) (neg_ℚ (x j)) ∙ ap (λ y. neg_ℚ (whole (side_at lp.sides j).hi) +ℚ y) (neg_ℚ-neg_ℚ (x j)) ∙ +ℚ_comm (neg_ℚ (whole (side_at lp.sides j).hi)) (x j) ∙ ap (λ c. x j -ℚ c) (sym (corner_is true j e))
      by_side false e =
          ap₂ (λ z i. whole z *ℚ distance least (quantities lp x) i) (toward_is false j (pos 1) e) (free_is false j l e) ∙ one-*ℚ (distance least (quantities lp x) (suc j)) ∙ ap₂ (λ q m. q -ℚ m) (ap (quantity_of lp x) (meaning_value (length lp.sides) j l)) (least_low j l ∙ sym (corner_is false j e))

  -- so they solve it
  pub start_solves : (x : ℕ → ℚ) → Solves least t (quantities lp x)
  start_solves x = record { each = λ i l. sym (said_at (quantities lp x) x (steps_of x) i l) }

  -- in row suc j the column itself alone counts
  own_row : (q : ℕ → ℚ) (j : ℕ) → j < length lp.sides → said least t q (suc j) ≡ corner lp j +ℚ whole (toward lp j (pos 1)) *ℚ distance least q (t.free (suc j))
  own_row q j l =
      ap₂ (λ c k. c +ℚ total k (λ k. t.cell (suc j) k *ℚ distance least q (t.free k))) (s.cells (suc j) 0 high (omega arith) ∙ ap (quantity_of lp (corner lp)) (meaning_value (length lp.sides) j l)) s.width ∙ ap (λ z. corner lp j +ℚ z) (total_put (length lp.sides) (suc j) (λ k. zero_ℚ) (λ k. t.cell (suc j) k *ℚ distance least q (t.free k)) (omega arith) (omega (arith, l)) (λ k some le ne. other k some le ne) refl ∙ ap₂ (λ a b. a +ℚ b) (total_zero (length lp.sides) (λ k. zero_ℚ) (λ k some le. refl)) here ∙ zero-+ℚ (whole (toward lp j (pos 1)) *ℚ distance least q (t.free (suc j))))
    where
      high : suc j < t.height
      high = subst (λ h. suc j < h) (sym s.height) (omega (arith, l))

      cell_is : (k : ℕ) → k < length lp.sides → t.cell (suc j) (suc k) ≡ whole (toward lp k (cond (j == k) (pos 1) (pos 0)))
      cell_is k m = s.cells (suc j) (suc k) high (in_sides k m) ∙ ap (λ q. whole (toward lp k (growth_of lp q k))) (meaning_value (length lp.sides) j l)

      here : t.cell (suc j) (suc j) *ℚ distance least q (t.free (suc j)) ≡ whole (toward lp j (pos 1)) *ℚ distance least q (t.free (suc j))
      here = ap (λ c. c *ℚ distance least q (t.free (suc j))) (cell_is j l ∙ ap (λ b. whole (toward lp j (cond b (pos 1) (pos 0)))) (eq-eqb j j refl))

      other : (k : ℕ) → 0 < k → k ≤ length lp.sides → k ≢ suc j → t.cell (suc j) k *ℚ distance least q (t.free k) ≡ zero_ℚ
      other zero some le ne = absurd (omega arith)
      other (suc k) some le ne = ap (λ c. c *ℚ distance least q (t.free (suc k))) (cell_is k (omega (arith, le)) ∙ ap (λ b. whole (toward lp k (cond b (pos 1) (pos 0)))) (ne_eqb j k (λ e. ne (ap suc (sym e)))) ∙ ap whole (toward_zero (starts_up lp k))) ∙ zero-*ℚ (distance least q (t.free (suc k)))
        where
          toward_zero : (b : Bool) → cond b (neg_ℤ (pos 0)) (pos 0) ≡ pos 0
          toward_zero true = refl
          toward_zero false = refl

  -- and what solves it are the quantities of the point that its values are
  pub solved_by_point : (q : ℕ → ℚ) → Solves least t q → (i : ℕ) → i < t.height → q i ≡ quantities lp (λ j. q (suc j)) i
  solved_by_point q v i l =
      v.each i l ∙ said_at q (λ j. q (suc j)) (λ j m. steps j m) i l
    where
      taken : (y c d : ℚ) → y ≡ c +ℚ d → d ≡ y -ℚ c
      taken y c d e = sym (ap (λ s. s +ℚ neg_ℚ c) (e ∙ +ℚ_comm c d) ∙ +ℚ_assoc d c (neg_ℚ c) ∙ ap (λ s. d +ℚ s) (+ℚ_neg c) ∙ +ℚ_zero d)

      steps : (j : ℕ) → j < length lp.sides → whole (toward lp j (pos 1)) *ℚ distance least q (t.free (suc j)) ≡ q (suc j) -ℚ corner lp j
      steps j m = taken (q (suc j)) (corner lp j) (whole (toward lp j (pos 1)) *ℚ distance least q (t.free (suc j))) (v.each (suc j) (subst (λ h. suc j < h) (sym s.height) (omega (arith, m))) ∙ own_row q j m)

  -- ---- each free quantity's row is itself, and its constant the least that it may be
  free_row : (b : Bool) (j : ℕ) → j < length lp.sides → starts_up lp j ≡ b → t.free (suc j) < t.height
  free_row true j l e = subst (λ i. i < t.height) (sym (free_is true j l e)) (subst (λ h. suc (length lp.sides + j) < h) (sym s.height) (omega (arith, l)))
  free_row false j l e = subst (λ i. i < t.height) (sym (free_is false j l e)) (subst (λ h. suc j < h) (sym s.height) (omega (arith, l)))

  free_cell : (b : Bool) (j k : ℕ) → j < length lp.sides → k < length lp.sides → starts_up lp j ≡ b → t.cell (t.free (suc j)) (suc k) ≡ whole (toward lp k (cond (j == k) (cond b (negsuc 0) (pos 1)) (pos 0)))
  free_cell true j k l m e =
      ap (λ i. t.cell i (suc k)) (free_is true j l e) ∙ s.cells (suc (length lp.sides + j)) (suc k) (subst (λ i. i < t.height) (free_is true j l e) (free_row true j l e)) (in_sides k m) ∙ ap (λ q. whole (toward lp k (growth_of lp q k))) (meaning_upper (length lp.sides) j l)
  free_cell false j k l m e =
      ap (λ i. t.cell i (suc k)) (free_is false j l e) ∙ s.cells (suc j) (suc k) (subst (λ i. i < t.height) (free_is false j l e) (free_row false j l e)) (in_sides k m) ∙ ap (λ q. whole (toward lp k (growth_of lp q k))) (meaning_value (length lp.sides) j l)

  own_cell : (b : Bool) (j : ℕ) → j < length lp.sides → starts_up lp j ≡ b → t.cell (t.free (suc j)) (suc j) ≡ one_ℚ
  own_cell b j l e =
      free_cell b j j l l e ∙ ap (λ c. whole (toward lp j (cond c (cond b (negsuc 0) (pos 1)) (pos 0)))) (eq-eqb j j refl) ∙ ap whole (toward_is b j (cond b (negsuc 0) (pos 1)) e) ∙ ap whole (one b)
    where
      one : (b : Bool) → cond b (neg_ℤ (cond b (negsuc 0) (pos 1))) (cond b (negsuc 0) (pos 1)) ≡ pos 1
      one true = refl
      one false = refl

  other_cell : (b : Bool) (j k : ℕ) → j < length lp.sides → k < length lp.sides → j ≢ k → starts_up lp j ≡ b → t.cell (t.free (suc j)) (suc k) ≡ zero_ℚ
  other_cell b j k l m ne e =
      free_cell b j k l m e ∙ ap (λ c. whole (toward lp k (cond c (cond b (negsuc 0) (pos 1)) (pos 0)))) (ne_eqb j k ne) ∙ ap whole (zero_either (starts_up lp k))
    where
      zero_either : (b : Bool) → cond b (neg_ℤ (pos 0)) (pos 0) ≡ pos 0
      zero_either true = refl
      zero_either false = refl

  free_home : (b : Bool) (j : ℕ) → j < length lp.sides → starts_up lp j ≡ b → t.cell (t.free (suc j)) 0 ≡ least (t.free (suc j))
  free_home true j l e =
      ap (λ i. t.cell i 0) (free_is true j l e) ∙ s.cells (suc (length lp.sides + j)) 0 (subst (λ i. i < t.height) (free_is true j l e) (free_row true j l e)) (omega arith) ∙ ap (quantity_of lp (corner lp)) (meaning_upper (length lp.sides) j l) ∙ ap (λ c. whole (side_at lp.sides j).hi -ℚ c) (corner_is true j e) ∙ +ℚ_neg (whole (side_at lp.sides j).hi) ∙ sym (least_up j) ∙ ap least (sym (free_is true j l e))
  free_home false j l e =
      ap (λ i. t.cell i 0) (free_is false j l e) ∙ s.cells (suc j) 0 (subst (λ i. i < t.height) (free_is false j l e) (free_row false j l e)) (omega arith) ∙ ap (quantity_of lp (corner lp)) (meaning_value (length lp.sides) j l) ∙ corner_is false j e ∙ sym (least_low j l) ∙ ap least (sym (free_is false j l e))

  -- what holds of column suc j of the Lp's columns holds of each column of the table
  by_column : (P : ℕ → Type 0) → ((j : ℕ) → j < length lp.sides → P (suc j)) → (j : ℕ) → IsColumn t j → P j
  by_column P h zero k = absurd (omega (arith, k.some))
  by_column P h (suc j) k = let le = in_width (suc j) k.within in h j (omega (arith, le))

  pub start_units : IsUnits t
  start_units = record {
    row = by_column (λ j. t.free j < t.height) (λ j l. free_row (starts_up lp j) j l refl);
    own = by_column (λ j. t.cell (t.free j) j ≡ one_ℚ) (λ j l. own_cell (starts_up lp j) j l refl);
    apart = λ j k p r. by_column (λ j. (k : ℕ) → IsColumn t k → j ≢ k → t.cell (t.free j) k ≡ zero_ℚ) (λ j l k r. by_column (λ k. suc j ≢ k → t.cell (t.free (suc j)) k ≡ zero_ℚ) (λ k m ne. other_cell (starts_up lp j) j k l m (λ e. ne (ap suc e)) refl) k r) j p k r;
  }

  pub start_home : IsHome least t
  start_home = record { home = by_column (λ j. t.cell (t.free j) 0 ≡ least (t.free j)) (λ j l. free_home (starts_up lp j) j l refl) }

-- ---- which row has which quantity, as the code parts the rows
pub meaning_at_value : (n i : ℕ) → i ≢ 0 → i ≤ n → meaning n i ≡ ColumnValue (i - 1)
meaning_at_value n zero ne le = absurd (ne refl)
meaning_at_value n (suc k) ne le = meaning_value n k (omega (arith, le)) ∙ ap ColumnValue (less k)
  where
    less : (k : ℕ) → k ≡ suc k - 1
    less k = omega arith

pub meaning_at_upper : (n i : ℕ) → n < i → i ≤ 2 * n → meaning n i ≡ UpperDistance (i - 1 - n)
meaning_at_upper n i gt le =
    ap (meaning n) (back n i gt) ∙ meaning_upper n (i - 1 - n) (below n i gt le)
  where
    back : (n i : ℕ) → n < i → i ≡ suc (n + (i - 1 - n))
    back n i gt = omega arith

    below : (n i : ℕ) → n < i → i ≤ 2 * n → i - 1 - n < n
    below n i gt le = omega arith

pub meaning_at_row : (n i : ℕ) → 2 * n < i → meaning n i ≡ RowSurplus (i - 1 - 2 * n)
meaning_at_row n zero gt = absurd (omega arith)
meaning_at_row n (suc k) gt =
    ap (λ b. cond b (ColumnValue k) (cond (nat_lt k (n + n)) (UpperDistance (k - n)) (RowSurplus (k - (n + n))))) (le-ltb k n (omega (arith, gt))) ∙ ap (λ b. cond b (UpperDistance (k - n)) (RowSurplus (k - (n + n)))) (le-ltb k (n + n) (omega (arith, gt))) ∙ ap RowSurplus (same k n)
  where
    same : (k n : ℕ) → k - (n + n) ≡ suc k - 1 - 2 * n
    same k n = omega arith
