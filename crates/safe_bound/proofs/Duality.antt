-- The value of a bound, and why no relaxed point lies below it.
use Rattle.std.proofs.Common.{◌≡◌, ℕ, zero, suc, ◌<◌, Bool, true, false, ℤ, pos, negsuc, int_lt, Less, Equal, Greater, is_lt, List, [], ◌∷◌, length, map, get_or, Option, Some, None, T, ◌⊎◌, inl, inr, refl, sym, ◌∙◌, ap, ap₂, subst, subst₂, arith, cond}
use Rattle.std.proofs.lemmas.Bool.{false≢true}
use Rattle.std.specs.List.{All, Contains}
use Rattle.std.proofs.lemmas.List.Elements.{All-head, All-tail}
use Rattle.rat128.specs.Fractions.{Fraction, whole_fraction}
use Rattle.rat128.specs.Operations.{add_of, sub_of, mul_of}
use Rattle.rat128.specs.Rationals.{ℚ, value, whole, zero_ℚ, order_ℚ, ◌+ℚ◌, ◌*ℚ◌, neg_ℚ, ◌-ℚ◌, ◌≤ℚ◌, ◌<ℚ◌}
use Rattle.rat128.proofs.Rationals.{+ℚ_comm, +ℚ_assoc, +ℚ_zero, zero-+ℚ, +ℚ_neg, +ℚ-*ℚ, *ℚ-+ℚ, *ℚ_comm, *ℚ_assoc, *ℚ_zero, neg_ℚ-*ℚ, order_ℚ-zero, ≤ℚ_refl, ≤ℚ_trans, ≤ℚ-+ℚ_both, ≤ℚ-*ℚ, ≤ℚ-*ℚ_turned, ≤ℚ_from_≡, ≤ℚ_from_<ℚ, ≤ℚ_total}
use Rattle.std.specs.Option.{IfSome}
use Rattle.rat128.proofs.Operations.{if_some, value-add_of, value-sub_of, value-mul_of}
use Rattle.ip_rows.specs.declared.Bounds.{Bounds}
use Rattle.ip_rows.specs.declared.rows.Coef.{Coef}
use Rattle.ip_rows.specs.declared.rows.IpRow.{IpRow}
use Rattle.ip_rows.specs.declared.mult.Mult.{Mult}
use Rattle.ip_rows.specs.Rows.{side_at, factor_at, Rise, AreTerms}
use Rattle.ip_rows.specs.Points.{terms_at, IsWithin, Meets}
use Rattle.safe_bound.specs.Bound.{◌>>=◌, row_at, plus_product, less_product, plus_leasts, rest_of, worst_side, plus_columns, bound_of}
use Rattle.safe_bound.specs.Exact.{over, leasts, rest, least_at, exact_bound}
use Rattle.safe_bound.specs.Below.{IsReach, AreNotNegative, MeetsNamed, IsAtMost}
use Rattle.safe_bound.proofs.Columns.{Climbs, climbs, medial, taken_back, over-same, over-plus, over-times, over-least, terms_over}

-- what follows a step that gives something
pub step_some : {A B : Type 0} (o : Option A) (f : A → Option B) (r : B) → (o >>= f) ≡ Some r → (x : A) × (o ≡ Some x) × (f x ≡ Some r)
step_some None f r e = cc
step_some (Some a) f r e = (a, refl, e)

-- ---- the value of each step
pub value-plus_product : (t m : Fraction) (n : ℤ) (r : Fraction) → plus_product t m n ≡ Some r → value r ≡ value t +ℚ value m *ℚ whole n
unfolding plus_product
value-plus_product t m n r e =
    let s = step_some (mul_of m (whole_fraction n)) (λ p. add_of t p) r e in
    value-add_of t s.0 r s.2 ∙ ap (λ x. value t +ℚ x) (value-mul_of m (whole_fraction n) s.0 s.1)

product_less : (d m : Fraction) (a : ℤ) (r : Fraction) → (mul_of m (whole_fraction a) >>= (λ p. sub_of d p)) ≡ Some r → value r ≡ value d -ℚ value m *ℚ whole a
product_less d m a r e =
    let s = step_some (mul_of m (whole_fraction a)) (λ p. sub_of d p) r e in
    value-sub_of d s.0 r s.2 ∙ ap (λ x. value d -ℚ x) (value-mul_of m (whole_fraction a) s.0 s.1)

pub value-less_product : (d m : Fraction) (a : ℤ) (r : Fraction) → less_product d m a ≡ Some r → value r ≡ value d -ℚ value m *ℚ whole a
unfolding less_product
value-less_product d m (pos zero) r e =
    let same : d ≡ r = cc in
    ap value (sym same) ∙ sym (ap (λ x. value d -ℚ x) (*ℚ_zero (value m)) ∙ less_zero (value d))
  where
    less_zero : (x : ℚ) → x -ℚ zero_ℚ ≡ x
    less_zero x = sym (+ℚ_zero (x -ℚ zero_ℚ)) ∙ taken_back x zero_ℚ
value-less_product d m (pos (suc n)) r e = product_less d m (pos (suc n)) r e
value-less_product d m (negsuc n) r e = product_less d m (negsuc n) r e

-- ---- the value of the sums
pub value-plus_leasts : (rows : List IpRow) (ms : List Mult) (t r : Fraction) → plus_leasts rows t ms ≡ Some r → value r ≡ value t +ℚ leasts rows ms
value-plus_leasts rows [] t r e =
    let same : t ≡ r = cc in
    ap value (sym same) ∙ sym (+ℚ_zero (value t))
value-plus_leasts rows (m ∷ ms) t r e =
    let s = step_some (plus_product t m.factor (row_at rows m.row).least) (λ t'. plus_leasts rows t' ms) r e in
    let x = value m.factor *ℚ whole (row_at rows m.row).least in
    value-plus_leasts rows ms s.0 r s.2 ∙ ap (λ y. y +ℚ leasts rows ms) (value-plus_product t m.factor (row_at rows m.row).least s.0 s.1) ∙ +ℚ_assoc (value t) x (leasts rows ms)

pub value-rest_of : (rows : List IpRow) (column : ℕ) (ms : List Mult) (d r : Fraction) → rest_of rows column d ms ≡ Some r → value r ≡ rest rows column (value d) ms
value-rest_of rows column [] d r e =
    let same : d ≡ r = cc in
    ap value (sym same)
value-rest_of rows column (m ∷ ms) d r e =
    let s = step_some (less_product d m.factor (factor_at (row_at rows m.row).terms column)) (λ d'. rest_of rows column d' ms) r e in
    value-rest_of rows column ms s.0 r s.2 ∙ ap (λ x. rest rows column x ms) (value-less_product d m.factor (factor_at (row_at rows m.row).terms column) s.0 s.1)

worst_side-is : (d : Fraction) (side : Bounds) → value d *ℚ whole (worst_side d side) ≡ least_at (value d) side
worst_side-is d side =
    ap (λ b. value d *ℚ whole (cond b side.hi side.lo)) (by_tests (int_lt d.num (pos 0)) (int_lt (pos 0) d.num) ∙ ap is_lt (sym (order_ℚ-zero d)))
  where
    by_tests : (a b : Bool) → a ≡ is_lt (cond a Less (cond b Greater Equal))
    by_tests true b = refl
    by_tests false true = refl
    by_tests false false = refl

module _ (rows : List IpRow) (aim : List Coef) (sides : List Bounds) (ms : List Mult) where
  -- the least that is left of a column
  abbrev pub left : ℕ → ℚ
  left j = rest rows j (whole (factor_at aim j)) ms

  pub value-plus_columns : (js : List ℕ) (t r : Fraction) → plus_columns rows aim sides ms t js ≡ Some r → value r ≡ value t +ℚ over (λ j. least_at (left j) (side_at sides j)) js
  value-plus_columns [] t r e =
      let same : t ≡ r = cc in
      ap value (sym same) ∙ sym (+ℚ_zero (value t))
  value-plus_columns (j ∷ js) t r e =
      let side = side_at sides j in
      let s = step_some (rest_of rows j (whole_fraction (factor_at aim j)) ms) (λ d. plus_product t d (worst_side d side) >>= (λ t'. plus_columns rows aim sides ms t' js)) r e in
      let u = step_some (plus_product t s.0 (worst_side s.0 side)) (λ t'. plus_columns rows aim sides ms t' js) r s.2 in
      let d : value s.0 ≡ left j = value-rest_of rows j ms (whole_fraction (factor_at aim j)) s.0 s.1 in
      let x : value u.0 ≡ value t +ℚ least_at (left j) side = value-plus_product t s.0 (worst_side s.0 side) u.0 u.1 ∙ ap (λ y. value t +ℚ y) (worst_side-is s.0 side ∙ ap (λ y. least_at y side) d) in
      value-plus_columns js u.0 r u.2 ∙ ap (λ y. y +ℚ over (λ i. least_at (left i) (side_at sides i)) js) x ∙ +ℚ_assoc (value t) (least_at (left j) side) (over (λ i. least_at (left i) (side_at sides i)) js)

  pub value-bound_of : (reach : List ℕ) (r : Fraction) → bound_of rows aim sides ms reach ≡ Some r → value r ≡ exact_bound rows aim sides ms reach
  unfolding bound_of
  value-bound_of reach r e =
      let s = step_some (plus_leasts rows (whole_fraction (pos 0)) ms) (λ t. plus_columns rows aim sides ms t reach) r e in
      value-plus_columns reach s.0 r s.2 ∙ ap (λ x. x +ℚ over (λ j. least_at (left j) (side_at sides j)) reach) (value-plus_leasts rows ms (whole_fraction (pos 0)) s.0 s.1 ∙ zero-+ℚ (leasts rows ms))

-- ---- why no point lies below
not_below : (d : ℚ) → is_lt (order_ℚ d zero_ℚ) ≡ false → zero_ℚ ≤ℚ d
not_below d is = elim (≤ℚ_total zero_ℚ d) [ inl le ↦ le | inr lt ↦ absurd (false≢true (sym is ∙ T_true (is_lt (order_ℚ d zero_ℚ)) lt.lt)) ]
  where
    T_true : (b : Bool) → T b → b ≡ true
    T_true true h = refl
    T_true false h = absurd h

-- d times a number within the sides is not less than d times its worst side
pub least_at_is_least : (d x : ℚ) (side : Bounds) → whole side.lo ≤ℚ x → x ≤ℚ whole side.hi → least_at d side ≤ℚ (d *ℚ x)
least_at_is_least d x side low high = by_test (is_lt (order_ℚ d zero_ℚ)) refl
  where
    by_test : (b : Bool) → is_lt (order_ℚ d zero_ℚ) ≡ b → (d *ℚ whole (cond b side.hi side.lo)) ≤ℚ (d *ℚ x)
    by_test true is =
        let below : d ≤ℚ zero_ℚ = ≤ℚ_from_<ℚ d zero_ℚ (record { lt = subst T (sym is) tt }) in
        subst₂ (λ y z. y ≤ℚ z) (*ℚ_comm (whole side.hi) d) (*ℚ_comm x d) (≤ℚ-*ℚ_turned x (whole side.hi) d below high)
    by_test false is =
        let above : zero_ℚ ≤ℚ d = not_below d is in
        subst₂ (λ y z. y ≤ℚ z) (*ℚ_comm (whole side.lo) d) (*ℚ_comm x d) (≤ℚ-*ℚ (whole side.lo) x d above low)

-- what the named rows come to at a point, each times its multiplier
abbrev pub named : (ℕ → ℚ) → List IpRow → List Mult → ℚ
named point rows [] = zero_ℚ
named point rows (m ∷ ms) = value m.factor *ℚ terms_at point (row_at rows m.row).terms +ℚ named point rows ms

pub leasts_at_most : (point : ℕ → ℚ) (rows : List IpRow) (ms : List Mult) → AreNotNegative ms → MeetsNamed point rows ms → leasts rows ms ≤ℚ named point rows ms
leasts_at_most point rows [] some meets = ≤ℚ_refl zero_ℚ
leasts_at_most point rows (m ∷ ms) some meets =
    let row = row_at rows m.row in
    let positive : zero_ℚ ≤ℚ value m.factor = All-head (λ (n : Mult). zero_ℚ ≤ℚ value n.factor) m ms some in
    let met : whole row.least ≤ℚ terms_at point row.terms = All-head (λ (n : Mult). Meets point (row_at rows n.row)) m ms meets in
    let least : (value m.factor *ℚ whole row.least) ≤ℚ (value m.factor *ℚ terms_at point row.terms) = subst₂ (λ y z. y ≤ℚ z) (*ℚ_comm (whole row.least) (value m.factor)) (*ℚ_comm (terms_at point row.terms) (value m.factor)) (≤ℚ-*ℚ (whole row.least) (terms_at point row.terms) (value m.factor) positive met) in
    ≤ℚ-+ℚ_both (value m.factor *ℚ whole row.least) (value m.factor *ℚ terms_at point row.terms) (leasts rows ms) (named point rows ms) least (leasts_at_most point rows ms (All-tail (λ (n : Mult). zero_ℚ ≤ℚ value n.factor) m ms some) (All-tail (λ (n : Mult). Meets point (row_at rows n.row)) m ms meets))

-- a step of the balance at one column
taken : (e p x q : ℚ) → q ≡ p *ℚ x → (e -ℚ p) *ℚ x +ℚ q ≡ e *ℚ x
taken e p x q same =
    ap₂ ◌+ℚ◌ (+ℚ-*ℚ e (neg_ℚ p) x ∙ ap (λ y. e *ℚ x +ℚ y) (neg_ℚ-*ℚ p x)) same ∙ taken_back (e *ℚ x) (p *ℚ x)

-- the row has rising terms, all within the columns
pub record IsOver (js : List ℕ) (row : IpRow) : Type 0 where
  pub rising : Rise row.terms
  pub within : All (λ (term : Coef). Contains js term.column) row.terms

-- what the rows take of the columns, and what they leave, is all of the columns
pub balance : (point : ℕ → ℚ) (rows : List IpRow) (js : List ℕ) → Climbs js → (ms : List Mult) → All (λ (m : Mult). IsOver js (row_at rows m.row)) ms → (e : ℕ → ℚ) → named point rows ms +ℚ over (λ j. rest rows j (e j) ms *ℚ point j) js ≡ over (λ j. e j *ℚ point j) js
balance point rows js up [] all e = zero-+ℚ (over (λ j. e j *ℚ point j) js)
balance point rows js up (m ∷ ms) all e =
    let terms = (row_at rows m.row).terms in
    let k = value m.factor in
    let is : IsOver js (row_at rows m.row) = All-head (λ (n : Mult). IsOver js (row_at rows n.row)) m ms all in
    let e' : ℕ → ℚ = λ j. e j -ℚ k *ℚ whole (factor_at terms j) in
    let row : k *ℚ terms_at point terms ≡ over (λ j. k *ℚ (whole (factor_at terms j) *ℚ point j)) js = ap (λ x. k *ℚ x) (terms_over point terms js (climbs (map (λ (t : Coef). t.column) terms) is.rising) up is.within) ∙ sym (over-times k (λ j. whole (factor_at terms j) *ℚ point j) js) in
    +ℚ_assoc (k *ℚ terms_at point terms) (named point rows ms) (over (λ j. rest rows j (e' j) ms *ℚ point j) js)
    ∙ ap (λ x. k *ℚ terms_at point terms +ℚ x) (balance point rows js up ms (All-tail (λ (n : Mult). IsOver js (row_at rows n.row)) m ms all) e')
    ∙ +ℚ_comm (k *ℚ terms_at point terms) (over (λ j. e' j *ℚ point j) js)
    ∙ ap (λ x. over (λ j. e' j *ℚ point j) js +ℚ x) row
    ∙ sym (over-plus (λ j. e' j *ℚ point j) (λ j. k *ℚ (whole (factor_at terms j) *ℚ point j)) js)
    ∙ over-same (λ j. e' j *ℚ point j +ℚ k *ℚ (whole (factor_at terms j) *ℚ point j)) (λ j. e j *ℚ point j) (λ j. taken (e j) (k *ℚ whole (factor_at terms j)) (point j) (k *ℚ (whole (factor_at terms j) *ℚ point j)) (sym (*ℚ_assoc k (whole (factor_at terms j)) (point j)))) js

-- weak duality
pub exact_at_most : (rows : List IpRow) (aim : List Coef) (sides : List Bounds) (ms : List Mult) (reach : List ℕ) → Climbs reach → All (λ j. j < length sides) reach → Rise aim → All (λ (term : Coef). Contains reach term.column) aim → All (λ (m : Mult). IsOver reach (row_at rows m.row)) ms → AreNotNegative ms → IsAtMost (exact_bound rows aim sides ms reach) rows aim sides ms
exact_at_most rows aim sides ms reach up there rising within all some point inside meets =
    let c : ℕ → ℚ = λ j. whole (factor_at aim j) in
    let d : ℕ → ℚ = λ j. rest rows j (c j) ms in
    let columns : over (λ j. least_at (d j) (side_at sides j)) reach ≤ℚ over (λ j. d j *ℚ point j) reach = over-least (λ j. least_at (d j) (side_at sides j)) (λ j. d j *ℚ point j) reach (λ k e lt. least_at_is_least (d (get_or reach k e)) (point (get_or reach k e)) (side_at sides (get_or reach k e)) (inside.low (get_or reach k e) (there k e lt)) (inside.high (get_or reach k e) (there k e lt))) in
    let all_at_most : exact_bound rows aim sides ms reach ≤ℚ (named point rows ms +ℚ over (λ j. d j *ℚ point j) reach) = ≤ℚ-+ℚ_both (leasts rows ms) (named point rows ms) (over (λ j. least_at (d j) (side_at sides j)) reach) (over (λ j. d j *ℚ point j) reach) (leasts_at_most point rows ms some meets) columns in
    let objective : named point rows ms +ℚ over (λ j. d j *ℚ point j) reach ≡ terms_at point aim = balance point rows reach up ms all c ∙ sym (terms_over point aim reach (climbs (map (λ (t : Coef). t.column) aim) rising) up within) in
    subst (λ x. exact_bound rows aim sides ms reach ≤ℚ x) objective all_at_most

-- ---- the same of the bound as it is computed
pub rows_over : (rows : List IpRow) (aim : List Coef) (ms : List Mult) (reach : List ℕ) (columns : ℕ) → All (λ (row : IpRow). AreTerms columns row.terms) rows → All (λ (m : Mult). m.row < length rows) ms → IsReach columns rows aim ms reach → All (λ (m : Mult). IsOver reach (row_at rows m.row)) ms
rows_over rows aim ms reach columns are named is k d lt =
    record { rising = (are (get_or ms k d).row (record { terms = []; least = pos 0 }) (named k d lt)).rising; within = is.rows_within k d lt }

pub bound_in_turn : (rows rows' : List IpRow) (aim : List Coef) (sides : List Bounds) (ms : List Mult) (reach : List ℕ) (t : Option Fraction) (r : Option Fraction) → rows' ≡ rows → t ≡ plus_leasts rows' (whole_fraction (pos 0)) ms → r ≡ (t >>= (λ x. plus_columns rows' aim sides ms x reach)) → r ≡ bound_of rows aim sides ms reach
unfolding bound_of
bound_in_turn rows rows' aim sides ms reach t r same first then =
    then ∙ ap (λ o. o >>= (λ x. plus_columns rows' aim sides ms x reach)) first ∙ ap (λ l. plus_leasts l (whole_fraction (pos 0)) ms >>= (λ x. plus_columns l aim sides ms x reach)) same

module _ (rows : List IpRow) (aim : List Coef) (sides : List Bounds) (ms : List Mult) (reach : List ℕ) where
  pub bound_at_most : All (λ (row : IpRow). AreTerms (length sides) row.terms) rows → AreTerms (length sides) aim → All (λ (m : Mult). m.row < length rows) ms → IsReach (length sides) rows aim ms reach → (r : Option Fraction) → r ≡ bound_of rows aim sides ms reach → IfSome r (λ z. AreNotNegative ms → IsAtMost (value z) rows aim sides ms)
  bound_at_most are aims named is r e =
      if_some (λ z. AreNotNegative ms → IsAtMost (value z) rows aim sides ms) (bound_of rows aim sides ms reach) r e (λ z same some. subst (λ x. IsAtMost x rows aim sides ms) (sym (value-bound_of rows aim sides ms reach z same)) (exact_at_most rows aim sides ms reach (climbs reach is.rising) is.there aims.rising is.aim_within (rows_over rows aim ms reach (length sides) are named is) some))

  pub bound_exact : (r : Option Fraction) → r ≡ bound_of rows aim sides ms reach → IfSome r (λ z. value z ≡ exact_bound rows aim sides ms reach)
  bound_exact r e =
      if_some (λ z. value z ≡ exact_bound rows aim sides ms reach) (bound_of rows aim sides ms reach) r e (λ z same. value-bound_of rows aim sides ms reach z same)
