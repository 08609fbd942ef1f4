-- A bound is the least of the objective less what the rows have to spare: it is reached at a corner of the box. So where that is nowhere below a number, the bound is not.
use Rattle.std.proofs.Common.{◌≡◌, ℕ, ◌<◌, Bool, true, false, cond, if◌then◌else◌, is_lt, ℤ, ◌≤ℤ◌, List, [], ◌∷◌, ◌++◌, length, map, get_or, refl, sym, ◌∙◌, ap, ap₂, subst, subst₂, arith}
use Rattle.std.specs.List.{All, Contains}
use Rattle.std.proofs.lemmas.List.Elements.{All-head, All-tail}
use Rattle.rat128.specs.Rationals.{ℚ, value, whole, zero_ℚ, order_ℚ, ◌+ℚ◌, ◌*ℚ◌, neg_ℚ, ◌-ℚ◌, ◌≤ℚ◌, ◌<ℚ◌}
use Rattle.rat128.proofs.Rationals.{+ℚ_comm, +ℚ_assoc, +ℚ_zero, zero-+ℚ, +ℚ_neg, *ℚ-+ℚ, *ℚ-neg_ℚ, neg_ℚ-+ℚ, ≤ℚ_refl, ≤ℚ_trans, ≤ℚ_antisymm, ≤ℚ-+ℚ, ≤ℚ-+ℚ_both, ≤ℚ_whole, <ℚ-neg_ℚ}
use Rattle.ip_rows.specs.declared.Bounds.{Bounds}
use Rattle.ip_rows.specs.declared.rows.Coef.{Coef}
use Rattle.ip_rows.specs.declared.rows.IpRow.{IpRow}
use Rattle.ip_rows.specs.declared.mult.Mult.{Mult}
use Rattle.ip_rows.specs.Rows.{side_at, factor_at, Rise}
use Rattle.ip_rows.specs.Points.{terms_at, IsWithin}
use Rattle.safe_bound.specs.Bound.{row_at}
use Rattle.safe_bound.specs.Exact.{over, leasts, rest, least_at, exact_bound}
use Rattle.safe_bound.proofs.Columns.{Climbs, climbs, medial, taken_back, over-least, terms_over}
use Rattle.safe_bound.proofs.Duality.{IsOver, balance, named, least_at_is_least}

-- how much more a row has at a point than it asks
abbrev pub surplus : (ℕ → ℚ) → IpRow → ℚ
surplus point row = terms_at point row.terms -ℚ whole row.least

-- the surpluses of the named rows, each times its multiplier
abbrev pub surpluses : (ℕ → ℚ) → List IpRow → List Mult → ℚ
surpluses point rows [] = zero_ℚ
surpluses point rows (m ∷ ms) = value m.factor *ℚ surplus point (row_at rows m.row) +ℚ surpluses point rows ms

pub surpluses-append : (point : ℕ → ℚ) (rows : List IpRow) (ms ns : List Mult) → surpluses point rows (ms ++ ns) ≡ surpluses point rows ms +ℚ surpluses point rows ns
surpluses-append point rows [] ns = sym (zero-+ℚ (surpluses point rows ns))
surpluses-append point rows (m ∷ ms) ns =
    let x = value m.factor *ℚ surplus point (row_at rows m.row) in
    ap (λ y. x +ℚ y) (surpluses-append point rows ms ns) ∙ sym (+ℚ_assoc x (surpluses point rows ms) (surpluses point rows ns))

-- one more row
pub surpluses-push : (point : ℕ → ℚ) (rows : List IpRow) (ms : List Mult) (m : Mult) → surpluses point rows (ms ++ m ∷ []) ≡ surpluses point rows ms +ℚ value m.factor *ℚ surplus point (row_at rows m.row)
surpluses-push point rows ms m =
    surpluses-append point rows ms (m ∷ []) ∙ ap (λ x. surpluses point rows ms +ℚ x) (+ℚ_zero (value m.factor *ℚ surplus point (row_at rows m.row)))

-- what the rows come to is what they ask and their surpluses
pub leasts_and_surpluses : (point : ℕ → ℚ) (rows : List IpRow) (ms : List Mult) → surpluses point rows ms +ℚ leasts rows ms ≡ named point rows ms
leasts_and_surpluses point rows [] = +ℚ_zero zero_ℚ
leasts_and_surpluses point rows (m ∷ ms) =
    let row = row_at rows m.row in
    let k = value m.factor in
    let own : k *ℚ surplus point row +ℚ k *ℚ whole row.least ≡ k *ℚ terms_at point row.terms = sym (*ℚ-+ℚ k (surplus point row) (whole row.least)) ∙ ap (λ x. k *ℚ x) (taken_back (terms_at point row.terms) (whole row.least)) in
    medial (k *ℚ surplus point row) (surpluses point rows ms) (k *ℚ whole row.least) (leasts rows ms) ∙ ap₂ ◌+ℚ◌ own (leasts_and_surpluses point rows ms)

-- no side is empty
pub record AreOpen (sides : List Bounds) : Type 0 where
  pub sides_open : (column : ℕ) → column < length sides → (side_at sides column).lo ≤ℤ (side_at sides column).hi

module _ (rows : List IpRow) (aim : List Coef) (ms : List Mult) where
  -- what is left of a column's factor
  abbrev pub left : ℕ → ℚ
  left column = rest rows column (whole (factor_at aim column)) ms

  -- the objective less the surpluses: no more than the objective where the rows are met
  abbrev pub lagrangian : (ℕ → ℚ) → ℚ
  lagrangian point = terms_at point aim -ℚ surpluses point rows ms

  -- what the rows ask, and what is left of the columns at the point
  pub lagrangian_is : (reach : List ℕ) → Climbs reach → Rise aim → All (λ (term : Coef). Contains reach term.column) aim → All (λ (m : Mult). IsOver reach (row_at rows m.row)) ms → (point : ℕ → ℚ) → lagrangian point ≡ leasts rows ms +ℚ over (λ j. left j *ℚ point j) reach
  lagrangian_is reach up rising within all point =
      let s = surpluses point rows ms in
      let l = leasts rows ms in
      let r = over (λ j. left j *ℚ point j) reach in
      let objective : (s +ℚ l) +ℚ r ≡ terms_at point aim = ap (λ x. x +ℚ r) (leasts_and_surpluses point rows ms) ∙ balance point rows reach up ms all (λ j. whole (factor_at aim j)) ∙ sym (terms_over point aim reach (climbs (map (λ (term : Coef). term.column) aim) rising) up within) in
      ap (λ x. x -ℚ s) (sym objective ∙ +ℚ_assoc s l r ∙ +ℚ_comm s (l +ℚ r)) ∙ +ℚ_assoc (l +ℚ r) s (neg_ℚ s) ∙ ap (λ x. (l +ℚ r) +ℚ x) (+ℚ_neg s) ∙ +ℚ_zero (l +ℚ r)

  module _ (sides : List Bounds) (reach : List ℕ) (up : Climbs reach) (there : All (λ j. j < length sides) reach) (rising : Rise aim) (within : All (λ (term : Coef). Contains reach term.column) aim) (all : All (λ (m : Mult). IsOver reach (row_at rows m.row)) ms) where
    -- the corner at which the bound takes each column
    abbrev pub corner : ℕ → ℚ
    corner column = whole (if is_lt (order_ℚ (left column) zero_ℚ) then (side_at sides column).hi else (side_at sides column).lo)

    pub corner_within : AreOpen sides → IsWithin sides corner
    corner_within some = record { low = λ j lt. at_low (is_lt (order_ℚ (left j) zero_ℚ)) (side_at sides j) (some.sides_open j lt); high = λ j lt. at_high (is_lt (order_ℚ (left j) zero_ℚ)) (side_at sides j) (some.sides_open j lt) }
      where
        at_low : (b : Bool) (side : Bounds) → side.lo ≤ℤ side.hi → whole side.lo ≤ℚ whole (cond b side.hi side.lo)
        at_low true side le = ≤ℚ_whole side.lo side.hi le
        at_low false side le = ≤ℚ_refl (whole side.lo)

        at_high : (b : Bool) (side : Bounds) → side.lo ≤ℤ side.hi → whole (cond b side.hi side.lo) ≤ℚ whole side.hi
        at_high true side le = ≤ℚ_refl (whole side.hi)
        at_high false side le = ≤ℚ_whole side.lo side.hi le

    -- the bound is reached there
    pub bound_at_corner : exact_bound rows aim sides ms reach ≡ lagrangian corner
    bound_at_corner = sym (lagrangian_is reach up rising within all corner)

    -- and is nowhere less
    pub bound_below : (point : ℕ → ℚ) → IsWithin sides point → exact_bound rows aim sides ms reach ≤ℚ lagrangian point
    bound_below point inside =
        subst (λ x. exact_bound rows aim sides ms reach ≤ℚ x) (sym (lagrangian_is reach up rising within all point)) (≤ℚ-+ℚ_both (leasts rows ms) (leasts rows ms) (over (λ j. least_at (left j) (side_at sides j)) reach) (over (λ j. left j *ℚ point j) reach) (≤ℚ_refl (leasts rows ms)) (over-least (λ j. least_at (left j) (side_at sides j)) (λ j. left j *ℚ point j) reach (λ k d lt. least_at_is_least (left (get_or reach k d)) (point (get_or reach k d)) (side_at sides (get_or reach k d)) (inside.low (get_or reach k d) (there k d lt)) (inside.high (get_or reach k d) (there k d lt)))))

    -- a number that the objective less the surpluses does not fall below, the bound does not either
    pub bound_reaches : AreOpen sides → (least : ℚ) → ((point : ℕ → ℚ) → IsWithin sides point → least ≤ℚ lagrangian point) → least ≤ℚ exact_bound rows aim sides ms reach
    bound_reaches some least h =
        subst (λ x. least ≤ℚ x) (sym bound_at_corner) (h corner (corner_within some))

    -- the same of a number that it is always above
    pub bound_passes : AreOpen sides → (least : ℚ) → ((point : ℕ → ℚ) → IsWithin sides point → least <ℚ lagrangian point) → least <ℚ exact_bound rows aim sides ms reach
    bound_passes some least h =
        subst (λ x. least <ℚ x) (sym bound_at_corner) (h corner (corner_within some))

-- with no aim: where the surpluses can't but be negative, the bound is positive, so that no point meets the rows
pub none_closes : (rows : List IpRow) (ms : List Mult) (sides : List Bounds) (reach : List ℕ) → Climbs reach → All (λ j. j < length sides) reach → All (λ (m : Mult). IsOver reach (row_at rows m.row)) ms → AreOpen sides → ((point : ℕ → ℚ) → IsWithin sides point → surpluses point rows ms <ℚ zero_ℚ) → zero_ℚ <ℚ exact_bound rows [] sides ms reach
none_closes rows ms sides reach up there all some h =
    bound_passes rows [] ms sides reach up there (λ k lt. absurd (omega arith)) (λ k d lt. absurd (omega arith)) all some zero_ℚ (λ point inside. subst₂ (λ x y. x <ℚ y) neg-zero (sym (zero-+ℚ (neg_ℚ (surpluses point rows ms)))) (<ℚ-neg_ℚ (surpluses point rows ms) zero_ℚ (h point inside)))
  where
    neg-zero : neg_ℚ zero_ℚ ≡ zero_ℚ
    neg-zero = sym (zero-+ℚ (neg_ℚ zero_ℚ)) ∙ +ℚ_neg zero_ℚ

-- two lists of rows, aims and multipliers with the same objective less surpluses over the box have the same bound
pub bounds_same : (rows rows' : List IpRow) (aim aim' : List Coef) (ms ms' : List Mult) (sides : List Bounds) (reach reach' : List ℕ) → Climbs reach → Climbs reach' → All (λ j. j < length sides) reach → All (λ j. j < length sides) reach' → Rise aim → Rise aim' → All (λ (term : Coef). Contains reach term.column) aim → All (λ (term : Coef). Contains reach' term.column) aim' → All (λ (m : Mult). IsOver reach (row_at rows m.row)) ms → All (λ (m : Mult). IsOver reach' (row_at rows' m.row)) ms' → AreOpen sides → ((point : ℕ → ℚ) → IsWithin sides point → lagrangian rows aim ms point ≡ lagrangian rows' aim' ms' point) → exact_bound rows aim sides ms reach ≡ exact_bound rows' aim' sides ms' reach'
bounds_same rows rows' aim aim' ms ms' sides reach reach' up up' there there' rising rising' within within' all all' some h =
    ≤ℚ_antisymm (exact_bound rows aim sides ms reach) (exact_bound rows' aim' sides ms' reach')
    (bound_reaches rows' aim' ms' sides reach' up' there' rising' within' all' some (exact_bound rows aim sides ms reach) (λ point inside. subst (λ x. exact_bound rows aim sides ms reach ≤ℚ x) (h point inside) (bound_below rows aim ms sides reach up there rising within all point inside)))
    (bound_reaches rows aim ms sides reach up there rising within all some (exact_bound rows' aim' sides ms' reach') (λ point inside. subst (λ x. exact_bound rows' aim' sides ms' reach' ≤ℚ x) (sym (h point inside)) (bound_below rows' aim' ms' sides reach' up' there' rising' within' all' point inside)))
