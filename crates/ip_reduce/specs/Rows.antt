-- Rows with the fixed columns put in, and the least that they come to.
use Rattle.std.specs.Prelude.{◌<◌, ◌≤◌, ◌^◌, ℤ, pos, ◌+ℤ◌, ◌-ℤ◌, ◌*ℤ◌, int_lt, not, if◌then◌else◌, List, [], ◌∷◌, length, filter, All}
use Rattle.ip_rows.specs.declared.Bounds.{Bounds}
use Rattle.ip_rows.specs.declared.rows.Coef.{Coef}
use Rattle.ip_rows.specs.declared.rows.IpRow.{IpRow}
use Rattle.ip_rows.specs.Rows.{side_at, weight}
use Rattle.ip_rows.specs.Programs.{is_fixed, fixed_sum}

-- the terms at columns that are not fixed
abbrev pub open_terms : List Bounds → List Coef → List Coef
open_terms sides terms = filter (λ (term : Coef). not (is_fixed sides term.column)) terms

-- a row with the fixed columns put in
abbrev pub put_in : List Bounds → IpRow → IpRow
put_in sides row = record { terms = open_terms sides row.terms; least = row.least -ℤ fixed_sum sides row.terms }

-- what a term comes to where its column is fixed, else 0
abbrev pub fixed_part : List Bounds → Coef → ℤ
fixed_part sides term = if is_fixed sides term.column then term.factor *ℤ (side_at sides term.column).lo else pos 0

-- the least that a term comes to within the sides
abbrev pub least_part : List Bounds → Coef → ℤ
least_part sides term = if int_lt term.factor (pos 0) then term.factor *ℤ (side_at sides term.column).hi else term.factor *ℤ (side_at sides term.column).lo

-- the least that terms come to within the sides
abbrev pub least_sum : List Bounds → List Coef → ℤ
least_sum sides [] = pos 0
least_sum sides (term ∷ terms) = least_part sides term +ℤ least_sum sides terms

-- the terms name columns that are there, and weigh little
pub record IsLight (sides : List Bounds) (terms : List Coef) : Type 0 where
  pub there : All (λ (term : Coef). term.column < length sides) terms
  pub small : weight sides terms ≤ 2 ^ 120
