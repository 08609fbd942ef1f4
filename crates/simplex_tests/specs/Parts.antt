-- Parts of two columns, and a test that a part may be relaxed.
use Rattle.std.specs.Prelude.{◌+◌, ◌^◌, nat_le, int_lt, not, Bool, ◌&&◌, unsigned_abs, List, [], ◌∷◌, length, Option, Some, None}
use Rattle.std.specs.List.{list_all}
use Rattle.ip_rows.specs.declared.Bounds.{Bounds}
use Rattle.ip_rows.specs.declared.rows.Coef.{Coef}
use Rattle.ip_rows.specs.declared.rows.IpRow.{IpRow}
use Rattle.ip_rows.specs.declared.lp.Lp.{Lp}
use Rattle.ip_rows.specs.Rows.{weight}
use Rattle.number_tests.specs.Programs.{term, are_terms}
use Rattle.simplex_tests.specs.declared.asked.Factors.{Factors}
use Rattle.simplex_tests.specs.declared.asked.Asked.{Asked}

abbrev pub aim_of : Option Factors → List Coef
aim_of None = []
aim_of (Some factors) = term factors.x 0 ∷ term factors.y 1 ∷ []

abbrev pub row_of : Asked → IpRow
row_of asked = record { terms = aim_of (Some asked.factors); least = asked.least }

abbrev pub rows_of : Option Asked → List IpRow
rows_of None = []
rows_of (Some asked) = row_of asked ∷ []

abbrev pub part_of : Bounds → Bounds → Option Asked → Option Factors → Lp
part_of x y asked factors =
    record { sides = x ∷ y ∷ []; rows = rows_of asked; aim = aim_of factors }

-- a row's weight and the size of what it asks are together at most 2 ^ 120
abbrev pub is_measured_row : List Bounds → IpRow → Bool
is_measured_row sides row = nat_le (weight sides row.terms + unsigned_abs row.least) (2 ^ 120)

-- the terms of the aim and of each row are in order
abbrev pub is_formed : Lp → Bool
is_formed lp =
    are_terms (length lp.sides) lp.aim && list_all (λ (row : IpRow). are_terms (length lp.sides) row.terms) lp.rows

-- the aim's weight is at most 2 ^ 120, and so are those of the rows
abbrev pub is_measured : Lp → Bool
is_measured lp = nat_le (weight lp.sides lp.aim) (2 ^ 120) && list_all (is_measured_row lp.sides) lp.rows

-- no side is empty
abbrev pub is_open : Lp → Bool
is_open lp = list_all (λ (side : Bounds). not (int_lt side.hi side.lo)) lp.sides

-- a part may be relaxed
abbrev pub is_part : Lp → Bool
is_part lp = is_formed lp && (is_measured lp && is_open lp)
