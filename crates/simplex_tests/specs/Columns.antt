-- A part of many columns, each of them 0 or 1, under one row over all of them.
use Rattle.std.specs.Prelude.{ℕ, zero, suc, ◌+◌, ◌*◌, ℤ, pos, List, [], ◌∷◌, ◌++◌, replicate}
use Rattle.ip_rows.specs.declared.Bounds.{Bounds}
use Rattle.ip_rows.specs.declared.rows.Coef.{Coef}
use Rattle.ip_rows.specs.declared.lp.Lp.{Lp}
use Rattle.number_tests.specs.Programs.{term}

-- 0 or 1
abbrev pub side : Bounds
side = record { lo = pos 0; hi = pos 1 }

-- the first column's factor is 3, and each other's is a step above the one before it
abbrev pub factor_of : ℕ → ℕ → ℤ
factor_of step column = pos (3 + step * column)

-- a term of each of the first columns
abbrev pub terms_to : ℕ → ℕ → List Coef
terms_to step zero = []
terms_to step (suc column) = terms_to step column ++ term (factor_of step column) column ∷ []

-- three times the sum of the columns is at least 10, and a column costs 1 more than the one before it
abbrev pub part_of : ℕ → Lp
part_of columns =
    record { sides = replicate columns side; rows = record { terms = terms_to 0 columns; least = pos 10 } ∷ []; aim = terms_to 1 columns }
