-- The rows of two worked programs, and tests that they are well formed.
use Rattle.std.specs.Prelude.{ℕ, ℤ, pos, negsuc, unsigned_abs, nat_lt, nat_eq, Bool, true, ◌&&◌, List, [], ◌∷◌, map}
use Rattle.std.specs.List.{list_all, list_any}
use Rattle.ip_rows.specs.declared.rows.Coef.{Coef}
use Rattle.ip_rows.specs.declared.rows.IpRow.{IpRow}

-- a factor of a column
abbrev pub term : ℤ → ℕ → Coef
term factor column = record { factor = factor; column = column }

-- z is x + y and at most 8, for the columns x, y, z
abbrev pub capped_rows : List IpRow
capped_rows =
    record { terms = term (negsuc 0) 0 ∷ term (negsuc 0) 1 ∷ term (pos 1) 2 ∷ []; least = pos 0 }
    ∷ record { terms = term (pos 1) 0 ∷ term (pos 1) 1 ∷ term (negsuc 0) 2 ∷ []; least = pos 0 }
    ∷ record { terms = term (negsuc 0) 2 ∷ []; least = negsuc 7 }
    ∷ []

-- each number is below the next
abbrev pub rise : List ℕ → Bool
rise [] = true
rise (m ∷ []) = true
rise (m ∷ n ∷ ns) = nat_lt m n && rise (n ∷ ns)

-- a term names a column below this number, and its factor is not 0
abbrev pub is_term : ℕ → Coef → Bool
is_term columns term = nat_lt term.column columns && nat_lt 0 (unsigned_abs term.factor)

-- the terms rise, and each is one
abbrev pub are_terms : ℕ → List Coef → Bool
are_terms columns terms = rise (map (λ (term : Coef). term.column) terms) && list_all (is_term columns) terms

-- each term's column is among these
abbrev pub are_within : List ℕ → List Coef → Bool
are_within reach terms = list_all (λ (term : Coef). list_any (nat_eq term.column) reach) terms
