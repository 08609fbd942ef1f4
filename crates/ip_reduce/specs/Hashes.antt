-- Hashes of rows.
use Rattle.std.specs.Prelude.{ℕ, ◌+◌, ◌*◌, ◌/◌, ◌%◌, ℤ, pos, int_lt, unsigned_abs, if◌then◌else◌, List, fold}
use Rattle.ip_rows.specs.declared.rows.Coef.{Coef}
use Rattle.ip_rows.specs.declared.rows.IpRow.{IpRow}

-- a hash with one more word
unfoldable pub mixed : ℕ → ℕ → ℕ
mixed hash word = (hash * 2654435769 + word) % 4294967291

-- a hash with one more number: the low and the high half of its size, and its sign
unfoldable pub mixed_number : ℕ → ℤ → ℕ
mixed_number hash number =
    mixed (mixed (mixed hash (unsigned_abs number % 4294967296)) (unsigned_abs number / 4294967296)) (if int_lt number (pos 0) then 1 else 0)

-- a hash with one more term
abbrev pub mixed_term : ℕ → Coef → ℕ
mixed_term hash term = mixed_number (mixed hash term.column) term.factor

-- the hash of terms
abbrev pub mixed_terms : List Coef → ℕ
mixed_terms terms = fold mixed_term 0 terms

-- the hash of a row
abbrev pub hash_of : IpRow → ℕ
hash_of row = mixed_number (mixed_terms row.terms) row.least
