-- the whole number that a field of a table spells
use Rattle.std.specs.Prelude.{◌≡◌, ℕ, ◌^◌, ◌≤◌, ◌==◌, ℤ, unsigned_abs, List, [], ◌∷◌, reverse, if◌then◌else◌}
use Rattle.std.specs.Str.Parse.{IsNumeral, signed_digits_value, without_leading_sign}

-- a text from its first byte that is no space on
unfoldable pub after_spaces : List ℕ → List ℕ
after_spaces [] = []
after_spaces (byte ∷ bytes) = if byte == 32 then after_spaces bytes else byte ∷ bytes

-- a text up to its last byte that is no space
unfoldable pub before_spaces : List ℕ → List ℕ
before_spaces text = reverse (after_spaces (reverse text))

-- a field without the spaces at its two ends
abbrev pub bare : List ℕ → List ℕ
bare field = before_spaces (after_spaces field)

-- between its spaces the field is a sign or none and one or more digits, and they write this number, of at most 10^15 on
-- either side of 0
pub record Spells (field : List ℕ) (number : ℤ) : Type 0 where
  pub digits : IsNumeral 10 (without_leading_sign (bare field))
  pub value : number ≡ signed_digits_value 10 (bare field)
  pub size : unsigned_abs number ≤ 10 ^ 15
