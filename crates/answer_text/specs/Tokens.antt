-- The words of a line.
use Rattle.std.specs.Prelude.{◌+◌, ◌-◌, ◌*◌, ◌<◌, ℕ, ℤ, zero, suc, pos, negsuc, Bool, false, ◌&&◌, ◌==◌, nat_lt, if◌then◌else◌, Option, Some, None, List, [], ◌∷◌, length, decimal, option_and_then}
use Rattle.std.specs.Char.{is_ascii_digit}
use Rattle.std.specs.List.{list_all}
use Rattle.std.specs.Option.{option_map}
use Rattle.std.specs.Str.{bytes_eq}
use Rattle.base_kit.specs.Names.{is_name}

-- what stands before the first such byte, and what stands behind it
unfoldable pub cut : ℕ → List ℕ → Option (List ℕ × List ℕ)
cut mark [] = None
cut mark (byte ∷ bytes) = if byte == mark then Some ([], bytes) else option_map (λ x. (byte ∷ x.0, x.1)) (cut mark bytes)

-- what stands behind a word with which the bytes begin
unfoldable pub strip : List ℕ → List ℕ → Option (List ℕ)
strip [] bytes = Some bytes
strip (letter ∷ word) [] = None
strip (letter ∷ word) (byte ∷ bytes) = if byte == letter then strip word bytes else None

-- digits alone
abbrev pub are_digits : List ℕ → Bool
are_digits text = list_all is_ascii_digit text

-- digits alone, at least one, and no zero in front of another
unfoldable pub is_numeral : List ℕ → Bool
is_numeral [] = false
is_numeral (digit ∷ digits) = if digit == 48 then length digits == 0 else are_digits (digit ∷ digits)

-- the number that the digits write behind those of another
unfoldable pub value_after : ℕ → List ℕ → ℕ
value_after n [] = n
value_after n (digit ∷ digits) = value_after (n * 10 + (digit - 48)) digits

-- the number below a limit of which this is the spelling
unfoldable pub number_of : ℕ → List ℕ → Option ℕ
number_of limit text = if nat_lt (value_after 0 text) limit && bytes_eq text (decimal (value_after 0 text)) then Some (value_after 0 text) else None

-- the number below zero of this size
abbrev pub negated : ℕ → Option ℤ
negated zero = None
negated (suc n) = Some (negsuc n)

-- a number below zero whose size is below one limit, or a number below another
abbrev pub IsWithin : ℕ → ℕ → ℤ → Type 0
IsWithin below above (pos n) = n < above
IsWithin below above (negsuc n) = suc n < below

-- the number within these limits of which this is the spelling, by what stands behind its minus
abbrev pub signed_from : ℕ → ℕ → List ℕ → Option (List ℕ) → Option ℤ
signed_from below above text None = option_map pos (number_of above text)
signed_from below above text (Some digits) = option_and_then negated (number_of below digits)

-- the number within these limits of which this is the spelling
unfoldable pub signed_of : ℕ → ℕ → List ℕ → Option ℤ
signed_of below above text = signed_from below above text (strip (45 ∷ []) text)

-- the name that the bytes are
abbrev pub name_of : List ℕ → Option (List ℕ)
name_of text = if is_name text then Some text else None
