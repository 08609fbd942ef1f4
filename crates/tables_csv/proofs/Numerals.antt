-- texts of digits with a sign or none
use Rattle.std.proofs.Common.{◌≡◌, ℕ, ◌<◌, ◌==◌, Bool, true, false, cond, List, [], ◌∷◌, drop, zero, suc, refl, ap, ◌∙◌, arith}
use Rattle.std.proofs.lemmas.Bool.{eqb-true}
use Rattle.std.proofs.lemmas.Fmt.{IsAscii-from_digits}
use Rattle.std.proofs.lemmas.Str.{IsUtf8-from_ascii}
use Rattle.std.proofs.lemmas.Str.Ascii.{IsAscii-nil}
use Rattle.std.specs.Str.{IsAscii, IsUtf8}
use Rattle.std.specs.Str.Parse.{AllDigits, without_leading_sign}
use Rattle.tables_csv.specs.Numbers.{Spells, after_spaces, bare, before_spaces}
use Rattle.std.specs.Prelude.{ℤ}

ascii-cons : (byte : ℕ) (bytes : List ℕ) → byte < 128 → IsAscii bytes → IsAscii (byte ∷ bytes)
ascii-cons byte bytes small rest zero = small
ascii-cons byte bytes small rest (suc i) = rest i

-- such a text is ASCII
pub numeral_is_ascii : (text : List ℕ) → AllDigits 10 (without_leading_sign text) → IsAscii text
numeral_is_ascii [] digits = IsAscii-nil
numeral_is_ascii (byte ∷ bytes) digits = by_sign (byte == 45) (byte == 43) refl refl digits
  where
    by_sign : (minus plus : Bool) → (byte == 45) ≡ minus → (byte == 43) ≡ plus
        → AllDigits 10 (cond minus bytes (drop (cond plus 1 0) (byte ∷ bytes))) → IsAscii (byte ∷ bytes)
    by_sign true plus is other h = let e = eqb-true byte 45 is in ascii-cons byte bytes (omega arith) (IsAscii-from_digits bytes h)
    by_sign false true is other h = let e = eqb-true byte 43 other in ascii-cons byte bytes (omega arith) (IsAscii-from_digits bytes h)
    by_sign false false is other h = IsAscii-from_digits (byte ∷ bytes) h

-- a field that spells a number is text between its spaces
pub no_text_spells : (field rest text : List ℕ) → rest ≡ after_spaces field → text ≡ before_spaces rest → ¬ (IsUtf8 text)
    → (number : ℤ) → Spells field number → ⊥
no_text_spells field rest text front back wrong number spelled =
    let e : text ≡ bare field = back ∙ ap before_spaces front in
    wrong (rw e (IsUtf8-from_ascii (bare field) (numeral_is_ascii (bare field) spelled.digits.1)))
