-- names are plain fields, and the digits of a number spell it
use Rattle.std.proofs.Common.{◌≡◌, ◌≢◌, ◌⊎◌, ◌∙◌, ◌-◌, ◌^◌, ◌<◌, ◌≤◌, ◌==◌, ◌&&◌, ℕ, zero, suc, true, false, List, [], ◌∷◌, ap, inl, inr, refl, sym, arith, length, get_or, leb, reverse, IsTrue}
use Rattle.std.specs.Prelude.{ℤ, pos, negsuc, neg_ℤ, unsigned_abs}
use Rattle.std.proofs.lemmas.Bool.{and_parts, false≢true, ne_eqb}
use Rattle.std.proofs.lemmas.Fmt.{decimal_is_IsNumeral}
use Rattle.std.proofs.lemmas.List.{get_or-reverse, reverse-reverse}
use Rattle.std.proofs.lemmas.Str.Parse.{digit_at}
use Rattle.std.specs.Fmt.{decimal, signed_decimal}
use Rattle.std.specs.Int.{IsInRange}
use Rattle.std.specs.List.{list_all, list_any}
use Rattle.std.specs.Str.Parse.{IsNumeral, signed_digits_value, without_leading_sign}
use Rattle.csv.specs.Writing.{default_writer, needs_byte}
use Rattle.base_kit.specs.Names.{continues_name, is_name, is_word, starts_name}
use Rattle.tables_csv.proofs.Lines.{IsPlain}
use Rattle.tables_csv.specs.Numbers.{Spells, after_spaces, bare, before_spaces}

-- a byte that `csv` sets no quotes for
plain_byte : (b : ℕ) → b ≢ 44 → b ≢ 34 → b ≢ 13 → b ≢ 10 → needs_byte default_writer b ≡ false
plain_byte b comma quote return feed = rw (ne_eqb b 44 comma, ne_eqb b 34 quote, ne_eqb b 13 return, ne_eqb b 10 feed) refl

-- ---- names

-- a byte of a name
name_byte : (b : ℕ) → continues_name b ≡ true → needs_byte default_writer b ≡ false
name_byte b is = plain_byte b
    (λ e. false≢true (rw e at is))
    (λ e. false≢true (rw e at is))
    (λ e. false≢true (rw e at is))
    (λ e. false≢true (rw e at is))

first_byte : (b : ℕ) → starts_name b ≡ true → needs_byte default_writer b ≡ false
first_byte b is = plain_byte b
    (λ e. false≢true (rw e at is))
    (λ e. false≢true (rw e at is))
    (λ e. false≢true (rw e at is))
    (λ e. false≢true (rw e at is))

name_rest : (bytes : List ℕ) → list_all continues_name bytes ≡ true → list_any (needs_byte default_writer) bytes ≡ false
name_rest [] is = refl
name_rest (b ∷ bytes) is =
    let p = and_parts (continues_name b) (list_all continues_name bytes) is in rw (name_byte b p.0) (name_rest bytes p.1)

-- a name is plain
pub name_plain : (name : List ℕ) → IsTrue (is_name name) → IsPlain name
unfolding is_name
name_plain [] is = absurd (false≢true is)
name_plain (b ∷ bytes) is =
    let most = and_parts (is_word (b ∷ bytes) && leb (length (b ∷ bytes)) 64) _ is in
    let word = and_parts (is_word (b ∷ bytes)) (leb (length (b ∷ bytes)) 64) most.0 in
    let parts = and_parts (starts_name b) (list_all continues_name bytes) word.0 in
    record { some = omega arith; unmarked = rw (first_byte b parts.0) (name_rest bytes parts.1) }

-- and begins with no byte order mark
pub name_front : (name : List ℕ) → IsTrue (is_name name) → get_or name 0 0 ≢ 239
unfolding is_name
name_front [] is = absurd (false≢true is)
name_front (b ∷ bytes) is =
    let most = and_parts (is_word (b ∷ bytes) && leb (length (b ∷ bytes)) 64) _ is in
    let word = and_parts (is_word (b ∷ bytes)) (leb (length (b ∷ bytes)) 64) most.0 in
    let parts = and_parts (starts_name b) (list_all continues_name bytes) word.0 in
    λ e. false≢true (rw e at parts.0)

-- ---- numbers

-- a byte of a number
abbrev IsNumberByte : ℕ → Type 0
IsNumberByte b = (b ≡ 45) ⊎ IsInRange 48 57 b

number_byte : (z : ℤ) → unsigned_abs z < 2 ^ 63 → (i : ℕ) → i < length (signed_decimal z) → IsNumberByte (get_or (signed_decimal z) i 0)
number_byte (pos n) small i there = inr (digit_at (decimal n) i (decimal_is_IsNumeral n (omega arith)).0.1 there)
number_byte (negsuc n) small zero there = inl refl
number_byte (negsuc n) small (suc i) there = inr (digit_at (decimal (suc n)) i (decimal_is_IsNumeral (suc n) (omega arith)).0.1 (omega arith))

number_some : (z : ℤ) → unsigned_abs z < 2 ^ 63 → 0 < length (signed_decimal z)
number_some (pos n) small = (decimal_is_IsNumeral n (omega arith)).0.0
number_some (negsuc n) small = omega arith

-- a text with no space at either end is bare
after_none : (text : List ℕ) → get_or text 0 0 ≢ 32 → after_spaces text ≡ text
unfolding after_spaces
after_none [] none = refl
after_none (b ∷ bytes) none = rw (ne_eqb b 32 none) refl

bare_same : (text : List ℕ) → 0 < length text → get_or text 0 0 ≢ 32 → get_or text (length text - 1) 0 ≢ 32 → bare text ≡ text
unfolding before_spaces
bare_same text some front back =
    let last : get_or (reverse text) 0 0 ≡ get_or text (length text - 1) 0 =
    get_or-reverse text 0 0 some ∙ ap (λ (i : ℕ). get_or text i 0) (omega arith) in
    rw (after_none text front) (rw (after_none (reverse text) (λ e. back (sym last ∙ e))) (reverse-reverse text))

no_space : (b : ℕ) → IsNumberByte b → b ≢ 32
no_space b (inl minus) e = absurd (omega arith)
no_space b (inr digit) e = absurd (omega arith)

number_bare : (z : ℤ) → unsigned_abs z < 2 ^ 63 → bare (signed_decimal z) ≡ signed_decimal z
number_bare z within =
    let some = number_some z within in
    bare_same (signed_decimal z) some (no_space _ (number_byte z within 0 some))
    (no_space _ (number_byte z within (length (signed_decimal z) - 1) (omega arith)))

-- the digits of a number, without its minus
unsigned_digits : (z : ℤ) → unsigned_abs z < 2 ^ 63 → IsNumeral 10 (without_leading_sign (signed_decimal z)) × (z ≡ signed_digits_value 10 (signed_decimal z))
unsigned_digits (pos n) small =
    let is = decimal_is_IsNumeral n (omega arith) in
    let first = digit_at (decimal n) 0 is.0.1 is.0.0 in
    let minus : (get_or (decimal n) 0 0 == 45) ≡ false = ne_eqb _ 45 (λ e. absurd (omega arith)) in
    let plus : (get_or (decimal n) 0 0 == 43) ≡ false = ne_eqb _ 43 (λ e. absurd (omega arith)) in
    rw (minus, plus) (is.0, ap pos (sym is.1))
unsigned_digits (negsuc n) small =
    let is = decimal_is_IsNumeral (suc n) (omega arith) in
    (is.0, ap (λ (m : ℕ). neg_ℤ (pos m)) (sym is.1))

-- a number of a table is spelled by its digits
pub number_spelled : (z : ℤ) → unsigned_abs z ≤ 10 ^ 15 → Spells (signed_decimal z) z
number_spelled z small =
    let within : unsigned_abs z < 2 ^ 63 = omega arith in
    let same = number_bare z within in
    let digits = unsigned_digits z within in
    record { digits = rw same digits.0; value = rw same digits.1; size = small }
