-- A name is text of ASCII, without a space.
use Rattle.std.proofs.Common.{◌≡◌, ◌<◌, ◌≤◌, ℕ, zero, suc, Bool, true, false, not, cond, ◌&&◌, List, [], ◌∷◌, length, refl, arith, eqb, nat_le, slice_index}
use Rattle.std.proofs.lemmas.Bool.{false≢true, ne_eqb}
use Rattle.std.proofs.lemmas.Bool.Decides.{nat_tests}
use Rattle.std.proofs.lemmas.Str.{IsUtf8-from_ascii}
use Rattle.std.specs.Prelude.{Some, None}
use Rattle.std.specs.Str.{IsUtf8}
use Rattle.std.specs.List.{list_all}
use Rattle.base_kit.specs.Names.{starts_name, continues_name, is_word, is_name}
use Rattle.base_kit.specs.Keywords.{is_keyword}
use Rattle.answer_text.specs.Tokens.{name_of}
use Rattle.answer_text.proofs.Words.{lacks}

-- the bytes of a name are letters, digits or `_`
record IsLetter (byte : ℕ) : Type 0 where
  low : 48 ≤ byte
  high : byte < 128

letter_first : (byte : ℕ) → starts_name byte ≡ true → IsLetter byte
letter_first byte h = record { low = grind (arith, nat_tests); high = grind (arith, nat_tests) }

letter_next : (byte : ℕ) → continues_name byte ≡ true → IsLetter byte
letter_next byte h = record { low = grind (arith, nat_tests); high = grind (arith, nat_tests) }

both_front : (a b : Bool) → (a && b) ≡ true → a ≡ true
both_front true b h = refl
both_front false b h = h

both_back : (a b : Bool) → (a && b) ≡ true → b ≡ true
both_back true b h = h
both_back false b h = absurd (false≢true h)

-- what holds of each letter holds of each byte of a name
module _ (P : ℕ → Type 0) (each : (byte : ℕ) → IsLetter byte → P byte) (beyond : P 0) where
  all_rest : (bytes : List ℕ) → list_all continues_name bytes ≡ true → (i : ℕ) → P (slice_index bytes i)
  all_rest [] all i = beyond
  all_rest (byte ∷ bytes) all zero = each byte (letter_next byte (both_front (continues_name byte) (list_all continues_name bytes) all))
  all_rest (byte ∷ bytes) all (suc i) = all_rest bytes (both_back (continues_name byte) (list_all continues_name bytes) all) i

  all_word : (bytes : List ℕ) → is_word bytes ≡ true → (i : ℕ) → P (slice_index bytes i)
  all_word [] word i = beyond
  all_word (byte ∷ bytes) word zero = each byte (letter_first byte (both_front (starts_name byte) (list_all continues_name bytes) word))
  all_word (byte ∷ bytes) word (suc i) = all_rest bytes (both_back (starts_name byte) (list_all continues_name bytes) word) i

name_word : (bytes : List ℕ) → is_name bytes ≡ true → is_word bytes ≡ true
unfolding is_name
name_word bytes name = both_front (is_word bytes) (nat_le (length bytes) 64) (both_front (is_word bytes && nat_le (length bytes) 64) (not (is_keyword bytes)) name)

pub name_utf8 : (bytes : List ℕ) → is_name bytes ≡ true → IsUtf8 bytes
name_utf8 bytes name = IsUtf8-from_ascii bytes (all_word (λ (byte : ℕ). byte < 128) (λ byte letter. letter.high) (omega arith) bytes (name_word bytes name))

-- bytes that are no text are no name
pub name_of-no_text : (bytes : List ℕ) → (IsUtf8 bytes → ⊥) → None ≡ name_of bytes
name_of-no_text bytes apart = by_test (is_name bytes) refl
  where
    by_test : (b : Bool) → is_name bytes ≡ b → None ≡ cond b (Some bytes) None
    by_test true is = absurd (apart (name_utf8 bytes is))
    by_test false is = refl

-- a mark that is no letter is in no name
lacks_each : (mark : ℕ) (bytes : List ℕ) → ((i : ℕ) → i < length bytes → slice_index bytes i ≡ mark → ⊥) → lacks mark bytes ≡ true
lacks_each mark [] each = refl
lacks_each mark (byte ∷ bytes) each =
    let apart : eqb byte mark ≡ false = ne_eqb byte mark (each 0 (omega arith)) in
    rw apart (lacks_each mark bytes (λ i lt same. each (suc i) (omega arith) same))

pub name_lacks : (mark : ℕ) (bytes : List ℕ) → mark < 48 → 0 < mark → is_name bytes ≡ true → lacks mark bytes ≡ true
name_lacks mark bytes low some name =
    lacks_each mark bytes (λ i lt same. all_word (λ (byte : ℕ). byte ≡ mark → ⊥) (λ byte letter is. absurd (omega (arith, letter.low))) (λ is. absurd (omega arith)) bytes (name_word bytes name) i same)
