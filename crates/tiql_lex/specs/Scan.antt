-- how the first lexeme of a text is found, and what a text in quotes says
use Rattle.std.specs.Prelude.{◌≡◌, ℕ, ◌+◌, ◌≤◌, ◌==◌, Bool, false, not, if◌then◌else◌, List, [], ◌∷◌, ◌++◌, length}
use Rattle.std.specs.declared.option.Option.{Option}
use Rattle.std.specs.declared.option.Option.TheVariants.{None, Some}
use Rattle.std.specs.Char.{is_ascii_digit}
use Rattle.std.specs.List.{prefix_len}
use Rattle.base_kit.specs.Names.{starts_name, continues_name}
use Rattle.tiql_lex.specs.declared.scan.Position.{Position}
use Rattle.tiql_lex.specs.Lexemes.{is_sign, is_pair}
use Rattle.tiql_lex.specs.Places.{mark_size, place_at}

-- the byte and the first of these are one sign
abbrev pub pairs_with : ℕ → List ℕ → Bool
pairs_with b [] = false
pairs_with b (c ∷ cs) = is_pair b c

-- how many bytes the sign has that begins with this byte, or 0 where none does
abbrev pub sign_size : ℕ → List ℕ → ℕ
sign_size b bs = if pairs_with b bs then 2 else (if is_sign b then 1 else 0)

-- how many bytes go on a text in quotes
abbrev pub text_size : Bool → List ℕ → ℕ
text_size ended [] = 0
text_size ended (b ∷ bs) = if b == 39 then 1 + text_size (not ended) bs else (if ended then 0 else 1 + text_size false bs)

-- how many bytes the first lexeme has, or 0 where none begins
abbrev pub lexeme_size : List ℕ → ℕ
lexeme_size [] = 0
lexeme_size (b ∷ bs) =
    if starts_name b then 1 + prefix_len continues_name bs else (
    if is_ascii_digit b then 1 + prefix_len is_ascii_digit bs else (
    if b == 39 then 1 + text_size false bs else sign_size b bs))

-- what a text in quotes says, behind its first quote; this much is read, and the test says whether a quote was the last
abbrev pub value_from : List ℕ → Bool → List ℕ → Option (List ℕ)
value_from value ended [] = if ended then Some value else None
value_from value ended (b ∷ bs) =
    if b == 39 then value_from (if ended then value ++ b ∷ [] else value) (not ended) bs else (
    if ended then None else value_from (value ++ b ∷ []) false bs)

-- the position is one in the bytes, with its place
pub record IsPosition (bytes : List ℕ) (position : Position) : Type 0 where
  pub start : mark_size bytes ≤ position.at
  pub inside : position.at ≤ length bytes
  pub place : position.place ≡ place_at bytes position.at
  pub line : position.place.line ≤ position.at + 1
  pub column : position.place.column ≤ position.at + 1
