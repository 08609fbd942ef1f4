-- which lexemes are tokens, and of which kind
use Rattle.std.specs.Prelude.{◌≡◌, ℕ, ◌≤◌, ◌^◌, ◌==◌, Bool, ◌&&◌, nat_lt, nat_le, if◌then◌else◌, List, [], ◌∷◌, ◌++◌, length}
use Rattle.std.specs.Char.{is_ascii_digit}
use Rattle.std.specs.List.{list_all}
use Rattle.std.specs.Str.{IsUtf8}
use Rattle.std.specs.Str.Parse.{digits_value}
use Rattle.base_kit.specs.Keywords.{is_keyword}
use Rattle.base_kit.specs.Names.{starts_name}
use Rattle.tiql_lex.specs.declared.token.TokenKind.{TokenKind}
use Rattle.tiql_lex.specs.declared.token.TokenKind.TheVariants.{Name, Keyword, Number, Text, Sign}

-- each quote of the value is written twice
abbrev pub doubled : List ℕ → List ℕ
doubled [] = []
doubled (b ∷ bs) = if b == 39 then 39 ∷ 39 ∷ doubled bs else b ∷ doubled bs

-- the value in quotes
abbrev pub quoted : List ℕ → List ℕ
quoted value = 39 ∷ doubled value ++ 39 ∷ []

-- the lexeme is a text in quotes, of UTF-8 and at most 1,000 bytes
pub record IsText (lexeme : List ℕ) : Type 0 where
  pub value : List ℕ
  pub whole : lexeme ≡ quoted value
  pub utf8 : IsUtf8 value
  pub short : length value ≤ 1000

-- one or more digits, and a value of at most 10^15
abbrev pub is_number : List ℕ → Bool
is_number lexeme = nat_lt 0 (length lexeme) && (list_all is_ascii_digit lexeme && nat_le (digits_value 10 lexeme) (10 ^ 15))

-- by its first byte, and a word by whether it is reserved
abbrev pub kind_of : List ℕ → TokenKind
kind_of [] = Sign
kind_of (b ∷ bs) =
    if starts_name b then (if is_keyword (b ∷ bs) then Keyword else Name) else (
    if is_ascii_digit b then Number else (
    if b == 39 then Text else Sign))

-- the lexeme has a size that its kind allows, and a text in quotes is ended
abbrev pub Fits : TokenKind → List ℕ → Type 0
Fits Name lexeme = length lexeme ≤ 64
Fits Keyword lexeme = Unit {0}
Fits Number lexeme = digits_value 10 lexeme ≤ 10 ^ 15
Fits Text lexeme = IsText lexeme
Fits Sign lexeme = Unit {0}
