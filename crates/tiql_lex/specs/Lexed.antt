-- the tokens of a text, up to the first place where none begins
use Rattle.std.specs.Prelude.{◌≡◌, ℕ, ◌<◌, ◌≤◌, false, List, [], ◌∷◌, length, drop, slice_range}
use Rattle.std.specs.declared.option.Option.{Option}
use Rattle.std.specs.declared.option.Option.TheVariants.{None, Some}
use Rattle.base_kit.specs.declared.place.Place.{Place}
use Rattle.tiql_lex.specs.declared.token.Token.{Token}
use Rattle.tiql_lex.specs.declared.token.Lexed.{Lexed}
use Rattle.tiql_lex.specs.Lexemes.{behind_blanks, IsFirstLexeme}
use Rattle.tiql_lex.specs.Kinds.{kind_of, Fits}
use Rattle.tiql_lex.specs.Places.{mark_size, place_at}

-- the bytes of the token
abbrev pub text_of : List ℕ → Token → List ℕ
text_of bytes token = slice_range bytes token.from token.to

-- the token begins with the byte of this number
pub record Stands (bytes : List ℕ) (from : ℕ) (token : Token) : Type 0 where
  pub start : token.from ≡ from
  pub order : token.from < token.to
  pub inside : token.to ≤ length bytes
  pub lexeme : IsFirstLexeme (drop token.from bytes) (text_of bytes token) (drop token.to bytes)
  pub kind : token.kind ≡ kind_of (text_of bytes token)
  pub fits : Fits token.kind (text_of bytes token)
  pub place : token.place ≡ place_at bytes token.from

-- only white space and comments stand from the one byte up to the other, which begins neither
pub record Skips (bytes : List ℕ) (last from : ℕ) : Type 0 where
  pub order : last ≤ from
  pub inside : from ≤ length bytes
  pub blank : behind_blanks false (drop last bytes) ≡ drop from bytes

-- the tokens follow one another from this byte on
unfoldable pub AreTokens : List ℕ → ℕ → List Token → Type 0
AreTokens bytes last [] = Unit {0}
AreTokens bytes last (token ∷ tokens) = Skips bytes last token.from × Stands bytes token.from token × AreTokens bytes token.to tokens

-- behind the last of the tokens
abbrev pub end_of : ℕ → List Token → ℕ
end_of last [] = last
end_of last (token ∷ tokens) = end_of token.to tokens

-- nothing but white space and comments is left, or this is the place of the first byte that is left, and no token begins
-- there
abbrev pub IsLexicalStop : List ℕ → ℕ → Option Place → Type 0
IsLexicalStop bytes last None = Skips bytes last (length bytes)
IsLexicalStop bytes last (Some place) =
    (from : ℕ) × Skips bytes last from × (from < length bytes) × (place ≡ place_at bytes from) × ((token : Token) → Stands bytes from token → ⊥)

-- the tokens of the bytes, where they stop, and the place behind the last byte
pub record IsLexed (bytes : List ℕ) (lexed : Lexed) : Type 0 where
  pub tokens : AreTokens bytes (mark_size bytes) lexed.tokens
  pub stop : IsLexicalStop bytes (end_of (mark_size bytes) lexed.tokens) lexed.stop
  pub end : lexed.end ≡ place_at bytes (length bytes)
