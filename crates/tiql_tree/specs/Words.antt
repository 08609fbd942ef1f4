-- the words of the grammar: tokens without their places
use Rattle.std.specs.Prelude.{ℕ, List, ◌∷◌, ◌++◌}
use Rattle.std.specs.List.{flat_map}
use Rattle.tiql_lex.specs.declared.token.TokenKind.{TokenKind}
use Rattle.tiql_lex.specs.declared.token.TokenKind.TheVariants.{Name, Keyword, Number, Text, Sign}
use Rattle.tiql_lex.specs.Kinds.{quoted}

-- a token's kind and its bytes
pub record Word : Type 0 where
  pub kind : TokenKind
  pub text : List ℕ

-- a reserved word
abbrev pub key : List ℕ → Word
key text = record { kind = Keyword; text = text }

-- a sign
abbrev pub sign : List ℕ → Word
sign text = record { kind = Sign; text = text }

-- a name
abbrev pub named : List ℕ → Word
named name = record { kind = Name; text = name }

-- a number, by its digits
abbrev pub digits : List ℕ → Word
digits text = record { kind = Number; text = text }

-- the text in quotes of this value
abbrev pub in_quotes : List ℕ → Word
in_quotes value = record { kind = Text; text = quoted value }

-- one part or more
pub record Several (A : Type 0) : Type 0 where
  pub first : A
  pub more : List A

-- all parts as a list
abbrev pub parts_of : {A : Type 0} → Several A → List A
parts_of parts = parts.first ∷ parts.more

-- the first part, and before each other one these words: part { words part }
abbrev pub with_between : {A : Type 0} → List Word → (A → List Word) → Several A → List Word
with_between between words parts = words parts.first ++ flat_map (λ part. between ++ words part) parts.more
