-- how words are taken one after another, and where that stops
use Rattle.std.specs.Prelude.{ℕ, zero, suc, Bool, true, false, ◌&&◌, if◌then◌else◌, List, [], ◌∷◌, length, bytes_eq, codes, Result, Ok, Err}
use Rattle.std.specs.declared.option.Option.{Option}
use Rattle.std.specs.declared.option.Option.TheVariants.{None, Some}
use Rattle.base_kit.specs.Names.{is_name}
use Rattle.base_kit.specs.declared.place.Place.{Place}
use Rattle.tiql_lex.specs.declared.token.TokenKind.{TokenKind}
use Rattle.tiql_lex.specs.declared.token.TokenKind.TheVariants.{Name, Keyword, Number, Text, Sign}
use Rattle.tiql_tree.specs.declared.tree.Spot.{Spot}
use Rattle.tiql_tree.specs.Words.{Word}
use Rattle.tiql_read.specs.declared.word.Seen.{Seen}

-- tokens that are still to be read
abbrev pub Words : Type 0
Words = List Seen

-- what was read and the words behind it, or how many words are left from the first wrong one on
abbrev pub Reading : Type 0 → Type 0
Reading A = Result (A × Words) ℕ

-- a token without its place
abbrev pub word_of : Seen → Word
word_of seen = record { kind = seen.kind; text = seen.text }

infixl 10 ◌>>=◌
-- goes on where nothing was wrong
abbrev pub ◌>>=◌ : {A B : Type 0} → Result A ℕ → (A → Result B ℕ) → Result B ℕ
Ok a >>= f = f a
Err left >>= f = Err left

-- the value, or the first of these words is wrong
abbrev pub told : {A : Type 0} → Words → Option A → Result A ℕ
told words None = Err (length words)
told words (Some a) = Ok a

-- the words behind the first one, if it passes the test
abbrev pub behind : (Word → Bool) → Words → Option Words
behind test [] = None
behind test (seen ∷ words) = if test (word_of seen) then Some words else None

-- the first word is there and passes the test
abbrev pub begins : (Word → Bool) → Words → Bool
begins test [] = false
begins test (seen ∷ words) = test (word_of seen)

-- the words behind the first one, which must pass the test
unfoldable pub need : (Word → Bool) → Words → Result Words ℕ
need test words = told words (behind test words)

-- a value with the words behind it
abbrev pub with_rest : {A : Type 0} → Words → Option A → Option (A × Words)
with_rest words None = None
with_rest words (Some a) = Some (a, words)

-- the value of the first word with the words behind it, if it has one
abbrev pub first_as : {A : Type 0} → (Seen → Option A) → Words → Option (A × Words)
first_as value [] = None
first_as value (seen ∷ words) = with_rest words (value seen)

-- the value of the first word, which must have one
unfoldable pub take_as : {A : Type 0} → (Seen → Option A) → Words → Reading A
take_as value words = told words (first_as value words)

-- two kinds of tokens are one
abbrev pub is_kind : TokenKind → TokenKind → Bool
is_kind Name Name = true
is_kind Keyword Keyword = true
is_kind Number Number = true
is_kind Text Text = true
is_kind Sign Sign = true
is_kind _ _ = false

-- the reserved word of these bytes
unfoldable pub is_key : List ℕ → Word → Bool
is_key text word = is_kind Keyword word.kind && bytes_eq word.text text

-- the sign of these bytes
unfoldable pub is_sign : List ℕ → Word → Bool
is_sign text word = is_kind Sign word.kind && bytes_eq word.text text

-- the word is a name
unfoldable pub is_named : Word → Bool
is_named word = is_kind Name word.kind && is_name word.text

-- the place of the word, if it passes the test
abbrev pub mark_of : (Word → Bool) → Seen → Option Place
mark_of test seen = if test (word_of seen) then Some seen.place else None

-- the place of the first word, which must pass the test
unfoldable pub mark_at : (Word → Bool) → Words → Reading Place
mark_at test words = take_as (mark_of test) words

-- the name that the word is, with its place
unfoldable pub spot_of : Seen → Option Spot
spot_of seen = if is_named (word_of seen) then Some (record { name = seen.text; place = seen.place }) else None

-- a name
unfoldable pub spot_at : Words → Reading Spot
spot_at words = take_as spot_of words

-- parts, as long as the next word passes the test
unfoldable pub more_at : {A : Type 0} → (Word → Bool) → (Words → Reading A) → ℕ → Words → Reading (List A)
more_at test part zero words = Ok ([], words)
more_at test part (suc room) words =
    if begins test words then (part words >>= λ x. more_at test part room x.1 >>= λ y. Ok (x.0 ∷ y.0, y.1)) else Ok ([], words)

-- all the parts that follow
unfoldable pub many_at : {A : Type 0} → (Word → Bool) → (Words → Reading A) → Words → Reading (List A)
many_at test part words = more_at test part (length words) words

-- a part behind a word that passes the test
unfoldable pub next_at : {A : Type 0} → (Word → Bool) → (Words → Reading A) → Words → Reading A
next_at test part words = need test words >>= λ rest. part rest

-- one part or more, with commas between them
unfoldable pub list_at : {A : Type 0} → (Words → Reading A) → Words → Reading (List A)
list_at part words =
    part words >>= λ first.
    many_at (is_sign (codes ",")) (next_at (is_sign (codes ",")) part) first.1 >>= λ more.
    Ok (first.0 ∷ more.0, more.1)
