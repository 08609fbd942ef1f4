-- the words, numbers, texts and signs that stand in a text, whatever their size
use Rattle.std.specs.Prelude.{◌≡◌, ℕ, ◌<◌, ◌==◌, Bool, true, false, not, ◌&&◌, ◌||◌, if◌then◌else◌, List, [], ◌∷◌, ◌++◌, length, codes}
use Rattle.std.specs.Char.{is_ascii_digit}
use Rattle.std.specs.List.{list_all, list_any}
use Rattle.base_kit.specs.Names.{starts_name, continues_name}

-- white space: space, tab, CR or LF
abbrev pub is_white : ℕ → Bool
is_white b = list_any (λ c. c == b) (32 ∷ 9 ∷ 13 ∷ 10 ∷ [])

-- the bytes begin with this one
abbrev pub begins_with : ℕ → List ℕ → Bool
begins_with c [] = false
begins_with c (b ∷ bs) = b == c

-- what stands behind white space and comments. A comment begins with two dashes, and LF alone ends it; the test says
-- whether the bytes begin inside one
abbrev pub behind_blanks : Bool → List ℕ → List ℕ
behind_blanks true [] = []
behind_blanks true (b ∷ bs) = if b == 10 then behind_blanks false bs else behind_blanks true bs
behind_blanks false [] = []
behind_blanks false (b ∷ bs) =
    if is_white b then behind_blanks false bs else (
    if b == 45 && begins_with 45 bs then behind_blanks true bs else b ∷ bs)

-- a sign of one byte
abbrev pub is_sign : ℕ → Bool
is_sign b = list_any (λ c. c == b) (codes "()[],;.+-*=<>")

-- two bytes that are one sign: .. <> <= or >=
abbrev pub is_pair : ℕ → ℕ → Bool
is_pair b c = (b == 46 && c == 46) || (b == 60 && (c == 62 || c == 61)) || (b == 62 && c == 61)

-- the bytes behind this one make a sign of it
abbrev pub is_sign_text : ℕ → List ℕ → Bool
is_sign_text b [] = is_sign b
is_sign_text b (c ∷ []) = is_pair b c
is_sign_text b (c ∷ d ∷ more) = false

-- the bytes go on a text in quotes: a quote ends it, unless another one follows and the two stand for one. The test says
-- whether a quote has just ended it
abbrev pub goes_on_text : Bool → List ℕ → Bool
goes_on_text ended [] = true
goes_on_text ended (b ∷ bs) = if b == 39 then goes_on_text (not ended) bs else not ended && goes_on_text false bs

-- the bytes are one word, one number, one text in quotes, ended or not, or one sign
abbrev pub is_lexeme : List ℕ → Bool
is_lexeme [] = false
is_lexeme (b ∷ bs) =
    if starts_name b then list_all continues_name bs else (
    if is_ascii_digit b then list_all is_ascii_digit bs else (
    if b == 39 then goes_on_text false bs else is_sign_text b bs))

-- the bytes begin with the lexeme, the rest follows, and no longer lexeme stands there
pub record IsFirstLexeme (bytes lexeme rest : List ℕ) : Type 0 where
  pub whole : bytes ≡ lexeme ++ rest
  pub shape : is_lexeme lexeme ≡ true
  pub longest : (more others : List ℕ) → rest ≡ more ++ others → 0 < length more → is_lexeme (lexeme ++ more) ≡ true → ⊥
