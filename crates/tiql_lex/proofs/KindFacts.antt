-- what the kinds of tokens say of their texts
use Rattle.std.proofs.Common.{◌≡◌, ℕ, ◌<◌, ◌≤◌, ◌^◌, Bool, true, false, cond, not, ◌&&◌, nat_eq, List, [], ◌∷◌, length, refl, arith}
use Rattle.std.specs.Prelude.{nat_le, nat_lt}
use Rattle.std.proofs.lemmas.Bool.{false≢true}
use Rattle.std.proofs.lemmas.Bool.Decides.{nat_tests}
use Rattle.std.specs.Char.{is_ascii_digit}
use Rattle.std.specs.List.{list_all}
use Rattle.std.specs.Str.Parse.{digits_value}
use Rattle.base_kit.specs.Keywords.{is_keyword}
use Rattle.base_kit.specs.Names.{starts_name, continues_name, is_name}
use Rattle.tiql_lex.specs.declared.token.TokenKind.{TokenKind}
use Rattle.tiql_lex.specs.declared.token.TokenKind.TheVariants.{Name, Keyword, Number, Text, Sign}
use Rattle.tiql_lex.specs.Kinds.{kind_of, is_number}
use Rattle.tiql_lex.specs.Lexemes.{is_lexeme, is_sign_text, goes_on_text}

le_test : (m n : ℕ) → m ≤ n → nat_le m n ≡ true
le_test m n h = grind (arith, nat_tests)

some_test : (bs : List ℕ) (b : ℕ) → nat_lt 0 (length (b ∷ bs)) ≡ true
some_test bs b = let long : 0 < length (b ∷ bs) = omega arith in grind (arith, nat_tests, long)

-- the kinds of what begins with no letter
no_word : (d q : Bool) → TokenKind
no_word d q = cond {A = TokenKind} d Number (cond q Text Sign)

no_word-Name : (d q : Bool) → no_word d q ≡ Name → ⊥
unfolding no_word
no_word-Name true q e = cc
no_word-Name false true e = cc
no_word-Name false false e = cc

word_kind : (k : Bool) → TokenKind
word_kind k = cond {A = TokenKind} k Keyword Name

word_kind-Name : (k : Bool) → word_kind k ≡ Name → k ≡ false
unfolding word_kind
word_kind-Name true e = cc
word_kind-Name false e = refl

word_kind-Number : (k : Bool) → word_kind k ≡ Number → ⊥
unfolding word_kind
word_kind-Number true e = cc
word_kind-Number false e = cc

no_word-Number : (d q : Bool) → no_word d q ≡ Number → d ≡ true
unfolding no_word
no_word-Number true q e = refl
no_word-Number false true e = cc
no_word-Number false false e = cc

-- a lexeme of this kind that fits is a name
pub kind_name : (lexeme : List ℕ) → is_lexeme lexeme ≡ true → kind_of lexeme ≡ Name → length lexeme ≤ 64 → is_name lexeme ≡ true
unfolding is_name word_kind no_word
kind_name [] shape kind short = absurd (false≢true shape)
kind_name (b ∷ bs) shape kind short = by_word (starts_name b) refl shape kind
  where
    by_word : (w : Bool) → starts_name b ≡ w → cond w (list_all continues_name bs) (cond (is_ascii_digit b) (list_all is_ascii_digit bs) (cond (nat_eq b 39) (goes_on_text false bs) (is_sign_text b bs))) ≡ true
        → cond {A = TokenKind} w (word_kind (is_keyword (b ∷ bs))) (no_word (is_ascii_digit b) (nat_eq b 39)) ≡ Name → ((starts_name b && list_all continues_name bs) && nat_le (length (b ∷ bs)) 64 && not (is_keyword (b ∷ bs))) ≡ true
    by_word true w shape kind = rw (w, shape, le_test (length (b ∷ bs)) 64 short, word_kind-Name (is_keyword (b ∷ bs)) kind) refl
    by_word false w shape kind = absurd (no_word-Name (is_ascii_digit b) (nat_eq b 39) kind)

-- a lexeme of this kind that fits is a number
pub kind_number : (lexeme : List ℕ) → is_lexeme lexeme ≡ true → kind_of lexeme ≡ Number → digits_value 10 lexeme ≤ 10 ^ 15 → is_number lexeme ≡ true
unfolding word_kind no_word
kind_number [] shape kind small = cc
kind_number (b ∷ bs) shape kind small = by_word (starts_name b) shape kind
  where
    by_digit : (d : Bool) → is_ascii_digit b ≡ d → d ≡ true → cond d (list_all is_ascii_digit bs) (cond (nat_eq b 39) (goes_on_text false bs) (is_sign_text b bs)) ≡ true → is_number (b ∷ bs) ≡ true
    by_digit true d is shape = rw (some_test bs b, d, shape, le_test (digits_value 10 (b ∷ bs)) (10 ^ 15) small) refl
    by_digit false d is shape = absurd (false≢true is)

    by_word : (w : Bool) → cond w (list_all continues_name bs) (cond (is_ascii_digit b) (list_all is_ascii_digit bs) (cond (nat_eq b 39) (goes_on_text false bs) (is_sign_text b bs))) ≡ true
        → cond {A = TokenKind} w (word_kind (is_keyword (b ∷ bs))) (no_word (is_ascii_digit b) (nat_eq b 39)) ≡ Number → is_number (b ∷ bs) ≡ true
    by_word true shape kind = absurd (word_kind-Number (is_keyword (b ∷ bs)) kind)
    by_word false shape kind = by_digit (is_ascii_digit b) refl (no_word-Number (is_ascii_digit b) (nat_eq b 39) kind) shape
