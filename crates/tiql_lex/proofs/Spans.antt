-- places and tokens by the numbers of their bytes
use Rattle.std.proofs.Common.{◌≡◌, ℕ, ◌+◌, ◌-◌, ◌<◌, ◌≤◌, suc, Bool, true, false, cond, ◌&&◌, nat_eq, List, [], ◌∷◌, ◌++◌, length, take, drop, slice_range, refl, sym, ◌∙◌, ap, subst, arith}
use Rattle.std.proofs.lemmas.List.{drop-drop, length-drop, take_rest}
use Rattle.std.proofs.lemmas.List.Sums.{fold-append}
use Rattle.std.proofs.Math.Seq.{take-add}
use Rattle.base_kit.specs.declared.place.Place.{Place}
use Rattle.tiql_lex.specs.declared.token.Token.{Token}
use Rattle.tiql_lex.specs.declared.token.TokenKind.{TokenKind}
use Rattle.tiql_lex.specs.Kinds.{kind_of, Fits}
use Rattle.tiql_lex.specs.Lexed.{text_of, Stands, Skips, AreTokens, end_of}
use Rattle.tiql_lex.specs.Lexemes.{is_white, begins_with, behind_blanks, IsFirstLexeme}
use Rattle.tiql_lex.specs.Places.{next_place, behind, mark_size, place_at}
use Rattle.tiql_lex.specs.Scan.{lexeme_size}
use Rattle.tiql_lex.proofs.Lexing.{first_of_size, none_of_size, same_first}

-- a slice of two parts
range_parts : (xs : List ℕ) (a b c : ℕ) → a ≤ b → b ≤ c → slice_range xs a c ≡ slice_range xs a b ++ slice_range xs b c
range_parts xs a b c front back =
    let size : (b - a) + (c - b) ≡ c - a = omega arith in
    let start : a + (b - a) ≡ b = omega arith in
    ap (λ n. take n (drop a xs)) (sym size) ∙ take-add (b - a) (c - b) (drop a xs)
    ∙ ap (λ (l : List ℕ). slice_range xs a b ++ take (c - b) l) (drop-drop (b - a) a xs ∙ ap (λ n. drop n xs) start)

-- the text begins at the first line and column
pub place_start : (bytes : List ℕ) → place_at bytes (mark_size bytes) ≡ record { line = 1; column = 1 }
unfolding place_at
place_start bytes =
    let none : mark_size bytes - mark_size bytes ≡ 0 = omega arith in
    ap (λ n. behind (record { line = 1; column = 1 }) (take n (drop (mark_size bytes) bytes))) none

-- a later place is reached over the bytes between
pub place_further : (bytes : List ℕ) (from at : ℕ) → mark_size bytes ≤ from → from ≤ at → place_at bytes at ≡ behind (place_at bytes from) (slice_range bytes from at)
unfolding place_at
place_further bytes from at start order =
    ap (behind (record { line = 1; column = 1 })) (range_parts bytes (mark_size bytes) from at start order)
    ∙ fold-append next_place (record { line = 1; column = 1 }) (slice_range bytes (mark_size bytes) from) (slice_range bytes from at)

column_next : (p : Place) (b : ℕ) → 1 ≤ (next_place p b).column
column_next p b = by_test (nat_eq b 10)
  where
    by_test : (t : Bool) → 1 ≤ (cond {A = Place} t (record { line = p.line + 1; column = 1 }) (record { line = p.line; column = p.column + 1 })).column
    by_test true = omega arith
    by_test false = omega arith

column_behind : (p : Place) (bs : List ℕ) → 1 ≤ p.column → 1 ≤ (behind p bs).column
column_behind p [] one = one
column_behind p (b ∷ bs) one = column_behind (next_place p b) bs (column_next p b)

-- columns count from 1
pub column_one : (bytes : List ℕ) (at : ℕ) → 1 ≤ (place_at bytes at).column
unfolding place_at
column_one bytes at = column_behind (record { line = 1; column = 1 }) (slice_range bytes (mark_size bytes) at) (omega arith)

-- so many bytes from the front were left out
record Suffix (bytes found : List ℕ) : Type 0 where
  size : ℕ
  within : size ≤ length bytes
  is : found ≡ drop size bytes

further : (b : ℕ) (bs found : List ℕ) → Suffix bs found → Suffix (b ∷ bs) found
further b bs found s = record { size = suc s.size; within = let w = s.within in omega arith; is = s.is }

all_left : (bytes : List ℕ) → Suffix bytes bytes
all_left bytes = record { size = 0; within = omega arith; is = refl }

-- white space and comments stand at the front
blank_suffix : (inside : Bool) (bytes : List ℕ) → Suffix bytes (behind_blanks inside bytes)
blank_suffix true [] = all_left []
blank_suffix false [] = all_left []
blank_suffix true (b ∷ bs) = by_end (nat_eq b 10) (blank_suffix false bs) (blank_suffix true bs)
  where
    by_end : (t : Bool) → Suffix bs (behind_blanks false bs) → Suffix bs (behind_blanks true bs) → Suffix (b ∷ bs) (cond t (behind_blanks false bs) (behind_blanks true bs))
    by_end true out inside = further b bs (behind_blanks false bs) out
    by_end false out inside = further b bs (behind_blanks true bs) inside
blank_suffix false (b ∷ bs) = by_white (is_white b) (nat_eq b 45 && begins_with 45 bs) (blank_suffix false bs) (blank_suffix true bs)
  where
    by_white : (w d : Bool) → Suffix bs (behind_blanks false bs) → Suffix bs (behind_blanks true bs) → Suffix (b ∷ bs) (cond w (behind_blanks false bs) (cond d (behind_blanks true bs) (b ∷ bs)))
    by_white true d out inside = further b bs (behind_blanks false bs) out
    by_white false true out inside = further b bs (behind_blanks true bs) inside
    by_white false false out inside = all_left (b ∷ bs)

-- the number of bytes that are left tells where one stands
pub skips_made : (bytes rest : List ℕ) (last from : ℕ) → last ≤ length bytes → rest ≡ behind_blanks false (drop last bytes) → from ≡ length bytes - length rest → Skips bytes last from
skips_made bytes rest last from inside is at =
    let s = blank_suffix false (drop last bytes) in
    let within : s.size ≤ length bytes - last = omega (arith, s.within, length-drop last bytes) in
    let left : rest ≡ drop (last + s.size) bytes = is ∙ s.is ∙ drop-drop s.size last bytes in
    let long : length rest ≡ length bytes - (last + s.size) = ap length left ∙ length-drop (last + s.size) bytes in
    let same : last + s.size ≡ from = omega arith in
    record { order = omega arith; inside = omega arith; blank = s.is ∙ drop-drop s.size last bytes ∙ ap (λ n. drop n bytes) same }

-- the first lexeme behind a byte, by its size
pub lexeme_here : (bytes : List ℕ) (from size : ℕ) → size ≡ lexeme_size (drop from bytes) → 0 < size → IsFirstLexeme (drop from bytes) (slice_range bytes from (from + size)) (drop (from + size) bytes)
lexeme_here bytes from size is some =
    let first = subst (λ n. IsFirstLexeme (drop from bytes) (take n (drop from bytes)) (drop n (drop from bytes))) (sym is) (first_of_size (drop from bytes) (subst (λ n. 0 < n) is some)) in
    let back : from + size - from ≡ size = omega arith in
    subst (λ (l : List ℕ). IsFirstLexeme (drop from bytes) (slice_range bytes from (from + size)) l) (drop-drop size from bytes)
    (subst (λ n. IsFirstLexeme (drop from bytes) (take n (drop from bytes)) (drop size (drop from bytes))) (sym back) first)

-- the size is that of the rest of the bytes
pub size_is : (bytes : List ℕ) (from size : ℕ) → size ≡ lexeme_size (take (length bytes - from) (drop from bytes)) → size ≡ lexeme_size (drop from bytes)
size_is bytes from size is = is ∙ ap lexeme_size (take_rest bytes from)

pub stands_made : (bytes : List ℕ) (from size : ℕ) (kind : TokenKind) (place : Place) → size ≡ lexeme_size (drop from bytes) → 0 < size → from + size ≤ length bytes → kind ≡ kind_of (slice_range bytes from (from + size)) → Fits kind (slice_range bytes from (from + size)) → place ≡ place_at bytes from → Stands bytes from (record { kind = kind; place = place; from = from; to = from + size })
stands_made bytes from size kind place is some inside kinds fits here =
    record { start = refl; order = omega arith; inside = inside; lexeme = lexeme_here bytes from size is some; kind = kinds; fits = fits; place = here }

-- of a token, the first byte tells where it begins
at_from : (bytes : List ℕ) (from : ℕ) (token : Token) → Stands bytes from token → IsFirstLexeme (drop from bytes) (text_of bytes token) (drop token.to bytes)
at_from bytes from token s = subst (λ n. IsFirstLexeme (drop n bytes) (text_of bytes token) (drop token.to bytes)) s.start s.lexeme

pub stands_none : (bytes : List ℕ) (from size : ℕ) → size ≡ lexeme_size (drop from bytes) → size ≡ 0 → (token : Token) → Stands bytes from token → ⊥
stands_none bytes from size is none token s = none_of_size (drop from bytes) (text_of bytes token) (drop token.to bytes) (sym is ∙ none) (at_from bytes from token s)

pub stands_unfit : (bytes : List ℕ) (from size : ℕ) (kind : TokenKind) → size ≡ lexeme_size (drop from bytes) → 0 < size → kind ≡ kind_of (slice_range bytes from (from + size)) → (Fits kind (slice_range bytes from (from + size)) → ⊥) → (token : Token) → Stands bytes from token → ⊥
stands_unfit bytes from size kind is some kinds unfit token s =
    let same = same_first (drop from bytes) _ _ _ _ (at_from bytes from token s) (lexeme_here bytes from size is some) in
    let one : token.kind ≡ kind = s.kind ∙ ap kind_of same.0 ∙ sym kinds in
    unfit (subst (λ k. Fits k (slice_range bytes from (from + size))) one (subst (λ (l : List ℕ). Fits token.kind l) same.0 s.fits))

-- no tokens
pub tokens_none : (bytes : List ℕ) (last : ℕ) → AreTokens bytes last []
unfolding AreTokens
tokens_none bytes last = tt

-- one more token
pub tokens_push : (bytes : List ℕ) (last : ℕ) (tokens : List Token) (token : Token) → AreTokens bytes last tokens → Skips bytes (end_of last tokens) token.from → Stands bytes token.from token → AreTokens bytes last (tokens ++ token ∷ [])
unfolding AreTokens
tokens_push bytes last [] token are skips stands = (skips, stands, tt)
tokens_push bytes last (t ∷ tokens) token are skips stands = (are.0, are.1, tokens_push bytes t.to tokens token are.2 skips stands)

pub end_push : (last : ℕ) (tokens : List Token) (token : Token) → end_of last (tokens ++ token ∷ []) ≡ token.to
end_push last [] token = refl
end_push last (t ∷ tokens) token = end_push t.to tokens token
