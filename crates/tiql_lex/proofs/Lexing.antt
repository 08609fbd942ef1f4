-- the first lexeme of a text is the one whose size is found, and there is one alone
use Rattle.std.proofs.Common.{◌≡◌, ℕ, ◌+◌, ◌<◌, suc, Bool, true, false, cond, not, ◌&&◌, ◌⊎◌, inl, inr, List, [], ◌∷◌, ◌++◌, length, take, drop, nat_eq, refl, sym, ◌∙◌, ap, subst, arith}
use Rattle.std.proofs.lemmas.Bool.{false≢true}
use Rattle.std.proofs.lemmas.List.{append-nil, take-append-drop}
use Rattle.std.specs.Char.{is_ascii_digit}
use Rattle.std.specs.List.{list_all, prefix_len}
use Rattle.base_kit.specs.Names.{starts_name, continues_name}
use Rattle.tiql_lex.specs.Lexemes.{is_sign, is_pair, is_sign_text, goes_on_text, is_lexeme, IsFirstLexeme}
use Rattle.tiql_lex.specs.Scan.{pairs_with, sign_size, text_size, lexeme_size}

-- b goes on with what c has more than a
record Goes (a b c d : List ℕ) : Type 0 where
  more : List ℕ
  first : c ≡ a ++ more
  second : b ≡ more ++ d

-- of two beginnings of one list, one is the beginning of the other
parts : (a b c d : List ℕ) → a ++ b ≡ c ++ d → Goes a b c d ⊎ Goes c d a b
parts [] b c d same = inl (record { more = c; first = refl; second = same })
parts (x ∷ a) b [] d same = inr (record { more = x ∷ a; first = refl; second = sym same })
parts (x ∷ a) b (y ∷ c) d same = longer (parts a b c d cc)
  where
    longer : Goes a b c d ⊎ Goes c d a b → Goes (x ∷ a) b (y ∷ c) d ⊎ Goes (y ∷ c) d (x ∷ a) b
    longer (inl g) = inl (record { more = g.more; first = let h = g.first in cc; second = g.second })
    longer (inr g) = inr (record { more = g.more; first = let h = g.first in cc; second = g.second })

none_more : (bytes lexeme rest lexeme' rest' : List ℕ) → IsFirstLexeme bytes lexeme rest → IsFirstLexeme bytes lexeme' rest' → (more : List ℕ) → lexeme' ≡ lexeme ++ more → rest ≡ more ++ rest' → (lexeme ≡ lexeme') × (rest ≡ rest')
none_more bytes lexeme rest lexeme' rest' one two [] first second = (sym (first ∙ append-nil lexeme), second)
none_more bytes lexeme rest lexeme' rest' one two (m ∷ more) first second =
    absurd (one.longest (m ∷ more) rest' second (omega arith) (ap is_lexeme (sym first) ∙ two.shape))

-- the first lexeme and what follows it are determined
pub same_first : (bytes lexeme rest lexeme' rest' : List ℕ) → IsFirstLexeme bytes lexeme rest → IsFirstLexeme bytes lexeme' rest' → (lexeme ≡ lexeme') × (rest ≡ rest')
same_first bytes lexeme rest lexeme' rest' one two = by_parts (parts lexeme rest lexeme' rest' (sym one.whole ∙ two.whole))
  where
    by_parts : Goes lexeme rest lexeme' rest' ⊎ Goes lexeme' rest' lexeme rest → (lexeme ≡ lexeme') × (rest ≡ rest')
    by_parts (inl g) = none_more bytes lexeme rest lexeme' rest' one two g.more g.first g.second
    by_parts (inr g) = let back = none_more bytes lexeme' rest' lexeme rest two one g.more g.first g.second in (sym back.0, sym back.1)

-- the run of a test's elements passes it
run_passes : (p : ℕ → Bool) (xs : List ℕ) → list_all p (take (prefix_len p xs) xs) ≡ true
run_passes p [] = refl
run_passes p (x ∷ xs) = by_test (p x) refl (run_passes p xs)
  where
    by_test : (b : Bool) → p x ≡ b → list_all p (take (prefix_len p xs) xs) ≡ true → list_all p (take (cond b (1 + prefix_len p xs) 0) (x ∷ xs)) ≡ true
    by_test true e more = let s : 1 + prefix_len p xs ≡ suc (prefix_len p xs) = omega arith in rw (s, e) more
    by_test false e more = refl

pub head_passes : (p : ℕ → Bool) (x : ℕ) (xs : List ℕ) → list_all p (x ∷ xs) ≡ true → p x ≡ true
head_passes p x xs h = by_test (p x) h
  where
    by_test : (b : Bool) → (b && list_all p xs) ≡ true → b ≡ true
    by_test true h = refl
    by_test false h = h

pub tail_passes : (p : ℕ → Bool) (xs ys : List ℕ) → list_all p (xs ++ ys) ≡ true → list_all p ys ≡ true
tail_passes p [] ys h = h
tail_passes p (x ∷ xs) ys h = by_test (p x) (tail_passes p xs ys) h
  where
    by_test : (b : Bool) → (list_all p (xs ++ ys) ≡ true → list_all p ys ≡ true) → (b && list_all p (xs ++ ys)) ≡ true → list_all p ys ≡ true
    by_test true more h = more h
    by_test false more h = absurd (false≢true h)

-- the run is the longest
run_stops : (p : ℕ → Bool) (xs more others : List ℕ) → drop (prefix_len p xs) xs ≡ more ++ others → 0 < length more → list_all p more ≡ true → ⊥
run_stops p xs [] others e long pass = absurd (omega arith)
run_stops p [] (m ∷ more) others e long pass = cc
run_stops p (x ∷ xs) (m ∷ more) others e long pass = by_test (p x) refl (λ same. run_stops p xs (m ∷ more) others same long pass) e
  where
    by_test : (b : Bool) → p x ≡ b → (drop (prefix_len p xs) xs ≡ m ∷ more ++ others → ⊥) → drop (cond b (1 + prefix_len p xs) 0) (x ∷ xs) ≡ m ∷ more ++ others → ⊥
    by_test true t deeper e = let s : 1 + prefix_len p xs ≡ suc (prefix_len p xs) = omega arith in deeper (rw s at e)
    by_test false t deeper e = let same : x ≡ m = cc in false≢true (sym t ∙ (ap p same ∙ head_passes p m more pass))

word_first : (b : ℕ) (bs : List ℕ) → starts_name b ≡ true → IsFirstLexeme (b ∷ bs) (b ∷ take (prefix_len continues_name bs) bs) (drop (prefix_len continues_name bs) bs)
word_first b bs e = record {
  whole = ap (λ (l : List ℕ). b ∷ l) (sym (take-append-drop (prefix_len continues_name bs) bs));
  shape = rw e (run_passes continues_name bs);
  longest = λ more others same long shape. run_stops continues_name bs more others same long (tail_passes continues_name (take (prefix_len continues_name bs) bs) more (rw e at shape));
}

digits_first : (b : ℕ) (bs : List ℕ) → starts_name b ≡ false → is_ascii_digit b ≡ true → IsFirstLexeme (b ∷ bs) (b ∷ take (prefix_len is_ascii_digit bs) bs) (drop (prefix_len is_ascii_digit bs) bs)
digits_first b bs w e = record {
  whole = ap (λ (l : List ℕ). b ∷ l) (sym (take-append-drop (prefix_len is_ascii_digit bs) bs));
  shape = rw (w, e) (run_passes is_ascii_digit bs);
  longest = λ more others same long shape. run_stops is_ascii_digit bs more others same long (tail_passes is_ascii_digit (take (prefix_len is_ascii_digit bs) bs) more (rw (w, e) at shape));
}

-- so many bytes go on a text in quotes
text_passes : (ended : Bool) (bs : List ℕ) → goes_on_text ended (take (text_size ended bs) bs) ≡ true
text_passes ended [] = refl
text_passes ended (b ∷ bs) = by_quote (nat_eq b 39) refl (text_passes (not ended) bs) (text_passes false bs)
  where
    by_end : (e : Bool) → nat_eq b 39 ≡ false → goes_on_text false (take (text_size false bs) bs) ≡ true → goes_on_text e (take (cond e 0 (1 + text_size false bs)) (b ∷ bs)) ≡ true
    by_end true q inside = refl
    by_end false q inside = let s : 1 + text_size false bs ≡ suc (text_size false bs) = omega arith in rw (s, q) inside

    by_quote : (t : Bool) → nat_eq b 39 ≡ t → goes_on_text (not ended) (take (text_size (not ended) bs) bs) ≡ true → goes_on_text false (take (text_size false bs) bs) ≡ true → goes_on_text ended (take (cond t (1 + text_size (not ended) bs) (cond ended 0 (1 + text_size false bs))) (b ∷ bs)) ≡ true
    by_quote true q turned inside = let s : 1 + text_size (not ended) bs ≡ suc (text_size (not ended) bs) = omega arith in rw (s, q) turned
    by_quote false q turned inside = by_end ended q inside

-- more bytes would go on it
MoreText : Bool → List ℕ → List ℕ → List ℕ → Type 0
MoreText ended bs more others = (drop (text_size ended bs) bs ≡ more ++ others) × (goes_on_text ended (take (text_size ended bs) bs ++ more) ≡ true)

-- and no more of them do
text_stops : (ended : Bool) (bs more others : List ℕ) → 0 < length more → MoreText ended bs more others → ⊥
unfolding MoreText
text_stops ended bs [] others long goes = absurd (omega arith)
text_stops ended [] (m ∷ more) others long goes = let e = goes.0 in cc
text_stops ended (b ∷ bs) (m ∷ more) others long goes = by_quote (nat_eq b 39) refl (text_stops (not ended) bs (m ∷ more) others long) (text_stops false bs (m ∷ more) others long) goes.0 goes.1
  where
    by_end : (d : Bool) → nat_eq b 39 ≡ false → (MoreText false bs (m ∷ more) others → ⊥) → drop (cond d 0 (1 + text_size false bs)) (b ∷ bs) ≡ m ∷ more ++ others → goes_on_text d (take (cond d 0 (1 + text_size false bs)) (b ∷ bs) ++ m ∷ more) ≡ true → ⊥
    by_end true q inside e goes = let same : b ≡ m = cc in false≢true (rw (sym (ap (λ x. nat_eq x 39) same) ∙ q) at goes)
    by_end false q inside e goes = let s : 1 + text_size false bs ≡ suc (text_size false bs) = omega arith in inside (rw s at e, rw (s, q) at goes)

    by_quote : (t : Bool) → nat_eq b 39 ≡ t → (MoreText (not ended) bs (m ∷ more) others → ⊥) → (MoreText false bs (m ∷ more) others → ⊥) → drop (cond t (1 + text_size (not ended) bs) (cond ended 0 (1 + text_size false bs))) (b ∷ bs) ≡ m ∷ more ++ others → goes_on_text ended (take (cond t (1 + text_size (not ended) bs) (cond ended 0 (1 + text_size false bs))) (b ∷ bs) ++ m ∷ more) ≡ true → ⊥
    by_quote true q turned inside e goes = let s : 1 + text_size (not ended) bs ≡ suc (text_size (not ended) bs) = omega arith in turned (rw s at e, rw (s, q) at goes)
    by_quote false q turned inside e goes = by_end ended q inside e goes

text_first : (b : ℕ) (bs : List ℕ) → starts_name b ≡ false → is_ascii_digit b ≡ false → nat_eq b 39 ≡ true → IsFirstLexeme (b ∷ bs) (b ∷ take (text_size false bs) bs) (drop (text_size false bs) bs)
unfolding MoreText
text_first b bs w d q = record {
  whole = ap (λ (l : List ℕ). b ∷ l) (sym (take-append-drop (text_size false bs) bs));
  shape = rw (w, d, q) (text_passes false bs);
  longest = λ more others same long shape. text_stops false bs more others long (same, rw (w, d, q) at shape);
}

pair_first : (b c : ℕ) (cs : List ℕ) → starts_name b ≡ false → is_ascii_digit b ≡ false → nat_eq b 39 ≡ false → is_pair b c ≡ true → IsFirstLexeme (b ∷ c ∷ cs) (b ∷ c ∷ []) cs
pair_first b c cs w d q e = record { whole = refl; shape = rw (w, d, q) e; longest = longest }
  where
    longest : (more others : List ℕ) → cs ≡ more ++ others → 0 < length more → is_lexeme (b ∷ c ∷ more) ≡ true → ⊥
    longest [] others same long shape = absurd (omega arith)
    longest (m ∷ more) others same long shape = false≢true (rw (w, d, q) at shape)

sign_first : (b : ℕ) (bs : List ℕ) → starts_name b ≡ false → is_ascii_digit b ≡ false → nat_eq b 39 ≡ false → is_sign b ≡ true → pairs_with b bs ≡ false → IsFirstLexeme (b ∷ bs) (b ∷ []) bs
sign_first b bs w d q e alone = record { whole = refl; shape = rw (w, d, q) e; longest = longest }
  where
    longest : (more others : List ℕ) → bs ≡ more ++ others → 0 < length more → is_lexeme (b ∷ more) ≡ true → ⊥
    longest [] others same long shape = absurd (omega arith)
    longest (m ∷ []) others same long shape = false≢true (sym (ap (pairs_with b) (sym same) ∙ alone) ∙ (rw (w, d, q) at shape))
    longest (m ∷ n ∷ more) others same long shape = false≢true (rw (w, d, q) at shape)

-- so many bytes, if there are any, are the first lexeme
Parts : List ℕ → ℕ → Type 0
Parts bytes size = 0 < size → IsFirstLexeme bytes (take size bytes) (drop size bytes)

run_parts : (b : ℕ) (bs : List ℕ) (n : ℕ) → IsFirstLexeme (b ∷ bs) (b ∷ take n bs) (drop n bs) → Parts (b ∷ bs) (1 + n)
unfolding Parts
run_parts b bs n first = λ some. let s : 1 + n ≡ suc n = omega arith in rw s first

sign_parts : (b : ℕ) (bs : List ℕ) → starts_name b ≡ false → is_ascii_digit b ≡ false → nat_eq b 39 ≡ false → (p s : Bool) → pairs_with b bs ≡ p → is_sign b ≡ s → Parts (b ∷ bs) (cond p 2 (cond s 1 0))
unfolding Parts
sign_parts b [] w d q true s e f = λ some. absurd (false≢true e)
sign_parts b (c ∷ cs) w d q true s e f = λ some. pair_first b c cs w d q e
sign_parts b bs w d q false true e f = λ some. sign_first b bs w d q f e
sign_parts b bs w d q false false e f = λ some. absurd (omega arith)

size_parts : (bytes : List ℕ) → Parts bytes (lexeme_size bytes)
unfolding Parts
size_parts [] = λ some. absurd (omega arith)
size_parts (b ∷ bs) = by_word (starts_name b) refl
  where
    by_quote : starts_name b ≡ false → is_ascii_digit b ≡ false → (t : Bool) → nat_eq b 39 ≡ t → Parts (b ∷ bs) (cond t (1 + text_size false bs) (sign_size b bs))
    by_quote w d true q = run_parts b bs (text_size false bs) (text_first b bs w d q)
    by_quote w d false q = sign_parts b bs w d q (pairs_with b bs) (is_sign b) refl refl

    by_digit : starts_name b ≡ false → (t : Bool) → is_ascii_digit b ≡ t → Parts (b ∷ bs) (cond t (1 + prefix_len is_ascii_digit bs) (cond (nat_eq b 39) (1 + text_size false bs) (sign_size b bs)))
    by_digit w true d = run_parts b bs (prefix_len is_ascii_digit bs) (digits_first b bs w d)
    by_digit w false d = by_quote w d (nat_eq b 39) refl

    by_word : (t : Bool) → starts_name b ≡ t → Parts (b ∷ bs) (cond t (1 + prefix_len continues_name bs) (cond (is_ascii_digit b) (1 + prefix_len is_ascii_digit bs) (cond (nat_eq b 39) (1 + text_size false bs) (sign_size b bs))))
    by_word true w = run_parts b bs (prefix_len continues_name bs) (word_first b bs w)
    by_word false w = by_digit w (is_ascii_digit b) refl

-- where a size is found, so many bytes are the first lexeme
pub first_of_size : (bytes : List ℕ) → 0 < lexeme_size bytes → IsFirstLexeme bytes (take (lexeme_size bytes) bytes) (drop (lexeme_size bytes) bytes)
unfolding Parts
first_of_size bytes some = size_parts bytes some

-- a lexeme begins the bytes only where a size is found
Keeps : List ℕ → ℕ → Type 0
Keeps bytes size = size ≡ 0 → (lexeme rest : List ℕ) → IsFirstLexeme bytes lexeme rest → ⊥

run_keeps : (bytes : List ℕ) (n : ℕ) → Keeps bytes (1 + n)
unfolding Keeps
run_keeps bytes n none = absurd (omega arith)

sign_keeps : (b : ℕ) (bs : List ℕ) → starts_name b ≡ false → is_ascii_digit b ≡ false → nat_eq b 39 ≡ false → (p s : Bool) → pairs_with b bs ≡ p → is_sign b ≡ s → Keeps (b ∷ bs) (cond p 2 (cond s 1 0))
unfolding Keeps
sign_keeps b bs w d q true s e f none lexeme rest first = absurd (omega arith)
sign_keeps b bs w d q false true e f none lexeme rest first = absurd (omega arith)
sign_keeps b bs w d q false false e f none lexeme rest first = none_begins lexeme first.whole first.shape
  where
    by_shape : (x : ℕ) (xs : List ℕ) → b ≡ x → bs ≡ xs ++ rest → is_sign_text b xs ≡ true → ⊥
    by_shape x [] same follows shape = false≢true (sym f ∙ shape)
    by_shape x (c ∷ []) same follows shape = false≢true (sym e ∙ (ap (pairs_with b) follows ∙ shape))
    by_shape x (c ∷ m ∷ more) same follows shape = false≢true shape

    none_begins : (t : List ℕ) → b ∷ bs ≡ t ++ rest → is_lexeme t ≡ true → ⊥
    none_begins [] whole shape = false≢true shape
    none_begins (x ∷ xs) whole shape =
        let same : b ≡ x = cc in let follows : bs ≡ xs ++ rest = cc in
        by_shape x xs same follows (rw (w, d, q) at (subst (λ (y : ℕ). is_lexeme (y ∷ xs) ≡ true) (sym same) shape))

size_keeps : (bytes : List ℕ) → Keeps bytes (lexeme_size bytes)
unfolding Keeps
size_keeps [] = λ none lexeme rest first. by_lexeme lexeme rest first.whole first.shape
  where
    by_lexeme : (t rest : List ℕ) → [] ≡ t ++ rest → is_lexeme t ≡ true → ⊥
    by_lexeme [] rest whole shape = false≢true shape
    by_lexeme (x ∷ xs) rest whole shape = cc
size_keeps (b ∷ bs) = by_word (starts_name b) refl
  where
    by_quote : starts_name b ≡ false → is_ascii_digit b ≡ false → (t : Bool) → nat_eq b 39 ≡ t → Keeps (b ∷ bs) (cond t (1 + text_size false bs) (sign_size b bs))
    by_quote w d true q = run_keeps (b ∷ bs) (text_size false bs)
    by_quote w d false q = sign_keeps b bs w d q (pairs_with b bs) (is_sign b) refl refl

    by_digit : starts_name b ≡ false → (t : Bool) → is_ascii_digit b ≡ t → Keeps (b ∷ bs) (cond t (1 + prefix_len is_ascii_digit bs) (cond (nat_eq b 39) (1 + text_size false bs) (sign_size b bs)))
    by_digit w true d = run_keeps (b ∷ bs) (prefix_len is_ascii_digit bs)
    by_digit w false d = by_quote w d (nat_eq b 39) refl

    by_word : (t : Bool) → starts_name b ≡ t → Keeps (b ∷ bs) (cond t (1 + prefix_len continues_name bs) (cond (is_ascii_digit b) (1 + prefix_len is_ascii_digit bs) (cond (nat_eq b 39) (1 + text_size false bs) (sign_size b bs))))
    by_word true w = run_keeps (b ∷ bs) (prefix_len continues_name bs)
    by_word false w = by_digit w (is_ascii_digit b) refl

-- where no size is found, no lexeme begins
pub none_of_size : (bytes lexeme rest : List ℕ) → lexeme_size bytes ≡ 0 → IsFirstLexeme bytes lexeme rest → ⊥
unfolding Keeps
none_of_size bytes lexeme rest none first = size_keeps bytes none lexeme rest first
