-- words that are written with a space behind each are read again as these tokens
use Rattle.std.proofs.Common.{◌≡◌, ℕ, ◌+◌, ◌-◌, ◌<◌, ◌≤◌, suc, Bool, true, false, cond, not, ◌&&◌, ◌||◌, nat_eq, List, [], ◌∷◌, ◌++◌, length, take, drop, slice_range, codes, bytes_eq, refl, sym, ◌∙◌, ap, subst, append_assoc, arith}
use Rattle.std.proofs.lemmas.Bool.{false≢true}
use Rattle.std.proofs.lemmas.Bool.Decides.{Decides-eqb}
use Rattle.std.proofs.lemmas.List.{append-nil, length-append, drop_all, drop-drop}
use Rattle.std.proofs.Math.Seq.{drop-append_seam, take-append_seam}
use Rattle.std.specs.Char.{is_ascii_digit}
use Rattle.std.specs.List.{list_all, AllByRecursion, flat_map}
use Rattle.std.specs.Cmp.Lexicographic.{pointwise}
use Rattle.std.specs.declared.option.Option.TheVariants.{None}
use Rattle.base_kit.specs.Names.{starts_name, continues_name}
use Rattle.tiql_lex.specs.declared.token.Token.{Token}
use Rattle.tiql_lex.specs.declared.token.TokenKind.{TokenKind}
use Rattle.tiql_lex.specs.declared.token.TokenKind.TheVariants.{Name, Keyword, Number, Text, Sign}
use Rattle.tiql_lex.specs.declared.token.Lexed.{Lexed}
use Rattle.tiql_lex.specs.Kinds.{doubled, kind_of, Fits, IsText}
use Rattle.tiql_lex.specs.Lexed.{Stands, AreTokens, end_of, IsLexicalStop, IsLexed}
use Rattle.tiql_lex.specs.Lexemes.{is_white, begins_with, behind_blanks, is_sign, is_pair, is_sign_text, goes_on_text, is_lexeme, IsFirstLexeme}
use Rattle.tiql_lex.specs.Places.{mark_size, place_at}
use Rattle.tiql_lex.proofs.Lexing.{head_passes, tail_passes}
use Rattle.tiql_tree.specs.Words.{Word}
use Rattle.tiql_tree.specs.Printed.{space_behind, spaced, written}
use Rattle.tiql_tree.specs.Spelled.{words_of}

-- the word is a token
pub record Good (word : Word) : Type 0 where
  pub shape : is_lexeme word.text ≡ true
  pub kind : word.kind ≡ kind_of word.text
  pub fits : Fits word.kind word.text

-- a byte that goes on no token
record IsGap (sp : ℕ) : Type 0 where
  white : is_white sp ≡ true
  name : continues_name sp ≡ false
  digit : is_ascii_digit sp ≡ false
  quote : nat_eq sp 39 ≡ false
  dash : nat_eq sp 45 ≡ false
  pair : (b : ℕ) → is_pair b sp ≡ false

no_pairs : (x y z : Bool) → ((x && false) || (y && false) || (z && false)) ≡ false
no_pairs true true true = refl
no_pairs true true false = refl
no_pairs true false true = refl
no_pairs true false false = refl
no_pairs false true true = refl
no_pairs false true false = refl
no_pairs false false true = refl
no_pairs false false false = refl

space_gap : IsGap 32
space_gap = record { white = refl; name = refl; digit = refl; quote = refl; dash = refl; pair = λ b. no_pairs (nat_eq b 46) (nat_eq b 60) (nat_eq b 62) }

line_gap : IsGap 10
line_gap = record { white = refl; name = refl; digit = refl; quote = refl; dash = refl; pair = λ b. no_pairs (nat_eq b 46) (nat_eq b 60) (nat_eq b 62) }

gap_behind : (kind : TokenKind) (text : List ℕ) → IsGap (space_behind kind text)
gap_behind Sign text = by_end (bytes_eq text (codes ";"))
  where
    by_end : (t : Bool) → IsGap (cond t 10 32)
    by_end true = line_gap
    by_end false = space_gap
gap_behind Name text = space_gap
gap_behind Keyword text = space_gap
gap_behind Number text = space_gap
gap_behind Text text = space_gap

-- no text in quotes goes on behind its end
text_ends : (value : List ℕ) (sp : ℕ) (more : List ℕ) → nat_eq sp 39 ≡ false → goes_on_text false ((doubled value ++ 39 ∷ []) ++ sp ∷ more) ≡ true → ⊥
text_ends [] sp more quote goes = false≢true (rw quote at goes)
text_ends (b ∷ value) sp more quote goes = by_quote (nat_eq b 39) refl (text_ends value sp more quote) goes
  where
    by_quote : (t : Bool) → nat_eq b 39 ≡ t → (goes_on_text false ((doubled value ++ 39 ∷ []) ++ sp ∷ more) ≡ true → ⊥) → goes_on_text false ((cond t (39 ∷ 39 ∷ doubled value) (b ∷ doubled value) ++ 39 ∷ []) ++ sp ∷ more) ≡ true → ⊥
    by_quote true q deeper goes = deeper goes
    by_quote false q deeper goes = deeper (rw q at goes)

run_ends : (p : ℕ → Bool) (bs : List ℕ) (sp : ℕ) (more : List ℕ) → p sp ≡ false → list_all p (bs ++ sp ∷ more) ≡ true → ⊥
run_ends p bs sp more not all = false≢true (sym not ∙ head_passes p sp more (tail_passes p bs (sp ∷ more) all))

sign_ends : (b : ℕ) (bs : List ℕ) (sp : ℕ) (more : List ℕ) → IsGap sp → is_sign_text b (bs ++ sp ∷ more) ≡ true → ⊥
sign_ends b [] sp [] gap sign = false≢true (sym (gap.pair b) ∙ sign)
sign_ends b [] sp (m ∷ more) gap sign = false≢true sign
sign_ends b (c ∷ []) sp more gap sign = false≢true sign
sign_ends b (c ∷ d ∷ bs) sp more gap sign = false≢true sign

-- a text in quotes that is one, or another lexeme
quote_fits : (kind : TokenKind) (b : ℕ) (bs : List ℕ) → kind ≡ kind_of (b ∷ bs) → starts_name b ≡ false → is_ascii_digit b ≡ false → nat_eq b 39 ≡ true → Fits kind (b ∷ bs) → IsText (b ∷ bs)
quote_fits kind b bs is w d q fits = let same : kind_of (b ∷ bs) ≡ Text = rw (w, d, q) refl in subst (λ k. Fits k (b ∷ bs)) (is ∙ same) fits

quote_ends : (b : ℕ) (bs : List ℕ) (sp : ℕ) (more : List ℕ) → IsText (b ∷ bs) → nat_eq sp 39 ≡ false → goes_on_text false (bs ++ sp ∷ more) ≡ true → ⊥
quote_ends b bs sp more text quote goes =
    let whole = text.whole in let tail : bs ≡ doubled text.value ++ 39 ∷ [] = cc in
    text_ends text.value sp more quote (ap (λ (l : List ℕ). goes_on_text false (l ++ sp ∷ more)) (sym tail) ∙ goes)

-- no lexeme goes on with such a byte
ends : (kind : TokenKind) (text : List ℕ) (sp : ℕ) (more : List ℕ) → IsGap sp → is_lexeme text ≡ true → kind ≡ kind_of text → Fits kind text → is_lexeme (text ++ sp ∷ more) ≡ true → ⊥
ends kind [] sp more gap shape is fits goes = false≢true shape
ends kind (b ∷ bs) sp more gap shape is fits goes = by_word (starts_name b) refl goes
  where
    by_quote : starts_name b ≡ false → is_ascii_digit b ≡ false → (t : Bool) → nat_eq b 39 ≡ t → cond t (goes_on_text false (bs ++ sp ∷ more)) (is_sign_text b (bs ++ sp ∷ more)) ≡ true → ⊥
    by_quote w d true q goes = quote_ends b bs sp more (quote_fits kind b bs is w d q fits) gap.quote goes
    by_quote w d false q goes = sign_ends b bs sp more gap goes

    by_digit : starts_name b ≡ false → (t : Bool) → is_ascii_digit b ≡ t → cond t (list_all is_ascii_digit (bs ++ sp ∷ more)) (cond (nat_eq b 39) (goes_on_text false (bs ++ sp ∷ more)) (is_sign_text b (bs ++ sp ∷ more))) ≡ true → ⊥
    by_digit w true d goes = run_ends is_ascii_digit bs sp more gap.digit goes
    by_digit w false d goes = by_quote w d (nat_eq b 39) refl goes

    by_word : (t : Bool) → starts_name b ≡ t → cond t (list_all continues_name (bs ++ sp ∷ more)) (cond (is_ascii_digit b) (list_all is_ascii_digit (bs ++ sp ∷ more)) (cond (nat_eq b 39) (goes_on_text false (bs ++ sp ∷ more)) (is_sign_text b (bs ++ sp ∷ more)))) ≡ true → ⊥
    by_word true w goes = run_ends continues_name bs sp more gap.name goes
    by_word false w goes = by_digit w (is_ascii_digit b) refl goes

-- a word stands before a space
word_first : (w : Word) → Good w → (sp : ℕ) (rest : List ℕ) → IsGap sp → IsFirstLexeme (w.text ++ sp ∷ rest) w.text (sp ∷ rest)
word_first w good sp rest gap = record { whole = refl; shape = good.shape; longest = longest }
  where
    longest : (more others : List ℕ) → sp ∷ rest ≡ more ++ others → 0 < length more → is_lexeme (w.text ++ more) ≡ true → ⊥
    longest [] others same long shape = absurd (omega arith)
    longest (m ∷ more) others same long shape =
        let head : m ≡ sp = cc in
        ends w.kind w.text sp more gap good.shape good.kind good.fits (ap (λ n. is_lexeme (w.text ++ n ∷ more)) (sym head) ∙ shape)

-- white space is left out
blank_gap : (sp : ℕ) (rest : List ℕ) → IsGap sp → behind_blanks false (sp ∷ rest) ≡ behind_blanks false rest
blank_gap sp rest gap = rw gap.white refl

same_byte : (n b : ℕ) → nat_eq n b ≡ true → n ≡ b
same_byte n b e = (Decides-eqb n b).0 e

-- a byte with which no lexeme begins
odd : (n : ℕ) (bs : List ℕ) → starts_name n ≡ false → is_ascii_digit n ≡ false → nat_eq n 39 ≡ false → is_sign n ≡ false → ((c : ℕ) → is_pair n c ≡ false) → is_lexeme (n ∷ bs) ≡ true → ⊥
odd n bs w d q one two shape = by_rest bs (rw (w, d, q) at shape)
  where
    by_rest : (cs : List ℕ) → is_sign_text n cs ≡ true → ⊥
    by_rest [] sign = false≢true (sym one ∙ sign)
    by_rest (c ∷ []) sign = false≢true (sym (two c) ∙ sign)
    by_rest (c ∷ e ∷ cs) sign = false≢true sign

-- the first byte of a lexeme is no white space
white_no_lexeme : (b : ℕ) (bs : List ℕ) → is_white b ≡ true → is_lexeme (b ∷ bs) ≡ true → ⊥
white_no_lexeme b bs white shape = by_space (nat_eq 32 b) refl (nat_eq 9 b) refl (nat_eq 13 b) refl (nat_eq 10 b) refl white
  where
    starts : (n : ℕ) → nat_eq n b ≡ true → is_lexeme (n ∷ bs) ≡ true
    starts n e = subst (λ m. is_lexeme (m ∷ bs) ≡ true) (sym (same_byte n b e)) shape

    by_space : (s : Bool) → nat_eq 32 b ≡ s → (t : Bool) → nat_eq 9 b ≡ t → (c : Bool) → nat_eq 13 b ≡ c → (l : Bool) → nat_eq 10 b ≡ l → (s || (t || (c || (l || false)))) ≡ true → ⊥
    by_space true s t e c f l g h = odd 32 bs refl refl refl refl (λ b. refl) (starts 32 s)
    by_space false s true e c f l g h = odd 9 bs refl refl refl refl (λ b. refl) (starts 9 e)
    by_space false s false e true f l g h = odd 13 bs refl refl refl refl (λ b. refl) (starts 13 f)
    by_space false s false e false f true g h = odd 10 bs refl refl refl refl (λ b. refl) (starts 10 g)
    by_space false s false e false f false g h = false≢true h

-- a word at the front is no white space and no comment
word_stands : (w : Word) → Good w → (sp : ℕ) (rest : List ℕ) → IsGap sp → behind_blanks false (w.text ++ sp ∷ rest) ≡ w.text ++ sp ∷ rest
word_stands w good sp rest gap = by_text w.text good.shape
  where
    by_text : (text : List ℕ) → is_lexeme text ≡ true → behind_blanks false (text ++ sp ∷ rest) ≡ text ++ sp ∷ rest
    by_text [] shape = absurd (false≢true shape)
    by_text (b ∷ bs) shape = by_white (is_white b) refl (nat_eq b 45) refl
      where
        by_white : (t : Bool) → is_white b ≡ t → (d : Bool) → nat_eq b 45 ≡ d → cond t (behind_blanks false (bs ++ sp ∷ rest)) (cond (d && begins_with 45 (bs ++ sp ∷ rest)) (behind_blanks true (bs ++ sp ∷ rest)) (b ∷ bs ++ sp ∷ rest)) ≡ b ∷ bs ++ sp ∷ rest
        by_white true t d e = absurd (white_no_lexeme b bs t shape)
        by_white false t true e = by_dash bs (subst (λ n. is_lexeme (n ∷ bs) ≡ true) (same_byte b 45 e) shape)
          where
            by_dash : (cs : List ℕ) → is_lexeme (45 ∷ cs) ≡ true → cond (true && begins_with 45 (cs ++ sp ∷ rest)) (behind_blanks true (cs ++ sp ∷ rest)) (b ∷ cs ++ sp ∷ rest) ≡ b ∷ cs ++ sp ∷ rest
            by_dash [] shape = rw gap.dash refl
            by_dash (c ∷ []) shape = absurd (false≢true shape)
            by_dash (c ∷ d ∷ cs) shape = absurd (false≢true shape)
        by_white false t false e = refl

-- these words from this byte on
tokens_at : List ℕ → ℕ → List Word → List Token
tokens_at bytes i [] = []
tokens_at bytes i (w ∷ ws) = record { kind = w.kind; place = place_at bytes i; from = i; to = i + length w.text } ∷ tokens_at bytes (i + length w.text + 1) ws

-- the rest of the bytes is these words, and nothing else
pub record Rest (bytes : List ℕ) (last : ℕ) (tokens : List Token) (ws : List Word) : Type 0 where
  pub are : AreTokens bytes last tokens
  pub ends : IsLexicalStop bytes (end_of last tokens) None
  pub same : words_of bytes tokens ≡ ws

no_rest : (bytes front : List ℕ) (last : ℕ) → bytes ≡ front ++ [] → last ≤ length front → behind_blanks false (drop last bytes) ≡ [] → Rest bytes last [] []
unfolding AreTokens
no_rest bytes front last whole le blank =
    let size : length bytes ≡ length front = ap length (whole ∙ append-nil front) in
    record {
      are = tt;
      ends = record { order = omega arith; inside = omega arith; blank = blank ∙ sym (drop_all (length bytes) bytes (omega arith)) };
      same = refl;
    }

-- a word with its space
one_word : (w : Word) (rest : List Word) → written (w ∷ rest) ≡ w.text ++ space_behind w.kind w.text ∷ written rest
unfolding written
one_word w rest = append_assoc w.text (space_behind w.kind w.text ∷ []) (written rest)

abbrev word_at : TokenKind → List ℕ → Word
word_at kind text = record { kind = kind; text = text }

some_bytes : (text : List ℕ) → is_lexeme text ≡ true → 0 < length text
some_bytes [] shape = absurd (false≢true shape)
some_bytes (b ∷ bs) shape = omega arith

-- the token that begins the rest
token_stands : (bytes front : List ℕ) (i : ℕ) (w : Word) (sp : ℕ) (rest : List ℕ) → Good w → IsGap sp → i ≡ length front → bytes ≡ front ++ (w.text ++ sp ∷ rest) → Stands bytes i (record { kind = w.kind; place = place_at bytes i; from = i; to = i + length w.text }) × (slice_range bytes i (i + length w.text) ≡ w.text) × (drop (i + length w.text) bytes ≡ sp ∷ rest) × (drop i bytes ≡ w.text ++ sp ∷ rest)
token_stands bytes front i w sp rest good gap at whole =
    let here : drop i bytes ≡ w.text ++ sp ∷ rest = ap (λ n. drop n bytes) at ∙ ap (drop (length front)) whole ∙ drop-append_seam front (w.text ++ sp ∷ rest) in
    let back : i + length w.text - i ≡ length w.text = omega arith in
    let text : slice_range bytes i (i + length w.text) ≡ w.text = ap (λ n. take n (drop i bytes)) back ∙ ap (take (length w.text)) here ∙ take-append_seam w.text (sp ∷ rest) in
    let behind : drop (i + length w.text) bytes ≡ sp ∷ rest = sym (drop-drop (length w.text) i bytes) ∙ ap (drop (length w.text)) here ∙ drop-append_seam w.text (sp ∷ rest) in
    let long : 0 < length w.text = some_bytes w.text good.shape in
    let size : length bytes ≡ length front + (length w.text + suc (length rest)) = ap length whole ∙ length-append front (w.text ++ sp ∷ rest) ∙ ap (λ n. length front + n) (length-append w.text (sp ∷ rest)) in (
      record {
        start = refl;
        order = omega arith;
        inside = omega arith;
        lexeme = subst (λ (l : List ℕ). IsFirstLexeme (drop i bytes) (slice_range bytes i (i + length w.text)) l) (sym behind)
            (subst (λ (l : List ℕ). IsFirstLexeme (drop i bytes) l (sp ∷ rest)) (sym text) (subst (λ (l : List ℕ). IsFirstLexeme l w.text (sp ∷ rest)) (sym here) (word_first w good sp rest gap)));
        kind = good.kind ∙ ap kind_of (sym text);
        fits = subst (λ (l : List ℕ). Fits w.kind l) (sym text) good.fits;
        place = refl;
      },
      text,
      behind,
      here,
    )

read_again : (bytes front : List ℕ) (i last : ℕ) (ws : List Word) → AllByRecursion Good ws → i ≡ length front → bytes ≡ front ++ written ws → last ≤ i → behind_blanks false (drop last bytes) ≡ behind_blanks false (written ws) → Rest bytes last (tokens_at bytes i ws) ws
unfolding AreTokens written tokens_at
read_again bytes front i last [] good at whole le blank = no_rest bytes front last whole (omega arith) blank
read_again bytes front i last (w ∷ ws) good at whole le blank =
    let sp = space_behind w.kind w.text in
    let gap = gap_behind w.kind w.text in
    let line = one_word w ws in
    let stands = token_stands bytes front i w sp (written ws) good.0 gap at (whole ∙ ap (λ (l : List ℕ). front ++ l) line) in
    let to : ℕ = i + length w.text in
    let more = read_again bytes (front ++ (w.text ++ sp ∷ [])) (to + 1) to ws good.1
    (omega (arith, length-append front (w.text ++ sp ∷ []), length-append w.text (sp ∷ [])))
    (whole ∙ sym (append_assoc front (w.text ++ sp ∷ []) (written ws))) (omega arith)
    (ap (behind_blanks false) stands.2 ∙ blank_gap sp (written ws) gap) in
    record {
      are = (record { order = le; inside = omega (arith, stands.0.order, stands.0.inside); blank = blank ∙ ap (behind_blanks false) line ∙ word_stands w good.0 sp (written ws) gap ∙ sym stands.3 }, stands.0, more.are);
      ends = more.ends;
      same = ap (λ (l : List ℕ). word_at w.kind l ∷ words_of bytes (tokens_at bytes (to + 1) ws)) stands.1 ∙ ap (λ (l : List Word). w ∷ l) more.same;
    }

-- the text begins with no byte order mark
no_mark : (ws : List Word) → AllByRecursion Good ws → mark_size (written ws) ≡ 0
unfolding written
no_mark [] good = refl
no_mark (w ∷ ws) good = by_text w.text (good.0).shape
  where
    by_text : (text : List ℕ) → is_lexeme text ≡ true → mark_size ((text ++ space_behind w.kind w.text ∷ []) ++ flat_map spaced ws) ≡ 0
    by_text [] shape = absurd (false≢true shape)
    by_text (b ∷ bs) shape = by_first (nat_eq 239 b) refl
      where
        more : List ℕ
        more = (bs ++ space_behind w.kind w.text ∷ []) ++ flat_map spaced ws

        by_first : (t : Bool) → nat_eq 239 b ≡ t → cond {A = ℕ} (t && pointwise nat_eq (187 ∷ 191 ∷ []) (take 2 more)) 3 0 ≡ 0
        by_first true e = absurd (odd 239 bs refl refl refl refl (λ c. refl) (subst (λ n. is_lexeme (n ∷ bs) ≡ true) (sym (same_byte 239 b e)) shape))
        by_first false e = refl

-- written words are read again as these words, to the end
pub written_again : (ws : List Word) → AllByRecursion Good ws → (lexed : Lexed) × IsLexed (written ws) lexed × (lexed.stop ≡ None) × (words_of (written ws) lexed.tokens ≡ ws)
written_again ws good =
    let bytes = written ws in
    let start = no_mark ws good in
    let rest = read_again bytes [] 0 0 ws good refl refl (omega arith) refl in (
      record { tokens = tokens_at bytes 0 ws; stop = None; end = place_at bytes (length bytes) },
      record {
        tokens = subst (λ n. AreTokens bytes n (tokens_at bytes 0 ws)) (sym start) rest.are;
        stop = subst (λ n. IsLexicalStop bytes (end_of n (tokens_at bytes 0 ws)) None) (sym start) rest.ends;
        end = refl;
      },
      refl,
      rest.same,
    )
