-- a text is of one tree at most, and stops at one place
use Rattle.std.proofs.Common.{◌≡◌, ℕ, ◌+◌, ◌<◌, ◌≤◌, zero, suc, List, [], ◌∷◌, ◌++◌, map, take, drop, refl, sym, ◌∙◌, ap, subst, append_assoc, arith}
use Rattle.std.specs.Prelude.{◌⊎◌}
use Rattle.std.proofs.Common.{inl, inr}
use Rattle.std.proofs.lemmas.Bool.{cases_lt}
use Rattle.base_kit.specs.declared.place.Place.{Place}
use Rattle.tiql_lex.specs.declared.token.Token.{Token}
use Rattle.tiql_lex.specs.declared.token.Lexed.{Lexed}
use Rattle.tiql_lex.specs.Lexed.{text_of}
use Rattle.tiql_lex.proofs.Unique.{one_lexing}
use Rattle.tiql_tree.specs.declared.tree.Tree.{Tree}
use Rattle.tiql_tree.specs.Words.{Word}
use Rattle.tiql_tree.specs.Trees.{place}
use Rattle.tiql_tree.specs.Spelled.{words_of, places_of, Spelled, Begins, IsFirstWrong, IsPlaceOfStop, IsStop}
use Rattle.tiql_read.specs.declared.word.Seen.{Seen}
use Rattle.tiql_read.specs.Steps.{word_of}
use Rattle.tiql_read.proofs.Told.{Known, again}
use Rattle.base_kit.proofs.Results.{same_Ok}

abbrev seen_of : List ℕ → Token → Seen
seen_of bytes token = record { kind = token.kind; text = text_of bytes token; place = token.place }

seen_words : (bytes : List ℕ) (tokens : List Token) → map word_of (map (seen_of bytes) tokens) ≡ words_of bytes tokens
seen_words bytes [] = refl
seen_words bytes (t ∷ ts) = ap (λ (l : List Word). word_of (seen_of bytes t) ∷ l) (seen_words bytes ts)

seen_places : (bytes : List ℕ) (tokens : List Token) → map (λ (word : Seen). word.place) (map (seen_of bytes) tokens) ≡ places_of tokens
seen_places bytes [] = refl
seen_places bytes (t ∷ ts) = ap (λ (l : List Place). t.place ∷ l) (seen_places bytes ts)

-- a text is of one tree at most
pub one_tree : (bytes : List ℕ) (one other : Tree) → Spelled bytes one → Spelled bytes other → one ≡ other
one_tree bytes one other a b =
    let known : Known bytes a.lexed (map (seen_of bytes) a.lexed.tokens) = record { lexes = a.tokens; same_words = seen_words bytes a.lexed.tokens; same_places = seen_places bytes a.lexed.tokens } in
    same_Ok one other (sym (again bytes a.lexed (map (seen_of bytes) a.lexed.tokens) known one a).0 ∙ (again bytes a.lexed (map (seen_of bytes) a.lexed.tokens) known other b).0)

take_drop : (k : ℕ) (ws : List Word) → take k ws ++ drop k ws ≡ ws
take_drop zero ws = refl
take_drop (suc k) [] = refl
take_drop (suc k) (w ∷ ws) = ap (λ (l : List Word). w ∷ l) (take_drop k ws)

take_take : (k m : ℕ) (ws : List Word) → k ≤ m → take k (take m ws) ≡ take k ws
take_take zero m ws le = refl
take_take (suc k) zero ws le = absurd (omega arith)
take_take (suc k) (suc m) [] le = refl
take_take (suc k) (suc m) (w ∷ ws) le = ap (λ (l : List Word). w ∷ l) (take_take k m ws (omega arith))

-- the first of words that begin a query begin one
begins_take : (k : ℕ) (ws : List Word) → Begins ws → Begins (take k ws)
begins_take k ws begun =
    (drop k ws ++ begun.0, begun.1, record { spelling = begun.2.spelling ∙ ap (λ (l : List Word). l ++ begun.0) (sym (take_drop k ws)) ∙ append_assoc (take k ws) (drop k ws) begun.0; depth = begun.2.depth })

no_earlier : (ws : List Word) (n m : ℕ) → IsFirstWrong ws n → IsFirstWrong ws m → n < m → ⊥
no_earlier ws n m one other lt = one.wrong (subst Begins (take_take (n + 1) m ws (omega arith)) (begins_take (n + 1) (take m ws) other.before))

one_wrong : (ws : List Word) (n m : ℕ) → IsFirstWrong ws n → IsFirstWrong ws m → n ≡ m
one_wrong ws n m one other = by_order (cases_lt n m) (cases_lt m n)
  where
    by_order : (n < m) ⊎ (m ≤ n) → (m < n) ⊎ (n ≤ m) → n ≡ m
    by_order (inl lt) h = absurd (no_earlier ws n m one other lt)
    by_order (inr le) (inl lt) = absurd (no_earlier ws m n other one lt)
    by_order (inr le) (inr ge) = omega arith

one_place : (ws : List Word) (lexed : Lexed) (p q : Place) → IsPlaceOfStop ws lexed p → IsPlaceOfStop ws lexed q → p ≡ q
one_place ws lexed p q (inl a) (inl b) = a.2 ∙ ap (λ n. place n (places_of lexed.tokens)) (one_wrong ws a.0 b.0 a.1 b.1) ∙ sym b.2
one_place ws lexed p q (inl a) (inr b) = absurd (a.1.wrong (begins_take (a.0 + 1) ws b.0))
one_place ws lexed p q (inr a) (inl b) = absurd (b.1.wrong (begins_take (b.0 + 1) ws a.0))
one_place ws lexed p q (inr a) (inr b) = a.1 ∙ sym b.1

-- a text stops at one place
pub one_stop : (bytes : List ℕ) (p q : Place) → IsStop bytes p → IsStop bytes q → p ≡ q
one_stop bytes p q a b =
    let same = one_lexing bytes b.lexed a.lexed b.tokens a.tokens in
    one_place (words_of bytes a.lexed.tokens) a.lexed p q a.told (subst (λ (l : Lexed). IsPlaceOfStop (words_of bytes l.tokens) l q) same b.told)
