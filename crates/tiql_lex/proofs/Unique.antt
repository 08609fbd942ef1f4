-- a text has one list of tokens, one stop and one end
use Rattle.std.proofs.Common.{◌≡◌, ℕ, ◌-◌, ◌≤◌, List, [], ◌∷◌, length, drop, refl, sym, ◌∙◌, ap, subst, arith}
use Rattle.std.proofs.lemmas.List.{length-drop}
use Rattle.std.specs.declared.option.Option.{Option}
use Rattle.std.specs.declared.option.Option.TheVariants.{None, Some}
use Rattle.base_kit.specs.declared.place.Place.{Place}
use Rattle.tiql_lex.specs.declared.token.Token.{Token}
use Rattle.tiql_lex.specs.declared.token.TokenKind.{TokenKind}
use Rattle.tiql_lex.specs.declared.token.Lexed.{Lexed}
use Rattle.tiql_lex.specs.Kinds.{kind_of}
use Rattle.tiql_lex.specs.Lexed.{text_of, Stands, Skips, AreTokens, end_of, IsLexicalStop, IsLexed}
use Rattle.tiql_lex.specs.Lexemes.{IsFirstLexeme}
use Rattle.tiql_lex.specs.Places.{mark_size, place_at}
use Rattle.tiql_lex.proofs.Lexing.{same_first}

same_drop : (bytes : List ℕ) (a b : ℕ) → a ≤ length bytes → b ≤ length bytes → drop a bytes ≡ drop b bytes → a ≡ b
same_drop bytes a b one two same =
    let left : length bytes - a ≡ length bytes - b = sym (length-drop a bytes) ∙ ap length same ∙ length-drop b bytes in
    omega arith

-- white space and comments end at one byte
pub same_skip : (bytes : List ℕ) (last from from' : ℕ) → Skips bytes last from → Skips bytes last from' → from ≡ from'
same_skip bytes last from from' one two = same_drop bytes from from' one.inside two.inside (sym one.blank ∙ two.blank)

at_start : (bytes : List ℕ) (from : ℕ) (token : Token) → Stands bytes from token → IsFirstLexeme (drop from bytes) (text_of bytes token) (drop token.to bytes)
at_start bytes from token s = subst (λ n. IsFirstLexeme (drop n bytes) (text_of bytes token) (drop token.to bytes)) s.start s.lexeme

abbrev token_of : TokenKind → Place → ℕ → ℕ → Token
token_of kind place from to = record { kind = kind; place = place; from = from; to = to }

same_parts : (one other : Token) → one.kind ≡ other.kind → one.place ≡ other.place → one.from ≡ other.from → one.to ≡ other.to → one ≡ other
same_parts one other kind place from to =
    ap (λ k. token_of k one.place one.from one.to) kind ∙ ap (λ p. token_of other.kind p one.from one.to) place
    ∙ ap (λ n. token_of other.kind other.place n one.to) from ∙ ap (λ n. token_of other.kind other.place other.from n) to

-- one token begins at a byte
pub same_token : (bytes : List ℕ) (from : ℕ) (one other : Token) → Stands bytes from one → Stands bytes from other → one ≡ other
same_token bytes from one other s t =
    let same = same_first (drop from bytes) _ _ _ _ (at_start bytes from one s) (at_start bytes from other t) in
    let start : one.from ≡ other.from = s.start ∙ sym t.start in
    same_parts one other (s.kind ∙ ap kind_of same.0 ∙ sym t.kind) (s.place ∙ ap (place_at bytes) start ∙ sym t.place) start
    (same_drop bytes one.to other.to s.inside t.inside same.1)

-- the lists are equal, and so are the stops
record Same (one other : List Token) (stop stop' : Option Place) : Type 0 where
  lists : one ≡ other
  stops : stop ≡ stop'

same_stop : (bytes : List ℕ) (last : ℕ) (stop stop' : Option Place) → IsLexicalStop bytes last stop → IsLexicalStop bytes last stop' → stop ≡ stop'
same_stop bytes last None None one other = refl
same_stop bytes last None (Some place) one other =
    let same = same_skip bytes last (length bytes) other.0 one other.1 in absurd (omega (arith, other.2, same))
same_stop bytes last (Some place) None one other =
    let same = same_skip bytes last one.0 (length bytes) one.1 other in absurd (omega (arith, one.2, same))
same_stop bytes last (Some place) (Some place') one other =
    let same = same_skip bytes last one.0 other.0 one.1 other.1 in ap Some (one.3 ∙ ap (place_at bytes) same ∙ sym other.3)

-- a token begins where nothing is to begin
no_token : (bytes : List ℕ) (last : ℕ) (stop : Option Place) (token : Token) → IsLexicalStop bytes last stop → Skips bytes last token.from → Stands bytes token.from token → ⊥
no_token bytes last None token stop skips stands =
    let same = same_skip bytes last (length bytes) token.from stop skips in omega (arith, same, stands.order, stands.inside)
no_token bytes last (Some place) token stop skips stands =
    let same = same_skip bytes last stop.0 token.from stop.1 skips in stop.4 token (subst (λ n. Stands bytes n token) (sym same) stands)

same_lists : (bytes : List ℕ) (last : ℕ) (tokens others : List Token) (stop stop' : Option Place) → AreTokens bytes last tokens → AreTokens bytes last others → IsLexicalStop bytes (end_of last tokens) stop → IsLexicalStop bytes (end_of last others) stop' → Same tokens others stop stop'
unfolding AreTokens
same_lists bytes last [] [] stop stop' one other s s' = record { lists = refl; stops = same_stop bytes last stop stop' s s' }
same_lists bytes last [] (u ∷ us) stop stop' one other s s' = absurd (no_token bytes last stop u s other.0 other.1)
same_lists bytes last (t ∷ ts) [] stop stop' one other s s' = absurd (no_token bytes last stop' t s' one.0 one.1)
same_lists bytes last (t ∷ ts) (u ∷ us) stop stop' one other s s' =
    let from = same_skip bytes last t.from u.from one.0 other.0 in
    let head = same_token bytes t.from t u one.1 (subst (λ n. Stands bytes n u) (sym from) other.1) in
    let to : u.to ≡ t.to = ap (λ (x : Token). x.to) (sym head) in
    let tail = same_lists bytes t.to ts us stop stop' one.2 (subst (λ n. AreTokens bytes n us) to other.2) s (subst (λ n. IsLexicalStop bytes (end_of n us) stop') to s') in
    record { lists = ap (λ (x : Token). x ∷ ts) head ∙ ap (λ (l : List Token). u ∷ l) tail.lists; stops = tail.stops }

abbrev lexed_of : List Token → Option Place → Place → Lexed
lexed_of tokens stop end = record { tokens = tokens; stop = stop; end = end }

same_fields : (one other : Lexed) → one.tokens ≡ other.tokens → one.stop ≡ other.stop → one.end ≡ other.end → one ≡ other
same_fields one other tokens stop end =
    ap (λ (ts : List Token). lexed_of ts one.stop one.end) tokens ∙ ap (λ (s : Option Place). lexed_of other.tokens s one.end) stop ∙ ap (lexed_of other.tokens other.stop) end

pub one_lexing : (bytes : List ℕ) (one other : Lexed) → IsLexed bytes one → IsLexed bytes other → one ≡ other
one_lexing bytes one other l m =
    let same = same_lists bytes (mark_size bytes) one.tokens other.tokens one.stop other.stop l.tokens m.tokens l.stop m.stop in
    same_fields one other same.lists same.stops (l.end ∙ sym m.end)
