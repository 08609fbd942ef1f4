-- what is told of a text, by what is read of its words
use Rattle.std.proofs.Common.{◌≡◌, ℕ, zero, suc, ◌-◌, ◌<◌, ◌≤◌, List, [], ◌∷◌, length, map, get_or, refl, sym, ◌∙◌, ap, subst, inl, inr, arith}
use Rattle.std.specs.Prelude.{Result, Ok, Err, All, unwrap_or}
use Rattle.std.specs.List.{AllByRecursion}
use Rattle.std.specs.declared.option.Option.{Option}
use Rattle.std.specs.declared.option.Option.TheVariants.{None, Some}
use Rattle.std.proofs.lemmas.List.{append-nil, length-map, take_all}
use Rattle.std.proofs.lemmas.List.Elements.{All-nil, All-cons}
use Rattle.base_kit.specs.declared.place.Place.{Place}
use Rattle.tiql_lex.specs.declared.token.Token.{Token}
use Rattle.tiql_lex.specs.declared.token.Lexed.{Lexed}
use Rattle.tiql_lex.specs.Lexed.{AreTokens, IsLexed}
use Rattle.tiql_lex.specs.Places.{mark_size}
use Rattle.tiql_lex.proofs.Unique.{one_lexing}
use Rattle.tiql_tree.specs.declared.tree.Tree.{Tree}
use Rattle.tiql_tree.specs.Words.{Word}
use Rattle.tiql_tree.specs.Trees.{place, query_tree}
use Rattle.tiql_tree.specs.Spelled.{words_of, places_of, AreWordsOf, Spelled, Begins, end_place, IsPlaceOfStop, IsStop}
use Rattle.tiql_tree.proofs.Written.{Good}
use Rattle.tiql_read.specs.declared.reader.ReadFault.{ReadFault}
use Rattle.tiql_read.specs.declared.reader.ReadFault.TheVariants.{Syntax}
use Rattle.tiql_read.specs.Steps.{Words, word_of}
use Rattle.tiql_read.specs.Queries.{query_at}
use Rattle.tiql_read.specs.Stops.{IsWithin, stop_place}
use Rattle.tiql_read.proofs.Exactly.{StopsAt, reads, only, stops}

-- the bytes of tokens are among those of the text
pub tokens_within : (bytes : List ℕ) (last : ℕ) (tokens : List Token) → AreTokens bytes last tokens → All (IsWithin bytes) tokens
unfolding AreTokens
tokens_within bytes last [] are = All-nil (IsWithin bytes)
tokens_within bytes last (token ∷ tokens) are =
    All-cons (IsWithin bytes) token tokens (record { order = omega (arith, are.1.order); inside = are.1.inside }) (tokens_within bytes token.to tokens are.2)

tokens_good : (bytes : List ℕ) (last : ℕ) (tokens : List Token) → AreTokens bytes last tokens → AllByRecursion Good (words_of bytes tokens)
unfolding AreTokens
tokens_good bytes last [] are = tt
tokens_good bytes last (token ∷ tokens) are =
    (record { shape = are.1.lexeme.shape; kind = are.1.kind; fits = are.1.fits }, tokens_good bytes token.to tokens are.2)

pub place_get : (n : ℕ) (tokens : List Token) (d : Token) → n < length tokens → (get_or tokens n d).place ≡ place n (places_of tokens)
place_get n [] d lt = absurd (omega arith)
place_get zero (token ∷ tokens) d lt = refl
place_get (suc n) (token ∷ tokens) d lt = place_get n tokens d (omega arith)

-- where all words begin a query
pub stop_end : (lexed : Lexed) (left : ℕ) (result : Place) → left ≡ 0 → result ≡ unwrap_or lexed.stop lexed.end → result ≡ stop_place lexed left
unfolding stop_place
stop_end lexed zero result none is = is ∙ by_stop lexed.stop
  where
    by_stop : (o : Option Place) → unwrap_or o lexed.end ≡ end_place o lexed.end
    by_stop None = refl
    by_stop (Some stop) = refl
stop_end lexed (suc n) result none is = absurd (omega arith)

-- where a word is wrong
pub stop_token : (lexed : Lexed) (left : ℕ) (tokens : List Token) (d : Token) → (left ≡ 0 → ⊥) → left ≤ length lexed.tokens → tokens ≡ lexed.tokens → (get_or tokens (length tokens - left) d).place ≡ stop_place lexed left
unfolding stop_place
stop_token lexed zero tokens d some inside are = absurd (some refl)
stop_token lexed (suc n) tokens d some inside are =
    ap (λ (l : List Token). (get_or l (length l - suc n) d).place) are ∙ place_get (length lexed.tokens - suc n) lexed.tokens d (omega arith)

wrong_place : (words : List Word) (lexed : Lexed) (left : ℕ) → length words ≡ length lexed.tokens → StopsAt words left → IsPlaceOfStop words lexed (stop_place lexed left)
unfolding stop_place
wrong_place words lexed zero long stop =
    inr (subst (λ (w : List Word). Begins w) (take_all (length words - 0) words (omega arith)) stop.before, refl)
wrong_place words lexed (suc n) long stop =
    inl (length words - suc n, record { inside = omega (arith, stop.inside); before = stop.before; wrong = stop.wrong (omega arith) }, ap (λ m. place (m - suc n) (places_of lexed.tokens)) (sym long))

abbrev ok_tree : Tree → Result Tree ℕ
ok_tree t = Ok t

abbrev answer_of : Tree → Result Tree ReadFault
answer_of tree = Ok tree

abbrev fault_at : Place → Result Tree ReadFault
fault_at place = Err (Syntax place)

no_error : (tree : Tree) (n : ℕ) → ◌≡◌ {A = Result Tree ℕ} (Ok tree) (Err n) → ⊥
no_error tree n e = cc

no_stop : (stop : Place) → ◌≡◌ {A = Option Place} None (Some stop) → ⊥
no_stop stop e = cc

same_tree : (one other : Tree) → ok_tree one ≡ ok_tree other → one ≡ other
same_tree one other e = cc

same_place : (one other : Place) → fault_at one ≡ fault_at other → one ≡ other
same_place one other e = cc

-- the words are those of the tokens that the bytes are
pub record Known (bytes : List ℕ) (lexed : Lexed) (words : Words) : Type 0 where
  pub lexes : IsLexed bytes lexed
  pub same_words : map word_of words ≡ words_of bytes lexed.tokens
  pub same_places : map (λ word. word.place) words ≡ places_of lexed.tokens

pub known : (bytes : List ℕ) (lexed : Lexed) (tokens : List Token) (made words : Words) → IsLexed bytes lexed → tokens ≡ lexed.tokens → map word_of made ≡ words_of bytes tokens → map (λ word. word.place) made ≡ places_of tokens → words ≡ made → Known bytes lexed words
known bytes lexed tokens made words lexes are all_words all_places lent = record {
  lexes = lexes;
  same_words = ap (λ (w : Words). map word_of w) lent ∙ all_words ∙ ap (λ (l : List Token). words_of bytes l) are;
  same_places = ap (λ (w : Words). map (λ word. word.place) w) lent ∙ all_places ∙ ap (λ (l : List Token). places_of l) are;
}

module _ (bytes : List ℕ) (lexed : Lexed) (words : Words) (is : Known bytes lexed words) where
  all_good : AllByRecursion Good (map word_of words)
  all_good = subst (λ (w : List Word). AllByRecursion Good w) (sym is.same_words) (tokens_good bytes (mark_size bytes) lexed.tokens is.lexes.tokens)

  many_words : length (map word_of words) ≡ length lexed.tokens
  many_words = ap length is.same_words ∙ simp length-map

  stop_of : (left : ℕ) → query_at words ≡ Err left → StopsAt (map word_of words) left
  stop_of left e = stops words left all_good e

  -- no more words are left than there are tokens
  pub left_within : (left : ℕ) → query_at words ≡ Err left → left ≤ length lexed.tokens
  left_within left e = let s = stop_of left e in omega (arith, s.inside, many_words)

  pub spelled : (tree : Tree) → query_at words ≡ Ok tree → lexed.stop ≡ None → Spelled bytes tree
  spelled tree e end =
      let r = reads words tree e in
      record {
        lexed = lexed;
        tokens = is.lexes;
        end = end;
        query = r.0;
        grammar = subst (λ (w : List Word). AreWordsOf r.0 w) is.same_words r.1;
        gives = r.2 ∙ ap (λ (p : List Place). query_tree p r.0) is.same_places;
      }

  pub again : (tree : Tree) → Spelled bytes tree → (query_at words ≡ Ok tree) × (lexed.stop ≡ None)
  again tree s =
      let same : s.lexed ≡ lexed = one_lexing bytes s.lexed lexed s.tokens is.lexes in
      let grammar : AreWordsOf s.query (map word_of words) = subst (λ (w : List Word). AreWordsOf s.query w) (ap (λ (l : Lexed). words_of bytes l.tokens) same ∙ sym is.same_words) s.grammar in
      let places : map (λ word. word.place) words ≡ places_of s.lexed.tokens = is.same_places ∙ ap (λ (l : Lexed). places_of l.tokens) (sym same) in
      let made : query_tree (map (λ word. word.place) words) s.query ≡ tree = ap (λ (p : List Place). query_tree p s.query) places ∙ sym s.gives in
      (only words s.query all_good grammar ∙ ap (λ (t : Tree). ok_tree t) made, ap (λ (l : Lexed). l.stop) (sym same) ∙ s.end)

  -- a word is wrong, or the words end early
  stopped : (left : ℕ) → query_at words ≡ Err left → IsStop bytes (stop_place lexed left)
  stopped left e = record {
    none = λ tree s. no_error tree left (sym (again tree s).0 ∙ e);
    lexed = lexed;
    tokens = is.lexes;
    told = subst (λ (w : List Word). IsPlaceOfStop w lexed (stop_place lexed left)) is.same_words (wrong_place (map word_of words) lexed left many_words (stop_of left e));
  }

  -- the words are a query, and no token follows
  stopped_behind : (tree : Tree) (stop : Place) → query_at words ≡ Ok tree → lexed.stop ≡ Some stop → IsStop bytes stop
  stopped_behind tree stop e here =
      let r = reads words tree e in
      record {
        none = λ other s. no_stop stop (sym (again other s).1 ∙ here);
        lexed = lexed;
        tokens = is.lexes;
        told = inr (([], r.0, subst (λ (w : List Word). AreWordsOf r.0 w) (is.same_words ∙ sym (append-nil (words_of bytes lexed.tokens))) r.1), ap (λ (o : Option Place). end_place o lexed.end) (sym here));
      }

  -- the clauses of the call, by what is read
  pub only_tree : (tree : Tree) → query_at words ≡ Ok tree → (other : Tree) → Spelled bytes other → answer_of tree ≡ answer_of other
  only_tree tree e other s = ap answer_of (same_tree tree other (sym e ∙ (again other s).0))

  pub only_wrong : (left : ℕ) → query_at words ≡ Err left → (other : Tree) → Spelled bytes other → ⊥
  only_wrong left e other s = no_error other left (sym (again other s).0 ∙ e)

  pub only_behind : (stop : Place) → lexed.stop ≡ Some stop → (other : Tree) → Spelled bytes other → ⊥
  only_behind stop here other s = no_stop stop (sym (again other s).1 ∙ here)

  pub stop_wrong : (left : ℕ) (told place : Place) → query_at words ≡ Err left → told ≡ stop_place lexed left → fault_at told ≡ fault_at place → IsStop bytes place
  stop_wrong left told place e is_place same = subst (λ (p : Place). IsStop bytes p) (sym is_place ∙ same_place told place same) (stopped left e)

  pub stop_behind : (tree : Tree) (stop place : Place) → query_at words ≡ Ok tree → lexed.stop ≡ Some stop → fault_at stop ≡ fault_at place → IsStop bytes place
  stop_behind tree stop place e here same = subst (λ (p : Place). IsStop bytes p) (same_place stop place same) (stopped_behind tree stop e here)
