-- which bytes spell a tree, and where bytes that spell none stop
use Rattle.std.specs.Prelude.{◌≡◌, ℕ, ◌+◌, ◌<◌, ◌≤◌, ◌⊎◌, List, ◌++◌, length, map, take}
use Rattle.std.specs.declared.option.Option.{Option}
use Rattle.std.specs.declared.option.Option.TheVariants.{None, Some}
use Rattle.base_kit.specs.declared.place.Place.{Place}
use Rattle.tiql_lex.specs.declared.token.Token.{Token}
use Rattle.tiql_lex.specs.declared.token.Lexed.{Lexed}
use Rattle.tiql_lex.specs.Lexed.{text_of, IsLexed}
use Rattle.tiql_tree.specs.declared.tree.Tree.{Tree}
use Rattle.tiql_tree.specs.Words.{Word}
use Rattle.tiql_tree.specs.Texts.{QueryText}
use Rattle.tiql_tree.specs.Grammar.{query_words}
use Rattle.tiql_tree.specs.Nesting.{query_depth}
use Rattle.tiql_tree.specs.Trees.{Places, place, query_tree}

-- the words of tokens
abbrev pub words_of : List ℕ → List Token → List Word
words_of bytes tokens = map (λ token. record { kind = token.kind; text = text_of bytes token }) tokens

-- the places of tokens
abbrev pub places_of : List Token → Places
places_of tokens = map (λ token. token.place) tokens

-- the words are those of this query, none of which lies within more than 64 signs and words that open something
pub record AreWordsOf (query : QueryText) (words : List Word) : Type 0 where
  pub spelling : query_words query ≡ words
  pub depth : query_depth query ≤ 64

-- the bytes are tokens to their end, and the rules of the grammar derive the words from query and give the tree
pub record Spelled (bytes : List ℕ) (tree : Tree) : Type 0 where
  pub lexed : Lexed
  pub tokens : IsLexed bytes lexed
  pub end : lexed.stop ≡ None
  pub query : QueryText
  pub grammar : AreWordsOf query (words_of bytes lexed.tokens)
  pub gives : tree ≡ query_tree (places_of lexed.tokens) query

-- further words can complete these to a query
abbrev pub Begins : List Word → Type 0
Begins words = (more : List Word) × (query : QueryText) × AreWordsOf query (words ++ more)

-- this word is the first with which the words so far begin no query
pub record IsFirstWrong (words : List Word) (n : ℕ) : Type 0 where
  pub inside : n < length words
  pub before : Begins (take n words)
  pub wrong : Begins (take (n + 1) words) → ⊥

-- where the tokens stop, or else the place after the last byte
abbrev pub end_place : Option Place → Place → Place
end_place None last = last
end_place (Some stop) last = stop

-- the place is that of the first wrong token, or, where all tokens begin a query, the one behind them
abbrev pub IsPlaceOfStop : List Word → Lexed → Place → Type 0
IsPlaceOfStop words lexed stop =
    ((n : ℕ) × IsFirstWrong words n × (stop ≡ place n (places_of lexed.tokens)))
    ⊎ (Begins words × (stop ≡ end_place lexed.stop lexed.end))

-- the bytes spell no tree, and this is the place that is told of them
pub record IsStop (bytes : List ℕ) (stop : Place) : Type 0 where
  pub none : (tree : Tree) → Spelled bytes tree → ⊥
  pub lexed : Lexed
  pub tokens : IsLexed bytes lexed
  pub told : IsPlaceOfStop (words_of bytes lexed.tokens) lexed stop
