-- what is printed of a tree that some text spells, spells that tree
use Rattle.std.proofs.Common.{◌≡◌, ℕ, ◌≤◌, List, [], ◌∷◌, refl, sym, ◌∙◌, ap, subst, arith, Result, Ok, Err, IfOk}
use Rattle.std.specs.List.{AllByRecursion}
use Rattle.base_kit.specs.declared.memory.Memory.{Memory}
use Rattle.tiql_lex.specs.declared.token.Token.{Token}
use Rattle.tiql_lex.specs.Lexed.{text_of, Stands, AreTokens}
use Rattle.tiql_tree.specs.declared.tree.Tree.{Tree}
use Rattle.tiql_tree.specs.Words.{Word}
use Rattle.tiql_tree.specs.Texts.{QueryText}
use Rattle.tiql_tree.specs.Grammar.{query_words}
use Rattle.tiql_tree.specs.Nesting.{query_depth}
use Rattle.tiql_tree.specs.Trees.{query_tree}
use Rattle.tiql_tree.specs.Spelled.{words_of, places_of, Spelled}
use Rattle.tiql_tree.specs.Unplaced.{tree_only, Spells, HasText}
use Rattle.tiql_tree.specs.Printed.{tree_text, printed}
use Rattle.tiql_tree.specs.Bytes.{tree_bytes}
use Rattle.tiql_tree.proofs.Alike.{text_alike, whole_alike, query_whole}
use Rattle.tiql_tree.proofs.Lines.{WholeDecl, tree_line}
use Rattle.tiql_tree.proofs.NeatQuery.{neat_query, query_is}
use Rattle.tiql_tree.proofs.NeatTrees.{query_same}
use Rattle.tiql_tree.proofs.NeatWords.{query_deep, query_good}
use Rattle.tiql_tree.proofs.Written.{Good, written_again}

-- a token's word is one
token_good : (bytes : List ℕ) (from : ℕ) (token : Token) → Stands bytes from token → Good (record { kind = token.kind; text = text_of bytes token })
token_good bytes from token stands = record { shape = (stands.lexeme).shape; kind = stands.kind; fits = stands.fits }

tokens_good : (bytes : List ℕ) (last : ℕ) (tokens : List Token) → AreTokens bytes last tokens → AllByRecursion Good (words_of bytes tokens)
unfolding AreTokens
tokens_good bytes last [] are = tt
tokens_good bytes last (t ∷ ts) are = (token_good bytes t.from t are.1, tokens_good bytes t.to ts are.2)

query_tokens : (bytes : List ℕ) (tree : Tree) (s : Spelled bytes tree) → AllByRecursion Good (query_words s.query)
query_tokens bytes tree s = subst (λ (ws : List Word). AllByRecursion Good ws) (sym (s.grammar).spelling) (tokens_good bytes _ (s.lexed).tokens (s.tokens).tokens)

-- the text of the tree is the neat text of the query
text_is : (tree : Tree) (bytes : List ℕ) (spells : Spells bytes tree) → tree_text tree ≡ neat_query (spells.spelled).query
text_is tree bytes spells =
    text_alike tree spells.other (sym spells.same) ∙ ap tree_text (spells.spelled).gives ∙ query_is _ (spells.spelled).query

pub printed_bytes : (tree : Tree) → HasText tree → tree_bytes tree ≡ printed tree
printed_bytes tree has =
    let spells = has.1 in
    tree_line tree (whole_alike spells.other tree spells.same
    (subst (λ (t : Tree). AllByRecursion WholeDecl t.decls) (sym (spells.spelled).gives) (query_whole (places_of ((spells.spelled).lexed).tokens) (spells.spelled).query)))

pub printed_spells : (tree : Tree) → HasText tree → Spells (printed tree) tree
printed_spells tree has =
    let spells = has.1 in
    let q = (spells.spelled).query in
    let good = query_tokens has.0 spells.other spells.spelled in
    let text : tree_text tree ≡ neat_query q = text_is tree has.0 spells in
    let words : query_words (tree_text tree) ≡ query_words (neat_query q) = ap query_words text in
    let again = written_again (query_words (tree_text tree)) (subst (λ (ws : List Word). AllByRecursion Good ws) (sym words) (query_good q good)) in
    record {
      other = query_tree (places_of (again.0).tokens) (tree_text tree);
      spelled = record {
        lexed = again.0;
        tokens = again.1;
        end = again.2;
        query = tree_text tree;
        grammar = record { spelling = sym again.3; depth = subst (λ (x : QueryText). query_depth x ≤ 64) (sym text) (omega (arith, query_deep q, ((spells.spelled).grammar).depth)) };
        gives = refl;
      };
      same = ap (λ (x : QueryText). tree_only (query_tree (places_of (again.0).tokens) x)) text
          ∙ query_same (places_of (again.0).tokens) (places_of ((spells.spelled).lexed).tokens) q good
          ∙ ap tree_only (sym (spells.spelled).gives) ∙ spells.same;
    }

-- the clauses of the call that prints
pub has_layout : (tree : Tree) → HasText tree → (r : Result (List ℕ) Memory) → IfOk r (λ text. text ≡ tree_bytes tree) → IfOk r (λ text. text ≡ printed tree)
has_layout tree has (Ok text) is = is ∙ printed_bytes tree has
has_layout tree has (Err e) is = is

pub has_tree : (tree : Tree) → HasText tree → (r : Result (List ℕ) Memory) → IfOk r (λ text. text ≡ tree_bytes tree) → IfOk r (λ text. Spells text tree)
has_tree tree has (Ok text) is = subst (λ (l : List ℕ). Spells l tree) (sym (is ∙ printed_bytes tree has)) (printed_spells tree has)
has_tree tree has (Err e) is = is
