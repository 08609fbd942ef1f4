-- how much the text of a query declares: no more than it has bytes, and no table without a column
use Rattle.std.proofs.Common.{◌≡◌, ℕ, suc, ◌+◌, ◌<◌, ◌≤◌, Bool, true, false, List, [], ◌∷◌, ◌++◌, length, map, refl, sym, ◌∙◌, ap, subst, arith}
use Rattle.std.specs.Prelude.{Result, Ok, Err, All}
use Rattle.std.specs.List.{flat_map, list_all}
use Rattle.std.proofs.lemmas.Bool.{and_from}
use Rattle.std.proofs.lemmas.List.{length-append, length-map}
use Rattle.std.proofs.lemmas.List.Elements.{All-nil, All-push}
use Rattle.base_kit.proofs.Results.{same_Ok}
use Rattle.tiql_lex.specs.declared.token.Token.{Token}
use Rattle.tiql_lex.specs.Lexed.{AreTokens}
use Rattle.tiql_lex.specs.Places.{mark_size}
use Rattle.tiql_tree.specs.declared.tree.Decl.{Decl}
use Rattle.tiql_tree.specs.declared.tree.Decl.TheVariants as decls
use Rattle.tiql_tree.specs.declared.tree.Tree.{Tree}
use Rattle.tiql_tree.specs.declared.tree.TreeColumn.{TreeColumn}
use Rattle.tiql_tree.specs.declared.tree.TreeTable.{TreeTable}
use Rattle.tiql_tree.specs.Grammar.{decl_words, goal_words, hypo_words, query_words, require_words, table_words, view_words}
use Rattle.tiql_tree.specs.Spelled.{Spelled, places_of, words_of}
use Rattle.tiql_tree.specs.Texts.{DeclText, RequireText, all_have, hypo_decl, none_is, require_decl, some_have, table_decl, view_decl}
use Rattle.tiql_tree.specs.Trees.{Places, decl_tree, laid, query_tree, table_tree}
use Rattle.tiql_query.specs.declared.relation.Column.{Column}
use Rattle.tiql_query.specs.declared.relation.QTable.{QTable}
use Rattle.tiql_query.specs.declared.query.Query.{Query}
use Rattle.tiql_check.specs.declared.fault.SoundFault.TheVariants as rule
use Rattle.tiql_check.specs.declared.known.Known.{Known}
use Rattle.tiql_check.specs.Hypos.{checked_hypo}
use Rattle.tiql_check.specs.Known.{is_taken, nothing, with_hypo, with_require, with_table, with_view}
use Rattle.tiql_check.specs.Sound.{Sound, checked, checked_goal, checked_require, with_decl}
use Rattle.tiql_check.specs.Tables.{checked_table, has_column, with_column, with_key_column}
use Rattle.tiql_check.specs.Turns.{◌>>=◌, in_turn}
use Rattle.tiql_check.specs.Views.{checked_view}
use Rattle.tiql_check.proofs.Inverse.{came_of, kept, through}

-- ---- a text has no more tokens than bytes

later_tokens : (bytes : List ℕ) (last : ℕ) (tokens : List Token) → last ≤ length bytes → AreTokens bytes last tokens → length tokens + last ≤ length bytes
unfolding AreTokens
later_tokens bytes last [] within are = omega (arith, within)
later_tokens bytes last (token ∷ tokens) within are =
    let more = later_tokens bytes token.to tokens are.1.inside are.2 in
    omega (arith, are.0.order, are.1.order, more)

few_tokens : (bytes : List ℕ) (tokens : List Token) → AreTokens bytes (mark_size bytes) tokens → length tokens ≤ length bytes
unfolding AreTokens
few_tokens bytes [] are = omega arith
few_tokens bytes (token ∷ tokens) are =
    let more = later_tokens bytes token.to tokens are.1.inside are.2 in
    omega (arith, are.1.order, more)

-- ---- and no more declarations than words

require_word : (require : RequireText) → 0 < length (require_words require)
unfolding require_words
require_word (all_have name cond) = omega arith
require_word (some_have name cond) = omega arith
require_word (none_is name) = omega arith

decl_word : (decl : DeclText) → 0 < length (decl_words decl)
unfolding decl_words table_words hypo_words view_words
decl_word (table_decl table) = omega arith
decl_word (hypo_decl hypo) = omega arith
decl_word (view_decl view) = omega arith
decl_word (require_decl require) = require_word require

decls_words : (texts : List DeclText) → length texts ≤ length (flat_map decl_words texts)
decls_words [] = omega arith
decls_words (text ∷ texts) =
    let one = decl_word text in
    let more = decls_words texts in
    omega (arith, one, more, length-append (decl_words text) (flat_map decl_words texts))

laid_many : {A B : Type 0} (between : ℕ) (size : A → ℕ) (tree : Places → A → B) (parts : List A) (places : Places) → length (laid between size tree places parts) ≡ length parts
laid_many between size tree [] places = refl
laid_many between size tree (part ∷ parts) places = ap suc (laid_many between size tree parts _)

few_decls : (bytes : List ℕ) (tree : Tree) → Spelled bytes tree → length tree.decls ≤ length bytes
unfolding query_tree query_words
few_decls bytes tree spelled =
    let texts = spelled.query.decls in
    let places = places_of spelled.lexed.tokens in
    let tokens = few_tokens bytes spelled.lexed.tokens spelled.tokens.tokens in
    let words : length (query_words spelled.query) ≡ length spelled.lexed.tokens = ap length spelled.grammar.spelling ∙ length-map spelled.lexed.tokens _ in
    let parts = length-append (flat_map decl_words texts) (goal_words spelled.query.goal) in
    let each = decls_words texts in
    let same : length tree.decls ≡ length texts = ap (λ (t : Tree). length t.decls) spelled.gives ∙ laid_many 0 (λ (d : DeclText). length (decl_words d)) decl_tree texts places in
    omega (arith, tokens, words, parts, each, same)

-- ---- a query has no more hypothetical tables, requirements and views than its tree has declarations

abbrev IsMore : Known → Known → ℕ → Type 0
IsMore before after count = (length after.query.hypos ≤ length before.query.hypos + count) × (length after.query.requires_ ≤ length before.query.requires_ + count) × (length after.query.views ≤ length before.query.views + count)

one_more : (before after : Known) (decl : Decl) → with_decl before decl ≡ Ok after → IsMore before after 1
unfolding with_decl
one_more before after (decls.Table tree) e =
    let it = came_of (checked_table before tree) (λ table. Ok (with_table before table)) after e in
    subst (λ (k : Known). IsMore before k 1) (same_Ok (with_table before it.0) after it.2) (omega arith, omega arith, omega arith)
one_more before after (decls.Hypo tree) e =
    let it = came_of (checked_hypo before tree) (λ hypo. Ok (with_hypo before hypo)) after e in
    subst (λ (k : Known). IsMore before k 1) (same_Ok (with_hypo before it.0) after it.2) (omega (arith, length-append before.query.hypos (it.0 ∷ [])), omega arith, omega arith)
one_more before after (decls.View tree) e =
    let it = came_of (checked_view before tree) (λ view. Ok (with_view before view)) after e in
    subst (λ (k : Known). IsMore before k 1) (same_Ok (with_view before it.0) after it.2) (omega arith, omega arith, omega (arith, length-append before.query.views (it.0 ∷ [])))
one_more before after (decls.Require tree) e =
    let it = came_of (checked_require before tree) (λ require. Ok (with_require before require)) after e in
    subst (λ (k : Known). IsMore before k 1) (same_Ok (with_require before it.0) after it.2) (omega arith, omega (arith, length-append before.query.requires_ (it.0 ∷ [])), omega arith)

all_more : (decls : List Decl) (before after : Known) → in_turn with_decl before decls ≡ Ok after → IsMore before after (length decls)
unfolding in_turn
all_more [] before after e = subst (λ (k : Known). IsMore before k 0) (same_Ok before after e) (omega arith, omega arith, omega arith)
all_more (decl ∷ decls) before after e =
    let one = came_of (with_decl before decl) (λ next. in_turn with_decl next decls) after e in
    let step = one_more before one.0 decl one.1 in
    let more = all_more decls one.0 after one.2 in
    (omega (arith, step.0, more.0), omega (arith, step.1, more.1), omega (arith, step.2, more.2))

-- ---- and its tables have columns

some_column : List TreeColumn → Bool
some_column [] = false
some_column (column ∷ columns) = true

has_columns : Decl → Bool
has_columns (decls.Table tree) = some_column tree.columns
has_columns (decls.Hypo tree) = true
has_columns (decls.View tree) = true
has_columns (decls.Require tree) = true

many_columns : (columns : List TreeColumn) (before after : List Column) → in_turn with_column before columns ≡ Ok after → length after ≡ length before + length columns
unfolding in_turn
many_columns [] before after e = let same = ap length (same_Ok before after e) in omega (arith, same)
many_columns (column ∷ columns) before after e =
    let one = came_of (with_column before column) (λ next. in_turn with_column next columns) after e in
    let new : Column = record { name = column.name.name; text = column.text; unknown = false } in
    let made = kept (has_column column.name.name before) (rule.SameName column.name.place) (Ok (before ++ new ∷ [])) one.0 one.1 in
    let longer = ap length (same_Ok (before ++ new ∷ []) one.0 made.1) in
    let more = many_columns columns one.0 after one.2 in
    omega (arith, longer, more, length-append before (new ∷ []))

wide_columns : (columns : List TreeColumn) → some_column columns ≡ true → 0 < length columns
unfolding some_column
wide_columns [] some = absurd cc
wide_columns (column ∷ columns) some = omega arith

wide_table : (known : Known) (tree : TreeTable) (table : QTable) → some_column tree.columns ≡ true → checked_table known tree ≡ Ok table → 0 < length table.columns
unfolding checked_table
wide_table known tree table some e =
    let made : List Column → List ℕ → QTable = λ columns key. record { name = tree.name.name; columns = columns; key = key } in
    let free = kept (is_taken known tree.name) (rule.SameName tree.name.place) (in_turn with_column [] tree.columns >>= (λ columns. in_turn (with_key_column columns) [] tree.key >>= (λ key. Ok (made columns key)))) table e in
    let columns = came_of (in_turn with_column [] tree.columns) (λ columns. in_turn (with_key_column columns) [] tree.key >>= (λ key. Ok (made columns key))) table free.1 in
    let key = came_of (in_turn (with_key_column columns.0) [] tree.key) (λ key. Ok (made columns.0 key)) table columns.2 in
    let many = many_columns tree.columns [] columns.0 columns.1 in
    let same = ap (λ (t : QTable). length t.columns) (same_Ok (made columns.0 key.0) table key.2) in
    omega (arith, wide_columns tree.columns some, many, same)

abbrev IsWide : Known → Type 0
IsWide known = All (λ table. 0 < length table.columns) known.query.tables

wide_step : (before after : Known) (decl : Decl) → has_columns decl ≡ true → with_decl before decl ≡ Ok after → IsWide before → IsWide after
unfolding with_decl has_columns
wide_step before after (decls.Table tree) has e wide =
    let it = came_of (checked_table before tree) (λ table. Ok (with_table before table)) after e in
    subst IsWide (same_Ok (with_table before it.0) after it.2) (All-push (λ (t : QTable). 0 < length t.columns) before.query.tables it.0 wide (wide_table before tree it.0 has it.1))
wide_step before after (decls.Hypo tree) has e wide =
    let it = came_of (checked_hypo before tree) (λ hypo. Ok (with_hypo before hypo)) after e in
    subst IsWide (same_Ok (with_hypo before it.0) after it.2) wide
wide_step before after (decls.View tree) has e wide =
    let it = came_of (checked_view before tree) (λ view. Ok (with_view before view)) after e in
    subst IsWide (same_Ok (with_view before it.0) after it.2) wide
wide_step before after (decls.Require tree) has e wide =
    let it = came_of (checked_require before tree) (λ require. Ok (with_require before require)) after e in
    subst IsWide (same_Ok (with_require before it.0) after it.2) wide

decl_wide : (places : Places) (text : DeclText) → has_columns (decl_tree places text) ≡ true
unfolding decl_tree table_tree has_columns some_column
decl_wide places (table_decl table) = refl
decl_wide places (hypo_decl hypo) = refl
decl_wide places (view_decl view) = refl
decl_wide places (require_decl require) = refl

decls_wide : (size : DeclText → ℕ) (texts : List DeclText) (places : Places) → list_all has_columns (laid 0 size decl_tree places texts) ≡ true
decls_wide size [] places = refl
decls_wide size (text ∷ texts) places = and_from (has_columns (decl_tree places text)) _ (decl_wide places text) (decls_wide size texts _)

-- ---- so it is of the query of a text

pub few_declared : (bytes : List ℕ) (tree : Tree) (query : Query) → Spelled bytes tree → Sound tree query → (length query.hypos ≤ length bytes) × (length query.requires_ ≤ length bytes) × (length query.views ≤ length bytes)
unfolding Sound checked
few_declared bytes tree query spelled sound =
    let known = came_of (in_turn with_decl nothing tree.decls) (λ known. checked_goal known tree.goal >>= (λ aim. Ok (record known.query { aim = aim }))) query sound in
    let aim = came_of (checked_goal known.0 tree.goal) (λ aim. Ok (record (known.0).query { aim = aim })) query known.2 in
    let more = all_more tree.decls nothing known.0 known.1 in
    let few = few_decls bytes tree spelled in
    subst (λ (q : Query). (length q.hypos ≤ length bytes) × (length q.requires_ ≤ length bytes) × (length q.views ≤ length bytes)) (same_Ok (record (known.0).query { aim = aim.0 }) query aim.2)
    (omega (arith, more.0, few), omega (arith, more.1, few), omega (arith, more.2, few))

pub wide_declared : (bytes : List ℕ) (tree : Tree) (query : Query) → Spelled bytes tree → Sound tree query → All (λ table. 0 < length table.columns) query.tables
unfolding Sound checked query_tree
wide_declared bytes tree query spelled sound =
    let known = came_of (in_turn with_decl nothing tree.decls) (λ known. checked_goal known tree.goal >>= (λ aim. Ok (record known.query { aim = aim }))) query sound in
    let aim = came_of (checked_goal known.0 tree.goal) (λ aim. Ok (record (known.0).query { aim = aim })) query known.2 in
    let each : list_all has_columns tree.decls ≡ true = ap (λ (t : Tree). list_all has_columns t.decls) spelled.gives ∙ decls_wide (λ (d : DeclText). length (decl_words d)) spelled.query.decls (places_of spelled.lexed.tokens) in
    let wide = through with_decl IsWide has_columns wide_step tree.decls nothing known.0 each known.1 (All-nil (λ (t : QTable). 0 < length t.columns)) in
    subst (λ (q : Query). All (λ (t : QTable). 0 < length t.columns) q.tables) (same_Ok (record (known.0).query { aim = aim.0 }) query aim.2) wide
