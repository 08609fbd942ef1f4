-- a tree that some text spells has small numbers, since a number that is larger is no token
use Rattle.std.proofs.Common.{◌≡◌, ℕ, pos, ◌+◌, ◌≤◌, ◌^◌, Bool, true, false, ◌&&◌, List, [], ◌∷◌, map, length, drop, flat_map, codes, unsigned_abs, refl, sym, ◌∙◌, ap, subst, arith, if◌then◌else◌}
use Rattle.std.specs.Prelude.{nat_le}
use Rattle.std.specs.declared.option.Option.{Option}
use Rattle.std.specs.declared.option.Option.TheVariants.{None, Some}
use Rattle.std.specs.Option.{option_map}
use Rattle.std.specs.List.{list_all, AllByRecursion}
use Rattle.std.specs.Str.Parse.{digits_value}
use Rattle.std.proofs.lemmas.Bool.Decides.{nat_tests}
use denote.Hole.Carrier.{roll}
use Rattle.base_kit.specs.declared.place.Place.{Place}
use Rattle.tiql_lex.specs.declared.token.Token.{Token}
use Rattle.tiql_lex.specs.Lexed.{AreTokens}
use Rattle.tiql_tree.specs.declared.condition.TreeCond.{TreeCond}
use Rattle.tiql_tree.specs.declared.condition.TreeCond.TheOpen.{TreeCond-F}
use Rattle.tiql_tree.specs.declared.condition.TreeCond.TheFolds.{ind-TreeCond, map-TreeCond}
use Rattle.tiql_tree.specs.declared.condition.TreeCond.TheViews.{roll-TreeCond}
use Rattle.tiql_tree.specs.declared.expression.TreeRef.{TreeRef}
use Rattle.tiql_tree.specs.declared.expression.TreeExpr.{TreeExpr, ind-TreeExpr, roll-TreeExpr}
use Rattle.tiql_tree.specs.declared.expression.TreeSigned.{TreeSigned, roll-TreeSigned}
use Rattle.tiql_tree.specs.declared.expression.TreeForm.{TreeForm}
use Rattle.tiql_tree.specs.declared.expression.TreeForm.TheOpen.{TreeForm-F}
use Rattle.tiql_tree.specs.declared.expression.TreeForm.TheFolds.{map-TreeForm, fold-roll-TreeForm}
use Rattle.tiql_tree.specs.declared.expression.TreeForm.TheVariants.{Text, Ref}
use Rattle.tiql_tree.specs.declared.expression.TreeForm.TheViews.{roll-TreeForm}
use Rattle.tiql_tree.specs.declared.tree.Tree.{Tree}
use Rattle.tiql_tree.specs.declared.tree.Decl.{Decl}
use Rattle.tiql_tree.specs.declared.tree.Decl.TheVariants as decls
use Rattle.tiql_tree.specs.declared.tree.TreeBound.{TreeBound}
use Rattle.tiql_tree.specs.declared.tree.TreeItem.{TreeItem}
use Rattle.tiql_tree.specs.declared.tree.TreeSelect.{TreeSelect}
use Rattle.tiql_tree.specs.declared.tree.TreeValue.{TreeValue}
use Rattle.tiql_tree.specs.declared.tree.TreeValue.TheVariants as values
use Rattle.tiql_tree.specs.declared.tree.TreeRequire.{TreeRequire}
use Rattle.tiql_tree.specs.declared.tree.TreeRequire.TheVariants as needs
use Rattle.tiql_tree.specs.declared.tree.TreeGoal.{TreeGoal}
use Rattle.tiql_tree.specs.declared.tree.TreeGoal.TheVariants as goals
use Rattle.tiql_tree.specs.Words.{Word, Several, parts_of, key, named, with_between}
use Rattle.tiql_tree.specs.Texts.{ExprText, TermText, FactorText, CondText, ConjText, UnitText}
use Rattle.tiql_tree.specs.Texts.{BoundText, ItemText, SelectText, RequireText, DeclText, GoalText, QueryText}
use Rattle.tiql_tree.specs.Texts.ExprText.{last_term, next_term}
use Rattle.tiql_tree.specs.Texts.TermText.{last_factor, next_factor}
use Rattle.tiql_tree.specs.Texts.FactorText.{negated, numeral, value_text, reference, absolute, grouped}
use Rattle.tiql_tree.specs.Texts.CondText.{last_conj, next_conj}
use Rattle.tiql_tree.specs.Texts.ConjText.{last_unit, next_unit}
use Rattle.tiql_tree.specs.Texts.UnitText.{denied, bracketed, compared}
use Rattle.tiql_tree.specs.Texts.ItemText.{lone_ref, plain_item, sum_item, min_item, max_item, count_item}
use Rattle.tiql_tree.specs.Texts.RequireText.{all_have, some_have, none_is}
use Rattle.tiql_tree.specs.Texts.DeclText.{table_decl, hypo_decl, view_decl, require_decl}
use Rattle.tiql_tree.specs.Texts.GoalText.{find_goal, sum_goal}
use Rattle.tiql_tree.specs.Grammar.{comma, in_parens, alias_words, expr_words, term_words, factor_words, cond_words, conj_words, unit_words, bound_words, bounds_words, filter_words, item_words, source_words, select_words, require_words, decl_words, goal_words, query_words}
use Rattle.tiql_tree.specs.Trees.{Places, laid, laid_if, expr_at, signed, ref_tree, expr_tree, sum_parts, term_tree, product_parts, factor_tree, cond_tree, or_parts, conj_tree, and_parts, unit_tree, filter_tree, bound_tree, hypo_tree, item_tree, select_tree, view_tree, require_tree, decl_tree, goal_tree, query_tree}
use Rattle.tiql_tree.specs.Spelled.{words_of, places_of, Spelled}
use Rattle.tiql_tree.specs.Unplaced.{no_place, expr_only, cond_only, bound_only, value_only, item_only, select_only, require_only, decl_only, goal_only, tree_only, HasText}
use Rattle.tiql_tree.proofs.GoodWords.{all_front, all_back}
use Rattle.tiql_tree.proofs.Neat.{signed_only, signed_only-is, only-Sum, only-Product, only-Neg, only-Abs, only-Number, only-Text, only-Ref, only-place}
use Rattle.tiql_tree.proofs.NeatCond.{only-Compare, only-Not, only-And, only-Or}
use Rattle.tiql_tree.proofs.NeatTrees.{AllGood, in_parens_back, hypo_good, select_good, union_words, arms_good}
use Rattle.tiql_tree.proofs.Parts.{parts_good}
use Rattle.tiql_check.specs.Small.{all_true, small_step, small_expr_step, small_signed_step, small_expr, small_signed, small_form, small_cond, small_filter, small_value, small_select, small_bound, small_require, small_decl, small_goal, HasSmallNumbers}
use Rattle.tiql_check.proofs.FitExprs.{small_expr-is, small_signed-is, small-Number, small-Sum, small-Product, small-Neg, small-Abs}
use Rattle.tiql_check.proofs.FitConds.{small-Compare, small-Not, small-And, small-Or}
use Rattle.std.proofs.lemmas.Bool.{and_from}

small-Text : (t : List ℕ) → small_form (Text t) ≡ true
unfolding small_form roll-TreeForm roll
small-Text t = fold-roll-TreeForm Bool Bool Bool small_step small_expr_step small_signed_step (TreeForm-F.Text t)

small-Ref : (r : TreeRef) → small_form (Ref r) ≡ true
unfolding small_form roll-TreeForm roll
small-Ref r = fold-roll-TreeForm Bool Bool Bool small_step small_expr_step small_signed_step (TreeForm-F.Ref r)

small_at : (p : Place) (f : TreeForm) → small_expr (expr_at p f) ≡ small_form f
small_at p f = small_expr-is (expr_at p f)

-- a sign before a part and the parts behind it
sign_before : (m : Bool) (e : TreeExpr) (more : List TreeSigned) → small_expr e ≡ true → all_true (map small_signed more) ≡ true → all_true (map small_signed (signed m e ∷ more)) ≡ true
sign_before m e more one others = and_from (small_signed (signed m e)) (all_true (map small_signed more)) (small_signed-is (signed m e) ∙ one) others

expr_before : (e : TreeExpr) (more : List TreeExpr) → small_expr e ≡ true → all_true (map small_expr more) ≡ true → all_true (map small_expr (e ∷ more)) ≡ true
expr_before e more one others = and_from (small_expr e) (all_true (map small_expr more)) one others

cond_before : (c : TreeCond) (more : List TreeCond) → small_cond c ≡ true → all_true (map small_cond more) ≡ true → all_true (map small_cond (c ∷ more)) ≡ true
cond_before c more one others = and_from (small_cond c) (all_true (map small_cond more)) one others

number_small : (text : List ℕ) → digits_value 10 text ≤ 10 ^ 15 → nat_le (unsigned_abs (pos (digits_value 10 text))) (10 ^ 15) ≡ true
number_small text le = grind (arith, nat_tests, le)

mutual
  unfolding expr_tree expr_words

  expr_small : (ps : Places) (e : ExprText) → AllGood (expr_words e) → small_expr (expr_tree ps e) ≡ true
  expr_small ps (last_term term) good = term_small ps term good
  expr_small ps (next_term term minus more) good =
      small_at _ _ ∙ small-Sum _ ∙ sign_before false _ _ (term_small ps term (all_front (term_words term) _ good)) (sum_small minus _ more (all_back (term_words term) _ good).1)

  sum_small : (minus : Bool) (ps : Places) (e : ExprText) → AllGood (expr_words e) → all_true (map small_signed (sum_parts minus ps e)) ≡ true
  sum_small minus ps (last_term term) good = sign_before minus _ [] (term_small ps term good) refl
  sum_small minus ps (next_term term next more) good = sign_before minus _ _ (term_small ps term (all_front (term_words term) _ good)) (sum_small next _ more (all_back (term_words term) _ good).1)

  term_small : (ps : Places) (t : TermText) → AllGood (term_words t) → small_expr (term_tree ps t) ≡ true
  term_small ps (last_factor factor) good = factor_small ps factor good
  term_small ps (next_factor factor more) good =
      small_at _ _ ∙ small-Product _ ∙ expr_before _ _ (factor_small ps factor (all_front (factor_words factor) _ good)) (product_small _ more (all_back (factor_words factor) _ good).1)

  product_small : (ps : Places) (t : TermText) → AllGood (term_words t) → all_true (map small_expr (product_parts ps t)) ≡ true
  product_small ps (last_factor factor) good = expr_before _ [] (factor_small ps factor good) refl
  product_small ps (next_factor factor more) good = expr_before _ _ (factor_small ps factor (all_front (factor_words factor) _ good)) (product_small _ more (all_back (factor_words factor) _ good).1)

  factor_small : (ps : Places) (f : FactorText) → AllGood (factor_words f) → small_expr (factor_tree ps f) ≡ true
  factor_small ps (negated factor) good = small_at _ _ ∙ small-Neg _ ∙ factor_small (drop 1 ps) factor good.1
  factor_small ps (numeral text) good = small_at _ _ ∙ small-Number _ ∙ number_small text (good.0).fits
  factor_small ps (value_text value) good = small_at _ _ ∙ small-Text value
  factor_small ps (reference ref) good = small_at _ _ ∙ small-Ref (ref_tree ps ref)
  factor_small ps (absolute expr) good = small_at _ _ ∙ small-Abs _ ∙ expr_small (drop 2 ps) expr (all_front (expr_words expr) _ good.1.1)
  factor_small ps (grouped expr) good = small_at _ _ ∙ sym (small_expr-is (expr_tree (drop 1 ps) expr)) ∙ expr_small (drop 1 ps) expr (all_front (expr_words expr) _ good.1)

mutual
  unfolding cond_tree cond_words

  cond_small : (ps : Places) (c : CondText) → AllGood (cond_words c) → small_cond (cond_tree ps c) ≡ true
  cond_small ps (last_conj conj) good = conj_small ps conj good
  cond_small ps (next_conj conj more) good = small-Or _ ∙ cond_before _ _ (conj_small ps conj (all_front (conj_words conj) _ good)) (ors_small _ more (all_back (conj_words conj) _ good).1)

  ors_small : (ps : Places) (c : CondText) → AllGood (cond_words c) → all_true (map small_cond (or_parts ps c)) ≡ true
  ors_small ps (last_conj conj) good = cond_before _ [] (conj_small ps conj good) refl
  ors_small ps (next_conj conj more) good = cond_before _ _ (conj_small ps conj (all_front (conj_words conj) _ good)) (ors_small _ more (all_back (conj_words conj) _ good).1)

  conj_small : (ps : Places) (c : ConjText) → AllGood (conj_words c) → small_cond (conj_tree ps c) ≡ true
  conj_small ps (last_unit unit) good = unit_small ps unit good
  conj_small ps (next_unit unit more) good = small-And _ ∙ cond_before _ _ (unit_small ps unit (all_front (unit_words unit) _ good)) (ands_small _ more (all_back (unit_words unit) _ good).1)

  ands_small : (ps : Places) (c : ConjText) → AllGood (conj_words c) → all_true (map small_cond (and_parts ps c)) ≡ true
  ands_small ps (last_unit unit) good = cond_before _ [] (unit_small ps unit good) refl
  ands_small ps (next_unit unit more) good = cond_before _ _ (unit_small ps unit (all_front (unit_words unit) _ good)) (ands_small _ more (all_back (unit_words unit) _ good).1)

  unit_small : (ps : Places) (u : UnitText) → AllGood (unit_words u) → small_cond (unit_tree ps u) ≡ true
  unit_small ps (denied unit) good = small-Not _ ∙ unit_small (drop 1 ps) unit good.1
  unit_small ps (bracketed cond) good = cond_small (drop 1 ps) cond (all_front (cond_words cond) _ good.1)
  unit_small ps (compared cmp one other) good =
      small-Compare cmp _ _ ∙ and_from _ _ (expr_small ps one (all_front (expr_words one) _ good)) (expr_small _ other (all_back (expr_words one) _ good).1)

-- parts that follow one another
laid_small : {A B : Type 0} (between : ℕ) (size : A → ℕ) (tree : Places → A → B) (q : B → Bool) (P : A → Type 0) → ((ps : Places) (x : A) → P x → q (tree ps x) ≡ true) → (ps : Places) (xs : List A) → AllByRecursion P xs → list_all q (laid between size tree ps xs) ≡ true
laid_small between size tree q P small ps [] all = refl
laid_small between size tree q P small ps (x ∷ xs) all = and_from (q (tree ps x)) (list_all q (laid between size tree (drop (size x + between) ps) xs)) (small ps x all.0) (laid_small between size tree q P small (drop (size x + between) ps) xs all.1)

filter_small : (ps : Places) (f : Option CondText) → AllGood (filter_words f) → small_filter (filter_tree ps f) ≡ true
filter_small ps None good = refl
filter_small ps (Some c) good = cond_small (drop 1 ps) c good.1

bound_small : (ps : Places) (b : BoundText) → AllGood (bound_words b) → small_bound (bound_tree ps b) ≡ true
unfolding bound_tree bound_words
bound_small ps b good =
    let head : List Word = named b.name ∷ key (codes "IN") ∷ expr_words b.lo in
    and_from _ _ (expr_small _ b.lo (all_front head _ good).1.1) (expr_small _ b.hi (all_back head _ good).1)

bounds_small : (ps : Places) (bounds : Option (Several BoundText)) → AllGood (bounds_words bounds) → list_all small_bound (laid_if (λ bound. length (bound_words bound)) bound_tree ps bounds) ≡ true
bounds_small ps None good = refl
bounds_small ps (Some parts) good = laid_small 1 _ bound_tree small_bound (λ b. AllGood (bound_words b)) bound_small ps (parts_of parts) (parts_good comma bound_words parts good.1)

item_small : (ps : Places) (i : ItemText) → AllGood (item_words i) → small_value (item_tree ps i).value ≡ true
unfolding item_tree item_words
item_small ps (lone_ref ref) good = small_at _ _ ∙ small-Ref (ref_tree ps ref)
item_small ps (plain_item expr name) good = expr_small ps expr (all_front (expr_words expr) _ good)
item_small ps (sum_item expr name) good = expr_small _ expr (in_parens_back expr (all_front (key (codes "SUM") ∷ in_parens (expr_words expr)) (alias_words name) good))
item_small ps (min_item expr name) good = expr_small _ expr (in_parens_back expr (all_front (key (codes "MIN") ∷ in_parens (expr_words expr)) (alias_words name) good))
item_small ps (max_item expr name) good = expr_small _ expr (in_parens_back expr (all_front (key (codes "MAX") ∷ in_parens (expr_words expr)) (alias_words name) good))
item_small ps (count_item name) good = refl

select_small : (ps : Places) (s : SelectText) → AllGood (select_words s) → small_select (select_tree ps s) ≡ true
unfolding select_tree
select_small ps s good =
    let parts = select_good s good in
    and_from _ _ (filter_small (drop ((if s.is_distinct then 2 else 1) + length (with_between comma item_words s.items) + 1 + length (with_between comma source_words s.sources)) ps) s.filter parts.filter)
    (laid_small 1 (λ item. length (item_words item)) item_tree (λ (item : TreeItem). small_value item.value) (λ i. AllGood (item_words i)) item_small (drop (if s.is_distinct then 2 else 1) ps) (parts_of s.items) (parts_good comma item_words s.items parts.items))

require_small : (ps : Places) (r : RequireText) → AllGood (decl_words (require_decl r)) → small_require (require_tree ps r) ≡ true
unfolding require_tree decl_words require_words
require_small ps (all_have name cond) good = cond_small _ cond (all_front (cond_words cond) _ good.1.1.1.1)
require_small ps (some_have name cond) good = cond_small _ cond (all_front (cond_words cond) _ good.1.1.1.1)
require_small ps (none_is name) good = refl

decl_small : (ps : Places) (d : DeclText) → AllGood (decl_words d) → small_decl (decl_tree ps d) ≡ true
unfolding decl_tree decl_words hypo_tree view_tree
decl_small ps (table_decl table) good = refl
decl_small ps (hypo_decl hypo) good =
    let parts = hypo_good hypo good in
    and_from _ _ (bounds_small (drop 5 ps) hypo.bounds parts.bounds) (filter_small (drop (4 + length (bounds_words hypo.bounds)) ps) hypo.filter parts.filter)
decl_small ps (view_decl view) good = laid_small 2 _ select_tree small_select (λ s. AllGood (select_words s)) select_small _ (parts_of view.arms) (parts_good union_words select_words view.arms (arms_good view good))
decl_small ps (require_decl require) good = require_small ps require good

goal_small : (ps : Places) (g : GoalText) → AllGood (goal_words g) → small_goal (goal_tree ps g) ≡ true
unfolding goal_tree goal_words
goal_small ps find_goal good = refl
goal_small ps (sum_goal maximize expr relation) good = expr_small _ expr (all_front (expr_words expr) _ (all_front (in_parens (expr_words expr)) _ good.1.1).1)

decls_good : (ds : List DeclText) → AllGood (flat_map decl_words ds) → AllByRecursion (λ d. AllGood (decl_words d)) ds
decls_good [] good = tt
decls_good (d ∷ ds) good = (all_front (decl_words d) _ good, decls_good ds (all_back (decl_words d) _ good))

query_small : (ps : Places) (q : QueryText) → AllGood (query_words q) → HasSmallNumbers (query_tree ps q)
unfolding query_tree query_words HasSmallNumbers
query_small ps q good =
    and_from _ _ (laid_small 0 _ decl_tree small_decl (λ d. AllGood (decl_words d)) decl_small ps q.decls (decls_good q.decls (all_front (flat_map decl_words q.decls) _ good)))
    (goal_small _ q.goal (all_back (flat_map decl_words q.decls) _ good))

-- the tokens of a text are words
tokens_good : (bytes : List ℕ) (last : ℕ) (tokens : List Token) → AreTokens bytes last tokens → AllGood (words_of bytes tokens)
unfolding AreTokens
tokens_good bytes last [] are = tt
tokens_good bytes last (t ∷ ts) are = (record { shape = ((are.1).lexeme).shape; kind = (are.1).kind; fits = (are.1).fits }, tokens_good bytes t.to ts are.2)

spelled_small : (bytes : List ℕ) (tree : Tree) → Spelled bytes tree → HasSmallNumbers tree
spelled_small bytes tree s =
    subst HasSmallNumbers (sym s.gives)
    (query_small (places_of (s.lexed).tokens) s.query (subst AllGood (sym (s.grammar).spelling) (tokens_good bytes _ (s.lexed).tokens (s.tokens).tokens)))

-- places count for nothing
abbrev IsSame : TreeExpr → Type 0
IsSame e = small_expr e ≡ small_expr (expr_only e)

abbrev IsSameForm : TreeForm → Type 0
IsSameForm f = IsSame (expr_at no_place f)

abbrev IsSameSigned : TreeSigned → Type 0
IsSameSigned s = small_signed s ≡ small_signed (signed_only s)

abbrev WithForm : Type 0
WithForm = (f : TreeForm) × IsSameForm f

abbrev WithExpr : Type 0
WithExpr = (e : TreeExpr) × IsSame e

abbrev WithSigned : Type 0
WithSigned = (s : TreeSigned) × IsSameSigned s

same_signs : (ys : List WithSigned) → map small_signed (map (λ s. s.0) ys) ≡ map small_signed (map signed_only (map (λ s. s.0) ys))
same_signs [] = refl
same_signs (y ∷ ys) = ap (λ (b : Bool). b ∷ map small_signed (map (λ s. s.0) ys)) y.1 ∙ ap (λ (l : List Bool). small_signed (signed_only y.0) ∷ l) (same_signs ys)

same_exprs : (ys : List WithExpr) → map small_expr (map (λ e. e.0) ys) ≡ map small_expr (map expr_only (map (λ e. e.0) ys))
same_exprs [] = refl
same_exprs (y ∷ ys) = ap (λ (b : Bool). b ∷ map small_expr (map (λ e. e.0) ys)) y.1 ∙ ap (λ (l : List Bool). small_expr (expr_only y.0) ∷ l) (same_exprs ys)

form_layer : (y : TreeForm-F WithForm WithExpr WithSigned) → IsSameForm (roll-TreeForm (map-TreeForm WithForm WithExpr WithSigned TreeForm TreeExpr TreeSigned (λ f. f.0) (λ e. e.0) (λ s. s.0) y))
unfolding roll-TreeForm roll
form_layer (TreeForm-F.Number n) = ap small_expr (sym (only-Number no_place n))
form_layer (TreeForm-F.Text t) = ap small_expr (sym (only-Text no_place t))
form_layer (TreeForm-F.Ref r) = small_at _ _ ∙ small-Ref r ∙ sym (ap small_expr (only-Ref no_place r) ∙ small_at _ _ ∙ small-Ref _)
form_layer (TreeForm-F.Sum ys) = small_at _ _ ∙ small-Sum _ ∙ ap all_true (same_signs ys) ∙ sym (ap small_expr (only-Sum no_place _) ∙ small_at _ _ ∙ small-Sum _)
form_layer (TreeForm-F.Product ys) = small_at _ _ ∙ small-Product _ ∙ ap all_true (same_exprs ys) ∙ sym (ap small_expr (only-Product no_place _) ∙ small_at _ _ ∙ small-Product _)
form_layer (TreeForm-F.Neg y) = small_at _ _ ∙ small-Neg _ ∙ y.1 ∙ sym (ap small_expr (only-Neg no_place _) ∙ small_at _ _ ∙ small-Neg _)
form_layer (TreeForm-F.Abs y) = small_at _ _ ∙ small-Abs _ ∙ y.1 ∙ sym (ap small_expr (only-Abs no_place _) ∙ small_at _ _ ∙ small-Abs _)

at_place : (p : Place) (f : TreeForm) → IsSameForm f → IsSame (expr_at p f)
at_place p f same = small_at p f ∙ sym (small_at no_place f) ∙ same ∙ ap small_expr (only-place no_place p f)

signed_layer : (m : Bool) (e : TreeExpr) → IsSame e → IsSameSigned (signed m e)
signed_layer m e same = small_signed-is (signed m e) ∙ same ∙ sym (ap small_signed (signed_only-is m e) ∙ small_signed-is (signed m (expr_only e)))

expr_same : (e : TreeExpr) → small_expr e ≡ small_expr (expr_only e)
expr_same = ind-TreeExpr IsSameForm IsSame IsSameSigned
    (λ x y is. subst (λ z. IsSameForm (roll-TreeForm z)) is (form_layer y))
    (λ x y is. subst (λ z. IsSame (roll-TreeExpr z)) is (at_place y.place y.form.0 y.form.1))
    (λ x y is. subst (λ z. IsSameSigned (roll-TreeSigned z)) is (signed_layer y.minus y.part.0 y.part.1))

abbrev IsSameCond : TreeCond → Type 0
IsSameCond c = small_cond c ≡ small_cond (cond_only c)

abbrev WithCond : Type 0
WithCond = (c : TreeCond) × IsSameCond c

same_conds : (ys : List WithCond) → map small_cond (map (λ c. c.0) ys) ≡ map small_cond (map cond_only (map (λ c. c.0) ys))
same_conds [] = refl
same_conds (y ∷ ys) = ap (λ (b : Bool). b ∷ map small_cond (map (λ c. c.0) ys)) y.1 ∙ ap (λ (l : List Bool). small_cond (cond_only y.0) ∷ l) (same_conds ys)

cond_layer : (y : TreeCond-F WithCond) → IsSameCond (roll-TreeCond (map-TreeCond WithCond TreeCond (λ c. c.0) y))
unfolding roll-TreeCond roll
cond_layer (TreeCond-F.Compare cmp one other) =
    small-Compare cmp one other ∙ ap (λ b. b && small_expr other) (expr_same one) ∙ ap (λ b. small_expr (expr_only one) && b) (expr_same other)
    ∙ sym (ap small_cond (only-Compare cmp one other) ∙ small-Compare cmp (expr_only one) (expr_only other))
cond_layer (TreeCond-F.Not y) = small-Not _ ∙ y.1 ∙ sym (ap small_cond (only-Not y.0) ∙ small-Not _)
cond_layer (TreeCond-F.And ys) = small-And _ ∙ ap all_true (same_conds ys) ∙ sym (ap small_cond (only-And (map (λ c. c.0) ys)) ∙ small-And _)
cond_layer (TreeCond-F.Or ys) = small-Or _ ∙ ap all_true (same_conds ys) ∙ sym (ap small_cond (only-Or (map (λ c. c.0) ys)) ∙ small-Or _)

cond_same : (c : TreeCond) → small_cond c ≡ small_cond (cond_only c)
cond_same = ind-TreeCond IsSameCond (λ x y is. subst (λ z. IsSameCond (roll-TreeCond z)) is (cond_layer y))

-- a test of parts of which it takes no notice of what is left out
all_same : {A : Type 0} (q : A → Bool) (only : A → A) → ((x : A) → q x ≡ q (only x)) → (xs : List A) → list_all q xs ≡ list_all q (map only xs)
all_same q only same [] = refl
all_same q only same (x ∷ xs) = ap (λ b. b && list_all q xs) (same x) ∙ ap (λ b. q (only x) && b) (all_same q only same xs)

both_same : (a b c d : Bool) → a ≡ c → b ≡ d → (a && b) ≡ (c && d)
both_same a b c d one other = ap (λ x. x && b) one ∙ ap (λ x. c && x) other

filter_same : (f : Option TreeCond) → small_filter f ≡ small_filter (option_map cond_only f)
filter_same None = refl
filter_same (Some c) = cond_same c

value_same : (v : TreeValue) → small_value v ≡ small_value (value_only v)
value_same (values.Plain expr) = expr_same expr
value_same (values.Sum expr) = expr_same expr
value_same values.Count = refl
value_same (values.Min expr) = expr_same expr
value_same (values.Max expr) = expr_same expr

select_same : (s : TreeSelect) → small_select s ≡ small_select (select_only s)
select_same s = both_same _ _ _ _ (filter_same s.filter) (all_same (λ (item : TreeItem). small_value item.value) item_only (λ item. value_same item.value) s.items)

bound_same : (b : TreeBound) → small_bound b ≡ small_bound (bound_only b)
bound_same b = both_same _ _ _ _ (expr_same b.lo) (expr_same b.hi)

require_same : (r : TreeRequire) → small_require r ≡ small_require (require_only r)
require_same (needs.All spot test) = cond_same test
require_same (needs.Some spot test) = cond_same test
require_same (needs.None spot) = refl

decl_same : (d : Decl) → small_decl d ≡ small_decl (decl_only d)
decl_same (decls.Table table) = refl
decl_same (decls.Hypo hypo) = both_same _ _ _ _ (all_same small_bound bound_only bound_same hypo.set) (filter_same hypo.filter)
decl_same (decls.View view) = all_same small_select select_only select_same view.arms
decl_same (decls.Require require) = require_same require

goal_same : (g : TreeGoal) → small_goal g ≡ small_goal (goal_only g)
goal_same goals.Find = refl
goal_same (goals.Sum maximize part relation) = expr_same part

tree_same : (t : Tree) → (list_all small_decl t.decls && small_goal t.goal) ≡ (list_all small_decl (tree_only t).decls && small_goal (tree_only t).goal)
unfolding tree_only
tree_same t = both_same _ _ _ _ (all_same small_decl decl_only decl_same t.decls) (goal_same t.goal)

pub text_small : (tree : Tree) → HasText tree → HasSmallNumbers tree
unfolding HasSmallNumbers
text_small tree has =
    let spells = has.1 in
    tree_same tree ∙ ap (λ (t : Tree). list_all small_decl t.decls && small_goal t.goal) (sym spells.same) ∙ sym (tree_same spells.other) ∙ spelled_small has.0 spells.other spells.spelled
