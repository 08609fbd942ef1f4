-- tables and hypothetical tables are read exactly
use Rattle.std.proofs.Common.{◌≡◌, ℕ, ◌+◌, ◌≤◌, Bool, true, false, cond, List, [], ◌∷◌, ◌++◌, length, drop, codes, refl, sym, ◌∙◌, ap, append_assoc, arith}
use Rattle.std.specs.declared.option.Option.{Option}
use Rattle.std.specs.declared.option.Option.TheVariants.{None, Some}
use Rattle.base_kit.specs.declared.place.Place.{Place}
use Rattle.tiql_tree.specs.Words.{Word}
use Rattle.tiql_tree.specs.Trees.{Places, place}
use Rattle.tiql_read.proofs.Exact.{starts, none, Exact}
use Rattle.std.proofs.Common.{max}
use Rattle.std.proofs.Math.Nat.{max-le}
use Rattle.std.proofs.lemmas.List.{drop-drop}
use Rattle.tiql_tree.specs.declared.tree.Spot.{Spot}
use Rattle.tiql_tree.specs.declared.tree.TreeColumn.{TreeColumn}
use Rattle.tiql_tree.specs.declared.tree.TreeTable.{TreeTable}
use Rattle.tiql_tree.specs.declared.tree.TreeBound.{TreeBound}
use Rattle.tiql_tree.specs.declared.tree.TreeHypo.{TreeHypo}
use Rattle.tiql_tree.specs.declared.expression.TreeExpr.{TreeExpr}
use Rattle.tiql_tree.specs.declared.condition.TreeCond.{TreeCond}
use Rattle.tiql_tree.specs.Words.{key, sign, named, Several, parts_of, with_between}
use Rattle.tiql_tree.specs.Texts.{ExprText, CondText, ColumnText, TableText, BoundText, HypoText}
use Rattle.tiql_tree.specs.Grammar.{comma, optional, in_parens, name_words, expr_words, column_words, table_words, bound_words, bounds_words, filter_words, hypo_words}
use Rattle.tiql_tree.specs.Nesting.{expr_depth, bound_depth, bounds_depth, filter_depth}
use Rattle.tiql_tree.specs.Trees.{spot, laid, laid_if, expr_tree, column_tree, table_tree, bound_tree, filter_tree, hypo_tree}
use Rattle.tiql_read.specs.Steps.{is_key, is_sign, mark_at}
use Rattle.tiql_read.specs.Expressions.{adds}
use Rattle.tiql_read.specs.Queries.{type_of, column_at, key_at, table_at, bound_at, bounds_at, drop_at, hypo_at}
use Rattle.tiql_read.proofs.Rules.{Takes, one, word}
use Rattle.tiql_read.proofs.Chains.{bind}
use Rattle.tiql_read.proofs.Branches.{recast}
use Rattle.tiql_read.proofs.Lists.{or_else, or_first, or_second, maybe, maybe_ok, maybe_tree, mapped, retold, several_ok, several_tree, listed, followed, all_units, no_end}
use Rattle.tiql_read.proofs.Depths.{deepest_all, deepest_le}
use Rattle.tiql_read.proofs.WordTests.{sign_needs, key_needs, mark_takes, two_takes, retake}
use Rattle.tiql_read.proofs.Leaves.{name_exact, place_drop}
use Rattle.tiql_read.proofs.Sums.{max_front, max_back, expr_ext}
use Rattle.tiql_read.proofs.Factors.{expression_exact}
use Rattle.tiql_read.proofs.Items.{spot_drop}
use Rattle.tiql_read.proofs.Selecting.{filter_ext, filter_exact}

abbrev type_key : Bool → Word
type_key text = key (cond text (codes "TEXT") (codes "INT"))

type_takes : Takes {A = Bool} {D = Bool} type_of type_key (λ p text. text)
unfolding type_of is_key
type_takes = retake (two_takes (is_key (codes "TEXT")) (is_key (codes "INT")) (key (codes "TEXT")) (key (codes "INT")) (key_needs (codes "TEXT")) (key_needs (codes "INT")) refl) type_key (λ p text. text) (λ b. b) (λ b. b) keys (λ p b. refl) (λ b. refl)
  where
    keys : (b : Bool) → type_key b ≡ cond b (key (codes "TEXT")) (key (codes "INT"))
    keys true = refl
    keys false = refl

column_exact : {X : Type 0} → Exact {X = X} {A = TreeColumn} {D = ColumnText} (λ e v. column_at v) column_words (λ d. Unit {0}) (λ e p d. column_tree p d) none
unfolding column_at column_words column_tree
column_exact {X} =
    recast (bind (name_exact {X = X}) (mapped (one {X = X × Spot} type_takes) (λ e. record { name = e.0.1; text = e.1 })) (λ d us good end. no_end (type_key d ∷ us)))
    column_words (λ d. Unit {0}) (λ e p d. column_tree p d) none (λ d. record { name = d.0; is_text = d.1 }) (λ d. (d.name, d.is_text)) (λ d. refl) (λ d good. tt) (λ d good. (tt, tt)) (λ e p d. refl) (λ d good. refl) (λ us end. end)

abbrev key_words : Option (Several (List ℕ)) → List Word
key_words d = optional (λ names. key (codes "KEY") ∷ in_parens (with_between comma name_words names)) d

no_name : (us : List Word) → starts none (sign (codes ",") ∷ us) ≡ false
no_name us = refl

names_close : or_else (is_sign (codes ",")) none (sign (codes ")")) ≡ false
unfolding is_sign
names_close = refl

-- the names of a KEY
key_exact : {X : Type 0} → Exact {X = X} {A = List Spot} {D = Option (Several (List ℕ))} (λ e v. key_at v) key_words (λ d. Unit {0}) (λ e p d. laid_if (λ name. 1) (spot 0) (drop 2 p) d) (is_key (codes "KEY"))
unfolding key_at
key_exact {X} =
    retold (maybe (word (key_needs (codes "KEY")) (word (sign_needs (codes "(")) (followed (listed (name_exact {X = X}) no_name) (sign_needs (codes ")")) names_close (λ e. e.1)))) (is_key (codes "KEY")) (is_key (codes "KEY")) (λ e. []) (λ d us good. (key_needs (codes "KEY")).hit) (λ us end. end) (λ us end. no_end us))
    key_words (λ d. Unit {0}) (λ e p d. laid_if (λ name. 1) (spot 0) (drop 2 p) d) (is_key (codes "KEY")) (λ d. refl) (λ d good. tt) oks trees (λ us end. end)
  where
    oks : (d : Option (Several (List ℕ))) → Unit {0} → maybe_ok (several_ok (λ (d : List ℕ). Unit {0})) d
    oks None good = tt
    oks (Some d) good = (tt, all_units d.more)

    trees : (e : X) (p : Places) (d : Option (Several (List ℕ))) → laid_if (λ name. 1) (spot 0) (drop 2 p) d ≡ maybe_tree {X = X} (λ e. []) (λ e p d. several_tree {X = X} 1 name_words (λ e p d. spot 0 p d) e (drop 1 (drop 1 p)) d) e p d
    trees e p None = refl
    trees e p (Some d) = ap (λ (q : Places). laid 1 (λ name. 1) (spot 0) q (parts_of d)) (sym (drop-drop 1 1 p))

abbrev TableParts : Type 0
TableParts = List ℕ × (Several ColumnText × Option (Several (List ℕ)))

to_table : TableParts → TableText
to_table d = record { name = d.0; columns = d.1.0; key_names = d.1.1 }

of_table : TableText → TableParts
of_table t = (t.name, (t.columns, t.key_names))

abbrev table_parts_words : TableParts → List Word
table_parts_words d = key (codes "TABLE") ∷ named d.0 ∷ sign (codes "(") ∷ (with_between comma column_words d.1.0 ++ sign (codes ")") ∷ (key_words d.1.1 ++ sign (codes ";") ∷ []))

abbrev table_parts_ok : TableParts → Type 0
table_parts_ok d = Unit {0} × (several_ok (λ (d : ColumnText). Unit {0}) d.1.0 × Unit {0})

abbrev table_at_places : TableParts → Places → Places → Places → TreeTable
table_at_places d name columns names = record { name = spot 0 name d.0; columns = laid 1 (λ column. length (column_words column)) column_tree columns (parts_of d.1.0); key = laid_if (λ name. 1) (spot 0) names d.1.1 }

abbrev table_parts_tree : Places → TableParts → TreeTable
table_parts_tree p d = table_at_places d (drop 1 p) (drop 1 (drop 1 (drop 1 p))) (drop 2 (drop 1 (drop (length (with_between comma column_words d.1.0)) (drop 1 (drop 1 (drop 1 p))))))

columns_close : (us : List Word) → starts (or_else (is_sign (codes ",")) none) (sign (codes ")") ∷ us) ≡ false
unfolding is_sign
columns_close us = refl

no_key : is_key (codes "KEY") (sign (codes ";")) ≡ false
unfolding is_key
no_key = refl

table_chain : {X : Type 0} → Exact {X = X} {A = TreeTable} {D = TableParts} (λ e v. table_at v) table_parts_words table_parts_ok (λ e p d. table_parts_tree p d) none
unfolding table_at
table_chain {X} =
    word (key_needs (codes "TABLE")) (bind (name_exact {X = X}) (word (sign_needs (codes "(")) (bind (listed (column_exact {X = X × Spot}) no_name) (word (sign_needs (codes ")"))
    (followed (key_exact {X = (X × Spot) × List TreeColumn}) (sign_needs (codes ";")) no_key (λ e. record { name = e.0.0.1; columns = e.0.1; key = e.1 }))) (λ d us good end. columns_close us))) (λ d us good end. refl))

table_in_turn : (t n o : Word) (cols : List Word) (c : Word) (keys : List Word) (e : Word) → t ∷ n ∷ (o ∷ cols ++ c ∷ []) ++ keys ++ e ∷ [] ≡ t ∷ n ∷ o ∷ (cols ++ c ∷ (keys ++ e ∷ []))
table_in_turn t n o cols c keys e = simp (append_assoc) refl

table_made : (d : TableParts) → table_words (to_table d) ≡ table_parts_words d
unfolding to_table table_words
table_made d = table_in_turn (key (codes "TABLE")) (named d.0) (sign (codes "(")) (with_between comma column_words d.1.0) (sign (codes ")")) (key_words d.1.1) (sign (codes ";"))

table_okay : (t : TableText) → Unit {0} → table_parts_ok (of_table t)
unfolding of_table
table_okay t good = (tt, ((tt, all_units t.columns.more), tt))

table_trees : (p : Places) (d : TableParts) → table_tree p (to_table d) ≡ table_parts_tree p d
unfolding to_table table_tree column_words
table_trees p d =
    ap (λ (s : Spot). record { name = s; columns = laid 1 (λ column. 2) column_tree (drop 3 p) (parts_of d.1.0); key = laid_if (λ name. 1) (spot 0) (drop (3 + length (with_between comma column_words d.1.0) + 3) p) d.1.1 }) (sym (spot_drop 1 p d.0))
    ∙ ap (λ (q : Places). table_at_places d (drop 1 p) q (drop (3 + length (with_between comma column_words d.1.0) + 3) p)) (sym columns_is)
    ∙ ap (λ (q : Places). table_at_places d (drop 1 p) (drop 1 (drop 1 (drop 1 p))) q) (sym names_is)
  where
    size : ℕ
    size = length (with_between comma column_words d.1.0)

    columns_is : drop 1 (drop 1 (drop 1 p)) ≡ drop 3 p
    columns_is = ap (drop 1) (drop-drop 1 1 p) ∙ drop-drop 1 2 p

    names_is : drop 2 (drop 1 (drop (length (with_between comma column_words d.1.0)) (drop 1 (drop 1 (drop 1 p))))) ≡ drop (3 + length (with_between comma column_words d.1.0) + 3) p
    names_is =
        ap (λ (q : Places). drop 2 (drop 1 (drop (length (with_between comma column_words d.1.0)) q))) columns_is
        ∙ ap (λ (q : Places). drop 2 (drop 1 q)) (drop-drop (length (with_between comma column_words d.1.0)) 3 p)
        ∙ ap (drop 2) (drop-drop 1 (3 + length (with_between comma column_words d.1.0)) p)
        ∙ drop-drop 2 (3 + length (with_between comma column_words d.1.0) + 1) p
        ∙ ap (λ n. drop n p) (omega arith)

table_onto : (t : TableText) → to_table (of_table t) ≡ t
unfolding to_table of_table
table_onto t = refl

-- a table
pub table_exact : {X : Type 0} → Exact {X = X} {A = TreeTable} {D = TableText} (λ e v. table_at v) table_words (λ d. Unit {0}) (λ e p d. table_tree p d) none
table_exact {X} = recast (table_chain {X = X}) table_words (λ d. Unit {0}) (λ e p d. table_tree p d) none to_table of_table table_made (λ d good. tt) table_okay (λ e p d. table_trees p d) (λ d good. table_onto d) (λ us end. end)

abbrev BoundParts : Type 0
BoundParts = List ℕ × (ExprText × ExprText)

to_bound : BoundParts → BoundText
to_bound d = record { name = d.0; lo = d.1.0; hi = d.1.1 }

of_bound : BoundText → BoundParts
of_bound b = (b.name, (b.lo, b.hi))

abbrev bound_parts_words : BoundParts → List Word
bound_parts_words d = named d.0 ∷ key (codes "IN") ∷ (expr_words d.1.0 ++ sign (codes "..") ∷ expr_words d.1.1)

abbrev bound_parts_ok : BoundParts → Type 0
bound_parts_ok d = Unit {0} × ((expr_depth d.1.0 ≤ 64) × (expr_depth d.1.1 ≤ 64))

abbrev bound_parts_tree : Places → BoundParts → TreeBound
bound_parts_tree p d = record { name = spot 0 p d.0; lo = expr_tree (drop 1 (drop 1 p)) d.1.0; hi = expr_tree (drop 1 (drop (length (expr_words d.1.0)) (drop 1 (drop 1 p)))) d.1.1 }

points_apart : (us : List Word) → starts expr_ext (sign (codes "..") ∷ us) ≡ false
unfolding is_sign adds
points_apart us = refl

bound_chain : {X : Type 0} → Exact {X = X} {A = TreeBound} {D = BoundParts} (λ e v. bound_at v) bound_parts_words bound_parts_ok (λ e p d. bound_parts_tree p d) expr_ext
unfolding bound_at
bound_chain {X} =
    bind (name_exact {X = X}) (word (key_needs (codes "IN")) (bind (expression_exact {X = X × Spot} 64) (word (sign_needs (codes "..")) (mapped (expression_exact {X = (X × Spot) × TreeExpr} 64) (λ e. record { name = e.0.0.1; lo = e.0.1; hi = e.1 })))
    (λ d us good end. points_apart us))) (λ d us good end. refl)

bound_made : (d : BoundParts) → bound_words (to_bound d) ≡ bound_parts_words d
unfolding to_bound bound_words
bound_made d = refl

bound_good : (d : BoundParts) → bound_parts_ok d → bound_depth (to_bound d) ≤ 64
unfolding to_bound bound_depth
bound_good d good = max-le good.1.0 good.1.1

bound_okay : (b : BoundText) → bound_depth b ≤ 64 → bound_parts_ok (of_bound b)
unfolding of_bound bound_depth
bound_okay b le = (tt, (max_front (expr_depth b.lo) (expr_depth b.hi) 64 le, max_back (expr_depth b.lo) (expr_depth b.hi) 64 le))

bound_trees : (p : Places) (d : BoundParts) → bound_tree p (to_bound d) ≡ bound_parts_tree p d
unfolding to_bound bound_tree
bound_trees p d =
    let lo_is : drop 1 (drop 1 p) ≡ drop 2 p = drop-drop 1 1 p in
    let hi_is : drop 1 (drop (length (expr_words d.1.0)) (drop 1 (drop 1 p))) ≡ drop (2 + length (expr_words d.1.0) + 1) p =
    ap (λ (q : Places). drop 1 (drop (length (expr_words d.1.0)) q)) lo_is ∙ ap (drop 1) (drop-drop (length (expr_words d.1.0)) 2 p) ∙ drop-drop 1 (2 + length (expr_words d.1.0)) p in
    ap (λ (q : Places). bound_of q (drop (2 + length (expr_words d.1.0) + 1) p)) (sym lo_is) ∙ ap (λ (q : Places). bound_of (drop 1 (drop 1 p)) q) (sym hi_is)
  where
    bound_of : Places → Places → TreeBound
    bound_of lo hi = record { name = spot 0 p d.0; lo = expr_tree lo d.1.0; hi = expr_tree hi d.1.1 }

bound_onto : (b : BoundText) → to_bound (of_bound b) ≡ b
unfolding to_bound of_bound
bound_onto b = refl

bound_exact : {X : Type 0} → Exact {X = X} {A = TreeBound} {D = BoundText} (λ e v. bound_at v) bound_words (λ d. bound_depth d ≤ 64) (λ e p d. bound_tree p d) expr_ext
bound_exact {X} = recast (bound_chain {X = X}) bound_words (λ d. bound_depth d ≤ 64) (λ e p d. bound_tree p d) expr_ext to_bound of_bound bound_made bound_good bound_okay (λ e p d. bound_trees p d) (λ d good. bound_onto d) (λ us end. end)

expr_comma : (us : List Word) → starts expr_ext (sign (codes ",") ∷ us) ≡ false
unfolding is_sign adds
expr_comma us = refl

abbrev list_ext : Word → Bool
list_ext = or_else (is_sign (codes ",")) expr_ext

abbrev bounds_ext : Word → Bool
bounds_ext = or_else (is_key (codes "SET")) list_ext

-- the bounds behind SET
bounds_exact : {X : Type 0} → Exact {X = X} {A = List TreeBound} {D = Option (Several BoundText)} (λ e v. bounds_at v) bounds_words (λ d. bounds_depth d ≤ 64) (λ e p d. laid_if (λ bound. length (bound_words bound)) bound_tree (drop 1 p) d) bounds_ext
unfolding bounds_at
bounds_exact {X} =
    retold (maybe (word (key_needs (codes "SET")) (listed (bound_exact {X = X}) expr_comma)) (is_key (codes "SET")) bounds_ext (λ e. []) (λ d us good. (key_needs (codes "SET")).hit) (or_first (is_key (codes "SET")) list_ext) (or_second (is_key (codes "SET")) list_ext))
    bounds_words (λ d. bounds_depth d ≤ 64) (λ e p d. laid_if (λ bound. length (bound_words bound)) bound_tree (drop 1 p) d) bounds_ext (λ d. refl) goods oks trees (λ us end. end)
  where
    goods : (d : Option (Several BoundText)) → maybe_ok (several_ok (λ (d : BoundText). bound_depth d ≤ 64)) d → bounds_depth d ≤ 64
    goods None good = omega arith
    goods (Some d) good = deepest_le bound_depth (parts_of d) 64 good

    oks : (d : Option (Several BoundText)) → bounds_depth d ≤ 64 → maybe_ok (several_ok (λ (d : BoundText). bound_depth d ≤ 64)) d
    oks None le = tt
    oks (Some d) le = deepest_all bound_depth (parts_of d) 64 le

    trees : (e : X) (p : Places) (d : Option (Several BoundText)) → laid_if (λ bound. length (bound_words bound)) bound_tree (drop 1 p) d ≡ maybe_tree {X = X} (λ e. []) (λ e p d. several_tree {X = X} 1 bound_words (λ e p d. bound_tree p d) e (drop 1 p) d) e p d
    trees e p None = refl
    trees e p (Some d) = refl

abbrev drop_words : Bool → List Word
drop_words d = cond d (key (codes "DROP") ∷ []) []

abbrev drop_tree : Places → Bool → Option Place
drop_tree p d = cond d (Some (place 0 p)) None

drop_exact : {X : Type 0} → Exact {X = X} {A = Option Place} {D = Bool} (λ e v. drop_at v) drop_words (λ d. Unit {0}) (λ e p d. drop_tree p d) (is_key (codes "DROP"))
unfolding drop_at mark_at
drop_exact {X} =
    recast (maybe (mapped (one {X = X} (mark_takes (is_key (codes "DROP")) (key (codes "DROP")) (key_needs (codes "DROP")))) (λ e. Some e.1)) (is_key (codes "DROP")) (is_key (codes "DROP")) (λ e. None) (λ d us good. (key_needs (codes "DROP")).hit) (λ us end. end) (λ us end. no_end us))
    drop_words (λ d. Unit {0}) (λ e p d. drop_tree p d) (is_key (codes "DROP")) to back words (λ d good. tt) oks values onto (λ us end. end)
  where
    to : Option (Unit {0}) → Bool
    to None = false
    to (Some d) = true

    back : Bool → Option (Unit {0})
    back true = Some tt
    back false = None

    words : (d : Option (Unit {0})) → drop_words (to d) ≡ optional (λ (d : Unit {0}). key (codes "DROP") ∷ []) d
    words None = refl
    words (Some d) = refl

    oks : (d : Bool) → Unit {0} → maybe_ok (λ (d : Unit {0}). Unit {0}) (back d)
    oks true good = tt
    oks false good = tt

    values : (e : X) (p : Places) (d : Option (Unit {0})) → drop_tree p (to d) ≡ maybe_tree {X = X} (λ e. None) (λ e p (d : Unit {0}). Some (place 0 p)) e p d
    values e p None = refl
    values e p (Some d) = refl

    onto : (d : Bool) → Unit {0} → to (back d) ≡ d
    onto true good = refl
    onto false good = refl

abbrev HypoParts : Type 0
HypoParts = List ℕ × (List ℕ × (Option (Several BoundText) × (Option CondText × Bool)))

to_hypo : HypoParts → HypoText
to_hypo d = record { name = d.0; table = d.1.0; bounds = d.1.1.0; filter = d.1.1.1.0; is_dropped = d.1.1.1.1 }

of_hypo : HypoText → HypoParts
of_hypo h = (h.name, (h.table, (h.bounds, (h.filter, h.is_dropped))))

abbrev hypo_parts_words : HypoParts → List Word
hypo_parts_words d = key (codes "HYPO") ∷ named d.0 ∷ key (codes "FROM") ∷ named d.1.0 ∷ (bounds_words d.1.1.0 ++ (filter_words d.1.1.1.0 ++ (drop_words d.1.1.1.1 ++ sign (codes ";") ∷ [])))

abbrev hypo_parts_ok : HypoParts → Type 0
hypo_parts_ok d = Unit {0} × (Unit {0} × ((bounds_depth d.1.1.0 ≤ 64) × ((filter_depth d.1.1.1.0 ≤ 64) × Unit {0})))

abbrev bounds_from : Places → Places
bounds_from p = drop 1 (drop 1 (drop 1 (drop 1 p)))

abbrev filter_from : HypoParts → Places → Places
filter_from d p = drop (length (bounds_words d.1.1.0)) (bounds_from p)

abbrev drop_from : HypoParts → Places → Places
drop_from d p = drop (length (filter_words d.1.1.1.0)) (filter_from d p)

abbrev hypo_at_places : HypoParts → Spot → Spot → Places → Places → Place → TreeHypo
hypo_at_places d name table bounds filter dropped = record {
  name = name;
  table = table;
  set = laid_if (λ bound. length (bound_words bound)) bound_tree bounds d.1.1.0;
  filter = filter_tree filter d.1.1.1.0;
  dropped = cond d.1.1.1.1 (Some dropped) None;
}

abbrev hypo_parts_tree : Places → HypoParts → TreeHypo
hypo_parts_tree p d = hypo_at_places d (spot 0 (drop 1 p) d.0) (spot 0 (drop 1 (drop 1 (drop 1 p))) d.1.0) (drop 1 (bounds_from p)) (filter_from d p) (place 0 (drop_from d p))

no_drop : is_key (codes "DROP") (sign (codes ";")) ≡ false
unfolding is_key
no_drop = refl

filter_then : (d : Bool) (us : List Word) → starts filter_ext ((drop_words d ++ sign (codes ";") ∷ []) ++ us) ≡ false
unfolding is_key is_sign adds
filter_then true us = refl
filter_then false us = refl

bounds_then : (f : Option CondText) (d : Bool) (us : List Word) → starts bounds_ext ((filter_words f ++ (drop_words d ++ sign (codes ";") ∷ [])) ++ us) ≡ false
unfolding is_key is_sign adds
bounds_then None true us = refl
bounds_then None false us = refl
bounds_then (Some f) d us = refl

hypo_chain : {X : Type 0} → Exact {X = X} {A = TreeHypo} {D = HypoParts} (λ e v. hypo_at v) hypo_parts_words hypo_parts_ok (λ e p d. hypo_parts_tree p d) none
unfolding hypo_at
hypo_chain {X} =
    retold
    (word (key_needs (codes "HYPO")) (bind (name_exact {X = X}) (word (key_needs (codes "FROM")) (bind (name_exact {X = X × Spot}) (bind (bounds_exact {X = (X × Spot) × Spot}) (bind (filter_exact {X = ((X × Spot) × Spot) × List TreeBound})
    (followed (drop_exact {X = (((X × Spot) × Spot) × List TreeBound) × Option TreeCond}) (sign_needs (codes ";")) no_drop (λ e. record { name = e.0.0.0.0.1; table = e.0.0.0.1; set = e.0.0.1; filter = e.0.1; dropped = e.1 }))
    (λ d us good end. filter_then d us)) (λ d us good end. bounds_then d.0 d.1 us)) (λ d us good end. no_end _))) (λ d us good end. refl)))
    hypo_parts_words hypo_parts_ok (λ e p d. hypo_parts_tree p d) none (λ d. refl) (λ d good. good) (λ d good. good) (λ e p d. refl) (λ us end. end)

hypo_in_turn : (h n f t : Word) (bounds filter dropped : List Word) (e : Word) → h ∷ n ∷ f ∷ t ∷ [] ++ bounds ++ filter ++ dropped ++ e ∷ [] ≡ h ∷ n ∷ f ∷ t ∷ (bounds ++ (filter ++ (dropped ++ e ∷ [])))
hypo_in_turn h n f t bounds filter dropped e = simp (append_assoc) refl

hypo_made : (d : HypoParts) → hypo_words (to_hypo d) ≡ hypo_parts_words d
unfolding to_hypo hypo_words
hypo_made d = hypo_in_turn (key (codes "HYPO")) (named d.0) (key (codes "FROM")) (named d.1.0) (bounds_words d.1.1.0) (filter_words d.1.1.1.0) (drop_words d.1.1.1.1) (sign (codes ";"))

-- how deep a hypothetical table lies
abbrev pub hypo_depth : HypoText → ℕ
hypo_depth hypo = max (bounds_depth hypo.bounds) (filter_depth hypo.filter)

hypo_good : (d : HypoParts) → hypo_parts_ok d → hypo_depth (to_hypo d) ≤ 64
unfolding to_hypo
hypo_good d good = max-le good.1.1.0 good.1.1.1.0

hypo_okay : (h : HypoText) → hypo_depth h ≤ 64 → hypo_parts_ok (of_hypo h)
unfolding of_hypo
hypo_okay h le = (tt, (tt, (max_front (bounds_depth h.bounds) (filter_depth h.filter) 64 le, (max_back (bounds_depth h.bounds) (filter_depth h.filter) 64 le, tt))))

hypo_trees : (p : Places) (d : HypoParts) → hypo_tree p (to_hypo d) ≡ hypo_parts_tree p d
unfolding to_hypo hypo_tree
hypo_trees p d =
    ap (λ (s : Spot). hypo_at_places d s (spot 3 p d.1.0) (drop 5 p) (drop filter p) (place dropped p)) (sym (spot_drop 1 p d.0))
    ∙ ap (λ (s : Spot). hypo_at_places d (spot 0 (drop 1 p) d.0) s (drop 5 p) (drop filter p) (place dropped p)) (sym table_is)
    ∙ ap (λ (q : Places). hypo_at_places d (spot 0 (drop 1 p) d.0) (spot 0 (drop 1 (drop 1 (drop 1 p))) d.1.0) q (drop filter p) (place dropped p)) (sym bounds_is)
    ∙ ap (λ (q : Places). hypo_at_places d (spot 0 (drop 1 p) d.0) (spot 0 (drop 1 (drop 1 (drop 1 p))) d.1.0) (drop 1 (bounds_from p)) q (place dropped p)) (sym filter_is)
    ∙ ap (λ (q : Place). hypo_at_places d (spot 0 (drop 1 p) d.0) (spot 0 (drop 1 (drop 1 (drop 1 p))) d.1.0) (drop 1 (bounds_from p)) (filter_from d p) q) (sym dropped_is)
  where
    filter : ℕ
    filter = 4 + length (bounds_words d.1.1.0)

    dropped : ℕ
    dropped = filter + length (filter_words d.1.1.1.0)

    three : drop 1 (drop 1 (drop 1 p)) ≡ drop 3 p
    three = ap (drop 1) (drop-drop 1 1 p) ∙ drop-drop 1 2 p

    four : bounds_from p ≡ drop 4 p
    four = ap (drop 1) three ∙ drop-drop 1 3 p

    table_is : spot 0 (drop 1 (drop 1 (drop 1 p))) d.1.0 ≡ spot 3 p d.1.0
    table_is = ap (λ (q : Places). spot 0 q d.1.0) three ∙ spot_drop 3 p d.1.0

    bounds_is : drop 1 (bounds_from p) ≡ drop 5 p
    bounds_is = ap (drop 1) four ∙ drop-drop 1 4 p

    filter_is : filter_from d p ≡ drop filter p
    filter_is = ap (drop (length (bounds_words d.1.1.0))) four ∙ drop-drop (length (bounds_words d.1.1.0)) 4 p

    dropped_is : place 0 (drop_from d p) ≡ place dropped p
    dropped_is = ap (place 0) (ap (drop (length (filter_words d.1.1.1.0))) filter_is ∙ drop-drop (length (filter_words d.1.1.1.0)) filter p) ∙ place_drop dropped p

hypo_onto : (h : HypoText) → to_hypo (of_hypo h) ≡ h
unfolding to_hypo of_hypo
hypo_onto h = refl

-- a hypothetical table
pub hypo_exact : {X : Type 0} → Exact {X = X} {A = TreeHypo} {D = HypoText} (λ e v. hypo_at v) hypo_words (λ d. hypo_depth d ≤ 64) (λ e p d. hypo_tree p d) none
hypo_exact {X} = recast (hypo_chain {X = X}) hypo_words (λ d. hypo_depth d ≤ 64) (λ e p d. hypo_tree p d) none to_hypo of_hypo hypo_made hypo_good hypo_okay (λ e p d. hypo_trees p d) (λ d good. hypo_onto d) (λ us end. end)
