-- the bytes that are printed are the words of the tree's text, each with its space
use Rattle.std.proofs.Common.{◌≡◌, ℕ, ◌<◌, Bool, true, false, cond, List, [], ◌∷◌, ◌++◌, map, length, flat_map, codes, refl, sym, ◌∙◌, ap, append_assoc, arith, option_map, is_some}
use Rattle.std.proofs.lemmas.List.{append-nil}
use Rattle.std.specs.List.{AllByRecursion}
use Rattle.std.specs.declared.option.Option.{Option}
use Rattle.std.specs.declared.option.Option.TheVariants.{None, Some}
use Rattle.base_kit.specs.declared.place.Place.{Place}
use Rattle.tiql_tree.specs.declared.expression.TreeRef.{TreeRef}
use Rattle.tiql_tree.specs.declared.expression.TreeExpr.{TreeExpr}
use Rattle.tiql_tree.specs.declared.condition.TreeCond.{TreeCond}
use Rattle.tiql_tree.specs.declared.tree.Spot.{Spot}
use Rattle.tiql_tree.specs.declared.tree.Tree.{Tree}
use Rattle.tiql_tree.specs.declared.tree.Decl.{Decl}
use Rattle.tiql_tree.specs.declared.tree.Decl.TheVariants.{Table, Hypo, View, Require}
use Rattle.tiql_tree.specs.declared.tree.TreeColumn.{TreeColumn}
use Rattle.tiql_tree.specs.declared.tree.TreeTable.{TreeTable}
use Rattle.tiql_tree.specs.declared.tree.TreeBound.{TreeBound}
use Rattle.tiql_tree.specs.declared.tree.TreeHypo.{TreeHypo}
use Rattle.tiql_tree.specs.declared.tree.TreeView.{TreeView}
use Rattle.tiql_tree.specs.declared.tree.TreeSelect.{TreeSelect}
use Rattle.tiql_tree.specs.declared.tree.TreeSource.{TreeSource}
use Rattle.tiql_tree.specs.declared.tree.TreeItem.{TreeItem}
use Rattle.tiql_tree.specs.declared.tree.TreeValue.{TreeValue}
use Rattle.tiql_tree.specs.declared.tree.TreeValue.TheVariants as values
use Rattle.tiql_tree.specs.declared.tree.TreeRequire.{TreeRequire}
use Rattle.tiql_tree.specs.declared.tree.TreeRequire.TheVariants as needs
use Rattle.tiql_tree.specs.declared.tree.TreeGoal.{TreeGoal}
use Rattle.tiql_tree.specs.declared.tree.TreeGoal.TheVariants as goals
use Rattle.tiql_tree.specs.Words.{Word, key, sign, named, with_between}
use Rattle.tiql_tree.specs.Texts.ItemText.{count_item}
use Rattle.tiql_tree.specs.Grammar.{comma, optional, in_parens, name_words, ref_words, expr_words, cond_words, column_words, table_words, bound_words, bounds_words, filter_words, hypo_words, item_words, source_words, select_words, view_words, require_words, decl_words, goal_words, query_words}
use Rattle.tiql_tree.specs.Printed.{spaced, written, several, several_if, ref_text, expr_text, cond_text, name_of, column_text, table_text, bound_text, hypo_text, value_text_as, item_text, source_text, select_text, no_select, view_text, require_text, decl_text, goal_text, tree_text, printed}
use Rattle.tiql_tree.specs.Rooms.{expr_bytes}
use Rattle.tiql_tree.specs.CondRooms.{cond_bytes}
use Rattle.tiql_tree.specs.Bytes.{listed, comma_space, name_bytes, spot_bytes, whole_expr, whole_cond, ref_bytes, column_bytes, key_bytes, table_bytes, bound_bytes, set_bytes, filter_bytes, drop_bytes, hypo_bytes, value_bytes, item_bytes, source_bytes, group_bytes, distinct_bytes, select_bytes, union_all, view_bytes, have_bytes, require_bytes, decl_bytes, aim_bytes, goal_bytes, tree_bytes}
use Rattle.tiql_tree.proofs.Making.{written-append}
use Rattle.tiql_tree.proofs.Parts.{listed_bytes}

written-cons : (w : Word) (ws : List Word) → written (w ∷ ws) ≡ spaced w ++ written ws
unfolding written
written-cons w ws = refl

written-nil : written [] ≡ []
unfolding written
written-nil = refl

expr_line : (e : TreeExpr) → written (expr_words (expr_text e)) ≡ whole_expr e
unfolding expr_bytes
expr_line e = refl

cond_line : (c : TreeCond) → written (cond_words (cond_text c)) ≡ whole_cond c
unfolding cond_bytes
cond_line c = refl

name_line : (s : Spot) → written (name_words (name_of s)) ≡ spot_bytes s
unfolding written
name_line s = append-nil (name_bytes s.name)

ref_line : (r : TreeRef) → written (ref_words (ref_text r)) ≡ ref_bytes r
unfolding ref_bytes
ref_line r = refl

column_line : (c : TreeColumn) → written (column_words (column_text c)) ≡ column_bytes c
unfolding written column_words column_bytes
column_line c = ap (λ (l : List ℕ). name_bytes c.name.name ++ l) (by_text c.text)
  where
    by_text : (b : Bool) → written (key (cond b (codes "TEXT") (codes "INT")) ∷ []) ≡ cond b (codes "TEXT ") (codes "INT ")
    by_text true = refl
    by_text false = refl

comma_written : written comma ≡ comma_space
unfolding written
comma_written = refl

-- parts of which there are some, before more bytes
parts_line : {X A : Type 0} (between : List Word) (words : A → List Word) (text : X → A) (bytes : X → List ℕ) → ((x : X) → written (words (text x)) ≡ bytes x) → (none : A) (xs : List X) → 0 < length xs → (rest : List ℕ)
    → written (words (several none text xs).first) ++ (written (flat_map (λ a. between ++ words a) (several none text xs).more) ++ rest) ≡ listed (written between) bytes xs ++ rest
parts_line between words text bytes same none xs some rest =
    sym (append_assoc (written (words (several none text xs).first)) (written (flat_map (λ a. between ++ words a) (several none text xs).more)) rest)
    ∙ ap (λ (l : List ℕ). l ++ rest) (sym (written-append (words (several none text xs).first) (flat_map (λ a. between ++ words a) (several none text xs).more)) ∙ listed_bytes between words text bytes same none xs some)

columns_line : (xs : List TreeColumn) → 0 < length xs → (rest : List ℕ) → written (column_words (several (record { name = []; is_text = false }) column_text xs).first) ++ (written (flat_map (λ a. comma ++ column_words a) (several (record { name = []; is_text = false }) column_text xs).more) ++ rest) ≡ listed comma_space column_bytes xs ++ rest
columns_line xs some rest = parts_line comma column_words column_text column_bytes column_line (record { name = []; is_text = false }) xs some rest ∙ ap (λ (l : List ℕ). listed l column_bytes xs ++ rest) comma_written

-- the names of a key behind its first one
names_line : (name : Spot) (names : List Spot) (rest : List ℕ) → name.name ++ (32 ∷ (written (flat_map (λ part. comma ++ name_words part) (map name_of names)) ++ rest)) ≡ listed comma_space spot_bytes (name ∷ names) ++ rest
names_line name names rest =
    let more : List ℕ = written (flat_map (λ part. comma ++ name_words part) (map name_of names)) ++ rest in
    sym (append_assoc name.name (32 ∷ []) more) ∙ ap (λ (l : List ℕ). l ++ more) (sym (name_line name))
    ∙ parts_line comma name_words name_of spot_bytes name_line [] (name ∷ names) (omega arith) rest ∙ ap (λ (l : List ℕ). listed l spot_bytes (name ∷ names) ++ rest) comma_written

key_line : (names : List Spot) → written (optional (λ parts. key (codes "KEY") ∷ in_parens (with_between comma name_words parts)) (several_if name_of names)) ≡ key_bytes names
key_line [] = written-nil
key_line (name ∷ names) = simp (written-append, written-cons, written-nil, append_assoc, names_line name names) refl

table_line : (t : TreeTable) → 0 < length t.columns → written (table_words (table_text t)) ≡ table_bytes t
unfolding table_words table_bytes table_text
table_line t some = simp (written-append, written-cons, written-nil, append_assoc, columns_line t.columns some, key_line t.key) refl

bound_line : (b : TreeBound) → written (bound_words (bound_text b)) ≡ bound_bytes b
unfolding bound_words bound_bytes
bound_line b = simp (written-append, written-cons, written-nil, append_assoc, expr_line b.lo, expr_line b.hi) refl

set_line : (bs : List TreeBound) → written (bounds_words (several_if bound_text bs)) ≡ set_bytes bs
unfolding written
set_line [] = refl
set_line (b ∷ bs) = ap (λ (l : List ℕ). codes "SET " ++ l) (listed_bytes comma bound_words bound_text bound_bytes bound_line (bound_text b) (b ∷ bs) (omega arith) ∙ ap (λ (l : List ℕ). listed l bound_bytes (b ∷ bs)) comma_written)

filter_line : (f : Option TreeCond) → written (filter_words (option_map cond_text f)) ≡ filter_bytes f
filter_line None = written-nil
filter_line (Some c) = simp (written-cons, cond_line c) refl

drop_line : (d : Option Place) → written (cond (is_some d) (key (codes "DROP") ∷ []) []) ≡ drop_bytes d
unfolding written
drop_line None = refl
drop_line (Some p) = refl

hypo_line : (h : TreeHypo) → written (hypo_words (hypo_text h)) ≡ hypo_bytes h
unfolding hypo_words hypo_bytes hypo_text
hypo_line h = simp (written-append, written-cons, written-nil, append_assoc, set_line h.set, filter_line h.filter, drop_line h.dropped) refl

value_line : (v : TreeValue) (name : List ℕ) → written (item_words (value_text_as v name)) ≡ value_bytes v ++ (codes "AS " ++ name_bytes name)
unfolding item_words value_bytes
value_line (values.Plain expr) name = simp (written-append, written-cons, written-nil, append_assoc, expr_line expr) refl
value_line (values.Sum expr) name = simp (written-append, written-cons, written-nil, append_assoc, expr_line expr) refl
value_line values.Count name = simp (written-append, written-cons, written-nil, append_assoc) refl
value_line (values.Min expr) name = simp (written-append, written-cons, written-nil, append_assoc, expr_line expr) refl
value_line (values.Max expr) name = simp (written-append, written-cons, written-nil, append_assoc, expr_line expr) refl

item_line : (i : TreeItem) → written (item_words (item_text i)) ≡ item_bytes i
unfolding item_text item_bytes
item_line i = value_line i.value i.name.name ∙ sym (append_assoc (value_bytes i.value) (codes "AS ") (name_bytes i.name.name))

source_line : (s : TreeSource) → written (source_words (source_text s)) ≡ source_bytes s
unfolding source_words source_bytes
source_line s = simp (written-append, written-cons, written-nil, append_assoc) refl

group_line : (rs : List TreeRef) → written (optional (λ refs. key (codes "GROUP") ∷ key (codes "BY") ∷ with_between comma ref_words refs) (several_if ref_text rs)) ≡ group_bytes rs
unfolding written
group_line [] = refl
group_line (r ∷ rs) = ap (λ (l : List ℕ). codes "GROUP BY " ++ l) (listed_bytes comma ref_words ref_text ref_bytes ref_line (ref_text r) (r ∷ rs) (omega arith) ∙ ap (λ (l : List ℕ). listed l ref_bytes (r ∷ rs)) comma_written)

distinct_line : (d : Bool) → written (cond d (key (codes "DISTINCT") ∷ []) []) ≡ distinct_bytes d
unfolding written
distinct_line true = refl
distinct_line false = refl

right4 : {A : Type 0} (a b c d : List A) → ((a ++ b) ++ c) ++ d ≡ a ++ (b ++ (c ++ d))
right4 a b c d = append_assoc (a ++ b) c d ∙ append_assoc a b (c ++ d)

right5 : {A : Type 0} (a b c d e : List A) → (((a ++ b) ++ c) ++ d) ++ e ≡ a ++ (b ++ (c ++ (d ++ e)))
right5 a b c d e = append_assoc ((a ++ b) ++ c) d e ∙ right4 a b c (d ++ e)

right6 : {A : Type 0} (a b c d e f : List A) → ((((a ++ b) ++ c) ++ d) ++ e) ++ f ≡ a ++ (b ++ (c ++ (d ++ (e ++ f))))
right6 a b c d e f = append_assoc (((a ++ b) ++ c) ++ d) e f ∙ right5 a b c d (e ++ f)

right7 : {A : Type 0} (a b c d e f g : List A) → (((((a ++ b) ++ c) ++ d) ++ e) ++ f) ++ g ≡ a ++ (b ++ (c ++ (d ++ (e ++ (f ++ g)))))
right7 a b c d e f g = append_assoc ((((a ++ b) ++ c) ++ d) ++ e) f g ∙ right6 a b c d e (f ++ g)

two : (ws vs : List Word) (a b : List ℕ) → written ws ≡ a → written vs ≡ b → written (ws ++ vs) ≡ a ++ b
two ws vs a b one other = written-append ws vs ∙ ap (λ (l : List ℕ). l ++ written vs) one ∙ ap (λ (l : List ℕ). a ++ l) other

items_line : (xs : List TreeItem) → 0 < length xs → written (with_between comma item_words (several (count_item []) item_text xs)) ≡ listed comma_space item_bytes xs
items_line xs some = listed_bytes comma item_words item_text item_bytes item_line (count_item []) xs some ∙ ap (λ (l : List ℕ). listed l item_bytes xs) comma_written

sources_line : (xs : List TreeSource) → 0 < length xs → written (with_between comma source_words (several (record { relation = []; alias = None }) source_text xs)) ≡ listed comma_space source_bytes xs
sources_line xs some = listed_bytes comma source_words source_text source_bytes source_line (record { relation = []; alias = None }) xs some ∙ ap (λ (l : List ℕ). listed l source_bytes xs) comma_written

-- a word that is followed by others
after_key : (w : Word) (ws : List Word) (a b : List ℕ) → spaced w ≡ a → written ws ≡ b → written (w ∷ ws) ≡ a ++ b
after_key w ws a b one other = written-cons w ws ∙ ap (λ (l : List ℕ). l ++ written ws) one ∙ ap (λ (l : List ℕ). a ++ l) other

select_line : (s : TreeSelect) → 0 < length s.items → 0 < length s.sources → written (select_words (select_text s)) ≡ select_bytes s
unfolding select_words select_bytes select_text
select_line s items sources =
    let d : List Word = cond s.distinct (key (codes "DISTINCT") ∷ []) [] in
    let i : List Word = with_between comma item_words (several (count_item []) item_text s.items) in
    let r : List Word = with_between comma source_words (several (record { relation = []; alias = None }) source_text s.sources) in
    let f : List Word = filter_words (option_map cond_text s.filter) in
    let g : List Word = optional (λ refs. key (codes "GROUP") ∷ key (codes "BY") ∷ with_between comma ref_words refs) (several_if ref_text s.group) in
    ap written (right5 (key (codes "SELECT") ∷ d) i (key (codes "FROM") ∷ r) f g)
    ∙ after_key (key (codes "SELECT")) (d ++ (i ++ (key (codes "FROM") ∷ r ++ (f ++ g)))) (codes "SELECT ") _ refl
    (two d _ _ _ (distinct_line s.distinct) (two i _ _ _ (items_line s.items items)
    (after_key (key (codes "FROM")) (r ++ (f ++ g)) (codes "FROM ") _ refl (two r _ _ _ (sources_line s.sources sources) (two f g _ _ (filter_line s.filter) (group_line s.group))))))
    ∙ sym (right7 (codes "SELECT ") (distinct_bytes s.distinct) (listed comma_space item_bytes s.items) (codes "FROM ") (listed comma_space source_bytes s.sources) (filter_bytes s.filter) (group_bytes s.group))

union_written : written (key (codes "UNION") ∷ key (codes "ALL") ∷ []) ≡ union_all
unfolding written
union_written = refl

have_line : (name : Spot) (c : TreeCond) → name_bytes name.name ++ (codes "HAVE " ++ written (cond_words (cond_text c) ++ sign (codes ";") ∷ [])) ≡ have_bytes name c
unfolding written
have_line name c =
    ap (λ (l : List ℕ). name_bytes name.name ++ (codes "HAVE " ++ l)) (written-append (cond_words (cond_text c)) (sign (codes ";") ∷ []) ∙ ap (λ (l : List ℕ). l ++ codes ";\n") (cond_line c))
    ∙ sym (right4 (name_bytes name.name) (codes "HAVE ") (whole_cond c) (codes ";\n"))

require_line : (r : TreeRequire) → written (require_words (require_text r)) ≡ require_bytes r
unfolding require_words require_bytes require_text written
require_line (needs.All name c) = ap (λ (l : List ℕ). codes "REQUIRE ALL " ++ l) (have_line name c)
require_line (needs.Some name c) = ap (λ (l : List ℕ). codes "REQUIRE SOME " ++ l) (have_line name c)
require_line (needs.None name) = ap (λ (l : List ℕ). codes "REQUIRE NONE " ++ l) refl

aim_line : (m : Bool) (rest : List ℕ) → cond m (codes "MAXIMIZE") (codes "MINIMIZE") ++ (32 ∷ 83 ∷ 85 ∷ 77 ∷ 32 ∷ 40 ∷ 32 ∷ rest) ≡ aim_bytes m ++ rest
aim_line true rest = refl
aim_line false rest = refl

goal_line : (g : TreeGoal) → written (goal_words (goal_text g)) ≡ goal_bytes g
unfolding goal_words goal_bytes goal_text
goal_line goals.Find = simp (written-append, written-cons, written-nil, append_assoc) refl
goal_line (goals.Sum maximize part relation) = simp (written-append, written-cons, written-nil, append_assoc, expr_line part, aim_line maximize) refl

-- a select with items and sources
pub record WholeSelect (s : TreeSelect) : Type 0 where
  pub items : 0 < length s.items
  pub sources : 0 < length s.sources

-- each list has as many parts as the grammar asks for
abbrev pub WholeDecl : Decl → Type 0
WholeDecl (Table table) = 0 < length table.columns
WholeDecl (Hypo hypo) = Unit {0}
WholeDecl (View view) = (0 < length view.arms) × AllByRecursion WholeSelect view.arms
WholeDecl (Require require) = Unit {0}

abbrev union_words : List Word
union_words = key (codes "UNION") ∷ key (codes "ALL") ∷ []

more_arms : (xs : List TreeSelect) → AllByRecursion WholeSelect xs → written (flat_map (λ a. union_words ++ select_words a) (map select_text xs)) ≡ flat_map (λ x. union_all ++ select_bytes x) xs
more_arms [] all = written-nil
more_arms (x ∷ xs) all =
    two (union_words ++ select_words (select_text x)) (flat_map (λ a. union_words ++ select_words a) (map select_text xs)) (union_all ++ select_bytes x) (flat_map (λ y. union_all ++ select_bytes y) xs)
    (two union_words (select_words (select_text x)) union_all (select_bytes x) union_written (select_line x (all.0).items (all.0).sources)) (more_arms xs all.1)

arms_line : (xs : List TreeSelect) → 0 < length xs → AllByRecursion WholeSelect xs → written (with_between union_words select_words (several no_select select_text xs)) ≡ listed union_all select_bytes xs
arms_line [] some all = absurd (omega arith)
arms_line (x ∷ xs) some all =
    two (select_words (select_text x)) (flat_map (λ a. union_words ++ select_words a) (map select_text xs)) (select_bytes x) _ (select_line x (all.0).items (all.0).sources) (more_arms xs all.1)

view_line : (v : TreeView) → 0 < length v.arms → AllByRecursion WholeSelect v.arms → written (view_words (view_text v)) ≡ view_bytes v
unfolding view_words view_bytes view_text written
view_line v some all =
    let arms : List Word = with_between union_words select_words (several no_select select_text v.arms) in
    ap written (append_assoc (key (codes "VIEW") ∷ named v.name.name ∷ key (codes "AS") ∷ []) arms (sign (codes ";") ∷ []))
    ∙ ap (λ (l : List ℕ). codes "VIEW " ++ (name_bytes v.name.name ++ (codes "AS " ++ l))) (two arms (sign (codes ";") ∷ []) (listed union_all select_bytes v.arms) (codes ";\n") (arms_line v.arms some all) refl)
    ∙ sym (right5 (codes "VIEW ") (name_bytes v.name.name) (codes "AS ") (listed union_all select_bytes v.arms) (codes ";\n"))

decl_line : (d : Decl) → WholeDecl d → written (decl_words (decl_text d)) ≡ decl_bytes d
unfolding decl_words decl_bytes decl_text
decl_line (Table table) whole = table_line table whole
decl_line (Hypo hypo) whole = hypo_line hypo
decl_line (View view) whole = view_line view whole.0 whole.1
decl_line (Require require) whole = require_line require

decls_line : (ds : List Decl) → AllByRecursion WholeDecl ds → written (flat_map decl_words (map decl_text ds)) ≡ flat_map decl_bytes ds
decls_line [] all = written-nil
decls_line (d ∷ ds) all = two (decl_words (decl_text d)) (flat_map decl_words (map decl_text ds)) (decl_bytes d) (flat_map decl_bytes ds) (decl_line d all.0) (decls_line ds all.1)

-- the bytes are those of the words
pub tree_line : (t : Tree) → AllByRecursion WholeDecl t.decls → tree_bytes t ≡ printed t
unfolding tree_bytes query_words tree_text
tree_line t all = sym (two (flat_map decl_words (map decl_text t.decls)) (goal_words (goal_text t.goal)) (flat_map decl_bytes t.decls) (goal_bytes t.goal) (decls_line t.decls all) (goal_line t.goal))
