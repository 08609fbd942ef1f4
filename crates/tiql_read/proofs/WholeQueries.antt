-- views, requirements, goals and whole queries are read exactly
use Rattle.std.proofs.Common.{◌≡◌, ℕ, ◌+◌, ◌≤◌, Bool, true, false, cond, List, [], ◌∷◌, ◌++◌, length, drop, codes, refl, sym, ◌∙◌, ap, append_assoc, arith, Ok}
use Rattle.std.proofs.lemmas.List.{length-append}
use Rattle.tiql_tree.specs.Words.{Word}
use Rattle.tiql_tree.specs.Trees.{Places}
use Rattle.tiql_read.specs.Steps.{Words, Reading, ◌>>=◌}
use Rattle.tiql_read.proofs.Exact.{starts, none, Exact}
use Rattle.std.proofs.Common.{max}
use Rattle.std.proofs.Math.Nat.{max-le}
use Rattle.std.proofs.lemmas.List.{drop-drop}
use Rattle.std.specs.List.{flat_map}
use Rattle.tiql_tree.specs.declared.tree.Spot.{Spot}
use Rattle.tiql_tree.specs.declared.tree.Tree.{Tree}
use Rattle.tiql_tree.specs.declared.tree.Decl.{Decl}
use Rattle.tiql_tree.specs.declared.tree.Decl.TheVariants.{Table, Hypo, View, Require}
use Rattle.tiql_tree.specs.declared.tree.TreeView.{TreeView}
use Rattle.tiql_tree.specs.declared.tree.TreeSelect.{TreeSelect}
use Rattle.tiql_tree.specs.declared.tree.TreeRequire.{TreeRequire}
use Rattle.tiql_tree.specs.declared.tree.TreeRequire.TheVariants as needs
use Rattle.tiql_tree.specs.declared.tree.TreeGoal.{TreeGoal}
use Rattle.tiql_tree.specs.declared.tree.TreeGoal.TheVariants as goals
use Rattle.tiql_tree.specs.declared.expression.TreeExpr.{TreeExpr}
use Rattle.tiql_tree.specs.Words.{key, sign, named, parts_of}
use Rattle.tiql_tree.specs.Texts.{ExprText, CondText, SelectText, TableText, HypoText, ViewText, RequireText, DeclText, GoalText, QueryText}
use Rattle.tiql_tree.specs.Texts.RequireText.{all_have, some_have, none_is}
use Rattle.tiql_tree.specs.Texts.DeclText.{table_decl, hypo_decl, view_decl, require_decl}
use Rattle.tiql_tree.specs.Texts.GoalText.{find_goal, sum_goal}
use Rattle.tiql_tree.specs.Grammar.{in_parens, expr_words, cond_words, select_words, table_words, hypo_words, view_words, require_words, decl_words, goal_words, query_words}
use Rattle.tiql_tree.specs.Nesting.{deepest, expr_depth, cond_depth, select_depth, require_depth, decl_depth, goal_depth, query_depth}
use Rattle.tiql_tree.specs.Trees.{spot, laid, expr_tree, cond_tree, select_tree, table_tree, hypo_tree, view_tree, require_tree, decl_tree, goal_tree, query_tree}
use Rattle.tiql_read.specs.Steps.{is_key, is_sign, many_at}
use Rattle.tiql_read.specs.Expressions.{adds}
use Rattle.tiql_read.specs.Queries.{arm_at, view_at, for_all, require_of, have_at, none_at, require_at, decl_at, declares, aim_of, find_at, sum_goal_at, goal_at}
use Rattle.tiql_read.proofs.Rules.{Takes, one, word}
use Rattle.tiql_read.proofs.Chains.{bind}
use Rattle.tiql_read.proofs.Branches.Either.{one_way, other_way}
use Rattle.tiql_read.proofs.Branches.{Either, either_words, either_ok, either_tree, branch, recast}
use Rattle.tiql_read.proofs.Many.{under, many, many_ok, many_tree}
use Rattle.tiql_read.proofs.Lists.{or_else, or_first, or_second, value, mapped, retold, followed, laid_many, no_end}
use Rattle.tiql_read.proofs.Depths.{deepest_all, deepest_le}
use Rattle.tiql_read.proofs.WordTests.{sign_needs, key_needs, two_takes, retake}
use Rattle.tiql_read.proofs.Leaves.{name_exact}
use Rattle.tiql_read.proofs.Sums.{anywhere, max_front, max_back}
use Rattle.tiql_read.proofs.Units.{cond_ext, condition_exact}
use Rattle.tiql_read.proofs.Items.{spot_drop, grouped_exact}
use Rattle.tiql_read.proofs.Selecting.{select_ext, select_exact}
use Rattle.tiql_read.proofs.Declaring.{table_exact, hypo_exact, hypo_depth}

abbrev union_words : List Word
union_words = key (codes "UNION") ∷ key (codes "ALL") ∷ []

-- a select behind UNION ALL
arm_exact : {X : Type 0} → Exact {X = X} {A = TreeSelect} {D = SelectText} (λ e v. arm_at v) (λ d. union_words ++ select_words d) (λ d. select_depth d ≤ 64) (λ e p d. select_tree (drop 2 p) d) select_ext
unfolding arm_at
arm_exact {X} =
    retold (word (key_needs (codes "UNION")) (word (key_needs (codes "ALL")) (select_exact {X = X}))) (λ d. union_words ++ select_words d) (λ d. select_depth d ≤ 64) (λ e p d. select_tree (drop 2 p) d) select_ext
    (λ d. refl) (λ d good. good) (λ d good. good) (λ e p d. ap (λ (q : Places). select_tree q d) (sym (drop-drop 1 1 p))) (λ us end. end)

abbrev arms_ext : Word → Bool
arms_ext = or_else (is_key (codes "UNION")) select_ext

union_first : (d : SelectText) (us : List Word) → starts (is_key (codes "UNION")) ((union_words ++ select_words d) ++ us) ≡ true
unfolding is_key
union_first d us = refl

union_apart : (d : SelectText) (us : List Word) → starts select_ext ((union_words ++ select_words d) ++ us) ≡ false
unfolding is_key is_sign adds
union_apart d us = refl

abbrev ViewParts : Type 0
ViewParts = List ℕ × (SelectText × (List SelectText × Unit {0}))

to_view : ViewParts → ViewText
to_view d = record { name = d.0; arms = record { first = d.1.0; more = d.1.1.0 } }

of_view : ViewText → ViewParts
of_view v = (v.name, (v.arms.first, (v.arms.more, tt)))

abbrev view_parts_words : ViewParts → List Word
view_parts_words d = key (codes "VIEW") ∷ named d.0 ∷ key (codes "AS") ∷ (select_words d.1.0 ++ (flat_map (λ d. union_words ++ select_words d) d.1.1.0 ++ sign (codes ";") ∷ []))

abbrev view_parts_ok : ViewParts → Type 0
view_parts_ok d = Unit {0} × ((select_depth d.1.0 ≤ 64) × (many_ok (λ (d : SelectText). select_depth d ≤ 64) d.1.1.0 × Unit {0}))

abbrev arms_from : Places → Places
arms_from p = drop 1 (drop 1 (drop 1 p))

abbrev view_parts_tree : Places → ViewParts → TreeView
view_parts_tree p d = record {
  name = spot 0 (drop 1 p) d.0;
  arms = select_tree (arms_from p) d.1.0 ∷ many_tree {X = Unit {0}} (λ d. union_words ++ select_words d) (λ e p d. select_tree (drop 2 p) d) tt (drop (length (select_words d.1.0)) (arms_from p)) d.1.1.0;
}

arms_end : (us : List Word) → starts arms_ext (sign (codes ";") ∷ us) ≡ false
unfolding is_key is_sign adds
arms_end us = refl

arms_apart : (ds : List SelectText) (us : List Word) → starts select_ext ((flat_map (λ d. union_words ++ select_words d) ds ++ sign (codes ";") ∷ []) ++ us) ≡ false
unfolding is_key is_sign adds
arms_apart [] us = refl
arms_apart (d ∷ ds) us = refl

view_chain : Exact {X = Unit {0}} {A = TreeView} {D = ViewParts} (λ e v. view_at v) view_parts_words view_parts_ok (λ e p d. view_parts_tree p d) none
unfolding view_at
view_chain =
    retold
    (word (key_needs (codes "VIEW")) (bind (name_exact {X = Unit {0}}) (word (key_needs (codes "AS")) (bind (select_exact {X = Unit {0} × Spot})
    (bind (many (arm_exact {X = (Unit {0} × Spot) × TreeSelect}) (is_key (codes "UNION")) arms_ext (λ d us good. union_first d us) (λ d us good. union_apart d us) (or_first (is_key (codes "UNION")) select_ext) (or_second (is_key (codes "UNION")) select_ext))
    (word (sign_needs (codes ";")) (value (λ (e : ((Unit {0} × Spot) × TreeSelect) × List TreeSelect). record { name = e.0.0.1; arms = e.0.1 ∷ e.1 }) none)) (λ d us good end. arms_end us)) (λ d us good end. arms_apart d.0 us))) (λ d us good end. refl)))
    view_parts_words view_parts_ok (λ e p d. view_parts_tree p d) none (λ d. refl) (λ d good. good) (λ d good. good) trees (λ us end. end)
  where
    same_many : {X : Type 0} (e : X) (q : Places) (ds : List SelectText) → many_tree {X = Unit {0}} (λ d. union_words ++ select_words d) (λ e p d. select_tree (drop 2 p) d) tt q ds ≡ many_tree {X = X} (λ d. union_words ++ select_words d) (λ e p d. select_tree (drop 2 p) d) e q ds
    same_many e q [] = refl
    same_many e q (d ∷ ds) = ap (λ (l : List TreeSelect). select_tree (drop 2 q) d ∷ l) (same_many e (drop (length (union_words ++ select_words d)) q) ds)

    trees : (e : Unit {0}) (p : Places) (d : ViewParts) → view_parts_tree p d ≡ record { name = spot 0 (drop 1 p) d.0; arms = select_tree (arms_from p) d.1.0 ∷ many_tree {X = (Unit {0} × Spot) × TreeSelect} (λ d. union_words ++ select_words d) (λ e p d. select_tree (drop 2 p) d) ((e, spot 0 (drop 1 p) d.0), select_tree (arms_from p) d.1.0) (drop (length (select_words d.1.0)) (arms_from p)) d.1.1.0 }
    trees e p d = ap (λ (l : List TreeSelect). made l) (same_many {X = (Unit {0} × Spot) × TreeSelect} ((e, spot 0 (drop 1 p) d.0), select_tree (arms_from p) d.1.0) (drop (length (select_words d.1.0)) (arms_from p)) d.1.1.0)
      where
        made : List TreeSelect → TreeView
        made l = record { name = spot 0 (drop 1 p) d.0; arms = select_tree (arms_from p) d.1.0 ∷ l }

view_in_turn : (v n a : Word) (first more : List Word) (e : Word) → v ∷ n ∷ a ∷ [] ++ (first ++ more) ++ e ∷ [] ≡ v ∷ n ∷ a ∷ (first ++ (more ++ e ∷ []))
view_in_turn v n a first more e = simp (append_assoc) refl

view_made : (d : ViewParts) → view_words (to_view d) ≡ view_parts_words d
unfolding to_view view_words
view_made d = view_in_turn (key (codes "VIEW")) (named d.0) (key (codes "AS")) (select_words d.1.0) (flat_map (λ d. union_words ++ select_words d) d.1.1.0) (sign (codes ";"))

-- how deep a view lies
abbrev view_depth : ViewText → ℕ
view_depth view = deepest select_depth (parts_of view.arms)

view_good : (d : ViewParts) → view_parts_ok d → view_depth (to_view d) ≤ 64
unfolding to_view
view_good d good = deepest_le select_depth (d.1.0 ∷ d.1.1.0) 64 (good.1.0, good.1.1.0)

view_okay : (v : ViewText) → view_depth v ≤ 64 → view_parts_ok (of_view v)
unfolding of_view
view_okay v le = let k = deepest_all select_depth (parts_of v.arms) 64 le in (tt, (k.0, (k.1, tt)))

view_trees : (p : Places) (d : ViewParts) → view_tree p (to_view d) ≡ view_parts_tree p d
unfolding to_view view_tree
view_trees p d =
    ap (λ (s : Spot). view_of s (drop 3 p) (laid 2 (λ select. length (select_words select)) select_tree (drop (length (select_words d.1.0) + 2) (drop 3 p)) d.1.1.0)) (sym (spot_drop 1 p d.0))
    ∙ ap (λ (q : Places). view_of (spot 0 (drop 1 p) d.0) q (laid 2 (λ select. length (select_words select)) select_tree (drop (length (select_words d.1.0) + 2) q) d.1.1.0)) (sym three)
    ∙ ap (view_of (spot 0 (drop 1 p) d.0) (arms_from p)) more
  where
    view_of : Spot → Places → List TreeSelect → TreeView
    view_of s q l = record { name = s; arms = select_tree q d.1.0 ∷ l }

    three : arms_from p ≡ drop 3 p
    three = ap (drop 1) (drop-drop 1 1 p) ∙ drop-drop 1 2 p

    more : laid 2 (λ select. length (select_words select)) select_tree (drop (length (select_words d.1.0) + 2) (arms_from p)) d.1.1.0 ≡ many_tree {X = Unit {0}} (λ d. union_words ++ select_words d) (λ e p d. select_tree (drop 2 p) d) tt (drop (length (select_words d.1.0)) (arms_from p)) d.1.1.0
    more =
        ap (λ (q : Places). laid 2 (λ select. length (select_words select)) select_tree q d.1.1.0) (sym (drop-drop 2 (length (select_words d.1.0)) (arms_from p)))
        ∙ sym (laid_many {X = Unit {0}} union_words select_words (λ e p d. select_tree p d) tt (drop (length (select_words d.1.0)) (arms_from p)) d.1.1.0)

view_onto : (v : ViewText) → to_view (of_view v) ≡ v
unfolding to_view of_view
view_onto v = refl

-- a view
view_exact : {X : Type 0} → Exact {X = X} {A = TreeView} {D = ViewText} (λ e v. view_at v) view_words (λ d. view_depth d ≤ 64) (λ e p d. view_tree p d) none
view_exact {X} = anywhere {X = X} (recast view_chain view_words (λ d. view_depth d ≤ 64) (λ e p d. view_tree p d) none to_view of_view view_made view_good view_okay (λ e p d. view_trees p d) (λ d good. view_onto d) (λ us end. end))

abbrev all_key : Bool → Word
all_key all = key (cond all (codes "ALL") (codes "SOME"))

all_takes : Takes {A = Bool} {D = Bool} for_all all_key (λ p all. all)
unfolding for_all is_key
all_takes = retake (two_takes (is_key (codes "ALL")) (is_key (codes "SOME")) (key (codes "ALL")) (key (codes "SOME")) (key_needs (codes "ALL")) (key_needs (codes "SOME")) refl) all_key (λ p all. all) (λ b. b) (λ b. b) keys (λ p b. refl) (λ b. refl)
  where
    keys : (b : Bool) → all_key b ≡ cond b (key (codes "ALL")) (key (codes "SOME"))
    keys true = refl
    keys false = refl

abbrev HaveParts : Type 0
HaveParts = Bool × (List ℕ × CondText)

cond_end : cond_ext (sign (codes ";")) ≡ false
unfolding is_key is_sign adds
cond_end = refl

have_exact : {X : Type 0} → Exact {X = X} {A = TreeRequire} {D = HaveParts} (λ e v. have_at v) (λ d. all_key d.0 ∷ named d.1.0 ∷ key (codes "HAVE") ∷ (cond_words d.1.1 ++ sign (codes ";") ∷ [])) (λ d. Unit {0} × (Unit {0} × (cond_depth d.1.1 ≤ 64)))
    (λ e p d. require_of d.0 (spot 0 (drop 1 p) d.1.0) (cond_tree (drop 1 (drop 1 (drop 1 p))) d.1.1)) none
unfolding have_at
have_exact {X} =
    retold {D = HaveParts}
    (bind (one {X = X} all_takes) (bind (name_exact {X = X × Bool}) (word (key_needs (codes "HAVE")) (followed (condition_exact {X = (X × Bool) × Spot} 64) (sign_needs (codes ";")) cond_end (λ e. require_of e.0.0.1 e.0.1 e.1))) (λ d us good end. refl)) (λ d us good end. refl))
    (λ d. all_key d.0 ∷ named d.1.0 ∷ key (codes "HAVE") ∷ (cond_words d.1.1 ++ sign (codes ";") ∷ [])) (λ d. Unit {0} × (Unit {0} × (cond_depth d.1.1 ≤ 64)))
    (λ e p d. require_of d.0 (spot 0 (drop 1 p) d.1.0) (cond_tree (drop 1 (drop 1 (drop 1 p))) d.1.1)) none (λ d. refl) (λ d good. good) (λ d good. good) (λ e p d. refl) (λ us end. end)

none_exact : {X : Type 0} → Exact {X = X} {A = TreeRequire} {D = List ℕ} (λ e v. none_at v) (λ d. key (codes "NONE") ∷ named d ∷ sign (codes ";") ∷ []) (λ d. Unit {0}) (λ e p d. needs.None (spot 0 (drop 1 p) d)) none
unfolding none_at
none_exact {X} = word (key_needs (codes "NONE")) (followed (name_exact {X = X}) (sign_needs (codes ";")) refl (λ e. needs.None e.1))

abbrev RequireParts : Type 0
RequireParts = Either (List ℕ) HaveParts

to_require : RequireParts → RequireText
to_require (one_way name) = none_is name
to_require (other_way (true, d)) = all_have d.0 d.1
to_require (other_way (false, d)) = some_have d.0 d.1

of_require : RequireText → RequireParts
of_require (all_have name cond) = other_way (true, (name, cond))
of_require (some_have name cond) = other_way (false, (name, cond))
of_require (none_is name) = one_way name

abbrev require_parts_words : RequireParts → List Word
require_parts_words d = key (codes "REQUIRE") ∷ either_words (λ (d : List ℕ). key (codes "NONE") ∷ named d ∷ sign (codes ";") ∷ []) (λ (d : HaveParts). all_key d.0 ∷ named d.1.0 ∷ key (codes "HAVE") ∷ (cond_words d.1.1 ++ sign (codes ";") ∷ [])) d

abbrev require_parts_ok : RequireParts → Type 0
require_parts_ok d = either_ok (λ (d : List ℕ). Unit {0}) (λ (d : HaveParts). Unit {0} × (Unit {0} × (cond_depth d.1.1 ≤ 64))) d

abbrev require_parts_tree : Places → RequireParts → TreeRequire
require_parts_tree p d = either_tree {X = Unit {0}} (λ e p (d : List ℕ). needs.None (spot 0 (drop 1 p) d)) (λ e p (d : HaveParts). require_of d.0 (spot 0 (drop 1 p) d.1.0) (cond_tree (drop 1 (drop 1 (drop 1 p))) d.1.1)) tt (drop 1 p) d

require_chain : Exact {X = Unit {0}} {A = TreeRequire} {D = RequireParts} (λ e v. require_at v) require_parts_words require_parts_ok (λ e p d. require_parts_tree p d) none
unfolding require_at is_key
require_chain =
    word (key_needs (codes "REQUIRE")) (branch (none_exact {X = Unit {0}}) (have_exact {X = Unit {0}}) (is_key (codes "NONE")) none (λ d us good. refl) not_none (λ us end. end) (λ us end. end))
  where
    not_none : (d : HaveParts) (us : List Word) → Unit {0} × (Unit {0} × (cond_depth d.1.1 ≤ 64)) → starts none us ≡ false → starts (is_key (codes "NONE")) ((all_key d.0 ∷ named d.1.0 ∷ key (codes "HAVE") ∷ (cond_words d.1.1 ++ sign (codes ";") ∷ [])) ++ us) ≡ false
    not_none (true, d) us good end = refl
    not_none (false, d) us good end = refl

require_made : (d : RequireParts) → require_words (to_require d) ≡ require_parts_words d
unfolding to_require require_words
require_made (one_way name) = refl
require_made (other_way (true, d)) = refl
require_made (other_way (false, d)) = refl

require_good : (d : RequireParts) → require_parts_ok d → require_depth (to_require d) ≤ 64
unfolding to_require require_depth
require_good (one_way name) good = omega arith
require_good (other_way (true, d)) good = good.1.1
require_good (other_way (false, d)) good = good.1.1

require_okay : (d : RequireText) → require_depth d ≤ 64 → require_parts_ok (of_require d)
unfolding of_require require_depth
require_okay (all_have name cond) le = (tt, (tt, le))
require_okay (some_have name cond) le = (tt, (tt, le))
require_okay (none_is name) le = tt

name_is : (p : Places) (name : List ℕ) → spot 0 (drop 1 (drop 1 p)) name ≡ spot 2 p name
name_is p name = ap (λ (q : Places). spot 0 q name) (drop-drop 1 1 p) ∙ spot_drop 2 p name

cond_is : (p : Places) → drop 1 (drop 1 (drop 1 (drop 1 p))) ≡ drop 4 p
cond_is p = ap (λ (q : Places). drop 1 (drop 1 q)) (drop-drop 1 1 p) ∙ ap (drop 1) (drop-drop 1 2 p) ∙ drop-drop 1 3 p

require_trees : (p : Places) (d : RequireParts) → require_tree p (to_require d) ≡ require_parts_tree p d
unfolding to_require require_tree
require_trees p (one_way name) = ap (λ (s : Spot). needs.None s) (sym (name_is p name))
require_trees p (other_way (true, d)) = ap (λ (s : Spot). needs.All s (cond_tree (drop 4 p) d.1)) (sym (name_is p d.0)) ∙ ap (λ (q : Places). needs.All (spot 0 (drop 1 (drop 1 p)) d.0) (cond_tree q d.1)) (sym (cond_is p))
require_trees p (other_way (false, d)) = ap (λ (s : Spot). needs.Some s (cond_tree (drop 4 p) d.1)) (sym (name_is p d.0)) ∙ ap (λ (q : Places). needs.Some (spot 0 (drop 1 (drop 1 p)) d.0) (cond_tree q d.1)) (sym (cond_is p))

require_onto : (d : RequireText) → to_require (of_require d) ≡ d
unfolding to_require of_require
require_onto (all_have name cond) = refl
require_onto (some_have name cond) = refl
require_onto (none_is name) = refl

-- a requirement
require_exact : Exact {X = Unit {0}} {A = TreeRequire} {D = RequireText} (λ e v. require_at v) require_words (λ d. require_depth d ≤ 64) (λ e p d. require_tree p d) none
require_exact = recast require_chain require_words (λ d. require_depth d ≤ 64) (λ e p d. require_tree p d) none to_require of_require require_made require_good require_okay (λ e p d. require_trees p d) (λ d good. require_onto d) (λ us end. end)

abbrev DeclParts : Type 0
DeclParts = Either TableText (Either HypoText (Either ViewText RequireText))

abbrev decl_parts_words : DeclParts → List Word
decl_parts_words d = either_words table_words (either_words hypo_words (either_words view_words require_words)) d

abbrev decl_parts_ok : DeclParts → Type 0
decl_parts_ok d = either_ok (λ (d : TableText). Unit {0}) (either_ok (λ (d : HypoText). hypo_depth d ≤ 64) (either_ok (λ (d : ViewText). view_depth d ≤ 64) (λ (d : RequireText). require_depth d ≤ 64))) d

abbrev decl_parts_tree : Unit {0} → Places → DeclParts → Decl
decl_parts_tree e p d =
    either_tree {X = Unit {0}} (λ e p d. Table (table_tree p d)) (either_tree {X = Unit {0}} (λ e p d. Hypo (hypo_tree p d)) (either_tree {X = Unit {0}} (λ e p d. View (view_tree p d)) (λ e p d. Require (require_tree p d)))) e p d

to_decl : DeclParts → DeclText
to_decl (one_way d) = table_decl d
to_decl (other_way (one_way d)) = hypo_decl d
to_decl (other_way (other_way (one_way d))) = view_decl d
to_decl (other_way (other_way (other_way d))) = require_decl d

of_decl : DeclText → DeclParts
of_decl (table_decl d) = one_way d
of_decl (hypo_decl d) = other_way (one_way d)
of_decl (view_decl d) = other_way (other_way (one_way d))
of_decl (require_decl d) = other_way (other_way (other_way d))

require_apart : (test : Word → Bool) → test (key (codes "REQUIRE")) ≡ false → (d : RequireText) (us : List Word) → starts test (require_words d ++ us) ≡ false
unfolding require_words
require_apart test apart (all_have name cond) us = apart
require_apart test apart (some_have name cond) us = apart
require_apart test apart (none_is name) us = apart

view_apart : (d : Either ViewText RequireText) (us : List Word) → starts (is_key (codes "HYPO")) (either_words view_words require_words d ++ us) ≡ false
unfolding view_words is_key
view_apart (one_way d) us = refl
view_apart (other_way d) us = require_apart (is_key (codes "HYPO")) refl d us

table_apart : (d : Either HypoText (Either ViewText RequireText)) (us : List Word) → starts (is_key (codes "TABLE")) (either_words hypo_words (either_words view_words require_words) d ++ us) ≡ false
unfolding hypo_words view_words is_key
table_apart (one_way d) us = refl
table_apart (other_way (one_way d)) us = refl
table_apart (other_way (other_way d)) us = require_apart (is_key (codes "TABLE")) refl d us

table_first : (d : TableText) (us : List Word) → starts (is_key (codes "TABLE")) (table_words d ++ us) ≡ true
unfolding table_words is_key
table_first d us = refl

hypo_first : (d : HypoText) (us : List Word) → starts (is_key (codes "HYPO")) (hypo_words d ++ us) ≡ true
unfolding hypo_words is_key
hypo_first d us = refl

view_first : (d : ViewText) (us : List Word) → starts (is_key (codes "VIEW")) (view_words d ++ us) ≡ true
unfolding view_words is_key
view_first d us = refl

view_key : is_key (codes "VIEW") (key (codes "REQUIRE")) ≡ false
unfolding is_key
view_key = refl

decl_chain : Exact {X = Unit {0}} {A = Decl} {D = DeclParts} (λ e v. decl_at v) decl_parts_words decl_parts_ok decl_parts_tree none
unfolding decl_at
decl_chain =
    branch (mapped (table_exact {X = Unit {0}}) (λ e. Table e.1))
    (branch (mapped (hypo_exact {X = Unit {0}}) (λ e. Hypo e.1))
    (branch (mapped (view_exact {X = Unit {0}}) (λ e. View e.1)) (mapped require_exact (λ e. Require e.1)) (is_key (codes "VIEW")) none (λ d us good. view_first d us) (λ d us good end. require_apart (is_key (codes "VIEW")) view_key d us) (λ us end. end) (λ us end. end))
    (is_key (codes "HYPO")) none (λ d us good. hypo_first d us) (λ d us good end. view_apart d us) (λ us end. end) (λ us end. end))
    (is_key (codes "TABLE")) none (λ d us good. table_first d us) (λ d us good end. table_apart d us) (λ us end. end) (λ us end. end)

decl_made : (d : DeclParts) → decl_words (to_decl d) ≡ decl_parts_words d
unfolding to_decl decl_words
decl_made (one_way d) = refl
decl_made (other_way (one_way d)) = refl
decl_made (other_way (other_way (one_way d))) = refl
decl_made (other_way (other_way (other_way d))) = refl

decl_good : (d : DeclParts) → decl_parts_ok d → decl_depth (to_decl d) ≤ 64
unfolding to_decl decl_depth
decl_good (one_way d) good = omega arith
decl_good (other_way (one_way d)) good = good
decl_good (other_way (other_way (one_way d))) good = good
decl_good (other_way (other_way (other_way d))) good = good

decl_okay : (d : DeclText) → decl_depth d ≤ 64 → decl_parts_ok (of_decl d)
unfolding of_decl decl_depth
decl_okay (table_decl d) le = tt
decl_okay (hypo_decl d) le = le
decl_okay (view_decl d) le = le
decl_okay (require_decl d) le = le

decl_trees : (e : Unit {0}) (p : Places) (d : DeclParts) → decl_tree p (to_decl d) ≡ decl_parts_tree e p d
unfolding to_decl decl_tree
decl_trees e p (one_way d) = refl
decl_trees e p (other_way (one_way d)) = refl
decl_trees e p (other_way (other_way (one_way d))) = refl
decl_trees e p (other_way (other_way (other_way d))) = refl

decl_onto : (d : DeclText) → to_decl (of_decl d) ≡ d
unfolding to_decl of_decl
decl_onto (table_decl d) = refl
decl_onto (hypo_decl d) = refl
decl_onto (view_decl d) = refl
decl_onto (require_decl d) = refl

-- a declaration
decl_exact : Exact {X = Unit {0}} {A = Decl} {D = DeclText} (λ e v. decl_at v) decl_words (λ d. decl_depth d ≤ 64) (λ e p d. decl_tree p d) none
decl_exact = recast decl_chain decl_words (λ d. decl_depth d ≤ 64) (λ e p d. decl_tree p d) none to_decl of_decl decl_made decl_good decl_okay decl_trees (λ d good. decl_onto d) (λ us end. end)

abbrev aim_key : Bool → Word
aim_key maximize = key (cond maximize (codes "MAXIMIZE") (codes "MINIMIZE"))

aim_takes : Takes {A = Bool} {D = Bool} aim_of aim_key (λ p maximize. maximize)
unfolding aim_of is_key
aim_takes =
    retake (two_takes (is_key (codes "MAXIMIZE")) (is_key (codes "MINIMIZE")) (key (codes "MAXIMIZE")) (key (codes "MINIMIZE")) (key_needs (codes "MAXIMIZE")) (key_needs (codes "MINIMIZE")) refl) aim_key (λ p maximize. maximize) (λ b. b) (λ b. b) keys (λ p b. refl) (λ b. refl)
  where
    keys : (b : Bool) → aim_key b ≡ cond b (key (codes "MAXIMIZE")) (key (codes "MINIMIZE"))
    keys true = refl
    keys false = refl

abbrev SumParts : Type 0
SumParts = Bool × (ExprText × List ℕ)

abbrev sum_parts_words : SumParts → List Word
sum_parts_words d = aim_key d.0 ∷ key (codes "SUM") ∷ (in_parens (expr_words d.1.0) ++ key (codes "FROM") ∷ named d.1.1 ∷ sign (codes ";") ∷ [])

abbrev sum_parts_ok : SumParts → Type 0
sum_parts_ok d = Unit {0} × ((expr_depth d.1.0 ≤ 63) × Unit {0})

abbrev sum_parts_tree : Places → SumParts → TreeGoal
sum_parts_tree p d = goals.Sum d.0 (expr_tree (drop 1 (drop 1 (drop 1 p))) d.1.0) (spot 0 (drop 1 (drop (length (in_parens (expr_words d.1.0))) (drop 1 (drop 1 p)))) d.1.1)

sum_goal_exact : {X : Type 0} → Exact {X = X} {A = TreeGoal} {D = SumParts} (λ e v. sum_goal_at v) sum_parts_words sum_parts_ok (λ e p d. sum_parts_tree p d) none
unfolding sum_goal_at
sum_goal_exact {X} =
    retold {D = SumParts}
    (bind (one {X = X} aim_takes) (word (key_needs (codes "SUM")) (bind (grouped_exact {X = X × Bool}) (word (key_needs (codes "FROM")) (followed (name_exact {X = (X × Bool) × TreeExpr}) (sign_needs (codes ";")) refl (λ e. goals.Sum e.0.0.1 e.0.1 e.1))) (λ d us good end. refl))) (λ d us good end. refl))
    sum_parts_words sum_parts_ok (λ e p d. sum_parts_tree p d) none (λ d. refl) (λ d good. good) (λ d good. good) (λ e p d. refl) (λ us end. end)

find_exact : {X : Type 0} → Exact {X = X} {A = TreeGoal} {D = Unit {0}} (λ e v. find_at v) (λ d. key (codes "FIND") ∷ sign (codes ";") ∷ []) (λ d. Unit {0}) (λ e p d. goals.Find) none
unfolding find_at
find_exact {X} = word (key_needs (codes "FIND")) (word (sign_needs (codes ";")) (value (λ (e : X). goals.Find) none))

abbrev GoalParts : Type 0
GoalParts = Either (Unit {0}) SumParts

abbrev goal_parts_words : GoalParts → List Word
goal_parts_words d = either_words (λ (d : Unit {0}). key (codes "FIND") ∷ sign (codes ";") ∷ []) sum_parts_words d

abbrev goal_parts_ok : GoalParts → Type 0
goal_parts_ok d = either_ok (λ (d : Unit {0}). Unit {0}) sum_parts_ok d

abbrev goal_parts_tree : Places → GoalParts → TreeGoal
goal_parts_tree p d = either_tree {X = Unit {0}} (λ e p (d : Unit {0}). goals.Find) (λ e p d. sum_parts_tree p d) tt p d

to_goal : GoalParts → GoalText
to_goal (one_way d) = find_goal
to_goal (other_way d) = sum_goal d.0 d.1.0 d.1.1

of_goal : GoalText → GoalParts
of_goal find_goal = one_way tt
of_goal (sum_goal maximize expr relation) = other_way (maximize, (expr, relation))

goal_chain : Exact {X = Unit {0}} {A = TreeGoal} {D = GoalParts} (λ e v. goal_at v) goal_parts_words goal_parts_ok (λ e p d. goal_parts_tree p d) none
unfolding goal_at is_key
goal_chain = branch (find_exact {X = Unit {0}}) (sum_goal_exact {X = Unit {0}}) (is_key (codes "FIND")) none (λ d us good. refl) not_find (λ us end. end) (λ us end. end)
  where
    not_find : (d : SumParts) (us : List Word) → sum_parts_ok d → starts none us ≡ false → starts (is_key (codes "FIND")) (sum_parts_words d ++ us) ≡ false
    not_find (true, d) us good end = refl
    not_find (false, d) us good end = refl

goal_made : (d : GoalParts) → goal_words (to_goal d) ≡ goal_parts_words d
unfolding to_goal goal_words
goal_made (one_way d) = refl
goal_made (other_way (true, d)) = refl
goal_made (other_way (false, d)) = refl

goal_good : (d : GoalParts) → goal_parts_ok d → goal_depth (to_goal d) ≤ 64
unfolding to_goal goal_depth
goal_good (one_way d) good = omega arith
goal_good (other_way d) good = omega (arith, good.1.0)

goal_okay : (d : GoalText) → goal_depth d ≤ 64 → goal_parts_ok (of_goal d)
unfolding of_goal goal_depth
goal_okay find_goal le = tt
goal_okay (sum_goal maximize expr relation) le = (tt, (omega (arith, le), tt))

goal_trees : (p : Places) (d : GoalParts) → goal_tree p (to_goal d) ≡ goal_parts_tree p d
unfolding to_goal goal_tree
goal_trees p (one_way d) = refl
goal_trees p (other_way d) =
    ap (λ (q : Places). goals.Sum d.0 (expr_tree q d.1.0) (spot (3 + length (expr_words d.1.0) + 2) p d.1.1)) (sym expr_is) ∙ ap (λ (s : Spot). goals.Sum d.0 (expr_tree (drop 1 (drop 1 (drop 1 p))) d.1.0) s) (sym name_there)
  where
    expr_is : drop 1 (drop 1 (drop 1 p)) ≡ drop 3 p
    expr_is = ap (drop 1) (drop-drop 1 1 p) ∙ drop-drop 1 2 p

    name_there : spot 0 (drop 1 (drop (length (in_parens (expr_words d.1.0))) (drop 1 (drop 1 p)))) d.1.1 ≡ spot (3 + length (expr_words d.1.0) + 2) p d.1.1
    name_there =
        ap (λ (q : Places). spot 0 (drop 1 (drop (length (in_parens (expr_words d.1.0))) q)) d.1.1) (drop-drop 1 1 p)
        ∙ ap (λ (q : Places). spot 0 (drop 1 q) d.1.1) (drop-drop (length (in_parens (expr_words d.1.0))) 2 p)
        ∙ ap (λ (q : Places). spot 0 q d.1.1) (drop-drop 1 (2 + length (in_parens (expr_words d.1.0))) p)
        ∙ spot_drop (2 + length (in_parens (expr_words d.1.0)) + 1) p d.1.1
        ∙ ap (λ n. spot n p d.1.1) (omega (arith, length-append (expr_words d.1.0) (sign (codes ")") ∷ [])))

goal_onto : (d : GoalText) → to_goal (of_goal d) ≡ d
unfolding to_goal of_goal
goal_onto find_goal = refl
goal_onto (sum_goal maximize expr relation) = refl

-- a goal
goal_exact : Exact {X = Unit {0}} {A = TreeGoal} {D = GoalText} (λ e v. goal_at v) goal_words (λ d. goal_depth d ≤ 64) (λ e p d. goal_tree p d) none
goal_exact = recast goal_chain goal_words (λ d. goal_depth d ≤ 64) (λ e p d. goal_tree p d) none to_goal of_goal goal_made goal_good goal_okay (λ e p d. goal_trees p d) (λ d good. goal_onto d) (λ us end. end)

declares_first : (d : DeclText) (us : List Word) → starts declares (decl_words d ++ us) ≡ true
unfolding declares decl_words table_words hypo_words view_words require_words is_key
declares_first (table_decl d) us = refl
declares_first (hypo_decl d) us = refl
declares_first (view_decl d) us = refl
declares_first (require_decl (all_have name cond)) us = refl
declares_first (require_decl (some_have name cond)) us = refl
declares_first (require_decl (none_is name)) us = refl

goal_apart : (d : GoalText) (us : List Word) → starts declares (goal_words d ++ us) ≡ false
unfolding declares goal_words is_key
goal_apart find_goal us = refl
goal_apart (sum_goal true expr relation) us = refl
goal_apart (sum_goal false expr relation) us = refl

-- the declarations and the goal, with what stands behind them
unfoldable pub whole_at : Words → Reading Tree
whole_at words = many_at declares decl_at words >>= λ decls. goal_at decls.1 >>= λ goal. Ok (record { decls = decls.0; goal = goal.0 }, goal.1)

abbrev QueryParts : Type 0
QueryParts = List DeclText × GoalText

query_trees : (p : Places) (d : QueryParts) → query_tree p (record { decls = d.0; goal = d.1 }) ≡ record { decls = many_tree {X = Unit {0}} decl_words (λ e p d. decl_tree p d) tt p d.0; goal = goal_tree (drop (length (flat_map decl_words d.0)) p) d.1 }
unfolding query_tree
query_trees p d = ap (λ (l : List Decl). made l) (sym (laid_many {X = Unit {0}} [] decl_words (λ e p d. decl_tree p d) tt p d.0))
  where
    made : List Decl → Tree
    made l = record { decls = l; goal = goal_tree (drop (length (flat_map decl_words d.0)) p) d.1 }

-- a query
pub query_exact : Exact {X = Unit {0}} {A = Tree} {D = QueryText} (λ e v. whole_at v) query_words (λ d. query_depth d ≤ 64) (λ e p d. query_tree p d) none
unfolding whole_at query_words query_depth
query_exact =
    recast (bind (many decl_exact declares declares (λ d us good. declares_first d us) (λ d us good. first_none d us) (λ us end. end) (λ us end. no_end us)) (mapped (under (λ (e : Unit {0} × List Decl). tt) goal_exact) (λ e. record { decls = e.0.1; goal = e.1 })) (λ d us good end. goal_apart d us))
    query_words (λ d. query_depth d ≤ 64) (λ e p d. query_tree p d) none (λ (d : QueryParts). record { decls = d.0; goal = d.1 }) (λ q. (q.decls, q.goal)) (λ d. refl) goods oks (λ e p d. query_trees p d) (λ d good. refl) (λ us end. end)
  where
    first_none : (d : DeclText) (us : List Word) → starts none (decl_words d ++ us) ≡ false
    first_none d us = no_end (decl_words d ++ us)

    goods : (d : QueryParts) → many_ok (λ (d : DeclText). decl_depth d ≤ 64) d.0 × (goal_depth d.1 ≤ 64) → max (deepest decl_depth d.0) (goal_depth d.1) ≤ 64
    goods d good = max-le (deepest_le decl_depth d.0 64 good.0) good.1

    oks : (q : QueryText) → max (deepest decl_depth q.decls) (goal_depth q.goal) ≤ 64 → many_ok (λ (d : DeclText). decl_depth d ≤ 64) q.decls × (goal_depth q.goal ≤ 64)
    oks q le = (deepest_all decl_depth q.decls 64 (max_front (deepest decl_depth q.decls) (goal_depth q.goal) 64 le), max_back (deepest decl_depth q.decls) (goal_depth q.goal) 64 le)
