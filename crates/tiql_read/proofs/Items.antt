-- items with a name behind AS are read exactly
use Rattle.std.proofs.Common.{◌≡◌, ℕ, ◌+◌, ◌≤◌, false, List, [], ◌∷◌, ◌++◌, length, drop, codes, refl, sym, ◌∙◌, ap, arith, Ok}
use Rattle.std.proofs.lemmas.List.{length-append}
use Rattle.base_kit.specs.declared.place.Place.{Place}
use Rattle.tiql_tree.specs.Words.{Word}
use Rattle.tiql_tree.specs.Trees.{Places, place}
use Rattle.tiql_read.specs.Steps.{Words, Reading, ◌>>=◌}
use Rattle.tiql_read.proofs.Exact.{starts, none, Exact}
use Rattle.std.proofs.lemmas.List.{drop-drop}
use Rattle.tiql_tree.specs.declared.tree.Spot.{Spot}
use Rattle.tiql_tree.specs.declared.tree.TreeItem.{TreeItem}
use Rattle.tiql_tree.specs.declared.tree.TreeValue.TheVariants as values
use Rattle.tiql_tree.specs.declared.expression.TreeExpr.{TreeExpr}
use Rattle.tiql_tree.specs.Words.{key, sign}
use Rattle.tiql_tree.specs.Texts.{ExprText}
use Rattle.tiql_tree.specs.Grammar.{expr_words, in_parens, alias_words}
use Rattle.tiql_tree.specs.Nesting.{expr_depth}
use Rattle.tiql_tree.specs.Trees.{spot, expr_tree, item_at as item_of_value}
use Rattle.tiql_read.specs.declared.word.Aggregate.{Aggregate}
use Rattle.tiql_read.specs.declared.word.Aggregate.TheVariants.{Sum, Min, Max}
use Rattle.tiql_read.specs.Steps.{is_key, is_sign, mark_at}
use Rattle.tiql_read.specs.Expressions.{place_of, adds, expression_at}
use Rattle.tiql_read.specs.Selects.{alias_at, grouped_at, aggregate_of, value_by, item_of, aggregate_at, count_at}
use Rattle.tiql_read.proofs.Rules.{Takes, one, word}
use Rattle.tiql_read.proofs.Chains.{bind}
use Rattle.tiql_read.proofs.Branches.Either.{one_way, other_way}
use Rattle.tiql_read.proofs.Branches.{Either, recast}
use Rattle.tiql_read.proofs.Lists.{value, mapped, retold, no_end}
use Rattle.tiql_read.proofs.WordTests.{sign_needs, key_needs, mark_takes, last_takes, or_takes, retake, either_key, either_value}
use Rattle.tiql_read.proofs.Leaves.{name_exact, place_drop}
use Rattle.tiql_read.proofs.Sums.{expr_ext, expr_place}
use Rattle.tiql_read.proofs.Factors.{expression_exact}

pub spot_drop : (n : ℕ) (p : Places) (name : List ℕ) → spot 0 (drop n p) name ≡ spot n p name
spot_drop n p name = ap (λ (x : Place). at x) (place_drop n p)
  where
    at : Place → Spot
    at x = record { name = name; place = x }

-- a name behind AS
pub alias_exact : {X : Type 0} → Exact {X = X} {A = Spot} {D = List ℕ} (λ e v. alias_at v) alias_words (λ d. Unit {0}) (λ e p d. spot 0 (drop 1 p) d) none
unfolding alias_at
alias_exact {X} = word (key_needs (codes "AS")) (name_exact {X = X})

closed : (d : Unit {0}) (us : List Word) → Unit {0} → starts none us ≡ false → starts expr_ext (sign (codes ")") ∷ us) ≡ false
unfolding adds is_sign
closed d us good end = refl

-- an expression in parentheses
pub grouped_exact : {X : Type 0} → Exact {X = X} {A = TreeExpr} {D = ExprText} (λ e v. grouped_at v) (λ d. in_parens (expr_words d)) (λ d. expr_depth d ≤ 63) (λ e p d. expr_tree (drop 1 p) d) none
unfolding grouped_at
grouped_exact {X} =
    recast (word (sign_needs (codes "(")) (bind (expression_exact {X = X} 63) (word (sign_needs (codes ")")) (value (λ (e : X × TreeExpr). e.1) none)) closed))
    (λ d. in_parens (expr_words d)) (λ d. expr_depth d ≤ 63) (λ e p d. expr_tree (drop 1 p) d) none (λ (d : ExprText × Unit {0}). d.0) (λ d. (d, tt)) (λ d. refl) (λ d good. good.0) (λ d good. (good, tt)) (λ e p d. refl) (λ d good. refl) (λ us end. end)

abbrev Three : Type 0
Three = Either (Unit {0}) (Either (Unit {0}) (Unit {0}))

to_aggregate : Three → Aggregate
to_aggregate (one_way d) = Sum
to_aggregate (other_way (one_way d)) = Min
to_aggregate (other_way (other_way d)) = Max

of_aggregate : Aggregate → Three
of_aggregate Sum = one_way tt
of_aggregate Min = other_way (one_way tt)
of_aggregate Max = other_way (other_way tt)

aggregate_onto : (a : Aggregate) → to_aggregate (of_aggregate a) ≡ a
unfolding to_aggregate of_aggregate
aggregate_onto Sum = refl
aggregate_onto Min = refl
aggregate_onto Max = refl

abbrev pub aggregate_key : Aggregate → Word
aggregate_key Sum = key (codes "SUM")
aggregate_key Min = key (codes "MIN")
aggregate_key Max = key (codes "MAX")

abbrev key2 : Either (Unit {0}) (Unit {0}) → Word
key2 d = either_key (key (codes "MIN")) (λ d. key (codes "MAX")) d

abbrev key1 : Three → Word
key1 d = either_key (key (codes "SUM")) key2 d

abbrev value2 : Place → Either (Unit {0}) (Unit {0}) → Aggregate × Place
value2 p d = either_value (λ p. (Min, p)) (λ p d. (Max, p)) p d

abbrev value1 : Place → Three → Aggregate × Place
value1 p d = either_value (λ p. (Sum, p)) value2 p d

aggregate_keys : (d : Three) → aggregate_key (to_aggregate d) ≡ key1 d
unfolding to_aggregate
aggregate_keys (one_way d) = refl
aggregate_keys (other_way (one_way d)) = refl
aggregate_keys (other_way (other_way d)) = refl

aggregate_values : (p : Place) (d : Three) → (to_aggregate d, p) ≡ value1 p d
unfolding to_aggregate
aggregate_values p (one_way d) = refl
aggregate_values p (other_way (one_way d)) = refl
aggregate_values p (other_way (other_way d)) = refl

no_sum : (d : Either (Unit {0}) (Unit {0})) → is_key (codes "SUM") (key2 d) ≡ false
unfolding is_key
no_sum (one_way d) = refl
no_sum (other_way d) = refl

no_min : (d : Unit {0}) → is_key (codes "MIN") (key (codes "MAX")) ≡ false
unfolding is_key
no_min d = refl

aggregate_takes : Takes {A = Aggregate × Place} {D = Aggregate} aggregate_of aggregate_key (λ p a. (a, p))
unfolding aggregate_of
aggregate_takes =
    retake {t = value1}
    (or_takes (is_key (codes "SUM")) (key (codes "SUM")) (λ p. (Sum, p)) (key_needs (codes "SUM"))
    (or_takes (is_key (codes "MIN")) (key (codes "MIN")) (λ p. (Min, p)) (key_needs (codes "MIN"))
    (last_takes (is_key (codes "MAX")) (key (codes "MAX")) (λ p. (Max, p)) (key_needs (codes "MAX"))) no_min) no_sum)
    aggregate_key (λ p a. (a, p)) to_aggregate of_aggregate aggregate_keys aggregate_values aggregate_onto

-- SUM, MIN or MAX of an expression
abbrev pub Aggregated : Type 0
Aggregated = Aggregate × (ExprText × List ℕ)

abbrev pub aggregated_words : Aggregated → List Word
aggregated_words d = aggregate_key d.0 ∷ (in_parens (expr_words d.1.0) ++ alias_words d.1.1)

abbrev pub aggregated_tree : Places → Aggregated → TreeItem
aggregated_tree p d = item_of_value p (value_by d.0 (expr_tree (drop 2 p) d.1.0)) (3 + length (expr_words d.1.0)) d.1.1

pub aggregate_exact : {X : Type 0} → Exact {X = X} {A = TreeItem} {D = Aggregated} (λ e v. aggregate_at v) aggregated_words (λ d. expr_depth d.1.0 ≤ 63) (λ e p d. aggregated_tree p d) none
unfolding aggregate_at
aggregate_exact {X} =
    retold {D = Aggregated}
    (bind (one {X = X} aggregate_takes) (bind (grouped_exact {X = X × (Aggregate × Place)}) (mapped (alias_exact {X = (X × (Aggregate × Place)) × TreeExpr}) (λ e. item_of e.0.0.1.1 (value_by e.0.0.1.0 e.0.1) e.1)) (λ d us good end. no_end (alias_words d ++ us))) (λ d us good end. no_end ((in_parens (expr_words d.0) ++ alias_words d.1) ++ us)))
    aggregated_words (λ d. expr_depth d.1.0 ≤ 63) (λ e p d. aggregated_tree p d) none (λ d. refl) (λ d good. good.1.0) (λ d good. (tt, (good, tt))) trees (λ us end. end)
  where
    size : (d : Aggregated) → 3 + length (expr_words d.1.0) + 1 ≡ 1 + length (in_parens (expr_words d.1.0)) + 1
    size d = omega (arith, length-append (expr_words d.1.0) (sign (codes ")") ∷ []))

    trees : (e : X) (p : Places) (d : Aggregated) → aggregated_tree p d ≡ item_of (place 0 p) (value_by d.0 (expr_tree (drop 1 (drop 1 p)) d.1.0)) (spot 0 (drop 1 (drop (length (in_parens (expr_words d.1.0))) (drop 1 p))) d.1.1)
    trees e p d =
        let name : spot (3 + length (expr_words d.1.0) + 1) p d.1.1 ≡ spot 0 (drop 1 (drop (length (in_parens (expr_words d.1.0))) (drop 1 p))) d.1.1 =
        ap (λ n. spot n p d.1.1) (size d) ∙ sym (spot_drop (1 + length (in_parens (expr_words d.1.0)) + 1) p d.1.1)
        ∙ ap (λ (q : Places). spot 0 q d.1.1) (sym (ap (drop 1) (drop-drop (length (in_parens (expr_words d.1.0))) 1 p) ∙ drop-drop 1 (1 + length (in_parens (expr_words d.1.0))) p)) in
        ap (λ (s : Spot). item_of (place 0 p) (value_by d.0 (expr_tree (drop 2 p) d.1.0)) s) name
        ∙ ap (λ (q : Places). item_of (place 0 p) (value_by d.0 (expr_tree q d.1.0)) (spot 0 (drop 1 (drop (length (in_parens (expr_words d.1.0))) (drop 1 p))) d.1.1)) (sym (drop-drop 1 1 p))

-- COUNT(*)
abbrev pub counted_words : List ℕ → List Word
counted_words name = key (codes "COUNT") ∷ (in_parens (sign (codes "*") ∷ []) ++ alias_words name)

pub count_exact : {X : Type 0} → Exact {X = X} {A = TreeItem} {D = List ℕ} (λ e v. count_at v) counted_words (λ d. Unit {0}) (λ e p d. item_of_value p values.Count 4 d) none
unfolding count_at mark_at
count_exact {X} =
    recast (bind (one {X = X} (mark_takes (is_key (codes "COUNT")) (key (codes "COUNT")) (key_needs (codes "COUNT"))))
    (word (sign_needs (codes "(")) (word (sign_needs (codes "*")) (word (sign_needs (codes ")")) (mapped (alias_exact {X = X × Place}) (λ e. item_of e.0.1 values.Count e.1))))) (λ d us good end. no_end (sign (codes "(") ∷ sign (codes "*") ∷ sign (codes ")") ∷ (alias_words d ++ us))))
    counted_words (λ d. Unit {0}) (λ e p d. item_of_value p values.Count 4 d) none (λ (d : Unit {0} × List ℕ). d.1) (λ d. (tt, d)) (λ d. refl) (λ d good. tt) (λ d good. (tt, tt)) trees (λ d good. refl) (λ us end. end)
  where
    trees : (e : X) (p : Places) (d : Unit {0} × List ℕ) → item_of_value p values.Count 4 d.1 ≡ item_of (place 0 p) values.Count (spot 0 (drop 1 (drop 1 (drop 1 (drop 1 (drop 1 p))))) d.1)
    trees e p d = ap (λ (s : Spot). item_of (place 0 p) values.Count s) (sym (spot_drop 5 p d.1) ∙ ap (λ (q : Places). spot 0 q d.1) (sym (drops p)))
      where
        drops : (p : Places) → drop 1 (drop 1 (drop 1 (drop 1 (drop 1 p)))) ≡ drop 5 p
        drops p = ap (λ (q : Places). drop 1 (drop 1 (drop 1 q))) (drop-drop 1 1 p) ∙ ap (λ (q : Places). drop 1 (drop 1 q)) (drop-drop 1 2 p) ∙ ap (drop 1) (drop-drop 1 3 p) ∙ drop-drop 1 4 p

-- an expression with a name
abbrev pub plain_words : ExprText × List ℕ → List Word
plain_words d = expr_words d.0 ++ alias_words d.1

abbrev pub plain_tree : Places → ExprText × List ℕ → TreeItem
plain_tree p d = item_of_value p (values.Plain (expr_tree p d.0)) (length (expr_words d.0)) d.1

as_ends : (d : List ℕ) (us : List Word) → starts expr_ext (alias_words d ++ us) ≡ false
unfolding adds is_sign
as_ends d us = refl

-- an expression and a name behind AS
unfoldable pub with_alias_at : Words → Reading TreeItem
with_alias_at words = expression_at 64 words >>= λ part. alias_at part.1 >>= λ name. Ok (item_of (place_of part.0) (values.Plain part.0) name.0, name.1)

pub with_alias_exact : {X : Type 0} → Exact {X = X} {A = TreeItem} {D = ExprText × List ℕ} (λ e v. with_alias_at v) plain_words (λ d. expr_depth d.0 ≤ 64) (λ e p d. plain_tree p d) none
unfolding with_alias_at
with_alias_exact {X} =
    retold {D = ExprText × List ℕ} (bind (expression_exact {X = X} 64) (mapped (alias_exact {X = X × TreeExpr}) (λ e. item_of (place_of e.0.1) (values.Plain e.0.1) e.1)) (λ d us good end. as_ends d us))
    plain_words (λ d. expr_depth d.0 ≤ 64) (λ e p d. plain_tree p d) none (λ d. refl) (λ d good. good.0) (λ d good. (good, tt)) trees (λ us end. end)
  where
    trees : (e : X) (p : Places) (d : ExprText × List ℕ) → plain_tree p d ≡ item_of (place_of (expr_tree p d.0)) (values.Plain (expr_tree p d.0)) (spot 0 (drop 1 (drop (length (expr_words d.0)) p)) d.1)
    trees e p d =
        ap (λ (x : Place). item_of x (values.Plain (expr_tree p d.0)) (spot (length (expr_words d.0) + 1) p d.1)) (sym (expr_place p d.0))
        ∙ ap (λ (s : Spot). item_of (place_of (expr_tree p d.0)) (values.Plain (expr_tree p d.0)) s) (sym (spot_drop (length (expr_words d.0) + 1) p d.1) ∙ ap (λ (q : Places). spot 0 q d.1) (sym (drop-drop 1 (length (expr_words d.0)) p)))
