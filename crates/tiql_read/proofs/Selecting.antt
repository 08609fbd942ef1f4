-- selects are read exactly
use Rattle.std.proofs.Common.{◌≡◌, ℕ, ◌+◌, ◌≤◌, Bool, true, false, cond, List, [], ◌∷◌, ◌++◌, length, drop, codes, refl, sym, ◌∙◌, ap, append_assoc, arith}
use Rattle.std.specs.declared.option.Option.{Option}
use Rattle.std.specs.declared.option.Option.TheVariants.{None, Some}
use Rattle.base_kit.specs.declared.place.Place.{Place}
use Rattle.tiql_tree.specs.Words.{Word}
use Rattle.tiql_tree.specs.Trees.{Places, place}
use Rattle.tiql_read.specs.Steps.{begins}
use Rattle.tiql_read.proofs.Exact.{starts, none, Exact}
use Rattle.std.proofs.Math.Nat.{max-le}
use Rattle.std.proofs.lemmas.List.{drop-drop}
use Rattle.std.specs.List.{flat_map}
use Rattle.tiql_tree.specs.declared.tree.Spot.{Spot}
use Rattle.tiql_tree.specs.declared.tree.TreeItem.{TreeItem}
use Rattle.tiql_tree.specs.declared.tree.TreeSource.{TreeSource}
use Rattle.tiql_tree.specs.declared.tree.TreeSelect.{TreeSelect}
use Rattle.tiql_tree.specs.declared.tree.TreeValue.TheVariants as values
use Rattle.tiql_tree.specs.declared.expression.TreeRef.{TreeRef}
use Rattle.tiql_tree.specs.declared.condition.TreeCond.{TreeCond}
use Rattle.tiql_tree.specs.Words.{key, sign, named, Several, parts_of, with_between}
use Rattle.tiql_tree.specs.Texts.{RefText, CondText, ItemText, SourceText, SelectText}
use Rattle.tiql_tree.specs.Texts.RefText.{alone, qualified}
use Rattle.tiql_tree.specs.Texts.ItemText.{lone_ref, plain_item, sum_item, min_item, max_item, count_item}
use Rattle.tiql_tree.specs.Grammar.{comma, optional, ref_words, expr_words, cond_words, alias_words, item_words, source_words, filter_words, select_words}
use Rattle.tiql_tree.specs.Nesting.{deepest, expr_depth, cond_depth, item_depth, filter_depth, select_depth}
use Rattle.tiql_tree.specs.Trees.{spot, laid, laid_if, ref_tree, cond_tree, filter_tree, item_tree, source_tree, select_tree, item_at as item_of_value}
use Rattle.tiql_read.specs.declared.word.Aggregate.TheVariants.{Sum, Min, Max}
use Rattle.tiql_read.specs.Steps.{is_key, is_sign, mark_at}
use Rattle.tiql_read.specs.Expressions.{adds}
use Rattle.tiql_read.specs.Selects.{is_aggregate, aggregate_at, count_at, plain_at, item_at, alias_if, source_of, source_at, filter_at, group_at, distinct_at, select_at}
use Rattle.tiql_read.proofs.Rules.{one, word}
use Rattle.tiql_read.proofs.Chains.{bind}
use Rattle.tiql_read.proofs.Branches.Either.{one_way, other_way}
use Rattle.tiql_read.proofs.Branches.{Either, either_words, either_ok, either_tree, branch, recast, wider}
use Rattle.tiql_read.proofs.Many.{many_ok}
use Rattle.tiql_read.proofs.Lists.{or_else, or_first, or_second, value, maybe, maybe_ok, maybe_tree, mapped, retold, several_ok, several_tree, listed, no_end}
use Rattle.tiql_read.proofs.Depths.{deepest_all, deepest_le}
use Rattle.tiql_read.proofs.WordTests.{key_needs, mark_takes}
use Rattle.tiql_read.proofs.Leaves.{name_exact, ref_exact}
use Rattle.tiql_read.proofs.Heads.{NoHead, expr_head}
use Rattle.tiql_read.proofs.Sums.{anywhere, max_front, max_back}
use Rattle.tiql_read.proofs.Units.{cond_ext, condition_exact}
use Rattle.tiql_read.proofs.Items.{spot_drop, alias_exact, Aggregated, aggregated_words, aggregated_tree, aggregate_exact, counted_words, count_exact}
use Rattle.tiql_read.proofs.Lone.{Plain, item_ext, item_words_of, item_ok_of, item_tree_of, plain_exact}

abbrev AnyItem : Type 0
AnyItem = Either Aggregated (Either (List ℕ) Plain)

abbrev any_words : AnyItem → List Word
any_words d = either_words aggregated_words (either_words counted_words item_words_of) d

abbrev any_ok : AnyItem → Type 0
any_ok d = either_ok (λ (d : Aggregated). expr_depth d.1.0 ≤ 63) (either_ok (λ (d : List ℕ). Unit {0}) item_ok_of) d

abbrev any_tree : Unit {0} → Places → AnyItem → TreeItem
any_tree e p d = either_tree {X = Unit {0}} (λ e p d. aggregated_tree p d) (either_tree {X = Unit {0}} (λ e p d. item_of_value p values.Count 4 d) item_tree_of) e p d

to_item : AnyItem → ItemText
to_item (one_way (Sum, (expr, name))) = sum_item expr name
to_item (one_way (Min, (expr, name))) = min_item expr name
to_item (one_way (Max, (expr, name))) = max_item expr name
to_item (other_way (one_way name)) = count_item name
to_item (other_way (other_way (one_way ref))) = lone_ref ref
to_item (other_way (other_way (other_way d))) = plain_item d.0 d.1

of_item : ItemText → AnyItem
of_item (lone_ref ref) = other_way (other_way (one_way ref))
of_item (plain_item expr name) = other_way (other_way (other_way (expr, name)))
of_item (sum_item expr name) = one_way (Sum, (expr, name))
of_item (min_item expr name) = one_way (Min, (expr, name))
of_item (max_item expr name) = one_way (Max, (expr, name))
of_item (count_item name) = other_way (one_way name)

item_made : (d : AnyItem) → item_words (to_item d) ≡ any_words d
unfolding to_item item_words
item_made (one_way (Sum, (expr, name))) = refl
item_made (one_way (Min, (expr, name))) = refl
item_made (one_way (Max, (expr, name))) = refl
item_made (other_way (one_way name)) = refl
item_made (other_way (other_way (one_way ref))) = refl
item_made (other_way (other_way (other_way d))) = refl

item_good : (d : AnyItem) → any_ok d → item_depth (to_item d) ≤ 64
unfolding to_item item_depth
item_good (one_way (Sum, (expr, name))) good = omega (arith, good)
item_good (one_way (Min, (expr, name))) good = omega (arith, good)
item_good (one_way (Max, (expr, name))) good = omega (arith, good)
item_good (other_way (one_way name)) good = omega arith
item_good (other_way (other_way (one_way ref))) good = omega arith
item_good (other_way (other_way (other_way d))) good = good

item_okay : (d : ItemText) → item_depth d ≤ 64 → any_ok (of_item d)
unfolding of_item item_depth
item_okay (lone_ref ref) le = tt
item_okay (plain_item expr name) le = le
item_okay (sum_item expr name) le = omega (arith, le)
item_okay (min_item expr name) le = omega (arith, le)
item_okay (max_item expr name) le = omega (arith, le)
item_okay (count_item name) le = tt

item_trees : (e : Unit {0}) (p : Places) (d : AnyItem) → item_tree p (to_item d) ≡ any_tree e p d
unfolding to_item item_tree
item_trees e p (one_way (Sum, (expr, name))) = refl
item_trees e p (one_way (Min, (expr, name))) = refl
item_trees e p (one_way (Max, (expr, name))) = refl
item_trees e p (other_way (one_way name)) = refl
item_trees e p (other_way (other_way (one_way ref))) = refl
item_trees e p (other_way (other_way (other_way d))) = refl

item_onto : (d : ItemText) → to_item (of_item d) ≡ d
unfolding to_item of_item
item_onto (lone_ref ref) = refl
item_onto (plain_item expr name) = refl
item_onto (sum_item expr name) = refl
item_onto (min_item expr name) = refl
item_onto (max_item expr name) = refl
item_onto (count_item name) = refl

aggregate_first : (d : Aggregated) (us : List Word) → starts is_aggregate (aggregated_words d ++ us) ≡ true
unfolding is_aggregate is_key
aggregate_first (Sum, d) us = refl
aggregate_first (Min, d) us = refl
aggregate_first (Max, d) us = refl

no_aggregate : NoHead is_aggregate
unfolding is_aggregate is_key
no_aggregate = record { minus = refl; paren = refl; abs = refl; number = λ n. refl; text = λ v. refl; name = λ n. refl }

no_count : NoHead (is_key (codes "COUNT"))
unfolding is_key
no_count = record { minus = refl; paren = refl; abs = refl; number = λ n. refl; text = λ v. refl; name = λ n. refl }

plain_head : {test : Word → Bool} → NoHead test → (d : Plain) (us : List Word) → starts test (item_words_of d ++ us) ≡ false
unfolding ref_words
plain_head never (one_way (alone n)) us = never.name n
plain_head never (one_way (qualified n m)) us = never.name n
plain_head {test} never (other_way d) us = ap (starts test) (append_assoc (expr_words d.0) (alias_words d.1) us) ∙ expr_head never d.0 (alias_words d.1 ++ us)

count_apart : (d : Either (List ℕ) Plain) (us : List Word) → starts is_aggregate (either_words counted_words item_words_of d ++ us) ≡ false
unfolding is_aggregate is_key
count_apart (one_way name) us = refl
count_apart (other_way d) us = plain_head no_aggregate d us

count_first : (name : List ℕ) (us : List Word) → starts (is_key (codes "COUNT")) (counted_words name ++ us) ≡ true
unfolding is_key
count_first name us = refl

-- an item
pub item_exact : {X : Type 0} → Exact {X = X} {A = TreeItem} {D = ItemText} (λ e v. item_at v) item_words (λ d. item_depth d ≤ 64) (λ e p d. item_tree p d) item_ext
unfolding item_at
item_exact {X} = anywhere {X = X} here
  where
    here : Exact {X = Unit {0}} {A = TreeItem} {D = ItemText} (λ e v. cond (begins is_aggregate v) (aggregate_at v) (cond (begins (is_key (codes "COUNT")) v) (count_at v) (plain_at v))) item_words (λ d. item_depth d ≤ 64) (λ e p d. item_tree p d) item_ext
    here =
        recast (branch (aggregate_exact {X = Unit {0}}) (branch (count_exact {X = Unit {0}}) plain_exact (is_key (codes "COUNT")) item_ext (λ d us good. count_first d us) (λ d us good end. plain_head no_count d us) (λ us end. no_end us) (λ us end. end)) is_aggregate item_ext
        (λ d us good. aggregate_first d us) (λ d us good end. count_apart d us) (λ us end. no_end us) (λ us end. end))
        item_words (λ d. item_depth d ≤ 64) (λ e p d. item_tree p d) item_ext to_item of_item item_made item_good item_okay item_trees (λ d good. item_onto d) (λ us end. end)

-- a name behind AS, if AS stands there
alias_if_exact : {X : Type 0} → Exact {X = X} {A = Option Spot} {D = Option (List ℕ)} (λ e v. alias_if v) (λ d. optional alias_words d) (maybe_ok (λ d. Unit {0})) (maybe_tree {X = X} (λ e. None) (λ e p d. Some (spot 0 (drop 1 p) d))) (is_key (codes "AS"))
unfolding alias_if
alias_if_exact {X} = maybe (mapped (alias_exact {X = X}) (λ e. Some e.1)) (is_key (codes "AS")) (is_key (codes "AS")) (λ e. None) (λ d us good. (key_needs (codes "AS")).hit) (λ us end. end) (λ us end. no_end us)

to_source : List ℕ × Option (List ℕ) → SourceText
to_source d = record { relation = d.0; alias = d.1 }

of_source : SourceText → List ℕ × Option (List ℕ)
of_source d = (d.relation, d.alias)

source_made : (d : List ℕ × Option (List ℕ)) → source_words (to_source d) ≡ named d.0 ∷ optional alias_words d.1
unfolding to_source source_words
source_made d = refl

source_good : (d : SourceText) → Unit {0} → Unit {0} × maybe_ok (λ (d : List ℕ). Unit {0}) (of_source d).1
unfolding of_source
source_good d good = (tt, any d.alias)
  where
    any : (o : Option (List ℕ)) → maybe_ok (λ (d : List ℕ). Unit {0}) o
    any None = tt
    any (Some d) = tt

source_trees : {X : Type 0} (e : X) (p : Places) (d : List ℕ × Option (List ℕ)) → source_tree p (to_source d) ≡ source_of (spot 0 p d.0) (maybe_tree {X = X} (λ e. None) (λ e p d. Some (spot 0 (drop 1 p) d)) e (drop 1 p) d.1)
unfolding to_source source_tree
source_trees e p (name, None) = refl
source_trees e p (name, Some alias) = ap (λ (s : Spot). source_of (spot 0 p name) (Some s)) (sym (spot_drop 2 p alias) ∙ ap (λ (q : Places). spot 0 q alias) (sym (drop-drop 1 1 p)))

source_onto : (d : SourceText) → to_source (of_source d) ≡ d
unfolding to_source of_source
source_onto d = refl

-- a source
pub source_exact : {X : Type 0} → Exact {X = X} {A = TreeSource} {D = SourceText} (λ e v. source_at v) source_words (λ d. Unit {0}) (λ e p d. source_tree p d) (is_key (codes "AS"))
unfolding source_at
source_exact {X} =
    recast (bind (name_exact {X = X}) (mapped (alias_if_exact {X = X × Spot}) (λ e. source_of e.0.1 e.1)) (λ d us good end. no_end (optional alias_words d ++ us)))
    source_words (λ d. Unit {0}) (λ e p d. source_tree p d) (is_key (codes "AS")) to_source of_source source_made (λ d good. tt) source_good source_trees (λ d good. source_onto d) (λ us end. end)

-- WHERE goes on with what a condition may follow, and a condition with what goes on with it
abbrev pub filter_ext : Word → Bool
filter_ext = or_else (is_key (codes "WHERE")) cond_ext

abbrev pub filter_ok : Option CondText → Type 0
filter_ok d = maybe_ok (λ (d : CondText). cond_depth d ≤ 64) d

pub filter_exact : {X : Type 0} → Exact {X = X} {A = Option TreeCond} {D = Option CondText} (λ e v. filter_at v) filter_words (λ d. filter_depth d ≤ 64) (λ e p d. filter_tree p d) filter_ext
unfolding filter_at
filter_exact {X} =
    retold (maybe (word (key_needs (codes "WHERE")) (mapped (condition_exact {X = X} 64) (λ e. Some e.1))) (is_key (codes "WHERE")) filter_ext (λ e. None) (λ d us good. (key_needs (codes "WHERE")).hit) (or_first (is_key (codes "WHERE")) cond_ext) (or_second (is_key (codes "WHERE")) cond_ext))
    filter_words (λ d. filter_depth d ≤ 64) (λ e p d. filter_tree p d) filter_ext words goods oks trees (λ us end. end)
  where
    words : (d : Option CondText) → filter_words d ≡ optional (λ cond. key (codes "WHERE") ∷ cond_words cond) d
    words d = refl

    goods : (d : Option CondText) → filter_ok d → filter_depth d ≤ 64
    goods None good = omega arith
    goods (Some d) good = good

    oks : (d : Option CondText) → filter_depth d ≤ 64 → filter_ok d
    oks None good = tt
    oks (Some d) good = good

    trees : (e : X) (p : Places) (d : Option CondText) → filter_tree p d ≡ maybe_tree {X = X} (λ e. None) (λ e p d. Some (cond_tree (drop 1 p) d)) e p d
    trees e p None = refl
    trees e p (Some d) = refl

abbrev group_words : Option (Several RefText) → List Word
group_words d = optional (λ refs. key (codes "GROUP") ∷ key (codes "BY") ∷ with_between comma ref_words refs) d

-- the columns behind GROUP BY, which nothing follows that goes on with them
abbrev refs_ext : Word → Bool
refs_ext = or_else (is_sign (codes ",")) (is_sign (codes "."))

abbrev group_ext : Word → Bool
group_ext = or_else (is_key (codes "GROUP")) refs_ext

no_refs : (us : List Word) → starts (is_sign (codes ".")) (sign (codes ",") ∷ us) ≡ false
unfolding is_sign
no_refs us = refl

group_exact : {X : Type 0} → Exact {X = X} {A = List TreeRef} {D = Option (Several RefText)} (λ e v. group_at v) group_words (λ d. Unit {0}) (λ e p d. laid_if (λ ref. length (ref_words ref)) ref_tree (drop 2 p) d) group_ext
unfolding group_at
group_exact {X} =
    retold (maybe (word (key_needs (codes "GROUP")) (word (key_needs (codes "BY")) (listed (ref_exact {X = X}) no_refs))) (is_key (codes "GROUP")) group_ext (λ e. []) (λ d us good. (key_needs (codes "GROUP")).hit) (or_first (is_key (codes "GROUP")) refs_ext) (or_second (is_key (codes "GROUP")) refs_ext))
    group_words (λ d. Unit {0}) (λ e p d. laid_if (λ ref. length (ref_words ref)) ref_tree (drop 2 p) d) group_ext (λ d. refl) (λ d good. tt) oks trees (λ us end. end)
  where
    all_fine : (ds : List RefText) → many_ok (λ d. Unit {0}) ds
    all_fine [] = tt
    all_fine (d ∷ ds) = (tt, all_fine ds)

    oks : (d : Option (Several RefText)) → Unit {0} → maybe_ok (several_ok (λ (d : RefText). Unit {0})) d
    oks None good = tt
    oks (Some d) good = (tt, all_fine d.more)

    trees : (e : X) (p : Places) (d : Option (Several RefText)) → laid_if (λ ref. length (ref_words ref)) ref_tree (drop 2 p) d ≡ maybe_tree {X = X} (λ e. []) (λ e p d. several_tree {X = X} 1 ref_words (λ e p d. ref_tree p d) e (drop 1 (drop 1 p)) d) e p d
    trees e p None = refl
    trees e p (Some d) = ap (λ (q : Places). laid 1 (λ ref. length (ref_words ref)) ref_tree q (parts_of d)) (sym (drop-drop 1 1 p))

abbrev distinct_words : Bool → List Word
distinct_words d = cond d (key (codes "DISTINCT") ∷ []) []

distinct_exact : {X : Type 0} → Exact {X = X} {A = Bool} {D = Bool} (λ e v. distinct_at v) distinct_words (λ d. Unit {0}) (λ e p d. d) (is_key (codes "DISTINCT"))
unfolding distinct_at
distinct_exact {X} =
    recast (maybe (word (key_needs (codes "DISTINCT")) (value (λ (e : X). true) none)) (is_key (codes "DISTINCT")) (is_key (codes "DISTINCT")) (λ e. false) (λ d us good. (key_needs (codes "DISTINCT")).hit) (λ us end. end) (λ us end. no_end us))
    distinct_words (λ d. Unit {0}) (λ e p d. d) (is_key (codes "DISTINCT")) to back words (λ d good. tt) oks values onto (λ us end. end)
  where
    to : Option (Unit {0}) → Bool
    to None = false
    to (Some d) = true

    back : Bool → Option (Unit {0})
    back true = Some tt
    back false = None

    words : (d : Option (Unit {0})) → distinct_words (to d) ≡ optional (λ (d : Unit {0}). key (codes "DISTINCT") ∷ []) d
    words None = refl
    words (Some d) = refl

    oks : (d : Bool) → Unit {0} → maybe_ok (λ (d : Unit {0}). Unit {0}) (back d)
    oks true good = tt
    oks false good = tt

    values : (e : X) (p : Places) (d : Option (Unit {0})) → to d ≡ maybe_tree {X = X} (λ e. false) (λ e p (d : Unit {0}). true) e p d
    values e p None = refl
    values e p (Some d) = refl

    onto : (d : Bool) → Unit {0} → to (back d) ≡ d
    onto true good = refl
    onto false good = refl

-- what goes on with a select
abbrev sources_ext : Word → Bool
sources_ext = or_else (is_sign (codes ",")) (is_key (codes "AS"))

abbrev pub select_ext : Word → Bool
select_ext = or_else group_ext (or_else filter_ext sources_ext)

abbrev Behind : Type 0
Behind = Option CondText × Option (Several RefText)

abbrev Chosen : Type 0
Chosen = Unit {0} × (Bool × (Several ItemText × (Several SourceText × Behind)))

filter_end : (us : List Word) → starts select_ext us ≡ false → starts filter_ext us ≡ false
filter_end us end = or_first filter_ext sources_ext us (or_second group_ext (or_else filter_ext sources_ext) us end)

sources_end : (us : List Word) → starts select_ext us ≡ false → starts sources_ext us ≡ false
sources_end us end = or_second filter_ext sources_ext us (or_second group_ext (or_else filter_ext sources_ext) us end)

filter_apart : (d : Option (Several RefText)) (us : List Word) → starts select_ext us ≡ false → starts filter_ext (group_words d ++ us) ≡ false
unfolding is_key is_sign adds
filter_apart None us end = filter_end us end
filter_apart (Some d) us end = refl

sources_apart : (d : Behind) (us : List Word) → starts select_ext us ≡ false → starts sources_ext ((filter_words d.0 ++ group_words d.1) ++ us) ≡ false
unfolding is_key is_sign
sources_apart (None, None) us end = sources_end us end
sources_apart (None, Some g) us end = refl
sources_apart (Some f, g) us end = refl

items_apart : (us : List Word) → starts (or_else (is_sign (codes ",")) item_ext) (key (codes "FROM") ∷ us) ≡ false
unfolding is_key is_sign adds
items_apart us = refl

no_distinct : NoHead (is_key (codes "DISTINCT"))
unfolding is_key
no_distinct = record { minus = refl; paren = refl; abs = refl; number = λ n. refl; text = λ v. refl; name = λ n. refl }

item_distinct : (d : ItemText) (us : List Word) → starts (is_key (codes "DISTINCT")) (item_words d ++ us) ≡ false
unfolding item_words is_key
item_distinct (lone_ref ref) us = plain_head no_distinct (one_way ref) us
item_distinct (plain_item expr name) us = plain_head no_distinct (other_way (expr, name)) us
item_distinct (sum_item expr name) us = refl
item_distinct (min_item expr name) us = refl
item_distinct (max_item expr name) us = refl
item_distinct (count_item name) us = refl

items_distinct : (items : Several ItemText) (rest us : List Word) → starts (is_key (codes "DISTINCT")) ((with_between comma item_words items ++ rest) ++ us) ≡ false
items_distinct items rest us =
    ap (starts (is_key (codes "DISTINCT"))) (append_assoc (item_words items.first ++ flat_map (λ d. comma ++ item_words d) items.more) rest us ∙ append_assoc (item_words items.first) (flat_map (λ d. comma ++ item_words d) items.more) (rest ++ us))
    ∙ item_distinct items.first (flat_map (λ d. comma ++ item_words d) items.more ++ (rest ++ us))

as_comma : (us : List Word) → starts (is_key (codes "AS")) (sign (codes ",") ∷ us) ≡ false
unfolding is_key
as_comma us = refl

item_comma : (us : List Word) → starts item_ext (sign (codes ",") ∷ us) ≡ false
unfolding is_key is_sign adds
item_comma us = refl

to_select : Chosen → SelectText
to_select d = record { is_distinct = d.1.0; items = d.1.1.0; sources = d.1.1.1.0; filter = d.1.1.1.1.0; group = d.1.1.1.1.1 }

of_select : SelectText → Chosen
of_select s = (tt, (s.is_distinct, (s.items, (s.sources, (s.filter, s.group)))))

chosen_words : Chosen → List Word
chosen_words d = key (codes "SELECT") ∷ (distinct_words d.1.0 ++ (with_between comma item_words d.1.1.0 ++ key (codes "FROM") ∷ (with_between comma source_words d.1.1.1.0 ++ (filter_words d.1.1.1.1.0 ++ group_words d.1.1.1.1.1))))

in_turn : (k : Word) (a i : List Word) (f : Word) (s w g : List Word) → k ∷ a ++ i ++ f ∷ s ++ w ++ g ≡ k ∷ (a ++ (i ++ f ∷ (s ++ (w ++ g))))
in_turn k a i f s w g = simp (append_assoc) refl

select_made : (d : Chosen) → select_words (to_select d) ≡ chosen_words d
unfolding to_select select_words chosen_words
select_made d =
    in_turn (key (codes "SELECT")) (distinct_words d.1.0) (with_between comma item_words d.1.1.0) (key (codes "FROM")) (with_between comma source_words d.1.1.1.0) (filter_words d.1.1.1.1.0) (group_words d.1.1.1.1.1)

chosen_ok : Chosen → Type 0
chosen_ok d = Unit {0} × (Unit {0} × (several_ok (λ (d : ItemText). item_depth d ≤ 64) d.1.1.0 × (several_ok (λ (d : SourceText). Unit {0}) d.1.1.1.0 × ((filter_depth d.1.1.1.1.0 ≤ 64) × Unit {0}))))

all_fine : {A : Type 0} (ds : List A) → many_ok (λ d. Unit {0}) ds
all_fine [] = tt
all_fine (d ∷ ds) = (tt, all_fine ds)

select_good : (d : Chosen) → chosen_ok d → select_depth (to_select d) ≤ 64
unfolding to_select select_depth chosen_ok
select_good d good = max-le (deepest_le item_depth (parts_of d.1.1.0) 64 good.1.1.0) good.1.1.1.1.0

select_okay : (s : SelectText) → select_depth s ≤ 64 → chosen_ok (of_select s)
unfolding of_select select_depth chosen_ok
select_okay s le =
    let items = deepest_all item_depth (parts_of s.items) 64 (max_front (deepest item_depth (parts_of s.items)) (filter_depth s.filter) 64 le) in
    (tt, (tt, (items, ((tt, all_fine s.sources.more), (max_back (deepest item_depth (parts_of s.items)) (filter_depth s.filter) 64 le, tt)))))

abbrev select_at_places : Chosen → Places → Places → Places → Places → Places → TreeSelect
select_at_places d p items sources filter group = record {
  place = place 0 p;
  distinct = d.1.0;
  items = laid 1 (λ item. length (item_words item)) item_tree items (parts_of d.1.1.0);
  sources = laid 1 (λ source. length (source_words source)) source_tree sources (parts_of d.1.1.1.0);
  filter = filter_tree filter d.1.1.1.1.0;
  group = laid_if (λ ref. length (ref_words ref)) ref_tree group d.1.1.1.1.1;
}

abbrev items_behind : Chosen → Places → Places
items_behind d p = drop (length (distinct_words d.1.0)) (drop 1 p)

abbrev sources_behind : Chosen → Places → Places
sources_behind d p = drop 1 (drop (length (with_between comma item_words d.1.1.0)) (items_behind d p))

abbrev filter_behind : Chosen → Places → Places
filter_behind d p = drop (length (with_between comma source_words d.1.1.1.0)) (sources_behind d p)

abbrev group_behind : Chosen → Places → Places
group_behind d p = drop (length (filter_words d.1.1.1.1.0)) (filter_behind d p)

chosen_tree : Places → Chosen → TreeSelect
chosen_tree p d = select_at_places d p (items_behind d p) (sources_behind d p) (filter_behind d p) (drop 2 (group_behind d p))

select_trees : (p : Places) (d : Chosen) → select_tree p (to_select d) ≡ chosen_tree p d
unfolding to_select select_tree chosen_tree
select_trees p d =
    ap (λ (q : Places). select_at_places d p q (drop sources p) (drop filter p) (drop group p)) (sym items_is)
    ∙ ap (λ (q : Places). select_at_places d p (items_behind d p) q (drop filter p) (drop group p)) (sym sources_is)
    ∙ ap (λ (q : Places). select_at_places d p (items_behind d p) (sources_behind d p) q (drop group p)) (sym filter_is)
    ∙ ap (λ (q : Places). select_at_places d p (items_behind d p) (sources_behind d p) (filter_behind d p) q) (sym group_is)
  where
    items : ℕ
    items = cond d.1.0 2 1

    sources : ℕ
    sources = items + length (with_between comma item_words d.1.1.0) + 1

    filter : ℕ
    filter = sources + length (with_between comma source_words d.1.1.1.0)

    group : ℕ
    group = filter + length (filter_words d.1.1.1.1.0) + 2

    size : (b : Bool) → 1 + length (distinct_words b) ≡ cond b 2 1
    size true = refl
    size false = refl

    items_is : items_behind d p ≡ drop items p
    items_is = drop-drop (length (distinct_words d.1.0)) 1 p ∙ ap (λ n. drop n p) (size d.1.0)

    sources_is : sources_behind d p ≡ drop sources p
    sources_is = ap (λ (q : Places). drop 1 (drop (length (with_between comma item_words d.1.1.0)) q)) items_is ∙ ap (drop 1) (drop-drop (length (with_between comma item_words d.1.1.0)) items p) ∙ drop-drop 1 (items + length (with_between comma item_words d.1.1.0)) p

    filter_is : filter_behind d p ≡ drop filter p
    filter_is = ap (drop (length (with_between comma source_words d.1.1.1.0))) sources_is ∙ drop-drop (length (with_between comma source_words d.1.1.1.0)) sources p

    group_is : drop 2 (group_behind d p) ≡ drop group p
    group_is = ap (λ (q : Places). drop 2 (drop (length (filter_words d.1.1.1.1.0)) q)) filter_is ∙ ap (drop 2) (drop-drop (length (filter_words d.1.1.1.1.0)) filter p) ∙ drop-drop 2 (filter + length (filter_words d.1.1.1.1.0)) p

chosen : Exact {X = Unit {0}} {A = TreeSelect} {D = Chosen} (λ e v. select_at v) chosen_words chosen_ok (λ e p d. chosen_tree p d) select_ext
unfolding select_at mark_at chosen_words chosen_ok chosen_tree
chosen =
    bind (one {X = Unit {0}} (mark_takes (is_key (codes "SELECT")) (key (codes "SELECT")) (key_needs (codes "SELECT"))))
    (bind (distinct_exact {X = Unit {0} × Place})
    (bind (listed (item_exact {X = (Unit {0} × Place) × Bool}) item_comma)
    (word (key_needs (codes "FROM"))
    (bind (listed (source_exact {X = ((Unit {0} × Place) × Bool) × List TreeItem}) as_comma)
    (bind (filter_exact {X = (((Unit {0} × Place) × Bool) × List TreeItem) × List TreeSource})
    (wider (mapped (group_exact {X = ((((Unit {0} × Place) × Bool) × List TreeItem) × List TreeSource) × Option TreeCond})
    (λ e. record { place = e.0.0.0.0.0.1; distinct = e.0.0.0.0.1; items = e.0.0.0.1; sources = e.0.0.1; filter = e.0.1; group = e.1 })) select_ext (or_first group_ext (or_else filter_ext sources_ext)))
    (λ d us good end. filter_apart d us end))
    (λ d us good end. sources_apart d us end)))
    (λ d us good end. items_apart us))
    (λ d us good end. items_distinct d.0 _ us))
    (λ d us good end. no_end _)

select_onto : (s : SelectText) → to_select (of_select s) ≡ s
unfolding to_select of_select
select_onto s = refl

-- a select
pub select_exact : {X : Type 0} → Exact {X = X} {A = TreeSelect} {D = SelectText} (λ e v. select_at v) select_words (λ d. select_depth d ≤ 64) (λ e p d. select_tree p d) select_ext
select_exact {X} = anywhere {X = X} (recast chosen select_words (λ d. select_depth d ≤ 64) (λ e p d. select_tree p d) select_ext to_select of_select select_made select_good select_okay (λ e p d. select_trees p d) (λ d good. select_onto d) (λ us end. end))
