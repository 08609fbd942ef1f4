-- names, columns, numbers and texts are read exactly
use Rattle.std.proofs.Common.{◌≡◌, ℕ, zero, suc, true, false, List, [], ◌∷◌, ◌++◌, map, drop, codes, refl, sym, ◌∙◌, ap}
use Rattle.std.specs.declared.option.Option.{Option}
use Rattle.std.specs.declared.option.Option.TheVariants.{None, Some}
use Rattle.base_kit.specs.declared.place.Place.{Place}
use Rattle.tiql_tree.specs.Words.{Word}
use Rattle.tiql_tree.specs.Trees.{Places, place}
use Rattle.tiql_read.specs.Steps.{take_as}
use Rattle.tiql_read.proofs.Exact.{fixed, starts, none, Exact}
use Rattle.std.proofs.lemmas.List.{drop-drop}
use Rattle.tiql_tree.specs.declared.tree.Spot.{Spot}
use Rattle.tiql_tree.specs.declared.expression.TreeRef.{TreeRef}
use Rattle.tiql_tree.specs.declared.expression.TreeExpr.{TreeExpr}
use Rattle.tiql_tree.specs.declared.expression.TreeForm.TheVariants.{Ref}
use Rattle.tiql_tree.specs.Words.{sign, named}
use Rattle.tiql_tree.specs.Texts.{RefText}
use Rattle.tiql_tree.specs.Texts.RefText.{alone, qualified}
use Rattle.tiql_tree.specs.Grammar.{optional, name_words, ref_words}
use Rattle.tiql_tree.specs.Trees.{expr_at, spot, ref_tree, ref_name}
use Rattle.tiql_read.specs.Steps.{is_sign, is_named, spot_at}
use Rattle.tiql_read.specs.Expressions.{literal_of, simple_at, point_at, ref_at, ref_name_at, ref_of, last_of}
use Rattle.tiql_read.proofs.Rules.{one, word}
use Rattle.tiql_read.proofs.Chains.{bind}
use Rattle.tiql_read.proofs.Branches.Either.{one_way, other_way}
use Rattle.tiql_read.proofs.Branches.{Either, either_words, either_ok, either_tree, branch_fine, recast}
use Rattle.tiql_read.proofs.Lists.{value, maybe, maybe_ok, maybe_tree, no_end}
use Rattle.tiql_read.proofs.WordTests.{sign_needs, spot_takes, lit_takes, lit_key, lit_tree, named_name, fixed_name}

pub place_drop : (n : ℕ) (p : Places) → place 0 (drop n p) ≡ place n p
place_drop zero p = refl
place_drop (suc n) [] = refl
place_drop (suc n) (x ∷ p) = place_drop n p

pub name_exact : {X : Type 0} → Exact {X = X} {A = Spot} {D = List ℕ} (λ e v. spot_at v) name_words (λ d. Unit {0}) (λ e p d. spot 0 p d) none
unfolding spot_at
name_exact = one spot_takes

abbrev point_words : Option (List ℕ × Unit {0}) → List Word
point_words d = optional (λ (d : List ℕ × Unit {0}). sign (codes ".") ∷ named d.0 ∷ []) d

point_exact : {X : Type 0} → Exact {X = X} {A = Option Spot} {D = Option (List ℕ × Unit {0})} (λ e v. point_at v) point_words (maybe_ok (λ d. Unit {0} × Unit {0})) (maybe_tree (λ e. None) (λ e p d. Some (spot 0 (drop 1 p) d.0))) (is_sign (codes "."))
unfolding point_at
point_exact {X} =
    maybe (word (sign_needs (codes ".")) (bind (name_exact {X = X}) (value (λ (e : X × Spot). Some e.1) (is_sign (codes "."))) (λ d us good end. no_end us))) (is_sign (codes ".")) (is_sign (codes ".")) (λ (e : X). None)
    (λ d us good. (sign_needs (codes ".")).hit) (λ us end. end) (λ us end. end)

abbrev Parts : Type 0
Parts = List ℕ × (Option (List ℕ × Unit {0}) × Unit {0})

to_ref : Parts → RefText
to_ref (name, (None, u)) = alone name
to_ref (name, (Some more, u)) = qualified name more.0

of_ref : RefText → Parts
of_ref (alone name) = (name, (None, tt))
of_ref (qualified name more) = (name, (Some (more, tt), tt))

ref_made : (d : Parts) → ref_words (to_ref d) ≡ named d.0 ∷ (point_words d.1.0 ++ [])
unfolding to_ref ref_words
ref_made (name, (None, u)) = refl
ref_made (name, (Some more, u)) = refl

ref_good : (d : RefText) → Unit {0} → Unit {0} × (maybe_ok (λ (d : List ℕ × Unit {0}). Unit {0} × Unit {0}) (of_ref d).1.0 × Unit {0})
unfolding of_ref
ref_good (alone name) good = (tt, (tt, tt))
ref_good (qualified name more) good = (tt, ((tt, tt), tt))

ref_onto : (d : RefText) → Unit {0} → to_ref (of_ref d) ≡ d
unfolding to_ref of_ref
ref_onto (alone name) good = refl
ref_onto (qualified name more) good = refl

ref_trees : (p : Places) (d : Parts) → ref_tree p (to_ref d) ≡ ref_of (spot 0 p d.0) (maybe_tree {X = Unit {0}} (λ e. None) (λ e p d. Some (spot 0 (drop 1 p) d.0)) tt (drop 1 p) d.1.0)
unfolding to_ref ref_tree
ref_trees p (name, (None, u)) = refl
ref_trees p (name, (Some more, u)) = refl

ref_names : (p : Places) (d : Parts) → ref_name p (to_ref d) ≡ last_of (spot 0 p d.0) (maybe_tree {X = Unit {0}} (λ e. None) (λ e p d. Some (spot 0 (drop 1 p) d.0)) tt (drop 1 p) d.1.0)
unfolding to_ref ref_name
ref_names p (name, (None, u)) = refl
ref_names p (name, (Some more, u)) = ap (λ (x : Place). record_at x) (sym (ap (place 0) (drop-drop 1 1 p) ∙ place_drop 2 p))
  where
    record_at : Place → Spot
    record_at x = record { name = more.0; place = x }

pub ref_exact : {X : Type 0} → Exact {X = X} {A = TreeRef} {D = RefText} (λ e v. ref_at v) ref_words (λ d. Unit {0}) (λ e p d. ref_tree p d) (is_sign (codes "."))
unfolding ref_at
ref_exact {X} =
    recast (bind (name_exact {X = X}) (bind (point_exact {X = X × Spot}) (value (λ (e : (X × Spot) × Option Spot). ref_of e.0.1 e.1) (is_sign (codes "."))) (λ d us good end. end)) (λ d us good end. no_end (_ ++ us)))
    ref_words (λ d. Unit {0}) (λ e p d. ref_tree p d) (is_sign (codes ".")) to_ref of_ref ref_made (λ d good. tt) ref_good trees ref_onto (λ us end. end)
  where
    trees : (e : X) (p : Places) (d : Parts) → ref_tree p (to_ref d) ≡ ref_of (spot 0 p d.0) (maybe_tree {X = X} (λ e. None) (λ e p d. Some (spot 0 (drop 1 p) d.0)) e (drop 1 p) d.1.0)
    trees e p (name, (None, u)) = ref_trees p (name, (None, u))
    trees e p (name, (Some more, u)) = ref_trees p (name, (Some more, u))

pub ref_name_exact : {X : Type 0} → Exact {X = X} {A = Spot} {D = RefText} (λ e v. ref_name_at v) ref_words (λ d. Unit {0}) (λ e p d. ref_name p d) (is_sign (codes "."))
unfolding ref_name_at
ref_name_exact {X} =
    recast (bind (name_exact {X = X}) (bind (point_exact {X = X × Spot}) (value (λ (e : (X × Spot) × Option Spot). last_of e.0.1 e.1) (is_sign (codes "."))) (λ d us good end. end)) (λ d us good end. no_end (_ ++ us)))
    ref_words (λ d. Unit {0}) (λ e p d. ref_name p d) (is_sign (codes ".")) to_ref of_ref ref_made (λ d good. tt) ref_good names ref_onto (λ us end. end)
  where
    names : (e : X) (p : Places) (d : Parts) → ref_name p (to_ref d) ≡ last_of (spot 0 p d.0) (maybe_tree {X = X} (λ e. None) (λ e p d. Some (spot 0 (drop 1 p) d.0)) e (drop 1 p) d.1.0)
    names e p (name, (None, u)) = ref_names p (name, (None, u))
    names e p (name, (Some more, u)) = ref_names p (name, (Some more, u))

pub literal_exact : {X : Type 0} → Exact {X = X} {A = TreeExpr} {D = Either (List ℕ) (List ℕ)} (λ e v. take_as literal_of v) (λ d. lit_key d ∷ []) (λ d. Unit {0}) (λ e p d. lit_tree (place 0 p) d) none
literal_exact = one lit_takes

abbrev pub simple_words : Either (RefText × Unit {0}) (Either (List ℕ) (List ℕ)) → List Word
simple_words d = either_words (λ (d : RefText × Unit {0}). ref_words d.0 ++ []) (λ d. lit_key d ∷ []) d

abbrev pub simple_ok : Either (RefText × Unit {0}) (Either (List ℕ) (List ℕ)) → Type 0
simple_ok d = either_ok (λ (d : RefText × Unit {0}). Unit {0} × Unit {0}) (λ d. Unit {0}) d

abbrev pub simple_tree : {X : Type 0} → X → Places → Either (RefText × Unit {0}) (Either (List ℕ) (List ℕ)) → TreeExpr
simple_tree e p d = either_tree {X = Unit {0}} (λ e p (d : RefText × Unit {0}). expr_at (ref_tree p d.0).place (Ref (ref_tree p d.0))) (λ e p d. lit_tree (place 0 p) d) tt p d

named_first : (d : RefText × Unit {0}) (us : List Word) → Unit {0} × Unit {0} → map fixed (ref_words d.0 ++ []) ≡ ref_words d.0 ++ [] → starts is_named ((ref_words d.0 ++ []) ++ us) ≡ true
unfolding ref_words
named_first (alone name, u) us good fine = let h : fixed (named name) ≡ named name = cc in named_name name (fixed_name name h)
named_first (qualified name more, u) us good fine = let h : fixed (named name) ≡ named name = cc in named_name name (fixed_name name h)

lit_first : (d : Either (List ℕ) (List ℕ)) (us : List Word) → Unit {0} → starts (is_sign (codes ".")) us ≡ false → starts is_named ((lit_key d ∷ []) ++ us) ≡ false
unfolding is_named
lit_first (one_way number) us good end = refl
lit_first (other_way value) us good end = refl

pub simple_exact : {X : Type 0} → Exact {X = X} {A = TreeExpr} {D = Either (RefText × Unit {0}) (Either (List ℕ) (List ℕ))} (λ e v. simple_at v) simple_words simple_ok simple_tree (is_sign (codes "."))
unfolding simple_at
simple_exact {X} =
    branch_fine (bind (ref_exact {X = X}) (value (λ (e : X × TreeRef). expr_at e.1.place (Ref e.1)) (is_sign (codes "."))) (λ d us good end. end)) (literal_exact {X = X}) is_named (is_sign (codes ".")) named_first lit_first (λ us end. end) (λ us end. no_end us)
