-- comparisons are read exactly
use Rattle.std.proofs.Common.{◌≡◌, ℕ, ◌≤◌, false, List, [], ◌∷◌, ◌++◌, length, drop, codes, refl}
use Rattle.base_kit.specs.declared.place.Place.{Place}
use Rattle.tiql_tree.specs.Words.{Word}
use Rattle.tiql_tree.specs.Trees.{Places}
use Rattle.tiql_read.proofs.Exact.{Exact}
use Rattle.tiql_tree.specs.declared.condition.TreeCmp.{TreeCmp}
use Rattle.tiql_tree.specs.declared.condition.TreeCmp.TheVariants.{Eq, Ne, Lt, Le, Gt, Ge}
use Rattle.tiql_tree.specs.declared.condition.TreeCond.{TreeCond}
use Rattle.tiql_tree.specs.declared.condition.TreeCond.TheVariants.{Compare}
use Rattle.tiql_tree.specs.declared.expression.TreeExpr.{TreeExpr}
use Rattle.tiql_tree.specs.Words.{sign}
use Rattle.tiql_tree.specs.Texts.{ExprText}
use Rattle.tiql_tree.specs.Grammar.{cmp_text, expr_words}
use Rattle.tiql_tree.specs.Nesting.{expr_depth}
use Rattle.tiql_tree.specs.Trees.{expr_tree}
use Rattle.tiql_read.specs.Steps.{is_sign}
use Rattle.tiql_read.specs.Expressions.{adds, expression_at}
use Rattle.tiql_read.specs.Conditions.{cmp_of, compare_by}
use Rattle.tiql_read.proofs.Rules.{Takes, one}
use Rattle.tiql_read.proofs.Chains.{bind}
use Rattle.tiql_read.proofs.Branches.Either.{one_way, other_way}
use Rattle.tiql_read.proofs.Branches.{Either}
use Rattle.tiql_read.proofs.Lists.{value, no_end}
use Rattle.tiql_read.proofs.WordTests.{sign_needs, last_takes, or_takes, retake, either_key, either_value}
use Rattle.tiql_read.proofs.Sums.{expr_ext}
use Rattle.tiql_read.proofs.Factors.{expression_exact}

abbrev Last : Type 0
Last = Unit {0}

abbrev Six : Type 0
Six = Either Last (Either Last (Either Last (Either Last (Either Last Last))))

to_cmp : Six → TreeCmp
to_cmp (one_way d) = Eq
to_cmp (other_way (one_way d)) = Ne
to_cmp (other_way (other_way (one_way d))) = Lt
to_cmp (other_way (other_way (other_way (one_way d)))) = Le
to_cmp (other_way (other_way (other_way (other_way (one_way d))))) = Gt
to_cmp (other_way (other_way (other_way (other_way (other_way d))))) = Ge

of_cmp : TreeCmp → Six
of_cmp Eq = one_way tt
of_cmp Ne = other_way (one_way tt)
of_cmp Lt = other_way (other_way (one_way tt))
of_cmp Le = other_way (other_way (other_way (one_way tt)))
of_cmp Gt = other_way (other_way (other_way (other_way (one_way tt))))
of_cmp Ge = other_way (other_way (other_way (other_way (other_way tt))))

cmp_onto : (c : TreeCmp) → to_cmp (of_cmp c) ≡ c
unfolding to_cmp of_cmp
cmp_onto Eq = refl
cmp_onto Ne = refl
cmp_onto Lt = refl
cmp_onto Le = refl
cmp_onto Gt = refl
cmp_onto Ge = refl

abbrev key6 : Last → Word
key6 d = sign (codes ">=")

abbrev key5 : Either Last Last → Word
key5 d = either_key (sign (codes ">")) key6 d

abbrev key4 : Either Last (Either Last Last) → Word
key4 d = either_key (sign (codes "<=")) key5 d

abbrev key3 : Either Last (Either Last (Either Last Last)) → Word
key3 d = either_key (sign (codes "<")) key4 d

abbrev key2 : Either Last (Either Last (Either Last (Either Last Last))) → Word
key2 d = either_key (sign (codes "<>")) key3 d

abbrev key1 : Six → Word
key1 d = either_key (sign (codes "=")) key2 d

abbrev value6 : Place → Last → TreeCmp
value6 p d = Ge

abbrev value5 : Place → Either Last Last → TreeCmp
value5 p d = either_value (λ p. Gt) value6 p d

abbrev value4 : Place → Either Last (Either Last Last) → TreeCmp
value4 p d = either_value (λ p. Le) value5 p d

abbrev value3 : Place → Either Last (Either Last (Either Last Last)) → TreeCmp
value3 p d = either_value (λ p. Lt) value4 p d

abbrev value2 : Place → Either Last (Either Last (Either Last (Either Last Last))) → TreeCmp
value2 p d = either_value (λ p. Ne) value3 p d

abbrev value1 : Place → Six → TreeCmp
value1 p d = either_value (λ p. Eq) value2 p d

apart5 : (d : Last) → is_sign (codes ">") (key6 d) ≡ false
unfolding is_sign
apart5 d = refl

apart4 : (d : Either Last Last) → is_sign (codes "<=") (key5 d) ≡ false
unfolding is_sign
apart4 (one_way d) = refl
apart4 (other_way d) = refl

apart3 : (d : Either Last (Either Last Last)) → is_sign (codes "<") (key4 d) ≡ false
unfolding is_sign
apart3 (one_way d) = refl
apart3 (other_way (one_way d)) = refl
apart3 (other_way (other_way d)) = refl

apart2 : (d : Either Last (Either Last (Either Last Last))) → is_sign (codes "<>") (key3 d) ≡ false
unfolding is_sign
apart2 (one_way d) = refl
apart2 (other_way (one_way d)) = refl
apart2 (other_way (other_way (one_way d))) = refl
apart2 (other_way (other_way (other_way d))) = refl

apart1 : (d : Either Last (Either Last (Either Last (Either Last Last)))) → is_sign (codes "=") (key2 d) ≡ false
unfolding is_sign
apart1 (one_way d) = refl
apart1 (other_way (one_way d)) = refl
apart1 (other_way (other_way (one_way d))) = refl
apart1 (other_way (other_way (other_way (one_way d)))) = refl
apart1 (other_way (other_way (other_way (other_way d)))) = refl

cmp_keys : (d : Six) → sign (cmp_text (to_cmp d)) ≡ key1 d
unfolding to_cmp
cmp_keys (one_way d) = refl
cmp_keys (other_way (one_way d)) = refl
cmp_keys (other_way (other_way (one_way d))) = refl
cmp_keys (other_way (other_way (other_way (one_way d)))) = refl
cmp_keys (other_way (other_way (other_way (other_way (one_way d))))) = refl
cmp_keys (other_way (other_way (other_way (other_way (other_way d))))) = refl

cmp_values : (p : Place) (d : Six) → to_cmp d ≡ value1 p d
unfolding to_cmp
cmp_values p (one_way d) = refl
cmp_values p (other_way (one_way d)) = refl
cmp_values p (other_way (other_way (one_way d))) = refl
cmp_values p (other_way (other_way (other_way (one_way d)))) = refl
cmp_values p (other_way (other_way (other_way (other_way (one_way d))))) = refl
cmp_values p (other_way (other_way (other_way (other_way (other_way d))))) = refl

cmp_takes : Takes {A = TreeCmp} {D = TreeCmp} cmp_of (λ c. sign (cmp_text c)) (λ p c. c)
unfolding cmp_of
cmp_takes =
    retake {t = value1}
    (or_takes (is_sign (codes "=")) (sign (codes "=")) (λ p. Eq) (sign_needs (codes "="))
    (or_takes (is_sign (codes "<>")) (sign (codes "<>")) (λ p. Ne) (sign_needs (codes "<>"))
    (or_takes (is_sign (codes "<")) (sign (codes "<")) (λ p. Lt) (sign_needs (codes "<"))
    (or_takes (is_sign (codes "<=")) (sign (codes "<=")) (λ p. Le) (sign_needs (codes "<="))
    (or_takes (is_sign (codes ">")) (sign (codes ">")) (λ p. Gt) (sign_needs (codes ">"))
    (last_takes (is_sign (codes ">=")) (sign (codes ">=")) (λ p. Ge) (sign_needs (codes ">="))) apart5) apart4) apart3) apart2) apart1)
    (λ c. sign (cmp_text c)) (λ p c. c) to_cmp of_cmp cmp_keys cmp_values cmp_onto

-- two expressions with a comparison between them
abbrev pub Compared : Type 0
Compared = ExprText × (TreeCmp × (ExprText × Unit {0}))

abbrev pub compared_words : Compared → List Word
compared_words d = expr_words d.0 ++ sign (cmp_text d.1.0) ∷ (expr_words d.1.1.0 ++ [])

abbrev pub compared_ok : ℕ → Compared → Type 0
compared_ok n d = (expr_depth d.0 ≤ n) × (Unit {0} × ((expr_depth d.1.1.0 ≤ n) × Unit {0}))

abbrev pub compared_tree : Places → Compared → TreeCond
compared_tree p d = Compare d.1.0 (expr_tree p d.0) (expr_tree (drop 1 (drop (length (expr_words d.0)) p)) d.1.1.0)

cmp_ends : (c : TreeCmp) → expr_ext (sign (cmp_text c)) ≡ false
unfolding is_sign adds
cmp_ends Eq = refl
cmp_ends Ne = refl
cmp_ends Lt = refl
cmp_ends Le = refl
cmp_ends Gt = refl
cmp_ends Ge = refl

pub compare_exact : (n : ℕ) → Exact {X = Unit {0}} {A = TreeCond} {D = Compared} (λ e v. compare_by (expression_at n) v) compared_words (compared_ok n) (λ e p d. compared_tree p d) expr_ext
unfolding compare_by
compare_exact n =
    bind (expression_exact {X = Unit {0}} n)
    (bind (one {X = Unit {0} × TreeExpr} cmp_takes) (bind (expression_exact {X = (Unit {0} × TreeExpr) × TreeCmp} n) (value (λ (e : ((Unit {0} × TreeExpr) × TreeCmp) × TreeExpr). Compare e.0.1 e.0.0.1 e.1) expr_ext) (λ d us good end. end))
    (λ d us good end. no_end ((expr_words d.0 ++ []) ++ us))) (λ d us good end. cmp_ends d.0)
