-- factors and expressions are read exactly
use Rattle.std.proofs.Common.{◌≡◌, ℕ, ◌≤◌, zero, suc, true, false, List, [], ◌∷◌, ◌++◌, drop, codes, refl, sym, ap, arith, Ok}
use Rattle.std.proofs.lemmas.List.{append-nil}
use Rattle.base_kit.specs.declared.place.Place.{Place}
use Rattle.tiql_tree.specs.Words.{Word}
use Rattle.tiql_tree.specs.Trees.{Places, place}
use Rattle.tiql_read.specs.Steps.{Words, Reading, ◌>>=◌, need}
use Rattle.tiql_read.proofs.Exact.{starts, Exact}
use Rattle.tiql_tree.specs.declared.expression.TreeExpr.{TreeExpr}
use Rattle.tiql_tree.specs.declared.expression.TreeForm.TheVariants.{Ref}
use Rattle.tiql_tree.specs.declared.expression.TreeForm.TheViews.{Neg, Abs}
use Rattle.tiql_tree.specs.Words.{key, sign}
use Rattle.tiql_tree.specs.Texts.{RefText, FactorText, ExprText}
use Rattle.std.proofs.lemmas.List.{drop-drop}
use Rattle.tiql_tree.specs.Texts.RefText.{alone, qualified}
use Rattle.tiql_tree.specs.Texts.FactorText.{negated, numeral, value_text, reference, absolute, grouped}
use Rattle.tiql_tree.specs.Grammar.{ref_words, factor_words, expr_words}
use Rattle.tiql_tree.specs.Nesting.{factor_depth, expr_depth}
use Rattle.tiql_tree.specs.Trees.{expr_at, form_of, ref_tree, factor_tree, expr_tree}
use Rattle.tiql_read.specs.Steps.{is_key, is_sign, mark_at}
use Rattle.tiql_read.specs.Expressions.{opens, expr_by, opened_by, factor_at, expression_at, adds}
use Rattle.tiql_read.proofs.Rules.{one, word}
use Rattle.tiql_read.proofs.Chains.{bind}
use Rattle.tiql_read.proofs.Branches.Either.{one_way, other_way}
use Rattle.tiql_read.proofs.Branches.{Either, either_words, either_ok, either_tree, branch, barred, recast}
use Rattle.tiql_read.proofs.Lists.{value, no_end}
use Rattle.tiql_read.proofs.WordTests.{sign_needs, key_needs, mark_takes}
use Rattle.tiql_read.proofs.Leaves.{simple_words, simple_ok, simple_tree, simple_exact}
use Rattle.tiql_read.proofs.Sums.{anywhere, expr_ext, sum_exact}

abbrev Simple : Type 0
Simple = Either (RefText × Unit {0}) (Either (List ℕ) (List ℕ))

of_simple : Simple → FactorText
of_simple (one_way d) = reference d.0
of_simple (other_way (one_way number)) = numeral number
of_simple (other_way (other_way text)) = value_text text

to_simple : FactorText → Simple
to_simple (negated f) = other_way (one_way [])
to_simple (numeral number) = other_way (one_way number)
to_simple (value_text text) = other_way (other_way text)
to_simple (reference ref) = one_way (ref, tt)
to_simple (absolute expr) = other_way (one_way [])
to_simple (grouped expr) = other_way (one_way [])

simple_factor_words : (d : Simple) → factor_words (of_simple d) ≡ simple_words d
unfolding of_simple factor_words
simple_factor_words (one_way d) = sym (append-nil (ref_words d.0))
simple_factor_words (other_way (one_way number)) = refl
simple_factor_words (other_way (other_way text)) = refl

simple_depth : (d : Simple) (n : ℕ) → factor_depth (of_simple d) ≤ n
unfolding of_simple factor_depth
simple_depth (one_way d) n = omega arith
simple_depth (other_way (one_way number)) n = omega arith
simple_depth (other_way (other_way text)) n = omega arith

simple_is_ok : (d : Simple) → simple_ok d
simple_is_ok (one_way d) = (tt, tt)
simple_is_ok (other_way d) = tt

place_is : (p : Places) (ref : RefText) → (ref_tree p ref).place ≡ place 0 p
unfolding ref_tree
place_is p (alone name) = refl
place_is p (qualified name more) = refl

ref_opens : (ref : RefText) (us : List Word) → starts opens ((ref_words ref ++ []) ++ us) ≡ false
unfolding opens is_sign is_key ref_words
ref_opens (alone name) us = refl
ref_opens (qualified name more) us = refl

simple_factor_tree : {X : Type 0} (e : X) (p : Places) (d : Simple) → factor_tree p (of_simple d) ≡ simple_tree e p d
unfolding of_simple factor_tree
simple_factor_tree e p (one_way d) = ap (λ (x : Place). expr_at x (Ref (ref_tree p d.0))) (sym (place_is p d.0))
simple_factor_tree e p (other_way (one_way number)) = refl
simple_factor_tree e p (other_way (other_way text)) = refl

shallow_onto : (d : FactorText) → factor_depth d ≤ 0 → of_simple (to_simple d) ≡ d
unfolding of_simple to_simple factor_depth
shallow_onto (negated f) le = absurd (omega (arith, le))
shallow_onto (numeral number) le = refl
shallow_onto (value_text text) le = refl
shallow_onto (reference ref) le = refl
shallow_onto (absolute expr) le = absurd (omega (arith, le))
shallow_onto (grouped expr) le = absurd (omega (arith, le))

-- a factor that opens nothing begins with no sign that opens
simple_first : (d : Simple) (us : List Word) → starts opens (simple_words d ++ us) ≡ false
unfolding opens is_sign is_key
simple_first (one_way d) us = ref_opens d.0 us
simple_first (other_way (one_way number)) us = refl
simple_first (other_way (other_way text)) us = refl

-- a minus sign and a factor; an expression in parentheses; one behind ABS
abbrev Opened : Type 0
Opened = Either (Unit {0} × (FactorText × Unit {0})) (Either (Unit {0} × (ExprText × Unit {0})) (Unit {0} × (ExprText × Unit {0})))

abbrev negated_words : Unit {0} × (FactorText × Unit {0}) → List Word
negated_words d = sign (codes "-") ∷ (factor_words d.1.0 ++ [])

abbrev grouped_words : Unit {0} × (ExprText × Unit {0}) → List Word
grouped_words d = sign (codes "(") ∷ (expr_words d.1.0 ++ sign (codes ")") ∷ [])

abbrev absolute_words : Unit {0} × (ExprText × Unit {0}) → List Word
absolute_words d = key (codes "ABS") ∷ sign (codes "(") ∷ (expr_words d.1.0 ++ sign (codes ")") ∷ [])

abbrev opened_words : Opened → List Word
opened_words d = either_words negated_words (either_words grouped_words absolute_words) d

abbrev opened_ok : ℕ → Opened → Type 0
opened_ok n d = either_ok (λ (d : Unit {0} × (FactorText × Unit {0})). Unit {0} × ((factor_depth d.1.0 ≤ n) × Unit {0})) (either_ok (λ (d : Unit {0} × (ExprText × Unit {0})). Unit {0} × ((expr_depth d.1.0 ≤ n) × Unit {0})) (λ (d : Unit {0} × (ExprText × Unit {0})). Unit {0} × ((expr_depth d.1.0 ≤ n) × Unit {0}))) d

abbrev opened_tree : Unit {0} → Places → Opened → TreeExpr
opened_tree u p d =
    either_tree {X = Unit {0}} (λ u p (d : Unit {0} × (FactorText × Unit {0})). expr_at (place 0 p) (Neg (factor_tree (drop 1 p) d.1.0)))
    (either_tree {X = Unit {0}} (λ u p (d : Unit {0} × (ExprText × Unit {0})). expr_at (place 0 p) (form_of (expr_tree (drop 1 p) d.1.0))) (λ u p (d : Unit {0} × (ExprText × Unit {0})). expr_at (place 0 p) (Abs (expr_tree (drop 1 (drop 1 p)) d.1.0)))) u p d

module _ {r : Words → Reading TreeExpr} (n : ℕ) (factor : Exact {X = Unit {0}} {A = TreeExpr} {D = FactorText} (λ e v. r v) factor_words (λ f. factor_depth f ≤ n) (λ e p f. factor_tree p f) (is_sign (codes "."))) where
  minus_exact : Exact {X = Unit {0}} {A = TreeExpr} {D = Unit {0} × (FactorText × Unit {0})} (λ e v. mark_at (is_sign (codes "-")) v >>= λ place. r place.1 >>= λ part. Ok (expr_at place.0 (Neg part.0), part.1)) negated_words
      (λ d. Unit {0} × ((factor_depth d.1.0 ≤ n) × Unit {0})) (λ e p d. expr_at (place 0 p) (Neg (factor_tree (drop 1 p) d.1.0))) (is_sign (codes "."))
  unfolding mark_at
  minus_exact =
      bind (one {X = Unit {0}} (mark_takes (is_sign (codes "-")) (sign (codes "-")) (sign_needs (codes "-")))) (bind (anywhere {X = Unit {0} × Place} factor) (value (λ (e : (Unit {0} × Place) × TreeExpr). expr_at e.0.1 (Neg e.1)) (is_sign (codes "."))) (λ d us good end. end))
      (λ d us good end. no_end ((factor_words d.0 ++ []) ++ us))

  closed : (d : Unit {0}) (us : List Word) → Unit {0} → starts (is_sign (codes ".")) us ≡ false → starts expr_ext (sign (codes ")") ∷ us) ≡ false
  unfolding adds is_sign
  closed d us good end = refl

  group_exact : Exact {X = Unit {0}} {A = TreeExpr} {D = Unit {0} × (ExprText × Unit {0})} (λ e v. mark_at (is_sign (codes "(")) v >>= λ place. expr_by r place.1 >>= λ part. need (is_sign (codes ")")) part.1 >>= λ rest. Ok (expr_at place.0 (form_of part.0), rest)) grouped_words
      (λ d. Unit {0} × ((expr_depth d.1.0 ≤ n) × Unit {0})) (λ e p d. expr_at (place 0 p) (form_of (expr_tree (drop 1 p) d.1.0))) (is_sign (codes "."))
  unfolding mark_at
  group_exact =
      bind (one {X = Unit {0}} (mark_takes (is_sign (codes "(")) (sign (codes "(")) (sign_needs (codes "("))))
      (bind (sum_exact {X = Unit {0} × Place} n factor) (word (sign_needs (codes ")")) (value (λ (e : (Unit {0} × Place) × TreeExpr). expr_at e.0.1 (form_of e.1)) (is_sign (codes ".")))) closed)
      (λ d us good end. no_end ((expr_words d.0 ++ sign (codes ")") ∷ []) ++ us))

  abs_exact : Exact {X = Unit {0}} {A = TreeExpr} {D = Unit {0} × (ExprText × Unit {0})} (λ e v. mark_at (is_key (codes "ABS")) v >>= λ place. need (is_sign (codes "(")) place.1 >>= λ inner. expr_by r inner >>= λ part. need (is_sign (codes ")")) part.1 >>= λ rest. Ok (expr_at place.0 (Abs part.0), rest)) absolute_words
      (λ d. Unit {0} × ((expr_depth d.1.0 ≤ n) × Unit {0})) (λ e p d. expr_at (place 0 p) (Abs (expr_tree (drop 1 (drop 1 p)) d.1.0))) (is_sign (codes "."))
  unfolding mark_at
  abs_exact =
      bind (one {X = Unit {0}} (mark_takes (is_key (codes "ABS")) (key (codes "ABS")) (key_needs (codes "ABS"))))
      (word (sign_needs (codes "(")) (bind (sum_exact {X = Unit {0} × Place} n factor) (word (sign_needs (codes ")")) (value (λ (e : (Unit {0} × Place) × TreeExpr). expr_at e.0.1 (Abs e.1)) (is_sign (codes ".")))) closed))
      (λ d us good end. no_end (sign (codes "(") ∷ ((expr_words d.0 ++ sign (codes ")") ∷ []) ++ us)))

  opened_exact : Exact {X = Unit {0}} {A = TreeExpr} {D = Opened} (λ e v. opened_by r v) opened_words (opened_ok n) opened_tree (is_sign (codes "."))
  unfolding opened_by is_sign
  opened_exact =
      branch minus_exact (branch group_exact abs_exact (is_sign (codes "(")) (is_sign (codes ".")) (λ d us good. refl) (λ d us good end. refl) (λ us end. end) (λ us end. end)) (is_sign (codes "-")) (is_sign (codes "."))
      (λ d us good. refl) no_minus (λ us end. end) (λ us end. end)
    where
      no_minus : (d : Either (Unit {0} × (ExprText × Unit {0})) (Unit {0} × (ExprText × Unit {0}))) (us : List Word) → either_ok (λ (d : Unit {0} × (ExprText × Unit {0})). Unit {0} × ((expr_depth d.1.0 ≤ n) × Unit {0})) (λ (d : Unit {0} × (ExprText × Unit {0})). Unit {0} × ((expr_depth d.1.0 ≤ n) × Unit {0})) d → starts (is_sign (codes ".")) us ≡ false → starts (is_sign (codes "-")) (either_words grouped_words absolute_words d ++ us) ≡ false
      no_minus (one_way d) us good end = refl
      no_minus (other_way d) us good end = refl

abbrev Both : Type 0
Both = Either Opened Simple

of_both : Both → FactorText
of_both (one_way (one_way d)) = negated d.1.0
of_both (one_way (other_way (one_way d))) = grouped d.1.0
of_both (one_way (other_way (other_way d))) = absolute d.1.0
of_both (other_way d) = of_simple d

to_both : FactorText → Both
to_both (negated f) = one_way (one_way (tt, (f, tt)))
to_both (numeral number) = other_way (other_way (one_way number))
to_both (value_text text) = other_way (other_way (other_way text))
to_both (reference ref) = other_way (one_way (ref, tt))
to_both (absolute expr) = one_way (other_way (other_way (tt, (expr, tt))))
to_both (grouped expr) = one_way (other_way (one_way (tt, (expr, tt))))

both_words : (d : Both) → factor_words (of_both d) ≡ either_words opened_words simple_words d
unfolding of_both factor_words
both_words (one_way (one_way d)) = ap (λ (l : List Word). sign (codes "-") ∷ l) (sym (append-nil (factor_words d.1.0)))
both_words (one_way (other_way (one_way d))) = refl
both_words (one_way (other_way (other_way d))) = refl
both_words (other_way d) = simple_factor_words d

both_depth : (n : ℕ) (d : Both) → either_ok (opened_ok n) simple_ok d → factor_depth (of_both d) ≤ suc n
unfolding of_both factor_depth
both_depth n (one_way (one_way d)) good = omega (arith, good.1.0)
both_depth n (one_way (other_way (one_way d))) good = omega (arith, good.1.0)
both_depth n (one_way (other_way (other_way d))) good = omega (arith, good.1.0)
both_depth n (other_way d) good = simple_depth d (suc n)

both_ok : (n : ℕ) (d : FactorText) → factor_depth d ≤ suc n → either_ok (opened_ok n) simple_ok (to_both d)
unfolding to_both factor_depth
both_ok n (negated f) le = (tt, (omega (arith, le), tt))
both_ok n (numeral number) le = tt
both_ok n (value_text text) le = tt
both_ok n (reference ref) le = (tt, tt)
both_ok n (absolute expr) le = (tt, (omega (arith, le), tt))
both_ok n (grouped expr) le = (tt, (omega (arith, le), tt))

both_tree : (e : Unit {0}) (p : Places) (d : Both) → factor_tree p (of_both d) ≡ either_tree opened_tree (simple_tree {X = Unit {0}}) e p d
unfolding of_both factor_tree
both_tree e p (one_way (one_way d)) = refl
both_tree e p (one_way (other_way (one_way d))) = refl
both_tree e p (one_way (other_way (other_way d))) = ap (λ (q : Places). expr_at (place 0 p) (Abs (expr_tree q d.1.0))) (sym (drop-drop 1 1 p))
both_tree e p (other_way d) = simple_factor_tree e p d

both_onto : (d : FactorText) → of_both (to_both d) ≡ d
unfolding of_both to_both of_simple
both_onto (negated f) = refl
both_onto (numeral number) = refl
both_onto (value_text text) = refl
both_onto (reference ref) = refl
both_onto (absolute expr) = refl
both_onto (grouped expr) = refl

opened_first : (n : ℕ) (d : Opened) (us : List Word) → opened_ok n d → starts opens (opened_words d ++ us) ≡ true
unfolding opens is_sign is_key
opened_first n (one_way d) us good = refl
opened_first n (other_way (one_way d)) us good = refl
opened_first n (other_way (other_way d)) us good = refl

-- a factor in which at most so many signs and words open something
pub factor_exact : (n : ℕ) → Exact {X = Unit {0}} {A = TreeExpr} {D = FactorText} (λ e v. factor_at n v) factor_words (λ f. factor_depth f ≤ n) (λ e p f. factor_tree p f) (is_sign (codes "."))
unfolding factor_at
factor_exact zero =
    recast (barred (simple_exact {X = Unit {0}}) opens (λ d us good end. simple_first d us)) factor_words (λ f. factor_depth f ≤ 0) (λ e p f. factor_tree p f) (is_sign (codes ".")) of_simple to_simple
    simple_factor_words (λ d good. simple_depth d 0) (λ d good. simple_is_ok (to_simple d)) (λ e p d. simple_factor_tree e p d) shallow_onto (λ us end. end)
factor_exact (suc n) =
    recast (branch (opened_exact n (factor_exact n)) (simple_exact {X = Unit {0}}) opens (is_sign (codes ".")) (opened_first n) (λ d us good end. simple_first d us) (λ us end. end) (λ us end. end))
    factor_words (λ f. factor_depth f ≤ suc n) (λ e p f. factor_tree p f) (is_sign (codes ".")) of_both to_both both_words (both_depth n) (both_ok n) both_tree (λ d good. both_onto d) (λ us end. end)

-- an expression
pub expression_exact : {X : Type 0} (n : ℕ) → Exact {X = X} {A = TreeExpr} {D = ExprText} (λ e v. expression_at n v) expr_words (λ d. expr_depth d ≤ n) (λ e p d. expr_tree p d) expr_ext
unfolding expression_at
expression_exact {X} n = sum_exact {X = X} n (factor_exact n)
