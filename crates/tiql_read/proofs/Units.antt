-- conditions are read exactly
use Rattle.std.proofs.Common.{◌≡◌, ℕ, ◌+◌, ◌≤◌, zero, suc, Bool, true, false, List, [], ◌∷◌, ◌++◌, length, drop, codes, refl, sym, ◌∙◌, ap, append_assoc, arith}
use Rattle.std.proofs.lemmas.List.{append-nil}
use Rattle.tiql_tree.specs.Words.{Word}
use Rattle.tiql_tree.specs.Trees.{Places}
use Rattle.tiql_read.specs.Steps.{Words, Reading}
use Rattle.tiql_read.proofs.Exact.{starts, Exact}
use Rattle.std.proofs.Math.Nat.{max-le}
use Rattle.std.proofs.lemmas.List.{drop-drop}
use Rattle.tiql_tree.specs.declared.condition.TreeCmp.TheVariants.{Eq}
use Rattle.tiql_tree.specs.declared.condition.TreeCond.{TreeCond}
use Rattle.tiql_tree.specs.declared.condition.TreeCond.TheVariants.{Compare}
use Rattle.tiql_tree.specs.declared.condition.TreeCond.TheViews.{Not}
use Rattle.tiql_tree.specs.Words.{key, sign}
use Rattle.tiql_tree.specs.Texts.{ExprText, CondText, ConjText, UnitText}
use Rattle.tiql_tree.specs.Texts.CondText.{last_conj, next_conj}
use Rattle.tiql_tree.specs.Texts.ConjText.{last_unit, next_unit}
use Rattle.tiql_tree.specs.Texts.UnitText.{denied, bracketed, compared}
use Rattle.tiql_tree.specs.Texts.ExprText.{last_term}
use Rattle.tiql_tree.specs.Texts.TermText.{last_factor}
use Rattle.tiql_tree.specs.Texts.FactorText.{numeral}
use Rattle.tiql_tree.specs.Grammar.{cmp_text, expr_words, unit_words, conj_words, cond_words}
use Rattle.tiql_tree.specs.Nesting.{expr_depth, unit_depth, conj_depth, cond_depth}
use Rattle.tiql_tree.specs.Trees.{expr_tree, unit_tree, conj_tree, and_parts, cond_tree, or_parts}
use Rattle.tiql_read.specs.Steps.{is_key, is_sign, next_at}
use Rattle.tiql_read.specs.Expressions.{adds}
use Rattle.tiql_read.specs.Conditions.{and_of, or_of, and_by, or_by, cond_by, opens_cond, enclosed_by, unit_at, condition_at}
use Rattle.tiql_read.proofs.Rules.{one, word}
use Rattle.tiql_read.proofs.Chains.{bind}
use Rattle.tiql_read.proofs.Branches.Either.{one_way, other_way}
use Rattle.tiql_read.proofs.Branches.{Either, either_words, either_ok, either_tree, branch, barred, recast}
use Rattle.tiql_read.proofs.Many.{many_ok}
use Rattle.tiql_read.proofs.Lists.{or_else, value}
use Rattle.tiql_read.proofs.Operators.{Operator, operators, made_by}
use Rattle.tiql_read.proofs.WordTests.{sign_needs, key_needs}
use Rattle.tiql_read.proofs.Sums.{anywhere, max_front, max_back, expr_ext}
use Rattle.tiql_read.proofs.Heads.{NoHead, expr_head}
use Rattle.tiql_read.proofs.Comparisons.{Compared, compared_words, compared_ok, compared_tree, compare_exact}

abbrev and_word : Unit {0} → Word
and_word u = key (codes "AND")

abbrev or_word : Unit {0} → Word
or_word u = key (codes "OR")

abbrev next_and : UnitText → Unit {0} → ConjText → ConjText
next_and f u m = next_unit f m

abbrev next_or : ConjText → Unit {0} → CondText → CondText
next_or f u m = next_conj f m

first_unit : ConjText → UnitText
first_unit (last_unit f) = f
first_unit (next_unit f m) = f

more_units : ConjText → List (Unit {0} × UnitText)
more_units (last_unit f) = []
more_units (next_unit f m) = (tt, first_unit m) ∷ more_units m

first_conj : CondText → ConjText
first_conj (last_conj f) = f
first_conj (next_conj f m) = f

more_conjs : CondText → List (Unit {0} × ConjText)
more_conjs (last_conj f) = []
more_conjs (next_conj f m) = (tt, first_conj m) ∷ more_conjs m

abbrev and_behind : Unit {0} → Places → ConjText → List TreeCond
and_behind u p d = and_parts p d

abbrev or_behind : Unit {0} → Places → CondText → List TreeCond
or_behind u p d = or_parts p d

unit_parts : (n : ℕ) (d : ConjText) → conj_depth d ≤ n → (unit_depth (first_unit d) ≤ n) × many_ok (λ (g : Unit {0} × UnitText). unit_depth g.1 ≤ n) (more_units d)
unfolding first_unit more_units conj_depth
unit_parts n (last_unit f) le = (le, tt)
unit_parts n (next_unit f m) le =
    let k = unit_parts n m (max_back (unit_depth f) (conj_depth m) n le) in
    (max_front (unit_depth f) (conj_depth m) n le, (k.0, k.1))

conj_parts : (n : ℕ) (d : CondText) → cond_depth d ≤ n → (conj_depth (first_conj d) ≤ n) × many_ok (λ (g : Unit {0} × ConjText). conj_depth g.1 ≤ n) (more_conjs d)
unfolding first_conj more_conjs cond_depth
conj_parts n (last_conj f) le = (le, tt)
conj_parts n (next_conj f m) le =
    let k = conj_parts n m (max_back (conj_depth f) (cond_depth m) n le) in
    (max_front (conj_depth f) (cond_depth m) n le, (k.0, k.1))

conj_onto : (d : ConjText) → made_by last_unit next_and (first_unit d) (more_units d) ≡ d
unfolding first_unit more_units made_by
conj_onto (last_unit f) = refl
conj_onto (next_unit f m) = ap (next_unit f) (conj_onto m)

cond_onto : (d : CondText) → made_by last_conj next_or (first_conj d) (more_conjs d) ≡ d
unfolding first_conj more_conjs made_by
cond_onto (last_conj f) = refl
cond_onto (next_conj f m) = ap (next_conj f) (cond_onto m)

conj_next : (p : Places) (f : UnitText) (u : Unit {0}) (m : ConjText) → conj_tree p (next_unit f m) ≡ and_of (unit_tree p f) (and_parts (drop (length (unit_words f) + 1) p) m)
unfolding conj_tree and_parts
conj_next p f u (last_unit g) = refl
conj_next p f u (next_unit g m) = refl

cond_next : (p : Places) (f : ConjText) (u : Unit {0}) (m : CondText) → cond_tree p (next_conj f m) ≡ or_of (conj_tree p f) (or_parts (drop (length (conj_words f) + 1) p) m)
unfolding cond_tree or_parts
cond_next p f u (last_conj g) = refl
cond_next p f u (next_conj g m) = refl

abbrev AndRule : ℕ → Type 1
AndRule n = Operator last_unit next_and first_unit more_units unit_words and_word conj_words (λ f. unit_depth f ≤ n) (λ d. conj_depth d ≤ n) unit_tree (λ u x. x) and_of conj_tree and_behind

and_rule : (n : ℕ) → AndRule n
unfolding conj_words conj_depth and_parts conj_tree
and_rule n = record {
  words_last = λ f. refl;
  words_next = λ f s m. refl;
  ok_last = λ f good. good;
  ok_next = λ f s m one more. max-le one more;
  ok_parts = unit_parts n;
  onto = conj_onto;
  node_one = λ a. refl;
  tree_last = λ p f. refl;
  tree_next = conj_next;
  parts_last = λ s p f. refl;
  parts_next = λ s p f r m. refl;
}

abbrev OrRule : ℕ → Type 1
OrRule n = Operator last_conj next_or first_conj more_conjs conj_words or_word cond_words (λ f. conj_depth f ≤ n) (λ d. cond_depth d ≤ n) conj_tree (λ u x. x) or_of cond_tree or_behind

or_rule : (n : ℕ) → OrRule n
unfolding cond_words cond_depth or_parts cond_tree
or_rule n = record {
  words_last = λ f. refl;
  words_next = λ f s m. refl;
  ok_last = λ f good. good;
  ok_next = λ f s m one more. max-le one more;
  ok_parts = conj_parts n;
  onto = cond_onto;
  node_one = λ a. refl;
  tree_last = λ p f. refl;
  tree_next = cond_next;
  parts_last = λ s p f. refl;
  parts_next = λ s p f r m. refl;
}

abbrev pub and_ext : Word → Bool
and_ext = or_else (is_key (codes "AND")) expr_ext

-- what goes on with a condition
abbrev pub cond_ext : Word → Bool
cond_ext = or_else (is_key (codes "OR")) and_ext

module _ {X : Type 0} {r : Words → Reading TreeCond} (n : ℕ) (unit : Exact {X = Unit {0}} {A = TreeCond} {D = UnitText} (λ e v. r v) unit_words (λ f. unit_depth f ≤ n) (λ e p f. unit_tree p f) expr_ext) where
  and_part : Exact {X = X} {A = TreeCond} {D = Unit {0} × UnitText} (λ e v. next_at (is_key (codes "AND")) r v) (λ g. and_word g.0 ∷ unit_words g.1) (λ g. unit_depth g.1 ≤ n) (λ e p g. unit_tree (drop 1 p) g.1) expr_ext
  unfolding next_at
  and_part = recast (word (key_needs (codes "AND")) (anywhere {X = X} unit)) (λ g. and_word g.0 ∷ unit_words g.1) (λ g. unit_depth g.1 ≤ n) (λ e p g. unit_tree (drop 1 p) g.1) expr_ext (λ f. (tt, f)) (λ g. g.1) (λ f. refl) (λ f good. good) (λ g good. good) (λ e p f. refl) (λ g good. refl) (λ us end. end)

  conj_exact : Exact {X = X} {A = TreeCond} {D = ConjText} (λ e v. and_by r v) conj_words (λ d. conj_depth d ≤ n) (λ e p d. conj_tree p d) and_ext
  unfolding and_by is_key is_sign adds
  conj_exact =
      operators last_unit next_and first_unit more_units unit_words and_word conj_words (λ f. unit_depth f ≤ n) (λ d. conj_depth d ≤ n) unit_tree (λ u x. x) and_of conj_tree and_behind
      (and_rule n) (anywhere {X = X} unit) and_part (is_key (codes "AND")) (λ s. refl) (λ s. refl)

module _ {X : Type 0} {r : Words → Reading TreeCond} (n : ℕ) (unit : Exact {X = Unit {0}} {A = TreeCond} {D = UnitText} (λ e v. r v) unit_words (λ f. unit_depth f ≤ n) (λ e p f. unit_tree p f) expr_ext) where
  or_part : Exact {X = X} {A = TreeCond} {D = Unit {0} × ConjText} (λ e v. next_at (is_key (codes "OR")) (and_by r) v) (λ g. or_word g.0 ∷ conj_words g.1) (λ g. conj_depth g.1 ≤ n) (λ e p g. conj_tree (drop 1 p) g.1) and_ext
  unfolding next_at
  or_part = recast (word (key_needs (codes "OR")) (conj_exact {X = X} n unit)) (λ g. or_word g.0 ∷ conj_words g.1) (λ g. conj_depth g.1 ≤ n) (λ e p g. conj_tree (drop 1 p) g.1) and_ext (λ f. (tt, f)) (λ g. g.1) (λ f. refl) (λ f good. good) (λ g good. good) (λ e p f. refl) (λ g good. refl) (λ us end. end)

  pub or_exact : Exact {X = X} {A = TreeCond} {D = CondText} (λ e v. cond_by r v) cond_words (λ d. cond_depth d ≤ n) (λ e p d. cond_tree p d) cond_ext
  unfolding or_by is_key is_sign adds
  or_exact =
      operators last_conj next_or first_conj more_conjs conj_words or_word cond_words (λ f. conj_depth f ≤ n) (λ d. cond_depth d ≤ n) conj_tree (λ u x. x) or_of cond_tree or_behind
      (or_rule n) (conj_exact {X = X} n unit) or_part (is_key (codes "OR")) (λ s. refl) (λ s. refl)

to_unit : Compared → UnitText
to_unit d = compared d.1.0 d.0 d.1.1.0

abbrev any_expr : ExprText
any_expr = last_term (last_factor (numeral []))

of_unit : UnitText → Compared
of_unit (denied u) = (any_expr, (Eq, (any_expr, tt)))
of_unit (bracketed c) = (any_expr, (Eq, (any_expr, tt)))
of_unit (compared cmp one other) = (one, (cmp, (other, tt)))

compared_made : (d : Compared) → unit_words (to_unit d) ≡ compared_words d
unfolding to_unit unit_words
compared_made d = ap (λ (l : List Word). expr_words d.0 ++ sign (cmp_text d.1.0) ∷ l) (sym (append-nil (expr_words d.1.1.0)))

compared_depth : (n : ℕ) (d : Compared) → compared_ok n d → unit_depth (to_unit d) ≤ n
unfolding to_unit unit_depth
compared_depth n d good = max-le good.0 good.1.1.0

compared_made_tree : (p : Places) (d : Compared) → unit_tree p (to_unit d) ≡ compared_tree p d
unfolding to_unit unit_tree
compared_made_tree p d = ap (λ (q : Places). Compare d.1.0 (expr_tree p d.0) (expr_tree q d.1.1.0)) (sym (drop-drop 1 (length (expr_words d.0)) p))

shallow_ok : (d : UnitText) → unit_depth d ≤ 0 → compared_ok 0 (of_unit d)
unfolding of_unit unit_depth
shallow_ok (denied u) le = absurd (omega (arith, le))
shallow_ok (bracketed c) le = absurd (omega (arith, le))
shallow_ok (compared cmp one other) le = (max_front (expr_depth one) (expr_depth other) 0 le, (tt, (max_back (expr_depth one) (expr_depth other) 0 le, tt)))

shallow_onto : (d : UnitText) → unit_depth d ≤ 0 → to_unit (of_unit d) ≡ d
unfolding to_unit of_unit unit_depth
shallow_onto (denied u) le = absurd (omega (arith, le))
shallow_onto (bracketed c) le = absurd (omega (arith, le))
shallow_onto (compared cmp one other) le = refl

no_opening : NoHead opens_cond
unfolding opens_cond is_key is_sign
no_opening = record { minus = refl; paren = refl; abs = refl; number = λ n. refl; text = λ v. refl; name = λ n. refl }

compared_first : (d : Compared) (us : List Word) → starts opens_cond (compared_words d ++ us) ≡ false
compared_first d us =
    ap (starts opens_cond) (append_assoc (expr_words d.0) (sign (cmp_text d.1.0) ∷ (expr_words d.1.1.0 ++ [])) us) ∙ expr_head no_opening d.0 (sign (cmp_text d.1.0) ∷ ((expr_words d.1.1.0 ++ []) ++ us))

abbrev Enclosed : Type 0
Enclosed = Either (UnitText × Unit {0}) (CondText × Unit {0})

abbrev denied_words : UnitText × Unit {0} → List Word
denied_words d = key (codes "NOT") ∷ (unit_words d.0 ++ [])

abbrev bracketed_words : CondText × Unit {0} → List Word
bracketed_words d = sign (codes "[") ∷ (cond_words d.0 ++ sign (codes "]") ∷ [])

abbrev enclosed_ok : ℕ → Enclosed → Type 0
enclosed_ok n d = either_ok (λ (d : UnitText × Unit {0}). (unit_depth d.0 ≤ n) × Unit {0}) (λ (d : CondText × Unit {0}). (cond_depth d.0 ≤ n) × Unit {0}) d

abbrev enclosed_tree : Unit {0} → Places → Enclosed → TreeCond
enclosed_tree u p d = either_tree {X = Unit {0}} (λ u p (d : UnitText × Unit {0}). Not (unit_tree (drop 1 p) d.0)) (λ u p (d : CondText × Unit {0}). cond_tree (drop 1 p) d.0) u p d

module _ {r : Words → Reading TreeCond} (n : ℕ) (unit : Exact {X = Unit {0}} {A = TreeCond} {D = UnitText} (λ e v. r v) unit_words (λ f. unit_depth f ≤ n) (λ e p f. unit_tree p f) expr_ext) where
  closed : (d : Unit {0}) (us : List Word) → Unit {0} → starts expr_ext us ≡ false → starts cond_ext (sign (codes "]") ∷ us) ≡ false
  unfolding adds is_sign is_key
  closed d us good end = refl

  enclosed_exact : Exact {X = Unit {0}} {A = TreeCond} {D = Enclosed} (λ e v. enclosed_by r v) (either_words denied_words bracketed_words) (enclosed_ok n) enclosed_tree expr_ext
  unfolding enclosed_by is_key
  enclosed_exact =
      branch (word (key_needs (codes "NOT")) (bind unit (value (λ (e : Unit {0} × TreeCond). Not e.1) expr_ext) (λ d us good end. end)))
      (word (sign_needs (codes "[")) (bind (or_exact {X = Unit {0}} n unit) (word (sign_needs (codes "]")) (value (λ (e : Unit {0} × TreeCond). e.1) expr_ext)) closed))
      (is_key (codes "NOT")) expr_ext (λ d us good. refl) (λ d us good end. refl) (λ us end. end) (λ us end. end)

abbrev Both : Type 0
Both = Either Enclosed Compared

of_both : Both → UnitText
of_both (one_way (one_way d)) = denied d.0
of_both (one_way (other_way d)) = bracketed d.0
of_both (other_way d) = to_unit d

to_both : UnitText → Both
to_both (denied u) = one_way (one_way (u, tt))
to_both (bracketed c) = one_way (other_way (c, tt))
to_both (compared cmp one other) = other_way (one, (cmp, (other, tt)))

both_words : (d : Both) → unit_words (of_both d) ≡ either_words (either_words denied_words bracketed_words) compared_words d
unfolding of_both unit_words
both_words (one_way (one_way d)) = ap (λ (l : List Word). key (codes "NOT") ∷ l) (sym (append-nil (unit_words d.0)))
both_words (one_way (other_way d)) = refl
both_words (other_way d) = compared_made d

both_depth : (n : ℕ) (d : Both) → either_ok (enclosed_ok n) (compared_ok (suc n)) d → unit_depth (of_both d) ≤ suc n
unfolding of_both unit_depth
both_depth n (one_way (one_way d)) good = omega (arith, good.0)
both_depth n (one_way (other_way d)) good = omega (arith, good.0)
both_depth n (other_way d) good = compared_depth (suc n) d good

both_ok : (n : ℕ) (d : UnitText) → unit_depth d ≤ suc n → either_ok (enclosed_ok n) (compared_ok (suc n)) (to_both d)
unfolding to_both unit_depth
both_ok n (denied u) le = (omega (arith, le), tt)
both_ok n (bracketed c) le = (omega (arith, le), tt)
both_ok n (compared cmp one other) le = (max_front (expr_depth one) (expr_depth other) (suc n) le, (tt, (max_back (expr_depth one) (expr_depth other) (suc n) le, tt)))

both_tree : (e : Unit {0}) (p : Places) (d : Both) → unit_tree p (of_both d) ≡ either_tree enclosed_tree (λ e p d. compared_tree p d) e p d
unfolding of_both unit_tree
both_tree e p (one_way (one_way d)) = refl
both_tree e p (one_way (other_way d)) = refl
both_tree e p (other_way d) = compared_made_tree p d

both_onto : (d : UnitText) → of_both (to_both d) ≡ d
unfolding of_both to_both to_unit
both_onto (denied u) = refl
both_onto (bracketed c) = refl
both_onto (compared cmp one other) = refl

enclosed_first : (n : ℕ) (d : Enclosed) (us : List Word) → enclosed_ok n d → starts opens_cond (either_words denied_words bracketed_words d ++ us) ≡ true
unfolding opens_cond is_key is_sign
enclosed_first n (one_way d) us good = refl
enclosed_first n (other_way d) us good = refl

-- a part of a condition in which at most so many signs and words open something
pub unit_exact : (n : ℕ) → Exact {X = Unit {0}} {A = TreeCond} {D = UnitText} (λ e v. unit_at n v) unit_words (λ f. unit_depth f ≤ n) (λ e p f. unit_tree p f) expr_ext
unfolding unit_at
unit_exact zero =
    recast (barred (compare_exact 0) opens_cond (λ d us good end. compared_first d us)) unit_words (λ f. unit_depth f ≤ 0) (λ e p f. unit_tree p f) expr_ext to_unit of_unit
    compared_made (compared_depth 0) shallow_ok (λ e p d. compared_made_tree p d) shallow_onto (λ us end. end)
unit_exact (suc n) =
    recast (branch (enclosed_exact n (unit_exact n)) (compare_exact (suc n)) opens_cond expr_ext (enclosed_first n) (λ d us good end. compared_first d us) (λ us end. end) (λ us end. end))
    unit_words (λ f. unit_depth f ≤ suc n) (λ e p f. unit_tree p f) expr_ext of_both to_both both_words (both_depth n) (both_ok n) both_tree (λ d good. both_onto d) (λ us end. end)

-- a condition
pub condition_exact : {X : Type 0} (n : ℕ) → Exact {X = X} {A = TreeCond} {D = CondText} (λ e v. condition_at n v) cond_words (λ d. cond_depth d ≤ n) (λ e p d. cond_tree p d) cond_ext
unfolding condition_at
condition_exact {X} n = or_exact {X = X} n (unit_exact n)
