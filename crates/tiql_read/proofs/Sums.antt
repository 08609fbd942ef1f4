-- sums and products are read exactly where their factors are
use Rattle.std.proofs.Common.{◌≡◌, ℕ, ◌+◌, ◌≤◌, Bool, true, false, cond, List, [], ◌∷◌, ◌++◌, length, drop, codes, refl, sym, ap, arith}
use Rattle.std.proofs.lemmas.List.{append-nil}
use Rattle.base_kit.specs.declared.place.Place.{Place}
use Rattle.tiql_tree.specs.Words.{Word}
use Rattle.tiql_tree.specs.Trees.{Places, place}
use Rattle.tiql_read.specs.Steps.{Words, Reading}
use Rattle.tiql_read.proofs.Exact.{Exact}
use Rattle.std.proofs.Common.{max}
use Rattle.std.proofs.Math.Nat.{le-max_left, le-max_right, max-le}
use Rattle.tiql_tree.specs.declared.expression.TreeExpr.{TreeExpr}
use Rattle.tiql_tree.specs.declared.expression.TreeSigned.{TreeSigned}
use Rattle.tiql_tree.specs.declared.expression.TreeForm.TheViews.{Product, Sum}
use Rattle.tiql_tree.specs.Words.{sign}
use Rattle.tiql_tree.specs.Texts.{FactorText, TermText, ExprText}
use Rattle.tiql_tree.specs.Texts.FactorText.{negated, numeral, value_text, reference, absolute, grouped}
use Rattle.tiql_tree.specs.Texts.TermText.{last_factor, next_factor}
use Rattle.tiql_tree.specs.Texts.ExprText.{last_term, next_term}
use Rattle.tiql_tree.specs.Grammar.{factor_words, term_words, expr_words}
use Rattle.tiql_tree.specs.Nesting.{factor_depth, term_depth, expr_depth}
use Rattle.tiql_tree.specs.Trees.{expr_at, signed, factor_tree, term_tree, product_parts, expr_tree, sum_parts}
use Rattle.tiql_read.specs.Steps.{is_sign, next_at}
use Rattle.tiql_read.specs.Expressions.{place_of, product_of, sum_of, minus_of, adds, term_by, signed_by, sum_by, expr_by}
use Rattle.tiql_read.proofs.Rules.{Takes, one, word}
use Rattle.tiql_read.proofs.Chains.{bind}
use Rattle.tiql_read.proofs.Branches.{recast}
use Rattle.tiql_read.proofs.Many.{under, many_ok}
use Rattle.tiql_read.proofs.Lists.{or_else, value, no_end}
use Rattle.tiql_read.proofs.Operators.{Operator, operators, made_by}
use Rattle.tiql_read.proofs.WordTests.{sign_needs, two_takes, retake}

-- in any environment
pub anywhere : {X A D : Type 0} {r : Words → Reading A} {w : D → List Word} {ok : D → Type 0} {t : Places → D → A} {ext : Word → Bool} → Exact {X = Unit {0}} {A = A} {D = D} (λ e v. r v) w ok (λ e p d. t p d) ext → Exact {X = X} {A = A} {D = D} (λ e v. r v) w ok (λ e p d. t p d) ext
anywhere one = under (λ e. tt) one

pub max_front : (a b n : ℕ) → max a b ≤ n → a ≤ n
max_front a b n h = omega (arith, le-max_left a b)

pub max_back : (a b n : ℕ) → max a b ≤ n → b ≤ n
max_back a b n h = omega (arith, le-max_right a b)

pub factor_place : (p : Places) (f : FactorText) → place_of (factor_tree p f) ≡ place 0 p
unfolding factor_tree
factor_place p (negated f) = refl
factor_place p (numeral number) = refl
factor_place p (value_text value) = refl
factor_place p (reference ref) = refl
factor_place p (absolute expr) = refl
factor_place p (grouped expr) = refl

pub term_place : (p : Places) (d : TermText) → place_of (term_tree p d) ≡ place 0 p
unfolding term_tree
term_place p (last_factor f) = factor_place p f
term_place p (next_factor f m) = refl

pub expr_place : (p : Places) (d : ExprText) → place_of (expr_tree p d) ≡ place 0 p
unfolding expr_tree
expr_place p (last_term f) = term_place p f
expr_place p (next_term f minus m) = refl

abbrev star : Unit {0} → Word
star u = sign (codes "*")

abbrev next_part : FactorText → Unit {0} → TermText → TermText
next_part f u m = next_factor f m

first_factor : TermText → FactorText
first_factor (last_factor f) = f
first_factor (next_factor f m) = f

more_factors : TermText → List (Unit {0} × FactorText)
more_factors (last_factor f) = []
more_factors (next_factor f m) = (tt, first_factor m) ∷ more_factors m

abbrev product_behind : Unit {0} → Places → TermText → List TreeExpr
product_behind u p d = product_parts p d

abbrev TermRule : ℕ → Type 1
TermRule n = Operator last_factor next_part first_factor more_factors factor_words star term_words (λ f. factor_depth f ≤ n) (λ d. term_depth d ≤ n) factor_tree (λ u x. x) product_of term_tree product_behind

term_parts : (n : ℕ) (d : TermText) → term_depth d ≤ n → (factor_depth (first_factor d) ≤ n) × many_ok (λ (g : Unit {0} × FactorText). factor_depth g.1 ≤ n) (more_factors d)
unfolding first_factor more_factors term_depth
term_parts n (last_factor f) le = (le, tt)
term_parts n (next_factor f m) le =
    let k = term_parts n m (max_back (factor_depth f) (term_depth m) n le) in
    (max_front (factor_depth f) (term_depth m) n le, (k.0, k.1))

term_onto : (d : TermText) → made_by last_factor next_part (first_factor d) (more_factors d) ≡ d
unfolding first_factor more_factors made_by
term_onto (last_factor f) = refl
term_onto (next_factor f m) = ap (next_factor f) (term_onto m)

term_next : (p : Places) (f : FactorText) (u : Unit {0}) (m : TermText) → term_tree p (next_factor f m) ≡ product_of (factor_tree p f) (product_parts (drop (length (factor_words f) + 1) p) m)
unfolding term_tree product_parts
term_next p f u (last_factor g) = ap (λ (x : Place). expr_at x (Product (factor_tree p f ∷ product_parts (drop (length (factor_words f) + 1) p) (last_factor g)))) (sym (factor_place p f))
term_next p f u (next_factor g m) = ap (λ (x : Place). expr_at x (Product (factor_tree p f ∷ product_parts (drop (length (factor_words f) + 1) p) (next_factor g m)))) (sym (factor_place p f))

term_rule : (n : ℕ) → TermRule n
unfolding term_words term_depth product_parts term_tree
term_rule n = record {
  words_last = λ f. refl;
  words_next = λ f s m. refl;
  ok_last = λ f good. good;
  ok_next = λ f s m one more. max-le one more;
  ok_parts = term_parts n;
  onto = term_onto;
  node_one = λ a. refl;
  tree_last = λ p f. refl;
  tree_next = term_next;
  parts_last = λ s p f. refl;
  parts_next = λ s p f r m. refl;
}

abbrev pub star_ext : Word → Bool
star_ext = or_else (is_sign (codes "*")) (is_sign (codes "."))

module _ {X : Type 0} {r : Words → Reading TreeExpr} (n : ℕ) (factor : Exact {X = Unit {0}} {A = TreeExpr} {D = FactorText} (λ e v. r v) factor_words (λ f. factor_depth f ≤ n) (λ e p f. factor_tree p f) (is_sign (codes "."))) where
  star_part : Exact {X = X} {A = TreeExpr} {D = Unit {0} × FactorText} (λ e v. next_at (is_sign (codes "*")) r v) (λ g. star g.0 ∷ factor_words g.1) (λ g. factor_depth g.1 ≤ n) (λ e p g. factor_tree (drop 1 p) g.1) (is_sign (codes "."))
  unfolding next_at
  star_part = recast (word (sign_needs (codes "*")) (anywhere {X = X} factor)) (λ g. star g.0 ∷ factor_words g.1) (λ g. factor_depth g.1 ≤ n) (λ e p g. factor_tree (drop 1 p) g.1) (is_sign (codes ".")) (λ f. (tt, f)) (λ g. g.1) (λ f. refl) (λ f good. good) (λ g good. good) (λ e p f. refl) (λ g good. refl) (λ us end. end)

  pub term_exact : Exact {X = X} {A = TreeExpr} {D = TermText} (λ e v. term_by r v) term_words (λ d. term_depth d ≤ n) (λ e p d. term_tree p d) star_ext
  unfolding term_by is_sign
  term_exact =
      operators last_factor next_part first_factor more_factors factor_words star term_words (λ f. factor_depth f ≤ n) (λ d. term_depth d ≤ n) factor_tree (λ u x. x) product_of term_tree product_behind
      (term_rule n) (anywhere {X = X} factor) star_part (is_sign (codes "*")) (λ s. refl) (λ s. refl)

abbrev plus_or_minus : Bool → Word
plus_or_minus minus = sign (cond minus (codes "-") (codes "+"))

minus_takes : Takes {A = Bool} {D = Bool} minus_of plus_or_minus (λ p minus. minus)
unfolding minus_of is_sign
minus_takes = retake (two_takes (is_sign (codes "-")) (is_sign (codes "+")) (sign (codes "-")) (sign (codes "+")) (sign_needs (codes "-")) (sign_needs (codes "+")) refl) plus_or_minus (λ p minus. minus) (λ b. b) (λ b. b) keys (λ p b. refl) (λ b. refl)
  where
    keys : (b : Bool) → plus_or_minus b ≡ cond b (sign (codes "-")) (sign (codes "+"))
    keys true = refl
    keys false = refl

first_term : ExprText → TermText
first_term (last_term f) = f
first_term (next_term f minus m) = f

more_terms : ExprText → List (Bool × TermText)
more_terms (last_term f) = []
more_terms (next_term f minus m) = (minus, first_term m) ∷ more_terms m

abbrev ExprRule : ℕ → Type 1
ExprRule n = Operator last_term next_term first_term more_terms term_words plus_or_minus expr_words (λ f. term_depth f ≤ n) (λ d. expr_depth d ≤ n) term_tree signed sum_of expr_tree sum_parts

expr_parts : (n : ℕ) (d : ExprText) → expr_depth d ≤ n → (term_depth (first_term d) ≤ n) × many_ok (λ (g : Bool × TermText). term_depth g.1 ≤ n) (more_terms d)
unfolding first_term more_terms expr_depth
expr_parts n (last_term f) le = (le, tt)
expr_parts n (next_term f minus m) le =
    let k = expr_parts n m (max_back (term_depth f) (expr_depth m) n le) in
    (max_front (term_depth f) (expr_depth m) n le, (k.0, k.1))

expr_onto : (d : ExprText) → made_by last_term next_term (first_term d) (more_terms d) ≡ d
unfolding first_term more_terms made_by
expr_onto (last_term f) = refl
expr_onto (next_term f minus m) = ap (next_term f minus) (expr_onto m)

expr_next : (p : Places) (f : TermText) (minus : Bool) (m : ExprText) → expr_tree p (next_term f minus m) ≡ sum_of (term_tree p f) (sum_parts minus (drop (length (term_words f) + 1) p) m)
unfolding expr_tree sum_parts
expr_next p f minus (last_term g) = ap (λ (x : Place). expr_at x (Sum (signed false (term_tree p f) ∷ sum_parts minus (drop (length (term_words f) + 1) p) (last_term g)))) (sym (term_place p f))
expr_next p f minus (next_term g r m) = ap (λ (x : Place). expr_at x (Sum (signed false (term_tree p f) ∷ sum_parts minus (drop (length (term_words f) + 1) p) (next_term g r m)))) (sym (term_place p f))

expr_rule : (n : ℕ) → ExprRule n
unfolding expr_words expr_depth sum_parts expr_tree
expr_rule n = record {
  words_last = λ f. refl;
  words_next = λ f s m. refl;
  ok_last = λ f good. good;
  ok_next = λ f s m one more. max-le one more;
  ok_parts = expr_parts n;
  onto = expr_onto;
  node_one = λ a. refl;
  tree_last = λ p f. refl;
  tree_next = expr_next;
  parts_last = λ s p f. refl;
  parts_next = λ s p f r m. refl;
}

adds_sign : (minus : Bool) → adds (plus_or_minus minus) ≡ true
unfolding adds is_sign
adds_sign true = refl
adds_sign false = refl

no_star : (minus : Bool) → star_ext (plus_or_minus minus) ≡ false
unfolding is_sign
no_star true = refl
no_star false = refl

-- what goes on with an expression
abbrev pub expr_ext : Word → Bool
expr_ext = or_else adds star_ext

module _ {X : Type 0} {r : Words → Reading TreeExpr} (n : ℕ) (factor : Exact {X = Unit {0}} {A = TreeExpr} {D = FactorText} (λ e v. r v) factor_words (λ f. factor_depth f ≤ n) (λ e p f. factor_tree p f) (is_sign (codes "."))) where
  sum_part : Exact {X = X} {A = TreeSigned} {D = Bool × TermText} (λ e v. signed_by (term_by r) v) (λ g. plus_or_minus g.0 ∷ term_words g.1) (λ g. term_depth g.1 ≤ n) (λ e p g. signed g.0 (term_tree (drop 1 p) g.1)) star_ext
  unfolding signed_by
  sum_part =
      recast (bind (one {X = X} minus_takes) (bind (term_exact {X = X × Bool} n factor) (value (λ (e : (X × Bool) × TreeExpr). signed e.0.1 e.1) star_ext) (λ d us good end. end)) (λ d us good end. no_end ((term_words d.0 ++ []) ++ us)))
      (λ g. plus_or_minus g.0 ∷ term_words g.1) (λ g. term_depth g.1 ≤ n) (λ e p g. signed g.0 (term_tree (drop 1 p) g.1)) star_ext (λ d. (d.0, d.1.0)) (λ g. (g.0, (g.1, tt)))
      (λ d. ap (λ (l : List Word). plus_or_minus d.0 ∷ l) (sym (append-nil (term_words d.1.0)))) (λ d good. good.1.0) (λ g good. (tt, (good, tt))) (λ e p d. refl) (λ g good. refl) (λ us end. end)

  pub sum_exact : Exact {X = X} {A = TreeExpr} {D = ExprText} (λ e v. expr_by r v) expr_words (λ d. expr_depth d ≤ n) (λ e p d. expr_tree p d) expr_ext
  unfolding sum_by
  sum_exact =
      operators last_term next_term first_term more_terms term_words plus_or_minus expr_words (λ f. term_depth f ≤ n) (λ d. expr_depth d ≤ n) term_tree signed sum_of expr_tree sum_parts
      (expr_rule n) (term_exact {X = X} n factor) sum_part adds adds_sign no_star
