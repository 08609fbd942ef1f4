-- where no value and no partial product passes, the plain values that the code computes are those of the expressions
use Rattle.std.proofs.Common.{◌≡◌, ℤ, pos, neg_ℤ, ◌*ℤ◌, unsigned_abs, Bool, true, false, List, [], ◌∷◌, map, refl, sym, ◌∙◌, ap, ap₂, subst, arith}
use Rattle.std.specs.Prelude.{Result, Ok, if◌then◌else◌}
use Rattle.std.specs.List.{list_any}
use Rattle.std.specs.Ordering.{int_eq}
use Rattle.std.proofs.lemmas.Int.{ints}
use denote.Hole.Carrier.{roll}
use Rattle.base_kit.specs.Asking.{and_then, all_of}
use Rattle.base_kit.specs.Orders.{value_order}
use Rattle.base_kit.specs.declared.value.Value.{Value}
use Rattle.tiql_query.specs.declared.expression.Signed.{Signed, roll-Signed}
use Rattle.tiql_query.specs.declared.expression.Expr.{Expr}
use Rattle.tiql_query.specs.declared.expression.Expr.TheOpen.{Expr-F}
use Rattle.tiql_query.specs.declared.expression.Expr.TheFolds.{map-Expr, ind-Expr}
use Rattle.tiql_query.specs.declared.expression.Expr.TheViews.{roll-Expr}
use Rattle.tiql_query.specs.declared.condition.Cmp.{Cmp}
use Rattle.row_values.specs.declared.fault.Wide.{Wide}
use Rattle.row_values.specs.Values.{Combination, number, total, signed, value, holds}
use Rattle.row_values.specs.Asked.{within, partial_products, product_within, asked, asked_part, text_of, value_of}
use Rattle.row_values.proofs.Evaluate.{asked-Int, asked-Text, asked-Column, asked-Sum, asked-Product, asked-Neg, asked-Abs}
use Rattle.row_values.proofs.Evaluate as row
use Rattle.row_values.proofs.Agreed.{and_then-Ok, same_answer, agreed, seen}
use Rattle.sym_values.specs.Numbers.{plain, plain_part}
use Rattle.sym_values.specs.Conditions.{compare_plain}
use Rattle.sym_values.proofs.PlainValues.{part-is, plain-Int, plain-Text, plain-Column, plain-Sum, plain-Product, plain-Neg, plain-Abs}

zero_times : (n : ℤ) → pos 0 *ℤ n ≡ pos 0
zero_times n = grind (arith, ints)

times_zero : (n : ℤ) → n *ℤ pos 0 ≡ pos 0
times_zero n = grind (arith, ints)

is_zero : (n : ℤ) → int_eq n (pos 0) ≡ true → n ≡ pos 0
is_zero n e = grind (arith, ints)

zero_products : (ns : List ℤ) → partial_products (pos 0) ns ≡ Ok (pos 0)
unfolding partial_products within
zero_products [] = refl
zero_products (n ∷ ns) = ap (λ (p : ℤ). partial_products p ns) (zero_times n) ∙ zero_products ns

with_zero : (p : ℤ) (ns : List ℤ) (n : ℤ) → list_any (λ m. int_eq m (pos 0)) ns ≡ true → partial_products p ns ≡ Ok n → pos 0 ≡ n
unfolding partial_products
with_zero p [] n any e = absurd (let k : false ≡ true = any in cc)
with_zero p (m ∷ ns) n any e =
    let both = and_then-Ok (within p) (λ q. partial_products (q *ℤ m) ns) n e in
    by_test (int_eq m (pos 0)) refl both.0 both.2 (with_zero (both.0 *ℤ m) ns n)
  where
    by_test : (zero : Bool) → int_eq m (pos 0) ≡ zero → (q : ℤ) → partial_products (q *ℤ m) ns ≡ Ok n → (list_any (λ m. int_eq m (pos 0)) ns ≡ true → partial_products (q *ℤ m) ns ≡ Ok n → pos 0 ≡ n) → pos 0 ≡ n
    by_test true z q h more = same_answer (pos 0) n (sym (zero_products ns) ∙ ap (λ (p : ℤ). partial_products p ns) (sym (ap (λ (m : ℤ). q *ℤ m) (is_zero m z) ∙ times_zero q)) ∙ h)
    by_test false z q h more = more (rw z at any) h

judged : (ns : List ℤ) (n : ℤ) → partial_products (pos 1) ns ≡ Ok n → product_within ns ≡ Ok n
unfolding product_within
judged ns n e = by_test (list_any (λ m. int_eq m (pos 0)) ns) refl
  where
    by_test : (zero : Bool) → list_any (λ m. int_eq m (pos 0)) ns ≡ zero → (if zero then Ok (pos 0) else partial_products (pos 1) ns) ≡ Ok n
    by_test true z = ap (λ (n : ℤ). Ok n) (with_zero (pos 1) ns n z e)
    by_test false z = e

all_asked : {X : Type 0} (f g : X → Result ℤ Wide) (ys : List ((x : X) × ((n : ℤ) → f x ≡ Ok n → g x ≡ Ok n))) (ns : List ℤ) → all_of (map f (map (λ y. y.0) ys)) ≡ Ok ns → all_of (map g (map (λ y. y.0) ys)) ≡ Ok ns
all_asked f g [] ns e = e
all_asked f g (y ∷ ys) ns e =
    let one = and_then-Ok (f y.0) (λ n. and_then (all_of (map f (map (λ y. y.0) ys))) (λ ns. Ok (n ∷ ns))) ns e in
    let two = and_then-Ok (all_of (map f (map (λ y. y.0) ys))) (λ ns. Ok (one.0 ∷ ns)) ns one.2 in
    ap₂ (λ (r : Result ℤ Wide) (l : Result (List ℤ) Wide). and_then r (λ n. and_then l (λ ns. Ok (n ∷ ns)))) (y.1 one.0 one.1) (all_asked f g ys two.0 two.1) ∙ two.2

module _ (rows : Combination) where
  abbrev IsAsked : Expr → Type 0
  IsAsked e = (n : ℤ) → plain rows e ≡ Ok n → asked rows e ≡ Ok n

  abbrev IsPartAsked : Signed → Type 0
  IsPartAsked s = (n : ℤ) → plain_part rows s ≡ Ok n → asked_part rows s ≡ Ok n

  abbrev Asking : Type 0
  Asking = (e : Expr) × IsAsked e

  abbrev PartAsking : Type 0
  PartAsking = (s : Signed) × IsPartAsked s

  asked_layer : (y : Expr-F Asking PartAsking) → IsAsked (roll-Expr (map-Expr Asking PartAsking Expr Signed (λ e. e.0) (λ s. s.0) y))
  unfolding roll-Expr roll
  asked_layer (Expr-F.Int m) = λ n e. asked-Int rows m ∙ sym (plain-Int rows m) ∙ e
  asked_layer (Expr-F.Text t) = λ n e. asked-Text rows t ∙ sym (plain-Text rows t) ∙ e
  asked_layer (Expr-F.Column at) = λ n e. asked-Column rows at ∙ sym (plain-Column rows at) ∙ e
  asked_layer (Expr-F.Sum ys) = λ n e.
      let both = and_then-Ok (all_of (map (plain_part rows) (map (λ y. y.0) ys))) (λ ns. within (total ns)) n (sym (plain-Sum rows (map (λ y. y.0) ys)) ∙ e) in
      asked-Sum rows (map (λ y. y.0) ys) ∙ ap (λ (r : Result (List ℤ) Wide). and_then r (λ ns. within (total ns))) (all_asked (plain_part rows) (asked_part rows) ys both.0 both.1) ∙ both.2
  asked_layer (Expr-F.Product ys) = λ n e.
      let both = and_then-Ok (all_of (map (plain rows) (map (λ y. y.0) ys))) (partial_products (pos 1)) n (sym (plain-Product rows (map (λ y. y.0) ys)) ∙ e) in
      asked-Product rows (map (λ y. y.0) ys) ∙ ap (λ (r : Result (List ℤ) Wide). and_then r product_within) (all_asked (plain rows) (asked rows) ys both.0 both.1) ∙ judged both.0 n both.2
  asked_layer (Expr-F.Neg y) = λ n e.
      let both = and_then-Ok (plain rows y.0) (λ n. Ok (neg_ℤ n)) n (sym (plain-Neg rows y.0) ∙ e) in
      asked-Neg rows y.0 ∙ ap (λ (r : Result ℤ Wide). and_then r (λ n. Ok (neg_ℤ n))) (y.1 both.0 both.1) ∙ both.2
  asked_layer (Expr-F.Abs y) = λ n e.
      let both = and_then-Ok (plain rows y.0) (λ n. Ok (pos (unsigned_abs n))) n (sym (plain-Abs rows y.0) ∙ e) in
      asked-Abs rows y.0 ∙ ap (λ (r : Result ℤ Wide). and_then r (λ n. Ok (pos (unsigned_abs n)))) (y.1 both.0 both.1) ∙ both.2

  asked_signed : (minus : Bool) (e : Expr) → IsAsked e → IsPartAsked (record { minus = minus; part = e })
  asked_signed minus part same n e =
      let both = and_then-Ok (plain rows part) (λ n. Ok (signed minus n)) n (sym (part-is rows (record { minus = minus; part = part })) ∙ e) in
      row.part-is rows (record { minus = minus; part = part }) ∙ ap (λ (r : Result ℤ Wide). and_then r (λ n. Ok (signed minus n))) (same both.0 both.1) ∙ both.2

  -- a plain value is the one that is asked
  pub plain_asked : (e : Expr) (n : ℤ) → plain rows e ≡ Ok n → asked rows e ≡ Ok n
  plain_asked = ind-Expr IsAsked IsPartAsked
      (λ x y is. subst (λ z. IsAsked (roll-Expr z)) is (asked_layer y))
      (λ x y is. subst (λ z. IsPartAsked (roll-Signed z)) is (asked_signed y.minus y.part.0 y.part.1))

  -- a plain value is that of the expression
  pub plain_value : (e : Expr) (n : ℤ) → plain rows e ≡ Ok n → number (value rows e) ≡ n
  plain_value e n told = agreed rows e n (plain_asked e n told)

  -- likewise of comparisons
  pub compare_value : (test : Cmp) (one other : Expr) (b : Bool) → compare_plain rows test one other ≡ Ok b → holds test (value_order (value rows one) (value rows other)) ≡ b
  unfolding compare_plain
  compare_value test one other b e =
      let left = and_then-Ok (plain rows one) (λ m. and_then (plain rows other) (λ n. Ok (holds test (value_order (value_of (text_of rows one) m) (value_of (text_of rows other) n))))) b e in
      let right = and_then-Ok (plain rows other) (λ n. Ok (holds test (value_order (value_of (text_of rows one) left.0) (value_of (text_of rows other) n)))) b left.2 in
      ap₂ (λ (v w : Value). holds test (value_order v w)) (sym (seen rows one left.0 (plain_asked one left.0 left.1))) (sym (seen rows other right.0 (plain_asked other right.0 right.1))) ∙ same_answer (holds test (value_order (value_of (text_of rows one) left.0) (value_of (text_of rows other) right.0))) b right.2
