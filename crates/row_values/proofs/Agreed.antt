-- where no value passes, what is asked is the value of the expression or the condition
use Rattle.std.proofs.Common.{◌≡◌, ℕ, ℤ, ◌+◌, ◌*◌, Bool, true, false, not, List, [], ◌∷◌, map, refl, sym, ◌∙◌, ap, ap₂, subst, arith, pos, if◌then◌else◌, ◌-ℤ◌, ◌*ℤ◌, neg_ℤ, unsigned_abs, Option}
use Rattle.std.specs.Prelude.{Result, Ok, Err}
use Rattle.std.specs.List.{list_all, list_any}
use Rattle.std.specs.Ordering.{int_eq}
use Rattle.std.proofs.lemmas.Int.{ints}
use borrow.Author.Differences.{up, down, product_is}
use denote.Hole.Carrier.{roll}
use Rattle.base_kit.specs.Asking.{and_then, all_of}
use Rattle.base_kit.specs.Orders.{value_order}
use Rattle.base_kit.specs.declared.value.Value.{Value}
use Rattle.base_kit.specs.declared.value.Value.TheVariants as values
use Rattle.tiql_query.specs.declared.expression.At.{At}
use Rattle.tiql_query.specs.declared.expression.Signed.{Signed, fold-Signed, fold_out-Signed, roll-Signed}
use Rattle.tiql_query.specs.declared.expression.Expr.{Expr}
use Rattle.tiql_query.specs.declared.expression.Expr.TheOpen.{Expr-F}
use Rattle.tiql_query.specs.declared.expression.Expr.TheFolds.{fold-roll-Expr, map-Expr, ind-Expr}
use Rattle.tiql_query.specs.declared.expression.Expr.TheVariants.{Int, Text, Column}
use Rattle.tiql_query.specs.declared.expression.Expr.TheViews.{Sum, Product, Neg, Abs, roll-Expr}
use Rattle.tiql_query.specs.declared.condition.Cmp.{Cmp}
use Rattle.tiql_query.specs.declared.condition.Cond.{Cond}
use Rattle.tiql_query.specs.declared.condition.Cond.TheOpen.{Cond-F}
use Rattle.tiql_query.specs.declared.condition.Cond.TheFolds.{fold-roll-Cond, map-Cond, ind-Cond}
use Rattle.tiql_query.specs.declared.condition.Cond.TheVariants.{Compare}
use Rattle.tiql_query.specs.declared.condition.Cond.TheViews.{Not, And, Or, roll-Cond}
use Rattle.row_values.specs.declared.fault.Wide.{Wide}
use Rattle.row_values.specs.Values.{Combination, number, text, cell, total, product, signed, value_step, part_step, value, holds, truth_step, truth}
use Rattle.row_values.specs.Asked.{passes, within, partial_products, product_within, asked, asked_part, text_of, value_of, compare_asked, truth_asked}
use Rattle.row_values.proofs.Evaluate.{part-is, asked-Int, asked-Text, asked-Column, asked-Sum, asked-Product, asked-Neg, asked-Abs, text-Int, text-Text, text-Column, text-Sum, text-Product, text-Neg, text-Abs, truth-Compare, truth-Not, truth-And, truth-Or, within-passed, within-small}

-- products of three whole numbers, each read as a difference
unfoldable diff : ℕ → ℕ → ℤ
diff u v = pos u -ℤ pos v

is_diff : (a : ℤ) → a ≡ diff (up a) (down a)
unfolding diff
is_diff a = omega (arith, ints)

diff-same : (u v x y : ℕ) → u + y ≡ x + v → diff u v ≡ diff x y
unfolding diff
diff-same u v x y e = omega (arith, ints)

ends : (u v : ℕ) → up (diff u v) + v ≡ u + down (diff u v)
unfolding diff
ends u v = omega (arith, ints)

cross : (a b c d u v x y : ℕ) → a + v ≡ u + b → c + y ≡ x + d → a * c + b * d + (u * y + v * x) ≡ u * x + v * y + (a * d + b * c)
cross a b c d u v x y p q =
    omega (arith, ap (λ n. n * c) p, ap (λ n. n * d) p, ap (λ n. u * n) q, ap (λ n. v * n) q)

diff-mul : (u v x y : ℕ) → diff u v *ℤ diff x y ≡ diff (u * x + v * y) (u * y + v * x)
diff-mul u v x y =
    let e : up (diff u v *ℤ diff x y) + (u * y + v * x) ≡ u * x + v * y + down (diff u v *ℤ diff x y) = rw ((product_is (diff u v) (diff x y)).0, (product_is (diff u v) (diff x y)).1) (cross _ _ _ _ u v x y (ends u v) (ends x y)) in
    is_diff (diff u v *ℤ diff x y) ∙ diff-same _ _ _ _ e

diffs-assoc : (u v x y z w : ℕ) → (diff u v *ℤ diff x y) *ℤ diff z w ≡ diff u v *ℤ (diff x y *ℤ diff z w)
diffs-assoc u v x y z w = simp diff-mul (diff-same _ _ _ _ (omega arith))

times_assoc : (a b c : ℤ) → (a *ℤ b) *ℤ c ≡ a *ℤ (b *ℤ c)
times_assoc a b c = rw (is_diff a, is_diff b, is_diff c) (diffs-assoc (up a) (down a) (up b) (down b) (up c) (down c))

pub and_then-Ok : {E A B : Type 0} (r : Result A E) (f : A → Result B E) (b : B) → and_then r f ≡ Ok b → (a : A) × (r ≡ Ok a) × (f a ≡ Ok b)
and_then-Ok (Ok a) f b e = (a, refl, e)
and_then-Ok {E} {A} {B} (Err w) f b e = absurd (let k : ◌≡◌ {A = Result B E} (Err w) (Ok b) = e in cc)

pub same_answer : {E A : Type 0} (a b : A) → ◌≡◌ {A = Result A E} (Ok a) (Ok b) → a ≡ b
same_answer a b e = cc

-- what is asked of each agrees with its value
pub all_of-same : {E A X : Type 0} (f : X → Result A E) (g : X → A) (ys : List ((x : X) × ((a : A) → f x ≡ Ok a → g x ≡ a))) (as_ : List A) → all_of (map f (map (λ y. y.0) ys)) ≡ Ok as_ → map g (map (λ y. y.0) ys) ≡ as_
all_of-same f g [] as_ e = same_answer [] as_ e
all_of-same {E} {A} {X} f g (y ∷ ys) as_ e =
    let one = and_then-Ok (f y.0) (λ n. and_then (all_of (map f (map (λ y. y.0) ys))) (λ ns. Ok (n ∷ ns))) as_ e in
    let two = and_then-Ok (all_of (map f (map (λ y. y.0) ys))) (λ ns. Ok (one.0 ∷ ns)) as_ one.2 in
    ap₂ (λ (a : A) (l : List A). a ∷ l) (y.1 one.0 one.1) (all_of-same f g ys two.0 two.1) ∙ same_answer (one.0 ∷ two.0) as_ two.2

pub within-Ok : (m n : ℤ) → within m ≡ Ok n → m ≡ n
within-Ok m n e = by_test (passes m) refl
  where
    by_test : (over : Bool) → passes m ≡ over → m ≡ n
    by_test true o = absurd (let k : ◌≡◌ {A = Result ℤ Wide} (Err (record { number = m })) (Ok n) = sym (within-passed m o) ∙ e in cc)
    by_test false o = same_answer m n (sym (within-small m o) ∙ e)

times_one : (p : ℤ) → p *ℤ pos 1 ≡ p
times_one p = grind (arith, ints)

one_times : (p : ℤ) → pos 1 *ℤ p ≡ p
one_times p = grind (arith, ints)

times_zero : (p : ℤ) → p *ℤ pos 0 ≡ pos 0
times_zero p = grind (arith, ints)

zero_times : (p : ℤ) → pos 0 *ℤ p ≡ pos 0
zero_times p = grind (arith, ints)

is_zero : (n : ℤ) → int_eq n (pos 0) ≡ true → n ≡ pos 0
is_zero n e = grind (arith, ints)

zero_product : (ns : List ℤ) → list_any (λ n. int_eq n (pos 0)) ns ≡ true → product ns ≡ pos 0
zero_product [] e = absurd (let k : false ≡ true = e in cc)
zero_product (n ∷ ns) e = by_test (λ h. zero_product ns h) (int_eq n (pos 0)) refl
  where
    by_test : (list_any (λ n. int_eq n (pos 0)) ns ≡ true → product ns ≡ pos 0) → (zero : Bool) → int_eq n (pos 0) ≡ zero → product (n ∷ ns) ≡ pos 0
    by_test more true z = rw (is_zero n z) (zero_times (product ns))
    by_test more false z = rw (more (rw z at e)) (times_zero n)

products-Ok : (p : ℤ) (ns : List ℤ) (n : ℤ) → partial_products p ns ≡ Ok n → p *ℤ product ns ≡ n
unfolding partial_products
products-Ok p [] n e = times_one p ∙ within-Ok p n e
products-Ok p (m ∷ ns) n e =
    let both = and_then-Ok (within p) (λ q. partial_products (q *ℤ m) ns) n e in
    sym (times_assoc p m (product ns)) ∙ ap (λ (q : ℤ). (q *ℤ m) *ℤ product ns) (within-Ok p both.0 both.1) ∙ products-Ok (both.0 *ℤ m) ns n both.2

product_within-Ok : (ns : List ℤ) (n : ℤ) → product_within ns ≡ Ok n → product ns ≡ n
unfolding product_within
product_within-Ok ns n e = by_test (list_any (λ n. int_eq n (pos 0)) ns) refl e
  where
    by_test : (zero : Bool) → list_any (λ n. int_eq n (pos 0)) ns ≡ zero → (if zero then Ok (pos 0) else partial_products (pos 1) ns) ≡ Ok n → product ns ≡ n
    by_test true z h = zero_product ns z ∙ same_answer (pos 0) n h
    by_test false z h = sym (one_times (product ns)) ∙ products-Ok (pos 1) ns n h

map_twice : {X Y Z : Type 0} (f : X → Y) (g : Y → Z) (xs : List X) → map g (map f xs) ≡ map (λ x. g (f x)) xs
map_twice f g [] = refl
map_twice {X} {Y} {Z} f g (x ∷ xs) = ap (λ (l : List Z). g (f x) ∷ l) (map_twice f g xs)

unfoldable part_value : Combination → Signed → ℤ
part_value rows = fold-Signed Value ℤ (value_step rows) part_step

module _ (rows : Combination) where
  part_value-is : (s : Signed) → part_value rows s ≡ signed s.minus (number (value rows s.part))
  unfolding part_value value
  part_value-is s = fold_out-Signed Value ℤ (value_step rows) part_step s

  value-Int : (n : ℤ) → value rows (Int n) ≡ values.Int n
  unfolding value roll-Expr roll
  value-Int n = fold-roll-Expr Value ℤ (value_step rows) part_step (Expr-F.Int n)

  value-Text : (t : List ℕ) → value rows (Text t) ≡ values.Text t
  unfolding value roll-Expr roll
  value-Text t = fold-roll-Expr Value ℤ (value_step rows) part_step (Expr-F.Text t)

  value-Column : (at : At) → value rows (Column at) ≡ cell rows at
  unfolding value roll-Expr roll
  value-Column at = fold-roll-Expr Value ℤ (value_step rows) part_step (Expr-F.Column at)

  value-Sum : (parts : List Signed) → value rows (Sum parts) ≡ values.Int (total (map (part_value rows) parts))
  unfolding value part_value roll-Expr roll
  value-Sum parts = fold-roll-Expr Value ℤ (value_step rows) part_step (Expr-F.Sum parts)

  value-Product : (factors : List Expr) → value rows (Product factors) ≡ values.Int (product (map number (map (value rows) factors)))
  unfolding value roll-Expr roll
  value-Product factors = fold-roll-Expr Value ℤ (value_step rows) part_step (Expr-F.Product factors)

  value-Neg : (part : Expr) → value rows (Neg part) ≡ values.Int (neg_ℤ (number (value rows part)))
  unfolding value roll-Expr roll
  value-Neg part = fold-roll-Expr Value ℤ (value_step rows) part_step (Expr-F.Neg part)

  value-Abs : (part : Expr) → value rows (Abs part) ≡ values.Int (pos (unsigned_abs (number (value rows part))))
  unfolding value roll-Expr roll
  value-Abs part = fold-roll-Expr Value ℤ (value_step rows) part_step (Expr-F.Abs part)

  abbrev IsAgreed : Expr → Type 0
  IsAgreed e = (n : ℤ) → asked rows e ≡ Ok n → number (value rows e) ≡ n

  abbrev IsPartAgreed : Signed → Type 0
  IsPartAgreed s = (n : ℤ) → asked_part rows s ≡ Ok n → part_value rows s ≡ n

  abbrev Agreeing : Type 0
  Agreeing = (e : Expr) × IsAgreed e

  abbrev PartAgreeing : Type 0
  PartAgreeing = (s : Signed) × IsPartAgreed s

  agreed-Sum : (ys : List PartAgreeing) → IsAgreed (Sum (map (λ y. y.0) ys))
  agreed-Sum ys n e =
      let both = and_then-Ok (all_of (map (asked_part rows) (map (λ y. y.0) ys))) (λ ns. within (total ns)) n (sym (asked-Sum rows (map (λ y. y.0) ys)) ∙ e) in
      ap number (value-Sum (map (λ y. y.0) ys)) ∙ ap total (all_of-same (asked_part rows) (part_value rows) ys both.0 both.1) ∙ within-Ok (total both.0) n both.2

  agreed-Product : (ys : List Agreeing) → IsAgreed (Product (map (λ y. y.0) ys))
  agreed-Product ys n e =
      let both = and_then-Ok (all_of (map (asked rows) (map (λ y. y.0) ys))) product_within n (sym (asked-Product rows (map (λ y. y.0) ys)) ∙ e) in
      ap number (value-Product (map (λ y. y.0) ys)) ∙ ap product (map_twice (value rows) number (map (λ y. y.0) ys) ∙ all_of-same (asked rows) (λ e. number (value rows e)) ys both.0 both.1) ∙ product_within-Ok both.0 n both.2

  agreed-Neg : (e : Expr) → IsAgreed e → IsAgreed (Neg e)
  agreed-Neg part same n e =
      let both = and_then-Ok (asked rows part) (λ n. Ok (neg_ℤ n)) n (sym (asked-Neg rows part) ∙ e) in
      ap number (value-Neg part) ∙ ap neg_ℤ (same both.0 both.1) ∙ same_answer (neg_ℤ both.0) n both.2

  agreed-Abs : (e : Expr) → IsAgreed e → IsAgreed (Abs e)
  agreed-Abs part same n e =
      let both = and_then-Ok (asked rows part) (λ n. Ok (pos (unsigned_abs n))) n (sym (asked-Abs rows part) ∙ e) in
      ap number (value-Abs part) ∙ ap (λ (n : ℤ). pos (unsigned_abs n)) (same both.0 both.1) ∙ same_answer (pos (unsigned_abs both.0)) n both.2

  agreed_layer : (y : Expr-F Agreeing PartAgreeing) → IsAgreed (roll-Expr (map-Expr Agreeing PartAgreeing Expr Signed (λ e. e.0) (λ s. s.0) y))
  unfolding roll-Expr roll
  agreed_layer (Expr-F.Int m) = λ n e. ap number (value-Int m) ∙ within-Ok m n (sym (asked-Int rows m) ∙ e)
  agreed_layer (Expr-F.Text t) = λ n e. ap number (value-Text t) ∙ same_answer (pos 0) n (sym (asked-Text rows t) ∙ e)
  agreed_layer (Expr-F.Column at) = λ n e. ap number (value-Column at) ∙ within-Ok (number (cell rows at)) n (sym (asked-Column rows at) ∙ e)
  agreed_layer (Expr-F.Sum ys) = agreed-Sum ys
  agreed_layer (Expr-F.Product ys) = agreed-Product ys
  agreed_layer (Expr-F.Neg y) = agreed-Neg y.0 y.1
  agreed_layer (Expr-F.Abs y) = agreed-Abs y.0 y.1

  agreed_part : (minus : Bool) (e : Expr) → IsAgreed e → IsPartAgreed (record { minus = minus; part = e })
  agreed_part minus part same n e =
      let both = and_then-Ok (asked rows part) (λ n. Ok (signed minus n)) n (sym (part-is rows (record { minus = minus; part = part })) ∙ e) in
      part_value-is (record { minus = minus; part = part }) ∙ ap (signed minus) (same both.0 both.1) ∙ same_answer (signed minus both.0) n both.2

  -- a number that is told is the expression's
  pub agreed : (e : Expr) (n : ℤ) → asked rows e ≡ Ok n → number (value rows e) ≡ n
  agreed = ind-Expr IsAgreed IsPartAgreed
      (λ x y is. subst (λ z. IsAgreed (roll-Expr z)) is (agreed_layer y))
      (λ x y is. subst (λ z. IsPartAgreed (roll-Signed z)) is (agreed_part y.minus y.part.0 y.part.1))

  abbrev IsTextAgreed : Expr → Type 0
  IsTextAgreed e = text_of rows e ≡ text (value rows e)

  abbrev TextAgreeing : Type 0
  TextAgreeing = (e : Expr) × IsTextAgreed e

  abbrev AnyPart : Type 0
  AnyPart = (s : Signed) × Unit {0}

  text_layer : (y : Expr-F TextAgreeing AnyPart) → IsTextAgreed (roll-Expr (map-Expr TextAgreeing AnyPart Expr Signed (λ e. e.0) (λ s. s.0) y))
  unfolding roll-Expr roll
  text_layer (Expr-F.Int m) = text-Int rows m ∙ sym (ap text (value-Int m))
  text_layer (Expr-F.Text t) = text-Text rows t ∙ sym (ap text (value-Text t))
  text_layer (Expr-F.Column at) = text-Column rows at ∙ sym (ap text (value-Column at))
  text_layer (Expr-F.Sum ys) = text-Sum rows (map (λ y. y.0) ys) ∙ sym (ap text (value-Sum (map (λ y. y.0) ys)))
  text_layer (Expr-F.Product ys) = text-Product rows (map (λ y. y.0) ys) ∙ sym (ap text (value-Product (map (λ y. y.0) ys)))
  text_layer (Expr-F.Neg y) = text-Neg rows y.0 ∙ sym (ap text (value-Neg y.0))
  text_layer (Expr-F.Abs y) = text-Abs rows y.0 ∙ sym (ap text (value-Abs y.0))

  -- a text that is seen is the expression's
  pub text_agreed : (e : Expr) → text_of rows e ≡ text (value rows e)
  text_agreed = ind-Expr IsTextAgreed (λ s. Unit {0})
      (λ x y is. subst (λ z. IsTextAgreed (roll-Expr z)) is (text_layer y))
      (λ x y is. tt)

  same_value : (v : Value) (n : ℤ) → number v ≡ n → value_of (text v) n ≡ v
  same_value (values.Int m) n e = ap (λ (k : ℤ). values.Int k) (sym e)
  same_value (values.Text t) n e = refl

  -- a value that is told is the expression's
  pub seen : (e : Expr) (n : ℤ) → asked rows e ≡ Ok n → value_of (text_of rows e) n ≡ value rows e
  seen e n told = ap (λ (t : Option (List ℕ)). value_of t n) (text_agreed e) ∙ same_value (value rows e) n (agreed e n told)

  compare_agreed : (test : Cmp) (one other : Expr) (b : Bool) → compare_asked rows test one other ≡ Ok b → holds test (value_order (value rows one) (value rows other)) ≡ b
  unfolding compare_asked
  compare_agreed test one other b e =
      let left = and_then-Ok (asked rows one) (λ m. and_then (asked rows other) (λ n. Ok (holds test (value_order (value_of (text_of rows one) m) (value_of (text_of rows other) n))))) b e in
      let right = and_then-Ok (asked rows other) (λ n. Ok (holds test (value_order (value_of (text_of rows one) left.0) (value_of (text_of rows other) n)))) b left.2 in
      ap₂ (λ (v w : Value). holds test (value_order v w)) (sym (seen one left.0 left.1)) (sym (seen other right.0 right.1)) ∙ same_answer (holds test (value_order (value_of (text_of rows one) left.0) (value_of (text_of rows other) right.0))) b right.2

  truth-is-Compare : (test : Cmp) (one other : Expr) → truth rows (Compare test one other) ≡ holds test (value_order (value rows one) (value rows other))
  unfolding truth roll-Cond roll
  truth-is-Compare test one other = fold-roll-Cond Bool (truth_step rows) (Cond-F.Compare test one other)

  truth-is-Not : (part : Cond) → truth rows (Not part) ≡ not (truth rows part)
  unfolding truth roll-Cond roll
  truth-is-Not part = fold-roll-Cond Bool (truth_step rows) (Cond-F.Not part)

  truth-is-And : (parts : List Cond) → truth rows (And parts) ≡ list_all (λ b. b) (map (truth rows) parts)
  unfolding truth roll-Cond roll
  truth-is-And parts = fold-roll-Cond Bool (truth_step rows) (Cond-F.And parts)

  truth-is-Or : (parts : List Cond) → truth rows (Or parts) ≡ list_any (λ b. b) (map (truth rows) parts)
  unfolding truth roll-Cond roll
  truth-is-Or parts = fold-roll-Cond Bool (truth_step rows) (Cond-F.Or parts)

  abbrev IsTruthAgreed : Cond → Type 0
  IsTruthAgreed c = (b : Bool) → truth_asked rows c ≡ Ok b → truth rows c ≡ b

  abbrev TruthAgreeing : Type 0
  TruthAgreeing = (c : Cond) × IsTruthAgreed c

  truth_agreed-Not : (c : Cond) → IsTruthAgreed c → IsTruthAgreed (Not c)
  truth_agreed-Not part same b e =
      let both = and_then-Ok (truth_asked rows part) (λ b. Ok (not b)) b (sym (truth-Not rows part) ∙ e) in
      truth-is-Not part ∙ ap not (same both.0 both.1) ∙ same_answer (not both.0) b both.2

  truth_agreed-And : (ys : List TruthAgreeing) → IsTruthAgreed (And (map (λ y. y.0) ys))
  truth_agreed-And ys b e =
      let both = and_then-Ok (all_of (map (truth_asked rows) (map (λ y. y.0) ys))) (λ bs. Ok (list_all (λ b. b) bs)) b (sym (truth-And rows (map (λ y. y.0) ys)) ∙ e) in
      truth-is-And (map (λ y. y.0) ys) ∙ ap (λ (bs : List Bool). list_all (λ b. b) bs) (all_of-same (truth_asked rows) (truth rows) ys both.0 both.1) ∙ same_answer (list_all (λ b. b) both.0) b both.2

  truth_agreed-Or : (ys : List TruthAgreeing) → IsTruthAgreed (Or (map (λ y. y.0) ys))
  truth_agreed-Or ys b e =
      let both = and_then-Ok (all_of (map (truth_asked rows) (map (λ y. y.0) ys))) (λ bs. Ok (list_any (λ b. b) bs)) b (sym (truth-Or rows (map (λ y. y.0) ys)) ∙ e) in
      truth-is-Or (map (λ y. y.0) ys) ∙ ap (λ (bs : List Bool). list_any (λ b. b) bs) (all_of-same (truth_asked rows) (truth rows) ys both.0 both.1) ∙ same_answer (list_any (λ b. b) both.0) b both.2

  truth_layer : (y : Cond-F TruthAgreeing) → IsTruthAgreed (roll-Cond (map-Cond TruthAgreeing Cond (λ c. c.0) y))
  unfolding roll-Cond roll
  truth_layer (Cond-F.Compare test one other) = λ b e. truth-is-Compare test one other ∙ compare_agreed test one other b (sym (truth-Compare rows test one other) ∙ e)
  truth_layer (Cond-F.Not y) = truth_agreed-Not y.0 y.1
  truth_layer (Cond-F.And ys) = truth_agreed-And ys
  truth_layer (Cond-F.Or ys) = truth_agreed-Or ys

  -- a truth that is told is the condition's
  pub truth_agreed : (c : Cond) (b : Bool) → truth_asked rows c ≡ Ok b → truth rows c ≡ b
  truth_agreed = ind-Cond IsTruthAgreed (λ x y is. subst (λ z. IsTruthAgreed (roll-Cond z)) is (truth_layer y))
