-- Values and rows: the derived order is the written one and total, and what compares as equal is equal.
use Rattle.std.proofs.Common.{◌≡◌, ◌↔◌, List, refl, sym, ◌∙◌, ap, subst}
use Rattle.std.specs.declared.cmp.Ordering.{Ordering}
use Rattle.std.specs.declared.cmp.Ordering.TheVariants.{Equal}
use Rattle.std.specs.Bool.{Decides}
use Rattle.std.specs.Ordering.{is_eq, int_cmp}
use Rattle.std.specs.Cmp.{IsTotalOrder, Equal-is, int_ranked, ranked_equal}
use Rattle.std.specs.Cmp.Lexicographic.{bytes_decides, pointwise_decides, slice_cmp, lists_total, lists_ties, texts_ties}
use Rattle.base_kit.specs.declared.value.Value.{Value}
use Rattle.base_kit.specs.declared.value.Value.TheVariants.{Int, Text}
use Rattle.base_kit.specs.Orders.{value_order, row_order}
use Rattle.base_kit.specs.contracts.value.ValueOrd.TheImpl.{cmp-value}
use Rattle.base_kit.specs.contracts.value.ValueOrd.TheImpl.Laws.{total-law}

-- `cmp` of two values
pub value_cmp-is : (x y : Value) → cmp-value.it x y ≡ value_order x y
value_cmp-is (Int m) (Int n) = refl
value_cmp-is (Int m) (Text t) = refl
value_cmp-is (Text s) (Int n) = refl
value_cmp-is (Text s) (Text t) = refl

-- the same, where a clause of std names the order as a whole
pub value_order-is : cmp-value.it ≡ value_order
value_order-is = λ i x y. value_cmp-is x y i

pub value_order-total : IsTotalOrder value_order
value_order-total = subst IsTotalOrder value_order-is total-law

pub row_order-total : IsTotalOrder row_order
row_order-total = lists_total value_order-total

-- what the test of an answer decides, said of the answer
told : (o r : Ordering) (P : Type 0) → r ≡ o → Decides (is_eq o) P → (r ≡ Equal) ↔ P
told o r P is d = (λ e. d.0 (ap is_eq (sym is ∙ e)), λ p. is ∙ (Equal-is o).0 (d.1 p))

-- values compare as equal where they are equal
pub value_order-Equal : (x y : Value) → Decides (is_eq (value_order x y)) (x ≡ y)
value_order-Equal (Int m) (Int n) =
    let numbers = ranked_equal m n (int_cmp m n) (int_ranked m n (int_cmp m n) refl) in
    (λ e. ap Int (numbers.0 e), λ e. let same : m ≡ n = cc in numbers.1 same)
value_order-Equal (Int m) (Text t) = (λ e. cc, λ e. cc)
value_order-Equal (Text s) (Int n) = (λ e. cc, λ e. cc)
value_order-Equal (Text s) (Text t) =
    (λ e. ap Text ((bytes_decides s t).0 (texts_ties s t ∙ e)), λ e. let same : s ≡ t = cc in sym (texts_ties s t) ∙ (bytes_decides s t).1 same)

-- so do rows
pub row_order-Equal : (xs ys : List Value) → Decides (is_eq (row_order xs ys)) (xs ≡ ys)
row_order-Equal xs ys = subst (λ b. Decides b (xs ≡ ys)) (lists_ties value_order (λ x y. refl) xs ys) (pointwise_decides value_order-Equal xs ys)

-- `cmp` of two values answers that they are equal where they are
pub same_value : (x y : Value) (r : Ordering) → r ≡ cmp-value.it x y → (r ≡ Equal) ↔ (x ≡ y)
same_value x y r is = told (value_order x y) r (x ≡ y) (is ∙ value_cmp-is x y) (value_order-Equal x y)

-- likewise of two rows
pub same_row : (xs ys : List Value) (r : Ordering) → r ≡ slice_cmp cmp-value.it xs ys → (r ≡ Equal) ↔ (xs ≡ ys)
same_row xs ys r is = told (row_order xs ys) r (xs ≡ ys) (is ∙ ap (λ order. slice_cmp order xs ys) value_order-is) (row_order-Equal xs ys)

-- what the calls that compare ensure beside their answer
pub ruleset order_laws = (same_value, same_row, value_order-total, row_order-total)
