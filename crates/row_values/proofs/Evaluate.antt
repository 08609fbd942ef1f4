-- what is asked of expressions and conditions, by their variants, and the loops that ask it
use Rattle.std.proofs.Common.{◌≡◌, ℕ, ℤ, ◌+◌, ◌*◌, ◌<◌, ◌≤◌, ◌^◌, Bool, true, false, not, ◌&&◌, ◌||◌, List, [], ◌∷◌, length, get_or, map, refl, sym, ◌∙◌, ap, arith, pos, ◌+ℤ◌, ◌*ℤ◌, neg_ℤ, unsigned_abs, if◌then◌else◌, Option, Some, None}
use Rattle.std.specs.Prelude.{Result, Ok, Err}
use Rattle.std.specs.List.{list_all, list_any}
use Rattle.std.specs.Ordering.{int_eq}
use Rattle.std.proofs.lemmas.Int.{ints, unsigned_abs-mul}
use denote.Hole.Carrier.{roll}
use Rattle.base_kit.specs.Asking.{and_then, all_of, left}
use Rattle.base_kit.proofs.Asking.{left-all, left_step, left_end}
use Rattle.tiql_query.specs.declared.expression.At.{At}
use Rattle.tiql_query.specs.declared.expression.Signed.{Signed, fold_out-Signed}
use Rattle.tiql_query.specs.declared.expression.Expr.{Expr}
use Rattle.tiql_query.specs.declared.expression.Expr.TheOpen.{Expr-F}
use Rattle.tiql_query.specs.declared.expression.Expr.TheFolds.{fold-roll-Expr}
use Rattle.tiql_query.specs.declared.expression.Expr.TheVariants.{Int, Text, Column}
use Rattle.tiql_query.specs.declared.expression.Expr.TheViews.{Sum, Product, Neg, Abs, roll-Expr}
use Rattle.tiql_query.specs.declared.condition.Cmp.{Cmp}
use Rattle.tiql_query.specs.declared.condition.Cond.{Cond}
use Rattle.tiql_query.specs.declared.condition.Cond.TheOpen.{Cond-F}
use Rattle.tiql_query.specs.declared.condition.Cond.TheFolds.{fold-roll-Cond}
use Rattle.tiql_query.specs.declared.condition.Cond.TheVariants.{Compare}
use Rattle.tiql_query.specs.declared.condition.Cond.TheViews.{Not, And, Or, roll-Cond}
use Rattle.row_values.specs.declared.fault.Wide.{Wide}
use Rattle.row_values.specs.Values.{Combination, number, text, cell, total, signed}
use Rattle.row_values.specs.Asked.{passes, within, partial_products, product_within, sum_asked, product_asked, asked_step, asked_part_step, asked, asked_part, text_step, text_of, compare_asked, truth_asked_step, truth_asked}
use Rattle.row_values.specs.Steps.{next, run}

module _ (rows : Combination) where
  pub part-is : (s : Signed) → asked_part rows s ≡ and_then (asked rows s.part) (λ n. Ok (signed s.minus n))
  unfolding asked asked_part
  part-is s = fold_out-Signed (Result ℤ Wide) (Result ℤ Wide) (asked_step rows) asked_part_step s

  pub asked-Int : (n : ℤ) → asked rows (Int n) ≡ within n
  unfolding asked roll-Expr roll
  asked-Int n = fold-roll-Expr (Result ℤ Wide) (Result ℤ Wide) (asked_step rows) asked_part_step (Expr-F.Int n)

  pub asked-Text : (t : List ℕ) → asked rows (Text t) ≡ Ok (pos 0)
  unfolding asked roll-Expr roll
  asked-Text t = fold-roll-Expr (Result ℤ Wide) (Result ℤ Wide) (asked_step rows) asked_part_step (Expr-F.Text t)

  pub asked-Column : (at : At) → asked rows (Column at) ≡ within (number (cell rows at))
  unfolding asked roll-Expr roll
  asked-Column at = fold-roll-Expr (Result ℤ Wide) (Result ℤ Wide) (asked_step rows) asked_part_step (Expr-F.Column at)

  pub asked-Sum : (parts : List Signed) → asked rows (Sum parts) ≡ sum_asked (map (asked_part rows) parts)
  unfolding asked asked_part roll-Expr roll
  asked-Sum parts = fold-roll-Expr (Result ℤ Wide) (Result ℤ Wide) (asked_step rows) asked_part_step (Expr-F.Sum parts)

  pub asked-Product : (factors : List Expr) → asked rows (Product factors) ≡ product_asked (map (asked rows) factors)
  unfolding asked roll-Expr roll
  asked-Product factors = fold-roll-Expr (Result ℤ Wide) (Result ℤ Wide) (asked_step rows) asked_part_step (Expr-F.Product factors)

  pub asked-Neg : (part : Expr) → asked rows (Neg part) ≡ and_then (asked rows part) (λ n. Ok (neg_ℤ n))
  unfolding asked roll-Expr roll
  asked-Neg part = fold-roll-Expr (Result ℤ Wide) (Result ℤ Wide) (asked_step rows) asked_part_step (Expr-F.Neg part)

  pub asked-Abs : (part : Expr) → asked rows (Abs part) ≡ and_then (asked rows part) (λ n. Ok (pos (unsigned_abs n)))
  unfolding asked roll-Expr roll
  asked-Abs part = fold-roll-Expr (Result ℤ Wide) (Result ℤ Wide) (asked_step rows) asked_part_step (Expr-F.Abs part)

  pub text-Int : (n : ℤ) → text_of rows (Int n) ≡ None
  unfolding text_of roll-Expr roll
  text-Int n = fold-roll-Expr (Option (List ℕ)) (Option (List ℕ)) (text_step rows) (λ part. None) (Expr-F.Int n)

  pub text-Text : (t : List ℕ) → text_of rows (Text t) ≡ Some t
  unfolding text_of roll-Expr roll
  text-Text t = fold-roll-Expr (Option (List ℕ)) (Option (List ℕ)) (text_step rows) (λ part. None) (Expr-F.Text t)

  pub text-Column : (at : At) → text_of rows (Column at) ≡ text (cell rows at)
  unfolding text_of roll-Expr roll
  text-Column at = fold-roll-Expr (Option (List ℕ)) (Option (List ℕ)) (text_step rows) (λ part. None) (Expr-F.Column at)

  pub text-Sum : (parts : List Signed) → text_of rows (Sum parts) ≡ None
  unfolding text_of roll-Expr roll
  text-Sum parts = fold-roll-Expr (Option (List ℕ)) (Option (List ℕ)) (text_step rows) (λ part. None) (Expr-F.Sum parts)

  pub text-Product : (factors : List Expr) → text_of rows (Product factors) ≡ None
  unfolding text_of roll-Expr roll
  text-Product factors = fold-roll-Expr (Option (List ℕ)) (Option (List ℕ)) (text_step rows) (λ part. None) (Expr-F.Product factors)

  pub text-Neg : (part : Expr) → text_of rows (Neg part) ≡ None
  unfolding text_of roll-Expr roll
  text-Neg part = fold-roll-Expr (Option (List ℕ)) (Option (List ℕ)) (text_step rows) (λ part. None) (Expr-F.Neg part)

  pub text-Abs : (part : Expr) → text_of rows (Abs part) ≡ None
  unfolding text_of roll-Expr roll
  text-Abs part = fold-roll-Expr (Option (List ℕ)) (Option (List ℕ)) (text_step rows) (λ part. None) (Expr-F.Abs part)

  pub truth-Compare : (test : Cmp) (one other : Expr) → truth_asked rows (Compare test one other) ≡ compare_asked rows test one other
  unfolding truth_asked roll-Cond roll
  truth-Compare test one other = fold-roll-Cond (Result Bool Wide) (truth_asked_step rows) (Cond-F.Compare test one other)

  pub truth-Not : (part : Cond) → truth_asked rows (Not part) ≡ and_then (truth_asked rows part) (λ b. Ok (not b))
  unfolding truth_asked roll-Cond roll
  truth-Not part = fold-roll-Cond (Result Bool Wide) (truth_asked_step rows) (Cond-F.Not part)

  pub truth-And : (parts : List Cond) → truth_asked rows (And parts) ≡ and_then (all_of (map (truth_asked rows) parts)) (λ bs. Ok (list_all (λ b. b) bs))
  unfolding truth_asked roll-Cond roll
  truth-And parts = fold-roll-Cond (Result Bool Wide) (truth_asked_step rows) (Cond-F.And parts)

  pub truth-Or : (parts : List Cond) → truth_asked rows (Or parts) ≡ and_then (all_of (map (truth_asked rows) parts)) (λ bs. Ok (list_any (λ b. b) bs))
  unfolding truth_asked roll-Cond roll
  truth-Or parts = fold-roll-Cond (Result Bool Wide) (truth_asked_step rows) (Cond-F.Or parts)

pub ruleset equations = (part-is, asked-Int, asked-Text, asked-Column, asked-Sum, asked-Product, asked-Neg, asked-Abs)

pub ruleset texts = (text-Int, text-Text, text-Column, text-Sum, text-Product, text-Neg, text-Abs)

pub ruleset truths = (truth-Compare, truth-Not, truth-And, truth-Or)

pub and_then-same : {E A B : Type 0} (r : Result A E) (f g : A → Result B E) → ((a : A) → f a ≡ g a) → and_then r f ≡ and_then r g
and_then-same r f g same = elim r as (λ a. and_then a f ≡ and_then a g) [ Ok a ↦ same a | Err e ↦ refl ]

-- what the parts of a sum come to behind those before
abbrev pub summed : ℤ → List ℤ → Result ℤ Wide
summed so_far ns = within (so_far +ℤ total ns)

module _ {X : Type 0} (f : X → Result ℤ Wide) (xs : List X) where
  pub summed_init : left f xs 0 (summed (pos 0)) ≡ sum_asked (map f xs)
  summed_init = left-all f xs (summed (pos 0)) ∙ and_then-same (all_of (map f xs)) (summed (pos 0)) (λ ns. within (total ns)) (λ ns. ap within (omega (arith, ints)))

  pub summed_step : (i : ℕ) (so_far next : ℤ) (x : X) (n : ℤ) (r : Result ℤ Wide) → i < length xs → x ≡ get_or xs i x → f x ≡ Ok n → next ≡ so_far +ℤ n → left f xs i (summed so_far) ≡ r → left f xs (i + 1) (summed next) ≡ r
  summed_step i so_far next x n r lt is e more h = left_step f xs i (summed so_far) (summed next) x n r lt is e (λ ns. ap within (omega (arith, ints, more))) h

  pub summed_end : (i : ℕ) (so_far : ℤ) (r : Result ℤ Wide) → length xs ≤ i → left f xs i (summed so_far) ≡ r → within so_far ≡ r
  summed_end i so_far r le h = left_end f xs i (summed so_far) (within so_far) r le (ap within (omega (arith, ints))) h

-- partial products
next-is : (p n : ℤ) (zero over : Bool) → int_eq n (pos 0) ≡ zero → passes p ≡ over → next p n ≡ (if zero then pos 0 else (if over then p else p *ℤ n))
unfolding next
next-is p n zero over e f = rw (e, f) refl

size_of_product : (m n : ℕ) → m ≤ 10 ^ 17 → n ≤ 10 ^ 17 → m * n ≤ 10 ^ 34
size_of_product m n a b = grind arith

pub product_size : (p n : ℤ) → unsigned_abs p ≤ 10 ^ 17 → unsigned_abs n ≤ 10 ^ 17 → unsigned_abs (p *ℤ n) ≤ 10 ^ 34
product_size p n a b = rw (unsigned_abs-mul p n) (size_of_product (unsigned_abs p) (unsigned_abs n) a b)

next_of_zero : (n : ℤ) → next (pos 0) n ≡ pos 0
next_of_zero n = by_test (int_eq n (pos 0)) refl
  where
    by_test : (zero : Bool) → int_eq n (pos 0) ≡ zero → next (pos 0) n ≡ pos 0
    by_test true e = next-is (pos 0) n true false e refl
    by_test false e = next-is (pos 0) n false false e refl ∙ grind (arith, ints)

run-zero : (ns : List ℤ) → run (pos 0) ns ≡ Ok (pos 0)
unfolding within
run-zero [] = refl
run-zero (n ∷ ns) = rw (next_of_zero n) (run-zero ns)

abbrev has_zero : List ℤ → Bool
has_zero ns = list_any (λ n. int_eq n (pos 0)) ns

pub within-passed : (p : ℤ) → passes p ≡ true → within p ≡ Err (record { number = p })
unfolding within
within-passed p e = rw e refl

pub within-small : (p : ℤ) → passes p ≡ false → within p ≡ Ok p
unfolding within
within-small p e = rw e refl

run-passed : (p : ℤ) → passes p ≡ true → (ns : List ℤ) → run p ns ≡ (if has_zero ns then Ok (pos 0) else Err (record { number = p }))
run-passed p e [] = within-passed p e
run-passed p e (n ∷ ns) = by_test (run-passed p e ns) (int_eq n (pos 0)) refl
  where
    by_test : run p ns ≡ (if has_zero ns then Ok (pos 0) else Err (record { number = p })) → (zero : Bool) → int_eq n (pos 0) ≡ zero
        → run (next p n) ns ≡ (if (zero || has_zero ns) then Ok (pos 0) else Err (record { number = p }))
    by_test more true z = rw (next-is p n true true z e) (run-zero ns)
    by_test more false z = rw (next-is p n false true z e) more

products-passed : (p : ℤ) → passes p ≡ true → (ns : List ℤ) → partial_products p ns ≡ Err (record { number = p })
unfolding partial_products
products-passed p e [] = within-passed p e
products-passed p e (n ∷ ns) = rw (within-passed p e) refl

products-on : (p n : ℤ) (ns : List ℤ) → passes p ≡ false → partial_products p (n ∷ ns) ≡ partial_products (p *ℤ n) ns
unfolding partial_products
products-on p n ns e = rw (within-small p e) refl

run-small : (p : ℤ) → passes p ≡ false → (ns : List ℤ) → run p ns ≡ (if has_zero ns then Ok (pos 0) else partial_products p ns)
unfolding partial_products
run-small p e [] = refl
run-small p e (n ∷ ns) = by_test (λ f. run-small (p *ℤ n) f ns) (int_eq n (pos 0)) refl (passes (p *ℤ n)) refl
  where
    by_test : (passes (p *ℤ n) ≡ false → run (p *ℤ n) ns ≡ (if has_zero ns then Ok (pos 0) else partial_products (p *ℤ n) ns)) → (zero : Bool) → int_eq n (pos 0) ≡ zero → (over : Bool) → passes (p *ℤ n) ≡ over
        → run (next p n) ns ≡ (if (zero || has_zero ns) then Ok (pos 0) else partial_products p (n ∷ ns))
    by_test more true z over o = rw (next-is p n true false z e) (run-zero ns)
    by_test more false z true o = rw (next-is p n false false z e, products-on p n ns e, products-passed (p *ℤ n) o ns) (run-passed (p *ℤ n) o ns)
    by_test more false z false o = rw (next-is p n false false z e, products-on p n ns e) (more o)

pub run-product : (ns : List ℤ) → run (pos 1) ns ≡ product_within ns
unfolding product_within
run-product ns = run-small (pos 1) refl ns

module _ {X : Type 0} (f : X → Result ℤ Wide) (xs : List X) where
  pub product_init : left f xs 0 (run (pos 1)) ≡ product_asked (map f xs)
  product_init = left-all f xs (run (pos 1)) ∙ and_then-same (all_of (map f xs)) (run (pos 1)) product_within run-product

  pub product_step : (i : ℕ) (partial more : ℤ) (x : X) (n : ℤ) (r : Result ℤ Wide) → i < length xs → x ≡ get_or xs i x → f x ≡ Ok n → more ≡ next partial n → left f xs i (run partial) ≡ r → left f xs (i + 1) (run more) ≡ r
  product_step i partial more x n r lt is e m h = left_step f xs i (run partial) (run more) x n r lt is e (λ ns. ap (λ (p : ℤ). run p ns) (sym m)) h

  pub product_end : (i : ℕ) (partial : ℤ) (r : Result ℤ Wide) → length xs ≤ i → left f xs i (run partial) ≡ r → within partial ≡ r
  product_end i partial r le h = left_end f xs i (run partial) (within partial) r le refl h

-- truths of which all, or one, are to hold
abbrev pub all_more : Bool → List Bool → Result Bool Wide
all_more holds bs = Ok (holds && list_all (λ b. b) bs)

abbrev pub any_more : Bool → List Bool → Result Bool Wide
any_more holds bs = Ok (holds || list_any (λ b. b) bs)

all_on : (holds b rest : Bool) → (holds && (b && rest)) ≡ ((holds && b) && rest)
all_on true b rest = refl
all_on false b rest = refl

any_on : (holds b rest : Bool) → (holds || (b || rest)) ≡ ((holds || b) || rest)
any_on true b rest = refl
any_on false b rest = refl

all_last : (b : Bool) → (b && true) ≡ b
all_last true = refl
all_last false = refl

any_last : (b : Bool) → (b || false) ≡ b
any_last true = refl
any_last false = refl

module _ {X : Type 0} (f : X → Result Bool Wide) (xs : List X) where
  pub all_init : left f xs 0 (all_more true) ≡ and_then (all_of (map f xs)) (λ bs. Ok (list_all (λ b. b) bs))
  all_init = left-all f xs (all_more true)

  pub all_step : (i : ℕ) (holds more : Bool) (x : X) (b : Bool) (r : Result Bool Wide) → i < length xs → x ≡ get_or xs i x → f x ≡ Ok b → more ≡ (holds && b) → left f xs i (all_more holds) ≡ r → left f xs (i + 1) (all_more more) ≡ r
  all_step i holds more x b r lt is e m h = left_step f xs i (all_more holds) (all_more more) x b r lt is e (λ bs. ap (λ (c : Bool). Ok c) (all_on holds b (list_all (λ b. b) bs) ∙ ap (λ (c : Bool). c && list_all (λ b. b) bs) (sym m))) h

  pub all_end : (i : ℕ) (holds : Bool) (r : Result Bool Wide) → length xs ≤ i → left f xs i (all_more holds) ≡ r → Ok holds ≡ r
  all_end i holds r le h = left_end f xs i (all_more holds) (Ok holds) r le (ap (λ (c : Bool). Ok c) (all_last holds)) h

  pub any_init : left f xs 0 (any_more false) ≡ and_then (all_of (map f xs)) (λ bs. Ok (list_any (λ b. b) bs))
  any_init = left-all f xs (any_more false)

  pub any_step : (i : ℕ) (holds more : Bool) (x : X) (b : Bool) (r : Result Bool Wide) → i < length xs → x ≡ get_or xs i x → f x ≡ Ok b → more ≡ (holds || b) → left f xs i (any_more holds) ≡ r → left f xs (i + 1) (any_more more) ≡ r
  any_step i holds more x b r lt is e m h = left_step f xs i (any_more holds) (any_more more) x b r lt is e (λ bs. ap (λ (c : Bool). Ok c) (any_on holds b (list_any (λ b. b) bs) ∙ ap (λ (c : Bool). c || list_any (λ b. b) bs) (sym m))) h

  pub any_end : (i : ℕ) (holds : Bool) (r : Result Bool Wide) → length xs ≤ i → left f xs i (any_more holds) ≡ r → Ok holds ≡ r
  any_end i holds r le h = left_end f xs i (any_more holds) (Ok holds) r le (ap (λ (c : Bool). Ok c) (any_last holds)) h
