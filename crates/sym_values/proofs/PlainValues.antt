-- the plain values of fixed expressions, by their variants
use Rattle.std.proofs.Common.{◌≡◌, ℕ, zero, suc, ℤ, ◌+◌, ◌<◌, ◌≤◌, Bool, true, false, cond, List, [], ◌∷◌, length, get_or, drop, map, filter, refl, sym, ◌∙◌, ap, pos, ◌*ℤ◌, neg_ℤ, unsigned_abs, not}
use Rattle.std.specs.Prelude.{Result, Ok, Err, slice_get, unwrap_or}
use Rattle.std.proofs.lemmas.List.{drop_more, drop_all}
use denote.Hole.Carrier.{roll}
use Rattle.base_kit.specs.Asking.{and_then, all_of, left}
use Rattle.base_kit.proofs.Asking.{left-all, left_step, left_end}
use Rattle.base_kit.specs.declared.value.Value.TheVariants as values
use Rattle.tiql_query.specs.declared.expression.At.{At}
use Rattle.tiql_query.specs.declared.expression.Signed.{Signed, fold_out-Signed}
use Rattle.tiql_query.specs.declared.expression.Expr.{Expr}
use Rattle.tiql_query.specs.declared.expression.Expr.TheOpen.{Expr-F}
use Rattle.tiql_query.specs.declared.expression.Expr.TheFolds.{fold-roll-Expr}
use Rattle.tiql_query.specs.declared.expression.Expr.TheVariants.{Int, Text, Column}
use Rattle.tiql_query.specs.declared.expression.Expr.TheViews.{Sum, Product, Neg, Abs, roll-Expr}
use Rattle.row_values.specs.declared.fault.Wide.{Wide}
use Rattle.row_values.specs.Values.{Combination, number, cell, signed}
use Rattle.row_values.specs.Asked.{passes, within, partial_products, sum_asked, asked_part_step}
use Rattle.row_values.proofs.Evaluate.{within-passed, within-small}
use Rattle.sym_rows.specs.declared.row.Cell.{Cell}
use Rattle.sym_rows.specs.declared.row.SymRow.{SymRow}
use Rattle.sym_rows.specs.Cells.{cell_in, row_in}
use Rattle.sym_values.specs.Numbers.{plain_step, plain, plain_part, product_of, fixed_rows, cell_of, cell_there}
use Rattle.tiql_query.specs.Kinds.{Scope}
use Rattle.view_select.specs.Asking.{is_unknown}
use Rattle.sym_values.specs.Steps.{next, run, with_fixed, fixed_product, value_there}

-- ---- cells

got : (v : ℕ → ℤ) (cells : List Cell) (column : ℕ) → unwrap_or (slice_get (map (cell_in v) cells) column) (values.Int (pos 0)) ≡ value_there v (slice_get cells column)
got v [] column = refl
got v (c ∷ cells) zero = refl
got v (c ∷ cells) (suc column) = got v cells column

by_source : (v : ℕ → ℤ) (rows : List SymRow) (source column : ℕ) → unwrap_or (slice_get (unwrap_or (slice_get (map (row_in v) rows) source) []) column) (values.Int (pos 0)) ≡ value_there v (cell_of column (slice_get rows source))
by_source v [] source column = refl
by_source v (row ∷ rows) zero column = got v row.cells column
by_source v (row ∷ rows) (suc source) column = by_source v rows source column

-- a column of possible rows by the values of the formulas
pub cell_value : (v : ℕ → ℤ) (rows : List SymRow) (at : At) → cell (map (row_in v) rows) at ≡ value_there v (cell_there rows at)
unfolding cell cell_there
cell_value v rows at = by_source v rows at.source at.column

pub cell_fixed : (rows : List SymRow) (at : At) → cell (fixed_rows rows) at ≡ value_there (λ id. pos 0) (cell_there rows at)
cell_fixed rows at = cell_value (λ id. pos 0) rows at

-- ---- plain values

module _ (rows : Combination) where
  pub part-is : (s : Signed) → plain_part rows s ≡ and_then (plain rows s.part) (λ n. Ok (signed s.minus n))
  unfolding plain plain_part
  part-is s = fold_out-Signed (Result ℤ Wide) (Result ℤ Wide) (plain_step rows) asked_part_step s

  pub plain-Int : (n : ℤ) → plain rows (Int n) ≡ within n
  unfolding plain roll-Expr roll
  plain-Int n = fold-roll-Expr (Result ℤ Wide) (Result ℤ Wide) (plain_step rows) asked_part_step (Expr-F.Int n)

  pub plain-Text : (t : List ℕ) → plain rows (Text t) ≡ Ok (pos 0)
  unfolding plain roll-Expr roll
  plain-Text t = fold-roll-Expr (Result ℤ Wide) (Result ℤ Wide) (plain_step rows) asked_part_step (Expr-F.Text t)

  pub plain-Column : (at : At) → plain rows (Column at) ≡ within (number (cell rows at))
  unfolding plain roll-Expr roll
  plain-Column at = fold-roll-Expr (Result ℤ Wide) (Result ℤ Wide) (plain_step rows) asked_part_step (Expr-F.Column at)

  pub plain-Sum : (parts : List Signed) → plain rows (Sum parts) ≡ sum_asked (map (plain_part rows) parts)
  unfolding plain plain_part roll-Expr roll
  plain-Sum parts = fold-roll-Expr (Result ℤ Wide) (Result ℤ Wide) (plain_step rows) asked_part_step (Expr-F.Sum parts)

  pub plain-Product : (factors : List Expr) → plain rows (Product factors) ≡ product_of (map (plain rows) factors)
  unfolding plain roll-Expr roll
  plain-Product factors = fold-roll-Expr (Result ℤ Wide) (Result ℤ Wide) (plain_step rows) asked_part_step (Expr-F.Product factors)

  pub plain-Neg : (part : Expr) → plain rows (Neg part) ≡ and_then (plain rows part) (λ n. Ok (neg_ℤ n))
  unfolding plain roll-Expr roll
  plain-Neg part = fold-roll-Expr (Result ℤ Wide) (Result ℤ Wide) (plain_step rows) asked_part_step (Expr-F.Neg part)

  pub plain-Abs : (part : Expr) → plain rows (Abs part) ≡ and_then (plain rows part) (λ n. Ok (pos (unsigned_abs n)))
  unfolding plain roll-Expr roll
  plain-Abs part = fold-roll-Expr (Result ℤ Wide) (Result ℤ Wide) (plain_step rows) asked_part_step (Expr-F.Abs part)

pub ruleset equations = (part-is, plain-Int, plain-Text, plain-Column, plain-Sum, plain-Product, plain-Neg, plain-Abs)

-- ---- products

passed_stays : (p : ℤ) (ns : List ℤ) → passes p ≡ true → run p ns ≡ within p
unfolding next
passed_stays p [] e = refl
passed_stays p (n ∷ ns) e = ap (λ (b : Bool). run (cond b p (p *ℤ n)) ns) e ∙ passed_stays p ns e

run_is : (p : ℤ) (ns : List ℤ) → run p ns ≡ partial_products p ns
unfolding partial_products next
run_is p [] = refl
run_is p (n ∷ ns) = by_test (passes p) refl (λ q. run_is q ns)
  where
    by_test : (b : Bool) → passes p ≡ b → ((q : ℤ) → run q ns ≡ partial_products q ns) → run (cond (passes p) p (p *ℤ n)) ns ≡ and_then (within p) (λ so_far. partial_products (so_far *ℤ n) ns)
    by_test true e more = ap (λ (b : Bool). run (cond b p (p *ℤ n)) ns) e ∙ passed_stays p ns e ∙ within-passed p e ∙ sym (ap (λ (r : Result ℤ Wide). and_then r (λ so_far. partial_products (so_far *ℤ n) ns)) (within-passed p e))
    by_test false e more = ap (λ (b : Bool). run (cond b p (p *ℤ n)) ns) e ∙ more (p *ℤ n) ∙ sym (ap (λ (r : Result ℤ Wide). and_then r (λ so_far. partial_products (so_far *ℤ n) ns)) (within-small p e))

same_then : {E A B : Type 0} (r : Result A E) (f g : A → Result B E) → ((a : A) → f a ≡ g a) → and_then r f ≡ and_then r g
same_then (Ok a) f g same = same a
same_then (Err e) f g same = refl

module _ {X : Type 0} (f : X → Result ℤ Wide) (xs : List X) where
  pub product_init : left f xs 0 (run (pos 1)) ≡ product_of (map f xs)
  product_init = left-all f xs (run (pos 1)) ∙ same_then (all_of (map f xs)) (run (pos 1)) (partial_products (pos 1)) (run_is (pos 1))

  pub product_step : (i : ℕ) (partial more : ℤ) (x : X) (n : ℤ) (r : Result ℤ Wide) → i < length xs → x ≡ get_or xs i x → f x ≡ Ok n → more ≡ next partial n → left f xs i (run partial) ≡ r → left f xs (i + 1) (run more) ≡ r
  product_step i partial more x n r lt is e m h = left_step f xs i (run partial) (run more) x n r lt is e (λ ns. ap (λ (p : ℤ). run p ns) (sym m)) h

  pub product_end : (i : ℕ) (partial : ℤ) (r : Result ℤ Wide) → length xs ≤ i → left f xs i (run partial) ≡ r → within partial ≡ r
  product_end i partial r le h = left_end f xs i (run partial) (within partial) r le refl h

-- ---- the product of the fixed factors

module _ (scope : Scope) (rows : List SymRow) (factors : List Expr) where
  -- what the fixed factors from one on lead to
  unfoldable pub fixed_left : ℕ → ℤ → Result ℤ Wide
  fixed_left i partial = and_then (all_of (map (plain (fixed_rows rows)) (filter (λ factor. not (is_unknown scope factor)) (drop i factors)))) (run partial)

  pub fixed_init : fixed_left 0 (pos 1) ≡ fixed_product scope rows factors
  unfolding fixed_left fixed_product
  fixed_init = same_then (all_of (map (plain (fixed_rows rows)) (filter (λ factor. not (is_unknown scope factor)) factors))) (run (pos 1)) (partial_products (pos 1)) (run_is (pos 1))

  module _ (i : ℕ) (factor : Expr) (partial : ℤ) (r : Result ℤ Wide) (lt : i < length factors) (at : factor ≡ get_or factors i factor) where
    with_factor : (n : ℤ) (rest : Result (List ℤ) Wide) → and_then (and_then rest (λ ns. Ok (n ∷ ns))) (run partial) ≡ and_then rest (run (next partial n))
    with_factor n (Ok ns) = refl
    with_factor n (Err w) = refl

    module _ (h : fixed_left i partial ≡ r) where
      on_fixed : is_unknown scope factor ≡ false → and_then (plain (fixed_rows rows) factor) (λ n. fixed_left (i + 1) (next partial n)) ≡ r
      unfolding fixed_left
      on_fixed fixed = by_value (plain (fixed_rows rows) factor) (all_of (map (plain (fixed_rows rows)) (filter (λ factor. not (is_unknown scope factor)) (drop (i + 1) factors)))) ∙ sym (rw (drop_more factors i factor lt, ← at, fixed) refl) ∙ h
        where
          by_value : (value : Result ℤ Wide) (rest : Result (List ℤ) Wide) → and_then value (λ n. and_then rest (run (next partial n))) ≡ and_then (and_then value (λ n. and_then rest (λ ns. Ok (n ∷ ns)))) (run partial)
          by_value (Ok n) rest = sym (with_factor n rest)
          by_value (Err w) rest = refl

      on_unknown : is_unknown scope factor ≡ true → fixed_left (i + 1) partial ≡ r
      unfolding fixed_left
      on_unknown unknown = sym (rw (drop_more factors i factor lt, ← at, unknown) refl) ∙ h

      onward : and_then (with_fixed scope rows factor partial) (fixed_left (i + 1)) ≡ r
      unfolding with_fixed
      onward = by_test (is_unknown scope factor) refl
        where
          by_test : (unknown : Bool) → is_unknown scope factor ≡ unknown → and_then (cond unknown (Ok partial) (and_then (plain (fixed_rows rows) factor) (λ n. Ok (next partial n)))) (fixed_left (i + 1)) ≡ r
          by_test true e = on_unknown e
          by_test false e = by_value (plain (fixed_rows rows) factor) ∙ on_fixed e
            where
              by_value : (value : Result ℤ Wide) → and_then (and_then value (λ n. Ok (next partial n))) (fixed_left (i + 1)) ≡ and_then value (λ n. fixed_left (i + 1) (next partial n))
              by_value (Ok n) = refl
              by_value (Err w) = refl

      pub fixed_step : (more : ℤ) → with_fixed scope rows factor partial ≡ Ok more → fixed_left (i + 1) more ≡ r
      fixed_step more is = sym (ap (λ (q : Result ℤ Wide). and_then q (fixed_left (i + 1))) is) ∙ onward

      pub fixed_stop : (w : Wide) → with_fixed scope rows factor partial ≡ Err w → Err w ≡ r
      fixed_stop w is = sym (ap (λ (q : Result ℤ Wide). and_then q (fixed_left (i + 1))) is) ∙ onward

  pub fixed_end : (i : ℕ) (partial : ℤ) (r : Result ℤ Wide) → length factors ≤ i → fixed_left i partial ≡ r → within partial ≡ r
  unfolding fixed_left
  fixed_end i partial r le h = sym (rw (drop_all i factors le) refl) ∙ h
