-- values, kinds and truths of expressions and conditions, by their variants
use Rattle.std.proofs.Common.{◌≡◌, ℕ, ℤ, pos, neg_ℤ, unsigned_abs, Bool, true, false, not, List, [], ◌∷◌, map, refl, ◌∙◌, ap, ap₂, ◌^◌, if◌then◌else◌, Option, Some, None}
use Rattle.std.specs.Prelude.{nat_le}
use Rattle.std.specs.List.{list_all, list_any}
use denote.Hole.Carrier.{roll}
use Rattle.base_kit.specs.Orders.{value_order}
use Rattle.base_kit.specs.declared.value.Value.{Value}
use Rattle.base_kit.specs.declared.value.Value.TheVariants as values
use Rattle.tiql_query.specs.Kinds.{Scope, Kind, kind_at, arithmetic, multiplied, kind_step, kind, are_alike, fit_step, is_fit}
use Rattle.tiql_query.specs.Kinds as kinds
use Rattle.tiql_query.specs.declared.expression.At.{At}
use Rattle.tiql_query.specs.declared.expression.Signed.{Signed, fold-Signed, fold_out-Signed}
use Rattle.tiql_query.specs.declared.expression.Expr.{Expr}
use Rattle.tiql_query.specs.declared.expression.Expr.TheOpen.{Expr-F}
use Rattle.tiql_query.specs.declared.expression.Expr.TheFolds.{fold-roll-Expr}
use Rattle.tiql_query.specs.declared.expression.Expr.TheVariants.{Int, Text, Column}
use Rattle.tiql_query.specs.declared.expression.Expr.TheViews.{Sum, Product, Neg, Abs, roll-Expr}
use Rattle.tiql_query.specs.declared.condition.Cmp.{Cmp}
use Rattle.tiql_query.specs.declared.condition.Cond.{Cond}
use Rattle.tiql_query.specs.declared.condition.Cond.TheOpen.{Cond-F}
use Rattle.tiql_query.specs.declared.condition.Cond.TheFolds.{fold-roll-Cond}
use Rattle.tiql_query.specs.declared.condition.Cond.TheVariants.{Compare}
use Rattle.tiql_query.specs.declared.condition.Cond.TheViews.{Not, And, Or, roll-Cond}
use Rattle.row_values.specs.Values.{Combination, number, cell, total, product, value_step, part_step, value, holds, truth_step, truth}
use Rattle.sym_values.specs.Steps.{part_on}

unfoldable value_part : Combination → Signed → ℤ
value_part rows = fold-Signed Value ℤ (value_step rows) part_step

map_twice : {X Y Z : Type 0} (f : X → Y) (g : Y → Z) (xs : List X) → map g (map f xs) ≡ map (λ x. g (f x)) xs
map_twice f g [] = refl
map_twice {X} {Y} {Z} f g (x ∷ xs) = ap (λ (l : List Z). g (f x) ∷ l) (map_twice f g xs)

same_map : {X Y : Type 0} (f g : X → Y) (xs : List X) → ((x : X) → f x ≡ g x) → map f xs ≡ map g xs
same_map f g [] same = refl
same_map {X} {Y} f g (x ∷ xs) same = ap₂ (λ (y : Y) (l : List Y). y ∷ l) (same x) (same_map f g xs same)

module _ (rows : Combination) where
  value_part-is : (s : Signed) → value_part rows s ≡ part_on rows s
  unfolding value_part value
  value_part-is s = fold_out-Signed Value ℤ (value_step rows) part_step s

  pub value-Int : (n : ℤ) → value rows (Int n) ≡ values.Int n
  unfolding value roll-Expr roll
  value-Int n = fold-roll-Expr Value ℤ (value_step rows) part_step (Expr-F.Int n)

  pub value-Text : (t : List ℕ) → value rows (Text t) ≡ values.Text t
  unfolding value roll-Expr roll
  value-Text t = fold-roll-Expr Value ℤ (value_step rows) part_step (Expr-F.Text t)

  pub value-Column : (at : At) → value rows (Column at) ≡ cell rows at
  unfolding value roll-Expr roll
  value-Column at = fold-roll-Expr Value ℤ (value_step rows) part_step (Expr-F.Column at)

  sum_parts : (parts : List Signed) → value rows (Sum parts) ≡ values.Int (total (map (value_part rows) parts))
  unfolding value value_part roll-Expr roll
  sum_parts parts = fold-roll-Expr Value ℤ (value_step rows) part_step (Expr-F.Sum parts)

  pub value-Sum : (parts : List Signed) → value rows (Sum parts) ≡ values.Int (total (map (part_on rows) parts))
  value-Sum parts = sum_parts parts ∙ ap (λ (l : List ℤ). values.Int (total l)) (same_map (value_part rows) (part_on rows) parts value_part-is)

  factors_of : (factors : List Expr) → value rows (Product factors) ≡ values.Int (product (map number (map (value rows) factors)))
  unfolding value roll-Expr roll
  factors_of factors = fold-roll-Expr Value ℤ (value_step rows) part_step (Expr-F.Product factors)

  pub value-Product : (factors : List Expr) → value rows (Product factors) ≡ values.Int (product (map (λ factor. number (value rows factor)) factors))
  value-Product factors = factors_of factors ∙ ap (λ (l : List ℤ). values.Int (product l)) (map_twice (value rows) number factors)

  pub value-Neg : (part : Expr) → value rows (Neg part) ≡ values.Int (neg_ℤ (number (value rows part)))
  unfolding value roll-Expr roll
  value-Neg part = fold-roll-Expr Value ℤ (value_step rows) part_step (Expr-F.Neg part)

  pub value-Abs : (part : Expr) → value rows (Abs part) ≡ values.Int (pos (unsigned_abs (number (value rows part))))
  unfolding value roll-Expr roll
  value-Abs part = fold-roll-Expr Value ℤ (value_step rows) part_step (Expr-F.Abs part)

  pub truth-is-Compare : (test : Cmp) (one other : Expr) → truth rows (Compare test one other) ≡ holds test (value_order (value rows one) (value rows other))
  unfolding truth roll-Cond roll
  truth-is-Compare test one other = fold-roll-Cond Bool (truth_step rows) (Cond-F.Compare test one other)

  pub truth-is-Not : (part : Cond) → truth rows (Not part) ≡ not (truth rows part)
  unfolding truth roll-Cond roll
  truth-is-Not part = fold-roll-Cond Bool (truth_step rows) (Cond-F.Not part)

  pub truth-is-And : (parts : List Cond) → truth rows (And parts) ≡ list_all (λ b. b) (map (truth rows) parts)
  unfolding truth roll-Cond roll
  truth-is-And parts = fold-roll-Cond Bool (truth_step rows) (Cond-F.And parts)

  pub truth-is-Or : (parts : List Cond) → truth rows (Or parts) ≡ list_any (λ b. b) (map (truth rows) parts)
  unfolding truth roll-Cond roll
  truth-is-Or parts = fold-roll-Cond Bool (truth_step rows) (Cond-F.Or parts)

unfoldable kind_part : Scope → Signed → Option Kind
kind_part scope = fold-Signed (Option Kind) (Option Kind) (kind_step scope) kinds.part_step

module _ (scope : Scope) where
  kind_part-is : (s : Signed) → kind_part scope s ≡ kind scope s.part
  unfolding kind_part kind
  kind_part-is s = fold_out-Signed (Option Kind) (Option Kind) (kind_step scope) kinds.part_step s

  pub kind-Int : (n : ℤ) → kind scope (Int n) ≡ (if nat_le (unsigned_abs n) (10 ^ 15) then Some (kinds.number false) else None)
  unfolding kind roll-Expr roll
  kind-Int n = fold-roll-Expr (Option Kind) (Option Kind) (kind_step scope) kinds.part_step (Expr-F.Int n)

  pub kind-Text : (t : List ℕ) → kind scope (Text t) ≡ Some (record { text = true; unknown = false })
  unfolding kind roll-Expr roll
  kind-Text t = fold-roll-Expr (Option Kind) (Option Kind) (kind_step scope) kinds.part_step (Expr-F.Text t)

  pub kind-Column : (at : At) → kind scope (Column at) ≡ kind_at scope at
  unfolding kind roll-Expr roll
  kind-Column at = fold-roll-Expr (Option Kind) (Option Kind) (kind_step scope) kinds.part_step (Expr-F.Column at)

  kinds_of : (parts : List Signed) → kind scope (Sum parts) ≡ arithmetic (map (kind_part scope) parts)
  unfolding kind kind_part roll-Expr roll
  kinds_of parts = fold-roll-Expr (Option Kind) (Option Kind) (kind_step scope) kinds.part_step (Expr-F.Sum parts)

  pub kind-Sum : (parts : List Signed) → kind scope (Sum parts) ≡ arithmetic (map (λ part. kind scope part.part) parts)
  kind-Sum parts = kinds_of parts ∙ ap arithmetic (same_map (kind_part scope) (λ (part : Signed). kind scope part.part) parts kind_part-is)

  pub kind-Product : (factors : List Expr) → kind scope (Product factors) ≡ multiplied (map (kind scope) factors)
  unfolding kind roll-Expr roll
  kind-Product factors = fold-roll-Expr (Option Kind) (Option Kind) (kind_step scope) kinds.part_step (Expr-F.Product factors)

  pub kind-Neg : (part : Expr) → kind scope (Neg part) ≡ arithmetic (kind scope part ∷ [])
  unfolding kind roll-Expr roll
  kind-Neg part = fold-roll-Expr (Option Kind) (Option Kind) (kind_step scope) kinds.part_step (Expr-F.Neg part)

  pub kind-Abs : (part : Expr) → kind scope (Abs part) ≡ arithmetic (kind scope part ∷ [])
  unfolding kind roll-Expr roll
  kind-Abs part = fold-roll-Expr (Option Kind) (Option Kind) (kind_step scope) kinds.part_step (Expr-F.Abs part)

  pub fit-Compare : (test : Cmp) (one other : Expr) → is_fit scope (Compare test one other) ≡ are_alike (kind scope one) (kind scope other)
  unfolding is_fit roll-Cond roll
  fit-Compare test one other = fold-roll-Cond Bool (fit_step scope) (Cond-F.Compare test one other)

  pub fit-Not : (part : Cond) → is_fit scope (Not part) ≡ is_fit scope part
  unfolding is_fit roll-Cond roll
  fit-Not part = fold-roll-Cond Bool (fit_step scope) (Cond-F.Not part)

  pub fit-And : (parts : List Cond) → is_fit scope (And parts) ≡ list_all (λ fit. fit) (map (is_fit scope) parts)
  unfolding is_fit roll-Cond roll
  fit-And parts = fold-roll-Cond Bool (fit_step scope) (Cond-F.And parts)

  pub fit-Or : (parts : List Cond) → is_fit scope (Or parts) ≡ list_all (λ fit. fit) (map (is_fit scope) parts)
  unfolding is_fit roll-Cond roll
  fit-Or parts = fold-roll-Cond Bool (fit_step scope) (Cond-F.Or parts)

pub ruleset fits = (fit-Compare, fit-Not, fit-And, fit-Or)
