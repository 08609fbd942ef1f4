-- what the check of an expression or condition comes to, by its form
use Rattle.std.proofs.Common.{◌≡◌, ◌≢◌, ℕ, ℤ, true, false, List, [], ◌∷◌, ◌++◌, map, refl, sym, ◌∙◌, ap}
use Rattle.std.specs.Prelude.{Result, Ok, Err}
use denote.Hole.Carrier.{roll}
use Rattle.tiql_query.specs.declared.expression.Expr.TheVariants as exprs
use Rattle.tiql_query.specs.declared.expression.Expr.TheViews as exprs_of
use Rattle.tiql_query.specs.declared.condition.Cond.{Cond}
use Rattle.tiql_query.specs.declared.condition.Cond.TheViews as conds
use Rattle.tiql_tree.specs.declared.condition.TreeCmp.{TreeCmp}
use Rattle.tiql_tree.specs.declared.condition.TreeCond.{TreeCond}
use Rattle.tiql_tree.specs.declared.condition.TreeCond.TheOpen.{TreeCond-F}
use Rattle.tiql_tree.specs.declared.condition.TreeCond.TheFolds.{fold-roll-TreeCond}
use Rattle.tiql_tree.specs.declared.condition.TreeCond.TheVariants.{Compare}
use Rattle.tiql_tree.specs.declared.condition.TreeCond.TheViews.{Not, And, Or, roll-TreeCond}
use Rattle.tiql_tree.specs.declared.expression.TreeRef.{TreeRef}
use Rattle.tiql_tree.specs.declared.expression.TreeExpr.{TreeExpr, fold_out-TreeExpr}
use Rattle.tiql_tree.specs.declared.expression.TreeSigned.{TreeSigned, fold_out-TreeSigned}
use Rattle.tiql_tree.specs.declared.expression.TreeForm.{TreeForm}
use Rattle.tiql_tree.specs.declared.expression.TreeForm.TheOpen.{TreeForm-F}
use Rattle.tiql_tree.specs.declared.expression.TreeForm.TheFolds.{fold-roll-TreeForm}
use Rattle.tiql_tree.specs.declared.expression.TreeForm.TheVariants.{Number, Text, Ref}
use Rattle.tiql_tree.specs.declared.expression.TreeForm.TheViews.{Sum, Product, Neg, Abs, roll-TreeForm}
use Rattle.tiql_check.specs.declared.fault.SoundFault.{SoundFault}
use Rattle.tiql_check.specs.declared.fault.SoundFault.TheVariants as fault
use Rattle.tiql_check.specs.declared.expression.Typed.{Typed}
use Rattle.tiql_check.specs.declared.expression.Terms.{Terms}
use Rattle.tiql_check.specs.declared.expression.Factors.{Factors}
use Rattle.tiql_check.specs.Turns.{◌>>=◌, in_turn}
use Rattle.tiql_check.specs.Scopes.{Scope, number}
use Rattle.tiql_check.specs.Expressions.{Part, SignedPart, as_number, whole_number, add_term, with_term, no_terms, add_factor, with_factor, no_factors, named_in, sum_of, product_of, negated, absolute}
use Rattle.tiql_check.specs.Expressions.{form_typed, expr_part, signed_part, part_in, signed_in, form_in, typed_in}
use Rattle.tiql_check.specs.Conditions.{compared, with_part, cond_checked, cond_in}

module _ (scope : Scope) where
  pub part_in-is : (e : TreeExpr) → part_in scope e ≡ record { place = e.place; typed = typed_in scope e }
  unfolding part_in typed_in form_in
  part_in-is e = fold_out-TreeExpr (Result Typed SoundFault) Part SignedPart (form_typed scope) expr_part signed_part e

  pub signed_in-is : (s : TreeSigned) → signed_in scope s ≡ record { minus = s.minus; part = part_in scope s.part }
  unfolding signed_in part_in
  signed_in-is s = fold_out-TreeSigned (Result Typed SoundFault) Part SignedPart (form_typed scope) expr_part signed_part s

  pub formed-Number : (n : ℤ) → form_in scope (Number n) ≡ Ok (record { expr = exprs.Int n; kind = number false })
  unfolding form_in roll-TreeForm roll
  formed-Number n = fold-roll-TreeForm (Result Typed SoundFault) Part SignedPart (form_typed scope) expr_part signed_part (TreeForm-F.Number n)

  pub formed-Text : (t : List ℕ) → form_in scope (Text t) ≡ Ok (record { expr = exprs.Text t; kind = record { text = true; unknown = false } })
  unfolding form_in roll-TreeForm roll
  formed-Text t = fold-roll-TreeForm (Result Typed SoundFault) Part SignedPart (form_typed scope) expr_part signed_part (TreeForm-F.Text t)

  pub formed-Ref : (ref : TreeRef) → form_in scope (Ref ref) ≡ named_in scope ref
  unfolding form_in roll-TreeForm roll
  formed-Ref ref = fold-roll-TreeForm (Result Typed SoundFault) Part SignedPart (form_typed scope) expr_part signed_part (TreeForm-F.Ref ref)

  pub formed-Sum : (parts : List TreeSigned) → form_in scope (Sum parts) ≡ sum_of (map (signed_in scope) parts)
  unfolding form_in signed_in roll-TreeForm roll
  formed-Sum parts = fold-roll-TreeForm (Result Typed SoundFault) Part SignedPart (form_typed scope) expr_part signed_part (TreeForm-F.Sum parts)

  pub formed-Product : (parts : List TreeExpr) → form_in scope (Product parts) ≡ product_of (map (part_in scope) parts)
  unfolding form_in part_in roll-TreeForm roll
  formed-Product parts = fold-roll-TreeForm (Result Typed SoundFault) Part SignedPart (form_typed scope) expr_part signed_part (TreeForm-F.Product parts)

  pub formed-Neg : (part : TreeExpr) → form_in scope (Neg part) ≡ whole_number (part_in scope part) >>= (λ one. Ok (negated one))
  unfolding form_in part_in roll-TreeForm roll
  formed-Neg part = fold-roll-TreeForm (Result Typed SoundFault) Part SignedPart (form_typed scope) expr_part signed_part (TreeForm-F.Neg part)

  pub formed-Abs : (part : TreeExpr) → form_in scope (Abs part) ≡ whole_number (part_in scope part) >>= (λ one. Ok (absolute one))
  unfolding form_in part_in roll-TreeForm roll
  formed-Abs part = fold-roll-TreeForm (Result Typed SoundFault) Part SignedPart (form_typed scope) expr_part signed_part (TreeForm-F.Abs part)

  form-is : (e : TreeExpr) (f : TreeForm) → e.form ≡ f → typed_in scope e ≡ form_in scope f
  unfolding typed_in
  form-is e f is = ap (form_in scope) is

  pub typed-Number : (e : TreeExpr) (n : ℤ) → e.form ≡ Number n → typed_in scope e ≡ Ok (record { expr = exprs.Int n; kind = number false })
  typed-Number e n is = form-is e (Number n) is ∙ formed-Number n

  pub typed-Text : (e : TreeExpr) (t : List ℕ) → e.form ≡ Text t → typed_in scope e ≡ Ok (record { expr = exprs.Text t; kind = record { text = true; unknown = false } })
  typed-Text e t is = form-is e (Text t) is ∙ formed-Text t

  pub typed-Ref : (e : TreeExpr) (ref : TreeRef) → e.form ≡ Ref ref → typed_in scope e ≡ named_in scope ref
  typed-Ref e ref is = form-is e (Ref ref) is ∙ formed-Ref ref

  pub typed-Sum : (e : TreeExpr) (parts : List TreeSigned) → e.form ≡ Sum parts → typed_in scope e ≡ sum_of (map (signed_in scope) parts)
  typed-Sum e parts is = form-is e (Sum parts) is ∙ formed-Sum parts

  pub typed-Product : (e : TreeExpr) (parts : List TreeExpr) → e.form ≡ Product parts → typed_in scope e ≡ product_of (map (part_in scope) parts)
  typed-Product e parts is = form-is e (Product parts) is ∙ formed-Product parts

  typed-Neg : (e part : TreeExpr) → e.form ≡ Neg part → typed_in scope e ≡ whole_number (part_in scope part) >>= (λ one. Ok (negated one))
  typed-Neg e part is = form-is e (Neg part) is ∙ formed-Neg part

  typed-Abs : (e part : TreeExpr) → e.form ≡ Abs part → typed_in scope e ≡ whole_number (part_in scope part) >>= (λ one. Ok (absolute one))
  typed-Abs e part is = form-is e (Abs part) is ∙ formed-Abs part

  pub sum-Ok : (e : TreeExpr) (parts shown : List TreeSigned) (all : Terms) → e.form ≡ Sum parts → shown ≡ parts → in_turn with_term no_terms (map (signed_in scope) shown) ≡ Ok all → typed_in scope e ≡ Ok (record { expr = exprs_of.Sum all.parts; kind = number all.unknown })
  sum-Ok e parts shown all is same gives = typed-Sum e parts is ∙ rw (← same, gives) refl

  pub sum-Err : (e : TreeExpr) (parts shown : List TreeSigned) (w : SoundFault) → e.form ≡ Sum parts → shown ≡ parts → (w ≢ fault.Memory → in_turn with_term no_terms (map (signed_in scope) shown) ≡ Err w) → w ≢ fault.Memory → typed_in scope e ≡ Err w
  sum-Err e parts shown w is same gives ne = typed-Sum e parts is ∙ rw (← same, gives ne) refl

  pub product-Ok : (e : TreeExpr) (parts shown : List TreeExpr) (all : Factors) → e.form ≡ Product parts → shown ≡ parts → in_turn with_factor no_factors (map (part_in scope) shown) ≡ Ok all → typed_in scope e ≡ Ok (record { expr = exprs_of.Product all.parts; kind = number all.unknown })
  product-Ok e parts shown all is same gives = typed-Product e parts is ∙ rw (← same, gives) refl

  pub product-Err : (e : TreeExpr) (parts shown : List TreeExpr) (w : SoundFault) → e.form ≡ Product parts → shown ≡ parts → (w ≢ fault.Memory → in_turn with_factor no_factors (map (part_in scope) shown) ≡ Err w) → w ≢ fault.Memory → typed_in scope e ≡ Err w
  product-Err e parts shown w is same gives ne = typed-Product e parts is ∙ rw (← same, gives ne) refl

  -- an operand: it breaks a rule within, or it is judged as a whole number
  operand-Err : (e : TreeExpr) (w : SoundFault) → typed_in scope e ≡ Err w → whole_number (part_in scope e) ≡ Err w
  operand-Err e w is = ap whole_number (part_in-is e) ∙ rw is refl

  operand-Ok : (e : TreeExpr) (typed : Typed) (r : Result Typed SoundFault) → typed_in scope e ≡ Ok typed → r ≡ as_number e.place typed → whole_number (part_in scope e) ≡ r
  operand-Ok e typed r is same = ap whole_number (part_in-is e) ∙ rw is (sym same)

  pub neg-Ok : (e part shown : TreeExpr) (typed one : Typed) → e.form ≡ Neg part → shown ≡ part → typed_in scope shown ≡ Ok typed → Ok one ≡ as_number shown.place typed → typed_in scope e ≡ Ok (negated one)
  neg-Ok e part shown typed one is same gives whole = typed-Neg e part is ∙ ap (λ p. whole_number (part_in scope p) >>= (λ one. Ok (negated one))) (sym same) ∙ ap (λ r. r >>= (λ one. Ok (negated one))) (operand-Ok shown typed (Ok one) gives whole)

  pub neg-Err : (e part shown : TreeExpr) (w : SoundFault) → e.form ≡ Neg part → shown ≡ part → (w ≢ fault.Memory → typed_in scope shown ≡ Err w) → w ≢ fault.Memory → typed_in scope e ≡ Err w
  neg-Err e part shown w is same gives ne = typed-Neg e part is ∙ ap (λ p. whole_number (part_in scope p) >>= (λ one. Ok (negated one))) (sym same) ∙ ap (λ r. r >>= (λ one. Ok (negated one))) (operand-Err shown w (gives ne))

  pub neg-Text : (e part shown : TreeExpr) (typed : Typed) (w : SoundFault) → e.form ≡ Neg part → shown ≡ part → typed_in scope shown ≡ Ok typed → Err w ≡ as_number shown.place typed → typed_in scope e ≡ Err w
  neg-Text e part shown typed w is same gives whole = typed-Neg e part is ∙ ap (λ p. whole_number (part_in scope p) >>= (λ one. Ok (negated one))) (sym same) ∙ ap (λ r. r >>= (λ one. Ok (negated one))) (operand-Ok shown typed (Err w) gives whole)

  pub abs-Ok : (e part shown : TreeExpr) (typed one : Typed) → e.form ≡ Abs part → shown ≡ part → typed_in scope shown ≡ Ok typed → Ok one ≡ as_number shown.place typed → typed_in scope e ≡ Ok (absolute one)
  abs-Ok e part shown typed one is same gives whole = typed-Abs e part is ∙ ap (λ p. whole_number (part_in scope p) >>= (λ one. Ok (absolute one))) (sym same) ∙ ap (λ r. r >>= (λ one. Ok (absolute one))) (operand-Ok shown typed (Ok one) gives whole)

  pub abs-Err : (e part shown : TreeExpr) (w : SoundFault) → e.form ≡ Abs part → shown ≡ part → (w ≢ fault.Memory → typed_in scope shown ≡ Err w) → w ≢ fault.Memory → typed_in scope e ≡ Err w
  abs-Err e part shown w is same gives ne = typed-Abs e part is ∙ ap (λ p. whole_number (part_in scope p) >>= (λ one. Ok (absolute one))) (sym same) ∙ ap (λ r. r >>= (λ one. Ok (absolute one))) (operand-Err shown w (gives ne))

  pub abs-Text : (e part shown : TreeExpr) (typed : Typed) (w : SoundFault) → e.form ≡ Abs part → shown ≡ part → typed_in scope shown ≡ Ok typed → Err w ≡ as_number shown.place typed → typed_in scope e ≡ Err w
  abs-Text e part shown typed w is same gives whole = typed-Abs e part is ∙ ap (λ p. whole_number (part_in scope p) >>= (λ one. Ok (absolute one))) (sym same) ∙ ap (λ r. r >>= (λ one. Ok (absolute one))) (operand-Ok shown typed (Err w) gives whole)

  -- a part of a sum
  pub term-by : (before : Terms) (s : TreeSigned) (r : Result Typed SoundFault) → whole_number (part_in scope s.part) ≡ r → with_term before (signed_in scope s) ≡ r >>= (λ term. Ok (add_term before s.minus term))
  term-by before s r whole = ap (with_term before) (signed_in-is s) ∙ ap (λ r. r >>= (λ term. Ok (add_term before s.minus term))) whole

  pub term-Ok : (before next : Terms) (s : TreeSigned) (typed one : Typed) → typed_in scope s.part ≡ Ok typed → Ok one ≡ as_number s.part.place typed → ◌≡◌ {A = Result Terms SoundFault} (Ok (add_term before s.minus one)) (Ok next) → with_term before (signed_in scope s) ≡ Ok next
  term-Ok before next s typed one gives whole e = term-by before s (Ok one) (operand-Ok s.part typed (Ok one) gives whole) ∙ e

  pub term-Err : (before : Terms) (s : TreeSigned) (w : SoundFault) → (w ≢ fault.Memory → typed_in scope s.part ≡ Err w) → w ≢ fault.Memory → with_term before (signed_in scope s) ≡ Err w
  term-Err before s w gives ne = term-by before s (Err w) (operand-Err s.part w (gives ne))

  pub term-Text : (before : Terms) (s : TreeSigned) (typed : Typed) (w : SoundFault) → typed_in scope s.part ≡ Ok typed → Err w ≡ as_number s.part.place typed → w ≢ fault.Memory → with_term before (signed_in scope s) ≡ Err w
  term-Text before s typed w gives whole ne = term-by before s (Err w) (operand-Ok s.part typed (Err w) gives whole)

  -- a factor of a product
  pub factor-by : (before : Factors) (e : TreeExpr) (r : Result Typed SoundFault) → whole_number (part_in scope e) ≡ r → with_factor before (part_in scope e) ≡ r >>= add_factor before e.place
  factor-by before e r whole = ap (λ w. w >>= add_factor before (part_in scope e).place) whole ∙ ap (λ p. r >>= add_factor before p) (ap (λ (part : Part). part.place) (part_in-is e))

  pub factor-Ok : (before next : Factors) (e : TreeExpr) (typed one : Typed) → typed_in scope e ≡ Ok typed → Ok one ≡ as_number e.place typed → add_factor before e.place one ≡ Ok next → with_factor before (part_in scope e) ≡ Ok next
  factor-Ok before next e typed one gives whole same = factor-by before e (Ok one) (operand-Ok e typed (Ok one) gives whole) ∙ same

  pub factor-Err : (before : Factors) (e : TreeExpr) (w : SoundFault) → (w ≢ fault.Memory → typed_in scope e ≡ Err w) → w ≢ fault.Memory → with_factor before (part_in scope e) ≡ Err w
  factor-Err before e w gives ne = factor-by before e (Err w) (operand-Err e w (gives ne))

  pub factor-Text : (before : Factors) (e : TreeExpr) (typed : Typed) (w : SoundFault) → typed_in scope e ≡ Ok typed → Err w ≡ as_number e.place typed → w ≢ fault.Memory → with_factor before (part_in scope e) ≡ Err w
  factor-Text before e typed w gives whole ne = factor-by before e (Err w) (operand-Ok e typed (Err w) gives whole)

  pub factor-Unknown : (before : Factors) (e : TreeExpr) (typed one : Typed) (w : SoundFault) → typed_in scope e ≡ Ok typed → Ok one ≡ as_number e.place typed → (w ≢ fault.Memory → add_factor before e.place one ≡ Err w) → w ≢ fault.Memory → with_factor before (part_in scope e) ≡ Err w
  factor-Unknown before e typed one w gives whole same ne = factor-by before e (Ok one) (operand-Ok e typed (Ok one) gives whole) ∙ same ne

  -- conditions
  pub cond-Compare : (c : TreeCond) (cmp : TreeCmp) (one other : TreeExpr) → c ≡ Compare cmp one other → cond_in scope c ≡ compared scope cmp one other
  unfolding cond_in roll-TreeCond roll
  cond-Compare c cmp one other is = ap (cond_in scope) is ∙ fold-roll-TreeCond (Result Cond SoundFault) (cond_checked scope) (TreeCond-F.Compare cmp one other)

  pub cond-Not : (c part : TreeCond) → c ≡ Not part → cond_in scope c ≡ cond_in scope part >>= (λ cond. Ok (conds.Not cond))
  unfolding cond_in roll-TreeCond roll
  cond-Not c part is = ap (cond_in scope) is ∙ fold-roll-TreeCond (Result Cond SoundFault) (cond_checked scope) (TreeCond-F.Not part)

  pub cond-And : (c : TreeCond) (parts : List TreeCond) → c ≡ And parts → cond_in scope c ≡ in_turn with_part [] (map (cond_in scope) parts) >>= (λ all. Ok (conds.And all))
  unfolding cond_in roll-TreeCond roll
  cond-And c parts is = ap (cond_in scope) is ∙ fold-roll-TreeCond (Result Cond SoundFault) (cond_checked scope) (TreeCond-F.And parts)

  pub cond-Or : (c : TreeCond) (parts : List TreeCond) → c ≡ Or parts → cond_in scope c ≡ in_turn with_part [] (map (cond_in scope) parts) >>= (λ all. Ok (conds.Or all))
  unfolding cond_in roll-TreeCond roll
  cond-Or c parts is = ap (cond_in scope) is ∙ fold-roll-TreeCond (Result Cond SoundFault) (cond_checked scope) (TreeCond-F.Or parts)

  pub not-Ok : (c part shown : TreeCond) (cond : Cond) → c ≡ Not part → shown ≡ part → cond_in scope shown ≡ Ok cond → cond_in scope c ≡ Ok (conds.Not cond)
  not-Ok c part shown cond is same gives = cond-Not c part is ∙ rw (← same, gives) refl

  pub not-Err : (c part shown : TreeCond) (w : SoundFault) → c ≡ Not part → shown ≡ part → (w ≢ fault.Memory → cond_in scope shown ≡ Err w) → w ≢ fault.Memory → cond_in scope c ≡ Err w
  not-Err c part shown w is same gives ne = cond-Not c part is ∙ rw (← same, gives ne) refl

  pub and-Ok : (c : TreeCond) (parts shown : List TreeCond) (all : List Cond) → c ≡ And parts → shown ≡ parts → in_turn with_part [] (map (cond_in scope) shown) ≡ Ok all → cond_in scope c ≡ Ok (conds.And all)
  and-Ok c parts shown all is same gives = cond-And c parts is ∙ rw (← same, gives) refl

  pub and-Err : (c : TreeCond) (parts shown : List TreeCond) (w : SoundFault) → c ≡ And parts → shown ≡ parts → (w ≢ fault.Memory → in_turn with_part [] (map (cond_in scope) shown) ≡ Err w) → w ≢ fault.Memory → cond_in scope c ≡ Err w
  and-Err c parts shown w is same gives ne = cond-And c parts is ∙ rw (← same, gives ne) refl

  pub or-Ok : (c : TreeCond) (parts shown : List TreeCond) (all : List Cond) → c ≡ Or parts → shown ≡ parts → in_turn with_part [] (map (cond_in scope) shown) ≡ Ok all → cond_in scope c ≡ Ok (conds.Or all)
  or-Ok c parts shown all is same gives = cond-Or c parts is ∙ rw (← same, gives) refl

  pub or-Err : (c : TreeCond) (parts shown : List TreeCond) (w : SoundFault) → c ≡ Or parts → shown ≡ parts → (w ≢ fault.Memory → in_turn with_part [] (map (cond_in scope) shown) ≡ Err w) → w ≢ fault.Memory → cond_in scope c ≡ Err w
  or-Err c parts shown w is same gives ne = cond-Or c parts is ∙ rw (← same, gives ne) refl

-- a part of a condition
pub part-Ok : (before next : List Cond) (r : Result Cond SoundFault) (cond : Cond) → r ≡ Ok cond → next ≡ before ++ cond ∷ [] → with_part before r ≡ Ok next
part-Ok before next r cond gives e = ap (with_part before) gives ∙ ap Ok (sym e)

pub part-Err : (before : List Cond) (r : Result Cond SoundFault) (w : SoundFault) → (w ≢ fault.Memory → r ≡ Err w) → w ≢ fault.Memory → with_part before r ≡ Err w
part-Err before r w gives ne = ap (with_part before) (gives ne)
