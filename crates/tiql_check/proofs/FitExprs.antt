-- a checked expression has the kind that is told of it, and what a checked condition compares is alike
use Rattle.std.proofs.Common.{◌≡◌, ℤ, ◌^◌, Bool, true, false, ◌||◌, List, [], ◌∷◌, ◌++◌, map, refl, sym, ◌∙◌, ap, subst, unsigned_abs}
use Rattle.std.specs.Prelude.{Some, Ok, Err, nat_le}
use Rattle.std.specs.List.{AllByRecursion}
use Rattle.std.proofs.lemmas.List.{map-append}
use denote.Hole.Carrier.{roll}
use Rattle.base_kit.specs.declared.place.Place.{Place}
use Rattle.tiql_query.specs.declared.expression.Expr.TheVariants as exprs
use Rattle.tiql_query.specs.declared.expression.Expr.TheViews as exprs_of
use Rattle.tiql_query.specs.Kinds as query
use Rattle.tiql_query.specs.Kinds.{kind_at, arithmetic, multiplied, kind, is_fit, are_alike}
use Rattle.tiql_query.proofs.KindFacts.{signed_kind, signed_kind-is, kind-Int, kind-Text, kind-Column, kind-Sum, kind-Product, kind-Neg, kind-Abs, arithmetic-push, multiplied-push}
use Rattle.tiql_tree.specs.declared.expression.TreeRef.{TreeRef}
use Rattle.tiql_tree.specs.declared.expression.TreeExpr.{TreeExpr, ind-TreeExpr, roll-TreeExpr, fold_out-TreeExpr}
use Rattle.tiql_tree.specs.declared.expression.TreeSigned.{TreeSigned, roll-TreeSigned, fold_out-TreeSigned}
use Rattle.tiql_tree.specs.declared.expression.TreeForm.{TreeForm}
use Rattle.tiql_tree.specs.declared.expression.TreeForm.TheOpen.{TreeForm-F}
use Rattle.tiql_tree.specs.declared.expression.TreeForm.TheFolds.{map-TreeForm, fold-roll-TreeForm}
use Rattle.tiql_tree.specs.declared.expression.TreeForm.TheVariants.{Number}
use Rattle.tiql_tree.specs.declared.expression.TreeForm.TheViews.{Sum, Product, Neg, Abs, roll-TreeForm}
use Rattle.tiql_tree.specs.Trees.{expr_at, signed}
use Rattle.tiql_check.specs.declared.fault.SoundFault.TheVariants as fault
use Rattle.tiql_check.specs.declared.scope.Kind.{Kind}
use Rattle.tiql_check.specs.declared.scope.Meant.{Meant}
use Rattle.tiql_check.specs.declared.expression.Typed.{Typed}
use Rattle.tiql_check.specs.declared.expression.Terms.{Terms}
use Rattle.tiql_check.specs.declared.expression.Factors.{Factors}
use Rattle.tiql_check.specs.Turns.{in_turn}
use Rattle.tiql_check.specs.Scopes.{Scope, number, candidates, only_one, meant}
use Rattle.tiql_check.specs.Expressions as checks
use Rattle.tiql_check.specs.Expressions.{Part, SignedPart, as_number, whole_number, add_term, with_term, no_terms, add_factor, with_factor, no_factors, is_second_unknown, negated, absolute, part_in, signed_in, form_in, typed_in, number_in}
use Rattle.tiql_check.specs.Small.{all_true, small_step, small_expr_step, small_signed_step, small_expr, small_signed, small_form}
use Rattle.tiql_check.proofs.Inverse.{came_of, kept, through_seen}
use Rattle.tiql_check.proofs.Forms.{part_in-is, formed-Number, formed-Text, formed-Ref, formed-Sum, formed-Product, formed-Neg, formed-Abs, term-by, factor-by}
use Rattle.tiql_check.proofs.Fit.{cols, as_kind, IsThere, candidates_there}
use Rattle.base_kit.proofs.Results.{same_Ok}

pub small_expr-is : (e : TreeExpr) → small_expr e ≡ small_form e.form
unfolding small_expr small_form
small_expr-is e = fold_out-TreeExpr Bool Bool Bool small_step small_expr_step small_signed_step e

pub small_signed-is : (s : TreeSigned) → small_signed s ≡ small_expr s.part
unfolding small_signed small_expr
small_signed-is s = fold_out-TreeSigned Bool Bool Bool small_step small_expr_step small_signed_step s

pub small-Number : (n : ℤ) → small_form (Number n) ≡ nat_le (unsigned_abs n) (10 ^ 15)
unfolding small_form roll-TreeForm roll
small-Number n = fold-roll-TreeForm Bool Bool Bool small_step small_expr_step small_signed_step (TreeForm-F.Number n)

pub small-Sum : (parts : List TreeSigned) → small_form (Sum parts) ≡ all_true (map small_signed parts)
unfolding small_form small_signed roll-TreeForm roll
small-Sum parts = fold-roll-TreeForm Bool Bool Bool small_step small_expr_step small_signed_step (TreeForm-F.Sum parts)

pub small-Product : (parts : List TreeExpr) → small_form (Product parts) ≡ all_true (map small_expr parts)
unfolding small_form small_expr roll-TreeForm roll
small-Product parts = fold-roll-TreeForm Bool Bool Bool small_step small_expr_step small_signed_step (TreeForm-F.Product parts)

pub small-Neg : (part : TreeExpr) → small_form (Neg part) ≡ small_expr part
unfolding small_form small_expr roll-TreeForm roll
small-Neg part = fold-roll-TreeForm Bool Bool Bool small_step small_expr_step small_signed_step (TreeForm-F.Neg part)

pub small-Abs : (part : TreeExpr) → small_form (Abs part) ≡ small_expr part
unfolding small_form small_expr roll-TreeForm roll
small-Abs part = fold-roll-TreeForm Bool Bool Bool small_step small_expr_step small_signed_step (TreeForm-F.Abs part)

module _ (scope : Scope) where
  -- the expression has the kind that is told
  abbrev pub IsFit : Typed → Type 0
  IsFit typed = kind (cols scope) typed.expr ≡ Some (as_kind typed.kind)

  only_one_there : (place : Place) (ms : List Meant) (m : Meant) → AllByRecursion (IsThere scope) ms → only_one place ms ≡ Ok m → IsThere scope m
  only_one_there place [] m all e = absurd (let h : Err (fault.UnknownName place) ≡ Ok m = e in cc)
  only_one_there place (x ∷ []) m all e = subst (IsThere scope) (same_Ok x m e) all.0
  only_one_there place (x ∷ y ∷ more) m all e = absurd (let h : Err (fault.SameName place) ≡ Ok m = e in cc)

  pub meant_there : (ref : TreeRef) (m : Meant) → meant scope ref ≡ Ok m → IsThere scope m
  unfolding meant
  meant_there ref m e = only_one_there ref.place (candidates ref 0 scope) m (candidates_there ref 0 [] scope refl) e

  FormFit : TreeForm → Type 0
  FormFit f = (typed : Typed) → form_in scope f ≡ Ok typed → small_form f ≡ true → IsFit typed

  ExprFit : TreeExpr → Type 0
  ExprFit e = (typed : Typed) → typed_in scope e ≡ Ok typed → small_expr e ≡ true → IsFit typed

  SignedFit : TreeSigned → Type 0
  SignedFit s = (typed : Typed) → typed_in scope s.part ≡ Ok typed → small_signed s ≡ true → IsFit typed

  -- an operand is a whole number
  operand_came : (e : TreeExpr) (one : Typed) → whole_number (part_in scope e) ≡ Ok one → (typed_in scope e ≡ Ok one) × (one.kind.text ≡ false)
  operand_came e one h =
      let within = came_of (typed_in scope e) (as_number e.place) one (sym (ap whole_number (part_in-is scope e)) ∙ h) in
      let plain = kept ((within.0).kind).text (fault.WrongType e.place) (Ok within.0) one within.2 in
      let same = same_Ok within.0 one plain.1 in
      (within.1 ∙ ap Ok same, subst (λ (t : Typed). t.kind.text ≡ false) same plain.0)

  plain_kind : (k : Kind) → k.text ≡ false → as_kind k ≡ query.number k.unknown
  plain_kind k plain = ap (λ t. record { text = t; unknown = k.unknown }) plain

  abbrev TermsFit : Terms → Type 0
  TermsFit terms = arithmetic (map (signed_kind (cols scope)) terms.parts) ≡ Some (query.number terms.unknown)

  terms_step : (before next : Terms) (s : TreeSigned) → SignedFit s → small_signed s ≡ true → with_term before (signed_in scope s) ≡ Ok next → TermsFit before → TermsFit next
  unfolding SignedFit
  terms_step before next s fit small e p =
      let whole = came_of (whole_number (part_in scope s.part)) (λ term. Ok (add_term before s.minus term)) next (sym (term-by scope before s (whole_number (part_in scope s.part)) refl) ∙ e) in
      let operand = operand_came s.part whole.0 whole.1 in
      let here : kind (cols scope) (whole.0).expr ≡ Some (as_kind (whole.0).kind) = fit whole.0 operand.0 small in
      subst TermsFit (same_Ok (add_term before s.minus whole.0) next whole.2)
      (ap arithmetic (map-append (signed_kind (cols scope)) before.parts (checks.signed s.minus (whole.0).expr ∷ [])
      ∙ ap (λ k. map (signed_kind (cols scope)) before.parts ++ k ∷ []) (signed_kind-is (cols scope) (checks.signed s.minus (whole.0).expr) ∙ here))
      ∙ arithmetic-push (map (signed_kind (cols scope)) before.parts) (query.number before.unknown) (as_kind (whole.0).kind) p operand.1)

  abbrev FactorsFit : Factors → Type 0
  FactorsFit factors = multiplied (map (kind (cols scope)) factors.parts) ≡ Some (query.number factors.unknown)

  factors_step : (before next : Factors) (e : TreeExpr) → ExprFit e → small_expr e ≡ true → with_factor before (part_in scope e) ≡ Ok next → FactorsFit before → FactorsFit next
  unfolding ExprFit
  factors_step before next e fit small h p =
      let whole = came_of (whole_number (part_in scope e)) (add_factor before e.place) next (sym (factor-by scope before e (whole_number (part_in scope e)) refl) ∙ h) in
      let operand = operand_came e whole.0 whole.1 in
      let here : kind (cols scope) (whole.0).expr ≡ Some (as_kind (whole.0).kind) = fit whole.0 operand.0 small in
      let made : Factors = record { parts = before.parts ++ (whole.0).expr ∷ []; unknown = before.unknown || ((whole.0).kind).unknown } in
      let linear = kept (is_second_unknown before whole.0) (fault.NotLinear e.place) (Ok made) next whole.2 in
      subst FactorsFit (same_Ok made next linear.1)
      (ap multiplied (map-append (kind (cols scope)) before.parts ((whole.0).expr ∷ [])
      ∙ ap (λ k. map (kind (cols scope)) before.parts ++ k ∷ []) here)
      ∙ multiplied-push (map (kind (cols scope)) before.parts) (query.number before.unknown) (as_kind (whole.0).kind) p operand.1 linear.0)

  arithmetic-one : (k : Kind) → k.text ≡ false → arithmetic (Some (as_kind k) ∷ []) ≡ Some (query.number k.unknown)
  unfolding arithmetic
  arithmetic-one k plain = arithmetic-push [] (query.number false) (as_kind k) refl plain

  abbrev WithForm : Type 0
  WithForm = (f : TreeForm) × FormFit f

  abbrev WithExpr : Type 0
  WithExpr = (e : TreeExpr) × ExprFit e

  abbrev WithSigned : Type 0
  WithSigned = (s : TreeSigned) × SignedFit s

  form_layer : (y : TreeForm-F WithForm WithExpr WithSigned) → FormFit (roll-TreeForm (map-TreeForm WithForm WithExpr WithSigned TreeForm TreeExpr TreeSigned (λ f. f.0) (λ e. e.0) (λ s. s.0) y))
  unfolding roll-TreeForm roll FormFit ExprFit SignedFit arithmetic multiplied
  form_layer (TreeForm-F.Number n) = λ typed e small.
      subst IsFit (same_Ok _ typed (sym (formed-Number scope n) ∙ e)) (kind-Int (cols scope) n ∙ rw (sym (small-Number n) ∙ small) refl)
  form_layer (TreeForm-F.Text t) = λ typed e small. subst IsFit (same_Ok _ typed (sym (formed-Text scope t) ∙ e)) (kind-Text (cols scope) t)
  form_layer (TreeForm-F.Ref ref) = λ typed e small.
      let it = came_of (meant scope ref) (λ it. Ok (record { expr = exprs.Column it.at; kind = it.kind })) typed (sym (formed-Ref scope ref) ∙ e) in
      subst IsFit (same_Ok _ typed it.2) (kind-Column (cols scope) (it.0).at ∙ meant_there ref it.0 it.1)
  form_layer (TreeForm-F.Sum ys) = λ typed e small.
      let parts : List TreeSigned = map (λ s. s.0) ys in
      let all = came_of (in_turn with_term no_terms (map (signed_in scope) parts)) (λ all. Ok (record { expr = exprs_of.Sum all.parts; kind = number all.unknown })) typed (sym (formed-Sum scope parts) ∙ e) in
      let fits = through_seen with_term (λ (y : WithSigned). y.0) (signed_in scope) small_signed TermsFit (λ before next y test h p. terms_step before next y.0 y.1 test h p) ys no_terms all.0 (sym (small-Sum parts) ∙ small) all.1 refl in
      subst IsFit (same_Ok _ typed all.2) (kind-Sum (cols scope) (all.0).parts ∙ fits)
  form_layer (TreeForm-F.Product ys) = λ typed e small.
      let parts : List TreeExpr = map (λ s. s.0) ys in
      let all = came_of (in_turn with_factor no_factors (map (part_in scope) parts)) (λ all. Ok (record { expr = exprs_of.Product all.parts; kind = number all.unknown })) typed (sym (formed-Product scope parts) ∙ e) in
      let fits = through_seen with_factor (λ (y : WithExpr). y.0) (part_in scope) small_expr FactorsFit (λ before next y test h p. factors_step before next y.0 y.1 test h p) ys no_factors all.0 (sym (small-Product parts) ∙ small) all.1 refl in
      subst IsFit (same_Ok _ typed all.2) (kind-Product (cols scope) (all.0).parts ∙ fits)
  form_layer (TreeForm-F.Neg y) = λ typed e small.
      let one = came_of (whole_number (part_in scope y.0)) (λ one. Ok (negated one)) typed (sym (formed-Neg scope y.0) ∙ e) in
      let operand = operand_came y.0 one.0 one.1 in
      subst IsFit (same_Ok _ typed one.2) (kind-Neg (cols scope) (one.0).expr ∙ ap (λ k. arithmetic (k ∷ [])) (y.1 one.0 operand.0 (sym (small-Neg y.0) ∙ small)) ∙ arithmetic-one (one.0).kind operand.1)
  form_layer (TreeForm-F.Abs y) = λ typed e small.
      let one = came_of (whole_number (part_in scope y.0)) (λ one. Ok (absolute one)) typed (sym (formed-Abs scope y.0) ∙ e) in
      let operand = operand_came y.0 one.0 one.1 in
      subst IsFit (same_Ok _ typed one.2) (kind-Abs (cols scope) (one.0).expr ∙ ap (λ k. arithmetic (k ∷ [])) (y.1 one.0 operand.0 (sym (small-Abs y.0) ∙ small)) ∙ arithmetic-one (one.0).kind operand.1)

  expr_layer : (p : Place) (f : TreeForm) → FormFit f → ExprFit (expr_at p f)
  unfolding FormFit ExprFit typed_in
  expr_layer p f fit = λ typed e small. fit typed e (sym (small_expr-is (expr_at p f)) ∙ small)

  signed_layer : (m : Bool) (e : TreeExpr) → ExprFit e → SignedFit (signed m e)
  unfolding ExprFit SignedFit
  signed_layer m e fit = λ typed h small. fit typed h (sym (small_signed-is (signed m e)) ∙ small)

  all_fit : (e : TreeExpr) → ExprFit e
  all_fit = ind-TreeExpr FormFit ExprFit SignedFit
      (λ x y is. subst (λ z. FormFit (roll-TreeForm z)) is (form_layer y))
      (λ x y is. subst (λ z. ExprFit (roll-TreeExpr z)) is (expr_layer y.place y.form.0 y.form.1))
      (λ x y is. subst (λ z. SignedFit (roll-TreeSigned z)) is (signed_layer y.minus y.part.0 y.part.1))

  pub typed_fit : (e : TreeExpr) (typed : Typed) → typed_in scope e ≡ Ok typed → small_expr e ≡ true → IsFit typed
  unfolding ExprFit
  typed_fit e = all_fit e

  -- and a whole number is one
  pub number_fit : (e : TreeExpr) (typed : Typed) → number_in scope e ≡ Ok typed → small_expr e ≡ true → kind (cols scope) typed.expr ≡ Some (query.number typed.kind.unknown)
  unfolding number_in
  number_fit e typed h small =
      let operand = operand_came e typed (ap whole_number (part_in-is scope e) ∙ h) in
      typed_fit e typed operand.0 small ∙ ap Some (plain_kind typed.kind operand.1)
