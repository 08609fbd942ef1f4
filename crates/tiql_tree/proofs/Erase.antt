-- what is printed does not hang on places
use Rattle.std.proofs.Common.{◌≡◌, Bool, List, [], ◌∷◌, map, refl, sym, ◌∙◌, ap, subst}
use Rattle.tiql_tree.specs.declared.expression.TreeExpr.{TreeExpr, ind-TreeExpr, roll-TreeExpr}
use Rattle.tiql_tree.specs.declared.expression.TreeSigned.{TreeSigned, roll-TreeSigned}
use Rattle.tiql_tree.specs.declared.expression.TreeForm.{TreeForm}
use Rattle.tiql_tree.specs.declared.expression.TreeForm.TheOpen.{TreeForm-F}
use Rattle.tiql_tree.specs.declared.expression.TreeForm.TheFolds.{map-TreeForm}
use Rattle.tiql_tree.specs.declared.expression.TreeForm.TheViews.{roll-TreeForm}
use denote.Hole.Carrier.{roll}
use Rattle.base_kit.specs.declared.place.Place.{Place}
use Rattle.tiql_tree.specs.declared.condition.TreeCond.{TreeCond}
use Rattle.tiql_tree.specs.declared.condition.TreeCond.TheOpen.{TreeCond-F}
use Rattle.tiql_tree.specs.declared.condition.TreeCond.TheFolds.{ind-TreeCond, map-TreeCond}
use Rattle.tiql_tree.specs.declared.condition.TreeCond.TheViews.{roll-TreeCond}
use Rattle.tiql_tree.specs.Texts.UnitText.{denied, compared}
use Rattle.tiql_tree.specs.Texts.FactorText.{negated, absolute}
use Rattle.tiql_tree.specs.Trees.{expr_at, signed}
use Rattle.tiql_tree.specs.Unplaced.{no_place, expr_only, cond_only}
use Rattle.tiql_tree.specs.Printed.{ExprMade, SignedMade, made_factor, made_term, made_sum, as_expr, as_factor, sum_made, product_made, expr_made, signed_made}
use Rattle.tiql_tree.specs.Printed.{CondMade, made_unit, made_conj, made_cond, as_unit, and_made, or_made, cond_made}
use Rattle.tiql_tree.proofs.Making.{expr_made-is, made-Ref, made-Sum, made-Product, made-Neg, made-Abs, signed_made-is}
use Rattle.tiql_tree.proofs.CondMaking.{made-Compare, made-Not, made-And, made-Or}
use Rattle.tiql_tree.proofs.Neat.{signed_only, signed_only-is, only-Sum, only-Product, only-Neg, only-Abs, only-Number, only-Text, only-Ref, only-place}
use Rattle.tiql_tree.proofs.NeatCond.{only-Compare, only-Not, only-And, only-Or}

abbrev IsSame : TreeExpr → Type 0
IsSame e = expr_made e ≡ expr_made (expr_only e)

abbrev IsSameForm : TreeForm → Type 0
IsSameForm f = IsSame (expr_at no_place f)

abbrev IsSameSigned : TreeSigned → Type 0
IsSameSigned s = signed_made s ≡ signed_made (signed_only s)

abbrev WithForm : Type 0
WithForm = (f : TreeForm) × IsSameForm f

abbrev WithExpr : Type 0
WithExpr = (e : TreeExpr) × IsSame e

abbrev WithSigned : Type 0
WithSigned = (s : TreeSigned) × IsSameSigned s

same_signs : (ys : List WithSigned) → map signed_made (map (λ s. s.0) ys) ≡ map signed_made (map signed_only (map (λ s. s.0) ys))
same_signs [] = refl
same_signs (y ∷ ys) = ap (λ (s : SignedMade). s ∷ map signed_made (map (λ s. s.0) ys)) y.1 ∙ ap (λ (l : List SignedMade). signed_made (signed_only y.0) ∷ l) (same_signs ys)

same_exprs : (ys : List WithExpr) → map expr_made (map (λ e. e.0) ys) ≡ map expr_made (map expr_only (map (λ e. e.0) ys))
same_exprs [] = refl
same_exprs (y ∷ ys) = ap (λ (m : ExprMade). m ∷ map expr_made (map (λ e. e.0) ys)) y.1 ∙ ap (λ (l : List ExprMade). expr_made (expr_only y.0) ∷ l) (same_exprs ys)

form_layer : (y : TreeForm-F WithForm WithExpr WithSigned) → IsSameForm (roll-TreeForm (map-TreeForm WithForm WithExpr WithSigned TreeForm TreeExpr TreeSigned (λ f. f.0) (λ e. e.0) (λ s. s.0) y))
unfolding roll-TreeForm roll
form_layer (TreeForm-F.Number n) = ap expr_made (sym (only-Number no_place n))
form_layer (TreeForm-F.Text t) = ap expr_made (sym (only-Text no_place t))
form_layer (TreeForm-F.Ref r) = made-Ref _ _ refl ∙ sym (ap expr_made (only-Ref no_place r) ∙ made-Ref _ _ refl)
form_layer (TreeForm-F.Sum ys) = made-Sum _ _ refl ∙ ap (λ (l : List SignedMade). made_sum (sum_made l)) (same_signs ys) ∙ sym (ap expr_made (only-Sum no_place _) ∙ made-Sum _ _ refl)
form_layer (TreeForm-F.Product ys) = made-Product _ _ refl ∙ ap (λ (l : List ExprMade). made_term (product_made l)) (same_exprs ys) ∙ sym (ap expr_made (only-Product no_place _) ∙ made-Product _ _ refl)
form_layer (TreeForm-F.Neg y) = made-Neg _ _ refl ∙ ap (λ (m : ExprMade). made_factor (negated (as_factor m))) y.1 ∙ sym (ap expr_made (only-Neg no_place _) ∙ made-Neg _ _ refl)
form_layer (TreeForm-F.Abs y) = made-Abs _ _ refl ∙ ap (λ (m : ExprMade). made_factor (absolute (as_expr m))) y.1 ∙ sym (ap expr_made (only-Abs no_place _) ∙ made-Abs _ _ refl)

at_place : (p : Place) (f : TreeForm) → IsSameForm f → IsSame (expr_at p f)
at_place p f same = expr_made-is _ _ refl ∙ sym (expr_made-is _ _ refl) ∙ same ∙ ap expr_made (only-place no_place p f)

signed_layer : (m : Bool) (e : TreeExpr) → IsSame e → IsSameSigned (signed m e)
signed_layer m e same =
    signed_made-is (signed m e) ∙ ap (λ (x : ExprMade). (m, x)) same ∙ sym (ap signed_made (signed_only-is m e) ∙ signed_made-is (signed m (expr_only e)))

pub same_made : (e : TreeExpr) → expr_made e ≡ expr_made (expr_only e)
same_made = ind-TreeExpr IsSameForm IsSame IsSameSigned
    (λ x y is. subst (λ z. IsSameForm (roll-TreeForm z)) is (form_layer y))
    (λ x y is. subst (λ z. IsSame (roll-TreeExpr z)) is (at_place y.place y.form.0 y.form.1))
    (λ x y is. subst (λ z. IsSameSigned (roll-TreeSigned z)) is (signed_layer y.minus y.part.0 y.part.1))

abbrev IsSameCond : TreeCond → Type 0
IsSameCond c = cond_made c ≡ cond_made (cond_only c)

abbrev WithCond : Type 0
WithCond = (c : TreeCond) × IsSameCond c

same_conds : (ys : List WithCond) → map cond_made (map (λ c. c.0) ys) ≡ map cond_made (map cond_only (map (λ c. c.0) ys))
same_conds [] = refl
same_conds (y ∷ ys) = ap (λ (m : CondMade). m ∷ map cond_made (map (λ c. c.0) ys)) y.1 ∙ ap (λ (l : List CondMade). cond_made (cond_only y.0) ∷ l) (same_conds ys)

cond_layer : (y : TreeCond-F WithCond) → IsSameCond (roll-TreeCond (map-TreeCond WithCond TreeCond (λ c. c.0) y))
unfolding roll-TreeCond roll
cond_layer (TreeCond-F.Compare cmp one other) =
    made-Compare _ cmp one other refl
    ∙ ap (λ (m : ExprMade). made_unit (compared cmp (as_expr m) (as_expr (expr_made other)))) (same_made one)
    ∙ ap (λ (m : ExprMade). made_unit (compared cmp (as_expr (expr_made (expr_only one))) (as_expr m))) (same_made other)
    ∙ sym (made-Compare _ cmp (expr_only one) (expr_only other) (only-Compare cmp one other))
cond_layer (TreeCond-F.Not y) = made-Not _ _ refl ∙ ap (λ (m : CondMade). made_unit (denied (as_unit m))) y.1 ∙ sym (made-Not _ _ (only-Not y.0))
cond_layer (TreeCond-F.And ys) = made-And _ _ refl ∙ ap (λ (l : List CondMade). made_conj (and_made l)) (same_conds ys) ∙ sym (made-And _ _ (only-And (map (λ c. c.0) ys)))
cond_layer (TreeCond-F.Or ys) = made-Or _ _ refl ∙ ap (λ (l : List CondMade). made_cond (or_made l)) (same_conds ys) ∙ sym (made-Or _ _ (only-Or (map (λ c. c.0) ys)))

pub same_cond_made : (c : TreeCond) → cond_made c ≡ cond_made (cond_only c)
same_cond_made = ind-TreeCond IsSameCond (λ x y is. subst (λ z. IsSameCond (roll-TreeCond z)) is (cond_layer y))
